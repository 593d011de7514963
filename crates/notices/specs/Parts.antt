-- The parts of an allocation: three bytes each, a payer and its thousandths.
use Rattle.std.specs.Prelude.{◌≡◌, ℕ, ◌+◌, ◌*◌, ◌/◌, ◌<◌, cond, List, ◌∷◌, map, length, Some, None, Option, nat_lt, slice_index}
use Rattle.std.specs.List.{flat_map, AllByRecursion, slice_get}
use Rattle.std.specs.Simd.{first_chunks}
use Rattle.files.specs.Numbers.{two, two_at}
use Rattle.notices.specs.declared.part.Part.{Part}

-- The bytes of a part.
abbrev pub part_bytes : Part → List ℕ
part_bytes p = p.payer ∷ two p.thousandths

-- How many parts a stretch of bytes holds.
abbrev pub count_of : List ℕ → ℕ
count_of stretch = length stretch / 3

-- The part of three bytes.
abbrev pub part_from : List ℕ → Part
part_from bytes = record { payer = slice_index bytes 0; thousandths = two_at bytes 1 }

-- The parts of a stretch, in their order.
abbrev pub parts_of : List ℕ → List Part
parts_of stretch = map part_from (first_chunks 3 (count_of stretch) stretch)

-- The part at a place, from 0, where there is one.
abbrev pub part_of : List ℕ → ℕ → Option Part
part_of stretch i =
    cond (nat_lt i (count_of stretch))
    (Some (record { payer = slice_index stretch (3 * i); thousandths = two_at stretch (3 * i + 1) }))
    None

-- A stretch of parts, one after another.
abbrev pub Stretch : List ℕ → List Part → Type 0
Stretch stretch parts = AllByRecursion (λ p. p.thousandths < 65536) parts × (stretch ≡ flat_map part_bytes parts)

-- As many parts are counted as were written.
abbrev pub CountsParts : List ℕ → ℕ → Type 0
CountsParts stretch r = (parts : List Part) → Stretch stretch parts → r ≡ length parts

-- The part that was written at the place is shown there, and none past the last.
abbrev pub ShowsParts : List ℕ → ℕ → Option Part → Type 0
ShowsParts stretch i r = (parts : List Part) → Stretch stretch parts → r ≡ slice_get parts i
