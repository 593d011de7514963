-- A stretch of parts, part by part.
use Rattle.std.proofs.Common.{◌≡◌, ℕ, zero, suc, ◌+◌, ◌*◌, ◌/◌, ◌%◌, ◌<◌, ltb, List, [], ◌∷◌, length, get_or, ◌++◌, take, drop, Some, None, sym, refl, ap, ◌∙◌, inl, inr, add-zero, add_assoc, arith, rules}
use Rattle.std.specs.List.{flat_map, AllByRecursion, slice_get}
use Rattle.std.specs.Simd.{first_chunks}
use Rattle.std.proofs.lemmas.List.{get_or-drop, get_or-take, get_or-map, length-map, take_all}
use Rattle.std.proofs.Math.Seq.{take-suc}
use Rattle.std.proofs.lemmas.Option.{slice_get_past}
use Rattle.std.proofs.lemmas.Bool.{cases_lt, cond-false, cond-true, le-ltb, lt-ltb}
use Rattle.files.specs.Numbers.{two_at}
use Rattle.files.proofs.Bytes.{two_value}
use Rattle.files.proofs.Pieces.{piece_at, length-first_chunks}
use Rattle.notices.specs.declared.part.Part.{Part}
use Rattle.notices.specs.Parts.{part_bytes, count_of, part_from, parts_of, part_of, Stretch}

-- Three bytes for each part.
length-parts : (ps : List Part) → length (flat_map part_bytes ps) ≡ 3 * length ps
length-parts [] = refl
length-parts (p ∷ ps) = omega (arith, length-parts ps)

pub counted : (stretch : List ℕ) (ps : List Part) → Stretch stretch ps → count_of stretch ≡ length ps
counted stretch ps h =
    let e : length stretch ≡ 3 * length ps = ap length h.1 ∙ length-parts ps in
    omega arith

-- The place of one more part.
next : (bs : List ℕ) (a b c i k : ℕ) → get_or (a ∷ b ∷ c ∷ bs) (3 * suc i + k) 0 ≡ get_or bs (3 * i + k) 0
next bs a b c i k =
    let e : 3 * suc i + k ≡ suc (suc (suc (3 * i + k))) = omega arith in
    ap (λ j. get_or (a ∷ b ∷ c ∷ bs) j 0) e

abbrev held : List ℕ → ℕ → Part
held stretch i = record { payer = get_or stretch (3 * i) 0; thousandths = two_at stretch (3 * i + 1) }

held_is : (ps : List Part) (i : ℕ) → i < length ps → AllByRecursion (λ p. p.thousandths < 65536) ps → Some (held (flat_map part_bytes ps) i) ≡ slice_get ps i
held_is [] i l h = absurd (omega arith)
held_is (p ∷ ps) zero l h = ap (λ t. Some (record { payer = p.payer; thousandths = t })) (two_value p.thousandths h.0)
held_is (p ∷ ps) (suc i) l h =
    let bs = flat_map part_bytes ps in
    let a = p.payer in
    let b = p.thousandths % 256 in
    let c = p.thousandths / 256 % 256 in
    let payer : get_or (a ∷ b ∷ c ∷ bs) (3 * suc i) 0 ≡ get_or bs (3 * i) 0 = simp add-zero at (next bs a b c i 0) in
    let high : get_or (a ∷ b ∷ c ∷ bs) (3 * suc i + 1 + 1) 0 ≡ get_or bs (3 * i + 1 + 1) 0 = simp add_assoc (next bs a b c i 2) in
    let both : two_at (a ∷ b ∷ c ∷ bs) (3 * suc i + 1) ≡ two_at bs (3 * i + 1) = omega (arith, next bs a b c i 1) in
    ap (λ n. Some (record { payer = n; thousandths = two_at (a ∷ b ∷ c ∷ bs) (3 * suc i + 1) })) payer
    ∙ ap (λ n. Some (record { payer = get_or bs (3 * i) 0; thousandths = n })) both
    ∙ held_is ps i (omega arith) h.1

pub shown : (stretch : List ℕ) (i : ℕ) (ps : List Part) → Stretch stretch ps → part_of stretch i ≡ slice_get ps i
shown stretch i ps h =
    let n = counted stretch ps h in
    elim (cases_lt i (length ps)) [
      | inl l ↦
          cond-true (ltb i (count_of stretch)) (Some (held stretch i)) None (lt-ltb i (count_of stretch) (omega arith))
          ∙ ap (λ s. Some (held s i)) h.1 ∙ held_is ps i l h.0
      | inr l ↦
          cond-false (ltb i (count_of stretch)) (Some (held stretch i)) None (le-ltb i (count_of stretch) (omega arith))
          ∙ sym (slice_get_past ps i l)
    ]

-- The three bytes at a place are those of the part at that place.
pub part_in_chunk : (stretch : List ℕ) (i : ℕ) (chunk : List ℕ) → i < count_of stretch
    → chunk ≡ get_or (first_chunks 3 (count_of stretch) stretch) i chunk
    → Some (part_from chunk) ≡ part_of stretch i
part_in_chunk stretch i chunk l e =
    let byte : (j : ℕ) → j < 3 → get_or chunk j 0 ≡ get_or stretch (3 * i + j) 0 =
    λ j h.
    let at : i * 3 + j ≡ 3 * i + j = omega arith in
    ap (λ xs. get_or xs j 0) (e ∙ piece_at 3 (count_of stretch) stretch i chunk l)
    ∙ get_or-take 3 (drop (i * 3) stretch) j 0 h ∙ get_or-drop (i * 3) stretch j 0 ∙ ap (λ n. get_or stretch n 0) at in
    simp (byte 0 (omega arith), byte 1 (omega arith), byte 2 (omega arith), lt-ltb _ _ l, add-zero, add_assoc) refl

-- The parts up to a place, and the part at that place.
pub parts_next : (stretch : List ℕ) (i : ℕ) (p : Part) → i < count_of stretch → Some p ≡ part_of stretch i
    → take (i + 1) (parts_of stretch) ≡ take i (parts_of stretch) ++ (p ∷ [])
parts_next stretch i p l e =
    let n = count_of stretch in
    let chunks = first_chunks 3 n stretch in
    let chunk = take 3 (drop (i * 3) stretch) in
    let many = length-first_chunks 3 n stretch in
    let size = length-map chunks part_from in
    let here : Some (part_from chunk) ≡ Some p = part_in_chunk stretch i chunk l (sym (piece_at 3 n stretch i chunk l)) ∙ sym e in
    let is : get_or (parts_of stretch) i p ≡ p =
    get_or-map part_from chunks i chunk p (omega arith) ∙ ap part_from (piece_at 3 n stretch i chunk l) ∙ search (rules, here) in
    let more : i + 1 ≡ suc i = omega arith in
    ap (λ j. take j (parts_of stretch)) more ∙ take-suc (parts_of stretch) i p (omega arith) ∙ ap (λ (x : Part). take i (parts_of stretch) ++ (x ∷ [])) is

pub all_parts : (stretch : List ℕ) → take (count_of stretch) (parts_of stretch) ≡ parts_of stretch
all_parts stretch =
    let many = length-first_chunks 3 (count_of stretch) stretch in
    let size = length-map (first_chunks 3 (count_of stretch) stretch) part_from in
    take_all (count_of stretch) (parts_of stretch) (omega arith)
