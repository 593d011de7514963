-- Notices and parts as they are printed.
use Rattle.std.specs.Prelude.{ℕ, List, ◌++◌, codes}
use Rattle.std.specs.Fmt.{decimal}
use Rattle.std.specs.List.{flat_map}
use Rattle.notices.specs.declared.notice.Notice.{Notice}
use Rattle.notices.specs.declared.notice.Notice.TheVariants.{Connect, Appoint, Nominate, Allocate, Cost}
use Rattle.notices.specs.declared.part.Part.{Part}
use Rattle.notices.specs.Parts.{parts_of}

-- A part, as `3:500`.
abbrev pub part_text : Part → List ℕ
part_text part = decimal part.payer ++ codes ":" ++ decimal part.thousandths

-- Parts, each with a space before it.
abbrev pub parts_text : List Part → List ℕ
parts_text parts = flat_map (λ part. codes " " ++ part_text part) parts

-- A notice, as `connect 3 7`.
abbrev pub text_of : Notice → List ℕ
text_of (Connect point user) = codes "connect " ++ decimal point ++ codes " " ++ decimal user
text_of (Appoint sender point nominator) = codes "appoint " ++ decimal sender ++ codes " " ++ decimal point ++ codes " " ++ decimal nominator
text_of (Nominate sender point nominee) = codes "nominate " ++ decimal sender ++ codes " " ++ decimal point ++ codes " " ++ decimal nominee
text_of (Allocate party parts) = codes "allocate " ++ decimal party ++ parts_text (parts_of parts.now)
text_of (Cost provider cents) = codes "cost " ++ decimal provider ++ codes " " ++ decimal cents
