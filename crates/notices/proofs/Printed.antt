-- How the parts of an allocation are printed, one after another.
use Rattle.std.proofs.Common.{◌≡◌, ℕ, ◌+◌, ◌<◌, List, [], ◌∷◌, ◌++◌, Some, take, codes, sym, ap, ◌∙◌, append-nil}
use Rattle.std.proofs.lemmas.List.{append_assoc}
use Rattle.std.proofs.lemmas.Grind.{flat_map-append}
use Rattle.notices.specs.declared.part.Part.{Part}
use Rattle.notices.specs.Parts.{count_of, parts_of, part_of}
use Rattle.notices.specs.Texts.{part_text, parts_text}
use Rattle.notices.proofs.Stretches.{parts_next}

-- The text of one part more.
pub printed_next : (front stretch : List ℕ) (i : ℕ) (p : Part) → i < count_of stretch → Some p ≡ part_of stretch i
    → front ++ parts_text (take i (parts_of stretch)) ++ (codes " " ++ part_text p) ≡ front ++ parts_text (take (i + 1) (parts_of stretch))
printed_next front stretch i p l e =
    let xs = take i (parts_of stretch) in
    let line : Part → List ℕ = λ part. codes " " ++ part_text part in
    let more : parts_text (take (i + 1) (parts_of stretch)) ≡ parts_text xs ++ (codes " " ++ part_text p) =
    ap parts_text (parts_next stretch i p l e) ∙ flat_map-append line xs (p ∷ []) ∙ ap (λ (t : List ℕ). parts_text xs ++ t) (append-nil (line p)) in
    append_assoc front (parts_text xs) (line p) ∙ ap (λ (t : List ℕ). front ++ t) (sym more)
