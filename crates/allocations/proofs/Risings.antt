-- The payers of parts, one after another.
use Rattle.std.proofs.Common.{◌≡◌, ℕ, ◌+◌, ◌-◌, ◌<◌, Bool, true, false, ltb, sym, List, length, get_or, ap, ◌∙◌, arith}
use Rattle.std.proofs.lemmas.Bool.{lt-ltb}
use Rattle.std.specs.List.{IsAllAdjacentAnswer}
use Rattle.allocations.specs.declared.parts.Part.{Part}
use Rattle.allocations.specs.Parts.{listed, payer_at, rising, all_below}
use Rattle.allocations.proofs.Belows.{below_more, below_all, below_no}
use Rattle.allocations.proofs.Listed.{no_part, payer_is, listed_long}

pub rises : (parts : List Part) (i : ℕ) → i < length parts - 1 → ltb (payer_at (listed parts) i) (payer_at (listed parts) (i + 1)) ≡ ltb (get_or parts i no_part).payer (get_or parts (i + 1) no_part).payer
rises parts i h =
    ap (λ x. ltb x (payer_at (listed parts) (i + 1))) (payer_is parts i (omega arith)) ∙ ap (ltb (get_or parts i no_part).payer) (payer_is parts (i + 1) (omega arith))

pub rising_more : (parts : List Part) (i : ℕ) → i < length parts - 1 → all_below (λ i. ltb (payer_at (listed parts) i) (payer_at (listed parts) (i + 1))) i ≡ true → (get_or parts i no_part).payer < (get_or parts (i + 1) no_part).payer → all_below (λ i. ltb (payer_at (listed parts) i) (payer_at (listed parts) (i + 1))) (i + 1) ≡ true
rising_more parts i h a lt =
    below_more (λ i. ltb (payer_at (listed parts) i) (payer_at (listed parts) (i + 1))) i a (rises parts i h ∙ lt-ltb _ _ lt)

-- what a test of each part and the next answers
pub rising_answer : (parts : List Part) (r : Bool) → IsAllAdjacentAnswer (λ x y b. b ≡ ltb x.payer y.payer) parts r → r ≡ rising (listed parts)
rising_answer parts true h =
    sym (below_all (λ i. ltb (payer_at (listed parts) i) (payer_at (listed parts) (i + 1))) (length (listed parts) - 1) (λ k lt. rises parts k (omega (arith, listed_long parts)) ∙ sym (h k no_part (omega (arith, listed_long parts)))))
rising_answer parts false h =
    sym (below_no (λ i. ltb (payer_at (listed parts) i) (payer_at (listed parts) (i + 1))) (length (listed parts) - 1) h.0 (let k = h.1 in omega (arith, listed_long parts)) (rises parts h.0 (let k = h.1 in omega arith) ∙ sym (h.2 no_part)))
