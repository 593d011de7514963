-- Heads are weights too.
use Rattle.std.specs.Prelude.{◌≡◌, ℕ, ◌≤◌, min, true, List, [], ◌∷◌, length, sum}
use Rattle.std.proofs.Common.{sym, ap, ◌∙◌, arith}
use Rattle.std.proofs.lemmas.List.{length-map, get_or-map}
use Rattle.std.proofs.lemmas.List.Sums.{sum_by-cons}
use Rattle.std.proofs.lemmas.Bool.{cond-true}
use Rattle.std.proofs.lemmas.Bool.Decides.{nat_tests}
use Rattle.sharing.specs.Domain.{domain, accepts, answer, placed, OneEach, AddsUp, NoneForNone}
use Rattle.sharing.specs.Heads.{heads, by_heads}
use Rattle.sharing.specs.Weights.{by_weight}
use Rattle.sharing.specs.Parts.{weight_each, weight_all, weight_none}

pub length-heads : (weights : List ℕ) → length (heads weights) ≡ length weights
length-heads weights = length-map weights (λ w. min w 1)

sum-heads : (weights : List ℕ) → (sum (heads weights) ≤ length weights) × (min (sum weights) 1 ≤ sum (heads weights))
sum-heads [] = (omega arith, omega arith)
sum-heads (w ∷ ws) =
    let rest = sum-heads ws in
    let a = sum_by-cons (λ x. x) w ws in
    let b = sum_by-cons (λ x. x) (min w 1) (heads ws) in
    (omega arith, omega arith)

pub heads_domain : (amount : ℕ) (weights : List ℕ) → domain amount weights ≡ true → domain amount (heads weights) ≡ true
heads_domain amount weights h =
    let long = length-heads weights in
    let sums = sum-heads weights in
    grind (arith, nat_tests)

pub heads_accepts : (amount : ℕ) (weights : List ℕ) (n : ℕ) → accepts amount weights n ≡ true → accepts amount (heads weights) n ≡ true
heads_accepts amount weights n h =
    let long = length-heads weights in
    let sums = sum-heads weights in
    grind (arith, nat_tests)

pub heads_each : OneEach by_heads
heads_each amount weights h = weight_each amount (heads weights) (heads_domain amount weights h) ∙ length-heads weights

pub heads_all : AddsUp by_heads
heads_all amount weights h = weight_all amount (heads weights) (heads_domain amount weights h)

pub heads_none : NoneForNone by_heads
heads_none amount weights i h lt none =
    let long = length-heads weights in
    weight_none amount (heads weights) i (heads_domain amount weights h) (omega arith)
    (get_or-map (λ w. min w 1) weights i 0 0 lt ∙ ap (λ w. min w 1) none)

-- what is accepted is answered, and placed, as the sharing by weight of its heads
pub same_answer : (amount : ℕ) (weights places : List ℕ) → accepts amount weights (length places) ≡ true → answer amount (heads weights) places ≡ answer amount weights places
same_answer amount weights places h = cond-true _ _ _ (heads_accepts amount weights (length places) h) ∙ sym (cond-true _ _ _ h)

pub same_places : (amount : ℕ) (weights places : List ℕ) → accepts amount weights (length places) ≡ true → placed by_weight amount (heads weights) places ≡ placed by_heads amount weights places
same_places amount weights places h = cond-true _ _ _ (heads_accepts amount weights (length places) h) ∙ sym (cond-true _ _ _ h)
