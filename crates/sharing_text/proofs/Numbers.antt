-- Numbers in words, and what 64 bits hold of them.
use Rattle.std.proofs.Common.{◌≡◌, ℕ, ◌+◌, ◌-◌, ◌*◌, ◌<◌, ◌≤◌, min, true, eqb, ltb, List, [], ◌∷◌, map, length, get_or, take, Some, None, sum, Option, sym, refl, ◌∙◌, ⊎_elim, arith}
use Rattle.std.specs.Option.{option_map}
use Rattle.std.specs.Int.Digits.{number_from_digits}
use Rattle.std.specs.List.{prefix_len}
use Rattle.std.proofs.lemmas.Int.Digits.{number_more}
use Rattle.std.proofs.lemmas.List.{length-map, get_or-map}
use Rattle.std.proofs.lemmas.List.Sums.{sum_by-cons}
use Rattle.std.proofs.lemmas.Bool.{cond-false, lt-ltb, eq-eqb, ne_eqb, and_right, cases_Bool, both_ways}
use Rattle.std.proofs.lemmas.Bool.Decides.{nat_tests}
use Rattle.sharing.specs.Domain.{domain}
use Rattle.sharing.specs.declared.choice.Choice.{Choice}
use Rattle.sharing_text.specs.Replies.{shared_by, with_weights}
use Rattle.sharing_text.specs.Request.{is_digit, number_of, capped, all_capped}

pub no_number : (word : List ℕ) → prefix_len is_digit word < length word → number_of word ≡ None
no_number word h =
    cond-false _ _ _ (and_right (ltb 0 (length word)) (eqb (prefix_len is_digit word) (length word)) (ne_eqb _ _ (λ e. omega arith)))

pub whole_number : (word : List ℕ) → 0 < length word → prefix_len is_digit word ≡ length word → number_of word ≡ Some (number_from_digits 10 (map (λ byte. byte - 48) word))
whole_number word some all = rw (lt-ltb 0 (length word) some, eq-eqb (prefix_len is_digit word) (length word) all) refl

-- one digit more
pub digit_more : (word : List ℕ) (i value tens digit next : ℕ) → i < length word → value ≡ capped (number_from_digits 10 (take i (map (λ byte. byte - 48) word))) → tens ≡ min (value * 10) 18446744073709551615 → digit ≡ get_or word i 0 - 48 → next ≡ min (tens + digit) 18446744073709551615 → next ≡ capped (number_from_digits 10 (take (i + 1) (map (λ byte. byte - 48) word)))
digit_more word i value tens digit next lt was ten new then =
    let ds = map (λ byte. byte - 48) word in
    let more = number_more 10 ds i (omega (arith, length-map word (λ byte. byte - 48))) in
    let here = get_or-map (λ byte. byte - 48) word i 0 0 lt in
    omega arith

small_same : (ws : List ℕ) → sum (all_capped ws) ≤ 9000000000 → all_capped ws ≡ ws
small_same [] h = refl
small_same (w ∷ ws) h =
    let front = sum_by-cons (λ x. x) (capped w) (all_capped ws) in
    let same : capped w ≡ w = omega arith in
    rw (same, small_same ws (omega arith)) refl

sum_capped : (ws : List ℕ) → sum (all_capped ws) ≤ sum ws
sum_capped [] = omega arith
sum_capped (w ∷ ws) = omega (arith, sum_by-cons (λ x. x) (capped w) (all_capped ws), sum_by-cons (λ x. x) w ws, sum_capped ws)

-- what can be shared is held whole, and what is held of the rest cannot be shared either
domain_same : (amount : ℕ) (weights : List ℕ) → (domain (capped amount) (all_capped weights) ≡ domain amount weights) × (domain amount weights ≡ true → (capped amount ≡ amount) × (all_capped weights ≡ weights))
domain_same amount weights =
    let low = sum_capped weights in
    ⊎_elim
    (λ inside.
    let most : (amount ≤ 2000000000) × (sum weights ≤ 9000000000) = bounds amount weights inside in
    let one : capped amount ≡ amount = omega arith in
    let all = small_same weights (omega arith) in
    (rw (one, all) refl, λ _. (one, all)))
    (λ outside. (
      ⊎_elim
          (λ inside.
          let most = bounds (capped amount) (all_capped weights) inside in
          let one : capped amount ≡ amount = omega arith in
          let all = small_same weights most.1 in
          rw (one, all) refl)
          (λ both. both ∙ sym outside)
          (cases_Bool (domain (capped amount) (all_capped weights))),
      λ inside. absurd (both_ways _ outside inside),
    ))
    (cases_Bool (domain amount weights))
  where
    bounds : (a : ℕ) (ws : List ℕ) → domain a ws ≡ true → (a ≤ 2000000000) × (sum ws ≤ 9000000000)
    bounds a ws h = (grind (arith, nat_tests), grind (arith, nat_tests))

pub shared_same : (rule : Choice) (amount : ℕ) (weights : List ℕ) → shared_by rule (capped amount) (all_capped weights) ≡ shared_by rule amount weights
shared_same rule amount weights =
    let both = domain_same amount weights in
    ⊎_elim
    (λ inside. let same = both.1 inside in rw (same.0, same.1) refl)
    (λ outside. cond-false _ _ _ (both.0 ∙ outside) ∙ sym (cond-false _ _ _ outside))
    (cases_Bool (domain amount weights))

pub weights_same : (rule : Choice) (one : Option ℕ) (all : Option (List ℕ)) → with_weights rule (option_map capped one) (option_map all_capped all) ≡ with_weights rule one all
weights_same rule None all = refl
weights_same rule (Some amount) None = refl
weights_same rule (Some amount) (Some weights) = shared_same rule amount weights
