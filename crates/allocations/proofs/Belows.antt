-- A test of every place below a number.
use Rattle.std.proofs.Common.{◌≡◌, ℕ, zero, suc, ◌+◌, ◌<◌, ◌≤◌, Bool, true, false, ◌&&◌, List, length, get_or, take, refl, sym, ap, ◌∙◌, ⊎_elim, add-one, arith}
use Rattle.std.proofs.lemmas.Bool.{and_parts, and_from, and_left, and_right, cases_eq}
use Rattle.std.specs.List.{list_all}
use Rattle.std.proofs.lemmas.List.{take_all}
use Rattle.std.proofs.lemmas.List.Folds.{list_all_more}
use Rattle.allocations.specs.Parts.{all_below}

module _ (p : ℕ → Bool) where
  pub below_more : (i : ℕ) → all_below p i ≡ true → p i ≡ true → all_below p (i + 1) ≡ true
  below_more i a b = ap (all_below p) (add-one i) ∙ and_from (all_below p i) (p i) a b

  pub below_no : (m k : ℕ) → k < m → p k ≡ false → all_below p m ≡ false
  below_no zero k h e = absurd (omega arith)
  below_no (suc m) k h e =
      ⊎_elim
      (λ (s : k ≡ m). and_right (all_below p m) (p m) (ap p (sym s) ∙ e))
      (λ (ne : k ≡ m → ⊥). let less : k < m = grind arith in and_left (all_below p m) (p m) (below_no m k less e))
      (cases_eq k m)

  pub below_at : (m k : ℕ) → all_below p m ≡ true → k < m → p k ≡ true
  below_at zero k a h = absurd (omega arith)
  below_at (suc m) k a h =
      let parts = and_parts (all_below p m) (p m) a in
      ⊎_elim
      (λ (s : k ≡ m). ap p s ∙ parts.1)
      (λ (ne : k ≡ m → ⊥). let less : k < m = grind arith in below_at m k parts.0 less)
      (cases_eq k m)

  -- what a loop that tests place after place answers
  pub one_fails : (m k : ℕ) → k < m → p k ≡ false → false ≡ all_below p m
  one_fails m k h e = sym (below_no m k h e)

  pub all_pass : (m k : ℕ) → k ≡ m → all_below p k ≡ true → true ≡ all_below p m
  all_pass m k e a = sym a ∙ ap (all_below p) e

  pub below_all : (m : ℕ) → ((k : ℕ) → k < m → p k ≡ true) → all_below p m ≡ true
  below_all zero h = refl
  below_all (suc m) h = and_from (all_below p m) (p m) (below_all m (λ k lt. h k (omega arith))) (h m (omega arith))

-- a test of every element of a list is one of every place
module _ {X : Type 0} (p : X → Bool) (q : ℕ → Bool) (xs : List X) (d : X) (same : (i : ℕ) → i < length xs → q i ≡ p (get_or xs i d)) where
  front : (n : ℕ) → n ≤ length xs → list_all p (take n xs) ≡ all_below q n
  front zero h = refl
  front (suc n) h =
      ap (λ k. list_all p (take k xs)) (sym (add-one n))
      ∙ list_all_more p xs n d (omega arith)
      ∙ ap (λ b. b && p (get_or xs n d)) (front n (omega arith))
      ∙ ap (λ b. all_below q n && b) (sym (same n (omega arith)))

  pub list_all-below : list_all p xs ≡ all_below q (length xs)
  list_all-below = ap (list_all p) (sym (take_all (length xs) xs (omega arith))) ∙ front (length xs) (omega arith)
