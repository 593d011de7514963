-- The largest and the smallest of a list, and the withdrawals of a point one interval after the other.
use Rattle.std.proofs.Common.{◌≡◌, ℕ, zero, suc, ◌+◌, ◌-◌, ◌<◌, ◌≤◌, min, max, true, ◌⊎◌, List, [], ◌∷◌, length, get_or, take, Ok, Err, fold, sym, refl, ap, ◌∙◌, subst, inl, inr, ⊎_elim, le_refl, le_of_suc-le-suc, not-suc-le-zero, arith}
use Rattle.std.specs.List.{ContainsAt as Has}
use Rattle.std.proofs.ByRecursion.{has_get_or}
use Rattle.std.proofs.lemmas.List.{get_or-map, length-map, take_all}
use Rattle.std.proofs.lemmas.List.Sums.{fold_more}
use Rattle.std.proofs.lemmas.Bool.{cond-true}
use Rattle.tables.specs.Table.{Table, Sound, withdrawn, at_point, cell, within, outside, row_limit}
use Rattle.tables.specs.Swing.{withdrawals, largest, smallest, swing_at, swing_of}
use Rattle.tables.proofs.Cells.{cell_small, inside_made, within_parts}
use Rattle.tables.proofs.Connects.{has_more, has_first}

max_start : (xs : List ℕ) (a : ℕ) → a ≤ fold max a xs
max_start [] a = le_refl a
max_start (x ∷ xs) a = let h = max_start xs (max a x) in omega arith

max_each : (xs : List ℕ) (a k : ℕ) → k < length xs → get_or xs k 0 ≤ fold max a xs
max_each [] a k h = absurd (not-suc-le-zero h)
max_each (x ∷ xs) a zero h = let m = max_start xs (max a x) in omega arith
max_each (x ∷ xs) a (suc k) h = max_each xs (max a x) k (le_of_suc-le-suc h)

min_start : (xs : List ℕ) (a : ℕ) → fold min a xs ≤ a
min_start [] a = le_refl a
min_start (x ∷ xs) a = let h = min_start xs (min a x) in omega arith

min_each : (xs : List ℕ) (a k : ℕ) → k < length xs → fold min a xs ≤ get_or xs k 0
min_each [] a k h = absurd (not-suc-le-zero h)
min_each (x ∷ xs) a zero h = let m = min_start xs (min a x) in omega arith
min_each (x ∷ xs) a (suc k) h = min_each xs (min a x) k (le_of_suc-le-suc h)

max_one : (a x : ℕ) → (max a x ≡ a) ⊎ (x ≡ max a x)
max_one a x = grind arith

min_one : (a x : ℕ) → (min a x ≡ a) ⊎ (x ≡ min a x)
min_one a x = grind arith

-- A fold that picks one of two numbers picks the start or an element.
module _ (f : ℕ → ℕ → ℕ) (pick : (a x : ℕ) → (f a x ≡ a) ⊎ (x ≡ f a x)) where
  picks : (xs : List ℕ) (a : ℕ) → (fold f a xs ≡ a) ⊎ Has xs (fold f a xs)
  picks [] a = inl refl
  picks (x ∷ xs) a =
      ⊎_elim
      (λ (e : fold f (f a x) xs ≡ f a x).
      ⊎_elim
      (λ (p : f a x ≡ a). inl (e ∙ p))
      (λ (p : x ≡ f a x). inr (subst (Has (x ∷ xs)) (p ∙ sym e) (has_first x xs)))
      (pick a x))
      (λ (h : Has xs (fold f (f a x) xs)). inr (has_more x xs _ h))
      (picks xs (f a x))

pub none_larger : (xs : List ℕ) (k : ℕ) → k < length xs → get_or xs k 0 ≤ largest xs
none_larger xs k h = max_each xs 0 k h

pub is_largest : (xs : List ℕ) → 0 < length xs → Has xs (largest xs)
is_largest xs h =
    ⊎_elim
    (λ (e : largest xs ≡ 0). let m = max_each xs 0 0 h in let z : get_or xs 0 0 ≡ largest xs = omega arith in subst (Has xs) z (has_get_or xs 0 0 h))
    (λ (p : Has xs (largest xs)). p)
    (picks max max_one xs 0)

pub none_smaller : (xs : List ℕ) (k : ℕ) → k < length xs → smallest xs ≤ get_or xs k 0
none_smaller xs k h = min_each xs (get_or xs 0 0) k h

pub is_smallest : (xs : List ℕ) → 0 < length xs → Has xs (smallest xs)
is_smallest xs h =
    ⊎_elim
    (λ (e : smallest xs ≡ get_or xs 0 0). subst (Has xs) (sym e) (has_get_or xs 0 0 h))
    (λ (p : Has xs (smallest xs)). p)
    (picks min min_one xs (get_or xs 0 0))

module _ (t : Table) (p : ℕ) where
  pub long : length (withdrawals t p) ≡ length t.rows
  long = length-map t.rows (λ row. withdrawn (at_point row p))

  pub withdrawn_at : (k : ℕ) → k < length t.rows → get_or (withdrawals t p) k 0 ≡ withdrawn (cell t p (k + 1))
  withdrawn_at k h =
      let e : k ≡ k + 1 - 1 = omega arith in
      get_or-map (λ row. withdrawn (at_point row p)) t.rows k [] 0 h ∙ ap (λ i. withdrawn (at_point (get_or t.rows i []) p)) e

  pub fold_next : (f : ℕ → ℕ → ℕ) (a k : ℕ) → k < length t.rows → fold f a (take (k + 1) (withdrawals t p)) ≡ f (fold f a (take k (withdrawals t p))) (withdrawn (cell t p (k + 1)))
  fold_next f a k h =
      let l = long in
      fold_more f a (withdrawals t p) k 0 (omega arith) ∙ ap (f (fold f a (take k (withdrawals t p)))) (withdrawn_at k h)

  pub fold_all : (f : ℕ → ℕ → ℕ) (a k : ℕ) → length t.rows ≤ k → fold f a (take k (withdrawals t p)) ≡ fold f a (withdrawals t p)
  fold_all f a k h = let l = long in ap (fold f a) (take_all k (withdrawals t p) (omega arith))

  pub swing_is : (high low : ℕ) → within t.points p ≡ true → high ≡ largest (withdrawals t p) → low ≡ smallest (withdrawals t p) → Ok (high - low) ≡ swing_of t p
  swing_is high low v a b =
      sym (cond-true _ (Ok (largest (withdrawals t p) - smallest (withdrawals t p))) (Err outside) v ∙ ap (λ x. Ok (x - smallest (withdrawals t p))) (sym a) ∙ ap (λ x. Ok (high - x)) (sym b))

  -- A swing is no more than what a point can withdraw.
  pub swing_small : Sound t → within t.points p ≡ true → swing_at t p ≤ row_limit
  swing_small s v =
      let l = long in
      let some = s.counts.2 in
      let b = within_parts t.points p v in
      let top = is_largest (withdrawals t p) (omega arith) in
      let k = top.0 in
      let below : k < length t.rows = let m = top.1 in omega arith in
      let is = sym (top.2 0) ∙ withdrawn_at k below in
      let small = cell_small t s p (k + 1) (inside_made t p (k + 1) b.0 b.1 (omega arith) (omega arith)) in
      omega arith
