-- What joined points show comes to what the points below come to.
use Rattle.std.proofs.Common.{◌≡◌, ℕ, zero, suc, ◌+◌, ◌-◌, ◌<◌, ◌≤◌, Bool, true, false, cond, ◌&&◌, eqb, List, [], map, length, get_or, Ok, sum_by, sym, ap, ◌∙◌, subst, le_refl, arith}
use mathlib.Core.Path.{fun_ext}
use Rattle.std.specs.List.{range_with_len}
use Rattle.std.proofs.lemmas.List.{length-map, get_or-map}
use Rattle.std.proofs.lemmas.List.FromFn.{length-map-range_with_len, get_or-map-range_with_len}
use Rattle.std.proofs.lemmas.Bool.{cond-true, cond-false, ne_eqb}
use Rattle.std.proofs.lemmas.Bool.Decides.{nat_tests}
use Rattle.tables.specs.Table.{Reading, Table, Sound, Counted, RowSound, withdrawn, injected, at_point, row_of, cell, within, inside, reading_of, row_limit}
use Rattle.tables.specs.Joined.{sum_to, gathered, group_at, shown_row, shown}
use Rattle.tables.specs.Laws.{SameTotals}
use Rattle.tables.proofs.Cells.{read_inside, inside_parts}
use Rattle.tables.proofs.Sums.{sum_to-le, sum_to_same, sum_to-add, sum_to-zero, sum_to-front, sum_by_row, sum_by_made}

none_within : (l x : ℕ) → cond (within 0 l) x 0 ≡ 0
none_within l x = grind (arith, nat_tests)

one_more_within : (l m x : ℕ) → cond (within m l) x 0 + cond (eqb l (suc m)) x 0 ≡ cond (within (suc m) l) x 0
one_more_within l m x = grind (arith, nat_tests)

part_of : (b : Bool) (x : ℕ) → cond b x 0 ≤ x
part_of true x = le_refl x
part_of false x = omega arith

module _ (lead x : ℕ → ℕ) (n : ℕ) where
  -- The groups led by 1 .. m, one after the other, and all at once.
  up_to : (m : ℕ) → sum_to (λ p. sum_to (λ q. cond (eqb (lead q) p) (x q) 0) n) m ≡ sum_to (λ q. cond (within m (lead q)) (x q) 0) n
  up_to zero = sym (sum_to_same (λ q. cond (within 0 (lead q)) (x q) 0) (λ q. 0) n (λ q _ _. none_within (lead q) (x q)) ∙ sum_to-zero n)
  up_to (suc m) =
      let below = up_to m in
      let both = sum_to-add (λ q. cond (within m (lead q)) (x q) 0) (λ q. cond (eqb (lead q) (suc m)) (x q) 0) n in
      let more = sum_to_same (λ q. cond (within m (lead q)) (x q) 0 + cond (eqb (lead q) (suc m)) (x q) 0) (λ q. cond (within (suc m) (lead q)) (x q) 0) n (λ q _ _. one_more_within (lead q) m (x q)) in
      omega arith

  pub all_groups : (m : ℕ) → sum_to (λ p. sum_to (λ q. cond (eqb (lead q) p) (x q) 0) n) m ≤ sum_to x n
  all_groups m = let e = up_to m in let h = sum_to-le (λ q. cond (within m (lead q)) (x q) 0) x n (λ q _ _. part_of (within m (lead q)) (x q)) in omega arith

  pub whole : ((q : ℕ) → 1 ≤ q → q ≤ n → within n (lead q) ≡ true) → sum_to (λ p. sum_to (λ q. cond (eqb (lead q) p) (x q) 0) n) n ≡ sum_to x n
  whole h = up_to n ∙ sum_to_same (λ q. cond (within n (lead q)) (x q) 0) x n (λ q a b. cond-true _ (x q) 0 (h q a b))

  pub one_group : (p m : ℕ) → sum_to (λ q. cond (eqb (lead q) p) (x q) 0) m ≤ sum_to x m
  one_group p m = sum_to-le (λ q. cond (eqb (lead q) p) (x q) 0) x m (λ q _ _. part_of (eqb (lead q) p) (x q))

module _ (part : Reading → ℕ) (lead : ℕ → ℕ) (n : ℕ) (row : List Reading) (long : length row ≡ n) where
  row_total : sum_by part row ≡ sum_to (λ q. part (at_point row q)) n
  row_total = sum_by_row part (0, 0) row ∙ ap (sum_to (λ q. part (at_point row q))) long

  row_part : sum_by part row ≤ row_limit → sum_to (gathered part lead n row) n ≤ row_limit
  row_part h = let all = all_groups lead (λ q. part (at_point row q)) n n in let total = row_total in omega arith

  row_whole : ((q : ℕ) → 1 ≤ q → q ≤ n → within n (lead q) ≡ true) → sum_to (gathered part lead n row) n ≡ sum_by part row
  row_whole h = whole lead (λ q. part (at_point row q)) n h ∙ sym row_total

  -- A group's sum fits while it is gathered.
  pub gather_fits : (p m : ℕ) → m ≤ n → sum_by part row ≤ row_limit → gathered part lead m row p ≤ row_limit
  gather_fits p m h s =
      let some = one_group lead (λ q. part (at_point row q)) n p m in
      let front = sum_to-front (λ q. part (at_point row q)) m n h in
      let total = row_total in
      omega arith

module _ (lead : ℕ → ℕ) (n : ℕ) (row : List Reading) where
  shown_row_sound : RowSound n row → RowSound n (shown_row lead n row)
  shown_row_sound (long, w, j) = (
    length-map-range_with_len (group_at lead n row) 1 n,
    subst (λ s. s ≤ row_limit) (sym (sum_by_made withdrawn (group_at lead n row) n)) (row_part withdrawn lead n row long w),
    subst (λ s. s ≤ row_limit) (sym (sum_by_made injected (group_at lead n row) n)) (row_part injected lead n row long j),
  )

  shown_row_whole : length row ≡ n → ((q : ℕ) → 1 ≤ q → q ≤ n → within n (lead q) ≡ true)
      → (sum_by withdrawn (shown_row lead n row) ≡ sum_by withdrawn row) × (sum_by injected (shown_row lead n row) ≡ sum_by injected row)
  shown_row_whole long h = (
    sum_by_made withdrawn (group_at lead n row) n ∙ row_whole withdrawn lead n row long h,
    sum_by_made injected (group_at lead n row) n ∙ row_whole injected lead n row long h,
  )

  none_led : (part : Reading → ℕ) (p : ℕ) → ((q : ℕ) → 1 ≤ q → q ≤ n → lead q ≡ p → ⊥) → gathered part lead n row p ≡ 0
  none_led part p none =
      sum_to_same (λ q. cond (eqb (lead q) p) (part (at_point row q)) 0) (λ q. 0) n
      (λ q x y. cond-false _ (part (at_point row q)) 0 (ne_eqb (lead q) p (none q x y)))
      ∙ sum_to-zero n

  -- A point that leads no point shows nothing.
  pub group_empty : (p : ℕ) → ((q : ℕ) → 1 ≤ q → q ≤ n → lead q ≡ p → ⊥) → group_at lead n row p ≡ (0, 0)
  group_empty p none =
      let a = none_led withdrawn p none in
      let b = none_led injected p none in
      λ i. (a i, b i)

module _ (lead : ℕ → ℕ) (t : Table) where
  pub shown_length : length (shown lead t).rows ≡ length t.rows
  shown_length = length-map t.rows (shown_row lead t.points)

  pub shown_at : (k : ℕ) → k < length t.rows → get_or (shown lead t).rows k [] ≡ shown_row lead t.points (get_or t.rows k [])
  shown_at k h = get_or-map (shown_row lead t.points) t.rows k [] [] h

  pub shown_sound : Sound t → Sound (shown lead t)
  shown_sound s = record {
    counts = subst (Counted t.points) (sym shown_length) s.counts;
    rows = λ k h.
        let h' = subst (λ m. k < m) shown_length h in
        subst (RowSound t.points) (sym (shown_at k h')) (shown_row_sound lead t.points (get_or t.rows k []) (s.rows k h'));
  }

  pub shown_whole : Sound t → ((q : ℕ) → 1 ≤ q → q ≤ t.points → within t.points (lead q) ≡ true) → SameTotals t (shown lead t)
  shown_whole s h k below =
      let e = shown_at k below in
      let r = shown_row_whole lead t.points (get_or t.rows k []) (s.rows k below).0 h in
      (ap (sum_by withdrawn) e ∙ r.0, ap (sum_by injected) e ∙ r.1)

  pub shown_inside : (p k : ℕ) → inside (shown lead t) p k ≡ inside t p k
  shown_inside p k = ap (λ m. within t.points p && within m k) shown_length

  pub shown_cell : (p k : ℕ) → inside t p k ≡ true → cell (shown lead t) p k ≡ group_at lead t.points (row_of t k) p
  shown_cell p k v =
      let h = inside_parts t p k v in
      ap (λ row. at_point row p) (shown_at (k - 1) (omega arith))
      ∙ get_or-map-range_with_len (group_at lead t.points (row_of t k)) 1 t.points (p - 1) p (0, 0) (omega arith) (omega arith)

  pub read_shown : (p k : ℕ) → inside t p k ≡ true → reading_of (shown lead t) p k ≡ Ok (group_at lead t.points (row_of t k) p)
  read_shown p k v = read_inside (shown lead t) p k (shown_inside p k ∙ v) ∙ ap (λ x. Ok x) (shown_cell p k v)

-- Two ways to name who leads the points of a table show one table.
module _ (f g : ℕ → ℕ) (n : ℕ) (same : (q : ℕ) → 1 ≤ q → q ≤ n → f q ≡ g q) where
  gathered_same : (part : Reading → ℕ) (row : List Reading) (p : ℕ) → gathered part f n row p ≡ gathered part g n row p
  gathered_same part row p =
      sum_to_same (λ q. cond (eqb (f q) p) (part (at_point row q)) 0) (λ q. cond (eqb (g q) p) (part (at_point row q)) 0) n
      (λ q a b. ap (λ l. cond (eqb l p) (part (at_point row q)) 0) (same q a b))

  row_same : shown_row f n ≡ shown_row g n
  row_same = fun_ext (λ row. ap (λ h. map h (range_with_len 1 n)) (fun_ext (λ p.
      let a = gathered_same withdrawn row p in
      let b = gathered_same injected row p in
      λ i. (a i, b i))))

pub shown_same : (f g : ℕ → ℕ) (t : Table) → ((q : ℕ) → 1 ≤ q → q ≤ t.points → f q ≡ g q) → shown f t ≡ shown g t
shown_same f g t same = let P : (List Reading → List Reading) → Table = λ r. record { points = t.points; rows = map r t.rows } in ap P (row_same f g t.points same)
