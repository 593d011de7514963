-- What a read of a table gives.
use Rattle.std.proofs.Common.{◌≡◌, ℕ, ◌-◌, ◌≤◌, Bool, true, false, ◌&&◌, length, Ok, Err, ⊎_elim, arith}
use Rattle.std.proofs.lemmas.List.Sums.{get_or-le-sum_by}
use Rattle.std.proofs.lemmas.Bool.{and_parts, and_from, leb-true, le-leb, cond-true, cond-false, cases_Bool}
use Rattle.tables.specs.Table.{Reading, Table, Sound, withdrawn, injected, row_limit, within, inside, row_of, cell, outside, reading_of}

pub within_parts : (n k : ℕ) → within n k ≡ true → (1 ≤ k) × (k ≤ n)
within_parts n k e = let p = and_parts _ _ e in (leb-true 1 k p.0, leb-true k n p.1)

pub within_from : (n k : ℕ) → 1 ≤ k → k ≤ n → within n k ≡ true
within_from n k a b = and_from _ _ (le-leb 1 k a) (le-leb k n b)

pub places : (n m p k : ℕ) → (within n p && within m k) ≡ true → ((1 ≤ p) × (p ≤ n)) × ((1 ≤ k) × (k ≤ m))
places n m p k e = let h = and_parts _ _ e in (within_parts n p h.0, within_parts m k h.1)

pub inside_parts : (t : Table) (p k : ℕ) → inside t p k ≡ true → ((1 ≤ p) × (p ≤ t.points)) × ((1 ≤ k) × (k ≤ length t.rows))
inside_parts t p k e = places t.points (length t.rows) p k e

pub inside_made : (t : Table) (p k : ℕ) → 1 ≤ p → p ≤ t.points → 1 ≤ k → k ≤ length t.rows → inside t p k ≡ true
inside_made t p k a b c d = and_from _ _ (within_from t.points p a b) (within_from (length t.rows) k c d)

-- What `is_inside` answered of the counts that a feed gave.
pub inside_from : (t : Table) (p k n m : ℕ) (b : Bool) → n ≡ t.points → m ≡ length t.rows → b ≡ (within n p && within m k) → inside t p k ≡ b
inside_from t p k n m b e f h = cc

pub read_inside : (t : Table) (p k : ℕ) → inside t p k ≡ true → reading_of t p k ≡ Ok (cell t p k)
read_inside t p k e = cond-true (inside t p k) (Ok (cell t p k)) (Err outside) e

pub read_outside : (t : Table) (p k : ℕ) → inside t p k ≡ false → reading_of t p k ≡ Err outside
read_outside t p k e = cond-false (inside t p k) (Ok (cell t p k)) (Err outside) e

-- An answer that is no refusal is the cell.
pub read_ok : (t : Table) (p k : ℕ) (x : Reading) → Ok x ≡ reading_of t p k → (inside t p k ≡ true) × (x ≡ cell t p k)
read_ok t p k x e =
    ⊎_elim
    (λ (v : inside t p k ≡ true). let f = read_inside t p k v in (v, cc))
    (λ (v : inside t p k ≡ false). let f = read_outside t p k v in let z : ◌≡◌ {A = ℕ} 0 1 = cc in absurd (let n : ⊥ = omega arith in n))
    (cases_Bool (inside t p k))

-- What one point withdraws or injects stays within the limit.
pub cell_small : (t : Table) → Sound t → (p k : ℕ) → inside t p k ≡ true → (withdrawn (cell t p k) ≤ row_limit) × (injected (cell t p k) ≤ row_limit)
cell_small t s p k v =
    let h = inside_parts t p k v in
    let row = s.rows (k - 1) (omega arith) in
    let w = get_or-le-sum_by withdrawn (row_of t k) (p - 1) (0, 0) (omega arith) in
    let j = get_or-le-sum_by injected (row_of t k) (p - 1) (0, 0) (omega arith) in
    (omega arith, omega arith)
