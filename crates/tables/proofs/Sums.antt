-- Sums over 1 .. n.
use Rattle.std.proofs.Common.{◌≡◌, ℕ, zero, suc, ◌+◌, ◌-◌, ◌<◌, ◌≤◌, List, map, length, get_or, take, sum_by, sym, refl, ap, ◌∙◌, subst, ⊎_elim, le_refl, add-one, arith}
use Rattle.std.specs.List.{range_with_len}
use Rattle.std.proofs.lemmas.List.{take_all}
use Rattle.std.proofs.lemmas.List.Sums.{sum_by_more}
use Rattle.std.proofs.lemmas.List.FromFn.{sum_by-map-range_with_len_more}
use Rattle.std.proofs.lemmas.Bool.{cases_lt}
use Rattle.tables.specs.Joined.{sum_to}

pub sum_to_more : (f : ℕ → ℕ) (n : ℕ) → sum_to f (n + 1) ≡ sum_to f n + f (n + 1)
sum_to_more f n = rw (add-one n) refl

pub sum_to_same : (f g : ℕ → ℕ) (n : ℕ) → ((q : ℕ) → 1 ≤ q → q ≤ n → f q ≡ g q) → sum_to f n ≡ sum_to g n
sum_to_same f g zero h = refl
sum_to_same f g (suc n) h =
    let a = sum_to_same f g n (λ q l m. h q l (omega arith)) in
    let b = h (suc n) (omega arith) (omega arith) in
    omega arith

pub sum_to-le : (f g : ℕ → ℕ) (n : ℕ) → ((q : ℕ) → 1 ≤ q → q ≤ n → f q ≤ g q) → sum_to f n ≤ sum_to g n
sum_to-le f g zero h = omega arith
sum_to-le f g (suc n) h =
    let a = sum_to-le f g n (λ q l m. h q l (omega arith)) in
    let b = h (suc n) (omega arith) (omega arith) in
    omega arith

pub sum_to-add : (f g : ℕ → ℕ) (n : ℕ) → sum_to (λ q. f q + g q) n ≡ sum_to f n + sum_to g n
sum_to-add f g zero = refl
sum_to-add f g (suc n) = let a = sum_to-add f g n in omega arith

pub sum_to-zero : (n : ℕ) → sum_to (λ q. 0) n ≡ 0
sum_to-zero zero = refl
sum_to-zero (suc n) = let a = sum_to-zero n in omega arith

-- A front of the sum is no more than the sum.
pub sum_to-front : (f : ℕ → ℕ) (m n : ℕ) → m ≤ n → sum_to f m ≤ sum_to f n
sum_to-front f m zero h = let e : m ≡ 0 = omega arith in subst (λ k. sum_to f k ≤ 0) (sym e) (omega arith)
sum_to-front f m (suc n) h =
    ⊎_elim
    (λ (l : m < suc n). let a = sum_to-front f m n (omega arith) in omega arith)
    (λ (l : suc n ≤ m). let e : m ≡ suc n = omega arith in subst (λ k. sum_to f k ≤ sum_to f (suc n)) (sym e) (le_refl _))
    (cases_lt m (suc n))

-- The sum over a list, by places from 1.
pub sum_by-sum_to : {X : Type 0} (part : X → ℕ) (d : X) (xs : List X) (n : ℕ) → n ≤ length xs → sum_by part (take n xs) ≡ sum_to (λ q. part (get_or xs (q - 1) d)) n
sum_by-sum_to part d xs zero h = refl
sum_by-sum_to part d xs (suc n) h =
    let more = sum_by_more part xs n d (omega arith) in
    let below = sum_by-sum_to part d xs n (omega arith) in
    let e : n + 1 ≡ suc n = add-one n in
    let f : suc n - 1 ≡ n = omega arith in
    let a = ap (λ k. sum_by part (take k xs)) e in
    let b = ap (λ k. part (get_or xs k d)) f in
    omega arith

pub sum_by_row : {X : Type 0} (part : X → ℕ) (d : X) (xs : List X) → sum_by part xs ≡ sum_to (λ q. part (get_or xs (q - 1) d)) (length xs)
sum_by_row part d xs = ap (sum_by part) (sym (take_all (length xs) xs (le_refl _))) ∙ sum_by-sum_to part d xs (length xs) (le_refl _)

-- The sum over a list that is made from 1 .. n.
pub sum_by_made : {X : Type 0} (part : X → ℕ) (f : ℕ → X) (n : ℕ) → sum_by part (map f (range_with_len 1 n)) ≡ sum_to (λ q. part (f q)) n
sum_by_made part f zero = refl
sum_by_made part f (suc n) =
    let more = sum_by-map-range_with_len_more part f 1 n (suc n) (omega arith) in
    let below = sum_by_made part f n in
    let e = ap (λ k. sum_by part (map f (range_with_len 1 k))) (add-one n) in
    omega arith
