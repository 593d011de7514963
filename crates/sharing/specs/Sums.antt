-- The sum of a function over the places 0 .. n - 1.
use Rattle.std.specs.Prelude.{◌≡◌, ℕ, zero, suc, ◌+◌, ◌*◌, ◌<◌, ◌≤◌, List, map, length, sum, slice_index, refl}
use Rattle.std.proofs.Common.{sym, ap, ◌∙◌, mul-add, mul-zero, add-one, arith}
use Rattle.std.proofs.Math.Decide.{le_ind}
use Rattle.std.specs.List.{range_with_len}
use Rattle.std.proofs.lemmas.List.FromFn.{sum_by-map-range_with_len_more, fill_by_all}
use Rattle.sharing.specs.Weights.{sum_of}

pub sum_more : (f : ℕ → ℕ) (n : ℕ) → sum_of f (n + 1) ≡ sum_of f n + f n
sum_more f n = rw add-one refl

pub sum_same : (f g : ℕ → ℕ) (n : ℕ) → ((i : ℕ) → i < n → f i ≡ g i) → sum_of f n ≡ sum_of g n
sum_same f g zero h = refl
sum_same f g (suc n) h = omega (arith, sum_same f g n (λ i lt. h i (omega arith)), h n (omega arith))

pub sum-le : (f g : ℕ → ℕ) (n : ℕ) → ((i : ℕ) → i < n → f i ≤ g i) → sum_of f n ≤ sum_of g n
sum-le f g zero h = omega arith
sum-le f g (suc n) h = omega (arith, sum-le f g n (λ i lt. h i (omega arith)), h n (omega arith))

pub sum-add : (f g : ℕ → ℕ) (n : ℕ) → sum_of (λ i. f i + g i) n ≡ sum_of f n + sum_of g n
sum-add f g zero = refl
sum-add f g (suc n) = omega (arith, sum-add f g n)

pub sum-mul : (m : ℕ) (f : ℕ → ℕ) (n : ℕ) → sum_of (λ i. m * f i) n ≡ m * sum_of f n
sum-mul m f zero = sym (mul-zero m)
sum-mul m f (suc n) = omega (arith, sum-mul m f n, mul-add m (sum_of f n) (f n))

-- fewer places, no larger sum
pub sum-front : (f : ℕ → ℕ) (m n : ℕ) → m ≤ n → sum_of f m ≤ sum_of f n
sum-front f m n h = le_ind {n = m} (λ k. sum_of f m ≤ sum_of f k) (omega arith) (λ k l s. omega arith) n h

pub sum_listed : (f : ℕ → ℕ) (n : ℕ) → sum (map f (range_with_len 0 n)) ≡ sum_of f n
sum_listed f zero = refl
sum_listed f (suc n) = rw add-one at (sum_by-map-range_with_len_more (λ x. x) f 0 n n (omega arith)) ∙ ap (λ s. s + f n) (sum_listed f n)

pub sum_list : (xs : List ℕ) → sum xs ≡ sum_of (λ i. slice_index xs i) (length xs)
sum_list xs =
    ap sum (fill_by_all (λ i. slice_index xs i) xs (length xs) 0 refl (λ k h. refl)) ∙ sum_listed (λ i. slice_index xs i) (length xs)
