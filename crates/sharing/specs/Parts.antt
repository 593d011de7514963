-- The whole shares, what they leave, and who has a cent of that.
use Rattle.std.specs.Prelude.{◌≡◌, ℕ, zero, suc, ◌+◌, ◌*◌, ◌/◌, ◌%◌, ◌<◌, ◌≤◌, Bool, true, false, ltb, List, length, sum, ◌≢◌, nat_lt, slice_index}
use Rattle.std.proofs.Common.{ap, ◌∙◌, mul_comm, mul-zero, add-mul, le_of_mul-le-mul_right, arith}
use Rattle.std.proofs.Math.Nat.{zero-div, zero-mod}
use Rattle.std.proofs.lemmas.Nat.{mul-le, div-add-mod', mod_below}
use Rattle.std.proofs.lemmas.List.FromFn.{length-map-range_with_len, get_or-map-range_with_len}
use Rattle.std.proofs.lemmas.List.Sums.{get_or-le-sum_by}
use Rattle.std.proofs.lemmas.Bool.{lt-ltb, le-ltb, or_left}
use Rattle.std.proofs.lemmas.Bool.Decides.{nat_tests}
use Rattle.sharing.specs.Domain.{OneEach, AddsUp, NoneForNone}
use Rattle.sharing.specs.Weights.{one_if, sum_of, count, whole, remainder, left_over, first, served_before, part, by_weight}
use Rattle.sharing.specs.Counts.{count_most, count-le, exactly}
use Rattle.sharing.specs.Domains.{total_some}
use Rattle.sharing.specs.Sums.{sum_same, sum-le, sum-add, sum-mul, sum-front, sum_listed, sum_list}

-- the places are in an order
abbrev pub before : (ℕ → ℕ) → ℕ → ℕ → Bool
before rest j i = first (rest j) j (rest i) i

pub never : (rest : ℕ → ℕ) (i : ℕ) → before rest i i ≡ false
never rest i = grind (arith, nat_tests)

pub through : (rest : ℕ → ℕ) (i j k : ℕ) → before rest i j ≡ true → before rest j k ≡ true → before rest i k ≡ true
through rest i j k h g = grind (arith, nat_tests)

either : (rest : ℕ → ℕ) (i j : ℕ) → (i ≢ j) → before rest i j ≡ false → before rest j i ≡ true
either rest i j ne h = grind (arith, nat_tests)

pub ranked : (rest : ℕ → ℕ) (n k : ℕ) → k ≤ n → count (λ i. ltb (served_before rest n i) k) n ≡ k
ranked rest n k h = exactly (before rest) (never rest) (through rest) (either rest) n k h

-- a remainder is at most one total where it is not 0, and else 0
rest_most : (r total : ℕ) → r < total → r ≤ total * one_if (nat_lt 0 r)
rest_most zero total h = omega arith
rest_most (suc r) total h = rw (lt-ltb 0 (suc r) (omega arith)) (omega arith)

module _ (amount : ℕ) (weights : List ℕ) (some : 0 < sum weights) where
  -- the whole shares and the remainders make up the amount
  made_up : sum weights * sum_of (whole amount weights) (length weights) + sum_of (remainder amount weights) (length weights) ≡ sum weights * amount
  made_up =
      let n = length weights in
      let each = sum_same (λ i. sum weights * whole amount weights i + remainder amount weights i) (λ i. amount * slice_index weights i) n (λ i lt. omega (arith, div-add-mod' (amount * slice_index weights i) (sum weights), mul_comm (sum weights) (whole amount weights i))) in
      let parts = sum-add (λ i. sum weights * whole amount weights i) (remainder amount weights) n in
      let wholes = sum-mul (sum weights) (whole amount weights) n in
      let products = sum-mul amount (λ i. slice_index weights i) n in
      let total = ap (λ t. amount * t) (sum_list weights) in
      omega (arith, mul_comm amount (sum weights))

  pub whole_most : sum_of (whole amount weights) (length weights) ≤ amount
  whole_most =
      let q = sum_of (whole amount weights) (length weights) in
      le_of_mul-le-mul_right {m = q} {n = amount} {k = sum weights} (omega (arith, made_up, mul_comm q (sum weights), mul_comm amount (sum weights))) some

  -- no more cents are left than places have a remainder
  pub left_most : left_over amount weights ≤ count (λ j. ltb 0 (remainder amount weights j)) (length weights)
  left_most =
      let n = length weights in
      let q = sum_of (whole amount weights) n in
      let m = count (λ j. ltb 0 (remainder amount weights j)) n in
      let rests = sum-le (remainder amount weights) (λ j. sum weights * one_if (nat_lt 0 (remainder amount weights j))) n (λ j lt. rest_most (remainder amount weights j) (sum weights) (mod_below _ _ some)) in
      let times = sum-mul (sum weights) (λ j. one_if (nat_lt 0 (remainder amount weights j))) n in
      let up : (q + left_over amount weights) ≡ amount = omega (arith, whole_most) in
      let spread = add-mul q (left_over amount weights) (sum weights) in
      let same = ap (λ x. x * sum weights) up in
      le_of_mul-le-mul_right {m = left_over amount weights} {n = m} {k = sum weights} (omega (arith, made_up, mul_comm q (sum weights), mul_comm amount (sum weights), mul_comm m (sum weights))) some

  pub part_each : length (by_weight amount weights) ≡ length weights
  part_each = length-map-range_with_len (part amount weights) 0 (length weights)

  pub part_all : sum (by_weight amount weights) ≡ amount
  part_all =
      let n = length weights in
      let extra : ℕ → ℕ = λ i. one_if (nat_lt (served_before (remainder amount weights) n i) (left_over amount weights)) in
      sum_listed (part amount weights) n
      ∙ sum-add (whole amount weights) (λ i. one_if (nat_lt (served_before (remainder amount weights) n i) (left_over amount weights))) n
      ∙ omega (arith, ranked (remainder amount weights) n (left_over amount weights) (omega (arith, left_most, count_most (λ j. ltb 0 (remainder amount weights j)) n)), whole_most)

  part_none : (i : ℕ) → i < length weights → slice_index weights i ≡ 0 → slice_index (by_weight amount weights) i ≡ 0
  part_none i lt none =
      let product : amount * slice_index weights i ≡ 0 = ap (λ w. amount * w) none ∙ mul-zero amount in
      let no_whole : whole amount weights i ≡ 0 = ap (λ x. x / sum weights) product ∙ zero-div (sum weights) in
      let no-rest : remainder amount weights i ≡ 0 = ap (λ x. x % sum weights) product ∙ zero-mod (sum weights) in
      let late = count-le (λ j. ltb 0 (remainder amount weights j)) (λ j. before (remainder amount weights) j i) (length weights) (λ j l h. or_left _ _ (ap (λ r. ltb r (remainder amount weights j)) no-rest ∙ h)) in
      let no-cent : ltb (served_before (remainder amount weights) (length weights) i) (left_over amount weights) ≡ false = le-ltb _ _ (omega (arith, left_most)) in
      get_or-map-range_with_len (part amount weights) 0 (length weights) i i 0 lt (omega arith) ∙ omega (arith, ap one_if no-cent)

pub weight_each : OneEach by_weight
weight_each amount weights h = part_each amount weights (total_some amount weights h)

pub weight_all : AddsUp by_weight
weight_all amount weights h = part_all amount weights (total_some amount weights h)

pub weight_none : NoneForNone by_weight
weight_none amount weights i h = part_none amount weights (total_some amount weights h) i

-- what the code computes of one weight fits
pub product_most : (amount : ℕ) (weights : List ℕ) (i : ℕ) → amount ≤ 2000000000 → sum weights ≤ 9000000000 → i < length weights → amount * slice_index weights i ≤ 18000000000000000000
product_most amount weights i most bound lt =
    mul-le amount (slice_index weights i) 2000000000 9000000000 most (omega (arith, get_or-le-sum_by (λ x. x) weights i 0 lt))

pub whole_front : (amount : ℕ) (weights : List ℕ) (i : ℕ) → 0 < sum weights → i < length weights → sum_of (whole amount weights) i + whole amount weights i ≤ amount
whole_front amount weights i some lt =
    let next = sum-front (whole amount weights) (suc i) (length weights) lt in
    omega (arith, whole_most amount weights some)
