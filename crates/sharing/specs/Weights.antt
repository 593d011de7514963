-- Shares in proportion to the weights. Places are counted from 0.
use Rattle.std.specs.Prelude.{ℕ, zero, suc, ◌+◌, ◌-◌, ◌*◌, ◌/◌, ◌%◌, Bool, cond, ◌&&◌, ◌||◌, List, map, length, sum, ◌==◌, nat_lt, slice_index}
use Rattle.std.specs.List.{range_with_len}

abbrev pub one_if : Bool → ℕ
one_if b = cond b 1 0

-- The sum of f over the places 0 .. n - 1.
abbrev pub sum_of : (ℕ → ℕ) → ℕ → ℕ
sum_of f zero = 0
sum_of f (suc n) = sum_of f n + f n

-- How many of the places 0 .. n - 1 pass.
abbrev pub count : (ℕ → Bool) → ℕ → ℕ
count p n = sum_of (λ i. one_if (p i)) n

-- Amount × weight ÷ total, rounded down.
abbrev pub whole : ℕ → List ℕ → ℕ → ℕ
whole amount weights i = amount * slice_index weights i / sum weights

-- What that division leaves.
abbrev pub remainder : ℕ → List ℕ → ℕ → ℕ
remainder amount weights i = amount * slice_index weights i % sum weights

-- The odd cents: what the whole shares leave of the amount.
abbrev pub left_over : ℕ → List ℕ → ℕ
left_over amount weights = amount - sum_of (whole amount weights) (length weights)

-- Place j, with remainder s, is served before place i, with remainder r: its remainder is larger, or the same and it is the earlier.
abbrev pub first : ℕ → ℕ → ℕ → ℕ → Bool
first s j r i = nat_lt r s || (s == r && nat_lt j i)

-- How many of n places are served before place i.
abbrev pub served_before : (ℕ → ℕ) → ℕ → ℕ → ℕ
served_before rest n i = count (λ j. first (rest j) j (rest i) i) n

-- A place has one cent more exactly if fewer places are served before it than cents are left over.
abbrev pub part : ℕ → List ℕ → ℕ → ℕ
part amount weights i =
    whole amount weights i + one_if (nat_lt (served_before (remainder amount weights) (length weights) i) (left_over amount weights))

abbrev pub by_weight : ℕ → List ℕ → List ℕ
by_weight amount weights = map (part amount weights) (range_with_len 0 (length weights))
