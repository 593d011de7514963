-- When shares are fair to their weights, and that sharing by weight is the one fair way.
use Rattle.std.specs.Prelude.{◌≡◌, ℕ, ◌+◌, ◌-◌, ◌<◌, ◌≤◌, true, List, length, sum, slice_index}
use Rattle.sharing.specs.Domain.{domain}
use Rattle.sharing.specs.Weights.{whole, remainder, by_weight}

-- The odd cents that a place has: its share less amount × weight ÷ total rounded down.
abbrev pub odd_cents : ℕ → List ℕ → List ℕ → ℕ → ℕ
odd_cents amount weights shares i = slice_index shares i - whole amount weights i

-- The whole amount is shared; no place has less than amount × weight ÷ total rounded down, or more than one cent above it;
-- a larger remainder never has less of the odd cents than a smaller one, nor has the earlier of two equal ones.
pub record Fair (amount : ℕ) (weights shares : List ℕ) : Type 0 where
  pub one_each : length shares ≡ length weights
  pub adds_up : sum shares ≡ amount
  pub no_less : (i : ℕ) → i < length weights → whole amount weights i ≤ slice_index shares i
  pub one_cent_at_most : (i : ℕ) → i < length weights → slice_index shares i ≤ whole amount weights i + 1
  pub larger_remainder_first : (i j : ℕ) → i < length weights → j < length weights → remainder amount weights j < remainder amount weights i → odd_cents amount weights shares j ≤ odd_cents amount weights shares i
  pub earlier_of_equals_first : (i j : ℕ) → i < j → j < length weights → remainder amount weights i ≡ remainder amount weights j → odd_cents amount weights shares j ≤ odd_cents amount weights shares i

-- In the domain the shares by weight are fair, and no other shares are.
pub record OneFairWay : Type 0 where
  pub is_fair : (amount : ℕ) (weights : List ℕ) → domain amount weights ≡ true → Fair amount weights (by_weight amount weights)
  pub no_other : (amount : ℕ) (weights shares : List ℕ) → domain amount weights ≡ true → Fair amount weights shares → shares ≡ by_weight amount weights
