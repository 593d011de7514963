-- What can be shared, and what every sharing rule owes. Amounts and shares are in cents.
use Rattle.std.specs.Prelude.{◌≡◌, ℕ, ◌<◌, Bool, true, cond, ◌&&◌, List, length, Ok, Err, sum, Result, ◌==◌, nat_le, slice_index}
use Rattle.faults.specs.declared.BookCause.TheVariants as book
use Rattle.faults.specs.declared.Fault.{Fault}
use Rattle.faults.specs.Numbers.{book_fault}

-- Rules share 0 to 2,000,000,000 cents over 1 to 32 weights, whose total is 1 to 9,000,000,000.
abbrev pub domain : ℕ → List ℕ → Bool
domain amount weights =
    nat_le amount 2000000000 && (nat_le 1 (length weights) && (nat_le (length weights) 32 && (nat_le 1 (sum weights) && nat_le (sum weights) 9000000000)))

-- It can be shared, and there are as many places for the shares as weights.
abbrev pub accepts : ℕ → List ℕ → ℕ → Bool
accepts amount weights places = places == length weights && domain amount weights

abbrev pub outside_domain : Fault
outside_domain = book_fault book.OutsideDomain

-- What a rule answers: it refuses exactly what it does not accept.
abbrev pub answer : ℕ → List ℕ → List ℕ → Result (Unit {0}) Fault
answer amount weights places = cond (accepts amount weights (length places)) (Ok tt) (Err outside_domain)

-- What the places then hold: the shares by the rule's meaning, or what they held before.
abbrev pub placed : (ℕ → List ℕ → List ℕ) → ℕ → List ℕ → List ℕ → List ℕ
placed meaning amount weights places = cond (accepts amount weights (length places)) (meaning amount weights) places

-- There is one share for each weight.
abbrev pub OneEach : (ℕ → List ℕ → List ℕ) → Type 0
OneEach meaning =
    (amount : ℕ) (weights : List ℕ) → domain amount weights ≡ true → length (meaning amount weights) ≡ length weights

-- The shares add up to the amount.
abbrev pub AddsUp : (ℕ → List ℕ → List ℕ) → Type 0
AddsUp meaning = (amount : ℕ) (weights : List ℕ) → domain amount weights ≡ true → sum (meaning amount weights) ≡ amount

-- A weight of 0 has share 0.
abbrev pub NoneForNone : (ℕ → List ℕ → List ℕ) → Type 0
NoneForNone meaning =
    (amount : ℕ) (weights : List ℕ) (i : ℕ) → domain amount weights ≡ true → i < length weights → slice_index weights i ≡ 0 → slice_index (meaning amount weights) i ≡ 0
