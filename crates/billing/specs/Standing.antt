-- What is no standing of a grid is refused, in this order.
use Rattle.std.specs.Prelude.{ℕ, Bool, cond, ◌&&◌, List, [], length, Ok, Err, Option, Result, ◌==◌, nat_le, slice_index_or}
use Rattle.std.specs.Option.{unwrap_or}
use Rattle.faults.specs.declared.BookCause.TheVariants as book
use Rattle.faults.specs.declared.Fault.{Fault}
use Rattle.faults.specs.Numbers.{book_fault}
use Rattle.allocations.specs.Falls.{broken_parts}
use Rattle.allocations.specs.Parts.{Parts, all_below, payable, whole_parts}

-- The number of the provider, 0 for none.
abbrev pub provider_of : Option ℕ → ℕ
provider_of provider = unwrap_or provider 0

-- The provider is one of n parties; there is none only where there is no cost.
abbrev pub provided : ℕ → ℕ → ℕ → Bool
provided n cost provider = cond (provider == 0) (cost == 0) (nat_le provider n)

-- There are 1 to 32 parties, as many nominators as nominees, one allocation for each party, and a provider if there is a cost.
unfoldable pub counted : ℕ → List ℕ → List ℕ → List Parts → ℕ → ℕ → Bool
counted n nominees nominators allocations cost provider =
    nat_le 1 n && (nat_le n 32 && (length nominators == length nominees && (length allocations == n && provided n cost provider)))

-- Every payer of every allocation is one of n parties.
unfoldable pub all_payable : ℕ → List Parts → Bool
all_payable n allocations = all_below (λ q. payable n (slice_index_or allocations q [])) (length allocations)

-- Every allocation makes up a whole.
unfoldable pub all_whole : List Parts → Bool
all_whole allocations = all_below (λ q. whole_parts (slice_index_or allocations q [])) (length allocations)

abbrev pub out_of_range : Fault
out_of_range = book_fault book.OutOfRange

abbrev pub wrong_amount : Fault
wrong_amount = book_fault book.WrongAmount

-- Of n parties, nominees, nominators, allocations, cost and provider.
abbrev pub checked : ℕ → List ℕ → List ℕ → List Parts → ℕ → ℕ → Result (Unit {0}) Fault
checked n nominees nominators allocations cost provider =
    cond (counted n nominees nominators allocations cost provider) (cond (all_payable n allocations) (cond (all_whole allocations) (cond (nat_le cost 1000000000) (Ok tt) (Err wrong_amount)) (Err broken_parts)) (Err out_of_range)) (Err out_of_range)
