-- What holds of every book.
use Rattle.std.specs.Prelude.{◌≡◌, ℕ, ◌+◌, ◌<◌, ◌≤◌, true, false, [], length, sum, slice_index_or}
use Rattle.allocations.specs.Parts.{payable, whole_parts}
use Rattle.billing.specs.Standing.{provided}
use Rattle.book.specs.Model.{State, is_issued, held, dues_on, credits_on}

-- There are 1 to 32 parties and points.
abbrev pub Counted : State → Type 0
Counted s = (1 ≤ s.parties) × (s.parties ≤ 32) × (1 ≤ s.points) × (s.points ≤ 32)

-- Each list has a place for each point or party.
abbrev pub Long : State → Type 0
Long s =
    (length s.standing.connections ≡ s.points) × (length s.standing.allocations ≡ s.parties) × (length s.draft.notes ≡ s.parties) × (length s.accounts.owing ≡ s.parties) × (length s.accounts.owed ≡ s.parties)

-- The cost and the number of the run are within their limits; a cost has a provider, who is a party.
abbrev pub Bounded : State → Type 0
Bounded s = (s.standing.cost ≤ 1000000000) × (provided s.parties s.standing.cost s.standing.provider ≡ true) × (s.run ≤ 1000)

-- Each bill is paid in full by parties of the book.
abbrev pub Paid : State → Type 0
Paid s = (q : ℕ) → q < s.parties → (whole_parts (slice_index_or s.standing.allocations q []) ≡ true) × (payable s.parties (slice_index_or s.standing.allocations q []) ≡ true)

-- The dues of the draft are its credits and what it leaves to be held.
abbrev pub Drawn : State → Type 0
Drawn s = (sum (dues_on s.draft.notes) ≡ sum (credits_on s.draft.notes) + s.draft.excess) × (sum (dues_on s.draft.notes) ≤ 2000000000)

-- What payers owe and the purse are what payees are owed and what is held.
abbrev pub Even : State → Type 0
Even s = (sum s.accounts.owing + s.accounts.purse ≡ sum s.accounts.owed + held s) × (sum s.accounts.owing + s.accounts.purse ≤ 2000000000)

-- Before it is issued nothing is owed, and the purse is empty.
abbrev pub Calm : State → Type 0
Calm s = is_issued s.stage ≡ false → (sum s.accounts.owing ≡ 0) × (sum s.accounts.owed ≡ 0) × (s.accounts.purse ≡ 0)

pub record Sound (s : State) : Type 0 where
  pub counted : Counted s
  pub long : Long s
  pub bounded : Bounded s
  pub paid : Paid s
  pub drawn : Drawn s
  pub even : Even s
  pub calm : Calm s
