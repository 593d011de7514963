-- Which book a list of calls leads to. Lists of calls have the newest call first.
use Rattle.std.specs.Prelude.{◌≡◌, ℕ, true, List, [], ◌∷◌}
use Rattle.tables.specs.Table.{Sound, within}
use Rattle.sharing.specs.Domain.{OneEach, AddsUp, NoneForNone}
use Rattle.book.specs.Model.{State, new_book}
use Rattle.book.specs.Steps.{Call, connect, appoint, nominate, allocate, set_cost, begin, issue, withdraw, pay, payout, Meaning, step}

-- The book that the calls lead to from a new one.
abbrev pub reached : ℕ → ℕ → List Call → State
reached parties points [] = new_book parties points
reached parties points (call ∷ calls) = (step (reached parties points calls) call).1

-- The laws of every sharing rule.
abbrev pub Keeps : Meaning → Type 0
Keeps meaning = OneEach meaning × (AddsUp meaning × NoneForNone meaning)

-- The feeds of a begin keep the bounds of tables, and its rule the laws of sharing. The traits see to both.
abbrev pub LawfulCall : Call → Type 0
LawfulCall (connect point user) = Unit {0}
LawfulCall (appoint sender point nominator) = Unit {0}
LawfulCall (nominate sender point nominee) = Unit {0}
LawfulCall (allocate party parts) = Unit {0}
LawfulCall (set_cost provider cents) = Unit {0}
LawfulCall (begin rates month reference meaning) = Sound month × (Sound reference × Keeps meaning)
LawfulCall (issue run) = Unit {0}
LawfulCall (withdraw run) = Unit {0}
LawfulCall (pay payer cents) = Unit {0}
LawfulCall (payout payee cents) = Unit {0}

abbrev pub Lawful : List Call → Type 0
Lawful [] = Unit {0}
Lawful (call ∷ calls) = LawfulCall call × Lawful calls

-- These lawful calls lead from a new book of so many parties and points to this state.
pub record Reaches (parties points : ℕ) (s : State) (calls : List Call) : Type 0 where
  pub parties_fit : within 32 parties ≡ true
  pub points_fit : within 32 points ≡ true
  pub lawful : Lawful calls
  pub there : s ≡ reached parties points calls

-- Some lawful calls led to this state.
abbrev pub Came : State → Type 0
Came s = ∥ ((calls : List Call) × Reaches s.parties s.points s calls) ∥₁
