-- A book of the program as a state, and what its calls promise.
use Rattle.std.specs.Prelude.{◌≡◌, ℕ, ◌-◌, true, false, cond, ◌&&◌, List, [], ◌∷◌, Ok, Err, vec_items, Result, slice_index, slice_index_or}
use Rattle.faults.specs.declared.BookCause.TheVariants as because
use Rattle.faults.specs.declared.Fault.{Fault}
use Rattle.faults.specs.Numbers.{book_fault}
use Rattle.tables.specs.Table.{within}
use Rattle.book.specs.declared.account.Account.{Account}
use Rattle.book.specs.declared.claim.Claim.{Claim}
use Rattle.book.specs.declared.claim.Unspent.{Unspent}
use Rattle.book.specs.declared.line.Line.{Line}
use Rattle.book.specs.declared.state.Book.{Book}
use Rattle.book.specs.declared.state.opens.Unmade.{Unmade}
use Rattle.book.specs.declared.state.opens.Unmade.TheVariants.{Refused, NoMemory}
use Rattle.book.specs.Model.{State, state_of, is_open, blank}
use Rattle.book.specs.Steps.{Call, Answer, accepted, began, refused, step}
use Rattle.book.specs.Journey.{LawfulCall, Reaches}

abbrev pub view : Book → State
view b = state_of b.stage b.parties b.points (vec_items b.connections) (vec_items b.allocations) b.cost b.provider b.run (vec_items b.lines) b.excess b.purse

-- What a call of the program answered.
abbrev pub told : Result Unit Fault → Answer
told (Ok x) = accepted
told (Err f) = refused f

abbrev pub told_run : Result Claim Fault → Answer
told_run (Ok claim) = began claim.run
told_run (Err f) = refused f

abbrev pub told_back : Result Unit Unspent → Answer
told_back (Ok x) = accepted
told_back (Err u) = refused u.fault

-- A refused claim is handed back.
abbrev pub HandedBack : Claim → Result Unit Unspent → Type 0
HandedBack claim (Ok x) = Unit {0}
HandedBack claim (Err u) = u.claim ≡ claim

abbrev pub Refusal : Answer → Type 0
Refusal accepted = ⊥
Refusal (began run) = ⊥
Refusal (refused f) = Unit {0}

-- A call: its answer and the book after it are those of the model; a refusal leaves the book itself as it was; and
-- whatever lawful calls led to the book before it, with this one they lead to the book after it.
pub record Stepped (before after : Book) (call : Call) (answer : Answer) : Type 0 where
  pub answers : answer ≡ (step (view before) call).0
  pub becomes : view after ≡ (step (view before) call).1
  pub unchanged : Refusal answer → after ≡ before
  pub lawful : LawfulCall call
  pub onward : (parties points : ℕ) (calls : List Call) → Reaches parties points (view before) calls → Reaches parties points (view after) (call ∷ calls)

-- A new book is one that no call has reached yet; a count out of range is refused; and there may be no memory for it.
abbrev pub Opened : ℕ → ℕ → Result Book Unmade → Type 0
Opened parties points (Ok b) = Reaches parties points (view b) []
Opened parties points (Err (Refused f)) = ((within 32 parties && within 32 points) ≡ false) × (f ≡ book_fault because.OutOfRange)
Opened parties points (Err NoMemory) = (within 32 parties && within 32 points) ≡ true

-- What is shown of a line.
abbrev pub account_on : Line → Account
account_on line = record { share = line.note.share; charge = line.note.charge; due = line.note.due; credit = line.note.credit; owing = line.owing; owed = line.owed }

-- What is shown of the party at a place, from 0.
abbrev pub account_at : State → ℕ → Account
account_at s i = record {
  share = (slice_index_or s.draft.notes i blank).share;
  charge = (slice_index_or s.draft.notes i blank).charge;
  due = (slice_index_or s.draft.notes i blank).due;
  credit = (slice_index_or s.draft.notes i blank).credit;
  owing = slice_index s.accounts.owing i;
  owed = slice_index s.accounts.owed i;
}

-- What is answered when a party is asked for.
abbrev pub asked : State → ℕ → Result Account Fault
asked s party =
    cond (is_open s.stage) (Err (book_fault because.WrongState)) (cond (within s.parties party) (Ok (account_at s (party - 1))) (Err (book_fault because.OutOfRange)))
