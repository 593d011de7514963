-- What a book is.
use Rattle.std.specs.Prelude.{ℕ, ◌+◌, Bool, true, false, cond, List, [], ◌∷◌, map, replicate, None, Option}
use Rattle.std.specs.List.{range_with_len}
use Rattle.allocations.specs.Parts.{Parts}
use Rattle.allocations.specs.Falls.{parts_of}
use Rattle.allocations.specs.declared.allocation.Allocation.{Allocation}
use Rattle.billing.specs.declared.notes.Note.{Note}
use Rattle.billing.specs.Standing.{provider_of}
use Rattle.book.specs.declared.connection.Connection.{Connection}
use Rattle.book.specs.declared.line.Line.{Line}
use Rattle.book.specs.declared.stage.Stage.{Stage}
use Rattle.book.specs.declared.stage.Stage.TheVariants.{Open, Drafted, Issued}

-- What the notices have set: who stands at each point, who pays each party's bill, the cost in cents and its provider, 0 for none.
pub record Standing : Type 0 where
  pub connections : List (Option Connection)
  pub allocations : List Parts
  pub cost : ℕ
  pub provider : ℕ

-- The notes of a run, one for each party, and the excess of its charges over its claims, which is to be held, in cents.
pub record Draft : Type 0 where
  pub notes : List Note
  pub excess : ℕ

-- What each party owes and is owed, and the purse: money received from payers and not yet paid out.
pub record Accounts : Type 0 where
  pub owing : List ℕ
  pub owed : List ℕ
  pub purse : ℕ

-- Lists are in the order of the points' and the parties' numbers; `run` counts the runs that were begun.
pub record State : Type 0 where
  pub stage : Stage
  pub parties : ℕ
  pub points : ℕ
  pub standing : Standing
  pub run : ℕ
  pub draft : Draft
  pub accounts : Accounts

abbrev pub is_open : Stage → Bool
is_open Open = true
is_open Drafted = false
is_open Issued = false

abbrev pub is_drafted : Stage → Bool
is_drafted Open = false
is_drafted Drafted = true
is_drafted Issued = false

abbrev pub is_issued : Stage → Bool
is_issued Open = false
is_issued Drafted = false
is_issued Issued = true

abbrev pub is_at : Stage → Stage → Bool
is_at Open = is_open
is_at Drafted = is_drafted
is_at Issued = is_issued

-- What is held: what the issued run leaves, and nothing before.
abbrev pub held : State → ℕ
held s = cond (is_issued s.stage) s.draft.excess 0

abbrev pub dues_on : List Note → List ℕ
dues_on notes = map (λ n. n.due) notes

abbrev pub credits_on : List Note → List ℕ
credits_on notes = map (λ n. n.credit) notes

-- A note with nothing on it.
abbrev pub blank : Note
blank = record { share = 0; charge = 0; due = 0; credit = 0 }

abbrev pub no_draft : ℕ → Draft
no_draft parties = record { notes = replicate parties blank; excess = 0 }

-- Before any allocation a party pays its own bill.
abbrev pub own_bill : ℕ → Parts
own_bill party = (party, 1000) ∷ []

abbrev pub own_bills : ℕ → List Parts
own_bills parties = map (λ i. own_bill (i + 1)) (range_with_len 0 parties)

-- A new book: open, with no users, cost 0, no provider, and nothing in the purse.
abbrev pub new_book : ℕ → ℕ → State
new_book parties points = record {
  stage = Open;
  parties = parties;
  points = points;
  standing = record { connections = replicate points None; allocations = own_bills parties; cost = 0; provider = 0 };
  run = 0;
  draft = no_draft parties;
  accounts = record { owing = replicate parties 0; owed = replicate parties 0; purse = 0 };
}

-- The notes on the lines of the parties, and what is outstanding of them.
abbrev pub notes_on : List Line → List Note
notes_on lines = map (λ line. line.note) lines

abbrev pub owing_on : List Line → List ℕ
owing_on lines = map (λ line. line.owing) lines

abbrev pub owed_on : List Line → List ℕ
owed_on lines = map (λ line. line.owed) lines

-- The state that the fields of a book of the program stand for.
abbrev pub state_of : Stage → ℕ → ℕ → List (Option Connection) → List Allocation → ℕ → Option ℕ → ℕ → List Line → ℕ → ℕ → State
state_of stage parties points connections allocations cost provider run lines excess purse = record {
  stage = stage;
  parties = parties;
  points = points;
  standing = record { connections = connections; allocations = map parts_of allocations; cost = cost; provider = provider_of provider };
  run = run;
  draft = record { notes = notes_on lines; excess = excess };
  accounts = record { owing = owing_on lines; owed = owed_on lines; purse = purse };
}
