-- What each call answers, and what it makes of the book.
use Rattle.std.specs.Prelude.{ℕ, ◌+◌, ◌-◌, Bool, true, false, cond, ◌&&◌, List, [], ◌∷◌, map, Some, None, Ok, Err, Option, Result, ◌==◌, nat_le, nat_lt, slice_index, slice_index_or, slice_set}
use Rattle.faults.specs.declared.BookCause.{BookCause}
use Rattle.faults.specs.declared.BookCause.TheVariants as because
use Rattle.faults.specs.declared.Fault.{Fault}
use Rattle.faults.specs.Numbers.{book_fault}
use Rattle.tables.specs.Table.{Table, within}
use Rattle.balancing.specs.declared.rates.Rates.{Rates}
use Rattle.allocations.specs.Parts.{Parts, payable, whole_parts}
use Rattle.billing.specs.declared.notes.Note.{Note}
use Rattle.billing.specs.Run.{Inputs, notes_in, settled, feeds_fit}
use Rattle.book.specs.declared.connection.Connection.{Connection}
use Rattle.book.specs.declared.stage.Stage.TheVariants.{Open, Drafted, Issued}
use Rattle.book.specs.Model.{State, Standing, Accounts, is_open, is_drafted, is_issued, dues_on, credits_on, no_draft}

-- What a sharing rule means: the shares that an amount and weights have.
abbrev pub Meaning : Type 0
Meaning = ℕ → List ℕ → List ℕ

-- The ten calls. A begin has the rates, the tables of the month and the reference feed, and the rule's meaning; issue and withdraw have the number on the claim.
pub data Call : Type 0 where
  connect : ℕ → ℕ → Call
  appoint : ℕ → ℕ → ℕ → Call
  nominate : ℕ → ℕ → ℕ → Call
  allocate : ℕ → Parts → Call
  set_cost : ℕ → ℕ → Call
  begin : Rates → Table → Table → Meaning → Call
  issue : ℕ → Call
  withdraw : ℕ → Call
  pay : ℕ → ℕ → Call
  payout : ℕ → ℕ → Call

-- A begin that is accepted tells the run's number; another accepted call tells nothing.
pub data Answer : Type 0 where
  accepted : Answer
  began : ℕ → Answer
  refused : Fault → Answer

abbrev pub refuse : State → BookCause → Answer × State
refuse s cause = (refused (book_fault cause), s)

-- The book with another standing.
abbrev pub with_standing : State → Standing → State
with_standing s standing = record { stage = s.stage; parties = s.parties; points = s.points; standing = standing; run = s.run; draft = s.draft; accounts = s.accounts }

abbrev pub with_connection : State → ℕ → Connection → State
with_connection s point connection = with_standing s (record { connections = slice_set s.standing.connections (point - 1) (Some connection); allocations = s.standing.allocations; cost = s.standing.cost; provider = s.standing.provider })

abbrev pub with_allocation : State → ℕ → Parts → State
with_allocation s party parts = with_standing s (record { connections = s.standing.connections; allocations = slice_set s.standing.allocations (party - 1) parts; cost = s.standing.cost; provider = s.standing.provider })

abbrev pub with_cost : State → ℕ → ℕ → State
with_cost s provider cents = with_standing s (record { connections = s.standing.connections; allocations = s.standing.allocations; cost = cents; provider = provider })

abbrev pub drafting : State → List Note → ℕ → State
drafting s notes excess = record { stage = Drafted; parties = s.parties; points = s.points; standing = s.standing; run = s.run + 1; draft = record { notes = notes; excess = excess }; accounts = s.accounts }

-- The draft becomes owed.
abbrev pub issuing : State → State
issuing s = record { stage = Issued; parties = s.parties; points = s.points; standing = s.standing; run = s.run; draft = s.draft; accounts = record { owing = dues_on s.draft.notes; owed = credits_on s.draft.notes; purse = s.accounts.purse } }

-- The draft is dropped.
abbrev pub withdrawing : State → State
withdrawing s = record { stage = Open; parties = s.parties; points = s.points; standing = s.standing; run = s.run; draft = no_draft s.parties; accounts = s.accounts }

abbrev pub with_accounts : State → Accounts → State
with_accounts s accounts = record { stage = s.stage; parties = s.parties; points = s.points; standing = s.standing; run = s.run; draft = s.draft; accounts = accounts }

abbrev pub paying : State → ℕ → ℕ → State
paying s payer cents = with_accounts s (record { owing = slice_set s.accounts.owing (payer - 1) (slice_index s.accounts.owing (payer - 1) - cents); owed = s.accounts.owed; purse = s.accounts.purse + cents })

abbrev pub paying_out : State → ℕ → ℕ → State
paying_out s payee cents = with_accounts s (record { owing = s.accounts.owing; owed = slice_set s.accounts.owed (payee - 1) (slice_index s.accounts.owed (payee - 1) - cents); purse = s.accounts.purse - cents })

-- The connection of a point.
abbrev pub connection_at : State → ℕ → Option Connection
connection_at s point = slice_index_or s.standing.connections (point - 1) None

-- The user of a point may appoint its nominator.
abbrev pub appointed : State → ℕ → ℕ → ℕ → Option Connection → Answer × State
appointed s sender point nominator None = refuse s because.NoUser
appointed s sender point nominator (Some c) =
    cond (sender == c.user) (accepted, with_connection s point (record { user = c.user; nominator = nominator; nominee = c.nominee })) (refuse s because.NotEntitled)

-- The nominator of a point may name its nominee.
abbrev pub nominated : State → ℕ → ℕ → ℕ → Option Connection → Answer × State
nominated s sender point nominee None = refuse s because.NoUser
nominated s sender point nominee (Some c) =
    cond (sender == c.nominator) (accepted, with_connection s point (record { user = c.user; nominator = c.nominator; nominee = nominee })) (refuse s because.NotEntitled)

-- Every point has a user.
abbrev pub is_connected : Option Connection → Bool
is_connected None = false
is_connected (Some c) = true

abbrev pub all_connected : List (Option Connection) → Bool
all_connected [] = true
all_connected (c ∷ cs) = is_connected c && all_connected cs

-- The number of a point's nominee and nominator, 0 where it has no user.
abbrev pub nominee_number : Option Connection → ℕ
nominee_number None = 0
nominee_number (Some c) = c.nominee

abbrev pub nominator_number : Option Connection → ℕ
nominator_number None = 0
nominator_number (Some c) = c.nominator

-- What the amounts of a run are worked out from.
abbrev pub inputs_of : State → Rates → Table → Table → Meaning → Inputs
inputs_of s rates month reference meaning = record {
  parties = s.parties;
  rates = rates;
  cost = s.standing.cost;
  provider = s.standing.provider;
  nominees = map nominee_number s.standing.connections;
  nominators = map nominator_number s.standing.connections;
  allocations = s.standing.allocations;
  month = month;
  reference = reference;
  meaning = meaning;
}

-- The amounts make the draft, or they are refused.
abbrev pub drafted : State → Inputs → Result ℕ Fault → Answer × State
drafted s i (Ok excess) = (began (s.run + 1), drafting s (notes_in i) excess)
drafted s i (Err f) = (refused f, s)

-- What keeps a run from being begun, before any amount is worked out.
abbrev pub obstacle : State → Table → Table → Option Fault
obstacle s month reference =
    cond (is_open s.stage)
    (cond (nat_lt s.run 1000)
    (cond (feeds_fit s.points month reference)
    (cond (all_connected s.standing.connections) None (Some (book_fault because.NoUser)))
    (Some (book_fault because.UnfitFeed)))
    (Some (book_fault because.RunsUsedUp)))
    (Some (book_fault because.WrongState))

-- Without an obstacle the amounts decide.
abbrev pub begun : State → Inputs → Option Fault → Answer × State
begun s i (Some f) = (refused f, s)
begun s i None = drafted s i (settled i)

-- A claim is good for the draft that has its number.
abbrev pub on_draft : State → ℕ → State → Answer × State
on_draft s run s' = cond (is_drafted s.stage) (cond (run == s.run) (accepted, s') (refuse s because.OtherRun)) (refuse s because.WrongState)

abbrev pub step : State → Call → Answer × State
step s (connect point user) =
    cond (is_open s.stage)
    (cond (within s.points point && within s.parties user) (accepted, with_connection s point (record { user = user; nominator = user; nominee = user })) (refuse s because.OutOfRange))
    (refuse s because.WrongState)
step s (appoint sender point nominator) =
    cond (is_open s.stage)
    (cond (within s.parties sender && (within s.points point && within s.parties nominator)) (appointed s sender point nominator (connection_at s point)) (refuse s because.OutOfRange))
    (refuse s because.WrongState)
step s (nominate sender point nominee) =
    cond (is_open s.stage)
    (cond (within s.parties sender && (within s.points point && within s.parties nominee)) (nominated s sender point nominee (connection_at s point)) (refuse s because.OutOfRange))
    (refuse s because.WrongState)
step s (allocate party parts) =
    cond (is_open s.stage)
    (cond (within s.parties party && payable s.parties parts) (cond (whole_parts parts) (accepted, with_allocation s party parts) (refuse s because.BrokenParts)) (refuse s because.OutOfRange))
    (refuse s because.WrongState)
step s (set_cost provider cents) =
    cond (is_open s.stage)
    (cond (within s.parties provider) (cond (nat_le cents 1000000000) (accepted, with_cost s provider cents) (refuse s because.WrongAmount)) (refuse s because.OutOfRange))
    (refuse s because.WrongState)
step s (begin rates month reference meaning) = begun s (inputs_of s rates month reference meaning) (obstacle s month reference)
step s (issue run) = on_draft s run (issuing s)
step s (withdraw run) = on_draft s run (withdrawing s)
step s (pay payer cents) =
    cond (is_issued s.stage)
    (cond (within s.parties payer) (cond (within (slice_index s.accounts.owing (payer - 1)) cents) (accepted, paying s payer cents) (refuse s because.WrongAmount)) (refuse s because.OutOfRange))
    (refuse s because.WrongState)
step s (payout payee cents) =
    cond (is_issued s.stage)
    (cond (within s.parties payee) (cond (within (slice_index s.accounts.owed (payee - 1)) cents) (cond (nat_le cents s.accounts.purse) (accepted, paying_out s payee cents) (refuse s because.PurseTooSmall)) (refuse s because.WrongAmount)) (refuse s because.OutOfRange))
    (refuse s because.WrongState)
