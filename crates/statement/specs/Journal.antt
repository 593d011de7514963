-- Journals: the calls on one book with their answers, the newest first, and what the accepted ones have set.
use Rattle.std.specs.Prelude.{ℕ, ◌+◌, cond, List, [], ◌∷◌, Some, None, Option, ◌==◌}
use Rattle.tables.specs.Table.{Table}
use Rattle.balancing.specs.declared.rates.Rates.{Rates}
use Rattle.allocations.specs.Parts.{Parts}
use Rattle.book.specs.declared.stage.Stage.{Stage}
use Rattle.book.specs.declared.stage.Stage.TheVariants.{Open, Drafted, Issued}
use Rattle.book.specs.Journey.{reached}
use Rattle.book.specs.Steps.{Meaning, Call, connect, appoint, nominate, allocate, set_cost, begin, issue, withdraw, pay, payout, Answer, accepted, began, refused, step}

-- A call with its answer.
pub record Event : Type 0 where
  pub call : Call
  pub answer : Answer

abbrev pub Journal : Type 0
Journal = List Event

-- The journal of a list of calls on a new book of so many parties and points.
abbrev pub journal : ℕ → ℕ → List Call → Journal
journal parties points [] = []
journal parties points (call ∷ calls) =
    record { call = call; answer = (step (reached parties points calls) call).0 } ∷ journal parties points calls

-- What a begin brings.
pub record Run : Type 0 where
  pub rates : Rates
  pub month : Table
  pub reference : Table
  pub meaning : Meaning

-- What a call sets if it is accepted: of a point its user, nominator or nominee; of a party its allocation; the provider and the cost;
-- the run; the stage; what a party pays or is paid out.
pub record Sets : Type 0 where
  pub user : Option (ℕ × ℕ)
  pub nominator : Option (ℕ × ℕ)
  pub nominee : Option (ℕ × ℕ)
  pub allocation : Option (ℕ × Parts)
  pub cost : Option (ℕ × ℕ)
  pub run : Option Run
  pub stage : Option Stage
  pub payment : Option (ℕ × ℕ)
  pub paid_out : Option (ℕ × ℕ)

abbrev pub sets : Call → Sets
sets (connect point party) = record { user = Some (point, party); nominator = Some (point, party); nominee = Some (point, party); allocation = None; cost = None; run = None; stage = None; payment = None; paid_out = None }
sets (appoint sender point party) = record { user = None; nominator = Some (point, party); nominee = None; allocation = None; cost = None; run = None; stage = None; payment = None; paid_out = None }
sets (nominate sender point party) = record { user = None; nominator = None; nominee = Some (point, party); allocation = None; cost = None; run = None; stage = None; payment = None; paid_out = None }
sets (allocate party parts) = record { user = None; nominator = None; nominee = None; allocation = Some (party, parts); cost = None; run = None; stage = None; payment = None; paid_out = None }
sets (set_cost provider cents) = record { user = None; nominator = None; nominee = None; allocation = None; cost = Some (provider, cents); run = None; stage = None; payment = None; paid_out = None }
sets (begin rates month reference meaning) = record { user = None; nominator = None; nominee = None; allocation = None; cost = None; run = Some (record { rates = rates; month = month; reference = reference; meaning = meaning }); stage = Some Drafted; payment = None; paid_out = None }
sets (issue number) = record { user = None; nominator = None; nominee = None; allocation = None; cost = None; run = None; stage = Some Issued; payment = None; paid_out = None }
sets (withdraw number) = record { user = None; nominator = None; nominee = None; allocation = None; cost = None; run = None; stage = Some Open; payment = None; paid_out = None }
sets (pay payer cents) = record { user = None; nominator = None; nominee = None; allocation = None; cost = None; run = None; stage = None; payment = Some (payer, cents); paid_out = None }
sets (payout payee cents) = record { user = None; nominator = None; nominee = None; allocation = None; cost = None; run = None; stage = None; payment = None; paid_out = Some (payee, cents) }

-- Accepted means not refused.
abbrev pub if_accepted : {A : Type 0} → Answer → A → A → A
if_accepted accepted x y = x
if_accepted (began run) x y = x
if_accepted (refused f) x y = y

abbrev pub or_else : {A : Type 0} → Option A → Option A → Option A
or_else None before = before
or_else (Some x) before = Some x

-- What the accepted calls have set last.
abbrev pub last : {A : Type 0} → (Sets → Option A) → Journal → Option A
last what [] = None
last what (e ∷ j) = if_accepted e.answer (or_else (what (sets e.call)) (last what j)) (last what j)

-- What is set for the point or party of a number.
abbrev pub for : {A : Type 0} → ℕ → Option (ℕ × A) → Option A
for number None = None
for number (Some p) = cond (p.0 == number) (Some p.1) None

abbrev pub add : Option ℕ → ℕ → ℕ
add None before = before
add (Some cents) before = cents + before

-- What the accepted calls come to together, in cents.
abbrev pub total : (Sets → Option ℕ) → Journal → ℕ
total what [] = 0
total what (e ∷ j) = if_accepted e.answer (add (what (sets e.call)) (total what j)) (total what j)
