-- What holds of a book after any list of calls.
use Rattle.std.specs.Prelude.{◌≡◌, ℕ, ◌+◌, ◌<◌, true, false, List, map, Some, sum, slice_index}
use Rattle.billing.specs.Run.{charges_in, shares_in, dues_in, credits_in, held_in}
use Rattle.book.specs.Journey.{Reaches}
use Rattle.book.specs.Model.{State, is_open, is_issued, held, dues_on, credits_on}
use Rattle.book.specs.Steps.{Call}
use Rattle.statement.specs.Journal.{Journal, Run, journal}
use Rattle.statement.specs.Formulas.{stage_of, run_of, cost_of, paid_by, paid_out_to, all_payments, all_payouts, inputs_by}

-- A drafted or issued book shows the formulas' share, charge, due and credit of every party for the last run.
pub record Noted (parties points : ℕ) (j : Journal) (s : State) : Type 0 where
  pub run : Run
  pub run_is_the_last : run_of j ≡ Some run
  pub shares : map (λ n. n.share) s.draft.notes ≡ shares_in (inputs_by parties points j run)
  pub charges : map (λ n. n.charge) s.draft.notes ≡ charges_in (inputs_by parties points j run)
  pub dues : dues_on s.draft.notes ≡ dues_in (inputs_by parties points j run)
  pub credits : credits_on s.draft.notes ≡ credits_in (inputs_by parties points j run)

-- In an issued book what is held is the formula's too; what is outstanding is the due less the party's payments, and the credit less
-- its payouts; and what payers owe with all payments is the cost and C, the charges of the run.
pub record Settles (parties points : ℕ) (j : Journal) (s : State) (run : Run) : Type 0 where
  pub held : held s ≡ held_in (inputs_by parties points j run)
  pub owing_is_due_less_payments : (k : ℕ) → k < parties → slice_index s.accounts.owing k + paid_by (k + 1) j ≡ slice_index (dues_in (inputs_by parties points j run)) k
  pub owed_is_credit_less_payouts : (k : ℕ) → k < parties → slice_index s.accounts.owed k + paid_out_to (k + 1) j ≡ slice_index (credits_in (inputs_by parties points j run)) k
  pub collected : sum s.accounts.owing + all_payments j ≡ cost_of j + sum (charges_in (inputs_by parties points j run))

pub record Balanced (parties points : ℕ) (j : Journal) (s : State) : Type 0 where
  -- what payers owe and the purse are what payees are owed and what is held
  pub closes : sum s.accounts.owing + s.accounts.purse ≡ sum s.accounts.owed + held s
  -- the purse is the accepted payments less the accepted payouts
  pub purse_is_payments_less_payouts : s.accounts.purse + all_payouts j ≡ all_payments j
  -- the stage is as the accepted calls left it
  pub stage_is_the_last : s.stage ≡ stage_of j
  -- in an open or drafted book nothing is owed and nothing is held
  pub nothing_before_the_issue : is_issued s.stage ≡ false → (sum s.accounts.owing ≡ 0) × (sum s.accounts.owed ≡ 0) × (held s ≡ 0)
  pub notes_are_the_formulas : is_open s.stage ≡ false → Noted parties points j s
  pub issued_as_the_formulas : is_issued s.stage ≡ true → (run : Run) → run_of j ≡ Some run → Settles parties points j s run

-- Whatever lawful calls led to this state, it is balanced by their journal.
abbrev pub AlwaysBalanced : State → Type 0
AlwaysBalanced s =
    (parties points : ℕ) (calls : List Call) → Reaches parties points s calls → Balanced parties points (journal parties points calls) s
