-- After any list of lawful calls on a new book, it is balanced by its journal.
use Rattle.std.proofs.Common.{◌≡◌, ℕ, true, false, ◌&&◌, List, [], ◌∷◌, map, get_or, Some, None, Ok, Err, sum, Option, Result, sym, refl, ap, ◌∙◌, subst}
use Rattle.std.proofs.lemmas.Bool.{cond_both, cond-true}
use Rattle.faults.specs.declared.Fault.{Fault}
use Rattle.tables.specs.Table.{Table, within}
use Rattle.balancing.specs.declared.rates.Rates.{Rates}
use Rattle.billing.specs.Run.{Inputs, settled}
use Rattle.book.specs.declared.connection.Connection.{Connection}
use Rattle.book.specs.declared.stage.Stage.{Stage}
use Rattle.book.specs.declared.stage.Stage.TheVariants.{Open, Drafted, Issued}
use Rattle.book.specs.Journey.{reached, LawfulCall, Lawful, Keeps}
use Rattle.book.specs.Model.{State, is_open, is_issued, dues_on, credits_on}
use Rattle.book.specs.Steps.{Call, connect, appoint, nominate, allocate, set_cost, begin, issue, withdraw, pay, payout, Answer, refused, step, Meaning, connection_at, appointed, nominated, inputs_of, obstacle, begun, drafted}
use Rattle.book.proofs.Fits.{clear_way}
use Rattle.book.proofs.Keeps.{held_none}
use Rattle.statement.specs.Balanced.{Settles, Balanced, AlwaysBalanced}
use Rattle.statement.specs.Journal.{Journal, Run, journal}
use Rattle.statement.proofs.Kept.{ev, Kept, refused_kept, connect_kept, appoint_kept, nominate_kept, allocate_kept, cost_kept, begin_kept, issue_kept, withdraw_kept, pay_kept, payout_kept, new_kept}

module _ (n m : ℕ) (j : Journal) (s : State) (x : Kept n m j s) where
  abbrev After : Call → Answer × State → Type 0
  After call p = Kept n m (ev call p.0 ∷ j) p.1

  no : (call : Call) (f : Fault) → After call (refused f, s)
  no call f = refused_kept n m j s x call f

  appoint_step : (sender point party : ℕ) (c : Option Connection) → connection_at s point ≡ c → is_open s.stage ≡ true → (within s.parties sender && (within s.points point && within s.parties party)) ≡ true → After (appoint sender point party) (appointed s sender point party c)
  appoint_step sender point party None at o r = no (appoint sender point party) _
  appoint_step sender point party (Some c) at o r =
      cond_both _ _ _ (After (appoint sender point party)) (λ _. appoint_kept n m j s x o sender point party c r at) (λ _. no (appoint sender point party) _)

  nominate_step : (sender point party : ℕ) (c : Option Connection) → connection_at s point ≡ c → is_open s.stage ≡ true → (within s.parties sender && (within s.points point && within s.parties party)) ≡ true → After (nominate sender point party) (nominated s sender point party c)
  nominate_step sender point party None at o r = no (nominate sender point party) _
  nominate_step sender point party (Some c) at o r =
      cond_both _ _ _ (After (nominate sender point party)) (λ _. nominate_kept n m j s x o sender point party c r at) (λ _. no (nominate sender point party) _)

  module _ (rates : Rates) (month reference : Table) (meaning : Meaning) (keeps : Keeps meaning) where
    i : Inputs
    i = inputs_of s rates month reference meaning

    draft_step : (r : Result ℕ Fault) → settled (inputs_of s rates month reference meaning) ≡ r → obstacle s month reference ≡ None → is_open s.stage ≡ true → After (begin rates month reference meaning) (drafted s (inputs_of s rates month reference meaning) r)
    draft_step (Ok excess) e clear o = begin_kept n m j s x o (record { rates = rates; month = month; reference = reference; meaning = meaning }) excess keeps clear e
    draft_step (Err f) e clear o = no (begin rates month reference meaning) f

    begin_step : (f : Option Fault) → obstacle s month reference ≡ f → After (begin rates month reference meaning) (begun s (inputs_of s rates month reference meaning) f)
    begin_step (Some f) e = no (begin rates month reference meaning) f
    begin_step None e = draft_step (settled (inputs_of s rates month reference meaning)) refl e (clear_way s month reference e).0

  pub step_kept : (call : Call) → LawfulCall call → After call (step s call)
  step_kept (connect point user) law =
      cond_both _ _ _ (After (connect point user))
      (λ o. cond_both _ _ _ (After (connect point user)) (λ r. connect_kept n m j s x o point user r) (λ _. no (connect point user) _))
      (λ _. no (connect point user) _)
  step_kept (appoint sender point party) law =
      cond_both _ _ _ (After (appoint sender point party))
      (λ o. cond_both _ _ _ (After (appoint sender point party)) (λ r. appoint_step sender point party (connection_at s point) refl o r) (λ _. no (appoint sender point party) _))
      (λ _. no (appoint sender point party) _)
  step_kept (nominate sender point party) law =
      cond_both _ _ _ (After (nominate sender point party))
      (λ o. cond_both _ _ _ (After (nominate sender point party)) (λ r. nominate_step sender point party (connection_at s point) refl o r) (λ _. no (nominate sender point party) _))
      (λ _. no (nominate sender point party) _)
  step_kept (allocate party parts) law =
      cond_both _ _ _ (After (allocate party parts))
      (λ o. cond_both _ _ _ (After (allocate party parts))
      (λ r. cond_both _ _ _ (After (allocate party parts)) (λ whole. allocate_kept n m j s x o party parts r whole) (λ _. no (allocate party parts) _))
      (λ _. no (allocate party parts) _))
      (λ _. no (allocate party parts) _)
  step_kept (set_cost provider cents) law =
      cond_both _ _ _ (After (set_cost provider cents))
      (λ o. cond_both _ _ _ (After (set_cost provider cents))
      (λ r. cond_both _ _ _ (After (set_cost provider cents)) (λ most. cost_kept n m j s x o provider cents r most) (λ _. no (set_cost provider cents) _))
      (λ _. no (set_cost provider cents) _))
      (λ _. no (set_cost provider cents) _)
  step_kept (begin rates month reference meaning) law = begin_step rates month reference meaning law.1.1 (obstacle s month reference) refl
  step_kept (issue number) law =
      cond_both _ _ _ (After (issue number))
      (λ d. cond_both _ _ _ (After (issue number)) (λ _. issue_kept n m j s x d number) (λ _. no (issue number) _))
      (λ _. no (issue number) _)
  step_kept (withdraw number) law =
      cond_both _ _ _ (After (withdraw number))
      (λ d. cond_both _ _ _ (After (withdraw number)) (λ _. withdraw_kept n m j s x d number) (λ _. no (withdraw number) _))
      (λ _. no (withdraw number) _)
  step_kept (pay payer cents) law =
      cond_both _ _ _ (After (pay payer cents))
      (λ d. cond_both _ _ _ (After (pay payer cents))
      (λ r. cond_both _ _ _ (After (pay payer cents)) (λ some. pay_kept n m j s x d payer cents r some) (λ _. no (pay payer cents) _))
      (λ _. no (pay payer cents) _))
      (λ _. no (pay payer cents) _)
  step_kept (payout payee cents) law =
      cond_both _ _ _ (After (payout payee cents))
      (λ d. cond_both _ _ _ (After (payout payee cents))
      (λ r. cond_both _ _ _ (After (payout payee cents))
      (λ some. cond_both _ _ _ (After (payout payee cents)) (λ covered. payout_kept n m j s x d payee cents r some covered) (λ _. no (payout payee cents) _))
      (λ _. no (payout payee cents) _))
      (λ _. no (payout payee cents) _))
      (λ _. no (payout payee cents) _)

pub all_kept : (n m : ℕ) → within 32 n ≡ true → within 32 m ≡ true → (calls : List Call) → Lawful calls → Kept n m (journal n m calls) (reached n m calls)
all_kept n m fn fm [] law = new_kept n m fn fm
all_kept n m fn fm (call ∷ calls) law = step_kept n m (journal n m calls) (reached n m calls) (all_kept n m fn fm calls law.1) call law.0

same_run : (a b : Run) → Some a ≡ Some b → a ≡ b
same_run a b e = cc

issued_not_open : (g : Stage) → is_issued g ≡ true → is_open g ≡ false
issued_not_open Open e = sym e
issued_not_open Drafted e = refl
issued_not_open Issued e = refl

balanced : (n m : ℕ) (j : Journal) (s : State) → Kept n m j s → Balanced n m j s
balanced n m j s x = record {
  closes = x.sound.even.0;
  purse_is_payments_less_payouts = x.purse;
  stage_is_the_last = x.stage;
  nothing_before_the_issue = λ e. let none = x.sound.calm e in (none.0, none.1, held_none s e);
  notes_are_the_formulas = λ e.
      let up = x.drawn e in
      record {
        run = up.run;
        run_is_the_last = up.is_last;
        shares = ap (map (λ n. n.share)) up.notes ∙ up.laws.noted_shares;
        charges = ap (map (λ n. n.charge)) up.notes ∙ up.laws.noted_charges;
        dues = ap dues_on up.notes ∙ up.laws.noted_dues;
        credits = ap credits_on up.notes ∙ up.laws.noted_credits;
      };
  issued_as_the_formulas = λ e run is.
      let up = x.drawn (issued_not_open s.stage e) in
      let dues = ap dues_on up.notes ∙ up.laws.noted_dues in
      let credits = ap credits_on up.notes ∙ up.laws.noted_credits in
      let same = same_run up.run run (sym up.is_last ∙ is) in
      subst (Settles n m j s) same (record {
        held = cond-true _ _ _ e ∙ up.excess;
        owing_is_due_less_payments = λ k lt. x.owing e k ∙ ap (λ (xs : List ℕ). get_or xs k 0) dues;
        owed_is_credit_less_payouts = λ k lt. x.owed e k ∙ ap (λ (xs : List ℕ). get_or xs k 0) credits;
        collected = x.collected e ∙ ap sum dues ∙ up.laws.dues_add_up ∙ up.laws.bills_add_up;
      });
}

pub always_balanced : (s : State) → AlwaysBalanced s
always_balanced s n m calls r =
    subst (λ (z : State). Balanced n m (journal n m calls) z) (sym r.there) (balanced n m _ _ (all_kept n m r.parties_fit r.points_fit calls r.lawful))
