-- What every accepted call keeps between a book and its journal.
use Rattle.std.proofs.Common.{◌≡◌, ℕ, ◌+◌, ◌-◌, ◌<◌, ◌≤◌, Bool, true, false, cond, ◌&&◌, eqb, leb, List, [], ◌∷◌, length, get_or, set, replicate, Some, None, Ok, sum, Option, unwrap_or, sym, refl, ap, ◌∙◌, subst, ⊎_elim, arith}
use Rattle.std.specs.Option.{option_map}
use Rattle.std.proofs.lemmas.List.FromFn.{fill_by_all, get_or-map-range_with_len}
use Rattle.std.proofs.lemmas.List.{length-replicate, get_or-replicate, get_or_past}
use Rattle.std.proofs.lemmas.Bool.{both_ways, and_parts, leb-true, cond-true, cond-false, cases_Bool, cases_lt, eqb-true}
use Rattle.faults.specs.declared.Fault.{Fault}
use Rattle.tables.specs.Table.{within}
use Rattle.allocations.specs.Parts.{Parts, payable, whole_parts}
use Rattle.billing.specs.Run.{Inputs, held_in, notes_in, settled, Laws}
use Rattle.billing.proofs.Laws.{laws_hold}
use Rattle.book.specs.declared.connection.Connection.{Connection}
use Rattle.book.specs.declared.stage.Stage.{Stage}
use Rattle.book.specs.declared.stage.Stage.TheVariants.{Open, Drafted, Issued}
use Rattle.book.specs.Model.{State, is_open, is_drafted, is_issued, dues_on, credits_on, own_bill, new_book}
use Rattle.book.specs.Journey.{Keeps}
use Rattle.book.specs.Sound.{Sound}
use Rattle.book.specs.Steps.{Call, connect, appoint, nominate, allocate, set_cost, begin, issue, withdraw, pay, payout, Answer, accepted, began, refused, connection_at, nominee_number, nominator_number, inputs_of, with_connection, with_allocation, with_cost, drafting, issuing, withdrawing, paying, paying_out, obstacle}
use Rattle.book.proofs.Keeps.{bounds, drafted_not_issued, open_not_issued, connection_sound, allocation_sound, cost_sound, issuing_sound, withdrawing_sound, paying_sound, paying_out_sound, drafting_sound, new_book_sound, lower}
use Rattle.book.proofs.Fits.{clear_way, fits, excess_is, ok_is, drawn}
use Rattle.statement.specs.Formulas.{user_of, nominator_of, nominee_of, allocation_of, cost_of, provider_number, run_of, stage_of, paid_by, paid_out_to, all_payments, all_payouts, inputs_by}
use Rattle.statement.specs.Journal.{Event, Journal, Run, or_else, add}
use Rattle.statement.proofs.Lists.{set_at, shown_new, shown_old, numbers_same}

abbrev pub ev : Call → Answer → Event
ev call answer = record { call = call; answer = answer }

-- nothing was paid or paid out yet
abbrev pub Quiet : Journal → Type 0
Quiet j = ((p : ℕ) → paid_by p j ≡ 0) × ((p : ℕ) → paid_out_to p j ≡ 0) × (all_payments j ≡ 0) × (all_payouts j ≡ 0)

-- the draft is that of the last run
pub record DrawnUp (n m : ℕ) (j : Journal) (s : State) : Type 0 where
  pub run : Run
  pub is_last : run_of j ≡ Some run
  pub notes : s.draft.notes ≡ notes_in (inputs_by n m j run)
  pub excess : s.draft.excess ≡ held_in (inputs_by n m j run)
  pub laws : Laws (inputs_by n m j run)

pub record Kept (n m : ℕ) (j : Journal) (s : State) : Type 0 where
  pub sound : Sound s
  pub parties : s.parties ≡ n
  pub points : s.points ≡ m
  pub stage : s.stage ≡ stage_of j
  pub users : (k : ℕ) → option_map (λ c. c.user) (get_or s.standing.connections k None) ≡ user_of (k + 1) j
  pub nominators : (k : ℕ) → option_map (λ c. c.nominator) (get_or s.standing.connections k None) ≡ nominator_of (k + 1) j
  pub nominees : (k : ℕ) → option_map (λ c. c.nominee) (get_or s.standing.connections k None) ≡ nominee_of (k + 1) j
  pub allocations : (k : ℕ) → k < n → get_or s.standing.allocations k [] ≡ allocation_of (k + 1) j
  pub cost : s.standing.cost ≡ cost_of j
  pub provider : s.standing.provider ≡ provider_number j
  pub drawn : is_open s.stage ≡ false → DrawnUp n m j s
  pub owing : is_issued s.stage ≡ true → (k : ℕ) → get_or s.accounts.owing k 0 + paid_by (k + 1) j ≡ get_or (dues_on s.draft.notes) k 0
  pub owed : is_issued s.stage ≡ true → (k : ℕ) → get_or s.accounts.owed k 0 + paid_out_to (k + 1) j ≡ get_or (credits_on s.draft.notes) k 0
  pub purse : s.accounts.purse + all_payouts j ≡ all_payments j
  pub collected : is_issued s.stage ≡ true → sum s.accounts.owing + all_payments j ≡ sum (dues_on s.draft.notes)
  pub quiet : is_issued s.stage ≡ false → Quiet j

module _ (n m : ℕ) (j : Journal) (s : State) (x : Kept n m j s) where
  -- a refusal leaves everything
  pub refused_kept : (call : Call) (f : Fault) → Kept n m (ev call (refused f) ∷ j) s
  refused_kept call f = record { sound = x.sound; parties = x.parties; points = x.points; stage = x.stage; users = x.users; nominators = x.nominators; nominees = x.nominees; allocations = x.allocations; cost = x.cost; provider = x.provider; drawn = λ o. let d = x.drawn o in record { run = d.run; is_last = d.is_last; notes = d.notes; excess = d.excess; laws = d.laws }; owing = x.owing; owed = x.owed; purse = x.purse; collected = x.collected; quiet = x.quiet }

  -- calls on an open book
  module _ (o : is_open s.stage ≡ true) where
    not_issued : is_issued s.stage ≡ true → ⊥
    not_issued e = both_ways (is_issued s.stage) (open_not_issued s.stage o) e

    not_drawn : is_open s.stage ≡ false → ⊥
    not_drawn e = both_ways (is_open s.stage) e o

    pub connect_kept : (point user : ℕ) → (within s.points point && within s.parties user) ≡ true
        → Kept n m (ev (connect point user) accepted ∷ j) (with_connection s point (record { user = user; nominator = user; nominee = user }))
    connect_kept point user r =
        let w = bounds s.points point (and_parts (within s.points point) (within s.parties user) r).0 in
        let cs = s.standing.connections in
        let l : point - 1 < length s.standing.connections = omega (arith, x.sound.long.0, w.0, w.1) in
        let c : Connection = record { user = user; nominator = user; nominee = user } in
        record {
          sound = connection_sound s x.sound point c;
          parties = x.parties;
          points = x.points;
          stage = x.stage;
          users = λ k. shown_new (λ c. c.user) cs point w.0 l c k _ (x.users k);
          nominators = λ k. shown_new (λ c. c.nominator) cs point w.0 l c k _ (x.nominators k);
          nominees = λ k. shown_new (λ c. c.nominee) cs point w.0 l c k _ (x.nominees k);
          allocations = x.allocations;
          cost = x.cost;
          provider = x.provider;
          drawn = λ e. absurd (not_drawn e);
          owing = λ e. absurd (not_issued e);
          owed = λ e. absurd (not_issued e);
          purse = x.purse;
          collected = λ e. absurd (not_issued e);
          quiet = x.quiet;
        }

    -- the point that a sender names is there
    there : (sender point party : ℕ) → (within s.parties sender && (within s.points point && within s.parties party)) ≡ true → (1 ≤ point) × (point - 1 < length s.standing.connections)
    there sender point party r =
        let parts = and_parts (within s.points point) (within s.parties party) (and_parts (within s.parties sender) (within s.points point && within s.parties party) r).1 in
        let w = bounds s.points point parts.0 in
        (w.0, omega (arith, x.sound.long.0, w.0, w.1))

    pub appoint_kept : (sender point party : ℕ) (c : Connection) → (within s.parties sender && (within s.points point && within s.parties party)) ≡ true → connection_at s point ≡ Some c
        → Kept n m (ev (appoint sender point party) accepted ∷ j) (with_connection s point (record { user = c.user; nominator = party; nominee = c.nominee }))
    appoint_kept sender point party c r at =
        let w = there sender point party r in
        let cs = s.standing.connections in
        let c' : Connection = record { user = c.user; nominator = party; nominee = c.nominee } in
        record {
          sound = connection_sound s x.sound point c';
          parties = x.parties;
          points = x.points;
          stage = x.stage;
          users = λ k. shown_old (λ c. c.user) cs point w.0 w.1 c c' k at refl ∙ x.users k;
          nominators = λ k. shown_new (λ c. c.nominator) cs point w.0 w.1 c' k _ (x.nominators k);
          nominees = λ k. shown_old (λ c. c.nominee) cs point w.0 w.1 c c' k at refl ∙ x.nominees k;
          allocations = x.allocations;
          cost = x.cost;
          provider = x.provider;
          drawn = λ e. absurd (not_drawn e);
          owing = λ e. absurd (not_issued e);
          owed = λ e. absurd (not_issued e);
          purse = x.purse;
          collected = λ e. absurd (not_issued e);
          quiet = x.quiet;
        }

    pub nominate_kept : (sender point party : ℕ) (c : Connection) → (within s.parties sender && (within s.points point && within s.parties party)) ≡ true → connection_at s point ≡ Some c
        → Kept n m (ev (nominate sender point party) accepted ∷ j) (with_connection s point (record { user = c.user; nominator = c.nominator; nominee = party }))
    nominate_kept sender point party c r at =
        let w = there sender point party r in
        let cs = s.standing.connections in
        let c' : Connection = record { user = c.user; nominator = c.nominator; nominee = party } in
        record {
          sound = connection_sound s x.sound point c';
          parties = x.parties;
          points = x.points;
          stage = x.stage;
          users = λ k. shown_old (λ c. c.user) cs point w.0 w.1 c c' k at refl ∙ x.users k;
          nominators = λ k. shown_old (λ c. c.nominator) cs point w.0 w.1 c c' k at refl ∙ x.nominators k;
          nominees = λ k. shown_new (λ c. c.nominee) cs point w.0 w.1 c' k _ (x.nominees k);
          allocations = x.allocations;
          cost = x.cost;
          provider = x.provider;
          drawn = λ e. absurd (not_drawn e);
          owing = λ e. absurd (not_issued e);
          owed = λ e. absurd (not_issued e);
          purse = x.purse;
          collected = λ e. absurd (not_issued e);
          quiet = x.quiet;
        }

    pub allocate_kept : (party : ℕ) (parts : Parts) → (within s.parties party && payable s.parties parts) ≡ true → whole_parts parts ≡ true
        → Kept n m (ev (allocate party parts) accepted ∷ j) (with_allocation s party parts)
    allocate_kept party parts r whole =
        let both = and_parts (within s.parties party) (payable s.parties parts) r in
        let w = bounds s.parties party both.0 in
        let l : party - 1 < length s.standing.allocations = omega (arith, x.sound.long.1, w.0, w.1) in
        record {
          sound = allocation_sound s x.sound party parts whole both.1;
          parties = x.parties;
          points = x.points;
          stage = x.stage;
          users = x.users;
          nominators = x.nominators;
          nominees = x.nominees;
          allocations = λ k lt. set_at [] s.standing.allocations party k parts w.0 l ∙ chosen (eqb party (k + 1)) parts (get_or s.standing.allocations k []) (k + 1) _ (x.allocations k lt);
          cost = x.cost;
          provider = x.provider;
          drawn = λ e. absurd (not_drawn e);
          owing = λ e. absurd (not_issued e);
          owed = λ e. absurd (not_issued e);
          purse = x.purse;
          collected = λ e. absurd (not_issued e);
          quiet = x.quiet;
        }
      where
        chosen : (b : Bool) (new old : Parts) (party : ℕ) (rest : Option Parts) → old ≡ unwrap_or rest (own_bill party) → cond b new old ≡ unwrap_or (or_else (cond b (Some new) None) rest) (own_bill party)
        chosen true new old party rest e = refl
        chosen false new old party rest e = e

    pub cost_kept : (provider cents : ℕ) → within s.parties provider ≡ true → leb cents 1000000000 ≡ true → Kept n m (ev (set_cost provider cents) accepted ∷ j) (with_cost s provider cents)
    cost_kept provider cents r most =
        let w = bounds s.parties provider r in
        record {
          sound = cost_sound s x.sound provider cents w.0 w.1 (leb-true cents 1000000000 most);
          parties = x.parties;
          points = x.points;
          stage = x.stage;
          users = x.users;
          nominators = x.nominators;
          nominees = x.nominees;
          allocations = x.allocations;
          cost = refl;
          provider = refl;
          drawn = λ e. absurd (not_drawn e);
          owing = λ e. absurd (not_issued e);
          owed = λ e. absurd (not_issued e);
          purse = x.purse;
          collected = λ e. absurd (not_issued e);
          quiet = x.quiet;
        }

    -- the amounts are worked out from the last accepted standing
    pub inputs_same : (run : Run) → inputs_of s run.rates run.month run.reference run.meaning ≡ inputs_by n m j run
    inputs_same run =
        let cs = s.standing.connections in
        let long : length s.standing.connections ≡ m = x.sound.long.0 ∙ x.points in
        let ee = numbers_same nominee_number (λ c. c.nominee) nominee_is cs m (λ k. nominee_of (k + 1) j) long (λ k lt. x.nominees k) in
        let er = numbers_same nominator_number (λ c. c.nominator) nominator_is cs m (λ k. nominator_of (k + 1) j) long (λ k lt. x.nominators k) in
        let el = fill_by_all (λ k. allocation_of (k + 1) j) s.standing.allocations n [] (x.sound.long.1 ∙ x.parties) x.allocations in
        together x.parties x.cost x.provider ee er el
      where
        nominee_is : (o : Option Connection) → nominee_number o ≡ unwrap_or (option_map (λ c. c.nominee) o) 0
        nominee_is None = refl
        nominee_is (Some c) = refl

        nominator_is : (o : Option Connection) → nominator_number o ≡ unwrap_or (option_map (λ c. c.nominator) o) 0
        nominator_is None = refl
        nominator_is (Some c) = refl

        together : {p p' c c' v v' : ℕ} {e e' r r' : List ℕ} {l l' : List Parts} → p ≡ p' → c ≡ c' → v ≡ v' → e ≡ e' → r ≡ r' → l ≡ l'
            → ◌≡◌ {A = Inputs} (record { parties = p; rates = run.rates; cost = c; provider = v; nominees = e; nominators = r; allocations = l; month = run.month; reference = run.reference; meaning = run.meaning }) (record { parties = p'; rates = run.rates; cost = c'; provider = v'; nominees = e'; nominators = r'; allocations = l'; month = run.month; reference = run.reference; meaning = run.meaning })
        together ep ec ev' ee er el = λ k. record { parties = ep k; rates = run.rates; cost = ec k; provider = ev' k; nominees = ee k; nominators = er k; allocations = el k; month = run.month; reference = run.reference; meaning = run.meaning }

    pub begin_kept : (run : Run) (excess : ℕ) → Keeps run.meaning → obstacle s run.month run.reference ≡ None → settled (inputs_of s run.rates run.month run.reference run.meaning) ≡ Ok excess
        → Kept n m (ev (begin run.rates run.month run.reference run.meaning) (began (s.run + 1)) ∷ j) (drafting s (notes_in (inputs_of s run.rates run.month run.reference run.meaning)) excess)
    begin_kept run excess keeps clear ok =
        let i = inputs_of s run.rates run.month run.reference run.meaning in
        let way = clear_way s run.month run.reference clear in
        let fit = fits s x.sound run.rates run.month run.reference run.meaning way.2 in
        let laws = laws_hold i keeps.0 keeps.1.0 fit (ok_is (settled i) excess ok) in
        let left = excess_is i excess ok in
        let made = drawn i excess (notes_in i) laws refl left in
        let same = inputs_same run in
        record {
          sound = drafting_sound s x.sound way.0 way.1 (notes_in i) excess made.0 made.1 made.2;
          parties = x.parties;
          points = x.points;
          stage = refl;
          users = x.users;
          nominators = x.nominators;
          nominees = x.nominees;
          allocations = x.allocations;
          cost = x.cost;
          provider = x.provider;
          drawn = λ _. record { run = run; is_last = refl; notes = ap notes_in same; excess = left ∙ ap held_in same; laws = subst Laws same laws };
          owing = λ e. absurd (both_ways false refl e);
          owed = λ e. absurd (both_ways false refl e);
          purse = x.purse;
          collected = λ e. absurd (both_ways false refl e);
          quiet = λ _. x.quiet (open_not_issued s.stage o);
        }

  -- calls on a drafted book
  module _ (d : is_drafted s.stage ≡ true) where
    drafted_not_open : (g : Stage) → is_drafted g ≡ true → is_open g ≡ false
    drafted_not_open Open e = sym e
    drafted_not_open Drafted e = refl
    drafted_not_open Issued e = refl

    pub issue_kept : (number : ℕ) → Kept n m (ev (issue number) accepted ∷ j) (issuing s)
    issue_kept number =
        let none = x.quiet (drafted_not_issued s.stage d) in
        let up = x.drawn (drafted_not_open s.stage d) in
        record {
          sound = issuing_sound s x.sound d;
          parties = x.parties;
          points = x.points;
          stage = refl;
          users = x.users;
          nominators = x.nominators;
          nominees = x.nominees;
          allocations = x.allocations;
          cost = x.cost;
          provider = x.provider;
          drawn = λ _. record { run = up.run; is_last = up.is_last; notes = up.notes; excess = up.excess; laws = up.laws };
          owing = λ _ k. omega (arith, none.0 (k + 1));
          owed = λ _ k. omega (arith, none.1 (k + 1));
          purse = x.purse;
          collected = λ _. omega (arith, none.2);
          quiet = λ e. absurd (both_ways true e refl);
        }

    pub withdraw_kept : (number : ℕ) → Kept n m (ev (withdraw number) accepted ∷ j) (withdrawing s)
    withdraw_kept number = record {
      sound = withdrawing_sound s x.sound d;
      parties = x.parties;
      points = x.points;
      stage = refl;
      users = x.users;
      nominators = x.nominators;
      nominees = x.nominees;
      allocations = x.allocations;
      cost = x.cost;
      provider = x.provider;
      drawn = λ e. absurd (both_ways true e refl);
      owing = λ e. absurd (both_ways false refl e);
      owed = λ e. absurd (both_ways false refl e);
      purse = x.purse;
      collected = λ e. absurd (both_ways false refl e);
      quiet = λ _. x.quiet (drafted_not_issued s.stage d);
    }

  -- the money of an issued book
  module _ (i : is_issued s.stage ≡ true) where
    not_quiet : is_issued s.stage ≡ false → ⊥
    not_quiet e = both_ways (is_issued s.stage) e i

    -- what is taken off a place of a list is what is added to the party's total
    moved_on : (xs : List ℕ) (party cents k before all : ℕ) → 1 ≤ party → party - 1 < length xs → cents ≤ get_or xs (party - 1) 0 → get_or xs k 0 + before ≡ all
        → get_or (set xs (party - 1) (get_or xs (party - 1) 0 - cents)) k 0 + add (cond (eqb party (k + 1)) (Some cents) None) before ≡ all
    moved_on xs party cents k before all low l most e =
        let at = set_at 0 xs party k (get_or xs (party - 1) 0 - cents) low l in
        ⊎_elim
        (λ yes.
        let place : party - 1 ≡ k = omega (arith, eqb-true party (k + 1) yes) in
        let same : get_or xs (party - 1) 0 ≡ get_or xs k 0 = ap (λ p. get_or xs p 0) place in
        rw yes (omega (arith, at ∙ cond-true _ _ _ yes)))
        (λ no'. rw no' (omega (arith, at ∙ cond-false _ _ _ no')))
        (cases_Bool (eqb party (k + 1)))

    pub pay_kept : (payer cents : ℕ) → within s.parties payer ≡ true → within (get_or s.accounts.owing (payer - 1) 0) cents ≡ true → Kept n m (ev (pay payer cents) accepted ∷ j) (paying s payer cents)
    pay_kept payer cents r some =
        let w = bounds s.parties payer r in
        let v = bounds (get_or s.accounts.owing (payer - 1) 0) cents some in
        let l : payer - 1 < length s.accounts.owing = omega (arith, x.sound.long.3, w.0, w.1) in
        record {
          sound = paying_sound s x.sound payer cents i r some;
          parties = x.parties;
          points = x.points;
          stage = x.stage;
          users = x.users;
          nominators = x.nominators;
          nominees = x.nominees;
          allocations = x.allocations;
          cost = x.cost;
          provider = x.provider;
          drawn = λ e. let up = x.drawn e in record { run = up.run; is_last = up.is_last; notes = up.notes; excess = up.excess; laws = up.laws };
          owing = λ e k. moved_on s.accounts.owing payer cents k (paid_by (k + 1) j) _ w.0 l v.1 (x.owing e k);
          owed = x.owed;
          purse = omega (arith, x.purse);
          collected = λ e. omega (arith, x.collected e, lower s.accounts.owing (payer - 1) cents _ l refl v.1);
          quiet = λ e. absurd (not_quiet e);
        }

    pub payout_kept : (payee cents : ℕ) → within s.parties payee ≡ true → within (get_or s.accounts.owed (payee - 1) 0) cents ≡ true → leb cents s.accounts.purse ≡ true → Kept n m (ev (payout payee cents) accepted ∷ j) (paying_out s payee cents)
    payout_kept payee cents r some covered =
        let w = bounds s.parties payee r in
        let v = bounds (get_or s.accounts.owed (payee - 1) 0) cents some in
        let enough = leb-true cents s.accounts.purse covered in
        let l : payee - 1 < length s.accounts.owed = omega (arith, x.sound.long.4, w.0, w.1) in
        record {
          sound = paying_out_sound s x.sound payee cents i r some enough;
          parties = x.parties;
          points = x.points;
          stage = x.stage;
          users = x.users;
          nominators = x.nominators;
          nominees = x.nominees;
          allocations = x.allocations;
          cost = x.cost;
          provider = x.provider;
          drawn = λ e. let up = x.drawn e in record { run = up.run; is_last = up.is_last; notes = up.notes; excess = up.excess; laws = up.laws };
          owing = x.owing;
          owed = λ e k. moved_on s.accounts.owed payee cents k (paid_out_to (k + 1) j) _ w.0 l v.1 (x.owed e k);
          purse = omega (arith, x.purse, enough);
          collected = x.collected;
          quiet = λ e. absurd (not_quiet e);
        }

-- a new book, of which nothing is written yet
no_connection : (m k : ℕ) → get_or (replicate {A = Option Connection} m None) k None ≡ None
no_connection m k = ⊎_elim (λ lt. get_or-replicate m k None None lt) (λ le. get_or_past (replicate {A = Option Connection} m None) k None (omega (arith, length-replicate {A = Option Connection} m None))) (cases_lt k m)

pub new_kept : (n m : ℕ) → within 32 n ≡ true → within 32 m ≡ true → Kept n m [] (new_book n m)
new_kept n m fn fm = record {
  sound = new_book_sound n m fn fm;
  parties = refl;
  points = refl;
  stage = refl;
  users = λ k. ap (option_map (λ c. c.user)) (no_connection m k);
  nominators = λ k. ap (option_map (λ c. c.nominator)) (no_connection m k);
  nominees = λ k. ap (option_map (λ c. c.nominee)) (no_connection m k);
  allocations = λ k lt. get_or-map-range_with_len (λ i. own_bill (i + 1)) 0 n k k [] lt (omega arith);
  cost = refl;
  provider = refl;
  drawn = λ e. absurd (both_ways true e refl);
  owing = λ e. absurd (both_ways false refl e);
  owed = λ e. absurd (both_ways false refl e);
  purse = refl;
  collected = λ e. absurd (both_ways false refl e);
  quiet = λ _. (λ p. refl, λ p. refl, refl, refl);
}
