-- A book whose run meets no obstacle is a standing that can be settled.
use Rattle.std.proofs.Common.{◌≡◌, ℕ, zero, suc, ◌+◌, ◌<◌, ◌≤◌, Bool, true, false, cond, eqb, ltb, leb, List, [], map, length, get_or, is_ok as isOk, Some, None, Ok, Err, sum, Result, sym, refl, ap, ◌∙◌, arith}
use Rattle.std.proofs.lemmas.List.{length-map}
use Rattle.std.proofs.lemmas.Bool.{and_from, le-leb, eq-eqb, ltb-true, cond-true}
use Rattle.faults.specs.declared.Fault.{Fault}
use Rattle.tables.specs.Table.{Table}
use Rattle.balancing.specs.declared.rates.Rates.{Rates}
use Rattle.allocations.specs.Parts.{Parts, all_below, payable, whole_parts}
use Rattle.billing.specs.declared.notes.Note.{Note}
use Rattle.billing.specs.Run.{Inputs, then, charges_in, claims_in, held_in, notes_in, settled, feeds_fit, ran, Fit, Laws, Settled}
use Rattle.billing.specs.Standing.{counted, all_payable, all_whole, checked}
use Rattle.billing.proofs.Fits.{fit_from, ran_settled}
use Rattle.book.specs.declared.state.Book.{Book}
use Rattle.book.specs.Journey.{LawfulCall}
use Rattle.book.specs.Model.{State, is_open, dues_on, credits_on}
use Rattle.book.specs.Sound.{Sound}
use Rattle.book.specs.Steps.{Call, Answer, began, refused, step, begin, begun, drafted, drafting, Meaning, obstacle, all_connected, inputs_of, nominee_number, nominator_number}
use Rattle.book.specs.View.{view, Stepped}
use Rattle.book.proofs.Keeps.{drafting_sound}
use Rattle.book.proofs.Onward.{onward_from}

below_all : (p : ℕ → Bool) (n : ℕ) → ((q : ℕ) → q < n → p q ≡ true) → all_below p n ≡ true
below_all p zero h = refl
below_all p (suc n) h = and_from (all_below p n) (p n) (below_all p n (λ q lt. h q (omega arith))) (h n (omega arith))

-- each test of an obstacle passed
tests : (f g h k : Fault) (a b c d : Bool) → cond a (cond b (cond c (cond d None (Some f)) (Some g)) (Some h)) (Some k) ≡ None → (a ≡ true) × (b ≡ true) × (c ≡ true) × (d ≡ true)
tests f g h k true true true true e = (refl, refl, refl, refl)
tests f g h k true true true false e = let z : ◌≡◌ {A = ℕ} 0 1 = cc in absurd (omega arith)
tests f g h k true true false d e = let z : ◌≡◌ {A = ℕ} 0 1 = cc in absurd (omega arith)
tests f g h k true false c d e = let z : ◌≡◌ {A = ℕ} 0 1 = cc in absurd (omega arith)
tests f g h k false b c d e = let z : ◌≡◌ {A = ℕ} 0 1 = cc in absurd (omega arith)

pub clear_way : (s : State) (month reference : Table) → obstacle s month reference ≡ None → (is_open s.stage ≡ true) × (s.run < 1000) × (feeds_fit s.points month reference ≡ true)
clear_way s month reference e =
    let t = tests _ _ _ _ (is_open s.stage) (ltb s.run 1000) (feeds_fit s.points month reference) (all_connected s.standing.connections) e in
    (t.0, ltb-true s.run 1000 t.1, t.2)

module _ (s : State) (h : Sound s) (rates : Rates) (month reference : Table) (meaning : Meaning) where
  as_many : length (map nominee_number s.standing.connections) ≡ s.points
  as_many = length-map s.standing.connections nominee_number ∙ h.long.0

  passes : checked s.parties (map nominee_number s.standing.connections) (map nominator_number s.standing.connections) s.standing.allocations s.standing.cost s.standing.provider ≡ Ok tt
  unfolding counted all_payable all_whole
  passes =
      let n = s.parties in
      let nominees = map nominee_number s.standing.connections in
      let nominators = map nominator_number s.standing.connections in
      let lists = s.standing.allocations in
      let many : length (map nominator_number s.standing.connections) ≡ length (map nominee_number s.standing.connections) = length-map s.standing.connections nominator_number ∙ sym (length-map s.standing.connections nominee_number) in
      let first = and_from (leb 1 n) _ (le-leb 1 n h.counted.0) (and_from (leb n 32) _ (le-leb n 32 h.counted.1) (and_from (eqb (length nominators) (length nominees)) _ (eq-eqb _ _ many) (and_from (eqb (length lists) n) _ (eq-eqb _ _ h.long.1) h.bounded.1))) in
      let second = below_all (λ q. payable n (get_or lists q [])) (length lists) (λ q lt. (h.paid q (omega (arith, h.long.1))).1) in
      let third = below_all (λ q. whole_parts (get_or lists q [])) (length lists) (λ q lt. (h.paid q (omega (arith, h.long.1))).0) in
      cond-true _ _ _ first ∙ cond-true _ _ _ second ∙ cond-true _ _ _ third ∙ cond-true _ _ _ (le-leb s.standing.cost 1000000000 h.bounded.0)

  pub fits : feeds_fit s.points month reference ≡ true → Fit (inputs_of s rates month reference meaning)
  fits f = fit_from (inputs_of s rates month reference meaning) passes (ap (λ n. feeds_fit n month reference) as_many ∙ f)

  pub settles : feeds_fit s.points month reference ≡ true → ran (inputs_of s rates month reference meaning) ≡ settled (inputs_of s rates month reference meaning)
  settles f = ran_settled (inputs_of s rates month reference meaning) passes (ap (λ n. feeds_fit n month reference) as_many ∙ f)

-- what a settled run answers is what it leaves to be held
answered : (f : Fault) (a b : Bool) (r : Result (Unit {0}) Fault) (h x : ℕ) → cond a (cond b (then r (Ok h)) (Err f)) (Err f) ≡ Ok x → x ≡ h
answered f true true (Ok u) h x e = cc
answered f true true (Err g) h x e = let z : ◌≡◌ {A = ℕ} 0 1 = cc in absurd (omega arith)
answered f true false r h x e = let z : ◌≡◌ {A = ℕ} 0 1 = cc in absurd (omega arith)
answered f false b r h x e = let z : ◌≡◌ {A = ℕ} 0 1 = cc in absurd (omega arith)

pub excess_is : (i : Inputs) (x : ℕ) → settled i ≡ Ok x → x ≡ held_in i
unfolding settled
excess_is i x e = answered _ (leb (sum (charges_in i)) 1000000000) (leb (sum (claims_in i)) 1000000000) _ (held_in i) x e

pub ok_is : (r : Result ℕ Fault) (x : ℕ) → r ≡ Ok x → isOk r ≡ true
ok_is r x e = ap isOk e

-- the dues of a settled run are its credits and what it leaves
pub drawn : (i : Inputs) (x : ℕ) (notes : List Note) → Laws i → notes ≡ notes_in i → x ≡ held_in i → (length notes ≡ i.parties) × (sum (dues_on notes) ≡ sum (credits_on notes) + x) × (sum (dues_on notes) ≤ 2000000000)
drawn i x notes laws e h =
    let dues = ap (λ ns. sum (dues_on ns)) e ∙ ap sum laws.noted_dues in
    let credits = ap (λ ns. sum (credits_on ns)) e ∙ ap sum laws.noted_credits in (
      ap length e ∙ laws.one_note_each,
      omega (arith, dues, credits, laws.dues_add_up, laws.bills_add_up, laws.credits_add_up),
      omega (arith, dues, laws.dues_add_up, laws.bills_add_up, laws.bounded),
    )

-- inputs that are the same, list by list
pub inputs_same : (s : State) (rates : Rates) (month reference : Table) (meaning : Meaning) (n : ℕ) (nominees nominators : List ℕ) (lists : List Parts)
    → n ≡ s.parties → nominees ≡ map nominee_number s.standing.connections → nominators ≡ map nominator_number s.standing.connections → lists ≡ s.standing.allocations
    → ◌≡◌ {A = Inputs} (record { parties = n; rates = rates; cost = s.standing.cost; provider = s.standing.provider; nominees = nominees; nominators = nominators; allocations = lists; month = month; reference = reference; meaning = meaning }) (inputs_of s rates month reference meaning)
inputs_same s rates month reference meaning n nominees nominators lists en ee er el =
    λ k. record { parties = en k; rates = rates; cost = s.standing.cost; provider = s.standing.provider; nominees = ee k; nominators = er k; allocations = el k; month = month; reference = reference; meaning = meaning }

-- without an obstacle the amounts decide
pub begin_ok : (s : State) (rates : Rates) (month reference : Table) (meaning : Meaning) (x : ℕ) → obstacle s month reference ≡ None → settled (inputs_of s rates month reference meaning) ≡ Ok x
    → step s (begin rates month reference meaning) ≡ (began (s.run + 1), drafting s (notes_in (inputs_of s rates month reference meaning)) x)
begin_ok s rates month reference meaning x clear e =
    ap (begun s (inputs_of s rates month reference meaning)) clear ∙ ap (drafted s (inputs_of s rates month reference meaning)) e

pub begin_err : (s : State) (rates : Rates) (month reference : Table) (meaning : Meaning) (f : Fault) → obstacle s month reference ≡ None → settled (inputs_of s rates month reference meaning) ≡ Err f
    → step s (begin rates month reference meaning) ≡ (refused f, s)
begin_err s rates month reference meaning f clear e =
    ap (begun s (inputs_of s rates month reference meaning)) clear ∙ ap (drafted s (inputs_of s rates month reference meaning)) e

pub begin_stopped : (s : State) (rates : Rates) (month reference : Table) (meaning : Meaning) (f : Fault) → obstacle s month reference ≡ Some f → step s (begin rates month reference meaning) ≡ (refused f, s)
begin_stopped s rates month reference meaning f e = ap (begun s (inputs_of s rates month reference meaning)) e

-- a call that was refused
pub refusal : (b : Book) (call : Call) (f : Fault) → LawfulCall call → step (view b) call ≡ (refused f, view b) → Stepped b b call (refused f)
refusal b call f law e =
    let becomes = sym (ap (λ (p : Answer × State). p.1) e) in
    record {
      answers = sym (ap (λ (p : Answer × State). p.0) e);
      becomes = becomes;
      unchanged = λ _. refl;
      lawful = law;
      onward = onward_from (view b) (view b) call becomes law;
    }

-- a run that was settled is begun: what the book becomes, and that it is sound
pub begun_well : (s : State) → Sound s → (rates : Rates) (month reference : Table) (meaning : Meaning) (r : Result ℕ Fault) (x : ℕ) (before after notes : List Note)
    → obstacle s month reference ≡ None
    → Settled (inputs_of s rates month reference meaning) r before after
    → r ≡ Ok x → notes ≡ after
    → (began (s.run + 1) ≡ (step s (begin rates month reference meaning)).0) × (drafting s notes x ≡ (step s (begin rates month reference meaning)).1) × Sound (drafting s notes x)
begun_well s h rates month reference meaning r x before after notes clear settles-it ok e =
    let i = inputs_of s rates month reference meaning in
    let way = clear_way s month reference clear in
    let same = settles s h rates month reference meaning way.2 in
    let ran-ok : ran (inputs_of s rates month reference meaning) ≡ Ok x = sym settles-it.answers ∙ ok in
    let settled-ok = sym same ∙ ran-ok in
    let goes = begin_ok s rates month reference meaning x clear settled-ok in
    let is_ok = ok_is (ran i) x ran-ok in
    let noted = e ∙ settles-it.notes_are ∙ cond-true _ _ _ is_ok in
    let made = drawn i x notes (settles-it.laws is_ok) noted (excess_is i x settled-ok) in (
      sym (ap (λ (p : Answer × State). p.0) goes),
      ap (λ (ns : List Note). drafting s ns x) noted ∙ sym (ap (λ (p : Answer × State). p.1) goes),
      drafting_sound s h way.0 way.1 notes x made.0 made.1 made.2,
    )

pub begun_ill : (s : State) → Sound s → (rates : Rates) (month reference : Table) (meaning : Meaning) (r : Result ℕ Fault) (f : Fault) (before after : List Note)
    → obstacle s month reference ≡ None
    → Settled (inputs_of s rates month reference meaning) r before after
    → r ≡ Err f → step s (begin rates month reference meaning) ≡ (refused f, s)
begun_ill s h rates month reference meaning r f before after clear settles-it ill =
    let way = clear_way s month reference clear in
    begin_err s rates month reference meaning f clear (sym (settles s h rates month reference meaning way.2) ∙ sym settles-it.answers ∙ ill)
