-- Each change of a book keeps what holds of every book.
use Rattle.std.proofs.Common.{◌≡◌, ℕ, zero, suc, ◌+◌, ◌-◌, ◌<◌, ◌≤◌, Bool, true, false, cond, ◌&&◌, eqb, leb, List, [], ◌∷◌, ◌++◌, map, length, get_or, set, replicate, Some, None, sum, sym, refl, ap, ◌∙◌, subst, ⊎_elim, arith}
use Rattle.std.proofs.lemmas.List.FromFn.{length-map-range_with_len, get_or-map-range_with_len, map-range_with_len_more}
use Rattle.std.proofs.lemmas.List.{map_push, length-map, length-set, length-replicate, get_or-set_same, get_or-set_other}
use Rattle.std.proofs.lemmas.List.Sums.{sum_by-set, get_or-le-sum_by, sum_by-cons}
use Rattle.std.proofs.lemmas.Bool.{both_ways, and_parts, and_from, leb-true, le-leb, cases_eq, eq-eqb, ne_eqb, cond-true, cond-false}
use Rattle.faults.specs.declared.Fault.{Fault}
use Rattle.tables.specs.Table.{within}
use Rattle.allocations.specs.Parts.{Parts, payable, whole_parts}
use Rattle.allocations.specs.Falls.{parts_of}
use Rattle.allocations.specs.declared.allocation.Allocation.{Allocation}
use Rattle.billing.specs.declared.notes.Note.{Note}
use Rattle.billing.specs.Standing.{provided}
use Rattle.book.specs.declared.connection.Connection.{Connection}
use Rattle.book.specs.declared.stage.Stage.{Stage}
use Rattle.book.specs.declared.stage.Stage.TheVariants.{Open, Drafted, Issued}
use Rattle.book.specs.Model.{State, Accounts, Draft, is_open, is_drafted, is_issued, held, dues_on, credits_on, blank, own_bill, own_bills, new_book}
use Rattle.book.specs.Journey.{Came}
use Rattle.book.specs.Sound.{Sound, Counted, Long, Bounded, Paid, Drawn, Even, Calm}
use Rattle.book.specs.Steps.{accepted, step, appoint, nominate, appointed, nominated, connection_at, with_connection, with_allocation, with_cost, with_accounts, paying, paying_out, issuing, withdrawing}

-- what holds of every book, fact by fact
pub ghosts : (s : State) → Sound s → Came s → record { counted : Counted s; long : Long s; bounded : Bounded s; paid : Paid s; drawn : Drawn s; even : Even s; calm : Calm s; came : Came s }
ghosts s h e = record { counted = h.counted; long = h.long; bounded = h.bounded; paid = h.paid; drawn = h.drawn; even = h.even; calm = h.calm; came = e }

pub bounds : (n k : ℕ) → within n k ≡ true → (1 ≤ k) × (k ≤ n)
bounds n k e = let p = and_parts (leb 1 k) (leb k n) e in (leb-true 1 k p.0, leb-true k n p.1)

pub drafted_not_issued : (g : Stage) → is_drafted g ≡ true → is_issued g ≡ false
drafted_not_issued Open e = refl
drafted_not_issued Drafted e = refl
drafted_not_issued Issued e = sym e

pub open_not_issued : (g : Stage) → is_open g ≡ true → is_issued g ≡ false
open_not_issued Open e = refl
open_not_issued Drafted e = refl
open_not_issued Issued e = sym e

-- nothing is held before the issue
pub held_none : (s : State) → is_issued s.stage ≡ false → held s ≡ 0
held_none s e = cond-false (is_issued s.stage) s.draft.excess 0 e

pub lower : (xs : List ℕ) (i c v : ℕ) → i < length xs → v ≡ get_or xs i 0 → c ≤ v → sum (set xs i (v - c)) + c ≡ sum xs
lower xs i c v l e h = omega (arith, sum_by-set (λ x. x) xs i (v - c) 0 l)

pub connection_sound : (s : State) → Sound s → (point : ℕ) (c : Connection) → Sound (with_connection s point c)
connection_sound s h point c = record {
  counted = h.counted;
  long = (length-set s.standing.connections (point - 1) (Some c) ∙ h.long.0, h.long.1, h.long.2, h.long.3, h.long.4);
  bounded = h.bounded;
  paid = h.paid;
  drawn = h.drawn;
  even = h.even;
  calm = h.calm;
}

-- one more allocation that is whole, among those that are
pub allotted : (n i : ℕ) (xs : List Parts) (parts : Parts) → length xs ≡ n → whole_parts parts ≡ true → payable n parts ≡ true
    → ((q : ℕ) → q < n → (whole_parts (get_or xs q []) ≡ true) × (payable n (get_or xs q []) ≡ true))
    → (q : ℕ) → q < n → (whole_parts (get_or (set xs i parts) q []) ≡ true) × (payable n (get_or (set xs i parts) q []) ≡ true)
allotted n i xs parts long whole pays old q lt =
    let P : Parts → Type 0 = λ p. (whole_parts p ≡ true) × (payable n p ≡ true) in
    ⊎_elim
    (λ e. subst (λ k. P (get_or (set xs i parts) k [])) (sym e) (subst P (sym (get_or-set_same xs i parts [] (omega arith))) (whole, pays)))
    (λ ne. subst P (sym (get_or-set_other xs i q parts [] ne)) (old q lt))
    (cases_eq q i)

pub allocation_sound : (s : State) → Sound s → (party : ℕ) (parts : Parts) → whole_parts parts ≡ true → payable s.parties parts ≡ true → Sound (with_allocation s party parts)
allocation_sound s h party parts whole pays = record {
  counted = h.counted;
  long = (h.long.0, length-set s.standing.allocations (party - 1) parts ∙ h.long.1, h.long.2, h.long.3, h.long.4);
  bounded = h.bounded;
  paid = allotted s.parties (party - 1) s.standing.allocations parts h.long.1 whole pays h.paid;
  drawn = h.drawn;
  even = h.even;
  calm = h.calm;
}

-- a party can be the provider of any cost
provided_party : (n cost provider : ℕ) → 1 ≤ provider → provider ≤ n → provided n cost provider ≡ true
provided_party n cost provider low high =
    cond-false (eqb provider 0) (eqb cost 0) (leb provider n) (ne_eqb provider 0 (λ e. omega arith)) ∙ le-leb provider n high

pub cost_sound : (s : State) → Sound s → (provider cents : ℕ) → 1 ≤ provider → provider ≤ s.parties → cents ≤ 1000000000 → Sound (with_cost s provider cents)
cost_sound s h provider cents low high most = record {
  counted = h.counted;
  long = h.long;
  bounded = (most, provided_party s.parties cents provider low high, h.bounded.2);
  paid = h.paid;
  drawn = h.drawn;
  even = h.even;
  calm = h.calm;
}

-- another stage, draft and accounts
abbrev pub moved : State → Stage → ℕ → Draft → Accounts → State
moved s stage run draft accounts = record { stage = stage; parties = s.parties; points = s.points; standing = s.standing; run = run; draft = draft; accounts = accounts }

pub issuing_sound : (s : State) → Sound s → is_drafted s.stage ≡ true → Sound (issuing s)
issuing_sound s h d =
    let none = h.calm (drafted_not_issued s.stage d) in
    record {
      counted = h.counted;
      long = (h.long.0, h.long.1, h.long.2, length-map s.draft.notes (λ n. n.due) ∙ h.long.2, length-map s.draft.notes (λ n. n.credit) ∙ h.long.2);
      bounded = h.bounded;
      paid = h.paid;
      drawn = h.drawn;
      even = (omega (arith, h.drawn.0, none.2), omega (arith, h.drawn.1, none.2));
      calm = λ e. absurd (both_ways true e refl);
    }

sum_none : (f : Note → ℕ) → f blank ≡ 0 → (n : ℕ) → sum (map f (replicate n blank)) ≡ 0
sum_none f e zero = refl
sum_none f e (suc n) = sum_by-cons (λ x. x) (f blank) (map f (replicate n blank)) ∙ omega (arith, e, sum_none f e n)

pub blank_drawn : (n : ℕ) (notes : List Note) → notes ≡ replicate n blank → (length notes ≡ n) × (sum (dues_on notes) ≡ 0) × (sum (credits_on notes) ≡ 0)
blank_drawn n notes e = (
  ap length e ∙ length-replicate n blank,
  ap (λ ns. sum (dues_on ns)) e ∙ sum_none (λ x. x.due) refl n,
  ap (λ ns. sum (credits_on ns)) e ∙ sum_none (λ x. x.credit) refl n,
)

pub withdrawing_sound : (s : State) → Sound s → is_drafted s.stage ≡ true → Sound (withdrawing s)
withdrawing_sound s h d =
    let none = blank_drawn s.parties (replicate s.parties blank) refl in
    let before = drafted_not_issued s.stage d in
    record {
      counted = h.counted;
      long = (h.long.0, h.long.1, none.0, h.long.3, h.long.4);
      bounded = h.bounded;
      paid = h.paid;
      drawn = (omega (arith, none.1, none.2), omega (arith, none.1));
      even = (omega (arith, h.even.0, held_none s before), h.even.1);
      calm = λ _. h.calm before;
    }

-- the accounts of an issued book change, and what is even stays even
accounts_sound : (s : State) → Sound s → is_issued s.stage ≡ true → (a : Accounts) → length a.owing ≡ s.parties → length a.owed ≡ s.parties
    → sum a.owing + a.purse ≡ sum a.owed + held s → sum a.owing + a.purse ≤ 2000000000 → Sound (with_accounts s a)
accounts_sound s h i a lo lw even most = record {
  counted = h.counted;
  long = (h.long.0, h.long.1, h.long.2, lo, lw);
  bounded = h.bounded;
  paid = h.paid;
  drawn = h.drawn;
  even = (even, most);
  calm = λ f. absurd (both_ways (is_issued s.stage) f i);
}

pub paying_sound : (s : State) → Sound s → (payer cents : ℕ) → is_issued s.stage ≡ true → within s.parties payer ≡ true → within (get_or s.accounts.owing (payer - 1) 0) cents ≡ true → Sound (paying s payer cents)
paying_sound s h payer cents i r m =
    let v = get_or s.accounts.owing (payer - 1) 0 in
    let a = bounds s.parties payer r in
    let b = bounds v cents m in
    let l : payer - 1 < length s.accounts.owing = omega (arith, h.long.3, a.0, a.1) in
    let down = lower s.accounts.owing (payer - 1) cents v l refl b.1 in
    accounts_sound s h i _ (length-set s.accounts.owing (payer - 1) (v - cents) ∙ h.long.3) h.long.4 (omega (arith, down, h.even.0)) (omega (arith, down, h.even.1))

pub paying_out_sound : (s : State) → Sound s → (payee cents : ℕ) → is_issued s.stage ≡ true → within s.parties payee ≡ true → within (get_or s.accounts.owed (payee - 1) 0) cents ≡ true → cents ≤ s.accounts.purse → Sound (paying_out s payee cents)
paying_out_sound s h payee cents i r m p =
    let v = get_or s.accounts.owed (payee - 1) 0 in
    let a = bounds s.parties payee r in
    let b = bounds v cents m in
    let l : payee - 1 < length s.accounts.owed = omega (arith, h.long.4, a.0, a.1) in
    let down = lower s.accounts.owed (payee - 1) cents v l refl b.1 in
    accounts_sound s h i _ h.long.3 (length-set s.accounts.owed (payee - 1) (v - cents) ∙ h.long.4) (omega (arith, down, h.even.0)) (omega (arith, h.even.1))

sum_zeros : (n : ℕ) → sum (replicate n 0) ≡ 0
sum_zeros zero = refl
sum_zeros (suc n) = sum_by-cons (λ x. x) 0 (replicate n 0) ∙ omega (arith, sum_zeros n)

-- a draft whose dues are its credits and its excess
pub drafting_sound : (s : State) → Sound s → is_open s.stage ≡ true → s.run < 1000 → (notes : List Note) (excess : ℕ) → length notes ≡ s.parties
    → sum (dues_on notes) ≡ sum (credits_on notes) + excess → sum (dues_on notes) ≤ 2000000000
    → Sound (moved s Drafted (s.run + 1) (record { notes = notes; excess = excess }) s.accounts)
drafting_sound s h o left notes excess long drawn most =
    let before = open_not_issued s.stage o in
    record {
      counted = h.counted;
      long = (h.long.0, h.long.1, long, h.long.3, h.long.4);
      bounded = (h.bounded.0, h.bounded.1, omega arith);
      paid = h.paid;
      drawn = (drawn, most);
      even = (omega (arith, h.even.0, held_none s before), h.even.1);
      calm = λ _. h.calm before;
    }

-- no refusal: the test passed
pub passed : (t : Bool) (f : Fault) → None ≡ cond t None (Some f) → t ≡ true
passed true f e = refl
passed false f e = let z : ◌≡◌ {A = ℕ} 0 1 = cc in absurd (omega arith)

own_whole : (party : ℕ) → whole_parts (own_bill party) ≡ true
unfolding whole_parts
own_whole party = refl

own_payable : (n party : ℕ) → 1 ≤ party → party ≤ n → payable n (own_bill party) ≡ true
unfolding payable
own_payable n party low high = and_from (leb 1 party) (leb party n) (le-leb 1 party low) (le-leb party n high)

-- each party pays its own bill
own_bill_at : (n q : ℕ) → q < n → get_or (own_bills n) q [] ≡ own_bill (q + 1)
own_bill_at n q lt = get_or-map-range_with_len (λ i. own_bill (i + 1)) 0 n q q [] lt (omega arith)

pub own_bills_more : (n : ℕ) → own_bills (n + 1) ≡ own_bills n ++ own_bill (n + 1) ∷ []
own_bills_more n = map-range_with_len_more (λ i. own_bill (i + 1)) 0 n n (omega arith)

-- one more party pays its own bill
pub own_bills_next : (bills : List Allocation) (a : Allocation) (party : ℕ) → 1 ≤ party → map parts_of bills ≡ own_bills (party - 1) → parts_of a ≡ own_bill party → map parts_of (bills ++ a ∷ []) ≡ own_bills party
own_bills_next bills a party low before own =
    let same : party - 1 + 1 ≡ party = omega arith in
    map_push parts_of bills a ∙ ap (λ (xs : List Parts). xs ++ parts_of a ∷ []) before ∙ ap (λ (p : Parts). own_bills (party - 1) ++ p ∷ []) own
    ∙ ap (λ n. own_bills (party - 1) ++ own_bill n ∷ []) (sym same) ∙ sym (own_bills_more (party - 1)) ∙ ap own_bills same

-- a new book
pub new_book_sound : (parties points : ℕ) → within 32 parties ≡ true → within 32 points ≡ true → Sound (new_book parties points)
new_book_sound parties points i j =
    let p = bounds 32 parties i in
    let q = bounds 32 points j in
    let drawn = blank_drawn parties (replicate parties blank) refl in
    let none = sum_zeros parties in
    record {
      counted = (p.0, p.1, q.0, q.1);
      long = (length-replicate points None, length-map-range_with_len (λ k. own_bill (k + 1)) 0 parties, drawn.0, length-replicate parties 0, length-replicate parties 0);
      bounded = (omega arith, refl, omega arith);
      paid = λ q lt. let P : Parts → Type 0 = λ a. (whole_parts a ≡ true) × (payable parties a ≡ true) in subst P (sym (own_bill_at parties q lt)) (own_whole (q + 1), own_payable parties (q + 1) (omega arith) (omega arith));
      drawn = (omega (arith, drawn.1, drawn.2), omega (arith, drawn.1));
      even = (omega (arith, none), omega (arith, none));
      calm = λ _. (none, none, refl);
    }

-- a nominator is appointed, and a nominee nominated, by who is entitled
pub appoint_is : (s : State) (sender point nominator : ℕ) (c : Connection) → is_open s.stage ≡ true → (within s.parties sender && (within s.points point && within s.parties nominator)) ≡ true → connection_at s point ≡ Some c → sender ≡ c.user
    → step s (appoint sender point nominator) ≡ (accepted, with_connection s point (record { user = c.user; nominator = nominator; nominee = c.nominee }))
appoint_is s sender point nominator c o r at same =
    cond-true _ _ _ o ∙ cond-true _ _ _ r ∙ ap (appointed s sender point nominator) at ∙ cond-true _ _ _ (eq-eqb sender c.user same)

pub nominate_is : (s : State) (sender point nominee : ℕ) (c : Connection) → is_open s.stage ≡ true → (within s.parties sender && (within s.points point && within s.parties nominee)) ≡ true → connection_at s point ≡ Some c → sender ≡ c.nominator
    → step s (nominate sender point nominee) ≡ (accepted, with_connection s point (record { user = c.user; nominator = c.nominator; nominee = nominee }))
nominate_is s sender point nominee c o r at same =
    cond-true _ _ _ o ∙ cond-true _ _ _ r ∙ ap (nominated s sender point nominee) at ∙ cond-true _ _ _ (eq-eqb sender c.nominator same)
