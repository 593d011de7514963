-- A payment and a payout, on the line of a party.
use Rattle.std.proofs.Common.{◌≡◌, ℕ, ◌+◌, ◌-◌, ◌<◌, ◌≤◌, true, length, get_or, set, vec_items, sym, ap, ◌∙◌, subst, arith}
use Rattle.std.proofs.Math.Seq.{map-set_same}
use Rattle.std.proofs.lemmas.Bool.{cond-true, le-leb}
use Rattle.std.proofs.lemmas.List.{length-map, map-set}
use Rattle.tables.specs.Table.{within}
use Rattle.book.specs.declared.line.Line.{Line}
use Rattle.book.specs.declared.state.Book.{Book}
use Rattle.book.specs.Model.{State, is_issued, state_of, notes_on, owing_on, owed_on}
use Rattle.book.specs.Sound.{Sound}
use Rattle.book.specs.Steps.{Answer, accepted, step, pay, payout, paying, paying_out}
use Rattle.book.specs.View.{view}
use Rattle.book.proofs.Keeps.{paying_sound, paying_out_sound}
use Rattle.book.proofs.Lines.{no_line, line_shows}

-- a party has a line
pub line_there : (b : Book) (i : ℕ) → i < b.parties → i < length (vec_items b.lines)
line_there b i lt = omega (arith, length-map (vec_items b.lines) (λ (line : Line). line.owing), b.sound.long.3)

-- the line of a payer, with what is left
pub paid : (b : Book) (payer cents i left : ℕ) (seen line : Line) → i < b.parties → i ≡ payer - 1 → seen ≡ get_or (vec_items b.lines) i no_line → line ≡ get_or (vec_items b.lines) i no_line → left ≡ seen.owing - cents
    → is_issued b.stage ≡ true → within b.parties payer ≡ true → within seen.owing cents ≡ true
    → record {
      fits : b.purse + cents ≤ 2000000000;
      sound : Sound (step (view b) (pay payer cents)).1;
      says : accepted ≡ (step (view b) (pay payer cents)).0;
      goes : state_of b.stage b.parties b.points (vec_items b.connections) (vec_items b.allocations) b.cost b.provider b.run (set (vec_items b.lines) i (record { note = line.note; owing = left; owed = line.owed })) b.excess (b.purse + cents) ≡ (step (view b) (pay payer cents)).1;
    }
paid b payer cents i left seen line lt place found at less issued there inside =
    let lines = vec_items b.lines in
    let after : Line = record { note = line.note; owing = left; owed = line.owed } in
    let v = line_shows (λ l. l.owing) lines i (payer - 1) seen (line_there b i lt) place found in
    let inside' = subst (λ x. within x cents ≡ true) v inside in
    let is : step (view b) (pay payer cents) ≡ (accepted, paying (view b) payer cents) = cond-true _ _ _ issued ∙ cond-true _ _ _ there ∙ cond-true _ _ _ inside' in
    let sound = paying_sound (view b) b.sound payer cents issued there inside' in
    let en : notes_on (set (vec_items b.lines) i after) ≡ notes_on (vec_items b.lines) = map-set_same (λ l. l.note) (vec_items b.lines) i after no_line (ap (λ (l : Line). l.note) at) in
    let eo : owing_on (set (vec_items b.lines) i after) ≡ set (owing_on (vec_items b.lines)) i left = map-set (λ l. l.owing) (vec_items b.lines) i after in
    let ew : owed_on (set (vec_items b.lines) i after) ≡ owed_on (vec_items b.lines) = map-set_same (λ l. l.owed) (vec_items b.lines) i after no_line (ap (λ (l : Line). l.owed) at) in
    let same : state_of b.stage b.parties b.points (vec_items b.connections) (vec_items b.allocations) b.cost b.provider b.run (set (vec_items b.lines) i after) b.excess (b.purse + cents) ≡ paying (view b) payer cents = cc in
    record {
      fits = omega (arith, sound.even.1);
      sound = subst (λ (p : Answer × State). Sound p.1) (sym is) sound;
      says = ap (λ (p : Answer × State). p.0) (sym is);
      goes = same ∙ ap (λ (p : Answer × State). p.1) (sym is);
    }

-- the line of a payee, with what is left
pub paid_out : (b : Book) (payee cents i left : ℕ) (seen line : Line) → i < b.parties → i ≡ payee - 1 → seen ≡ get_or (vec_items b.lines) i no_line → line ≡ get_or (vec_items b.lines) i no_line → left ≡ seen.owed - cents
    → is_issued b.stage ≡ true → within b.parties payee ≡ true → within seen.owed cents ≡ true → cents ≤ b.purse
    → record {
      sound : Sound (step (view b) (payout payee cents)).1;
      says : accepted ≡ (step (view b) (payout payee cents)).0;
      goes : state_of b.stage b.parties b.points (vec_items b.connections) (vec_items b.allocations) b.cost b.provider b.run (set (vec_items b.lines) i (record { note = line.note; owing = line.owing; owed = left })) b.excess (b.purse - cents) ≡ (step (view b) (payout payee cents)).1;
    }
paid_out b payee cents i left seen line lt place found at less issued there inside enough =
    let lines = vec_items b.lines in
    let after : Line = record { note = line.note; owing = line.owing; owed = left } in
    let v = line_shows (λ l. l.owed) lines i (payee - 1) seen (line_there b i lt) place found in
    let inside' = subst (λ x. within x cents ≡ true) v inside in
    let is : step (view b) (payout payee cents) ≡ (accepted, paying_out (view b) payee cents) = cond-true _ _ _ issued ∙ cond-true _ _ _ there ∙ cond-true _ _ _ inside' ∙ cond-true _ _ _ (le-leb cents b.purse enough) in
    let sound = paying_out_sound (view b) b.sound payee cents issued there inside' enough in
    let en : notes_on (set (vec_items b.lines) i after) ≡ notes_on (vec_items b.lines) = map-set_same (λ l. l.note) (vec_items b.lines) i after no_line (ap (λ (l : Line). l.note) at) in
    let eo : owing_on (set (vec_items b.lines) i after) ≡ owing_on (vec_items b.lines) = map-set_same (λ l. l.owing) (vec_items b.lines) i after no_line (ap (λ (l : Line). l.owing) at) in
    let ew : owed_on (set (vec_items b.lines) i after) ≡ set (owed_on (vec_items b.lines)) i left = map-set (λ l. l.owed) (vec_items b.lines) i after in
    let same : state_of b.stage b.parties b.points (vec_items b.connections) (vec_items b.allocations) b.cost b.provider b.run (set (vec_items b.lines) i after) b.excess (b.purse - cents) ≡ paying_out (view b) payee cents = cc in
    record {
      sound = subst (λ (p : Answer × State). Sound p.1) (sym is) sound;
      says = ap (λ (p : Answer × State). p.0) (sym is);
      goes = same ∙ ap (λ (p : Answer × State). p.1) (sym is);
    }
