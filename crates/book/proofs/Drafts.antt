-- A draft that is issued, and one that is withdrawn, on the lines of the parties.
use Rattle.std.proofs.Common.{◌≡◌, ℕ, ◌+◌, true, List, map, length, replicate, vec_items, sym, ap, ◌∙◌, subst, arith}
use Rattle.std.specs.Vec.{with_items}
use Rattle.std.proofs.lemmas.Bool.{cond-true, eq-eqb}
use Rattle.std.proofs.lemmas.List.{length-map, with_items_is}
use Rattle.billing.specs.declared.notes.Note.{Note}
use Rattle.book.specs.declared.line.Line.{Line}
use Rattle.book.specs.declared.state.Book.{Book}
use Rattle.book.specs.declared.stage.Stage.TheVariants.{Open, Drafted, Issued}
use Rattle.book.specs.Model.{State, is_drafted, state_of, blank, dues_on, credits_on, notes_on, owing_on, owed_on}
use Rattle.book.specs.Sound.{Sound}
use Rattle.book.specs.Steps.{Answer, accepted, step, issue, withdraw, issuing, withdrawing, drafting}
use Rattle.book.specs.View.{view}
use Rattle.book.proofs.Keeps.{issuing_sound, withdrawing_sound}

-- lines of which one thing is as it was are as many as they were
pub as_many : {X : Type 0} (f : Line → X) (lines was : List Line) → map f lines ≡ map f was → length lines ≡ length was
as_many f lines was e = sym (length-map lines f) ∙ ap length e ∙ length-map was f

-- lines that are written over the lines of the book, as many as those, are its lines
pub lines_over : (b : Book) (lines was : List Line) → was ≡ vec_items b.lines → length lines ≡ length was → vec_items (with_items b.lines lines) ≡ lines
lines_over b lines was e many = with_items_is b.lines lines (omega (arith, many, ap length e, b.lines.ok.0))

pub issued_well : (b : Book) (run : ℕ) (lines over : List Line) → over ≡ lines → is_drafted b.stage ≡ true → run ≡ b.run
    → notes_on lines ≡ notes_on (vec_items b.lines) → owing_on lines ≡ dues_on (notes_on (vec_items b.lines)) → owed_on lines ≡ credits_on (notes_on (vec_items b.lines))
    → record {
      sound : Sound (step (view b) (issue run)).1;
      says : accepted ≡ (step (view b) (issue run)).0;
      goes : state_of Issued b.parties b.points (vec_items b.connections) (vec_items b.allocations) b.cost b.provider b.run over b.excess b.purse ≡ (step (view b) (issue run)).1;
    }
issued_well b run lines over e drafted own notes owing owed =
    let is : step (view b) (issue run) ≡ (accepted, issuing (view b)) = cond-true _ _ _ drafted ∙ cond-true _ _ _ (eq-eqb run b.run own) in
    let same : state_of Issued b.parties b.points (vec_items b.connections) (vec_items b.allocations) b.cost b.provider b.run over b.excess b.purse ≡ issuing (view b) = cc in
    record {
      sound = subst (λ (p : Answer × State). Sound p.1) (sym is) (issuing_sound (view b) b.sound drafted);
      says = ap (λ (p : Answer × State). p.0) (sym is);
      goes = same ∙ ap (λ (p : Answer × State). p.1) (sym is);
    }

pub withdrawn_well : (b : Book) (run : ℕ) (lines over : List Line) → over ≡ lines → is_drafted b.stage ≡ true → run ≡ b.run
    → notes_on lines ≡ replicate b.parties blank → owing_on lines ≡ owing_on (vec_items b.lines) → owed_on lines ≡ owed_on (vec_items b.lines)
    → record {
      sound : Sound (step (view b) (withdraw run)).1;
      says : accepted ≡ (step (view b) (withdraw run)).0;
      goes : state_of Open b.parties b.points (vec_items b.connections) (vec_items b.allocations) b.cost b.provider b.run over 0 b.purse ≡ (step (view b) (withdraw run)).1;
    }
withdrawn_well b run lines over e drafted own notes owing owed =
    let is : step (view b) (withdraw run) ≡ (accepted, withdrawing (view b)) = cond-true _ _ _ drafted ∙ cond-true _ _ _ (eq-eqb run b.run own) in
    let same : state_of Open b.parties b.points (vec_items b.connections) (vec_items b.allocations) b.cost b.provider b.run over 0 b.purse ≡ withdrawing (view b) = cc in
    record {
      sound = subst (λ (p : Answer × State). Sound p.1) (sym is) (withdrawing_sound (view b) b.sound drafted);
      says = ap (λ (p : Answer × State). p.0) (sym is);
      goes = same ∙ ap (λ (p : Answer × State). p.1) (sym is);
    }

-- a draft that is begun, with its notes on the lines
pub drafted_as : (b : Book) (notes : List Note) (excess : ℕ) (lines over was : List Line) → over ≡ lines → was ≡ vec_items b.lines → notes_on lines ≡ notes → owing_on lines ≡ owing_on was → owed_on lines ≡ owed_on was
    → state_of Drafted b.parties b.points (vec_items b.connections) (vec_items b.allocations) b.cost b.provider (b.run + 1) over excess b.purse ≡ drafting (view b) notes excess
drafted_as b notes excess lines over was eo ew en ei ed = cc
