-- One more call.
use Rattle.std.proofs.Common.{◌≡◌, ℕ, true, List, ◌∷◌, sym, ap, ◌∙◌, subst}
use mathlib.Core.Logic.{∥∥₁_map}
use Rattle.tables.specs.Table.{within}
use Rattle.book.specs.Journey.{LawfulCall, Reaches, reached, Came}
use Rattle.book.specs.Model.{State}
use Rattle.book.specs.Sound.{Sound}
use Rattle.book.specs.Steps.{Call, Answer, accepted, step}
use Rattle.book.specs.View.{view, Refusal, Stepped}
use Rattle.book.specs.declared.state.Book.{Book}

pub onward_from : (s s' : State) (call : Call) → s' ≡ (step s call).1 → LawfulCall call → (parties points : ℕ) (calls : List Call) → Reaches parties points s calls → Reaches parties points s' (call ∷ calls)
onward_from s s' call e law parties points calls r = record {
  parties_fit = r.parties_fit;
  points_fit = r.points_fit;
  lawful = (law, r.lawful);
  there = e ∙ ap (λ z. (step z call).1) r.there;
}

pub came_on : (s s' : State) (call : Call) → LawfulCall call → s'.parties ≡ s.parties → s'.points ≡ s.points → s' ≡ (step s call).1 → Came s → Came s'
came_on s s' call law ep em e h = ∥∥₁_map h (λ w. (
  call ∷ w.0,
  record {
    parties_fit = subst (λ n. within 32 n ≡ true) (sym ep) w.1.parties_fit;
    points_fit = subst (λ n. within 32 n ≡ true) (sym em) w.1.points_fit;
    lawful = (law, w.1.lawful);
    there = e ∙ ap (λ z. (step z call).1) w.1.there ∙ ap (λ n. (step (reached n s.points w.0) call).1) (sym ep) ∙ ap (λ n. (step (reached s'.parties n w.0) call).1) (sym em);
  },
))

-- what holds of every book holds of the book that a call leads to, however it is written
pub kept : (s t : State) (call : Call) → LawfulCall call → t.parties ≡ s.parties → t.points ≡ s.points → Sound (step s call).1 → t ≡ (step s call).1 → Came s → record { sound : Sound t; came : Came t }
kept s t call law ep em h goes came = record {
  sound = subst Sound (sym goes) h;
  came = came_on s t call law ep em goes came;
}

-- the same, by a state between that is known to be sound
pub kept_as : (s s' t : State) (call : Call) → LawfulCall call → t.parties ≡ s.parties → t.points ≡ s.points → Sound s' → t ≡ s' → s' ≡ (step s call).1 → Came s → record { sound : Sound t; came : Came t }
kept_as s s' t call law ep em h same goes came = kept s t call law ep em (subst Sound goes h) (same ∙ goes) came

-- a call that is no refusal
pub stepped_as : (before after : Book) (call : Call) (answer : Answer) → LawfulCall call → (Refusal answer → ⊥) → answer ≡ (step (view before) call).0 → view after ≡ (step (view before) call).1 → Stepped before after call answer
stepped_as before after call answer law never says goes = record {
  answers = says;
  becomes = goes;
  unchanged = λ x. absurd (never x);
  lawful = law;
  onward = onward_from (view before) _ call goes law;
}

-- an accepted call
pub stepped : (before after : Book) (call : Call) → LawfulCall call → accepted ≡ (step (view before) call).0 → view after ≡ (step (view before) call).1 → Stepped before after call accepted
stepped before after call law says goes = stepped_as before after call accepted law (λ x. x) says goes
