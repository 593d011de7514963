use Rattle.std.proofs.Common.{◌≡◌, true, refl, ap, ◌∙◌, rules}
use Rattle.book.specs.Model.{is_drafted, notes_on, dues_on, credits_on}
use Rattle.book.specs.Steps.{issue}
use Rattle.book.specs.View.{view}
use Rattle.book.proofs.Drafts.{as_many, lines_over, issued_well}
use Rattle.book.proofs.Onward.{kept}
use Rattle.book.proofs.state.Book.issue.Goals as goal

pub invariant_of-self : goal.invariant_of-self
invariant_of-self c =
    let b = c.args.self.now in
    let lines = c.make_owed.new.lines in
    let was = c.as_mut_slice.ensures.value in
    let drafted : is_drafted b.stage ≡ true = search rules in
    let own : c.args.claim.run ≡ b.run = search rules in
    let over = lines_over b lines c.as_mut_slice.result.now was (as_many (λ line. line.note) lines c.as_mut_slice.result.now c.make_owed.ensures.notes) in
    let well = issued_well b c.args.claim.run lines _ over drafted own (c.make_owed.ensures.notes ∙ ap notes_on was) (c.make_owed.ensures.owing ∙ ap (λ ls. dues_on (notes_on ls)) was) (c.make_owed.ensures.owed ∙ ap (λ ls. credits_on (notes_on ls)) was) in
    kept (view b) _ (issue c.args.claim.run) tt refl refl well.sound well.goes b.came
