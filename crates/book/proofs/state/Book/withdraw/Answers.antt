use Rattle.std.proofs.Common.{◌≡◌, true, length, replicate, vec_items, refl, ap, ◌∙◌, arith, rules}
use Rattle.std.proofs.lemmas.List.{length-map}
use Rattle.book.specs.Model.{is_drafted, blank, owing_on, owed_on}
use Rattle.book.specs.Steps.{withdraw}
use Rattle.book.specs.View.{view}
use Rattle.book.proofs.Drafts.{as_many, lines_over, withdrawn_well}
use Rattle.book.proofs.Onward.{kept}
use Rattle.book.proofs.state.Book.withdraw.Goals as goal

pub invariant_of-self : goal.invariant_of-self
invariant_of-self c =
    let b = c.args.self.now in
    let lines = c.wipe.new.lines in
    let was = c.as_mut_slice.ensures.value in
    let drafted : is_drafted b.stage ≡ true = search rules in
    let own : c.args.claim.run ≡ b.run = search rules in
    let over = lines_over b lines c.as_mut_slice.result.now was (as_many (λ line. line.owing) lines c.as_mut_slice.result.now c.wipe.ensures.owing) in
    let many : length c.as_mut_slice.result.now ≡ b.parties = omega (arith, ap length was, length-map (vec_items b.lines) (λ line. line.owing), b.sound.long.3) in
    let well = withdrawn_well b c.args.claim.run lines _ over drafted own (c.wipe.ensures.notes ∙ ap (λ n. replicate n blank) many) (c.wipe.ensures.owing ∙ ap owing_on was) (c.wipe.ensures.owed ∙ ap owed_on was) in
    kept (view b) _ (withdraw c.args.claim.run) tt refl refl well.sound well.goes b.came
