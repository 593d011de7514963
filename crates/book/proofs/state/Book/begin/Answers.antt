use Rattle.std.proofs.Common.{refl, sym, ap, ◌∙◌}
use Rattle.std.specs.Result.{result_err}
use Rattle.std.proofs.lemmas.Result.{err_from_is_err_and}
use Rattle.book.specs.Journey.{LawfulCall}
use Rattle.book.specs.Steps.{begin}
use Rattle.book.specs.View.{view}
use Rattle.book.proofs.Drafts.{as_many, lines_over, drafted_as}
use Rattle.book.proofs.Fits.{begun_well, begun_ill, begin_stopped, refusal}
use Rattle.book.proofs.Onward.{kept_as, stepped_as}
use Rattle.book.proofs.state.Book.begin.Goals as goal

pub returns-in_err-excess : goal.returns-in_err-excess
returns-in_err-excess g c =
    let b = c.args.self.now in
    let rates = c.args.rates.now in
    let t = g.M.Feed.table c.args.month.now in
    let u = g.F.Feed.table c.args.reference.now in
    let m = g.R.Rule.meaning c.args.rule.now in
    let law : LawfulCall (begin c.args.rates.now (g.M.Feed.table c.args.month.now) (g.F.Feed.table c.args.reference.now) (g.R.Rule.meaning c.args.rule.now)) =
    (g.met.M.Feed.sound c.args.month.now, (g.met.F.Feed.sound c.args.reference.now, (g.met.R.Rule.each c.args.rule.now, (g.met.R.Rule.all c.args.rule.now, g.met.R.Rule.none c.args.rule.now)))) in
    let clear = sym c.expect_clear.ensures ∙ ap result_err c.in_ok-expect_clear.was in
    let p = err_from_is_err_and c.from_residual-in_err-excess.result c.from_residual-in_err-excess.ensures.1 in
    let ill = begun_ill (view b) b.sound rates t u m c.work_out.result c.in_err-excess.field-0.0 _ _ clear c.work_out.ensures c.in_err-excess.was in
    rw (p.1, p.2) (refusal b (begin rates t u m) c.in_err-excess.field-0.0 law ill)

pub invariant_of-self : goal.invariant_of-self
invariant_of-self g c =
    let b = c.args.self.now in
    let rates = c.args.rates.now in
    let t = g.M.Feed.table c.args.month.now in
    let u = g.F.Feed.table c.args.reference.now in
    let m = g.R.Rule.meaning c.args.rule.now in
    let law : LawfulCall (begin c.args.rates.now (g.M.Feed.table c.args.month.now) (g.F.Feed.table c.args.reference.now) (g.R.Rule.meaning c.args.rule.now)) =
    (g.met.M.Feed.sound c.args.month.now, (g.met.F.Feed.sound c.args.reference.now, (g.met.R.Rule.each c.args.rule.now, (g.met.R.Rule.all c.args.rule.now, g.met.R.Rule.none c.args.rule.now)))) in
    let clear = sym c.expect_clear.ensures ∙ ap result_err c.in_ok-expect_clear.was in
    let was = c.as_mut_slice.ensures.value in
    let over = lines_over b c.write_notes.new.lines c.as_mut_slice.result.now was (as_many (λ line. line.owing) c.write_notes.new.lines c.as_mut_slice.result.now c.write_notes.ensures.owing) in
    let well = begun_well (view b) b.sound rates t u m c.work_out.result c.in_ok-excess.excess _ c.work_out.new.notes c.work_out.new.notes clear c.work_out.ensures c.in_ok-excess.was refl in
    let same = drafted_as b c.work_out.new.notes c.in_ok-excess.excess c.write_notes.new.lines _ c.as_mut_slice.result.now over was c.write_notes.ensures.notes c.write_notes.ensures.owing c.write_notes.ensures.owed in
    kept_as (view b) _ _ (begin rates t u m) law refl refl well.2 same well.1 b.came

pub returns : goal.returns
returns g c =
    let b = c.args.self.now in
    let rates = c.args.rates.now in
    let t = g.M.Feed.table c.args.month.now in
    let u = g.F.Feed.table c.args.reference.now in
    let m = g.R.Rule.meaning c.args.rule.now in
    let law : LawfulCall (begin c.args.rates.now (g.M.Feed.table c.args.month.now) (g.F.Feed.table c.args.reference.now) (g.R.Rule.meaning c.args.rule.now)) =
    (g.met.M.Feed.sound c.args.month.now, (g.met.F.Feed.sound c.args.reference.now, (g.met.R.Rule.each c.args.rule.now, (g.met.R.Rule.all c.args.rule.now, g.met.R.Rule.none c.args.rule.now)))) in
    let clear = sym c.expect_clear.ensures ∙ ap result_err c.in_ok-expect_clear.was in
    let was = c.as_mut_slice.ensures.value in
    let over = lines_over b c.write_notes.new.lines c.as_mut_slice.result.now was (as_many (λ line. line.owing) c.write_notes.new.lines c.as_mut_slice.result.now c.write_notes.ensures.owing) in
    let well = begun_well (view b) b.sound rates t u m c.work_out.result c.in_ok-excess.excess _ c.work_out.new.notes c.work_out.new.notes clear c.work_out.ensures c.in_ok-excess.was refl in
    let same = drafted_as b c.work_out.new.notes c.in_ok-excess.excess c.write_notes.new.lines _ c.as_mut_slice.result.now over was c.write_notes.ensures.notes c.write_notes.ensures.owing c.write_notes.ensures.owed in
    stepped_as b _ (begin rates t u m) _ law (λ x. absurd x) well.0 (same ∙ well.1)
