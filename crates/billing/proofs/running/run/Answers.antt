use Rattle.std.proofs.Common.{length, sym, ◌∙◌, rules}
use Rattle.billing.specs.Run.{inputs, ran}
use Rattle.billing.proofs.Fits.{fit_from, ran_settled, run_from}
use Rattle.billing.proofs.running.run.Goals as goal

pub returns-in_err-check : goal.returns-in_err-check
unfolding ran
returns-in_err-check g c = search rules

pub returns-then-not-feeds_fit : goal.returns-then-not-feeds_fit
unfolding ran
returns-then-not-feeds_fit g c = search rules

pub draft-requires : goal.draft-requires
draft-requires g c =
    let i = inputs c.args.standing.now c.args.rates.now (g.M.Feed.table c.args.month.now) (g.F.Feed.table c.args.reference.now) (g.R.Rule.meaning c.args.rule.now) (length c.args.notes.now) in
    fit_from i (sym c.check.ensures ∙ c.in_ok-check.was) (sym c.feeds_fit.ensures ∙ c.if-not-feeds_fit.false)

pub returns : goal.returns
returns g c =
    let i = inputs c.args.standing.now c.args.rates.now (g.M.Feed.table c.args.month.now) (g.F.Feed.table c.args.reference.now) (g.R.Rule.meaning c.args.rule.now) (length c.args.notes.now) in
    let same = ran_settled i (sym c.check.ensures ∙ c.in_ok-check.was) (sym c.feeds_fit.ensures ∙ c.if-not-feeds_fit.false) in
    run_from i c.draft.result c.args.notes.now c.draft.new.notes same c.draft.ensures
