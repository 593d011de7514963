use Rattle.statement.proofs.laws.every_begin_is_lawful.Goals as goal

pub returns : goal.returns
returns g c =
    (g.met.M.Feed.sound c.args.month.now, (g.met.F.Feed.sound c.args.reference.now, (g.met.R.Rule.each c.args.rule.now, (g.met.R.Rule.all c.args.rule.now, g.met.R.Rule.none c.args.rule.now))))
