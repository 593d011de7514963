use Rattle.std.proofs.Common.{sym, subst}
use Rattle.tables.specs.Laws.{SameTotals}
use Rattle.tables.proofs.Orders.{totals_kept}
use Rattle.feeds.proofs.Afters.{some_joins}
use Rattle.feeds.proofs.laws.totals_are_kept.Goals as goal

pub returns : goal.returns
returns g c =
    let s = c.args.feed.now in
    let t = g.F.Feed.table s.below in
    let some = some_joins g.F.Feed.table g.met.F.Feed.sound s in
    subst (SameTotals t) (sym some.1.shows) (totals_kept some.0 t (g.met.F.Feed.sound s.below))
