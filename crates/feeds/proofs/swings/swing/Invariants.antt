use Rattle.std.proofs.Common.{◌≡◌, ◌-◌, ◌≤◌, min, max, true, get_or, take, fold}
use Rattle.tables.specs.Table.{within}
use Rattle.tables.specs.Swing.{withdrawals}
use Rattle.feeds.proofs.swings.swing.Given as goal

abbrev pub invariant-loop-interval : goal.invariant-loop-interval
invariant-loop-interval g l =
    let t = g.F.Feed.table l.feed in
    let all = withdrawals t l.point in
    (within t.points l.point ≡ true)
    × (l.smallest ≡ fold min (get_or all 0 0) (take (l.interval - 1) all))
    × (l.largest ≡ fold max 0 (take (l.interval - 1) all))
    × (l.smallest ≤ l.largest)
