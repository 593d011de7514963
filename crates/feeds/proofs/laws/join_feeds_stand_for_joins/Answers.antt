use Rattle.feeds.proofs.Afters.{some_joins}
use Rattle.feeds.proofs.laws.join_feeds_stand_for_joins.Goals as goal

pub returns : goal.returns
returns g c = some_joins g.F.Feed.table g.met.F.Feed.sound c.args.feed.now
