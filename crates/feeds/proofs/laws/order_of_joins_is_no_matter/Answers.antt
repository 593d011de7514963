use Rattle.std.proofs.Common.{sym, ap, ◌∙◌}
use Rattle.tables.specs.Joined.{joined}
use Rattle.tables.proofs.Orders.{joined_free}
use Rattle.feeds.proofs.laws.order_of_joins_is_no_matter.Goals as goal

pub returns : goal.returns
returns g c = λ js ks e a b s. a.shows ∙ joined_free js ks _ s ∙ ap (joined ks) e ∙ sym b.shows
