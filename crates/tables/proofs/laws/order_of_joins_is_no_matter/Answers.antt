use Rattle.tables.proofs.Orders.{joined_free}
use Rattle.tables.proofs.laws.order_of_joins_is_no_matter.Goals as goal

pub returns : goal.returns
returns c = joined_free
