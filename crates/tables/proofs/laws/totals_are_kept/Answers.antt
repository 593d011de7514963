use Rattle.tables.proofs.Orders.{totals_kept}
use Rattle.tables.proofs.laws.totals_are_kept.Goals as goal

pub returns : goal.returns
returns c = totals_kept
