use Rattle.tables.proofs.Orders.{shows_groups, told}
use Rattle.tables.proofs.laws.lowest_points_show_their_groups.Goals as goal

pub returns : goal.returns
returns c = record { shows = shows_groups; told = λ n js p. (_, told n js p) }
