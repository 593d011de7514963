use Rattle.tables.proofs.Connects.{agree, parted, lowest_is}
use Rattle.tables.proofs.laws.groups_are_the_connected_points.Goals as goal

pub returns : goal.returns
returns c = record { together = λ n js p q h. agree n js h; apart = parted; least = lowest_is }
