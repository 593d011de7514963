use Rattle.tables.proofs.Orders.{again_free, pair_again_free}
use Rattle.tables.proofs.laws.joining_again_changes_nothing.Goals as goal

pub returns : goal.returns
returns c = record { of_one_pair = λ js a b t. pair_again_free js t a b; of_one_group = λ js a b t. again_free js t a b }
