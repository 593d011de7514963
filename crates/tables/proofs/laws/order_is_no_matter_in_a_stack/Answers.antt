use Rattle.tables.proofs.Orders.{stack_free, reordered_same}
use Rattle.tables.proofs.laws.order_is_no_matter_in_a_stack.Goals as goal

pub returns : goal.returns
returns c = record { of_all_layers = stack_free; of_one_layer = reordered_same }
