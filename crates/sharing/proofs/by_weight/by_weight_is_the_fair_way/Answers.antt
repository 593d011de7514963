use Rattle.sharing.proofs.Fairs.{one_fair_way}
use Rattle.sharing.proofs.by_weight.by_weight_is_the_fair_way.Goals as goal

pub returns : goal.returns
returns c = one_fair_way
