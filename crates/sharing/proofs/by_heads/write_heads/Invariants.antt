use Rattle.std.proofs.Common.{◌≡◌, ◌++◌, take, drop}
use Rattle.sharing.specs.Heads.{heads}
use Rattle.sharing.proofs.by_heads.write_heads.Given as goal

abbrev pub invariant-loop-head : goal.invariant-loop-head
invariant-loop-head l = l.head-items ≡ heads (take l.head-index l.weights) ++ drop l.head-index l.weights
