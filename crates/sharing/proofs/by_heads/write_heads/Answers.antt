use Rattle.std.proofs.Common.{min, get_or, arith}
use Rattle.std.proofs.lemmas.List.{get_or_default}
use Rattle.std.proofs.lemmas.List.Edits.{map_over_more}
use Rattle.sharing.proofs.by_heads.write_heads.Goals as goal

pub loop-head-preserved : goal.loop-head-preserved
loop-head-preserved c =
    let items = c.loop-head.head-items in
    let i = c.loop-head.head-index in
    rw c.min.ensures (map_over_more (λ w. min w 1) c.args.weights.now items i (get_or items i 0) (omega arith) c.loop-head.invariant (get_or_default items i 0 (get_or items i 0) (omega arith)))
