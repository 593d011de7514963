use Rattle.std.proofs.Common.{◌≡◌, length}
use Rattle.sharing.specs.Weights.{sum_of}
use Rattle.allocations.specs.Falls.{to_payer}
use Rattle.allocations.specs.Parts.{listed}
use Rattle.allocations.proofs.parts.sum_to.Given as goal

abbrev pub invariant-loop-part : goal.invariant-loop-part
invariant-loop-part l = l.due ≡ sum_of (to_payer (listed l.parts) l.shares l.party) (length l.yielded)
