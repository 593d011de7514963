use Rattle.std.proofs.Common.{map, vec_items, ap, ◌∙◌, arith}
use Rattle.allocations.specs.Falls.{parts_of}
use Rattle.book.specs.Model.{own_bills}
use Rattle.book.proofs.Keeps.{own_bills_next}
use Rattle.book.proofs.state.opens.own_bills.Goals as goal
use Rattle.book.proofs.state.opens.own_bills.Goals.{else-loop-party-test, then-loop-party-test+in_ok-push+else-party-parties}

pub loop-party-preserved : goal.loop-party-preserved
loop-party-preserved c = record {
  numbered = omega arith;
  most = omega arith;
  own = ap (map parts_of) c.in_ok-push.ensures.items ∙ own_bills_next c.loop-party.bills.items c.own.result c.loop-party.party c.loop-party.invariant.numbered c.loop-party.invariant.own c.own.ensures ∙ ap own_bills (omega arith);
}

pub returns : goal.returns
returns c = elim c.loop-party-test.branch [
  | else-loop-party-test w ↦ ap (λ v. map parts_of (vec_items v)) w.bills-is ∙ c.loop-party.invariant.own ∙ ap own_bills (omega arith)
  | then-loop-party-test+in_ok-push+else-party-parties w ↦
      ap (λ v. map parts_of (vec_items v)) w.bills-is ∙ ap (map parts_of) w.in_ok-push.ensures.items
      ∙ own_bills_next c.loop-party.bills.items w.own.result c.loop-party.party c.loop-party.invariant.numbered c.loop-party.invariant.own w.own.ensures ∙ ap own_bills (omega arith)
]
