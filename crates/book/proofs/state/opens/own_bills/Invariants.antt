use Rattle.std.proofs.Common.{◌≡◌, ◌+◌, ◌-◌, ◌≤◌, map}
use Rattle.allocations.specs.Falls.{parts_of}
use Rattle.book.specs.Model.{own_bills}
use Rattle.book.proofs.state.opens.own_bills.Given as goal

abbrev pub invariant-loop-party : goal.invariant-loop-party
invariant-loop-party l = record {
  numbered : 1 ≤ l.party;
  most : l.party ≤ l.parties + 1;
  own : map parts_of l.bills.items ≡ own_bills (l.party - 1);
}
