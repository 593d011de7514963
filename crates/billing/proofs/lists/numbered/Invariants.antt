use Rattle.std.proofs.Common.{◌≡◌, ℕ, ◌+◌, ◌≤◌, ◌<◌, length, get_or}
use Rattle.billing.proofs.lists.numbered.Given as goal

abbrev pub invariant-loop-number : goal.invariant-loop-number
invariant-loop-number g l = record {
  most : l.number ≤ l.count + 1;
  long : length l.numbers.items + 1 ≡ l.number;
  each : (k : ℕ) → k < length l.numbers.items → goal.F-post g l.tell (k + 1) (get_or l.numbers.items k 0);
}
