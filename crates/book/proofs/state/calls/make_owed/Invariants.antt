use Rattle.std.proofs.Common.{◌≡◌, ℕ, ◌<◌, get_or}
use Rattle.book.specs.Model.{dues_on, credits_on, notes_on, owing_on, owed_on}
use Rattle.book.proofs.state.calls.make_owed.Given as goal

abbrev pub invariant-loop-line : goal.invariant-loop-line
invariant-loop-line l = record {
  notes : notes_on l.lines ≡ notes_on l.fn.lines;
  owing : (k : ℕ) → k < l.line-index → get_or (owing_on l.lines) k 0 ≡ get_or (dues_on (notes_on l.fn.lines)) k 0;
  owed : (k : ℕ) → k < l.line-index → get_or (owed_on l.lines) k 0 ≡ get_or (credits_on (notes_on l.fn.lines)) k 0;
}
