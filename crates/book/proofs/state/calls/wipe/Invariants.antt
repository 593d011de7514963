use Rattle.std.proofs.Common.{◌≡◌, ℕ, ◌<◌, get_or}
use Rattle.book.specs.Model.{blank, notes_on, owing_on, owed_on}
use Rattle.book.proofs.state.calls.wipe.Given as goal

abbrev pub invariant-loop-line : goal.invariant-loop-line
invariant-loop-line l = record {
  notes : (k : ℕ) → k < l.line-index → get_or (notes_on l.lines) k blank ≡ blank;
  owing : owing_on l.lines ≡ owing_on l.fn.lines;
  owed : owed_on l.lines ≡ owed_on l.fn.lines;
}
