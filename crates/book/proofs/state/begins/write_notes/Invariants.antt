use Rattle.std.proofs.Common.{◌≡◌, ℕ, ◌<◌, get_or}
use Rattle.book.specs.Model.{blank, notes_on, owing_on, owed_on}
use Rattle.book.proofs.state.begins.write_notes.Given as goal

abbrev pub invariant-loop-i : goal.invariant-loop-i
invariant-loop-i l = record {
  written : (k : ℕ) → k < l.i → get_or (notes_on l.lines) k blank ≡ get_or l.notes k blank;
  owing : owing_on l.lines ≡ owing_on l.fn.lines;
  owed : owed_on l.lines ≡ owed_on l.fn.lines;
}
