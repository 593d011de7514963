use Rattle.std.proofs.Common.{get_or, refl, ◌∙◌, arith}
use Rattle.std.proofs.Math.Seq.{map-set_same}
use Rattle.book.specs.Model.{blank}
use Rattle.book.proofs.Lines.{written_more, written_all}
use Rattle.book.proofs.state.begins.write_notes.Goals as goal

pub loop-i-preserved : goal.loop-i-preserved
loop-i-preserved c = record {
  written = written_more (λ line. line.note) (λ k. get_or c.args.notes.now k blank) blank c.loop-i.lines c.loop-i.i _ refl (omega (arith, c.requires)) c.loop-i.invariant.written;
  owing = map-set_same (λ line. line.owing) c.loop-i.lines c.loop-i.i _ _ refl ∙ c.loop-i.invariant.owing;
  owed = map-set_same (λ line. line.owed) c.loop-i.lines c.loop-i.i _ _ refl ∙ c.loop-i.invariant.owed;
}

pub returns-clause-notes : goal.returns-clause-notes
returns-clause-notes c = written_all (λ line. line.note) c.args.notes.now blank c.loop-i.lines (omega (arith, c.requires)) (λ k h. c.loop-i.invariant.written k (omega (arith, c.requires)))
