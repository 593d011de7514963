use Rattle.std.proofs.Common.{length, replicate, refl, sym, ◌∙◌, arith}
use Rattle.std.proofs.Math.Seq.{map-set_same}
use Rattle.std.proofs.lemmas.List.{length-replicate, get_or-replicate}
use Rattle.book.specs.Model.{blank}
use Rattle.book.proofs.Lines.{written_more, written_all}
use Rattle.book.proofs.state.calls.wipe.Goals as goal

pub loop-line-preserved : goal.loop-line-preserved
loop-line-preserved c = record {
  notes = written_more (λ line. line.note) (λ k. blank) blank c.loop-line.lines c.loop-line.line-index _ refl (omega arith) c.loop-line.invariant.notes;
  owing = map-set_same (λ line. line.owing) c.loop-line.lines c.loop-line.line-index _ _ refl ∙ c.loop-line.invariant.owing;
  owed = map-set_same (λ line. line.owed) c.loop-line.lines c.loop-line.line-index _ _ refl ∙ c.loop-line.invariant.owed;
}

pub returns-clause-notes : goal.returns-clause-notes
returns-clause-notes c =
    let n = length c.args.lines.now in
    let long = length-replicate (length c.args.lines.now) blank in
    written_all (λ line. line.note) (replicate n blank) blank c.loop-line.lines (omega (arith, long))
    (λ k h. c.loop-line.invariant.notes k (omega (arith, long)) ∙ sym (get_or-replicate n k blank blank (omega (arith, long))))
