use Rattle.std.proofs.Common.{get_or, refl, ◌∙◌, arith}
use Rattle.std.proofs.Math.Seq.{map-set_same}
use Rattle.std.proofs.lemmas.List.{length-map}
use Rattle.book.specs.Model.{notes_on, dues_on, credits_on}
use Rattle.book.proofs.Lines.{written_more, written_all, note_says}
use Rattle.book.proofs.state.calls.make_owed.Goals as goal

pub loop-line-preserved : goal.loop-line-preserved
loop-line-preserved c =
    let was = notes_on c.args.lines.now in
    let i = c.loop-line.line-index in
    let lines = c.loop-line.lines in record {
      notes = map-set_same (λ line. line.note) lines i _ _ refl ∙ c.loop-line.invariant.notes;
      owing = written_more (λ line. line.owing) (λ k. get_or (dues_on (notes_on c.args.lines.now)) k 0) 0 lines i _ (note_says (λ note. note.due) 0 was lines i _ (omega arith) c.loop-line.invariant.notes) (omega arith) c.loop-line.invariant.owing;
      owed = written_more (λ line. line.owed) (λ k. get_or (credits_on (notes_on c.args.lines.now)) k 0) 0 lines i _ (note_says (λ note. note.credit) 0 was lines i _ (omega arith) c.loop-line.invariant.notes) (omega arith) c.loop-line.invariant.owed;
    }

pub returns-clause-owing : goal.returns-clause-owing
returns-clause-owing c =
    let was = notes_on c.args.lines.now in
    let long = length-map (notes_on c.args.lines.now) (λ note. note.due) in
    let long' = length-map c.args.lines.now (λ line. line.note) in
    written_all (λ line. line.owing) (dues_on was) 0 c.loop-line.lines (omega (arith, long, long')) (λ k h. c.loop-line.invariant.owing k (omega (arith, long, long')))

pub returns-clause-owed : goal.returns-clause-owed
returns-clause-owed c =
    let was = notes_on c.args.lines.now in
    let long = length-map (notes_on c.args.lines.now) (λ note. note.credit) in
    let long' = length-map c.args.lines.now (λ line. line.note) in
    written_all (λ line. line.owed) (credits_on was) 0 c.loop-line.lines (omega (arith, long, long')) (λ k h. c.loop-line.invariant.owed k (omega (arith, long, long')))
