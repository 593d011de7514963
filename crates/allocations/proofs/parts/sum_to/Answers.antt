use Rattle.std.proofs.Common.{length, arith, rules, length-append}
use Rattle.std.proofs.lemmas.Slice.Zip.{zip_turn}
use Rattle.allocations.proofs.Falls.{due_more}
use Rattle.allocations.proofs.Listed.{no_part}
use Rattle.allocations.proofs.parts.sum_to.Goals as goal

pub overflow_add-due : goal.overflow_add-due
overflow_add-due c =
    let turn = zip_turn c.args.parts.now c.args.shares.now c.loop-part.yielded c.into_iter-part-iterator.result c.loop-part.part-iterator c.next.new.self c.next.result (search rules) (search rules) c.loop-part.yielded_by (c.in-Some.part, c.in-Some.field-0-1) c.in-Some.is c.next.ensures.steps in
    let more = due_more c.args.parts.now c.args.shares.now c.args.party (length c.loop-part.yielded) c.loop-part.due c.own_amount-due.result 2000000000 c.in-Some.part.now c.in-Some.field-0-1.now c.requires.same c.requires.most turn.0 (turn.2 no_part) (turn.3 0) c.loop-part.invariant c.own_amount-due.ensures in
    omega arith

pub loop-part-preserved : goal.loop-part-preserved
loop-part-preserved c =
    let turn = zip_turn c.args.parts.now c.args.shares.now c.loop-part.yielded c.into_iter-part-iterator.result c.loop-part.part-iterator c.next.new.self c.next.result (search rules) (search rules) c.loop-part.yielded_by (c.in-Some.part, c.in-Some.field-0-1) c.in-Some.is c.next.ensures.steps in
    let more = due_more c.args.parts.now c.args.shares.now c.args.party (length c.loop-part.yielded) c.loop-part.due c.own_amount-due.result 2000000000 c.in-Some.part.now c.in-Some.field-0-1.now c.requires.same c.requires.most turn.0 (turn.2 no_part) (turn.3 0) c.loop-part.invariant c.own_amount-due.ensures in
    rw length-append more.1
