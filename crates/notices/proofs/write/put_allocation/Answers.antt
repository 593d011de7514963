use Rattle.std.proofs.Common.{arith}
use Rattle.notices.proofs.Notes.{front_body, puts_allocation}
use Rattle.notices.proofs.write.put_allocation.Goals as goal

pub returns : goal.returns
returns c =
    puts_allocation c.args.party c.args.parts.now _ c.args.out.now c.put_notice.new.out c.put_notice.result
    (omega arith, omega arith) c.put_notice.ensures
    (front_body c.args.party c.args.parts.now c.copy_from_slice.new.self _ c.copy_from_slice.ensures.after)
