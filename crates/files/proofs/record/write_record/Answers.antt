use Rattle.std.proofs.Common.{◌+◌, length, Some, arith, rules}
use Rattle.files.proofs.Frames.{puts_back}
use Rattle.files.proofs.record.write_record.Goals as goal

pub returns-clause-written_opens_again : goal.returns-clause-written_opens_again
returns-clause-written_opens_again c =
    puts_back c.args.kind c.args.body.now c.args.out.now c.put_record.new.out (Some (4 + length c.args.body.now)) (omega arith) (search rules)
