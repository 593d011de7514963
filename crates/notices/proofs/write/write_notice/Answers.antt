use Rattle.std.proofs.Common.{rules}
use Rattle.notices.specs.Notices.{said}
use Rattle.notices.proofs.Notes.{well_parted, writes_back}
use Rattle.notices.proofs.write.write_notice.Goals as goal

pub returns-in-Allocate-clause-written_reads_back : goal.returns-in-Allocate-clause-written_reads_back
returns-in-Allocate-clause-written_reads_back c =
    writes_back (said c.args.notice.now) c.args.out.now c.put_allocation.new.out c.put_allocation.result
    (simp c.in-Allocate.is (well_parted c.in-Allocate.party c.in-Allocate.parts.now)) (search rules)
