use Rattle.notices.proofs.Stretches.{counted}
use Rattle.notices.proofs.part.part_count.Goals as goal

pub returns-clause-counts_the_parts_written : goal.returns-clause-counts_the_parts_written
returns-clause-counts_the_parts_written c = counted c.args.parts.now
