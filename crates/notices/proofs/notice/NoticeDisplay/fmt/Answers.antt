use Rattle.std.proofs.Common.{◌++◌, codes, refl, arith, rules}
use Rattle.std.specs.Fmt.{decimal}
use Rattle.std.proofs.lemmas.Grind.{put_two}
use Rattle.notices.proofs.Stretches.{all_parts}
use Rattle.notices.proofs.Printed.{printed_next}
use Rattle.notices.proofs.notice.NoticeDisplay.fmt.Goals as goal

pub loop-i-preserved : goal.loop-i-preserved
loop-i-preserved g c =
    λ plain.
    let before = c.loop-i.invariant plain in
    let more = printed_next (codes "allocate " ++ decimal c.in-Allocate.party) c.in-Allocate.parts.now c.loop-i.i c.unwrap.result (omega arith) (search rules) in
    put_two _ _ _ _ _ _ _ before (c.in_ok-write-in-Allocate-2.ensures.writes before.plain refl) more

pub returns-after-loop-i-clause-writes : goal.returns-after-loop-i-clause-writes
returns-after-loop-i-clause-writes g c =
    let all = all_parts c.in-Allocate.parts.now in
    search (rules, all)
