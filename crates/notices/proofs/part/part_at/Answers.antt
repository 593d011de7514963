use Rattle.std.proofs.Common.{◌≡◌, Some, ◌∙◌, arith, rules}
use Rattle.notices.specs.Parts.{part_of}
use Rattle.notices.proofs.Stretches.{part_in_chunk, shown}
use Rattle.notices.proofs.part.part_at.Goals as goal

pub returns-in_err-part-clause-shows_the_parts_written :
    goal.returns-in_err-part-clause-shows_the_parts_written
returns-in_err-part-clause-shows_the_parts_written c =
    let e : c.from_residual.result ≡ part_of c.args.parts.now c.args.i = search rules in
    λ ps h. e ∙ shown c.args.parts.now c.args.i ps h

pub returns : goal.returns
returns c =
    let bs = c.args.parts.now in
    let i = c.args.i in
    let chunk = c.in_ok-part.part.now in
    let e : Some c.from.result ≡ part_of bs i =
    rw c.from.ensures (part_in_chunk bs i chunk (omega (arith, c.in_ok-part.ensures.lookup.3.0)) (search rules)) in
    record { payer_and_thousandths_of_the_place = e; shows_the_parts_written = λ ps h. e ∙ shown bs i ps h }
