use Rattle.std.proofs.Common.{Ok, ◌∙◌}
use Rattle.std.proofs.lemmas.Result.{err_from_is_err_and}
use Rattle.notices.specs.Notices.{said}
use Rattle.notices.specs.Reading.{Reads}
use Rattle.notices.proofs.Notes.{own_bytes, read_as, read_fault, read_written, reads_back}
use Rattle.notices.proofs.read.read_notice.Goals as goal

pub returns-in_err-notice : goal.returns-in_err-notice
returns-in_err-notice c =
    let bs = c.args.bytes.now in
    let r = c.from_residual-in_err-notice.result in
    let p = err_from_is_err_and r c.from_residual-in_err-notice.ensures.1 in
    let held = c.in_ok-held.held in
    let o = c.in_ok-held.ensures.opens_the_first_record in
    let e = read_fault bs held.kind held.body.now c.in_ok-held.rest.now o.1 o.2 in
    let h : Reads bs r = rw (p.1, p.2) (e ∙ c.in_err-notice.ensures) in
    record {
      reads_the_first_notice = h;
      every_notice_reads_back = reads_back bs r h;
      read_is_written_back_to_its_bytes = read_written bs r h;
      only_its_own_bytes_count = own_bytes bs r h;
    }

pub returns : goal.returns
returns c =
    let bs = c.args.bytes.now in
    let r = Ok (c.in_ok-notice.notice, c.in_ok-held.rest) in
    let held = c.in_ok-held.held in
    let o = c.in_ok-held.ensures.opens_the_first_record in
    let n = c.in_ok-notice.ensures in
    let e = read_fault bs held.kind held.body.now c.in_ok-held.rest.now o.1 o.2 in
    let h : Reads bs r = (
      e ∙ n.0,
      n.1,
      read_as bs held.kind held.body.now c.in_ok-held.rest.now (said c.in_ok-notice.notice) o.2 n.2 n.3,
    ) in
    record {
      reads_the_first_notice = h;
      every_notice_reads_back = reads_back bs r h;
      read_is_written_back_to_its_bytes = read_written bs r h;
      only_its_own_bytes_count = own_bytes bs r h;
    }
