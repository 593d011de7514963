use Rattle.std.proofs.Common.{◌≡◌, ◌<◌, length, get_or, sym, arith, ltb-false, ltb-true, rules}
use Rattle.std.proofs.lemmas.Result.{err_from_is_err_and}
use Rattle.files.proofs.Elements.{elements_5}
use Rattle.files.proofs.Bytes.{four_bytes}
use Rattle.notices.proofs.Notes.{unknown}
use Rattle.notices.proofs.read.notice_of.Goals as goal

pub returns-in_err-kind : goal.returns-in_err-kind
returns-in_err-kind c =
    let p = err_from_is_err_and c.from_residual.result c.from_residual.ensures.1 in
    rw (p.1, p.2) (unknown _ _ _ c.in_err-kind.ensures)

pub returns-in-Cost-len5 : goal.returns-in-Cost-len5
returns-in-Cost-len5 c =
    let xs = c.args.held.body.now in
    let h : length xs ≡ 5 = omega (arith, ltb-false, ltb-true) in
    let k : 5 ≡ c.args.held.kind = search rules in
    let a : get_or xs 1 0 < 256 = omega arith in
    let b : get_or xs 2 0 < 256 = omega arith in
    let d : get_or xs 3 0 < 256 = omega arith in
    let e : get_or xs 4 0 < 256 = omega arith in
    (rw (sym k, h), c.from_le_bytes.type_inv, k, simp (c.from_le_bytes.ensures, four_bytes _ _ _ _ a b d e) (elements_5 xs h))
