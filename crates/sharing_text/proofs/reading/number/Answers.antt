use Rattle.std.proofs.Common.{◌-◌, ◌<◌, map, length, Some, sym, ap, ◌∙◌, arith, take_all}
use borrow.Author.Tests.{eqb-false}
use Rattle.std.specs.Option.{option_map}
use Rattle.std.specs.Int.Digits.{number_from_digits as written}
use Rattle.std.proofs.lemmas.List.{length-map}
use Rattle.std.proofs.lemmas.List.Sums.{prefix_len-drop_yes, prefix_len-drop_no, prefix_len-drop_all}
use Rattle.sharing_text.specs.Request.{is_digit, capped}
use Rattle.sharing_text.proofs.Numbers.{no_number, whole_number, digit_more}
use Rattle.sharing_text.proofs.reading.number.Goals as goal

pub returns-then-not-is_ascii_digit : goal.returns-then-not-is_ascii_digit
returns-then-not-is_ascii_digit c =
    let none = prefix_len-drop_no is_digit c.args.word.now c.loop-byte.byte-index 0 c.loop-byte-test.true (sym c.is_ascii_digit.ensures.value ∙ c.if-not-is_ascii_digit.true) in
    sym (ap (option_map capped) (no_number c.args.word.now (omega (arith, c.loop-byte.invariant.1))))

pub loop-byte-preserved : goal.loop-byte-preserved
loop-byte-preserved c =
    let one = prefix_len-drop_yes is_digit c.args.word.now c.loop-byte.byte-index 0 c.loop-byte-test.true (sym c.is_ascii_digit.ensures.value ∙ c.if-not-is_ascii_digit.false) in (
      digit_more c.args.word.now c.loop-byte.byte-index c.loop-byte.value c.saturating_mul.result c.from.result c.saturating_add-value.result c.loop-byte-test.true c.loop-byte.invariant.0 c.saturating_mul.ensures c.from.ensures c.saturating_add-value.ensures,
      omega (arith, c.loop-byte.invariant.1),
    )

pub returns : goal.returns
returns c =
    let word = c.args.word.now in
    let none = prefix_len-drop_all is_digit word c.loop-byte.byte-index c.loop-byte-test.false in
    let all = take_all c.loop-byte.byte-index (map (λ byte. byte - 48) word) (omega (arith, length-map word (λ byte. byte - 48), c.loop-byte-test.false)) in
    let some : 0 < length word = omega (arith, eqb-false (length word) 0 (sym c.if-is_empty.ensures)) in
    ap Some (c.loop-byte.invariant.0 ∙ ap (λ ds. capped (written 10 ds)) all)
    ∙ sym (ap (option_map capped) (whole_number word some (omega (arith, c.loop-byte.invariant.1))))
