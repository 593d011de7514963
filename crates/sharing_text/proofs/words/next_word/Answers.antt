use Rattle.std.proofs.Common.{◌≡◌, true, false, length, take, drop, ap, sym, ◌∙◌, arith, rules}
use borrow.Author.Tests.{tests, eqb-true, eqb-false}
use Rattle.std.proofs.lemmas.Iterator.{YieldsList-from_slice}
use Rattle.std.proofs.lemmas.Iterator.Search.{position_from_yields_List}
use Rattle.sharing_text.specs.Words.{is_blank}
use Rattle.sharing_text.proofs.Answering.{some_of}
use Rattle.sharing_text.proofs.Cuts.{cut_word, cut_rest, first_word, no_word}
use Rattle.sharing_text.proofs.words.next_word.Goals as goal

pub returns-then-is_empty-clause-none : goal.returns-then-is_empty-clause-none
returns-then-is_empty-clause-none c =
    let text = c.args.text.now in
    let from = c.split_at.result.1.now in
    let start = position_from_yields_List (is_blank false) _ _ c.position-start.result c.position-start.ensures.ran (YieldsList-from_slice text (cc)) (λ x b q k. search (rules, tests)) in
    let end = position_from_yields_List (is_blank true) _ _ c.position-end.result c.position-end.ensures.ran (YieldsList-from_slice from (cc)) (λ x b q k. search (rules, tests)) in
    let past = c.split_at.ensures.back ∙ ap (λ n. drop n text) c.unwrap_or.ensures in
    let word = cut_word text from c.position-start.result c.position-end.result start past end c.split_at-2.result.0.now (c.split_at-2.ensures.front ∙ ap (λ n. take n from) c.unwrap_or-2.ensures) in
    let none : length c.split_at-2.result.0.now ≡ 0 = eqb-true _ 0 (sym c.if-is_empty.ensures) in
    λ _. no_word text (ap length (sym word) ∙ none)

pub returns-else-is_empty : goal.returns-else-is_empty
returns-else-is_empty c =
    let text = c.args.text.now in
    let from = c.split_at.result.1.now in
    let start = position_from_yields_List (is_blank false) _ _ c.position-start.result c.position-start.ensures.ran (YieldsList-from_slice text (cc)) (λ x b q k. search (rules, tests)) in
    let end = position_from_yields_List (is_blank true) _ _ c.position-end.result c.position-end.ensures.ran (YieldsList-from_slice from (cc)) (λ x b q k. search (rules, tests)) in
    let past = c.split_at.ensures.back ∙ ap (λ n. drop n text) c.unwrap_or.ensures in
    let word = cut_word text from c.position-start.result c.position-end.result start past end c.split_at-2.result.0.now (c.split_at-2.ensures.front ∙ ap (λ n. take n from) c.unwrap_or-2.ensures) in
    let rest = cut_rest text from c.position-start.result c.position-end.result start past end c.split_at-2.result.1.now (c.split_at-2.ensures.back ∙ ap (λ n. drop n from) c.unwrap_or-2.ensures) in
    let some = some_of (length c.split_at-2.result.0.now) (eqb-false _ 0 (sym c.if-is_empty.ensures)) in
    record { none = search rules; word = word; rest = rest; first = first_word text _ _ word rest some; less = search (rules, arith) }
