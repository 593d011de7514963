use Rattle.std.proofs.Common.{◌≡◌, vec_items, sym, ap, ◌∙◌}
use Rattle.std.specs.Option.{option_map}
use Rattle.std.proofs.lemmas.Result.{IfOk-weaker}
use Rattle.sharing_text.specs.Replies.{told, shared_by, reply_of}
use Rattle.sharing_text.proofs.Answering.{heard}
use Rattle.sharing_text.proofs.reply.reply_to.Goals as goal

pub returns-clause-answers : goal.returns-clause-answers
returns-clause-answers c =
    let rule = c.in-Some-rule_named.rule in
    let amount = c.in-Some-number.amount in
    let all = sym c.in_ok-weights.ensures ∙ ap (option_map vec_items) c.in-Some-2.is in
    let known = heard c.args.line.now _ c.in-Some.rest.now _ c.in-Some-next_word.rest.now rule amount _ c.in-Some.ensures.first (sym c.if-is_comment.ensures) (sym c.in-Some-rule_named.ensures) c.in-Some-next_word.ensures.first (sym c.in-Some-number.ensures) all in
    IfOk-weaker c.shared.result (λ reply. told reply ≡ shared_by rule amount c.as_slice.result.now) (λ reply. told reply ≡ reply_of c.args.line.now) (λ reply e. e ∙ ap (shared_by rule amount) c.as_slice.ensures.value ∙ sym known) c.shared.ensures.answers
