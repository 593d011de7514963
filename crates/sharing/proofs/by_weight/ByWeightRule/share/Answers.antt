use Rattle.std.proofs.Common.{◌≡◌, Err, ap, ◌∙◌, rules}
use Rattle.std.proofs.lemmas.Result.{err_from_is_err_and}
use Rattle.std.proofs.lemmas.Bool.{both_ways}
use Rattle.sharing.specs.Domain.{placed}
use Rattle.sharing.specs.Weights.{by_weight}
use Rattle.sharing.specs.Domains.{refused}
use Rattle.sharing.proofs.Fairs.{written_fair}
use Rattle.sharing.proofs.by_weight.ByWeightRule.share.Goals as goal

pub returns-in_err-total : goal.returns-in_err-total
returns-in_err-total c =
    let p = err_from_is_err_and c.from_residual.result c.from_residual.ensures.1 in
    let q = refused by_weight c.args.amount c.args.weights.now c.args.shares.now _ _ c.from_residual.result c.in_err-total.ensures (p.1 ∙ ap Err p.2) in
    record {
      refuses_only_outside_the_domain = q.0;
      writes_its_meaning_or_nothing = q.1;
      shares_are_fair = λ h. absurd (both_ways _ q.2 h);
    }

pub returns-clause-shares_are_fair : goal.returns-clause-shares_are_fair
returns-clause-shares_are_fair c =
    let written : c.give_odd_cents.new.shares ≡ placed by_weight c.args.amount c.args.weights.now c.args.shares.now = search rules in
    written_fair c.args.amount c.args.weights.now c.args.shares.now _ written
