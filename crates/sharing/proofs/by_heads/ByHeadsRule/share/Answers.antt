use Rattle.std.proofs.Common.{◌≡◌, ℕ, true, List, length, ap, ◌∙◌}
use Rattle.sharing.specs.Domain.{accepts, answer, placed}
use Rattle.sharing.specs.Weights.{by_weight}
use Rattle.sharing.specs.Domains.{passed}
use Rattle.sharing.specs.HeadsLemmas.{same_answer, same_places}
use Rattle.sharing.proofs.by_heads.ByHeadsRule.share.Goals as goal

pub returns : goal.returns
returns c =
    let amount = c.args.amount in
    let weights = c.args.weights.now in
    let places = c.args.shares.now in
    let taken : accepts amount weights (length places) ≡ true = passed _ _ _ _ c.in_ok-total_in_domain.ensures in
    record {
      refuses_only_outside_the_domain = c.share.ensures.refuses_only_outside_the_domain ∙ ap (λ (ws : List ℕ). answer amount ws places) c.write_heads.ensures ∙ same_answer amount weights places taken;
      writes_its_meaning_or_nothing = c.share.ensures.writes_its_meaning_or_nothing ∙ ap (λ (ws : List ℕ). placed by_weight amount ws places) c.write_heads.ensures ∙ same_places amount weights places taken;
    }
