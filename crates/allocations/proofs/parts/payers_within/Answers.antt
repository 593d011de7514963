use Rattle.std.proofs.Common.{ap, ◌∙◌, rules}
use borrow.Author.Tests.{tests}
use Rattle.std.proofs.lemmas.Iterator.{YieldsList-from_slice}
use Rattle.std.proofs.lemmas.Iterator.Search.{all_from_yields_List}
use Rattle.allocations.specs.declared.parts.Part.{Part}
use Rattle.allocations.specs.Parts.{listed, payer_at, one_of, payable}
use Rattle.allocations.proofs.Listed.{list_all-listed, payer_is}
use Rattle.allocations.proofs.parts.payers_within.Goals as goal

pub returns : goal.returns
unfolding payable
returns c =
    let parts = c.args.parts.now in
    let n = c.args.parties in
    all_from_yields_List (λ (p : Part). one_of n p.payer) _ _ _ c.all.ensures.ran (YieldsList-from_slice parts (cc)) (λ x b q k. search (rules, tests))
    ∙ list_all-listed parts (λ (p : Part). one_of n p.payer) (λ i. one_of n (payer_at (listed parts) i)) (λ i h. ap (one_of n) (payer_is parts i h))
