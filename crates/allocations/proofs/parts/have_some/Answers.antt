use Rattle.std.proofs.Common.{leb, ap, ◌∙◌, rules}
use borrow.Author.Tests.{tests}
use Rattle.std.proofs.lemmas.Iterator.{YieldsList-from_slice}
use Rattle.std.proofs.lemmas.Iterator.Search.{all_from_yields_List}
use Rattle.allocations.specs.declared.parts.Part.{Part}
use Rattle.allocations.specs.Parts.{listed, thousandths_at}
use Rattle.allocations.proofs.Listed.{list_all-listed, thousandths_is}
use Rattle.allocations.proofs.parts.have_some.Goals as goal

pub returns : goal.returns
returns c =
    let parts = c.args.parts.now in
    all_from_yields_List (λ (p : Part). leb 1 p.thousandths) _ _ _ c.all.ensures.ran (YieldsList-from_slice parts (cc)) (λ x b q k. search (rules, tests))
    ∙ list_all-listed parts (λ (p : Part). leb 1 p.thousandths) (λ i. leb 1 (thousandths_at (listed parts) i)) (λ i h. ap (leb 1) (thousandths_is parts i h))
