use Rattle.std.proofs.Common.{◌∙◌, rules}
use borrow.Author.Tests.{tests}
use Rattle.std.proofs.lemmas.Iterator.{YieldsList-from_slice}
use Rattle.std.proofs.lemmas.Iterator.Search.{all_from_yields_List}
use Rattle.allocations.specs.Falls.{parts_of}
use Rattle.allocations.specs.Parts.{payable}
use Rattle.allocations.specs.declared.allocation.Allocation.{Allocation}
use Rattle.billing.proofs.Payers.{list_all-payable}
use Rattle.billing.proofs.standing.are_all_payable.Goals as goal

pub returns : goal.returns
returns c =
    all_from_yields_List (λ (a : Allocation). payable c.args.parties (parts_of a)) _ _ _ c.all.ensures.ran (YieldsList-from_slice c.args.allocations.now (cc)) (λ x b q k. search (rules, tests))
    ∙ list_all-payable c.args.parties c.args.allocations.now
