use Rattle.std.proofs.Common.{ltb, rules}
use borrow.Author.Tests.{tests}
use Rattle.std.proofs.lemmas.List.Sorted.{answers_always}
use Rattle.allocations.specs.declared.parts.Part.{Part}
use Rattle.allocations.proofs.Risings.{rising_answer}
use Rattle.allocations.proofs.parts.are_rising.Goals as goal

pub returns : goal.returns
returns c =
    rising_answer c.args.parts.now _ (c.is_sorted_by.ensures.cases (λ (x y : Part). ltb x.payer y.payer) (answers_always _ _ _ (λ f a r q k. search (rules, tests))))
