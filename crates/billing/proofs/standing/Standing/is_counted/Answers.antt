use Rattle.std.proofs.Common.{rules}
use Rattle.std.proofs.lemmas.List.{length-map}
use Rattle.allocations.specs.Falls.{parts_of}
use Rattle.billing.specs.Standing.{counted}
use Rattle.billing.proofs.standing.Standing.is_counted.Goals as goal

pub returns-then-self-parties : goal.returns-then-self-parties
unfolding counted
returns-then-self-parties c = let long = length-map c.args.self.now.allocations.now parts_of in search rules

pub returns-else-self-parties : goal.returns-else-self-parties
unfolding counted
returns-else-self-parties c = let long = length-map c.args.self.now.allocations.now parts_of in search rules
