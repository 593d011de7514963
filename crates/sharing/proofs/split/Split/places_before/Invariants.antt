use Rattle.std.proofs.Common.{◌≡◌, ◌≤◌}
use Rattle.sharing.specs.Weights.{remainder, served_before}
use Rattle.sharing.proofs.split.Split.places_before.Given as goal

abbrev pub invariant-loop-j : goal.invariant-loop-j
invariant-loop-j l =
    (l.before ≡ served_before (remainder l.self.amount l.self.weights.now) l.j l.i) × (l.before ≤ l.j)
