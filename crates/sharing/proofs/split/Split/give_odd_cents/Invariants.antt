use Rattle.std.proofs.Common.{◌≡◌, ℕ, ◌<◌, ◌≤◌, length, get_or}
use Rattle.sharing.specs.Weights.{whole, part}
use Rattle.sharing.proofs.split.Split.give_odd_cents.Given as goal

abbrev pub invariant-loop-i : goal.invariant-loop-i
invariant-loop-i l =
    ((k : ℕ) → k < l.i → get_or l.shares k 0 ≡ part l.self.amount l.self.weights.now k)
    × ((k : ℕ) → l.i ≤ k → k < length l.self.weights.now → get_or l.shares k 0 ≡ whole l.self.amount l.self.weights.now k)
