use Rattle.std.proofs.Common.{◌≡◌, ℕ, ◌+◌, ◌<◌, ◌≤◌, get_or}
use Rattle.sharing.specs.Weights.{whole, sum_of}
use Rattle.sharing.proofs.split.Split.write_whole_shares.Given as goal

abbrev pub invariant-loop-share : goal.invariant-loop-share
invariant-loop-share l =
    ((k : ℕ) → k < l.share-index → get_or l.shares k 0 ≡ whole l.self.amount l.self.weights.now k)
    × ((k : ℕ) → l.share-index ≤ k → get_or l.shares k 0 ≡ get_or l.self.weights.now k 0)
    × (l.left + sum_of (whole l.self.amount l.self.weights.now) l.share-index ≡ l.self.amount)
