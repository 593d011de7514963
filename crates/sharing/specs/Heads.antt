-- Equal shares for all whose weight is not 0.
use Rattle.std.specs.Prelude.{ℕ, min, List, map}
use Rattle.sharing.specs.Weights.{by_weight}

-- A weight that is not 0 counts as 1.
abbrev pub heads : List ℕ → List ℕ
heads weights = map (λ w. min w 1) weights

abbrev pub by_heads : ℕ → List ℕ → List ℕ
by_heads amount weights = by_weight amount (heads weights)
