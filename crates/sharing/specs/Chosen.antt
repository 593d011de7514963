-- A rule that is chosen as the program runs.
use Rattle.std.specs.Prelude.{ℕ, List}
use Rattle.sharing.specs.Heads.{by_heads}
use Rattle.sharing.specs.Weights.{by_weight}
use Rattle.sharing.specs.declared.choice.Choice.{Choice}
use Rattle.sharing.specs.declared.choice.Choice.TheVariants.{Weight, Heads}

abbrev pub chosen : Choice → ℕ → List ℕ → List ℕ
chosen Weight = by_weight
chosen Heads = by_heads
