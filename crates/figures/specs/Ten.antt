-- Ten worked figures: what the definitions give, beside what was worked out by hand.
use Rattle.std.specs.Prelude.{◌≡◌, List, [], ◌∷◌, map, ℕ}
use Rattle.balancing.specs.Figures.{short, over}
use Rattle.balancing.specs.Amounts.{tolerance_of}
use Rattle.meters.specs.Files.{wh_of}
use Rattle.sharing.specs.Heads.{by_heads}
use Rattle.sharing.specs.Weights.{by_weight}

-- The published rates: AP and APP in cents per MWh, the margin in thousandths.
abbrev pub ap : ℕ
ap = 16800

abbrev pub app : ℕ
app = 21840

abbrev pub margin : ℕ
margin = 15

-- An imbalance at the tolerance of 15,000 Wh gives its charge and its claim in microcents; a withdrawal its tolerance in Wh; an amount
-- of cents over weights its shares; kWh at a loss factor in thousandths their Wh.
abbrev pub figures : List (List ℕ × List ℕ)
figures =
    (short ap app 15000, 252000000 ∷ 0 ∷ [])
    ∷ (short ap app 15001, 252021840 ∷ 0 ∷ [])
    ∷ (short ap app 30000, 579600000 ∷ 0 ∷ [])
    ∷ (short ap app 0, 0 ∷ 0 ∷ [])
    ∷ (over ap app 10000, 0 ∷ 168000000 ∷ [])
    ∷ (tolerance_of margin 1000067 ∷ [], 15001 ∷ [])
    ∷ (by_weight 100001 (400000 ∷ 0 ∷ 200000 ∷ []), 66667 ∷ 0 ∷ 33334 ∷ [])
    ∷ (by_weight 2 (1 ∷ 1 ∷ 1 ∷ []), 1 ∷ 1 ∷ 0 ∷ [])
    ∷ (by_heads 100 (7 ∷ 0 ∷ 9 ∷ []), 50 ∷ 0 ∷ 50 ∷ [])
    ∷ (wh_of 15000 1001 ∷ [], 15015000 ∷ [])
    ∷ []

-- Each figure is its known value.
abbrev pub FiguresHold : Type 0
FiguresHold = map (λ f. f.0) figures ≡ map (λ f. f.1) figures
