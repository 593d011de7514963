-- Shares that were worked out by hand.
use Rattle.std.specs.Prelude.{◌≡◌, ℕ, List, [], ◌∷◌, map}
use Rattle.sharing.specs.Heads.{by_heads}
use Rattle.sharing.specs.Weights.{by_weight}

pub record Figure : Type 0 where
  pub rule : ℕ → List ℕ → List ℕ
  pub amount : ℕ
  pub weights : List ℕ
  pub shares : List ℕ

abbrev figure : (ℕ → List ℕ → List ℕ) → ℕ → List ℕ → List ℕ → Figure
figure r a ws ss = record { rule = r; amount = a; weights = ws; shares = ss }

abbrev pub figures : List Figure
figures =
    figure by_weight 100001 (400000 ∷ 0 ∷ 200000 ∷ []) (66667 ∷ 0 ∷ 33334 ∷ [])
    ∷ figure by_weight 2 (1 ∷ 1 ∷ 1 ∷ []) (1 ∷ 1 ∷ 0 ∷ [])
    ∷ figure by_heads 100 (7 ∷ 0 ∷ 9 ∷ []) (50 ∷ 0 ∷ 50 ∷ [])
    ∷ []

-- Each rule shares as its figure says.
abbrev pub FiguresHold : Type 0
FiguresHold = map (λ f. f.rule f.amount f.weights) figures ≡ map (λ f. f.shares) figures
