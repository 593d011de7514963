-- The table that joined points show.
use Rattle.std.specs.Prelude.{ℕ, zero, suc, ◌+◌, cond, List, [], ◌∷◌, map, ◌==◌}
use Rattle.std.specs.List.{range_with_len}
use Rattle.tables.specs.Table.{Reading, Table, withdrawn, injected, at_point}
use Rattle.tables.specs.Groups.{Joins, lowest}

-- f 1 + .. + f n.
abbrev pub sum_to : (ℕ → ℕ) → ℕ → ℕ
sum_to f zero = 0
sum_to f (suc n) = sum_to f n + f (suc n)

-- What the points led by p come to in a row, in Wh; `lead q` is the lowest point of q's group.
abbrev pub gathered : (Reading → ℕ) → (ℕ → ℕ) → ℕ → List Reading → ℕ → ℕ
gathered part lead points row p = sum_to (λ q. cond (lead q == p) (part (at_point row q)) 0) points

abbrev pub group_at : (ℕ → ℕ) → ℕ → List Reading → ℕ → Reading
group_at lead points row p = (gathered withdrawn lead points row p, gathered injected lead points row p)

abbrev pub shown_row : (ℕ → ℕ) → ℕ → List Reading → List Reading
shown_row lead points row = map (group_at lead points row) (range_with_len 1 points)

abbrev pub shown : (ℕ → ℕ) → Table → Table
shown lead t = record { points = t.points; rows = map (shown_row lead t.points) t.rows }

-- The table with each group's sums at its lowest point, and nothing at its other points.
abbrev pub joined : Joins → Table → Table
joined js t = shown (lowest t.points js) t

-- Join feed above join feed, the topmost first.
abbrev pub stack : List Joins → Table → Table
stack [] t = t
stack (js ∷ layers) t = joined js (stack layers t)
