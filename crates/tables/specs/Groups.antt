-- Which points are in one group after a list of joins.
use Rattle.std.specs.Prelude.{◌≡◌, ℕ, ◌≤◌, min, max, Bool, true, cond, ◌&&◌, List, [], ◌∷◌, ◌==◌}
use Rattle.std.specs.List.{ContainsAt as Has}
use Rattle.tables.specs.Table.{within}

-- The pairs of points that were to be joined, the latest first, the refused ones included.
abbrev pub Joins : Type 0
Joins = List (ℕ × ℕ)

-- A join is accepted if both its points are among the points.
abbrev pub accepted : ℕ → ℕ → ℕ → Bool
accepted points a b = within points a && within points b

-- Two points are in one group exactly if the accepted joins connect them, in whatever order they were made.
pub data Connected (points : ℕ) (js : Joins) : ℕ → ℕ → Type 0 where
  itself : {p : ℕ} → Connected points js p p
  joining : {a b : ℕ} → Has js (a, b) → accepted points a b ≡ true → Connected points js a b
  back : {p q : ℕ} → Connected points js p q → Connected points js q p
  onward : {p q r : ℕ} → Connected points js p q → Connected points js q r → Connected points js p r

-- l is the lowest point of p's group.
pub record Lowest (points : ℕ) (js : Joins) (p l : ℕ) : Type 0 where
  pub in_group : Connected points js p l
  pub least : (q : ℕ) → Connected points js p q → l ≤ q

-- The lowest point of a group, l before, once the groups whose lowest are a and b are one.
abbrev pub merged : ℕ → ℕ → ℕ → ℕ
merged a b l = cond (l == max a b) (min a b) l

-- The lowest point of p's group, join by join.
abbrev pub lowest : ℕ → Joins → ℕ → ℕ
lowest points [] p = p
lowest points (j ∷ js) p =
    cond (accepted points j.0 j.1)
    (merged (lowest points js j.0) (lowest points js j.1) (lowest points js p))
    (lowest points js p)
