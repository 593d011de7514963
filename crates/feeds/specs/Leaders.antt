-- What a `JoinFeed` keeps: for each point, the lowest point of its group.
use Rattle.std.specs.Prelude.{◌≡◌, ℕ, ◌+◌, ◌-◌, ◌<◌, ◌≤◌, List, slice_index}
use Rattle.tables.specs.Table.{most_points}

abbrev pub lead_of : List ℕ → ℕ → ℕ
lead_of leaders point = slice_index leaders (point - 1)

-- Each point is led by a point at or below it, which leads itself.
abbrev pub Led : List ℕ → Type 0
Led leaders = (k : ℕ) → k < most_points → (1 ≤ slice_index leaders k) × (slice_index leaders k ≤ k + 1) × (lead_of leaders (slice_index leaders k) ≡ slice_index leaders k)
