-- What holds of joined points and of swings, whatever feed they stand over.
use Rattle.std.specs.Prelude.{◌≡◌, ℕ, ◌<◌, ◌≤◌, Bool, true, cond, List, [], ◌∷◌, length, Decides, sum_by, slice_index, slice_index_or}
use Rattle.std.specs.List.{AllZip, ContainsAt as Has}
use Rattle.std.specs.List.Sorted.{IsPermutation}
use Rattle.tables.specs.Table.{Reading, Table, Sound, withdrawn, injected, nothing, inside, cell}
use Rattle.tables.specs.Groups.{Joins, Connected, Lowest, lowest}
use Rattle.tables.specs.Joined.{sum_to, joined, stack}
use Rattle.tables.specs.Swing.{largest, smallest}

-- Two points have one lowest point exactly if the joins connect them, and that is the lowest of their group.
pub record GroupsAreConnected : Type 0 where
  pub together : (points : ℕ) (js : Joins) (p q : ℕ) → Connected points js p q → lowest points js p ≡ lowest points js q
  pub apart : (points : ℕ) (js : Joins) (p q : ℕ) → lowest points js p ≡ lowest points js q → Connected points js p q
  pub least : (points : ℕ) (js : Joins) (p : ℕ) → Lowest points js p (lowest points js p)

-- A test of whether a point is in p's group.
abbrev pub TellsGroup : ℕ → Joins → ℕ → (ℕ → Bool) → Type 0
TellsGroup points js p member = (q : ℕ) → Decides (member q) (Connected points js p q)

-- What the members of a group come to in an interval, in Wh.
abbrev pub together_in : (Reading → ℕ) → Table → (ℕ → Bool) → ℕ → ℕ
together_in part t member interval = sum_to (λ q. cond (member q) (part (cell t q interval)) 0) t.points

-- The table u shows the groups of t: their lowest points show what their members withdraw and inject together, the other points 0.
pub record ShowsGroups (js : Joins) (t u : Table) : Type 0 where
  pub same_points : u.points ≡ t.points
  pub same_intervals : length u.rows ≡ length t.rows
  pub lowest_shows_all : (p k : ℕ) → inside t p k ≡ true → Lowest t.points js p p → (member : ℕ → Bool) → TellsGroup t.points js p member
      → cell u p k ≡ (together_in withdrawn t member k, together_in injected t member k)
  pub others_show_none : (p k : ℕ) → inside t p k ≡ true → (Lowest t.points js p p → ⊥) → cell u p k ≡ nothing

-- A joined table shows the groups, and there is a test for each group.
pub record LowestPointsShowGroups : Type 0 where
  pub shows : (js : Joins) (t : Table) → ShowsGroups js t (joined js t)
  pub told : (points : ℕ) (js : Joins) (p : ℕ) → (member : ℕ → Bool) × TellsGroup points js p member

-- The order of the joins is no matter, the refused ones included.
abbrev pub OrderIsNoMatter : Type 0
OrderIsNoMatter = (js ks : Joins) (t : Table) → IsPermutation js ks → joined js t ≡ joined ks t

-- Nor is it in any layer of a stack of join feeds.
abbrev pub OrderIsNoMatterInLayers : Type 0
OrderIsNoMatterInLayers = (layers others : List Joins) (t : Table) → AllZip IsPermutation layers others → stack layers t ≡ stack others t

-- Two tables that differ only in the order of the joins of one layer, with any layers above and below it.
pub record Reordered (t u : Table) : Type 0 where
  pub above : List Joins
  pub js : Joins
  pub ks : Joins
  pub below : List Joins
  pub bottom : Table
  pub shuffled : IsPermutation js ks
  pub one : t ≡ stack above (joined js (stack below bottom))
  pub other : u ≡ stack above (joined ks (stack below bottom))

abbrev pub OrderIsNoMatterInALayer : Type 0
OrderIsNoMatterInALayer = (t u : Table) → Reordered t u → t ≡ u

-- Joining the same pair again, or two points that are in one group already, changes nothing.
pub record JoiningAgainChangesNothing : Type 0 where
  pub of_one_pair : (js : Joins) (a b : ℕ) (t : Table) → Has js (a, b) → joined ((a, b) ∷ js) t ≡ joined js t
  pub of_one_group : (js : Joins) (a b : ℕ) (t : Table) → Connected t.points js a b → joined ((a, b) ∷ js) t ≡ joined js t

-- In each interval of t, all points together withdraw and inject the same in u.
abbrev pub SameTotals : Table → Table → Type 0
SameTotals t u = (k : ℕ) → k < length t.rows
    → (sum_by withdrawn (slice_index_or u.rows k []) ≡ sum_by withdrawn (slice_index_or t.rows k [])) × (sum_by injected (slice_index_or u.rows k []) ≡ sum_by injected (slice_index_or t.rows k []))

abbrev pub TotalsAreKept : Type 0
TotalsAreKept = (js : Joins) (t : Table) → Sound t → SameTotals t (joined js t)

-- The largest of some numbers is one of them, and none is larger; so the smallest.
pub record ExtremesAreMet : Type 0 where
  pub none_larger : (xs : List ℕ) (k : ℕ) → k < length xs → slice_index xs k ≤ largest xs
  pub is_largest : (xs : List ℕ) → 0 < length xs → Has xs (largest xs)
  pub none_smaller : (xs : List ℕ) (k : ℕ) → k < length xs → smallest xs ≤ slice_index xs k
  pub is_smallest : (xs : List ℕ) → 0 < length xs → Has xs (smallest xs)
