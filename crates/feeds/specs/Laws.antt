-- What holds of a list of readings.
use Rattle.std.specs.Prelude.{◌≡◌, ℕ, ◌+◌, ◌-◌, ◌*◌, ◌<◌, true, false, List, [], slice_index_or}
use Rattle.tables.specs.Table.{Reading, nothing, inside, cell}
use Rattle.feeds.specs.Record.{rows_of, table_of, fits, fitting}

pub record ListsStandForTables : Type 0 where
  -- The readings of an interval stand together, point by point, after those of the intervals before it.
  pub in_order : (points intervals : ℕ) (readings : List Reading) (p k : ℕ) → inside (table_of points intervals readings) p k ≡ true
      → cell (table_of points intervals readings) p k ≡ slice_index_or readings ((k - 1) * points + (p - 1)) nothing
  -- The intervals before the first bad one fit, and that one does not.
  pub before_it : (points intervals : ℕ) (readings : List Reading) (k : ℕ) → k < fitting points intervals readings → fits (slice_index_or (rows_of points intervals readings) k []) ≡ true
  pub first_bad : (points intervals : ℕ) (readings : List Reading) → fitting points intervals readings < intervals
      → fits (slice_index_or (rows_of points intervals readings) (fitting points intervals readings) []) ≡ false
