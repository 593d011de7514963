-- What a feed means: a table of readings, one row per interval.
use Rattle.std.specs.Prelude.{◌≡◌, ℕ, ◌-◌, ◌<◌, ◌≤◌, Bool, cond, ◌&&◌, List, [], length, Ok, Err, sum_by, Result, nat_le, slice_index_or}
use Rattle.faults.specs.declared.Fault.{Fault}
use Rattle.faults.specs.declared.BookCause.TheVariants as book
use Rattle.faults.specs.Numbers.{book_fault}

-- What a point withdrew and what it injected in one interval, in Wh.
abbrev pub Reading : Type 0
Reading = ℕ × ℕ

abbrev pub withdrawn : Reading → ℕ
withdrawn reading = reading.0

abbrev pub injected : Reading → ℕ
injected reading = reading.1

abbrev pub nothing : Reading
nothing = (0, 0)

-- One row per interval, with one reading per point.
pub record Table : Type 0 where
  pub points : ℕ
  pub rows : List (List Reading)

-- The most points and intervals (three years of half hours) that a table has.
abbrev pub most_points : ℕ
most_points = 32

abbrev pub most_intervals : ℕ
most_intervals = 52608

-- What all points together withdraw, or inject, in one interval at most, in Wh.
abbrev pub row_limit : ℕ
row_limit = 9000000000

-- How many points and intervals there are.
abbrev pub Counted : ℕ → ℕ → Type 0
Counted points intervals = (1 ≤ points) × (points ≤ most_points) × (1 ≤ intervals) × (intervals ≤ most_intervals)

-- A row has a reading for each point, and stays within the limit both ways.
abbrev pub RowSound : ℕ → List Reading → Type 0
RowSound points row = (length row ≡ points) × (sum_by withdrawn row ≤ row_limit) × (sum_by injected row ≤ row_limit)

abbrev pub RowsSound : ℕ → List (List Reading) → Type 0
RowsSound points rows = (k : ℕ) → k < length rows → RowSound points (slice_index_or rows k [])

-- The laws that the table of every feed keeps.
pub record Sound (t : Table) : Type 0 where
  pub counts : Counted t.points (length t.rows)
  pub rows : RowsSound t.points t.rows

-- Points and intervals are numbered from 1.
abbrev pub within : ℕ → ℕ → Bool
within count number = nat_le 1 number && nat_le number count

abbrev pub inside : Table → ℕ → ℕ → Bool
inside t point interval = within t.points point && within (length t.rows) interval

-- The reading of a point in a row.
abbrev pub at_point : List Reading → ℕ → Reading
at_point row point = slice_index_or row (point - 1) nothing

abbrev pub row_of : Table → ℕ → List Reading
row_of t interval = slice_index_or t.rows (interval - 1) []

abbrev pub cell : Table → ℕ → ℕ → Reading
cell t point interval = at_point (row_of t interval) point

-- The refusal of a point or an interval outside the table.
abbrev pub outside : Fault
outside = book_fault book.OutOfRange

-- What a feed of this table answers.
abbrev pub reading_of : Table → ℕ → ℕ → Result Reading Fault
reading_of t point interval = cond (inside t point interval) (Ok (cell t point interval)) (Err outside)
