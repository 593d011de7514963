-- How far a point's withdrawal swings over all intervals, in Wh.
use Rattle.std.specs.Prelude.{ℕ, ◌-◌, min, max, cond, List, map, Ok, Err, fold, Result, slice_index}
use Rattle.faults.specs.declared.Fault.{Fault}
use Rattle.tables.specs.Table.{Table, withdrawn, at_point, within, outside}

-- What a point withdraws, interval by interval.
abbrev pub withdrawals : Table → ℕ → List ℕ
withdrawals t point = map (λ row. withdrawn (at_point row point)) t.rows

abbrev pub largest : List ℕ → ℕ
largest xs = fold max 0 xs

abbrev pub smallest : List ℕ → ℕ
smallest xs = fold min (slice_index xs 0) xs

-- The largest less the smallest withdrawal.
abbrev pub swing_at : Table → ℕ → ℕ
swing_at t point = largest (withdrawals t point) - smallest (withdrawals t point)

-- The swing, or the refusal of a point outside the table.
abbrev pub swing_of : Table → ℕ → Result ℕ Fault
swing_of t point = cond (within t.points point) (Ok (swing_at t point)) (Err outside)
