use Rattle.tables.proofs.Extremes as extremes
use Rattle.tables.proofs.laws.extremes_are_met.Goals as goal

pub returns : goal.returns
returns c = record { none_larger = extremes.none_larger; is_largest = extremes.is_largest; none_smaller = extremes.none_smaller; is_smallest = extremes.is_smallest }
