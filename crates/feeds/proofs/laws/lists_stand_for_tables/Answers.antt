use Rattle.std.proofs.Common.{◌-◌, ◌<◌, [], sym, subst, arith}
use Rattle.tables.proofs.Cells.{inside_parts}
use Rattle.feeds.specs.Record.{rows_of, table_of, fits, fitting}
use Rattle.std.proofs.lemmas.List.Sums.{prefix_len_passes, prefix_len_stops}
use Rattle.feeds.proofs.Records.{rows_length, cell_at}
use Rattle.feeds.proofs.laws.lists_stand_for_tables.Goals as goal

pub returns : goal.returns
returns c = record {
  in_order = λ n m xs p k v.
      let h = inside_parts (table_of n m xs) p k v in
      let e = rows_length n m xs in
      cell_at n m xs (k - 1) (p - 1) (omega arith) (omega arith);
  before_it = λ n m xs k. prefix_len_passes fits (rows_of n m xs) k [];
  first_bad = λ n m xs h. prefix_len_stops fits (rows_of n m xs) [] (subst (λ k. fitting n m xs < k) (sym (rows_length n m xs)) h);
}
