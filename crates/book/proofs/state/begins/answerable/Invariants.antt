use Rattle.std.proofs.Common.{◌≡◌, map, take}
use Rattle.book.specs.Steps.{nominee_number, nominator_number}
use Rattle.book.proofs.state.begins.answerable.Given as goal

abbrev pub invariant-loop-connection : goal.invariant-loop-connection
invariant-loop-connection l = record {
  nominees : l.nominees.items ≡ map nominee_number (take l.connection-index l.connections);
  nominators : l.nominators.items ≡ map nominator_number (take l.connection-index l.connections);
}
