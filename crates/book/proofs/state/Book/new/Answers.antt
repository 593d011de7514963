use Rattle.std.proofs.Common.{[], sym, subst, rules}
use Rattle.book.specs.Sound.{Sound}
use Rattle.book.proofs.Keeps.{new_book_sound}
use Rattle.book.proofs.Opening.{opened}
use Rattle.book.proofs.state.Book.new.Goals as goal

pub invariant_of-result : goal.invariant_of-result
invariant_of-result c =
    let n = c.args.parties in
    let m = c.args.points in
    let way = opened n m c.in_ok-connections.connections.items c.in_ok-allocations.allocations.items c.in_ok-lines.lines.items (search rules) (search rules) (search rules) c.in_ok-allocations.ensures (search rules) in
    record { sound = subst Sound (sym way.there) (new_book_sound n m way.parties_fit way.points_fit); came = ∣ ([], way) ∣₁ }

pub returns : goal.returns
returns c = opened c.args.parties c.args.points c.in_ok-connections.connections.items c.in_ok-allocations.allocations.items c.in_ok-lines.lines.items (search rules) (search rules) (search rules) c.in_ok-allocations.ensures (search rules)
