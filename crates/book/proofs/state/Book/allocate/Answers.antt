use Rattle.std.proofs.Common.{vec_items, refl, arith, rules}
use Rattle.std.proofs.lemmas.List.{length-map}
use Rattle.allocations.specs.Falls.{parts_of, broken_parts}
use Rattle.allocations.specs.Parts.{listed, whole_parts}
use Rattle.book.specs.Steps.{allocate}
use Rattle.book.specs.View.{view}
use Rattle.book.proofs.Allotments.{allotted_well}
use Rattle.book.proofs.Keeps.{passed}
use Rattle.book.proofs.Onward.{kept, stepped}
use Rattle.book.proofs.state.Book.allocate.Goals as goal

pub invariant_of-self : goal.invariant_of-self
invariant_of-self c =
    let b = c.args.self.now in
    let parts = listed c.args.parts.now in
    let whole = passed (whole_parts parts) broken_parts c.in_ok-self.ensures.refuses in
    let well = allotted_well b c.args.party c.in_ok-place.place parts c.in_ok-self.field-0 (search rules) c.in_ok-self.ensures.holds (search rules) (search rules) (search rules) whole in
    kept (view b) _ (allocate c.args.party parts) tt refl refl well.sound well.goes b.came

pub returns : goal.returns
returns c =
    let b = c.args.self.now in
    let parts = listed c.args.parts.now in
    let whole = passed (whole_parts parts) broken_parts c.in_ok-self.ensures.refuses in
    let well = allotted_well b c.args.party c.in_ok-place.place parts c.in_ok-self.field-0 (search rules) c.in_ok-self.ensures.holds (search rules) (search rules) (search rules) whole in
    stepped b _ (allocate c.args.party parts) tt well.says well.goes
