use Rattle.std.proofs.Common.{vec_items, refl, arith, rules}
use Rattle.std.proofs.lemmas.List.{get_or_read}
use Rattle.book.specs.Steps.{pay}
use Rattle.book.specs.View.{view}
use Rattle.book.proofs.Lines.{no_line}
use Rattle.book.proofs.Onward.{kept, stepped}
use Rattle.book.proofs.Payments.{line_there, paid}
use Rattle.book.proofs.state.Book.pay.Goals as goal

pub overflow_add-self : goal.overflow_add-self
overflow_add-self c =
    let b = c.args.self.now in
    let i = c.in_ok-place.place in
    let l = line_there b i c.in_ok-place.ensures.inside in
    let found = get_or_read (vec_items b.lines) i c.index.result.now l c.index.ensures no_line in
    let well = paid b c.args.payer c.args.cents i c.in_ok-self.field-0 c.index.result.now c.index.result.now c.in_ok-place.ensures.inside (search rules) found found (search rules) (search rules) (search rules) (search rules) in
    omega (arith, well.fits)

pub invariant_of-self : goal.invariant_of-self
invariant_of-self c =
    let b = c.args.self.now in
    let i = c.in_ok-place.place in
    let l = line_there b i c.in_ok-place.ensures.inside in
    let found = get_or_read (vec_items b.lines) i c.index.result.now l c.index.ensures no_line in
    let at = get_or_read (vec_items b.lines) i c.index_mut.result.now l c.index_mut.ensures.value no_line in
    let well = paid b c.args.payer c.args.cents i c.in_ok-self.field-0 c.index.result.now c.index_mut.result.now c.in_ok-place.ensures.inside (search rules) found at (search rules) (search rules) (search rules) (search rules) in
    kept (view b) _ (pay c.args.payer c.args.cents) tt refl refl well.sound well.goes b.came

pub returns : goal.returns
returns c =
    let b = c.args.self.now in
    let i = c.in_ok-place.place in
    let l = line_there b i c.in_ok-place.ensures.inside in
    let found = get_or_read (vec_items b.lines) i c.index.result.now l c.index.ensures no_line in
    let at = get_or_read (vec_items b.lines) i c.index_mut.result.now l c.index_mut.ensures.value no_line in
    let well = paid b c.args.payer c.args.cents i c.in_ok-self.field-0 c.index.result.now c.index_mut.result.now c.in_ok-place.ensures.inside (search rules) found at (search rules) (search rules) (search rules) (search rules) in
    stepped b _ (pay c.args.payer c.args.cents) tt well.says well.goes
