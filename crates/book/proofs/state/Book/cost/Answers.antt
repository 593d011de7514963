use Rattle.std.proofs.Common.{◌≡◌, true, refl, rules}
use Rattle.book.specs.Model.{State}
use Rattle.book.specs.Steps.{set_cost, with_cost, step}
use Rattle.book.specs.View.{view}
use Rattle.book.proofs.Keeps.{bounds, cost_sound}
use Rattle.book.proofs.Onward.{kept_as}
use Rattle.book.proofs.state.Book.cost.Goals as goal
use Rattle.tables.specs.Table.{within}

pub invariant_of-self : goal.invariant_of-self
invariant_of-self c =
    let b = c.args.self.now in
    let s' : State = with_cost (view b) c.args.provider c.args.cents in
    let goes : s' ≡ (step (view b) (set_cost c.args.provider c.args.cents)).1 = search rules in
    let inside : within b.parties c.args.provider ≡ true = search rules in
    let r = bounds b.parties c.args.provider inside in
    kept_as (view b) s' _ (set_cost c.args.provider c.args.cents) tt refl refl (cost_sound (view b) b.sound c.args.provider c.args.cents r.0 r.1 (search rules)) refl goes b.came
