use Rattle.std.proofs.Common.{◌≡◌, ◌-◌, refl, rules}
use Rattle.book.specs.Model.{State}
use Rattle.book.specs.Steps.{connect, with_connection, step}
use Rattle.book.specs.View.{view}
use Rattle.book.proofs.Keeps.{connection_sound}
use Rattle.book.proofs.Onward.{kept_as}
use Rattle.book.proofs.state.Book.connect.Goals as goal

pub invariant_of-self : goal.invariant_of-self
invariant_of-self c =
    let b = c.args.self.now in
    let at : c.in_ok-place.place ≡ c.args.point - 1 = search rules in
    let s' : State = with_connection (view b) c.args.point (record { user = c.args.user; nominator = c.args.user; nominee = c.args.user }) in
    let goes : s' ≡ (step (view b) (connect c.args.point c.args.user)).1 = search rules in
    kept_as (view b) s' _ (connect c.args.point c.args.user) tt refl refl (connection_sound (view b) b.sound c.args.point _) (cc) goes b.came
