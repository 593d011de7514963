use Rattle.std.proofs.Common.{◌≡◌, ◌-◌, ◌<◌, true, ◌&&◌, length, Some, None, vec_items, refl, ap, sym, ◌∙◌, arith, rules}
use Rattle.std.proofs.lemmas.List.{get_or_read}
use Rattle.std.specs.Result.{result_ok}
use Rattle.tables.specs.Table.{within}
use Rattle.book.specs.Model.{State, is_open}
use Rattle.book.specs.Steps.{Answer, nominate, with_connection, connection_at}
use Rattle.book.specs.View.{view}
use Rattle.book.proofs.Keeps.{connection_sound, nominate_is}
use Rattle.book.proofs.Onward.{kept_as}
use Rattle.book.proofs.state.Book.nominate.Goals as goal

pub invariant_of-self : goal.invariant_of-self
invariant_of-self c =
    let b = c.args.self.now in
    let place : c.in_ok-place.place ≡ c.args.point - 1 = search rules in
    let opened : is_open b.stage ≡ true = search rules in
    let inside : (within b.parties c.args.sender && (within b.points c.args.point && within b.parties c.args.nominee)) ≡ true = search rules in
    let l : c.in_ok-place.place < length (vec_items b.connections) = omega (arith, b.sound.long.0, c.in_ok-place.ensures.inside) in
    let read = sym (get_or_read (vec_items b.connections) c.in_ok-place.place c.index.result.now l c.index.ensures None) ∙ c.ok_or.ensures.ok_part ∙ ap result_ok c.in_ok-connection.was in
    let there : connection_at (view b) c.args.point ≡ Some c.in_ok-connection.connection = rw (sym place) read in
    let s' : State = with_connection (view b) c.args.point (record { user = c.in_ok-connection.connection.user; nominator = c.in_ok-connection.connection.nominator; nominee = c.args.nominee }) in
    let goes = nominate_is (view b) c.args.sender c.args.point c.args.nominee c.in_ok-connection.connection opened inside there (search rules) in
    kept_as (view b) s' _ (nominate c.args.sender c.args.point c.args.nominee) tt refl refl (connection_sound (view b) b.sound c.args.point _) (cc) (sym (ap (λ (p : Answer × State). p.1) goes)) b.came
