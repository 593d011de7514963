use Rattle.std.proofs.Common.{◌≡◌, true, false, is_some, rules, tests}
use Rattle.std.proofs.lemmas.Iterator.{cases_from_all, YieldsList-from_slice}
use Rattle.book.proofs.Connected.{connected_found}
use Rattle.book.proofs.state.begins.are_all_connected.Goals as goal

pub returns : goal.returns
returns c = connected_found c.args.connections.now c.all.result
    (cases_from_all _ _ _ (λ x. is_some x ≡ true) (λ x. is_some x ≡ false) c.all.ensures.ran (YieldsList-from_slice c.args.connections.now cc) (λ x q k. search (rules, tests)) (λ x q k. search (rules, tests)))
