use Rattle.std.proofs.Common.{◌≡◌, length, get_or, map, sym, ◌∙◌, arith, rules}
use Rattle.std.proofs.lemmas.List.{get_or-map, length-map, ext_get_or}
use Rattle.tables.specs.Groups.{merged}
use Rattle.feeds.proofs.Made.{made_from}
use Rattle.feeds.proofs.joined.merged_leaders.Goals as goal

pub returns : goal.returns
returns c =
    let made = c.from_fn.ensures.items in
    let xs = c.args.leaders in
    let h = merged c.args.a c.args.b in
    let size = length-map xs h in
    let long : length xs ≡ 32 = search rules in
    let same = made.long in
    ext_get_or 0 c.from_fn.result (map h xs) (omega arith) (λ k l. made_from _ _ (λ i. h (get_or xs i 0)) (λ i y q m. search rules) c.from_fn.result 32 0 made.each k (omega arith) (omega arith) ∙ sym (get_or-map h xs k 0 0 (omega arith)))
