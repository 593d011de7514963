use Rattle.std.proofs.Common.{◌≡◌, ◌++◌, length, vec_items}
use Rattle.std.specs.Option.{option_map}
use Rattle.sharing_text.specs.Request.{numbers_of, all_capped}
use Rattle.sharing_text.specs.Words.{words}
use Rattle.sharing_text.proofs.reading.numbers.Given as goal

abbrev pub invariant-loop-word : goal.invariant-loop-word
invariant-loop-word l =
    option_map (λ ns. vec_items l.numbers ++ ns) (option_map all_capped (numbers_of (words l.rest))) ≡ option_map all_capped (numbers_of (words l.text))

abbrev pub decreases-loop-word : goal.decreases-loop-word
decreases-loop-word l = length l.rest
