-- The answer to a line, word by word.
use Rattle.std.proofs.Common.{◌≡◌, ℕ, ◌<◌, false, eqb, List, ◌∷◌, get_or, Some, Option, sym, ap, ◌∙◌, ⊎_elim, arith}
use Rattle.std.proofs.lemmas.Bool.{cases_eq, cond-false}
use Rattle.sharing.specs.declared.choice.Choice.{Choice}
use Rattle.std.specs.Option.{option_map}
use Rattle.sharing_text.specs.Replies.{asked, with_weights, answer_to, shared_by, reply_of}
use Rattle.sharing_text.specs.Request.{rule_named, number_of, numbers_of, capped, all_capped}
use Rattle.sharing_text.specs.Words.{words}
use Rattle.sharing_text.proofs.Numbers.{weights_same}

pub some_of : (n : ℕ) → (n ≡ 0 → ⊥) → 0 < n
some_of n h = ⊎_elim (λ e. absurd (h e)) (λ ne. omega (arith, ne)) (cases_eq n 0)

-- the answer to a line that names a rule, by what 64 bits hold of its numbers
pub heard : (line name rest word more : List ℕ) (rule : Choice) (amount : ℕ) (weights : List ℕ) → words line ≡ name ∷ words rest → eqb (get_or name 0 0) 35 ≡ false → rule_named name ≡ Some rule → words rest ≡ word ∷ words more → option_map capped (number_of word) ≡ Some amount → option_map all_capped (numbers_of (words more)) ≡ Some weights → reply_of line ≡ shared_by rule amount weights
heard line name rest word more rule amount weights first unmarked named second one all =
    ap answer_to first
    ∙ cond-false _ _ _ unmarked
    ∙ ap (λ (o : Option Choice). asked o (words rest)) named
    ∙ ap (asked (Some rule)) second
    ∙ sym (weights_same rule (number_of word) (numbers_of (words more)))
    ∙ ap (λ (o : Option ℕ). with_weights rule o (option_map all_capped (numbers_of (words more)))) one
    ∙ ap (with_weights rule (Some amount)) all
