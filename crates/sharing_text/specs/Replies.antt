-- The answer to a line.
use Rattle.std.specs.Prelude.{◌≡◌, ℕ, cond, List, [], ◌∷◌, Some, None, vec_items, Option, ◌==◌, slice_index}
use Rattle.faults.specs.Numbers.{number_of as fault-number}
use Rattle.sharing.specs.Chosen.{chosen}
use Rattle.sharing.specs.Domain.{domain, outside_domain}
use Rattle.sharing.specs.declared.choice.Choice.{Choice}
use Rattle.sharing_text.specs.Words.{words}
use Rattle.sharing_text.specs.Request.{rule_named, number_of, numbers_of}
use Rattle.sharing_text.specs.declared.reply.Reply.{Reply}
use Rattle.sharing_text.specs.declared.reply.Reply.TheVariants as code

pub data Answer : Type 0 where
  silence : Answer
  malformed : Answer
  refused : ℕ → Answer
  shares : List ℕ → Answer

-- The answer that a value of the code stands for.
abbrev pub told : Reply → Answer
told code.Silence = silence
told code.Malformed = malformed
told (code.Refused fault) = refused (fault-number fault.layer)
told (code.Shares v) = shares (vec_items v)

-- What is refused is asked outside the domain.
abbrev pub RefusesOutside : Reply → Type 0
RefusesOutside code.Silence = Unit {0}
RefusesOutside code.Malformed = Unit {0}
RefusesOutside (code.Refused fault) = fault ≡ outside_domain
RefusesOutside (code.Shares v) = Unit {0}

-- In its domain a rule shares; outside it refuses, with 13.
abbrev pub shared_by : Choice → ℕ → List ℕ → Answer
shared_by rule amount weights = cond (domain amount weights) (shares (chosen rule amount weights)) (refused (fault-number outside_domain.layer))

abbrev pub with_weights : Choice → Option ℕ → Option (List ℕ) → Answer
with_weights rule None weights = malformed
with_weights rule (Some amount) None = malformed
with_weights rule (Some amount) (Some weights) = shared_by rule amount weights

-- A rule's name is followed by an amount and weights, each a number.
abbrev pub asked : Option Choice → List (List ℕ) → Answer
asked None rest = malformed
asked (Some rule) [] = malformed
asked (Some rule) (amount ∷ weights) = with_weights rule (number_of amount) (numbers_of weights)

-- The answer to the words of a line: none where there is no word, or where the first begins with # (byte 35).
abbrev pub answer_to : List (List ℕ) → Answer
answer_to [] = silence
answer_to (name ∷ rest) = cond (slice_index name 0 == 35) silence (asked (rule_named name) rest)

abbrev pub reply_of : List ℕ → Answer
reply_of line = answer_to (words line)
