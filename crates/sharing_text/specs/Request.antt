-- What the words of a line ask for.
use Rattle.std.specs.Prelude.{ℕ, ◌-◌, min, Bool, cond, ◌&&◌, List, [], ◌∷◌, map, length, Some, None, codes, Option, ◌==◌, nat_le, nat_lt}
use Rattle.std.specs.Option.{option_map}
use Rattle.std.specs.Int.Digits.{number_from_digits}
use Rattle.std.specs.List.{prefix_len}
use Rattle.std.specs.Str.{bytes_eq}
use Rattle.sharing.specs.declared.choice.Choice.{Choice}
use Rattle.sharing.specs.declared.choice.Choice.TheVariants.{Weight, Heads}

abbrev pub rule_named : List ℕ → Option Choice
rule_named name =
    cond (bytes_eq name (codes "weight")) (Some Weight) (cond (bytes_eq name (codes "heads")) (Some Heads) None)

-- The byte is one of 0 to 9.
abbrev pub is_digit : ℕ → Bool
is_digit byte = nat_le 48 byte && nat_le byte 57

-- The number that a word writes, if it is one digit or more and nothing else.
abbrev pub number_of : List ℕ → Option ℕ
number_of word =
    cond (nat_lt 0 (length word) && prefix_len is_digit word == length word) (Some (number_from_digits 10 (map (λ byte. byte - 48) word))) None

abbrev pub with_number : Option ℕ → Option (List ℕ) → Option (List ℕ)
with_number None rest = None
with_number (Some n) rest = option_map (λ ns. n ∷ ns) rest

-- The numbers that words write, if each writes one.
abbrev pub numbers_of : List (List ℕ) → Option (List ℕ)
numbers_of [] = Some []
numbers_of (word ∷ words) = with_number (number_of word) (numbers_of words)

-- What 64 bits hold of a number: it, or the largest that they can.
abbrev pub capped : ℕ → ℕ
capped n = min n 18446744073709551615

abbrev pub all_capped : List ℕ → List ℕ
all_capped ns = map capped ns
