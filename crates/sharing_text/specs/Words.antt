-- The words of a text: what its blanks set apart.
use Rattle.std.specs.Prelude.{ℕ, Bool, true, false, cond, not, List, [], ◌∷◌, length, take, drop, filter, ◌==◌, nat_lt}
use Rattle.std.specs.List.{prefix_len}

-- A byte is a blank (a space, byte 32), or where the first word is `false`, it is not.
abbrev pub is_blank : Bool → ℕ → Bool
is_blank true byte = byte == 32
is_blank false byte = not (byte == 32)

abbrev pub onto : ℕ → List (List ℕ) → List (List ℕ)
onto byte [] = (byte ∷ []) ∷ []
onto byte (piece ∷ pieces) = (byte ∷ piece) ∷ pieces

-- The text cut at each blank.
abbrev pub pieces : List ℕ → List (List ℕ)
pieces [] = [] ∷ []
pieces (byte ∷ text) = cond (byte == 32) ([] ∷ pieces text) (onto byte (pieces text))

-- The pieces that are not empty.
abbrev pub words : List ℕ → List (List ℕ)
words text = filter (λ piece. nat_lt 0 (length piece)) (pieces text)

-- The text from its first word on, that word, and what follows it.
abbrev pub past_blanks : List ℕ → List ℕ
past_blanks text = drop (prefix_len (is_blank true) text) text

abbrev pub word_of : List ℕ → List ℕ
word_of text = take (prefix_len (is_blank false) (past_blanks text)) (past_blanks text)

abbrev pub after_word : List ℕ → List ℕ
after_word text = drop (prefix_len (is_blank false) (past_blanks text)) (past_blanks text)
