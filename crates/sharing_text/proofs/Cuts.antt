-- The words of a text, taken off its front one by one.
use Rattle.std.proofs.Common.{◌≡◌, ℕ, ◌+◌, ◌<◌, Bool, true, false, cond, eqb, ltb, List, [], ◌∷◌, length, take, drop, filter, not, Option, ◌≤◌, sym, refl, ap, ◌∙◌, ⊎_elim, one-add, arith}
use Rattle.std.specs.List.{prefix_len, position, position_or_len}
use Rattle.std.specs.Option.{unwrap_or}
use Rattle.std.proofs.lemmas.List.Sums.{prefix_len-le-length}
use Rattle.std.proofs.lemmas.Bool.{cases_Bool, cases_lt, cond-true, cond-false, lt-ltb, le-ltb}
use Rattle.sharing_text.specs.Words.{is_blank, onto, pieces, words, past_blanks, word_of, after_word}

-- the pieces behind the first
abbrev behind : List ℕ → List (List ℕ)
behind [] = []
behind (byte ∷ text) = pieces text

abbrev full : List ℕ → Bool
full piece = ltb 0 (length piece)

abbrev run : List ℕ → ℕ
run text = prefix_len (is_blank false) text

first_piece : (text : List ℕ) → pieces text ≡ take (run text) text ∷ behind (drop (run text) text)
first_piece [] = refl
first_piece (byte ∷ text) =
    ⊎_elim
    (λ e. rw e refl)
    (λ e. rw e (rw (one-add (run text)) (ap (onto byte) (first_piece text))))
    (cases_Bool (eqb byte 32))

-- what follows a word begins with a blank, if at all
words_behind : (text : List ℕ) → filter full (behind (drop (run text) text)) ≡ words (drop (run text) text)
words_behind [] = refl
words_behind (byte ∷ text) =
    ⊎_elim
    (λ e. rw e (rw e refl))
    (λ e. rw e (rw (one-add (run text)) (words_behind text)))
    (cases_Bool (eqb byte 32))

past : (text : List ℕ) → words text ≡ words (past_blanks text)
past [] = refl
past (byte ∷ text) =
    ⊎_elim
    (λ e. rw e (rw (one-add (prefix_len (is_blank true) text)) (past text)))
    (λ e. sym (ap (λ n. words (drop n (byte ∷ text))) (cond-false (eqb byte 32) (1 + prefix_len (is_blank true) text) 0 e)))
    (cases_Bool (eqb byte 32))

words_of : (text : List ℕ) → words text ≡ cond (full (word_of text)) (word_of text ∷ words (after_word text)) (words (after_word text))
words_of text =
    let from = past_blanks text in
    past text ∙ ap (filter full) (first_piece from) ∙ ap (λ (ws : List (List ℕ)). cond (full (take (run from) from)) (take (run from) from ∷ ws) ws) (words_behind from)

-- the first word, where there is one
pub first_word : (text word rest : List ℕ) → word ≡ word_of text → rest ≡ after_word text → 0 < length word → words text ≡ word ∷ words rest
first_word text word rest w r some =
    let found : full (word_of text) ≡ true = ap full (sym w) ∙ lt-ltb 0 (length word) some in
    words_of text ∙ cond-true _ _ _ found ∙ ap (λ (x : List ℕ). x ∷ words (after_word text)) (sym w) ∙ ap (λ (x : List ℕ). word ∷ words x) (sym r)

pub no_word : (text : List ℕ) → length (word_of text) ≡ 0 → words text ≡ []
no_word [] h = refl
no_word (byte ∷ text) h =
    ⊎_elim
    (λ e. rw e (no_word text (rw (e, one-add (prefix_len (is_blank true) text)) at h)))
    (λ e. absurd (omega (arith, rw (e, e, one-add (run text)) at h)))
    (cases_Bool (eqb byte 32))

-- a place that is looked for, or else the length
place_found : (p : ℕ → Bool) (text : List ℕ) (o : Option ℕ) → o ≡ position p text → unwrap_or o (length text) ≡ position_or_len p text
place_found p text o e =
    let most = prefix_len-le-length (λ x. not (p x)) text in
    ⊎_elim
    (λ (lt : position_or_len p text < length text). rw (e, lt-ltb (position_or_len p text) (length text) lt) refl)
    (λ (le : length text ≤ position_or_len p text). rw (e, le-ltb (position_or_len p text) (length text) le) (omega arith))
    (cases_lt (position_or_len p text) (length text))

blanks_twice : (text : List ℕ) → position_or_len (is_blank false) text ≡ prefix_len (is_blank true) text
blanks_twice [] = refl
blanks_twice (byte ∷ text) =
    ⊎_elim
    (λ e. rw e (ap (λ n. 1 + n) (blanks_twice text)))
    (λ e. rw e refl)
    (cases_Bool (eqb byte 32))

-- a text that is cut at its first byte that is no blank, and then at the first blank
module _ (text from : List ℕ) (start end : Option ℕ) (first : start ≡ position (is_blank false) text) (past : from ≡ drop (unwrap_or start (length text)) text) (last : end ≡ position (is_blank true) from) where
  starts : from ≡ past_blanks text
  starts = past ∙ ap (λ n. drop n text) (place_found (is_blank false) text start first ∙ blanks_twice text)

  ends : unwrap_or end (length from) ≡ run (past_blanks text)
  ends = place_found (is_blank true) from end last ∙ ap (λ (xs : List ℕ). run xs) starts

  pub cut_word : (word : List ℕ) → word ≡ take (unwrap_or end (length from)) from → word ≡ word_of text
  cut_word word e = e ∙ ap (λ n. take n from) ends ∙ ap (λ (xs : List ℕ). take (run (past_blanks text)) xs) starts

  pub cut_rest : (rest : List ℕ) → rest ≡ drop (unwrap_or end (length from)) from → rest ≡ after_word text
  cut_rest rest e = e ∙ ap (λ n. drop n from) ends ∙ ap (λ (xs : List ℕ). drop (run (past_blanks text)) xs) starts
