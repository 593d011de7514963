-- The lines of the parties, written one after another.
use Rattle.std.proofs.Common.{◌≡◌, ℕ, zero, suc, ◌+◌, ◌<◌, List, ◌∷◌, map, length, get_or, set, replicate, refl, sym, ap, ◌∙◌, arith}
use Rattle.std.proofs.lemmas.List.Edits.{fill_by_more}
use Rattle.std.proofs.lemmas.List.{ext_get_or, length-map, get_or-map, map-set}
use Rattle.billing.specs.declared.notes.Note.{Note}
use Rattle.book.specs.declared.line.Line.{Line}
use Rattle.book.specs.Model.{blank, notes_on}

-- one more line is written, so that f of it is g of its place
pub written_more : {X : Type 0} (f : Line → X) (g : ℕ → X) (d : X) (lines : List Line) (i : ℕ) (v : Line) → f v ≡ g i → i < length lines
    → ((k : ℕ) → k < i → get_or (map f lines) k d ≡ g k) → (k : ℕ) → k < i + 1 → get_or (map f (set lines i v)) k d ≡ g k
written_more f g d lines i v e lt before k h =
    let more : get_or (set (map f lines) i (g i)) k d ≡ g k = fill_by_more g (map f lines) i d (omega (arith, length-map lines f)) before k h in
    rw (map-set f lines i v, e) more

-- each line is written
pub written_all : {X : Type 0} (f : Line → X) (xs : List X) (d : X) (lines : List Line) → length lines ≡ length xs → ((k : ℕ) → k < length xs → get_or (map f lines) k d ≡ get_or xs k d) → map f lines ≡ xs
written_all f xs d lines long each = ext_get_or d (map f lines) xs (length-map lines f ∙ long) (λ k h. each k (omega (arith, length-map lines f)))

-- what a line's note says, found in the list of what all notes say
pub note_says : {X : Type 0} (f : Note → X) (d : X) (notes : List Note) (lines : List Line) (i : ℕ) (l : Line) → i < length lines → notes_on lines ≡ notes
    → f (get_or lines i l).note ≡ get_or (map f notes) i d
note_says f d notes lines i l lt same =
    ap f (sym (get_or-map (λ (line : Line). line.note) lines i l blank lt))
    ∙ sym (get_or-map f (notes_on lines) i blank d (omega (arith, length-map lines (λ (line : Line). line.note))))
    ∙ ap (λ ns. get_or (map f ns) i d) same

-- no party's line
abbrev pub no_line : Line
no_line = record { note = blank; owing = 0; owed = 0 }

-- what is outstanding on a line, found in the list of what is outstanding on all
pub line_shows : (f : Line → ℕ) (lines : List Line) (i p : ℕ) (line : Line) → i < length lines → i ≡ p → line ≡ get_or lines i no_line → f line ≡ get_or (map f lines) p 0
line_shows f lines i p line lt same at = ap f at ∙ sym (get_or-map f lines i no_line 0 lt) ∙ ap (λ k. get_or (map f lines) k 0) same

-- lines that are all alike show alike
pub all_alike : {X : Type 0} (f : Line → X) (n : ℕ) (line : Line) → map f (replicate n line) ≡ replicate n (f line)
all_alike f zero line = refl
all_alike f (suc n) line = ap (λ xs. f line ∷ xs) (all_alike f n line)
