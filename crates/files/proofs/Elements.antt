-- A list of a known length, by its elements.
use Rattle.std.proofs.Common.{◌≡◌, ℕ, List, [], ◌∷◌, length, get_or, refl, arith}

pub elements_1 : (xs : List ℕ) → length xs ≡ 1 → get_or xs 0 0 ∷ [] ≡ xs
elements_1 [] h = absurd (omega arith)
elements_1 (a ∷ []) h = refl
elements_1 (a ∷ b ∷ xs) h = absurd (omega arith)

pub elements_2 : (xs : List ℕ) → length xs ≡ 2 → get_or xs 0 0 ∷ get_or xs 1 0 ∷ [] ≡ xs
elements_2 [] h = absurd (omega arith)
elements_2 (a ∷ xs) h = rw (elements_1 xs (omega arith))

pub elements_3 : (xs : List ℕ) → length xs ≡ 3 → get_or xs 0 0 ∷ get_or xs 1 0 ∷ get_or xs 2 0 ∷ [] ≡ xs
elements_3 [] h = absurd (omega arith)
elements_3 (a ∷ xs) h = rw (elements_2 xs (omega arith))

pub elements_4 : (xs : List ℕ) → length xs ≡ 4 → get_or xs 0 0 ∷ get_or xs 1 0 ∷ get_or xs 2 0 ∷ get_or xs 3 0 ∷ [] ≡ xs
elements_4 [] h = absurd (omega arith)
elements_4 (a ∷ xs) h = rw (elements_3 xs (omega arith))

pub elements_5 : (xs : List ℕ) → length xs ≡ 5 → get_or xs 0 0 ∷ get_or xs 1 0 ∷ get_or xs 2 0 ∷ get_or xs 3 0 ∷ get_or xs 4 0 ∷ [] ≡ xs
elements_5 [] h = absurd (omega arith)
elements_5 (a ∷ xs) h = rw (elements_4 xs (omega arith))
