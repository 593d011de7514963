-- Counting places, and how many have a rank below k.
use Rattle.std.specs.Prelude.{◌≡◌, ℕ, zero, suc, ◌-◌, ◌<◌, ◌≤◌, Bool, true, false, ltb, ◌≢◌, nat_lt, refl}
use Rattle.std.proofs.Math.Path.{sym, ap}
use Rattle.std.proofs.Common.{◌∙◌, arith}
use Rattle.std.proofs.Math.Logic.{⊎_elim}
use Rattle.std.proofs.lemmas.Bool.{cases_lt, cases_eq, cases_Bool, lt-ltb, le-ltb}
use Rattle.sharing.specs.Weights.{count, one_if}

bit_le : (a b : Bool) → (a ≡ true → b ≡ true) → one_if a ≤ one_if b
bit_le true b h = rw (h refl) (omega arith)
bit_le false b h = omega arith

pub bit_most : (a : Bool) → one_if a ≤ 1
bit_most true = omega arith
bit_most false = omega arith

pub bit_true : (a : Bool) → a ≡ true → one_if a ≡ 1
bit_true a h = rw h refl

pub bit_false : (a : Bool) → a ≡ false → one_if a ≡ 0
bit_false a h = rw h refl

pub count_most : (p : ℕ → Bool) (n : ℕ) → count p n ≤ n
count_most p zero = omega arith
count_most p (suc n) = omega (arith, count_most p n, bit_most (p n))

pub count-le : (p q : ℕ → Bool) (n : ℕ) → ((i : ℕ) → i < n → p i ≡ true → q i ≡ true) → count p n ≤ count q n
count-le p q zero h = omega arith
count-le p q (suc n) h = omega (arith, count-le p q n (λ i lt. h i (omega arith)), bit_le (p n) (q n) (h n (omega arith)))

pub count-lt : (p q : ℕ → Bool) (n : ℕ) → ((i : ℕ) → i < n → p i ≡ true → q i ≡ true) → (m : ℕ) → m < n → p m ≡ false → q m ≡ true → count p n < count q n
count-lt p q zero h m lt off on = absurd (omega arith)
count-lt p q (suc n) h m lt off on =
    ⊎_elim
    (λ e. omega (arith, count-le p q n (λ i l. h i (omega arith)), bit_false (p n) (ap p (sym e) ∙ off), bit_true (q n) (ap q (sym e) ∙ on)))
    (λ ne. omega (arith, count-lt p q n (λ i l. h i (omega arith)) m (omega arith) off on, bit_le (p n) (q n) (h n (omega arith))))
    (cases_eq m n)

pub count_same : (p q : ℕ → Bool) (n : ℕ) → ((i : ℕ) → i < n → p i ≡ q i) → count p n ≡ count q n
count_same p q zero h = refl
count_same p q (suc n) h = omega (arith, count_same p q n (λ i lt. h i (omega arith)), ap one_if (h n (omega arith)))

-- `prior j i`: place j comes before place i, in an order of all the places
module _ (prior : ℕ → ℕ → Bool) (never : (i : ℕ) → prior i i ≡ false) (through : (i j k : ℕ) → prior i j ≡ true → prior j k ≡ true → prior i k ≡ true) (either : (i j : ℕ) → (i ≢ j) → prior i j ≡ false → prior j i ≡ true) where
  place : ℕ → ℕ → ℕ
  place n i = count (λ j. prior j i) n

  -- one that comes before the newest place n has a smaller rank than it, and one that comes after has not
  ahead : (n i : ℕ) → i < n → prior n i ≡ false → place n i < place n n
  unfolding place
  ahead n i lt h =
      let first : prior i n ≡ true = either n i (λ e. absurd (omega arith)) h in
      count-lt (λ j. prior j i) (λ j. prior j n) n (λ j l b. through j i n b first) i lt (never i) first

  behind : (n i : ℕ) → prior n i ≡ true → place n n ≤ place n i
  unfolding place
  behind n i h = count-le (λ j. prior j n) (λ j. prior j i) n (λ j l b. through j n i b h)

  newest : (n : ℕ) → place (suc n) n ≡ place n n
  unfolding place
  newest n = omega (arith, bit_false (prior n n) (never n))

  step_in : (n k i : ℕ) → i < n → place n n < k → nat_lt (place (suc n) i) k ≡ nat_lt (place n i) (k - 1)
  unfolding place
  step_in n k i lt low =
      ⊎_elim
      (λ b. let more = bit_true (prior n i) b in
      ⊎_elim
      (λ small. lt-ltb _ _ (omega arith) ∙ sym (lt-ltb _ _ small))
      (λ big. le-ltb _ _ (omega arith) ∙ sym (le-ltb _ _ big))
      (cases_lt (place n i) (k - 1)))
      (λ b. let more = bit_false (prior n i) b in
      let less = ahead n i lt b in
      lt-ltb _ _ (omega arith) ∙ sym (lt-ltb (place n i) (k - 1) (omega arith)))
      (cases_Bool (prior n i))

  step_out : (n k i : ℕ) → i < n → k ≤ place n n → nat_lt (place (suc n) i) k ≡ nat_lt (place n i) k
  unfolding place
  step_out n k i lt high =
      ⊎_elim
      (λ b. let more = bit_true (prior n i) b in
      let after = behind n i b in
      le-ltb _ _ (omega arith) ∙ sym (le-ltb (place n i) k (omega arith)))
      (λ b. let e : place (suc n) i ≡ place n i = omega (arith, bit_false (prior n i) b) in ap (λ m. ltb m k) e)
      (cases_Bool (prior n i))

  rankmost : (n : ℕ) → place n n ≤ n
  unfolding place
  rankmost n = count_most (λ j. prior j n) n

  -- of n places, exactly k have a rank below k
  ranks : (n k : ℕ) → k ≤ n → count (λ i. ltb (place n i) k) n ≡ k
  ranks zero k h = omega arith
  ranks (suc n) k h =
      ⊎_elim
      (λ low.
      let old = count_same (λ i. ltb (place (suc n) i) k) (λ i. ltb (place n i) (k - 1)) n (λ i lt. step_in n k i lt low) in
      let new = bit_true (nat_lt (place (suc n) n) k) (lt-ltb _ _ (omega (arith, newest n))) in
      omega (arith, ranks n (k - 1) (omega arith)))
      (λ high.
      let old = count_same (λ i. ltb (place (suc n) i) k) (λ i. ltb (place n i) k) n (λ i lt. step_out n k i lt high) in
      let new = bit_false (nat_lt (place (suc n) n) k) (le-ltb _ _ (omega (arith, newest n))) in
      let most : place n n ≤ n = rankmost n in
      omega (arith, ranks n k (omega arith)))
      (cases_lt (place n n) k)

  pub exactly : (n k : ℕ) → k ≤ n → count (λ i. ltb (count (λ j. prior j i) n) k) n ≡ k
  unfolding place
  exactly n k h = ranks n k h
