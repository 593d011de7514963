-- Sharing by weight is fair, and nothing else is.
use Rattle.std.proofs.Common.{◌≡◌, ℕ, ◌+◌, ◌<◌, ◌≤◌, Bool, true, ◌&&◌, eqb, ltb, ◌⊎◌, List, length, get_or, sum, sym, ap, ◌∙◌, subst, inl, inr, ⊎_elim, arith}
use Rattle.std.proofs.lemmas.List.FromFn.{get_or-map-range_with_len, fill_by_all}
use Rattle.std.proofs.lemmas.Bool.{cases_lt, cases_eq, cases_Bool, lt-ltb, le-ltb, eq-eqb, ltb-true, eqb-true, eqb-false, and_parts, or_cases, cond-true}
use Rattle.std.proofs.lemmas.Bool.Decides.{nat_tests}
use Rattle.sharing.specs.Domain.{domain, accepts, placed}
use Rattle.sharing.specs.Fair.{odd_cents, Fair, OneFairWay}
use Rattle.sharing.specs.Weights.{one_if, sum_of, count, whole, remainder, left_over, served_before, part, by_weight}
use Rattle.sharing.specs.Counts.{bit_most, bit_true, bit_false, count_most, count-le, count-lt}
use Rattle.sharing.specs.Domains.{total_some}
use Rattle.sharing.specs.Parts.{before, never, through, ranked, whole_most, left_most, part_each, part_all}
use Rattle.sharing.specs.Sums.{sum_same, sum-add, sum_list}

-- who is served earlier has no fewer odd cents
served_first : (rest : ℕ → ℕ) (n k i j : ℕ) → before rest i j ≡ true → one_if (ltb (served_before rest n j) k) ≤ one_if (ltb (served_before rest n i) k)
served_first rest n k i j h =
    let fewer = count-le (λ x. before rest x i) (λ x. before rest x j) n (λ x lt b. through rest x i j b h) in
    ⊎_elim
    (λ low. omega (arith, bit_true _ (lt-ltb (served_before rest n i) k low), bit_most (ltb (served_before rest n j) k)))
    (λ high. omega (arith, bit_false _ (le-ltb (served_before rest n j) k (omega arith)), bit_most (ltb (served_before rest n i) k)))
    (cases_lt (served_before rest n i) k)

larger_before : (rest : ℕ → ℕ) (i j : ℕ) → rest j < rest i → before rest i j ≡ true
larger_before rest i j h = grind (arith, nat_tests)

earlier_before : (rest : ℕ → ℕ) (i j : ℕ) → i < j → rest i ≡ rest j → before rest i j ≡ true
earlier_before rest i j h e = grind (arith, nat_tests)

before_ways : (rest : ℕ → ℕ) (j i : ℕ) → before rest j i ≡ true → (rest i < rest j) ⊎ ((rest j ≡ rest i) × (j < i))
before_ways rest j i h =
    ⊎_elim
    (λ l. inl (ltb-true (rest i) (rest j) l))
    (λ r. let both = and_parts (eqb (rest j) (rest i)) (ltb j i) r in inr (eqb-true (rest j) (rest i) both.0, ltb-true j i both.1))
    (or_cases (ltb (rest i) (rest j)) (eqb (rest j) (rest i) && ltb j i) h)

lt_of_not_one : (m : ℕ) → (m ≡ 1 → ⊥) → m ≤ 1 → m < 1
lt_of_not_one m ne le = ⊎_elim (λ e. absurd (ne e)) (λ other. omega (arith, other)) (cases_eq m 1)

never_below : (m n : ℕ) → m < n → m ≡ n → ⊥
never_below m n lt e = omega arith

module _ (amount : ℕ) (weights : List ℕ) (some : 0 < sum weights) where
  odd : ℕ → ℕ
  odd i = one_if (ltb (served_before (remainder amount weights) (length weights) i) (left_over amount weights))

  share_at : (i : ℕ) → i < length weights → get_or (by_weight amount weights) i 0 ≡ whole amount weights i + odd i
  unfolding odd
  share_at i lt = get_or-map-range_with_len (part amount weights) 0 (length weights) i i 0 lt (omega arith)

  odd_at : (i : ℕ) → i < length weights → odd_cents amount weights (by_weight amount weights) i ≡ odd i
  odd_at i lt = omega (arith, share_at i lt)

  odd_most : (i : ℕ) → odd i ≤ 1
  unfolding odd
  odd_most i = bit_most (ltb (served_before (remainder amount weights) (length weights) i) (left_over amount weights))

  odd_first : (i j : ℕ) → before (remainder amount weights) i j ≡ true → odd j ≤ odd i
  unfolding odd
  odd_first i j h = served_first (remainder amount weights) (length weights) (left_over amount weights) i j h

  pub weight_fair : Fair amount weights (by_weight amount weights)
  weight_fair = record {
    one_each = part_each amount weights some;
    adds_up = part_all amount weights some;
    no_less = λ i lt. omega (arith, share_at i lt);
    one_cent_at_most = λ i lt. omega (arith, share_at i lt, odd_most i);
    larger_remainder_first = λ i j li lj h. omega (arith, odd_at i li, odd_at j lj, odd_first i j (larger_before (remainder amount weights) i j h));
    earlier_of_equals_first = λ i j h lj e. omega (arith, odd_at i (omega arith), odd_at j lj, odd_first i j (earlier_before (remainder amount weights) i j h e));
  }

  -- shares that are fair
  module _ (shares : List ℕ) (fair : Fair amount weights shares) where
    has_cent : ℕ → Bool
    has_cent i = eqb (odd_cents amount weights shares i) 1

    cent_at : (i : ℕ) → i < length weights → one_if (has_cent i) ≡ odd_cents amount weights shares i
    unfolding has_cent
    cent_at i lt =
        let low = fair.no_less i lt in
        let high = fair.one_cent_at_most i lt in
        ⊎_elim
        (λ e. omega (arith, bit_true _ e, eqb-true _ _ e))
        (λ e. let none : odd_cents amount weights shares i < 1 = lt_of_not_one (odd_cents amount weights shares i) (eqb-false _ _ e) (omega arith) in omega (arith, bit_false _ e))
        (cases_Bool (eqb (odd_cents amount weights shares i) 1))

    cents_all : count has_cent (length weights) ≡ left_over amount weights
    cents_all =
        let n = length weights in
        let listed : sum shares ≡ sum_of (λ i. get_or shares i 0) n = sum_list shares ∙ ap (sum_of (λ i. get_or shares i 0)) fair.one_each in
        let each = sum_same (λ i. get_or shares i 0) (λ i. whole amount weights i + one_if (has_cent i)) n (λ i lt. omega (arith, cent_at i lt, fair.no_less i lt)) in
        let parts = sum-add (whole amount weights) (λ i. one_if (has_cent i)) n in
        omega (arith, fair.adds_up, whole_most amount weights some)

    -- who is served before a place that has a cent has one
    cent_before : (i j : ℕ) → i < length weights → j < length weights → before (remainder amount weights) j i ≡ true → has_cent i ≡ true → has_cent j ≡ true
    unfolding has_cent
    cent_before i j li lj b h =
        let one = eqb-true (odd_cents amount weights shares i) 1 h in
        let more : odd_cents amount weights shares i ≤ odd_cents amount weights shares j = ⊎_elim
        (λ larger. fair.larger_remainder_first j i lj li larger)
        (λ tie. fair.earlier_of_equals_first j i tie.1 li tie.0)
        (before_ways (remainder amount weights) j i b) in
        eq-eqb _ _ (omega (arith, fair.one_cent_at_most j lj, fair.no_less j lj))

    -- so such a place is among the first
    cent_first : (i : ℕ) → i < length weights → has_cent i ≡ true → ltb (served_before (remainder amount weights) (length weights) i) (left_over amount weights) ≡ true
    cent_first i lt h =
        let fewer = count-lt (λ j. before (remainder amount weights) j i) has_cent (length weights) (λ j lj b. cent_before i j lt lj b h) i lt (never (remainder amount weights) i) h in
        lt-ltb _ _ (omega (arith, cents_all))

    cent_same : (i : ℕ) → i < length weights → one_if (has_cent i) ≡ odd i
    unfolding odd
    cent_same i lt =
        let n = length weights in
        let among : ℕ → Bool = λ x. ltb (served_before (remainder amount weights) n x) (left_over amount weights) in
        let all = ranked (remainder amount weights) n (left_over amount weights) (omega (arith, left_most amount weights some, count_most (λ j. ltb 0 (remainder amount weights j)) n)) in
        ⊎_elim
        (λ h. ap one_if (h ∙ sym (cent_first i lt h)))
        (λ h. ⊎_elim
        (λ a. absurd (never_below _ _ (count-lt has_cent (λ x. ltb (served_before (remainder amount weights) n x) (left_over amount weights)) n (λ x lx c. cent_first x lx c) i lt h a) (cents_all ∙ sym all)))
        (λ a. ap one_if (h ∙ sym a))
        (cases_Bool (ltb (served_before (remainder amount weights) n i) (left_over amount weights))))
        (cases_Bool (has_cent i))

    pub fair_only : shares ≡ by_weight amount weights
    unfolding odd
    fair_only =
        fill_by_all (part amount weights) shares (length weights) 0 fair.one_each
        (λ i lt. omega (arith, cent_same i lt, cent_at i lt, fair.no_less i lt))

pub one_fair_way : OneFairWay
one_fair_way = record {
  is_fair = λ amount weights h. weight_fair amount weights (total_some amount weights h);
  no_other = λ amount weights shares h fair. fair_only amount weights (total_some amount weights h) shares fair;
}

-- what is written where the amount can be shared
pub written_fair : (amount : ℕ) (weights places written : List ℕ) → written ≡ placed by_weight amount weights places → accepts amount weights (length places) ≡ true → Fair amount weights written
written_fair amount weights places written e h =
    let inside = (and_parts (eqb (length places) (length weights)) (domain amount weights) h).1 in
    subst (Fair amount weights) (sym (e ∙ cond-true _ _ _ h)) (weight_fair amount weights (total_some amount weights inside))
