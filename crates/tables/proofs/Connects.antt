-- `lowest` is the lowest point of a group, whatever the order of the joins.
use Rattle.std.proofs.Common.{◌≡◌, ℕ, zero, suc, ◌<◌, ◌≤◌, min, max, true, false, cond, eqb, ◌⊎◌, List, [], ◌∷◌, length, get_or, sym, refl, ap, ◌∙◌, subst, inl, inr, ⊎_elim, suc-le-suc, le_trans, le_refl, le_of_suc-le-suc, not-suc-le-zero, le_antisymm, arith}
use Rattle.std.specs.List.{ContainsAt as Has}
use Rattle.std.specs.List.Sorted.{IsPermutation}
use Rattle.std.proofs.lemmas.List.Sorted.{IsPermutation-sym}
use Rattle.std.proofs.ByRecursion.{has_shuffled}
use Rattle.std.proofs.lemmas.Bool.{cases_Bool, eqb-true}
use Rattle.std.proofs.lemmas.Bool.Decides.{nat_tests}
use Rattle.tables.proofs.Cells.{places}
use Rattle.tables.specs.Groups.{Joins, accepted, Connected, itself, joining, back, onward, Lowest, merged, lowest}

has_none : {X : Type 0} (x : X) → Has [] x → ⊥
has_none x h = not-suc-le-zero h.1

has_cons : {X : Type 0} (y : X) (ys : List X) (x : X) (k : ℕ) → k < length (y ∷ ys) → ((d : X) → get_or (y ∷ ys) k d ≡ x) → (y ≡ x) ⊎ Has ys x
has_cons y ys x zero h at = inl (at x)
has_cons y ys x (suc k) h at = inr (k, le_of_suc-le-suc h, at)

pub has_more : {X : Type 0} (y : X) (ys : List X) (x : X) → Has ys x → Has (y ∷ ys) x
has_more y ys x h = (suc h.0, suc-le-suc h.1, h.2)

pub has_first : {X : Type 0} (y : X) (ys : List X) → Has (y ∷ ys) y
has_first y ys = (0, omega arith, λ d. refl)

pub merged_le : (a b l : ℕ) → merged a b l ≤ l
merged_le a b l = grind (arith, nat_tests)

pub merged_pos : (a b l : ℕ) → 1 ≤ a → 1 ≤ b → 1 ≤ l → 1 ≤ merged a b l
merged_pos a b l x y z = grind (arith, nat_tests)

pub merged_same : (a l : ℕ) → merged a a l ≡ l
merged_same a l = grind (arith, nat_tests)

merged_both : (a b : ℕ) → merged a b a ≡ merged a b b
merged_both a b = grind (arith, nat_tests)

module _ (n : ℕ) where
  weaken : (j : ℕ × ℕ) (js : Joins) {p q : ℕ} → Connected n js p q → Connected n (j ∷ js) p q
  weaken j js itself = itself
  weaken j js (joining h v) = joining (has_more j js _ h) v
  weaken j js (back c) = back (weaken j js c)
  weaken j js (onward c d) = onward (weaken j js c) (weaken j js d)

  pub low : (js : Joins) (p : ℕ) → lowest n js p ≤ p
  low [] p = le_refl p
  low (j ∷ js) p =
      let old = low js p in
      let new = merged_le (lowest n js j.0) (lowest n js j.1) (lowest n js p) in
      elim (accepted n j.0 j.1) as (λ b. cond b (merged (lowest n js j.0) (lowest n js j.1) (lowest n js p)) (lowest n js p) ≤ p)
      [ true ↦ le_trans new old | false ↦ old ]

  pub above_none : (js : Joins) (p : ℕ) → 1 ≤ p → 1 ≤ lowest n js p
  above_none [] p h = h
  above_none (j ∷ js) p h =
      ⊎_elim
      (λ (v : accepted n j.0 j.1 ≡ true).
      let b = places n n j.0 j.1 v in
      let new = merged_pos (lowest n js j.0) (lowest n js j.1) (lowest n js p) (above_none js j.0 b.0.0) (above_none js j.1 b.1.0) (above_none js p h) in
      rw v new)
      (λ (v : accepted n j.0 j.1 ≡ false). rw v (above_none js p h))
      (cases_Bool (accepted n j.0 j.1))

  -- Each join connects.
  agree_pair : (js : Joins) (a b : ℕ) → Has js (a, b) → accepted n a b ≡ true → lowest n js a ≡ lowest n js b
  agree_pair [] a b h v = absurd (has_none (a, b) h)
  agree_pair (j ∷ js) a b h v =
      ⊎_elim
      (λ (e : j ≡ (a, b)).
      let P : ℕ × ℕ → Type 0 = λ i. lowest n (i ∷ js) a ≡ lowest n (i ∷ js) b in
      subst P (sym e) (rw v (merged_both (lowest n js a) (lowest n js b))))
      (λ (t : Has js (a, b)). ap (λ l. cond (accepted n j.0 j.1) (merged (lowest n js j.0) (lowest n js j.1) l) l) (agree_pair js a b t v))
      (has_cons j js (a, b) h.0 h.1 h.2)

  pub agree : (js : Joins) {p q : ℕ} → Connected n js p q → lowest n js p ≡ lowest n js q
  agree js itself = refl
  agree js (joining {a} {b} h v) = agree_pair js a b h v
  agree js (back c) = sym (agree js c)
  agree js (onward c d) = agree js c ∙ agree js d

  -- The lowest points of two groups that are joined are connected.
  merges : (js : Joins) (a b l : ℕ) → Connected n js a b → Connected n js l (merged a b l)
  merges js a b l c =
      ⊎_elim
      (λ (e : eqb l (max a b) ≡ true).
      let l-is : l ≡ max a b = eqb-true l (max a b) e in
      let P : ℕ → Type 0 = λ m. Connected n js l m in
      let to : merged a b l ≡ min a b = rw e refl in
      subst P (sym to)
      (⊎_elim
      (λ (h : (l ≡ b) × (min a b ≡ a)). subst P (sym h.1) (let Q : ℕ → Type 0 = λ m. Connected n js m a in subst Q (sym h.0) (back c)))
      (λ (h : (l ≡ a) × (min a b ≡ b)). subst P (sym h.1) (let Q : ℕ → Type 0 = λ m. Connected n js m b in subst Q (sym h.0) c))
      (ends a b l l-is)))
      (λ (e : eqb l (max a b) ≡ false).
      let P : ℕ → Type 0 = λ m. Connected n js l m in
      let to : merged a b l ≡ l = rw e refl in
      subst P (sym to) itself)
      (cases_Bool (eqb l (max a b)))
    where
      ends : (a b l : ℕ) → l ≡ max a b → ((l ≡ b) × (min a b ≡ a)) ⊎ ((l ≡ a) × (min a b ≡ b))
      ends a b l e = grind arith

  reach : (js : Joins) (p : ℕ) → Connected n js p (lowest n js p)
  reach [] p = itself
  reach (j ∷ js) p =
      ⊎_elim
      (λ (v : accepted n j.0 j.1 ≡ true).
      let P : ℕ → Type 0 = λ m. Connected n (j ∷ js) p m in
      let a = weaken j js (reach js j.0) in
      let b = weaken j js (reach js j.1) in
      let ab = onward (back a) (onward (joining (has_first j js) v) b) in
      let to : lowest n (j ∷ js) p ≡ merged (lowest n js j.0) (lowest n js j.1) (lowest n js p) = rw v refl in
      subst P (sym to) (onward (weaken j js (reach js p)) (merges (j ∷ js) _ _ _ ab)))
      (λ (v : accepted n j.0 j.1 ≡ false).
      let P : ℕ → Type 0 = λ m. Connected n (j ∷ js) p m in
      let to : lowest n (j ∷ js) p ≡ lowest n js p = rw v refl in
      subst P (sym to) (weaken j js (reach js p)))
      (cases_Bool (accepted n j.0 j.1))

  pub parted : (js : Joins) (p q : ℕ) → lowest n js p ≡ lowest n js q → Connected n js p q
  parted js p q e = let P : ℕ → Type 0 = λ m. Connected n js p m in onward (subst P e (reach js p)) (back (reach js q))

  pub lowest_is : (js : Joins) (p : ℕ) → Lowest n js p (lowest n js p)
  lowest_is js p = record {
    in_group = reach js p;
    least = λ q c. subst (λ m. m ≤ q) (sym (agree js c)) (low js q);
  }

  pub one_lowest : (js : Joins) (p l m : ℕ) → Lowest n js p l → Lowest n js p m → l ≡ m
  one_lowest js p l m a b = le_antisymm (a.least m b.in_group) (b.least l a.in_group)

  pub move : (js ks : Joins) → IsPermutation js ks → {p q : ℕ} → Connected n js p q → Connected n ks p q
  move js ks s itself = itself
  move js ks s (joining h v) = joining (has_shuffled js ks _ s h) v
  move js ks s (back c) = back (move js ks s c)
  move js ks s (onward c d) = onward (move js ks s c) (move js ks s d)

  pub lowest_free : (js ks : Joins) → IsPermutation js ks → (p : ℕ) → lowest n js p ≡ lowest n ks p
  lowest_free js ks s p =
      one_lowest js p (lowest n js p) (lowest n ks p) (lowest_is js p)
      (record {
        in_group = move ks js (IsPermutation-sym js ks s) (reach ks p);
        least = λ q c. (lowest_is ks p).least q (move js ks s c);
      })

  -- Joining two points of one group leaves every group as it is.
  pub lowest_again : (js : Joins) (a b : ℕ) → Connected n js a b → (p : ℕ) → lowest n ((a, b) ∷ js) p ≡ lowest n js p
  lowest_again js a b c p =
      ⊎_elim
      (λ (v : accepted n a b ≡ true).
      let to : lowest n ((a, b) ∷ js) p ≡ merged (lowest n js a) (lowest n js b) (lowest n js p) = rw v refl in
      to ∙ ap (λ l. merged (lowest n js a) l (lowest n js p)) (sym (agree js c)) ∙ merged_same (lowest n js a) (lowest n js p))
      (λ (v : accepted n a b ≡ false). rw v refl)
      (cases_Bool (accepted n a b))
