-- The leaders that a join feed keeps, as groups are put together.
use Rattle.std.proofs.Common.{◌≡◌, ℕ, ◌+◌, ◌-◌, ◌≤◌, ◌⊎◌, List, map, length, get_or, sym, ap, ◌∙◌, subst, ⊎_elim, arith}
use Rattle.std.specs.List.{range_with_len}
use Rattle.std.proofs.lemmas.List.{get_or-map}
use Rattle.std.proofs.lemmas.List.FromFn.{get_or-map-range_with_len}
use Rattle.std.proofs.lemmas.Bool.Decides.{nat_tests}
use Rattle.tables.specs.Groups.{merged}
use Rattle.tables.proofs.Connects.{merged_le, merged_pos}
use Rattle.feeds.specs.Leaders.{lead_of, Led}

merged_twice : (a b l : ℕ) → merged a b (merged a b l) ≡ merged a b l
merged_twice a b l = grind (arith, nat_tests)

merged_one : (a b l : ℕ) → (merged a b l ≡ a) ⊎ ((merged a b l ≡ b) ⊎ (merged a b l ≡ l))
merged_one a b l = grind (arith, nat_tests)

merged_fixed : (f : ℕ → ℕ) (a b l : ℕ) → f a ≡ a → f b ≡ b → f l ≡ l → f (merged a b l) ≡ merged a b l
merged_fixed f a b l x y z =
    ⊎_elim
    (λ (e : merged a b l ≡ a). ap f e ∙ x ∙ sym e)
    (⊎_elim (λ (e : merged a b l ≡ b). ap f e ∙ y ∙ sym e) (λ (e : merged a b l ≡ l). ap f e ∙ z ∙ sym e))
    (merged_one a b l)

module _ (leaders : List ℕ) (led : Led leaders) where
  pub led_at : (q : ℕ) → 1 ≤ q → q ≤ 32 → (1 ≤ lead_of leaders q) × (lead_of leaders q ≤ q) × (lead_of leaders (lead_of leaders q) ≡ lead_of leaders q)
  led_at q a b = let h = led (q - 1) (omega arith) in (h.0, omega arith, h.2)

  -- A point that does not lead itself leads no point.
  pub leads_none : (p : ℕ) → (lead_of leaders p ≡ p → ⊥) → (q : ℕ) → 1 ≤ q → q ≤ 32 → lead_of leaders q ≡ p → ⊥
  leads_none p none q a b e = none (subst (λ l. lead_of leaders l ≡ l) e (led_at q a b).2)

  pub led_merged : length leaders ≡ 32 → (a b : ℕ) → 1 ≤ a → a ≤ 32 → 1 ≤ b → b ≤ 32 → Led (map (merged (lead_of leaders a) (lead_of leaders b)) leaders)
  led_merged long a b a1 a2 b1 b2 k h =
      let x = lead_of leaders a in
      let y = lead_of leaders b in
      let l = get_or leaders k 0 in
      let m = merged x y l in
      let la = led_at a a1 a2 in
      let lb = led_at b b1 b2 in
      let lk = led k h in
      let pos : 1 ≤ m = merged_pos x y l la.0 lb.0 lk.0 in
      let low : m ≤ l = merged_le x y l in
      let here : get_or (map (merged x y) leaders) k 0 ≡ m = get_or-map (merged x y) leaders k 0 0 (omega arith) in
      let there : lead_of (map (merged x y) leaders) m ≡ merged x y (lead_of leaders m) = get_or-map (merged x y) leaders (m - 1) 0 0 (omega arith) in
      let fixed : lead_of leaders m ≡ m = merged_fixed (lead_of leaders) x y l la.2 lb.2 lk.2 in (
        omega arith,
        omega arith,
        ap (lead_of (map (merged x y) leaders)) here ∙ there ∙ ap (merged x y) fixed ∙ merged_twice x y l ∙ sym here,
      )

module _ (leaders : List ℕ) (alone : leaders ≡ map (λ k. k + 1) (range_with_len 0 32)) where
  pub alone_at : (q : ℕ) → 1 ≤ q → q ≤ 32 → lead_of leaders q ≡ q
  alone_at q a b =
      let e : q - 1 + 1 ≡ q = omega arith in
      ap (λ xs. get_or xs (q - 1) 0) alone ∙ get_or-map-range_with_len (λ k. k + 1) 0 32 (q - 1) (q - 1) 0 (omega arith) (omega arith) ∙ e

  pub led_alone : Led leaders
  led_alone k h =
      let e : get_or leaders k 0 ≡ k + 1 = ap (λ xs. get_or xs k 0) alone ∙ get_or-map-range_with_len (λ k. k + 1) 0 32 k k 0 h (omega arith) in
      (omega arith, omega arith, alone_at (get_or leaders k 0) (omega arith) (omega arith))
