-- What an array's `from_fn` gives, where its closure is the same at each call.
use Rattle.std.proofs.Common.{◌≡◌, ℕ, zero, suc, ◌+◌, ◌<◌, ◌≤◌, List, get_or, sym, ap, ◌∙◌, subst, ⊎_elim, arith}
use denote.Param.Members.{Mut, Called}
use Rattle.std.specs.Array.{IsFromFnResultFrom}
use Rattle.std.proofs.lemmas.Bool.{cases_eq}

module _ {F : Type 0} (g : Mut F (ℕ × Unit {0}) ℕ) (f : F) (h : ℕ → ℕ) (same : (i y : ℕ) (q : F) → Called g f (i, tt) y q → (q ≡ f) × (y ≡ h i)) (ys : List ℕ) where
  pub made_from : (n i : ℕ) → IsFromFnResultFrom g f ys i n → (k : ℕ) → i ≤ k → k < i + n → get_or ys k 0 ≡ h k
  made_from zero i m k a b = absurd (omega arith)
  made_from (suc n) i m k a b =
      ⊎_elim
      (λ (e : k ≡ i).
      let here = same i m.1 m.0 m.3 in
      ap (λ j. get_or ys j 0) e ∙ m.2.1 0 ∙ here.1 ∙ ap h (sym e))
      (λ (e : k ≡ i → ⊥).
      let here = same i m.1 m.0 m.3 in
      let P : F → Type 0 = λ q. IsFromFnResultFrom g q ys (i + 1) n in
      made_from n (i + 1) (subst P here.0 m.4) k (omega arith) (omega arith))
      (cases_eq k i)
