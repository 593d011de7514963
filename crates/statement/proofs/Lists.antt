-- What stands at the places of lists that calls change.
use Rattle.std.proofs.Common.{◌≡◌, ℕ, ◌+◌, ◌-◌, ◌<◌, ◌≤◌, Bool, true, false, cond, eqb, ◌≢◌, List, map, length, get_or, set, Some, None, Option, unwrap_or, sym, refl, ap, ◌∙◌, subst, arith}
use Rattle.std.specs.List.{range_with_len}
use Rattle.std.specs.Option.{option_map}
use Rattle.std.proofs.lemmas.List.FromFn.{fill_by_all}
use Rattle.std.proofs.lemmas.List.{length-map, get_or-map, get_or-set_same, get_or-set_other}
use Rattle.std.proofs.lemmas.Bool.{cond_both, eqb-true, eqb-false}
use Rattle.book.specs.declared.connection.Connection.{Connection}
use Rattle.statement.specs.Journal.{or_else}

-- a place of a list that is set at the place of a number
pub set_at : {X : Type 0} (d : X) (xs : List X) (q k : ℕ) (v : X) → 1 ≤ q → q - 1 < length xs → get_or (set xs (q - 1) v) k d ≡ cond (eqb q (k + 1)) v (get_or xs k d)
set_at d xs q k v low l =
    cond_both (eqb q (k + 1)) v (get_or xs k d) (λ z. get_or (set xs (q - 1) v) k d ≡ z)
    (λ e. let z : q - 1 ≡ k = omega (arith, eqb-true q (k + 1) e) in subst (λ j. get_or (set xs (q - 1) v) j d ≡ v) z (get_or-set_same xs (q - 1) v d l))
    (λ e. let ne : k ≢ q - 1 = λ z. eqb-false q (k + 1) e (omega arith) in get_or-set_other xs (q - 1) k v d ne)

module _ (f : Connection → ℕ) (cs : List (Option Connection)) (point : ℕ) (low : 1 ≤ point) (l : point - 1 < length cs) where
  chosen : (b : Bool) (c : Connection) (old rest : Option ℕ) (o : Option Connection) → option_map f o ≡ rest → option_map f (cond b (Some c) o) ≡ or_else (cond b (Some (f c)) None) rest
  chosen true c old rest o e = refl
  chosen false c old rest o e = e

  -- a connection that is set shows what it sets
  pub shown_new : (c : Connection) (k : ℕ) (rest : Option ℕ) → option_map f (get_or cs k None) ≡ rest → option_map f (get_or (set cs (point - 1) (Some c)) k None) ≡ or_else (cond (eqb point (k + 1)) (Some (f c)) None) rest
  shown_new c k rest e = ap (option_map f) (set_at None cs point k (Some c) low l) ∙ chosen (eqb point (k + 1)) c rest rest (get_or cs k None) e

  -- and what it does not set stays
  pub shown_old : (old c : Connection) (k : ℕ) → get_or cs (point - 1) None ≡ Some old → f c ≡ f old → option_map f (get_or (set cs (point - 1) (Some c)) k None) ≡ option_map f (get_or cs k None)
  shown_old old c k at same =
      ap (option_map f) (set_at None cs point k (Some c) low l)
      ∙ cond_both (eqb point (k + 1)) (Some c) (get_or cs k None) (λ z. option_map f z ≡ option_map f (get_or cs k None))
      (λ e. let z : point - 1 ≡ k = omega (arith, eqb-true point (k + 1) e) in ap Some same ∙ sym (ap (option_map f) at) ∙ ap (λ i. option_map f (get_or cs i None)) z)
      (λ e. refl)

-- a list of values that are set or not, and the same as numbers
pub numbers_same : (f : Option Connection → ℕ) (g : Connection → ℕ) → ((o : Option Connection) → f o ≡ unwrap_or (option_map g o) 0) → (cs : List (Option Connection)) (n : ℕ) (shown : ℕ → Option ℕ) → length cs ≡ n
    → ((k : ℕ) → k < n → option_map g (get_or cs k None) ≡ shown k) → map f cs ≡ map (λ k. unwrap_or (shown k) 0) (range_with_len 0 n)
numbers_same f g fg cs n shown long each =
    fill_by_all (λ k. unwrap_or (shown k) 0) (map f cs) n 0 (length-map cs f ∙ long)
    (λ k lt. get_or-map f cs k None 0 (omega arith) ∙ fg (get_or cs k None) ∙ ap (λ (o : Option ℕ). unwrap_or o 0) (each k lt))
