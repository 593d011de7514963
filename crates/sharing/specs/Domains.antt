-- What the domain says.
use Rattle.std.specs.Prelude.{◌≡◌, ℕ, ◌<◌, Bool, true, false, cond, List, length, Ok, Err, sum, Result, refl}
use Rattle.std.proofs.Common.{ap, sym, ◌∙◌, arith}
use Rattle.faults.specs.declared.Fault.{Fault}
use Rattle.std.proofs.lemmas.Bool.{cond-false}
use Rattle.std.proofs.lemmas.Bool.Decides.{nat_tests}
use Rattle.sharing.specs.Domain.{domain, accepts, outside_domain, answer, placed}

pub total_some : (amount : ℕ) (weights : List ℕ) → domain amount weights ≡ true → 0 < sum weights
total_some amount weights h = grind (arith, nat_tests)

-- what passes is accepted
pub passed : (b : Bool) (x y : ℕ) (e : Fault) → Ok x ≡ cond b (Ok y) (Err e) → b ≡ true
passed true x y e h = refl
passed false x y e h = let z : ◌≡◌ {A = ℕ} 0 1 = cc in absurd (omega arith)

-- what does not pass is refused as the test says
turned_away : (b : Bool) (y : ℕ) (f e : Fault) → Err f ≡ cond b (Ok y) (Err e) → (b ≡ false) × (f ≡ e)
turned_away true y f e h = let z : ◌≡◌ {A = ℕ} 0 1 = cc in absurd (omega arith)
turned_away false y f e h = (refl, cc)

-- a refusal of the test is a rule's own refusal, and the places are as they were
pub refused : (meaning : ℕ → List ℕ → List ℕ) (amount : ℕ) (weights places : List ℕ) (total : ℕ) (f : Fault) (r : Result (Unit {0}) Fault) → Err f ≡ cond (accepts amount weights (length places)) (Ok total) (Err outside_domain) → r ≡ Err f → (r ≡ answer amount weights places) × (places ≡ placed meaning amount weights places) × (accepts amount weights (length places) ≡ false)
refused meaning amount weights places total f r h e =
    let away = turned_away (accepts amount weights (length places)) total f outside_domain h in
    (e ∙ ap Err away.1 ∙ sym (cond-false _ _ _ away.0), sym (cond-false _ _ _ away.0), away.0)
