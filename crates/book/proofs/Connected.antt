-- Whether every point has a user.
use Rattle.std.proofs.Common.{◌≡◌, ℕ, ◌<◌, Bool, true, false, List, [], ◌∷◌, length, Some, None, Option, is_some, sym, refl, ◌∙◌, arith}
use Rattle.std.specs.Bool.{MatchBool}
use Rattle.std.specs.List.{AllWithin, HoldsAt, list_all}
use Rattle.std.proofs.lemmas.List.Folds.{list_all_at}
use Rattle.std.proofs.lemmas.List.Sums.{list_all-from_AllPass}
use Rattle.book.specs.declared.connection.Connection.{Connection}
use Rattle.book.specs.Steps.{all_connected}

connected_list : (cs : List (Option Connection)) → list_all is_some cs ≡ all_connected cs
connected_list [] = refl
connected_list (None ∷ cs) = refl
connected_list (Some c ∷ cs) = connected_list cs

-- what a search for one without user found
pub connected_found : (cs : List (Option Connection)) (r : Bool)
    → MatchBool r (AllWithin (λ c. is_some c ≡ true) cs 0 (length cs)) ((k : ℕ) × (k < length cs) × HoldsAt (λ c. is_some c ≡ false) cs k) → r ≡ all_connected cs
connected_found cs true h = sym (list_all-from_AllPass is_some cs (λ k d l. h k d (omega arith) l)) ∙ connected_list cs
connected_found cs false h = sym (list_all_at is_some cs h.0 None h.1 (h.2 None)) ∙ connected_list cs
