-- An accepted allocation, in the list of the program.
use Rattle.std.proofs.Common.{◌≡◌, ℕ, ◌-◌, true, map, set, vec_items, sym, ap, ◌∙◌, subst}
use Rattle.std.proofs.lemmas.Bool.{cond-true, and_from}
use Rattle.std.proofs.lemmas.List.{map-set}
use Rattle.tables.specs.Table.{within}
use Rattle.allocations.specs.Falls.{parts_of}
use Rattle.allocations.specs.Parts.{Parts, payable, whole_parts}
use Rattle.allocations.specs.declared.allocation.Allocation.{Allocation}
use Rattle.book.specs.declared.state.Book.{Book}
use Rattle.book.specs.Model.{State, is_open, state_of}
use Rattle.book.specs.Sound.{Sound}
use Rattle.book.specs.Steps.{Answer, accepted, step, allocate, with_allocation}
use Rattle.book.specs.View.{view}
use Rattle.book.proofs.Keeps.{allocation_sound}

pub allotted_well : (b : Book) (party i : ℕ) (parts : Parts) (a : Allocation) → i ≡ party - 1 → parts_of a ≡ parts → is_open b.stage ≡ true → within b.parties party ≡ true → payable b.parties parts ≡ true → whole_parts parts ≡ true
    → record {
      sound : Sound (step (view b) (allocate party parts)).1;
      says : accepted ≡ (step (view b) (allocate party parts)).0;
      goes : state_of b.stage b.parties b.points (vec_items b.connections) (set (vec_items b.allocations) i a) b.cost b.provider b.run (vec_items b.lines) b.excess b.purse ≡ (step (view b) (allocate party parts)).1;
    }
allotted_well b party i parts a place holds opened there pays whole =
    let is : step (view b) (allocate party parts) ≡ (accepted, with_allocation (view b) party parts) = cond-true _ _ _ opened ∙ cond-true _ _ _ (and_from (within b.parties party) (payable b.parties parts) there pays) ∙ cond-true _ _ _ whole in
    let moved : map parts_of (set (vec_items b.allocations) i a) ≡ set (map parts_of (vec_items b.allocations)) i (parts_of a) = map-set parts_of (vec_items b.allocations) i a in
    let same : state_of b.stage b.parties b.points (vec_items b.connections) (set (vec_items b.allocations) i a) b.cost b.provider b.run (vec_items b.lines) b.excess b.purse ≡ with_allocation (view b) party parts = cc in
    record {
      sound = subst (λ (p : Answer × State). Sound p.1) (sym is) (allocation_sound (view b) b.sound party parts whole pays);
      says = ap (λ (p : Answer × State). p.0) (sym is);
      goes = same ∙ ap (λ (p : Answer × State). p.1) (sym is);
    }
