-- A joined table shows its groups, whatever the order of the joins.
use Rattle.std.proofs.Common.{◌≡◌, ℕ, Bool, true, false, cond, eqb, List, [], ◌∷◌, sym, refl, ap, ◌∙◌, subst, ⊎_elim, arith}
use mathlib.Core.Path.{fun_ext}
use Rattle.std.specs.List.{AllZip, ContainsAt as Has}
use Rattle.std.specs.List.Sorted.{IsPermutation}
use Rattle.std.proofs.lemmas.Bool.{cases_Bool}
use Rattle.std.proofs.lemmas.Bool.Decides.{same_from_decides, Decides-like, Decides-eqb}
use Rattle.tables.specs.Table.{Reading, Table, Sound, withdrawn, injected, row_of, cell}
use Rattle.tables.specs.Groups.{Joins, accepted, Connected, joining, back, onward, Lowest, lowest}
use Rattle.tables.specs.Joined.{gathered, shown, joined, stack}
use Rattle.tables.specs.Laws.{TellsGroup, together_in, ShowsGroups, SameTotals, Reordered}
use Rattle.tables.proofs.Sums.{sum_to_same}
use Rattle.tables.proofs.Cells.{within_from}
use Rattle.tables.proofs.Connects.{agree, parted, low, above_none, lowest_is, one_lowest, lowest_free, lowest_again}
use Rattle.tables.proofs.Gathers.{shown_length, shown_cell, shown_whole, group_empty}

pub told : (n : ℕ) (js : Joins) (p : ℕ) → TellsGroup n js p (λ q. eqb (lowest n js q) (lowest n js p))
told n js p q =
    Decides-like (eqb (lowest n js q) (lowest n js p)) (λ e. parted n js p q (sym e)) (λ c. sym (agree n js c)) (Decides-eqb (lowest n js q) (lowest n js p))

module _ (js : Joins) (t : Table) where
  abbrev n : ℕ
  n = t.points

  -- The members of the group that p leads are the points that p leads.
  same_member : (p : ℕ) → Lowest n js p p → (member : ℕ → Bool) → TellsGroup n js p member → (q : ℕ) → eqb (lowest n js q) p ≡ member q
  same_member p l member h q =
      let own : lowest n js p ≡ p = one_lowest n js p (lowest n js p) p (lowest_is n js p) l in
      same_from_decides (eqb (lowest n js q) p) (member q)
      (Decides-like (eqb (lowest n js q) p) (λ e. parted n js p q (own ∙ sym e)) (λ c. sym (agree n js c) ∙ own) (Decides-eqb (lowest n js q) p))
      (h q)

  all_shown : (part : Reading → ℕ) (p k : ℕ) → Lowest n js p p → (member : ℕ → Bool) → TellsGroup n js p member → gathered part (lowest n js) n (row_of t k) p ≡ together_in part t member k
  all_shown part p k l member h =
      sum_to_same (λ q. cond (eqb (lowest n js q) p) (part (cell t q k)) 0) (λ q. cond (member q) (part (cell t q k)) 0) n
      (λ q _ _. ap (λ b. cond b (part (cell t q k)) 0) (same_member p l member h q))

  -- A point that leads one point is the lowest of its own group.
  leads_itself : (p q : ℕ) → lowest n js q ≡ p → Lowest n js p p
  leads_itself p q e =
      let L : ℕ → Type 0 = λ l. Lowest n js q l in
      let l = subst L e (lowest_is n js q) in
      record {
        in_group = onward (back l.in_group) l.in_group;
        least = λ r c. l.least r (onward l.in_group c);
      }

  pub shows_groups : ShowsGroups js t (joined js t)
  shows_groups = record {
    same_points = refl;
    same_intervals = shown_length (lowest n js) t;
    lowest_shows_all = λ p k v l member h.
        let a = all_shown withdrawn p k l member h in
        let b = all_shown injected p k l member h in
        shown_cell (lowest n js) t p k v ∙ (λ i. (a i, b i));
    others_show_none = λ p k v none.
        shown_cell (lowest n js) t p k v ∙ group_empty (lowest n js) n (row_of t k) p (λ q _ _ e. none (leads_itself p q e));
  }

  pub totals_kept : Sound t → SameTotals t (joined js t)
  totals_kept s = shown_whole (lowest n js) t s (λ q a b.
      let pos = above_none n js q a in
      let down = low n js q in
      within_from n (lowest n js q) pos (omega arith))

  pub again_free : (a b : ℕ) → Connected n js a b → joined ((a, b) ∷ js) t ≡ joined js t
  again_free a b c = ap (λ lead. shown lead t) (fun_ext (lowest_again n js a b c))

  pub pair_again_free : (a b : ℕ) → Has js (a, b) → joined ((a, b) ∷ js) t ≡ joined js t
  pair_again_free a b h =
      ⊎_elim
      (λ (v : accepted n a b ≡ true). again_free a b (joining h v))
      (λ (v : accepted n a b ≡ false).
      let same : (p : ℕ) → lowest n ((a, b) ∷ js) p ≡ lowest n js p = λ p. rw v refl in
      ap (λ lead. shown lead t) (fun_ext same))
      (cases_Bool (accepted n a b))

pub joined_free : (js ks : Joins) (t : Table) → IsPermutation js ks → joined js t ≡ joined ks t
joined_free js ks t s = ap (λ lead. shown lead t) (fun_ext (lowest_free t.points js ks s))

pub stack_free : (layers others : List Joins) (t : Table) → AllZip IsPermutation layers others → stack layers t ≡ stack others t
stack_free [] [] t h = refl
stack_free [] (k ∷ ks) t h = absurd h
stack_free (j ∷ js) [] t h = absurd h
stack_free (j ∷ js) (k ∷ ks) t h = ap (joined j) (stack_free js ks t h.1) ∙ joined_free j k (stack ks t) h.0

-- Two tables that differ only in the order of one layer's joins are one table.
pub reordered_same : (t u : Table) → Reordered t u → t ≡ u
reordered_same t u r = r.one ∙ ap (stack r.above) (joined_free r.js r.ks (stack r.below r.bottom) r.shuffled) ∙ sym r.other
