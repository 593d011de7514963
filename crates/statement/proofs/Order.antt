-- Calls that differ only in the order of joins are the same calls.
use Rattle.std.proofs.Common.{◌≡◌, ◌⊎◌, List, [], ◌∷◌, sym, refl, ap, ◌∙◌, ⊎_elim}
use Rattle.tables.specs.Table.{Table}
use Rattle.tables.proofs.Orders.{reordered_same}
use Rattle.book.specs.Journey.{reached}
use Rattle.book.specs.Steps.{Call, begin}
use Rattle.statement.specs.Joining.{SameButOrder, Rejoined, AlikeButOrder, answers, OrderOfJoinsIsNoMatter}

same_table : (t u : Table) → SameButOrder t u → t ≡ u
same_table t u h = ⊎_elim (λ e. e) (reordered_same t u) h

same_call : (c d : Call) → (c ≡ d) ⊎ Rejoined c d → c ≡ d
same_call c d h =
    ⊎_elim (λ e. e)
    (λ r.
    r.one
    ∙ ap (λ (t : Table). begin r.rates t r.reference r.meaning) (same_table r.month r.other_month r.months)
    ∙ ap (λ (t : Table). begin r.rates r.other_month t r.meaning) (same_table r.reference r.other_reference r.references)
    ∙ sym r.other)
    h

pub same_calls : (cs ds : List Call) → AlikeButOrder cs ds → cs ≡ ds
same_calls [] [] h = refl
same_calls [] (d ∷ ds) h = absurd h
same_calls (c ∷ cs) [] h = absurd h
same_calls (c ∷ cs) (d ∷ ds) h = ap (λ (x : Call). x ∷ cs) (same_call c d h.0) ∙ ap (λ (xs : List Call). d ∷ xs) (same_calls cs ds h.1)

pub order_no_matter : OrderOfJoinsIsNoMatter
order_no_matter parties points cs ds h =
    let same = same_calls cs ds h in
    (ap (answers parties points) same, ap (reached parties points) same)
