use Rattle.std.proofs.Common.{◌≡◌, ℕ, List, length, get_or, Some, rules, arith, refl}
use borrow.Author.Count.{below_none, below_more}
use Rattle.std.proofs.lemmas.Grind.{same_number_lists}
use Rattle.std.specs.Prelude.{codes}
use Rattle.sharing.specs.declared.choice.Choice.TheVariants.{Weight, Heads}
use Rattle.sharing_text.specs.Request.{rule_named as meant}
use Rattle.sharing_text.proofs.reading.rule_named.Goals as goal

-- a name that is spelled byte by byte
spelled_weight : (name : List ℕ) → length name ≡ 6 → get_or name 0 0 ≡ 119 → get_or name 1 0 ≡ 101 → get_or name 2 0 ≡ 105 → get_or name 3 0 ≡ 103 → get_or name 4 0 ≡ 104 → get_or name 5 0 ≡ 116 → Some Weight ≡ meant name
spelled_weight name l a b c d e f =
    let P : ℕ → Type 0 = λ k. get_or name k 0 ≡ get_or (codes "weight") k 0 in
    let same = same_number_lists name (codes "weight") l (λ k h. below_more P 5 (below_more P 4 (below_more P 3 (below_more P 2 (below_more P 1 (below_more P 0 (below_none P) a) b) c) d) e) f k (omega arith)) in
    rw same refl

spelled_heads : (name : List ℕ) → length name ≡ 5 → get_or name 0 0 ≡ 104 → get_or name 1 0 ≡ 101 → get_or name 2 0 ≡ 97 → get_or name 3 0 ≡ 100 → get_or name 4 0 ≡ 115 → Some Heads ≡ meant name
spelled_heads name l a b c d e =
    let P : ℕ → Type 0 = λ k. get_or name k 0 ≡ get_or (codes "heads") k 0 in
    let same = same_number_lists name (codes "heads") l (λ k h. below_more P 4 (below_more P 3 (below_more P 2 (below_more P 1 (below_more P 0 (below_none P) a) b) c) d) e k (omega arith)) in
    rw same refl

pub returns-in-weight : goal.returns-in-weight
returns-in-weight c = search (rules, spelled_weight)

pub returns-in-heads : goal.returns-in-heads
returns-in-heads c = search (rules, spelled_heads)
