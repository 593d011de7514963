-- The order of joins is no matter.
use Rattle.std.specs.Prelude.{◌≡◌, ℕ, ◌⊎◌, List, [], ◌∷◌, map}
use Rattle.tables.specs.Laws.{Reordered}
use Rattle.tables.specs.Table.{Table}
use Rattle.balancing.specs.declared.rates.Rates.{Rates}
use Rattle.book.specs.Journey.{reached}
use Rattle.book.specs.Steps.{Call, Answer, begin, Meaning}
use Rattle.statement.specs.Journal.{journal}

-- The same table, or one in which the joins of one join feed came in another order, under any number of join feeds above and below.
abbrev pub SameButOrder : Table → Table → Type 0
SameButOrder t u = (t ≡ u) ⊎ Reordered t u

-- A begin over such tables.
pub record Rejoined (c d : Call) : Type 0 where
  pub rates : Rates
  pub month : Table
  pub other_month : Table
  pub reference : Table
  pub other_reference : Table
  pub meaning : Meaning
  pub one : c ≡ begin rates month reference meaning
  pub other : d ≡ begin rates other_month other_reference meaning
  pub months : SameButOrder month other_month
  pub references : SameButOrder reference other_reference

-- Call by call the same, but for the order of joins.
abbrev pub AlikeButOrder : List Call → List Call → Type 0
AlikeButOrder [] [] = Unit {0}
AlikeButOrder [] (d ∷ ds) = ⊥
AlikeButOrder (c ∷ cs) [] = ⊥
AlikeButOrder (c ∷ cs) (d ∷ ds) = ((c ≡ d) ⊎ Rejoined c d) × AlikeButOrder cs ds

abbrev pub answers : ℕ → ℕ → List Call → List Answer
answers parties points calls = map (λ e. e.answer) (journal parties points calls)

-- Two new books of the same parties and points that get such calls answer every call alike, and are the same to the cent.
abbrev pub OrderOfJoinsIsNoMatter : Type 0
OrderOfJoinsIsNoMatter =
    (parties points : ℕ) (cs ds : List Call) → AlikeButOrder cs ds → (answers parties points cs ≡ answers parties points ds) × (reached parties points cs ≡ reached parties points ds)
