-- A new book, as the program makes it.
use Rattle.std.proofs.Common.{◌≡◌, ℕ, true, List, [], map, replicate, None, Option, ap, ◌∙◌}
use Rattle.tables.specs.Table.{within}
use Rattle.allocations.specs.Falls.{parts_of}
use Rattle.allocations.specs.declared.allocation.Allocation.{Allocation}
use Rattle.book.specs.declared.connection.Connection.{Connection}
use Rattle.book.specs.declared.line.Line.{Line}
use Rattle.book.specs.declared.stage.Stage.TheVariants.{Open}
use Rattle.book.specs.Journey.{Reaches}
use Rattle.book.specs.Model.{state_of, notes_on, owing_on, owed_on, blank, own_bills}
use Rattle.book.proofs.Lines.{no_line, all_alike}

-- what is made is reached by no call
pub opened : (parties points : ℕ) (connections : List (Option Connection)) (allocations : List Allocation) (lines : List Line) → within 32 parties ≡ true → within 32 points ≡ true
    → connections ≡ replicate points None → map parts_of allocations ≡ own_bills parties → lines ≡ replicate parties no_line
    → Reaches parties points (state_of Open parties points connections allocations 0 None 0 lines 0 0) []
opened parties points connections allocations lines i j ec ea el =
    let en : notes_on lines ≡ replicate parties blank = ap notes_on el ∙ all_alike (λ line. line.note) parties no_line in
    let eo : owing_on lines ≡ replicate parties 0 = ap owing_on el ∙ all_alike (λ line. line.owing) parties no_line in
    let ew : owed_on lines ≡ replicate parties 0 = ap owed_on el ∙ all_alike (λ line. line.owed) parties no_line in
    record { parties_fit = i; points_fit = j; lawful = tt; there = cc }
