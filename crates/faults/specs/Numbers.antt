-- The number of each cause, the name of each layer, and where a fault stands.
use Rattle.std.specs.Prelude.{ℕ, List, ◌++◌, codes}
use Rattle.std.specs.Fmt.{decimal}
use Rattle.faults.specs.declared.BytesCause.{BytesCause}
use Rattle.faults.specs.declared.BytesCause.TheVariants as bytes
use Rattle.faults.specs.declared.MeterCause.{MeterCause}
use Rattle.faults.specs.declared.MeterCause.TheVariants as meter
use Rattle.faults.specs.declared.NoticeCause.{NoticeCause}
use Rattle.faults.specs.declared.NoticeCause.TheVariants as notice
use Rattle.faults.specs.declared.BookCause.{BookCause}
use Rattle.faults.specs.declared.BookCause.TheVariants as book
use Rattle.faults.specs.declared.Layer.{Layer}
use Rattle.faults.specs.declared.Layer.TheVariants.{Bytes, Meter, Notice, Book}
use Rattle.faults.specs.declared.Fault.{Fault}

-- The number by which each cause is known.
abbrev pub number_of : Layer → ℕ
number_of (Book book.WrongState) = 1
number_of (Book book.OutOfRange) = 2
number_of (Book book.NotEntitled) = 3
number_of (Book book.BrokenParts) = 4
number_of (Book book.WrongAmount) = 5
number_of (Book book.UnfitFeed) = 6
number_of (Book book.NoUser) = 7
number_of (Book book.TotalTooLarge) = 8
number_of (Book book.NoSwing) = 9
number_of (Book book.PurseTooSmall) = 10
number_of (Book book.OtherRun) = 11
number_of (Book book.RunsUsedUp) = 12
number_of (Book book.OutsideDomain) = 13
number_of (Book book.WrongRates) = 14
number_of (Bytes bytes.TooFewBytes) = 20
number_of (Bytes bytes.WrongLength) = 21
number_of (Meter meter.UnexpectedKind) = 22
number_of (Notice notice.UnexpectedKind) = 22
number_of (Meter meter.ValueOutOfRange) = 23
number_of (Notice notice.BufferTooShort) = 24

-- The name of each layer, as it is printed.
abbrev pub name_of : Layer → List ℕ
name_of (Bytes _) = codes "bytes"
name_of (Meter _) = codes "meter"
name_of (Notice _) = codes "notice"
name_of (Book _) = codes "book"

-- A fault with its place: the byte where the record starts, or the position in a list.
abbrev pub bytes_fault : BytesCause → ℕ → Fault
bytes_fault cause place = record { layer = Bytes cause; at = place }

abbrev pub meter_fault : MeterCause → ℕ → Fault
meter_fault cause place = record { layer = Meter cause; at = place }

abbrev pub notice_fault : NoticeCause → ℕ → Fault
notice_fault cause place = record { layer = Notice cause; at = place }

-- A fault of the book has no record behind it, and stands at 0.
abbrev pub book_fault : BookCause → Fault
book_fault cause = record { layer = Book cause; at = 0 }

-- A fault as it is printed, as `bytes 20 at 3`.
abbrev pub text_of : Fault → List ℕ
text_of fault = name_of fault.layer ++ codes " " ++ decimal (number_of fault.layer) ++ codes " at " ++ decimal fault.at
