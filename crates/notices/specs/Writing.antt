-- What writing a notice answers, and what it leaves in the buffer. A fault of writing stands at 0.
use Rattle.std.specs.Prelude.{◌≡◌, ℕ, ◌%◌, cond, ◌&&◌, List, length, Some, None, Ok, Err, Option, Result, ◌==◌, nat_le, nat_lt}
use Rattle.faults.specs.declared.NoticeCause.TheVariants as notice
use Rattle.faults.specs.declared.Fault.{Fault}
use Rattle.faults.specs.Numbers.{notice_fault}
use Rattle.files.specs.Records.{framed, first, over}
use Rattle.notices.specs.Notices.{Said, connect, appoint, nominate, allocate, cost, encode}
use Rattle.notices.specs.Reading.{sized}

-- The parts are 0 to 4, of three bytes each.
abbrev pub misshapen : Said → Option Fault
misshapen (connect point user) = None
misshapen (appoint sender point nominator) = None
misshapen (nominate sender point nominee) = None
misshapen (allocate party parts) = sized (length parts % 3 == 0 && nat_le (length parts) 12)
misshapen (cost provider cents) = None

-- The buffer has room for as many bytes.
abbrev pub crowded : ℕ → ℕ → Option Fault
crowded size room = cond (nat_lt room size) (Some (notice_fault notice.BufferTooShort 0)) None

-- All the checks of writing: first the parts, then the room.
abbrev pub unwritable : Said → ℕ → Option Fault
unwritable n room = first (misshapen n) (crowded (length (encode n)) room)

-- The bytes at the front of the buffer, and the buffer else as it was; or the fault, and the buffer as it was.
abbrev pub Puts : Option Fault → List ℕ → List ℕ → List ℕ → Result ℕ Fault → Type 0
Puts fault bytes before after (Ok size) = (fault ≡ None) × (size ≡ length bytes) × (after ≡ over bytes before)
Puts fault bytes before after (Err f) = (fault ≡ Some f) × (after ≡ before)

-- What writing the record of a kind and a body answers.
abbrev pub PutsNotice : ℕ → List ℕ → List ℕ → List ℕ → Result ℕ Fault → Type 0
PutsNotice kind body before after r =
    Puts (crowded (length (framed kind body)) (length before)) (framed kind body) before after r

-- What writing a notice answers.
abbrev pub Writes : Said → List ℕ → List ℕ → Result ℕ Fault → Type 0
Writes n before after r = Puts (unwritable n (length before)) (encode n) before after r
