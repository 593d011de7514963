-- What reading and writing have to do with one another.
use Rattle.std.specs.Prelude.{◌≡◌, ℕ, ◌≤◌, List, ◌++◌, length, drop, Ok, Err, Result}
use Rattle.std.specs.Borrow.{Bor}
use Rattle.faults.specs.declared.Fault.{Fault}
use Rattle.files.specs.Records.{framed, Framable, over}
use Rattle.notices.specs.declared.notice.Notice.{Notice}
use Rattle.notices.specs.Notices.{Said, said, encode, Sound}
use Rattle.notices.specs.Reading.{Reads}
use Rattle.notices.specs.Writing.{Writes}

-- Reading gave this notice, and left these bytes.
abbrev pub Gave : Said → List ℕ → Result (Notice × Bor (List ℕ)) Fault → Type 0
Gave n rest (Ok p) = (said p.0 ≡ n) × (p.1.now ≡ rest)
Gave n rest (Err f) = ⊥

-- Whatever notice the bytes begin with is read as itself, with the bytes that follow it.
abbrev pub ReadsBack : List ℕ → Result (Notice × Bor (List ℕ)) Fault → Type 0
ReadsBack bs r = (n : Said) (rest : List ℕ) → Sound n → bs ≡ encode n ++ rest → Gave n rest r

-- A notice that was written is read as itself, with the bytes after it.
abbrev pub WritesBack : Said → List ℕ → List ℕ → Result ℕ Fault → Type 0
WritesBack n before after (Ok size) = (r : Result (Notice × Bor (List ℕ)) Fault) → Reads after r → Gave n (drop size before) r
WritesBack n before after (Err f) = Unit {0}

-- Writing took as many bytes, and put these there.
abbrev pub Put : List ℕ → List ℕ → List ℕ → Result ℕ Fault → Type 0
Put bytes before after (Ok size) = (size ≡ length bytes) × (after ≡ over bytes before)
Put bytes before after (Err f) = ⊥

-- A notice that was read, written into a buffer with room for it, gives its own bytes again.
abbrev pub ReadWritten : List ℕ → Result (Notice × Bor (List ℕ)) Fault → Type 0
ReadWritten bs (Ok p) =
    (own : List ℕ) → bs ≡ own ++ p.1.now
    → (before after : List ℕ) (w : Result ℕ Fault) → length own ≤ length before → Writes (said p.0) before after w
    → Put own before after w
ReadWritten bs (Err f) = Unit {0}

-- The same notice, or the same fault.
abbrev pub Alike : Result (Notice × Bor (List ℕ)) Fault → Result (Notice × Bor (List ℕ)) Fault → Type 0
Alike (Ok p) (Ok q) = said p.0 ≡ said q.0
Alike (Ok p) (Err g) = ⊥
Alike (Err f) (Ok q) = ⊥
Alike (Err f) (Err g) = f ≡ g

-- What is answered of bytes that begin with a record is what is answered of that record alone.
abbrev pub OwnBytes : List ℕ → Result (Notice × Bor (List ℕ)) Fault → Type 0
OwnBytes bs r =
    (kind : ℕ) (body rest : List ℕ) → Framable kind body → bs ≡ framed kind body ++ rest
    → (alone : Result (Notice × Bor (List ℕ)) Fault) → Reads (framed kind body) alone → Alike r alone
