-- What reading a notice answers, by the checks in their order. A notice starts at byte 0 of what is read.
use Rattle.std.specs.Prelude.{◌≡◌, ℕ, ◌+◌, ◌%◌, Bool, cond, ◌&&◌, List, ◌++◌, length, Some, None, Ok, Err, Option, Result, ◌==◌, nat_le}
use Rattle.std.specs.Borrow.{Bor}
use Rattle.faults.specs.declared.BytesCause.TheVariants as bytes
use Rattle.faults.specs.declared.NoticeCause.TheVariants as notice
use Rattle.faults.specs.declared.Fault.{Fault}
use Rattle.faults.specs.Numbers.{bytes_fault, notice_fault}
use Rattle.files.specs.Records.{told_length, told_kind, opening, first}
use Rattle.notices.specs.declared.notice.Notice.{Notice}
use Rattle.notices.specs.Notices.{said, allocate_kind, appoint_kind, connect_kind, cost_kind, nominate_kind, kind_of, body_of, encode, Sound}

-- A length that is wrong for its kind is refused.
abbrev pub sized : Bool → Option Fault
sized right = cond right None (Some (bytes_fault bytes.WrongLength 0))

-- The kind is that of a notice, and then the whole length is right for it:
-- 6, 7 and 7; 5 and three for each of 0 to 4 parts; 9.
abbrev pub naming : ℕ → ℕ → Option Fault
naming kind size =
    cond (kind == connect_kind) (sized (size == 6))
    (cond (kind == appoint_kind) (sized (size == 7))
    (cond (kind == nominate_kind) (sized (size == 7))
    (cond (kind == allocate_kind) (sized (size % 3 == 2 && nat_le size 17))
    (cond (kind == cost_kind) (sized (size == 9))
    (Some (notice_fault notice.UnexpectedKind 0))))))

-- All the checks of a notice: the record is there, and it is a notice.
abbrev pub refusal : List ℕ → Option Fault
refusal bs = first (opening bs 0) (naming (told_kind bs) (told_length bs))

-- What the record of a kind and a body is read as.
abbrev pub Names : ℕ → List ℕ → Result Notice Fault → Type 0
Names kind body (Ok n) =
    (naming kind (4 + length body) ≡ None) × Sound (said n) × (kind_of (said n) ≡ kind) × (body_of (said n) ≡ body)
Names kind body (Err f) = naming kind (4 + length body) ≡ Some f

-- What reading answers: the notice whose bytes come first, and the bytes after it; or the first check that fails.
abbrev pub Reads : List ℕ → Result (Notice × Bor (List ℕ)) Fault → Type 0
Reads bs (Ok p) = (refusal bs ≡ None) × Sound (said p.0) × (bs ≡ encode (said p.0) ++ p.1.now)
Reads bs (Err f) = refusal bs ≡ Some f
