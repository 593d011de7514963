-- A notice that is written is read back, and no other notice has its bytes.
use Rattle.std.proofs.Common.{◌≡◌, ◌≢◌, ℕ, suc, ◌+◌, ◌*◌, ◌%◌, ◌<◌, ◌≤◌, cond, eqb, List, [], ◌∷◌, ◌++◌, length, get_or, take, drop, Some, None, Ok, Err, Option, Result, sym, refl, ap, ◌∙◌, subst, append_assoc, arith, Bor}
use Rattle.std.proofs.lemmas.List.{append_cancel_right, append-nil, take_at}
use Rattle.std.proofs.lemmas.Bool.Decides.{nat_tests}
use Rattle.std.proofs.lemmas.Bool.{eq-eqb, le-leb, le-ltb}
use Rattle.faults.specs.declared.Fault.{Fault}
use Rattle.files.specs.Records.{framed, Framable, told_length, told_kind, opening, first, over}
use Rattle.files.proofs.Bytes.{four_value}
use Rattle.files.proofs.Frames.{framed_length, framed_kind, framed_opens, same_records}
use Rattle.notices.specs.declared.kind.Kind.TheVariants.{Connect, Appoint, Nominate, Allocate, Cost}
use Rattle.notices.specs.declared.notice.Notice.{Notice}
use Rattle.notices.specs.Kinds.{Decodes}
use Rattle.notices.specs.Notices.{Said, connect, appoint, nominate, allocate, cost, said, kind_of, body_of, encode, Sound}
use Rattle.notices.specs.Reading.{naming, refusal, Reads}
use Rattle.notices.specs.Writing.{misshapen, crowded, unwritable, PutsNotice, Writes}
use Rattle.notices.specs.Laws.{ReadsBack, WritesBack, Put, ReadWritten, OwnBytes}

-- A sound notice is a record.
small : (n : Said) → Sound n → length (body_of n) ≤ 13
small (connect p u) s = omega arith
small (appoint s p n) h = omega arith
small (nominate s p n) h = omega arith
small (allocate p parts) h = omega (arith, h.1)
small (cost p k) h = omega arith

known : (n : Said) → kind_of n < 65536
known (connect p u) = omega arith
known (appoint s p n) = omega arith
known (nominate s p n) = omega arith
known (allocate p parts) = omega arith
known (cost p k) = omega arith

framable : (n : Said) → Sound n → Framable (kind_of n) (body_of n)
framable n s = (known n, omega (arith, small n s))

named : (n : Said) → Sound n → naming (kind_of n) (4 + length (body_of n)) ≡ None
named (connect p u) s = refl
named (appoint s p n) h = refl
named (nominate s p n) h = refl
named (allocate p parts) h =
    let e : (4 + length (p ∷ parts)) % 3 ≡ 2 = omega (arith, h.0) in
    let k : 4 + length (p ∷ parts) ≤ 17 = omega (arith, h.1) in
    simp (eq-eqb _ _ e, le-leb _ _ k)
named (cost p k) h = refl

-- The checks of a record look at its kind and its length alone.
refusal_is : (bs : List ℕ) (kind size : ℕ) → opening bs 0 ≡ None → told_kind bs ≡ kind → told_length bs ≡ size
    → refusal bs ≡ naming kind size
refusal_is bs kind size o k l = rw (o, k, l)

framed_refusal : (kind : ℕ) (body rest : List ℕ) → Framable kind body → refusal (framed kind body ++ rest) ≡ naming kind (4 + length body)
framed_refusal kind body rest h =
    refusal_is (framed kind body ++ rest) kind (4 + length body) (framed_opens kind body rest h 0) (framed_kind kind body rest h)
    (framed_length kind body rest h)

-- What is written of a sound notice passes every check.
accepted : (n : Said) (rest : List ℕ) → Sound n → refusal (encode n ++ rest) ≡ None
accepted n rest s = framed_refusal (kind_of n) (body_of n) rest (framable n s) ∙ named n s

-- The notice of a kind and a body.
from_body : ℕ → List ℕ → Said
from_body k b =
    cond (eqb k 1) (connect (get_or b 0 0) (get_or b 1 0))
    (cond (eqb k 2) (appoint (get_or b 0 0) (get_or b 1 0) (get_or b 2 0))
    (cond (eqb k 3) (nominate (get_or b 0 0) (get_or b 1 0) (get_or b 2 0))
    (cond (eqb k 4) (allocate (get_or b 0 0) (drop 1 b))
    (cost (get_or b 0 0) (get_or b 1 0 + get_or b 2 0 * 256 + get_or b 3 0 * 65536 + get_or b 4 0 * 16777216)))))

from_own : (n : Said) → Sound n → from_body (kind_of n) (body_of n) ≡ n
unfolding from_body
from_own (connect p u) s = refl
from_own (appoint s p n) h = refl
from_own (nominate s p n) h = refl
from_own (allocate p parts) h = refl
from_own (cost p k) h = ap (cost p) (four_value k h)

-- No two sound notices begin the same bytes.
unambiguous : (m n : Said) (c d : List ℕ) → Sound m → Sound n → encode m ++ c ≡ encode n ++ d → (m ≡ n) × (c ≡ d)
unambiguous m n c d hm hn e =
    let p = same_records (kind_of m) (kind_of n) (body_of m) (body_of n) c d (framable m hm) (framable n hn) e in (
      sym (from_own m hm) ∙ ap (λ k. from_body k (body_of m)) p.0 ∙ ap (from_body (kind_of n)) p.1 ∙ from_own n hn,
      p.2,
    )

pub reads_back : (bs : List ℕ) (r : Result (Notice × Bor (List ℕ)) Fault) → Reads bs r → ReadsBack bs r
reads_back bs (Ok p) h n rest s e = unambiguous (said p.0) n p.1.now rest h.1 s (sym h.2 ∙ e)
reads_back bs (Err f) h n rest s e =
    let a : refusal bs ≡ None = ap refusal e ∙ accepted n rest s in
    let z : ◌≡◌ {A = ℕ} 0 1 = cc in
    absurd (omega arith)

-- The checks of a record do not look at what follows it.
same_refusal : (kind : ℕ) (body rest : List ℕ) → Framable kind body → refusal (framed kind body ++ rest) ≡ refusal (framed kind body)
same_refusal kind body rest s =
    framed_refusal kind body rest s ∙ sym (framed_refusal kind body [] s) ∙ ap refusal (append-nil (framed kind body))

pub own_bytes : (bs : List ℕ) (r : Result (Notice × Bor (List ℕ)) Fault) → Reads bs r → OwnBytes bs r
own_bytes bs (Ok p) h kind body rest s e (Ok q) a =
    let w : encode (said q.0) ++ (q.1.now ++ rest) ≡ framed kind body ++ rest =
    sym (ap (λ x. x ++ rest) a.2 ∙ append_assoc (encode (said q.0)) q.1.now rest) in
    (unambiguous (said p.0) (said q.0) p.1.now (q.1.now ++ rest) h.1 a.1 (sym h.2 ∙ e ∙ sym w)).0
own_bytes bs (Ok p) h kind body rest s e (Err g) a =
    let same = ap refusal e ∙ same_refusal kind body rest s in
    let none = h.0 in
    let z : ◌≡◌ {A = ℕ} 0 1 = cc in
    absurd (omega arith)
own_bytes bs (Err f) h kind body rest s e (Ok q) a =
    let same = ap refusal e ∙ same_refusal kind body rest s in
    let none = a.0 in
    let z : ◌≡◌ {A = ℕ} 0 1 = cc in
    absurd (omega arith)
own_bytes bs (Err f) h kind body rest s e (Err g) a =
    let same = ap refusal e ∙ same_refusal kind body rest s in
    cc

-- A sound notice is refused for the room alone.
well_shaped : (n : Said) → Sound n → misshapen n ≡ None
well_shaped (connect p u) s = refl
well_shaped (appoint s p n) h = refl
well_shaped (nominate s p n) h = refl
well_shaped (allocate p parts) h = simp (eq-eqb _ _ h.0, le-leb _ _ h.1)
well_shaped (cost p k) h = refl

writable : (n : Said) (room : ℕ) → Sound n → length (encode n) ≤ room → unwritable n room ≡ None
writable n room s l = rw (well_shaped n s) (simp (le-ltb _ _ l))

put_own : (n : Said) (own before after : List ℕ) (w : Result ℕ Fault) → Sound n → own ≡ encode n → length own ≤ length before
    → Writes n before after w → Put own before after w
put_own n own before after (Ok size) s e l w = (w.1 ∙ ap length (sym e), w.2 ∙ ap (λ bytes. over bytes before) (sym e))
put_own n own before after (Err f) s e l w =
    let k : length (encode n) ≤ length before = omega (arith, ap length e) in
    let none = writable n (length before) s k in
    let some = w.0 in
    let z : ◌≡◌ {A = ℕ} 0 1 = cc in
    absurd (omega arith)

pub read_written : (bs : List ℕ) (r : Result (Notice × Bor (List ℕ)) Fault) → Reads bs r → ReadWritten bs r
read_written bs (Ok p) h = λ own e before after w l k.
    let same : own ≡ encode (said p.0) = append_cancel_right own (encode (said p.0)) p.1.now (sym e ∙ h.2) in
    put_own (said p.0) own before after w h.1 same l k
read_written bs (Err f) h = tt

-- A number that no kind has is refused whatever the length.
pub unknown : (number size : ℕ) (fault : Fault) → Decodes number (Err fault) → naming number size ≡ Some fault
unknown number size fault h =
    let one : 1 ≢ number = h.1 Connect in
    let two : 2 ≢ number = h.1 Appoint in
    let three : 3 ≢ number = h.1 Nominate in
    let four : 4 ≢ number = h.1 Allocate in
    let five : 5 ≢ number = h.1 Cost in
    rw h.0 (grind (arith, nat_tests))

-- What a record that is opened is read as.
pub read_fault : (bs : List ℕ) (kind : ℕ) (body rest : List ℕ) → Framable kind body → bs ≡ framed kind body ++ rest
    → refusal bs ≡ naming kind (4 + length body)
read_fault bs kind body rest s e = ap refusal e ∙ framed_refusal kind body rest s

pub read_as : (bs : List ℕ) (kind : ℕ) (body rest : List ℕ) (n : Said) → bs ≡ framed kind body ++ rest
    → kind_of n ≡ kind → body_of n ≡ body → bs ≡ encode n ++ rest
read_as bs kind body rest n e k b = e ∙ ap (λ x. framed x body ++ rest) (sym k) ∙ ap (λ x. framed (kind_of n) x ++ rest) (sym b)

-- Parts that can be written are those of a sound notice.
pub well_parted : (party : ℕ) (parts : List ℕ) → misshapen (allocate party parts) ≡ None → Sound (allocate party parts)
well_parted party parts e = (grind (arith, nat_tests), grind (arith, nat_tests))

first_none : (x y : Option Fault) → first x y ≡ None → x ≡ None
first_none None y e = refl
first_none (Some f) y e = e

pub writes_back : (n : Said) (before after : List ℕ) (r : Result ℕ Fault) → (misshapen n ≡ None → Sound n)
    → Writes n before after r → WritesBack n before after r
writes_back n before after (Ok size) s w = λ r h.
    let e : after ≡ encode n ++ drop size before = w.2 ∙ ap (λ k. encode n ++ drop k before) (sym w.1) in
    reads_back after r h n (drop size before) (s (first_none (misshapen n) (crowded (length (encode n)) (length before)) w.0)) e
writes_back n before after (Err f) s w = tt

-- The body of an allocation, at the front of the bytes that it was put together in.
pub front_body : (party : ℕ) (parts copy rest : List ℕ) → copy ≡ parts → take (1 + length parts) (party ∷ (copy ++ rest)) ≡ party ∷ parts
front_body party parts copy rest e =
    let n : 1 + length parts ≡ suc (length parts) = omega arith in
    rw n (ap (λ xs. party ∷ xs) (take_at copy rest (length parts) (ap length e) ∙ e))

-- The record of an allocation with 0 to 4 parts is refused for the room alone.
pub puts_allocation : (party : ℕ) (parts body before after : List ℕ) (r : Result ℕ Fault) → Sound (allocate party parts)
    → PutsNotice 4 body before after r → body ≡ party ∷ parts → Writes (allocate party parts) before after r
puts_allocation party parts body before after (Ok size) s h e =
    let k = subst (λ b. PutsNotice 4 b before after (Ok size)) e h in
    (rw (well_shaped (allocate party parts) s) k.0, k.1, k.2)
puts_allocation party parts body before after (Err f) s h e =
    let k = subst (λ b. PutsNotice 4 b before after (Err f)) e h in
    (rw (well_shaped (allocate party parts) s) k.0, k.1)
