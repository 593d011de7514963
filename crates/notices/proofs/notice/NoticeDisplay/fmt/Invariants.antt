use Rattle.std.proofs.Common.{◌++◌, codes, take}
use Rattle.std.specs.Fmt.{decimal, HasWritten, IsPlainFormatter}
use Rattle.notices.specs.Parts.{parts_of}
use Rattle.notices.specs.Texts.{parts_text}
use Rattle.notices.proofs.notice.NoticeDisplay.fmt.Given as goal

abbrev pub invariant-loop-i : goal.invariant-loop-i
invariant-loop-i g l =
    IsPlainFormatter l.fn.f
    → HasWritten g.W.Write.write_str_gives l.fn.f (codes "allocate " ++ decimal l.party ++ parts_text (take l.i (parts_of l.parts))) l.f
