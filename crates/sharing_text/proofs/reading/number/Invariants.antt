use Rattle.std.proofs.Common.{◌≡◌, ◌+◌, ◌-◌, map, take, drop}
use Rattle.std.specs.Int.Digits.{number_from_digits}
use Rattle.std.specs.List.{prefix_len}
use Rattle.sharing_text.specs.Request.{is_digit, capped}
use Rattle.sharing_text.proofs.reading.number.Given as goal

abbrev pub invariant-loop-byte : goal.invariant-loop-byte
invariant-loop-byte l =
    (l.value ≡ capped (number_from_digits 10 (take l.byte-index (map (λ byte. byte - 48) l.word))))
    × (l.byte-index + prefix_len is_digit (drop l.byte-index l.word) ≡ prefix_len is_digit l.word)
