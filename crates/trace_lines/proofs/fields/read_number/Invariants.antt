use Rattle.std.proofs.Common.{◌≡◌, ◌<◌, ◌^◌, take}
use Rattle.std.specs.Str.Parse.{AllDigits, digits_value}
use Rattle.trace_lines.proofs.fields.read_number.Given as goal

-- the bytes so far are digits, and spell the number so far, which fits
abbrev pub invariant-loop-byte : goal.invariant-loop-byte
invariant-loop-byte l = record {
  digits : AllDigits 10 (take l.byte-index l.digits);
  small : l.number < 2 ^ 64;
  number : l.number ≡ digits_value 10 (take l.byte-index l.digits);
}
