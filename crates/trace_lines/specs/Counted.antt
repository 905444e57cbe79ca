-- How the calls of a reader or writer are counted.
use Rattle.std.specs.Prelude.{ℕ, ◌+◌, ◌-◌, ◌^◌, min, Bool, true, false, not, ◌&&◌, ◌==◌, List, length, Result, Ok, Err}
use Rattle.std.specs.Prelude.{if◌then◌else◌}
use Rattle.std.specs.IoError.{error_kind}
use Rattle.std.specs.declared.io.Error.{Error}
use Rattle.std.specs.declared.io.ErrorKind.{ErrorKind}
use Rattle.std.specs.declared.io.ErrorKind.TheVariants.{Interrupted}
use Rattle.trace_lines.specs.declared.counted.Counted.{Counted}

-- what is counted, how many calls of it were made, and how many of them failed
abbrev pub inner_of : {T : Type 0} → Counted T → T
inner_of counted = counted.inner

abbrev pub calls_of : {T : Type 0} → Counted T → ℕ
calls_of counted = counted.calls

abbrev pub failed_of : {T : Type 0} → Counted T → ℕ
failed_of counted = counted.failed

-- the call is to be made again
abbrev pub is_interrupted : ErrorKind → Bool
is_interrupted Interrupted = true
is_interrupted _ = false

-- An interrupted read is no failure.
abbrev pub read_failed : Result ℕ Error → Bool
read_failed (Ok count) = false
read_failed (Err error) = not (is_interrupted (error_kind error))

-- Taking nothing of a piece that isn't empty is one.
abbrev pub write_failed : Result ℕ Error → List ℕ → Bool
write_failed (Ok count) piece = (count == 0) && not (length piece == 0)
write_failed (Err error) piece = true

-- A count stops growing at the greatest number.
abbrev pub next_count : ℕ → ℕ
next_count count = min (count + 1) (2 ^ 64 - 1)

abbrev pub count_if : Bool → ℕ → ℕ
count_if counts count = if counts then next_count count else count
