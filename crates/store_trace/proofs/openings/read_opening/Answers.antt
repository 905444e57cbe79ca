use Rattle.std.proofs.Common.{◌≡◌, ◌+◌, ◌≤◌, Result, Ok, Err, Some, length, sym, ap, ◌∙◌, subst, arith}
use Rattle.std.specs.Result.{IfOk}
use Rattle.bump_trace.specs.Meaning.{parts_of, fault_at_end}
use Rattle.bump_trace.specs.Runs.{most_bytes}
use Rattle.bump_trace.specs.Stages.{Before, opened}
use Rattle.bump_trace.specs.Views.{opening_of}
use Rattle.trace_lines.specs.declared.faults.Fault.{Fault}
use Rattle.store_trace.specs.declared.openings.Beginning.{Beginning}
use Rattle.store_trace.specs.declared.openings.LineStart.{LineStart}
use Rattle.store_trace.specs.declared.openings.StoppedLine.{StoppedLine}
use Rattle.store_trace.proofs.Beginnings.{begun_opens, begun_stops}
use Rattle.store_trace.proofs.Endings.{goes_on, opens_at, stops_at, stops_as, opens_at_end, stops_here}
use Rattle.store_trace.proofs.LinesSaid.{unopened_fault}
use Rattle.store_trace.proofs.openings.read_opening.Goals as goal

-- What begins at a place has as much room as the place.
room_at : (begun : Result Beginning StoppedLine) (place : LineStart) → IfOk begun (λ b. b.place ≡ place) → place.number + length place.rest.now ≤ most_bytes + 1
    → IfOk begun (λ b. b.place.number + length b.place.rest.now ≤ most_bytes + 1)
room_at (Ok b) place is fits = subst (λ (p : LineStart). p.number + length p.rest.now ≤ most_bytes + 1) (sym is) fits
room_at (Err e) place is fits = tt

pub loop-line-init : goal.loop-line-init
loop-line-init c = record { room = omega (arith, c.requires); so_far = λ end p. p }

pub loop-line-preserved : goal.loop-line-preserved
loop-line-preserved c =
    let passes = rw c.in-Ok-false.field-0-test at c.in-Ok-false.ensures.line in record {
      room = omega (arith, c.loop-line.invariant.room, c.in-Some.ensures.1);
      so_far =
          goes_on 1 (parts_of c.args.input.now) Before c.loop-line.number c.loop-line.rest.now (opening_of c.loop-line.opening) c.loop-line.invariant.so_far
          c.in-Some.line.now c.in-Some.after.now c.in-Some.ensures.0 (opening_of c.declare_line.new.opening) (passes c.loop-line.number);
    }

pub returns-in-Ok-true-clause-room : goal.returns-in-Ok-true-clause-room
returns-in-Ok-true-clause-room c =
    room_at c.begin.result record { number = c.loop-line.number; rest = c.loop-line.rest } c.begin.ensures.place c.loop-line.invariant.room

pub returns-in-Ok-true-clause-begun : goal.returns-in-Ok-true-clause-begun
returns-in-Ok-true-clause-begun c =
    let (same, i, is) = rw c.in-Ok-true.field-0-test at c.in-Ok-true.ensures.line in
    begun_opens 1 (parts_of c.args.input.now) Before c.begin.result record { number = c.loop-line.number; rest = c.loop-line.rest }
    (opening_of c.declare_line.new.opening) c.begin.ensures.place c.begin.ensures.begun
    (λ store opens.
    opens_at 1 (parts_of c.args.input.now) Before c.loop-line.number c.loop-line.rest.now (opening_of c.loop-line.opening) c.loop-line.invariant.so_far
    c.in-Some.line.now c.in-Some.after.now c.in-Some.ensures.0 store i is (sym (ap opened same) ∙ opens))

pub returns-in-Ok-true-clause-stopped : goal.returns-in-Ok-true-clause-stopped
returns-in-Ok-true-clause-stopped c =
    let (same, i, is) = rw c.in-Ok-true.field-0-test at c.in-Ok-true.ensures.line in
    begun_stops 1 (parts_of c.args.input.now) Before c.begin.result c.loop-line.number (λ (what : Fault). opened (opening_of c.declare_line.new.opening) ≡ Err what)
    c.begin.ensures.number c.begin.ensures.fault
    (λ what none.
    stops_at 1 (parts_of c.args.input.now) Before c.loop-line.number c.loop-line.rest.now (opening_of c.loop-line.opening) c.loop-line.invariant.so_far
    c.in-Some.line.now c.in-Some.after.now c.in-Some.ensures.0 what
    (unopened_fault (opening_of c.loop-line.opening) c.loop-line.number c.in-Some.line.now i what is (sym (ap opened same) ∙ none)))

pub returns-in-Err-clause-stopped : goal.returns-in-Err-clause-stopped
returns-in-Err-clause-stopped c =
    stops_as 1 (parts_of c.args.input.now) Before c.loop-line.number c.loop-line.rest.now (opening_of c.loop-line.opening) c.loop-line.invariant.so_far
    c.in-Some.line.now c.in-Some.after.now c.in-Some.ensures.0 c.in-Err.error (c.in-Err.ensures.fault c.loop-line.number)

pub returns-clause-room : goal.returns-clause-room
returns-clause-room c =
    room_at c.begin_at_end.result record { number = c.loop-line.number; rest = c.loop-line.rest } c.begin_at_end.ensures.place c.loop-line.invariant.room

pub returns-clause-begun : goal.returns-clause-begun
returns-clause-begun c =
    begun_opens 1 (parts_of c.args.input.now) Before c.begin_at_end.result record { number = c.loop-line.number; rest = c.loop-line.rest }
    (opening_of c.loop-line.opening) c.begin_at_end.ensures.place c.begin_at_end.ensures.begun
    (λ store opens.
    opens_at_end 1 (parts_of c.args.input.now) Before c.loop-line.number c.loop-line.rest.now (opening_of c.loop-line.opening) c.loop-line.invariant.so_far
    c.in_default.ensures store opens)

pub returns-clause-stopped : goal.returns-clause-stopped
returns-clause-stopped c =
    begun_stops 1 (parts_of c.args.input.now) Before c.begin_at_end.result c.loop-line.number
    (λ (what : Fault). fault_at_end (opening_of c.loop-line.opening) c.loop-line.rest.now ≡ Some what)
    c.begin_at_end.ensures.number c.begin_at_end.ensures.fault
    (λ what is.
    stops_here 1 (parts_of c.args.input.now) Before c.loop-line.number c.loop-line.rest.now (opening_of c.loop-line.opening) c.loop-line.invariant.so_far
    c.in_default.ensures what is)
