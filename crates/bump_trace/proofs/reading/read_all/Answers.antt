use Rattle.std.proofs.Common.{◌≡◌, ◌+◌, not, false, sym, refl, ap, ◌∙◌, ◌++◌, ◌≤◌, take, length, length-append, length-take, inr, lit≤, arith}
use Rattle.std.specs.IoError.{error_kind}
use Rattle.trace_lines.specs.Counted.{is_interrupted, count_if}
use Rattle.bump_trace.proofs.KnownBytes.{consumes_more, consumes_kept}
use Rattle.bump_trace.proofs.CountedReads.{one_read_more, reads_at_most, all_reads_made, fits_behind, too_long_behind}
use Rattle.bump_trace.proofs.reading.read_all.Goals as goal
use Rattle.bump_trace.proofs.reading.read_all.Goals.{in-Ok+else-n-len+in_ok-extend_from_slice-in-Ok, in-Err+else-not-is_interruption}

pub loop-preserved : goal.loop-preserved
loop-preserved g c =
    elim c.match-read.branch [
      | in-Ok+else-n-len+in_ok-extend_from_slice-in-Ok w ↦
          let piece = take w.in-Ok.n c.read.new.buf in
          let all : c.match-read.bytes.items ≡ c.loop.bytes.items ++ piece = ap (λ v. v.items) w.bytes-is ∙ w.in_ok-extend_from_slice-in-Ok.ensures.items in
          let long : length c.match-read.bytes.items ≡ length c.loop.bytes.items + length piece = ap length all ∙ length-append c.loop.bytes.items piece in
          let short : length piece ≤ w.in-Ok.n = rw length-take (omega arith) in
          record {
            taken = consumes_more _ _ _ c.loop.bytes.items piece c.match-read.bytes.items c.loop.invariant.taken w.in-Ok.ensures.bytes.0 all;
            size = fits_behind _ _ _ _ _ long short w.if-n-len.false (w.len.ensures ∙ c.loop.bytes.ok.0) c.loop.invariant.size;
            calls = omega (arith, w.in-Ok.ensures.calls, c.loop.invariant.calls, c.loop-test.true);
            failed = w.in-Ok.ensures.failed ∙ c.loop.invariant.failed;
          }
      | in-Err+else-not-is_interruption w ↦
          let same : c.match-read.bytes.items ≡ c.loop.bytes.items = ap (λ v. v.items) w.bytes-is in
          let none : not (is_interrupted (error_kind w.in-Err.e)) ≡ false = ap (λ k. not (is_interrupted k)) (sym w.kind.ensures) ∙ ap not (sym w.if-not-is_interruption.ensures) in
          record { taken = consumes_kept _ _ _ c.loop.bytes.items c.match-read.bytes.items c.loop.invariant.taken w.in-Err.ensures.bytes same; size = omega (arith, ap length same); calls = omega (arith, w.in-Err.ensures.calls, c.loop.invariant.calls, c.loop-test.true); failed = w.in-Err.ensures.failed ∙ ap (λ b. count_if b c.loop.reader.failed) none ∙ c.loop.invariant.failed }
    ]

pub returns-then-n-len-clause-long : goal.returns-then-n-len-clause-long
returns-then-n-len-clause-long g c =
    let piece = take c.in-Ok.n c.read.new.buf in
    let all = c.loop.bytes.items ++ piece in
    let long : length all ≡ length c.loop.bytes.items + length piece = length-append c.loop.bytes.items piece in
    let whole : length piece ≡ c.in-Ok.n = rw length-take (omega (arith, c.in-Ok.ensures.bound)) in (
      all,
      consumes_more _ _ _ c.loop.bytes.items piece all c.loop.invariant.taken c.in-Ok.ensures.bytes.0 refl,
      too_long_behind _ _ _ _ _ long whole c.if-n-len.true (c.len.ensures ∙ c.loop.bytes.ok.0) c.loop.invariant.size,
    )

pub returns-clause-err : goal.returns-clause-err
returns-clause-err g c =
    inr (all_reads_made _ _ c.loop.invariant.calls c.loop.auto.counter-end c.loop-test.false)

pub returns-in-Ok-eq0-clause-calls : goal.returns-in-Ok-eq0-clause-calls
returns-in-Ok-eq0-clause-calls g c =
    one_read_more _ _ _ _ c.read.ensures.calls c.loop.invariant.calls c.loop-test.true (lit≤ tt)

pub returns-then-n-len-clause-calls : goal.returns-then-n-len-clause-calls
returns-then-n-len-clause-calls g c =
    one_read_more _ _ _ _ c.read.ensures.calls c.loop.invariant.calls c.loop-test.true (lit≤ tt)

pub returns-in_err-extend_from_slice-in-Ok-clause-calls : goal.returns-in_err-extend_from_slice-in-Ok-clause-calls
returns-in_err-extend_from_slice-in-Ok-clause-calls g c =
    one_read_more _ _ _ _ c.read.ensures.calls c.loop.invariant.calls c.loop-test.true (lit≤ tt)

pub returns-then-not-is_interruption-clause-calls : goal.returns-then-not-is_interruption-clause-calls
returns-then-not-is_interruption-clause-calls g c =
    one_read_more _ _ _ _ c.read.ensures.calls c.loop.invariant.calls c.loop-test.true (lit≤ tt)

pub returns-clause-calls : goal.returns-clause-calls
returns-clause-calls g c = reads_at_most _ _ _ c.loop.invariant.calls c.loop.auto.counter-end (lit≤ tt)
