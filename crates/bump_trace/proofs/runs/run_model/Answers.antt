use Rattle.std.proofs.lemmas.Result.{err_from_is_err_and}
use Rattle.trace_lines.specs.Counted.{inner_of, calls_of, failed_of}
use Rattle.bump_trace.proofs.WholeRuns.{uncalled, unread, unwritten, all_written}
use Rattle.bump_trace.proofs.runs.run_model.Goals as goal

pub returns-in_err-input-clause-unwritten : goal.returns-in_err-input-clause-unwritten
returns-in_err-input-clause-unwritten g c =
    let p = err_from_is_err_and c.from_residual.result c.from_residual.ensures.1 in
    rw (p.1, p.2) (uncalled (calls_of c.args.writer.now) c.in_err-input.field-0.0 c.requires.writer.0)

pub returns-in_err-input-clause-text : goal.returns-in_err-input-clause-text
returns-in_err-input-clause-text g c =
    let p = err_from_is_err_and c.from_residual.result c.from_residual.ensures.1 in
    rw (p.1, p.2)
    (unread (calls_of c.read_all.new.reader) (failed_of c.read_all.new.reader)
    (g.R.Source.remaining (inner_of c.args.reader.now)) (g.R.Source.remaining (inner_of c.read_all.new.reader))
    (g.W.Sink.contents (inner_of c.args.writer.now)) c.in_err-input.field-0.0
    c.in_err-input.ensures.err c.in_err-input.ensures.long)

pub returns-in_err-is_fault-clause-text : goal.returns-in_err-is_fault-clause-text
returns-in_err-is_fault-clause-text g c =
    let read = c.in_ok-input.ensures in
    let p = err_from_is_err_and c.from_residual-in_err-is_fault.result c.from_residual-in_err-is_fault.ensures.1 in
    rw (p.1, p.2)
    (unwritten (g.R.Source.remaining (inner_of c.args.reader.now)) (g.R.Source.remaining (inner_of c.read_all.new.reader))
    (g.W.Sink.contents (inner_of c.args.writer.now)) (g.W.Sink.contents (inner_of c.run_input.new.writer))
    c.in_ok-input.input.items read.bytes read.end read.size (failed_of c.run_input.new.writer) c.in_err-is_fault.field-0.0 c.in_err-is_fault.ensures.err
    (rw c.deref.ensures.value at c.in_err-is_fault.ensures.front))

pub returns-then-is_fault-clause-text : goal.returns-then-is_fault-clause-text
returns-then-is_fault-clause-text g c =
    let read = c.in_ok-input.ensures in
    all_written _ _ _ _ c.in_ok-input.input.items read.bytes read.end read.size c.in_ok-is_fault.is_fault _
    (rw c.deref.ensures.value at c.in_ok-is_fault.ensures.text) c.if-is_fault.true

pub returns-clause-text : goal.returns-clause-text
returns-clause-text g c =
    let read = c.in_ok-input.ensures in
    all_written _ _ _ _ c.in_ok-input.input.items read.bytes read.end read.size c.in_ok-is_fault.is_fault _
    (rw c.deref.ensures.value at c.in_ok-is_fault.ensures.text) c.if-is_fault.false
