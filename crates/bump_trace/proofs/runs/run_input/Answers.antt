use Rattle.std.proofs.Common.{◌++◌, ◌∙◌, append-nil}
use Rattle.std.proofs.lemmas.Result.{err_from_is_err_and}
use Rattle.trace_lines.specs.Counted.{inner_of}
use Rattle.bump_trace.proofs.KnownBytes.{appends_more}
use Rattle.bump_trace.proofs.FrontsOfText.{front_of_all, front_unflushed}
use Rattle.bump_trace.proofs.runs.run_input.Goals as goal

pub returns-in-Ok-clause-text : goal.returns-in-Ok-clause-text
returns-in-Ok-clause-text g c =
    let ran = c.in-Ok.ensures.text in
    let (sent, wrote, same, fault) = ran in
    (sent ++ c.run_lines.new.gathered.items, appends_more _ _ _ _ _ wrote c.in_ok-flush-in-Ok.ensures.ok, append-nil _ ∙ same, fault)

pub returns-in_err-flush-in-Ok-clause-front : goal.returns-in_err-flush-in-Ok-clause-front
returns-in_err-flush-in-Ok-clause-front g c =
    let p = err_from_is_err_and c.from_residual-in_err-flush-in-Ok.result c.from_residual-in_err-flush-in-Ok.ensures.1 in
    rw p.1
    (front_of_all (g.W.Sink.contents (inner_of c.args.writer.now)) (g.W.Sink.contents (inner_of c.run_lines.new.writer)) (g.W.Sink.contents (inner_of c.flush.new.writer))
    c.run_lines.new.gathered.items c.args.input.now c.in-Ok.is_fault c.in-Ok.ensures.text c.in_err-flush-in-Ok.ensures.front)

pub returns-in_err-flush-in-Err-Memory-clause-front : goal.returns-in_err-flush-in-Err-Memory-clause-front
returns-in_err-flush-in-Err-Memory-clause-front g c =
    let p = err_from_is_err_and c.from_residual-in_err-flush-in-Err-Memory.result c.from_residual-in_err-flush-in-Err-Memory.ensures.1 in
    rw p.1
    (front_unflushed (g.W.Sink.contents (inner_of c.args.writer.now)) (g.W.Sink.contents (inner_of c.run_lines.new.writer)) (g.W.Sink.contents (inner_of c.flush-in-Err-Memory.new.writer))
    c.run_lines.new.gathered.items _ (rw c.in-Err-Memory.field-0-is at c.in-Err-Memory.ensures.front) c.in_err-flush-in-Err-Memory.ensures.front)
