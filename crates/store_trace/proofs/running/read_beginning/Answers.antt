use Rattle.trace_lines.specs.Counted.{inner_of}
use Rattle.bump_trace.specs.Meaning.{parts_of}
use Rattle.bump_trace.specs.Stages.{Before}
use Rattle.store_trace.proofs.ToldText.{gathers_none, tells_error}
use Rattle.store_trace.proofs.running.read_beginning.Goals as goal

pub returns-in_ok-stop-in-Err-clause-stopped : goal.returns-in_ok-stop-in-Err-clause-stopped
returns-in_ok-stop-in-Err-clause-stopped g c =
    λ none.
    tells_error (g.W.Sink.contents (inner_of c.args.writer.now)) (g.W.Sink.contents (inner_of c.args.writer.now)) (g.W.Sink.contents (inner_of c.stop.new.writer)) c.args.gathered.now.items c.args.gathered.now.items c.stop.new.gathered.items
    (gathers_none (g.W.Sink.contents (inner_of c.args.writer.now)) c.args.gathered.now.items) 1 (parts_of c.args.input.now) Before c.in-Err.stopped.number c.in-Err.stopped.error c.in-Err.ensures.stopped c.in_ok-stop-in-Err.ensures.ok
