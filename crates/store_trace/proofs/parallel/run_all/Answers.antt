use Rattle.trace_lines.specs.Counted.{inner_of}
use Rattle.bump_trace.specs.Meaning.{parts_of}
use Rattle.bump_trace.specs.Stages.{Open}
use Rattle.store_trace.specs.OpenStores.{seen}
use Rattle.store_trace.proofs.RunText.{stops_behind}
use Rattle.store_trace.proofs.ToldText.{tells_error}
use Rattle.store_trace.proofs.parallel.run_all.Goals as goal

pub returns-in_ok-stop-in-Err-clause-stopped : goal.returns-in_ok-stop-in-Err-clause-stopped
returns-in_ok-stop-in-Err-clause-stopped g c =
    let reached = rw c.in-Some.is at c.in_ok-place.ensures.reached in
    let told = rw c.in-Some.is at c.in_ok-place.ensures.told in
    λ none.
    tells_error (g.W.Sink.contents (inner_of c.args.writer.now)) (g.W.Sink.contents (inner_of c.run_lines.new.writer)) (g.W.Sink.contents (inner_of c.stop.new.writer)) c.args.gathered.now.items c.run_lines.new.gathered.items c.stop.new.gathered.items told c.args.first.number (parts_of c.args.first.rest.now) (Open (seen c.args.open_store.now)) c.in-Err.stopped.number c.in-Err.stopped.error
    (stops_behind c.args.first.number (parts_of c.args.first.rest.now) (Open (seen c.args.open_store.now)) c.in-Some.place.number c.in-Some.place.rest.now (seen c.run_lines.new.open_store) reached c.in-Err.stopped.number c.in-Err.stopped.error c.in-Err.ensures.stopped)
    c.in_ok-stop-in-Err.ensures.ok
