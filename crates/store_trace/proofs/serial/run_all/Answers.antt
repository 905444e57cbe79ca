use Rattle.std.proofs.Common.{sym, ◌∙◌}
use Rattle.trace_lines.specs.Counted.{inner_of}
use Rattle.bump_trace.specs.Meaning.{parts_of}
use Rattle.bump_trace.specs.Stages.{Open}
use Rattle.store_trace.specs.OpenStores.{seen}
use Rattle.store_trace.proofs.RunText.{last_of, tells_end, tells_rest}
use Rattle.store_trace.proofs.serial.run_all.Goals as goal

pub returns-in_default-rest_fault-clause-text : goal.returns-in_default-rest_fault-clause-text
returns-in_default-rest_fault-clause-text g c =
    let reached = rw c.in-Some.is at c.in_ok-place.ensures.reached in
    let told = rw c.in-Some.is at c.in_ok-place.ensures.told in
    let ended = rw c.in-Some.is at c.in_ok-place.ensures.ended in
    tells_end c.args.first.number (parts_of c.args.first.rest.now) (Open (seen c.args.open_store.now)) c.in-Some.place.number c.in-Some.place.rest.now (seen c.run_lines.new.open_store) reached (last_of ended) (g.W.Sink.contents (inner_of c.args.writer.now)) (g.W.Sink.contents (inner_of c.run_lines.new.writer)) (g.W.Sink.contents (inner_of c.run_lines.new.writer)) c.args.gathered.now.items c.run_lines.new.gathered.items c.run_lines.new.gathered.items told (sym c.rest_fault.ensures ∙ c.in_default-rest_fault.is)

pub returns-clause-text : goal.returns-clause-text
returns-clause-text g c =
    let reached = rw c.in-Some.is at c.in_ok-place.ensures.reached in
    let told = rw c.in-Some.is at c.in_ok-place.ensures.told in
    let ended = rw c.in-Some.is at c.in_ok-place.ensures.ended in
    tells_rest c.args.first.number (parts_of c.args.first.rest.now) (Open (seen c.args.open_store.now)) c.in-Some.place.number c.in-Some.place.rest.now (seen c.run_lines.new.open_store) reached (last_of ended) (g.W.Sink.contents (inner_of c.args.writer.now)) (g.W.Sink.contents (inner_of c.run_lines.new.writer)) (g.W.Sink.contents (inner_of c.stop.new.writer)) c.args.gathered.now.items c.run_lines.new.gathered.items c.stop.new.gathered.items told c.in-Some-rest_fault.fault (sym c.rest_fault.ensures ∙ c.in-Some-rest_fault.is) c.in_ok-stop.ensures.ok
