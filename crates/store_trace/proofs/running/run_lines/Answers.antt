use Rattle.std.proofs.Common.{refl, sym, ◌∙◌, subst, inl, arith}
use Rattle.trace_lines.specs.Counted.{inner_of}
use Rattle.bump_trace.specs.Meaning.{parts_of}
use Rattle.bump_trace.specs.Stages.{Open}
use Rattle.store_trace.specs.OpenStores.{seen}
use Rattle.store_trace.specs.WholeLines.{IsLines}
use Rattle.store_trace.proofs.Endings.{goes_on}
use Rattle.store_trace.proofs.ToldText.{gathers_none, gathers_lines, tells_line}
use Rattle.store_trace.proofs.running.run_lines.Goals as goal

pub loop-line-init : goal.loop-line-init
loop-line-init g c = record {
  room = c.requires.room;
  told = gathers_none (g.W.Sink.contents (inner_of c.args.writer.now)) c.args.gathered.now.items;
  so_far = λ end p. p;
  shape = c.requires.shape;
  store = refl;
  empty = c.new-text.ensures.items;
}

pub returns-in-Err-clause-stopped : goal.returns-in-Err-clause-stopped
returns-in-Err-clause-stopped g c =
    λ none.
    tells_line (g.W.Sink.contents (inner_of c.args.writer.now)) (g.W.Sink.contents (inner_of c.loop-line.writer)) (g.W.Sink.contents (inner_of c.stop_at.new.writer))
    c.args.gathered.now.items c.loop-line.gathered.items c.stop_at.new.gathered.items c.loop-line.invariant.told
    c.args.first.number (parts_of c.args.first.rest.now) (Open (seen c.args.open_store.now)) c.loop-line.number c.loop-line.rest.now (Open (seen c.loop-line.open_store)) c.loop-line.invariant.so_far
    c.in-Some.line.now c.in-Some.after.now c.in-Some.ensures.0 c.in-Err.why c.in-Err.ensures.fault c.in_ok-stop_at.ensures.ok

pub loop-line-preserved : goal.loop-line-preserved
loop-line-preserved g c =
    let whole = c.in_default-run_line.ensures.lines (inl c.loop-line.invariant.empty) in
    let more = subst IsLines (sym c.deref.ensures.value) whole in record {
      room = omega (arith, c.loop-line.invariant.room, c.in-Some.ensures.1);
      told =
          gathers_lines (g.W.Sink.contents (inner_of c.args.writer.now)) (g.W.Sink.contents (inner_of c.loop-line.writer)) (g.W.Sink.contents (inner_of c.gather.new.writer))
          c.args.gathered.now.items c.loop-line.gathered.items c.gather.new.gathered.items c.deref.result.now c.loop-line.invariant.told more c.in_ok-gather.ensures.ok;
      so_far =
          goes_on c.args.first.number (parts_of c.args.first.rest.now) (Open (seen c.args.open_store.now)) c.loop-line.number c.loop-line.rest.now (Open (seen c.loop-line.open_store)) c.loop-line.invariant.so_far
          c.in-Some.line.now c.in-Some.after.now c.in-Some.ensures.0 (Open (seen c.run_line.new.open_store)) c.in_default-run_line.ensures.passes;
      shape = c.run_line.ensures.shape;
      store = c.run_line.ensures.store ∙ c.loop-line.invariant.store;
      empty = c.clear.ensures.items;
    }
