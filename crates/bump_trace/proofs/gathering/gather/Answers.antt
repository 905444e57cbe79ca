use Rattle.std.proofs.Common.{◌++◌, ap, ◌∙◌, append-nil}
use Rattle.std.proofs.lemmas.Result.{err_from_is_err_and}
use Rattle.trace_lines.specs.Counted.{inner_of}
use Rattle.bump_trace.proofs.KnownBytes.{appends_more}
use Rattle.bump_trace.proofs.FrontsOfText.{ungathered_behind, unflushed, unwritten_behind}
use Rattle.bump_trace.proofs.gathering.gather.Goals as goal

pub returns-then-text-gt-ROOM-clause-ok : goal.returns-then-text-gt-ROOM-clause-ok
returns-then-text-gt-ROOM-clause-ok g c = (
  c.args.gathered.now.items ++ c.args.text.now,
  appends_more _ _ _ _ _ c.in_ok-flush.ensures.ok c.in_ok-write_whole.ensures.ok,
  ap (λ l. (c.args.gathered.now.items ++ c.args.text.now) ++ l) c.in_ok-flush.ensures.none ∙ append-nil _,
)

pub returns-in_err-flush-clause-front : goal.returns-in_err-flush-clause-front
returns-in_err-flush-clause-front g c =
    let p = err_from_is_err_and c.from_residual-in_err-flush.result c.from_residual-in_err-flush.ensures.1 in
    rw (p.1, p.2)
    (unflushed (g.W.Sink.contents (inner_of c.args.writer.now)) (g.W.Sink.contents (inner_of c.flush.new.writer)) c.args.gathered.now.items c.flush.new.gathered.items c.args.text.now c.in_err-flush.field-0.0
    c.in_err-flush.ensures.only c.in_err-flush.ensures.front)

pub returns-in_err-write_whole-clause-front : goal.returns-in_err-write_whole-clause-front
returns-in_err-write_whole-clause-front g c =
    let p = err_from_is_err_and c.from_residual-in_err-write_whole.result c.from_residual-in_err-write_whole.ensures.1 in
    rw (p.1, p.2)
    (unwritten_behind (g.W.Sink.contents (inner_of c.args.writer.now)) (g.W.Sink.contents (inner_of c.flush.new.writer)) (g.W.Sink.contents (inner_of c.write_whole.new.writer)) c.args.gathered.now.items c.flush.new.gathered.items c.args.text.now c.in_err-write_whole.field-0.0
    c.in_err-write_whole.ensures.only c.in_ok-flush.ensures.ok c.in_err-write_whole.ensures.front)

pub returns-in_err-extend_from_slice-2-clause-front : goal.returns-in_err-extend_from_slice-2-clause-front
returns-in_err-extend_from_slice-2-clause-front g c =
    let p = err_from_is_err_and c.from_residual-in_err-extend_from_slice-2.result c.from_residual-in_err-extend_from_slice-2.ensures.1 in
    rw p.1
    (ungathered_behind (g.W.Sink.contents (inner_of c.args.writer.now)) (g.W.Sink.contents (inner_of c.flush.new.writer)) c.args.gathered.now.items c.extend_from_slice-2.new.self.items c.args.text.now p.0
    p.2 c.in_ok-flush.ensures.ok (c.in_err-extend_from_slice-2.ensures.items ∙ c.in_ok-flush.ensures.none))
