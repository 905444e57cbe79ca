use Rattle.std.proofs.Common.{ℕ, List, false, true, subst}
use Rattle.std.proofs.lemmas.Result.{err_from_is_err_and}
use Rattle.trace_lines.specs.Counted.{inner_of, calls_of, failed_of}
use Rattle.store_trace.specs.Runs.{Reported, TellsText}
use Rattle.store_trace.proofs.WholeRuns.{unread_uncalled, unread_stopped, whole_told}
use Rattle.store_trace.proofs.parallel.run_par.Goals as goal

pub returns-in_err-input-clause-unwritten : goal.returns-in_err-input-clause-unwritten
returns-in_err-input-clause-unwritten g c =
    let p = err_from_is_err_and c.from_residual.result c.from_residual.ensures.1 in
    rw (p.1, p.2)
    (unread_uncalled (calls_of c.read_all.new.reader) (failed_of c.read_all.new.reader) (calls_of c.args.writer.now) c.in_err-input.field-0.0 c.in_err-input.ensures.err c.requires.writer.0)

pub returns-in_err-input-clause-text : goal.returns-in_err-input-clause-text
returns-in_err-input-clause-text g c =
    let p = err_from_is_err_and c.from_residual.result c.from_residual.ensures.1 in
    rw (p.1, p.2)
    (unread_stopped Reported (g.S.Source.remaining (inner_of c.args.reader.now)) (g.S.Source.remaining (inner_of c.read_all.new.reader)) (g.W.Sink.contents (inner_of c.args.writer.now)) (calls_of c.read_all.new.reader) (failed_of c.read_all.new.reader) c.in_err-input.field-0.0
    c.in_err-input.ensures.err c.in_err-input.ensures.long)

pub returns-then-branch-clause-text : goal.returns-then-branch-clause-text
returns-then-branch-clause-text g c =
    let held = g.W.Sink.contents (inner_of c.args.writer.now) in
    let holds = g.W.Sink.contents (inner_of c.run_input.new.writer) in
    whole_told Reported (g.S.Source.remaining (inner_of c.args.reader.now)) (g.S.Source.remaining (inner_of c.read_all.new.reader)) held holds c.in_ok-input.input.items true
    c.in_ok-input.ensures.bytes c.in_ok-input.ensures.end c.in_ok-input.ensures.size
    (subst (λ (xs : List ℕ). TellsText Reported held holds xs true) c.deref.ensures.value (subst (TellsText Reported held holds c.deref.result.now) c.if-branch.true c.in_ok-run_input.ensures.text))

pub returns-clause-text : goal.returns-clause-text
returns-clause-text g c =
    let held = g.W.Sink.contents (inner_of c.args.writer.now) in
    let holds = g.W.Sink.contents (inner_of c.run_input.new.writer) in
    whole_told Reported (g.S.Source.remaining (inner_of c.args.reader.now)) (g.S.Source.remaining (inner_of c.read_all.new.reader)) held holds c.in_ok-input.input.items false
    c.in_ok-input.ensures.bytes c.in_ok-input.ensures.end c.in_ok-input.ensures.size
    (subst (λ (xs : List ℕ). TellsText Reported held holds xs false) c.deref.ensures.value (subst (TellsText Reported held holds c.deref.result.now) c.if-branch.false c.in_ok-run_input.ensures.text))
