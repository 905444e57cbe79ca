use Rattle.std.proofs.lemmas.Result.{err_from_is_err_and}
use Rattle.bump_trace.specs.Stages.{Open}
use Rattle.trace_lines.specs.Seen.{seen_instruction}
use Rattle.store_trace.specs.OpenStores.{seen}
use Rattle.store_trace.proofs.LinesSaid.{unread_fault, unread_fails, skipped_passes, said_none, said_declares, said_makes, open_order, run_fails, run_passes}
use Rattle.store_trace.proofs.running.run_line.Goals as goal

pub returns-in_err-read_line-clause-fault : goal.returns-in_err-read_line-clause-fault
returns-in_err-read_line-clause-fault g c =
    let p = err_from_is_err_and c.from_residual.result c.from_residual.ensures.1 in
    rw (p.1, p.2)
    (unread_fails (Open (seen c.args.open_store.now)) c.args.number c.args.line.now c.in_err-read_line.field-0.0
    (unread_fault (Open (seen c.args.open_store.now)) c.args.number c.args.line.now c.in_err-read_line.field-0.0 c.in_err-read_line.ensures))

pub returns-in-None-clause-fault : goal.returns-in-None-clause-fault
returns-in-None-clause-fault g c = (skipped_passes (Open (seen c.args.open_store.now)) c.args.number c.args.line.now (said_none c.args.line.now c.in_ok-read_line.field-0 c.in_ok-read_line.ensures c.in-None.is)).fault

pub returns-in-None-clause-passes : goal.returns-in-None-clause-passes
returns-in-None-clause-passes g c = skipped_passes (Open (seen c.args.open_store.now)) c.args.number c.args.line.now (said_none c.args.line.now c.in_ok-read_line.field-0 c.in_ok-read_line.ensures c.in-None.is)

pub returns-in-Some-Declares-clause-fault : goal.returns-in-Some-Declares-clause-fault
returns-in-Some-Declares-clause-fault g c = open_order (seen c.args.open_store.now) c.args.number c.args.line.now c.in-Some-Declares.field-0-0
    (said_declares c.args.line.now c.in_ok-read_line.field-0 c.in-Some-Declares.field-0 c.in-Some-Declares.field-0-0 c.in_ok-read_line.ensures c.in-Some-Declares.is c.in-Some-Declares.field-0-is)

pub returns-in-Some-Makes-clause-fault : goal.returns-in-Some-Makes-clause-fault
returns-in-Some-Makes-clause-fault g c = run_fails (seen c.args.open_store.now) c.args.number c.args.line.now (seen_instruction c.in-Some-Makes.instruction) c.run.result (said_makes c.args.line.now c.in_ok-read_line.field-0 c.in-Some-Makes.field-0 c.in-Some-Makes.instruction c.in_ok-read_line.ensures c.in-Some-Makes.is c.in-Some-Makes.field-0-is) c.run.ensures.fault

pub returns-in-Some-Makes-clause-passes : goal.returns-in-Some-Makes-clause-passes
returns-in-Some-Makes-clause-passes g c = run_passes (seen c.args.open_store.now) (seen c.run.new.self) c.args.number c.args.line.now (seen_instruction c.in-Some-Makes.instruction) c.run.result (said_makes c.args.line.now c.in_ok-read_line.field-0 c.in-Some-Makes.field-0 c.in-Some-Makes.instruction c.in_ok-read_line.ensures c.in-Some-Makes.is c.in-Some-Makes.field-0-is) c.run.ensures.fault c.run.ensures.leaves
