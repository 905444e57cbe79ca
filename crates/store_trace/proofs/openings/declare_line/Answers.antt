use Rattle.std.proofs.lemmas.Result.{err_from_is_err_and}
use Rattle.bump_trace.specs.Views.{opening_of}
use Rattle.store_trace.proofs.LinesSaid.{unread_fault, skipped_passes, declared_passes, undeclared_fault, said_none, said_declares}
use Rattle.store_trace.proofs.openings.declare_line.Goals as goal

pub returns-in_err-read_line-clause-fault : goal.returns-in_err-read_line-clause-fault
returns-in_err-read_line-clause-fault c =
    let p = err_from_is_err_and c.from_residual.result c.from_residual.ensures.1 in
    rw (p.1, p.2) (λ number. unread_fault (opening_of c.args.opening.now) number c.args.line.now c.in_err-read_line.field-0.0 c.in_err-read_line.ensures)

pub returns-in_err-declare-in-Some-Declares-clause-fault : goal.returns-in_err-declare-in-Some-Declares-clause-fault
returns-in_err-declare-in-Some-Declares-clause-fault c =
    let residual = c.from_residual-in_err-declare-in-Some-Declares in
    let p = err_from_is_err_and residual.result residual.ensures.1 in
    rw (p.1, p.2)
    (λ number. undeclared_fault (opening_of c.args.opening.now) number c.args.line.now c.in-Some-Declares.declaration c.in_err-declare-in-Some-Declares.field-0.0
    (said_declares c.args.line.now c.in_ok-read_line.field-0 c.in-Some-Declares.field-0 c.in-Some-Declares.declaration c.in_ok-read_line.ensures c.in-Some-Declares.is c.in-Some-Declares.field-0-is) c.in_err-declare-in-Some-Declares.ensures.said)

pub returns-in-None-clause-line : goal.returns-in-None-clause-line
returns-in-None-clause-line c number =
    skipped_passes (opening_of c.args.opening.now) number c.args.line.now (said_none c.args.line.now c.in_ok-read_line.field-0 c.in_ok-read_line.ensures c.in-None.is)

pub returns-in_ok-declare-in-Some-Declares-clause-line : goal.returns-in_ok-declare-in-Some-Declares-clause-line
returns-in_ok-declare-in-Some-Declares-clause-line c number =
    declared_passes (opening_of c.args.opening.now) (opening_of c.declare.new.opening) number c.args.line.now c.in-Some-Declares.declaration
    (said_declares c.args.line.now c.in_ok-read_line.field-0 c.in-Some-Declares.field-0 c.in-Some-Declares.declaration c.in_ok-read_line.ensures c.in-Some-Declares.is c.in-Some-Declares.field-0-is)
    c.in_ok-declare-in-Some-Declares.ensures.said
