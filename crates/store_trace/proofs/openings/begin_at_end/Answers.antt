use Rattle.std.proofs.Common.{sym, ◌∙◌, refl}
use Rattle.bump_trace.specs.Views.{opening_of}
use Rattle.store_trace.proofs.LinesSaid.{rest_first, store_stopped}
use Rattle.store_trace.proofs.openings.begin_at_end.Goals as goal

pub returns-in-None-clause-fault : goal.returns-in-None-clause-fault
returns-in-None-clause-fault c =
    store_stopped c.begin.result (opening_of c.args.opening) c.args.place.rest.now (sym c.rest_fault.ensures ∙ c.in-None.is) c.begin.ensures.fault

pub returns-in-Some-clause-fault : goal.returns-in-Some-clause-fault
returns-in-Some-clause-fault c =
    (c.in-Some.fault, refl, rest_first (opening_of c.args.opening) c.args.place.rest.now c.in-Some.fault (sym c.rest_fault.ensures ∙ c.in-Some.is))
