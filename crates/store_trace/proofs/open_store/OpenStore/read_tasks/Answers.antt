use Rattle.std.proofs.Common.{Some, None, sym, ◌∙◌, inr, rules, arith}
use Rattle.bump_trace.specs.Meaning.{parts_of}
use Rattle.bump_trace.specs.Stages.{Open}
use Rattle.store_trace.specs.Endings.{Whole}
use Rattle.store_trace.specs.OpenStores.{seen}
use Rattle.store_trace.proofs.Endings.{goes_on, stops_as, ends_here, stops_here, past_of}
use Rattle.store_trace.proofs.LinesSaid.{open_end, is_open}
use Rattle.store_trace.proofs.open_store.OpenStore.read_tasks.Goals as goal

pub loop-line-init : goal.loop-line-init
loop-line-init g c = record { room = c.requires.room; so_far = λ end p. p; count = search rules; past = c.requires.past }

pub check_line-requires-clause-past : goal.check_line-requires-clause-past
check_line-requires-clause-past g c =
    past_of c.args.self.now.is_past_par c.loop-line.rest.now c.in-Some.line.now c.in-Some.after.now c.loop-line.invariant.past c.in-Some.ensures.0

pub loop-line-preserved : goal.loop-line-preserved
loop-line-preserved g c =
    let s = Open (seen c.args.self.now) in record {
      room = omega (arith, c.loop-line.invariant.room, c.in-Some.ensures.1);
      so_far =
          goes_on c.args.place.number (parts_of c.args.place.rest.now) s c.loop-line.number c.loop-line.rest.now s c.loop-line.invariant.so_far
          c.in-Some.line.now c.in-Some.after.now c.in-Some.ensures.0 s c.in_default-check_line.ensures.passes;
      count = c.in_default-check_line.ensures.count;
      past = inr (past_of c.args.self.now.is_past_par c.loop-line.rest.now c.in-Some.line.now c.in-Some.after.now c.loop-line.invariant.past c.in-Some.ensures.0);
    }

pub returns-in-Err-clause-stopped : goal.returns-in-Err-clause-stopped
returns-in-Err-clause-stopped g c =
    let s = Open (seen c.args.self.now) in
    stops_as c.args.place.number (parts_of c.args.place.rest.now) s c.loop-line.number c.loop-line.rest.now s c.loop-line.invariant.so_far
    c.in-Some.line.now c.in-Some.after.now c.in-Some.ensures.0 c.in-Err.error c.in-Err.ensures.fault

pub returns-in-None-clause-whole : goal.returns-in-None-clause-whole
returns-in-None-clause-whole g c =
    let s = Open (seen c.args.self.now) in
    ends_here c.args.place.number (parts_of c.args.place.rest.now) s c.loop-line.number c.loop-line.rest.now s c.loop-line.invariant.so_far
    c.in_default-cut.ensures (Whole (seen c.args.self.now))
    (open_end (seen c.args.self.now) c.loop-line.rest.now None (sym c.rest_fault.ensures ∙ c.in-None.is), is_open (seen c.args.self.now))

pub returns-in-Some-rest_fault-clause-stopped : goal.returns-in-Some-rest_fault-clause-stopped
returns-in-Some-rest_fault-clause-stopped g c =
    let s = Open (seen c.args.self.now) in
    stops_here c.args.place.number (parts_of c.args.place.rest.now) s c.loop-line.number c.loop-line.rest.now s c.loop-line.invariant.so_far
    c.in_default-cut.ensures c.in-Some-rest_fault.fault
    (open_end (seen c.args.self.now) c.loop-line.rest.now (Some c.in-Some-rest_fault.fault) (sym c.rest_fault.ensures ∙ c.in-Some-rest_fault.is))
