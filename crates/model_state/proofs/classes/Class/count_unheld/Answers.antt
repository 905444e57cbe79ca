use Rattle.std.proofs.Common.{length, arith, ap}
use Rattle.bump_rules.specs.Sweeps.{unheld}
use Rattle.model_state.specs.State.{heads_of}
use Rattle.model_state.proofs.classes.Sweeps.{unheld_within, unheld_held}
use Rattle.model_state.proofs.classes.Class.count_unheld.Goals as goal

pub overflow_sub-count : goal.overflow_sub-count
overflow_sub-count c =
    let heads = heads_of c.args.chunks.now in
    let steps = c.in-Some.ensures.steps in
    omega (
      arith,
      c.loop-chunk.invariant.2,
      ap length steps,
      ap (λ cs. length (unheld heads cs)) steps,
      ap length (unheld_held heads c.in-Some.chunk c.next.new.self c.if-chunks-chunk-gt0.true),
      unheld_within heads c.next.new.self,
    )

pub loop-chunk-preserved-then-chunks-chunk-gt0 : goal.loop-chunk-preserved-then-chunks-chunk-gt0
loop-chunk-preserved-then-chunks-chunk-gt0 c =
    let heads = heads_of c.args.chunks.now in
    let steps = c.in-Some.ensures.steps in (
      tt,
      tt,
      omega (
        arith,
        c.loop-chunk.invariant.2,
        ap length steps,
        ap (λ cs. length (unheld heads cs)) steps,
        ap length (unheld_held heads c.in-Some.chunk c.next.new.self c.if-chunks-chunk-gt0.true),
        unheld_within heads c.next.new.self,
      ),
    )
