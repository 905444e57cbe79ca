use Rattle.std.proofs.Common.{ℕ, ◌++◌, sym, ap, ◌∙◌}
use Rattle.std.specs.List.{flat_map}
use Rattle.bump_rules.specs.Lists.{ascending}
use Rattle.bump_trace.specs.Shows.{moves_line_of, class_moves}
use Rattle.bump_trace.proofs.AscendingLoops.{printed_more}
use Rattle.bump_trace.proofs.open_store.OpenStore.put_all_moves.Goals as goal

pub loop-class-preserved : goal.loop-class-preserved
loop-class-preserved c =
    let w = c.args.self.now.world in
    printed_more (class_moves w) c.loop-class.out.items _ _ c.loop-class.class _ c.loop-class-test.true
    (c.in_ok-put_class_moves.ensures
    ∙ ap (λ (n : ℕ). c.loop-class.out.items ++ flat_map (moves_line_of w c.loop-class.class) (ascending 0 n))
    (sym c.requires.workers)) c.loop-class.invariant
