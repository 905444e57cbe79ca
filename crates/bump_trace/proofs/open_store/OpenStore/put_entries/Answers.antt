use Rattle.std.proofs.Common.{◌≡◌, ◌<◌, ◌++◌, length, arith}
use Rattle.std.proofs.lemmas.Grind.{common_steps}
use Rattle.bump_trace.specs.Shows.{list_entry}
use Rattle.bump_trace.proofs.AscendingLoops.{printed_next, all_rest}
use Rattle.bump_trace.proofs.open_store.OpenStore.put_entries.Goals as goal

pub loop-chunk-preserved : goal.loop-chunk-preserved
loop-chunk-preserved c =
    let put : c.put_chunk.new.out.items ≡ c.loop-chunk.out.items ++ list_entry c.args.self.now.world c.args.place c.in-Some.chunk = grind (arith, common_steps) in
    record {
      text = printed_next (list_entry c.args.self.now.world c.args.place) c.loop-chunk.out.items _ _ c.in-Some.chunk c.loop-chunk.chunk-iterator c.next.new.self c.in-Some.ensures.steps put c.loop-chunk.invariant.text;
      in_range = all_rest (λ k. k < length c.args.self.now.world.chunks) c.in-Some.chunk c.loop-chunk.chunk-iterator c.next.new.self c.in-Some.ensures.steps c.loop-chunk.invariant.in_range;
    }
