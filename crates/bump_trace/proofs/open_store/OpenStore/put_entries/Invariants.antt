use Rattle.std.proofs.Common.{◌≡◌, ◌<◌, ◌++◌, All, length}
use Rattle.std.specs.List.{flat_map}
use Rattle.bump_core.specs.Readers.{class_list}
use Rattle.bump_trace.specs.Shows.{list_entry}
use Rattle.bump_trace.proofs.open_store.OpenStore.put_entries.Given as goal

-- the text so far, and that of the chunks to come, which are in range
abbrev pub invariant-loop-chunk : goal.invariant-loop-chunk
invariant-loop-chunk l = record {
  text : l.out.items ++ flat_map (list_entry l.self.world l.place) l.chunk-iterator ≡ l.fn.out.items ++ flat_map (list_entry l.self.world l.place) (class_list l.self.world l.class l.place);
  in_range : All (λ c. c < length l.self.world.chunks) l.chunk-iterator;
}
