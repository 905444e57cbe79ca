use Rattle.std.proofs.Common.{◌≡◌, ◌++◌, drop}
use Rattle.std.specs.List.{flat_map}
use Rattle.bump_rules.specs.Places.{all_places}
use Rattle.bump_trace.specs.Shows.{list_line, class_lines}
use Rattle.bump_trace.proofs.open_store.OpenStore.put_class.Given as goal

-- the text so far, and that of the lists to come
abbrev pub invariant-loop-place : goal.invariant-loop-place
invariant-loop-place l =
    l.out.items ++ flat_map (list_line l.self.world l.class) (drop l.place-index all_places) ≡ l.fn.out.items ++ class_lines l.self.world l.class
