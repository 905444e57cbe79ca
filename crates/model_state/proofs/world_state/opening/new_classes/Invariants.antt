use Rattle.std.proofs.Common.{◌≡◌, ◌+◌, ◌≤◌, ◌++◌, drop, map}
use Rattle.bump_rules.specs.Configs.{chunks_of, HaveChunks, most_chunks}
use Rattle.model_state.specs.Opening.{classes_from}
use Rattle.model_state.specs.Views.{class_view}
use Rattle.model_state.proofs.world_state.opening.new_classes.Given as goal

-- the classes so far, and those from the next one on, whose chunks follow
abbrev pub invariant-loop-config : goal.invariant-loop-config
invariant-loop-config l = record {
  all : map class_view l.classes.items ++ classes_from l.fresh l.first (drop l.config-index l.configs)
      ≡ classes_from l.fresh 0 l.configs;
  some : HaveChunks (drop l.config-index l.configs);
  few : l.first + chunks_of (drop l.config-index l.configs) ≤ most_chunks;
}
