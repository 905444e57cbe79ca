use Rattle.std.proofs.Common.{◌≡◌, ◌*◌, ◌≤◌, ◌^◌}
use Rattle.cache_config.specs.Memory.{part_bytes, sum_of_parts}
use Rattle.cache_config.proofs.memory.parts_take.Given as goal

-- so many parts were added up, each below its bound
abbrev pub invariant-loop-part : goal.invariant-loop-part
invariant-loop-part l = record {
  sum : l.so_far ≡ sum_of_parts (part_bytes l.config l.key_words l.value_words) l.part;
  range : l.so_far ≤ l.part * 2 ^ 41;
}
