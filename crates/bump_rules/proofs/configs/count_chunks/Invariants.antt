use Rattle.std.proofs.Common.{◌≡◌, ◌+◌, drop}
use Rattle.bump_rules.specs.Configs.{chunks_of}
use Rattle.bump_rules.proofs.configs.count_chunks.Given as goal

-- the count so far, and the chunks of the other classes
abbrev pub invariant-loop-class : goal.invariant-loop-class
invariant-loop-class l = l.count + chunks_of (drop l.class-index l.classes) ≡ chunks_of l.classes
