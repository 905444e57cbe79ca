use Rattle.std.proofs.Common.{◌≡◌, drop}
use Rattle.std.specs.Prelude.{nat_lt, ◌||◌, ◌==◌}
use Rattle.std.specs.List.{list_any}
use Rattle.bump_rules.specs.Configs.{have_wrong_chunks, chunks_of, store_most}
use Rattle.bump_rules.proofs.configs.has_wrong_chunks.Given as goal

-- what is left decides, with what the classes so far left of the greatest number
abbrev pub invariant-loop-class : goal.invariant-loop-class
invariant-loop-class l = have_wrong_chunks store_most.chunks l.classes
    ≡ (list_any (λ k. k.chunks == 0) (drop l.class-index l.classes) || nat_lt l.left
    (chunks_of (drop l.class-index l.classes)))
