use Rattle.std.proofs.Common.{◌≡◌, map, take}
use Rattle.bump_c.specs.Opening.{class_config_of}
use Rattle.bump_c.proofs.opening.classes_of.Given as goal

-- those that were made
abbrev pub invariant-loop-class : goal.invariant-loop-class
invariant-loop-class l = l.made.items ≡ map class_config_of (take l.class-index l.classes)
