use Rattle.std.proofs.Common.{ap}
use Rattle.bump_rules.specs.declared.places.Segment.{Segment}
use Rattle.bump_rules.specs.Heads.{linked_head_in}
use Rattle.bump_rules.proofs.items.Head.after_link.Goals as goal

pub returns : goal.returns
returns c = ap (λ (s : Segment). linked_head_in s c.args.generation) c.segment.ensures
