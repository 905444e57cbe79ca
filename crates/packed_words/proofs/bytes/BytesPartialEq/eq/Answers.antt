use Rattle.std.proofs.Common.{ap₂, ◌∙◌}
use Rattle.std.specs.Prelude.{nat_eq}
use Rattle.std.specs.Cmp.Lexicographic.{pointwise}
use Rattle.packed_words.proofs.StringReads.{equal_strings}
use Rattle.packed_words.proofs.bytes.BytesPartialEq.eq.Goals as goal

pub returns : goal.returns
returns g c =
    c.eq.ensures
    ∙ equal_strings g.row.W c.self.inside.words c.other.inside.words c.self.invariant c.other.invariant
    ∙ ap₂ (pointwise nat_eq) c.self.view_is c.other.view_is
