use Rattle.std.proofs.Common.{ap, ◌∙◌, length}
use Rattle.packed_words.proofs.StringReads.{count_in}
use Rattle.packed_words.proofs.bytes.Bytes.len.Goals as goal

pub returns : goal.returns
returns g c = count_in g.row.W c.self.inside.words c.self.invariant ∙ ap length c.self.view_is
