use Rattle.std.proofs.Common.{ℕ, ◌<◌, List, ap, ◌∙◌, length, get_or, arith}
use Rattle.packed_words.specs.Strings.{string_in}
use Rattle.packed_words.proofs.StringReads.{byte_in}
use Rattle.packed_words.proofs.bytes.Bytes.byte.Goals as goal

pub overflow_add-at : goal.overflow_add-at
overflow_add-at g c = omega (arith, ap length c.self.view_is, c.self.invariant.held.0.0, c.self.invariant.held.0.1)

pub returns : goal.returns
returns g c =
    let within : c.args.index < length (string_in c.self.inside.words) = omega (arith, ap length c.self.view_is) in
    byte_in g.row.W c.self.inside.words c.args.index c.self.invariant within
    ∙ ap (λ (l : List ℕ). get_or l c.args.index 0) c.self.view_is
