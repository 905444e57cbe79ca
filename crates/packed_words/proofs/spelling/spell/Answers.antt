use Rattle.std.proofs.Common.{◌≡◌, ◌+◌, ◌∙◌, length, arith}
use Rattle.std.proofs.lemmas.List.{length-set}
use Rattle.packed_words.proofs.Spelled.{spelled_all}
use Rattle.packed_words.proofs.spelling.spell.Goals as goal

pub returns : goal.returns
returns c =
    let long : length c.zeros.to ≡ length c.args.to.now =
    c.zeros.auto.to ∙ c.if-bytes-gt0.auto.to ∙ c.words.auto.to ∙ length-set c.args.to.now 0 _ in
    let whole : c.zeros.at + 1 ≡ length c.args.to.now = omega (arith, c.div_ceil-at.ensures) in
    spelled_all (length c.args.to.now) c.zeros.at c.args.bytes.now c.zeros.to long whole c.zeros.invariant
