use Rattle.std.proofs.Common.{◌≡◌, length, ap, ◌∙◌, arith}
use Rattle.bump_cache.specs.Readers.{readers_by}
use Rattle.bump_cache.proofs.Choices.{in_same, written}
use Rattle.bump_cache.proofs.readers.CacheReader.peek.Goals as goal

pub returns-clause-uncounted : goal.returns-clause-uncounted
returns-clause-uncounted g c =
    let before : readers_by c.self.inside.seed c.deref_mut.result.now ≡ c.args.self.now =
    ap (readers_by c.self.inside.seed) c.deref_mut.ensures.value ∙ c.self.view_is in
    let long : length c.peek_in.new.parts ≡ c.self.inside.parts.len =
    omega (arith, c.peek_in.auto.parts, c.deref_mut.ensures.len) in
    let after = written c.self.inside.seed c.self.inside.parts c.peek_in.new.parts long in
    in_same _ _ _ _ _ _ before after c.peek_in.ensures.uncounted
