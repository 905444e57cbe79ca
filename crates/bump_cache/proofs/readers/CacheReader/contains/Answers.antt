use Rattle.std.proofs.Common.{◌≡◌, length, ap, ◌∙◌, arith}
use Rattle.bump_cache.specs.Readers.{readers_by}
use Rattle.bump_cache.proofs.Choices.{in_same, missed_same, written}
use Rattle.bump_cache.proofs.readers.CacheReader.contains.Goals as goal

pub returns-clause-found : goal.returns-clause-found
returns-clause-found g c =
    let before : readers_by c.self.inside.seed c.deref_mut.result.now ≡ c.args.self.now =
    ap (readers_by c.self.inside.seed) c.deref_mut.ensures.value ∙ c.self.view_is in
    let long : length c.see_in.new.parts ≡ c.self.inside.parts.len =
    omega (arith, c.see_in.auto.parts, c.deref_mut.ensures.len) in
    let after = written c.self.inside.seed c.self.inside.parts c.see_in.new.parts long in
    λ seen. in_same _ _ _ _ _ _ before after (c.see_in.ensures.found seen)

pub returns-clause-nothing : goal.returns-clause-nothing
returns-clause-nothing g c =
    let before : readers_by c.self.inside.seed c.deref_mut.result.now ≡ c.args.self.now =
    ap (readers_by c.self.inside.seed) c.deref_mut.ensures.value ∙ c.self.view_is in
    let long : length c.see_in.new.parts ≡ c.self.inside.parts.len =
    omega (arith, c.see_in.auto.parts, c.deref_mut.ensures.len) in
    let after = written c.self.inside.seed c.self.inside.parts c.see_in.new.parts long in
    λ unseen. in_same _ _ _ _ _ _ before after (c.see_in.ensures.nothing unseen)

pub returns-clause-uncounted : goal.returns-clause-uncounted
returns-clause-uncounted g c =
    let before : readers_by c.self.inside.seed c.deref_mut.result.now ≡ c.args.self.now =
    ap (readers_by c.self.inside.seed) c.deref_mut.ensures.value ∙ c.self.view_is in
    let long : length c.see_in.new.parts ≡ c.self.inside.parts.len =
    omega (arith, c.see_in.auto.parts, c.deref_mut.ensures.len) in
    let after = written c.self.inside.seed c.self.inside.parts c.see_in.new.parts long in
    in_same _ _ _ _ _ _ before after c.see_in.ensures.uncounted

pub returns-clause-absent : goal.returns-clause-absent
returns-clause-absent g c =
    let before : readers_by c.self.inside.seed c.deref_mut.result.now ≡ c.args.self.now =
    ap (readers_by c.self.inside.seed) c.deref_mut.ensures.value ∙ c.self.view_is in
    let long : length c.see_in.new.parts ≡ c.self.inside.parts.len =
    omega (arith, c.see_in.auto.parts, c.deref_mut.ensures.len) in
    let after = written c.self.inside.seed c.self.inside.parts c.see_in.new.parts long in
    λ unseen. missed_same (g.K.Packed.as_words c.args.key.now) c.args.now _ _ _ _ before after
    (c.see_in.ensures.absent unseen)
