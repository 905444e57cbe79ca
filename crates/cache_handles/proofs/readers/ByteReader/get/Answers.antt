use Rattle.std.proofs.Common.{◌≡◌, length, refl, ap, ◌∙◌, arith}
use Rattle.packed_words.specs.Spelling.{words_for}
use Rattle.bump_cache.specs.Readers.{readers_by}
use Rattle.bump_cache.proofs.Choices.{written}
use Rattle.cache_handles.proofs.ReaderLemmas.{got_spelled, tells_got}
use Rattle.cache_handles.proofs.readers.ByteReader.get.Goals as goal

pub returns : goal.returns
returns g c =
    let width : length c.deref_mut-2.result.now ≡ words_for c.self.inside.key_bytes =
    ap length c.deref_mut-2.ensures.value ∙ c.self.invariant.5 in
    let long : length c.get_in.new.parts ≡ c.self.inside.parts.len =
    omega (arith, c.get_in.auto.parts, c.deref_mut.ensures.len) in
    tells_got c.args.key.now c.args.now _ _ _ c.get_in.result c.self.view_is c.if-key-self.false
    (got_spelled c.self.inside.seed c.args.key.now _ _ c.self.inside.value_words c.args.now c.get_in.result _ _ _ _ width
    (ap (readers_by c.self.inside.seed) c.deref_mut.ensures.value)
    (written c.self.inside.seed c.self.inside.parts c.get_in.new.parts long) c.get_in.ensures) refl
