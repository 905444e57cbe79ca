use Rattle.std.proofs.Common.{◌≡◌, arith, refl}
use Rattle.std.proofs.lemmas.Option.{slice_get_read}
use Rattle.packed_words.specs.Spelling.{words_for}
use Rattle.cache_handles.proofs.ReaderLemmas.{reads_nothing, reads_there}
use Rattle.cache_handles.proofs.readers.ByteReader.read.Goals as goal

pub returns-in_default-held : goal.returns-in_default-held
returns-in_default-held g c =
    let there = slice_get_read c.self.inside.holds.items _ c.args.place c.in-Some.held.now c.self.inside.holds.ok.0
    (c.in-Some.ensures.variant.0 refl) c.in-Some.ensures.value in
    reads_nothing c.args.place c.args.from _ _ _ c.in-Some.held.now c.self.view_is there c.in_default-held.is
    c.in-Some.ensures.value refl

pub returns : goal.returns
returns g c =
    let there = slice_get_read c.self.inside.holds.items _ c.args.place c.in-Some.held.now c.self.inside.holds.ok.0
    (c.in-Some.ensures.variant.0 refl) c.in-Some.ensures.value in
    let key_words : c.len-key_words.result ≡ words_for c.self.inside.key_bytes =
    omega (arith, c.len-key_words.ensures, c.self.inside.key.ok.0, c.self.invariant.5) in
    reads_there c.args.place c.args.from c.from.result _ _ _ _ c.held_words.result c.in-Some.held.now
    c.in-Some-held.hold c.held_words.new.hold c.self.view_is there c.in-Some-held.is c.in-Some.ensures.value
    c.held_words.ensures.same c.from.ensures key_words c.held_words.ensures.words refl
