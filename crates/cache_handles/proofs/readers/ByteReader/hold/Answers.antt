use Rattle.std.proofs.Common.{rules, ◌≡◌, ◌∙◌, ap, arith, length, refl}
use Rattle.std.proofs.lemmas.Option.{slice_get_read}
use Rattle.packed_words.specs.Spelling.{words_for}
use Rattle.bump_cache.specs.Readers.{readers_by}
use Rattle.bump_cache.proofs.Choices.{written}
use Rattle.cache_handles.proofs.ReaderLemmas.{hit_spelled, holds_busy, holds_found, holds_long, holds_missed, missed_spelled}
use Rattle.cache_handles.proofs.readers.ByteReader.hold.Goals as goal

pub returns-then-is_some : goal.returns-then-is_some
returns-then-is_some g c =
    let there = slice_get_read c.self.inside.holds.items _ c.args.place c.in-Some.free.now c.self.inside.holds.ok.0
    (c.in-Some.ensures.variant.0 refl) c.in-Some.ensures.value in
    holds_busy c.args.place c.args.key.now c.args.now _ _ _ c.in-Some.free.now c.self.view_is there (search rules)
    c.in-Some.ensures.value refl

pub returns-then-key-self : goal.returns-then-key-self
returns-then-key-self g c =
    let there = slice_get_read c.self.inside.holds.items _ c.args.place c.in-Some.free.now c.self.inside.holds.ok.0
    (c.in-Some.ensures.variant.0 refl) c.in-Some.ensures.value in
    holds_long c.args.place c.args.key.now c.args.now _ _ _ c.in-Some.free.now c.self.view_is there (search rules)
    c.in-Some.ensures.value c.if-key-self.true refl

pub returns-in_default-hold_in : goal.returns-in_default-hold_in
returns-in_default-hold_in g c =
    let there = slice_get_read c.self.inside.holds.items _ c.args.place c.in-Some.free.now c.self.inside.holds.ok.0
    (c.in-Some.ensures.variant.0 refl) c.in-Some.ensures.value in
    let width : length c.deref_mut-2.result.now ≡ words_for c.self.inside.key_bytes =
    ap length c.deref_mut-2.ensures.value ∙ c.self.invariant.5 in
    let long : length c.hold_in.new.parts ≡ c.self.inside.parts.len =
    omega (arith, c.hold_in.auto.parts, c.deref_mut.ensures.len) in
    holds_missed c.args.place c.args.key.now c.args.now _ _ _ c.in-Some.free.now c.self.view_is there (search rules)
    c.in-Some.ensures.value c.if-key-self.false
    (missed_spelled c.self.inside.seed c.args.key.now _ _ c.args.now _ _ _ _ width
    (ap (readers_by c.self.inside.seed) c.deref_mut.ensures.value)
    (written c.self.inside.seed c.self.inside.parts c.hold_in.new.parts long) c.in_default-hold_in.ensures.missed) refl

pub returns : goal.returns
returns g c =
    let there = slice_get_read c.self.inside.holds.items _ c.args.place c.in-Some.free.now c.self.inside.holds.ok.0
    (c.in-Some.ensures.variant.0 refl) c.in-Some.ensures.value in
    let width : length c.deref_mut-2.result.now ≡ words_for c.self.inside.key_bytes =
    ap length c.deref_mut-2.ensures.value ∙ c.self.invariant.5 in
    let long : length c.hold_in.new.parts ≡ c.self.inside.parts.len =
    omega (arith, c.hold_in.auto.parts, c.deref_mut.ensures.len) in
    let key_words : c.len.result ≡ words_for c.self.inside.key_bytes =
    omega (arith, c.len.ensures, c.self.inside.key.ok.0, c.self.invariant.5) in
    holds_found c.args.place c.args.key.now c.args.now _ _ _ _ c.in-Some.free.now c.put_hold.new.free
    c.in-Some-hold_in.hold c.held_value-told.new.hold c.held_value-told.result c.self.view_is there (search rules)
    c.if-key-self.false
    (hit_spelled c.args.key.now _ _ c.args.now c.in-Some-hold_in.hold _ _ _ _ width
    (ap (readers_by c.self.inside.seed) c.deref_mut.ensures.value)
    (written c.self.inside.seed c.self.inside.parts c.hold_in.new.parts long) c.in-Some-hold_in.ensures.found)
    key_words c.held_value-told.ensures.value c.held_value-told.ensures.same c.put_hold.ensures refl
