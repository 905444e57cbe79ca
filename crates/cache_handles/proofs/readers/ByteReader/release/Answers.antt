use Rattle.std.proofs.Common.{◌≡◌, refl, Some, None, sym}
use Rattle.std.proofs.lemmas.Option.{slice_get_read}
use Rattle.cache_handles.proofs.ReaderLemmas.{releases_nothing, releases_there}
use Rattle.cache_handles.proofs.readers.ByteReader.release.Goals as goal

pub returns-in_default-replace : goal.returns-in_default-replace
returns-in_default-replace g c =
    let there = slice_get_read c.self.inside.holds.items _ c.args.place c.in-Some.held.now c.self.inside.holds.ok.0
    (c.in-Some.ensures.variant.0 refl) c.in-Some.ensures.value in
    let none : c.in-Some.held.now ≡ None = sym c.in_default-replace.ensures.value in
    releases_nothing c.args.place _ _ _ c.in-Some.held.now c.replace.new.dest c.self.view_is there none
    c.in_default-replace.ensures.after c.in-Some.ensures.value refl

pub returns : goal.returns
returns g c =
    let there = slice_get_read c.self.inside.holds.items _ c.args.place c.in-Some.held.now c.self.inside.holds.ok.0
    (c.in-Some.ensures.variant.0 refl) c.in-Some.ensures.value in
    let some : c.in-Some.held.now ≡ Some c.in-Some-replace.hold = sym c.in-Some-replace.ensures.value in
    releases_there c.args.place _ _ _ c.in-Some.held.now c.replace.new.dest c.in-Some-replace.hold c.self.view_is there
    some c.in-Some-replace.ensures.after refl
