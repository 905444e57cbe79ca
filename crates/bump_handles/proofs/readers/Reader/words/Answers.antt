use Rattle.std.proofs.Common.{refl}
use Rattle.std.proofs.lemmas.Option.{slice_get_read}
use Rattle.bump_handles.proofs.PlaceLemmas.{copies_nothing, copies_there}
use Rattle.bump_handles.proofs.readers.Reader.words.Goals as goal

pub returns-in_default-held : goal.returns-in_default-held
returns-in_default-held g c =
    let there = slice_get_read c.self.inside.holds.items _ c.args.place c.in-Some.held.now c.self.inside.holds.ok.0 (c.in-Some.ensures.variant.0 refl) c.in-Some.ensures.value in
    record { copies = copies_nothing c.args.place _ _ _ _ _ _ c.in-Some.held.now c.self.view_is there c.in_default-held.is c.in-Some.ensures.value refl }

pub returns : goal.returns
returns g c =
    let there = slice_get_read c.self.inside.holds.items _ c.args.place c.in-Some.held.now c.self.inside.holds.ok.0 (c.in-Some.ensures.variant.0 refl) c.in-Some.ensures.value in
    record { copies = copies_there c.args.place c.args.first _ c.further.result _ _ _ _ c.copy.new.words c.in-Some.held.now c.in-Some-held.hold c.copy.new.hold c.self.view_is there c.in-Some-held.is c.in-Some.ensures.value c.copy.ensures.same c.copy.ensures.copies c.further.ensures refl }
