use Rattle.std.proofs.Common.{refl}
use Rattle.std.proofs.lemmas.Option.{slice_get_read}
use Rattle.bump_handles.proofs.PlaceLemmas.{reads_nothing, reads_there}
use Rattle.bump_handles.proofs.readers.Reader.label.Goals as goal

pub returns-in_default-held : goal.returns-in_default-held
returns-in_default-held g c =
    let there = slice_get_read c.self.inside.holds.items _ c.args.place c.in-Some.held.now c.self.inside.holds.ok.0 (c.in-Some.ensures.variant.0 refl) c.in-Some.ensures.value in
    record { reads = reads_nothing c.args.place _ _ _ c.in-Some.held.now c.self.view_is there c.in_default-held.is c.in-Some.ensures.value refl }

pub returns : goal.returns
returns g c =
    let there = slice_get_read c.self.inside.holds.items _ c.args.place c.in-Some.held.now c.self.inside.holds.ok.0 (c.in-Some.ensures.variant.0 refl) c.in-Some.ensures.value in
    record { reads = reads_there c.args.place c.label.result _ _ _ c.in-Some.held.now c.in-Some-held.hold c.label.new.self c.self.view_is there c.in-Some-held.is c.in-Some.ensures.value c.label.ensures.same c.label.ensures.is refl }
