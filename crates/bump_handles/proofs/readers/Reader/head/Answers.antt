use Rattle.std.proofs.Common.{refl}
use Rattle.std.proofs.lemmas.Option.{slice_get_read}
use Rattle.bump_handles.proofs.PlaceLemmas.{sees_nothing, sees_there}
use Rattle.bump_handles.proofs.readers.Reader.head.Goals as goal

pub returns-in_default-held : goal.returns-in_default-held
returns-in_default-held g c =
    let there = slice_get_read c.self.inside.holds.items _ c.args.place c.in-Some.held.now c.self.inside.holds.ok.0 (c.in-Some.ensures.variant.0 refl) c.in-Some.ensures.value in
    record { sees = sees_nothing c.args.place _ _ _ c.in-Some.held.now c.self.view_is there c.in_default-held.is c.in-Some.ensures.value refl }

pub returns : goal.returns
returns g c =
    let there = slice_get_read c.self.inside.holds.items _ c.args.place c.in-Some.held.now c.self.inside.holds.ok.0 (c.in-Some.ensures.variant.0 refl) c.in-Some.ensures.value in
    record { sees = sees_there c.args.place _ _ _ c.in-Some.held.now c.in-Some-held.hold c.head.new.self c.head.result c.self.view_is there c.in-Some-held.is c.head.ensures refl }
