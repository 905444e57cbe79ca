use Rattle.std.proofs.Common.{rules, ◌≡◌, refl}
use Rattle.std.proofs.lemmas.Option.{slice_get_read}
use Rattle.std.specs.Arc.{arc_value}
use Rattle.bump_handles.proofs.PlaceLemmas.{touches_nothing, touches_there, worker_touches}
use Rattle.bump_handles.proofs.readers.Reader.touch.Goals as goal

pub returns-in_default-held-clause-touches : goal.returns-in_default-held-clause-touches
returns-in_default-held-clause-touches g c =
    let there = slice_get_read c.self.inside.holds.items _ c.args.place c.in-Some.held.now c.self.inside.holds.ok.0 (c.in-Some.ensures.variant.0 refl) c.in-Some.ensures.value in
    touches_nothing c.args.place c.args.now _ _ _ c.in-Some.held.now c.self.view_is there c.in_default-held.is c.in-Some.ensures.value refl

pub returns-clause-touches : goal.returns-clause-touches
returns-clause-touches g c =
    let there = slice_get_read c.self.inside.holds.items _ c.args.place c.in-Some.held.now c.self.inside.holds.ok.0 (c.in-Some.ensures.variant.0 refl) c.in-Some.ensures.value in
    let words : c.deref-2.result.now ≡ arc_value c.self.inside.heads = search rules in
    touches_there c.args.place c.args.now _ _ _ c.in-Some.held.now c.in-Some-held.hold c.touch.new.hold c.touch.result c.self.view_is there c.in-Some-held.is c.in-Some.ensures.value c.touch.ensures.hold
    (worker_touches _ _ _ _ _ _ _ words c.touch.ensures.exhausted c.touch.ensures.touched) c.touch.ensures.ring refl
