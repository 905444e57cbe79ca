use Rattle.std.proofs.Common.{rules, ◌≡◌, refl}
use Rattle.std.proofs.lemmas.Option.{slice_get_read}
use Rattle.std.specs.Arc.{arc_value}
use Rattle.bump_handles.proofs.PlaceLemmas.{gets_busy, gets_held, gets_refused, worker_gets}
use Rattle.bump_handles.proofs.readers.Reader.get.Goals as goal

pub returns-then-is_some-clause-gets : goal.returns-then-is_some-clause-gets
returns-then-is_some-clause-gets g c =
    let there = slice_get_read c.self.inside.holds.items _ c.args.place c.in-Some.free.now c.self.inside.holds.ok.0 (c.in-Some.ensures.variant.0 refl) c.in-Some.ensures.value in
    gets_busy c.args.place c.args.id _ _ _ c.in-Some.free.now c.self.view_is there (search rules) c.in-Some.ensures.value refl

pub returns-in-Err-clause-gets : goal.returns-in-Err-clause-gets
returns-in-Err-clause-gets g c =
    let there = slice_get_read c.self.inside.holds.items _ c.args.place c.in-Some.free.now c.self.inside.holds.ok.0 (c.in-Some.ensures.variant.0 refl) c.in-Some.ensures.value in
    let words : c.deref-2.result.now ≡ arc_value c.self.inside.heads = search rules in
    gets_refused c.args.place c.args.id _ _ _ c.in-Some.free.now c.in-Err.refusal c.refused_as.result c.self.view_is there (search rules) c.in-Some.ensures.value
    (worker_gets _ _ _ _ _ _ words c.in-Err.ensures.missing c.in-Err.ensures.got) c.refused_as.ensures refl

pub returns-clause-gets : goal.returns-clause-gets
returns-clause-gets g c =
    let there = slice_get_read c.self.inside.holds.items _ c.args.place c.in-Some.free.now c.self.inside.holds.ok.0 (c.in-Some.ensures.variant.0 refl) c.in-Some.ensures.value in
    let words : c.deref-2.result.now ≡ arc_value c.self.inside.heads = search rules in
    gets_held c.args.place c.args.id _ _ _ c.in-Some.free.now c.put_hold.new.free c.in-Ok.hold c.self.view_is there (search rules)
    (worker_gets _ _ _ _ _ _ words c.in-Ok.ensures.missing c.in-Ok.ensures.got) c.put_hold.ensures refl
