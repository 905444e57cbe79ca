use Rattle.std.proofs.Common.{refl, ap}
use Rattle.std.proofs.lemmas.Option.{slice_get_read}
use Rattle.std.specs.Prelude.{slice_set}
use Rattle.bump_handles.proofs.TakeLemmas.{takes_there}
use Rattle.bump_handles.proofs.opening.take_at.Goals as goal

pub returns : goal.returns
returns g c =
    let there = slice_get_read c.args.parts.now.items _ c.args.number c.in-Some.part.now c.args.parts.now.ok.0 (c.in-Some.ensures.variant.0 refl) c.in-Some.ensures.value in
    takes_there c.args.number c.args.parts.now.items _ c.in-Some.part.now c.replace.result there c.in-Some.ensures.value c.replace.ensures.value (ap (slice_set c.args.parts.now.items c.args.number) c.replace.ensures.after)
