use Rattle.std.proofs.Common.{◌≡◌, ◌<◌, List, Some, slice_get, length, refl, ap, subst, arith}
use Rattle.std.proofs.lemmas.Option.{slice_get_read}
use Rattle.std.specs.Prelude.{slice_set}
use Rattle.bump_store.specs.Lanes.{LaneState}
use Rattle.bump_store.proofs.maintainers.Maintainer.lane.Goals as goal

pub returns : goal.returns
returns g c =
    let w = c.args.worker in
    let now = c.index_mut.result.now in
    let low : w < length c.self.inside.lanes.items = omega (arith, c.requires, ap length c.self.view_is) in
    let found : slice_get c.self.inside.lanes.items w ≡ Some now = slice_get_read _ _ w now refl low c.index_mut.ensures.value in (
      (refl, λ left. ap (λ (ls : List LaneState). slice_set ls w left) c.self.view_is),
      record { lends = tt; lane = subst (λ (ls : List LaneState). slice_get ls w ≡ Some now) c.self.view_is found },
    )
