use Rattle.std.proofs.Common.{sym, ap, ◌∙◌}
use Rattle.bump_readers.specs.declared.views.HoldView.{HoldView}
use Rattle.bump_readers.specs.declared.views.WorkerView.{WorkerView}
use Rattle.bump_heads.specs.References.{new_hold}
use Rattle.bump_heads.specs.ReadersSeats.{row_in}
use Rattle.head_tests.proofs.tests.bumps.drop_full.Goals as goal

pub give_back_bump-requires-clause-held : goal.give_back_bump-requires-clause-held
give_back_bump-requires-clause-held g c = (
  new_hold c.args.hold.now.life (row_in c.args.hold.now.sheet),
  ap (λ (x : WorkerView). x.hold) c.rider_back.ensures ∙ c.ride.ensures.hold ∙ c.attempt.ensures.joined,
  sym (c.life-life.ensures ∙ ap (λ (x : HoldView). x.life) c.attempt.ensures.hollow),
)
