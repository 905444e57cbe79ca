use Rattle.std.proofs.Common.{rules, ◌≡◌, ap, refl, ◌∙◌}
use Rattle.bump_readers.specs.declared.views.HoldView.{HoldView}
use Rattle.bump_readers.specs.declared.views.WorkerView.{WorkerView}
use Rattle.bump_readers.specs.Seats.{row_in}
use Rattle.bump_readers.specs.Taking.{whole_hold}
use Rattle.bump_steps.specs.References.{new_hold}
use Rattle.store_tests.proofs.tests.offers.hold_and_offer.Goals as goal

pub offer_each-requires-clause-held : goal.offer_each-requires-clause-held
offer_each-requires-clause-held g c =
    let item = c.link_cold-item.result in
    let hold = c.expect-hold.result in
    let whole : hold ≡ whole_hold item (row_in hold.sheet) = search rules in (
      new_hold item (row_in hold.sheet),
      ap (λ (x : WorkerView). x.hold) c.hold_in.ensures.worker ∙ ap (λ (x : HoldView). x.sheet) whole,
      refl,
    )
