use Rattle.std.proofs.Common.{◌≡◌, ◌+◌, length}
use Rattle.bump_rules.specs.declared.hands.Hand.TheVariants.{Idle}
use Rattle.store_tests.proofs.tests.offers.offer_each.Given as goal

abbrev pub invariant-loop-number : goal.invariant-loop-number
invariant-loop-number g l =
    (l.seat.hold ≡ l.initial.seat.hold) × (l.seat.sheet.hand ≡ Idle)
    × (l.seat.sheet.accounts.accepted ≡ length l.sender.sent)
    × (l.seat.sheet.accounts.attempted ≡ l.number + l.number) × (length l.receiver.received ≡ l.number)
    × (l.sender.ring ≡ l.initial.sender.ring) × (l.receiver.ring ≡ l.initial.receiver.ring)
