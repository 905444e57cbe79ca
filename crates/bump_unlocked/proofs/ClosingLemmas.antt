-- Lanes of closed rings: how much they applied of what was sent.
use Rattle.std.proofs.Common.{◌≡◌, ℕ, suc, ◌+◌, ◌≤◌, ◌++◌, List, [], ◌∷◌, length, map, refl, sym, ap, ◌∙◌, subst, arith, length-append}
use Rattle.std.proofs.lemmas.List.{append-nil, length-map}
use Rattle.bump_rules.specs.declared.items.ItemId.{ItemId}
use Rattle.bump_rules.specs.Rings.{aboard, bump_applied, numbered_from}
use Rattle.bump_steps.specs.declared.views.Ride.{Ride}
use Rattle.bump_class.specs.Lanes.{LaneView, IsRawLane, entries, lives}
use Rattle.bump_unlocked.specs.Closing.{AppliedAll}

-- a numbered list is as long as its lives
pub numbered_long : (first : ℕ) (items : List ItemId) → length (numbered_from first items) ≡ length items
numbered_long first [] = refl
numbered_long first (item ∷ items) = ap suc (numbered_long (suc first) items)

-- a list without an element
without_any : {A : Type 0} (xs : List A) → length xs ≡ 0 → xs ≡ []
without_any [] none = refl
without_any (x ∷ xs) none = absurd (omega (arith, none))

-- what a lane applied, and what is aboard, are as many as it received
received_long : (this_lane : LaneView) → IsRawLane this_lane.sheet this_lane.received
    → length (entries this_lane) + length (aboard this_lane.sheet.stage) ≡ length this_lane.received
received_long this_lane keeps = omega (
  arith,
  ap length keeps.in_order,
  length-append (map bump_applied (entries this_lane)) (aboard this_lane.sheet.stage),
  length-map (entries this_lane) bump_applied,
  numbered_long 0 (lives this_lane.received),
  length-map this_lane.received (λ (ride : Ride). ride.life),
)

-- it applied no more than was sent
few_applied : (this_lane : LaneView) (sent : List Ride) → IsRawLane this_lane.sheet this_lane.received
    → sent ≡ this_lane.received ++ this_lane.known → length (entries this_lane) ≤ length sent
few_applied this_lane sent keeps end = omega (
  arith,
  received_long this_lane keeps,
  ap length end,
  length-append this_lane.received this_lane.known,
)

-- where it applied as many as were sent, it applied all
all_if_as_many : (this_lane : LaneView) (sent : List Ride) → IsRawLane this_lane.sheet this_lane.received
    → sent ≡ this_lane.received ++ this_lane.known → length (entries this_lane) ≡ length sent
    → AppliedAll sent this_lane
all_if_as_many this_lane sent keeps end as_many =
    let long = received_long this_lane keeps in
    let sum = length-append this_lane.received this_lane.known in
    let none_aboard = without_any (aboard this_lane.sheet.stage) (omega (arith, long, sum, ap length end, as_many)) in
    let none_known = without_any this_lane.known (omega (arith, long, sum, ap length end, as_many)) in
    sym (append-nil (map bump_applied (entries this_lane)))
    ∙ ap (λ bumps. map bump_applied (entries this_lane) ++ bumps) (sym none_aboard)
    ∙ keeps.in_order
    ∙ ap (λ rides. numbered_from 0 (lives rides))
    (sym (append-nil this_lane.received) ∙ ap (λ rides. this_lane.received ++ rides) (sym none_known) ∙ sym end)

-- a lane that knows more of its ring is as lawful as before
knows_more : (before after : LaneView) → after ≡ record before { known = after.known }
    → IsRawLane before.sheet before.received → IsRawLane after.sheet after.received
knows_more before after same keeps = subst (λ (x : LaneView). IsRawLane x.sheet x.received) (sym same) keeps

-- so many are still to be applied, by the counts of the closed ring and of the lane
pub left_over : (before after : LaneView) (sent : List Ride) (accepted applied : ℕ)
    → IsRawLane before.sheet before.received → after ≡ record before { known = after.known }
    → sent ≡ after.received ++ after.known → accepted ≡ length sent → applied ≡ length (entries after)
    → applied ≤ accepted
left_over before after sent accepted applied keeps same end is is' =
    omega (arith, is, is', few_applied after sent (knows_more before after same keeps) end)

-- where none is, all was applied
pub all_at_none_left : (before after : LaneView) (sent : List Ride) (left : ℕ) → IsRawLane before.sheet before.received
    → after ≡ record before { known = after.known } → sent ≡ after.received ++ after.known
    → length (entries after) + left ≡ length sent → left ≡ 0 → AppliedAll sent after
all_at_none_left before after sent left keeps same end number none =
    all_if_as_many after sent (knows_more before after same keeps) end (omega (arith, number, none))

-- what was sent was applied, is aboard, or is known to be left
pub sent_in_parts : (before after : LaneView) (sent : List Ride) → IsRawLane before.sheet before.received
    → after ≡ record before { known = after.known } → sent ≡ after.received ++ after.known
    → length sent ≡ length (entries after) + length (aboard after.sheet.stage) + length after.known
sent_in_parts before after sent keeps same end = omega (
  arith,
  received_long after (knows_more before after same keeps),
  ap length end,
  length-append after.received after.known,
)
