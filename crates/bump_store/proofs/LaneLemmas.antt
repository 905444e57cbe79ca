-- A lane's next bump: its number, and the entry that is kept of it.
use Rattle.std.proofs.Common.{◌≡◌, ℕ, ◌++◌, [], ◌∷◌, length, map, false, None, refl, sym, ap, ◌∙◌, arith, length-append}
use Rattle.std.proofs.lemmas.List.{length-map}
use Rattle.bump_rules.specs.declared.bumps.Bump.{Bump}
use Rattle.bump_rules.specs.declared.bumps.Entry.{Entry}
use Rattle.bump_rules.specs.declared.bumps.Ended.{Ended}
use Rattle.bump_rules.specs.declared.bumps.Outcome.{Outcome}
use Rattle.bump_rules.specs.declared.bumps.Outcome.TheVariants as outcome
use Rattle.bump_rules.specs.declared.lanes.LaneStage.{LaneStage}
use Rattle.bump_rules.specs.declared.lanes.LaneStage.TheVariants as lane
use Rattle.bump_rules.specs.Lanes.{bump_of, carried, is_half_made}
use Rattle.bump_rules.specs.Rings.{aboard, bump_applied}
use Rattle.bump_steps.specs.declared.views.Ride.{Ride}
use Rattle.bump_class.specs.Applications.{applied_answer}
use Rattle.bump_class.specs.Books.{BookView}
use Rattle.bump_class.specs.Lanes.{LaneView, IsRawLane, carries, entries, lives}
use Rattle.bump_unlocked.proofs.ClosingLemmas.{numbered_long}
use Rattle.bump_store.specs.Lanes.{AppliesAboard, outcome_told, applied_bump_of}

-- a lane at rest that carries nothing has nothing aboard
pub none_aboard : (stage : LaneStage) → is_half_made stage ≡ false → carried stage ≡ None → aboard stage ≡ []
none_aboard lane.Empty rest none = refl
none_aboard (lane.Carrying bump) rest none = absurd (cc none)
none_aboard (lane.Tried bump) rest none = absurd (cc rest)
none_aboard (lane.Cleared bump found) rest none = absurd (cc rest)
none_aboard (lane.Moved bump) rest none = absurd (cc rest)

-- then it applied as many bumps as it took
pub all_applied : (this_lane : LaneView) → IsRawLane this_lane.sheet this_lane.received → carries this_lane ≡ None
    → length this_lane.received ≡ length (entries this_lane)
all_applied this_lane keeps none = omega (
  arith,
  ap length keeps.in_order,
  length-append (map bump_applied (entries this_lane)) (aboard this_lane.sheet.stage),
  ap length (none_aboard this_lane.sheet.stage keeps.at_rest none),
  length-map (entries this_lane) bump_applied,
  numbered_long 0 (lives this_lane.received),
  length-map this_lane.received (λ (ride : Ride). ride.life),
)

-- what was answered tells the outcome
pub told_outcome : (came_out : Outcome) (ended : Ended) → outcome_told (applied_answer came_out ended) ≡ came_out
told_outcome outcome.Moved ended = refl
told_outcome outcome.TimeOnly ended = refl
told_outcome outcome.Gone ended = refl

-- so the entry that is answered is the one that the lane keeps
pub entry_kept : (now : ℕ) (book left : BookView) (from to : LaneView) (entry : Entry)
    → AppliesAboard now book from entry left to → entries to ≡ entries from ++ applied_bump_of entry ∷ []
entry_kept now book left from to entry applies =
    let front = applies.front in
    let bump : Bump = bump_of entry.number entry.life in
    let same : front.0 ≡ bump = cc (sym front.3 ∙ applies.aboard) in
    let outcome : outcome_told entry.applied ≡ front.1 = ap outcome_told front.4.answered ∙ told_outcome front.1 _ in
    ap entries front.4.lane_after
    ∙ (λ i. entries from ++ record { number = (same i).number; life = (same i).life; outcome = sym outcome i } ∷ [])
