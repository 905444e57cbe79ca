-- Lanes of closed rings: what they applied, and what they saw of the ring's end.
use Rattle.std.proofs.Common.{◌≡◌, ◌↔◌, ℕ, zero, suc, ◌+◌, ◌*◌, ◌<◌, true, false, nat_eq, ◌++◌, List, [], ◌∷◌, inl, inr, length, map, Option, None, Some, IfSome, IfNone, refl, sym, ap, ◌∙◌, subst, arith, length-append, ◌≤◌}
use Rattle.std.proofs.lemmas.Bool.{eqb-true, eq-eqb}
use Rattle.std.proofs.lemmas.List.{append-nil, append_assoc, length-map}
use mathlib.Core.List.{IsPrefix}
use Rattle.bump_rules.specs.declared.bumps.Bump.{Bump}
use Rattle.bump_rules.specs.declared.bumps.Entry.{Entry}
use Rattle.bump_rules.specs.declared.lanes.LaneStage.{LaneStage}
use Rattle.bump_rules.specs.declared.lanes.LaneStage.TheVariants as lane
use Rattle.bump_rules.specs.Lanes.{applied_bump, carried, is_half_made}
use Rattle.bump_rules.specs.Rings.{aboard, bump_applied}
use Rattle.bump_word.specs.Words.{word_of}
use Rattle.bump_steps.specs.declared.views.Kind.TheVariants as kind
use Rattle.bump_steps.specs.declared.views.OwnStep.{OwnStep}
use Rattle.bump_steps.specs.declared.views.Ride.{Ride}
use Rattle.bump_steps.specs.Plays.{step_of}
use Rattle.bump_class.specs.Applications.{FoundHeads}
use Rattle.bump_class.specs.Lanes.{LaneView, IsRawLane, carries, entries, lives}
use Rattle.bump_store.specs.Lanes.{AppliesNext, NothingAboard, applied_bump_of}
use Rattle.bump_unlocked.specs.Closing.{AppliedAll}
use Rattle.bump_store.specs.Settling.{MaySeeEnd, IsLater, IsAppliedBetween, AppliesEach}
use Rattle.bump_unlocked.proofs.GrowingLists.{grown_on}
use Rattle.bump_unlocked.proofs.ClosingLemmas.{numbered_long}
use Rattle.bump_store.proofs.LaneLemmas.{all_applied, none_aboard}

-- where nothing is aboard, what was applied is what was received
pub in_order : (this_lane : LaneView) → IsRawLane this_lane.sheet this_lane.received → NothingAboard this_lane
    → AppliedAll this_lane.received this_lane
in_order this_lane keeps none =
    sym (append-nil (map bump_applied (entries this_lane)))
    ∙ ap (λ bumps. map bump_applied (entries this_lane) ++ bumps)
    (sym (none_aboard this_lane.sheet.stage keeps.at_rest none))
    ∙ keeps.in_order

-- they are as many then
pub as_many : (this_lane : LaneView) (sent : List Ride) → AppliedAll sent this_lane
    → length (entries this_lane) ≡ length sent
as_many this_lane sent all = omega (
  arith,
  ap length all,
  length-map (entries this_lane) bump_applied,
  numbered_long 0 (lives sent),
  length-map sent (λ (ride : Ride). ride.life),
)

-- two counts are compared by the numbers that were told of them
pub equal_iff : (a b m n : ℕ) → a ≡ m → b ≡ n → (nat_eq a b ≡ true) ↔ (m ≡ n)
equal_iff a b m n is is' =
    (λ equal. sym is ∙ eqb-true a b equal ∙ is', λ same. eq-eqb a b (is ∙ same ∙ sym is'))

-- a lane at rest that carries nothing is empty
pub is_empty : (stage : LaneStage) → is_half_made stage ≡ false → carried stage ≡ None → stage ≡ lane.Empty
is_empty lane.Empty rest none = refl
is_empty (lane.Carrying bump) rest none = absurd (cc none)
is_empty (lane.Tried bump) rest none = absurd (cc rest)
is_empty (lane.Cleared bump found) rest none = absurd (cc rest)
is_empty (lane.Moved bump) rest none = absurd (cc rest)

-- a lane is no bump later than it is
as_it_is : (this_lane : LaneView) → IsLater 0 this_lane this_lane
as_it_is this_lane = record {
  took = omega arith;
  received = ([], append-nil this_lane.received);
  known = ([], append-nil (this_lane.received ++ this_lane.known));
  told = omega arith;
  entries_stay = ([], append-nil (entries this_lane));
  made = omega arith;
  steps_stay = ([], append-nil this_lane.sheet.steps);
  ring = refl;
  worker = refl;
}

-- some bumps later, and some more
later_still : (first more count : ℕ) (before between after : LaneView) → first + more ≡ count
    → IsLater first before between → IsLater more between after → IsLater count before after
later_still first more count before between after sum once again = record {
  took = omega (arith, sum, once.took, again.took);
  received = grown_on before.received between.received after.received once.received again.received;
  known = grown_on (before.received ++ before.known) (between.received ++ between.known) (after.received ++ after.known)
      once.known again.known;
  told = omega (arith, sum, once.told, again.told);
  entries_stay = grown_on (entries before) (entries between) (entries after) once.entries_stay again.entries_stay;
  made = omega (arith, sum, once.made, again.made);
  steps_stay = grown_on before.sheet.steps between.sheet.steps after.sheet.steps once.steps_stay again.steps_stay;
  ring = again.ring ∙ once.ring;
  worker = again.worker ∙ once.worker;
}

-- the next ride is the first that was known, where some were
came_first : (received known left : List Ride) (ride : Ride) → (0 < length known → known ≡ ride ∷ left)
    → IsPrefix (received ++ known) ((received ++ ride ∷ []) ++ left)
came_first received [] left ride first = (
  ride ∷ left,
  ap (λ rides. rides ++ ride ∷ left) (append-nil received) ∙ sym (append_assoc received (ride ∷ []) left),
)
came_first received (next ∷ known) left ride first = (
  [],
  append-nil (received ++ next ∷ known) ∙ ap (λ rides. received ++ rides) (first (omega arith))
      ∙ sym (append_assoc received (ride ∷ []) left),
)

-- a list that grew by two elements
two_more : {A : Type 0} (from to : List A) (first last : A) → to ≡ (from ++ first ∷ []) ++ last ∷ []
    → IsPrefix from to × (length to ≡ length from + 2 * 1)
two_more from to first last grown = (
  (first ∷ last ∷ [], sym (append_assoc from (first ∷ []) (last ∷ [])) ∙ sym grown),
  omega (
    arith,
    ap length grown,
    length-append (from ++ first ∷ []) (last ∷ []),
    length-append from (first ∷ []),
  ),
)

-- behind the application of its next bump a lane is one bump later
one_later : (now : ℕ) (from : LaneView) (entry : Entry) (to : LaneView) → AppliesNext now from entry to
    → IsLater 1 from to
one_later now from entry to next =
    let ride = next.0 in
    let fetched = next.1 in
    let boards = next.4.boards in
    let front = next.4.applied.front in
    let bump : Bump = front.0 in
    let found : FoundHeads = front.2 in
    let same = front.4.lane_after in
    let mine : Option (ℕ × ℕ) = Some (fetched.sheet.worker, bump.number) in
    let look : OwnStep = step_of kind.Try bump.life.chunk (word_of found.tried) mine in
    let release : OwnStep = step_of kind.Alight bump.life.chunk (word_of found.last) mine in
    let received : to.received ≡ from.received ++ ride ∷ [] =
    ap (λ (x : LaneView). x.received) same ∙ ap (λ (x : LaneView). x.received) boards.lane in
    let known : to.known ≡ fetched.known = ap (λ (x : LaneView). x.known) same in
    let told : entries to ≡ entries from ++ applied_bump bump front.1 ∷ [] =
    ap entries same ∙ ap (λ (x : LaneView). entries x ++ applied_bump bump front.1 ∷ []) boards.lane in
    let steps : IsPrefix from.sheet.steps to.sheet.steps × (length to.sheet.steps ≡ length from.sheet.steps + 2 * 1) =
    two_more from.sheet.steps to.sheet.steps look release
    (ap (λ (x : LaneView). x.sheet.steps) same
    ∙ ap (λ (x : LaneView). (x.sheet.steps ++ look ∷ []) ++ release ∷ []) boards.lane) in
    record {
      took = omega (arith, ap length received, length-append from.received (ride ∷ []));
      received = (ride ∷ [], sym received);
      known = subst (λ (rides : List Ride). IsPrefix (from.received ++ from.known) rides)
          (λ i. sym received i ++ sym known i)
          (came_first from.received from.known fetched.known ride boards.first_known);
      told = omega (arith, ap length told, length-append (entries from) (applied_bump bump front.1 ∷ []));
      entries_stay = (applied_bump bump front.1 ∷ [], sym told);
      made = steps.1;
      steps_stay = steps.0;
      ring = ap (λ (x : LaneView). x.ring) same ∙ ap (λ (x : LaneView). x.ring) boards.lane;
      worker = ap (λ (x : LaneView). x.sheet.worker) same ∙ ap (λ (x : LaneView). x.sheet.worker) boards.lane;
    }

-- where none was known, a look for the end changes what is known, and no bump is passed over by it
looked : (count : ℕ) (before between after : LaneView) → IsLater count before between → between.known ≡ []
    → after ≡ record between { known = after.known } → IsLater count before after
looked count before between after later none lane =
    let received : between.received ≡ after.received = sym (ap (λ (x : LaneView). x.received) lane) in
    later_still count 0 count before between after (omega arith) later (record {
      took = omega (arith, ap length received);
      received = ([], append-nil between.received ∙ received);
      known = (
        after.known,
        ap (λ rides. (between.received ++ rides) ++ after.known) none
            ∙ ap (λ rides. rides ++ after.known) (append-nil between.received ∙ received),
      );
      told = omega (arith, ap (λ (x : LaneView). length (entries x)) lane);
      entries_stay = ([], append-nil (entries between) ∙ sym (ap entries lane));
      made = omega (arith, ap (λ (x : LaneView). length x.sheet.steps) lane);
      steps_stay = ([], append-nil between.sheet.steps ∙ sym (ap (λ (x : LaneView). x.sheet.steps) lane));
      ring = ap (λ (x : LaneView). x.ring) lane;
      worker = ap (λ (x : LaneView). x.sheet.worker) lane;
    })

-- no bump was applied yet
pub none_applied : (now : ℕ) (this_lane : LaneView) → AppliesEach now 0 this_lane this_lane
none_applied now this_lane = record {
  later = as_it_is this_lane;
  each = λ earlier others sum. absurd (omega (arith, sum));
}

-- one more was applied
each_of_more : (now count : ℕ) (before between after : LaneView) (entry : Entry)
    → AppliesEach now count before between → NothingAboard between → AppliesNext now between entry after
    → entries after ≡ entries between ++ applied_bump_of entry ∷ [] → (earlier others : ℕ) → earlier + suc others ≡ suc count
    → IsAppliedBetween now earlier others before after
each_of_more now count before between after entry so_far none next tells earlier zero sum =
    let all : count ≡ earlier = omega (arith, sum) in record {
      from = between;
      entry = entry;
      to = after;
      since = subst (λ n. IsLater n before between) all so_far.later;
      idle = none;
      next = next;
      tells = tells;
      until = as_it_is after;
    }
each_of_more now count before between after entry so_far none next tells earlier (suc others) sum =
    let was = so_far.each earlier others (omega (arith, sum)) in record {
      from = was.from;
      entry = was.entry;
      to = was.to;
      since = was.since;
      idle = was.idle;
      next = was.next;
      tells = was.tells;
      until = later_still others 1 (suc others) was.to between after (omega arith) was.until
          (one_later now between entry after next);
    }

pub one_more_applied : (now count : ℕ) (before between after : LaneView) (entry : Entry)
    → AppliesEach now count before between → NothingAboard between → AppliesNext now between entry after
    → entries after ≡ entries between ++ applied_bump_of entry ∷ [] → AppliesEach now (suc count) before after
one_more_applied now count before between after entry so_far none next tells = record {
  later = later_still count 1 (suc count) before between after (omega arith) so_far.later
      (one_later now between entry after next);
  each = each_of_more now count before between after entry so_far none next tells;
}

-- the end was looked for by a lane that is as it was, where none was known
pub looked_for_end : (now count : ℕ) (before between still after : LaneView) → AppliesEach now count before between
    → still ≡ between → between.known ≡ [] → after ≡ record still { known = after.known }
    → AppliesEach now count before after
looked_for_end now count before between still after so_far same none lane =
    let seen : after ≡ record between { known = after.known } =
    lane ∙ ap (λ (x : LaneView). record x { known = after.known }) same in
    record {
      later = looked count before between after so_far.later none seen;
      each = λ earlier others sum. let was = so_far.each earlier others sum in record {
        from = was.from;
        entry = was.entry;
        to = was.to;
        since = was.since;
        idle = was.idle;
        next = was.next;
        tells = was.tells;
        until = looked others was.to between after was.until none seen;
      };
    }

-- so many are left of a ring as are known of it, where nothing is aboard
left_is_known : (sent : List Ride) (before after : LaneView) (count : ℕ) → IsRawLane before.sheet before.received
    → carries before ≡ None → after ≡ record before { known = after.known }
    → sent ≡ after.received ++ after.known → length (entries after) + count ≡ length sent
    → count ≡ length after.known
left_is_known sent before after count keeps none lane end number =
    let keeps_still = subst (λ (x : LaneView). IsRawLane x.sheet x.received) (sym lane) keeps in
    omega (
      arith,
      number,
      ap length end,
      length-append after.received after.known,
      all_applied after keeps_still (ap carries lane ∙ none),
    )

-- the same of a look for the end, which may not show it
pub left_if_shown : (sent : List Ride) (before after : LaneView) (left : Option ℕ)
    → IsRawLane before.sheet before.received → carries before ≡ None → after ≡ record before { known = after.known }
    → IfSome left (λ count. sent ≡ after.received ++ after.known)
    → IfSome left (λ count. length (entries after) + count ≡ length sent)
    → IfSome left (λ count. count ≡ length after.known)
left_if_shown sent before after None keeps none lane end number = tt
left_if_shown sent before after (Some count) keeps none lane end number =
    left_is_known sent before after count keeps none lane end number

-- what a look for the end comes to
pub looked_once : (sent : List Ride) (capacity : ℕ) (before after : LaneView) (left : Option ℕ)
    → IsRawLane before.sheet before.received → carries before ≡ None → after ≡ record before { known = after.known }
    → IfSome left (λ count. sent ≡ after.received ++ after.known)
    → IfSome left (λ count. length (entries after) + count ≡ length sent)
    → IfSome left (λ count. count ≤ capacity + length (aboard after.sheet.stage))
    → IfNone left (after ≡ before) → MaySeeEnd sent capacity before after
looked_once sent capacity before after None keeps none lane end number few same =
    record { lane = lane; left = inl same }
looked_once sent capacity before after (Some count) keeps none lane end number few same =
    let known = left_is_known sent before after count keeps none lane end number in
    let idle = none_aboard before.sheet.stage keeps.at_rest none in
    let same_stage = ap (λ (x : LaneView). length (aboard x.sheet.stage)) lane in
    record { lane = lane; left = inr (end, omega (arith, known, few, same_stage, ap length idle)) }
