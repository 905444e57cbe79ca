-- What a class's seat knows of the head that it finds, and what it is after a step: with a lane joined, or without one.
use Rattle.std.proofs.Common.{◌≡◌, ℕ, ◌+◌, ◌<◌, inl, inr, ◌&&◌, ◌++◌, not, cond, eqb, Bool, true, false, [], ◌∷◌, List, Option, Some, None, refl, sym, ap, ap₂, ◌∙◌, subst, arith, eq-eqb}
use Rattle.std.proofs.lemmas.Bool.{and_parts}
use Rattle.std.specs.Prelude.{option_map, IfSome, IsSome}
use Rattle.atomic_table.specs.Seated.{TableId}
use Rattle.atomic_table.specs.declared.badge.Badge.{Badge}
use Rattle.atomic_table.specs.declared.shared.Seat.{Seat}
use Rattle.bump_steps.specs.Places.{rows}
use Rattle.bump_rules.specs.declared.items.Head.{Head}
use Rattle.bump_rules.specs.declared.items.ItemId.{ItemId}
use Rattle.bump_rules.specs.declared.places.Segment.{Segment}
use Rattle.bump_rules.specs.declared.places.Segment.TheVariants.{Warm, Cold}
use Rattle.bump_rules.specs.declared.bumps.Bump.{Bump}
use Rattle.bump_rules.specs.declared.bumps.AppliedBump.{AppliedBump}
use Rattle.bump_rules.specs.declared.bumps.Outcome.{Outcome}
use Rattle.bump_rules.specs.declared.bumps.Outcome.TheVariants as outcome
use Rattle.bump_rules.specs.declared.lanes.LaneStage.{LaneStage}
use Rattle.bump_rules.specs.declared.lanes.LaneStage.TheVariants as lane
use Rattle.bump_rules.specs.Entries.{is_bump, is_move_for, is_unlink_of, moves_told}
use Rattle.bump_rules.specs.Tables.{is_cold, is_warm, may_move}
use Rattle.bump_rules.specs.declared.places.Place.{Place}
use Rattle.bump_rules.specs.declared.history.Cause.TheVariants as cause
use Rattle.bump_rules.specs.declared.history.Change.{Change}
use Rattle.bump_rules.specs.declared.history.Change.TheVariants as change
use Rattle.bump_rules.specs.History.{place_of, subject}
use Rattle.bump_rules.specs.Lives.{is_same}
use Rattle.bump_rules.specs.Totals.{how_many}
use Rattle.bump_rules.specs.Lanes.{carried, tried, applied_now, cleared_active, applied_bump, is_half_made}
use Rattle.bump_rules.specs.Lawful.{Shows, IsUsed, bit}
use Rattle.bump_rules.proofs.Laws.{used_in_segment}
use Rattle.bump_word.specs.Words.{Spells, word_of}
use Rattle.bump_steps.specs.declared.views.Empty.{Empty}
use Rattle.bump_steps.specs.declared.views.Kind.TheVariants as kind
use Rattle.bump_steps.specs.declared.views.ClassSheet.{ClassSheet}
use Rattle.bump_steps.specs.declared.views.LaneSheet.{LaneSheet}
use Rattle.bump_heads.specs.declared.joined.Joined.{Joined}
use Rattle.bump_heads.specs.declared.views.ClassView.{ClassView}
use Rattle.bump_steps.specs.declared.views.View.{View}
use Rattle.bump_steps.specs.Views.{bump_aboard, active_clear, refers, owns, standing, shows_time_only, of_owner, evidence}
use Rattle.bump_steps.specs.Plays.{Sat, Told, TellsOfMoves, Found, on_first, step_of}
use Rattle.bump_steps.specs.Cuts.{joined, lanes_only, without_lanes}
use Rattle.bump_steps.specs.Lives.{on_class}
use Rattle.bump_steps.specs.Meetings.{class_after_meet, AreOfWorkers}
use Rattle.bump_steps.specs.Applications.{applying, bump_for, lane_after_try, view_after_try, lane_after_clear_active, view_after_clear_active, view_after_put_time, noted_class, stage_after_move, lane_after_move, change_of_move_for, application_of, class_at_rest, class_after_move, view_after_move, life_in, lane_after_alight, entries_of_alight, view_after_alight, MayTry, MayMove, MayAlight}
use Rattle.bump_heads.specs.Applying.{life_aboard, life_of, IsOf, MayClearActive, MayChangeSegment, IsShown, IsJoined, KeepsJoined, carried_by, joined_after_try, joined_after_move, seat_after_move, seat_after_clear_active, seat_after_put_time, FoundOfBump, NamesNoBumpTwice, NamesWorkersBelow, is_own, TellsMoves}
use Rattle.bump_readers.specs.Seats.{head_or, listed}
use Rattle.bump_steps.specs.Riders.{lane_me, applied_by}
use Rattle.bump_heads.specs.Seats.{class_me, class_in, lane_in, lane_in_views, lane_views, IsAtRest, IsLane, IsOfWorker, IsInRange, IsClassSheet, aboard_lane, no_class, no_lane}
use Rattle.bump_rules.specs.Configs.{most_workers}
use Rattle.bump_steps.proofs.Applications.{try_going, try_refers, clear_active_refers}
use Rattle.bump_steps.proofs.Alightings.{alight_refers}
use Rattle.bump_heads.proofs.Badges.{carries_aboard, carries_some, out_is, out_lane}
use Rattle.bump_heads.proofs.ClassSheets.{entered_sheet, noted_sheet, named_sheet}
use Rattle.bump_heads.proofs.ClassSeats.{class_in_me, found_is}
use Rattle.bump_heads.proofs.Joining.{active_found, noted_joined, joined_cleared, joined_moved, tried_joined, Ending}
use Rattle.bump_steps.proofs.Told.{stands_alone}
use Rattle.bump_steps.proofs.StepLemmas.{one_life}

-- a list with an entry more isn't empty
one_more : (xs : List AppliedBump) (x : AppliedBump) → xs ++ x ∷ [] ≡ [] → ⊥
one_more [] x none = cc none
one_more (y ∷ ys) x none = cc none

-- ---- a class's seat as it is seen

-- what a seat's invariant says of the view that it is made of
pub seen_whole : (words : ℕ) (table : TableId) (number : ℕ) (m : Sat) (v : ClassView) (joined : Joined)
    → m ≡ class_me v → IsInRange table (aboard_lane v.lane) → number ≡ v.sheet.class → IsClassSheet words v.sheet
    → IsJoined v.sheet v.lane joined
    → (m ≡ class_me (class_in m.0)) × IsInRange table (aboard_lane (class_in m.0).lane)
    × (number ≡ (class_in m.0).sheet.class) × IsClassSheet words (class_in m.0).sheet × IsJoined (class_in m.0).sheet
    (class_in m.0).lane joined
seen_whole words table number m v joined is near class sheet lane =
    subst (λ (x : ClassView). (m ≡ class_me x) × IsInRange table (aboard_lane x.lane) × (number ≡ x.sheet.class)
    × IsClassSheet words x.sheet × IsJoined x.sheet x.lane joined)
    (sym (ap (λ (x : Sat). class_in x.0) is ∙ class_in_me v)) (is, near, class, sheet, lane)

-- and the view is the one that is seen
pub seen_as : (m : Sat) (v : ClassView) → m ≡ class_me v → class_in m.0 ≡ v
seen_as m v is = ap (λ (x : Sat). class_in x.0) is ∙ class_in_me v

-- the seat of a class whose lane, if one is joined, changes
lane_changed : (k : ClassSheet) (o : Option LaneSheet) (f : LaneSheet → LaneSheet)
    → ◌≡◌ {A = Sat} (record (class_me (record { sheet = k; lane = o })).0 { lanes = on_first f (listed o) }, [])
    (class_me (record { sheet = k; lane = option_map f o }))
lane_changed k None f = refl
lane_changed k (Some l) f = refl

module _ (m p : Sat) (v w : ClassView) (is : m ≡ class_me v) (same : v ≡ w) (n c : ℕ) where
  -- it is that view's
  whole_as : m ≡ class_me w
  whole_as = is ∙ ap class_me same

  -- what was told of it
  pub told_as : (h : Head) → Spells n h → Found n (Told c m.0) → Told c (class_me w).0 h
  told_as h spells found = subst (λ (x : Sat). Told c x.0 h) whole_as (found_is n (Told c m.0) h spells found)

  -- after a move
  pub move_me : (from to : Segment) (h : Head) → Spells n h → p ≡ (view_after_move from to c n m.0, m.1)
      → p ≡ class_me (seat_after_move c from to h w)
  move_me from to h spells told = told
      ∙ ap (λ (x : Sat). (view_after_move from to c n x.0, x.1)) whole_as
      ∙ lane_changed (class_after_move from to c n (listed w.lane) w.sheet) w.lane lane_after_move
      ∙ ap (λ (z : ℕ). class_me
      (record {
        sheet = class_after_move from to c z (listed w.lane) w.sheet;
        lane =
            option_map lane_after_move w.lane;
      })) spells.0

-- ---- the bump aboard

module _ (c : ℕ) where
  -- a bump at one stage is aboard
  of_tried : (s : LaneStage) → IsOf c (tried s) → IsOf c (bump_aboard s)
  of_tried lane.Empty is = absurd is
  of_tried (lane.Carrying b) is = absurd is
  of_tried (lane.Tried b) is = is
  of_tried (lane.Cleared b f) is = absurd is
  of_tried (lane.Moved b) is = absurd is

  of_active : (s : LaneStage) → IsOf c (cleared_active s) → (b : Bump) × (s ≡ lane.Cleared b true) × (b.life.chunk ≡ c)
  of_active lane.Empty is = absurd is
  of_active (lane.Carrying b) is = absurd is
  of_active (lane.Tried b) is = absurd is
  of_active (lane.Cleared b true) is = (b, refl, is)
  of_active (lane.Cleared b false) is = absurd is
  of_active (lane.Moved b) is = absurd is

  -- the bump aboard a lane that is joined is of the chunk
  abbrev pub IsOfChunk : Option LaneSheet → Type 0
  IsOfChunk o = IfSome (aboard_lane o) (λ b. b.life.chunk ≡ c)

  pub clear_active_chunk : (at : Place) (o : Option LaneSheet) → MayClearActive c at o → IsOfChunk o
  clear_active_chunk at None may = tt
  clear_active_chunk at (Some l) may = by l.stage (of_tried l.stage may.1)
    where
      by : (s : LaneStage) → IsOf c (bump_aboard s) → IfSome (bump_aboard s) (λ b. b.life.chunk ≡ c)
      by lane.Empty is = tt
      by (lane.Carrying b) is = is
      by (lane.Tried b) is = is
      by (lane.Cleared b f) is = is
      by (lane.Moved b) is = is

  pub change_segment_chunk : (from to : Segment) (o : Option LaneSheet) → MayChangeSegment c from to o → IsOfChunk o
  change_segment_chunk from to None may = tt
  change_segment_chunk from to (Some l) may = let b = of_active l.stage may.2 in
      subst (λ (s : LaneStage). IfSome (bump_aboard s) (λ d. d.life.chunk ≡ c)) (sym b.1) b.2

aboard_now : (s : LaneStage) (b : Bump) → applied_now s ≡ Some b → bump_aboard s ≡ Some b
aboard_now lane.Empty b is = absurd (cc is)
aboard_now (lane.Carrying d) b is = absurd (cc is)
aboard_now (lane.Tried d) b is = is
aboard_now (lane.Cleared d f) b is = is
aboard_now (lane.Moved d) b is = is

-- ---- what is told of the head found

finds_of_bump : (k : ClassSheet) (l : LaneSheet) (b : Bump) (h : Head) → bump_aboard l.stage ≡ Some b
    → Told b.life.chunk (applying k l) h → FoundOfBump k b.life h
finds_of_bump k l b h is told =
    let some : 0 < refers b.life.chunk b.life.generation (bump_aboard l.stage) + 0 =
    omega (arith, ap (refers b.life.chunk b.life.generation) is, one_life b.life) in
    let gen : b.life.generation ≡ h.generation = told.held b.life.generation (omega (arith, some)) in record {
      generation = sym gen;
      counted = omega (arith, some, told.many b.life.generation);
      stands = λ own. let st = stands_alone b.life.chunk (applying k l) k refl own in let s =
          told.stood (standing k b.life.chunk) st in
          (s.0, sym s.1 ∙ sym gen, told.in_use b.life.generation (omega (arith, some)) (standing k b.life.chunk) st);
    }

-- of the bump aboard a lane that is joined
pub found_of_bump : (v : ClassView) (b : Bump) (h : Head) → aboard_lane v.lane ≡ Some b
    → Told b.life.chunk (class_me v).0 h → FoundOfBump v.sheet (life_aboard v.lane) h
found_of_bump v b h is told = subst (λ (x : ItemId). FoundOfBump v.sheet x h) (sym (ap life_of is)) (by v.lane is told)
  where
    by : (o : Option LaneSheet) → aboard_lane o ≡ Some b
        → Told b.life.chunk (class_me (record { sheet = v.sheet; lane = o })).0 h → FoundOfBump v.sheet b.life h
    by None is told = absurd (cc is)
    by (Some l) is told = finds_of_bump v.sheet l b h is told

-- of the class's own chunk
pub own_told : (v : ClassView) (c : ℕ) (h : Head) → owns c v.sheet ≡ true → Told c (class_me v).0 h
    → Shows h (standing v.sheet c).0 × (h.generation ≡ (standing v.sheet c).1)
own_told v c h own told = told.stood (standing v.sheet c) (stands_alone c (class_me v).0 v.sheet refl own)

-- of a bump's life
pub life_told : (v : ClassView) (c : ℕ) (h : Head) → IsOfChunk c v.lane → Told c (class_me v).0 h
    → IfSome (aboard_lane v.lane) (λ b. b.life.generation ≡ h.generation)
life_told v c h of told = by v.lane of told
  where
    at : (l : LaneSheet) (o : Option Bump) → bump_aboard l.stage ≡ o → IfSome o (λ b. b.life.chunk ≡ c)
        → Told c (applying v.sheet l) h → IfSome o (λ b. b.life.generation ≡ h.generation)
    at l None is of told = tt
    at l (Some b) is of told = told.held b.life.generation
        (omega (
          arith,
          ap (refers c b.life.generation) is,
          one_life b.life,
          ap (λ (d : ℕ). refers d b.life.generation (Some b)) of,
        ))

    by : (o : Option LaneSheet) → IsOfChunk c o → Told c (class_me (record { sheet = v.sheet; lane = o })).0 h
        → IfSome (aboard_lane o) (λ b. b.life.generation ≡ h.generation)
    by None of told = tt
    by (Some l) of told = at l (bump_aboard l.stage) refl of told

-- a class whose history is of its own chunks alone has moves of its own items alone
own_move : (k : ClassSheet) (test : ItemId → Bool) (w n : ℕ) (e : Change) → bit (not (owns (subject e).chunk k)) ≡ 0
    → is_move_for test w n e ≡ is_move_for (is_own k test) w n e
own_move k test w n (change.Linked j) own = refl
own_move k test w n (change.LinkedTemp j) own = refl
own_move k test w n (change.Moved j from to cause) own = by (owns j.chunk k) own
  where
    by : (b : Bool) → bit (not b) ≡ 0 → (test j && (is_cold from && (is_warm to && is_bump w n cause)))
        ≡ ((b && test j) && (is_cold from && (is_warm to && is_bump w n cause)))
    by true mine = refl
    by false mine = absurd (omega (arith, mine))
own_move k test w n (change.Unlinked j) own = refl
own_move k test w n (change.Swept j) own = refl
own_move k test w n (change.Retired j) own = refl

own_moves : (k : ClassSheet) (test : ItemId → Bool) (w n : ℕ) (es : List Change)
    → how_many (λ e. not (owns (subject e).chunk k)) es ≡ 0
    → how_many (is_move_for test w n) es ≡ how_many (is_move_for (is_own k test) w n) es
own_moves k test w n [] own = refl
own_moves k test w n (e ∷ es) own = omega (
  arith,
  ap bit (own_move k test w n e (omega (arith, own))),
  own_moves k test w n es (omega (arith, own)),
)

-- of moves
pub once_told : (v : ClassView) (c : ℕ) (h : Head) → Told c (class_me v).0 h → NamesNoBumpTwice v.sheet
once_told v c h told = λ w n. omega (arith, told.once w n)

pub moves_told_by : (k : ClassSheet) (l : LaneSheet) (c : ℕ) (h : Head) → Told c (applying k l) h → TellsMoves k l
moves_told_by k l c h told = λ test n. let mine : eqb l.worker l.worker ≡ true = eq-eqb l.worker l.worker refl in
    omega (
      arith,
      own_moves k test l.worker n k.history (omega (arith, told.own)),
      told.told (record { test = is_own k test; worker = l.worker; number = n })
          (λ j passes. omega (arith, ap bit (and_parts (owns j.chunk k) (test j) passes).0))
          (omega (arith, ap bit mine)),
      ap (λ (b : Bool). cond b (moves_told (is_own k test) n l.applied l.stage) 0) mine,
    )

-- ---- what a move keeps

-- the entry of a move is of the chunk, in the life that it has, and no stray one
pub move_keeps : (words c n : ℕ) (from to : Segment) (h : Head) (v : ClassView) → IsClassSheet words v.sheet
    → owns c v.sheet ≡ true → (standing v.sheet c).0 ≡ place_of from → MayChangeSegment c from to v.lane
    → h.generation ≡ (standing v.sheet c).1 → IfSome (aboard_lane v.lane) (λ b. b.life.generation ≡ h.generation)
    → IsClassSheet words (class_after_move from to c n (listed v.lane) v.sheet)
move_keeps words c n from to h v sheet own stands may gen lives = by v.lane may lives
  where
    used : IsUsed (place_of to) → IsUsed (standing v.sheet c).0
    used there = subst IsUsed (sym stands) (used_in_segment from)

    for_bump : (l : LaneSheet) (b : Bump) → bump_aboard l.stage ≡ Some b → b.life.chunk ≡ c → from ≡ Cold → to ≡ Warm
        → b.life.generation ≡ h.generation → IsClassSheet words (class_after_move from to c n (l ∷ []) v.sheet)
    for_bump l b is of cold warm same_life = subst
        (λ (o : Option Bump). IsClassSheet words
        (record v.sheet {
          history = v.sheet.history ++ change_of_move_for (life_in v.sheet c) from to l.worker o
              ∷ [];
          applying = application_of l.worker (stage_after_move l.stage);
          steps = v.sheet.steps ++ step_of kind.Move c n (bump_for l.worker o) ∷ [];
        }))
        (sym is)
        (named_sheet words _ (application_of l.worker (stage_after_move l.stage))
        (entered_sheet words v.sheet (change.Moved b.life from to (cause.Bump l.worker b.number))
        (v.sheet.steps ++ step_of kind.Move c n (Some (l.worker, b.number)) ∷ []) sheet
        (ap (λ (d : ℕ). owns d v.sheet) of ∙ own)
        (same_life ∙ gen ∙ ap (λ (d : ℕ). (standing v.sheet d).1) (sym of))
        (ap₂ (λ (f t : Segment). not (is_cold f && is_warm t)) cold warm)
        (ap₂ (λ (f t : Segment). not (may_move f t)) cold warm)
        (λ there. subst (λ (d : ℕ). IsUsed (standing v.sheet d).0) (sym of) (used there))))

    by : (o : Option LaneSheet) → MayChangeSegment c from to o
        → IfSome (aboard_lane o) (λ b. b.life.generation ≡ h.generation)
        → IsClassSheet words (class_after_move from to c n (listed o) v.sheet)
    by None may lives = named_sheet words _ v.sheet.applying
        (entered_sheet words v.sheet (change.Moved (life_in v.sheet c) from to cause.Pull)
        (v.sheet.steps ++ step_of kind.Move c n None ∷ []) sheet own refl refl (ap not may) used)
    by (Some l) may lives = let b = of_active c l.stage may.2 in let is : bump_aboard l.stage ≡ Some b.0 =
        ap bump_aboard b.1 in
        for_bump l b.0 is b.2 may.0 may.1
        (subst (λ (x : Option Bump). IfSome x (λ d. d.life.generation ≡ h.generation)) is lives)

-- what is asked of the step of a move
pub may_change_segment : (from to : Segment) (c : ℕ) (m : Sat) (v w : ClassView) (joined : Joined) → m ≡ class_me v
    → v ≡ w → IsJoined v.sheet v.lane joined → owns c w.sheet ≡ true → (standing w.sheet c).0 ≡ place_of from
    → MayChangeSegment c from to w.lane → MayMove from to c m.0
may_change_segment from to c m v w joined is same kept own stands may = subst (λ (x : Sat). MayMove from to c x.0)
    (sym (is ∙ ap class_me same)) (by w.lane may (subst (λ (x : ClassView). IsJoined x.sheet x.lane joined) same kept))
  where
    by : (o : Option LaneSheet) → MayChangeSegment c from to o → IsJoined w.sheet o joined
        → MayMove from to c (class_me (record { sheet = w.sheet; lane = o })).0
    by None may kept = inl (w.sheet, record { view = refl; stands = (own, stands); may = may })
    by (Some l) may kept = let b = of_active c l.stage may.2 in
        inr (
          w.sheet,
          l,
          b.0,
          record {
            view = refl;
            stage = b.1;
            named = kept.named ∙ ap (application_of l.worker) b.1;
            chunk = b.2;
            stands = (own, stands);
            from_cold =
                may.0;
            to_warm = may.1;
          },
        )

-- ---- the bump aboard stays in range

move_refers : (s : LaneStage) → bump_aboard (stage_after_move s) ≡ bump_aboard s
move_refers lane.Empty = refl
move_refers (lane.Carrying b) = refl
move_refers (lane.Tried b) = refl
move_refers (lane.Cleared b f) = refl
move_refers (lane.Moved b) = refl

near_as : (table : TableId) (f : LaneSheet → LaneSheet)
    → ((l : LaneSheet) → bump_aboard (f l).stage ≡ bump_aboard l.stage) → (o : Option LaneSheet)
    → IsInRange table (aboard_lane o) → IsInRange table (aboard_lane (option_map f o))
near_as table f same None near = near
near_as table f same (Some l) near = subst (IsInRange table) (sym (same l)) near

pub move_near : (table : TableId) (o : Option LaneSheet) → IsInRange table (aboard_lane o)
    → IsInRange table (aboard_lane (option_map lane_after_move o))
move_near table o near = near_as table lane_after_move (λ l. move_refers l.stage) o near

-- what the class's seat is after a move
module _ (table : TableId) (number c n : ℕ) (m p : Sat) (v w : ClassView) (is : m ≡ class_me v) (same : v ≡ w)
    (near : IsInRange table (aboard_lane v.lane)) (class : number ≡ v.sheet.class)
    (sheet : IsClassSheet (rows table) v.sheet) (joined : Joined) (lane : IsJoined v.sheet v.lane joined) where
  pub shifted_whole : (from to : Segment) (h : Head) → Spells n h → owns c w.sheet ≡ true
      → (standing w.sheet c).0 ≡ place_of from → MayChangeSegment c from to w.lane
      → p ≡ (view_after_move from to c n m.0, m.1) → Found n (Told c m.0)
      → (p ≡ class_me (class_in p.0)) × IsInRange table (aboard_lane (class_in p.0).lane)
      × (number ≡ (class_in p.0).sheet.class) × IsClassSheet (rows table) (class_in p.0).sheet
      × IsJoined (class_in p.0).sheet (class_in p.0).lane (joined_after_move joined)
  shifted_whole from to h spells own stands may moved found = let told = told_as m p v w is same n c h spells found in
      seen_whole (rows table) table number p (seat_after_move c from to h w) (joined_after_move joined)
      (move_me m p v w is same n c from to h spells moved)
      (move_near table w.lane (subst (λ (x : ClassView). IsInRange table (aboard_lane x.lane)) same near))
      (class ∙ ap (λ (x : ClassView). x.sheet.class) same)
      (move_keeps (rows table) c (word_of h) from to h w
      (subst (λ (x : ClassView). IsClassSheet (rows table) x.sheet) same sheet) own stands may
      (own_told w c h own told).1 (life_told w c h (change_segment_chunk c from to w.lane may) told))
      (joined_moved c (word_of h) from to w.sheet w.lane joined stands may
      (subst (λ (x : ClassView). IsJoined x.sheet x.lane joined) same lane))

  -- after ACTIVE was cleared
  pub cleared_whole : (h : Head) → Spells n h → MayClearActive c (standing w.sheet c).0 w.lane
      → p ≡ (view_after_clear_active c n m.0, m.1)
      → (p ≡ class_me (class_in p.0)) × IsInRange table (aboard_lane (class_in p.0).lane)
      × (number ≡ (class_in p.0).sheet.class) × IsClassSheet (rows table) (class_in p.0).sheet
      × IsJoined (class_in p.0).sheet (class_in p.0).lane joined
  cleared_whole h spells may told =
      let whole : m ≡ class_me w = is ∙ ap class_me same in
      let me : p ≡ class_me (seat_after_clear_active c h w) = told
      ∙ ap (λ (x : Sat). (view_after_clear_active c n x.0, x.1)) whole
      ∙ lane_changed (noted_class kind.ClearActive c n (listed w.lane) w.sheet) w.lane
      (lane_after_clear_active (not (active_clear n)))
      ∙ ap₂ (λ (z : ℕ) (f : Bool). class_me
      (record {
        sheet = noted_class kind.ClearActive c z (listed w.lane) w.sheet;
        lane =
            option_map (lane_after_clear_active f) w.lane;
      })) spells.0 (active_found n h spells) in
      seen_whole (rows table) table number p (seat_after_clear_active c h w) joined me
      (near_as table (lane_after_clear_active h.active) (λ l. clear_active_refers h.active l.stage) w.lane
      (subst (λ (x : ClassView). IsInRange table (aboard_lane x.lane)) same near))
      (class ∙ ap (λ (x : ClassView). x.sheet.class) same)
      (noted_sheet (rows table) w.sheet _ (subst (λ (x : ClassView). IsClassSheet (rows table) x.sheet) same sheet))
      (joined_cleared c h w.sheet w.lane joined spells.1 may
      (subst (λ (x : ClassView). IsJoined x.sheet x.lane joined) same lane))

  -- after its time was stored
  pub timed_whole : (now : ℕ) → p ≡ (view_after_put_time c now m.0, m.1)
      → (p ≡ class_me (class_in p.0)) × IsInRange table (aboard_lane (class_in p.0).lane)
      × (number ≡ (class_in p.0).sheet.class) × IsClassSheet (rows table) (class_in p.0).sheet
      × IsJoined (class_in p.0).sheet (class_in p.0).lane joined
  timed_whole now told =
      seen_whole (rows table) table number p (seat_after_put_time c now w) joined
      (told ∙ ap (λ (x : Sat). (view_after_put_time c now x.0, x.1)) (is ∙ ap class_me same))
      (subst (λ (x : ClassView). IsInRange table (aboard_lane x.lane)) same near)
      (class ∙ ap (λ (x : ClassView). x.sheet.class) same)
      (noted_sheet (rows table) w.sheet _ (subst (λ (x : ClassView). IsClassSheet (rows table) x.sheet) same sheet))
      (noted_joined w.sheet _ w.lane joined (subst (λ (x : ClassView). IsJoined x.sheet x.lane joined) same lane))

-- ---- a lane joins

-- while no lane is joined no application is in progress
pub idle_alone : (k : ClassSheet) (o : Option LaneSheet) (j : Joined) → o ≡ None → IsJoined k o j → k.applying ≡ None
idle_alone k None j none is = is
idle_alone k (Some l) j none is = absurd (cc none)

-- the bump that a lane carries may be looked at by the class that has its chunk
carries_it : (k : ClassSheet) (l : LaneSheet) (b : Bump) (s : LaneStage) → l.stage ≡ s → IsSome (carried s)
    → bump_aboard s ≡ Some b → owns b.life.chunk k ≡ true → MayTry b.life.chunk (applying k l)
carries_it k l b lane.Empty is carries on own = absurd (cc carries)
carries_it k l b (lane.Carrying d) is carries on own = let same : d ≡ b = cc on in
    (k, l, b, record { view = refl; stage = is ∙ ap lane.Carrying same; chunk = refl; own = own })
carries_it k l b (lane.Tried d) is carries on own = absurd (cc carries)
carries_it k l b (lane.Cleared d f) is carries on own = absurd (cc carries)
carries_it k l b (lane.Moved d) is carries on own = absurd (cc carries)

fronts : (w : ClassView) (o : Option LaneSheet) (b : Bump) → IsSome (carried_by o) → aboard_lane o ≡ Some b
    → owns b.life.chunk w.sheet ≡ true → MayTry b.life.chunk (class_me (record w { lane = o })).0
fronts w None b carries on own = absurd (cc on)
fronts w (Some l) b carries on own = carries_it w.sheet l b l.stage refl carries on own

module _ (m : Sat) (v w : ClassView) (o : Option (Seat Empty View)) (s : Seat Empty View) (table : TableId)
    (lane : Option LaneSheet) (is : m ≡ class_me v) (same : v ≡ w) (alone : w.lane ≡ None) (whole : IsLane table o)
    (some : o ≡ Some s) (lane_is : lane_in o ≡ lane) where
  -- the two seats together
  pub joined_me : ◌≡◌ {A = Sat} (joined m.0 s.me.0, m.1) (class_me (record w { lane = lane }))
  joined_me = ap (λ (x : Sat). (joined x.0 s.me.0, x.1)) (is ∙ ap class_me same)
      ∙ ap (λ (p : Option LaneSheet). (joined (class_me (record w { lane = p })).0 s.me.0, [])) alone
      ∙ ap (λ (x : Sat). (joined (class_me (record w { lane = None })).0 x.0, [])) (subst (IsLane table) some whole).0
      ∙ ap (λ (p : Option LaneSheet). class_me (record w { lane = p })) (sym (ap lane_in some) ∙ lane_is)

-- what a class's seat keeps
abbrev pub KeepsClass : TableId → Sat → TableId → ℕ → Type 0
KeepsClass table m id number = (m ≡ class_me (class_in m.0)) × (id ≡ table) × IsInRange table (aboard_lane (class_in m.0).lane)
    × (number ≡ (class_in m.0).sheet.class) × IsClassSheet (rows table) (class_in m.0).sheet
    × KeepsJoined (class_in m.0).sheet (class_in m.0).lane

-- what a lane's seat keeps
abbrev pub KeepsLane : TableId → Badge View → ℕ → Type 0
KeepsLane table badge worker = (badge.views ≡ lane_views (lane_in_views badge.views))
    × (IsSome (lane_in_views badge.views) → badge.table_id ≡ table) × IsAtRest (lane_in_views badge.views)
    × IsInRange table (aboard_lane (lane_in_views badge.views))
    × IsOfWorker worker (lane_in_views badge.views) × (worker < most_workers)

-- a class's seat is joined with a lane's, which comes out of its badge and carries a bump of the class
module _ (table : TableId) (badge taken : Badge View) (s : Seat Empty View) (worker : ℕ) (lane : Option LaneSheet) (b : Bump)
    (same_badge : taken ≡ badge) (out : (s.table_id ≡ taken.table_id) × (s.id ≡ taken.id) × (taken.views ≡ s.me.0 ∷ []) × (s.me.1 ≡ []))
    (lane_is : lane_in_views badge.views ≡ lane) (kept_lane : KeepsLane table badge worker) (carries : carried_by lane ≡ Some b)
    (m : Sat) (id : TableId) (number : ℕ) (w : ClassView) (view_is : class_in m.0 ≡ w) (kept : KeepsClass table m id number)
    (alone : w.lane ≡ None) (own : owns (life_aboard lane).chunk w.sheet ≡ true) (q : Sat) (joins : q ≡ (joined m.0 s.me.0, m.1)) where
  -- the two together
  both_me : q ≡ class_me (record w { lane = lane })
  both_me = joins ∙ joined_me m (class_in m.0) w (Some s) s table lane kept.0 view_is alone
      (out_is table badge taken same_badge s out.2 out.3 kept_lane.0 kept_lane.1 kept_lane.2 out.0) refl
      (out_lane table badge taken same_badge s out.2 ∙ lane_is)

  -- the bump is aboard
  on : aboard_lane lane ≡ Some b
  on = carries_aboard lane b carries

  -- what is asked of the look at its head
  pub may_front : MayTry b.life.chunk q.0
  may_front = subst (λ (x : Sat). MayTry b.life.chunk x.0) (sym both_me)
      (fronts w lane b (carries_some lane b carries) on (ap (λ (j : ItemId). owns j.chunk w.sheet) (sym (ap life_of on)) ∙ own))

  module _ (n : ℕ) (h : Head) (spells : Spells n h) (p : Sat) (told : p ≡ (view_after_try b.life.chunk n q.0, q.1))
      (found : Found n (Told b.life.chunk q.0)) where
    -- after the look at its head
    tried_me : p ≡ class_me
        (record w { lane = option_map (lane_after_try (life_aboard lane).chunk (word_of h)) lane })
    tried_me = told
        ∙ ap (λ (x : Sat). (view_after_try b.life.chunk n x.0, x.1)) both_me
        ∙ lane_changed w.sheet lane (lane_after_try b.life.chunk n)
        ∙ ap₂ (λ (d z : ℕ). class_me (record w { lane = option_map (lane_after_try d z) lane }))
        (sym (ap (λ (l : ItemId). l.chunk) (ap life_of on))) spells.0

    -- what was told there
    told_here : Told b.life.chunk (class_me (record w { lane = lane })).0 h
    told_here = subst (λ (x : Sat). Told b.life.chunk x.0 h) both_me
        (found_is n (Told b.life.chunk q.0) h spells found)

    -- so what it found is of a bump
    tried_seen : FoundOfBump w.sheet (life_aboard lane) h
    tried_seen = found_of_bump (record w { lane = lane }) b h on told_here

    -- it keeps what a class's seat keeps
    pub tried_keeps : (after : TableId) → after ≡ id → KeepsClass table p after number
    tried_keeps after same =
        let whole = seen_whole (rows table) table number p
        (record w { lane = option_map (lane_after_try (life_aboard lane).chunk (word_of h)) lane })
        (joined_after_try b.life.chunk h) tried_me
        (near_as table (lane_after_try (life_aboard lane).chunk (word_of h)) (λ l. try_refers l.stage) lane
        (subst (λ (x : Option LaneSheet). IsInRange table (aboard_lane x)) lane_is kept_lane.3))
        (kept.3 ∙ ap (λ (x : ClassView). x.sheet.class) view_is)
        (subst (λ (x : ClassView). IsClassSheet (rows table) x.sheet) view_is kept.4)
        (tried_joined h w.sheet lane b (carries_some lane b carries) on
        (idle_alone w.sheet w.lane kept.5.0 alone
        (subst (λ (x : ClassView). IsJoined x.sheet x.lane kept.5.0) view_is kept.5.1)) spells.1 tried_seen own) in
        (whole.0, same ∙ kept.1, whole.1, whole.2, whole.3, (joined_after_try b.life.chunk h, whole.4))

    -- the moves for bumps that it tells of
    tried_moves : (x : Option LaneSheet) → Told b.life.chunk (class_me (record w { lane = x })).0 h → (d z : ℕ)
        → IfSome (option_map (lane_after_try d z) x) (TellsMoves w.sheet)
    tried_moves None t d z = tt
    tried_moves (Some l) t d z = λ test i. omega (
      arith,
      moves_told_by w.sheet l b.life.chunk h t test i,
      try_going (record { test = is_own w.sheet test; worker = 0; number = i }) l.stage,
    )

    -- no bump is named twice, of moves for bumps is told, and what it found is of a bump
    pub tried_told : NamesNoBumpTwice (class_in p.0).sheet × IfSome (class_in p.0).lane (TellsMoves (class_in p.0).sheet)
        × FoundOfBump w.sheet (life_aboard lane) h
    tried_told =
        let of_both = subst (λ (x : ClassView). NamesNoBumpTwice x.sheet × IfSome x.lane (TellsMoves x.sheet))
        (sym (seen_as p _ tried_me))
        (once_told (record w { lane = lane }) b.life.chunk h told_here, tried_moves lane told_here (life_aboard lane).chunk (word_of h)) in
        (of_both.0, of_both.1, tried_seen)

-- ---- a lane is split off

-- what an entry is shown by stays where no application is named
at_rest_shown : (k : ClassSheet) (l : LaneSheet) (b : Bump) (out : Outcome) → IsShown k l b out
    → IsShown (class_at_rest k) l b out
at_rest_shown k l b outcome.Moved is = is
at_rest_shown k l b outcome.Gone is = is
at_rest_shown k l b outcome.TimeOnly is = is

-- an entry that is shown is true of what the two sheets have
shown : (k : ClassSheet) (l : LaneSheet) (b : Bump) (out : Outcome) → owns b.life.chunk k ≡ true → IsShown k l b out
    → 0 < evidence l.worker (applied_bump b out) (applying k l)
shown k l b outcome.Moved own is = let mine : of_owner b.life.chunk
    (λ j. how_many (is_move_for (is_same b.life) l.worker b.number) j.history) k ≡ how_many
    (is_move_for (is_same b.life) l.worker b.number) k.history =
    ap (λ (o : Bool). cond o (how_many (is_move_for (is_same b.life) l.worker b.number) k.history) 0) own in
    omega (arith, is, mine)
shown k l b outcome.Gone own is = let mine : of_owner b.life.chunk (λ j. how_many (is_unlink_of b.life) j.history) k
    ≡ how_many (is_unlink_of b.life) k.history =
    ap (λ (o : Bool). cond o (how_many (is_unlink_of b.life) k.history) 0) own in omega (arith, is, mine)
shown k l b outcome.TimeOnly own is = let mine : of_owner b.life.chunk
    (λ j. how_many (shows_time_only l.worker b.number b.life.chunk) j.steps) k ≡ how_many
    (shows_time_only l.worker b.number b.life.chunk) k.steps =
    ap (λ (o : Bool). cond o (how_many (shows_time_only l.worker b.number b.life.chunk) k.steps) 0) own in
    omega (arith, is, mine)

module _ (m : Sat) (v w : ClassView) (is : m ≡ class_me v) (same : v ≡ w) (c : ℕ) (out : Outcome) (l : LaneSheet)
    (b : Bump) (ends : Ending w c out l b) where
  -- the seat is that of the class and of this lane
  view_is : m ≡ (applying w.sheet l, [])
  view_is = is ∙ ap class_me same ∙ ap (λ (o : Option LaneSheet). class_me (record w { lane = o })) ends.joined

  pub may_end : MayAlight c out m.0
  may_end = (
    w.sheet,
    l,
    b,
    record {
      view = ap (λ (x : Sat). x.0) view_is;
      aboard = aboard_now l.stage b ends.aboard;
      chunk = ends.chunk;
      past = ends.past;
      named = ends.named;
      proof = shown w.sheet l b out (ap (λ (d : ℕ). owns d w.sheet) ends.chunk
          ∙ ends.own) ends.entry;
    },
  )

  aboard_is : aboard_lane w.lane ≡ Some b
  aboard_is = ap aboard_lane ends.joined ∙ aboard_now l.stage b ends.aboard

  module _ (n : ℕ) (h : Head) (spells : Spells n h) where
    told_there : Found n (Told c m.0) → Told c (applying w.sheet l) h
    told_there found = subst (λ (x : Sat). Told c x.0 h) view_is (found_is n (Told c m.0) h spells found)

    pub alighted_seen : Found n (Told c m.0) → FoundOfBump w.sheet (life_aboard w.lane) h
    alighted_seen found = found_of_bump w b h aboard_is
        (subst (λ (x : ℕ × Option LaneSheet). Told x.0 (class_me (record w { lane = x.1 })).0 h)
        (λ i. (sym ends.chunk i, sym ends.joined i)) (told_there found))

    module _ (r p q : Sat) (told : q ≡ (view_after_alight out c n m.0, m.1)) (rest : r ≡ (without_lanes q.0, q.1))
        (sheets : p ≡ (lanes_only q.0, [])) where
      -- what the lane gets back
      back_is : Some (head_or no_lane p.0.lanes) ≡ Some (lane_after_alight out c (word_of h) l)
      back_is = ap (λ (x : Sat). Some (head_or no_lane x.0.lanes))
          (sheets ∙ ap (λ (x : Sat). (lanes_only x.0, []))
          (told ∙ ap (λ (x : Sat). (view_after_alight out c n x.0, x.1)) view_is))
          ∙ ap (λ (z : ℕ). Some (lane_after_alight out c z l)) spells.0

      -- the class is as before, and names no application
      sheet_is : head_or no_class r.0.classes ≡ class_at_rest w.sheet
      sheet_is = ap (λ (x : Sat). head_or no_class x.0.classes)
          (rest ∙ ap (λ (x : Sat). (without_lanes x.0, x.1))
          (told ∙ ap (λ (x : Sat). (view_after_alight out c n x.0, x.1)) view_is))

      -- its entry is true by what is left in the two
      pub entry_told : IfSome w.lane
          (λ m. IfSome (bump_aboard m.stage) (λ d. IsShown (head_or no_class r.0.classes) m d out))
      entry_told = subst (λ (k : ClassSheet). IfSome w.lane (λ m. IfSome (bump_aboard m.stage) (λ d. IsShown k m d out)))
          (sym sheet_is)
          (subst (λ (o : Option LaneSheet). IfSome o
          (λ m. IfSome (bump_aboard m.stage) (λ d. IsShown (class_at_rest w.sheet) m d out))) (sym ends.joined)
          (subst (λ (o : Option Bump). IfSome o (λ d. IsShown (class_at_rest w.sheet) l d out))
          (sym (aboard_now l.stage b ends.aboard)) (at_rest_shown w.sheet l b out ends.entry)))

      -- what is left is a class's seat
      pub alighted_whole : (table : TableId) (number : ℕ) (joined : Joined) → number ≡ v.sheet.class
          → IsClassSheet (rows table) v.sheet
          → (r ≡ class_me (class_in r.0)) × IsInRange table (aboard_lane (class_in r.0).lane)
          × (number ≡ (class_in r.0).sheet.class) × IsClassSheet (rows table) (class_in r.0).sheet × IsJoined
          (class_in r.0).sheet (class_in r.0).lane joined
      alighted_whole table number joined class sheet = seen_whole (rows table) table number r
          (record { sheet = class_at_rest w.sheet; lane = None }) joined
          (rest ∙ ap (λ (x : Sat). (without_lanes x.0, x.1))
          (told ∙ ap (λ (x : Sat). (view_after_alight out c n x.0, x.1)) view_is)) tt
          (class ∙ ap (λ (x : ClassView). x.sheet.class) same)
          (named_sheet (rows table) w.sheet None (subst (λ (x : ClassView). IsClassSheet (rows table) x.sheet) same sheet))
          refl

      -- and as it is seen
      pub alighted_seat : class_in r.0 ≡ record { sheet = class_at_rest w.sheet; lane = None }
      alighted_seat = seen_as r (record { sheet = class_at_rest w.sheet; lane = None })
          (rest ∙ ap (λ (x : Sat). (without_lanes x.0, x.1))
          (told ∙ ap (λ (x : Sat). (view_after_alight out c n x.0, x.1)) view_is))

      -- the lane that is back applied a bump, so of its worker nothing is asked
      pub alighted_worker : (worker : ℕ) → IsOfWorker worker (Some (head_or no_lane p.0.lanes))
      alighted_worker worker none = absurd (one_more l.applied (applied_bump b out) (sym applied_now_by ∙ none))
        where
          applied_now_by : (head_or no_lane p.0.lanes).applied ≡ l.applied ++ applied_bump b out ∷ []
          applied_now_by = ap applied_by back_is
              ∙ ap (λ (o : Option Bump). l.applied ++ entries_of_alight out o) (aboard_now l.stage b ends.aboard)

      pub alighted_lane : (table id : TableId) → id ≡ table → (s : Seat Empty View) → s.me ≡ p → s.table_id ≡ id
          → IsLane table (Some s)
      alighted_lane table id near s me named = (
        me ∙ sheets
            ∙ ap (λ (x : Sat). (lanes_only x.0, []))
            (told ∙ ap (λ (x : Sat). (view_after_alight out c n x.0, x.1)) view_is)
            ∙ ap lane_me (sym (ap (λ (x : Sat). head_or no_lane x.0.lanes)
            (me ∙ sheets ∙ ap (λ (x : Sat). (lanes_only x.0, []))
            (told ∙ ap (λ (x : Sat). (view_after_alight out c n x.0, x.1)) view_is)))),
        named ∙ near,
        ap (λ (x : Sat). is_half_made (head_or no_lane x.0.lanes).stage)
            (me ∙ sheets ∙ ap (λ (x : Sat). (lanes_only x.0, []))
            (told ∙ ap (λ (x : Sat). (view_after_alight out c n x.0, x.1)) view_is)),
      )

      -- of moves for bumps
      pub alighted_told : Found n (Told c m.0) → NamesNoBumpTwice (head_or no_class r.0.classes)
          × TellsMoves (head_or no_class r.0.classes) (head_or no_lane p.0.lanes)
      alighted_told found = subst (λ (k : ClassSheet). NamesNoBumpTwice k × TellsMoves k (head_or no_lane p.0.lanes))
          (sym sheet_is) (
            once_told (record w { lane = Some l }) c h (told_there found),
            subst (λ (x : Option LaneSheet). IfSome x (TellsMoves (class_at_rest w.sheet))) (sym back_is)
                (λ test i. omega (
                  arith,
                  moves_told_by w.sheet l c h (told_there found) test i,
                  alight_refers (is_own w.sheet test) i l b out (aboard_now l.stage b ends.aboard) ends.past,
                )),
          )

-- ---- a lane meets a class

-- what the two sheets tell of moves, whatever head is found
pub tells_by : (k : ClassSheet) (l : LaneSheet) → TellsOfMoves (applying k l) → TellsMoves k l
tells_by k l told = λ test n. let mine : eqb l.worker l.worker ≡ true = eq-eqb l.worker l.worker refl in
    omega (
      arith,
      own_moves k test l.worker n k.history (omega (arith, told.own)),
      told.told (record { test = is_own k test; worker = l.worker; number = n })
          (λ j passes. omega (arith, ap bit (and_parts (owns j.chunk k) (test j) passes).0))
          (omega (arith, ap bit mine)),
      ap (λ (b : Bool). cond b (moves_told (is_own k test) n l.applied l.stage) 0) mine,
    )

module _ (m q n r p : Sat) (v w : ClassView) (o : Option (Seat Empty View)) (s : Seat Empty View) (table : TableId)
    (lane : Option LaneSheet) (is : m ≡ class_me v) (same : v ≡ w) (alone : w.lane ≡ None) (whole : IsLane table o)
    (some : o ≡ Some s) (lane_is : lane_in o ≡ lane) (joins : q ≡ (joined m.0 s.me.0, m.1))
    (note : n ≡ (on_class class_after_meet q.0, q.1))
    (rest : r ≡ (without_lanes n.0, n.1)) (sheets : p ≡ (lanes_only n.0, [])) where
  met_me : q ≡ class_me (record w { lane = lane })
  met_me = joins ∙ joined_me m v w o s table lane is same alone whole some lane_is

  met_some : lane ≡ Some (head_or no_lane s.me.0.lanes)
  met_some = sym lane_is ∙ ap lane_in some

  met_noted : n ≡ class_me (record w { sheet = class_after_meet w.sheet; lane = lane })
  met_noted = note ∙ ap (λ (x : Sat). (on_class class_after_meet x.0, x.1)) met_me

  -- the class's seat noted the load, and is as before
  pub met_rest : r ≡ (on_class class_after_meet m.0, m.1)
  met_rest = rest ∙ ap (λ (x : Sat). (without_lanes x.0, x.1)) met_noted
      ∙ ap (λ (x : Option LaneSheet). class_me (record { sheet = class_after_meet w.sheet; lane = x })) (sym alone)
      ∙ ap (λ (x : Sat). (on_class class_after_meet x.0, x.1)) (sym (is ∙ ap class_me same))

  -- what both have of moves agrees
  pub met_told : TellsOfMoves q.0 → NamesNoBumpTwice w.sheet × IfSome lane (TellsMoves w.sheet)
  met_told told = let t : TellsOfMoves (applying w.sheet (head_or no_lane s.me.0.lanes)) =
      subst (λ (x : Sat). TellsOfMoves x.0)
      (met_me ∙ ap (λ (x : Option LaneSheet). class_me (record w { lane = x })) met_some) told in (
        λ a n. omega (arith, t.once a n),
        subst (λ (x : Option LaneSheet). IfSome x (TellsMoves w.sheet)) (sym met_some)
            (tells_by w.sheet (head_or no_lane s.me.0.lanes) t),
      )

module _ (m : Sat) (v w : ClassView) (is : m ≡ class_me v) (same : v ≡ w) where
  -- the moves of a class's seat alone are those of its class's history
  pub met_workers : (workers : ℕ) → AreOfWorkers workers m.0 → NamesWorkersBelow workers w.sheet
  met_workers workers of worker number far =
      let none : AreOfWorkers workers (class_me w).0 =
      subst (λ (x : Sat). AreOfWorkers workers x.0) (is ∙ ap class_me same) of in
      omega (arith, none (record { test = λ l. true; worker = worker; number = number }) far)

  -- and no bump is named twice
  pub met_once : TellsOfMoves m.0 → NamesNoBumpTwice w.sheet
  met_once told worker number =
      let t : TellsOfMoves (class_me w).0 = subst (λ (x : Sat). TellsOfMoves x.0) (is ∙ ap class_me same) told in
      omega (arith, t.once worker number)
