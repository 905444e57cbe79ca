-- What a class's seat keeps of the lane that is joined to it, over each step, and what the lane's bump may end with.
use Rattle.std.proofs.Common.{◌≡◌, ℕ, ◌/◌, ◌%◌, ◌^◌, ◌≢◌, ◌&&◌, ◌==◌, not, Bool, true, false, List, [], ◌∷◌, ◌++◌, Option, None, Some, IsSome, if◌then◌else◌, refl, sym, ap, ap₂, ◌∙◌, subst, arith, eq-eqb, ne_eqb}
use Rattle.std.specs.Prelude.{option_map}
use mathlib.Core.Bool.{false≢true}
use Rattle.bump_rules.specs.declared.items.Head.{Head}
use Rattle.bump_rules.specs.declared.places.Place.TheVariants as place
use Rattle.bump_rules.specs.declared.places.Segment.{Segment}
use Rattle.bump_rules.specs.declared.places.Segment.TheVariants.{Warm, Cold}
use Rattle.bump_rules.specs.declared.history.Cause.TheVariants as cause
use Rattle.bump_rules.specs.declared.history.Change.TheVariants as change
use Rattle.bump_rules.specs.declared.bumps.AppliedBump.{AppliedBump}
use Rattle.bump_rules.specs.declared.bumps.Bump.{Bump}
use Rattle.bump_rules.specs.declared.bumps.Outcome.{Outcome}
use Rattle.bump_rules.specs.declared.bumps.Outcome.TheVariants as outcome
use Rattle.bump_rules.specs.declared.lanes.LaneStage.{LaneStage}
use Rattle.bump_rules.specs.declared.lanes.LaneStage.TheVariants as lane
use Rattle.bump_rules.specs.Entries.{is_move_for, is_moved}
use Rattle.bump_rules.specs.History.{place_of}
use Rattle.bump_rules.specs.Lanes.{carried, tried, applied_now, cleared_active, applied_bump, ending_at}
use Rattle.bump_rules.specs.Lawful.{bit}
use Rattle.bump_rules.specs.Lives.{is_same}
use Rattle.bump_rules.specs.Tables.{is_cold}
use Rattle.bump_rules.proofs.Laws.{dying_where_unlinked}
use Rattle.bump_rules.proofs.Unlinks.{unlinked_where_dying}
use Rattle.bump_rules.proofs.Updates.{total_push}
use Rattle.bump_word.specs.Layout.{linked_first, active_first}
use Rattle.bump_word.specs.Words.{Fits, Spells, segment_number, word_of, segment_bits}
use Rattle.bump_word.proofs.Words.{fields, number_one, one_head}
use Rattle.bump_steps.specs.declared.views.Kind.TheVariants as kind
use Rattle.bump_steps.specs.declared.views.ClassSheet.{ClassSheet}
use Rattle.bump_steps.specs.declared.views.LaneSheet.{LaneSheet}
use Rattle.bump_steps.specs.declared.views.OwnStep.{OwnStep}
use Rattle.bump_steps.specs.Views.{bump_aboard, owns, standing, is_for, linked_elsewhere, active_clear, shows_time_only}
use Rattle.bump_steps.specs.Plays.{step_of}
use Rattle.bump_steps.specs.Applications.{application_of, is_past_move, lane_after_try, lane_after_clear_active, lane_after_move, noted_class, class_after_move}
use Rattle.bump_heads.specs.declared.joined.Joined.{Joined}
use Rattle.bump_heads.specs.declared.views.ClassView.{ClassView}
use Rattle.bump_readers.specs.Seats.{listed}
use Rattle.bump_heads.specs.Seats.{aboard_lane}
use Rattle.bump_heads.specs.Applying.{carried_by, life_of, life_aboard, IsOf, MayClearActive, MayChangeSegment, IsShown, TryFound, MayEndAs, Joins, IsJoined, outcome_by, joined_after_try, joined_after_move, FoundOfBump}

-- ---- words

-- the word of a linked head that isn't in COLD
elsewhere : (h : Head) → Fits h → h.linked ≡ true → h.segment ≢ Cold → linked_elsewhere (word_of h) ≡ true
elsewhere h fits on other = let f = fields (word_of h) h (refl, fits) in
    ap₂ (λ (a b : Bool). a && not b)
    (eq-eqb (word_of h / 2 ^ linked_first % 2) 1 (omega (arith, f.linked, ap bit on)))
    (ne_eqb (segment_bits (word_of h)) (segment_number Cold)
    (λ e. other (number_one h.segment Cold (sym f.segment ∙ e))))

-- the word of a head without ACTIVE
clear_word : (h : Head) → Fits h → h.active ≡ false → active_clear (word_of h) ≡ true
clear_word h fits off = eq-eqb (word_of h / 2 ^ active_first % 2) 0
    (omega (arith, (fields (word_of h) h (refl, fits)).active, ap bit off))

-- ACTIVE as the word has it
pub active_found : (n : ℕ) (h : Head) → Spells n h → not (active_clear n) ≡ h.active
active_found n h spells = by h.active (fields n h spells).active
  where
    by : (b : Bool) → n / 2 ^ active_first % 2 ≡ bit b → not (active_clear n) ≡ b
    by true is = ap not (ne_eqb (n / 2 ^ active_first % 2) 0 (λ e. absurd (omega (arith, e, is))))
    by false is = ap not (eq-eqb (n / 2 ^ active_first % 2) 0 is)

-- a step that was made for the bump, on its chunk
made_for : (w n c d : ℕ) → c ≡ d → (is_for w n (Some (w, n)) && (c == d)) ≡ true
made_for w n c d e = ap₂ (λ (a b : Bool). a && b) (ap₂ (λ (a b : Bool). a && b) (eq-eqb w w refl) (eq-eqb n n refl))
    (eq-eqb c d e)

-- ---- entries

abbrev bump_in : AppliedBump → Bump
bump_in a = record { number = a.number; life = a.life }

-- an entry is of one bump, and has one outcome
one_end : (d b : Bump) (p o : Outcome) → ◌≡◌ {A = Option AppliedBump} (Some (applied_bump d p))
    (Some (applied_bump b o)) → (d ≡ b) × (p ≡ o)
one_end d b p o is = let e : applied_bump d p ≡ applied_bump b o = cc is in
    (ap bump_in e, ap (λ (a : AppliedBump). a.outcome) e)

-- what is shown of one is shown of an equal one
shown_as : (k : ClassSheet) (l : LaneSheet) (d b : Bump) (p o : Outcome) → ◌≡◌ {A = Option AppliedBump}
    (Some (applied_bump d p)) (Some (applied_bump b o)) → IsShown k l d p → IsShown k l b o
shown_as k l d b p o is shown = let e = one_end d b p o is in subst (λ (x : Bump × Outcome). IsShown k l x.0 x.1)
    (λ i. (e.0 i, e.1 i)) shown

-- a step that is only noted takes nothing from what shows an entry
more_steps : (k : ClassSheet) (l : LaneSheet) (x : OwnStep) (b : Bump) (o : Outcome) → IsShown k l b o
    → IsShown (record k { steps = k.steps ++ x ∷ [] }) l b o
more_steps k l x b outcome.Moved is = is
more_steps k l x b outcome.Gone is = is
more_steps k l x b outcome.TimeOnly is =
    omega (arith, is, total_push (λ y. bit (shows_time_only l.worker b.number b.life.chunk y)) k.steps x)

-- ---- steps

-- a step of the class that is only noted
pub noted_joined : (k : ClassSheet) (x : OwnStep) (o : Option LaneSheet) (j : Joined) → IsJoined k o j
    → IsJoined (record k { steps = k.steps ++ x ∷ [] }) o j
noted_joined k x None j is = is
noted_joined k x (Some l) j is = record {
  bump = is.bump;
  aboard = is.aboard;
  chunk = is.chunk;
  named = is.named;
  own = is.own;
  found = is.found;
  found_by_try = is.found_by_try;
  gone = is.gone;
  outcome = is.outcome;
  entry = λ b o may. more_steps k l x b o (is.entry b o may);
}

-- any step while no lane is joined, and which names no application
pub alone_joined : (k m : ClassSheet) (o : Option LaneSheet) (j : Joined) → o ≡ None → m.applying ≡ k.applying
    → IsJoined k o j → IsJoined m o j
alone_joined k m None j none same is = same ∙ is
alone_joined k m (Some l) j none same is = absurd (cc none)

module _ (h : Head) (k : ClassSheet) (l : LaneSheet) (b : Bump) (fits : Fits h) (seen : FoundOfBump k b.life h)
    (own : owns b.life.chunk k ≡ true) (idle : k.applying ≡ None) where
  -- the lane after its look
  abbrev after_look : LaneSheet
  after_look = lane_after_try b.life.chunk (word_of h) (record l { stage = lane.Carrying b })

  -- a lane's look at the head of its bump's item
  pub tries : Joins k after_look (joined_after_try b.life.chunk h)
  tries = record {
    bump = b;
    aboard = refl;
    chunk = refl;
    named = idle;
    own = own;
    found = h;
    found_by_try =
        record { before = l.steps; steps = refl; fits = fits };
    gone = dying;
    outcome = refl;
    entry = λ d o may. by h.linked (is_cold h.segment) refl
        refl d o may;
  }
    where
      dying : h.linked ≡ false → (standing k b.life.chunk).0 ≡ place.Dying
      dying off = let st = seen.stands own in
          dying_where_unlinked h (standing k b.life.chunk).0 st.0 st.2 off

      gone : h.linked ≡ false → IsShown k after_look b outcome.Gone
      gone off = unlinked_where_dying b.life.chunk b.life.generation (place.Unused, k.fresh) k.history
          (λ e. absurd (cc e)) (dying off) (seen.stands own).1

      time_only : h.linked ≡ true → is_cold h.segment ≡ false → IsShown k after_look b outcome.TimeOnly
      time_only on other = omega (
        arith,
        total_push (λ x. bit (shows_time_only l.worker b.number b.life.chunk x)) l.steps
            (step_of kind.Try b.life.chunk (word_of h) (Some (l.worker, b.number))),
        ap bit (ap₂ (λ (p q : Bool). p && q) (elsewhere h fits on (λ e. false≢true (sym other ∙ ap is_cold e)))
            (made_for l.worker b.number b.life.chunk b.life.chunk refl)),
      )

      by : (on cold : Bool) → h.linked ≡ on → is_cold h.segment ≡ cold → (d : Bump) (o : Outcome)
          → option_map (applied_bump b)
          (if not on then Some outcome.Gone else (if cold then None else Some outcome.TimeOnly)) ≡ Some
          (applied_bump d o) → IsShown k after_look d o
      by false cold off is d o may = shown_as k after_look b d outcome.Gone o may (gone off)
      by true true on is d o may = absurd (cc may)
      by true false on is d o may = shown_as k after_look b d outcome.TimeOnly o may (time_only on is)

-- a lane that carries a bump joins, and looks
pub tried_joined : (h : Head) (k : ClassSheet) (o : Option LaneSheet) (b : Bump) → IsSome (carried_by o)
    → aboard_lane o ≡ Some b → k.applying ≡ None → Fits h → FoundOfBump k (life_aboard o) h
    → owns (life_aboard o).chunk k ≡ true
    → IsJoined k (option_map (lane_after_try (life_aboard o).chunk (word_of h)) o)
    (joined_after_try b.life.chunk h)
tried_joined h k None b some is idle fits seen own = absurd (cc some)
tried_joined h k (Some l) b some is idle fits seen own = by l.stage some is seen own
  where
    by : (s : LaneStage) → IsSome (carried s) → bump_aboard s ≡ Some b → FoundOfBump k (life_of (bump_aboard s)) h
        → owns (life_of (bump_aboard s)).chunk k ≡ true
        → Joins k (lane_after_try (life_of (bump_aboard s)).chunk (word_of h) (record l { stage = s }))
        (joined_after_try b.life.chunk h)
    by lane.Empty some is seen own = absurd (cc some)
    by (lane.Carrying d) some is seen own = let e : d ≡ b = cc is in
        subst (λ (x : Bump). Joins k (lane_after_try d.life.chunk (word_of h) (record l { stage = lane.Carrying d }))
        (joined_after_try x.life.chunk h)) e (tries h k l d fits seen own idle)
    by (lane.Tried d) some is seen own = absurd (cc some)
    by (lane.Cleared d f) some is seen own = absurd (cc some)
    by (lane.Moved d) some is seen own = absurd (cc some)

-- the class's sheet after ACTIVE of the bump's item was cleared, and after it was moved
abbrev sheet_cleared : ℕ → Head → ClassSheet → LaneSheet → Bump → ClassSheet
sheet_cleared c h k l b = noted_class kind.ClearActive c (word_of h) (record l { stage = lane.Tried b } ∷ []) k

abbrev sheet_moved : ℕ → ℕ → ClassSheet → LaneSheet → Bump → ClassSheet
sheet_moved c n k l b = class_after_move Cold Warm c n (record l { stage = lane.Cleared b true } ∷ []) k

-- a chunk in COLD isn't in DYING
not_dying : (k : ClassSheet) (c : ℕ) (b d : Bump) → b.life.chunk ≡ c → b ≡ d → (standing k c).0 ≡ place.Cold
    → (standing k d.life.chunk).0 ≡ place.Dying → ⊥
not_dying k c b d of same cold dying =
    let e : place.Cold ≡ place.Dying = sym cold ∙ ap (λ (x : ℕ). (standing k x).0) (sym of)
    ∙ ap (λ (x : Bump). (standing k x.life.chunk).0) same ∙ dying in cc e

-- ACTIVE of the bump's item is cleared
clears : (c : ℕ) (h : Head) (k : ClassSheet) (l : LaneSheet) (j : Joined) (b : Bump) → Fits h → b.life.chunk ≡ c
    → (standing k c).0 ≡ place.Cold → Joins k (record l { stage = lane.Tried b }) j
    → Joins (sheet_cleared c h k l b) (record l { stage = lane.Cleared b h.active }) j
clears c h k l j b fits of cold is = record {
  bump = is.bump;
  aboard = is.aboard;
  chunk = is.chunk;
  named = is.named;
  own = is.own;
  found = is.found;
  found_by_try = record {
    before = is.found_by_try.before;
    steps = is.found_by_try.steps;
    fits = is.found_by_try.fits;
  };
  gone = is.gone;
  outcome = still is.found.linked refl;
  entry = λ d o may. by h.active refl d o may;
}
  where
    still : (on : Bool) → is.found.linked ≡ on → j.outcome ≡ outcome.TimeOnly
    still true on = is.outcome
        ∙ ap (λ (x : Bool). if not x then outcome.Gone else outcome.TimeOnly) on
    still false off = absurd (not_dying k c b is.bump of (cc is.aboard) cold (is.gone off))

    shown : h.active ≡ false → IsShown (sheet_cleared c h k l b) (record l { stage = lane.Cleared b h.active }) b
        outcome.TimeOnly
    shown off = omega (
      arith,
      total_push (λ x. bit (shows_time_only l.worker b.number b.life.chunk x)) k.steps
          (step_of kind.ClearActive c (word_of h) (Some (l.worker, b.number))),
      ap bit (ap₂ (λ (p q : Bool). p && q) (clear_word h fits off)
          (made_for l.worker b.number c b.life.chunk (sym of))),
    )

    by : (f : Bool) → h.active ≡ f → (d : Bump) (o : Outcome) → ending_at (λ c. is.found) (lane.Cleared b f) ≡ Some
        (applied_bump d o)
        → IsShown (sheet_cleared c h k l b) (record l { stage = lane.Cleared b h.active }) d o
    by true on d o may = absurd (cc may)
    by false off d o may = shown_as (sheet_cleared c h k l b) (record l { stage = lane.Cleared b h.active }) b d
        outcome.TimeOnly o may (shown off)

-- the item is moved
moves : (c n : ℕ) (k : ClassSheet) (l : LaneSheet) (j : Joined) (b : Bump) → b.life.chunk ≡ c
    → (standing k c).0 ≡ place.Cold → Joins k (record l { stage = lane.Cleared b true }) j
    → Joins (sheet_moved c n k l b) (record l { stage = lane.Moved b }) (joined_after_move j)
moves c n k l j b of cold is = record {
  bump = is.bump;
  aboard = is.aboard;
  chunk = is.chunk;
  named = refl;
  own = is.own;
  found = is.found;
  found_by_try = record {
    before = is.found_by_try.before;
    steps = is.found_by_try.steps;
    fits = is.found_by_try.fits;
  };
  gone = λ off. absurd (not_dying k c b is.bump of (cc is.aboard) cold (is.gone off));
  outcome = refl;
  entry = λ d o may. shown_as (sheet_moved c n k l b) (record l { stage = lane.Moved b }) b d outcome.Moved o may
      shown;
}
  where
    shown : IsShown (sheet_moved c n k l b) (record l { stage = lane.Moved b }) b outcome.Moved
    shown = omega (
      arith,
      total_push (λ x. bit (is_move_for (is_same b.life) l.worker b.number x)) k.history
          (change.Moved b.life Cold Warm (cause.Bump l.worker b.number)),
      ap bit (ap₂ (λ (p q : Bool). p && q) (ap₂ (λ (p q : Bool). p && q) (eq-eqb b.life.chunk b.life.chunk refl)
          (eq-eqb b.life.generation b.life.generation refl))
          (ap₂ (λ (p q : Bool). p && q) (eq-eqb l.worker l.worker refl) (eq-eqb b.number b.number refl))),
    )

-- how far a lane is by the condition of its step
at_tried : (c : ℕ) (s : LaneStage) → IsOf c (tried s) → (b : Bump) × (s ≡ lane.Tried b) × (b.life.chunk ≡ c)
at_tried c lane.Empty is = absurd is
at_tried c (lane.Carrying b) is = absurd is
at_tried c (lane.Tried b) is = (b, refl, is)
at_tried c (lane.Cleared b f) is = absurd is
at_tried c (lane.Moved b) is = absurd is

at_cleared : (c : ℕ) (s : LaneStage) → IsOf c (cleared_active s) → (b : Bump) × (s ≡ lane.Cleared b true)
    × (b.life.chunk ≡ c)
at_cleared c lane.Empty is = absurd is
at_cleared c (lane.Carrying b) is = absurd is
at_cleared c (lane.Tried b) is = absurd is
at_cleared c (lane.Cleared b true) is = (b, refl, is)
at_cleared c (lane.Cleared b false) is = absurd is
at_cleared c (lane.Moved b) is = absurd is

pub joined_cleared : (c : ℕ) (h : Head) (k : ClassSheet) (o : Option LaneSheet) (j : Joined) → Fits h
    → MayClearActive c (standing k c).0 o → IsJoined k o j
    → IsJoined (noted_class kind.ClearActive c (word_of h) (listed o) k)
    (option_map (lane_after_clear_active h.active) o) j
joined_cleared c h k None j fits may is = is
joined_cleared c h k (Some l) j fits may is =
    let t = at_tried c l.stage may.1 in
    subst (λ (s : LaneStage). Joins (noted_class kind.ClearActive c (word_of h) (record l { stage = s } ∷ []) k)
    (lane_after_clear_active h.active (record l { stage = s })) j) (sym t.1)
    (clears c h k l j t.0 fits t.2 may.0 (subst (λ (s : LaneStage). Joins k (record l { stage = s }) j) t.1 is))

pub joined_moved : (c n : ℕ) (from to : Segment) (k : ClassSheet) (o : Option LaneSheet) (j : Joined)
    → (standing k c).0 ≡ place_of from → MayChangeSegment c from to o → IsJoined k o j
    → IsJoined (class_after_move from to c n (listed o) k) (option_map lane_after_move o)
    (joined_after_move j)
joined_moved c n from to k None j stands may is = is
joined_moved c n from to k (Some l) j stands may is =
    let t = at_cleared c l.stage may.2 in
    subst (λ (x : Segment × Segment × LaneStage). Joins (class_after_move x.0 x.1 c n (record l { stage = x.2 } ∷ []) k)
    (lane_after_move (record l { stage = x.2 })) (joined_after_move j))
    (λ i. (sym may.0 i, sym may.1 i, sym t.1 i))
    (moves c n k l j t.0 t.2 (stands ∙ ap place_of may.0)
    (subst (λ (s : LaneStage). Joins k (record l { stage = s }) j) t.1 is))

-- ---- the end

-- what the bump ends with tells how far the lane is
may_end_as : (h : Head) (s : LaneStage) (b : Bump) (o : Outcome) → ending_at (λ c. h) s ≡ Some (applied_bump b o)
    → (applied_now s ≡ Some b) × (is_past_move s ≡ is_moved o) × (outcome_by h s ≡ o)
may_end_as h lane.Empty b o is = absurd (cc is)
may_end_as h (lane.Carrying d) b o is = absurd (cc is)
may_end_as h (lane.Tried d) b o is = by h.linked (is_cold h.segment) is
  where
    by : (on cold : Bool) → option_map (applied_bump d)
        (if not on then Some outcome.Gone else (if cold then None else Some outcome.TimeOnly)) ≡ Some
        (applied_bump b o) → (◌≡◌ {A = Option Bump} (Some d) (Some b)) × (false ≡ is_moved o)
        × ((if not on then outcome.Gone else outcome.TimeOnly) ≡ o)
    by false cold may = let e = one_end d b outcome.Gone o may in
        (ap (λ (x : Bump). Some x) e.0, ap is_moved e.1, e.1)
    by true true may = absurd (cc may)
    by true false may = let e = one_end d b outcome.TimeOnly o may in
        (ap (λ (x : Bump). Some x) e.0, ap is_moved e.1, e.1)
may_end_as h (lane.Cleared d true) b o is = absurd (cc is)
may_end_as h (lane.Cleared d false) b o is = let e = one_end d b outcome.TimeOnly o is in
    (ap (λ (x : Bump). Some x) e.0, ap is_moved e.1, e.1)
may_end_as h (lane.Moved d) b o is = let e = one_end d b outcome.Moved o is in
    (ap (λ (x : Bump). Some x) e.0, ap is_moved e.1, e.1)

-- the word of the last step
abbrev last_word : ℕ → List OwnStep → ℕ
last_word n [] = n
last_word n (x ∷ xs) = last_word x.word xs

last_push : (n : ℕ) (xs : List OwnStep) (x : OwnStep) → last_word n (xs ++ x ∷ []) ≡ x.word
last_push n [] x = refl
last_push n (y ∷ ys) x = last_push y.word ys x

-- a lane's look found one head
one_try : (l : LaneSheet) (b d : Bump) (g h : Head) → TryFound l b g → TryFound l d h → g ≡ h
one_try l b d g h x y =
    let word : word_of g ≡ word_of h =
    sym (last_push 0 x.before (step_of kind.Try b.life.chunk (word_of g) (Some (l.worker, b.number))))
    ∙ ap (last_word 0) (sym x.steps ∙ y.steps)
    ∙ last_push 0 y.before (step_of kind.Try d.life.chunk (word_of h) (Some (l.worker, d.number))) in
    one_head (word_of h) g h (sym word, x.fits) (refl, y.fits)

-- The bump aboard the joined lane, which is of this chunk of the class, ends with the outcome: its item was moved
-- exactly where that is Moved, and the entry is true.
pub record Ending (v : ClassView) (c : ℕ) (o : Outcome) (l : LaneSheet) (b : Bump) : Type 0 where
  pub joined : v.lane ≡ Some l
  pub aboard : applied_now l.stage ≡ Some b
  pub chunk : b.life.chunk ≡ c
  pub own : owns c v.sheet ≡ true
  pub past : is_past_move l.stage ≡ is_moved o
  pub named : v.sheet.applying ≡ application_of l.worker l.stage
  pub entry : IsShown v.sheet l b o

module _ (v : ClassView) (l : LaneSheet) (b : Bump) (h : Head) (o : Outcome) (ends : MayEndAs v l b h o) where
  module _ (j : Joined) (is : IsJoined v.sheet v.lane j) where
    -- the seat keeps what a caller knows of the lane
    joins : Joins v.sheet l j
    joins = subst (λ (y : Option LaneSheet). IsJoined v.sheet y j) ends.joined is

    -- the head that its look found is the caller's
    found_is : h ≡ joins.found
    found_is = one_try l b joins.bump h joins.found ends.found_by_try joins.found_by_try

    bump_is : b ≡ joins.bump
    bump_is = let f : Some b ≡ Some joins.bump = sym (may_end_as h l.stage b o ends.ending).0 ∙ joins.aboard in cc f

    -- and which is true
    pub ending_told : Ending v b.life.chunk o l b
    ending_told = let m = may_end_as h l.stage b o ends.ending in record {
      joined = ends.joined;
      aboard = m.0;
      chunk = refl;
      own = ap (λ (x : Bump). owns x.life.chunk v.sheet) bump_is ∙ joins.own;
      past = m.1;
      named = joins.named;
      entry = joins.entry b o
          (subst (λ (y : Head). ending_at (λ c. y) l.stage ≡ Some (applied_bump b o)) found_is ends.ending);
    }
