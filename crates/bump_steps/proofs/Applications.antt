-- Steps of an application: whatever the other seats have, a class's seat with a lane joined to it can go on.
use Rattle.std.proofs.Common.{◌≡◌, ℕ, ◌+◌, ◌-◌, ◌^◌, ◌<◌, ◌≤◌, ◌≢◌, ◌&&◌, ◌==◌, eqb, cond, not, Bool, true, false, List, [], ◌∷◌, ◌++◌, Option, Some, None, refl, sym, ap, ap₂, ◌∙◌, subst, arith, eq-eqb, ne_eqb, bit_xor, bit_and, inl, inr}
use mathlib.Core.Option.{none}
use Rattle.atomic_table.specs.Table.{step, Allows}
use Rattle.bump_rules.specs.declared.places.Segment.TheVariants.{Warm, Cold}
use Rattle.bump_rules.specs.declared.items.ItemId.{ItemId}
use Rattle.bump_rules.specs.declared.places.Place.TheVariants.{Unused}
use Rattle.bump_rules.specs.declared.history.Cause.TheVariants as cause
use Rattle.bump_rules.specs.declared.history.Change.TheVariants as change
use Rattle.bump_rules.specs.declared.configs.Config.{Config}
use Rattle.bump_rules.specs.declared.bumps.Bump.{Bump}
use Rattle.bump_rules.specs.declared.lanes.LaneStage.{LaneStage}
use Rattle.bump_rules.specs.declared.lanes.LaneStage.TheVariants as lane
use Rattle.bump_rules.specs.declared.bumps.AppliedBump.{AppliedBump}
use Rattle.bump_rules.specs.declared.bumps.Outcome.{Outcome}
use Rattle.bump_rules.specs.declared.bumps.Outcome.TheVariants as outcome
use Rattle.bump_rules.specs.Lawful.{bit, Shows, IsUsed, Lawful}
use Rattle.bump_rules.specs.Totals.{total}
use Rattle.bump_rules.specs.History.{Standing, is_standing}
use Rattle.bump_rules.proofs.Laws.{marked, moved, in_segment, used_in_segment}
use Rattle.bump_word.specs.Layout.{active_first}
use Rattle.bump_word.specs.Words.{Spells, segment_change}
use Rattle.bump_word.proofs.Steps.{clear_active, change_segment}
use Rattle.bump_steps.specs.declared.views.Empty.{Empty}
use Rattle.bump_steps.specs.declared.views.Kind.TheVariants as kind
use Rattle.bump_steps.specs.declared.views.OwnStep.{OwnStep}
use Rattle.bump_steps.specs.declared.views.ClassSheet.{ClassSheet}
use Rattle.bump_steps.specs.declared.views.LaneSheet.{LaneSheet}
use Rattle.bump_steps.specs.declared.views.Ride.{Ride}
use Rattle.bump_steps.specs.declared.views.View.{View}
use Rattle.bump_steps.specs.Views.{refers, bump_aboard, Measure, held, named, saw, owners, strays, mislabels, misreads, glanced, misglanced, owns, standing, last_word, weight, shown_by, claimed_in, settled_in, names_move, underway_in, names_outside, Query, in_order, untidy_in, shows_time_only, of_owner, foreign_in, foreign, active_clear, IsBacked}
use Rattle.bump_steps.specs.Rule.{RowPredicate, Sound, chunks, Kept, HasFittingLimit, blank}
use Rattle.bump_steps.specs.Places.{head_place}
use Rattle.bump_steps.specs.Plays.{Sat, Tells, on_chunk, on_time, step_of, Stands}
use Rattle.bump_steps.specs.Applications.{for_bump, for_first, stage_after_try, lane_after_try, view_after_try, try_tells, stage_after_clear_active, view_after_clear_active, clear_active_tells, noted_class, view_after_put_time, put_time_tells, move_tells, application_of, applying, StandsIn, life_in, lane_after_clear_active, MayMove}
use Rattle.bump_steps.specs.Lives.{alone}
use Rattle.bump_rules.specs.declared.places.Segment.{Segment}
use Rattle.bump_rules.specs.declared.history.Cause.{Cause}
use Rattle.bump_rules.specs.History.{place_of, subject}
use Rattle.bump_rules.proofs.ToldMoves.{no_move}
use Rattle.bump_rules.specs.Tables.{is_cold as is_cold_segment, is_warm as is_warm_segment}
use Rattle.bump_steps.proofs.Told.{at_standing, tells, stands_alone}
use Rattle.bump_rules.specs.Lives.{life, one_if, is_same}
use Rattle.bump_rules.specs.Entries.{is_move_for, is_unlink_of, is_told_moved, moving}
use Rattle.bump_rules.specs.Totals.{how_many}
use Rattle.bump_rules.proofs.Updates.{total_push}
use Rattle.bump_rules.proofs.Replay.{standing_push}
use Rattle.bump_rules.proofs.Standings.{standing_same}
use Rattle.bump_steps.proofs.LifeLabels.{have_on_first, noted_labels, named_labels, entered_labels}
use Rattle.bump_steps.proofs.Frame.{Same, Amid, Reaches, same_sound}
use Rattle.bump_steps.proofs.StepLemmas.{at_time, at_chunk, on_first_total, on_first_le, owned_push, same_counts, level, one_life}

-- ---- looking at the head of the bump's item

pub try_refers : (s : LaneStage) → bump_aboard (stage_after_try s) ≡ bump_aboard s
try_refers lane.Empty = refl
try_refers (lane.Carrying b) = refl
try_refers (lane.Tried b) = refl
try_refers (lane.Cleared b f) = refl
try_refers (lane.Moved b) = refl

pub try_going : (q : Query) (s : LaneStage) → moving q.test q.number (stage_after_try s) ≡ moving q.test q.number s
try_going q lane.Empty = refl
try_going q (lane.Carrying b) = refl
try_going q (lane.Tried b) = refl
try_going q (lane.Cleared b f) = refl
try_going q (lane.Moved b) = refl

try_same : (c n : ℕ) (v : View) (b : ℕ) → Same b v (view_after_try c n v)
try_same c n v b (held j) = omega (
  arith,
  on_first_total (λ l. refers b j (bump_aboard l.stage)) (lane_after_try c n)
      (λ l. ap (refers b j) (try_refers l.stage)) v.lanes,
)
try_same c n v b (named j) = refl
try_same c n v b (saw j) = refl
try_same c n v b owners = refl
try_same c n v b (strays s) = refl
try_same c n v b (mislabels i x) = refl
try_same c n v b (misreads i j x) = refl
try_same c n v b (glanced j) = refl
try_same c n v b (misglanced i j x) = refl

cond_is : (b : Bool) (p q : ℕ) → p ≡ q → cond b p 0 ≡ cond b q 0
cond_is b p q e = ap (λ (n : ℕ). cond b n 0) e

try_backed : (c n : ℕ) (v : View) → IsBacked v (view_after_try c n v)
try_backed c n v = record {
  backs = λ wk e. (
    by wk e e.outcome,
    λ more. absurd (let same = on_first_total (claimed_in wk e) (lane_after_try c n) (λ l. refl) v.lanes in
        omega arith),
  );
  even = λ q. let same = on_first_total (settled_in q) (lane_after_try c n)
      (λ l. cond_is (l.worker == q.worker) _ _ (ap (λ (g : ℕ). how_many (is_told_moved q.test q.number) l.applied + g)
      (try_going q l.stage))) v.lanes in omega arith;
  progress = λ q. let same = on_first_total (underway_in q) (lane_after_try c n)
      (λ l. cond_is (l.worker == q.worker) _ _ (try_going q l.stage)) v.lanes in omega arith;
  own = omega arith;
  labels = λ have. have;
  workers = λ w. refl;
  lanes = λ w. let same = on_first_total (λ l. cond (l.worker == w) 1 0) (lane_after_try c n) (λ l. refl) v.lanes in
      omega arith;
  tidy = let same = on_first_total untidy_in (lane_after_try c n)
      (λ l. ap (λ (o : Option Bump). cond (in_order 0 l.applied o) 0 1) (try_refers l.stage)) v.lanes in omega arith;
}
  where
    by : (wk : ℕ) (e : AppliedBump) (o : Outcome) → shown_by o wk e v ≤ shown_by o wk e (view_after_try c n v)
    by wk e outcome.Moved = omega arith
    by wk e outcome.Gone = omega arith
    by wk e outcome.TimeOnly = let more =
        on_first_le (λ l. how_many (shows_time_only wk e.number e.life.chunk) l.steps) (lane_after_try c n)
        (λ l. omega (
          arith,
          total_push (λ x. cond (shows_time_only wk e.number e.life.chunk x) 1 0) l.steps
              (step_of kind.Try c n (for_bump l)),
        )) v.lanes in omega arith

-- ---- clearing ACTIVE

pub clear_active_refers : (f : Bool) (s : LaneStage) → bump_aboard (stage_after_clear_active f s) ≡ bump_aboard s
clear_active_refers f lane.Empty = refl
clear_active_refers f (lane.Carrying b) = refl
clear_active_refers f (lane.Tried b) = refl
clear_active_refers f (lane.Cleared b g) = refl
clear_active_refers f (lane.Moved b) = refl

clear_active_going : (q : Query) (f : Bool) (s : LaneStage) → moving q.test q.number (stage_after_clear_active f s)
    ≡ moving q.test q.number s
clear_active_going q f lane.Empty = refl
clear_active_going q f (lane.Carrying b) = refl
clear_active_going q f (lane.Tried b) = refl
clear_active_going q f (lane.Cleared b g) = refl
clear_active_going q f (lane.Moved b) = refl

module _ (c n : ℕ) (v : View) where
  clear_active_same : (b : ℕ) → Same b v (view_after_clear_active c n v)
  clear_active_same b (held j) =
      omega (
        arith,
        on_first_total (λ l. refers b j (bump_aboard l.stage))
            (lane_after_clear_active (not (active_clear n)))
            (λ l. ap (refers b j) (clear_active_refers (not (active_clear n)) l.stage)) v.lanes,
      )
  clear_active_same b (named j) = refl
  clear_active_same b (saw j) = refl
  clear_active_same b owners = on_first_total (λ k. cond (owns b k) 1 0) (noted_class kind.ClearActive c n v.lanes)
      (λ k. refl) v.classes
  clear_active_same b (strays s) = on_first_total (λ k. cond (owns b k && not (is_standing (standing k b) s)) 1 0)
      (noted_class kind.ClearActive c n v.lanes) (λ k. refl) v.classes
  clear_active_same b (mislabels i x) = on_first_total (λ k. cond (owns b k && not (eqb (last_word i k b) x)) 1 0)
      (noted_class kind.ClearActive c n v.lanes) (λ k. refl) v.classes
  clear_active_same b (misreads i j x) = refl
  clear_active_same b (glanced j) = refl
  clear_active_same b (misglanced i j x) = refl

  clear_active_backed : IsBacked v (view_after_clear_active c n v)
  clear_active_backed = record {
    backs = λ wk e. (
      by wk e e.outcome,
      λ more. absurd (let same = on_first_total (claimed_in wk e) (lane_after_clear_active (not (active_clear n)))
          (λ l. refl) v.lanes in omega arith),
    );
    even = λ q. let same = on_first_total (settled_in q) (lane_after_clear_active (not (active_clear n)))
        (λ l. cond_is (l.worker == q.worker)
        _ _ (ap (λ (g : ℕ). how_many (is_told_moved q.test q.number) l.applied + g)
        (clear_active_going q (not (active_clear n)) l.stage))) v.lanes in
        let same_moves = on_first_total (λ k. how_many (is_move_for q.test q.worker q.number) k.history)
        (noted_class kind.ClearActive c n v.lanes) (λ k. refl) v.classes in omega arith;
    progress = λ q. let same = on_first_total (underway_in q) (lane_after_clear_active (not (active_clear n)))
        (λ l. cond_is (l.worker == q.worker) _ _ (clear_active_going q (not (active_clear n)) l.stage)) v.lanes in
        let same_named = on_first_total (λ k. names_move q k.applying) (noted_class kind.ClearActive c n v.lanes)
        (λ k. refl) v.classes in omega arith;
    own = let same = on_first_total foreign_in (noted_class kind.ClearActive c n v.lanes) (λ k. refl) v.classes in
        omega arith;
    labels = have_on_first (noted_class kind.ClearActive c n v.lanes)
        (λ k p. noted_labels k (noted_class kind.ClearActive c n v.lanes k).steps p) v.classes;
    workers = λ w. refl;
    lanes = λ w. let same = on_first_total (λ l. cond (l.worker == w) 1 0)
        (lane_after_clear_active (not (active_clear n))) (λ l. refl) v.lanes in omega arith;
    tidy = let same = on_first_total untidy_in (lane_after_clear_active (not (active_clear n)))
        (λ l. ap (λ (o : Option Bump). cond (in_order 0 l.applied o) 0 1)
        (clear_active_refers (not (active_clear n)) l.stage)) v.lanes in omega arith;
  }
    where
      by : (wk : ℕ) (e : AppliedBump) (o : Outcome) → shown_by o wk e v ≤ shown_by o wk e
          (view_after_clear_active c n v)
      by wk e outcome.Moved = omega (
        arith,
        on_first_total (of_owner e.life.chunk
            (λ k. how_many (is_move_for (is_same e.life) wk e.number) k.history))
            (noted_class kind.ClearActive c n v.lanes) (λ k. refl) v.classes,
      )
      by wk e outcome.Gone = omega (
        arith,
        on_first_total (of_owner e.life.chunk (λ k. how_many (is_unlink_of e.life) k.history))
            (noted_class kind.ClearActive c n v.lanes) (λ k. refl) v.classes,
      )
      by wk e outcome.TimeOnly = let more =
          on_first_le (of_owner e.life.chunk (λ k. how_many (shows_time_only wk e.number e.life.chunk) k.steps))
          (noted_class kind.ClearActive c n v.lanes)
          (λ k. owned_push (owns e.life.chunk k) (λ x. cond (shows_time_only wk e.number e.life.chunk x) 1 0) k.steps
          (step_of kind.ClearActive c n (for_first v.lanes))) v.classes in
          let same = on_first_total (λ l. how_many (shows_time_only wk e.number e.life.chunk) l.steps)
          (lane_after_clear_active (not (active_clear n))) (λ l. refl) v.lanes in omega arith

-- ---- storing the time

module _ (c n : ℕ) (v : View) where
  put_time_same : (b : ℕ) → Same b v (view_after_put_time c n v)
  put_time_same b (held j) = refl
  put_time_same b (named j) = refl
  put_time_same b (saw j) = refl
  put_time_same b owners = on_first_total (λ k. cond (owns b k) 1 0) (noted_class kind.PutTime c n v.lanes)
      (λ k. refl) v.classes
  put_time_same b (strays s) = on_first_total (λ k. cond (owns b k && not (is_standing (standing k b) s)) 1 0)
      (noted_class kind.PutTime c n v.lanes) (λ k. refl) v.classes
  put_time_same b (mislabels i x) = on_first_total (λ k. cond (owns b k && not (eqb (last_word i k b) x)) 1 0)
      (noted_class kind.PutTime c n v.lanes) (λ k. refl) v.classes
  put_time_same b (misreads i j x) = refl
  put_time_same b (glanced j) = refl
  put_time_same b (misglanced i j x) = refl

  put_time_backed : IsBacked v (view_after_put_time c n v)
  put_time_backed = record {
    backs = λ wk e. (by wk e e.outcome, λ more. absurd (omega arith));
    even = λ q. let same_moves = on_first_total (λ k. how_many (is_move_for q.test q.worker q.number) k.history)
        (noted_class kind.PutTime c n v.lanes) (λ k. refl) v.classes in omega arith;
    progress = λ q. let same_named = on_first_total (λ k. names_move q k.applying)
        (noted_class kind.PutTime c n v.lanes) (λ k. refl) v.classes in omega arith;
    own = let same = on_first_total foreign_in (noted_class kind.PutTime c n v.lanes) (λ k. refl) v.classes in
        omega arith;
    labels = have_on_first (noted_class kind.PutTime c n v.lanes)
        (λ k p. noted_labels k (noted_class kind.PutTime c n v.lanes k).steps p) v.classes;
    workers = λ w. refl;
    lanes = λ w. refl;
    tidy = omega arith;
  }
    where
      by : (wk : ℕ) (e : AppliedBump) (o : Outcome) → shown_by o wk e v ≤ shown_by o wk e (view_after_put_time c n v)
      by wk e outcome.Moved = omega (
        arith,
        on_first_total (of_owner e.life.chunk
            (λ k. how_many (is_move_for (is_same e.life) wk e.number) k.history)) (noted_class kind.PutTime c n v.lanes)
            (λ k. refl) v.classes,
      )
      by wk e outcome.Gone = omega (
        arith,
        on_first_total (of_owner e.life.chunk (λ k. how_many (is_unlink_of e.life) k.history))
            (noted_class kind.PutTime c n v.lanes) (λ k. refl) v.classes,
      )
      by wk e outcome.TimeOnly = let more =
          on_first_le (of_owner e.life.chunk (λ k. how_many (shows_time_only wk e.number e.life.chunk) k.steps))
          (noted_class kind.PutTime c n v.lanes)
          (λ k. owned_push (owns e.life.chunk k) (λ x. cond (shows_time_only wk e.number e.life.chunk x) 1 0) k.steps
          (step_of kind.PutTime c n (for_first v.lanes))) v.classes in omega arith

module _ {law : RowPredicate} (key : Config) (slots id : ℕ) (m : Sat) (c : ℕ) (near : c < chunks key) where
  pub may_try : Allows (Kept law key) slots id m (head_place slots c) (λ n. n)
      (on_chunk try_tells (step slots (head_place slots c) 0 0 none) m)
  may_try = at_chunk try_tells key slots id m c 0 (λ n. n) near (λ n x t limits o a. (
    view_after_try c n m.0,
    (λ u moved. same_sound key.refs_limit n x t u
        (same_counts c m.0 (view_after_try c n m.0) t u (try_same c n m.0 c) moved) o),
    (λ b ne. try_same c n m.0 b),
    try_backed c n m.0,
    (refl, (o.head, o.spells, tells c key.refs_limit n x m.0 t o a)),
  ))

  pub may_clear_active : Allows (Kept law key) slots id m (head_place slots c) (λ n. bit_and n (2 ^ 64 - 1 - 2 ^ active_first))
      (on_chunk clear_active_tells (step slots (head_place slots c) (2 ^ 64 - 1 - 2 ^ active_first) 0 none) m)
  may_clear_active = at_chunk clear_active_tells key slots id m c (2 ^ 64 - 1 - 2 ^ active_first)
      (λ n. bit_and n (2 ^ 64 - 1 - 2 ^ active_first)) near (λ n x t limits o a. (
        view_after_clear_active c n m.0,
        (λ u moves. same_sound key.refs_limit (bit_and n (2 ^ 64 - 1 - 2 ^ active_first)) x t u
            (same_counts c m.0 (view_after_clear_active c n m.0) t u (clear_active_same c n m.0 c) moves) (record {
              head = record o.head { active = false };
              at = o.at;
              spells = clear_active n o.head o.spells tt;
              lawful = marked key.refs_limit o.head o.at (λ g. t (held g)) (λ g. t (named g)) o.lawful false
                  (omega arith);
              owned = o.owned;
              agreed = o.agreed;
              labelled = o.labelled;
              read = o.read;
              ahead = o.ahead;
              faithful = o.faithful;
              obeys = o.obeys;
              hit = o.hit;
            })),
        (λ b ne. clear_active_same c n m.0 b),
        clear_active_backed c n m.0,
        (refl, refl, (o.head, o.spells, tells c key.refs_limit n x m.0 t o a)),
      ))

  pub may_put_time : (now : ℕ) → Allows (Kept law key) slots id m (head_place slots c + 1) (λ _. now)
      (λ _. on_time put_time_tells (step slots (head_place slots c + 1) now 0 none) m now)
  may_put_time now = at_time put_time_tells key slots id m c now (λ _. now) (λ _. now) near
      (λ y n x t limits o a. (
        view_after_put_time c now m.0,
        (λ u moves. same_sound key.refs_limit n x t u
            (same_counts c m.0 (view_after_put_time c now m.0) t u (put_time_same c now m.0 c) moves) o),
        (λ b ne. put_time_same c now m.0 b),
        put_time_backed c now m.0,
        refl,
      ))

-- ---- moves: a class's sheet gets an entry, and the lanes that are joined keep their references

pub no_bits : (b : Bool) → ◌≡◌ {A = ℕ} (cond b 0 0) 0
no_bits true = refl
no_bits false = refl

-- a class that names the application of a lane names it as often as the lane is underway with it
pub names_as_underway : (q : Query) (w : ℕ) (s : LaneStage) → names_move q (application_of w s) ≡ cond (w == q.worker)
    (moving q.test q.number s) 0
names_as_underway q w lane.Empty = sym (no_bits (w == q.worker))
names_as_underway q w (lane.Carrying b) = sym (no_bits (w == q.worker))
names_as_underway q w (lane.Tried b) = sym (no_bits (w == q.worker))
names_as_underway q w (lane.Cleared b f) = sym (no_bits (w == q.worker))
names_as_underway q w (lane.Moved b) = refl

-- one more move, and one more that is about to settle
even_bits : (s w n : Bool) (t : ℕ) → cond (s && (w && n)) 1 0 + cond w (t + 0) 0 ≡ cond w (t + cond (n && s) 1 0) 0
even_bits true true true t = omega arith
even_bits true true false t = omega arith
even_bits true false n t = omega arith
even_bits false true true t = omega arith
even_bits false true false t = omega arith
even_bits false false n t = omega arith

module _ (c : ℕ) (k : ClassSheet) (own : owns c k ≡ true) (l : ItemId) (of : l.chunk ≡ c) (from to : Segment)
    (why : Cause) (named_as : Option Ride) (made : OwnStep) where
  -- the class's sheet with one more move, and with this application named
  abbrev pub class_moved : ClassSheet
  class_moved = record k {
    history = k.history ++ change.Moved l from to why ∷ [];
    applying = named_as;
    steps = k.steps ++ made ∷ [];
  }

  abbrev pub to_be : Standing
  to_be = (place_of to, l.generation)

  -- it leaves other chunks where they are
  move_stands : (d : ℕ) → d ≢ c → standing class_moved d ≡ standing k d
  move_stands d ne = standing_push d (Unused, k.fresh) k.history (change.Moved l from to why)
      ∙ ap (λ (o : Bool). cond o (place_of to, l.generation) (standing k d)) (ne_eqb l.chunk d (λ q. ne (sym q ∙ of)))

  -- and its own chunk in the segment to which it went
  move_stands_here : standing class_moved c ≡ (place_of to, l.generation)
  move_stands_here = standing_push c (Unused, k.fresh) k.history (change.Moved l from to why)
      ∙ ap (λ (o : Bool). cond o (place_of to, l.generation) (standing k c)) (eq-eqb l.chunk c of)

  module _ (ls ms : List LaneSheet) (keep : (d j : ℕ) → total (λ x. refers d j (bump_aboard x.stage)) ms ≡ total
      (λ x. refers d j (bump_aboard x.stage)) ls) where
    abbrev pub stood : View
    stood = record blank { classes = k ∷ []; lanes = ls }

    abbrev pub went : View
    went = record blank { classes = class_moved ∷ []; lanes = ms }

    move_apart : (d : ℕ) → d ≢ c → Same d stood went
    move_apart d ne (held j) = omega (arith, keep d j)
    move_apart d ne (named j) = refl
    move_apart d ne (saw j) = refl
    move_apart d ne owners = refl
    move_apart d ne (strays s) = ap (λ (at : Standing). bit (owns d k && not (is_standing at s)) + 0)
        (move_stands d ne)
    move_apart d ne (mislabels i z) = refl
    move_apart d ne (misreads i j z) = refl
    move_apart d ne (glanced j) = refl
    move_apart d ne (misglanced i j z) = refl

    no_stray : weight c (strays to_be) went ≡ 0
    no_stray = ap₂ (λ (o same : Bool). bit (o && not same) + 0) own (standing_same _ _ move_stands_here)

    move_sound : {law : RowPredicate} (limit p : ℕ) (label : ℕ → ℕ) (t u : Measure → ℕ) → Amid c stood t
        → ((y : Measure) → u y + weight c y stood ≡ t y + weight c y went) → (o : Sound law limit p label t) → (n : ℕ)
        → Spells n (record o.head { segment = to }) → o.head.generation ≡ l.generation → o.head.linked ≡ true
        → Sound law limit n label u
    move_sound limit p label t u a adds o n spells gen on = record {
      head = record o.head { segment = to };
      at = place_of to;
      spells = spells;
      lawful = subst (λ (y : (ℕ → ℕ) × (ℕ → ℕ)). Lawful limit (record o.head { segment = to }) (place_of to) y.0 y.1)
          (λ i. (
            (λ g. level_kept (t (held g)) (u (held g)) (weight c (held g) stood) (weight c (held g) went)
                (keep_held g) (adds (held g)) i),
            (λ g. level (t (named g)) (u (named g)) 0 (adds (named g)) i),
          ))
          (moved limit o.head o.at (λ g. t (held g)) (λ g. t (named g)) o.lawful to on);
      owned = omega (arith, adds owners, o.owned);
      agreed = subst (λ (g : ℕ). u (strays (place_of to, g)) ≡ 0) (sym gen)
          (omega (arith, adds (strays to_be), no_stray, a.others to_be, a.mine owners, o.owned, ap bit own));
      labelled = λ i. omega (arith, adds (mislabels i (label i)), o.labelled i);
      read = λ i. omega (arith, adds (misreads i o.head.generation (label i)), o.read i);
      ahead = λ g far. omega (arith, adds (glanced g), o.ahead g far);
      faithful = λ lit i. omega (arith, adds (misglanced i o.head.generation (label i)), o.faithful lit i);
      obeys = o.obeys;
      hit = λ j some. omega (arith, adds (named j), o.hit j (omega (arith, some, adds (saw j))));
    }
      where
        keep_held : (g : ℕ) → weight c (held g) went ≡ weight c (held g) stood
        keep_held g = omega (arith, keep c g)

        level_kept : (p q w x : ℕ) → x ≡ w → q + w ≡ p + x → p ≡ q
        level_kept p q w x e m = omega (arith, e, m)

    -- the entry is of the class's own chunk, and so is the application that is named
    move_own : names_outside k.first (k.first + k.count) named_as ≤ names_outside k.first (k.first + k.count) k.applying
        → foreign went ≤ foreign stood
    move_own inside = omega (
      arith,
      inside,
      total_push (λ z. bit (not (owns (subject z).chunk k))) k.history
          (change.Moved l from to why),
      ap (λ (d : ℕ). bit (not (owns d k))) of,
      ap (λ (b : Bool). bit (not b)) own,
    )

    -- what the class shows of entries stays
    move_shows : (wk : ℕ) (e : AppliedBump) (o : Outcome)
        → total (λ x. how_many (shows_time_only wk e.number e.life.chunk) x.steps) ms ≡ total
        (λ x. how_many (shows_time_only wk e.number e.life.chunk) x.steps) ls → shown_by o wk e stood ≤ shown_by o wk
        e went
    move_shows wk e outcome.Moved same =
        omega (
          arith,
          owned_push (owns e.life.chunk k) (λ z. cond (is_move_for (is_same e.life) wk e.number z) 1 0)
              k.history (change.Moved l from to why),
        )
    move_shows wk e outcome.Gone same =
        omega (
          arith,
          owned_push (owns e.life.chunk k) (λ z. cond (is_unlink_of e.life z) 1 0) k.history
              (change.Moved l from to why),
        )
    move_shows wk e outcome.TimeOnly same =
        omega (
          arith,
          same,
          owned_push (owns e.life.chunk k)
              (λ z. cond (shows_time_only wk e.number e.life.chunk z) 1 0) k.steps made,
        )

    module _ {law : RowPredicate} (key : Config) (slots id : ℕ) (near : c < chunks key) (sl : List (ℕ × Empty)) where
      -- the seat of the class can go on so, where the move is of the life that the chunk has, and evens out
      move_goes : (tells : Tells) (x : ℕ) (at : Standing) → standing k c ≡ at → at.0 ≡ place_of from
          → ((n : ℕ) (y : ℕ → ℕ) (t : Measure → ℕ) (o : Sound law key.refs_limit n y t) → Amid c stood t → o.head.generation ≡ at.1
          → l.generation ≡ at.1) → IsBacked stood went
          → (n : ℕ) (y : ℕ → ℕ) (t : Measure → ℕ) → HasFittingLimit key → (o : Sound law key.refs_limit n y t) → Amid c stood t
          → tells c x (stood, sl) n (went, sl)
          → Reaches law key c (stood, sl) (tells c x (stood, sl) n) (bit_xor n (segment_change from to)) y t
      move_goes say x at st place same_life back n y t limits o a told =
          let stands : Stands c stood at = subst (Stands c stood) st (stands_alone c stood k refl own) in
          let here = at_standing c key.refs_limit n y stood t o a at stands in
          let shows = in_segment o.head from
          (subst (Shows o.head) (ap (λ (s : Standing). s.0) here ∙ place) o.lawful.shown) in
          let gen : o.head.generation ≡ at.1 = ap (λ (s : Standing). s.1) here in (
            went,
            (λ u adds. move_sound key.refs_limit n y t u a adds o (bit_xor n (segment_change from to))
                (change_segment from to n o.head o.spells shows.1) (gen ∙ sym (same_life n y t o a gen)) shows.0),
            (λ d ne. move_apart d ne),
            back,
            told,
          )

-- ---- what is asked of a move

module _ {law : RowPredicate} (key : Config) (slots id c : ℕ) (near : c < chunks key) (k : ClassSheet) (from to : Segment)
    (st : StandsIn from c k) (sl : List (ℕ × Empty)) where
  -- a pull's
  pub moves_by_pull : (x : ℕ) → Allows (Kept law key) slots id (alone k, sl) (head_place slots c)
      (λ n. bit_xor n (segment_change from to)) (on_chunk (move_tells from to) (step slots (head_place slots c) x 0 none)
      (alone k, sl))
  moves_by_pull x = at_chunk (move_tells from to) key slots id (alone k, sl) c x
      (λ n. bit_xor n (segment_change from to)) near (λ n y t limits o a.
      let l : ItemId = life_in k c in let made : OwnStep = step_of kind.Move c n None in
      move_goes c k st.0 l refl from to cause.Pull k.applying made [] [] (λ d j. refl) key slots id near sl
      (move_tells from to)
      x (standing k c) refl st.1 (λ n y t o a gen. refl)
      (record {
        backs = λ wk e. (
          move_shows c k st.0 l refl from to cause.Pull k.applying made [] [] (λ d j. refl) wk e e.outcome refl,
          λ more. absurd (omega arith),
        );
        even = λ q. omega (
          arith,
          total_push (λ z. cond (is_move_for q.test q.worker q.number z) 1 0) k.history
              (change.Moved l from to cause.Pull),
          ap bit (no_move q.test q.worker q.number (change.Moved l from to cause.Pull) refl),
        );
        progress = λ q. omega arith;
        own = move_own c k st.0 l refl from to cause.Pull k.applying made [] [] (λ d j. refl) (omega arith);
        labels = λ have. (
          named_labels _ k.applying
              (entered_labels k (change.Moved l from to cause.Pull) (k.steps ++ made ∷ []) have.0 refl
              (λ used. subst IsUsed (sym st.1) (used_in_segment from))),
          tt,
        );
        workers = λ w. refl;
        lanes = λ w. refl;
        tidy = omega arith;
      })
      n y t limits o a (refl, (o.head, o.spells, tells c key.refs_limit n y (alone k) t o a)))

  -- that of the bump aboard
  pub moves_for_bump : (l : LaneSheet) (b : Bump) → k.applying ≡ None → b.life.chunk ≡ c → from ≡ Cold → to ≡ Warm
      → (x : ℕ)
      → Allows (Kept law key) slots id (applying k (record l { stage = lane.Cleared b true }), sl) (head_place slots c)
      (λ n. bit_xor n (segment_change from to)) (on_chunk (move_tells from to) (step slots (head_place slots c) x 0 none)
      (applying k (record l { stage = lane.Cleared b true }), sl))
  moves_for_bump l b none_named of is_cold is_warm x = at_chunk (move_tells from to) key slots id
      (applying k (record l { stage = lane.Cleared b true }), sl) c x (λ n. bit_xor n (segment_change from to)) near
      (λ n y t limits o a.
      let why : Cause = cause.Bump l.worker b.number in let made : OwnStep = step_of kind.Move c n
      (Some (l.worker, b.number)) in
      let now_named : Option Ride = application_of l.worker (lane.Moved b) in
      let ls : List LaneSheet = record l { stage = lane.Cleared b true } ∷ [] in let ms : List LaneSheet =
      record l { stage = lane.Moved b } ∷ [] in
      let v : View = applying k (record l { stage = lane.Cleared b true }) in
      let here = at_standing c key.refs_limit n y v t o a (standing k c) (stands_alone c v k refl st.0) in
      let live : b.life.generation ≡ (standing k b.life.chunk).1 =
      (o.lawful.used b.life.generation
      (omega (
        arith,
        a.mine (held b.life.generation),
        one_life b.life,
        ap (λ (d : ℕ). one_if (life d b.life.generation) b.life) of,
      ))).0 ∙ ap (λ (s : Standing). s.1) here
      ∙ ap (λ (d : ℕ). (standing k d).1) (sym of) in
      move_goes c k st.0 b.life of from to why now_named made ls ms (λ d j. refl) key slots id near sl (move_tells from to) x
      (standing k c) refl st.1
      (λ n y t o a gen. (o.lawful.used b.life.generation
      (omega (
        arith,
        a.mine (held b.life.generation),
        one_life b.life,
        ap (λ (d : ℕ). one_if (life d b.life.generation) b.life) of,
      ))).0 ∙ gen)
      (record {
        backs = λ wk e. (
          move_shows c k st.0 b.life of from to why now_named made ls ms (λ d j. refl) wk e e.outcome refl,
          λ more. absurd (omega arith),
        );
        even = λ q. omega (
          arith,
          total_push (λ z. cond (is_move_for q.test q.worker q.number z) 1 0) k.history
              (change.Moved b.life from to why),
          ap₂ (λ (f g : Segment). bit
              (q.test b.life && (is_cold_segment f
              && (is_warm_segment g && ((l.worker == q.worker) && (b.number == q.number)))))) is_cold is_warm,
          even_bits (q.test b.life) (l.worker == q.worker) (b.number == q.number)
              (how_many (is_told_moved q.test q.number) l.applied),
        );
        progress = λ q. omega (arith, ap (names_move q) none_named, no_bits (l.worker == q.worker));
        own = move_own c k st.0 b.life of from to why now_named made ls ms (λ d j. refl)
            (omega (arith, ap {B = ℕ} (λ (d : ℕ). cond (owns d k) 0 1) of, ap {B = ℕ} (λ (o : Bool). cond o 0 1) st.0));
        labels = λ have. (
          named_labels _ now_named
              (entered_labels k (change.Moved b.life from to why) (k.steps ++ made ∷ []) have.0 live
              (λ used. subst IsUsed (sym (ap (λ (d : ℕ). (standing k d).0) of ∙ st.1)) (used_in_segment from))),
          tt,
        );
        workers = λ w. refl;
        lanes = λ w. refl;
        tidy = omega arith;
      })
      n y t limits o a (
        refl,
        (
          o.head,
          o.spells,
          tells c key.refs_limit n y
              (applying k (record l { stage = lane.Cleared b true })) t o a,
        ),
      ))

-- for the contract
pub may_move : {law : RowPredicate} (key : Config) (slots id c x : ℕ) (from to : Segment) (m : Sat) → c < chunks key
    → MayMove from to c m.0 → Allows (Kept law key) slots id m (head_place slots c) (λ n. bit_xor n (segment_change from to))
    (on_chunk (move_tells from to) (step slots (head_place slots c) x 0 none) m)
may_move {law = law} key slots id c x from to m near (inl (k, p)) =
    subst (λ (v : View). Allows (Kept law key) slots id (v, m.1) (head_place slots c) (λ n. bit_xor n (segment_change from to))
    (on_chunk (move_tells from to) (step slots (head_place slots c) x 0 none) (v, m.1))) (sym p.view)
    (moves_by_pull key slots id c near k from to p.stands m.1 x)
may_move {law = law} key slots id c x from to m near (inr (k, l, b, g)) = let is : m.0 ≡ applying k
    (record l { stage = lane.Cleared b true }) = g.view ∙ ap (λ (s : LaneStage). applying k (record l { stage = s }))
    g.stage in
    subst (λ (v : View). Allows (Kept law key) slots id (v, m.1) (head_place slots c) (λ n. bit_xor n (segment_change from to))
    (on_chunk (move_tells from to) (step slots (head_place slots c) x 0 none) (v, m.1))) (sym is)
    (moves_for_bump key slots id c near k from to g.stands m.1 l b g.named g.chunk g.from_cold g.to_warm x)
