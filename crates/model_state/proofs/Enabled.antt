-- What the tests of the events say, and what holds of a state that a test or a value decides.
use Rattle.std.proofs.Common.{rules, eq-eqb, ◌≡◌, ℕ, ◌<◌, ◌≤◌, ◌⊎◌, inl, inr, Bool, true, false, ◌&&◌, not, nat_lt, ◌==◌, length, Option, None, Some, if◌then◌else◌, refl, sym, ap, subst, ◌∙◌, arith}
use Rattle.std.proofs.lemmas.Bool.{and_parts, cases_lt, ltb-true, not-true, eqb-true, false≢true}
use Rattle.std.proofs.lemmas.List.Folds.{list_any_at}
use Rattle.std.proofs.lemmas.List.{get_or_past}
use Rattle.std.specs.Option.{option_map_or}
use Rattle.std.specs.Prelude.{is_some, option_map}
pub use Rattle.bump_rules.proofs.Laws.{cold_from}
use Rattle.bump_rules.specs.declared.items.Head.{Head}
use Rattle.bump_rules.specs.declared.bumps.AppliedBump.{AppliedBump}
use Rattle.bump_rules.specs.declared.bumps.Outcome.{Outcome}
use Rattle.bump_rules.specs.declared.items.ItemId.{ItemId}
use Rattle.bump_rules.specs.declared.bumps.Bump.{Bump}
use Rattle.bump_rules.specs.declared.lanes.LaneStage.{LaneStage}
use Rattle.bump_rules.specs.declared.lanes.LaneStage.TheVariants as lane
use Rattle.bump_rules.specs.declared.events.Event.TheVariants as event
use Rattle.bump_rules.specs.declared.hands.Hand.{Hand}
use Rattle.bump_rules.specs.declared.hands.Hand.TheVariants as hand
use Rattle.bump_rules.specs.declared.places.Segment.{Segment}
use Rattle.bump_rules.specs.Rings.{bump_applied}
use Rattle.bump_rules.specs.Tables.{is_unheld, may_move}
use Rattle.model_state.specs.Events.{is_enabled, is_class_at_rest, is_dying, next_chunk, may_hit}
use Rattle.bump_rules.specs.Lanes.{applied_bump, ending_at, carried, tried, applied_now, cleared_active, is_empty, applied_life}
use Rattle.model_state.specs.State.{is_class, State, ClassState, WorkerState, no_chunk, no_class, chunk_at, head_at, class_at, worker_at, is_chunk, is_current, is_linked, has_free_hold, is_open, is_worker, workers_on, some_and, applies_in, class_of, is_under_application, new_worker}
use Rattle.bump_rules.specs.Hands.{tried_life, life_in_hand, cleared_life, is_idle}
use Rattle.model_state.specs.Worlds.{IsLawful}
use Rattle.model_state.specs.declared.chunks.Chunk.{Chunk}
use Rattle.model_state.proofs.Tiles.{class_past}
use Rattle.bump_links.specs.Lists.{times}

-- a test of a value that there may be says that there is one, which passes
pub some_and_parts : {A : Type 0} (test : A → Bool) (o : Option A) → some_and test o ≡ true → (x : A) × (o ≡ Some x)
    × (test x ≡ true)
some_and_parts test o h = search rules

-- a value that there is
pub some_from : {A : Type 0} (o : Option A) → is_some o ≡ true → (x : A) × (o ≡ Some x)
some_from o h = search rules

-- A worker of which something is told is there: past the end each is as at the start.
pub worker_there : {A : Type 0} (s : State) (w : ℕ) (told : WorkerState → Option A) (x : A) → told new_worker ≡ None
    → told (worker_at s w) ≡ Some x → w < length s.workers
worker_there s w told x none some = by (cases_lt w (length s.workers))
  where
    by : (w < length s.workers) ⊎ (length s.workers ≤ w) → w < length s.workers
    by (inl within) = within
    by (inr past) = let e : None ≡ Some x = sym none ∙ (ap told (sym (get_or_past s.workers w new_worker past))
        ∙ some) in absurd (let u : ⊥ = cc in u)

-- where a change is made by a value that there is, it is made
pub lawful_by_some : {A : Type 0} (change : A → State) (s : State) (o : Option A) (x : A) → o ≡ Some x
    → IsLawful (change x) → IsLawful (option_map_or change o s)
lawful_by_some change s o x is lawful = subst (λ p. IsLawful (option_map_or change p s)) (sym is) lawful

-- what holds of the state of either way holds of the one that the test takes
pub by_test : (P : State → Type 0) (b : Bool) (t u : State) → (b ≡ true → P t) → (b ≡ false → P u)
    → P (if b then t else u)
by_test P true t u first second = first refl
by_test P false t u first second = second refl

-- what holds of the state of each value that there may be, and of the state for none, holds
-- of the one that the value takes
pub by_value : (P : State → Type 0) → {A : Type 0} (f : A → State) (o : Option A) (s : State) → ((a : A) → o ≡ Some a
    → P (f a)) → P s → P (option_map_or f o s)
by_value P f None s some none = none
by_value P f (Some a) s some none = some a refl

-- the hand that tries to take a reference to this life
pub trying_from : (x : Hand) (l : ItemId) → tried_life x ≡ Some l → x ≡ hand.Trying l
trying_from x l is = search rules

-- the hand that has a reference to this life
pub in_hand_from : (x : Hand) (l : ItemId) → life_in_hand x ≡ Some l → x ≡ hand.InHand l
in_hand_from x l is = search rules

-- the hand that is to clear ACTIVE of this life
pub clearing_from : (x : Hand) (l : ItemId) → cleared_life x ≡ Some l → x ≡ hand.Clearing l
clearing_from x l is = search rules

-- the hand of an Idle worker
pub idle_from : (x : Hand) → is_idle x ≡ true → x ≡ hand.Idle
idle_from x is = search rules

-- the lane with no bump
pub empty_from : (x : LaneStage) → is_empty x ≡ true → x ≡ lane.Empty
empty_from x is = search rules

-- the lane that took this bump from its ring
pub carrying_from : (x : LaneStage) (b : Bump) → carried x ≡ Some b → x ≡ lane.Carrying b
carrying_from x b is = search rules

-- the lane that looked at the item of this bump
pub tried_from : (x : LaneStage) (b : Bump) → tried x ≡ Some b → x ≡ lane.Tried b
tried_from x b is = search rules

-- the lane that found ACTIVE set of the item of this bump
pub cleared_from : (x : LaneStage) (b : Bump) → cleared_active x ≡ Some b → x ≡ lane.Cleared b true
cleared_from x b is = search rules

-- the bump that a lane applies is of the life on which it works
pub applied_from : (x : LaneStage) (b : Bump) → applied_now x ≡ Some b → applied_life x ≡ Some b.life
applied_from x b is = ap (option_map (λ (z : Bump). z.life)) is

-- there is a worker of this number
pub worker_from : (s : State) (w : ℕ) → is_worker s w ≡ true → w < length s.workers
worker_from s w is = ltb-true w (length s.workers) is

-- past the last chunk none is linked
pub unlinked_past : (s : State) (c : ℕ) → length s.chunks ≤ c → (head_at s c).linked ≡ false
unlinked_past s c past = ap (λ (x : Chunk). x.head.linked) (get_or_past s.chunks c no_chunk past)

-- and none is DYING
pub not_dying_past : (s : State) → IsLawful s → (c : ℕ) → length s.chunks ≤ c → is_dying s c ≡ false
not_dying_past s o c past = ap (λ (k : ClassState). nat_lt 0 (times c k.lists.dying)) none
  where
    none : class_at s (class_of s c) ≡ no_class
    none = ap (class_at s) (class_past 0 s.classes (length s.chunks) c o.tiles past)
        ∙ get_or_past s.classes (length s.classes) no_class (omega arith)

-- there is a chunk of this number
pub chunk_from : (s : State) (c : ℕ) → is_chunk s c ≡ true → c < length s.chunks
chunk_from s c is = ltb-true c (length s.chunks) is

-- a chunk whose head is linked is there: the head past the last one isn't
pub linked_there : (s : State) (c : ℕ) → (head_at s c).linked ≡ true → c < length s.chunks
linked_there s c linked = by (cases_lt c (length s.chunks))
  where
    by : (c < length s.chunks) ⊎ (length s.chunks ≤ c) → c < length s.chunks
    by (inl within) = within
    by (inr past) = absurd (false≢true (sym (unlinked_past s c past) ∙ linked))

-- a chunk that stands in its class's DYING is there: past the last one a chunk is of no class
pub dying_there : (s : State) → IsLawful s → (c : ℕ) → is_dying s c ≡ true → c < length s.chunks
dying_there s o c dying = by (cases_lt c (length s.chunks))
  where
    by : (c < length s.chunks) ⊎ (length s.chunks ≤ c) → c < length s.chunks
    by (inl within) = within
    by (inr past) = absurd (false≢true (sym (not_dying_past s o c past) ∙ dying))

-- a current life is of a chunk in range, and has its generation
pub current_from : (s : State) (l : ItemId) → is_current s l ≡ true → (l.chunk < length s.chunks)
    × ((head_at s l.chunk).generation ≡ l.generation)
current_from s l is = let h = and_parts (is_chunk s l.chunk) ((head_at s l.chunk).generation == l.generation) is in
    (chunk_from s l.chunk h.0, eqb-true (head_at s l.chunk).generation l.generation h.1)

-- a life with a free hold is current, and has more holds than workers that aren't Idle on it
pub free_hold_from : (s : State) (l : ItemId) → has_free_hold s l ≡ true → (l.chunk < length s.chunks)
    × ((head_at s l.chunk).generation ≡ l.generation) × (workers_on s l < (chunk_at s l.chunk).holds)
free_hold_from s l is = let h = and_parts (is_current s l) (nat_lt (workers_on s l) (chunk_at s l.chunk).holds) is in
    let i = current_from s l h.0 in (i.0, i.1, ltb-true (workers_on s l) (chunk_at s l.chunk).holds h.1)

-- a worker that may make a step of a hit: its number and the chunk's are in range, it is Idle, and the
-- life is current with a free hold
pub may_hit_from : (s : State) (w : ℕ) (l : ItemId) → may_hit s w l ≡ true
    → (w < length s.workers) × ((worker_at s w).hand ≡ hand.Idle) × (l.chunk < length s.chunks)
    × ((head_at s l.chunk).generation ≡ l.generation) × (workers_on s l < (chunk_at s l.chunk).holds)
may_hit_from s w l is = let first = and_parts (is_open s w) (is_idle (worker_at s w).hand && has_free_hold s l) is in
    let second = and_parts (is_idle (worker_at s w).hand) (has_free_hold s l) first.1 in
    let free = free_hold_from s l second.1 in (
      worker_from s w (and_parts (is_worker s w) (worker_at s w).is_open first.0).0,
      idle_from (worker_at s w).hand second.0,
      free.0,
      free.1,
      free.2,
    )

-- no lane applies a bump of a class that isn't under application
pub none_applies : (s : State) (k v : ℕ) (l : ItemId) → is_under_application s k ≡ false → v < length s.workers
    → applied_life (worker_at s v).lane ≡ Some l → class_of s l.chunk ≡ k → ⊥
none_applies s k v l rest within applies same = false≢true (sym rest
    ∙ list_any_at (λ x. applies_in s k x.lane) s.workers v new_worker within
    (ap (some_and (λ m. class_of s m.chunk == k)) applies ∙ eq-eqb (class_of s l.chunk) k same))

-- a lane that may end a bump applies it
pub applied_by_ending : (heads : ℕ → Head) (x : LaneStage) (a : AppliedBump) → ending_at heads x ≡ Some a → applied_now x
    ≡ Some (bump_applied a)
applied_by_ending heads x a is = search rules

-- a class at rest whose next item may be labelled, timed or linked: it exists, and has a front of UNUSED
pub next_from : (s : State) (k : ℕ) → (is_class_at_rest s k && is_some (next_chunk s k)) ≡ true → (c : ℕ)
    × (k < length s.classes) × (next_chunk s k ≡ Some c)
next_from s k enabled = let both = and_parts (is_class_at_rest s k) (is_some (next_chunk s k)) enabled in
    let found = some_from (next_chunk s k) both.1 in (
      found.0,
      ltb-true k (length s.classes) (and_parts (is_class s k) (not (is_under_application s k)) both.0).0,
      found.1,
    )

-- a chunk that may be moved by a pull: it is in range and linked, and no lane applies a bump of its class
pub move_from : (s : State) (c : ℕ) (to : Segment) → is_enabled s (event.Move c to) ≡ true → (c < length s.chunks)
    × ((head_at s c).linked ≡ true) × (is_under_application s (class_of s c) ≡ false)
move_from s c to enabled =
    let rests = not (is_under_application s (class_of s c)) in
    let both = and_parts (head_at s c).linked (may_move (head_at s c).segment to && rests) enabled in
    let more = and_parts (may_move (head_at s c).segment to) rests both.1 in
    (linked_there s c both.0, both.0, not-true (is_under_application s (class_of s c)) more.1)

-- a lane that found ACTIVE, and may move its item
pub move_for_from : (s : State) (w : ℕ) → is_enabled s (event.MoveFor w) ≡ true → (b : Bump) × (w < length s.workers)
    × (cleared_active (worker_at s w).lane ≡ Some b)
move_for_from s w enabled = let found = some_from (cleared_active (worker_at s w).lane) enabled in
    (found.0, worker_there s w (λ x. cleared_active x.lane) found.0 refl found.1, found.1)

-- a life that may be unlinked: its chunk is in range, has its generation and is linked, and no
-- lane applies a bump of its class
pub unlink_from : (s : State) (l : ItemId) → is_enabled s (event.Unlink l) ≡ true
    → (l.chunk < length s.chunks) × ((head_at s l.chunk).generation ≡ l.generation) × ((head_at s l.chunk).linked
    ≡ true) × (is_under_application s (class_of s l.chunk) ≡ false)
unlink_from s l enabled = let both = and_parts (is_linked s l) (not (is_under_application s
    (class_of s l.chunk))) enabled in
    let linked = and_parts (is_current s l) (head_at s l.chunk).linked both.0 in
    let current = current_from s l linked.0 in
    (current.0, current.1, linked.1, not-true (is_under_application s (class_of s l.chunk)) both.1)

-- a chunk that may be swept: it is in range, stands in its class's DYING without holders, and no
-- lane applies a bump of its class
pub sweep_from : (s : State) → IsLawful s → (c : ℕ) → is_enabled s (event.Sweep c) ≡ true
    → (c < length s.chunks) × (0 < times c (class_at s (class_of s c)).lists.dying) × ((head_at s c).refs ≡ 0)
    × (is_under_application s (class_of s c) ≡ false)
sweep_from s o c enabled =
    let rests = not (is_under_application s (class_of s c)) in
    let more = and_parts (is_dying s c) (is_unheld (head_at s c) && rests) enabled in
    let last = and_parts (is_unheld (head_at s c)) rests more.1 in (
      dying_there s o c more.0,
      ltb-true 0 (times c (class_at s (class_of s c)).lists.dying) more.0,
      eqb-true (head_at s c).refs 0 last.0,
      not-true (is_under_application s (class_of s c)) last.1,
    )

-- a ring that may be closed: there is such a worker, whose ring is open, and it is Idle
pub close_from : (s : State) (w : ℕ) → is_enabled s (event.Close w) ≡ true → (w < length s.workers)
    × ((worker_at s w).is_open ≡ true) × ((worker_at s w).hand ≡ hand.Idle)
close_from s w enabled = let both = and_parts (is_open s w) (is_idle (worker_at s w).hand) enabled in
    let opened = and_parts (is_worker s w) (worker_at s w).is_open both.0 in
    (worker_from s w opened.0, opened.1, idle_from (worker_at s w).hand both.1)
