-- A chunk in use has its life's label in its label word, after any run.
use Rattle.std.proofs.Common.{◌≡◌, ℕ, ◌+◌, ◌<◌, ◌≤◌, ◌&&◌, not, eqb, Bool, true, false, List, [], ◌∷◌, ◌++◌, length, Option, None, Some, if◌then◌else◌, refl, sym, ap, ◌∙◌, subst, arith, eq-eqb, ne_eqb, eqb-true, ◌⊎◌, inl, inr, ⊎_elim}
use Rattle.std.proofs.lemmas.Bool.{and_parts, and_from, both_ways}
use Rattle.std.proofs.lemmas.List.{get_or-set_same, get_or-set_other}
use Rattle.std.specs.Option.{option_map_or}
use native.Mathlib.Decide.{ℕ_discrete}
use Rattle.model_state.specs.declared.chunks.Chunk.{Chunk}
use Rattle.bump_rules.specs.declared.events.Event.{Event}
use Rattle.bump_rules.specs.declared.events.Event.TheVariants as event
use Rattle.bump_rules.specs.declared.history.Cause.TheVariants.{Pull, Bump as BumpOf}
use Rattle.bump_rules.specs.declared.history.Change.{Change}
use Rattle.bump_rules.specs.declared.history.Change.TheVariants as change
use Rattle.bump_rules.specs.declared.items.Head.{Head}
use Rattle.bump_rules.specs.declared.items.ItemId.{ItemId}
use Rattle.bump_rules.specs.declared.bumps.Bump.{Bump}
use Rattle.bump_rules.specs.declared.places.Place.TheVariants.{Unused}
use Rattle.bump_rules.specs.declared.places.Segment.{Segment}
use Rattle.bump_rules.specs.declared.places.Segment.TheVariants as segment
use Rattle.bump_rules.specs.declared.places.Start.{Start}
use Rattle.bump_rules.specs.declared.places.Start.TheVariants as start
use Rattle.bump_rules.specs.Heads.{linked_head, moved_head, one_more, one_fewer, fetched_head, marked_head, cleared_head, unlinked_head}
use Rattle.model_state.specs.Events.{is_enabled, after, may_link, link_next, next_chunk, next_life, next_bump, ending, reserve, drop_refs, drop_busy, push, drop_full, unmark, with_label, with_time, link, take_bump, clear_for, move_for, alight, unlink, sweep}
use Rattle.bump_rules.specs.Lanes.{carried, tried, applied_now, cleared_active}
use Rattle.bump_rules.specs.History.{subject, freed_change}
use Rattle.bump_rules.specs.Starts.{begun_change}
use Rattle.bump_rules.proofs.Beginnings.{begun_subject}
use Rattle.bump_rules.specs.declared.labels.LabelStep.{LabelStep}
use Rattle.bump_rules.specs.declared.labels.LabelStep.TheVariants.{Stored, Linked}
use Rattle.bump_rules.specs.Labels.{label_of_life}
use Rattle.bump_core.specs.Labels.{label_steps, IsLabel, KeepsLabels}
use Rattle.bump_rules.specs.Lawful.{IsUsed}
use Rattle.bump_rules.specs.Lives.{life, is_same}
use Rattle.bump_core.specs.Runs.{run_of}
use Rattle.model_state.specs.State.{State, WorkerState, chunk_at, head_at, class_at, worker_at, no_chunk, with_chunk, with_head, with_change, class_of}
use Rattle.bump_rules.specs.Hands.{tried_life, life_in_hand, cleared_life}
use Rattle.bump_rules.specs.Tables.{is_cold}
use Rattle.model_state.specs.Worlds.{IsLawful, owns, place}
use Rattle.model_state.proofs.Enabled.{next_from, unlink_from, sweep_from, move_from, move_for_from, by_test, by_value, cleared_from}
use Rattle.bump_core.proofs.events.LawfulEnds.{swept_dying, freed}
use Rattle.bump_core.proofs.events.Runs.{run_parts}
use Rattle.bump_rules.proofs.Updates.{same_read}
use Rattle.bump_core.proofs.worlds.Frames.{same_head}
use Rattle.model_state.proofs.Fronts.{next_front}
use Rattle.model_state.proofs.LawfulStates.{linked_in_range, waiting_linked}
use Rattle.bump_rules.proofs.Laws.{used_where_linked}
use Rattle.bump_core.proofs.events.Moves.{chunk_changed, chunk_unchanged, place_unchanged}
use Rattle.bump_core.proofs.worlds.StaysLawful.{lawful_after}
use Rattle.model_state.proofs.Tiles.{class_within, class_owns}

-- What an event leaves of a chunk that begins no life and gets no label.

-- a chunk stays in its life, with its label, and is in use only if it was
record Stays (c : ℕ) (s t : State) : Type 0 where
  pub generation : (head_at t c).generation ≡ (head_at s c).generation
  pub label : (chunk_at t c).label ≡ (chunk_at s c).label
  pub used : IsUsed (place t c) → IsUsed (place s c)

-- each chunk stays
abbrev AllStay : State → State → Type 0
AllStay s t = (c : ℕ) → Stays c s t

-- a state stays as it is
stays_here : (s : State) → AllStay s s
stays_here s c = record { generation = refl; label = refl; used = λ used. used }

-- one chunk with its generation and its label, and whatever workers
stays_written : (s : State) (d : ℕ) (x : Chunk) (ws : List WorkerState) → x.head.generation ≡ (head_at s d).generation
    → x.label ≡ (chunk_at s d).label → AllStay s (record (with_chunk s d x) { workers = ws })
stays_written s d x ws generations labels c = record {
  generation = same_read (λ (y : Chunk). y.head.generation) s.chunks d x no_chunk generations c;
  label = same_read (λ (y : Chunk). y.label) s.chunks d x no_chunk labels c;
  used = λ used. used;
}

-- a chunk with another head of its life
stays_headed : (s : State) (d : ℕ) (h : Head) (ws : List WorkerState) → h.generation ≡ (head_at s d).generation
    → AllStay s (record (with_head s d h) { workers = ws })
stays_headed s d h ws generations = stays_written s d (record (chunk_at s d) { head = h }) ws generations refl

-- no chunk changed
stays_worked : (s : State) (ws : List WorkerState) → AllStay s (record s { workers = ws })
stays_worked s ws c = record { generation = refl; label = refl; used = λ used. used }

-- a chunk in use with another head of its life, and an entry of it
stays_changed : (s : State) (o : IsLawful s) (d : ℕ) (h : Head) (k : ℕ) (e : Change) (within : k < length s.classes)
    (own : owns (class_at s k) d ≡ true) (is : (subject e).chunk ≡ d)
    → h.generation ≡ (head_at s d).generation → IsUsed (place s d) → AllStay s (with_change (with_head s d h) k e)
stays_changed s o d h k e within own is same was c = by (ℕ_discrete c d)
  where
    t : State
    t = with_change (with_head s d h) k e

    here : chunk_at t d ≡ record (chunk_at s d) { head = h }
    here = chunk_changed s o d h k e within own is

    at : Stays d s t
    at = record {
      generation = ap (λ (y : Chunk). y.head.generation) here
          ∙ same;
      label = ap (λ (y : Chunk). y.label) here;
      used = λ used. was;
    }

    by : Dec (c ≡ d) → Stays c s t
    by (yes equal) = subst (λ (j : ℕ). Stays j s t) (sym equal) at
    by (no other) = let there = chunk_unchanged s o d h k e within own is c other in record {
      generation = ap (λ (y : Chunk). y.head.generation) there;
      label = ap (λ (y : Chunk). y.label) there;
      used = λ used. subst IsUsed (place_unchanged s o d h k e within own is c other) used;
    }

-- a move is of a chunk in use
moved_stays : (s : State) → IsLawful s → (c : ℕ) (to : Segment) (e : Change) → (subject e).chunk ≡ c
    → c < length s.chunks → (head_at s c).linked ≡ true
    → AllStay s (with_change (with_head s c (moved_head to (head_at s c))) (class_of s c) e)
moved_stays s o c to e is within on = stays_changed s o c (moved_head to (head_at s c)) (class_of s c) e
    (class_within s o.tiles c within) (class_owns s o.tiles c within) is refl
    (used_where_linked (head_at s c) (place s c) (o.chunks c).shown on)

-- and so is a move for a bump, of an item that its lane found in COLD
moved_for_stays : (s : State) → IsLawful s → (w : ℕ) (b : Bump) → w < length s.workers
    → cleared_active (worker_at s w).lane ≡ Some b → AllStay s (move_for s w b)
moved_for_stays s o w b within is c =
    let on = (waiting_linked s o w b within (cleared_from (worker_at s w).lane b is)).0 in
    let e = change.Moved b.life segment.Cold segment.Warm (BumpOf w b.number) in
    let moved = moved_stays s o b.life.chunk segment.Warm e refl (linked_in_range s o b.life.chunk on) on c in
    record { generation = moved.generation; label = moved.label; used = moved.used }

-- an unlink is of a linked chunk
unlinked_stays : (s : State) → IsLawful s → (l : ItemId) → is_enabled s (event.Unlink l) ≡ true → AllStay s (unlink s l)
unlinked_stays s o l enabled = let may = unlink_from s l enabled in
    stays_changed s o l.chunk (unlinked_head (head_at s l.chunk)) (class_of s l.chunk) (change.Unlinked l)
    (class_within s o.tiles l.chunk may.0) (class_owns s o.tiles l.chunk may.0) refl refl
    (used_where_linked (head_at s l.chunk) (place s l.chunk) (o.chunks l.chunk).shown may.2)

-- and a sweep of one that is DYING
swept_stays : (s : State) → IsLawful s → (c : ℕ) → is_enabled s (event.Sweep c) ≡ true → AllStay s (sweep s c)
swept_stays s o c enabled =
    let may = sweep_from s o c enabled in
    let e = freed_change (life c (head_at s c).generation) in
    subst (λ t. AllStay s (with_change t (class_of s c) e)) (same_head s c)
    (stays_changed s o c (head_at s c) (class_of s c) e (class_within s o.tiles c may.0)
    (class_owns s o.tiles c may.0) (ap (λ (l : ItemId). l.chunk) (freed (life c (head_at s c).generation)).is) refl
    (subst IsUsed (sym (swept_dying s o c enabled)) tt))

-- the event stores no label and begins no life
abbrev IsOther : Event → Type 0
IsOther (event.PutLabel k x) = ⊥
IsOther (event.Link k) = ⊥
IsOther (event.LinkTemp k) = ⊥
IsOther _ = Unit {0}

-- from a lawful state each chunk stays by each such event that is enabled
stays_after : (s : State) → IsLawful s → (e : Event) → is_enabled s e ≡ true → IsOther e → AllStay s (after s e)
stays_after s o (event.Load c) enabled other = stays_here s
stays_after s o (event.Take w l) enabled other = stays_written s l.chunk _ s.workers refl refl
stays_after s o (event.Fetch w l) enabled other = by_test (AllStay s) (head_at s l.chunk).fetched _ _
    (λ on. stays_headed s l.chunk (fetched_head (head_at s l.chunk)) s.workers refl) (λ off. stays_headed s l.chunk
    (fetched_head (head_at s l.chunk)) _ refl)
stays_after s o (event.Mark w l) enabled other = by_test (AllStay s) (not (head_at s l.chunk).active && is_cold
    (head_at s l.chunk).segment) _ _ (λ on. stays_headed s l.chunk (marked_head (head_at s l.chunk)) _ refl)
    (λ off. stays_headed s l.chunk (marked_head (head_at s l.chunk)) s.workers refl)
stays_after s o (event.Reserve w) enabled other = by_value (AllStay s) (reserve s w)
    (tried_life (worker_at s w).hand) s (λ l is. stays_headed s l.chunk (one_more (head_at s l.chunk)) _ refl)
    (stays_here s)
stays_after s o (event.DropRefs w) enabled other = by_value (AllStay s) (drop_refs s w)
    (tried_life (worker_at s w).hand) s (λ l is. stays_worked s _) (stays_here s)
stays_after s o (event.DropBusy w) enabled other = by_value (AllStay s) (drop_busy s w)
    (tried_life (worker_at s w).hand) s (λ l is. stays_worked s _) (stays_here s)
stays_after s o (event.Push w) enabled other = by_value (AllStay s) (push s w) (life_in_hand (worker_at s w).hand) s
    (λ l is. stays_worked s _) (stays_here s)
stays_after s o (event.DropFull w) enabled other = by_value (AllStay s) (drop_full s w)
    (life_in_hand (worker_at s w).hand) s (λ l is. stays_headed s l.chunk (one_fewer (head_at s l.chunk)) _ refl)
    (stays_here s)
stays_after s o (event.Unmark w) enabled other = by_value (AllStay s) (unmark s w)
    (cleared_life (worker_at s w).hand) s (λ l is. stays_headed s l.chunk (cleared_head (head_at s l.chunk)) _ refl)
    (stays_here s)
stays_after s o (event.Close w) enabled other = stays_worked s _
stays_after s o (event.StoreTime l t) enabled other = stays_written s l.chunk _ s.workers refl refl
stays_after s o (event.Release l) enabled other = stays_written s l.chunk _ s.workers refl refl
stays_after s o (event.PutLabel k x) enabled other = absurd other
stays_after s o (event.PutTime k t) enabled other = by_value (AllStay s) (λ c. with_time s c t) (next_chunk s k) s
    (λ c is. stays_written s c _ s.workers refl refl) (stays_here s)
stays_after s o (event.Link k) enabled other = absurd other
stays_after s o (event.LinkTemp k) enabled other = absurd other
stays_after s o (event.Unlink l) enabled other = unlinked_stays s o l enabled
stays_after s o (event.Sweep c) enabled other = swept_stays s o c enabled
stays_after s o (event.ClearActive c) enabled other = stays_headed s c (cleared_head (head_at s c)) s.workers refl
stays_after s o (event.Move c to) enabled other = let may = move_from s c to enabled in
    moved_stays s o c to (change.Moved (life c (head_at s c).generation) (head_at s c).segment to Pull) refl may.0 may.1
stays_after s o (event.TakeBump w) enabled other = by_value (AllStay s) (take_bump s w) (next_bump (worker_at s w)) s
    (λ l is. stays_worked s _) (stays_here s)
stays_after s o (event.Try w) enabled other = by_value (AllStay s) _ (carried (worker_at s w).lane) s
    (λ b is. stays_worked s _) (stays_here s)
stays_after s o (event.BumpTime w t) enabled other = by_value (AllStay s) _ (applied_now (worker_at s w).lane) s
    (λ b is. stays_written s b.life.chunk _ s.workers refl refl) (stays_here s)
stays_after s o (event.ClearFor w) enabled other = by_value (AllStay s) (clear_for s w) (tried (worker_at s w).lane) s
    (λ b is. stays_headed s b.life.chunk (cleared_head (head_at s b.life.chunk)) _ refl) (stays_here s)
stays_after s o (event.MoveFor w) enabled other = by_value (AllStay s) (move_for s w) (cleared_active
    (worker_at s w).lane) s (λ b is. moved_for_stays s o w b (move_for_from s w enabled).1 is) (stays_here s)
stays_after s o (event.Alight w) enabled other = by_value (AllStay s) (alight s w) (ending s w) s
    (λ a is. stays_headed s a.life.chunk (one_fewer (head_at s a.life.chunk)) _ refl) (stays_here s)

-- What a link leaves.

module _ (s : State) (o : IsLawful s) (a : Start) (k d : ℕ) (within : k < length s.classes)
    (next : next_chunk s k ≡ Some d) where
  -- the chunk is of the class
  link_owns : owns (class_at s k) d ≡ true
  link_owns = let at = next_front s o k d within next in subst (λ (j : ℕ). owns (class_at s j) d
      ≡ true) at.0 (class_owns s o.tiles d at.1)

  -- its head and its entry
  abbrev born : Head
  born = linked_head a ((head_at s d).generation + 1)

  abbrev entry : Change
  entry = begun_change a (next_life s d)

  entry_of : (subject entry).chunk ≡ d
  entry_of = ap (λ (l : ItemId). l.chunk) (begun_subject a (next_life s d))

  -- it begins the next life, with the label that stands there
  link_here : chunk_at (link s a k d) d ≡ record (chunk_at s d) { head = born }
  link_here = chunk_changed s o d born k entry within link_owns entry_of

  -- the other chunks stay
  link_else : (c : ℕ) → ((c ≡ d) → ⊥) → Stays c s (link s a k d)
  link_else c other = let there = chunk_unchanged s o d born k entry within link_owns entry_of c other in record {
    generation = ap (λ (y : Chunk). y.head.generation) there;
    label = ap (λ (y : Chunk). y.label) there;
    used = λ used. subst IsUsed (place_unchanged s o d born k entry within link_owns entry_of c other) used;
  }

  -- no label changes
  link_label : (c : ℕ) → (chunk_at (link s a k d) c).label ≡ (chunk_at s c).label
  link_label c = by (ℕ_discrete c d)
    where
      by : Dec (c ≡ d) → (chunk_at (link s a k d) c).label ≡ (chunk_at s c).label
      by (yes is) = ap (λ (j : ℕ). (chunk_at (link s a k d) j).label) is ∙ (ap (λ (y : Chunk). y.label) link_here
          ∙ ap (λ (j : ℕ). (chunk_at s j).label) (sym is))
      by (no other) = (link_else c other).label

-- The generation of a chunk never falls: by a link,
later_link : (s : State) → IsLawful s → (a : Start) (k : ℕ) → may_link s k ≡ true → (c : ℕ)
    → (head_at s c).generation ≤ (head_at (link_next s a k) c).generation
later_link s o a k enabled c = by_value (λ t. (head_at s c).generation ≤ (head_at t c).generation)
    (link s a k) (next_chunk s k) s
    (λ d is. by d is (ℕ_discrete c d)) (omega arith)
  where
    by : (d : ℕ) → next_chunk s k ≡ Some d → Dec (c ≡ d)
        → (head_at s c).generation ≤ (head_at (link s a k d) c).generation
    by d is (yes same) = subst (λ (j : ℕ). (head_at s j).generation ≤ (head_at (link s a k d) j).generation) (sym same)
        (omega (arith, ap (λ (y : Chunk). y.head.generation) (link_here s o a k d (next_from s k enabled).1 is)))
    by d is (no other) = omega (arith, (link_else s o a k d (next_from s k enabled).1 is c other).generation)

-- and by any event.
later_after : (s : State) → IsLawful s → (e : Event) → is_enabled s e ≡ true → (c : ℕ)
    → (head_at s c).generation ≤ (head_at (after s e) c).generation
later_after s o (event.PutLabel k x) enabled c = by_value (λ t. (head_at s c).generation ≤ (head_at t c).generation)
    (λ d. with_label s d x) (next_chunk s k) s
    (λ d is. let same = same_read (λ (y : Chunk). y.head.generation) s.chunks d (record (chunk_at s d) {
      label = x;
    }) no_chunk refl c in omega (arith, same)) (omega arith)
later_after s o (event.Link k) enabled c = later_link s o start.Hot k enabled c
later_after s o (event.LinkTemp k) enabled c = later_link s o start.Temp k enabled c
later_after s o e enabled c = omega (arith, (stays_after s o e enabled tt c).generation)

-- a life that tests as this one has its chunk and its generation
same_life : (l : ItemId) (d g : ℕ) → is_same l (life d g) ≡ true → (l.chunk ≡ d) × (l.generation ≡ g)
same_life l d g same = let both = and_parts (eqb l.chunk d) (eqb l.generation g) same in (
  eqb-true l.chunk d both.0,
  eqb-true l.generation g both.1,
)

-- Where a label is stored, a life that begins behind that has another word before it.
stored_begins : (m : Option ℕ) (z : ℕ) (l : ItemId) (x y : ℕ) (steps : List LabelStep)
    → label_of_life l x (option_map_or (λ c. Stored c z ∷ []) m [] ++ steps) ≡ Some y
    → (w : ℕ) × (label_of_life l w steps ≡ Some y)
stored_begins None z l x y steps is = (x, is)
stored_begins (Some d) z l x y steps is = (if eqb d l.chunk then z else x, is)

-- Where a life begins, it is this one, and comes later than its chunk's; or this one begins behind that.
link_begins : (s : State) (m : Option ℕ) (l : ItemId) (x y : ℕ) (steps : List LabelStep)
    → label_of_life l x (option_map_or (λ c. Linked (next_life s c) ∷ []) m [] ++ steps) ≡ Some y
    → ((head_at s l.chunk).generation < l.generation) ⊎ (label_of_life l x steps ≡ Some y)
link_begins s None l x y steps is = inr is
link_begins s (Some d) l x y steps is = by (is_same l (next_life s d)) refl
  where
    by : (b : Bool) → is_same l (next_life s d) ≡ b → ((head_at s l.chunk).generation < l.generation)
        ⊎ (label_of_life l x steps ≡ Some y)
    by true same = let both = same_life l d ((head_at s d).generation + 1) same in
        inl (omega (arith, ap (λ (c : ℕ). (head_at s c).generation) both.0, both.1))
    by false other = inr (sym (ap (λ (b : Bool). if b then Some x else label_of_life l x steps) other) ∙ is)

-- A life that begins with a link, or behind it, had not begun before.
begun_behind : (s : State) → IsLawful s → (a : Start) (k : ℕ) → may_link s k ≡ true → (l : ItemId) (x y : ℕ)
    (steps : List LabelStep)
    → (label_of_life l x steps ≡ Some y → (head_at (link_next s a k) l.chunk).generation < l.generation)
    → label_of_life l x (option_map_or (λ c. Linked (next_life s c) ∷ []) (next_chunk s k) [] ++ steps) ≡ Some y
    → (head_at s l.chunk).generation < l.generation
begun_behind s o a k enabled l x y steps rest is = ⊎_elim (λ here. here)
    (λ behind. omega (arith, rest behind, later_link s o a k enabled l.chunk))
    (link_begins s (next_chunk s k) l x y steps is)

-- A life that begins in a run had not begun before it.
begun_later : (es : List Event) (s t : State) → IsLawful s → run_of s es ≡ Some t → (l : ItemId) (x y : ℕ)
    → label_of_life l x (label_steps s es) ≡ Some y → (head_at s l.chunk).generation < l.generation
begun_later [] s t o ends l x y is = absurd (let u : ⊥ = cc in u)
begun_later (event.PutLabel k z ∷ es) s t o ends l x y is =
    let inside = run_parts s (event.PutLabel k z) es t ends in
    let u = after s (event.PutLabel k z) in
    let rest = stored_begins (next_chunk s k) z l x y (label_steps u es) is in
    omega (
      arith,
      begun_later es u t (lawful_after s o (event.PutLabel k z) inside.0) inside.1 l rest.0 y rest.1,
      later_after s o (event.PutLabel k z) inside.0 l.chunk,
    )
begun_later (event.Link k ∷ es) s t o ends l x y is =
    let inside = run_parts s (event.Link k) es t ends in
    let u = after s (event.Link k) in
    begun_behind s o start.Hot k inside.0 l x y (label_steps u es)
    (λ behind. begun_later es u t (lawful_after s o (event.Link k) inside.0) inside.1 l x y behind) is
begun_later (event.LinkTemp k ∷ es) s t o ends l x y is =
    let inside = run_parts s (event.LinkTemp k) es t ends in
    let u = after s (event.LinkTemp k) in
    begun_behind s o start.Temp k inside.0 l x y (label_steps u es)
    (λ behind. begun_later es u t (lawful_after s o (event.LinkTemp k) inside.0) inside.1 l x y behind) is
begun_later (e ∷ es) s t o ends l x y is =
    let inside = run_parts s e es t ends in
    omega (
      arith,
      begun_later es (after s e) t (lawful_after s o e inside.0) inside.1 l x y is,
      later_after s o e inside.0 l.chunk,
    )

-- Labels from one state to the next.

-- a chunk that stays was labelled before where it was behind
was_before : (s u : State) (c g x : ℕ) → Stays c s u → (m : Option ℕ) → IsLabel u c g x m → IsLabel s c g x m
was_before s u c g x stays None was = record {
  generation = sym stays.generation ∙ was.generation;
  used = stays.used was.used;
  label = sym stays.label ∙ was.label;
}
was_before s u c g x stays (Some y) is = is

-- and its life's label is the same
still : (s u : State) (c g x : ℕ) (steps : List LabelStep) → Stays c s u
    → IsLabel u c g x (label_of_life (life c g) (chunk_at u c).label steps)
    → IsLabel s c g x (label_of_life (life c g) (chunk_at s c).label steps)
still s u c g x steps stays now = was_before s u c g x stays (label_of_life (life c g) (chunk_at s c).label steps)
    (subst (λ (n : ℕ). IsLabel u c g x (label_of_life (life c g) n steps)) stays.label now)

-- a label is stored for a chunk of UNUSED
stored_before : (s : State) (d z : ℕ) → d < length s.chunks → place s d ≡ Unused → (c g x : ℕ) (steps : List LabelStep)
    → IsLabel (with_label s d z) c g x (label_of_life (life c g) (chunk_at (with_label s d z) c).label steps)
    → IsLabel s c g x (label_of_life (life c g) (if eqb d c then z else (chunk_at s c).label) steps)
stored_before s d z within unused c g x steps now = by (ℕ_discrete d c)
  where
    u : State
    u = with_label s d z

    generations : (head_at u c).generation ≡ (head_at s c).generation
    generations = same_read (λ (y : Chunk). y.head.generation) s.chunks d (record (chunk_at s d) {
      label = z;
    }) no_chunk refl c

    begins : (m : Option ℕ) → d ≡ c → IsLabel u c g x m → IsLabel s c g x m
    begins None same was = absurd (subst IsUsed (ap (place s) (sym same) ∙ unused) was.used)
    begins (Some y) same is = is

    by : Dec (d ≡ c) → IsLabel s c g x (label_of_life (life c g) (if eqb d c then z else (chunk_at s c).label) steps)
    by (yes same) =
        let word : (chunk_at u c).label ≡ z = ap (λ (j : ℕ). (chunk_at u j).label) (sym same)
        ∙ ap (λ (y : Chunk). y.label) (get_or-set_same s.chunks d (record (chunk_at s d) {
          label = z;
        }) no_chunk within) in
        let read : (if eqb d c then z else (chunk_at s c).label)
        ≡ z = ap (λ (b : Bool). if b then z else (chunk_at s c).label) (eq-eqb d c same) in
        begins _ same (subst (λ (n : ℕ). IsLabel u c g x (label_of_life (life c g) n steps)) (word ∙ sym read) now)
    by (no other) =
        let word : (chunk_at u c).label ≡ (chunk_at s c).label = ap (λ (y : Chunk). y.label)
        (get_or-set_other s.chunks d c (record (chunk_at s d) { label = z }) no_chunk (λ e. other (sym e))) in
        let read : (if eqb d c then z else (chunk_at s c).label) ≡ (chunk_at s c).label =
        ap (λ (b : Bool). if b then z else (chunk_at s c).label) (ne_eqb d c other) in
        subst (λ (n : ℕ). IsLabel s c g x (label_of_life (life c g) n steps)) (sym read)
        (still s u c g x steps (record { generation = generations; label = word; used = λ used. used }) now)

-- a life begins with the label that stands at its chunk
begun_before : (s : State) (o : IsLawful s) (a : Start) (k d : ℕ) (within : k < length s.classes)
    (next : next_chunk s k ≡ Some d) (c g x : ℕ) (steps : List LabelStep)
    → ((y : ℕ) → label_of_life (life c g) (chunk_at (link s a k d) c).label steps ≡ Some y
    → (head_at (link s a k d) c).generation < g)
    → IsLabel (link s a k d) c g x (label_of_life (life c g) (chunk_at (link s a k d) c).label steps)
    → IsLabel s c g x (if is_same (life c g) (next_life s d) then Some (chunk_at s c).label else label_of_life
    (life c g) (chunk_at s c).label steps)
begun_before s o a k d within next c g x steps later now = by (is_same (life c g) (next_life s d)) refl
  where
    u : State
    u = link s a k d

    begun : (head_at u d).generation ≡ (head_at s d).generation + 1
    begun = ap (λ (y : Chunk). y.head.generation) (link_here s o a k d within next)

    here : c ≡ d → g ≡ (head_at s d).generation + 1 → (m : Option ℕ)
        → label_of_life (life c g) (chunk_at u c).label steps ≡ m → IsLabel u c g x m → x ≡ (chunk_at s c).label
    here same grown None is was = sym was.label ∙ link_label s o a k d within next c
    here same grown (Some y) is label = absurd (omega (
      arith,
      later y is,
      ap (λ (j : ℕ). (head_at u j).generation) same,
      begun,
      grown,
    ))

    there : is_same (life c g) (next_life s d) ≡ false → (m : Option ℕ) → IsLabel u c g x m → IsLabel s c g x m
    there other None was = was_before s u c g x (link_else s o a k d within next c (λ same. both_ways
        (is_same (life c g) (next_life s d)) other
        (and_from _ _ (eq-eqb c d same) (eq-eqb g ((head_at s d).generation + 1) (sym was.generation
        ∙ (ap (λ (j : ℕ). (head_at u j).generation) same ∙ begun)))))) None was
    there other (Some y) is = is

    by : (b : Bool) → is_same (life c g) (next_life s d) ≡ b
        → IsLabel s c g x (if is_same (life c g) (next_life s d) then Some (chunk_at s c).label else label_of_life
        (life c g) (chunk_at s c).label steps)
    by true same =
        let both = same_life (life c g) d ((head_at s d).generation + 1) same in
        subst (λ (b : Bool). IsLabel s c g x (if b then Some (chunk_at s c).label else label_of_life (life c g)
        (chunk_at s c).label steps)) (sym same)
        (here both.0 both.1 (label_of_life (life c g) (chunk_at u c).label steps) refl now)
    by false other =
        subst (λ (b : Bool). IsLabel s c g x (if b then Some (chunk_at s c).label else label_of_life (life c g)
        (chunk_at s c).label steps)) (sym other)
        (there other (label_of_life (life c g) (chunk_at s c).label steps)
        (subst (λ (n : ℕ). IsLabel u c g x (label_of_life (life c g) n steps)) (link_label s o a k d within next c) now))

-- the same by the next chunk, if there is one
stored_by : (s : State) (k z c g x : ℕ) (steps : List LabelStep) (m : Option ℕ) → ((d : ℕ) → m ≡ Some d
    → (d < length s.chunks) × (place s d ≡ Unused))
    → IsLabel (option_map_or (λ d. with_label s d z) m s) c g x (label_of_life (life c g)
    (chunk_at (option_map_or (λ d. with_label s d z) m s) c).label steps)
    → IsLabel s c g x (label_of_life (life c g) (chunk_at s c).label (option_map_or
    (λ d. Stored d z ∷ []) m [] ++ steps))
stored_by s k z c g x steps None front now = now
stored_by s k z c g x steps (Some d) front now = stored_before s d z (front d refl).0 (front d refl).1 c g x steps now

begun_by : (s : State) (o : IsLawful s) (a : Start) (k : ℕ) (within : k < length s.classes) (c g x : ℕ)
    (steps : List LabelStep) (m : Option ℕ) → next_chunk s k ≡ m
    → ((y : ℕ) → label_of_life (life c g) (chunk_at (option_map_or (link s a k) m s) c).label steps ≡ Some y
    → (head_at (option_map_or (link s a k) m s) c).generation < g)
    → IsLabel (option_map_or (link s a k) m s) c g x (label_of_life (life c g)
    (chunk_at (option_map_or (link s a k) m s) c).label steps)
    → IsLabel s c g x (label_of_life (life c g) (chunk_at s c).label (option_map_or
    (λ d. Linked (next_life s d) ∷ []) m [] ++ steps))
begun_by s o a k within c g x steps None is later now = now
begun_by s o a k within c g x steps (Some d) is later now = begun_before s o a k d within is c g x steps later now

-- Each chunk in use has its life's label.
pub keeps_labels : (es : List Event) (s t : State) → IsLawful s → run_of s es ≡ Some t → KeepsLabels s es t
keeps_labels [] s t o ends c used = let same : s ≡ t = cc in record {
  generation = ap (λ (u : State). (head_at u c).generation) same;
  used = subst (λ (u : State). IsUsed (place u c)) (sym same) used;
  label = ap (λ (u : State). (chunk_at u c).label) same;
}
keeps_labels (event.PutLabel k z ∷ es) s t o ends c used =
    let inside = run_parts s (event.PutLabel k z) es t ends in
    let u = after s (event.PutLabel k z) in
    stored_by s k z c (head_at t c).generation (chunk_at t c).label (label_steps u es) (next_chunk s k)
    (λ d is. let at = next_front s o k d (next_from s k inside.0).1 is in (at.1, at.2))
    (keeps_labels es u t (lawful_after s o (event.PutLabel k z) inside.0) inside.1 c used)
keeps_labels (event.Link k ∷ es) s t o ends c used =
    let inside = run_parts s (event.Link k) es t ends in
    let u = after s (event.Link k) in
    let p = lawful_after s o (event.Link k) inside.0 in
    begun_by s o start.Hot k (next_from s k inside.0).1 c (head_at t c).generation (chunk_at t c).label
    (label_steps u es) (next_chunk s k) refl
    (λ y is. begun_later es u t p inside.1 (life c (head_at t c).generation) (chunk_at u c).label y is)
    (keeps_labels es u t p inside.1 c used)
keeps_labels (event.LinkTemp k ∷ es) s t o ends c used =
    let inside = run_parts s (event.LinkTemp k) es t ends in
    let u = after s (event.LinkTemp k) in
    let p = lawful_after s o (event.LinkTemp k) inside.0 in
    begun_by s o start.Temp k (next_from s k inside.0).1 c (head_at t c).generation (chunk_at t c).label
    (label_steps u es) (next_chunk s k) refl
    (λ y is. begun_later es u t p inside.1 (life c (head_at t c).generation) (chunk_at u c).label y is)
    (keeps_labels es u t p inside.1 c used)
keeps_labels (e ∷ es) s t o ends c used =
    let inside = run_parts s e es t ends in
    still s (after s e) c (head_at t c).generation (chunk_at t c).label (label_steps (after s e) es)
    (stays_after s o e inside.0 tt c)
    (keeps_labels es (after s e) t (lawful_after s o e inside.0) inside.1 c used)
