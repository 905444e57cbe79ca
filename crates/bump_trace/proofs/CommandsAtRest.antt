-- Commands at rest: they are allowed, and leave the World at rest.
use Rattle.std.proofs.Common.{◌≡◌, ℕ, suc, ◌<◌, inl, inr, refl, sym, ap, ap₂, subst, ◌∙◌, Bool, true, false, not, ◌&&◌, ◌||◌, nat_lt, ◌==◌, if◌then◌else◌, List, [], ◌∷◌, length, set, All, Option, None, Some, arith}
use Rattle.std.specs.Option.{option_map_or}
use Rattle.std.proofs.lemmas.Bool.{cases_Bool, and_parts, ltb-true, ltb-false, lt-ltb}
use Rattle.std.proofs.lemmas.List.{length-set, get_or-set_same}
use Rattle.std.proofs.lemmas.List.Elements.{All-set, All-get_or}
use Rattle.std.proofs.lemmas.List.Folds.{list_any_none}
use Rattle.std.proofs.Math.ListN.{get_or-eq_default}
use Rattle.bump_rules.specs.declared.bumps.Ended.TheVariants.{Freed, Deferred}
use Rattle.bump_rules.specs.declared.bumps.Ended.{Ended}
use Rattle.model_state.specs.declared.chunks.Chunk.{Chunk}
use Rattle.bump_rules.specs.declared.commands.Command.{Command}
use Rattle.bump_rules.specs.declared.commands.Command.TheVariants as command
use Rattle.bump_rules.specs.declared.commands.Dropped.{Dropped}
use Rattle.bump_rules.specs.declared.items.ItemId.{ItemId}
use Rattle.bump_rules.specs.declared.bumps.Bump.{Bump}
use Rattle.bump_rules.specs.declared.bumps.Outcome.{Outcome}
use Rattle.bump_rules.specs.declared.bumps.Outcome.TheVariants as outcome
use Rattle.bump_rules.specs.declared.places.Segment.{Segment}
use Rattle.bump_rules.specs.declared.places.Tail.{Tail}
use Rattle.bump_rules.specs.declared.places.Tail.TheVariants as tail
use Rattle.bump_core.specs.Commands.{is_allowed, may_store, command_after, with_chunk_freed, unlink_item, unlinked_as, pull, pull_to, pulled_at, hit, hit_at, attempt, dropped_at, is_exhausted, apply_bump, bumped_lists, outcome_next, gone_as, bump_next, last_pulled_in, get_at, held_by_get}
use Rattle.bump_rules.specs.Lanes.{is_half_made}
use Rattle.model_state.specs.Events.{next_chunk}
use Rattle.bump_rules.specs.Lives.{life}
use Rattle.model_state.specs.State.{State, ClassState, WorkerState, new_worker, no_chunk, chunk_at, head_at, worker_at, is_class, is_worker, with_chunk, with_class, with_worker, class_of, is_current, is_linked, is_held, has_free_hold, is_open, workers_on, is_under_application, applies_in}
use Rattle.bump_rules.specs.Hands.{is_idle, is_on}
use Rattle.bump_rules.specs.declared.commands.Hit.{Hit}
use Rattle.bump_rules.specs.declared.commands.Hit.TheVariants.{First as IsFirst, Already as IsAlready, Marked as IsMarked, Attempts}
use Rattle.bump_rules.specs.Tables.{Get, IsStale, IsRefsFull, IsHeld, pulled_to}
use Rattle.bump_rules.specs.Totals.{total}
use Rattle.bump_trace.specs.Ready.{IsResting, AllWorkersRest}

-- A state at rest stays so, with as many workers and classes and rings of the same capacity.
pub record Keeps (old new : State) : Type 0 where
  pub workers : length new.workers ≡ length old.workers
  pub classes : length new.classes ≡ length old.classes
  pub capacity : new.capacity ≡ old.capacity
  pub rest : AllWorkersRest old → AllWorkersRest new

-- nothing changed
keeps_same : (s : State) → Keeps s s
keeps_same s = record { workers = refl; classes = refl; capacity = refl; rest = λ r. r }

-- one change after another
keeps_both : (s t u : State) → Keeps s t → Keeps t u → Keeps s u
keeps_both s t u p q = record { workers = q.workers ∙ p.workers; classes = q.classes ∙ p.classes; capacity = q.capacity ∙ p.capacity; rest = λ r. q.rest (p.rest r) }

-- a chunk changed
keeps_chunk : (s : State) (c : ℕ) (x : Chunk) → Keeps s (with_chunk s c x)
keeps_chunk s c x = record { workers = refl; classes = refl; capacity = refl; rest = λ r. r }

-- a class changed
keeps_class : (s : State) (k : ℕ) (x : ClassState) → Keeps s (with_class s k x)
keeps_class s k x = record { workers = refl; classes = length-set s.classes k x; capacity = refl; rest = λ r. r }

-- the worker that a number names rests; past the end it is a new one
pub resting_at : (s : State) (w : ℕ) → AllWorkersRest s → IsResting (worker_at s w)
resting_at s w r = elim (cases_Bool (nat_lt w (length s.workers))) [
  | inl e ↦ All-get_or IsResting s.workers w new_worker (ltb-true _ _ e) r
  | inr e ↦ subst IsResting (sym (get_or-eq_default s.workers new_worker (ltb-false _ _ e))) (record { idle = refl; empty = refl })
]

-- a worker changed that rests as before
keeps_worker : (s : State) (w : ℕ) (x : WorkerState) → (IsResting (worker_at s w) → IsResting x) → Keeps s (with_worker s w x)
keeps_worker s w x h = record { workers = length-set s.workers w x; classes = refl; capacity = refl; rest = λ r. All-set IsResting s.workers w x (h (resting_at s w r)) r }

-- a change, or none
keeps_option : {A : Type 0} (s : State) (f : A → State) (o : Option A) → ((x : A) → Keeps s (f x)) → Keeps s (option_map_or f o s)
keeps_option s f None h = keeps_same s
keeps_option s f (Some x) h = h x

-- one of two changes
keeps_if : (s t u : State) (b : Bool) → Keeps s t → Keeps s u → Keeps s (if b then t else u)
keeps_if s t u true p q = p
keeps_if s t u false p q = q

-- a pull moved its item, or not
keeps_pull_to : (s : State) (k : ℕ) (t : Tail) (c : ℕ) (to : Option Segment) → Keeps s (pull_to s k t c to)
keeps_pull_to s k t c None = keeps_same s
keeps_pull_to s k t c (Some to) = keeps_both _ _ _ (keeps_chunk s c _) (keeps_class _ k _)

-- an ended life's chunk is free, or not
keeps_freed : (s : State) (l : ItemId) (e : Ended) → Keeps s (with_chunk_freed s l e)
keeps_freed s l Freed = keeps_class s _ _
keeps_freed s l Deferred = keeps_same s

-- a life ends
keeps_end : (s : State) (l : ItemId) → Keeps s (unlink_item s l)
keeps_end s l = keeps_both _ _ _ (keeps_both _ _ _ (keeps_chunk s l.chunk _) (keeps_class _ _ _)) (keeps_freed _ l (unlinked_as s l))

-- a pull, or an evict
keeps_pull : (s : State) (k : ℕ) (t : Tail) (c : ℕ) → Keeps s (pull s k t c)
keeps_pull s k tail.Hot c = keeps_pull_to s k tail.Hot c (pulled_to (pulled_at s k tail.Hot c))
keeps_pull s k tail.Warm c = keeps_pull_to s k tail.Warm c (pulled_to (pulled_at s k tail.Warm c))
keeps_pull s k tail.Cold c = keeps_pull_to s k tail.Cold c (pulled_to (pulled_at s k tail.Cold c))
keeps_pull s k tail.Evict c = keeps_end s (life c (head_at s c).generation)

-- a bump was queued or dropped
keeps_attempt : (s : State) (w : ℕ) (l : ItemId) (d : Option Dropped) → Keeps s (attempt s w l d)
keeps_attempt s w l None = keeps_both _ _ _ (keeps_chunk s l.chunk _) (keeps_worker _ w _ (λ r. record { idle = r.idle; empty = r.empty }))
keeps_attempt s w l (Some d) = keeps_worker s w _ (λ r. record { idle = r.idle; empty = r.empty })

-- a hit
keeps_hit : (s : State) (w : ℕ) (l : ItemId) (now : ℕ) (h : Hit) → Keeps s (hit s w l now h)
keeps_hit s w l now IsFirst = keeps_both _ _ _ (keeps_chunk s l.chunk _) (keeps_worker _ w _ (λ r. record { idle = r.idle; empty = r.empty }))
keeps_hit s w l now IsAlready = keeps_same s
keeps_hit s w l now IsMarked = keeps_chunk s l.chunk _
keeps_hit s w l now Attempts = keeps_attempt s w l (dropped_at s w l)

-- the lists after a bump was applied
keeps_lists : (s : State) (w : ℕ) (b : Bump) (o : Outcome) (e : Ended) → Keeps s (bumped_lists s w b o e)
keeps_lists s w b outcome.Moved e = keeps_class s _ _
keeps_lists s w b outcome.TimeOnly e = keeps_same s
keeps_lists s w b outcome.Gone e = keeps_freed s b.life e

-- a bump was applied
keeps_bump : (s : State) (w now : ℕ) (b : Bump) → Keeps s (apply_bump s w now b)
keeps_bump s w now b =
    keeps_both _ _ _ (keeps_both _ _ _ (keeps_chunk s b.life.chunk _) (keeps_worker _ w _ (λ r. record { idle = r.idle; empty = refl })))
    (keeps_lists _ w b (outcome_next s b) (gone_as s b.life.chunk))

-- a hold is taken where the get comes to that
keeps_get : (s : State) (l : ItemId) (g : Get) → Keeps s (held_by_get s l g)
keeps_get s l IsStale = keeps_same s
keeps_get s l IsRefsFull = keeps_same s
keeps_get s l IsHeld = keeps_chunk s l.chunk _

-- each command
pub keeps_command : (s : State) (c : Command) → Keeps s (command_after s c)
keeps_command s (command.Link k x now) = keeps_option s _ (next_chunk s k) (λ c. keeps_both _ _ _ (keeps_chunk s c _) (keeps_class _ k _))
keeps_command s (command.LinkTemp k x now) = keeps_option s _ (next_chunk s k) (λ c. keeps_both _ _ _ (keeps_chunk s c _) (keeps_class _ k _))
keeps_command s (command.Unlink l) = keeps_if s _ _ _ (keeps_end s l) (keeps_same s)
keeps_command s (command.Sweep k) = keeps_class s k _
keeps_command s (command.Pull k t) = keeps_option s _ (last_pulled_in s k t) (keeps_pull s k t)
keeps_command s (command.Take w l) = keeps_if s _ _ _ (keeps_get s l (get_at s l)) (keeps_same s)
keeps_command s (command.Touch w l now) = keeps_if s _ _ _ (keeps_same s) (keeps_hit s w l now (hit_at s l))
keeps_command s (command.Label l) = keeps_same s
keeps_command s (command.Release l) = keeps_chunk s l.chunk _
keeps_command s (command.Next w now) = keeps_option s _ (bump_next (worker_at s w)) (keeps_bump s w now)
keeps_command s (command.Close w) = keeps_worker s w _ (λ r. record { idle = r.idle; empty = r.empty })

-- no class is under application
pub none_applied : (s : State) (k : ℕ) → AllWorkersRest s → is_under_application s k ≡ false
none_applied s k r = list_any_none _ s.workers (λ i d h. ap (applies_in s k) (r i d h).empty)

-- a sum of nothing
total_none : {A : Type 0} (f : A → ℕ) (xs : List A) → All (λ x. f x ≡ 0) xs → total f xs ≡ 0
total_none f [] h = refl
total_none f (x ∷ xs) h = let here = h 0 x (omega arith) in let others = total_none f xs (λ i d lt. h (suc i) d (omega (arith, lt))) in omega arith

-- no worker is on a life
pub none_on : (s : State) (l : ItemId) → AllWorkersRest s → workers_on s l ≡ 0
none_on s l r = total_none _ s.workers (λ i d h. ap (is_on l) (r i d h).idle)

-- at rest every hold is free
pub free_hold : (s : State) (l : ItemId) → AllWorkersRest s → has_free_hold s l ≡ is_held s l
free_hold s l r = ap (λ n. is_current s l && nat_lt n (chunk_at s l.chunk).holds) (none_on s l r)

-- where nothing is applied, whether there is a chunk is all the same
no_bar : (a b c : Bool) → a ≡ true → c ≡ false → a && (not b || not c) ≡ true
no_bar a b c p q = rw (p, q) (elim b as (λ v. true && (not v || true) ≡ true) [ true ↦ refl | false ↦ refl ])

-- a link into a class that is there is allowed
pub link_allowed : (s : State) (k : ℕ) → AllWorkersRest s → is_class s k ≡ true → may_store s k ≡ true
link_allowed s k r e = no_bar _ _ _ e (none_applied s k r)

-- a pull of a class that is there is allowed
pub pull_allowed : (s : State) (k : ℕ) (t : Tail) → AllWorkersRest s → is_class s k ≡ true → is_allowed s (command.Pull k t) ≡ true
pull_allowed s k t r e = no_bar _ _ _ e (none_applied s k r)

-- the end of an item is allowed, linked or not
pub unlink_allowed : (s : State) (l : ItemId) → AllWorkersRest s → is_allowed s (command.Unlink l) ≡ true
unlink_allowed s l r = no_bar true (is_linked s l) _ refl (none_applied s (class_of s l.chunk) r)

-- a sweep of a class that is there is allowed
pub sweep_allowed : (s : State) (k : ℕ) → AllWorkersRest s → is_class s k ≡ true → is_allowed s (command.Sweep k) ≡ true
sweep_allowed s k r e = no_bar _ _ _ e (none_applied s k r)

-- a hit that has its hold and an idle worker is allowed where the worker is open, exhausted or not
touch_bar : (a b c d : Bool) → b ≡ true → d ≡ true → a && (b && (c || d)) ≡ a
touch_bar true b c d q t = rw (q, t) (elim c as (λ v. true && (v || true) ≡ true) [ true ↦ refl | false ↦ refl ])
touch_bar false b c d q t = refl

-- a hit of a held item is allowed where the worker is open
pub touch_allowed : (s : State) (w : ℕ) (l : ItemId) (now : ℕ) → AllWorkersRest s → is_held s l ≡ true → is_allowed s (command.Touch w l now) ≡ is_open s w
touch_allowed s w l now r h = touch_bar _ _ (is_exhausted s w) _ (free_hold s l r ∙ h) (ap is_idle (resting_at s w r).idle)

-- what holds may be left out
close_bar : (a b : Bool) → b ≡ true → a && b ≡ a
close_bar true b e = e
close_bar false b e = refl

-- the closing of a worker is allowed where it is open
pub close_allowed : (s : State) (w : ℕ) → AllWorkersRest s → is_allowed s (command.Close w) ≡ is_open s w
close_allowed s w r = close_bar _ _ (ap is_idle (resting_at s w r).idle)

-- a hold of a held item may be given back
pub release_allowed : (s : State) (l : ItemId) → AllWorkersRest s → is_held s l ≡ true → is_allowed s (command.Release l) ≡ true
release_allowed s l r h = free_hold s l r ∙ h

-- a value that there may be passes a test that all pass
each_passes : {A : Type 0} (test : A → Bool) (o : Option A) → ((x : A) → test x ≡ true) → option_map_or test o true ≡ true
each_passes test None h = refl
each_passes test (Some x) h = h x

-- nothing stands in the way
next_bar : (a b c : Bool) → a ≡ true → b ≡ false → c ≡ true → a && (not b && c) ≡ true
next_bar a b c p q t = rw (p, q, t) refl

-- the next bump of a worker that is there may be applied
pub next_allowed : (s : State) (w now : ℕ) → AllWorkersRest s → is_worker s w ≡ true → is_allowed s (command.Next w now) ≡ true
next_allowed s w now r e =
    next_bar _ _ _ e (ap is_half_made (resting_at s w r).empty) (each_passes _ (bump_next (worker_at s w)) (λ b. ap not (none_applied s (class_of s b.life.chunk) r)))

-- A hold that was taken is there, and a hit leaves it.
held_with : (s : State) (l : ItemId) (x : Chunk) → is_current s l ≡ true → x.head.generation ≡ (head_at s l.chunk).generation → 0 < x.holds → is_held (with_chunk s l.chunk x) l ≡ true
held_with s l x e g h =
    let parts = and_parts _ _ e in
    let within = ltb-true l.chunk (length s.chunks) parts.0 in
    let same = get_or-set_same s.chunks l.chunk x no_chunk within in
    let long = length-set s.chunks l.chunk x in
    let here : nat_lt l.chunk (length (set s.chunks l.chunk x)) ≡ true = lt-ltb _ _ (omega (arith, long, within)) in
    let current : ((chunk_at (with_chunk s l.chunk x) l.chunk).head.generation == l.generation) ≡ true = ap (λ (y : Chunk). y.head.generation == l.generation) same ∙ ap (λ n. n == l.generation) g ∙ parts.1 in
    let held : nat_lt 0 (chunk_at (with_chunk s l.chunk x) l.chunk).holds ≡ true = ap (λ (y : Chunk). nat_lt 0 y.holds) same ∙ lt-ltb 0 _ h in
    ap₂ (λ a b. a && b) (ap₂ (λ a b. a && b) here current) held

-- a held item is of its chunk's generation, and has a hold
held_parts : (s : State) (l : ItemId) → is_held s l ≡ true → (is_current s l ≡ true) × (0 < (chunk_at s l.chunk).holds)
held_parts s l e = let parts = and_parts _ _ e in (parts.0, ltb-true 0 _ parts.1)

-- an attempt leaves the hold
held_attempt : (s : State) (w : ℕ) (l : ItemId) (d : Option Dropped) → is_held s l ≡ true → is_held (attempt s w l d) l ≡ true
held_attempt s w l None e = let parts = held_parts s l e in held_with s l _ parts.0 refl parts.1
held_attempt s w l (Some d) e = e

-- a hit leaves the hold
held_hit : (s : State) (w : ℕ) (l : ItemId) (now : ℕ) (h : Hit) → is_held s l ≡ true → is_held (hit s w l now h) l ≡ true
held_hit s w l now IsFirst e = let parts = held_parts s l e in held_with s l _ parts.0 refl parts.1
held_hit s w l now IsAlready e = e
held_hit s w l now IsMarked e = let parts = held_parts s l e in held_with s l _ parts.0 refl parts.1
held_hit s w l now Attempts e = held_attempt s w l (dropped_at s w l) e

-- either of two states has the hold
held_either : (s t : State) (l : ItemId) (b : Bool) → is_held s l ≡ true → is_held t l ≡ true → is_held (if b then s else t) l ≡ true
held_either s t l true p q = p
held_either s t l false p q = q

-- after a hit by a hold, it is still there
pub held_after_touch : (s : State) (w : ℕ) (l : ItemId) (now : ℕ) → is_held s l ≡ true → is_held (command_after s (command.Touch w l now)) l ≡ true
held_after_touch s w l now e = held_either _ _ l (is_exhausted s w) e (held_hit s w l now (hit_at s l) e)
