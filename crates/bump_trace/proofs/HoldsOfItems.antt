-- How many holds each item has: what each command leaves of them.
use Rattle.std.proofs.Common.{◌≡◌, ℕ, zero, suc, ◌+◌, ◌-◌, ◌<◌, ◌≤◌, ◌⊎◌, inl, inr, refl, sym, ap, ap₂, subst, ◌∙◌, Bool, true, false, cond, not, nat_lt, ◌==◌, List, [], ◌∷◌, length, slice_index_or, Option, None, Some, arith, if◌then◌else◌}
use Rattle.std.specs.Option.{option_map_or}
use Rattle.std.proofs.lemmas.Bool.{cases_lt, and_parts, ltb-true, eqb-true, true≢false}
use Rattle.std.proofs.lemmas.List.{get_or-set_same, get_or-set_other, set_past}
use mathlib.Core.Logic.{dite}
use native.Mathlib.Decide.{ℕ_discrete}
use Rattle.bump_rules.specs.declared.bumps.Bump.{Bump}
use Rattle.bump_rules.specs.declared.bumps.Ended.TheVariants.{Freed, Deferred}
use Rattle.bump_rules.specs.declared.bumps.Ended.{Ended}
use Rattle.bump_rules.specs.declared.bumps.Outcome.{Outcome}
use Rattle.bump_rules.specs.declared.bumps.Outcome.TheVariants as outcome
use Rattle.model_state.specs.declared.chunks.Chunk.{Chunk}
use Rattle.bump_rules.specs.declared.commands.Answer.{Answer}
use Rattle.bump_rules.specs.declared.commands.Answer.TheVariants as answer
use Rattle.bump_rules.specs.declared.commands.Command.{Command}
use Rattle.bump_rules.specs.declared.commands.Command.TheVariants as command
use Rattle.bump_rules.specs.declared.commands.Dropped.{Dropped}
use Rattle.bump_rules.specs.declared.items.Head.{Head}
use Rattle.bump_rules.specs.declared.items.ItemId.{ItemId}
use Rattle.bump_rules.specs.declared.places.Segment.{Segment}
use Rattle.bump_rules.specs.declared.places.Tail.{Tail}
use Rattle.bump_rules.specs.declared.places.Tail.TheVariants as tail
use Rattle.bump_rules.specs.declared.places.Start.{Start}
use Rattle.bump_rules.specs.declared.places.Start.TheVariants as start
use Rattle.bump_rules.specs.Starts.{link_command}
use Rattle.bump_core.specs.Commands.{is_allowed, answer_of, command_after, with_chunk_freed, unlink_item, unlinked_as, pull, pull_to, pulled_at, get_answer, get_at, held_by_get, hit, hit_at, attempt, dropped_at, apply_bump, bumped_chunk, bumped_lists, outcome_next, gone_as, bump_next, last_pulled_in, link_labelled}
use Rattle.model_state.specs.Events.{next_chunk, with_hold, without_hold}
use Rattle.bump_rules.specs.Lives.{life, one_if}
use Rattle.model_state.specs.State.{State, ClassState, WorkerState, no_chunk, chunk_at, head_at, worker_at, is_chunk, is_current, is_held, is_open, with_chunk, with_class, with_worker}
use Rattle.bump_rules.specs.declared.commands.Hit.{Hit}
use Rattle.bump_rules.specs.declared.commands.Hit.TheVariants.{First as IsFirst, Already as IsAlready, Marked as IsMarked, Attempts}
use Rattle.bump_rules.specs.Tables.{Get, IsStale, IsRefsFull, IsHeld, get_of, is_of, pulled_to}
use Rattle.model_state.specs.Worlds.{IsLawful, holds_of}
use Rattle.bump_core.proofs.Held.{held_by, held_at, held_else, one_if_same, one_if_cases, unheld_next}
use Rattle.bump_trace.specs.OpenStore.{answer_by, state_by, Drained, drained_by, drained_of, drained_through}
use Rattle.bump_trace.specs.Ready.{HoldsStay, GivesBack, is_release}

-- a chunk after one was written: it is as before, or it is the one that was written
chunk_written : (s : State) (c : ℕ) (x : Chunk) (d : ℕ) → (chunk_at (with_chunk s c x) d ≡ chunk_at s d) ⊎ ((d ≡ c) × (chunk_at (with_chunk s c x) d ≡ x))
chunk_written s c x d = dite (ℕ_discrete d c)
    (λ e. elim (cases_lt c (length s.chunks)) [
      | inl within ↦ inr (e, ap (chunk_at (with_chunk s c x)) e ∙ get_or-set_same s.chunks c x no_chunk within)
      | inr past ↦ inl (ap (λ (cs : List Chunk). slice_index_or cs d no_chunk) (set_past s.chunks c x past))
    ])
    (λ ne. inl (get_or-set_other s.chunks c d x no_chunk ne))

-- nothing changed
stay_same : (s : State) → HoldsStay s s
stay_same s = record { each = λ l. omega arith }

-- one change after another
stay_both : (s t u : State) → HoldsStay s t → HoldsStay t u → HoldsStay s u
stay_both s t u p q = record { each = λ l. omega (arith, p.each l, q.each l) }

-- a chunk changed whose lives keep their holds
stay_chunk : (s : State) (c : ℕ) (x : Chunk) → ((g : ℕ) → held_by (chunk_at s c) g ≤ held_by x g) → HoldsStay s (with_chunk s c x)
stay_chunk s c x h = record {
  each = λ l. elim (chunk_written s c x l.chunk) [
    | inl e ↦ omega (arith, ap (λ (y : Chunk). held_by y l.generation) e)
    | inr w ↦ omega (arith, h l.generation, ap (λ (y : Chunk). held_by y l.generation) w.1, ap (λ k. held_by (chunk_at s k) l.generation) w.0)
  ];
}

-- a chunk changed that keeps its generation and its holds
stay_marks : (s : State) (c : ℕ) (x : Chunk) → x.head.generation ≡ (head_at s c).generation → x.holds ≡ (chunk_at s c).holds → HoldsStay s (with_chunk s c x)
stay_marks s c x g h = stay_chunk s c x (λ n. let same : held_by x n ≡ held_by (chunk_at s c) n = ap₂ (λ a b. cond (a == n) b 0) g h in omega (arith, same))

-- a class changed
stay_class : (s : State) (k : ℕ) (x : ClassState) → HoldsStay s (with_class s k x)
stay_class s k x = record { each = λ l. omega arith }

-- a worker changed
stay_worker : (s : State) (w : ℕ) (x : WorkerState) → HoldsStay s (with_worker s w x)
stay_worker s w x = record { each = λ l. omega arith }

-- a change, or none
stay_option : {A : Type 0} (s : State) (f : A → State) (o : Option A) → ((x : A) → HoldsStay s (f x)) → HoldsStay s (option_map_or f o s)
stay_option s f None h = stay_same s
stay_option s f (Some x) h = h x

-- one of two changes
stay_if : (s t u : State) (b : Bool) → HoldsStay s t → HoldsStay s u → HoldsStay s (if b then t else u)
stay_if s t u true p q = p
stay_if s t u false p q = q

-- an ended life's chunk is free, or not
stay_freed : (s : State) (l : ItemId) (e : Ended) → HoldsStay s (with_chunk_freed s l e)
stay_freed s l Freed = stay_class s _ _
stay_freed s l Deferred = stay_same s

-- a life ends
stay_end : (s : State) (l : ItemId) → HoldsStay s (unlink_item s l)
stay_end s l = stay_both _ _ _ (stay_both _ _ _ (stay_marks s l.chunk _ refl refl) (stay_class _ _ _)) (stay_freed _ l (unlinked_as s l))

-- a pull moved its item, or not
stay_pull_to : (s : State) (k : ℕ) (t : Tail) (c : ℕ) (to : Option Segment) → HoldsStay s (pull_to s k t c to)
stay_pull_to s k t c None = stay_same s
stay_pull_to s k t c (Some to) = stay_both _ _ _ (stay_marks s c _ refl refl) (stay_class _ k _)

-- a pull, or an evict
stay_pull : (s : State) (k : ℕ) (t : Tail) (c : ℕ) → HoldsStay s (pull s k t c)
stay_pull s k tail.Hot c = stay_pull_to s k tail.Hot c (pulled_to (pulled_at s k tail.Hot c))
stay_pull s k tail.Warm c = stay_pull_to s k tail.Warm c (pulled_to (pulled_at s k tail.Warm c))
stay_pull s k tail.Cold c = stay_pull_to s k tail.Cold c (pulled_to (pulled_at s k tail.Cold c))
stay_pull s k tail.Evict c = stay_end s (life c (head_at s c).generation)

-- a bump was queued or dropped
stay_attempt : (s : State) (w : ℕ) (l : ItemId) (d : Option Dropped) → HoldsStay s (attempt s w l d)
stay_attempt s w l None = stay_both _ _ _ (stay_marks s l.chunk _ refl refl) (stay_worker _ w _)
stay_attempt s w l (Some d) = stay_worker s w _

-- a hit
stay_hit : (s : State) (w : ℕ) (l : ItemId) (now : ℕ) (h : Hit) → HoldsStay s (hit s w l now h)
stay_hit s w l now IsFirst = stay_both _ _ _ (stay_marks s l.chunk _ refl refl) (stay_worker _ w _)
stay_hit s w l now IsAlready = stay_same s
stay_hit s w l now IsMarked = stay_marks s l.chunk _ refl refl
stay_hit s w l now Attempts = stay_attempt s w l (dropped_at s w l)

-- the chunk of a bump that was applied
stay_bumped : (s : State) (c now : ℕ) (o : Outcome) → HoldsStay s (with_chunk s c (bumped_chunk (chunk_at s c) now o))
stay_bumped s c now outcome.Moved = stay_marks s c _ refl refl
stay_bumped s c now outcome.TimeOnly = stay_marks s c _ refl refl
stay_bumped s c now outcome.Gone = stay_marks s c _ refl refl

-- the lists after a bump was applied
stay_lists : (s : State) (w : ℕ) (b : Bump) (o : Outcome) (e : Ended) → HoldsStay s (bumped_lists s w b o e)
stay_lists s w b outcome.Moved e = stay_class s _ _
stay_lists s w b outcome.TimeOnly e = stay_same s
stay_lists s w b outcome.Gone e = stay_freed s b.life e

-- a bump was applied
stay_bump : (s : State) (w now : ℕ) (b : Bump) → HoldsStay s (apply_bump s w now b)
stay_bump s w now b =
    stay_both _ _ _ (stay_both _ _ _ (stay_bumped s b.life.chunk now (outcome_next s b)) (stay_worker _ w _)) (stay_lists _ w b (outcome_next s b) (gone_as s b.life.chunk))

-- more holds are more where they count
more_held : (b : Bool) (n : ℕ) → cond b n 0 ≤ cond b (n + 1) 0
more_held true n = omega arith
more_held false n = omega arith

-- one more hold
stay_hold : (s : State) (c : ℕ) → HoldsStay s (with_hold s c)
stay_hold s c = stay_chunk s c _ (λ g. more_held ((head_at s c).generation == g) (chunk_at s c).holds)

-- a hold is taken where the get comes to that
stay_get : (s : State) (l : ItemId) (g : Get) → HoldsStay s (held_by_get s l g)
stay_get s l IsStale = stay_same s
stay_get s l IsRefsFull = stay_same s
stay_get s l IsHeld = stay_hold s l.chunk

-- a link
stay_link : (s : State) (a : Start) (k x now : ℕ) → IsLawful s → k < length s.classes → (n : Option ℕ) → next_chunk s k ≡ n → HoldsStay s (option_map_or (link_labelled s a k x now) n s)
stay_link s a k x now o within None is = stay_same s
stay_link s a k x now o within (Some c) is = stay_both _ _ _ (stay_chunk s c _ (λ g. omega (arith, unheld_next s o k c g within is))) (stay_class _ k _)

-- the command of a link is no release
pub link_keeps : (a : Start) (k x now : ℕ) → is_release (link_command a k x now) ≡ false
link_keeps start.Hot k x now = refl
link_keeps start.Temp k x now = refl

-- Each command but a release leaves every item its holds.
pub holds_stay : (s : State) (c : Command) → IsLawful s → is_allowed s c ≡ true → is_release c ≡ false → HoldsStay s (command_after s c)
holds_stay s (command.Link k x now) o allowed other = stay_link s start.Hot k x now o (ltb-true k (length s.classes) (and_parts _ _ allowed).0) (next_chunk s k) refl
holds_stay s (command.LinkTemp k x now) o allowed other = stay_link s start.Temp k x now o (ltb-true k (length s.classes) (and_parts _ _ allowed).0) (next_chunk s k) refl
holds_stay s (command.Unlink l) o allowed other = stay_if s _ _ _ (stay_end s l) (stay_same s)
holds_stay s (command.Sweep k) o allowed other = stay_class s k _
holds_stay s (command.Pull k t) o allowed other = stay_option s _ (last_pulled_in s k t) (stay_pull s k t)
holds_stay s (command.Take w l) o allowed other = stay_if s _ _ _ (stay_get s l (get_at s l)) (stay_same s)
holds_stay s (command.Touch w l now) o allowed other = stay_if s _ _ _ (stay_same s) (stay_hit s w l now (hit_at s l))
holds_stay s (command.Label l) o allowed other = stay_same s
holds_stay s (command.Release l) o allowed other = absurd (true≢false other)
holds_stay s (command.Next w now) o allowed other = stay_option s _ (bump_next (worker_at s w)) (stay_bump s w now)
holds_stay s (command.Close w) o allowed other = stay_worker s w _

-- an answer of a drain, and then the others
stay_by : (s t : State) (a : Answer) (w : ℕ) (others : State → Drained) → HoldsStay s t → ((u : State) → HoldsStay u (others u).state) → HoldsStay s (drained_by a t w others).state
stay_by s t (answer.Bumped e) w others p q = stay_both s t _ p (q t)
stay_by s t _ w others p q = p

-- Bumps that are applied leave every item its holds,
pub stay_drained : (now w n : ℕ) (s : State) → HoldsStay s (drained_of now w n s).state
stay_drained now w zero s = stay_same s
stay_drained now w (suc n) s =
    stay_by s (command_after s (command.Next w now)) (answer_of s (command.Next w now)) w (drained_of now w n) (stay_option s _ (bump_next (worker_at s w)) (stay_bump s w now)) (stay_drained now w n)

-- and so do those of several workers.
pub stay_through : (now : ℕ) (ws : List ℕ) (s : State) → HoldsStay s (drained_through now ws s).state
stay_through now [] s = stay_same s
stay_through now (w ∷ ws) s = let d = drained_of now w s.capacity s in stay_both s d.state _ (stay_drained now w s.capacity s) (stay_through now ws d.state)

-- one hold more of a life that is its chunk's
one_held : (s : State) (l : ItemId) → l.chunk < length s.chunks → (head_at s l.chunk).generation ≡ l.generation → (m : ItemId) → holds_of s m + one_if m l ≤ holds_of (with_hold s l.chunk) m
one_held s l within same m = elim (one_if_cases m l) [
  | inl e ↦
      let x : Chunk = record (chunk_at s l.chunk) { head = record (head_at s l.chunk) { refs = (head_at s l.chunk).refs + 1 }; holds = (chunk_at s l.chunk).holds + 1 } in
      let here : holds_of (with_hold s l.chunk) l ≡ held_by x l.generation = ap (λ (y : Chunk). held_by y l.generation) (get_or-set_same s.chunks l.chunk x no_chunk within) in
      let now : holds_of s l + one_if l l ≤ holds_of (with_hold s l.chunk) l = omega (arith, one_if_same l, held_at (chunk_at s l.chunk) l.generation same, held_at x l.generation same, here) in
      subst (λ (k : ItemId). holds_of s k + one_if k l ≤ holds_of (with_hold s l.chunk) k) (sym e) now
  | inr other ↦ omega (arith, other, (stay_hold s l.chunk).each m)
]

-- where a get comes to a hold, the life is its chunk's
held_life : (limit g : ℕ) (found : Head) → IsHeld ≡ get_of limit g found → found.generation ≡ g
held_life limit g found is = by (is_of g found) refl is
  where
    by : (b : Bool) → b ≡ is_of g found → IsHeld ≡ (if not b then IsStale else (if nat_lt found.refs limit then IsHeld else IsRefsFull)) → found.generation ≡ g
    by true e h = eqb-true found.generation g (and_parts found.linked (found.generation == g) (sym e)).1
    by false e h = absurd (let u : ⊥ = cc in u)

-- A take that answers Held leaves one more hold of its item.
pub taken : (s : State) (w : ℕ) (l : ItemId) → answer.Held ≡ answer_of s (command.Take w l) → (m : ItemId) → holds_of s m + one_if m l ≤ holds_of (command_after s (command.Take w l)) m
taken s w l is = by (is_chunk s l.chunk) (get_at s l) refl refl is
  where
    by : (b : Bool) (g : Get) → b ≡ is_chunk s l.chunk → g ≡ get_at s l → answer.Held ≡ (if b then get_answer g else answer.NoSuchChunk)
        → (m : ItemId) → holds_of s m + one_if m l ≤ holds_of (if b then held_by_get s l g else s) m
    by true IsHeld e f h = one_held s l (ltb-true l.chunk (length s.chunks) (sym e)) (held_life s.refs_limit l.generation (head_at s l.chunk) f)
    by true IsStale e f h = absurd (let u : ⊥ = cc in u)
    by true IsRefsFull e f h = absurd (let u : ⊥ = cc in u)
    by false g e f h = absurd (let u : ⊥ = cc in u)

-- The same of a worker that may be closed.
pub taken_by : (s : State) (w : ℕ) (l : ItemId) → Some answer.Held ≡ answer_by s w (command.Take w l) → (m : ItemId) → holds_of s m + one_if m l ≤ holds_of (state_by s w (command.Take w l)) m
taken_by s w l is = by (is_open s w) is
  where
    by : (b : Bool) → Some answer.Held ≡ (if b then Some (answer_of s (command.Take w l)) else None)
        → (m : ItemId) → holds_of s m + one_if m l ≤ holds_of (if b then command_after s (command.Take w l) else s) m
    by true h = taken s w l (let same : answer.Held ≡ answer_of s (command.Take w l) = cc in same)
    by false h = absurd (let u : ⊥ = cc in u)

-- A release takes one hold of its item, and no other.
pub given_back : (s : State) (l : ItemId) → is_held s l ≡ true → GivesBack l s (command_after s (command.Release l))
given_back s l held =
    let current = (and_parts (is_current s l) _ held).0 in
    let same : (head_at s l.chunk).generation ≡ l.generation = eqb-true _ _ (and_parts (is_chunk s l.chunk) _ current).1 in
    let x : Chunk = record (chunk_at s l.chunk) { head = record (head_at s l.chunk) { refs = (head_at s l.chunk).refs - 1 }; holds = (chunk_at s l.chunk).holds - 1 } in
    record {
      each = λ m. elim (chunk_written s l.chunk x m.chunk) [
        | inl e ↦ omega (arith, ap (λ (y : Chunk). held_by y m.generation) e)
        | inr w ↦
            let was : holds_of s m ≡ held_by (chunk_at s l.chunk) m.generation = ap (λ k. held_by (chunk_at s k) m.generation) w.0 in
            let now : holds_of (without_hold s l.chunk) m ≡ held_by x m.generation = ap (λ (y : Chunk). held_by y m.generation) w.1 in
            dite (ℕ_discrete m.generation (head_at s l.chunk).generation)
            (λ e.
            let is : m ≡ l = λ i. life (w.0 i) ((e ∙ same) i) in
            let one : one_if m l ≡ 1 = subst (λ (k : ItemId). one_if m k ≡ 1) is (one_if_same m) in
            omega (arith, was, now, one, held_at (chunk_at s l.chunk) m.generation (sym e), held_at x m.generation (sym e)))
            (λ ne. omega (arith, was, held_else (chunk_at s l.chunk) m.generation ne))
      ];
    }
