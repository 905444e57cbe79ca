-- Lines that were made one after the other.
use Rattle.std.proofs.Common.{◌≡◌, ℕ, ◌+◌, ◌<◌, Bool, true, false, cond, List, [], ◌∷◌, ◌++◌, length, map, take, refl, sym, ap, ◌∙◌, subst, append-nil}
use Rattle.std.specs.List.{AllZip, filter}
use Rattle.std.proofs.lemmas.List.Elements.{filter-append, All-nil, All-cons}
use Rattle.bump_rules.specs.declared.configs.Config.{Config}
use Rattle.bump_rules.specs.declared.items.ItemId.{ItemId}
use Rattle.bump_rules.specs.declared.places.Tail.{Tail}
use Rattle.bump_store.specs.Lanes.{LaneState, lane_rings}
use Rattle.bump_store.specs.Passes.{IsDrained}
use Rattle.store_trace.proofs.InTurn.{zip_map}
use Rattle.store_trace.specs.Making.{Counted, MakesGet, Unlinked, WasPulled, WasSwept, WasMade, WereMade}
use Rattle.store_trace.specs.Tasks.{MakesEach, MakesTurns, DoesChore, MakesChore, is_drain, is_shared, lines_of, drain_times}
use Rattle.store_trace.specs.declared.tasks.Chore.{Chore}
use Rattle.store_trace.specs.declared.tasks.Chore.TheVariants as chores
use Rattle.store_trace.specs.declared.tasks.ChoreTask.{ChoreTask}
use Rattle.store_trace.specs.declared.tasks.GetTask.{GetTask}
use Rattle.store_trace.specs.declared.tasks.Share.{Share}
use Rattle.store_trace.specs.declared.tasks.Share.TheVariants as shares

module _ {A H : Type 0} (makes : A → H → H → Type 0) where
  -- one more was made behind the others
  pub made_more : (lines : List A) (line : A) (before between after : H) → MakesEach makes lines before between → makes line between after
      → MakesEach makes (lines ++ line ∷ []) before after
  made_more [] line before between after same made = (after, subst (λ h. makes line h after) same made, refl)
  made_more (first ∷ lines) line before between after each made =
      (each.0, each.1, made_more lines line each.0 between after each.2 made)

  -- the next one of a list was made behind the first ones
  pub made_next : (lines : List A) (i : ℕ) (line : A) (before between after : H) → take (i + 1) lines ≡ take i lines ++ line ∷ []
      → MakesEach makes (take i lines) before between → makes line between after → MakesEach makes (take (i + 1) lines) before after
  made_next lines i line before between after next each made =
      subst (λ ls. MakesEach makes ls before after) (sym next) (made_more (take i lines) line before between after each made)

  -- what each line keeps, they keep together
  pub kept_by_each : {K : Type 0} (seen : H → K) → ((line : A) (before after : H) → makes line before after → seen after ≡ seen before)
      → (lines : List A) (before after : H) → MakesEach makes lines before after → seen after ≡ seen before
  kept_by_each seen keeps [] before after same = ap seen same
  kept_by_each seen keeps (line ∷ lines) before after each =
      kept_by_each seen keeps lines each.0 after each.2 ∙ keeps line before each.0 each.1

-- Lists whose elements go together, place by place.
module _ {A : Type 0} where
  -- the same elements
  pub zip_same : (xs ys : List A) → ys ≡ xs → AllZip (λ x y. y ≡ x) xs ys
  zip_same xs ys same = subst (AllZip (λ x y. y ≡ x) xs) (sym same) (each xs)
    where
      each : (zs : List A) → AllZip (λ x y. y ≡ x) zs zs
      each [] = tt
      each (z ∷ zs) = (refl, each zs)

  -- from the first by one relation to the second, and from there by another to the third
  pub zip_behind : (P Q : A → A → Type 0) (xs ys zs : List A) → AllZip P xs ys → AllZip Q ys zs
      → AllZip (λ x z. (y : A) × P x y × Q y z) xs zs
  zip_behind P Q [] [] [] p q = tt
  zip_behind P Q [] [] (z ∷ zs) p q = absurd q
  zip_behind P Q [] (y ∷ ys) zs p q = absurd p
  zip_behind P Q (x ∷ xs) [] zs p q = absurd p
  zip_behind P Q (x ∷ xs) (y ∷ ys) [] p q = absurd q
  zip_behind P Q (x ∷ xs) (y ∷ ys) (z ∷ zs) p q = ((y, p.0, q.0), zip_behind P Q xs ys zs p.1 q.1)

-- ---- a worker's lines

module _ {H : Type 0} (store : H → Config) (seen : H → Counted) (gets : GetTask → H → H → Type 0)
    (each : (task : GetTask) (before after : H) → gets task before after
    → (store after ≡ store before) × MakesGet (store before) task (seen before) (seen after)) where
  -- what its maker made, the worker made
  all_gotten : (config : Config) (lines : List GetTask) (before after : H) → store before ≡ config
      → MakesEach gets lines before after → MakesEach (MakesGet config) lines (seen before) (seen after)
  all_gotten config [] before after is same = ap seen same
  all_gotten config (line ∷ lines) before after is made =
      let one = each line before made.0 made.1 in (
        seen made.0,
        subst (λ (c : Config). MakesGet c line (seen before) (seen made.0)) is one.1,
        all_gotten config lines made.0 after (one.0 ∙ is) made.2,
      )

  pub turns_gotten : (lets : ℕ → Bool → Type 0) (sees : ℕ → Type 0) (lines : List GetTask) (is_stopped : Bool) (before after : H)
      → MakesTurns gets lets sees lines is_stopped before after
      → MakesTurns (MakesGet (store before)) lets sees lines is_stopped (seen before) (seen after)
  turns_gotten lets sees lines true before after turns =
      (turns.0, turns.1, turns.2, turns.3, all_gotten (store before) (take turns.0 lines) before after refl turns.4)
  turns_gotten lets sees lines false before after turns =
      (turns.0, all_gotten (store before) lines before after refl turns.1)

-- its ring stays
pub ring_of_turns : (config : Config) (lets : ℕ → Bool → Type 0) (sees : ℕ → Type 0) (lines : List GetTask) (is_stopped : Bool)
    (before after : Counted) → MakesTurns (MakesGet config) lets sees lines is_stopped before after
    → after.0.sender.ring ≡ before.0.sender.ring
ring_of_turns config lets sees lines true before after turns =
    kept_by_each (MakesGet config) (λ (c : Counted). c.0.sender.ring) (λ line b a made. made.3) (take turns.0 lines) before after turns.4
ring_of_turns config lets sees lines false before after turns =
    kept_by_each (MakesGet config) (λ (c : Counted). c.0.sender.ring) (λ line b a made. made.3) lines before after turns.1

-- ---- a drainer's lines

-- one more of its lines was looked at, which it makes or not
pub shared_next : (share : Share) (tasks : List ChoreTask) (i : ℕ) (task : ChoreTask) (b : Bool)
    → take (i + 1) tasks ≡ take i tasks ++ task ∷ [] → is_shared share task.chore ≡ b
    → lines_of share (take (i + 1) tasks) ≡ lines_of share (take i tasks) ++ cond b (task ∷ []) []
shared_next share tasks i task b next is =
    ap (lines_of share) next ∙ filter-append (λ (t : ChoreTask). is_shared share t.chore) (take i tasks) (task ∷ [])
    ∙ ap (λ (c : Bool). lines_of share (take i tasks) ++ cond c (task ∷ []) []) is

module _ {H : Type 0} (makes : ChoreTask → H → H → Type 0) (share : Share) (tasks : List ChoreTask) (i : ℕ) (task : ChoreTask)
    (next : take (i + 1) tasks ≡ take i tasks ++ task ∷ []) where
  -- it was made
  pub shared_made : (before between after : H) → is_shared share task.chore ≡ true → MakesEach makes (lines_of share (take i tasks)) before between
      → makes task between after → MakesEach makes (lines_of share (take (i + 1) tasks)) before after
  shared_made before between after is each made =
      subst (λ ls. MakesEach makes ls before after) (sym (shared_next share tasks i task true next is))
      (made_more makes (lines_of share (take i tasks)) task before between after each made)

  -- it was left to another thread
  pub shared_left : (before between after : H) → is_shared share task.chore ≡ false → MakesEach makes (lines_of share (take i tasks)) before between
      → after ≡ between → MakesEach makes (lines_of share (take (i + 1) tasks)) before after
  shared_left before between after is each same =
      subst (λ ls. MakesEach makes ls before after) (sym (shared_next share tasks i task false next is ∙ append-nil (lines_of share (take i tasks))))
      (subst (λ h. MakesEach makes (lines_of share (take i tasks)) before h) (sym same) each)

-- what a line does to the lanes: each is drained once, or they stay
abbrev pub LanesStep : Bool → ℕ → List LaneState → List LaneState → Type 0
LanesStep true now befores afters = AllZip (IsDrained now) befores afters
LanesStep false now befores afters = afters ≡ befores

abbrev LanesMake : ChoreTask → List LaneState → List LaneState → Type 0
LanesMake task befores afters = LanesStep (is_drain task.chore) task.now befores afters

-- the times of a line, where it is a `drain`, and of others
abbrev times_with : Bool → ChoreTask → List ChoreTask → List ℕ
times_with b task tasks = map (λ (t : ChoreTask). t.now) (cond b (task ∷ filter (λ (t : ChoreTask). is_drain t.chore) tasks) (filter (λ (t : ChoreTask). is_drain t.chore) tasks))

abbrev Drains : List ℕ → List LaneState → List LaneState → Type 0
Drains times befores afters = MakesEach (λ (now : ℕ). AllZip (IsDrained now)) times befores afters

-- a line more, which is made
with_line : (b : Bool) (task : ChoreTask) (tasks : List ChoreTask) (befores betweens afters : List LaneState) → LanesStep b task.now befores betweens
    → Drains (drain_times tasks) betweens afters → Drains (times_with b task tasks) befores afters
with_line true task tasks befores betweens afters step drains = (betweens, step, drains)
with_line false task tasks befores betweens afters same drains = subst (λ ls. Drains (drain_times tasks) ls afters) same drains

-- a line more, which is made where it is a `drain`
with_drain : (b : Bool) (task : ChoreTask) (tasks lines : List ChoreTask) (befores afters : List LaneState) → is_drain task.chore ≡ b
    → ((bs : List LaneState) → MakesEach LanesMake lines bs afters → Drains (drain_times tasks) bs afters)
    → MakesEach LanesMake (cond b (task ∷ lines) lines) befores afters → Drains (times_with b task tasks) befores afters
with_drain true task tasks lines befores afters is rest made =
    (made.0, subst (λ (c : Bool). LanesStep c task.now befores made.0) is made.1, rest made.0 made.2)
with_drain false task tasks lines befores afters is rest made = rest befores made

-- whatever its share is, it drains its lanes at each `drain` line
drained_by : (share : Share) (tasks : List ChoreTask) (befores afters : List LaneState) → MakesEach LanesMake (lines_of share tasks) befores afters
    → Drains (drain_times tasks) befores afters
drained_by share [] befores afters same = same
drained_by shares.All (task ∷ tasks) befores afters made =
    with_line (is_drain task.chore) task tasks befores made.0 afters made.1 (drained_by shares.All tasks made.0 afters made.2)
drained_by shares.Drains (task ∷ tasks) befores afters made =
    with_drain (is_drain task.chore) task tasks (lines_of shares.Drains tasks) befores afters refl
    (λ bs. drained_by shares.Drains tasks bs afters) made

-- so each lane is drained once at each time
each_lane : (times : List ℕ) (befores afters : List LaneState) → Drains times befores afters
    → AllZip (MakesEach IsDrained times) befores afters
each_lane [] befores afters same = zip_same befores afters same
each_lane (now ∷ times) befores afters made =
    zip_behind (IsDrained now) (MakesEach IsDrained times) befores made.0 afters made.1 (each_lane times made.0 afters made.2)

module _ {H : Type 0} (lanes : H → List LaneState) (makes : ChoreTask → H → H → Type 0)
    (each : (task : ChoreTask) (before after : H) → makes task before after → LanesMake task (lanes before) (lanes after)) where
  -- what its maker made of the lanes
  of_lanes : (lines : List ChoreTask) (before after : H) → MakesEach makes lines before after
      → MakesEach LanesMake lines (lanes before) (lanes after)
  of_lanes [] before after same = ap lanes same
  of_lanes (line ∷ lines) before after made =
      (lanes made.0, each line before made.0 made.1, of_lanes lines made.0 after made.2)

  pub tended : (share : Share) (tasks : List ChoreTask) (before after : H) → MakesEach makes (lines_of share tasks) before after
      → AllZip (MakesEach IsDrained (drain_times tasks)) (lanes before) (lanes after)
  tended share tasks before after made =
      each_lane (drain_times tasks) (lanes before) (lanes after)
      (drained_by share tasks (lanes before) (lanes after) (of_lanes (lines_of share tasks) before after made))

module _ {H : Type 0} (store : H → Config) (makes : ChoreTask → H → H → Type 0)
    (each : (task : ChoreTask) (before after : H) → makes task before after → (store after ≡ store before) × WasMade (store before) task.chore) where
  -- each of its lines was made on its store
  pub were_made : (lines : List ChoreTask) (config : Config) (before after : H) → store before ≡ config → MakesEach makes lines before after
      → WereMade config lines
  were_made [] config before after is made = All-nil (λ (t : ChoreTask). WasMade config t.chore)
  were_made (line ∷ lines) config before after is made =
      let one = each line before made.0 made.1 in
      All-cons (λ (t : ChoreTask). WasMade config t.chore) line lines (subst (λ (k : Config). WasMade k line.chore) is one.1)
      (were_made lines config made.0 after (one.0 ∙ is) made.2)

-- ---- a drainer's lines, by what each kind of line does

module _ {H : Type 0} (unlinks : ItemId → H → H → Type 0) (pulls : ℕ → Tail → H → H → Type 0) (sweeps : ℕ → H → H → Type 0)
    (drains : ℕ → H → H → Type 0) (store : H → Config) (lanes : H → List LaneState)
    (unlinked : (item : ItemId) (a b : H) → unlinks item a b → (b ≡ a) × Unlinked (store a) item)
    (pulled : (class : ℕ) (tail : Tail) (a b : H) → pulls class tail a b → (b ≡ a) × (class < length (store a).classes → WasPulled (store a) class tail))
    (swept : (class : ℕ) (a b : H) → sweeps class a b → (b ≡ a) × (class < length (store a).classes → WasSwept (store a) class))
    (drained : (now : ℕ) (a b : H) → drains now a b → (store b ≡ store a) × AllZip (IsDrained now) (lanes a) (lanes b)) where
  abbrev Does : ChoreTask → H → H → Type 0
  Does task a b = MakesChore unlinks pulls sweeps drains task a b

  -- what it does to the lanes
  to_lanes : (chore : Chore) (now : ℕ) (a b : H) → DoesChore unlinks pulls sweeps drains chore now a b → LanesStep (is_drain chore) now (lanes a) (lanes b)
  to_lanes (chores.Unlink item) now a b does = ap lanes (unlinked item a b does).0
  to_lanes (chores.Pull class tail) now a b does = ap lanes (pulled class tail a b does).0
  to_lanes (chores.Sweep class) now a b does = ap lanes (swept class a b does).0
  to_lanes chores.Drain now a b does = (drained now a b does).1

  -- and to the store
  to_store : (chore : Chore) (now : ℕ) (a b : H) → DoesChore unlinks pulls sweeps drains chore now a b
      → (store b ≡ store a) × WasMade (store a) chore
  to_store (chores.Unlink item) now a b does = (ap store (unlinked item a b does).0, (unlinked item a b does).1)
  to_store (chores.Pull class tail) now a b does = (ap store (pulled class tail a b does).0, (pulled class tail a b does).1)
  to_store (chores.Sweep class) now a b does = (ap store (swept class a b does).0, (swept class a b does).1)
  to_store chores.Drain now a b does = ((drained now a b does).0, tt)

  pub chores_drained : (share : Share) (tasks : List ChoreTask) (a b : H) → MakesEach (MakesChore unlinks pulls sweeps drains) (lines_of share tasks) a b
      → AllZip (MakesEach IsDrained (drain_times tasks)) (lanes a) (lanes b)
  chores_drained share tasks a b made =
      tended lanes Does (λ task x y does. to_lanes task.chore task.now x y does) share tasks a b made

  pub chores_made : (lines : List ChoreTask) (a b : H) → MakesEach (MakesChore unlinks pulls sweeps drains) lines a b → WereMade (store a) lines
  chores_made lines a b made =
      were_made store Does (λ task x y does. to_store task.chore task.now x y does) lines (store a) a b refl made

-- lanes that were drained are of the same rings
pub rings_drained : (times : List ℕ) (befores afters : List LaneState) → AllZip (MakesEach IsDrained times) befores afters
    → lane_rings afters ≡ lane_rings befores
rings_drained times befores afters each =
    zip_map (MakesEach IsDrained times) (λ (l : LaneState). l.lane.ring) (λ (l : LaneState). l.lane.ring)
    (λ before after made. kept_by_each IsDrained (λ (l : LaneState). l.lane.ring) (λ now b a drained. drained.ring) times before after made)
    befores afters each
