-- What follows for a lawful state: which numbers are in range, which lives are current, and what the counts are below.
use Rattle.std.proofs.Common.{false, ◌⊎◌, inl, inr, length-append, ◌≡◌, ℕ, ◌<◌, ◌≤◌, ◌≢◌, true, cond, eqb, length, refl, sym, ap, ◌∙◌, subst, Some, arith, eq-eqb, ne_eqb}
use Rattle.std.proofs.lemmas.Bool.{and_parts, and_from, and_left, and_right, cases_lt, eqb-true}
use Rattle.std.proofs.lemmas.List.{get_or_past}
use mathlib.Core.Logic.{dite}
use native.Mathlib.Decide.{ℕ_discrete}
use Rattle.bump_rules.specs.declared.places.Place.TheVariants.{Unused}
use Rattle.bump_rules.specs.declared.items.ItemId.{ItemId}
use Rattle.bump_rules.specs.declared.bumps.Bump.{Bump}
use Rattle.bump_rules.specs.declared.lanes.LaneStage.{LaneStage}
use Rattle.bump_rules.specs.declared.lanes.LaneStage.TheVariants as lane
use Rattle.bump_rules.specs.declared.hands.Hand.TheVariants as hand
use Rattle.model_state.specs.declared.chunks.Chunk.{Chunk}
use Rattle.bump_rules.specs.declared.places.Segment.TheVariants as segment
use Rattle.bump_rules.specs.Lawful.{Shows, IsUsed}
use Rattle.bump_rules.specs.Lives.{life, is_same, one_if}
use Rattle.model_state.specs.Rings.{in_ring}
use Rattle.model_state.specs.State.{State, chunk_at, head_at, worker_at, class_of, no_class, new_worker}
use Rattle.bump_rules.specs.Hands.{is_on}
use Rattle.bump_rules.specs.Lanes.{applied_life}
use Rattle.model_state.specs.Worlds.{holds_of, in_lane_of, bumps_of, references, first_hits_of, place_in, place, WaitsToMove, IsLawful}
use Rattle.model_state.proofs.Tiles.{class_out}
use Rattle.bump_rules.proofs.Laws.{used_where_linked, none_where_free}
use Rattle.bump_rules.proofs.Updates.{term_within}

-- Whether two lives are one.

-- a life is itself
pub same_life : (l : ItemId) → is_same l l ≡ true
same_life l = and_from (eqb l.chunk l.chunk) (eqb l.generation l.generation) (eq-eqb l.chunk l.chunk refl)
    (eq-eqb l.generation l.generation refl)

-- a life counts for itself
pub one_if_same : (l : ItemId) → one_if l l ≡ 1
one_if_same l = ap (λ b. cond b 1 0) (same_life l)

-- a life of another chunk doesn't count
pub one_if_elsewhere : (l m : ItemId) → l.chunk ≢ m.chunk → one_if l m ≡ 0
one_if_elsewhere l m other = ap (λ b. cond b 1 0) (and_left (eqb l.chunk m.chunk) (eqb l.generation m.generation)
    (ne_eqb l.chunk m.chunk other))

-- nor does another life of the chunk
pub one_if_other_life : (l m : ItemId) → l.generation ≢ m.generation → one_if l m ≡ 0
one_if_other_life l m other = ap (λ b. cond b 1 0) (and_right (eqb l.chunk m.chunk) (eqb l.generation m.generation)
    (ne_eqb l.generation m.generation other))

-- a life of the chunk with the generation counts
pub one_if_at : (l : ItemId) (g : ℕ) → g ≡ l.generation → one_if (life l.chunk g) l ≡ 1
one_if_at l g e = ap (λ k. one_if (life l.chunk k) l) e ∙ one_if_same l

-- and with another one it doesn't
pub one_if_not_at : (l : ItemId) (g : ℕ) → g ≢ l.generation → one_if (life l.chunk g) l ≡ 0
one_if_not_at l g ne = one_if_other_life (life l.chunk g) l ne

-- a life is another, or doesn't count
pub one_if_cases : (l m : ItemId) → (l ≡ m) ⊎ (one_if l m ≡ 0)
one_if_cases l m = dite (ℕ_discrete l.chunk m.chunk)
    (λ e. dite (ℕ_discrete l.generation m.generation) (λ f. inl (λ i. life (e i) (f i)))
    (λ ne. inr (one_if_other_life l m ne)))
    (λ ne. inr (one_if_elsewhere l m ne))

-- lives that test as one are one
pub same_lives : (l m : ItemId) → is_same l m ≡ true → l ≡ m
same_lives l m e = let both = and_parts (eqb l.chunk m.chunk) (eqb l.generation m.generation) e in
    let chunks = eqb-true l.chunk m.chunk both.0 in
    let generations = eqb-true l.generation m.generation both.1 in
    λ i. life (chunks i) (generations i)

-- a lane that applies a bump has it aboard
applied_counts : (x : LaneStage) (l : ItemId) → applied_life x ≡ Some l → 0 < in_lane_of l x
applied_counts lane.Empty l is = absurd (let u : ⊥ = cc in u)
applied_counts (lane.Carrying b) l is = absurd (let u : ⊥ = cc in u)
applied_counts (lane.Tried b) l is = let same : b.life ≡ l = cc in omega (arith, ap (one_if l) same, one_if_same l)
applied_counts (lane.Cleared b found) l is = let same : b.life ≡ l = cc in omega (
  arith,
  ap (one_if l) same,
  one_if_same l,
)
applied_counts (lane.Moved b) l is = let same : b.life ≡ l = cc in omega (arith, ap (one_if l) same, one_if_same l)

-- Numbers out of range.

-- a chunk past the end stands nowhere but in UNUSED
pub place_past : (s : State) → IsLawful s → (c : ℕ) → length s.chunks ≤ c → place s c ≡ Unused
place_past s o c past = ap (λ k. place_in k c) (get_or_past s.classes (class_of s c) no_class (omega (
  arith,
  class_out s o.tiles c past,
)))

-- a chunk that isn't free is in range
pub used_in_range : (s : State) → IsLawful s → (c : ℕ) → IsUsed (place s c) → c < length s.chunks
used_in_range s o c used = elim (cases_lt c (length s.chunks)) [
  | inl within ↦ within
  | inr past ↦ absurd
      (subst IsUsed (place_past s o c past) used)
]

-- References.

-- the holds of a life with this generation, by the chunk
abbrev pub held_by : Chunk → ℕ → ℕ
held_by x g = cond (eqb x.head.generation g) x.holds 0

-- the chunk's generation has its holds
pub held_at : (x : Chunk) (g : ℕ) → x.head.generation ≡ g → held_by x g ≡ x.holds
held_at x g is = ap (λ b. cond b x.holds 0) (eq-eqb x.head.generation g is)

-- the same of the generation itself
pub held_here : (x : Chunk) → held_by x x.head.generation ≡ x.holds
held_here x = held_at x x.head.generation refl

-- and another has none
pub held_else : (x : Chunk) (g : ℕ) → g ≢ x.head.generation → held_by x g ≡ 0
held_else x g other = ap (λ b. cond b x.holds 0) (ne_eqb x.head.generation g (λ e. other (sym e)))

-- a life with holds is its chunk's, and all the chunk's holds are of it
pub held_current : (s : State) (l : ItemId) → 0 < holds_of s l → ((head_at s l.chunk).generation ≡ l.generation)
    × (holds_of s l ≡ (chunk_at s l.chunk).holds)
held_current s l some = dite (ℕ_discrete l.generation (head_at s l.chunk).generation) (λ e. (
  sym e,
  held_at (chunk_at s l.chunk) l.generation (sym e),
)) (λ ne. absurd (omega (
  arith,
  held_else (chunk_at s l.chunk) l.generation ne,
)))

-- the holds of a life are references to it
pub holds_counted : (s : State) (l : ItemId) → holds_of s l ≤ references s l.chunk l.generation
holds_counted s l = omega arith

-- and so are the bumps of each worker
pub bumps_counted : (s : State) (l : ItemId) (w : ℕ) → w < length s.workers
    → bumps_of l (worker_at s w) ≤ references s l.chunk l.generation
bumps_counted s l w within = omega (arith, term_within (bumps_of l) s.workers w new_worker within)

module _ (s : State) (o : IsLawful s) where
  -- a chunk with a reference to a life of it is in range
  pub referred_in_range : (c g : ℕ) → 0 < references s c g → c < length s.chunks
  referred_in_range c g some = used_in_range s o c ((o.chunks c).used g some).1

  -- the life is its chunk's
  pub referred_current : (c g : ℕ) → 0 < references s c g → g ≡ (head_at s c).generation
  referred_current c g some = ((o.chunks c).used g some).0

  -- the chunk isn't free
  pub referred_used : (c g : ℕ) → 0 < references s c g → IsUsed (place s c)
  referred_used c g some = ((o.chunks c).used g some).1

  -- a linked chunk is in range
  pub linked_in_range : (c : ℕ) → (head_at s c).linked ≡ true → c < length s.chunks
  linked_in_range c on = used_in_range s o c (used_where_linked (head_at s c) (place s c) (o.chunks c).shown on)

  -- an item that a lane is to move is linked, and in COLD
  pub waiting_linked : (w : ℕ) (b : Bump) → w < length s.workers → (worker_at s w).lane ≡ lane.Cleared b true
      → ((head_at s b.life.chunk).linked ≡ true) × ((head_at s b.life.chunk).segment ≡ segment.Cold)
  waiting_linked w b within is = subst (WaitsToMove s) is (o.waits w within)

  -- Lives in a worker's hand.

  -- a life that a worker is on has a hold
  pub on_held : (w : ℕ) (l : ItemId) → w < length s.workers → 0 < is_on l (worker_at s w).hand → 0 < holds_of s l
  on_held w l within some = omega (arith, o.hands l, term_within (λ x. is_on l x.hand) s.workers w new_worker within)

  -- and so references
  pub on_referred : (w : ℕ) (l : ItemId) → w < length s.workers → 0 < is_on l (worker_at s w).hand
      → 0 < references s l.chunk l.generation
  on_referred w l within some = omega (arith, on_held w l within some)

  -- a worker is on the life of which it tries to take a reference
  trying_on : (w : ℕ) (l : ItemId) → (worker_at s w).hand ≡ hand.Trying l → 0 < is_on l (worker_at s w).hand
  trying_on w l is = omega (arith, ap (is_on l) is, one_if_same l)

  -- on the life to which it has a reference
  in_hand_on : (w : ℕ) (l : ItemId) → (worker_at s w).hand ≡ hand.InHand l → 0 < is_on l (worker_at s w).hand
  in_hand_on w l is = omega (arith, ap (is_on l) is, one_if_same l)

  -- and on the life whose ACTIVE it is to clear
  clearing_on : (w : ℕ) (l : ItemId) → (worker_at s w).hand ≡ hand.Clearing l → 0 < is_on l (worker_at s w).hand
  clearing_on w l is = omega (arith, ap (is_on l) is, one_if_same l)

  -- and so references
  pub tried_referred : (w : ℕ) (l : ItemId) → w < length s.workers → (worker_at s w).hand ≡ hand.Trying l
      → 0 < references s l.chunk l.generation
  tried_referred w l within is = on_referred w l within (trying_on w l is)

  -- its chunk is in range
  pub tried_in_range : (w : ℕ) (l : ItemId) → w < length s.workers → (worker_at s w).hand ≡ hand.Trying l
      → l.chunk < length s.chunks
  tried_in_range w l within is = referred_in_range l.chunk l.generation (tried_referred w l within is)

  -- and it is its chunk's
  pub tried_current : (w : ℕ) (l : ItemId) → w < length s.workers → (worker_at s w).hand ≡ hand.Trying l
      → l.generation ≡ (head_at s l.chunk).generation
  tried_current w l within is = referred_current l.chunk l.generation (tried_referred w l within is)

  -- and so references
  pub in_hand_referred : (w : ℕ) (l : ItemId) → w < length s.workers → (worker_at s w).hand ≡ hand.InHand l
      → 0 < references s l.chunk l.generation
  in_hand_referred w l within is = on_referred w l within (in_hand_on w l is)

  -- its chunk is in range
  pub in_hand_in_range : (w : ℕ) (l : ItemId) → w < length s.workers → (worker_at s w).hand ≡ hand.InHand l
      → l.chunk < length s.chunks
  in_hand_in_range w l within is = referred_in_range l.chunk l.generation (in_hand_referred w l within is)

  -- and it is its chunk's
  pub in_hand_current : (w : ℕ) (l : ItemId) → w < length s.workers → (worker_at s w).hand ≡ hand.InHand l
      → l.generation ≡ (head_at s l.chunk).generation
  in_hand_current w l within is = referred_current l.chunk l.generation (in_hand_referred w l within is)

  -- and so references
  pub cleared_referred : (w : ℕ) (l : ItemId) → w < length s.workers → (worker_at s w).hand ≡ hand.Clearing l
      → 0 < references s l.chunk l.generation
  cleared_referred w l within is = on_referred w l within (clearing_on w l is)

  -- its chunk is in range
  pub cleared_in_range : (w : ℕ) (l : ItemId) → w < length s.workers → (worker_at s w).hand ≡ hand.Clearing l
      → l.chunk < length s.chunks
  cleared_in_range w l within is = referred_in_range l.chunk l.generation (cleared_referred w l within is)

  -- Bumps in a lane.

  -- a life with a bump aboard a lane has references
  pub aboard_referred : (w : ℕ) (l : ItemId) → w < length s.workers → 0 < in_lane_of l (worker_at s w).lane
      → 0 < references s l.chunk l.generation
  aboard_referred w l within some = omega (arith, bumps_counted s l w within)

  -- its chunk is in range
  pub aboard_in_range : (w : ℕ) (l : ItemId) → w < length s.workers → 0 < in_lane_of l (worker_at s w).lane
      → l.chunk < length s.chunks
  aboard_in_range w l within some = referred_in_range l.chunk l.generation (aboard_referred w l within some)

  -- it is its chunk's
  pub aboard_current : (w : ℕ) (l : ItemId) → w < length s.workers → 0 < in_lane_of l (worker_at s w).lane
      → l.generation ≡ (head_at s l.chunk).generation
  aboard_current w l within some = referred_current l.chunk l.generation (aboard_referred w l within some)

  -- a lane that applies a bump has it aboard
  pub applied_aboard : (w : ℕ) (l : ItemId) → applied_life (worker_at s w).lane ≡ Some l
      → 0 < in_lane_of l (worker_at s w).lane
  applied_aboard w l is = applied_counts (worker_at s w).lane l is

  -- the chunk of a bump that is applied is in range
  pub applied_in_range : (w : ℕ) (l : ItemId) → w < length s.workers → applied_life (worker_at s w).lane ≡ Some l
      → l.chunk < length s.chunks
  applied_in_range w l within is = aboard_in_range w l within (applied_aboard w l is)

  -- by how far the lane is: the chunk of its bump is in range
  pub carrying_in_range : (w : ℕ) (b : Bump) → w < length s.workers → (worker_at s w).lane ≡ lane.Carrying b
      → b.life.chunk < length s.chunks
  carrying_in_range w b within is = aboard_in_range w b.life within (omega (
    arith,
    ap (in_lane_of b.life) is,
    one_if_same b.life,
  ))

  -- where it looked at the item
  pub looked_in_range : (w : ℕ) (b : Bump) → w < length s.workers → (worker_at s w).lane ≡ lane.Tried b
      → b.life.chunk < length s.chunks
  looked_in_range w b within is = aboard_in_range w b.life within (omega (
    arith,
    ap (in_lane_of b.life) is,
    one_if_same b.life,
  ))

  -- Free chunks.

  -- no life of a chunk in UNUSED has references
  pub unused_unreferred : (c : ℕ) → place s c ≡ Unused → (g : ℕ) → references s c g ≡ 0
  unused_unreferred c is = none_where_free s.refs_limit (head_at s c) (place s c) (references s c) (first_hits_of s c)
      (o.chunks c) (ap IsUsed is)

  -- its head isn't linked, and has not the last generation
  pub unused_shown : (c : ℕ) → place s c ≡ Unused → ((head_at s c).linked ≡ false)
      × ((head_at s c).generation < 4294967295)
  unused_shown c is = subst (Shows (head_at s c)) is (o.chunks c).shown

  -- A worker's ring.

  -- a lane received no more than was sent
  pub received_within : (w : ℕ) → w < length s.workers → length (worker_at s w).received ≤ length (worker_at s w).sent
  received_within w within = omega (
    arith,
    ap length (o.workers w within).ring.prefix,
    length-append (worker_at s w).received (in_ring (worker_at s w)),
  )
