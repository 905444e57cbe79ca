-- A worker's ring and lane: the bump that the ring takes, the one that the lane takes next, the numbers
-- of bumps, and a lane further on.
use Rattle.std.proofs.Common.{◌≡◌, ℕ, suc, ◌+◌, ◌≤◌, List, [], ◌∷◌, ◌++◌, length, map, drop, Some, ap, ◌∙◌, arith}
use Rattle.std.proofs.Math.Seq.{drop-cons}
use Rattle.std.proofs.lemmas.List.{drop-append-le}
use Rattle.std.proofs.lemmas.Option.{slice_get_within, get_or_from_slice_get}
use Rattle.bump_rules.specs.declared.items.ItemId.{ItemId}
use Rattle.bump_rules.specs.declared.bumps.Bump.{Bump}
use Rattle.bump_rules.specs.declared.lanes.LaneStage.{LaneStage}
use Rattle.model_state.specs.Events.{next_bump}
use Rattle.bump_rules.specs.Lanes.{bump_of}
use Rattle.model_state.specs.Rings.{in_ring, IsWorker}
use Rattle.bump_rules.specs.Rings.{aboard, bump_applied, numbered_from}
use Rattle.model_state.specs.State.{WorkerState}

-- a ring with one more bump at its end
pub in_ring_push : (x y : WorkerState) (l : ItemId) → length x.received ≤ length x.sent → y.received ≡ x.received
    → y.sent ≡ x.sent ++ l ∷ [] → in_ring y ≡ in_ring x ++ l ∷ []
in_ring_push x y l below received sent = (λ i. drop (length (received i)) (sent i))
    ∙ drop-append-le (length x.received) x.sent (l ∷ []) below

-- the next bump is the first in the ring, and the rest stays there
pub next_in_ring : (x : WorkerState) (l : ItemId) → next_bump x ≡ Some l → in_ring x
    ≡ l ∷ drop (suc (length x.received)) x.sent
next_in_ring x l is = drop-cons x.sent (length x.received) l (slice_get_within x.sent (length x.received) l is)
    ∙ ap (λ m. m ∷ drop (suc (length x.received)) x.sent) (get_or_from_slice_get x.sent (length x.received) l l is)

-- two lists numbered from a number: the second goes on where the first ends
pub numbered_append : (n : ℕ) (xs ys : List ItemId) (k : ℕ) → k ≡ n + length xs → numbered_from n (xs ++ ys)
    ≡ numbered_from n xs ++ numbered_from k ys
numbered_append n [] ys k e = ap (λ (j : ℕ). numbered_from j ys) (let same : n ≡ k = omega arith in same)
numbered_append n (x ∷ xs) ys k e = ap (λ (bs : List Bump). bump_of n x ∷ bs) (numbered_append (suc n) xs ys k
    (omega arith))

-- a lane further on with the same bump keeps its worker lawful
pub lane_further : (capacity : ℕ) (x : WorkerState) (z : LaneStage) → IsWorker capacity x → aboard z ≡ aboard x.lane
    → IsWorker capacity (record x { lane = z })
lane_further capacity x z was same = record {
  ring = was.ring;
  applied = ap (λ bs. map bump_applied x.applied ++ bs) same ∙ was.applied;
  accounts = was.accounts;
}
