-- Holds and the items that they are of, for crates that keep holds themselves.
use Rattle.std.proofs.Common.{◌≡◌, ℕ, ◌<◌, true, length, inl, inr, arith, Some}
use Rattle.std.proofs.lemmas.Bool.{cases_lt, and_from, lt-ltb, eq-eqb}
use Rattle.bump_rules.specs.declared.items.ItemId.{ItemId}
use Rattle.model_state.specs.Events.{next_chunk}
use Rattle.bump_rules.specs.Lives.{life}
use Rattle.model_state.specs.State.{State, chunk_at, is_held}
use Rattle.model_state.specs.Worlds.{IsLawful, holds_of}
use Rattle.model_state.proofs.LawfulStates.{referred_in_range, referred_used}
use Rattle.model_state.proofs.Fronts.{next_front}
pub use Rattle.model_state.proofs.LawfulStates.{held_by, held_at, held_else, held_current, holds_counted, one_if_same, one_if_cases}

-- nobody holds a life of the chunk that is linked next
pub unheld_next : (s : State) → IsLawful s → (k c g : ℕ) → k < length s.classes → next_chunk s k ≡ Some c
    → held_by (chunk_at s c) g ≡ 0
unheld_next s o k c g within is = elim (cases_lt 0 (holds_of s (life c g))) [
  | inl some ↦ absurd (let used = referred_used s o c g (omega (arith, some, holds_counted s (life c g))) in
      let free = (next_front s o k c within is).2 in rw free at used)
  | inr none ↦ omega (arith, none)
]

-- a life with holds is held
pub held_from : (s : State) → IsLawful s → (l : ItemId) → 0 < holds_of s l → is_held s l ≡ true
held_from s o l some =
    let current = held_current s l some in
    let within = referred_in_range s o l.chunk l.generation (omega (arith, some, holds_counted s l)) in
    and_from _ _ (and_from _ _ (lt-ltb l.chunk (length s.chunks) within) (eq-eqb _ _ current.0))
    (lt-ltb 0 _ (omega (arith, some, current.1)))
