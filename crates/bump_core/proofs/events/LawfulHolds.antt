-- The events of holds leave a lawful state lawful: loads, and holds that are taken and given back.
use Rattle.std.proofs.Common.{◌≡◌, ℕ, ◌+◌, ◌-◌, ◌<◌, true, ◌&&◌, length, refl, ap, arith}
use Rattle.std.proofs.lemmas.Bool.{and_parts, ltb-true}
use mathlib.Core.Logic.{dite}
use native.Mathlib.Decide.{ℕ_discrete}
use Rattle.bump_rules.specs.declared.items.ItemId.{ItemId}
use Rattle.model_state.specs.declared.chunks.Chunk.{Chunk}
use Rattle.bump_rules.specs.declared.events.Event.TheVariants as event
use Rattle.bump_rules.specs.Lives.{life}
use Rattle.model_state.specs.State.{State, chunk_at, head_at, with_chunk, workers_on, is_current, is_linked, is_open}
use Rattle.bump_rules.specs.Heads.{one_more, one_fewer}
use Rattle.model_state.specs.Events.{is_under_limit, is_enabled, after, with_hold, without_hold}
use Rattle.model_state.specs.Worlds.{holds_of, references, first_hits_of, place, IsLawful}
use Rattle.bump_rules.proofs.Laws.{used_where_linked, referred, unreferred}
use Rattle.model_state.proofs.LawfulStates.{held_by, held_here, held_else}
use Rattle.bump_core.proofs.worlds.Frames.{chunk_here, chunk_lawful}
use Rattle.model_state.proofs.Enabled.{current_from, free_hold_from}

-- a linked chunk under the limit gets one more hold
pub hold_lawful : (s : State) (c : ℕ) → IsLawful s → (head_at s c).linked ≡ true → c < length s.chunks
    → (head_at s c).refs < s.refs_limit → IsLawful (with_hold s c)
hold_lawful s c o on within few = chunk_lawful s c x o within refl refl refl
    (referred s.refs_limit (head_at s c) (place s c) (references s c) (first_hits_of s c) (o.chunks c)
    (references (with_chunk s c x) c) (used_where_linked (head_at s c) (place s c) (o.chunks c).shown on) few
    (omega (arith, now (head_at s c).generation, held_here x, held_here (chunk_at s c)))
    (λ g ne. omega (arith, now g, held_else x g ne, held_else (chunk_at s c) g ne)))
    (λ g. dite (ℕ_discrete g (head_at s c).generation)
    (λ e. omega (
      arith,
      o.hands (life c g),
      ap (held_by x) e,
      held_here x,
      ap (held_by (chunk_at s c)) e,
      held_here (chunk_at s c),
    ))
    (λ ne. omega (arith, o.hands (life c g), held_else (chunk_at s c) g ne)))
  where
    x : Chunk
    x = record (chunk_at s c) { head = one_more (head_at s c); holds = (chunk_at s c).holds + 1 }

    now : (g : ℕ) → references (with_chunk s c x) c g + holds_of s (life c g) ≡ references s c g + held_by x g
    now g = omega (arith, ap (λ z. held_by z g) (chunk_here s c x within))

-- a chunk with more holds than workers on its life gets one fewer
pub unhold_lawful : (s : State) (c : ℕ) → IsLawful s → c < length s.chunks
    → workers_on s (life c (head_at s c).generation) < (chunk_at s c).holds → IsLawful (without_hold s c)
unhold_lawful s c o within free = chunk_lawful s c x o within refl refl refl
    (unreferred s.refs_limit (head_at s c) (place s c) (references s c) (first_hits_of s c) (o.chunks c)
    (references (with_chunk s c x) c)
    (omega (arith, now (head_at s c).generation, held_here x, held_here (chunk_at s c)))
    (λ g ne. omega (arith, now g, held_else x g ne, held_else (chunk_at s c) g ne)))
    (λ g. dite (ℕ_discrete g (head_at s c).generation)
    (λ e. omega (arith, ap (λ k. workers_on s (life c k)) e, ap (held_by x) e, held_here x))
    (λ ne. omega (arith, o.hands (life c g), held_else (chunk_at s c) g ne)))
  where
    x : Chunk
    x = record (chunk_at s c) { head = one_fewer (head_at s c); holds = (chunk_at s c).holds - 1 }

    now : (g : ℕ) → references (with_chunk s c x) c g + holds_of s (life c g) ≡ references s c g + held_by x g
    now g = omega (arith, ap (λ z. held_by z g) (chunk_here s c x within))

-- The events.

-- a load
pub after_load : (s : State) (c : ℕ) → IsLawful s → is_enabled s (event.Load c) ≡ true
    → IsLawful (after s (event.Load c))
after_load s c o enabled = o

-- a hold is taken
pub after_take : (s : State) (w : ℕ) (l : ItemId) → IsLawful s → is_enabled s (event.Take w l) ≡ true
    → IsLawful (after s (event.Take w l))
after_take s w l o enabled = let inside = and_parts (is_linked s l) (is_under_limit s l.chunk) (and_parts (is_open s w)
    (is_linked s l && is_under_limit s l.chunk) enabled).1 in
    let linked = and_parts (is_current s l) (head_at s l.chunk).linked inside.0 in
    hold_lawful s l.chunk o linked.1 (current_from s l linked.0).0
    (ltb-true (head_at s l.chunk).refs s.refs_limit inside.1)

-- a hold is given back
pub after_release : (s : State) (l : ItemId) → IsLawful s → is_enabled s (event.Release l) ≡ true
    → IsLawful (after s (event.Release l))
after_release s l o enabled = let free = free_hold_from s l enabled in
    unhold_lawful s l.chunk o free.0 (omega (arith, free.2, ap (λ g. workers_on s (life l.chunk g)) free.1))
