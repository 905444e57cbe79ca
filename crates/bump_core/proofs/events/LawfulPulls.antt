-- The events of pulls leave a lawful state lawful: ACTIVE is cleared, and an item moves to the front of a segment.
use Rattle.std.proofs.Common.{◌≡◌, ℕ, true, false, not, refl, arith, ◌<◌, length, ap}
use Rattle.std.proofs.lemmas.Bool.{and_parts}
use Rattle.bump_rules.specs.declared.events.Event.TheVariants as event
use Rattle.model_state.specs.State.{State, head_at, class_of, is_under_application, with_head}
use Rattle.bump_rules.specs.Lanes.{applied_life}
use Rattle.bump_rules.specs.Heads.{cleared_head, moved_head}
use Rattle.model_state.specs.Events.{is_enabled, after}
use Rattle.model_state.specs.Worlds.{references, first_hits_of, place, IsLawful}
use Rattle.bump_rules.proofs.Laws.{marked, moved}
use Rattle.model_state.proofs.Enabled.{linked_there, move_from, none_applies}
use Rattle.bump_core.proofs.worlds.Frames.{head_lawful}
use Rattle.bump_rules.specs.declared.places.Segment.{Segment}
use Rattle.bump_rules.specs.declared.history.Change.TheVariants as change
use Rattle.bump_rules.specs.declared.history.Cause.TheVariants.{Pull}
use Rattle.bump_rules.specs.Lives.{life}
use Rattle.model_state.proofs.Tiles.{class_within, class_owns}
use Rattle.bump_core.proofs.events.Moves.{change_lawful}

-- a pull clears ACTIVE
pub clear_active_lawful : (s : State) (c : ℕ) → IsLawful s → c < length s.chunks
    → IsLawful (with_head s c (cleared_head (head_at s c)))
clear_active_lawful s c o within = head_lawful s c (cleared_head (head_at s c)) o within refl refl refl
    (marked s.refs_limit (head_at s c) (place s c) (references s c) (first_hits_of s c) (o.chunks c) false
    (omega arith))

-- The events.

-- a pull clears ACTIVE
pub after_clear_active : (s : State) (c : ℕ) → IsLawful s → is_enabled s (event.ClearActive c) ≡ true
    → IsLawful (after s (event.ClearActive c))
after_clear_active s c o enabled =
    clear_active_lawful s c o (linked_there s c (and_parts (head_at s c).linked (not (is_under_application s
    (class_of s c))) enabled).0)

-- a pull's move keeps a World lawful
pub after_move : (s : State) → IsLawful s → (c : ℕ) (to : Segment) → is_enabled s (event.Move c to) ≡ true
    → IsLawful (after s (event.Move c to))
after_move s o c to enabled = let may = move_from s c to enabled in
    change_lawful s o c (moved_head to (head_at s c)) (class_of s c) (change.Moved (life c (head_at s c).generation)
    (head_at s c).segment to Pull) (class_within s o.tiles c may.0) (class_owns s o.tiles c may.0) refl
    (λ g. refl)
    (moved s.refs_limit (head_at s c) (place s c) (references s c) (first_hits_of s c) (o.chunks c) to may.1)
    refl
    refl
    (λ w w_in b is same. none_applies s (class_of s c) w b.life may.2 w_in (ap applied_life is) (ap (class_of s) same))
