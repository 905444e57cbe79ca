-- A life that has references and isn't linked was unlinked, and its class's history has that.
use Rattle.std.proofs.Common.{◌≡◌, ℕ, ◌<◌, ◌≢◌, false, sym, ◌∙◌}
use Rattle.bump_rules.specs.declared.places.Place.TheVariants.{Dying, Unused}
use Rattle.bump_rules.specs.Lives.{life}
use Rattle.bump_rules.specs.Totals.{how_many}
use Rattle.bump_rules.specs.Entries.{is_unlink_of}
use Rattle.model_state.specs.State.{State, head_at, class_at, class_of}
use Rattle.model_state.specs.Worlds.{references, place, IsLawful}
use Rattle.bump_rules.proofs.Laws.{dying_where_unlinked}
use Rattle.bump_rules.proofs.Unlinks.{unlinked_where_dying}
use Rattle.model_state.proofs.LawfulStates.{referred_current, referred_used}

-- UNUSED is not DYING
unused_not_dying : Unused ≢ Dying
unused_not_dying is = let u : ⊥ = cc in u

-- a life that has references and isn't linked was unlinked
pub referred_unlinked : (s : State) → IsLawful s → (c g : ℕ) → 0 < references s c g → (head_at s c).linked ≡ false
    → 0 < how_many (is_unlink_of (life c g)) (class_at s (class_of s c)).history
referred_unlinked s o c g some off = unlinked_where_dying c g (Unused, (class_at s (class_of s c)).fresh)
    (class_at s (class_of s c)).history unused_not_dying
    (dying_where_unlinked (head_at s c) (place s c) (o.chunks c).shown (referred_used s o c g some) off)
    (o.generations c ∙ sym (referred_current s o c g some))
