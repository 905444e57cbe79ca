-- The events of ends leave a lawful state lawful: a life ends, and a chunk without holders is free.
use Rattle.std.proofs.Common.{◌≡◌, ℕ, ◌==◌, ◌≤◌, Bool, true, false, if◌then◌else◌, refl, sym, ap, ◌∙◌, subst, arith}
use Rattle.std.proofs.lemmas.Bool.{eqb-true, eqb-false}
use Rattle.bump_rules.specs.declared.items.Head.{Head}
use Rattle.bump_rules.specs.declared.items.ItemId.{ItemId}
use Rattle.bump_rules.specs.declared.history.Change.{Change}
use Rattle.bump_rules.specs.declared.history.Change.TheVariants as change
use Rattle.bump_rules.specs.declared.places.Place.TheVariants.{Dying}
use Rattle.bump_rules.specs.declared.events.Event.TheVariants as event
use Rattle.bump_rules.specs.Heads.{unlinked_head}
use Rattle.bump_rules.specs.Entries.{names_bump}
use Rattle.bump_rules.specs.History.{subject, target, freed_change}
use Rattle.bump_rules.specs.Lawful.{Shows}
use Rattle.bump_rules.specs.Lives.{life}
use Rattle.model_state.specs.State.{State, head_at, class_of, with_change}
use Rattle.bump_rules.specs.Lanes.{applied_life}
use Rattle.model_state.specs.Events.{is_enabled, after}
use Rattle.model_state.specs.Worlds.{references, first_hits_of, place, IsLawful}
use Rattle.bump_rules.proofs.Laws.{unlinked, ended}
use Rattle.model_state.proofs.Tiles.{class_within, class_owns}
use Rattle.model_state.proofs.Enabled.{unlink_from, sweep_from, none_applies}
use Rattle.bump_core.proofs.events.Moves.{change_lawful}
use Rattle.bump_core.proofs.worlds.Frames.{same_head}
use Rattle.model_state.proofs.Fronts.{listed}

-- What a sweep finds and enters.

-- a chunk that may be swept is DYING
pub swept_dying : (s : State) → IsLawful s → (c : ℕ) → is_enabled s (event.Sweep c) ≡ true → place s c ≡ Dying
swept_dying s o c enabled = let may = sweep_from s o c enabled in
    (listed s o (class_of s c) c Dying (class_within s o.tiles c may.0) may.1).2

-- the entry speaks of the life and names no bump, and the place to which it puts the chunk is one for an unlinked
-- head of that life's generation
pub record IsFreed (l : ItemId) (e : Change) : Type 0 where
  pub is : subject e ≡ l
  pub plain : names_bump e ≡ false
  pub shows : (h : Head) → h.linked ≡ false → h.generation ≡ l.generation → h.generation ≤ 4294967295
      → Shows h (target e)

-- so it is with the entry of a chunk that is found without holders
pub freed : (l : ItemId) → IsFreed l (freed_change l)
freed l = by (l.generation == 4294967295) refl
  where
    by : (b : Bool) → (l.generation == 4294967295) ≡ b → IsFreed l (if b then change.Retired l else change.Swept l)
    by true last = record {
      is = refl;
      plain = refl;
      shows = λ h off same most. (
        off,
        same
            ∙ eqb-true l.generation 4294967295 last,
      );
    }
    by false others = let left = eqb-false l.generation 4294967295 others in
        record { is = refl; plain = refl; shows = λ h off same most. (off, omega (arith, same, most, left)) }

-- The events.

-- a life ends
pub after_unlink : (s : State) → IsLawful s → (l : ItemId) → is_enabled s (event.Unlink l) ≡ true
    → IsLawful (after s (event.Unlink l))
after_unlink s o l enabled = let may = unlink_from s l enabled in
    change_lawful s o l.chunk (unlinked_head (head_at s l.chunk)) (class_of s l.chunk) (change.Unlinked l)
    (class_within s o.tiles l.chunk may.0) (class_owns s o.tiles l.chunk may.0) refl
    (λ g. refl)
    (unlinked s.refs_limit (head_at s l.chunk) (place s l.chunk) (references s l.chunk) (first_hits_of s l.chunk)
    (o.chunks l.chunk) may.2)
    (sym may.1)
    refl
    (λ w w_in b is same. none_applies s (class_of s l.chunk) w b.life may.3 w_in (ap applied_life is)
    (ap (class_of s) same))

-- a chunk without holders is free
pub after_sweep : (s : State) → IsLawful s → (c : ℕ) → is_enabled s (event.Sweep c) ≡ true
    → IsLawful (after s (event.Sweep c))
after_sweep s o c enabled =
    let may = sweep_from s o c enabled in
    let dying = swept_dying s o c enabled in
    let e = freed_change (life c (head_at s c).generation) in
    let entry = freed (life c (head_at s c).generation) in
    subst (λ t. IsLawful (with_change t (class_of s c) e)) (same_head s c)
    (change_lawful s o c (head_at s c) (class_of s c) e (class_within s o.tiles c may.0)
    (class_owns s o.tiles c may.0) (ap (λ (l : ItemId). l.chunk) entry.is)
    (λ g. refl)
    (ended s.refs_limit (head_at s c) (place s c) (references s c) (first_hits_of s c) (o.chunks c)
    (target e) dying may.2
    (entry.shows (head_at s c) (subst (Shows (head_at s c)) dying (o.chunks c).shown) refl (o.chunks c).generation))
    (ap (λ (l : ItemId). l.generation) entry.is)
    entry.plain
    (λ w w_in b is same. none_applies s (class_of s c) w b.life may.3 w_in (ap applied_life is) (ap (class_of s) same)))
