-- A chunk that a history leaves in DYING was unlinked by it, in the generation in which it stands there.
use Rattle.std.proofs.Common.{◌≡◌, ℕ, ◌<◌, ◌≢◌, Bool, true, false, cond, eqb, List, [], ◌∷◌, refl, sym, ap, arith, ◌⊎◌, inl, inr, eqb-true, eq-eqb}
use Rattle.std.proofs.lemmas.Bool.{and_from}
use Rattle.bump_rules.specs.declared.places.Place.TheVariants.{Dying}
use Rattle.bump_rules.specs.declared.places.Segment.{Segment}
use Rattle.bump_rules.specs.declared.places.Segment.TheVariants as segment
use Rattle.bump_rules.specs.declared.items.ItemId.{ItemId}
use Rattle.bump_rules.specs.declared.history.Change.{Change}
use Rattle.bump_rules.specs.declared.history.Change.TheVariants as change
use Rattle.bump_rules.specs.History.{place_of, subject, target, freed_change, Standing, standing_after, standing_from}
use Rattle.bump_rules.specs.Lives.{life}
use Rattle.bump_rules.specs.Totals.{how_many}
use Rattle.bump_rules.specs.Entries.{is_unlink_of}
use Rattle.bump_rules.specs.Lawful.{bit}

-- the entry of a chunk that is freed speaks of its life
pub freed_subject : (l : ItemId) → subject (freed_change l) ≡ l
freed_subject l = by (eqb l.generation 4294967295)
  where
    by : (b : Bool) → subject (cond b (change.Retired l) (change.Swept l)) ≡ l
    by true = refl
    by false = refl

-- the list of a segment is not DYING
segment_not_dying : (to : Segment) → place_of to ≢ Dying
segment_not_dying segment.Hot is = let u : ⊥ = cc in u
segment_not_dying segment.Warm is = let u : ⊥ = cc in u
segment_not_dying segment.Cold is = let u : ⊥ = cc in u
segment_not_dying segment.Temp is = let u : ⊥ = cc in u

-- an entry that puts a chunk in DYING is its unlinking
to_dying : (c g : ℕ) (e : Change) → (subject e).chunk ≡ c → target e ≡ Dying → (subject e).generation ≡ g
    → is_unlink_of (life c g) e ≡ true
to_dying c g (change.Linked l) of to in_life = absurd (let u : ⊥ = cc in u)
to_dying c g (change.LinkedTemp l) of to in_life = absurd (let u : ⊥ = cc in u)
to_dying c g (change.Moved l from to cause) of is in_life = absurd (segment_not_dying to is)
to_dying c g (change.Unlinked l) of to in_life = and_from (eqb c l.chunk) (eqb g l.generation) (eq-eqb c l.chunk
    (sym of)) (eq-eqb g l.generation (sym in_life))
to_dying c g (change.Swept l) of to in_life = absurd (let u : ⊥ = cc in u)
to_dying c g (change.Retired l) of to in_life = absurd (let u : ⊥ = cc in u)

-- a chunk that a history leaves in DYING stood there before it in the same life, or was unlinked by it in that life
stood_or_unlinked : (c g : ℕ) (at : Standing) (es : List Change) → (standing_from c at es).0 ≡ Dying
    → (standing_from c at es).1 ≡ g
    → ((at.0 ≡ Dying) × (at.1 ≡ g)) ⊎ (0 < how_many (is_unlink_of (life c g)) es)
stood_or_unlinked c g at [] dying in_life = inl (dying, in_life)
stood_or_unlinked c g at (e ∷ es) dying in_life = by (stood_or_unlinked c g (standing_after c at e) es dying in_life)
  where
    here : (b : Bool) → eqb (subject e).chunk c ≡ b → (cond b (target e, (subject e).generation) at).0 ≡ Dying
        → (cond b (target e, (subject e).generation) at).1 ≡ g
        → ((at.0 ≡ Dying) × (at.1 ≡ g)) ⊎ (0 < how_many (is_unlink_of (life c g)) (e ∷ es))
    here true of to in_it = inr (omega (arith, ap bit (to_dying c g e (eqb-true (subject e).chunk c of) to in_it)))
    here false other stood in_it = inl (stood, in_it)

    by : (((standing_after c at e).0 ≡ Dying) × ((standing_after c at e).1 ≡ g))
        ⊎ (0 < how_many (is_unlink_of (life c g)) es)
        → ((at.0 ≡ Dying) × (at.1 ≡ g)) ⊎ (0 < how_many (is_unlink_of (life c g)) (e ∷ es))
    by (inl stood) = here (eqb (subject e).chunk c) refl stood.0 stood.1
    by (inr some) = inr (omega (arith, some))

-- a chunk that began elsewhere, and that a history leaves in DYING, was unlinked by it in
-- the life in which it stands there
pub unlinked_where_dying : (c g : ℕ) (at : Standing) (es : List Change) → at.0 ≢ Dying → (standing_from c at es).0
    ≡ Dying → (standing_from c at es).1 ≡ g → 0 < how_many (is_unlink_of (life c g)) es
unlinked_where_dying c g at es elsewhere dying in_life =
    elim (stood_or_unlinked c g at es dying in_life) [ inl stood ↦ absurd (elsewhere stood.0) | inr some ↦ some ]
