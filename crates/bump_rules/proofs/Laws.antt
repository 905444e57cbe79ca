-- Each kind of change leaves a chunk lawful: facts about a head, a place and two counts alone. The kinds: a reference
-- taken or given back, the first hit and a later one, a mark, a link, an unlink, a sweep and a move; and counts, a
-- head or a place in other words.
use Rattle.std.proofs.Common.{◌≡◌, ℕ, ◌+◌, ◌-◌, ◌<◌, ◌≤◌, ◌≢◌, Bool, true, false, refl, sym, ap, ◌∙◌, subst, arith}
use mathlib.Core.Bool.{false≢true}
use mathlib.Core.Logic.{dite}
use native.Mathlib.Decide.{ℕ_discrete}
use Rattle.bump_rules.specs.declared.items.Head.{Head}
use Rattle.bump_rules.specs.declared.places.Place.{Place}
use Rattle.bump_rules.specs.declared.places.Segment.{Segment}
use Rattle.bump_rules.specs.declared.places.Segment.TheVariants as segment
use Rattle.bump_rules.specs.declared.places.Start.{Start}
use Rattle.bump_rules.specs.declared.places.Place.TheVariants.{Hot, Warm, Cold, Temp, Dying, Unused, Retired}
use Rattle.bump_rules.specs.Places.{place_of, first_segment}
use Rattle.bump_rules.specs.Lawful.{bit, Shows, IsUsed, Lawful}
use Rattle.bump_rules.specs.Tables.{is_cold}
use Rattle.bump_rules.specs.Heads.{linked_head, linked_head_in, one_more, one_fewer, fetched_head, moved_head, unlinked_head}

-- segment bits that say COLD, and that don't
pub cold_from : (s : Segment) → is_cold s ≡ true → s ≡ segment.Cold
cold_from segment.Hot is = absurd (false≢true is)
cold_from segment.Warm is = absurd (false≢true is)
cold_from segment.Cold is = refl
cold_from segment.Temp is = absurd (false≢true is)

pub not_cold : (s : Segment) → s ≢ segment.Cold → is_cold s ≡ false
not_cold segment.Hot other = refl
not_cold segment.Warm other = refl
not_cold segment.Cold other = absurd (other refl)
not_cold segment.Temp other = refl

-- a mark counts at most 1
pub bit_at_most : (b : Bool) → bit b ≤ 1
bit_at_most true = omega arith
bit_at_most false = omega arith

-- a test that counts passes
pub bit_some : (b : Bool) → 0 < bit b → b ≡ true
bit_some true some = refl
bit_some false some = absurd (omega arith)

-- a chunk whose head is linked is not free
pub used_where_linked : (h : Head) (at : Place) → Shows h at → h.linked ≡ true → IsUsed at
used_where_linked h Hot s e = tt
used_where_linked h Warm s e = tt
used_where_linked h Cold s e = tt
used_where_linked h Temp s e = tt
used_where_linked h Dying s e = tt
used_where_linked h Unused s e = absurd (false≢true (sym s.0 ∙ e))
used_where_linked h Retired s e = absurd (false≢true (sym s.0 ∙ e))

-- an unlinked chunk that isn't free is DYING
pub dying_where_unlinked : (h : Head) (at : Place) → Shows h at → IsUsed at → h.linked ≡ false → at ≡ Dying
dying_where_unlinked h Hot s used off = absurd (false≢true (sym off ∙ s.0))
dying_where_unlinked h Warm s used off = absurd (false≢true (sym off ∙ s.0))
dying_where_unlinked h Cold s used off = absurd (false≢true (sym off ∙ s.0))
dying_where_unlinked h Temp s used off = absurd (false≢true (sym off ∙ s.0))
dying_where_unlinked h Dying s used off = refl
dying_where_unlinked h Unused s used off = absurd used
dying_where_unlinked h Retired s used off = absurd used

-- what the list of a segment says of the head
pub in_segment : (h : Head) (s : Segment) → Shows h (place_of s) → (h.linked ≡ true) × (h.segment ≡ s)
in_segment h segment.Hot x = x
in_segment h segment.Warm x = x
in_segment h segment.Cold x = x
in_segment h segment.Temp x = x

-- a linked head with these segment bits agrees with the list of the segment
pub shows_segment : (h : Head) (s : Segment) → h.linked ≡ true → Shows (record h { segment = s }) (place_of s)
shows_segment h segment.Hot x = (x, refl)
shows_segment h segment.Warm x = (x, refl)
shows_segment h segment.Cold x = (x, refl)
shows_segment h segment.Temp x = (x, refl)

-- no list of a segment is of free chunks
pub used_in_segment : (s : Segment) → IsUsed (place_of s)
used_in_segment segment.Hot = tt
used_in_segment segment.Warm = tt
used_in_segment segment.Cold = tt
used_in_segment segment.Temp = tt

-- a place asks nothing of the count and of the marks
pub shows_same : (g h : Head) (at : Place) → g.linked ≡ h.linked → g.segment ≡ h.segment → g.generation ≡ h.generation
    → Shows g at → Shows h at
shows_same g h Hot l s e x = (sym l ∙ x.0, sym s ∙ x.1)
shows_same g h Warm l s e x = (sym l ∙ x.0, sym s ∙ x.1)
shows_same g h Cold l s e x = (sym l ∙ x.0, sym s ∙ x.1)
shows_same g h Temp l s e x = (sym l ∙ x.0, sym s ∙ x.1)
shows_same g h Dying l s e x = sym l ∙ x
shows_same g h Unused l s e x = (sym l ∙ x.0, omega (arith, x.1))
shows_same g h Retired l s e x = (sym l ∙ x.0, sym e ∙ x.1)

module _ (limit : ℕ) (h : Head) (at : Place) (r x : ℕ → ℕ) (o : Lawful limit h at r x) where
  -- the same counts in other words
  pub relawful : (q y : ℕ → ℕ) → ((g : ℕ) → q g ≡ r g) → ((g : ℕ) → y g ≡ x g) → Lawful limit h at q y
  relawful q y same_references same_first_hits = record {
    counted = omega (arith, o.counted, same_references h.generation);
    within = o.within;
    generation = o.generation;
    shown = o.shown;
    used = λ g some. o.used g (omega (arith, same_references g));
    active = o.active;
    fetched = same_first_hits h.generation ∙ o.fetched;
    once = λ g. omega (arith, same_first_hits g, o.once g);
    past = λ g some. o.past g (omega (arith, same_first_hits g));
  }

  -- a free chunk has no reference
  pub none_where_free : IsUsed at ≡ ⊥ → (g : ℕ) → r g ≡ 0
  none_where_free free g = dite (ℕ_discrete (r g) 0) (λ e. e) (λ ne. absurd (subst (λ (T : Type 0). T) free
      (o.used g (omega arith)).1))

  -- one more reference to the chunk's life
  pub referred : (q : ℕ → ℕ) → IsUsed at → h.refs < limit → q h.generation ≡ r h.generation + 1
      → ((g : ℕ) → g ≢ h.generation → q g ≡ r g)
      → Lawful limit (one_more h) at q x
  referred q used few here there = record {
    counted = omega (arith, o.counted);
    within = omega arith;
    generation = o.generation;
    shown = shows_same h (record h { refs = h.refs + 1 }) at refl refl refl o.shown;
    used = λ g some. dite (ℕ_discrete g h.generation) (λ e. (e, used)) (λ ne. o.used g (omega (arith, there g ne)));
    active = o.active;
    fetched = o.fetched;
    once = o.once;
    past = o.past;
  }

  -- one reference fewer
  pub unreferred : (q : ℕ → ℕ) → q h.generation + 1 ≡ r h.generation → ((g : ℕ) → g ≢ h.generation → q g ≡ r g)
      → Lawful limit (one_fewer h) at q x
  unreferred q here there = record {
    counted = omega (arith, o.counted);
    within = omega (arith, o.within);
    generation = o.generation;
    shown = shows_same h (record h { refs = h.refs - 1 }) at refl refl refl o.shown;
    used = λ g some. dite (ℕ_discrete g h.generation) (λ e. o.used g (omega (arith, ap r e, ap q e))) (λ ne. o.used g
        (omega (arith, there g ne)));
    active = o.active;
    fetched = o.fetched;
    once = o.once;
    past = o.past;
  }

  -- the first hit of the life
  pub named_first : (y : ℕ → ℕ) → h.fetched ≡ false → y h.generation ≡ x h.generation + 1
      → ((g : ℕ) → g ≢ h.generation → y g ≡ x g) → Lawful limit (fetched_head h) at r y
  named_first y clear here there = let none : bit h.fetched ≡ 0 = ap bit clear in record {
    counted = o.counted;
    within = o.within;
    generation = o.generation;
    shown = shows_same h (record h { fetched = true }) at refl refl refl o.shown;
    used = o.used;
    active = bit_at_most h.active;
    fetched = omega (arith, o.fetched);
    once = λ g. dite (ℕ_discrete g h.generation) (λ e. omega (arith, o.fetched, ap y e)) (λ ne. omega (
      arith,
      there g ne,
      o.once g,
    ));
    past = λ g some. dite (ℕ_discrete g h.generation) (λ e. omega arith) (λ ne. o.past g (omega (arith, there g ne)));
  }

  -- a hit that isn't the first
  pub fetched_again : h.fetched ≡ true → Lawful limit (fetched_head h) at r x
  fetched_again on = record {
    counted = o.counted;
    within = o.within;
    generation = o.generation;
    shown = shows_same h (record h { fetched = true }) at refl refl refl o.shown;
    used = o.used;
    active = bit_at_most h.active;
    fetched = o.fetched ∙ ap bit on;
    once = o.once;
    past = o.past;
  }

  -- a new life in a segment
  pub born_in : (to : Segment) → at ≡ Unused → 0 < limit → Lawful limit (linked_head_in to (h.generation + 1))
      (place_of to) r x
  born_in to free room = let none = none_where_free (ap IsUsed free) in record {
    counted = omega (arith, none (h.generation + 1));
    within = omega arith;
    generation = let last = (subst (Shows h) free o.shown).1 in omega (arith, last);
    shown = shows_segment (linked_head_in to (h.generation + 1)) to refl;
    used = λ g some. absurd (omega (arith, none g));
    active = omega arith;
    fetched = dite (ℕ_discrete (x (h.generation + 1)) 0) (λ e. e) (λ ne. absurd (omega (
      arith,
      o.past (h.generation + 1) (omega arith),
    )));
    once = o.once;
    past = λ g some. omega (arith, o.past g some);
  }

  -- in the one in which it begins
  pub born : (a : Start) → at ≡ Unused → 0 < limit → Lawful limit (linked_head a (h.generation + 1))
      (place_of (first_segment a)) r x
  born a free room = born_in (first_segment a) free room

  -- the chunk is unlinked, and its holders stay
  pub unlinked : h.linked ≡ true → Lawful limit (unlinked_head h) Dying r x
  unlinked on = record {
    counted = omega (arith, o.counted, ap bit on);
    within = omega (arith, o.within);
    generation = o.generation;
    shown = refl;
    used = λ g some. ((o.used g some).0, tt);
    active = o.active;
    fetched = o.fetched;
    once = o.once;
    past = o.past;
  }

  -- a chunk without holders is free
  pub ended : (to : Place) → at ≡ Dying → h.refs ≡ 0 → Shows h to → Lawful limit h to r x
  ended to dying zero_refs shows = record {
    counted = o.counted;
    within = o.within;
    generation = o.generation;
    shown = shows;
    used = λ g some. absurd (let e = (o.used g some).0 in omega (arith, o.counted, ap r e));
    active = o.active;
    fetched = o.fetched;
    once = o.once;
    past = o.past;
  }

  -- ACTIVE is set where FETCHED is, or cleared
  pub marked : (b : Bool) → bit b ≤ bit h.fetched → Lawful limit (record h { active = b }) at r x
  marked b below = record {
    counted = o.counted;
    within = o.within;
    generation = o.generation;
    shown = shows_same h (record h { active = b }) at refl refl refl o.shown;
    used = o.used;
    active = below;
    fetched = o.fetched;
    once = o.once;
    past = o.past;
  }

  -- a linked chunk goes to another list
  pub moved : (to : Segment) → h.linked ≡ true → Lawful limit (moved_head to h) (place_of to) r x
  moved to on = record {
    counted = o.counted;
    within = o.within;
    generation = o.generation;
    shown = shows_segment h to on;
    used = λ g some. ((o.used g some).0, used_in_segment to);
    active = o.active;
    fetched = o.fetched;
    once = o.once;
    past = o.past;
  }

-- the same chunk, its head, its place and its references in other words
pub lawful_same : (limit : ℕ) (g h : Head) (p q : Place) (r u x : ℕ → ℕ) → h ≡ g → q ≡ p → ((n : ℕ) → u n ≡ r n)
    → Lawful limit g p r x → Lawful limit h q u x
lawful_same limit g h p q r u x head_is place_is count_is o =
    subst (λ (f : Head). Lawful limit f q u x) (sym head_is) (subst (λ (at : Place). Lawful limit g at u x)
    (sym place_is) (relawful limit g p r x o u x count_is (λ n. refl)))
