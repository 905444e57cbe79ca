-- The Head that is decoded from a head word is the one that the word spells.
use Rattle.std.proofs.Common.{◌≡◌, ◌≢◌, ◌↔◌, ℕ, ◌+◌, ◌-◌, ◌*◌, ◌/◌, ◌^◌, Bool, true, false, not, eqb, refl, sym, ap, subst, arith, eq-eqb, ne_eqb, bit_and}
use Rattle.bump_rules.specs.declared.items.Head.{Head}
use Rattle.bump_rules.specs.declared.places.Segment.{Segment}
use Rattle.bump_rules.specs.declared.places.Segment.TheVariants.{Hot, Warm, Cold, Temp}
use Rattle.bump_word.specs.Layout.{refs_width, linked_first, fetched_first, active_first, segment_first, segment_width, generation_first}
use Rattle.bump_word.specs.Words.{Spells, segment_number, segment_change}
use Rattle.bump_word.proofs.Words.{number_one}
use Rattle.bump_word.proofs.Steps.{test_linked, test_fetched, test_active, read_refs, read_segment_masked, read_generation}

-- the masks of the count and of the segment
abbrev pub refs_mask : ℕ
refs_mask = 2 ^ refs_width - 1

abbrev pub segment_mask : ℕ
segment_mask = 2 ^ (segment_width + segment_first) - 2 ^ segment_first

-- the number under the segment's mask tells the segment
pub segment_read : (n : ℕ) (h : Head) (s : Segment) → Spells n h → bit_and n segment_mask ≡ segment_number s * 2
    ^ segment_first → s ≡ h.segment
segment_read n h s spelled is = number_one s h.segment (omega (arith, is, read_segment_masked n h spelled))

-- a segment whose bits are none of WARM, COLD and TEMP is HOT
pub segment_left : (n : ℕ) (h : Head) → Spells n h → bit_and n segment_mask ≢ segment_change Hot Warm
    → bit_and n segment_mask ≢ segment_change Hot Cold → bit_and n segment_mask ≢ segment_change Hot Temp
    → Hot ≡ h.segment
segment_left n h spelled not_warm not_cold not_temp = by h.segment (read_segment_masked n h spelled)
  where
    by : (s : Segment) → bit_and n segment_mask ≡ segment_number s * 2 ^ segment_first → Hot ≡ s
    by Hot is = refl
    by Warm is = absurd (not_warm is)
    by Cold is = absurd (not_cold is)
    by Temp is = absurd (not_temp is)

-- a test of a mark that passes exactly where it is set answers the mark
flag_read : (m : ℕ) (b : Bool) → ((m ≢ 0) ↔ (b ≡ true)) × ((m ≡ 0) ↔ (b ≡ false)) → not (eqb m 0) ≡ b
flag_read m true told = ap not (ne_eqb m 0 (told.0.1 refl))
flag_read m false told = ap not (eq-eqb m 0 (told.1.1 refl))

-- what is read of a word
abbrev pub read_of : ℕ → Segment → Head
read_of n s = record {
  refs = bit_and n refs_mask;
  linked = not (eqb (bit_and n (2 ^ linked_first)) 0);
  fetched =
      not (eqb (bit_and n (2 ^ fetched_first)) 0);
  active = not (eqb (bit_and n (2 ^ active_first)) 0);
  segment = s;
  generation = n / 2 ^ generation_first;
}

-- it is the Head that the word spells
pub read_is : (n : ℕ) (h : Head) (s : Segment) → Spells n h → s ≡ h.segment → h ≡ read_of n s
read_is n h s spelled is =
    let refs : h.refs ≡ bit_and n refs_mask = sym (read_refs n h spelled) in
    let linked : h.linked ≡ not (eqb (bit_and n (2 ^ linked_first)) 0) =
    sym (flag_read (bit_and n (2 ^ linked_first)) h.linked (test_linked n h spelled)) in
    let fetched : h.fetched ≡ not (eqb (bit_and n (2 ^ fetched_first)) 0) =
    sym (flag_read (bit_and n (2 ^ fetched_first)) h.fetched (test_fetched n h spelled)) in
    let active : h.active ≡ not (eqb (bit_and n (2 ^ active_first)) 0) =
    sym (flag_read (bit_and n (2 ^ active_first)) h.active (test_active n h spelled)) in
    let generation : h.generation ≡ n / 2 ^ generation_first = sym (read_generation n h spelled) in
    λ k. record {
      refs = refs k;
      linked = linked k;
      fetched = fetched k;
      active = active k;
      segment = sym is k;
      generation = generation k;
    }

-- so it is spelled
pub read_spells : (n : ℕ) (h : Head) (s : Segment) → Spells n h → s ≡ h.segment → Spells n (read_of n s)
read_spells n h s spelled is = subst (Spells n) (read_is n h s spelled is) spelled
