-- The fields of a head word, and that one word is one Head's.
use Rattle.std.proofs.Common.{◌≡◌, ℕ, zero, suc, ◌+◌, ◌*◌, ◌/◌, ◌%◌, ◌^◌, ◌<◌, ◌≤◌, Bool, true, false, refl, sym, ap, ◌∙◌, arith, Option, Some}
use Rattle.bump_rules.specs.declared.items.Head.{Head}
use Rattle.bump_rules.specs.declared.places.Segment.{Segment}
use Rattle.bump_rules.specs.declared.places.Segment.TheVariants.{Hot, Warm, Cold, Temp}
use Rattle.bump_word.specs.Layout.{refs_width, linked_first, fetched_first, active_first, segment_first, segment_width, generation_first, generation_width}
use Rattle.bump_word.specs.Words.{segment_number, Spells, IsPacked, FindsHead, zeros_of, segment_bits}
use Rattle.bump_rules.specs.Lawful.{bit}

-- a flag's number is at most 1
pub bit_le : (b : Bool) → bit b ≤ 1
bit_le true = omega arith
bit_le false = omega arith

-- a segment's number fits into its bits
pub number_lt : (s : Segment) → segment_number s < 2 ^ segment_width
number_lt Hot = omega arith
number_lt Warm = omega arith
number_lt Cold = omega arith
number_lt Temp = omega arith

-- flags with one number are equal
pub bit_one : (a b : Bool) → bit a ≡ bit b → a ≡ b
bit_one true true e = refl
bit_one true false e = absurd (omega arith)
bit_one false true e = absurd (omega arith)
bit_one false false e = refl

-- the segment of a number; of a number that is no segment's, TEMP
segment_at : ℕ → Segment
segment_at zero = Hot
segment_at (suc zero) = Warm
segment_at (suc (suc zero)) = Cold
segment_at (suc (suc (suc _))) = Temp

-- a segment is the segment of its number
segment_at-number : (s : Segment) → segment_at (segment_number s) ≡ s
unfolding segment_at
segment_at-number Hot = refl
segment_at-number Warm = refl
segment_at-number Cold = refl
segment_at-number Temp = refl

-- segments with one number are equal
pub number_one : (a b : Segment) → segment_number a ≡ segment_number b → a ≡ b
number_one a b e = sym (segment_at-number a) ∙ ap segment_at e ∙ segment_at-number b

-- what the bits of a word say of its Head
pub record Fields (n : ℕ) (h : Head) : Type 0 where
  pub refs : n % 2 ^ refs_width ≡ h.refs
  pub linked : n / 2 ^ linked_first % 2 ≡ bit h.linked
  pub fetched : n / 2 ^ fetched_first % 2 ≡ bit h.fetched
  pub active : n / 2 ^ active_first % 2 ≡ bit h.active
  pub segment : segment_bits n ≡ segment_number h.segment
  pub zeros : zeros_of n ≡ 0
  pub generation : n / 2 ^ generation_first ≡ h.generation
  pub wide : n < 2 ^ 64

-- fields that fit do not touch each other
fields_apart : (r l f a s g : ℕ) → r < 2 ^ refs_width → l ≤ 1 → f ≤ 1 → a ≤ 1 → s < 2 ^ segment_width
    → g < 2 ^ generation_width →
    let n : ℕ = r + 2 ^ linked_first * l + 2 ^ fetched_first * f + 2 ^ active_first * a + 2 ^ segment_first * s
    + 2 ^ generation_first * g in
    (n % 2 ^ refs_width ≡ r) × (n / 2 ^ linked_first % 2 ≡ l) × (n / 2 ^ fetched_first % 2 ≡ f)
    × (n / 2 ^ active_first % 2 ≡ a) × (segment_bits n ≡ s) × (zeros_of n ≡ 0) × (n / 2 ^ generation_first ≡ g)
    × (n < 2 ^ 64)
fields_apart r l f a s g refs_fit linked_fits fetched_fits active_fits segment_fits generation_fits =
    (omega arith, omega arith, omega arith, omega arith, omega arith, omega arith, omega arith, omega arith)

-- the fields of a Head's word
pub fields : (n : ℕ) (h : Head) → Spells n h → Fields n h
fields n h spelled = rw spelled.0 (let t =
    fields_apart h.refs (bit h.linked) (bit h.fetched) (bit h.active) (segment_number h.segment) h.generation spelled.1.0
    (bit_le h.linked) (bit_le h.fetched) (bit_le h.active) (number_lt h.segment) spelled.1.1 in
    record {
      refs = t.0;
      linked = t.1;
      fetched = t.2;
      active = t.3;
      segment = t.4;
      zeros = t.5;
      generation = t.6;
      wide = t.7;
    })

-- a number is the word of one Head at most
pub one_head : (n : ℕ) (g h : Head) → Spells n g → Spells n h → g ≡ h
one_head n g h a b = let x = fields n g a in let y = fields n h b in
    let refs : g.refs ≡ h.refs = sym x.refs ∙ y.refs in
    let linked = bit_one g.linked h.linked (sym x.linked ∙ y.linked) in
    let fetched = bit_one g.fetched h.fetched (sym x.fetched ∙ y.fetched) in
    let active = bit_one g.active h.active (sym x.active ∙ y.active) in
    let segment = number_one g.segment h.segment (sym x.segment ∙ y.segment) in
    let generation : g.generation ≡ h.generation = sym x.generation ∙ y.generation in
    λ k. record {
      refs = refs k;
      linked = linked k;
      fetched = fetched k;
      active = active k;
      segment = segment k;
      generation = generation k;
    }

-- what is found at the word of a Head is that Head
pub there : (h : Head) (n : ℕ) (answer : Option Head) → h.refs < 2 ^ refs_width → h.generation < 2 ^ generation_width
    → IsPacked h n → FindsHead n answer → answer ≡ Some h
there h n answer refs generation packed every = every h (packed, (refs, generation))

-- the word of a Head that was read is the number that it was read of
pub back : (n packed : ℕ) (h : Head) → Spells n h → IsPacked h packed → packed ≡ n
back n packed h spelled is = is ∙ sym spelled.0
