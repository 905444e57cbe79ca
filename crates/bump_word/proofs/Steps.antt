-- The bit steps on a head word, and the tests of it.
use Rattle.std.proofs.Common.{◌≡◌, ◌≢◌, ◌↔◌, ℕ, ◌+◌, ◌-◌, ◌*◌, ◌/◌, ◌%◌, ◌^◌, ◌<◌, Bool, true, false, refl, sym, ap, ap₂, ◌∙◌, arith, bit_or, bit_and, bit_xor, ◌==◌, eq-eqb, ne_eqb}
use prog.Atomic.{either}
use Rattle.std.specs.Prelude.{⊤}
use Rattle.std.specs.Int.Bits.{or_add_and, xor_assoc, xor_self, xor_zero_l, xor_zero_r}
use Rattle.std.proofs.lemmas.Nat.{and-not, and_comm, xor_block, xor_lt, pow_pos, and_mask}
use Rattle.std.proofs.lemmas.Nat.Bits.{and_pow, and_high}
use Rattle.bump_rules.specs.declared.items.Head.{Head}
use Rattle.bump_rules.specs.declared.places.Segment.{Segment}
use Rattle.bump_word.specs.Layout.{refs_width, linked_first, fetched_first, active_first, segment_first, segment_width, generation_first, generation_width}
use Rattle.bump_word.specs.Words.{segment_number, word_of, Spells, segment_bits, segment_change}
use Rattle.bump_rules.specs.Lawful.{bit}
use Rattle.bump_word.specs.Steps.{Changes, Tests, Reads}
use Rattle.bump_rules.specs.declared.places.Segment.TheVariants.{Hot}
use Rattle.bump_rules.specs.Heads.{linked_head_in}
use Rattle.bump_word.proofs.Words.{fields, number_lt}

-- a reference more is the next number
pub one_more_next : Changes (λ n. n + 1) (λ h. h.refs < 2 ^ refs_width - 1) (λ h. record h { refs = h.refs + 1 })
one_more_next n h spelled room = (omega (arith, spelled.0), (omega (arith, room), spelled.1.1))

-- an addition of one, as a step makes it
pub one_more_added : Changes (λ n. (n + 1) % 2 ^ 64) (λ h. h.refs < 2 ^ refs_width - 1)
    (λ h. record h { refs = h.refs + 1 })
one_more_added n h spelled room = let next = one_more_next n h spelled room in
    (omega (arith, next.0, (fields (n + 1) (record h { refs = h.refs + 1 }) next).wide), next.1)

-- an exchange that finds the word that it expects
pub one_more_exchanged : (n old : ℕ) (h : Head) → Spells n h → n ≡ old → h.refs < 2 ^ refs_width - 1
    → Spells (either (n == old) (old + 1) n) (record h { refs = h.refs + 1 })
one_more_exchanged n old h spelled is room =
    let stored : either (n == old) (old + 1) n ≡ n + 1 = ap (λ b. either b (old + 1) n) (eq-eqb n old is)
    ∙ ap (λ (m : ℕ). m + 1) (sym is) in
    let next = one_more_next n h spelled room in (stored ∙ next.0, next.1)

-- an exchange that finds another word changes nothing
pub one_more_refused : (n old : ℕ) (h : Head) → Spells n h → n ≢ old → Spells (either (n == old) (old + 1) n) h
one_more_refused n old h spelled other = (ap (λ b. either b (old + 1) n) (ne_eqb n old other) ∙ spelled.0, spelled.1)

-- a subtraction of one, as a step makes it, is a reference less
pub one_less : Changes (λ n. (n + (2 ^ 64 - 1)) % 2 ^ 64) (λ h. 0 < h.refs) (λ h. record h { refs = h.refs - 1 })
one_less n h spelled some = (
  omega (arith, spelled.0, some, (fields n h spelled).wide),
  (omega (arith, spelled.1.0), spelled.1.1),
)

-- a subtraction of LINKED and one ends a life
pub unlink : Changes (λ n. (n + (2 ^ 64 - (2 ^ linked_first + 1))) % 2 ^ 64)
    (λ h. (h.linked ≡ true) × (0 < h.refs)) (λ h. record h { refs = h.refs - 1; linked = false })
unlink n h spelled held = (
  omega (arith, spelled.0, ap bit held.0, held.1, (fields n h spelled).wide),
  (omega (arith, spelled.1.0), spelled.1.1),
)

-- a store of the word of a new life's Head begins a life
pub new_life_stored : (s : Segment) (g : ℕ) → g < 2 ^ generation_width
    → Changes (λ _. word_of (linked_head_in s g)) (λ _. ⊤) (λ _. linked_head_in s g)
new_life_stored s g fits n h spelled _ = (refl, (omega arith, fits))

-- that word in numbers
pub new_life_number : (s : Segment) (g : ℕ) → word_of (linked_head_in s g)
    ≡ 2 ^ linked_first + 1 + segment_change Hot s + g * 2 ^ generation_first
new_life_number s g = omega (arith, xor_zero_l (segment_number s))

-- an or with FETCHED sets it
pub set_fetched : Changes (λ n. bit_or n (2 ^ fetched_first)) (λ _. ⊤) (λ h. record h { fetched = true })
set_fetched n h spelled _ = (
  omega (
    arith,
    spelled.0,
    or_add_and n (2 ^ fetched_first),
    and_pow n fetched_first,
    (fields n h spelled).fetched,
  ),
  spelled.1,
)

-- an or with ACTIVE sets it
pub set_active : Changes (λ n. bit_or n (2 ^ active_first)) (λ _. ⊤) (λ h. record h { active = true })
set_active n h spelled _ = (
  omega (
    arith,
    spelled.0,
    or_add_and n (2 ^ active_first),
    and_pow n active_first,
    (fields n h spelled).active,
  ),
  spelled.1,
)

-- an and with all bits but ACTIVE clears it
pub clear_active : Changes (λ n. bit_and n (2 ^ 64 - 1 - 2 ^ active_first)) (λ _. ⊤) (λ h. record h { active = false })
clear_active n h spelled _ = let f = fields n h spelled in (
  omega (
    arith,
    spelled.0,
    and_comm n (2 ^ 64 - 1 - 2 ^ active_first),
    and-not 64 (2 ^ active_first) n (omega arith) f.wide,
    and_comm (2 ^ active_first) n,
    and_pow n active_first,
    f.active,
  ),
  spelled.1,
)

-- an exclusive or with a number of w bits, shifted to bit k, changes the w bits there alone
xor_field : (q s r x k w : ℕ) → s < 2 ^ w → x < 2 ^ w → r < 2 ^ k → bit_xor ((q * 2 ^ w + s) * 2 ^ k + r) (x * 2 ^ k)
    ≡ (q * 2 ^ w + bit_xor s x) * 2 ^ k + r
xor_field q s r x k w s_fits x_fits r_fits =
    ap (λ (m : ℕ). bit_xor ((q * 2 ^ w + s) * 2 ^ k + r) m) (omega arith)
    ∙ xor_block k (q * 2 ^ w + s) x r 0 r_fits (pow_pos k)
    ∙ ap₂ (λ (a b : ℕ). a * 2 ^ k + b)
    (ap (λ (m : ℕ). bit_xor (q * 2 ^ w + s) m) (omega arith) ∙ xor_block w q 0 s x s_fits x_fits
    ∙ ap (λ (m : ℕ). m * 2 ^ w + bit_xor s x) (xor_zero_r q))
    (xor_zero_r r)

-- a number, changed by what a and b differ in, is the other one
xor_other : (a b : ℕ) → bit_xor a (bit_xor a b) ≡ b
xor_other a b = sym (xor_assoc a a b) ∙ ap (λ (m : ℕ). bit_xor m b) (xor_self a) ∙ xor_zero_l b

-- the exclusive or of two segments' numbers fits into the segment's bits
difference_lt : (a b : Segment) → bit_xor (segment_number a) (segment_number b) < 2 ^ segment_width
difference_lt a b = xor_lt segment_width (segment_number a) (segment_number b) (number_lt a) (number_lt b)

-- the exclusive or of two segments takes the word of the one to the word of the other
pub change_segment : (a b : Segment) → Changes (λ n. bit_xor n (segment_change a b)) (λ h. h.segment ≡ a)
    (λ h. record h { segment = b })
change_segment a b n h spelled is =
    let here : segment_bits n ≡ segment_number a = (fields n h spelled).segment ∙ ap segment_number is in
    let x : ℕ = bit_xor (segment_number a) (segment_number b) in
    let q : ℕ = n / 2 ^ (segment_first + segment_width) in
    let r : ℕ = n % 2 ^ segment_first in
    let whole : n ≡ (q * 2 ^ segment_width + segment_number a) * 2 ^ segment_first + r = omega (arith, here) in
    let left : bit_xor n (segment_change a b) ≡ (q * 2 ^ segment_width + segment_number b) * 2 ^ segment_first + r =
    ap (λ (m : ℕ). bit_xor m (segment_change a b)) whole
    ∙ xor_field q (segment_number a) r x segment_first segment_width (number_lt a) (difference_lt a b) (omega arith)
    ∙ ap (λ (m : ℕ). (q * 2 ^ segment_width + m) * 2 ^ segment_first + r) (xor_other (segment_number a) (segment_number b)) in
    (omega (arith, spelled.0, ap segment_number is, whole, left), spelled.1)

-- where a number is a flag's bit at its place, it is 0 exactly where the flag is false
flag_told : (b : Bool) (k m : ℕ) → 0 < k → m ≡ bit b * k → ((m ≢ 0) ↔ (b ≡ true)) × ((m ≡ 0) ↔ (b ≡ false))
flag_told true k m some is = (
  ((λ _. refl), (λ _ z. omega (arith, some, is, z))),
  ((λ z. absurd (omega (arith, some, is, z))), (λ e. absurd (cc))),
)
flag_told false k m some is = (
  ((λ z. absurd (z (omega (arith, is)))), (λ e. absurd (cc))),
  ((λ _. refl), (λ _. omega (arith, is))),
)

-- the test of LINKED
pub test_linked : Tests (2 ^ linked_first) (λ h. h.linked)
test_linked n h spelled = flag_told h.linked (2 ^ linked_first) _ (omega arith)
    (omega (arith, and_pow n linked_first, (fields n h spelled).linked))

-- the test of FETCHED
pub test_fetched : Tests (2 ^ fetched_first) (λ h. h.fetched)
test_fetched n h spelled = flag_told h.fetched (2 ^ fetched_first) _ (omega arith)
    (omega (arith, and_pow n fetched_first, (fields n h spelled).fetched))

-- the test of ACTIVE
pub test_active : Tests (2 ^ active_first) (λ h. h.active)
test_active n h spelled = flag_told h.active (2 ^ active_first) _ (omega arith)
    (omega (arith, and_pow n active_first, (fields n h spelled).active))

-- the segment's bits under their mask
pub read_segment_masked : Reads (λ n. bit_and n (2 ^ (segment_width + segment_first) - 2 ^ segment_first))
    (λ h. segment_number h.segment * 2 ^ segment_first)
read_segment_masked n h spelled = omega (arith, and_high n segment_width segment_first, (fields n h spelled).segment)

-- the reference count's bits under their mask
pub read_refs : Reads (λ n. bit_and n (2 ^ refs_width - 1)) (λ h. h.refs)
read_refs n h spelled = and_mask n refs_width ∙ (fields n h spelled).refs

-- a shift reads the generation
pub read_generation : Reads (λ n. n / 2 ^ generation_first) (λ h. h.generation)
read_generation n h spelled = (fields n h spelled).generation

-- a shift and a mask read the segment
pub read_segment_shifted : Reads (λ n. segment_bits n) (λ h. segment_number h.segment)
read_segment_shifted n h spelled = (fields n h spelled).segment
