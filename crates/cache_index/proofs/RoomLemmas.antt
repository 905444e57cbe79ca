-- There are more lanes than chunks, so one is off; and new nests lead nowhere.
use Rattle.std.proofs.Common.{◌≡◌, ◌≢◌, ℕ, zero, suc, ◌+◌, ◌*◌, ◌/◌, ◌%◌, ◌^◌, ◌<◌, ◌≤◌}
use Rattle.std.proofs.Common.{cond, eqb, List, length, replicate, get_or, refl, sym, ap, ◌∙◌}
use Rattle.std.proofs.Common.{arith, ⊎_elim}
use Rattle.std.proofs.Math.Nat.{zero-div, zero-mod}
use Rattle.std.proofs.lemmas.Bool.{cases_lt, cases_eq, cond-true, cond-false, eq-eqb, ne_eqb}
use Rattle.std.proofs.lemmas.List.{get_or_past, get_or-replicate, length-replicate}
use Rattle.std.proofs.lemmas.List.Folds.{sum_by-replicate}
use Rattle.cache_index.specs.declared.led.Way.{Way}
use Rattle.cache_index.specs.Tags.{tag_in}
use Rattle.cache_index.specs.Places.{IsPlace, nests_for, tag_at, passed_at, nest_of, lane_of}
use Rattle.cache_index.specs.Leads.{chunk_in, no_way, way_to, AreLed, IsRoomy}
use Rattle.cache_index.proofs.LedLemmas.{one_pass, chunk_of_way, place_some}

-- what a function gives, but for one value what it gives in its place
replaced : (ℕ → ℕ) → ℕ → ℕ → ℕ → ℕ
replaced f n last i = cond (eqb (f i) n) last (f i)

replaced-at : (f : ℕ → ℕ) (n last i : ℕ) → f i ≡ n → replaced f n last i ≡ last
unfolding replaced
replaced-at f n last i is = cond-true (eqb (f i) n) last (f i) (eq-eqb (f i) n is)

replaced-other : (f : ℕ → ℕ) (n last i : ℕ) → f i ≢ n → replaced f n last i ≡ f i
unfolding replaced
replaced-other f n last i apart = cond-false (eqb (f i) n) last (f i) (ne_eqb (f i) n apart)

-- so many numbers below n with no two equal are at most n
pub few_below : (n m : ℕ) (f : ℕ → ℕ) → ((i : ℕ) → i < m → f i < n) → ((i j : ℕ) → i < m → j < m → f i ≡ f j
    → i ≡ j) → m ≤ n
few_below zero m f within apart =
    ⊎_elim (λ some. let none = within 0 some in absurd (omega (arith, none))) (λ none. none) (cases_lt 0 m)
few_below (suc n) zero f within apart = omega arith
few_below (suc n) (suc m) f within apart =
    let last = f m in
    let g = replaced f n last in
    let lt_m : (i : ℕ) → i < m → i < suc m = λ i h. omega arith in
    let m_lt : m < suc m = omega arith in
    let in_n : (i : ℕ) → i < m → g i < n = λ i h. ⊎_elim
    (λ at.
    let not_last : last ≢ n = λ e. let same = apart i m (lt_m i h) m_lt (at ∙ sym e) in absurd (omega (
      arith,
      same,
      h,
    )) in
    let e = replaced-at f n last i at in
    let top = within m m_lt in
    omega (arith, e, top, not_last))
    (λ other. let e = replaced-other f n last i other in let top = within i (lt_m i h) in omega (arith, e, top, other))
    (cases_eq (f i) n) in
    let none_twice : (i j : ℕ) → i < m → j < m → g i ≡ g j → i ≡ j = λ i j hi hj same. ⊎_elim
    (λ i_at. ⊎_elim
    (λ j_at. apart i j (lt_m i hi) (lt_m j hj) (i_at ∙ sym j_at))
    (λ j_other.
    let e : last ≡ f j = sym (replaced-at f n last i i_at) ∙ (same ∙ replaced-other f n last j j_other) in
    let is = apart m j m_lt (lt_m j hj) e in
    absurd (omega (arith, is, hj)))
    (cases_eq (f j) n))
    (λ i_other. ⊎_elim
    (λ j_at.
    let e : f i ≡ last = sym (replaced-other f n last i i_other) ∙ (same ∙ replaced-at f n last j j_at) in
    let is = apart i m (lt_m i hi) m_lt e in
    absurd (omega (arith, is, hi)))
    (λ j_other. apart i j (lt_m i hi) (lt_m j hj)
    (sym (replaced-other f n last i i_other) ∙ (same ∙ replaced-other f n last j j_other)))
    (cases_eq (f j) n))
    (cases_eq (f i) n) in
    let fewer = few_below n m g in_n none_twice in
    omega (arith, fewer)

-- the place of a lane, counted over all nests
place_of : ℕ → ℕ
place_of k = 8 * (k / 6) + 2 + k % 6

place_of-is : (nests k : ℕ) → k < 6 * nests → IsPlace nests (place_of k)
unfolding place_of
place_of-is nests k within = record { nest = omega arith; lane = omega arith }

place_of-one : (i j : ℕ) → place_of i ≡ place_of j → i ≡ j
unfolding place_of
place_of-one i j same = omega arith

-- not all lanes are on
pub lane_is_off : (nests : ℕ) (words : List ℕ) (ways : List Way) → AreLed nests words ways → IsRoomy nests ways
    → ((place : ℕ) → IsPlace nests place → 0 < tag_at words place) → ⊥
lane_is_off nests words ways led roomy full =
    let chunk : ℕ → ℕ = λ k. chunk_in (get_or words (place_of k) 0) in
    let back : (k : ℕ) → k < 6 * nests → (way_to ways (chunk k)).place ≡ place_of k =
    λ k h. led.back (place_of k) (place_of-is nests k h) (full (place_of k) (place_of-is nests k h)) in
    let within : (k : ℕ) → k < 6 * nests → chunk k < length ways =
    λ k h. chunk_of_way ways (chunk k)
    (let some = place_some nests (place_of k) (place_of-is nests k h) in let e = back k h in omega (arith, some, e)) in
    let apart : (i j : ℕ) → i < 6 * nests → j < 6 * nests → chunk i ≡ chunk j → i ≡ j =
    λ i j hi hj same. place_of-one i j
    (sym (back i hi) ∙ (ap (λ (c : ℕ). (way_to ways c).place) same ∙ back j hj)) in
    let few = few_below (length ways) (6 * nests) chunk within apart in
    omega (arith, few, roomy.lanes_over)

-- a word of so many that are 0
zero_word : (n i : ℕ) → ◌≡◌ {A = ℕ} (get_or (replicate n 0) i 0) 0
zero_word n i =
    ⊎_elim (λ within. get_or-replicate n i 0 0 within)
    (λ past. get_or_past (replicate n 0) i 0 (let e = length-replicate {A = ℕ} n 0 in omega (arith, e, past)))
    (cases_lt i n)

-- a way of so many that lead nowhere
no_way_of : (n i : ℕ) → way_to (replicate n no_way) i ≡ no_way
no_way_of n i =
    ⊎_elim (λ within. get_or-replicate n i no_way no_way within)
    (λ past. get_or_past (replicate n no_way) i no_way (let e = length-replicate n no_way in omega (arith, e, past)))
    (cases_lt i n)

zero_tag : (lane : ℕ) → tag_in 0 lane ≡ 0
zero_tag lane = ap (λ (n : ℕ). n % 256) (zero-div (2 ^ (8 * lane))) ∙ zero-mod 256

-- where all words are 0, each lane is off
pub zero_tag_at : (count place : ℕ) → tag_at (replicate count 0) place ≡ 0
zero_tag_at count place =
    ap (λ (n : ℕ). tag_in n (lane_of place)) (zero_word count (8 * nest_of place)) ∙ zero_tag (lane_of place)

-- new nests, all of whose words are 0, lead nowhere
pub new_is_led : (nests chunks : ℕ) → AreLed nests (replicate (8 * nests) 0) (replicate chunks no_way)
new_is_led nests chunks = record {
  size = length-replicate {A = ℕ} (8 * nests) 0;
  leads = λ chunk some.
      let none = ap (λ (w : Way). w.place) (no_way_of chunks chunk) in absurd (omega (arith, none, some));
  back = λ place is on. absurd (omega (arith, zero_tag_at (8 * nests) place, on));
  passed = λ nest within.
      let word : passed_at (replicate (8 * nests) 0) nest ≡ 0 = zero_word (8 * nests) (8 * nest + 1) in
      let none = sum_by-replicate (λ (w : Way). one_pass nests nest w) chunks no_way in
      let zero_no_way : one_pass nests nest no_way ≡ 0 = refl in
      let product : chunks * one_pass nests nest no_way ≡ 0 = ap (λ (n : ℕ). chunks * n) zero_no_way ∙ (let e :
      chunks * 0 ≡ 0 = omega arith in e) in
      word ∙ sym (none ∙ product);
}

pub new_is_roomy : (chunks : ℕ) → chunks ≤ 2 ^ 30 → IsRoomy (nests_for chunks) (replicate chunks no_way)
new_is_roomy chunks few =
    let size = length-replicate chunks no_way in
    record {
      lanes_over = omega (arith, size);
      few_chunks = omega (arith, size);
      few_nests = omega arith;
    }
