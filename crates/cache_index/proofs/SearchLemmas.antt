-- What the writer's search has answered before and after an answer.
use Rattle.std.proofs.Common.{◌≡◌, ◌≢◌, ℕ, ◌+◌, ◌*◌, ◌/◌, ◌%◌, ◌<◌, ◌≤◌, true, false}
use Rattle.std.proofs.Common.{eqb, Bool, ◌&&◌, ◌||◌, Option, Some, None, List, map, get_or, refl, sym}
use Rattle.std.proofs.Common.{ap, ◌∙◌, subst, arith, ⊎_elim}
use Rattle.std.proofs.Math.ListN.{get_or-map}
use Rattle.std.proofs.lemmas.Bool.{cases_lt, cases_eq, cases_order, cases_Bool, cond-true, cond-false}
use Rattle.std.proofs.lemmas.Bool.{lt-ltb, le-ltb, eqb-true, eq-eqb, ne_eqb, or_right}
use Rattle.cache_index.specs.declared.led.Way.{Way}
use Rattle.cache_index.specs.Tags.{tag_of, tag_in}
use Rattle.cache_index.specs.Places.{IsPlace, tag_at, passed_at, nest_of, lane_of, home_of, nest_behind, steps_to}
use Rattle.cache_index.specs.Places.{place_in, lane_number, tag_behind}
use Rattle.cache_index.specs.Leads.{chunk_in, generation_in, no_way, way_to, LeadsTo, AreLed}
use Rattle.cache_index.specs.Views.{Led, SearchView, index_view, led_by, led_at, has_tag, has_looked, has_answered}
use Rattle.cache_index.proofs.StepsLemmas.{nest_behind-lt, steps_to-lt, steps_to-nest_behind}
use Rattle.cache_index.proofs.StepsLemmas.{nest_behind-steps_to}
use Rattle.cache_index.proofs.LedLemmas.{one_chunk, place_some, tag_some}
use Rattle.cache_index.proofs.ChangeLemmas.{some_pass}

abbrev pub search_at : ℕ → ℕ → SearchView
search_at hash looked = record { hash = hash; looked = looked }

-- whether a search has answered what a way leads to
abbrev pub answered : ℕ → List ℕ → SearchView → Way → Bool
answered nests words search way = has_tag search.hash (led_by words way) && has_looked nests search way.place

-- what the index has of a chunk, by its way
pub led_at-way : (words : List ℕ) (ways : List Way) (chunk : ℕ)
    → led_at (map (led_by words) ways) chunk ≡ led_by words (way_to ways chunk)
led_at-way words ways chunk = get_or-map (led_by words) ways chunk no_way

place_at-way : (ways : List Way) (chunk : ℕ) → get_or (map (λ (w : Way). w.place) ways) chunk 0 ≡ (way_to ways
    chunk).place
place_at-way ways chunk = get_or-map (λ (w : Way). w.place) ways chunk no_way

pub has_answered-way : (nests : ℕ) (words : List ℕ) (ways : List Way) (search : SearchView) (chunk : ℕ)
    → has_answered (index_view nests words ways) search chunk ≡ answered nests words search (way_to ways chunk)
has_answered-way nests words ways search chunk =
    ap (λ (o : Option Led). has_tag search.hash o
    && has_looked nests search (get_or (map (λ (w : Way). w.place) ways) chunk 0)) (led_at-way words ways chunk)
    ∙ ap (λ (p : ℕ). has_tag search.hash (led_by words (way_to ways chunk)) && has_looked nests search p) (place_at-way
    ways chunk)

-- a way that leads somewhere, and one that doesn't
abbrev pub led_so : List ℕ → Way → Option Led
led_so words way = Some (record { hash = way.hash; generation = generation_in (get_or words way.place 0) })

pub led_by-some : (words : List ℕ) (way : Way) → 0 < way.place → led_by words way ≡ led_so words way
led_by-some words way some =
    cond-false (eqb way.place 0) None (led_so words way) (ne_eqb way.place 0 (λ e. absurd (omega (arith, e, some))))

pub led_by-none : (words : List ℕ) (way : Way) → way.place ≡ 0 → led_by words way ≡ None
led_by-none words way none = cond-true (eqb way.place 0) None (led_so words way) (eq-eqb way.place 0 none)

answered-none : (nests : ℕ) (words : List ℕ) (search : SearchView) (way : Way) → way.place ≡ 0
    → answered nests words search way ≡ false
answered-none nests words search way none =
    ap (λ (o : Option Led). has_tag search.hash o && has_looked nests search way.place) (led_by-none words way none)

answered-some : (nests : ℕ) (words : List ℕ) (search : SearchView) (way : Way) → 0 < way.place
    → answered nests words search way ≡ (eqb (tag_of way.hash) (tag_of search.hash) && has_looked nests search way.place)
answered-some nests words search way some =
    ap (λ (o : Option Led). has_tag search.hash o && has_looked nests search way.place) (led_by-some words way some)

answered-other : (nests : ℕ) (words : List ℕ) (search : SearchView) (way : Way) → 0 < way.place
    → eqb (tag_of way.hash) (tag_of search.hash) ≡ false
    → answered nests words search way ≡ false
answered-other nests words search way some other =
    answered-some nests words search way some ∙ ap (λ (b : Bool). b && has_looked nests search way.place) other

answered-tagged : (nests : ℕ) (words : List ℕ) (search : SearchView) (way : Way) → 0 < way.place
    → tag_of way.hash ≡ tag_of search.hash → answered nests words search way ≡ has_looked nests search way.place
answered-tagged nests words search way some same =
    answered-some nests words search way some
    ∙ ap (λ (b : Bool). b && has_looked nests search way.place) (eq-eqb (tag_of way.hash) (tag_of search.hash) same)

pub looked-yes : (nests hash looked place : ℕ) → lane_number nests (home_of nests hash) place < looked
    → has_looked nests (search_at hash looked) place ≡ true
looked-yes nests hash looked place below = lt-ltb (lane_number nests (home_of nests hash) place) looked below

pub looked-no : (nests hash looked place : ℕ) → looked ≤ lane_number nests (home_of nests hash) place
    → has_looked nests (search_at hash looked) place ≡ false
looked-no nests hash looked place over = le-ltb (lane_number nests (home_of nests hash) place) looked over

-- a lane by its number: its nest is so many steps behind, and there it is so many lanes behind the first
number-nest : (steps lane : ℕ) → lane < 6 → (6 * steps + lane) / 6 ≡ steps
number-nest steps lane few = omega arith

number-lane : (steps lane : ℕ) → lane < 6 → (6 * steps + lane) % 6 ≡ lane
number-lane steps lane few = omega arith

pub tag_behind-place : (nests home place : ℕ) (words : List ℕ) → home < nests → IsPlace nests place
    → tag_behind words nests home (lane_number nests home place) ≡ tag_at words place
tag_behind-place nests home place words in_home is =
    let steps = steps_to nests home (nest_of place) in
    let few : lane_of place < 6 = omega arith in
    ap (λ (s : ℕ). tag_in (get_or words (8 * nest_behind nests home s) 0) (lane_number nests home place % 6))
    (number-nest steps (lane_of place) few)
    ∙ (ap (λ (l : ℕ). tag_in (get_or words (8 * nest_behind nests home steps) 0) l) (number-lane steps (lane_of
    place) few)
    ∙ ap (λ (n : ℕ). tag_in (get_or words (8 * n) 0) (lane_of place)) (nest_behind-steps_to nests home (nest_of
    place) in_home is.nest))

pub lane_number-lt : (nests home place : ℕ) → home < nests → IsPlace nests place
    → lane_number nests home place < 6 * nests
lane_number-lt nests home place in_home is =
    let steps = steps_to-lt nests home (nest_of place) in_home is.nest in
    let few : lane_of place < 6 = omega arith in
    omega (arith, steps, few)

lane_number-one : (nests home place other : ℕ) → home < nests → IsPlace nests place → IsPlace nests other
    → lane_number nests home place ≡ lane_number nests home other → place ≡ other
lane_number-one nests home place other in_home is is_other same =
    let few : lane_of place < 6 = omega arith in
    let few_other : lane_of other < 6 = omega arith in
    let steps : steps_to nests home (nest_of place) ≡ steps_to nests home (nest_of other) = omega (
      arith,
      same,
      few,
      few_other,
    ) in
    let lane : lane_of place ≡ lane_of other = omega (arith, same, steps) in
    let nest : nest_of place ≡ nest_of other =
    sym (nest_behind-steps_to nests home (nest_of place) in_home is.nest)
    ∙ (ap (λ (s : ℕ). nest_behind nests home s) steps ∙ nest_behind-steps_to nests home (nest_of other) in_home
    is_other.nest) in
    omega (arith, lane, nest, is.lane, is_other.lane)

-- the place of the lane with a number
abbrev pub place_at : ℕ → ℕ → ℕ → ℕ
place_at nests home at = place_in (nest_behind nests home (at / 6)) (at % 6)

pub place_at-is : (nests home at : ℕ) → home < nests → at < 6 * nests → IsPlace nests (place_at nests home at)
place_at-is nests home at in_home within =
    let nest = nest_behind-lt nests home (at / 6) in_home (omega arith) in
    record { nest = omega (arith, nest); lane = omega arith }

place_at-number : (nests home at : ℕ) → home < nests → at < 6 * nests
    → lane_number nests home (place_at nests home at) ≡ at
place_at-number nests home at in_home within =
    let nest = nest_behind nests home (at / 6) in
    let of : nest_of (place_in nest (at % 6)) ≡ nest = omega arith in
    let lane : lane_of (place_in nest (at % 6)) ≡ at % 6 = omega arith in
    let steps : steps_to nests home (nest_of (place_in nest (at % 6))) ≡ at / 6 =
    ap (λ (n : ℕ). steps_to nests home n) of ∙ steps_to-nest_behind nests home (at / 6) in_home (omega arith) in
    omega (arith, steps, lane)

or_none : (b : Bool) → b ≡ (b || false)
or_none true = refl
or_none false = refl

-- a search answers the chunk whose life stands in the first lane that has its tag
pub record IsFound (nests : ℕ) (words : List ℕ) (ways : List Way) (hash from at : ℕ) : Type 0 where
  pub led : AreLed nests words ways
  pub home : home_of nests hash < nests
  pub over : from ≤ at
  pub within : at < 6 * nests
  pub found : tag_behind words nests (home_of nests hash) at ≡ tag_of hash
  pub first : (number : ℕ) → from ≤ number → number < at → tag_behind words nests (home_of nests hash) number ≢
      tag_of hash

module _ (nests : ℕ) (words : List ℕ) (ways : List Way) (hash from at : ℕ) where
  abbrev pub found_place : ℕ
  found_place = place_at nests (home_of nests hash) at

  abbrev pub found_chunk : ℕ
  found_chunk = chunk_in (get_or words found_place 0)

  pub found_is : IsFound nests words ways hash from at → IsPlace nests found_place
  found_is it = place_at-is nests (home_of nests hash) at it.home it.within

  found_number : IsFound nests words ways hash from at → lane_number nests (home_of nests hash) found_place ≡ at
  found_number it = place_at-number nests (home_of nests hash) at it.home it.within

  found_tag : IsFound nests words ways hash from at → tag_at words found_place ≡ tag_of hash
  found_tag it =
      sym (tag_behind-place nests (home_of nests hash) found_place words it.home (found_is it))
      ∙ (ap (λ (k : ℕ). tag_behind words nests (home_of nests hash) k) (found_number it) ∙ it.found)

  found_back : IsFound nests words ways hash from at → (way_to ways found_chunk).place ≡ found_place
  found_back it = it.led.back found_place (found_is it) (let e = found_tag it in omega (arith, e, tag_some hash))

  found_some : IsFound nests words ways hash from at → 0 < (way_to ways found_chunk).place
  found_some it = let e = found_back it in omega (arith, e, place_some nests found_place (found_is it))

  found_leads : IsFound nests words ways hash from at → LeadsTo nests words found_chunk (way_to ways found_chunk)
  found_leads it = it.led.leads found_chunk (found_some it)

  pub found_same_tag : IsFound nests words ways hash from at → tag_of (way_to ways found_chunk).hash ≡ tag_of hash
  found_same_tag it =
      sym (found_leads it).tag ∙ (ap (λ (p : ℕ). tag_at words p) (found_back it) ∙ found_tag it)

  -- what is answered is led to, by the same tag, with its generation
  pub found_led : IsFound nests words ways hash from at
      → led_by words (way_to ways found_chunk)
      ≡ Some (record {
        hash = (way_to ways found_chunk).hash;
        generation = generation_in (get_or words found_place 0);
      })
  found_led it =
      let way = way_to ways found_chunk in
      led_by-some words way (found_some it)
      ∙ ap (λ (p : ℕ). Some (record { hash = way.hash; generation = generation_in (get_or words p 0) })) (found_back it)

  -- it wasn't answered before
  pub found_anew : IsFound nests words ways hash from at → answered nests words (search_at hash from) (way_to ways
      found_chunk) ≡ false
  found_anew it =
      let way = way_to ways found_chunk in
      answered-tagged nests words (search_at hash from) way (found_some it) (found_same_tag it)
      ∙ looked-no nests hash from way.place
      (let n = ap (λ (p : ℕ). lane_number nests (home_of nests hash) p) (found_back it) ∙ found_number it in omega
      (arith, n, it.over))

  found_now : IsFound nests words ways hash from at → answered nests words (search_at hash (at + 1)) (way_to ways
      found_chunk) ≡ true
  found_now it =
      let way = way_to ways found_chunk in
      answered-tagged nests words (search_at hash (at + 1)) way (found_some it) (found_same_tag it)
      ∙ looked-yes nests hash (at + 1) way.place
      (let n = ap (λ (p : ℕ). lane_number nests (home_of nests hash) p) (found_back it) ∙ found_number it in omega
      (arith, n))

  -- every other chunk was answered before where it is after
  found_rest : IsFound nests words ways hash from at → (chunk : ℕ) → chunk ≢ found_chunk
      → answered nests words (search_at hash (at + 1)) (way_to ways chunk) ≡ answered nests words (search_at hash from) (way_to
      ways chunk)
  found_rest it chunk apart =
      let way = way_to ways chunk in
      let number = lane_number nests (home_of nests hash) way.place in
      let after = search_at hash (at + 1) in
      let before = search_at hash from in
      ⊎_elim
      (λ some. ⊎_elim
      (λ tagged.
      let same = eqb-true (tag_of way.hash) (tag_of hash) tagged in
      let leads = it.led.leads chunk some in
      let tag : tag_behind words nests (home_of nests hash) number ≡ tag_of hash =
      tag_behind-place nests (home_of nests hash) way.place words it.home leads.place ∙ (leads.tag ∙ same) in
      let looked : has_looked nests after way.place ≡ has_looked nests before way.place = ⊎_elim
      (λ below. looked-yes nests hash (at + 1) way.place (let o = it.over in omega (arith, below, o)) ∙ sym
      (looked-yes nests hash from way.place below))
      (λ not_before. ⊎_elim
      (λ is_at. absurd (apart (one_chunk nests words ways found_chunk chunk it.led (found_some it)
      (lane_number-one nests (home_of nests hash) way.place found_place it.home leads.place (found_is it) (is_at ∙
      sym (found_number it))
      ∙ sym (found_back it)))))
      (λ sides. ⊎_elim
      (λ before_at. absurd (it.first number not_before before_at tag))
      (λ behind_at. looked-no nests hash (at + 1) way.place (omega (arith, behind_at)) ∙ sym (looked-no nests hash
      from way.place not_before))
      sides)
      (cases_order number at))
      (cases_lt number from) in
      answered-tagged nests words after way some same ∙ (looked ∙ sym (answered-tagged nests words before way some same)))
      (λ other. answered-other nests words after way some other ∙ sym (answered-other nests words before way some other))
      (cases_Bool (eqb (tag_of way.hash) (tag_of hash))))
      (λ none.
      let zero : way.place ≡ 0 = omega (arith, none) in
      answered-none nests words after way zero ∙ sym (answered-none nests words before way zero))
      (cases_lt 0 way.place)

  -- after an answer, what was answered before and this chunk are answered
  pub found_answered : IsFound nests words ways hash from at → (chunk : ℕ)
      → answered nests words (search_at hash (at + 1)) (way_to ways chunk)
      ≡ (answered nests words (search_at hash from) (way_to ways chunk) || eqb chunk found_chunk)
  found_answered it chunk = ⊎_elim
      (λ same.
      ap (λ (c : ℕ). answered nests words (search_at hash (at + 1)) (way_to ways c)) same
      ∙ (found_now it
      ∙ sym (or_right (answered nests words (search_at hash from) (way_to ways chunk)) (eqb chunk found_chunk) (eq-eqb
      chunk found_chunk same))))
      (λ apart.
      found_rest it chunk apart
      ∙ (or_none (answered nests words (search_at hash from) (way_to ways chunk))
      ∙ ap (λ (b : Bool). answered nests words (search_at hash from) (way_to ways chunk) || b) (sym (ne_eqb chunk
      found_chunk apart))))
      (cases_eq chunk found_chunk)

-- where no lane that keys of the hash could be in is left, each chunk with this very hash was answered
pub all_answered : (nests : ℕ) (words : List ℕ) (ways : List Way) (hash from : ℕ)
    → AreLed nests words ways → home_of nests hash < nests
    → ((number : ℕ) → from ≤ number → number < 6 * nests
    → ((steps : ℕ) → steps < number / 6 → 0 < passed_at words (nest_behind nests (home_of nests hash) steps))
    → tag_behind words nests (home_of nests hash) number ≢ tag_of hash)
    → (chunk : ℕ) → 0 < (way_to ways chunk).place → (way_to ways chunk).hash ≡ hash
    → answered nests words (search_at hash from) (way_to ways chunk) ≡ true
all_answered nests words ways hash from led in_home none chunk some same =
    let way = way_to ways chunk in
    let home = home_of nests hash in
    let leads = led.leads chunk some in
    let number = lane_number nests home way.place in
    let same_tag : tag_of way.hash ≡ tag_of hash = ap (λ (h : ℕ). tag_of h) same in
    let far : number / 6 ≡ steps_to nests home (nest_of way.place) =
    number-nest (steps_to nests home (nest_of way.place)) (lane_of way.place) (omega arith) in
    answered-tagged nests words (search_at hash from) way some same_tag
    ∙ ⊎_elim
    (λ below. looked-yes nests hash from way.place below)
    (λ over. absurd (none number over (lane_number-lt nests home way.place in_home leads.place)
    (λ steps nearer.
    let near : steps < steps_to nests home (nest_of way.place) = omega (arith, nearer, far) in
    let far_lt = steps_to-lt nests home (nest_of way.place) in_home leads.place.nest in
    let few : steps < nests = omega (arith, near, far_lt) in
    let nest = nest_behind nests home steps in
    let in_nests = nest_behind-lt nests home steps in_home few in
    let back = steps_to-nest_behind nests home steps in_home few in
    let P : ℕ → Type 0 = λ h. steps_to nests (home_of nests h) nest < steps_to nests (home_of nests h) (nest_of
    way.place) in
    some_pass nests words ways chunk led some nest in_nests (subst P (sym same) (omega (arith, back, near))))
    (tag_behind-place nests home way.place words in_home leads.place ∙ (leads.tag ∙ same_tag))))
    (cases_lt number from)
