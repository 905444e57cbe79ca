-- What keeps the words and the ways in agreement.
use Rattle.std.proofs.Common.{◌≡◌, ◌≢◌, ℕ, ◌+◌, ◌*◌, ◌/◌, ◌%◌, ◌^◌, ◌<◌, ◌⊎◌, false, cond}
use Rattle.std.proofs.Common.{eqb, ltb, List, length, set, get_or, count_by, refl, sym, ap, ◌∙◌, subst, arith, ⊎_elim}
use Rattle.std.proofs.Common.{length-set, get_or-set_same, get_or-set_other}
use Rattle.std.proofs.Math.Nat.{add-mul-div_left, add-mul-mod_self_left, mod-eq_of_lt, div-eq_of_lt}
use Rattle.std.proofs.lemmas.Bool.{cases_lt, cases_eq, cond_both, eqb-false}
use Rattle.std.proofs.lemmas.List.{get_or_past}
use Rattle.std.proofs.lemmas.List.Sums.{sum_by-set}
use Rattle.cache_index.specs.declared.led.Way.{Way}
use Rattle.cache_index.specs.Tags.{tag_of, tag_in}
use Rattle.cache_index.specs.Places.{IsPlace, tag_at, passed_at, nest_of, lane_of, home_of, steps_to}
use Rattle.cache_index.specs.Leads.{life_number, chunk_in, generation_in, no_way, way_to, passes, LeadsTo, AreLed, IsRoomy}

-- 1 for a way that passes a nest
abbrev pub one_pass : ℕ → ℕ → Way → ℕ
one_pass nests nest way = cond (passes nests nest way) 1 0

-- a life's word has its chunk and its generation
pub life_chunk : (chunk generation : ℕ) → chunk < 2 ^ 32 → chunk_in (life_number chunk generation) ≡ chunk
life_chunk chunk generation fits = add-mul-mod_self_left chunk (2 ^ 32) generation ∙ mod-eq_of_lt fits

pub life_generation : (chunk generation : ℕ) → chunk < 2 ^ 32 → generation_in (life_number chunk generation) ≡ generation
life_generation chunk generation fits =
    add-mul-div_left chunk generation {y = 2 ^ 32} (omega arith)
    ∙ (let e : chunk / 2 ^ 32 ≡ 0 = div-eq_of_lt fits in omega (arith, e))

-- a way that leads somewhere is that of a chunk
pub chunk_of_way : (ways : List Way) (chunk : ℕ) → 0 < (way_to ways chunk).place → chunk < length ways
chunk_of_way ways chunk some =
    ⊎_elim (λ within. within)
    (λ past. let none = ap (λ (way : Way). way.place) (get_or_past ways chunk no_way past) in absurd (omega (
      arith,
      none,
    )))
    (cases_lt chunk (length ways))

pub place_some : (nests place : ℕ) → IsPlace nests place → 0 < place
place_some nests place is = omega (arith, is.lane)

pub tag_some : (hash : ℕ) → 0 < tag_of hash
tag_some hash =
    cond_both (eqb (hash % 256) 0) 1 (hash % 256) (λ v. 0 < v) (λ e. omega arith)
    (λ e. let some = eqb-false (hash % 256) 0 e in omega arith)

-- the way of a chunk that was set, and that of another
pub way_here : (ways : List Way) (chunk : ℕ) (way : Way) → chunk < length ways → way_to (set ways chunk way) chunk ≡ way
way_here ways chunk way within = get_or-set_same ways chunk way no_way within

pub way_elsewhere : (ways : List Way) (chunk other : ℕ) (way : Way) → other ≢ chunk
    → way_to (set ways chunk way) other ≡ way_to ways other
way_elsewhere ways chunk other way apart = get_or-set_other ways chunk other way no_way apart

-- two chunks have no lane together
pub one_chunk : (nests : ℕ) (words : List ℕ) (ways : List Way) (chunk other : ℕ) → AreLed nests words ways
    → 0 < (way_to ways chunk).place → (way_to ways other).place ≡ (way_to ways chunk).place → other ≡ chunk
one_chunk nests words ways chunk other led some same =
    let other_some : 0 < (way_to ways other).place = omega arith in
    sym (led.leads other other_some).life
    ∙ (ap (λ (p : ℕ). chunk_in (get_or words p 0)) same ∙ (led.leads chunk some).life)

-- the words after are those before, with one more way, which leads to this life
pub record IsLaid (nests : ℕ) (before after : List ℕ) (chunk generation : ℕ) (way : Way) : Type 0 where
  pub size : length after ≡ length before
  pub tag : tag_at after way.place ≡ tag_of way.hash
  pub tags : (place : ℕ) → IsPlace nests place → place ≢ way.place → tag_at after place ≡ tag_at before place
  pub life : get_or after way.place 0 ≡ life_number chunk generation
  pub lives : (place : ℕ) → IsPlace nests place → place ≢ way.place → get_or after place 0 ≡ get_or before place 0
  pub passed : (nest : ℕ) → nest < nests → passed_at after nest ≡ passed_at before nest + one_pass nests nest way

no_pass : (nests nest : ℕ) (way : Way) → way.place ≡ 0 → one_pass nests nest way ≡ 0
no_pass nests nest way none =
    ap (λ (p : ℕ). cond (cond (eqb p 0) false
    (ltb (steps_to nests (home_of nests way.hash) nest) (steps_to nests (home_of nests way.hash) (nest_of p)))) 1 0)
    none

-- where no way led to the chunk, and the lane was off, another way isn't that of the lane
pub laid_apart : (nests : ℕ) (words : List ℕ) (ways : List Way) (chunk : ℕ) (way : Way) → AreLed nests words ways
    → tag_at words way.place ≡ 0 → 0 < (way_to ways chunk).place → (way_to ways chunk).place ≢ way.place
laid_apart nests words ways chunk way led off some same =
    let tags : tag_at words (way_to ways chunk).place ≡ tag_at words way.place = ap (λ (p : ℕ). tag_at words p) same in
    absurd (omega (arith, (led.leads chunk some).tag, tags, off, tag_some (way_to ways chunk).hash))

-- with one more way the words and the ways agree again
pub laid_is_led : (nests : ℕ) (before after : List ℕ) (ways : List Way) (chunk generation : ℕ) (way : Way)
    → AreLed nests before ways → IsRoomy nests ways → chunk < length ways → (way_to ways chunk).place ≡ 0
    → IsPlace nests way.place → tag_at before way.place ≡ 0
    → IsLaid nests before after chunk generation way → AreLed nests after (set ways chunk way)
laid_is_led nests before after ways chunk generation way led roomy within none is_place off laid =
    let here = way_here ways chunk way within in
    let life : chunk_in (get_or after way.place 0) ≡ chunk =
    ap chunk_in laid.life ∙ life_chunk chunk generation (omega (arith, within, roomy.few_chunks)) in
    record {
      size = laid.size ∙ led.size;
      leads = λ c some. ⊎_elim
          (λ same.
          let P : Way → Type 0 = λ w. LeadsTo nests after chunk w in
          let Q : ℕ → Type 0 = λ k. LeadsTo nests after k (way_to (set ways chunk way) k) in
          subst Q (sym same) (subst P (sym here) (record { place = is_place; tag = laid.tag; life = life })))
          (λ apart.
          let there = way_elsewhere ways chunk c way apart in
          let P : Way → Type 0 = λ w. 0 < w.place in
          let old = led.leads c (subst P there some) in
          let w = way_to ways c in
          let other = laid_apart nests before ways c way led off (subst P there some) in
          let Q : Way → Type 0 = λ v. LeadsTo nests after c v in
          subst Q (sym there) (record {
            place = old.place;
            tag = laid.tags w.place old.place other ∙ old.tag;
            life = ap chunk_in (laid.lives w.place old.place other) ∙ old.life;
          }))
          (cases_eq c chunk);
      back = λ place is on. ⊎_elim
          (λ same.
          let number : chunk_in (get_or after place 0) ≡ chunk =
          ap (λ (p : ℕ). chunk_in (get_or after p 0)) same ∙ life in
          ap (λ (k : ℕ). (way_to (set ways chunk way) k).place) number
          ∙ (ap (λ (w : Way). w.place) here ∙ sym same))
          (λ apart.
          let word = laid.lives place is apart in
          let was_on : 0 < tag_at before place = omega (arith, laid.tags place is apart) in
          let old = led.back place is was_on in
          let c = chunk_in (get_or before place 0) in
          let other : c ≢ chunk = λ e.
          let p : (way_to ways c).place ≡ (way_to ways chunk).place = ap (λ (k : ℕ). (way_to ways k).place) e in
          absurd (omega (arith, p, old, none, place_some nests place is)) in
          ap (λ (n : ℕ). (way_to (set ways chunk way) (chunk_in n)).place) word
          ∙ (ap (λ (w : Way). w.place) (way_elsewhere ways chunk c way other) ∙ old))
          (cases_eq place way.place);
      passed = λ nest inside.
          let counts : count_by (passes nests nest) (set ways chunk way) + one_pass nests nest (way_to ways chunk)
          ≡ count_by (passes nests nest) ways + one_pass nests nest way =
          sum_by-set (λ (w : Way). one_pass nests nest w) ways chunk way no_way within in
          let zero_before : one_pass nests nest (way_to ways chunk) ≡ 0 = no_pass nests nest (way_to ways chunk) none in
          omega (arith, counts, zero_before, laid.passed nest inside, led.passed nest inside);
    }

-- the words after are those before, without a way
pub record IsLifted (nests : ℕ) (before after : List ℕ) (way : Way) : Type 0 where
  pub size : length after ≡ length before
  pub tag : tag_at after way.place ≡ 0
  pub tags : (place : ℕ) → IsPlace nests place → place ≢ way.place → tag_at after place ≡ tag_at before place
  pub lives : (place : ℕ) → IsPlace nests place → get_or after place 0 ≡ get_or before place 0
  pub passed : (nest : ℕ) → nest < nests → passed_at before nest ≡ passed_at after nest + one_pass nests nest way

-- without a way the words and the ways agree again
pub lifted_is_led : (nests : ℕ) (before after : List ℕ) (ways : List Way) (chunk : ℕ)
    → AreLed nests before ways → 0 < (way_to ways chunk).place
    → IsLifted nests before after (way_to ways chunk) → AreLed nests after (set ways chunk no_way)
lifted_is_led nests before after ways chunk led some lifted =
    let within = chunk_of_way ways chunk some in
    let here = way_here ways chunk no_way within in
    let way = way_to ways chunk in
    record {
      size = lifted.size ∙ led.size;
      leads = λ c on. ⊎_elim
          (λ same.
          let off : (way_to (set ways chunk no_way) c).place ≡ 0 =
          ap (λ (k : ℕ). (way_to (set ways chunk no_way) k).place) same ∙ ap (λ (w : Way). w.place) here in
          absurd (omega (arith, off, on)))
          (λ apart.
          let there = way_elsewhere ways chunk c no_way apart in
          let P : Way → Type 0 = λ w. 0 < w.place in
          let old = led.leads c (subst P there on) in
          let w = way_to ways c in
          let other : w.place ≢ way.place = λ e. apart (one_chunk nests before ways chunk c led some e) in
          let Q : Way → Type 0 = λ v. LeadsTo nests after c v in
          subst Q (sym there) (record {
            place = old.place;
            tag = lifted.tags w.place old.place other ∙ old.tag;
            life = ap chunk_in (lifted.lives w.place old.place) ∙ old.life;
          }))
          (cases_eq c chunk);
      back = λ place is on. ⊎_elim
          (λ same.
          let off : tag_at after place ≡ 0 = ap (λ (p : ℕ). tag_at after p) same ∙ lifted.tag in
          absurd (omega (arith, off, on)))
          (λ apart.
          let was_on : 0 < tag_at before place = omega (arith, lifted.tags place is apart) in
          let old = led.back place is was_on in
          let c = chunk_in (get_or before place 0) in
          let other : c ≢ chunk = λ e. apart (sym old ∙ ap (λ (k : ℕ). (way_to ways k).place) e) in
          ap (λ (n : ℕ). (way_to (set ways chunk no_way) (chunk_in n)).place) (lifted.lives place is)
          ∙ (ap (λ (w : Way). w.place) (way_elsewhere ways chunk c no_way other) ∙ old))
          (cases_eq place way.place);
      passed = λ nest inside.
          let counts : count_by (passes nests nest) (set ways chunk no_way) + one_pass nests nest way
          ≡ count_by (passes nests nest) ways + one_pass nests nest no_way =
          sum_by-set (λ (w : Way). one_pass nests nest w) ways chunk no_way no_way within in
          let zero_after : one_pass nests nest no_way ≡ 0 = refl in
          omega (arith, counts, zero_after, lifted.passed nest inside, led.passed nest inside);
    }

-- in the lane of a way stands the life of another chunk, which had no way or is the same
pub led_anew : (nests : ℕ) (words : List ℕ) (ways : List Way) (old chunk generation : ℕ) (way : Way)
    → AreLed nests words ways → IsRoomy nests ways → 0 < (way_to ways old).place
    → chunk < length ways → ((way_to ways chunk).place ≡ 0) ⊎ (chunk ≡ old)
    → way ≡ way_to ways old
    → AreLed nests (set words way.place (life_number chunk generation)) (set (set ways old no_way) chunk way)
led_anew nests words ways old chunk generation way led roomy some within anew same_way =
    let same_place : way.place ≡ (way_to ways old).place = ap (λ (w : Way). w.place) same_way in
    let same_hash : way.hash ≡ (way_to ways old).hash = ap (λ (w : Way). w.hash) same_way in
    let was = way_to ways old in
    let between = set ways old no_way in
    let inside : chunk < length between = omega (arith, length-set ways old no_way) in
    let old_within = chunk_of_way ways old some in
    let here = way_here between chunk way inside in
    let number = life_number chunk generation in
    let after = set words way.place number in
    let way_led = led.leads old some in
    let is_place : IsPlace nests way.place = (let P : ℕ → Type 0 = λ p. IsPlace nests p in subst P (sym same_place)
    way_led.place) in
    let in_words : way.place < length words = omega (arith, led.size, is_place.nest) in
    let tags : (place : ℕ) → IsPlace nests place → tag_at after place ≡ tag_at words place =
    λ place is. ap (λ (n : ℕ). tag_in n (lane_of place))
    (get_or-set_other words way.place (8 * nest_of place) number 0 (λ e. absurd (omega (arith, is_place.lane, e)))) in
    let lives : (place : ℕ) → place ≢ way.place → get_or after place 0 ≡ get_or words place 0 =
    λ place apart. get_or-set_other words way.place place number 0 apart in
    let life_here : get_or after way.place 0 ≡ number = get_or-set_same words way.place number 0 in_words in
    let life : chunk_in (get_or after way.place 0) ≡ chunk =
    ap chunk_in life_here ∙ life_chunk chunk generation (omega (arith, within, roomy.few_chunks)) in
    let others : (c : ℕ) → c ≢ chunk → c ≢ old → way_to (set between chunk way) c ≡ way_to ways c =
    λ c apart apart_old. way_elsewhere between chunk c way apart ∙ way_elsewhere ways old c no_way apart_old in
    record {
      size = length-set words way.place number ∙ led.size;
      leads = λ c on. ⊎_elim
          (λ same.
          let P : Way → Type 0 = λ w. LeadsTo nests after chunk w in
          let Q : ℕ → Type 0 = λ k. LeadsTo nests after k (way_to (set between chunk way) k) in
          let tag : tag_at after way.place ≡ tag_of way.hash =
          tags way.place is_place
          ∙ (ap (λ (p : ℕ). tag_at words p) same_place ∙ (way_led.tag ∙ sym (ap (λ (h : ℕ). tag_of h) same_hash))) in
          subst Q (sym same) (subst P (sym here) (record { place = is_place; tag = tag; life = life })))
          (λ apart. ⊎_elim
          (λ same_old.
          let off : (way_to (set between chunk way) c).place ≡ 0 =
          ap (λ (w : Way). w.place) (way_elsewhere between chunk c way apart)
          ∙ (ap (λ (k : ℕ). (way_to between k).place) same_old ∙ ap (λ (w : Way). w.place) (way_here ways old no_way
          old_within)) in
          absurd (omega (arith, off, on)))
          (λ apart_old.
          let there = others c apart apart_old in
          let P : Way → Type 0 = λ w. 0 < w.place in
          let before = led.leads c (subst P there on) in
          let w = way_to ways c in
          let other : w.place ≢ way.place = λ e. apart_old (one_chunk nests words ways old c led some (e ∙
          same_place)) in
          let Q : Way → Type 0 = λ v. LeadsTo nests after c v in
          subst Q (sym there) (record {
            place = before.place;
            tag = tags w.place before.place ∙ before.tag;
            life = ap chunk_in (lives w.place other) ∙ before.life;
          }))
          (cases_eq c old))
          (cases_eq c chunk);
      back = λ place is on. ⊎_elim
          (λ same.
          let decoded : chunk_in (get_or after place 0) ≡ chunk =
          ap (λ (p : ℕ). chunk_in (get_or after p 0)) same ∙ life in
          ap (λ (k : ℕ). (way_to (set between chunk way) k).place) decoded
          ∙ (ap (λ (w : Way). w.place) here ∙ sym same))
          (λ apart.
          let was_on : 0 < tag_at words place = omega (arith, tags place is) in
          let before = led.back place is was_on in
          let c = chunk_in (get_or words place 0) in
          let not_old : c ≢ old = λ e. apart (sym before ∙ (ap (λ (k : ℕ). (way_to ways k).place) e ∙ sym
          same_place)) in
          let not_chunk : c ≢ chunk = λ e. ⊎_elim
          (λ none.
          let p : (way_to ways c).place ≡ (way_to ways chunk).place = ap (λ (k : ℕ). (way_to ways k).place) e in
          absurd (omega (arith, p, before, none, place_some nests place is)))
          (λ is_old. not_old (e ∙ is_old))
          anew in
          ap (λ (n : ℕ). (way_to (set between chunk way) (chunk_in n)).place) (lives place apart)
          ∙ (ap (λ (w : Way). w.place) (others c not_chunk not_old) ∙ before))
          (cases_eq place way.place);
      passed = λ nest within_nests.
          let counts : count_by (passes nests nest) between + one_pass nests nest was
          ≡ count_by (passes nests nest) ways + one_pass nests nest no_way =
          sum_by-set (λ (w : Way). one_pass nests nest w) ways old no_way no_way old_within in
          let counts_after : count_by (passes nests nest) (set between chunk way) + one_pass nests nest (way_to
          between chunk)
          ≡ count_by (passes nests nest) between + one_pass nests nest way =
          sum_by-set (λ (w : Way). one_pass nests nest w) between chunk way no_way inside in
          let zero_no_way : one_pass nests nest no_way ≡ 0 = refl in
          let zero_between : one_pass nests nest (way_to between chunk) ≡ 0 = ⊎_elim
          (λ none. ⊎_elim
          (λ is_old. ap (λ (k : ℕ). one_pass nests nest (way_to between k)) is_old
          ∙ ap (λ (w : Way). one_pass nests nest w) (way_here ways old no_way old_within))
          (λ apart_old. ap (λ (w : Way). one_pass nests nest w) (way_elsewhere ways old chunk no_way apart_old)
          ∙ no_pass nests nest (way_to ways chunk) none)
          (cases_eq chunk old))
          (λ is_old. ap (λ (k : ℕ). one_pass nests nest (way_to between k)) is_old
          ∙ ap (λ (w : Way). one_pass nests nest w) (way_here ways old no_way old_within))
          anew in
          let same_pass : one_pass nests nest way ≡ one_pass nests nest was =
          ap (λ (p : ℕ). cond (cond (eqb p 0) false
          (ltb (steps_to nests (home_of nests way.hash) nest) (steps_to nests (home_of nests way.hash) (nest_of p))))
          1 0) same_place
          ∙ ap (λ (h : ℕ). cond (cond (eqb was.place 0) false
          (ltb (steps_to nests (home_of nests h) nest) (steps_to nests (home_of nests h) (nest_of was.place)))) 1 0)
          same_hash in
          let word : passed_at after nest ≡ passed_at words nest =
          get_or-set_other words way.place (8 * nest + 1) number 0 (λ e. absurd (omega (arith, is_place.lane, e))) in
          omega (arith, counts, counts_after, zero_no_way, zero_between, same_pass, word, led.passed nest within_nests);
    }
