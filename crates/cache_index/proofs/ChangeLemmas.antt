-- What put and clear do to the words, step by step.
use Rattle.std.proofs.Common.{◌≡◌, ◌≢◌, ℕ, ◌+◌, ◌*◌, ◌<◌, ◌≤◌, false, cond, eqb, ltb}
use Rattle.std.proofs.Common.{Bool, List, length, set, count_by, refl, sym, ap, ◌∙◌, arith}
use Rattle.std.proofs.Common.{length-set, get_or-set_same, get_or-set_other}
use Rattle.std.proofs.lemmas.Bool.{ne_eqb, cond-true, cond-false, lt-ltb}
use Rattle.std.proofs.lemmas.List.Sums.{sum_by-set}
use Rattle.cache_index.specs.declared.led.Way.{Way}
use Rattle.cache_index.specs.Tags.{tag_of, tag_in}
use Rattle.cache_index.specs.Places.{IsPlace, tag_at, passed_at, nest_of, lane_of, home_of, steps_to}
use Rattle.cache_index.specs.Changes.{OneMorePassed, HasNewTag}
use Rattle.cache_index.specs.Leads.{life_number, no_way, way_to, passes, AreLed}
use Rattle.cache_index.proofs.StepsLemmas.{one_below}
use Rattle.cache_index.proofs.LedLemmas.{one_pass, IsLaid, IsLifted, chunk_of_way, place_some}

-- how a way passes a nest
pub one_pass-steps : (nests nest : ℕ) (way : Way) → 0 < way.place
    → one_pass nests nest way ≡ one_below (steps_to nests (home_of nests way.hash) nest) (steps_to nests (home_of
    nests way.hash) (nest_of way.place))
one_pass-steps nests nest way some =
    ap (λ (b : Bool). cond b 1 0)
    (cond-false (eqb way.place 0) false
    (ltb (steps_to nests (home_of nests way.hash) nest) (steps_to nests (home_of nests way.hash) (nest_of way.place)))
    (ne_eqb way.place 0 (λ e. absurd (omega (arith, e, some)))))

-- a nest's word of tags stands at no place, and neither does its count
pub tags_apart : (nests place nest : ℕ) → IsPlace nests place → 8 * nest ≢ place
tags_apart nests place nest is e = absurd (omega (arith, is.lane, e))

pub passed_apart : (nests place nest : ℕ) → IsPlace nests place → 8 * nest + 1 ≢ place
passed_apart nests place nest is e = absurd (omega (arith, is.lane, e))

-- first the nests count the way, then its lane has the life, and then the tag
pub put_lays : (nests : ℕ) (words counted tagged : List ℕ) (chunk generation : ℕ) (way : Way)
    → length words ≡ 8 * nests → IsPlace nests way.place
    → OneMorePassed nests (home_of nests way.hash) (steps_to nests (home_of nests way.hash) (nest_of way.place))
    words counted
    → HasNewTag nests way.place (tag_of way.hash) (set counted way.place (life_number chunk generation)) tagged
    → IsLaid nests words tagged chunk generation way
put_lays nests words counted tagged chunk generation way size is passed tag =
    let place = way.place in
    let number = life_number chunk generation in
    let laid = set counted place number in
    let counted_size : length counted ≡ 8 * nests = passed.size ∙ size in
    let inside : place < length counted = omega (arith, counted_size, is.nest) in
    let not_tags : place ≢ 8 * nest_of place = λ e. tags_apart nests place (nest_of place) is (sym e) in
    record {
      size = tag.size ∙ (length-set counted place number ∙ passed.size);
      tag = tag.here;
      tags = λ other is_other apart.
          tag.elsewhere other is_other apart
          ∙ ap (λ (n : ℕ). tag_in n (lane_of other))
          (get_or-set_other counted place (8 * nest_of other) number 0 (tags_apart nests place (nest_of other) is)
          ∙ passed.others (8 * nest_of other) (λ e. absurd (omega (arith, e))));
      life = tag.others place not_tags ∙ get_or-set_same counted place number 0 inside;
      lives = λ other is_other apart.
          tag.others other (λ e. tags_apart nests other (nest_of place) is_other (sym e))
          ∙ (get_or-set_other counted place other number 0 apart
          ∙ passed.others other (λ e. absurd (omega (arith, e, is_other.lane))));
      passed = λ nest within.
          let word = tag.others (8 * nest + 1) (λ e. absurd (omega (arith, e)))
          ∙ get_or-set_other counted place (8 * nest + 1) number 0 (passed_apart nests place nest is) in
          let one = one_pass-steps nests nest way (place_some nests place is) in
          omega (arith, word, one, passed.passed nest within);
    }

-- first the lane goes off, and then the nests count the way no more
pub clear_lifts : (nests : ℕ) (words off after : List ℕ) (way : Way) → IsPlace nests way.place
    → HasNewTag nests way.place 0 words off
    → OneMorePassed nests (home_of nests way.hash) (steps_to nests (home_of nests way.hash) (nest_of way.place))
    after off
    → IsLifted nests words after way
clear_lifts nests words off after way is tag passed =
    let place = way.place in
    let tags_stay : (other : ℕ) → tag_at after other ≡ tag_at off other = λ other.
    ap (λ (n : ℕ). tag_in n (lane_of other)) (sym (passed.others (8 * nest_of other) (λ e. absurd (omega (
      arith,
      e,
    ))))) in
    record {
      size = sym passed.size ∙ tag.size;
      tag = tags_stay place ∙ tag.here;
      tags = λ other is_other apart. tags_stay other ∙ tag.elsewhere other is_other apart;
      lives = λ other is_other.
          sym (passed.others other (λ e. absurd (omega (arith, e, is_other.lane))))
          ∙ tag.others other (λ e. tags_apart nests other (nest_of place) is_other (sym e));
      passed = λ nest within.
          let word = tag.others (8 * nest + 1) (λ e. absurd (omega (arith, e))) in
          let one = one_pass-steps nests nest way (place_some nests place is) in
          omega (arith, word, one, passed.passed nest within);
    }

-- a way counts where it passes
pub one_of_count : (nests nest : ℕ) (ways : List Way) (chunk : ℕ) → chunk < length ways
    → one_pass nests nest (way_to ways chunk) ≤ count_by (passes nests nest) ways
one_of_count nests nest ways chunk within =
    let counts : count_by (passes nests nest) (set ways chunk no_way) + one_pass nests nest (way_to ways chunk)
    ≡ count_by (passes nests nest) ways + one_pass nests nest no_way =
    sum_by-set (λ (w : Way). one_pass nests nest w) ways chunk no_way no_way within in
    let zero_no_way : one_pass nests nest no_way ≡ 0 = refl in
    omega (arith, counts, zero_no_way)

-- a nest that a way passes counts it
pub some_pass : (nests : ℕ) (words : List ℕ) (ways : List Way) (chunk : ℕ) → AreLed nests words ways
    → 0 < (way_to ways chunk).place
    → let home = home_of nests (way_to ways chunk).hash in (nest : ℕ) → nest < nests
    → steps_to nests home nest < steps_to nests home (nest_of (way_to ways chunk).place) → 0 < passed_at words nest
some_pass nests words ways chunk led some nest within nearer =
    let way = way_to ways chunk in
    let home = home_of nests way.hash in
    let one : one_pass nests nest way ≡ 1 =
    one_pass-steps nests nest way some
    ∙ cond-true (ltb (steps_to nests home nest) (steps_to nests home (nest_of way.place))) 1 0
    (lt-ltb (steps_to nests home nest) (steps_to nests home (nest_of way.place)) nearer) in
    omega (arith, one, one_of_count nests nest ways chunk (chunk_of_way ways chunk some), led.passed nest within)
