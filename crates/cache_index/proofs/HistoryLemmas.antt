-- What readers need of the words holds at each moment, also between the stores of one call.
use Rattle.std.proofs.Common.{◌≡◌, ◌≢◌, ℕ, zero, suc, ◌+◌, ◌*◌, ◌/◌, ◌<◌, ◌≤◌, List, [], ◌∷◌, length, replicate, set, get_or, count_by, refl, sym, ap, ◌∙◌, subst, arith, ⊎_elim, length-set, get_or-set_same, get_or-set_other}
use Rattle.std.proofs.lemmas.Bool.{cases_lt, cases_eq}
use Rattle.std.proofs.lemmas.List.Sums.{sum_by-set}
use Rattle.seen_words.specs.declared.views.Moment.{Moment}
use Rattle.seen_words.specs.Past.{moment, note_of}
use Rattle.cache_index.specs.declared.led.Way.{Way}
use Rattle.cache_index.specs.Tags.{tag_in}
use Rattle.cache_index.specs.Places.{IsPlace, tag_at, passed_at, nest_of, lane_of, home_of, steps_to}
use Rattle.cache_index.specs.Changes.{OneMorePassed, HasNewTag}
use Rattle.cache_index.specs.Leads.{chunk_in, no_way, way_to, passes, LeadsTo, AreLed}
use Rattle.cache_index.specs.History.{rows_of, ways_of, IsReached, IsIndex, AreNoted, KeepHashes, KeepNotedHashes}
use Rattle.cache_index.proofs.StepsLemmas.{one_below, one_below-yes, one_below-no}
use Rattle.cache_index.proofs.RoomLemmas.{zero_tag_at}
use Rattle.cache_index.proofs.LedLemmas.{one_pass, chunk_of_way, one_chunk, tag_some, way_here, way_elsewhere}
use Rattle.cache_index.proofs.ChangeLemmas.{one_pass-steps, passed_apart, tags_apart}

-- the ways that were noted are read back
pub ways_back : (ways : List Way) → ways_of (rows_of ways) ≡ ways
ways_back [] = refl
ways_back (way ∷ ways) = ap (λ (ws : List Way). way ∷ ws) (ways_back ways)

-- ways that keep the hashes of those which were noted last keep them, if there were any
keeps_past : (past : List Moment) (ways : List Way) → KeepHashes (ways_of (note_of past)) ways
    → KeepNotedHashes past (rows_of ways)
keeps_past [] ways keeps = record {}
keeps_past (last ∷ older) ways keeps =
    subst (λ (ws : List Way). KeepHashes (ways_of last.note) ws) (sym (ways_back ways)) keeps

-- a moment that is as readers need it, with ways that keep their hashes, is lawful
pub law_of : (nests : ℕ) (words : List ℕ) (ways : List Way) (past : List Moment) → length words ≡ 8 * nests
    → IsReached nests words ways → KeepHashes (ways_of (note_of past)) ways → IsIndex past (moment words (rows_of ways))
law_of nests words ways past size reached keeps = record {
  reached = λ (n : ℕ) (full : length words ≡ 8 * n).
      let same : nests ≡ n = omega (arith, size, full) in
      subst (λ (k : ℕ). IsReached k words (ways_of (rows_of ways))) same
      (subst (λ (ws : List Way). IsReached nests words ws) (sym (ways_back ways)) reached);
  keeps = keeps_past past ways keeps;
}

-- at the start nothing is noted, and all lanes are off
pub first_law : (count : ℕ) → IsIndex [] (moment (replicate count 0) [])
first_law count = record {
  reached = λ (n : ℕ) (full : length (replicate {A = ℕ} count 0) ≡ 8 * n). record {
    leads = λ (chunk : ℕ) (some : 0 < (way_to [] chunk).place). absurd (omega (arith, some));
    back = λ (place : ℕ) (is : IsPlace n place) (on : 0 < tag_at (replicate count 0) place).
        absurd (omega (arith, on, zero_tag_at count place));
    passed = λ (nest : ℕ) (within : nest < n). omega arith;
  };
  keeps = record {};
}

-- words and ways that agree
pub led_reached : (nests : ℕ) (words : List ℕ) (ways : List Way) → AreLed nests words ways → IsReached nests words ways
led_reached nests words ways led = record {
  leads = led.leads;
  back = led.back;
  passed = λ (nest : ℕ) (within : nest < nests). let e = led.passed nest within in omega (arith, e);
}

-- other words whose lanes are the same, and whose nests count no less
reached_like : (nests : ℕ) (before after : List ℕ) (ways : List Way) → IsReached nests before ways
    → ((place : ℕ) → IsPlace nests place → tag_at after place ≡ tag_at before place)
    → ((place : ℕ) → IsPlace nests place → 0 < tag_at before place → get_or after place 0 ≡ get_or before place 0)
    → ((nest : ℕ) → nest < nests → passed_at before nest ≤ passed_at after nest) → IsReached nests after ways
reached_like nests before after ways reached tags lives counts = record {
  leads = λ (chunk : ℕ) (some : 0 < (way_to ways chunk).place).
      let old = reached.leads chunk some in
      let way = way_to ways chunk in
      let on : 0 < tag_at before way.place = (let t = old.tag in let s = tag_some way.hash in omega (arith, t, s)) in
      record {
        place = old.place;
        tag = tags way.place old.place ∙ old.tag;
        life = ap chunk_in (lives way.place old.place on) ∙ old.life;
      };
  back = λ (place : ℕ) (is : IsPlace nests place) (on : 0 < tag_at after place).
      let was : 0 < tag_at before place = (let e = tags place is in omega (arith, on, e)) in
      ap (λ (n : ℕ). (way_to ways (chunk_in n)).place) (lives place is was) ∙ reached.back place is was;
  passed = λ (nest : ℕ) (within : nest < nests).
      let a = reached.passed nest within in let b = counts nest within in omega (arith, a, b);
}

-- one more key passes some nests
pub pass_reached : (nests home steps : ℕ) (before after : List ℕ) (ways : List Way) → IsReached nests before ways
    → OneMorePassed nests home steps before after → IsReached nests after ways
pass_reached nests home steps before after ways reached passed =
    reached_like nests before after ways reached
    (λ (place : ℕ) (is : IsPlace nests place).
    ap (λ (n : ℕ). tag_in n (lane_of place)) (passed.others (8 * nest_of place) (λ e. absurd (omega (arith, e)))))
    (λ (place : ℕ) (is : IsPlace nests place) (on : 0 < tag_at before place).
    passed.others place (λ e. absurd (omega (arith, e, is.lane))))
    (λ (nest : ℕ) (within : nest < nests). let e = passed.passed nest within in omega (arith, e))

-- a lane that is off gets a life
pub life_reached : (nests place number : ℕ) (before : List ℕ) (ways : List Way) → IsReached nests before ways
    → IsPlace nests place → tag_at before place ≡ 0 → IsReached nests (set before place number) ways
life_reached nests place number before ways reached is off =
    reached_like nests before (set before place number) ways reached
    (λ (other : ℕ) (is_other : IsPlace nests other).
    ap (λ (n : ℕ). tag_in n (lane_of other))
    (get_or-set_other before place (8 * nest_of other) number 0 (tags_apart nests place (nest_of other) is)))
    (λ (other : ℕ) (is_other : IsPlace nests other) (on : 0 < tag_at before other).
    get_or-set_other before place other number 0
    (λ e. let t : tag_at before other ≡ tag_at before place = ap (λ (p : ℕ). tag_at before p) e in
    absurd (omega (arith, t, off, on))))
    (λ (nest : ℕ) (within : nest < nests).
    let e : passed_at (set before place number) nest ≡ passed_at before nest =
    get_or-set_other before place (8 * nest + 1) number 0 (passed_apart nests place nest is) in
    omega (arith, e))

-- no more counts a way that is gone
count_gone : (nests nest : ℕ) (ways : List Way) (chunk : ℕ) → chunk < length ways
    → count_by (passes nests nest) (set ways chunk no_way) + one_pass nests nest (way_to ways chunk)
    ≡ count_by (passes nests nest) ways
count_gone nests nest ways chunk within =
    let counts : count_by (passes nests nest) (set ways chunk no_way) + one_pass nests nest (way_to ways chunk)
    ≡ count_by (passes nests nest) ways + one_pass nests nest no_way =
    sum_by-set (λ (w : Way). one_pass nests nest w) ways chunk no_way no_way within in
    let zero_no_way : one_pass nests nest no_way ≡ 0 = refl in
    omega (arith, counts, zero_no_way)

-- a way is gone, and its lane is off
pub off_reached : (nests : ℕ) (words off : List ℕ) (ways : List Way) (chunk : ℕ) → AreLed nests words ways
    → 0 < (way_to ways chunk).place → HasNewTag nests (way_to ways chunk).place 0 words off
    → IsReached nests off (set ways chunk no_way)
off_reached nests words off ways chunk led some tag =
    let within = chunk_of_way ways chunk some in
    let here = way_here ways chunk no_way within in
    let place = (way_to ways chunk).place in
    record {
      leads = λ (c : ℕ) (on : 0 < (way_to (set ways chunk no_way) c).place). ⊎_elim
          (λ same.
          let gone : (way_to (set ways chunk no_way) c).place ≡ 0 =
          ap (λ (k : ℕ). (way_to (set ways chunk no_way) k).place) same ∙ ap (λ (w : Way). w.place) here in
          absurd (omega (arith, gone, on)))
          (λ apart.
          let there = way_elsewhere ways chunk c no_way apart in
          let P : Way → Type 0 = λ w. 0 < w.place in
          let old = led.leads c (subst P there on) in
          let w = way_to ways c in
          let other : w.place ≢ place = λ e. apart (one_chunk nests words ways chunk c led some e) in
          let Q : Way → Type 0 = λ v. LeadsTo nests off c v in
          subst Q (sym there) (record {
            place = old.place;
            tag = tag.elsewhere w.place old.place other ∙ old.tag;
            life = ap chunk_in (tag.others w.place (λ e. tags_apart nests w.place (nest_of place) old.place (sym e)))
                ∙ old.life;
          }))
          (cases_eq c chunk);
      back = λ (lane : ℕ) (is : IsPlace nests lane) (on : 0 < tag_at off lane).
          let other : lane ≢ place = (λ e. let same : tag_at off lane ≡ tag_at off place = ap (λ (p : ℕ). tag_at off p) e in
          absurd (omega (arith, same, on, tag.here))) in
          let was : 0 < tag_at words lane = (let e = tag.elsewhere lane is other in omega (arith, on, e)) in
          let life : get_or off lane 0 ≡ get_or words lane 0 =
          tag.others lane (λ e. tags_apart nests lane (nest_of place) is (sym e)) in
          let old = led.back lane is was in
          let apart : chunk_in (get_or words lane 0) ≢ chunk =
          (λ e. other (sym old ∙ ap (λ (k : ℕ). (way_to ways k).place) e)) in
          ap (λ (n : ℕ). (way_to (set ways chunk no_way) (chunk_in n)).place) life
          ∙ (ap (λ (w : Way). w.place) (way_elsewhere ways chunk (chunk_in (get_or words lane 0)) no_way apart) ∙ old);
      passed = λ (nest : ℕ) (inside : nest < nests).
          let word : passed_at off nest ≡ passed_at words nest =
          tag.others (8 * nest + 1) (λ e. absurd (omega (arith, e))) in
          omega (arith, word, count_gone nests nest ways chunk within, led.passed nest inside);
    }

-- and some nests count it no more
pub unpass_reached : (nests steps : ℕ) (words off after : List ℕ) (ways : List Way) (chunk : ℕ) → AreLed nests words ways
    → 0 < (way_to ways chunk).place → HasNewTag nests (way_to ways chunk).place 0 words off
    → steps ≤ steps_to nests (home_of nests (way_to ways chunk).hash) (nest_of (way_to ways chunk).place)
    → OneMorePassed nests (home_of nests (way_to ways chunk).hash) steps after off
    → IsReached nests after (set ways chunk no_way)
unpass_reached nests steps words off after ways chunk led some tag near passed =
    let way = way_to ways chunk in
    let home = home_of nests way.hash in
    let far = steps_to nests home (nest_of way.place) in
    let within = chunk_of_way ways chunk some in
    let reached = off_reached nests words off ways chunk led some tag in
    record {
      leads = λ (c : ℕ) (on : 0 < (way_to (set ways chunk no_way) c).place).
          let old = reached.leads c on in
          let w = way_to (set ways chunk no_way) c in
          record {
            place = old.place;
            tag = ap (λ (n : ℕ). tag_in n (lane_of w.place))
                (sym (passed.others (8 * nest_of w.place) (λ e. absurd (omega (arith, e))))) ∙ old.tag;
            life = ap chunk_in (sym (passed.others w.place (λ e. absurd (omega (arith, e, old.place.lane))))) ∙ old.life;
          };
      back = λ (lane : ℕ) (is : IsPlace nests lane) (on : 0 < tag_at after lane).
          let tags : tag_at off lane ≡ tag_at after lane = ap (λ (n : ℕ). tag_in n (lane_of lane))
          (passed.others (8 * nest_of lane) (λ e. absurd (omega (arith, e)))) in
          let life : get_or off lane 0 ≡ get_or after lane 0 =
          passed.others lane (λ e. absurd (omega (arith, e, is.lane))) in
          ap (λ (n : ℕ). (way_to (set ways chunk no_way) (chunk_in n)).place) (sym life)
          ∙ reached.back lane is (let e : 0 < tag_at off lane = omega (arith, on, tags) in e);
      passed = λ (nest : ℕ) (inside : nest < nests).
          let word : passed_at off nest ≡ passed_at words nest =
          tag.others (8 * nest + 1) (λ e. absurd (omega (arith, e))) in
          let mine : one_pass nests nest way ≡ one_below (steps_to nests home nest) far = one_pass-steps nests nest way some in
          let less : one_below (steps_to nests home nest) steps ≤ one_below (steps_to nests home nest) far =
          below_less (steps_to nests home nest) steps far near in
          omega (
            arith,
            word,
            mine,
            less,
            count_gone nests nest ways chunk within,
            led.passed nest inside,
            passed.passed nest inside,
          );
    }
  where
    below_less : (n m k : ℕ) → m ≤ k → one_below n m ≤ one_below n k
    below_less n m k le = ⊎_elim
        (λ below.
        let a = one_below-yes n m below in
        let b = one_below-yes n k (let e : n < k = omega (arith, below, le) in e) in omega (arith, a, b))
        (λ over. let a = one_below-no n m over in omega (arith, a))
        (cases_lt n m)

-- the word with the new tags in it
new_tag : (nests place tag next : ℕ) (words : List ℕ) → length words ≡ 8 * nests → IsPlace nests place
    → tag_in next (lane_of place) ≡ tag
    → ((other : ℕ) → other ≢ lane_of place → tag_in next other ≡ tag_in (get_or words (8 * nest_of place) 0) other)
    → HasNewTag nests place tag words (set words (8 * nest_of place) next)
new_tag nests place tag next words size is here elsewhere =
    let at = 8 * nest_of place in
    let inside : at < length words = omega (arith, size, is.nest) in
    let there : get_or (set words at next) at 0 ≡ next = get_or-set_same words at next 0 inside in
    record {
      size = length-set words at next;
      here = ap (λ (n : ℕ). tag_in n (lane_of place)) there ∙ here;
      elsewhere = λ other is_other apart. ⊎_elim
          (λ same.
          let word : get_or (set words at next) (8 * nest_of other) 0 ≡ next =
          ap (λ (n : ℕ). get_or (set words at next) (8 * n) 0) same ∙ there in
          let lane_apart : lane_of other ≢ lane_of place = λ e. apart (omega (
            arith,
            same,
            e,
            is.lane,
            is_other.lane,
          )) in
          ap (λ (n : ℕ). tag_in n (lane_of other)) word
          ∙ (elsewhere (lane_of other) lane_apart
          ∙ ap (λ (n : ℕ). tag_in (get_or words (8 * n) 0) (lane_of other)) (sym same)))
          (λ nest_apart. ap (λ (n : ℕ). tag_in n (lane_of other))
          (get_or-set_other words at (8 * nest_of other) next 0 (λ e. nest_apart (omega arith))))
          (cases_eq (nest_of other) (nest_of place));
      others = λ word apart. get_or-set_other words at word next 0 apart;
    }

-- the word of a nest's tags is written
pub tag_law : (nests place tag next tags word : ℕ) (words mid : List ℕ) (ways : List Way) (past : List Moment)
    → length words ≡ 8 * nests → IsPlace nests place → word ≡ place / 8 * 8 → mid ≡ words → tags ≡ get_or words word 0
    → tag_in next (lane_of place) ≡ tag
    → ((other : ℕ) → other ≢ lane_of place → tag_in next other ≡ tag_in tags other)
    → ((ws : List ℕ) → HasNewTag nests place tag words ws → IsReached nests ws ways)
    → KeepHashes (ways_of (note_of past)) ways → IsIndex past (moment (set mid word next) (rows_of ways))
tag_law nests place tag next tags word words mid ways past size is at same read here elsewhere reached keeps =
    let there : word ≡ 8 * nest_of place = omega (arith, at) in
    let old : tags ≡ get_or words (8 * nest_of place) 0 = read ∙ ap (λ (w : ℕ). get_or words w 0) there in
    let new : HasNewTag nests place tag words (set words (8 * nest_of place) next) =
    new_tag nests place tag next words size is here
    (λ (other : ℕ) (apart : other ≢ lane_of place). elsewhere other apart ∙ ap (λ (t : ℕ). tag_in t other) old) in
    let is_there : set mid word next ≡ set words (8 * nest_of place) next =
    ap (λ (ws : List ℕ). set ws word next) same ∙ ap (λ (w : ℕ). set words w next) there in
    subst (λ (ws : List ℕ). IsIndex past (moment ws (rows_of ways))) (sym is_there)
    (law_of nests (set words (8 * nest_of place) next) ways past (length-set words (8 * nest_of place) next ∙ size)
    (reached (set words (8 * nest_of place) next) new) keeps)

-- the writer's calls, by what the code reads

pub clear_off : (nests n0 : ℕ) (words off : List ℕ) (ways : List Way) (chunk : ℕ) (way : Way) → n0 ≡ nests
    → AreLed nests words ways → 0 < (way_to ways chunk).place → way ≡ way_to ways chunk
    → HasNewTag n0 way.place 0 words off → IsReached n0 off (set ways chunk no_way)
clear_off nests n0 words off ways chunk way e0 led some is tag =
    subst (λ (n : ℕ). IsReached n off (set ways chunk no_way)) (sym e0)
    (off_reached nests words off ways chunk led some
    (subst (λ (w : Way). HasNewTag nests w.place 0 words off) is
    (subst (λ (n : ℕ). HasNewTag n way.place 0 words off) e0 tag)))

pub clear_unpass : (nests n0 n1 steps : ℕ) (words off after : List ℕ) (ways : List Way) (chunk : ℕ) (way : Way) → n0 ≡ nests
    → n1 ≡ nests → AreLed nests words ways → 0 < (way_to ways chunk).place → way ≡ way_to ways chunk
    → HasNewTag n0 way.place 0 words off → steps ≤ steps_to n1 (home_of n1 way.hash) (nest_of way.place)
    → OneMorePassed n1 (home_of n1 way.hash) steps after off → IsReached n1 after (set ways chunk no_way)
clear_unpass nests n0 n1 steps words off after ways chunk way e0 e1 led some is tag near passed =
    let w = way_to ways chunk in
    let near1 : steps ≤ steps_to nests (home_of nests way.hash) (nest_of way.place) =
    subst (λ (n : ℕ). steps ≤ steps_to n (home_of n way.hash) (nest_of way.place)) e1 near in
    let near2 : steps ≤ steps_to nests (home_of nests w.hash) (nest_of w.place) =
    subst (λ (v : Way). steps ≤ steps_to nests (home_of nests v.hash) (nest_of v.place)) is near1 in
    let passed1 : OneMorePassed nests (home_of nests way.hash) steps after off =
    subst (λ (n : ℕ). OneMorePassed n (home_of n way.hash) steps after off) e1 passed in
    let passed2 : OneMorePassed nests (home_of nests w.hash) steps after off =
    subst (λ (v : Way). OneMorePassed nests (home_of nests v.hash) steps after off) is passed1 in
    subst (λ (n : ℕ). IsReached n after (set ways chunk no_way)) (sym e1)
    (unpass_reached nests steps words off after ways chunk led some
    (subst (λ (v : Way). HasNewTag nests v.place 0 words off) is
    (subst (λ (n : ℕ). HasNewTag n way.place 0 words off) e0 tag)) near2 passed2)

pub put_life : (nests n1 n3 home steps place number : ℕ) (words counted : List ℕ) (ways : List Way) → n1 ≡ nests
    → n3 ≡ nests → AreLed nests words ways → IsPlace nests place → tag_at words place ≡ 0
    → OneMorePassed n1 home steps words counted → IsReached n3 (set counted place number) ways
put_life nests n1 n3 home steps place number words counted ways e1 e3 led is off passed =
    let counted_off : tag_at counted place ≡ 0 =
    ap (λ (n : ℕ). tag_in n (lane_of place)) (passed.others (8 * nest_of place) (λ e. absurd (omega (arith, e)))) ∙ off in
    let passes : OneMorePassed nests home steps words counted =
    subst (λ (n : ℕ). OneMorePassed n home steps words counted) e1 passed in
    let reached : IsReached nests counted ways =
    pass_reached nests home steps words counted ways (led_reached nests words ways led) passes in
    subst (λ (n : ℕ). IsReached n (set counted place number) ways) (sym e3)
    (life_reached nests place number counted ways reached is counted_off)

-- what was noted is what is
pub noted_are : (note : List (List ℕ)) (ways : List Way) → note ≡ rows_of ways → AreNoted note ways
noted_are note ways is chunk =
    ap (λ (n : List (List ℕ)). way_to (ways_of n) chunk) is ∙ ap (λ (ws : List Way). way_to ws chunk) (ways_back ways)

no_ways : (chunks chunk : ℕ) → no_way ≡ way_to (replicate chunks no_way) chunk
no_ways zero chunk = refl
no_ways (suc chunks) zero = refl
no_ways (suc chunks) (suc chunk) = no_ways chunks chunk

pub noted_first : (note : List (List ℕ)) (ways : List Way) (chunks : ℕ) → note ≡ [] → ways ≡ replicate chunks no_way
    → AreNoted note ways
noted_first note ways chunks none is chunk =
    ap (λ (n : List (List ℕ)). way_to (ways_of n) chunk) none
    ∙ (no_ways chunks chunk ∙ ap (λ (ws : List Way). way_to ws chunk) (sym is))
