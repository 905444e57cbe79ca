-- What the writer's calls need of the index, over plain values.
use Rattle.std.proofs.Common.{◌≡◌, ◌≢◌, ℕ, zero, suc, ◌+◌, ◌-◌, ◌*◌, ◌^◌, ◌<◌, ◌≤◌}
use Rattle.std.proofs.Common.{Option, Some, None, IsSome, is_some, not, eqb, List, [], ◌∷◌, length, map}
use Rattle.std.proofs.Common.{replicate, set, get_or, refl, sym, ap, ◌∙◌, subst, arith, ⊎_elim, length-set}
use Rattle.std.proofs.Common.{get_or-set_same, get_or-set_other}
use Rattle.std.proofs.lemmas.Bool.{cases_lt, cases_eq, eq-eqb, ne_eqb, false≢true}
use Rattle.std.proofs.lemmas.List.{length-map, map-set}
use Rattle.cache_index.specs.declared.led.Way.{Way}
use Rattle.cache_index.specs.Tags.{tag_of, tag_in}
use Rattle.cache_index.specs.Places.{IsPlace, tag_at, passed_at, nest_of, lane_of, home_of, nest_behind, steps_to}
use Rattle.cache_index.specs.Changes.{OneMorePassed, HasNewTag}
use Rattle.cache_index.specs.Leads.{life_number, generation_in, no_way, way_to, AreLed, IsRoomy}
use Rattle.cache_index.specs.Views.{Led, IndexView, index_view, led_by, led_at, with_generation}
use Rattle.cache_index.proofs.StepsLemmas.{nest_behind-lt, steps_to-lt, steps_to-nest_behind}
use Rattle.cache_index.proofs.StepsLemmas.{nest_behind-steps_to, one_more_passed, one_less_passed, not_yet}
use Rattle.cache_index.proofs.LedLemmas.{IsLaid, IsLifted, laid_apart, life_generation, one_chunk}
use Rattle.cache_index.proofs.LedLemmas.{chunk_of_way, place_some, way_here, way_elsewhere}
use Rattle.cache_index.proofs.ChangeLemmas.{put_lays, clear_lifts, some_pass}
use Rattle.cache_index.proofs.SearchLemmas.{led_at-way, led_so, led_by-some, led_by-none}

-- a chunk that has something has a way, and one that has nothing has none
pub some_way : (v : IndexView) (nests : ℕ) (words : List ℕ) (ways : List Way) (chunk : ℕ)
    → v ≡ index_view nests words ways
    → IsSome (led_at v.table chunk) → 0 < (way_to ways chunk).place
some_way v nests words ways chunk seen is =
    ⊎_elim (λ some. some)
    (λ none.
    let P : IndexView → Type 0 = λ u. IsSome (led_at u.table chunk) in
    let Q : Option Led → Type 0 = λ o. IsSome o in
    let gone : led_at (map (led_by words) ways) chunk ≡ None =
    led_at-way words ways chunk ∙ led_by-none words (way_to ways chunk) (let e : (way_to ways chunk).place ≡ 0 = omega (
      arith,
      none,
    ) in e) in
    absurd (false≢true (subst Q gone (subst P seen is))))
    (cases_lt 0 (way_to ways chunk).place)

pub none_way : (v : IndexView) (nests : ℕ) (words : List ℕ) (ways : List Way) (chunk : ℕ)
    → v ≡ index_view nests words ways
    → led_at v.table chunk ≡ None → (way_to ways chunk).place ≡ 0
none_way v nests words ways chunk seen is =
    ⊎_elim
    (λ some.
    let P : Option Led → Type 0 = λ o. IsSome o in
    let has : None ≡ led_so words (way_to ways chunk) =
    sym is ∙ (ap (λ (u : IndexView). led_at u.table chunk) seen
    ∙ (led_at-way words ways chunk ∙ led_by-some words (way_to ways chunk) some)) in
    absurd (false≢true (subst P (sym has) refl)))
    (λ none. omega (arith, none))
    (cases_lt 0 (way_to ways chunk).place)

pub chunk_within : (v : IndexView) (nests : ℕ) (words : List ℕ) (ways : List Way) (chunk : ℕ)
    → v ≡ index_view nests words ways
    → chunk < length v.table → chunk < length ways
chunk_within v nests words ways chunk seen within =
    let P : IndexView → Type 0 = λ u. chunk < length u.table in
    omega (arith, subst P seen within, length-map ways (led_by words))

pub place_like : (n m p q : ℕ) → n ≡ m → p ≡ q → IsPlace m q → IsPlace n p
place_like n m p q e f is = record { nest = (let h = is.nest in omega arith); lane = (let h = is.lane in omega arith) }

pub roomy_set : (nests : ℕ) (ways : List Way) (chunk : ℕ) (way : Way) → IsRoomy nests ways
    → IsRoomy nests (set ways chunk way)
roomy_set nests ways chunk way roomy =
    let size = length-set ways chunk way in
    record {
      lanes_over = omega (arith, size, roomy.lanes_over);
      few_chunks = omega (arith, size, roomy.few_chunks);
      few_nests = roomy.few_nests;
    }

-- one more nest counts a key, in what the code reads and writes
pub pass_step : (nests home steps nest value : ℕ) (before old mid new : List ℕ)
    → OneMorePassed nests home steps before old
    → home < nests → steps < nests → nest ≡ nest_behind nests home steps → length old ≡ 8 * nests
    → mid ≡ old → value ≡ passed_at old nest → new ≡ set mid (8 * nest + 1) (value + 1)
    → OneMorePassed nests home (steps + 1) before new
pass_step nests home steps nest value before old mid new so_far in_home in_steps at full same is next =
    let P : List ℕ → Type 0 = λ ws. OneMorePassed nests home (steps + 1) before ws in
    let there : new ≡ set old (8 * nest + 1) (passed_at old nest + 1) =
    next ∙ (ap (λ (ws : List ℕ). set ws (8 * nest + 1) (value + 1)) same
    ∙ ap (λ (n : ℕ). set old (8 * nest + 1) (n + 1)) is) in
    subst P (sym there) (one_more_passed nests home steps nest before old so_far in_home in_steps at full)

pub unpass_step : (nests home steps nest value : ℕ) (before old mid new : List ℕ)
    → OneMorePassed nests home steps old before
    → home < nests → steps < nests → nest ≡ nest_behind nests home steps → length old ≡ 8 * nests → 0 < passed_at old
    nest
    → mid ≡ old → value ≡ passed_at old nest → new ≡ set mid (8 * nest + 1) (value - 1)
    → OneMorePassed nests home (steps + 1) new before
unpass_step nests home steps nest value before old mid new so_far in_home in_steps at full some same is next =
    let P : List ℕ → Type 0 = λ ws. OneMorePassed nests home (steps + 1) ws before in
    let there : new ≡ set old (8 * nest + 1) (passed_at old nest - 1) =
    next ∙ (ap (λ (ws : List ℕ). set ws (8 * nest + 1) (value - 1)) same
    ∙ ap (λ (n : ℕ). set old (8 * nest + 1) (n - 1)) is) in
    subst P (sym there) (one_less_passed nests home steps nest before old so_far in_home in_steps at full some)

-- the next nest on a way counts the key still
pub still_counts : (nests home steps far nest : ℕ) (before old : List ℕ) → OneMorePassed nests home steps old before
    → home < nests → steps < nests → nest ≡ nest_behind nests home steps → steps < far
    → ((n : ℕ) → n < nests → steps_to nests home n < far → 0 < passed_at before n) → 0 < passed_at old nest
still_counts nests home steps far nest before old so_far in_home in_steps at nearer counted =
    let same = not_yet nests home steps nest old before so_far in_home in_steps at in
    let within : nest < nests = (let P : ℕ → Type 0 = λ n. n < nests in subst P (sym at) (nest_behind-lt nests home
    steps in_home in_steps)) in
    let behind : steps_to nests home nest ≡ steps =
    ap (λ (n : ℕ). steps_to nests home n) at ∙ steps_to-nest_behind nests home steps in_home in_steps in
    let some = counted nest within (let e : steps_to nests home nest < far = omega (arith, behind, nearer) in e) in
    omega (arith, same, some)

-- keys that pass nests leave the tags
pub same_tags : (nests home steps nest lane : ℕ) (before old : List ℕ) → OneMorePassed nests home steps before old
    → tag_in (get_or old (8 * nest) 0) lane ≡ tag_in (get_or before (8 * nest) 0) lane
same_tags nests home steps nest lane before old so_far =
    ap (λ (n : ℕ). tag_in n lane) (so_far.others (8 * nest) (λ e. absurd (omega (arith, e))))

-- all lanes of one more nest on the way are on
pub on_step : (nests home steps nest found : ℕ) (before old : List ℕ) → OneMorePassed nests home steps before old
    → nest ≡ nest_behind nests home steps → 6 ≤ found
    → ((lane : ℕ) → 0 ≤ lane → lane < found → tag_in (get_or old (8 * nest) 0) lane ≢ 0)
    → ((s lane : ℕ) → s < steps → lane < 6 → 0 < tag_in (get_or before (8 * nest_behind nests home s) 0) lane)
    → (s lane : ℕ) → s < steps + 1 → lane < 6 → 0 < tag_in (get_or before (8 * nest_behind nests home s) 0) lane
on_step nests home steps nest found before old so_far at all on so_far_on s lane near few = ⊎_elim
    (λ nearer. so_far_on s lane nearer few)
    (λ here.
    let is : nest ≡ nest_behind nests home s = at ∙ ap (λ (k : ℕ). nest_behind nests home k) (omega (arith, near, here)) in
    let apart = on lane (omega arith) (omega (arith, few, all)) in
    let same = same_tags nests home steps nest lane before old so_far in
    let some : 0 < tag_in (get_or before (8 * nest) 0) lane = omega (arith, apart, same) in
    subst (λ (n : ℕ). 0 < tag_in (get_or before (8 * n) 0) lane) is some)
    (cases_lt s steps)

-- where no lane on the way over all nests is off, none is
pub all_on : (nests home : ℕ) (words : List ℕ) (steps : ℕ) → home < nests → nests ≤ steps
    → ((s lane : ℕ) → s < steps → lane < 6 → 0 < tag_in (get_or words (8 * nest_behind nests home s) 0) lane)
    → (place : ℕ) → IsPlace nests place → 0 < tag_at words place
all_on nests home words steps in_home all on place is =
    let s = steps_to nests home (nest_of place) in
    let P : ℕ → Type 0 = λ n. 0 < tag_in (get_or words (8 * n) 0) (lane_of place) in
    let near = steps_to-lt nests home (nest_of place) in_home is.nest in
    subst P (nest_behind-steps_to nests home (nest_of place) in_home is.nest)
    (on s (lane_of place) (let e : s < steps = omega (arith, near, all) in e) (let e : lane_of place < 6 = omega
    arith in e))

-- after the lane goes off, the nests on the way count the key still
pub clear_passed : (nests n0 n1 : ℕ) (words off : List ℕ) (ways : List Way) (chunk : ℕ) (way : Way) → n0 ≡ nests
    → n1 ≡ nests
    → AreLed nests words ways → 0 < (way_to ways chunk).place → way ≡ way_to ways chunk
    → HasNewTag n0 way.place 0 words off
    → (nest : ℕ) → nest < n1 → steps_to n1 (home_of n1 way.hash) nest < steps_to n1 (home_of n1 way.hash) (nest_of
    way.place)
    → 0 < passed_at off nest
clear_passed nests n0 n1 words off ways chunk way e0 e1 led some is tag =
    let Q : ℕ → Type 0 = λ n. (nest : ℕ) → nest < n
    → steps_to n (home_of n way.hash) nest < steps_to n (home_of n way.hash) (nest_of way.place) → 0 < passed_at off
    nest in
    let R : Way → Type 0 = λ w. (nest : ℕ) → nest < nests
    → steps_to nests (home_of nests w.hash) nest < steps_to nests (home_of nests w.hash) (nest_of w.place) → 0 <
    passed_at off nest in
    subst Q (sym e1) (subst R (sym is) (λ nest within nearer.
    let word = tag.others (8 * nest + 1) (λ e. absurd (omega (arith, e))) in
    let counted = some_pass nests words ways chunk led some nest within nearer in
    omega (arith, word, counted)))

-- what clear did, in the words of the nests: the way of its chunk is lifted
pub clear_lifted : (nests n0 n1 : ℕ) (words off after : List ℕ) (ways : List Way) (chunk : ℕ) (way : Way) → n0 ≡ nests
    → n1 ≡ nests
    → AreLed nests words ways → 0 < (way_to ways chunk).place → way ≡ way_to ways chunk
    → HasNewTag n0 way.place 0 words off
    → OneMorePassed n1 (home_of n1 way.hash) (steps_to n1 (home_of n1 way.hash) (nest_of way.place)) after off
    → IsLifted nests words after (way_to ways chunk)
clear_lifted nests n0 n1 words off after ways chunk way e0 e1 led some is tag passed =
    let w = way_to ways chunk in
    let P : ℕ → Type 0 = λ n. HasNewTag n way.place 0 words off in
    let P2 : Way → Type 0 = λ v. HasNewTag nests v.place 0 words off in
    let Q : ℕ → Type 0 = λ n. OneMorePassed n (home_of n way.hash) (steps_to n (home_of n way.hash) (nest_of
    way.place)) after off in
    let Q2 : Way → Type 0 = λ v. OneMorePassed nests (home_of nests v.hash) (steps_to nests (home_of nests v.hash)
    (nest_of v.place)) after off in
    clear_lifts nests words off after w (led.leads chunk some).place (subst P2 is (subst P e0 tag)) (subst Q2 is
    (subst Q e1 passed))

-- what put did, in the words of the nests: one more way is laid
pub put_laid : (nests n0 n1 tag number : ℕ) (words counted laid tagged : List ℕ) (chunk generation : ℕ) (way : Way)
    → n0 ≡ nests → n1 ≡ nests → length words ≡ 8 * nests → IsPlace nests way.place
    → OneMorePassed n0 (home_of n0 way.hash) (steps_to n0 (home_of n0 way.hash) (nest_of way.place)) words counted
    → laid ≡ set counted way.place number → number ≡ life_number chunk generation
    → tag ≡ tag_of way.hash → HasNewTag n1 way.place tag laid tagged
    → IsLaid nests words tagged chunk generation way
put_laid nests n0 n1 tag number words counted laid tagged chunk generation way e0 e1 size is passed laid_is number_is
    tag_is tagged_is =
    let Q : ℕ → Type 0 = λ n. OneMorePassed n (home_of n way.hash) (steps_to n (home_of n way.hash) (nest_of
    way.place)) words counted in
    let P : ℕ → Type 0 = λ n. HasNewTag n way.place tag laid tagged in
    let P2 : ℕ → Type 0 = λ t. HasNewTag nests way.place t laid tagged in
    let P3 : List ℕ → Type 0 = λ ws. HasNewTag nests way.place (tag_of way.hash) ws tagged in
    let there : laid ≡ set counted way.place (life_number chunk generation) =
    laid_is ∙ ap (λ (n : ℕ). set counted way.place n) number_is in
    put_lays nests words counted tagged chunk generation way size is (subst Q e0 passed) (subst P3 there (subst P2
    tag_is (subst P e1 tagged_is)))

-- words by which each way leads to the same give the same table
pub same_led : (before after : List ℕ) (ways : List Way)
    → ((chunk : ℕ) → led_by after (way_to ways chunk) ≡ led_by before (way_to ways chunk))
    → map (led_by after) ways ≡ map (led_by before) ways
same_led before after [] same = refl
same_led before after (way ∷ ways) same =
    ap (λ (o : Option Led). o ∷ map (led_by after) ways) (same 0)
    ∙ ap (λ (t : List (Option Led)). led_by before way ∷ t) (same_led before after ways (λ chunk. same (suc chunk)))

-- a way leads to the same where it leads nowhere, or the word at its place stays
same_way : (before after : List ℕ) (way : Way) → (0 < way.place → get_or after way.place 0 ≡ get_or before way.place 0)
    → led_by after way ≡ led_by before way
same_way before after way same =
    ⊎_elim
    (λ some. led_by-some after way some
    ∙ (ap (λ (n : ℕ). Some (record { hash = way.hash; generation = generation_in n })) (same some)
    ∙ sym (led_by-some before way some)))
    (λ none. let zero : way.place ≡ 0 = omega (arith, none) in
    led_by-none after way zero ∙ sym (led_by-none before way zero))
    (cases_lt 0 way.place)

-- what a way leads to whose lane has a life
led_to : (words : List ℕ) (way : Way) (chunk generation : ℕ) → 0 < way.place → chunk < 2 ^ 32
    → get_or words way.place 0 ≡ life_number chunk generation
    → led_by words way ≡ Some (record { hash = way.hash; generation = generation })
led_to words way chunk generation some fits life =
    led_by-some words way some
    ∙ ap (λ (g : ℕ). Some (record { hash = way.hash; generation = g }))
    (ap generation_in life ∙ life_generation chunk generation fits)

-- what the table has after put
pub table_put : (v : IndexView) (nests : ℕ) (before after : List ℕ) (ways : List Way) (chunk generation : ℕ) (way : Way)
    → v ≡ index_view nests before ways → AreLed nests before ways → IsRoomy nests ways → chunk < length ways
    → IsPlace nests way.place → tag_at before way.place ≡ 0 → IsLaid nests before after chunk generation way
    → map (led_by after) (set ways chunk way)
    ≡ set v.table chunk (Some (record { hash = way.hash; generation = generation }))
table_put v nests before after ways chunk generation way seen led roomy within is off laid =
    let now : Option Led = Some (record { hash = way.hash; generation = generation }) in
    map-set (led_by after) ways chunk way
    ∙ (ap (λ (o : Option Led). set (map (led_by after) ways) chunk o)
    (led_to after way chunk generation (place_some nests way.place is) (omega (arith, within, roomy.few_chunks)) laid.life)
    ∙ (ap (λ (t : List (Option Led)). set t chunk now)
    (same_led before after ways (λ c. same_way before after (way_to ways c)
    (λ some. laid.lives (way_to ways c).place (led.leads c some).place (laid_apart nests before ways c way led off some))))
    ∙ ap (λ (u : IndexView). set u.table chunk now) (sym seen)))

-- and after clear
pub table_clear : (v : IndexView) (nests : ℕ) (before after : List ℕ) (ways : List Way) (chunk : ℕ)
    → v ≡ index_view nests before ways → AreLed nests before ways → IsLifted nests before after (way_to ways chunk)
    → map (led_by after) (set ways chunk no_way) ≡ set v.table chunk None
table_clear v nests before after ways chunk seen led lifted =
    map-set (led_by after) ways chunk no_way
    ∙ (ap (λ (t : List (Option Led)). set t chunk None)
    (same_led before after ways (λ c. same_way before after (way_to ways c)
    (λ some. lifted.lives (way_to ways c).place (led.leads c some).place)))
    ∙ ap (λ (u : IndexView). set u.table chunk None) (sym seen))

-- the ways of the other chunks lead to the same where a lane gets another life
lead_others : (nests number : ℕ) (words : List ℕ) (ways : List Way) (old c : ℕ) → AreLed nests words ways
    → 0 < (way_to ways old).place
    → led_by (set words (way_to ways old).place number) (way_to (set ways old no_way) c)
    ≡ led_by words (way_to (set ways old no_way) c)
lead_others nests number words ways old c led some =
    let place = (way_to ways old).place in
    let after = set words place number in
    let P : Way → Type 0 = λ w. led_by after w ≡ led_by words w in
    ⊎_elim
    (λ same. let Q : ℕ → Type 0 = λ k. led_by after (way_to (set ways old no_way) k)
    ≡ led_by words (way_to (set ways old no_way) k) in
    subst Q (sym same) (subst P (sym (way_here ways old no_way (chunk_of_way ways old some))) refl))
    (λ apart. subst P (sym (way_elsewhere ways old c no_way apart)) (same_way words after (way_to ways c)
    (λ on. get_or-set_other words place (way_to ways c).place number 0
    (λ e. apart (one_chunk nests words ways old c led some e)))))
    (cases_eq c old)

-- and after lead
pub table_lead : (v : IndexView) (nests : ℕ) (words : List ℕ) (ways : List Way) (old chunk generation : ℕ)
    → v ≡ index_view nests words ways → AreLed nests words ways → IsRoomy nests ways → 0 < (way_to ways old).place
    → chunk < length ways
    → let way = way_to ways old in map (led_by (set words way.place (life_number chunk generation)))
    (set (set ways old no_way) chunk way)
    ≡ set (set v.table old None) chunk (with_generation generation (led_at v.table old))
table_lead v nests words ways old chunk generation seen led roomy some within =
    let way = way_to ways old in
    let number = life_number chunk generation in
    let after = set words way.place number in
    let between = set ways old no_way in
    let is = (led.leads old some).place in
    let was : led_at v.table old ≡ led_so words way =
    ap (λ (u : IndexView). led_at u.table old) seen ∙ (led_at-way words ways old ∙ led_by-some words way some) in
    let now : led_by after way ≡ with_generation generation (led_at v.table old) =
    led_to after way chunk generation some (omega (arith, within, roomy.few_chunks))
    (get_or-set_same words way.place number 0 (omega (arith, led.size, is.nest)))
    ∙ sym (ap (λ (o : Option Led). with_generation generation o) was) in
    map-set (led_by after) between chunk way
    ∙ (ap (λ (o : Option Led). set (map (led_by after) between) chunk o) now
    ∙ (ap (λ (t : List (Option Led)). set t chunk (with_generation generation (led_at v.table old)))
    (same_led words after between (λ c. lead_others nests number words ways old c led some)
    ∙ map-set (led_by words) ways old no_way)
    ∙ ap (λ (u : IndexView). set (set u.table old None) chunk (with_generation generation (led_at v.table old))) (sym
    seen)))

-- a table of chunks that have nothing
pub none_led : (words : List ℕ) (chunks : ℕ) → map (led_by words) (replicate chunks no_way) ≡ replicate chunks None
none_led words zero = refl
none_led words (suc n) = ap (λ (t : List (Option Led)). None ∷ t) (none_led words n)

-- whether a chunk has something, by its way
pub leads_where : (v : IndexView) (nests : ℕ) (words : List ℕ) (ways : List Way) (chunk : ℕ)
    → v ≡ index_view nests words ways
    → not (eqb (way_to ways chunk).place 0) ≡ is_some (led_at v.table chunk)
leads_where v nests words ways chunk seen =
    let way = way_to ways chunk in
    let led : led_at v.table chunk ≡ led_by words way =
    ap (λ (u : IndexView). led_at u.table chunk) seen ∙ led_at-way words ways chunk in
    ⊎_elim
    (λ some. ap not (ne_eqb way.place 0 (λ e. absurd (omega (arith, e, some))))
    ∙ sym (ap is_some (led ∙ led_by-some words way some)))
    (λ none. let zero : way.place ≡ 0 = omega (arith, none) in
    ap not (eq-eqb way.place 0 zero) ∙ sym (ap is_some (led ∙ led_by-none words way zero)))
    (cases_lt 0 way.place)
