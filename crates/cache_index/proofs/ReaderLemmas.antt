-- What a reader's search knows of the lanes that it came past.
use Rattle.std.proofs.Common.{◌≡◌, ◌⊎◌, ℕ, ◌+◌, ◌-◌, ◌*◌, ◌/◌, ◌%◌, ◌^◌, ◌<◌, ◌≤◌, Bool, true, false, not, cond, eqb, ltb, List, [], ◌∷◌, length, get_or, w64, refl, sym, ap, ◌∙◌, subst, inl, inr, arith, ⊎_elim}
use Rattle.std.specs.Int.{bit_at}
use Rattle.std.proofs.lemmas.Bool.{cases_lt, cases_eq, cond_both, cond-true, ltb-true, ltb-false, lt-ltb, eq-eqb, false≢true}
use Rattle.std.proofs.lemmas.Nat.Bits.{bit_at_above}
use Rattle.seen_words.specs.declared.views.Moment.{Moment}
use Rattle.seen_words.specs.Past.{AllLawful, EyeView, words_of}
use Rattle.seen_words.specs.Windows.{AtOneWithin, NotAlways}
use Rattle.bump_rules.specs.declared.items.ItemId.{ItemId}
use Rattle.std.specs.Int.{trailing_zeros}
use Rattle.seen_words.proofs.Windows.{not_now, not_longer, not_earlier, extends_on, one_earlier, one_within_now}
use Rattle.cache_index.specs.declared.led.Way.{Way}
use Rattle.cache_index.specs.Tags.{tag_of, tag_in}
use Rattle.cache_index.specs.Places.{IsPlace, tag_at, passed_at, nest_of, lane_of, home_of, nest_behind, steps_to}
use Rattle.cache_index.specs.Leads.{chunk_in, generation_in, way_to}
use Rattle.cache_index.specs.Views.{IndexReaderView, ReaderSearchView}
use Rattle.cache_index.specs.Walks.{HasLane, IsAhead, IsBehind, TakesLowest}
use Rattle.cache_index.specs.History.{ways_of, IsReached, IsIndex, LeadsBy, SeesMoment, Looks, ComesPast, BeginsPast, EndsPast, AnswersPast, HasLife, SeesIndex}
use Rattle.cache_index.proofs.StepsLemmas.{steps_to-lt, steps_to-nest_behind, nest_behind-steps_to}
use Rattle.cache_index.proofs.LedLemmas.{one_pass, chunk_of_way}
use Rattle.cache_index.proofs.ChangeLemmas.{one_pass-steps, one_of_count}
use Rattle.cache_index.proofs.BitLemmas.{bit_lowest, bit_stays}

-- the moment that was seen last is as readers need it
module _ (nests : ℕ) (before after : EyeView) (sees : SeesMoment before after) (size : length (words_of before.seen) ≡ 8 * nests)
    (some : 0 < nests) where
  pub words_now : words_of after.seen ≡ sees.lawful.now.words
  words_now = ap (λ (s : List Moment). words_of s) sees.lawful.is

  pub reached_now : IsReached nests sees.lawful.now.words (ways_of sees.lawful.now.note)
  reached_now =
      let all : AllLawful IsIndex (sees.lawful.now ∷ sees.lawful.older) =
      subst (AllLawful IsIndex) sees.lawful.is sees.lawful.all in
      let full : length (words_of after.seen) ≡ 8 * nests = sees.size (omega (arith, size, some)) ∙ size in
      all.0.reached nests (sym (ap (λ (ws : List ℕ). length ws) words_now) ∙ full)

-- a way that leads to a lane at a moment
module _ (nests hash place : ℕ) (m : Moment) (reached : IsReached nests m.words (ways_of m.note)) (by : LeadsBy hash place m)
  where
    abbrev its_way : Way
    its_way = way_to (ways_of m.note) by.chunk

    its_some : 0 < its_way.place
    its_some = subst (λ (p : ℕ). 0 < p) (sym by.at) by.some

    -- its lane has the hash's tag
    pub led_tag : tag_at m.words place ≡ tag_of hash
    led_tag =
        sym (ap (λ (p : ℕ). tag_at m.words p) by.at)
        ∙ ((reached.leads by.chunk its_some).tag ∙ ap (λ (h : ℕ). tag_of h) by.of)

    -- and each nest before it on its way counts a key that passed
    pub led_passed : (nest : ℕ) → nest < nests
        → steps_to nests (home_of nests hash) nest < steps_to nests (home_of nests hash) (nest_of place)
        → 0 < passed_at m.words nest
    led_passed nest within nearer =
        let home : steps_to nests (home_of nests its_way.hash) nest < steps_to nests (home_of nests its_way.hash) (nest_of its_way.place) =
        subst (λ (h : ℕ). steps_to nests (home_of nests h) nest < steps_to nests (home_of nests h) (nest_of its_way.place))
        (sym by.of)
        (subst (λ (p : ℕ). steps_to nests (home_of nests hash) nest < steps_to nests (home_of nests hash) (nest_of p))
        (sym by.at) nearer) in
        let one : one_pass nests nest its_way ≡ 1 =
        one_pass-steps nests nest its_way its_some
        ∙ cond-true (ltb (steps_to nests (home_of nests its_way.hash) nest) (steps_to nests (home_of nests its_way.hash) (nest_of its_way.place))) 1 0
        (lt-ltb (steps_to nests (home_of nests its_way.hash) nest) (steps_to nests (home_of nests its_way.hash) (nest_of its_way.place)) home) in
        omega (
          arith,
          one,
          one_of_count nests nest (ways_of m.note) by.chunk (chunk_of_way (ways_of m.note) by.chunk its_some),
          reached.passed nest within,
        )

-- a nest one step on is one step nearer to those behind it
pub next_steps : (nests nest q : ℕ) → nest < nests → q < nests → 0 < steps_to nests nest q
    → steps_to nests (nest_behind nests nest 1) q + 1 ≡ steps_to nests nest q
next_steps nests nest q in_nest in_q =
    cond_both (ltb (nest + 1) nests) (nest + 1) (nest + 1 - nests)
    (λ v. 0 < steps_to nests nest q → steps_to nests v q + 1 ≡ steps_to nests nest q)
    (λ e. let low = ltb-true (nest + 1) nests e in
    cond_both (ltb q nest) (nests + q - nest) (q - nest)
    (λ s. 0 < s → steps_to nests (nest + 1) q + 1 ≡ s)
    (λ f. let below = ltb-true q nest f in
    λ some. cond_both (ltb q (nest + 1)) (nests + q - (nest + 1)) (q - (nest + 1))
    (λ t. t + 1 ≡ nests + q - nest)
    (λ g. omega (arith, below, in_nest)) (λ g. absurd (omega (arith, below, ltb-false q (nest + 1) g))))
    (λ f. let over = ltb-false q nest f in
    λ some. cond_both (ltb q (nest + 1)) (nests + q - (nest + 1)) (q - (nest + 1))
    (λ t. t + 1 ≡ q - nest)
    (λ g. absurd (omega (arith, some, ltb-true q (nest + 1) g))) (λ g. omega (arith, some))))
    (λ e. let high = ltb-false (nest + 1) nests e in
    cond_both (ltb q nest) (nests + q - nest) (q - nest)
    (λ s. 0 < s → steps_to nests (nest + 1 - nests) q + 1 ≡ s)
    (λ f. let below = ltb-true q nest f in
    λ some. cond_both (ltb q (nest + 1 - nests)) (nests + q - (nest + 1 - nests)) (q - (nest + 1 - nests))
    (λ t. t + 1 ≡ nests + q - nest)
    (λ g. absurd (omega (arith, high, in_nest, ltb-true q (nest + 1 - nests) g))) (λ g. omega (arith, below, high, in_nest)))
    (λ f. let over = ltb-false q nest f in λ some. absurd (omega (arith, over, high, in_q, some))))

-- no steps lead to the nest itself alone
pub no_steps : (nests nest q : ℕ) → nest < nests → q < nests → steps_to nests nest q ≡ 0 → q ≡ nest
no_steps nests nest q in_nest in_q =
    cond_both (ltb q nest) (nests + q - nest) (q - nest) (λ s. s ≡ 0 → q ≡ nest)
    (λ e. let below = ltb-true q nest e in λ none. absurd (omega (arith, below, in_nest, none)))
    (λ e. let over = ltb-false q nest e in λ none. omega (arith, over, none))

-- so many steps, and so many more
behind_add : (nests home k s : ℕ) → home < nests → k + s < nests
    → nest_behind nests (nest_behind nests home k) s ≡ nest_behind nests home (k + s)
behind_add nests home k s in_home few =
    cond_both (ltb (home + k) nests) (home + k) (home + k - nests)
    (λ v. nest_behind nests v s ≡ nest_behind nests home (k + s))
    (λ e. let same : home + k + s ≡ home + (k + s) = omega arith in
    subst (λ (n : ℕ). cond (ltb (home + k + s) nests) (home + k + s) (home + k + s - nests)
    ≡ cond (ltb n nests) n (n - nests)) same refl)
    (λ e. let over = ltb-false (home + k) nests e in
    cond_both (ltb (home + k - nests + s) nests) (home + k - nests + s) (home + k - nests + s - nests)
    (λ v. v ≡ nest_behind nests home (k + s))
    (λ f. cond_both (ltb (home + (k + s)) nests) (home + (k + s)) (home + (k + s) - nests)
    (λ v. home + k - nests + s ≡ v)
    (λ g. absurd (omega (arith, over, ltb-true (home + (k + s)) nests g))) (λ g. omega (arith, over)))
    (λ f. absurd (omega (arith, over, in_home, few, ltb-false (home + k - nests + s) nests f))))

-- a nest that is behind the one at which a walk is is further from its home
pub further : (nests home k q : ℕ) → home < nests → q < nests → nest_behind nests home k < nests
    → 0 < steps_to nests (nest_behind nests home k) q → k + steps_to nests (nest_behind nests home k) q < nests
    → steps_to nests home (nest_behind nests home k) < steps_to nests home q
further nests home k q in_home in_q in_nest some few =
    let nest = nest_behind nests home k in
    let s = steps_to nests nest q in
    let there : q ≡ nest_behind nests home (k + s) =
    sym (nest_behind-steps_to nests nest q in_nest in_q) ∙ behind_add nests home k s in_home few in
    let far : steps_to nests home q ≡ k + s =
    ap (λ (n : ℕ). steps_to nests home n) there ∙ steps_to-nest_behind nests home (k + s) in_home few in
    let near : steps_to nests home nest ≡ k = steps_to-nest_behind nests home k in_home (omega (arith, few)) in
    omega (arith, far, near, some)

-- the lanes of a nest that was come to
module _ (nests hash word lanes : ℕ) (before after : EyeView) (sees : SeesMoment before after) (some : 0 < nests)
    (bits : (lane : ℕ) → lane < 6 → bit_at lanes (8 * lane + 7)
    ≡ cond (eqb (tag_in (get_or (words_of after.seen) word 0) lane) (tag_of hash)) 1 0) where
  pub in_nest : (nest place : ℕ) → word ≡ 8 * nest → length (words_of before.seen) ≡ 8 * nests → IsPlace nests place
      → nest_of place ≡ nest
      → ((nest_of place ≡ nest) × HasLane lanes (lane_of place)) ⊎ NotAlways (LeadsBy hash place) before.seen after.seen
  in_nest nest place at size is here =
      let now = sees.lawful.now in
      let few : lane_of place < 6 = omega arith in
      let tags = get_or (words_of after.seen) word 0 in
      let same : tag_in tags (lane_of place) ≡ tag_at now.words place =
      ap (λ (ws : List ℕ). tag_in (get_or ws word 0) (lane_of place)) (words_now nests before after sees size some)
      ∙ ap (λ (w : ℕ). tag_in (get_or now.words w 0) (lane_of place))
      (at ∙ ap (λ (n : ℕ). 8 * n) (sym here)) in
      ⊎_elim
      (λ yes. inl (
        here,
        bits (lane_of place) few ∙ cond-true (eqb (tag_in tags (lane_of place)) (tag_of hash)) 1 0
            (eq-eqb (tag_in tags (lane_of place)) (tag_of hash) yes),
      ))
      (λ no. inr (not_now (LeadsBy hash place) before.seen after.seen now sees.lawful.older sees.seen sees.lawful.is
      (λ by. no (same ∙ led_tag nests hash place now (reached_now nests before after sees size some) by))))
      (cases_eq (tag_in tags (lane_of place)) (tag_of hash))

-- a search that has begun
pub begins_past : (nests hash word nest lanes : ℕ) (to : ReaderSearchView) (before after : EyeView) → SeesMoment before after
    → nest < nests → word ≡ 8 * nest
    → ((lane : ℕ) → lane < 6 → bit_at lanes (8 * lane + 7)
    ≡ cond (eqb (tag_in (get_or (words_of after.seen) word 0) lane) (tag_of hash)) 1 0)
    → to.nests ≡ nests → to.nest ≡ nest → to.lanes ≡ lanes → to.later + 1 ≡ nests → BeginsPast nests hash to before after
begins_past nests hash word nest lanes to before after sees within at bits nests_is nest_is lanes_is later size place is =
    let some : 0 < nests = omega (arith, within) in
    ⊎_elim
    (λ here. ⊎_elim
    (λ ahead. inl (inl (ahead.0 ∙ sym nest_is, subst (λ (l : ℕ). HasLane l (lane_of place)) (sym lanes_is) ahead.1)))
    (λ none. inr none)
    (in_nest nests hash word lanes before after sees some bits nest place at size is here))
    (λ apart.
    let steps : 0 < steps_to nests nest (nest_of place) = ⊎_elim (λ some. some)
    (λ none. absurd (apart (no_steps nests nest (nest_of place) within is.nest (omega (arith, none)))))
    (cases_lt 0 (steps_to nests nest (nest_of place))) in
    let few : steps_to nests nest (nest_of place) < nests = steps_to-lt nests nest (nest_of place) within is.nest in
    let P : ℕ → ℕ → Type 0 = λ n m. (0 < steps_to n m (nest_of place)) × (steps_to n m (nest_of place) ≤ to.later) in
    inl (inr (subst (λ (n : ℕ). P n to.nest) (sym nests_is) (subst (λ (m : ℕ). P nests m) (sym nest_is)
    (steps, omega (arith, few, later))))))
    (cases_eq (nest_of place) nest)

-- a search whose nest has no lane left is ahead of the nests behind alone
no_lane : (lane : ℕ) (A : Type 0) → HasLane 0 lane → A
no_lane lane A has =
    let none = bit_at_above 0 0 (8 * lane + 7) (omega arith) (omega arith) in absurd (omega (arith, none, has))

pub ahead_behind : (search : ReaderSearchView) (place : ℕ) → search.lanes ≡ 0 → IsAhead search place
    → (0 < steps_to search.nests search.nest (nest_of place)) × (steps_to search.nests search.nest (nest_of place) ≤ search.later)
ahead_behind search place none (inl here) =
    no_lane (lane_of place) _ (subst (λ (l : ℕ). HasLane l (lane_of place)) none here.1)
ahead_behind search place none (inr behind) = behind

-- a search that walks on to the next nest
pub walks_past : (hash word lanes : ℕ) (from to : ReaderSearchView) (before after : EyeView) → SeesMoment before after
    → from.nest < from.nests → from.lanes ≡ 0 → word ≡ 8 * to.nest
    → ((lane : ℕ) → lane < 6 → bit_at lanes (8 * lane + 7)
    ≡ cond (eqb (tag_in (get_or (words_of after.seen) word 0) lane) (tag_of hash)) 1 0)
    → to.nests ≡ from.nests → to.nest ≡ nest_behind from.nests from.nest 1 → to.lanes ≡ lanes → to.later + 1 ≡ from.later
    → to.nest < from.nests → ComesPast from.nests hash from to before after
walks_past hash word lanes from to before after sees within none at bits nests_is nest_is lanes_is later inside size place is ahead =
    let nests = from.nests in
    let q = nest_of place in
    let some : 0 < nests = omega (arith, within) in
    let behind = ahead_behind from place none ahead in
    let step : steps_to nests to.nest q + 1 ≡ steps_to nests from.nest q =
    ap (λ (m : ℕ). steps_to nests m q + 1) nest_is ∙ next_steps nests from.nest q within is.nest behind.0 in
    ⊎_elim
    (λ further. inl (inr (
      subst (λ (n : ℕ). 0 < steps_to n to.nest q) (sym nests_is) further,
      subst (λ (n : ℕ). steps_to n to.nest q ≤ to.later) (sym nests_is) (let b = behind.1 in omega (arith, step, b, later)),
    )))
    (λ none_left.
    let here : q ≡ to.nest = no_steps nests to.nest q inside is.nest (omega (arith, none_left)) in
    ⊎_elim
    (λ has. inl (inl (has.0, subst (λ (l : ℕ). HasLane l (lane_of place)) (sym lanes_is) has.1)))
    (λ gone. inr gone)
    (in_nest nests hash word lanes before after sees some bits to.nest place at size is here))
    (cases_lt 0 (steps_to nests to.nest q))

-- no key passed the nest at which a search is, and none of its lanes is left: so it ends
pub ends_past : (hash word : ℕ) (search : ReaderSearchView) (before after : EyeView) → SeesMoment before after
    → search.nest < search.nests → search.later < search.nests → home_of search.nests hash < search.nests
    → IsBehind search.nests (home_of search.nests hash) search.nest search.later → search.lanes ≡ 0 → word ≡ 8 * search.nest
    → get_or (words_of after.seen) (word + 1) 0 ≡ 0 → EndsPast search.nests hash search before after
ends_past hash word search before after sees within few in_home walked none at passed size place is ahead =
    let nests = search.nests in
    let home = home_of nests hash in
    let k = nests - 1 - search.later in
    let q = nest_of place in
    let now = sees.lawful.now in
    let some : 0 < nests = omega (arith, within) in
    let behind = ahead_behind search place none ahead in
    let P : ℕ → Type 0 = λ n. (0 < steps_to nests n q) × (steps_to nests n q ≤ search.later) in
    let on : P (nest_behind nests home k) = subst P walked behind in
    let nearer : steps_to nests home search.nest < steps_to nests home q =
    subst (λ (n : ℕ). steps_to nests home n < steps_to nests home q) (sym walked)
    (further nests home k q in_home is.nest (subst (λ (n : ℕ). n < nests) walked within) on.0
    (let b = on.1 in omega (arith, b, few))) in
    let zero_passed : passed_at now.words search.nest ≡ 0 =
    ap (λ (w : ℕ). get_or now.words w 0) (let e : 8 * search.nest + 1 ≡ word + 1 = omega (arith, at) in e)
    ∙ (sym (ap (λ (ws : List ℕ). get_or ws (word + 1) 0) (words_now nests before after sees size some)) ∙ passed) in
    not_now (LeadsBy hash place) before.seen after.seen now sees.lawful.older sees.seen sees.lawful.is
    (λ by. let counts = led_passed nests hash place now (reached_now nests before after sees size some) by search.nest within nearer in
    absurd (omega (arith, counts, zero_passed)))

-- behind the last nest nothing is ahead
pub ends_last : (hash : ℕ) (search : ReaderSearchView) (eye : EyeView) → search.lanes ≡ 0 → search.later ≡ 0
    → EndsPast search.nests hash search eye eye
ends_last hash search eye none last size place is ahead =
    let behind = ahead_behind search place none ahead in
    let a = behind.0 in let b = behind.1 in absurd (omega (arith, a, b, last))

pub sees_looks : (before after : EyeView) → SeesMoment before after → Looks before after
sees_looks before after sees = record { table = sees.table; seen = sees.seen; size = sees.size }

pub looks_none : (eye : EyeView) → Looks eye eye
looks_none eye = record { table = refl; seen = record { more = []; is = refl }; size = λ some. refl }

pub looks_more : (before between after : EyeView) → Looks before between → Looks between after → Looks before after
looks_more before between after first second = record {
  table = second.table ∙ first.table;
  seen = extends_on before.seen between.seen after.seen first.seen second.seen;
  size = λ (some : 0 < length (words_of before.seen)).
      let same = first.size some in
      second.size (subst (λ (n : ℕ). 0 < n) (sym same) some) ∙ same;
}

-- a search that came past some lanes, and then past more
pub past_more : (nests hash : ℕ) (from between to : ReaderSearchView) (before middle after : EyeView)
    → Looks before middle → Looks middle after → ComesPast nests hash from between before middle
    → ComesPast nests hash between to middle after → ComesPast nests hash from to before after
past_more nests hash from between to before middle after first second past more size place is ahead =
    let near = is.nest in
    let there : length (words_of middle.seen) ≡ 8 * nests = first.size (omega (arith, size, near)) ∙ size in
    ⊎_elim
    (λ on. ⊎_elim (λ still. inl still)
    (λ none. inr (not_earlier (LeadsBy hash place) before.seen middle.seen after.seen first.seen none))
    (more there place is on))
    (λ none. inr (not_longer (LeadsBy hash place) before.seen middle.seen after.seen none second.seen))
    (past size place is ahead)

-- a search that stays where it is
pub past_still : (nests hash : ℕ) (search : ReaderSearchView) (before after : EyeView)
    → ComesPast nests hash search search before after
past_still nests hash search before after size place is ahead = inl ahead

-- and then ended
pub past_end : (nests hash : ℕ) (from between : ReaderSearchView) (before middle after : EyeView)
    → Looks before middle → Looks middle after → ComesPast nests hash from between before middle
    → EndsPast nests hash between middle after → EndsPast nests hash from before after
past_end nests hash from between before middle after first second past ends size place is ahead =
    let near = is.nest in
    let there : length (words_of middle.seen) ≡ 8 * nests = first.size (omega (arith, size, near)) ∙ size in
    ⊎_elim
    (λ on. not_earlier (LeadsBy hash place) before.seen middle.seen after.seen first.seen (ends there place is on))
    (λ none. not_longer (LeadsBy hash place) before.seen middle.seen after.seen none second.seen)
    (past size place is ahead)

-- what isn't so
pub not_true : (b : Bool) → not b ≡ true → b ≡ false
not_true true e = absurd (false≢true e)
not_true false e = refl

-- the eye sees the same index as before
pub index_seen : (index : IndexReaderView) (before after : EyeView) → SeesIndex index before → Looks before after
    → SeesIndex index after
index_seen index before after sees looks = record {
  table = looks.table ∙ sees.table;
  size = looks.size (let size = sees.size in let some = sees.some in omega (arith, size, some)) ∙ sees.size;
  some = sees.some;
}

-- a search answers the life of the lowest lane that is left
pub takes_past : (hash word number taken : ℕ) (life : ItemId) (from to : ReaderSearchView) (before after : EyeView)
    → SeesMoment before after → word ≡ 8 * from.nest → (takes : TakesLowest from.lanes to.lanes) → 0 < from.lanes
    → from.lanes < 2 ^ 64 → taken ≡ trailing_zeros w64 from.lanes / 8
    → number ≡ get_or (words_of after.seen) (word + 2 + taken) 0
    → ((chunk_in number + from.first) % 2 ^ 32 ≡ life.chunk) × (generation_in number ≡ life.generation)
    → to.nests ≡ from.nests → to.nest ≡ from.nest → to.later ≡ from.later
    → AnswersPast from.nests hash life from to before after
takes_past hash word number taken life from to before after sees at takes has fits taken_is number_is life_is nests_is
    nest_is later_is size place is (inr behind) =
    let P : ℕ → ℕ → ℕ → Type 0 = λ n m l. (0 < steps_to n m (nest_of place)) × (steps_to n m (nest_of place) ≤ l) in
    inl (inr (subst (λ (n : ℕ). P n to.nest to.later) (sym nests_is) (subst (λ (m : ℕ). P from.nests m to.later) (sym nest_is)
    (subst (λ (l : ℕ). P from.nests from.nest l) (sym later_is) behind))))
takes_past hash word number taken life from to before after sees at takes has fits taken_is number_is life_is nests_is
    nest_is later_is size place is (inl here) =
    let nests = from.nests in
    let near = is.nest in
    let some : 0 < nests = omega (arith, near) in
    let now = sees.lawful.now in
    ⊎_elim
    (λ same.
    let low = bit_lowest from.lanes to.lanes takes has fits in
    let lane : lane_of place ≡ taken = (let e : takes.bit / 8 ≡ lane_of place = omega (arith, same) in
    sym e ∙ sym (taken_is ∙ ap (λ (b : ℕ). b / 8) low)) in
    let there : word + 2 + taken ≡ place = omega (arith, at, here.0, lane, is.lane) in
    let word_now : number ≡ get_or now.words place 0 =
    number_is ∙ (ap (λ (ws : List ℕ). get_or ws (word + 2 + taken) 0) (words_now nests before after sees size some)
    ∙ ap (λ (w : ℕ). get_or now.words w 0) there) in
    let P : ℕ → Type 0 = λ w. ((chunk_in w + from.first) % 2 ^ 32 ≡ life.chunk) × (generation_in w ≡ life.generation) in
    inr (inr (one_within_now (HasLife from.first place life) before.seen after.seen now sees.lawful.older sees.seen
    sees.lawful.is (subst P word_now life_is))))
    (λ apart. inl (inl (here.0 ∙ sym nest_is, bit_stays from.lanes to.lanes takes (8 * lane_of place + 7) here.1 apart)))
    (cases_eq (8 * lane_of place + 7) takes.bit)

-- a search that came past some lanes, and then answered
pub past_answer : (nests hash : ℕ) (life : ItemId) (from between to : ReaderSearchView) (before middle after : EyeView)
    → Looks before middle → Looks middle after → ComesPast nests hash from between before middle
    → between.first ≡ from.first → AnswersPast nests hash life between to middle after
    → AnswersPast nests hash life from to before after
past_answer nests hash life from between to before middle after first second past same more size place is ahead =
    let near = is.nest in
    let there : length (words_of middle.seen) ≡ 8 * nests = first.size (omega (arith, size, near)) ∙ size in
    ⊎_elim
    (λ on. ⊎_elim (λ still. inl still)
    (λ done. inr (⊎_elim
    (λ none. inl (not_earlier (LeadsBy hash place) before.seen middle.seen after.seen first.seen none))
    (λ one. inr (subst (λ (f : ℕ). AtOneWithin (HasLife f place life) before.seen after.seen) same
    (one_earlier (HasLife between.first place life) before.seen middle.seen after.seen first.seen one)))
    done))
    (more there place is on))
    (λ none. inr (inl (not_longer (LeadsBy hash place) before.seen middle.seen after.seen none second.seen)))
    (past size place is ahead)
