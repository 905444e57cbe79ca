-- What the writer's search says of its answers, in the words of its contract.
use Rattle.std.proofs.Common.{◌≡◌, ◌≢◌, ℕ, ◌+◌, ◌*◌, ◌/◌, ◌%◌, ◌^◌, ◌<◌, ◌≤◌, true, false, eqb, ◌||◌, Bool}
use Rattle.std.proofs.Common.{Option, Some, IsSomeAnd, IfSome, List, map, get_or, sym, ap, ◌∙◌, subst}
use Rattle.std.proofs.Common.{arith, ⊎_elim}
use Rattle.std.proofs.lemmas.Bool.{cases_lt}
use Rattle.cache_index.specs.declared.led.Way.{Way}
use Rattle.cache_index.specs.Tags.{tag_of}
use Rattle.cache_index.specs.Places.{IsPlace, tag_at, passed_at, home_of, nest_behind, place_in, tag_behind}
use Rattle.cache_index.specs.Leads.{chunk_in, generation_in, way_to, AreLed, IsRoomy}
use Rattle.cache_index.specs.Views.{Led, IndexView, SearchView, index_view, led_by, led_at, has_answered}
use Rattle.cache_index.proofs.StepsLemmas.{home_of-lt}
use Rattle.cache_index.proofs.RoomLemmas.{lane_is_off}
use Rattle.cache_index.proofs.SearchLemmas.{search_at, answered, IsFound, found_place, found_chunk, found_led}
use Rattle.cache_index.proofs.SearchLemmas.{found_same_tag, found_anew, found_answered, all_answered}
use Rattle.cache_index.proofs.SearchLemmas.{has_answered-way, led_at-way, led_by-some, led_by-none}

-- what a look found is found
pub found_from : (nests n0 : ℕ) (words : List ℕ) (ways : List Way) (hash from at : ℕ) → n0 ≡ nests
    → AreLed nests words ways → IsRoomy nests ways → hash < 2 ^ 32
    → (from ≤ at) × (at < 6 * n0) → tag_behind words n0 (home_of n0 hash) at ≡ tag_of hash
    → ((number : ℕ) → from ≤ number → number < at → tag_behind words n0 (home_of n0 hash) number ≢ tag_of hash)
    → IsFound nests words ways hash from at
found_from nests n0 words ways hash from at e led roomy fits within found first =
    let P : ℕ → Type 0 = λ n. tag_behind words n (home_of n hash) at ≡ tag_of hash in
    let Q : ℕ → Type 0 = λ n. (number : ℕ) → from ≤ number → number < at → tag_behind words n (home_of n hash) number
    ≢ tag_of hash in
    record {
      led = led;
      home = home_of-lt nests hash fits (omega (arith, roomy.lanes_over));
      over = within.0;
      within = omega (arith, within.1, e);
      found = subst P e found;
      first = subst Q e first;
    }

-- the word that the search reads is that of the place that it found
pub life_found : (nests n0 nest lane number hash at : ℕ) (words mid : List ℕ) (n0_is : n0 ≡ nests)
    → nest ≡ nest_behind n0 (home_of n0 hash) (at / 6) → lane ≡ at % 6 → mid ≡ words
    → number ≡ get_or mid (place_in nest lane) 0
    → number ≡ get_or words (place_in (nest_behind nests (home_of nests hash) (at / 6)) (at % 6)) 0
life_found nests n0 nest lane number hash at words mid n0_is nest_is lane_is mid_is number_is =
    number_is
    ∙ (ap (λ (l : ℕ). get_or mid (place_in nest l) 0) lane_is
    ∙ (ap (λ (ws : List ℕ). get_or ws (place_in nest (at % 6)) 0) mid_is
    ∙ (ap (λ (n : ℕ). get_or words (place_in n (at % 6)) 0) nest_is
    ∙ ap (λ (n : ℕ). get_or words (place_in (nest_behind n (home_of n hash) (at / 6)) (at % 6)) 0) n0_is)))

module _ (v : IndexView) (s : SearchView) (nests : ℕ) (words : List ℕ) (ways : List Way) (hash from at chunk number : ℕ)
    (seen : v ≡ index_view nests words ways) (search : s ≡ search_at hash from)
    (it : IsFound nests words ways hash from at) (number_is : number ≡ get_or words (found_place nests words ways
    hash from at) 0)
    (chunk_is : chunk ≡ chunk_in number) where
  chunk_found : chunk ≡ found_chunk nests words ways hash from at
  chunk_found = chunk_is ∙ ap chunk_in number_is

  before_is : (c : ℕ) → has_answered v s c ≡ answered nests words (search_at hash from) (way_to ways c)
  before_is c =
      ap (λ (u : IndexView). has_answered u s c) seen
      ∙ (ap (λ (t : SearchView). has_answered (index_view nests words ways) t c) search
      ∙ has_answered-way nests words ways (search_at hash from) c)

  pub answer_anew : has_answered v s chunk ≡ false
  answer_anew =
      before_is chunk
      ∙ (ap (λ (c : ℕ). answered nests words (search_at hash from) (way_to ways c)) chunk_found
      ∙ found_anew nests words ways hash from at it)

  pub answer_led : (generation : ℕ) → generation ≡ generation_in number
      → IsSomeAnd (led_at v.table chunk) (λ (led : Led). (led.generation ≡ generation) × (tag_of led.hash ≡ tag_of
      s.hash))
  answer_led generation generation_is =
      let c = found_chunk nests words ways hash from at in
      let led_is : led_at v.table chunk
      ≡ Some (record {
        hash = (way_to ways c).hash;
        generation = generation_in (get_or words (found_place nests words ways hash from at) 0);
      }) =
      ap (λ (u : IndexView). led_at u.table chunk) seen
      ∙ (ap (λ (k : ℕ). led_at (map (led_by words) ways) k) chunk_found
      ∙ (led_at-way words ways c ∙ found_led nests words ways hash from at it)) in
      let P : Option Led → Type 0 =
      λ o. IsSomeAnd o (λ (led : Led). (led.generation ≡ generation) × (tag_of led.hash ≡ tag_of s.hash)) in
      subst P (sym led_is) (
        sym (generation_is ∙ ap generation_in number_is),
        found_same_tag nests words ways hash from at it ∙ ap (λ (t : SearchView). tag_of t.hash) (sym search),
      )

  pub answer_answered : (u : IndexView) (t : SearchView) → u ≡ index_view nests words ways → t ≡ search_at hash (at + 1)
      → (c : ℕ) → has_answered u t c ≡ (has_answered v s c || eqb c chunk)
  answer_answered u t u_is t_is c =
      ap (λ (w : IndexView). has_answered w t c) u_is
      ∙ (ap (λ (r : SearchView). has_answered (index_view nests words ways) r c) t_is
      ∙ (has_answered-way nests words ways (search_at hash (at + 1)) c
      ∙ (found_answered nests words ways hash from at it c
      ∙ (ap (λ (b : Bool). b || eqb c (found_chunk nests words ways hash from at)) (sym (before_is c))
      ∙ ap (λ (k : ℕ). has_answered v s c || eqb c k) (sym chunk_found)))))

-- where the search ends, each chunk with its hash was answered
pub end_all : (v : IndexView) (s : SearchView) (nests n0 : ℕ) (words : List ℕ) (ways : List Way) (hash from : ℕ)
    → v ≡ index_view nests words ways → s ≡ search_at hash from → n0 ≡ nests
    → AreLed nests words ways → IsRoomy nests ways → hash < 2 ^ 32
    → ((number : ℕ) → from ≤ number → number < 6 * n0
    → ((steps : ℕ) → steps < number / 6 → 0 < passed_at words (nest_behind n0 (home_of n0 hash) steps))
    → tag_behind words n0 (home_of n0 hash) number ≢ tag_of hash)
    → (chunk : ℕ) → IfSome (led_at v.table chunk) (λ (led : Led). led.hash ≡ s.hash → has_answered v s chunk ≡ true)
end_all v s nests n0 words ways hash from seen search e led roomy fits none chunk =
    let way = way_to ways chunk in
    let P : Option Led → Type 0 = λ o. IfSome o (λ (led : Led). led.hash ≡ s.hash → has_answered v s chunk ≡ true) in
    let Q : ℕ → Type 0 = λ n. (number : ℕ) → from ≤ number → number < 6 * n
    → ((steps : ℕ) → steps < number / 6 → 0 < passed_at words (nest_behind n (home_of n hash) steps))
    → tag_behind words n (home_of n hash) number ≢ tag_of hash in
    let way_is : led_at v.table chunk ≡ led_by words way =
    ap (λ (u : IndexView). led_at u.table chunk) seen ∙ led_at-way words ways chunk in
    ⊎_elim
    (λ some. subst P (sym (way_is ∙ led_by-some words way some))
    (λ same.
    ap (λ (u : IndexView). has_answered u s chunk) seen
    ∙ (ap (λ (t : SearchView). has_answered (index_view nests words ways) t chunk) search
    ∙ (has_answered-way nests words ways (search_at hash from) chunk
    ∙ all_answered nests words ways hash from led (home_of-lt nests hash fits (omega (arith, roomy.lanes_over)))
    (subst Q e none) chunk some (same ∙ ap (λ (t : SearchView). t.hash) search)))))
    (λ none_led. subst P (sym (way_is ∙ led_by-none words way (let z : way.place ≡ 0 = omega (arith, none_led) in z))) tt)
    (cases_lt 0 way.place)

-- some lane is off
pub is_off : (nests n0 : ℕ) (words : List ℕ) (ways : List Way) → n0 ≡ nests → AreLed nests words ways
    → IsRoomy nests ways
    → ((place : ℕ) → IsPlace n0 place → 0 < tag_at words place) → ⊥
is_off nests n0 words ways e led roomy full =
    let P : ℕ → Type 0 = λ n. (place : ℕ) → IsPlace n place → 0 < tag_at words place in
    lane_is_off nests words ways led roomy (subst P e full)
