-- A reader's first eye has seen that the index leads to all that it leads to.
use Rattle.std.proofs.Common.{◌≡◌, ℕ, ◌+◌, ◌-◌, ◌^◌, ◌<◌, ◌≤◌, Option, Some, None, IfSome, Result, Ok, Err, IfOk, List, [], ◌∷◌, length, map, get_or, sym, ap, ◌∙◌, subst, arith, ⊎_elim}
use Rattle.std.proofs.lemmas.Bool.{cases_lt}
use Rattle.std.proofs.lemmas.List.{get_or_past}
use Rattle.seen_words.specs.declared.views.Moment.{Moment}
use Rattle.seen_words.specs.Past.{EyeView, words_of, note_of}
use Rattle.seen_words.specs.Windows.{AtLast}
use Rattle.cache_index.specs.declared.led.Way.{Way}
use Rattle.cache_index.specs.Leads.{AreLed, IsRoomy, chunk_in, generation_in, way_to}
use Rattle.cache_index.specs.Views.{Led, IndexView, led_at, led_by, numbered_from}
use Rattle.cache_index.specs.History.{AreNoted, LeadsAll, LeadsAs}
use Rattle.cache_index.proofs.SearchLemmas.{led_at-way, led_by-some, led_by-none}
use Rattle.cache_index.proofs.NumberLemmas.{led_before, led_from}

-- to each chunk
sees_chunk : (nests : ℕ) (words : List ℕ) (ways : List Way) (now : Moment) (chunk : ℕ) → AreLed nests words ways
    → words ≡ now.words → AreNoted now.note ways
    → IfSome (led_at (map (led_by words) ways) chunk) (λ led. LeadsAs led 0 chunk now)
sees_chunk nests words ways now chunk led same noted =
    let way = way_to ways chunk in
    let P : Option Led → Type 0 = λ o. IfSome o (λ led. LeadsAs led 0 chunk now) in
    subst P (sym (led_at-way words ways chunk))
    (⊎_elim
    (λ some.
    let life : chunk_in (get_or words way.place 0) ≡ chunk = (led.leads chunk some).life in
    let there : chunk_in (get_or now.words way.place 0) ≡ chunk =
    ap (λ (ws : List ℕ). chunk_in (get_or ws way.place 0)) (sym same) ∙ life in
    subst P (sym (led_by-some words way some)) (record {
      place = way.place;
      by = record {
        chunk = chunk;
        some = some;
        at = ap (λ (w : Way). w.place) (noted chunk);
        of = ap (λ (w : Way). w.hash) (noted chunk);
      };
      has = (omega (arith, there), ap (λ (ws : List ℕ). generation_in (get_or ws way.place 0)) (sym same));
    }))
    (λ none. subst P (sym (led_by-none words way (omega (arith, none)))) tt)
    (cases_lt 0 way.place))

-- to all
pub sees_all : (nests : ℕ) (words : List ℕ) (ways : List Way) (seen : List Moment) → AreLed nests words ways → 0 < nests
    → words ≡ words_of seen → AreNoted (note_of seen) ways → AtLast (LeadsAll 0 (map (led_by words) ways)) seen
sees_all nests words ways [] led some same noted =
    let none = ap (λ (ws : List ℕ). length ws) same in absurd (omega (arith, some, led.size, none))
sees_all nests words ways (now ∷ older) led some same noted = λ chunk. sees_chunk nests words ways now chunk led same noted

-- a life, whose chunk is numbered from another number on
numbered : (first chunk : ℕ) (now : Moment) (led : Led) → first ≤ chunk → chunk < 2 ^ 32
    → LeadsAs led 0 (chunk - first) now → LeadsAs led first chunk now
numbered first chunk now led high few leads = record {
  place = leads.place;
  by = leads.by;
  has = (let to = leads.has.0 in omega (arith, to, high, few), leads.has.1);
}

-- and to all of an index whose chunks are numbered from another number on
pub sees_from : (first : ℕ) (v : IndexView) (seen : List Moment) → first + length v.table ≤ 2 ^ 30
    → AtLast (LeadsAll 0 v.table) seen → AtLast (LeadsAll first (numbered_from first v).table) seen
sees_from first v [] few all = absurd all
sees_from first v (now ∷ older) few all = λ chunk.
    let P : Option Led → Type 0 = λ o. IfSome o (λ led. LeadsAs led first chunk now) in
    ⊎_elim
    (λ low. subst P (sym (led_before first v chunk low)) tt)
    (λ past.
    let high : first ≤ chunk = omega (arith, past) in
    subst P (sym (led_from first v chunk high))
    (⊎_elim (λ inside. if_numbered first chunk now (led_at v.table (chunk - first)) high (omega (arith, inside, few))
    (all (chunk - first)))
    (λ outside. subst P (sym (get_or_past v.table (chunk - first) None (omega (arith, outside)))) tt)
    (cases_lt (chunk - first) (length v.table))))
    (cases_lt chunk first)
  where
    if_numbered : (first chunk : ℕ) (now : Moment) (o : Option Led) → first ≤ chunk → chunk < 2 ^ 32
        → IfSome o (λ led. LeadsAs led 0 (chunk - first) now) → IfSome o (λ led. LeadsAs led first chunk now)
    if_numbered first chunk now None high few leads = tt
    if_numbered first chunk now (Some led) high few leads = numbered first chunk now led high few leads

-- there is a nest
pub some_nests : (nests : ℕ) (ways : List Way) → IsRoomy nests ways → 0 < nests
some_nests nests ways roomy = let over = roomy.lanes_over in omega (arith, over)

-- and whoever is told of the one is told of the other
pub told_from : {A E : Type 0} (first : ℕ) (v : IndexView) (result : Result (A × EyeView) E)
    → first + length v.table ≤ 2 ^ 30 → IfOk result (λ r. AtLast (LeadsAll 0 v.table) r.1.seen)
    → IfOk result (λ r. AtLast (LeadsAll first (numbered_from first v).table) r.1.seen)
told_from first v (Ok (reader, eye)) few all = sees_from first v eye.seen few all
told_from first v (Err why) few all = tt
