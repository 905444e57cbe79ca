-- Ways of moments that follow each other: a lane that stays on keeps its hash.
use Rattle.std.proofs.Common.{◌≡◌, ℕ, ◌<◌, List, length, set, get_or, sym, ap, ◌∙◌, subst, arith, ⊎_elim, length-set}
use Rattle.std.proofs.lemmas.Bool.{cases_eq}
use Rattle.cache_index.specs.declared.led.Way.{Way}
use Rattle.cache_index.specs.Places.{tag_at}
use Rattle.cache_index.specs.Leads.{chunk_in, no_way, way_to, AreLed}
use Rattle.cache_index.specs.History.{ways_of, IsReached, AreNoted, KeepHashes}
use Rattle.cache_index.proofs.HistoryLemmas.{led_reached}
use Rattle.cache_index.proofs.LedLemmas.{chunk_of_way, tag_some, way_here, way_elsewhere}

-- one list of ways keeps its hashes: no two of them lead to one lane
pub keep_same : (nests : ℕ) (words : List ℕ) (ways : List Way) → IsReached nests words ways → KeepHashes ways ways
keep_same nests words ways reached was is some same =
    let on : 0 < (way_to ways is).place = omega (arith, some, same) in
    let one : is ≡ was = sym (reached.leads is on).life
    ∙ (ap (λ (p : ℕ). chunk_in (get_or words p 0)) same ∙ (reached.leads was some).life) in
    ap (λ (c : ℕ). (way_to ways c).hash) one

-- and so where the ways before are those that were noted
pub keep_noted : (note : List (List ℕ)) (before now : List Way) → AreNoted note before → KeepHashes before now
    → KeepHashes (ways_of note) now
keep_noted note before now noted keeps was is some same =
    let at : way_to (ways_of note) was ≡ way_to before was = noted was in
    keeps was is (subst (λ (w : Way). 0 < w.place) at some) (same ∙ ap (λ (w : Way). w.place) at)
    ∙ sym (ap (λ (w : Way). w.hash) at)

-- a chunk's way is gone
pub keep_without : (ways : List Way) (chunk : ℕ) → chunk < length ways → KeepHashes ways ways
    → KeepHashes ways (set ways chunk no_way)
keep_without ways chunk within keeps was is some same = ⊎_elim
    (λ here.
    let gone : (way_to (set ways chunk no_way) is).place ≡ 0 =
    ap (λ (k : ℕ). (way_to (set ways chunk no_way) k).place) here
    ∙ ap (λ (w : Way). w.place) (way_here ways chunk no_way within) in
    absurd (omega (arith, gone, same, some)))
    (λ apart.
    let there = way_elsewhere ways chunk is no_way apart in
    ap (λ (w : Way). w.hash) there ∙ keeps was is some (sym (ap (λ (w : Way). w.place) there) ∙ same))
    (cases_eq is chunk)

-- a chunk's way is another one, to a lane that was off or kept its hash
pub keep_with : (before now : List Way) (chunk : ℕ) (way : Way) → chunk < length now → KeepHashes before now
    → ((was : ℕ) → 0 < (way_to before was).place → way.place ≡ (way_to before was).place
    → way.hash ≡ (way_to before was).hash) → KeepHashes before (set now chunk way)
keep_with before now chunk way within keeps this was is some same = ⊎_elim
    (λ here.
    let there : way_to (set now chunk way) is ≡ way =
    ap (λ (k : ℕ). way_to (set now chunk way) k) here ∙ way_here now chunk way within in
    ap (λ (w : Way). w.hash) there ∙ this was some (sym (ap (λ (w : Way). w.place) there) ∙ same))
    (λ apart.
    let there = way_elsewhere now chunk is way apart in
    ap (λ (w : Way). w.hash) there ∙ keeps was is some (sym (ap (λ (w : Way). w.place) there) ∙ same))
    (cases_eq is chunk)

-- ways that agree with words keep their hashes
pub keep_led : (nests : ℕ) (words : List ℕ) (ways : List Way) → AreLed nests words ways → KeepHashes ways ways
keep_led nests words ways led = keep_same nests words ways (led_reached nests words ways led)

-- with one more way, to a lane that was off
pub keep_laid : (nests : ℕ) (words : List ℕ) (ways : List Way) (chunk : ℕ) (way : Way) → AreLed nests words ways
    → chunk < length ways → tag_at words way.place ≡ 0 → KeepHashes ways (set ways chunk way)
keep_laid nests words ways chunk way led within off =
    keep_with ways ways chunk way within (keep_led nests words ways led)
    (λ was some same.
    let there : tag_at words way.place ≡ tag_at words (way_to ways was).place = ap (λ (p : ℕ). tag_at words p) same in
    absurd (omega (arith, (led.leads was some).tag, there, off, tag_some (way_to ways was).hash)))

-- and with a way that goes over to another chunk
pub keep_relaid : (nests : ℕ) (words : List ℕ) (ways : List Way) (old chunk : ℕ) (way : Way) → AreLed nests words ways
    → 0 < (way_to ways old).place → chunk < length ways → way ≡ way_to ways old
    → KeepHashes ways (set (set ways old no_way) chunk way)
keep_relaid nests words ways old chunk way led some within is =
    let keeps = keep_led nests words ways led in
    keep_with ways (set ways old no_way) chunk way (let e = length-set ways old no_way in omega (arith, e, within))
    (keep_without ways old (chunk_of_way ways old some) keeps)
    (λ was on same. ap (λ (w : Way). w.hash) is ∙ keeps was old on (sym (ap (λ (w : Way). w.place) is) ∙ same))
