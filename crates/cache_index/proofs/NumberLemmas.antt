-- What an index whose chunks are numbered from some number on has, by the one whose chunks are numbered from 0 on.
use Rattle.std.proofs.Common.{◌≡◌, ℕ, ◌+◌, ◌-◌, ◌<◌, ◌≤◌, Bool, false, eqb, ◌&&◌, ◌||◌, Option, None, IsSome, List, ◌++◌, length, replicate, get_or, set, sym, ap, ap₂, ◌∙◌, subst, arith, ⊎_elim}
use Rattle.std.proofs.lemmas.Bool.{cases_lt, cases_eq, eq-eqb, ne_eqb}
use Rattle.std.proofs.lemmas.List.{get_or_append_left, get_or-append_right, get_or-replicate, length-replicate, set-append_right}
use Rattle.cache_index.specs.Views.{Led, IndexView, SearchView, led_at, has_answered, has_tag, has_looked, numbered_from}

-- it has nothing of a chunk before its first one
pub led_before : (first : ℕ) (v : IndexView) (chunk : ℕ) → chunk < first
    → led_at (numbered_from first v).table chunk ≡ None
led_before first v chunk low =
    let before : List (Option Led) = replicate first None in
    let size : length before ≡ first = length-replicate first None in
    get_or_append_left before v.table None chunk (omega (arith, low, size)) ∙ get_or-replicate first chunk None None low

-- and of one behind that what the other has, by its number from the first one on
pub led_from : (first : ℕ) (v : IndexView) (chunk : ℕ) → first ≤ chunk
    → led_at (numbered_from first v).table chunk ≡ led_at v.table (chunk - first)
led_from first v chunk high =
    get_or-append_right (replicate first None) v.table first chunk None (length-replicate first None) high

-- a chunk of which it has something isn't before its first one
pub led_high : (first : ℕ) (v : IndexView) (chunk : ℕ) → IsSome (led_at (numbered_from first v).table chunk)
    → first ≤ chunk
led_high first v chunk some = ⊎_elim
    (λ low. let none : IsSome {T = Led} None = subst IsSome (led_before first v chunk low) some in absurd (cc none))
    (λ high. omega (arith, high)) (cases_lt chunk first)

-- what it has changes where that of the other does
pub set_from : (first : ℕ) (v : IndexView) (chunk : ℕ) (led : Option Led) → first ≤ chunk
    → replicate first None ++ set v.table (chunk - first) led ≡ set (numbered_from first v).table chunk led
set_from first v chunk led high =
    sym (set-append_right (replicate first None) v.table first chunk led (length-replicate first None) high)

-- a search has answered no chunk before the first one
pub answered_before : (first : ℕ) (v : IndexView) (search : SearchView) (chunk : ℕ) → chunk < first
    → has_answered (numbered_from first v) search chunk ≡ false
answered_before first v search chunk low =
    ap (λ (o : Option Led). has_tag search.hash o
    && has_looked v.nests search (get_or (numbered_from first v).places chunk 0)) (led_before first v chunk low)

-- and of those behind that the same as in the other
pub answered_from : (first : ℕ) (v : IndexView) (search : SearchView) (chunk : ℕ) → first ≤ chunk
    → has_answered (numbered_from first v) search chunk ≡ has_answered v search (chunk - first)
answered_from first v search chunk high =
    ap₂ (λ (o : Option Led) (place : ℕ). has_tag search.hash o && has_looked v.nests search place)
    (led_from first v chunk high)
    (get_or-append_right (replicate first 0) v.places first chunk 0 (length-replicate first 0) high)

-- two numbers are the same where they are counted from another one on
same_from : (first number chunk c : ℕ) → chunk ≡ first + number → first ≤ c → eqb (c - first) number ≡ eqb c chunk
same_from first number chunk c is high = ⊎_elim
    (λ same. eq-eqb (c - first) number same ∙ sym (eq-eqb c chunk (omega (arith, same, is, high))))
    (λ apart. ne_eqb (c - first) number apart
    ∙ sym (ne_eqb c chunk (λ e. apart (let same : c - first ≡ number = omega (arith, e, is, high) in same))))
    (cases_eq (c - first) number)

-- where the other's search has answered one chunk more, this one's has
pub answered_more : (first : ℕ) (v u : IndexView) (search next : SearchView) (number chunk : ℕ)
    → chunk ≡ first + number
    → ((c : ℕ) → has_answered u next c ≡ (has_answered v search c || eqb c number))
    → (c : ℕ) → has_answered (numbered_from first u) next c
    ≡ (has_answered (numbered_from first v) search c || eqb c chunk)
answered_more first v u search next number chunk is more c = ⊎_elim
    (λ low. answered_before first u next c low
    ∙ sym (ap₂ (λ (a b : Bool). a || b) (answered_before first v search c low)
    (ne_eqb c chunk (λ e. absurd (omega (arith, e, is, low))))))
    (λ past. let high : first ≤ c = omega (arith, past) in
    answered_from first u next c high ∙ (more (c - first)
    ∙ sym (ap₂ (λ (a b : Bool). a || b) (answered_from first v search c high)
    (sym (same_from first number chunk c is high)))))
    (cases_lt c first)
