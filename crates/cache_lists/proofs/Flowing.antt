-- How the history of a class counts the ways of its items, and what changes of a Book do to them.
use Rattle.std.proofs.Common.{◌≡◌, ℕ, ◌+◌, ◌-◌, Bool, true, false, ◌&&◌, List, [], ◌∷◌, ◌++◌, length, refl, sym, ap, ap₂, ◌∙◌, subst, arith, append-nil, append_assoc, eq-eqb, ne_eqb}
use native.Mathlib.Decide.{ℕ_discrete}
use Rattle.bump_links.specs.Lists.{times, without}
use Rattle.bump_rules.specs.declared.history.Change.{Change}
use Rattle.bump_rules.specs.declared.places.Place.{Place}
use Rattle.bump_rules.specs.declared.places.Place.TheVariants.{Hot, Warm, Cold, Temp, Dying, Unused, Retired}
use Rattle.bump_rules.specs.History.{subject, target, standing_in, AreBetween, replay, replayed}
use Rattle.bump_rules.specs.Lawful.{bit}
use Rattle.bump_rules.specs.Lists.{Lists, list_at, to_front, opening}
use Rattle.bump_rules.specs.Places.{place_number, is_place, all_places, is_segment_place}
use Rattle.bump_rules.specs.Totals.{total}
use Rattle.bump_rules.proofs.Replay.{replayed_lists, replay_push, are_between_push}
use Rattle.bump_rules.proofs.SixLists.{list_at_front}
use Rattle.bump_rules.proofs.Updates.{total_both}
use Rattle.bump_class.specs.Books.{BookView, IsBook}
use Rattle.bump_class.proofs.SizeLemmas.{shorter, longer}
use Rattle.cache_lists.specs.Flows.{crosses, crossings_behind, into, out_of, AddsUp}

-- one more entry of a history is one more way where it is this way
pub crossings_push : (fresh : ℕ) (from to : Place) (so_far history : List Change) (e : Change)
    → crossings_behind fresh from to so_far (history ++ e ∷ [])
    ≡ crossings_behind fresh from to so_far history + bit (crosses fresh from to (so_far ++ history) e)
crossings_push fresh from to so_far [] e =
    omega (arith, ap (λ h. bit (crosses fresh from to h e)) (append-nil so_far))
crossings_push fresh from to so_far (d ∷ rest) e = omega (
  arith,
  crossings_push fresh from to (so_far ++ d ∷ []) rest e,
  ap (λ h. bit (crosses fresh from to h e)) (append_assoc so_far (d ∷ []) rest),
)

-- ---- what came in is there still, or went out

-- a move to the front takes a chunk from where it stood, and puts it where it stands then
size_moved : (c : ℕ) (p q : Place) (l : Lists) → length (list_at (to_front c p l) q) + times c (list_at l q)
    ≡ length (list_at l q) + bit (is_place p q)
size_moved c p q l = omega (
  arith,
  ap length (list_at_front c p q l),
  longer (is_place p q) c (without c (list_at l q)),
  shorter c (list_at l q),
)

-- two places test as one in either order
pub place_turned : (p q : Place) → is_place p q ≡ is_place q p
place_turned p q = by (ℕ_discrete (place_number p) (place_number q))
  where
    by : Dec (place_number p ≡ place_number q) → is_place p q ≡ is_place q p
    by (yes e) = eq-eqb _ _ e ∙ sym (eq-eqb _ _ (sym e))
    by (no n) = ne_eqb _ _ n ∙ sym (ne_eqb _ _ (λ e. n (sym e)))

-- a chunk that goes from a place goes to one of all
ways_out : (b : Bool) (p : Place) → total (λ to. bit (b && is_place to p)) all_places ≡ bit b
ways_out false p = refl
ways_out true Hot = refl
ways_out true Warm = refl
ways_out true Cold = refl
ways_out true Temp = refl
ways_out true Dying = refl
ways_out true Unused = refl
ways_out true Retired = refl

-- and one that comes to a place comes from one of all
ways_in : (b : Bool) (p : Place) → total (λ from. bit (is_place from p && b)) all_places ≡ bit b
ways_in b Hot = omega arith
ways_in b Warm = omega arith
ways_in b Cold = omega arith
ways_in b Temp = omega arith
ways_in b Dying = omega arith
ways_in b Unused = omega arith
ways_in b Retired = omega arith

-- behind each beginning of a history, the rest adds up
adds_up_behind : (first end fresh : ℕ) (q : Place) (so_far rest : List Change) → AreBetween first end so_far
    → AreBetween first end rest
    → length (list_at (replay (replayed first end so_far) rest) q)
    + total (λ to. crossings_behind fresh q to so_far rest) all_places
    ≡ length (list_at (replayed first end so_far) q)
    + total (λ from. crossings_behind fresh from q so_far rest) all_places
adds_up_behind first end fresh q so_far [] before all = omega arith
adds_up_behind first end fresh q so_far (e ∷ rest) before all =
    one_more (replayed first end (so_far ++ e ∷ [])) moved (adds_up_behind first end fresh q (so_far ++ e ∷ []) rest
    (are_between_push first end so_far e before all.0) all.1)
  where
    c : ℕ
    c = (subject e).chunk

    at : Place
    at = (standing_in fresh so_far c).0

    lists : Lists
    lists = replayed first end so_far

    Out : Place → ℕ
    Out to = crossings_behind fresh q to (so_far ++ e ∷ []) rest

    In : Place → ℕ
    In from = crossings_behind fresh from q (so_far ++ e ∷ []) rest

    moved : replayed first end (so_far ++ e ∷ []) ≡ to_front c (target e) lists
    moved = replay_push (opening first (end - first)) so_far e

    stood : times c (list_at lists q) ≡ bit (is_place q at)
    stood = replayed_lists first end fresh c so_far before q
        ∙ ap₂ (λ a b. bit (a && b)) all.0 (place_turned at q)

    outs : total (λ to. bit (is_place q at && is_place to (target e)) + Out to) all_places
        ≡ bit (is_place q at) + total Out all_places
    outs = total_both (λ to. bit (is_place q at && is_place to (target e))) Out all_places
        ∙ ap (λ n. n + total Out all_places) (ways_out (is_place q at) (target e))

    ins : total (λ from. bit (is_place from at && is_place q (target e)) + In from) all_places
        ≡ bit (is_place q (target e)) + total In all_places
    ins = total_both (λ from. bit (is_place from at && is_place q (target e))) In all_places
        ∙ ap (λ n. n + total In all_places) (ways_in (is_place q (target e)) at)

    size : length (list_at (to_front c (target e) lists) q) + bit (is_place q at)
        ≡ length (list_at lists q) + bit (is_place q (target e))
    size = ap (λ n. length (list_at (to_front c (target e) lists) q) + n) (sym stood)
        ∙ (size_moved c (target e) q lists ∙ ap (λ b. length (list_at lists q) + bit b) (place_turned (target e) q))

    sums : (last o next i now out come : ℕ) → last + o ≡ next + i → next + out ≡ now + come
        → last + (out + o) ≡ now + (come + i)
    sums last o next i now out come more one = omega arith

    one_more : (next : Lists) → next ≡ to_front c (target e) lists
        → length (list_at (replay next rest) q) + total Out all_places ≡ length (list_at next q) + total In all_places
        → length (list_at (replay (to_front c (target e) lists) rest) q)
        + total (λ to. bit (is_place q at && is_place to (target e)) + Out to) all_places
        ≡ length (list_at lists q)
        + total (λ from. bit (is_place from at && is_place q (target e)) + In from) all_places
    one_more next is more = ap (λ n. length (list_at (replay (to_front c (target e) lists) rest) q) + n) outs
        ∙ (sums _ _ _ _ _ _ _ (subst (λ (l : Lists). length (list_at (replay l rest) q) + total Out all_places
        ≡ length (list_at l q) + total In all_places) is more) size
        ∙ ap (λ n. length (list_at lists q) + n) (sym ins))

-- at the start no list of linked items has a chunk
empty_open : (first count : ℕ) (q : Place) → is_segment_place q ≡ true → length (list_at (opening first count) q) ≡ 0
empty_open first count Hot is = refl
empty_open first count Warm is = refl
empty_open first count Cold is = refl
empty_open first count Temp is = refl
empty_open first count Dying is = absurd (cc is)
empty_open first count Unused is = absurd (cc is)
empty_open first count Retired is = absurd (cc is)

-- in each Book what came to a list of linked items is there still, or went out
pub adds_up : (book : BookView) → IsBook book → AddsUp book
adds_up book is q linked =
    let first = book.sheet.first in
    let end = book.sheet.first + book.sheet.count in
    ap (λ (l : Lists). length (list_at l q) + out_of q book.sheet) is.lists
    ∙ (adds_up_behind first end book.sheet.fresh q [] book.sheet.history tt is.entries
    ∙ ap (λ n. n + into q book.sheet) (empty_open first (end - first) q linked) ∙ none (into q book.sheet))
  where
    none : (n : ℕ) → 0 + n ≡ n
    none n = omega arith
