-- The lists of a Book have its chunks together: a move to the front changes no sum of sizes.
use Rattle.std.proofs.Common.{◌≡◌, ℕ, ◌+◌, ◌-◌, ◌&&◌, ◌==◌, cond, Bool, true, false, List, [], ◌∷◌, length, refl, sym, ap, ◌∙◌, arith, eq-eqb, ne_eqb}
use Rattle.std.proofs.lemmas.List.FromFn.{length-range_with_len}
use native.Mathlib.Decide.{ℕ_discrete}
use Rattle.bump_links.specs.Lists.{times, without}
use Rattle.bump_rules.specs.declared.history.Change.{Change}
use Rattle.bump_rules.specs.declared.places.Place.{Place}
use Rattle.bump_rules.specs.declared.places.Place.TheVariants.{Unused}
use Rattle.bump_rules.specs.History.{is_place, subject, target, is_between, AreBetween, replay}
use Rattle.bump_rules.specs.Lawful.{bit}
use Rattle.bump_rules.specs.Lists.{Lists, list_at, to_front, opening, times_in_all}
use Rattle.bump_rules.specs.Totals.{total}
use Rattle.bump_rules.specs.Places.{all_places}
use Rattle.bump_rules.proofs.Replay.{replayed_lists}
use Rattle.bump_rules.proofs.Standings.{one_place, once_in_places}
use Rattle.bump_rules.proofs.SixLists.{list_at_front, times_front}
use Rattle.bump_rules.proofs.Updates.{total_both, total_same}
use Rattle.bump_class.specs.Books.{BookView, IsBook}
use Rattle.bump_class.specs.Sizes.{all_sizes}

-- a list without a chunk is shorter by the times that it had it
pub shorter : (c : ℕ) (xs : List ℕ) → length (without c xs) + times c xs ≡ length xs
shorter c [] = refl
shorter c (x ∷ xs) = by (x == c) refl (shorter c xs)
  where
    by : (b : Bool) → (x == c) ≡ b → length (without c xs) + times c xs ≡ length xs
        → length (without c (x ∷ xs)) + times c (x ∷ xs) ≡ length (x ∷ xs)
    by true is rest = rw is (omega (arith, rest))
    by false is rest = rw is (omega (arith, rest))

-- a list with one more in front, or without
pub longer : (b : Bool) (c : ℕ) (xs : List ℕ) → length (cond b (c ∷ xs) xs) ≡ length xs + bit b
longer true c xs = omega arith
longer false c xs = omega arith

-- one chunk that stands once in the lists goes to the front of one
front_keeps : (c : ℕ) (p : Place) (l : Lists) → times_in_all c l ≡ 1 → all_sizes (to_front c p l) ≡ all_sizes l
front_keeps c p l once =
    let left : Place → ℕ = λ q. length (without c (list_at l q)) in
    let put : all_sizes (to_front c p l) ≡ total left all_places + 1 =
    total_same (λ q. length (list_at (to_front c p l) q)) (λ q. left q + bit (is_place p q))
    (λ q. ap length (list_at_front c p q l) ∙ longer (is_place p q) c (without c (list_at l q))) all_places
    ∙ (total_both left (λ q. bit (is_place p q)) all_places ∙ ap (λ n. total left all_places + n) (one_place p)) in
    let taken : total left all_places + 1 ≡ all_sizes l =
    ap (λ n. total left all_places + n) (sym once)
    ∙ (sym (total_both left (λ q. times c (list_at l q)) all_places)
    ∙ total_same (λ q. left q + times c (list_at l q)) (λ q. length (list_at l q)) (λ q. shorter c (list_at l q))
    all_places) in
    put ∙ taken

-- and each chunk that stood once does so still
once_still : (c d : ℕ) (p : Place) (l : Lists) → times_in_all d l ≡ 1 → times_in_all d (to_front c p l) ≡ 1
once_still c d p l once = by (ℕ_discrete c d)
  where
    by : Dec (c ≡ d) → times_in_all d (to_front c p l) ≡ 1
    by (yes same) = total_same (λ q. times d (list_at (to_front c p l) q)) (λ q. bit (is_place p q))
        (λ q. times_front d c p q l ∙ ap (λ b. cond b (bit (is_place p q)) (times d (list_at l q))) (eq-eqb c d same))
        all_places ∙ one_place p
    by (no other) = total_same (λ q. times d (list_at (to_front c p l) q)) (λ q. times d (list_at l q))
        (λ q. times_front d c p q l ∙ ap (λ b. cond b (bit (is_place p q)) (times d (list_at l q))) (ne_eqb c d other))
        all_places ∙ once

-- so a history of a class's own chunks changes no sum
replay_keeps : (first end : ℕ) (l : Lists) (es : List Change) → AreBetween first end es
    → ((c : ℕ) → is_between first end c ≡ true → times_in_all c l ≡ 1) → all_sizes (replay l es) ≡ all_sizes l
replay_keeps first end l [] all once = refl
replay_keeps first end l (e ∷ es) all once =
    replay_keeps first end (to_front (subject e).chunk (target e) l) es all.1
    (λ c between. once_still (subject e).chunk c (target e) l (once c between))
    ∙ front_keeps (subject e).chunk (target e) l (once (subject e).chunk all.0)

-- at the start each chunk of the class stands once
once_open : (first end c : ℕ) → is_between first end c ≡ true
    → times_in_all c (opening first (end - first)) ≡ 1
once_open first end c between =
    once_in_places Unused (λ q. times c (list_at (opening first (end - first)) q))
    (λ q. replayed_lists first end 0 c [] tt q ∙ ap (λ a. bit (a && is_place Unused q)) between)

pub book_sizes : (b : BookView) → IsBook b → all_sizes b.lists ≡ b.sheet.count
book_sizes b o =
    let first = b.sheet.first in
    let end = b.sheet.first + b.sheet.count in
    ap all_sizes o.lists
    ∙ replay_keeps first end (opening first (end - first)) b.sheet.history o.entries (once_open first end)
    ∙ omega (arith, length-range_with_len first (end - first))
