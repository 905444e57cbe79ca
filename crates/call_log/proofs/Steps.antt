-- The steps on a log keep the rule.
use Rattle.std.proofs.Common.{◌≡◌, ℕ, zero, suc, ◌<◌, Bool, true, false, List, [], ◌∷◌, ◌++◌, refl, ap, sym, ◌∙◌, subst, arith, inr, None, Some}
use Rattle.std.proofs.lemmas.List.{append-nil, map-append, length-replicate, set-get_or, get_or-replicate}
use Rattle.std.proofs.lemmas.List.Elements.{All-nil, All-push}
use Rattle.std.specs.Prelude.{slice_set, replicate}
use Rattle.logbook.specs.Pages.{Cell, cell, keeps, no_nib, step, Moves}
use Rattle.call_log.specs.Fronts.{AreNumbered}
use Rattle.call_log.specs.Laws.{Entry, HasBegun, HasWords, IsKept, states, values_in}
use Rattle.call_log.specs.Logs.{calls_of}
use Rattle.call_log.specs.Steps.{Steps}
use Rattle.call_log.specs.Tallies.{IsDone, added_by, asked, number_asked, number_by}

-- clients see the log
abbrev pub shown : {S : Type 0} → List (Entry S) → List (Entry S)
shown log = log

-- a log that has just begun, with so many words that hold 0
pub begun_kept : {S : Type 0} (number_of : S → ℕ) (first : S) (values : ℕ)
    → IsKept number_of (replicate values (0, true)) ((first, values) ∷ [])
begun_kept number_of first values = record {
  words = length-replicate values (0, true);
  home = λ i lt. ap (λ (c : Cell). c.1) (get_or-replicate values i (0, true) (0, false) lt);
  numbered = All-nil (λ s. number_of s < values);
}

module _ {S : Type 0} (number_of : S → ℕ) (k values : ℕ) (few : k < values) (cells : List Cell) (log : List (Entry S))
    (kept : HasWords number_of cells values (states log)) where
  -- a word that is written as it was stays
  cells_same : slice_set cells k ((cell cells k).0, true) ≡ cells
  cells_same =
      ap (λ (b : Bool). slice_set cells k ((cell cells k).0, b)) (sym (kept.home k few)) ∙ set-get_or cells k (0, false)

  module _ (ask : Entry S) where
    -- what a request adds has the number of its value
    numbered_asked : (n : ℕ) → number_by (number_of ask.0) n < values
        → AreNumbered number_of values (states (log ++ added_by ask n))
    numbered_asked zero own =
        subst (λ (l : List S). AreNumbered number_of values l) (sym (map-append (λ (e : Entry S). e.0) log (ask ∷ [])))
        (All-push (λ s. number_of s < values) (states log) ask.0 kept.numbered own)
    numbered_asked (suc looked) own =
        subst (λ (l : List (Entry S)). AreNumbered number_of values (states l)) (sym (append-nil log)) kept.numbered

    -- a request keeps the rule
    asked_kept : number_asked number_of ask < values
        → HasWords number_of (slice_set cells k ((cell cells k).0, true)) values (states (log ++ asked ask))
    asked_kept own =
        subst (λ (c : List Cell). HasWords number_of c values (states (log ++ asked ask))) (sym cells_same)
        (record { words = kept.words; home = kept.home; numbered = numbered_asked ask.1 own })

-- whatever the log is, a step on a word does what is asked on the whole log
pub asks_moves : {S : Type 0} (number_of : S → ℕ) (v : List (Entry S)) (ask : Entry S) (k : ℕ) → HasBegun v
    → k < values_in v → number_asked number_of ask < values_in v
    → Moves (IsKept number_of) shown (IsDone number_of ask) k (v, (no_nib, None)) (λ n. n) (Steps number_of (step k 0 0 ask) (v, (no_nib, None)))
asks_moves number_of [] ask k begun few own cells log kept pre away = absurd begun
asks_moves number_of (first ∷ v) ask k begun few own cells [] kept pre away = absurd kept
asks_moves {S} number_of (first ∷ v) ask k begun few own cells (first' ∷ log) kept pre away =
    let same : first ≡ first' = cc (pre.1) in
    let few' : k < first'.1 = subst (λ (f : Entry S). k < f.1) same few in
    let own' : number_asked number_of ask < first'.1 = subst (λ (f : Entry S). number_asked number_of ask < f.1) same own in
    let now = asked_kept number_of k first'.1 few' cells log kept ask own' in
    let answer : ℕ = calls_of number_of (number_asked number_of ask) (states (log ++ asked ask)) in (
      omega (arith, kept.words, few'),
      kept.home k few',
      (
        keeps,
        asked ask,
        Some answer,
        tt,
        now,
        inr (answer, refl, refl, record { few = own'; did = refl; told = refl }),
        record { before = first' ∷ log; did = refl; seen = pre; told = refl; numbered = now.numbered },
      ),
    )
