-- How many calls each value had, before a request was done and behind it.
use Rattle.std.proofs.Common.{◌≡◌, ℕ, zero, suc, ◌<◌, ◌==◌, Bool, true, false, List, [], ◌∷◌, ◌++◌, length, refl, ap, sym, ◌∙◌, subst, arith}
use Rattle.std.proofs.lemmas.List.{append-nil, length-set, length-replicate, get_or-set_same, get_or-set_other, get_or-replicate, ext_get_or}
use Rattle.std.proofs.lemmas.List.FromFn.{length-map-range_with_len, get_or-map-range_with_len}
use Rattle.std.proofs.lemmas.Bool.Decides.{nat_tests}
use Rattle.std.specs.Prelude.{slice_set, replicate}
use Rattle.logbook.specs.Pages.{Cell, cell}
use Rattle.call_log.specs.Laws.{Entry, HasBegun, states_in, values_in}
use Rattle.call_log.specs.Logs.{calls_of}
use Rattle.call_log.specs.Tallies.{IsDone, added_by, asked, calls_asked, calls_by, number_asked, number_by, tallies}
use Rattle.call_log.proofs.Seeing.{states_added}
use Rattle.call_log.proofs.States.{calls_added, calls_others}

-- a log has begun that has a value
pub has_begun : {S : Type 0} (log : List (Entry S)) (k : ℕ) → k < values_in log → HasBegun log
has_begun [] k few = absurd (omega (arith, few))
has_begun (first ∷ log) k few = tt

-- a log that goes on has as many values
pub values_append : {S : Type 0} (log more : List (Entry S)) → HasBegun log → values_in (log ++ more) ≡ values_in log
values_append [] more begun = absurd begun
values_append (first ∷ log) more begun = refl

module _ {S : Type 0} (number_of : S → ℕ) where
  -- each value has a number of calls
  pub length_tallies : (log : List (Entry S)) → length (tallies number_of log) ≡ values_in log
  length_tallies log =
      length-map-range_with_len (λ (i : ℕ). (calls_of number_of i (states_in log), true)) 0 (values_in log)

  -- which is how many of the log's states are of it
  pub tally_at : (log : List (Entry S)) (k : ℕ) → k < values_in log
      → cell (tallies number_of log) k ≡ (calls_of number_of k (states_in log), true)
  tally_at log k few =
      get_or-map-range_with_len (λ (i : ℕ). (calls_of number_of i (states_in log), true)) 0 (values_in log) k k
      (0, false) few (omega arith)

  -- none where the log has just begun
  pub tallies_begin : (first : S) (values : ℕ) → replicate values (0, true) ≡ tallies number_of ((first, values) ∷ [])
  unfolding calls_of
  tallies_begin first values =
      let log : List (Entry S) = (first, values) ∷ [] in
      ext_get_or (0, false) (replicate values (0, true)) (tallies number_of log)
      (length-replicate {A = Cell} values (0, true) ∙ sym (length_tallies log))
      (λ k lt. let few : k < values = omega (arith, lt, length-replicate {A = Cell} values (0, true)) in
      get_or-replicate values k (0, true) (0, false) few ∙ sym (tally_at log k few))

  module _ (ask : Entry S) (log : List (Entry S)) (begun : HasBegun log) where
    -- the value that a request is about has one call more, or as many
    pub calls_mine : (n : ℕ) → calls_of number_of (number_by (number_of ask.0) n) (states_in (log ++ added_by ask n))
        ≡ calls_by (calls_of number_of (number_by (number_of ask.0) n) (states_in log)) n
    calls_mine zero = ap (λ (l : List S). calls_of number_of (number_of ask.0) l) (states_added log ask begun)
        ∙ calls_added number_of (number_of ask.0) (states_in log) ask.0 refl
    calls_mine (suc k) = ap (λ (l : List (Entry S)). calls_of number_of k (states_in l)) (append-nil log)

    -- and each other one has as many
    calls_else : (i n : ℕ) → (number_by (number_of ask.0) n == i) ≡ false
        → calls_of number_of i (states_in (log ++ added_by ask n)) ≡ calls_of number_of i (states_in log)
    calls_else i zero other = ap (λ (l : List S). calls_of number_of i l) (states_added log ask begun)
        ∙ calls_others number_of i (states_in log) ask.0 other
    calls_else i (suc k) other = ap (λ (l : List (Entry S)). calls_of number_of i (states_in l)) (append-nil log)

  module _ (ask : Entry S) (before after : List (Entry S)) (answer : ℕ) (did : IsDone number_of ask before after answer) where
    -- the log had begun
    abbrev begun : HasBegun before
    begun = has_begun before (number_asked number_of ask) did.few

    -- and has as many values
    abbrev values : values_in after ≡ values_in before
    values = ap values_in did.did ∙ values_append before (asked ask) begun

    -- the answer is how many calls the value had, or one more
    pub answer_is : answer ≡ calls_asked ask (calls_of number_of (number_asked number_of ask) (states_in before))
    answer_is = did.told ∙ (ap (λ (l : List (Entry S)). calls_of number_of (number_asked number_of ask) (states_in l)) did.did
        ∙ calls_mine ask before begun ask.1)

    -- the answer is the value's new number, and all others stay
    pub tallies_done : slice_set (tallies number_of before) (number_asked number_of ask) (answer, true) ≡ tallies number_of after
    tallies_done =
        let k = number_asked number_of ask in let old = tallies number_of before in
        let long : length (slice_set old k (answer, true)) ≡ values_in before =
        length-set old k (answer, true) ∙ length_tallies before in
        ext_get_or (0, false) (slice_set old k (answer, true)) (tallies number_of after)
        (long ∙ (sym values ∙ sym (length_tallies after)))
        (λ i lt. at i (omega (arith, lt, long)) (number_asked number_of ask == i) refl)
      where
        at : (i : ℕ) → i < values_in before → (b : Bool) → (number_asked number_of ask == i) ≡ b
            → cell (slice_set (tallies number_of before) (number_asked number_of ask) (answer, true)) i ≡ cell (tallies number_of after) i
        at i lt true test =
            let here : number_asked number_of ask ≡ i = grind (arith, nat_tests, test) in
            let k = number_asked number_of ask in
            subst (λ (j : ℕ). cell (slice_set (tallies number_of before) k (answer, true)) j ≡ cell (tallies number_of after) j) here
            (get_or-set_same (tallies number_of before) k (answer, true) (0, false)
            (omega (arith, did.few, length_tallies before))
            ∙ (ap (λ (n : ℕ). (n, true)) did.told ∙ sym (tally_at after k (omega (arith, did.few, values)))))
        at i lt false test =
            let k = number_asked number_of ask in
            get_or-set_other (tallies number_of before) k i (answer, true) (0, false) (grind (arith, nat_tests, test))
            ∙ (tally_at before i lt ∙ (ap (λ (n : ℕ). (n, true)) (sym (ap (λ (l : List (Entry S)). calls_of number_of i (states_in l)) did.did
            ∙ calls_else ask before begun i ask.1 test)) ∙ sym (tally_at after i (omega (arith, lt, values)))))
