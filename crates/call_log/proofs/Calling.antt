-- What a call that is noted, or shown the log, tells.
use Rattle.std.proofs.Common.{◌≡◌, ℕ, ◌+◌, ◌<◌, List, [], ◌∷◌, ◌++◌, length, All, refl, ap, sym, ◌∙◌, subst, arith, length-append}
use Rattle.std.proofs.lemmas.List.{get_or_append_left}
use Rattle.std.specs.Prelude.{slice_index_or}
use mathlib.Core.List.{IsPrefix}
use Rattle.call_log.specs.Calls.{CallerView, NotesCall, ShowsCalls, before_last, last_of}
use Rattle.call_log.specs.Fronts.{AreNumbered, FrontView, IsAdded, IsSeen}
use Rattle.call_log.specs.Logs.{LogView, Notes, calls_of, state_of}
use Rattle.call_log.proofs.Beginnings.{prefix_length}
use Rattle.call_log.proofs.States.{before_added, calls_added, calls_of_one, last_added, same_of_one, state_added, state_same}

-- what contracts see of a log that has this front
abbrev pub log_of : {S : Type 0} → ℕ → FrontView S → LogView S
log_of number front = record { first = front.first; log = front.log; number = number; values = front.values }

-- what contracts see of a caller that has this front
abbrev pub caller_of : {S : Type 0} → FrontView S → ℕ → ℕ → CallerView S
caller_of front calls parts = record { first = front.first; log = front.log; calls = calls; parts = parts }

-- what holds of each state holds of those of a beginning
pub all_begins : {S : Type 0} (P : S → Type 0) (xs ys : List S) → IsPrefix xs ys → All P ys → All P xs
all_begins {S} P xs ys p all k d lt =
    let long : k < length ys = omega (arith, lt, sym (ap length p.1) ∙ length-append xs p.0) in
    let here : slice_index_or ys k d ≡ slice_index_or xs k d =
    ap (λ (l : List S). slice_index_or l k d) (sym p.1) ∙ get_or_append_left xs p.0 d k lt in
    subst P here (all k d long)

module _ {S : Type 0} (number_of : S → ℕ) (number : ℕ) (this : FrontView S) (few : number < this.values)
    (mine : AreNumbered number_of this.values this.log) where
  -- how many calls the only value had
  pub one_length : this.values ≡ 1 → calls_of number_of number this.log ≡ length this.log
  one_length one =
      let zeroth : number ≡ 0 = omega (arith, few, one) in
      ap (λ n. calls_of number_of n this.log) zeroth
      ∙ calls_of_one number_of this.log (subst (λ (n : ℕ). AreNumbered number_of n this.log) one mine)

  -- the only value's log that had no further call is the same
  one_same : (log : List S) → AreNumbered number_of this.values log → IsPrefix this.log log
      → calls_of number_of number log ≡ calls_of number_of number this.log → this.values ≡ 1 → log ≡ this.log
  one_same log all begins same one =
      let zeroth : number ≡ 0 = omega (arith, few, one) in
      same_of_one number_of this.log log begins (subst (λ (n : ℕ). AreNumbered number_of n this.log) one mine)
      (subst (λ (n : ℕ). AreNumbered number_of n log) one all)
      (subst (λ (n : ℕ). calls_of number_of n log ≡ calls_of number_of n this.log) zeroth same)

module _ {S : Type 0} (number_of : S → ℕ) (number : ℕ) (this that after : FrontView S) where
  module _ (state : S) (added : IsAdded number_of number state this that after) (is : number_of state ≡ number)
      (few : number < this.values) (mine : AreNumbered number_of this.values this.log) where
    -- the log has one more of its value's states
    pub log_noted : Notes number_of state (log_of number this) (log_of number after)
    log_noted = record {
      first = added.mine.first;
      number = refl;
      values = added.mine.values;
      seen = added.mine.seen;
      last = ap (λ (l : List S). state_of number_of number after.first l) added.added
          ∙ state_added number_of number after.first added.before state is;
      once = ap (λ (l : List S). calls_of number_of number l) added.added
          ∙ (calls_added number_of number added.before state is ∙ ap (λ (n : ℕ). n + 1) added.calls);
      alone = λ one. added.added ∙ ap (λ (l : List S). l ++ state ∷ []) (one_same number_of number this few mine added.before
          (subst (λ (n : ℕ). AreNumbered number_of n added.before) added.mine.values
          (all_begins (λ s. number_of s < after.values) added.before after.log (state ∷ [], sym added.added) added.numbered))
          added.this_seen added.calls one);
    }

    -- and the caller knows it
    pub noted : (calls parts calls' parts' : ℕ) → calls' ≡ calls + 1 → parts' ≡ parts
        → NotesCall number_of state (log_of number this) (log_of number after) (caller_of that calls parts)
        (caller_of after calls' parts')
    noted calls parts calls' parts' once same =
        let last : last_of after.first after.log ≡ state =
        ap (λ (l : List S). last_of after.first l) added.added ∙ last_added after.first added.before state in
        let before : before_last after.log ≡ added.before =
        ap before_last added.added ∙ before_added added.before state in record {
          log = log_noted;
          call = record {
            first = added.theirs.first;
            seen = added.theirs.seen;
            new = omega (
              arith,
              prefix_length that.log added.before added.that_seen,
              ap length added.added ∙ length-append added.before (state ∷ []),
            );
            once = once;
            parts = same;
          };
          from = ap (λ (l : List S). state_of number_of (number_of (last_of after.first after.log)) after.first l) before
              ∙ (ap (λ (s : S). state_of number_of (number_of s) after.first added.before) last
              ∙ (ap (λ (i : ℕ). state_of number_of i after.first added.before) is
              ∙ (ap (λ (s : S). state_of number_of number s added.before) added.mine.first
              ∙ state_same number_of number this.first this.log added.before added.this_seen added.calls)));
          to = last;
          all = (refl, refl);
        }

  -- whoever was shown a log that has as many states of its value's knows all of these
  pub shows : IsSeen number_of number this that after → number < this.values → AreNumbered number_of this.values this.log
      → (calls parts calls' parts' : ℕ) → calls' ≡ calls → parts' ≡ parts
      → ShowsCalls number_of (log_of number this) (caller_of that calls parts) (caller_of after calls' parts')
  shows seen few all calls parts calls' parts' none even = record {
    look = record { first = seen.theirs.first; seen = seen.theirs.seen; calls = none; parts = even };
    to = ap (λ (s : S). state_of number_of number s after.log) seen.mine.first
        ∙ state_same number_of number this.first this.log after.log seen.mine.seen seen.calls;
    calls = seen.calls;
    first = seen.mine.first;
    seen = seen.mine.seen;
    alone = one_same number_of number this few all after.log
        (subst (λ (n : ℕ). AreNumbered number_of n after.log) seen.mine.values seen.numbered) seen.mine.seen seen.calls;
  }
