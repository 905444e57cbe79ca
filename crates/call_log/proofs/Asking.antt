-- What a request that was done tells of what was seen of a log.
use Rattle.std.proofs.Common.{◌≡◌, ℕ, zero, suc, List, ◌++◌, ap, sym, ◌∙◌, subst, arith, Option, Some}
use Rattle.std.proofs.lemmas.List.{append-nil}
use mathlib.Core.List.{IsPrefix}
use Rattle.call_log.specs.Asked.{HasAsked}
use Rattle.call_log.specs.Fronts.{FrontView, IsAdded, IsSeen}
use Rattle.call_log.specs.Laws.{Entry, HasBegun, states, states_in}
use Rattle.call_log.specs.Logs.{calls_of}
use Rattle.call_log.specs.Steps.{HasDone}
use Rattle.call_log.specs.Tallies.{added_by, asked, calls_asked, calls_by, number_asked}
use Rattle.call_log.proofs.Beginnings.{prefix_trans}
use Rattle.call_log.proofs.Counting.{calls_mine}
use Rattle.call_log.proofs.Seeing.{extends, front_of, goes_begun, states_added}

-- the states of a log that a request was done on
states_asked : {S : Type 0} (ask : Entry S) (log : List (Entry S)) → HasBegun log → (n : ℕ)
    → states_in (log ++ added_by ask n) ≡ states_in log ++ states (added_by ask n)
states_asked ask log begun zero = states_added log ask begun
states_asked ask log begun (suc looked) = ap states_in (append-nil log) ∙ sym (append-nil (states_in log))

-- whoever has as many calls behind a request had as many before it
calls_back : (n a b : ℕ) → calls_by a n ≡ calls_by b n → a ≡ b
calls_back zero a b same = omega (arith, same)
calls_back (suc looked) a b same = same

module _ {S : Type 0} (number_of : S → ℕ) (any : S) (ask : Entry S) where
  -- a request that was answered as was known was done on a log that had no more states of its value
  pub asked_at : (name name' name'' calls answer : ℕ) (state : Option ℕ) (mine theirs joined after : List (Entry S))
      → name'' ≡ name → HasBegun mine → HasBegun theirs → IsPrefix mine joined → IsPrefix theirs joined
      → calls ≡ calls_of number_of (number_asked number_of ask) (states_in mine) → state ≡ Some answer
      → answer ≡ calls_asked ask calls → HasDone number_of ask joined after state
      → HasAsked number_of ask (front_of any name mine) (front_of any name' theirs) (front_of any name'' after)
  asked_at name name' name'' calls answer state mine theirs joined after same_name begun begun' p q count stated answered t =
      let k : ℕ = number_asked number_of ask in
      let p' : IsPrefix mine t.before = prefix_trans mine joined t.before p t.seen in
      let q' : IsPrefix theirs t.before = prefix_trans theirs joined t.before q t.seen in
      let whole : IsPrefix t.before after = (asked ask, sym t.did) in
      let begun_before : HasBegun t.before = goes_begun mine t.before begun p' in
      let told : answer ≡ calls_of number_of k (states_in after) = cc (stated, t.told) in
      let calls_after : calls_of number_of k (states_in after) ≡ calls_asked ask (calls_of number_of k (states_in t.before)) =
      ap (λ (l : List (Entry S)). calls_of number_of k (states_in l)) t.did ∙ calls_mine number_of ask t.before begun_before ask.1 in record {
        before = states_in t.before;
        did = ap states_in t.did ∙ states_asked ask t.before begun_before ask.1;
        mine = extends any name name'' mine after begun (prefix_trans mine t.before after p' whole);
        theirs = extends any name' name'' theirs after begun' (prefix_trans theirs t.before after q' whole);
        name = same_name;
        this_seen = (extends any name name mine t.before begun p').seen;
        that_seen = (extends any name' name' theirs t.before begun' q').seen;
        calls = calls_back ask.1 (calls_of number_of k (states_in t.before)) (calls_of number_of k (states_in mine))
            (sym calls_after ∙ (sym told ∙ (answered ∙ ap (λ (n : ℕ). calls_asked ask n) count)));
        numbered = t.numbered;
      }

module _ {S : Type 0} (number_of : S → ℕ) (k : ℕ) (this that after : FrontView S) where
  -- a request to add a state added it
  pub is_added : (s : S) → number_of s ≡ k → HasAsked number_of (s, 0) this that after → IsAdded number_of k s this that after
  is_added s is t = record {
    before = t.before;
    added = t.did;
    mine = t.mine;
    theirs = t.theirs;
    this_seen = t.this_seen;
    that_seen = t.that_seen;
    calls = subst (λ (i : ℕ). calls_of number_of i t.before ≡ calls_of number_of i this.log) is t.calls;
    numbered = t.numbered;
  }

  -- a request to look added nothing
  pub is_seen : (any : S) → HasAsked number_of (any, suc k) this that after → IsSeen number_of k this that after
  is_seen any t = record {
    mine = t.mine;
    theirs = t.theirs;
    calls = ap (λ (l : List S). calls_of number_of k l) (t.did ∙ append-nil t.before) ∙ t.calls;
    numbered = t.numbered;
  }
