-- What fronts of one log know of each other.
use Rattle.std.proofs.Common.{◌≡◌, ℕ, List, [], ◌∷◌, ◌++◌, ap, sym, ◌∙◌}
use Rattle.std.proofs.lemmas.List.{map-append}
use mathlib.Core.List.{IsPrefix}
use Rattle.call_log.specs.Fronts.{Extends, FrontView}
use Rattle.call_log.specs.Laws.{Entry, HasBegun, first_in, states, states_in, values_in}

-- what contracts see of a front that has seen these entries
abbrev pub front_of : {S : Type 0} → S → ℕ → List (Entry S) → FrontView S
front_of any name log = record { first = first_in any log; log = states_in log; values = values_in log; name = name }

-- a log that goes on has begun
pub goes_begun : {S : Type 0} (xs ys : List (Entry S)) → HasBegun xs → IsPrefix xs ys → HasBegun ys
goes_begun [] ys begun p = absurd begun
goes_begun (x ∷ xs) [] begun p = absurd (cc (p.1))
goes_begun (x ∷ xs) (y ∷ ys) begun p = tt

-- whoever has seen a beginning sees more in what goes on from there
pub extends : {S : Type 0} (any : S) (name name' : ℕ) (xs ys : List (Entry S)) → HasBegun xs → IsPrefix xs ys
    → Extends (front_of any name xs) (front_of any name' ys)
extends any name name' [] ys begun p = absurd begun
extends any name name' (x ∷ xs) [] begun p = absurd (cc (p.1))
extends {S} any name name' (x ∷ xs) (y ∷ ys) begun p =
    let same : x ≡ y = cc (p.1) in let rest : xs ++ p.0 ≡ ys = cc (p.1) in record {
      first = ap (λ (e : Entry S). e.0) (sym same);
      values = ap (λ (e : Entry S). e.1) (sym same);
      seen = (states p.0, sym (map-append (λ (e : Entry S). e.0) xs p.0) ∙ ap states rest);
    }

-- the states of a log that has one more
pub states_added : {S : Type 0} (before : List (Entry S)) (e : Entry S) → HasBegun before
    → states_in (before ++ e ∷ []) ≡ states_in before ++ e.0 ∷ []
states_added [] e begun = absurd begun
states_added {S} (x ∷ xs) e begun = map-append (λ (y : Entry S). y.0) xs (e ∷ [])
