-- The states and the calls of one of a log's values.
use Rattle.std.proofs.Common.{◌≡◌, ℕ, suc, ◌+◌, ◌-◌, ◌<◌, ◌==◌, Bool, true, false, cond, List, [], ◌∷◌, ◌++◌, length, All, refl, ap, sym, ◌∙◌, arith, length-append}
use Rattle.std.proofs.lemmas.Bool.Decides.{nat_tests}
use Rattle.std.proofs.lemmas.List.{take_at}
use Rattle.std.proofs.lemmas.List.Elements.{All-head, All-tail}
use mathlib.Core.List.{IsPrefix}
use Rattle.call_log.proofs.Beginnings.{prefix_whole}
use Rattle.call_log.specs.Logs.{state_of, calls_of}
use Rattle.call_log.specs.Calls.{last_of, before_last}

-- one more on both sides, or none
one_more : (b : Bool) (all mine theirs : ℕ) → all ≡ mine + theirs
    → cond b (suc all) all ≡ cond b (suc mine) mine + theirs
one_more true all mine theirs is = omega (arith, is)
one_more false all mine theirs is = is

-- the calls of two logs, one behind the other
pub calls_append : {S : Type 0} (number_of : S → ℕ) (i : ℕ) (xs ys : List S)
    → calls_of number_of i (xs ++ ys) ≡ calls_of number_of i xs + calls_of number_of i ys
unfolding calls_of
calls_append number_of i [] ys = omega arith
calls_append number_of i (x ∷ xs) ys = one_more (number_of x == i) (calls_of number_of i (xs ++ ys))
    (calls_of number_of i xs) (calls_of number_of i ys) (calls_append number_of i xs ys)

-- the state behind two logs, one behind the other
pub state_append : {S : Type 0} (number_of : S → ℕ) (i : ℕ) (first : S) (xs ys : List S)
    → state_of number_of i first (xs ++ ys) ≡ state_of number_of i (state_of number_of i first xs) ys
unfolding state_of
state_append number_of i first [] ys = refl
state_append number_of i first (x ∷ xs) ys = state_append number_of i (cond (number_of x == i) x first) xs ys

-- where the value had no call its state stays
pub state_kept : {S : Type 0} (number_of : S → ℕ) (i : ℕ) (first : S) (xs : List S) → calls_of number_of i xs ≡ 0
    → state_of number_of i first xs ≡ first
unfolding state_of calls_of
state_kept number_of i first [] none = refl
state_kept {S} number_of i first (x ∷ xs) none =
    by (number_of x == i) (λ rest. state_kept number_of i first xs rest) none
  where
    by : (b : Bool) → (calls_of number_of i xs ≡ 0 → state_of number_of i first xs ≡ first)
        → cond b (suc (calls_of number_of i xs)) (calls_of number_of i xs) ≡ 0
        → state_of number_of i (cond b x first) xs ≡ first
    by true kept some = absurd (omega (arith, some))
    by false kept rest = kept rest

-- where a log goes on, and the value had no further call, its state is the same
pub state_same : {S : Type 0} (number_of : S → ℕ) (i : ℕ) (first : S) (xs ys : List S) → IsPrefix xs ys
    → calls_of number_of i ys ≡ calls_of number_of i xs → state_of number_of i first ys ≡ state_of number_of i first xs
state_same {S} number_of i first xs ys p same =
    let more : calls_of number_of i ys ≡ calls_of number_of i xs + calls_of number_of i p.0 =
    ap (λ w. calls_of number_of i w) (sym p.1) ∙ calls_append number_of i xs p.0 in
    let none : calls_of number_of i p.0 ≡ 0 = omega (arith, more, same) in
    ap (λ w. state_of number_of i first w) (sym p.1) ∙ (state_append number_of i first xs p.0
    ∙ state_kept number_of i (state_of number_of i first xs) p.0 none)

-- a call of the value leaves its state
pub state_added : {S : Type 0} (number_of : S → ℕ) (i : ℕ) (first : S) (xs : List S) (e : S) → number_of e ≡ i
    → state_of number_of i first (xs ++ e ∷ []) ≡ e
unfolding state_of
state_added number_of i first xs e is =
    let test : (number_of e == i) ≡ true = grind (arith, nat_tests, is) in
    state_append number_of i first xs (e ∷ []) ∙ ap (λ b. cond b e (state_of number_of i first xs)) test

-- and is one of its calls
pub calls_added : {S : Type 0} (number_of : S → ℕ) (i : ℕ) (xs : List S) (e : S) → number_of e ≡ i
    → calls_of number_of i (xs ++ e ∷ []) ≡ calls_of number_of i xs + 1
unfolding calls_of
calls_added number_of i xs e is =
    let test : (number_of e == i) ≡ true = grind (arith, nat_tests, is) in
    calls_append number_of i xs (e ∷ []) ∙ ap (λ b. calls_of number_of i xs + cond b 1 0) test

-- and none of another's
pub calls_others : {S : Type 0} (number_of : S → ℕ) (i : ℕ) (xs : List S) (e : S) → (number_of e == i) ≡ false
    → calls_of number_of i (xs ++ e ∷ []) ≡ calls_of number_of i xs
unfolding calls_of
calls_others number_of i xs e other =
    let none : calls_of number_of i xs + 0 ≡ calls_of number_of i xs = omega arith in
    calls_append number_of i xs (e ∷ []) ∙ (ap (λ (b : Bool). calls_of number_of i xs + cond b 1 0) other ∙ none)

-- where there is one value, each call is one of it
pub calls_of_one : {S : Type 0} (number_of : S → ℕ) (xs : List S) → All (λ s. number_of s < 1) xs
    → calls_of number_of 0 xs ≡ length xs
unfolding calls_of
calls_of_one number_of [] all = refl
calls_of_one number_of (x ∷ xs) all =
    let zeroth : number_of x < 1 = All-head (λ s. number_of s < 1) x xs all in
    let test : (number_of x == 0) ≡ true = grind (arith, nat_tests, zeroth) in
    let rest = calls_of_one number_of xs (All-tail (λ s. number_of s < 1) x xs all) in
    ap (λ b. cond b (suc (calls_of number_of 0 xs)) (calls_of number_of 0 xs)) test ∙ ap suc rest

-- so a log that goes on without one is the same
pub same_of_one : {S : Type 0} (number_of : S → ℕ) (xs ys : List S) → IsPrefix xs ys → All (λ s. number_of s < 1) xs
    → All (λ s. number_of s < 1) ys → calls_of number_of 0 ys ≡ calls_of number_of 0 xs → ys ≡ xs
same_of_one number_of xs ys p mine all same =
    let lengths : length ys ≡ length xs = sym (calls_of_one number_of ys all) ∙ (same ∙ calls_of_one number_of xs mine) in
    sym (prefix_whole xs ys p (omega (arith, lengths)))

-- the last state is the one that was added
pub last_added : {S : Type 0} (first : S) (xs : List S) (e : S) → last_of first (xs ++ e ∷ []) ≡ e
unfolding last_of
last_added first [] e = refl
last_added first (x ∷ xs) e = last_added x xs e

-- and those before it were there
pub before_added : {S : Type 0} (xs : List S) (e : S) → before_last (xs ++ e ∷ []) ≡ xs
before_added xs e = take_at xs (e ∷ []) (length (xs ++ e ∷ []) - 1)
    (omega (arith, length-append xs (e ∷ [])))
