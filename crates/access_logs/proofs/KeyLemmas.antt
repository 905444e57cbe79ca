-- Lemmas on keys and their numbers.
use Rattle.std.proofs.Common.{◌≡◌, ℕ, ◌+◌, ◌<◌, ◌≤◌, Bool, true, false, not, cond, ◌||◌, ◌&&◌, List, [], ◌∷◌, ◌++◌, map, length, refl, sym, ap, subst, ◌∙◌, arith, true≢false, length-append, eqb, ne_eqb, eq-eqb, le_refl}
use Rattle.std.specs.Prelude.{fold, bytes_eq, position, nat_lt, Some, None, unwrap_or, is_some, Result, Ok, Err, IfOk, OnOk, is_err}
use Rattle.std.specs.List.{list_any, list_all, position_or_len}
use Rattle.std.proofs.lemmas.List.{map-append}
use Rattle.std.proofs.lemmas.List.Folds.{list_any-append, position_or_len_push}
use Rattle.std.proofs.lemmas.List.Sums.{fold-append}
use Rattle.access_logs.specs.Keys.{is_among, with_key, distinct, number_among, numbers_of}

module _ {V K : Type 0} (f : V → K) (test : K → Bool) where
  -- a test of what f makes of the elements
  pub list_any-map : (vs : List V) → list_any test (map f vs) ≡ list_any (λ v. test (f v)) vs
  list_any-map [] = refl
  list_any-map (v ∷ vs) = ap (λ b. test (f v) || b) (list_any-map vs)

  -- the first that passes stands where what f makes of it does
  pub position_or_len-map : (vs : List V) → position_or_len test (map f vs) ≡ position_or_len (λ v. test (f v)) vs
  position_or_len-map [] = refl
  position_or_len-map (v ∷ vs) = ap (λ n. cond (not (test (f v))) (1 + n) 0) (position_or_len-map vs)

module _ {K : Type 0} (test : K → Bool) where
  -- where none passes, the first that passes stands behind the last
  pub position_or_len-absent : (ks : List K) → list_any test ks ≡ false → position_or_len test ks ≡ length ks
  position_or_len-absent [] none = refl
  position_or_len-absent (k ∷ ks) none = by (test k) none (position_or_len-absent ks)
    where
      by : (b : Bool) → (b || list_any test ks) ≡ false → (list_any test ks ≡ false → position_or_len test ks ≡ length ks)
          → cond (not b) (1 + position_or_len test ks) 0 ≡ length (k ∷ ks)
      by true h rest = absurd (true≢false h)
      by false h rest = omega (arith, rest h)

  -- where one passes, it stands before the end
  pub position_or_len-present : (ks : List K) → list_any test ks ≡ true → position_or_len test ks < length ks
  position_or_len-present [] some = absurd (true≢false (sym some))
  position_or_len-present (k ∷ ks) some = by (test k) some (position_or_len-present ks)
    where
      by : (b : Bool) → (b || list_any test ks) ≡ true → (list_any test ks ≡ true → position_or_len test ks < length ks)
          → cond (not b) (1 + position_or_len test ks) 0 < length (k ∷ ks)
      by true h rest = omega arith
      by false h rest = omega (arith, rest h)

-- a key that is there keeps its number when one more comes
pub number_among-with_key : (keys : List (List ℕ)) (key other : List ℕ) → is_among keys other ≡ true → number_among (with_key keys key) other ≡ number_among keys other
number_among-with_key keys key other there = by (is_among keys key)
  where
    by : (b : Bool) → number_among (cond b keys (keys ++ key ∷ [])) other ≡ number_among keys other
    by true = refl
    by false =
        let before = position_or_len-present (bytes_eq other) keys there in
        let far : eqb (number_among keys other) (length keys) ≡ false = ne_eqb _ _ (λ e. omega (arith, before, e)) in
        position_or_len_push (bytes_eq other) keys key ∙ ap (λ b. cond b (length keys + cond (bytes_eq other key) 0 1) (number_among keys other)) far

-- a new key's number is how many there were
pub number_among-new : (keys : List (List ℕ)) (key : List ℕ) → bytes_eq key key ≡ true → is_among keys key ≡ false → number_among (keys ++ key ∷ []) key ≡ length keys
number_among-new keys key self none =
    let last = position_or_len-absent (bytes_eq key) keys none in
    position_or_len_push (bytes_eq key) keys key
    ∙ ap (λ b. cond b (length keys + cond (bytes_eq key key) 0 1) (number_among keys key)) (eq-eqb _ _ last)
    ∙ ap (λ b. length keys + cond b 0 1) self ∙ omega arith

-- bytes are equal to themselves
pub bytes_eq-self : (key : List ℕ) → bytes_eq key key ≡ true
bytes_eq-self [] = refl
bytes_eq-self (byte ∷ bytes) = ap (λ b. b && bytes_eq bytes bytes) (eq-eqb byte byte refl) ∙ bytes_eq-self bytes

-- what holds where a call succeeded
pub succeeded : {A B : Type 0} (result : Result A B) (Q : Type 0) → is_err result ≡ false → IfOk result (λ _. Q) → Q
succeeded (Ok value) Q ok q = q
succeeded (Err fault) Q ok q = absurd (true≢false ok)

module _ {V : Type 0} (bytes_of : V → List ℕ) where
  -- a new key goes to the end
  pub inserted : (keys : List V) (key : V) (bytes : List ℕ) → bytes_of key ≡ bytes → is_among (map bytes_of keys) bytes ≡ false
      → map bytes_of (cond (list_any (λ k. bytes_eq (bytes_of key) (bytes_of k)) keys) keys (keys ++ key ∷ [])) ≡ map bytes_of keys ++ bytes ∷ []
  inserted keys key bytes same none =
      let absent : list_any (λ k. bytes_eq (bytes_of key) (bytes_of k)) keys ≡ false =
      sym (list_any-map bytes_of (bytes_eq (bytes_of key)) keys) ∙ ap (is_among (map bytes_of keys)) same ∙ none in
      ap (λ b. map bytes_of (cond b keys (keys ++ key ∷ []))) absent ∙ map-append bytes_of keys (key ∷ []) ∙ ap (λ k. map bytes_of keys ++ k ∷ []) same

  -- a place that was found is the key's number
  pub found : (keys : List V) (bytes : List ℕ) (number : ℕ) → Some number ≡ position (λ k. bytes_eq bytes (bytes_of k)) keys
      → number ≡ number_among (map bytes_of keys) bytes
  found keys bytes number is =
      by (nat_lt (position_or_len (λ k. bytes_eq bytes (bytes_of k)) keys) (length keys)) is ∙ sym (position_or_len-map bytes_of (bytes_eq bytes) keys)
    where
      by : (b : Bool) → Some number ≡ cond b (Some (position_or_len (λ k. bytes_eq bytes (bytes_of k)) keys)) None → number ≡ position_or_len (λ k. bytes_eq bytes (bytes_of k)) keys
      by true h = ap (λ o. unwrap_or o 0) h
      by false h = absurd (true≢false (ap is_some h))

-- what a new key was given is its number
pub numbered : {E : Type 0} (result : Result ℕ E) (old new : List (List ℕ)) (key : List ℕ) → is_among old key ≡ false
    → IfOk result (λ number. number ≡ length old) → OnOk result (new ≡ old ++ key ∷ [])
    → IfOk result (λ number. number ≡ number_among new key) × OnOk result (new ≡ with_key old key)
numbered (Ok number) old new key none last keys =
    (last ∙ sym (ap (λ l. number_among l key) keys ∙ number_among-new old key (bytes_eq-self key) none), keys ∙ ap (λ b. cond b old (old ++ key ∷ [])) (sym none))
numbered (Err fault) old new key none last keys = (tt, tt)

-- ---- the keys of a log

-- one more key
pub distinct-more : (keys : List (List ℕ)) (key : List ℕ) → distinct (keys ++ key ∷ []) ≡ with_key (distinct keys) key
distinct-more keys key = fold-append with_key [] keys (key ∷ [])

-- a key is among those that it was added to
pub is_among-added : (keys : List (List ℕ)) (key : List ℕ) → is_among (with_key keys key) key ≡ true
is_among-added keys key = by (is_among keys key) refl
  where
    by : (b : Bool) → is_among keys key ≡ b → is_among (cond b keys (keys ++ key ∷ [])) key ≡ true
    by true h = h
    by false h = list_any-append (bytes_eq key) keys (key ∷ []) ∙ ap (λ b. b || (bytes_eq key key || false)) h ∙ ap (λ b. b || false) (bytes_eq-self key)

-- a key that is there stays
pub is_among-kept : (keys : List (List ℕ)) (key other : List ℕ) → is_among keys other ≡ true → is_among (with_key keys key) other ≡ true
is_among-kept keys key other there = by (is_among keys key)
  where
    by : (b : Bool) → is_among (cond b keys (keys ++ key ∷ [])) other ≡ true
    by true = there
    by false = list_any-append (bytes_eq other) keys (key ∷ []) ∙ ap (λ b. b || (bytes_eq other key || false)) there

-- however many more come
pub is_among-fold : (keys more : List (List ℕ)) (other : List ℕ) → is_among keys other ≡ true → is_among (fold with_key keys more) other ≡ true
is_among-fold keys [] other there = there
is_among-fold keys (key ∷ more) other there = is_among-fold (with_key keys key) more other (is_among-kept keys key other there)

-- each key is among the distinct ones
pub all_among : (seen keys : List (List ℕ)) → list_all (is_among (fold with_key seen keys)) keys ≡ true
all_among seen [] = refl
all_among seen (key ∷ keys) =
    ap (λ b. b && list_all (is_among (fold with_key (with_key seen key) keys)) keys) (is_among-fold (with_key seen key) keys key (is_among-added seen key))
    ∙ all_among (with_key seen key) keys

-- one more key leaves the numbers of those that are there
pub numbers-kept : (seen keys : List (List ℕ)) (key : List ℕ) → list_all (is_among seen) keys ≡ true
    → map (number_among (with_key seen key)) keys ≡ map (number_among seen) keys
numbers-kept seen [] key all = refl
numbers-kept seen (other ∷ keys) key all = by (is_among seen other) refl all (numbers-kept seen keys key)
  where
    by : (b : Bool) → is_among seen other ≡ b → (b && list_all (is_among seen) keys) ≡ true
        → (list_all (is_among seen) keys ≡ true → map (number_among (with_key seen key)) keys ≡ map (number_among seen) keys)
        → map (number_among (with_key seen key)) (other ∷ keys) ≡ map (number_among seen) (other ∷ keys)
    by false h none rest = absurd (true≢false (sym none))
    by true h some rest = ap (λ n. n ∷ map (number_among (with_key seen key)) keys) (number_among-with_key seen key other h) ∙ ap (λ l. number_among seen other ∷ l) (rest some)

-- the numbers with one more key
pub numbers-more : (keys : List (List ℕ)) (key : List ℕ) → numbers_of (keys ++ key ∷ []) ≡ numbers_of keys ++ number_among (with_key (distinct keys) key) key ∷ []
numbers-more keys key =
    ap (λ d. map (number_among d) (keys ++ key ∷ [])) (distinct-more keys key)
    ∙ map-append (number_among (with_key (distinct keys) key)) keys (key ∷ [])
    ∙ ap (λ l. l ++ number_among (with_key (distinct keys) key) key ∷ []) (numbers-kept (distinct keys) keys key (all_among [] keys))

-- keys don't get fewer
pub length-fold : (seen more : List (List ℕ)) → length seen ≤ length (fold with_key seen more)
length-fold seen [] = le_refl _
length-fold seen (key ∷ more) = by (is_among seen key) (length-fold (with_key seen key) more)
  where
    by : (b : Bool) → length (cond b seen (seen ++ key ∷ [])) ≤ length (fold with_key (with_key seen key) more) → length seen ≤ length (fold with_key (with_key seen key) more)
    by true h = h
    by false h = let grown = length-append seen (key ∷ []) in omega (arith, grown, h)

pub length-distinct : (keys more : List (List ℕ)) → length (distinct keys) ≤ length (distinct (keys ++ more))
length-distinct keys more = subst (λ d. length (distinct keys) ≤ length d) (sym (fold-append with_key [] keys more)) (length-fold (distinct keys) more)
