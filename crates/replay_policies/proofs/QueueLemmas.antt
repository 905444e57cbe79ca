-- Two queues of keys, in neither of which a key of the other is.
use Rattle.std.proofs.Common.{◌≡◌, ◌≢◌, ℕ, ◌≤◌, sym, ap, subst, arith, inl, inr, Option, Some, None, IfSome}
use Rattle.std.proofs.lemmas.Bool.{cases_eq}
use Rattle.replay_policies.specs.declared.entries.Entry.{Entry}
use Rattle.replay_policies.specs.Lines.{LineView}
use Rattle.replay_policies.specs.Queues.{HasPlaces, IsLeft, IsQueues, held_by, queues_view}
use Rattle.replay_policies.specs.Tables.{HasPlace, held, number_of}
use Rattle.replay_policies.proofs.TableLemmas.{one_of-most}

-- what follows from two facts of an entry follows where there is one
pub if_both : (taken : Option Entry) (P Q R : Entry → Type 0) → ((e : Entry) → P e → Q e → R e)
    → IfSome taken P → IfSome taken Q → IfSome taken R
if_both None P Q R gives p q = tt
if_both (Some e) P Q R gives p q = gives e p q

-- the places are the same from the other side
pub places-turned : (first second : LineView) (key : ℕ) → HasPlaces (queues_view first second) key
    → HasPlaces (queues_view second first) key
places-turned first second key p = record { first = p.second; second = p.first }

-- and so is what two queues keep
pub queues-turned : (first second : LineView) → IsQueues (queues_view first second) → IsQueues (queues_view second first)
queues-turned first second is = record {
  once = λ k. let o = is.once k in omega (arith, o);
  placed = λ k some. places-turned first second k (is.placed k (omega (arith, some)));
}

-- Keys went from two queues, or none, and no place.
module _ (first second first' second' : LineView)
    (less_first : (k : ℕ) → held first'.table k ≤ held first.table k)
    (less_second : (k : ℕ) → held second'.table k ≤ held second.table k)
    (places_first : (k : ℕ) → HasPlace first.table k → HasPlace first'.table k)
    (places_second : (k : ℕ) → HasPlace second.table k → HasPlace second'.table k) where
  -- the places that there were are still there
  places-less : (k : ℕ) → HasPlaces (queues_view first second) k → HasPlaces (queues_view first' second') k
  places-less k p = record { first = places_first k p.first; second = places_second k p.second }

  -- they keep what they kept
  pub queues-less : IsQueues (queues_view first second) → IsQueues (queues_view first' second')
  queues-less is = record {
    once = λ k. let o = is.once k in let a = less_first k in let b = less_second k in omega (arith, o, a, b);
    placed = λ k some. let a = less_first k in let b = less_second k in places-less k (is.placed k (omega (arith, some, a, b)));
  }

  -- and no key came in
  pub left-less : IsLeft (queues_view first second) (queues_view first' second')
  left-less = record {
    absent = λ k none. let a = less_first k in let b = less_second k in omega (arith, none, a, b);
    places = places-less;
  }

-- two queues keep what they kept where a key that is in neither, and has its places, is put into the first
pub queues-more : (first second first' : LineView) (key : ℕ) → held_by (queues_view first second) key ≡ 0
    → ((k : ℕ) → k ≢ key → held first'.table k ≡ held first.table k)
    → HasPlaces (queues_view first second) key → ((k : ℕ) → HasPlace first.table k → HasPlace first'.table k)
    → IsQueues (queues_view first second) → IsQueues (queues_view first' second)
queues-more first second first' key absent others here places is = record {
  once = λ k. elim (cases_eq k key) [
    | inl e ↦
        let most = one_of-most (number_of first'.table k) in
        let none = ap (held second.table) e in
        omega (arith, most, none, absent)
    | inr other ↦ let same = others k other in let o = is.once k in omega (arith, same, o)
  ];
  placed = λ k some. elim (cases_eq k key) [
    | inl e ↦ moved k (subst (HasPlaces (queues_view first second)) (sym e) here)
    | inr other ↦ let same = others k other in moved k (is.placed k (omega (arith, same, some)))
  ];
}
  where
    moved : (k : ℕ) → HasPlaces (queues_view first second) k → HasPlaces (queues_view first' second) k
    moved k p = record { first = places k p.first; second = p.second }
