-- Names of holds: each that is bound has a hold of its own, after a hold was taken and after one was given back.
use Rattle.std.proofs.Common.{◌≡◌, ℕ, ◌+◌, ◌<◌, ◌≤◌, refl, sym, ap, subst, ◌∙◌, Bool, true, false, List, [], ◌∷◌, Option, None, Some, Result, Ok, Err, arith, if◌then◌else◌}
use Rattle.std.specs.Prelude.{OnOk}
use Rattle.std.specs.Str.{bytes_eq}
use Rattle.std.proofs.lemmas.Slice.Eq.{bytes_eq-Decides}
use Rattle.std.proofs.lemmas.Bool.{true≢false}
use std.Path.{fun_ext}
use Rattle.bump_rules.specs.declared.items.ItemId.{ItemId}
use Rattle.bump_rules.specs.Lives.{one_if}
use Rattle.model_state.specs.State.{State, is_held}
use Rattle.model_state.specs.Worlds.{IsLawful, holds_of}
use Rattle.bump_core.proofs.Held.{one_if_same, held_from}
use Rattle.bump_trace.specs.Names.{Names, bind, unbind}
use Rattle.bump_trace.specs.Ready.{AreHeld, KeepsHolds, HoldsStay, GivesBack, bindings, bound_to}
use Rattle.bump_trace.specs.Views.{names_of}
use Rattle.bump_trace.specs.declared.open_store.OpenStore.{OpenStore}

-- Where every item keeps its holds, the names do.
pub held_still : (s t : State) (holds : Names) → HoldsStay s t → AreHeld s holds → AreHeld t holds
held_still s t holds stay h = record { bound = h.bound; names = h.names; each = λ l. omega (arith, h.each l, stay.each l) }

-- One more hold of an item lets one more name be bound to it.
pub held_more : (s t : State) (holds : Names) (name : List ℕ) (id : ItemId) → ((l : ItemId) → holds_of s l + one_if l id ≤ holds_of t l) → AreHeld s holds → AreHeld t (bind name id holds)
held_more s t holds name id taken h = record { bound = (name, id) ∷ h.bound; names = ap (bind name id) h.names; each = λ l. omega (arith, h.each l, taken l) }

-- A hold that is taken and given back leaves the others.
pub held_again : (s t u : State) (holds : Names) (id : ItemId) → ((l : ItemId) → holds_of s l + one_if l id ≤ holds_of t l) → GivesBack id t u → AreHeld s holds → AreHeld u holds
held_again s t u holds id taken back h = record { bound = h.bound; names = h.names; each = λ l. omega (arith, h.each l, taken l, back.each l) }

-- what follows from two facts where a call answered Ok
pub on_ok : {A E P Q R : Type 0} (r : Result A E) → OnOk r P → OnOk r Q → (P → Q → R) → OnOk r R
on_ok (Ok x) p q f = f p q
on_ok (Err e) p q f = tt

-- the names without one
abbrev without : List ℕ → List (List ℕ × ItemId) → List (List ℕ × ItemId)
without name [] = []
without name (b ∷ bs) = if bytes_eq b.0 name then without name bs else b ∷ without name bs

-- a bound name counts for its item
bound_some : (bs : List (List ℕ × ItemId)) (name : List ℕ) (id : ItemId) → Some id ≡ bindings bs name → 0 < bound_to id bs
bound_some [] name id e = absurd (let u : ⊥ = cc in u)
bound_some (b ∷ bs) name id e = by (bytes_eq b.0 name) e (bound_some bs name id)
  where
    by : (t : Bool) → Some id ≡ (if t then Some b.1 else bindings bs name) → (Some id ≡ bindings bs name → 0 < bound_to id bs) → 0 < one_if id b.1 + bound_to id bs
    by true h others = let same : id ≡ b.1 = cc in omega (arith, ap (one_if id) (sym same), one_if_same id)
    by false h others = omega (arith, others h)

-- without a name no more are bound to an item
fewer : (bs : List (List ℕ × ItemId)) (name : List ℕ) (l : ItemId) → bound_to l (without name bs) ≤ bound_to l bs
fewer [] name l = omega arith
fewer (b ∷ bs) name l = by (bytes_eq b.0 name) (fewer bs name l)
  where
    by : (t : Bool) → bound_to l (without name bs) ≤ bound_to l bs → bound_to l (if t then without name bs else b ∷ without name bs) ≤ one_if l b.1 + bound_to l bs
    by true less = omega (arith, less)
    by false less = omega (arith, less)

-- and one fewer to the item that it was bound to
one_fewer : (bs : List (List ℕ × ItemId)) (name : List ℕ) (id : ItemId) → Some id ≡ bindings bs name → (l : ItemId) → bound_to l (without name bs) + one_if l id ≤ bound_to l bs
one_fewer [] name id e l = absurd (let u : ⊥ = cc in u)
one_fewer (b ∷ bs) name id e l = by (bytes_eq b.0 name) e (fewer bs name l) (λ h. one_fewer bs name id h l)
  where
    by : (t : Bool) → Some id ≡ (if t then Some b.1 else bindings bs name) → bound_to l (without name bs) ≤ bound_to l bs
        → (Some id ≡ bindings bs name → bound_to l (without name bs) + one_if l id ≤ bound_to l bs)
        → bound_to l (if t then without name bs else b ∷ without name bs) + one_if l id ≤ one_if l b.1 + bound_to l bs
    by true h less others = let same : id ≡ b.1 = cc in omega (arith, less, ap (one_if l) same)
    by false h less others = omega (arith, others h)

-- a name that is not bound
unbound_at : (t : Bool) (o : Option ItemId) → o ≡ None → (if t then None else o) ≡ None
unbound_at true o e = refl
unbound_at false o e = e

-- what the names without one are bound to
unbound : (bs : List (List ℕ × ItemId)) (name other : List ℕ) → unbind name (bindings bs) other ≡ bindings (without name bs) other
unbound [] name other = unbound_at (bytes_eq name other) None refl
unbound (b ∷ bs) name other = by (bytes_eq b.0 name) (bytes_eq name other) (bytes_eq b.0 other) refl refl refl (unbound bs name other)
  where
    by : (t u v : Bool) → t ≡ bytes_eq b.0 name → u ≡ bytes_eq name other → v ≡ bytes_eq b.0 other
        → (if u then None else bindings bs other) ≡ bindings (without name bs) other
        → (if u then None else (if v then Some b.1 else bindings bs other)) ≡ bindings (if t then without name bs else b ∷ without name bs) other
    by true true v p q r h = h
    by true false true p q r h = absurd (true≢false (r ∙ ap (λ n. bytes_eq n other) ((bytes_eq-Decides b.0 name).0 (sym p)) ∙ sym q))
    by true false false p q r h = h
    by false true true p q r h = absurd (true≢false (sym ((bytes_eq-Decides b.0 name).1 ((bytes_eq-Decides b.0 other).0 (sym r) ∙ sym ((bytes_eq-Decides name other).0 (sym q)))) ∙ sym p))
    by false true false p q r h = h ∙ ap (λ w. if w then Some b.1 else bindings (without name bs) other) r
    by false false true p q r h = ap (λ w. if w then Some b.1 else bindings (without name bs) other) r
    by false false false p q r h = h ∙ ap (λ w. if w then Some b.1 else bindings (without name bs) other) r

-- Where a hold of the item of a name is given back, the others keep theirs, and the name is bound no more.
pub held_fewer : (s t : State) (holds : Names) (name : List ℕ) (id : ItemId) → Some id ≡ holds name → GivesBack id s t → AreHeld s holds → AreHeld t (unbind name holds)
held_fewer s t holds name id is back h =
    let here : Some id ≡ bindings h.bound name = is ∙ ap (λ (f : Names). f name) h.names in
    record {
      bound = without name h.bound;
      names = ap (unbind name) h.names ∙ fun_ext (unbound h.bound name);
      each = λ l. omega (arith, h.each l, back.each l, one_fewer h.bound name id here l);
    }

-- The item of a name that is bound is held.
pub held_by_name : (s : State) (holds : Names) (name : List ℕ) (id : ItemId) → IsLawful s → Some id ≡ holds name → AreHeld s holds → is_held s id ≡ true
held_by_name s holds name id o is h =
    let here : Some id ≡ bindings h.bound name = is ∙ ap (λ (f : Names). f name) h.names in
    held_from s o id (omega (arith, h.each id, bound_some h.bound name id here))

-- Where a store's World changed alone and every item keeps its holds, each hold name has its own.
pub store_still : (a b : OpenStore) (s : State) → a ≡ record b { world = s } → HoldsStay b.world a.world → KeepsHolds b → KeepsHolds a
store_still a b s e stay h =
    subst (λ (names : Names). AreHeld a.world names) (sym (ap (λ (x : OpenStore). names_of x.holds) e)) (held_still b.world a.world (names_of b.holds) stay h)
