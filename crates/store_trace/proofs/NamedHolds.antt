-- Holds that are kept under names: each name in use has one of its own.
use Rattle.std.proofs.Common.{◌≡◌, ◌≢◌, ℕ, zero, suc, ◌<◌, true, false, List, [], ◌∷◌, ◌++◌, length, Option, Some, None, refl, sym, ap, ◌∙◌, subst, arith, inl, inr}
use Rattle.std.specs.Prelude.{option_map, IsSome, slice_set}
use Rattle.std.specs.HashMap.{HashMap}
use Rattle.std.specs.Str.{bytes_eq}
use Rattle.std.specs.Map.{update}
use Rattle.std.proofs.lemmas.Bool.{cases_Bool}
use Rattle.std.proofs.lemmas.Slice.Eq.{bytes_eq-Decides}
use Rattle.std.proofs.Math.ListN.{get_or-append}
use Rattle.std.proofs.Math.Seq.{get_or-append_seam}
use Rattle.std.proofs.lemmas.List.{get_or-set_other}
use std.Path.{fun_ext}
use denote.Ref.{Bor}
use Rattle.bump_steps.specs.declared.views.HoldSheet.{HoldSheet}
use Rattle.bump_trace.specs.Names.{bind, unbind}
use Rattle.store_trace.specs.NamedHolds.{item_at, item_if, place_of_name, kept_by, AreKept}

-- the places of names, as functions
abbrev Places : Type 0
Places = List ℕ → Option ℕ

-- each name in use has a hold, and no other name has it
record Apart (places : Places) (holds : List (Option HoldSheet)) : Type 0 where
  there : (name : List ℕ) (place : ℕ) → places name ≡ Some place → IsSome (item_at holds place)
  apart : (name other : List ℕ) (place : ℕ) → places name ≡ Some place → places other ≡ Some place → bytes_eq name other ≡ true

-- a place with a hold is in the list
inside : (holds : List (Option HoldSheet)) (place : ℕ) → IsSome (item_at holds place) → place < length holds
inside [] place p = absurd cc
inside (h ∷ holds) zero p = omega arith
inside (h ∷ holds) (suc place) p = omega (arith, inside holds place p)

-- a hold behind the others is at its place, and each other one too
item_same : (holds : List (Option HoldSheet)) (more : Option HoldSheet) (place : ℕ) → place < length holds → item_at (holds ++ more ∷ []) place ≡ item_at holds place
item_same holds more place h = ap (option_map (λ part. part.life)) (get_or-append holds (more ∷ []) None place h)

item_last : (holds : List (Option HoldSheet)) (more : Option HoldSheet) → item_at (holds ++ more ∷ []) (length holds) ≡ option_map (λ part. part.life) more
item_last holds more = ap (option_map (λ part. part.life)) (get_or-append_seam holds more [] None)

item_others : (holds : List (Option HoldSheet)) (place at : ℕ) (other : Option HoldSheet) → at ≢ place → item_at (slice_set holds place other) at ≡ item_at holds at
item_others holds place at other h = ap (option_map (λ part. part.life)) (get_or-set_other holds place at other None h)

-- names that are equal to one are equal
equal_names : (a b c : List ℕ) → bytes_eq a b ≡ true → bytes_eq a c ≡ true → bytes_eq b c ≡ true
equal_names a b c p q = (bytes_eq-Decides b c).1 (sym ((bytes_eq-Decides a b).0 p) ∙ (bytes_eq-Decides a c).0 q)

-- a hold was put behind the others
module _ (places : Places) (holds : List (Option HoldSheet)) (kept : Apart places holds) (name : List ℕ) (part : HoldSheet) where
  -- the names with the new one
  abbrev new_places : Places
  new_places = update bytes_eq places name (Some (length holds))

  put_there : (other : List ℕ) (place : ℕ) → new_places other ≡ Some place → IsSome (item_at (holds ++ Some part ∷ []) place)
  put_there other place e = elim (cases_Bool (bytes_eq name other)) [
    | inl is ↦
        let at : length holds ≡ place = let found = rw is at e in cc in
        subst (λ (n : ℕ). IsSome (item_at (holds ++ Some part ∷ []) n)) at (subst IsSome (sym (item_last holds (Some part))) refl)
    | inr differs ↦
        let old : places other ≡ Some place = rw differs at e in
        let there = kept.there other place old in
        subst IsSome (sym (item_same holds (Some part) place (inside holds place there))) there
  ]

  put_apart : (one other : List ℕ) (place : ℕ) → new_places one ≡ Some place → new_places other ≡ Some place → bytes_eq one other ≡ true
  put_apart one other place e f = elim (cases_Bool (bytes_eq name one)) [
    | inl is ↦ elim (cases_Bool (bytes_eq name other)) [
      | inl too ↦ equal_names name one other is too
      | inr differs ↦
          let at : length holds ≡ place = let found = rw is at e in cc in
          let old : places other ≡ Some place = rw differs at f in
          let below = inside holds place (kept.there other place old) in
          absurd (omega (arith, at, below))
    ]
    | inr not_one ↦ elim (cases_Bool (bytes_eq name other)) [
      | inl too ↦
          let at : length holds ≡ place = let found = rw too at f in cc in
          let old : places one ≡ Some place = rw not_one at e in
          let below = inside holds place (kept.there one place old) in
          absurd (omega (arith, at, below))
      | inr differs ↦
          let old : places one ≡ Some place = rw not_one at e in
          let too : places other ≡ Some place = rw differs at f in
          kept.apart one other place old too
    ]
  ]

-- of names whose places are in the list nothing is changed by a hold behind it
same_items : (holds : List (Option HoldSheet)) (more : Option HoldSheet) (at : Option ℕ) → ((place : ℕ) → at ≡ Some place → place < length holds)
    → item_if (holds ++ more ∷ []) at ≡ item_if holds at
same_items holds more None h = refl
same_items holds more (Some place) h = item_same holds more place (h place refl)

-- nor of those that have another place by one that is taken
other_items : (holds : List (Option HoldSheet)) (taken : ℕ) (at : Option ℕ) → ((place : ℕ) → at ≡ Some place → place ≢ taken) → item_if (slice_set holds taken None) at ≡ item_if holds at
other_items holds taken None h = refl
other_items holds taken (Some place) h = item_others holds taken place None (h place refl)

module _ {S : Type 0} (old new : HashMap (Bor (List ℕ)) ℕ S) (holds : List (Option HoldSheet)) (kept : AreKept old holds) (name : List ℕ) where
  -- the same of functions
  was : Apart (place_of_name old) holds
  was = record { there = kept.there; apart = kept.apart }

  module _ (part : HoldSheet) (puts : (other : List ℕ) → place_of_name new other ≡ update bytes_eq (place_of_name old) name (Some (length holds)) other) where
    -- a hold was kept under one more name
    pub put_is_kept : AreKept new (holds ++ Some part ∷ [])
    put_is_kept = record {
      there = λ other place e. put_there (place_of_name old) holds was name part other place (sym (puts other) ∙ e);
      apart = λ one other place e f. put_apart (place_of_name old) holds was name part one other place (sym (puts one) ∙ e) (sym (puts other) ∙ f);
    }

    put_name : (other : List ℕ) → kept_by new (holds ++ Some part ∷ []) other ≡ bind name part.life (kept_by old holds) other
    put_name other = ap (item_if (holds ++ Some part ∷ [])) (puts other) ∙ elim (cases_Bool (bytes_eq name other)) [
      | inl is ↦ rw is (item_last holds (Some part))
      | inr differs ↦ rw differs (same_items holds (Some part) (place_of_name old other) (λ place e. inside holds place (kept.there other place e)))
    ]

    pub put_names : kept_by new (holds ++ Some part ∷ []) ≡ bind name part.life (kept_by old holds)
    put_names = fun_ext put_name

  module _ (taken : ℕ) (at : place_of_name old name ≡ Some taken) (takes : (other : List ℕ) → place_of_name new other ≡ update bytes_eq (place_of_name old) name None other) where
    -- another name has another place
    elsewhere : (other : List ℕ) (place : ℕ) → bytes_eq name other ≡ false → place_of_name old other ≡ Some place → place ≢ taken
    elsewhere other place differs e same = let both = kept.apart name other taken at (subst (λ (n : ℕ). place_of_name old other ≡ Some n) same e) in absurd cc

    -- where a name has a place still, it is another name
    take_old : (other : List ℕ) (place : ℕ) → place_of_name new other ≡ Some place → (bytes_eq name other ≡ false) × (place_of_name old other ≡ Some place)
    take_old other place e = let now = sym (takes other) ∙ e in elim (cases_Bool (bytes_eq name other)) [
      | inl is ↦ let none = rw is at now in absurd cc
      | inr differs ↦ (differs, rw differs at now)
    ]

    -- the hold of a name was taken
    pub take_is_kept : AreKept new (slice_set holds taken None)
    take_is_kept = record {
      there = λ other place e.
          let (differs, was_at) = take_old other place e in
          subst IsSome (sym (item_others holds taken place None (elsewhere other place differs was_at))) (kept.there other place was_at);
      apart = λ one other place e f. kept.apart one other place (take_old one place e).1 (take_old other place f).1;
    }

    take_name : (other : List ℕ) → kept_by new (slice_set holds taken None) other ≡ unbind name (kept_by old holds) other
    take_name other = ap (item_if (slice_set holds taken None)) (takes other) ∙ elim (cases_Bool (bytes_eq name other)) [
      | inl is ↦ rw is refl
      | inr differs ↦ rw differs (other_items holds taken (place_of_name old other) (λ place e. elsewhere other place differs e))
    ]

    pub take_names : kept_by new (slice_set holds taken None) ≡ unbind name (kept_by old holds)
    take_names = fun_ext take_name

    -- its place is in the list
    pub taken_inside : taken < length holds
    taken_inside = inside holds taken (kept.there name taken at)

  -- a name that has no hold was left out
  none_name : ((other : List ℕ) → place_of_name new other ≡ update bytes_eq (place_of_name old) name None other) → (other : List ℕ) → kept_by new holds other ≡ unbind name (kept_by old holds) other
  none_name takes other = ap (item_if holds) (takes other) ∙ elim (cases_Bool (bytes_eq name other)) [
    | inl is ↦ rw is refl
    | inr differs ↦ rw differs refl
  ]

  pub none_names : ((other : List ℕ) → place_of_name new other ≡ update bytes_eq (place_of_name old) name None other) → kept_by new holds ≡ unbind name (kept_by old holds)
  none_names takes = fun_ext (none_name takes)
