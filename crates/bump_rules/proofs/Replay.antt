-- A chunk is in the list in which the history leaves it, once, and in no other.
use Rattle.std.proofs.Common.{◌≡◌, ℕ, ◌-◌, ◌&&◌, eqb, cond, Bool, true, false, List, [], ◌∷◌, ◌++◌, refl, sym, ap, ◌∙◌, eqb-true}
use Rattle.std.proofs.Math.Bool.{and-true, and-false}
use Rattle.bump_rules.specs.declared.places.Place.{Place}
use Rattle.bump_rules.specs.declared.places.Place.TheVariants.{Hot, Warm, Cold, Temp, Dying, Unused, Retired}
use Rattle.bump_rules.specs.declared.history.Change.{Change}
use Rattle.bump_rules.specs.Lawful.{bit}
use Rattle.bump_rules.specs.History.{is_place, subject, target, Standing, standing_after, standing_from, standing_in, is_between, AreBetween, replay, replayed}
use Rattle.bump_links.specs.Lists.{times}
use Rattle.bump_rules.specs.Lists.{Lists, list_at, to_front, opening}
use Rattle.bump_rules.proofs.PlainLists.{times_ascending, same_row}
use Rattle.bump_rules.proofs.SixLists.{times_front}

-- the lists have the chunk once, at its place, where it is of the class
abbrev pub Places : ℕ → Bool → Standing → Lists → Type 0
Places c own at l = (q : Place) → times c (list_at l q) ≡ bit (own && is_place at.0 q)

-- an entry keeps the lists and the standing in step
pub places_after : (c : ℕ) (own : Bool) (at : Standing) (l : Lists) (e : Change) → ((subject e).chunk ≡ c → own
    ≡ true) → Places c own at l → Places c own (standing_after c at e) (to_front (subject e).chunk (target e) l)
places_after c own at l e of o q = times_front c (subject e).chunk (target e) q l ∙ by (eqb (subject e).chunk c) refl
  where
    by : (b : Bool) → eqb (subject e).chunk c ≡ b → cond b (bit (is_place (target e) q)) (times c (list_at l q))
        ≡ bit (own && is_place (cond b (target e, (subject e).generation) at).0 q)
    by true s = ap (λ a. bit (a && is_place (target e) q)) (sym (of (eqb-true _ _ s)))
    by false s = o q

-- a history keeps the lists and the standing in step
pub places : (first end c : ℕ) (at : Standing) (l : Lists) (es : List Change) → AreBetween first end es
    → Places c (is_between first end c) at l → Places c (is_between first end c) (standing_from c at es) (replay l es)
places first end c at l [] all o = o
places first end c at l (e ∷ es) all o = places first end c (standing_after c at e) (to_front (subject e).chunk
    (target e) l) es all.1 (places_after c (is_between first end c) at l e (λ s. ap (is_between first end) (sym s)
    ∙ all.0) o)

-- the lists of a class at the start
pub places_open : (first end c g : ℕ) → Places c (is_between first end c) (Unused, g) (opening first (end - first))
places_open first end c g Unused = times_ascending c first (end - first) ∙ (same_row c first end
    ∙ sym (ap bit (and-true (is_between first end c))))
places_open first end c g Hot = sym (ap bit (and-false (is_between first end c)))
places_open first end c g Warm = sym (ap bit (and-false (is_between first end c)))
places_open first end c g Cold = sym (ap bit (and-false (is_between first end c)))
places_open first end c g Temp = sym (ap bit (and-false (is_between first end c)))
places_open first end c g Dying = sym (ap bit (and-false (is_between first end c)))
places_open first end c g Retired = sym (ap bit (and-false (is_between first end c)))

-- after any history of a class, the list at a place has a chunk once where the history leaves it there, and else not
pub replayed_lists : (first end fresh c : ℕ) (es : List Change) → AreBetween first end es
    → Places c (is_between first end c) (standing_in fresh es c) (replayed first end es)
replayed_lists first end fresh c es all = places first end c (Unused, fresh) (opening first (end - first)) es all
    (places_open first end c fresh)

-- one more entry is one more move to the front
pub replay_push : (l : Lists) (es : List Change) (e : Change) → replay l (es ++ e ∷ [])
    ≡ to_front (subject e).chunk (target e) (replay l es)
replay_push l [] e = refl
replay_push l (d ∷ es) e = replay_push (to_front (subject d).chunk (target d) l) es e

-- where one more entry leaves a chunk
pub standing_push : (c : ℕ) (at : Standing) (es : List Change) (e : Change) → standing_from c at (es ++ e ∷ [])
    ≡ standing_after c (standing_from c at es) e
standing_push c at [] e = refl
standing_push c at (d ∷ es) e = standing_push c (standing_after c at d) es e

-- one more entry of a chunk of the class
pub are_between_push : (first end : ℕ) (es : List Change) (e : Change) → AreBetween first end es
    → is_between first end (subject e).chunk ≡ true → AreBetween first end (es ++ e ∷ [])
are_between_push first end [] e all own = (own, tt)
are_between_push first end (d ∷ es) e all own = (all.0, are_between_push first end es e all.1 own)
