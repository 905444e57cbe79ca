-- Equality tests of places and of standings.
use Rattle.std.proofs.Common.{◌≡◌, ℕ, ◌≢◌, ◌&&◌, get_or, eqb, true, false, refl, sym, ap, ap₂, ◌∙◌, eq-eqb, ne_eqb, eqb-true}
use Rattle.std.proofs.lemmas.Bool.{and_parts}
use Rattle.bump_rules.specs.declared.places.Place.{Place}
use Rattle.bump_rules.specs.declared.places.Place.TheVariants.{Hot, Warm, Cold, Temp, Dying, Unused, Retired}
use Rattle.bump_rules.specs.History.{place_number, is_place, Standing, is_standing}
use Rattle.bump_rules.specs.Lawful.{bit}
use Rattle.bump_rules.specs.Places.{all_places}
use Rattle.bump_rules.specs.Totals.{total}

-- the place of a number
abbrev place_numbered : ℕ → Place
place_numbered n = get_or all_places n Retired

-- a place has its number
numbered_number : (p : Place) → place_numbered (place_number p) ≡ p
numbered_number Hot = refl
numbered_number Warm = refl
numbered_number Cold = refl
numbered_number Temp = refl
numbered_number Dying = refl
numbered_number Unused = refl
numbered_number Retired = refl

-- places that test as one are one
pub same_place : (p q : Place) → is_place p q ≡ true → p ≡ q
same_place p q e = sym (numbered_number p) ∙ (ap place_numbered (eqb-true (place_number p) (place_number q) e)
    ∙ numbered_number q)

-- one place tests as itself
pub place_same : (p q : Place) → p ≡ q → is_place p q ≡ true
place_same p q e = eq-eqb (place_number p) (place_number q) (ap place_number e)

-- two places test as two
pub other_place : (p q : Place) → p ≢ q → is_place p q ≡ false
other_place p q ne = ne_eqb (place_number p) (place_number q) (λ e. ne (sym (numbered_number p) ∙ (ap place_numbered e
    ∙ numbered_number q)))

-- a place is one of all
pub one_place : (p : Place) → total (λ q. bit (is_place p q)) all_places ≡ 1
one_place Hot = refl
one_place Warm = refl
one_place Cold = refl
one_place Temp = refl
one_place Dying = refl
one_place Unused = refl
one_place Retired = refl

-- what counts 1 at one place and 0 elsewhere counts 1 at all places together
pub once_in_places : (p : Place) (f : Place → ℕ) → ((q : Place) → f q ≡ bit (is_place p q)) → total f all_places ≡ 1
once_in_places p f e = ap (λ (g : Place → ℕ). total g all_places) (λ i q. e q i) ∙ one_place p

-- standings that test as one are one
pub same_standing : (a b : Standing) → is_standing a b ≡ true → a ≡ b
same_standing a b e =
    let both = and_parts (is_place a.0 b.0) (eqb a.1 b.1) e in
    let places = same_place a.0 b.0 both.0 in
    let generations = eqb-true a.1 b.1 both.1 in
    λ i. (places i, generations i)

-- one standing tests as itself
pub standing_same : (a b : Standing) → a ≡ b → is_standing a b ≡ true
standing_same a b e = ap₂ (λ x y. x && y) (place_same a.0 b.0 (ap (λ (s : Standing). s.0) e)) (eq-eqb a.1 b.1
    (ap (λ (s : Standing). s.1) e))
