-- What a seat's view tells of the head that it finds.
use Rattle.std.proofs.Common.{◌≡◌, ℕ, ◌+◌, ◌<◌, ◌&&◌, cond, not, Bool, true, false, List, [], ◌∷◌, refl, sym, ap, ap₂, ◌∙◌, subst, arith}
use mathlib.Core.Bool.{false≢true}
use Rattle.bump_steps.specs.declared.views.ClassSheet.{ClassSheet}
use Rattle.bump_steps.specs.declared.views.View.{View}
use Rattle.bump_rules.specs.Totals.{total}
use Rattle.bump_rules.specs.History.{Standing, is_standing}
use Rattle.bump_steps.specs.Views.{Measure, held, named, saw, strays, owns, standing, weight}
use mathlib.Core.Logic.{dite}
use native.Mathlib.Decide.{ℕ_discrete}
use Rattle.bump_rules.proofs.Standings.{same_standing, standing_same}
use Rattle.bump_rules.specs.Lawful.{bit, Shows, IsUsed}
use Rattle.bump_steps.specs.Rule.{RowPredicate, Sound}
use Rattle.bump_steps.specs.Plays.{Stands, Told}
use Rattle.bump_steps.proofs.Frame.{Amid}

-- an owner in whose history the chunk does not stray stands there
stands : (own same : Bool) (a b : Standing) → is_standing a b ≡ same → own ≡ true → bit (own && not same) ≡ 0 → a ≡ b
stands true true a b e o n = same_standing a b e
stands true false a b e o n = absurd (omega arith)
stands false same a b e o n = absurd (false≢true o)

abbrev owned_by : ℕ → List ClassSheet → ℕ
owned_by c ks = total (λ k. cond (owns c k) 1 0) ks

abbrev strayed : ℕ → Standing → List ClassSheet → ℕ
strayed c s ks = total (λ k. cond (owns c k && not (is_standing (standing k c) s)) 1 0) ks

one_standing : (c : ℕ) (a b : Standing) (ks : List ClassSheet) → 0 < owned_by c ks → strayed c a ks ≡ 0
    → strayed c b ks ≡ 0 → a ≡ b
one_standing c a b [] o x y = absurd (omega arith)
one_standing c a b (k ∷ ks) o x y = by (owns c k) refl (one_standing c a b ks)
  where
    by : (own : Bool) → owns c k ≡ own → (0 < owned_by c ks → strayed c a ks ≡ 0 → strayed c b ks ≡ 0 → a ≡ b) → a ≡ b
    by true e more = sym (stands (owns c k) (is_standing (standing k c) a) (standing k c) a refl e (omega arith))
        ∙ stands (owns c k) (is_standing (standing k c) b) (standing k c) b refl e (omega arith)
    by false e more = more (omega (arith, ap bit e)) (omega arith) (omega arith)

-- a seat of the chunk's class knows how it stands
pub at_standing : {law : RowPredicate} (c limit n : ℕ) (x : ℕ → ℕ) (v : View) (t : Measure → ℕ) (o : Sound law limit n x t) → Amid c v t → (s : Standing)
    → Stands c v s → (o.at, o.head.generation) ≡ s
at_standing c limit n x v t o a s st = one_standing c (o.at, o.head.generation) s v.classes (omega (arith, st.0))
    (omega (arith, a.mine (strays (o.at, o.head.generation)), o.agreed)) st.1

-- a flag's number is 1 where it is at least 1
set_where : (b : Bool) → 0 < bit b → b ≡ true
set_where true some = refl
set_where false some = absurd (omega (arith, some))

-- what a view tells of the head that is found
pub tells : {law : RowPredicate} (c limit n : ℕ) (x : ℕ → ℕ) (v : View) (t : Measure → ℕ) (o : Sound law limit n x t) → Amid c v t → Told c v o.head
tells c limit n x v t o a = record {
  held = λ g some. (o.lawful.used g (omega (arith, a.mine (held g)))).0;
  many = λ g. dite (ℕ_discrete (weight c (held g) v) 0) (λ none. omega (arith, none))
      (λ some. omega (
        arith,
        a.mine (held g),
        o.lawful.counted,
        ap (λ (j : ℕ). t (held j))
            (o.lawful.used g (omega (arith, some, a.mine (held g)))).0,
      ));
  stood = λ s st. let e = at_standing c limit n x v t o a s st in
      (subst (Shows o.head) (ap (λ (y : Standing). y.0) e) o.lawful.shown, ap (λ (y : Standing). y.1) e);
  in_use = λ g some s st. subst IsUsed (ap (λ (y : Standing). y.0) (at_standing c limit n x v t o a s st))
      (o.lawful.used g (omega (arith, a.mine (held g)))).1;
  active = o.lawful.active;
  hit = omega (arith, a.mine (named o.head.generation), o.lawful.fetched);
  saw = λ some. set_where o.head.fetched
      (omega (
        arith,
        o.lawful.fetched,
        o.hit o.head.generation
            (omega (arith, some, a.mine (saw o.head.generation))),
      ));
  named = λ g. omega (arith, a.mine (named g), o.lawful.once g);
  once = a.once;
  own = a.own;
  told = a.told;
}

-- the seat of one class's sheet knows how it stands
pub stands_alone : (c : ℕ) (v : View) (k : ClassSheet) → v.classes ≡ k ∷ [] → owns c k ≡ true
    → Stands c v (standing k c)
stands_alone c v k e own = (
  ap (λ ks. owned_by c ks) e ∙ ap (λ b. cond b 1 0 + 0) own,
  ap (λ ks. strayed c (standing k c) ks) e ∙ ap₂ (λ (o same : Bool). bit (o && not same) + 0) own
      (standing_same (standing k c) (standing k c) refl),
)
