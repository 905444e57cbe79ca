-- Labels of lives: what a class's sheet has of them, it has after each step of its seat; and so have all sheets.
use Rattle.std.proofs.Common.{◌≡◌, ◌≢◌, ℕ, zero, suc, ◌+◌, ◌<◌, ◌&&◌, eqb, cond, Bool, true, false, List, [], ◌∷◌, ◌++◌, set, Option, Some, None, if◌then◌else◌, refl, sym, ap, ap₂, ◌∙◌, subst, arith, eq-eqb, ne_eqb, eqb-true}
use Rattle.std.proofs.lemmas.Bool.{and_from}
use mathlib.Core.Logic.{dite}
use mathlib.Core.Option.{some, some-injective, some-ne-none}
use native.Mathlib.Decide.{ℕ_discrete}
use lib.ListN.{get_elem?}
use Rattle.bump_rules.specs.declared.items.ItemId.{ItemId}
use Rattle.bump_rules.specs.declared.places.Place.TheVariants.{Unused}
use Rattle.bump_rules.specs.declared.history.Change.{Change}
use Rattle.bump_rules.specs.declared.places.Start.{Start}
use Rattle.bump_rules.specs.declared.labels.LabelStep.{LabelStep}
use Rattle.bump_rules.specs.declared.labels.LabelStep.TheVariants.{Stored, Linked}
use Rattle.bump_rules.specs.History.{Standing, subject, target}
use Rattle.bump_rules.specs.Starts.{begun_change}
use Rattle.bump_rules.proofs.Beginnings.{begun_subject}
use Rattle.bump_rules.specs.Labels.{label_of_life, label_word}
use Rattle.bump_rules.specs.Lawful.{IsUsed}
use Rattle.bump_rules.specs.Lives.{life, is_same}
use Rattle.bump_rules.proofs.Replay.{standing_push}
use Rattle.bump_steps.specs.declared.views.OwnStep.{OwnStep}
use Rattle.bump_steps.specs.declared.views.WordStep.{WordStep}
use Rattle.bump_steps.specs.declared.views.ClassSheet.{ClassSheet}
use Rattle.bump_steps.specs.declared.views.Ride.{Ride}
use Rattle.bump_steps.specs.declared.views.View.{View}
use Rattle.bump_steps.specs.Views.{owns, standing, labels_of, last_word, HasLabels, HaveLabels, AreLabelled}
use Rattle.bump_steps.specs.Plays.{behind, first_as_list, on_first}
use Rattle.bump_steps.specs.Lives.{class_after_put_label, class_after_put_word, class_after_link}
use Rattle.bump_steps.proofs.LabelLists.{word_stored, word_linked, life_stored, life_linked, life_linked_else, labels_begun, labels_put_label, labels_put_word, labels_put_same}

-- ---- lists of sheets and of views

-- a list's first, and what is behind it
pub have_cut : (ks : List ClassSheet) → HaveLabels ks → HaveLabels (behind ks) × HaveLabels (first_as_list ks)
have_cut [] have = (tt, tt)
have_cut (k ∷ ks) have = (have.1, (have.0, tt))

-- two lists together
pub have_both : (ks js : List ClassSheet) → HaveLabels ks → HaveLabels js → HaveLabels (ks ++ js)
have_both [] js have more = more
have_both (k ∷ ks) js have more = (have.0, have_both ks js have.1 more)

-- the first sheet changes
pub have_on_first : (f : ClassSheet → ClassSheet) → ((k : ClassSheet) → HasLabels k → HasLabels (f k))
    → (ks : List ClassSheet) → HaveLabels ks → HaveLabels (on_first f ks)
have_on_first f keeps [] have = tt
have_on_first f keeps (k ∷ ks) have = (keeps k have.0, have.1)

-- one of the views
pub labelled_at : (views : List View) (i : ℕ) (v : View) → get_elem? views i ≡ some v → AreLabelled views
    → HaveLabels v.classes
labelled_at [] i v me all = absurd (some-ne-none v (sym me))
labelled_at (x ∷ xs) zero v me all = subst (λ (y : View). HaveLabels y.classes) (some-injective x v me) all.0
labelled_at (x ∷ xs) (suc i) v me all = labelled_at xs i v me all.1

-- another one than the one that was written over
pub labelled_beside : (views : List View) (i j : ℕ) (u w : View) → (j ≡ i → ⊥) → get_elem? (set views i u) j ≡ some w
    → AreLabelled views → HaveLabels w.classes
labelled_beside [] i j u w apart me all = absurd (some-ne-none w (sym me))
labelled_beside (x ∷ xs) zero zero u w apart me all = absurd (apart refl)
labelled_beside (x ∷ xs) zero (suc j) u w apart me all = labelled_at xs j w me all.1
labelled_beside (x ∷ xs) (suc i) zero u w apart me all = subst (λ (y : View). HaveLabels y.classes)
    (some-injective x w me) all.0
labelled_beside (x ∷ xs) (suc i) (suc j) u w apart me all = labelled_beside xs i j u w (λ e. apart (ap suc e)) me
    all.1

-- one of them is written over
pub labelled_set : (views : List View) (i : ℕ) (v w : View) → get_elem? views i ≡ some v → AreLabelled views
    → HaveLabels w.classes → AreLabelled (set views i w)
labelled_set [] i v w me all have = absurd (some-ne-none v (sym me))
labelled_set (x ∷ xs) zero v w me all have = (have, all.1)
labelled_set (x ∷ xs) (suc i) v w me all have = (all.0, labelled_set xs i v w me all.1 have)

-- one more view
pub labelled_push : (views : List View) (w : View) → AreLabelled views → HaveLabels w.classes
    → AreLabelled (views ++ w ∷ [])
labelled_push [] w all have = (have, tt)
labelled_push (x ∷ xs) w all have = (all.0, labelled_push xs w all.1 have)

-- ---- one sheet

-- a step is noted, and nothing else
pub noted_labels : (k : ClassSheet) (steps : List OwnStep) → HasLabels k → HasLabels (record k { steps = steps })
noted_labels k steps p = record { labelled = p.labelled; unbegun = p.unbegun }

-- an application is named, or no more
pub named_labels : (k : ClassSheet) (named : Option Ride) → HasLabels k → HasLabels (record k { applying = named })
named_labels k named p = record { labelled = p.labelled; unbegun = p.unbegun }

-- an entry that begins no life, in the life that its chunk has, and that leaves no free chunk where chunks are used
module _ (k : ClassSheet) (e : Change) (steps : List OwnStep) (p : HasLabels k)
    (same_life : (subject e).generation ≡ (standing k (subject e).chunk).1)
    (used : IsUsed (target e) → IsUsed (standing k (subject e).chunk).0) where
  abbrev pub entered : ClassSheet
  entered = record k { history = k.history ++ e ∷ []; steps = steps }

  -- where it leaves a chunk
  entered_stands : (d : ℕ) → standing entered d ≡ cond (eqb (subject e).chunk d) (target e, (subject e).generation)
      (standing k d)
  entered_stands d = standing_push d (Unused, k.fresh) k.history e

  -- its life goes on
  same_generation : (d : ℕ) → (standing entered d).1 ≡ (standing k d).1
  same_generation d = ap (λ (s : Standing). s.1) (entered_stands d) ∙ by (eqb (subject e).chunk d) refl
    where
      by : (b : Bool) → eqb (subject e).chunk d ≡ b → (cond b (target e, (subject e).generation) (standing k d)).1
          ≡ (standing k d).1
      by true is = same_life ∙ ap (λ (c : ℕ). (standing k c).1) (eqb-true (subject e).chunk d is)
      by false is = refl

  still_used : (c : ℕ) → IsUsed (standing entered c).0 → IsUsed (standing k c).0
  still_used c now = by (eqb (subject e).chunk c) refl (subst (λ (s : Standing). IsUsed s.0) (entered_stands c) now)
    where
      by : (b : Bool) → eqb (subject e).chunk c ≡ b
          → IsUsed (cond b (target e, (subject e).generation) (standing k c)).0 → IsUsed (standing k c).0
      by true is there = subst (λ (d : ℕ). IsUsed (standing k d).0) (eqb-true (subject e).chunk c is) (used there)
      by false is there = there

  pub entered_labels : HasLabels entered
  entered_labels = record {
    labelled = λ i c mine now. ap (λ (g : ℕ). label_of_life (life c g) 0 (labels_of i k.labels k.words))
        (same_generation c) ∙ p.labelled i c mine (still_used c now);
    unbegun = λ i c g later. p.unbegun i c g (omega (arith, later, same_generation c));
  }

-- a label or a further word that is stored for a free chunk, as word i
module _ (c i y : ℕ) (k : ClassSheet) (ls : List LabelStep) (ws : List WordStep) (steps : List OwnStep) (p : HasLabels k)
    (here : labels_of i ls ws ≡ labels_of i k.labels k.words ++ Stored c y ∷ [])
    (there : (j : ℕ) → j ≢ i → labels_of j ls ws ≡ labels_of j k.labels k.words)
    (unused : (standing k c).0 ≡ Unused) where
  -- a chunk in use is another one
  elsewhere : (d : ℕ) → IsUsed (standing k d).0 → eqb c d ≡ false
  elsewhere d used = ne_eqb c d (λ e. absurd (subst IsUsed (ap (λ (j : ℕ). (standing k j).0) (sym e) ∙ unused) used))

  pub put_labels : HasLabels (record k { labels = ls; words = ws; steps = steps })
  put_labels = record {
    labelled = λ j d own used. dite (ℕ_discrete j i)
        (λ is.
        subst (λ (n : ℕ). label_of_life (life d (standing k d).1) 0 (labels_of n ls ws) ≡ Some
        (label_word d 0 (labels_of n ls ws))) (sym is)
        (subst (λ (l : List LabelStep). label_of_life (life d (standing k d).1) 0 l ≡ Some (label_word d 0 l))
        (sym here)
        (life_stored (life d (standing k d).1) 0 (labels_of i k.labels k.words) c y ∙ p.labelled i d own used
        ∙ ap (λ (n : ℕ). Some n)
        (sym (word_stored d 0 (labels_of i k.labels k.words) c y
        ∙ ap (λ (b : Bool). if b then y else last_word i k d) (elsewhere d used))))))
        (λ ne. subst (λ (l : List LabelStep). label_of_life (life d (standing k d).1) 0 l ≡ Some (label_word d 0 l))
        (sym (there j ne)) (p.labelled j d own used));
    unbegun = λ j d g later. dite (ℕ_discrete j i)
        (λ is. ap (λ (n : ℕ). label_of_life (life d g) 0 (labels_of n ls ws)) is
        ∙ ap (λ (l : List LabelStep). label_of_life (life d g) 0 l) here
        ∙ life_stored (life d g) 0 (labels_of i k.labels k.words) c y ∙ p.unbegun i d g later)
        (λ ne. ap (λ (l : List LabelStep). label_of_life (life d g) 0 l) (there j ne) ∙ p.unbegun j d g later);
  }

pub put_label_labels : (c y : ℕ) (k : ClassSheet) → HasLabels k → (standing k c).0 ≡ Unused
    → HasLabels (class_after_put_label c y k)
put_label_labels c y k p unused = put_labels c 0 y k (class_after_put_label c y k).labels k.words
    (class_after_put_label c y k).steps p refl (λ j ne. labels_put_label j k.labels k.words c y ne) unused

pub put_word_labels : (c j y : ℕ) (k : ClassSheet) → HasLabels k → (standing k c).0 ≡ Unused
    → HasLabels (class_after_put_word c j y k)
put_word_labels c j y k p unused = put_labels c (suc j) y k k.labels (class_after_put_word c j y k).words
    (class_after_put_word c j y k).steps p (labels_put_same j k.labels k.words c y)
    (λ i ne. labels_put_word i j k.labels k.words c y ne) unused

-- two lives of two chunks are two
other_of_chunk : (d c g j : ℕ) → d ≢ c → is_same (life d g) (life c j) ≡ false
other_of_chunk d c g j ne = ap (λ (b : Bool). b && eqb g j) (ne_eqb d c ne)

-- the next life of a chunk begins
module _ (a : Start) (c g n : ℕ) (k : ClassSheet) (p : HasLabels k) (next : g ≡ (standing k c).1 + 1) where
  abbrev pub new_life : ItemId
  new_life = life c g

  abbrev pub opened : ClassSheet
  opened = class_after_link a c g n k

  -- its entry
  abbrev entry : Change
  entry = begun_change a new_life

  -- where it leaves a chunk
  stands : (d : ℕ) → standing opened d ≡ cond (eqb c d) (target entry, g) (standing k d)
  stands d = standing_push d (Unused, k.fresh) k.history entry
      ∙ ap (λ (l : ItemId). cond (eqb l.chunk d) (target entry, l.generation) (standing k d)) (begun_subject a new_life)

  -- it stands so, and the others where they stood
  stands_here : standing opened c ≡ (target entry, g)
  stands_here = stands c ∙ ap (λ b. cond b (target entry, g) (standing k c)) (eq-eqb c c refl)

  stands_there : (d : ℕ) → d ≢ c → standing opened d ≡ standing k d
  stands_there d ne = stands d
      ∙ ap (λ b. cond b (target entry, g) (standing k d)) (ne_eqb c d (λ q. ne (sym q)))

  -- what was done about word i
  abbrev before : ℕ → List LabelStep
  before i = labels_of i k.labels k.words

  now : (i : ℕ) → labels_of i opened.labels opened.words ≡ before i ++ Linked new_life ∷ []
  now i = labels_begun i k.labels k.words new_life

  -- it has the label that was stored last for the chunk
  label_here : (i : ℕ) → label_of_life new_life 0 (before i ++ Linked new_life ∷ []) ≡ Some
      (label_word c 0 (before i ++ Linked new_life ∷ []))
  label_here i = life_linked new_life 0 (before i) (and_from (eqb c c) (eqb g g) (eq-eqb c c refl) (eq-eqb g g refl))
      (p.unbegun i c g (omega (arith, next))) ∙ ap (λ (y : ℕ). Some y) (sym (word_linked c 0 (before i) new_life))

  labelled_now : (i d : ℕ) → owns d k ≡ true → IsUsed (standing opened d).0
      → label_of_life (life d (standing opened d).1) 0 (before i ++ Linked new_life ∷ []) ≡ Some
      (label_word d 0 (before i ++ Linked new_life ∷ []))
  labelled_now i d mine used = dite (ℕ_discrete d c)
      (λ is. subst (λ (j : ℕ). label_of_life (life j (standing opened j).1) 0 (before i ++ Linked new_life ∷ [])
      ≡ Some (label_word j 0 (before i ++ Linked new_life ∷ []))) (sym is)
      (subst (λ (s : Standing). label_of_life (life c s.1) 0 (before i ++ Linked new_life ∷ []) ≡ Some
      (label_word c 0 (before i ++ Linked new_life ∷ []))) (sym stands_here) (label_here i)))
      (λ ne. subst (λ (s : Standing). label_of_life (life d s.1) 0 (before i ++ Linked new_life ∷ []) ≡ Some
      (label_word d 0 (before i ++ Linked new_life ∷ []))) (sym (stands_there d ne))
      (life_linked_else (life d (standing k d).1) 0 (before i) new_life (other_of_chunk d c (standing k d).1 g ne)
      ∙ p.labelled i d mine (subst (λ (s : Standing). IsUsed s.0) (stands_there d ne) used)
      ∙ ap (λ (y : ℕ). Some y) (sym (word_linked d 0 (before i) new_life))))

  unbegun_now : (i d j : ℕ) → (standing opened d).1 < j → label_of_life (life d j) 0 (before i ++ Linked new_life ∷ [])
      ≡ None
  unbegun_now i d j later = dite (ℕ_discrete d c)
      (λ is.
      let at : (standing opened d).1 ≡ g = ap (λ (i : ℕ). (standing opened i).1) is
      ∙ ap (λ (s : Standing). s.1) stands_here in
      subst (λ (n : ℕ). label_of_life (life n j) 0 (before i ++ Linked new_life ∷ []) ≡ None) (sym is)
      (life_linked_else (life c j) 0 (before i) new_life
      (ap₂ (λ a b. a && b) (eq-eqb c c refl) (ne_eqb j g (λ e. omega (arith, e, at, later))))
      ∙ p.unbegun i c j (omega (arith, at, later, next))))
      (λ ne. life_linked_else (life d j) 0 (before i) new_life (other_of_chunk d c j g ne)
      ∙ p.unbegun i d j (subst (λ (n : ℕ). n < j) (ap (λ (s : Standing). s.1) (stands_there d ne)) later))

  pub link_labels : HasLabels opened
  link_labels = record {
    labelled = λ i d mine used. subst (λ (l : List LabelStep). label_of_life (life d (standing opened d).1) 0 l ≡ Some
        (label_word d 0 l)) (sym (now i)) (labelled_now i d mine used);
    unbegun = λ i d j later. subst (λ (l : List LabelStep). label_of_life (life d j) 0 l ≡ None) (sym (now i))
        (unbegun_now i d j later);
  }
