-- The store of a label or of a further word: whatever the other seats have, a class's seat alone can go on.
use Rattle.std.proofs.Common.{◌≡◌, ℕ, suc, ◌+◌, ◌<◌, ◌≤◌, ◌≢◌, ◌&&◌, eqb, not, Bool, true, List, [], ◌∷◌, ◌++◌, None, if◌then◌else◌, refl, sym, ap, ◌∙◌, subst, arith, eq-eqb, ne_eqb}
use mathlib.Core.Option.{none}
use mathlib.Core.Bool.{false≢true}
use mathlib.Core.Logic.{dite}
use native.Mathlib.Decide.{ℕ_discrete}
use Rattle.atomic_table.specs.Table.{step, Allows}
use Rattle.bump_rules.specs.declared.places.Place.{Place}
use Rattle.bump_rules.specs.declared.places.Place.TheVariants.{Unused}
use Rattle.bump_rules.specs.declared.labels.LabelStep.{LabelStep}
use Rattle.bump_rules.specs.declared.labels.LabelStep.TheVariants.{Stored}
use Rattle.bump_rules.specs.declared.configs.Config.{Config}
use Rattle.bump_rules.specs.declared.bumps.AppliedBump.{AppliedBump}
use Rattle.bump_rules.specs.declared.bumps.Outcome.{Outcome}
use Rattle.bump_rules.specs.declared.bumps.Outcome.TheVariants as outcome
use Rattle.bump_rules.specs.History.{Standing}
use Rattle.bump_rules.specs.Labels.{label_word}
use Rattle.bump_rules.specs.Lawful.{bit, Shows, IsUsed}
use Rattle.bump_rules.proofs.Laws.{relawful, none_where_free}
use Rattle.bump_steps.specs.declared.views.Empty.{Empty}
use Rattle.bump_steps.specs.declared.views.Kind.TheVariants as kind
use Rattle.bump_steps.specs.declared.views.WordStep.{WordStep}
use Rattle.bump_steps.specs.declared.views.OwnStep.{OwnStep}
use Rattle.bump_steps.specs.declared.views.ClassSheet.{ClassSheet}
use Rattle.bump_steps.specs.declared.views.View.{View}
use Rattle.bump_steps.specs.Views.{held, named, saw, owners, strays, mislabels, misreads, glanced, misglanced, owns, standing, labels_of, last_word, weight, shown_by, shows_time_only, HasLabels, IsBacked}
use Rattle.bump_steps.specs.Rule.{RowPredicate, chunks, Kept}
use Rattle.bump_steps.specs.Places.{head_place}
use Rattle.bump_steps.specs.Plays.{Sat, on_label, on_word, step_of, Stands}
use Rattle.bump_steps.specs.Lives.{alone, class_after_put_label, class_after_put_word, IsUnused, put_label_tells, put_word_tells}
use Rattle.bump_steps.proofs.Frame.{Same, on_words}
use Rattle.bump_steps.proofs.Places.{with_word, with_here, with_there}
use Rattle.bump_steps.proofs.LabelLists.{word_stored, labels_put_label, labels_put_word, labels_put_same}
use Rattle.bump_steps.proofs.LifeLabels.{put_label_labels, put_word_labels}
use Rattle.bump_steps.proofs.StepLemmas.{at_label, at_word, owned_push}
use Rattle.bump_steps.proofs.Told.{at_standing, stands_alone}

-- Word i of chunk c is stored: its label, which is word 0, or a further word.
module _ (c i y : ℕ) (k : ClassSheet) (own : owns c k ≡ true) (ls : List LabelStep) (ws : List WordStep) (x : OwnStep)
    (here : labels_of i ls ws ≡ labels_of i k.labels k.words ++ Stored c y ∷ [])
    (there : (j : ℕ) → j ≢ i → labels_of j ls ws ≡ labels_of j k.labels k.words) where
  abbrev pub stored : ClassSheet
  stored = record k { labels = ls; words = ws; steps = k.steps ++ x ∷ [] }

  -- this chunk's word i is the one stored, and each other word is what it was
  last_here : (b : ℕ) → last_word i stored b ≡ (if eqb c b then y else last_word i k b)
  last_here b = ap (λ (l : List LabelStep). label_word b 0 l) here ∙ word_stored b 0 (labels_of i k.labels k.words) c y

  last_there : (j b : ℕ) → j ≢ i → last_word j stored b ≡ last_word j k b
  last_there j b ne = ap (λ (l : List LabelStep). label_word b 0 l) (there j ne)

  -- the other chunks keep their words
  last_apart : (j b : ℕ) → b ≢ c → last_word j stored b ≡ last_word j k b
  last_apart j b ne = dite (ℕ_discrete j i)
      (λ is. ap (λ (n : ℕ). last_word n stored b) is ∙ last_here b
      ∙ ap (λ (o : Bool). if o then y else last_word i k b) (ne_eqb c b (λ e. ne (sym e)))
      ∙ ap (λ (n : ℕ). last_word n k b) (sym is))
      (λ no. last_there j b no)

  label_apart : (b : ℕ) → b ≢ c → Same b (alone k) (alone stored)
  label_apart b ne (held j) = refl
  label_apart b ne (named j) = refl
  label_apart b ne (saw j) = refl
  label_apart b ne owners = refl
  label_apart b ne (strays s) = refl
  label_apart b ne (mislabels j z) = ap (λ (l : ℕ). bit (owns b k && not (eqb l z)) + 0) (last_apart j b ne)
  label_apart b ne (misreads n j z) = refl
  label_apart b ne (glanced j) = refl
  label_apart b ne (misglanced n j z) = refl

  -- this one has the word
  no_mislabel : weight c (mislabels i y) (alone stored) ≡ 0
  no_mislabel = ap (λ (o : Bool). bit (o && not (eqb (last_word i stored c) y)) + 0) own
      ∙ (ap (λ (l : ℕ). bit (not (eqb l y)) + 0)
      (last_here c ∙ ap (λ (o : Bool). if o then y else last_word i k c) (eq-eqb c c refl))
      ∙ ap (λ (o : Bool). bit (not o) + 0) (eq-eqb y y refl))

  -- and its other words
  same_mislabel : (j z : ℕ) → j ≢ i → weight c (mislabels j z) (alone stored) ≡ weight c (mislabels j z) (alone k)
  same_mislabel j z ne = ap (λ (l : ℕ). bit (owns c k && not (eqb l z)) + 0) (last_there j c ne)

  -- what was shown is shown, and no move
  label_backed : (HasLabels k → HasLabels stored) → IsBacked (alone k) (alone stored)
  label_backed keeps = record {
    backs = λ wk d. (by wk d d.outcome, λ more. absurd (omega arith));
    even = λ q. omega arith;
    progress = λ q. omega arith;
    own = omega arith;
    labels = λ have. (keeps have.0, tt);
    workers = λ w. refl;
    lanes = λ w. refl;
    tidy = omega arith;
  }
    where
      by : (wk : ℕ) (d : AppliedBump) (o : Outcome) → shown_by o wk d (alone k) ≤ shown_by o wk d (alone stored)
      by wk d outcome.Moved = omega arith
      by wk d outcome.Gone = omega arith
      by wk d outcome.TimeOnly =
          omega (
            arith,
            owned_push (owns d.life.chunk k) (λ z. bit (shows_time_only wk d.number d.life.chunk z))
                k.steps x,
          )

  -- a word of a free chunk is stored: nobody has read another
  pub puts : {law : RowPredicate} (key : Config) (slots id : ℕ) (sl : List (ℕ × Empty)) → i ≤ slots → c < chunks key
      → (standing k c).0 ≡ Unused → (HasLabels k → HasLabels stored)
      → Allows (Kept law key) slots id (alone k, sl) (head_place slots c + (2 + i)) (λ _. y)
      (λ _ w. w ≡ (alone stored, sl))
  puts key slots id sl low near unused keeps = on_words key slots id (alone k, sl) c i (λ _. y)
      (λ _ w. w ≡ (alone stored, sl)) low near (λ n label t limits o a.
      let stands : Stands c (alone k) (Unused, (standing k c).1) =
      subst (λ (q : Place). Stands c (alone k) (q, (standing k c).1)) unused (stands_alone c (alone k) k refl own)
      in
      let place : o.at ≡ Unused = ap (λ (s : Standing). s.0)
      (at_standing c key.refs_limit n label (alone k) t o a (Unused, (standing k c).1) stands) in
      let unheld = none_where_free key.refs_limit o.head o.at (λ g. t (held g)) (λ g. t (named g)) o.lawful
      (ap IsUsed place) o.head.generation in (
        alone stored,
        (λ u moves. record {
          head = o.head;
          at = o.at;
          spells = o.spells;
          lawful = relawful key.refs_limit o.head o.at (λ g. t (held g)) (λ g. t (named g)) o.lawful (λ g. u (held g))
              (λ g. u (named g)) (λ g. omega (arith, moves (held g))) (λ g. omega (arith, moves (named g)));
          owned = omega (arith, moves owners, o.owned);
          agreed = omega (arith, moves (strays (o.at, o.head.generation)), o.agreed);
          labelled = λ j. dite (ℕ_discrete j i)
              (λ is. subst (λ (n : ℕ). u (mislabels n (with_word label i y n)) ≡ 0) (sym is)
              (subst (λ (z : ℕ). u (mislabels i z) ≡ 0) (sym (with_here label i y))
              (omega (
                arith,
                moves (mislabels i y),
                no_mislabel,
                a.other_labels i y,
                a.mine owners,
                o.owned,
                ap bit own,
              ))))
              (λ ne. subst (λ (z : ℕ). u (mislabels j z) ≡ 0) (sym (with_there label i y j ne))
              (omega (arith, moves (mislabels j (label j)), same_mislabel j (label j) ne, o.labelled j)));
          read = λ j. omega (
            arith,
            moves (misreads j o.head.generation (with_word label i y j)),
            a.readers j o.head.generation (with_word label i y j) unheld,
          );
          ahead = λ g far. omega (arith, moves (glanced g), o.ahead g far);
          faithful = λ lit. absurd (false≢true (sym (subst (Shows o.head) place o.lawful.shown).0 ∙ lit));
          obeys = λ lit. absurd (false≢true (sym (subst (Shows o.head) place o.lawful.shown).0 ∙ lit));
          hit = λ j some. omega (arith, moves (named j), o.hit j (omega (arith, some, moves (saw j))));
        }),
        label_apart,
        label_backed keeps,
        refl,
      ))

-- for the contract: the label of a chunk of UNUSED may be stored
pub may_put_label : {law : RowPredicate} (key : Config) (slots id c y : ℕ) (m : Sat) → c < chunks key → IsUnused c m.0
    → Allows (Kept law key) slots id m (head_place slots c + (2 + 0)) (λ _. y)
    (λ _. on_label put_label_tells (step slots (head_place slots c + (2 + 0)) y 0 none) m y)
may_put_label {law = law} key slots id c y m near may =
    subst (λ (v : View). Allows (Kept law key) slots id (v, m.1) (head_place slots c + (2 + 0)) (λ _. y)
    (λ _. on_label put_label_tells (step slots (head_place slots c + (2 + 0)) y 0 none) (v, m.1) y)) (sym may.1.view)
    (at_label put_label_tells key slots id (alone k, m.1) c y (λ _. y) (λ _. y)
    (puts c 0 y k may.1.own (class_after_put_label c y k).labels k.words (step_of kind.PutLabel c y None) refl
    (λ j ne. labels_put_label j k.labels k.words c y ne) key slots id m.1 (omega arith) near may.1.at
    (λ p. put_label_labels c y k p may.1.at)))
  where
    k : ClassSheet
    k = may.0

-- and a further word
pub may_put_word : {law : RowPredicate} (key : Config) (slots id c j y : ℕ) (m : Sat) → c < chunks key → j < slots → IsUnused c m.0
    → Allows (Kept law key) slots id m (head_place slots c + (2 + suc j)) (λ _. y)
    (λ _. on_word put_word_tells (step slots (head_place slots c + (2 + suc j)) y 0 none) m y)
may_put_word {law = law} key slots id c j y m near low may =
    subst (λ (v : View). Allows (Kept law key) slots id (v, m.1) (head_place slots c + (2 + suc j)) (λ _. y)
    (λ _. on_word put_word_tells (step slots (head_place slots c + (2 + suc j)) y 0 none) (v, m.1) y))
    (sym may.1.view)
    (at_word put_word_tells key slots id (alone k, m.1) c j y (λ _. y) (λ _. y) low
    (puts c (suc j) y k may.1.own k.labels (class_after_put_word c j y k).words (step_of kind.PutWord c y None)
    (labels_put_same j k.labels k.words c y) (λ i ne. labels_put_word i j k.labels k.words c y ne) key slots id m.1
    (omega (arith, low)) near may.1.at (λ p. put_word_labels c j y k p may.1.at)))
  where
    k : ClassSheet
    k = may.0
