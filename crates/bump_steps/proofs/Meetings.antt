-- A hold meets its class: each word of its row is the one that the class has for the chunk. And a lane meets a class:
-- what both have of moves for bumps agrees.
use Rattle.std.proofs.Common.{◌≡◌, ℕ, ◌+◌, ◌<◌, ◌&&◌, eqb, not, Bool, true, false, List, ◌∷◌, refl, sym, ap, ◌∙◌, subst, arith, eqb-true}
use mathlib.Core.Option.{none}
use Rattle.atomic_table.specs.Table.{Allows, step}
use Rattle.bump_rules.specs.declared.configs.Config.{Config}
use Rattle.bump_rules.specs.Lawful.{bit, IsUsed}
use Rattle.bump_rules.specs.Totals.{total}
use Rattle.bump_steps.specs.declared.views.HoldSheet.{HoldSheet}
use Rattle.bump_steps.specs.declared.views.ClassSheet.{ClassSheet}
use Rattle.bump_steps.specs.declared.views.View.{View}
use Rattle.bump_rules.specs.Lives.{life, one_if}
use Rattle.bump_steps.specs.Views.{Measure, held, mislabels, owns, standing, last_word, weight, moves}
use Rattle.bump_steps.specs.Rule.{RowPredicate, Sound, chunks, Kept}
use Rattle.bump_steps.specs.Places.{head_place}
use Rattle.bump_steps.specs.Plays.{Sat, behind, on_label, Told, Stands}
use Rattle.bump_steps.proofs.Referring.{first_life, first_row}
use Rattle.bump_steps.proofs.Told.{tells, stands_alone}
use Rattle.bump_steps.specs.declared.views.Kind.TheVariants as kind
use Rattle.bump_steps.specs.Lives.{on_class}
use Rattle.bump_steps.specs.Meetings.{load_to_meet_tells, load_to_meet_lane_tells, load_to_meet_workers_tells, class_after_meet, Meets}
use Rattle.bump_steps.proofs.Frame.{Amid, amid, on_words_load, on_spare, same_sound}
use Rattle.bump_steps.proofs.Looking.{look_same, look_backed}
use Rattle.bump_steps.proofs.Once.{settled_nowhere}
use Rattle.bump_steps.proofs.Sums.{term_le}
use Rattle.bump_steps.proofs.StepLemmas.{at_label, one_life}

equal_where : (own b : Bool) → own ≡ true → bit (own && not b) ≡ 0 → b ≡ true
equal_where true true o e = refl
equal_where true false o e = absurd (omega arith)
equal_where false b o e = absurd (cc o)

-- where the rule holds, the label word is what both know
pub met_labels : {law : RowPredicate} (c limit n : ℕ) (x : ℕ → ℕ) (v : View) (t : Measure → ℕ) (o : Sound law limit n x t) → Amid c v t
    → Meets c v (x 0)
met_labels c limit n x v t o a k h ks hs mine of = record {
  label = last 0;
  row = λ i. last i ∙ first_row c limit n x v t o a h first of i;
  used = subst (λ (d : ℕ). IsUsed (standing k d).0) (sym of) (told.in_use g held_here (standing k c) st);
  generation = ap (λ (d : ℕ). (standing k d).1) of ∙ sym (told.stood (standing k c) st).1
      ∙ sym (first_life c limit n x v t o a h first of);
}
  where
    told : Told c v o.head
    told = tells c limit n x v t o a

    st : Stands c v (standing k c)
    st = stands_alone c v k ks mine

    g : ℕ
    g = h.life.generation

    own : (i : ℕ) → bit (owns c k && not (eqb (last_word i k c) (x i))) ≡ 0
    own i = omega (
      arith,
      a.mine (mislabels i (x i)),
      o.labelled i,
      ap (total (λ (k : ClassSheet). bit (owns c k && not (eqb (last_word i k c) (x i))))) ks,
    )

    last : (i : ℕ) → last_word i k h.life.chunk ≡ x i
    last i = ap (last_word i k) of
        ∙ eqb-true _ _ (equal_where (owns c k) (eqb (last_word i k c) (x i)) mine (own i))

    one : one_if (life c h.life.generation) h.life ≡ 1
    one = ap (λ (d : ℕ). one_if (life d h.life.generation) h.life) (sym of) ∙ one_life h.life

    held_here : 0 < weight c (held h.life.generation) v
    held_here = omega (arith, ap (total (λ (p : HoldSheet). one_if (life c h.life.generation) p.life)) hs, one)

    first : v.holds ≡ h ∷ behind v.holds
    first = hs ∙ ap (λ (l : List HoldSheet). h ∷ behind l) (sym hs)

pub may_load_to_meet : {law : RowPredicate} (key : Config) (slots id : ℕ) (m : Sat) (c : ℕ) → c < chunks key → Allows (Kept law key) slots id m
    (head_place slots c + (2 + 0)) (λ x. x)
    (on_label load_to_meet_tells (step slots (head_place slots c + (2 + 0)) 0 0 none) m)
may_load_to_meet key slots id m c near = at_label load_to_meet_tells key slots id m c 0 (λ x. x) (λ x. x)
    (on_words_load key slots id m c 0 (λ x n. load_to_meet_tells c 0 m x n) (omega arith) near (λ n x t limits o a. (
      m.0,
      (λ u moved. same_sound key.refs_limit n x t u (λ y. let e = moved y in omega arith) o),
      (λ b ne y. refl),
      record {
        backs = λ n e. (omega arith, λ more. absurd (omega arith));
        even = λ q. omega arith;
        progress = λ q. omega arith;
        own = omega arith;
        labels = λ have. have;
        workers = λ w. refl;
        lanes = λ w. refl;
        tidy = omega arith;
      },
      (refl, met_labels c key.refs_limit n x m.0 t o a),
    )))

-- a lane that is joined to a class's seat
pub may_load_to_meet_lane : {law : RowPredicate} (key : Config) (slots id : ℕ) (m : Sat) → Allows (Kept law key) slots id m 0 (λ x. x)
    (load_to_meet_lane_tells (step slots 0 0 0 none) m)
may_load_to_meet_lane key slots id m = on_spare key slots id m (on_class class_after_meet m.0)
    (load_to_meet_lane_tells (step slots 0 0 0 none) m) (look_same kind.Meet 0 0 m.0) (look_backed kind.Meet 0 0 m.0)
    (λ n s o me. let a = amid key s o 0 id m.0 me in (refl, record { once = a.once; own = a.own; told = a.told }))

-- a class's seat alone: a worker that the store hasn't has no lane, and so no move
pub may_load_to_meet_workers : {law : RowPredicate} (key : Config) (slots id : ℕ) (m : Sat) → Allows (Kept law key) slots id m 0 (λ x. x)
    (load_to_meet_workers_tells key.workers (step slots 0 0 0 none) m)
may_load_to_meet_workers key slots id m = on_spare key slots id m (on_class class_after_meet m.0)
    (load_to_meet_workers_tells key.workers (step slots 0 0 0 none) m) (look_same kind.Meet 0 0 m.0)
    (look_backed kind.Meet 0 0 m.0)
    (λ n s o me. let a = amid key s o 0 id m.0 me in (
      refl,
      λ q far. omega (
        arith,
        term_le (moves q) s.views id m.0 me,
        o.even_moves q,
        settled_nowhere q s.views (o.few_lanes q.worker far),
      ),
      record { once = a.once; own = a.own; told = a.told },
    ))
