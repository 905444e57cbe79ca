-- Looks of a class's seat at a chunk change nothing that is counted.
use Rattle.std.proofs.Common.{◌+◌, ℕ, ◌/◌, ◌^◌, ◌<◌, ◌≤◌, ◌&&◌, eqb, cond, not, [], ◌∷◌, ◌++◌, None, refl, arith}
use mathlib.Core.Option.{none}
use Rattle.atomic_table.specs.Table.{step, Allows}
use Rattle.bump_rules.specs.declared.bumps.AppliedBump.{AppliedBump}
use Rattle.bump_rules.specs.declared.bumps.Outcome.{Outcome}
use Rattle.bump_rules.specs.declared.bumps.Outcome.TheVariants as outcome
use Rattle.bump_rules.specs.declared.configs.Config.{Config}
use Rattle.bump_rules.specs.Entries.{is_move_for, is_unlink_of}
use Rattle.bump_rules.specs.History.{is_standing}
use Rattle.bump_rules.specs.Lives.{is_same}
use Rattle.bump_rules.specs.Totals.{how_many}
use Rattle.bump_word.specs.Layout.{generation_first}
use Rattle.bump_steps.specs.declared.views.Kind.{Kind}
use Rattle.bump_steps.specs.declared.views.Kind.TheVariants as kind
use Rattle.bump_steps.specs.declared.views.ClassSheet.{ClassSheet}
use Rattle.bump_steps.specs.declared.views.View.{View}
use Rattle.bump_steps.specs.Views.{Measure, held, named, saw, owners, strays, mislabels, misreads, glanced, misglanced, owns, standing, last_word, shown_by, shows_time_only, of_owner, names_move, foreign_in, IsBacked}
use Rattle.bump_steps.specs.Rule.{RowPredicate, Sound, chunks, Kept}
use Rattle.bump_steps.specs.Places.{head_place}
use Rattle.bump_steps.specs.Plays.{Sat, on_chunk, on_time, step_of}
use Rattle.bump_steps.specs.Lives.{on_class, generation_load_tells, load_tells, time_load_tells}
use Rattle.bump_steps.proofs.LifeLabels.{have_on_first, noted_labels}
use Rattle.bump_steps.proofs.Frame.{Same, Reaches, same_sound}
use Rattle.bump_steps.proofs.StepLemmas.{at_chunk, at_time, on_first_total, on_first_le, owned_push, same_counts}
use Rattle.bump_steps.proofs.Told.{tells}

-- the class noted a step of this kind, for no bump
abbrev pub noted_by : Kind → ℕ → ℕ → ClassSheet → ClassSheet
noted_by kind c n k = record k { steps = k.steps ++ step_of kind c n None ∷ [] }

module _ (kind : Kind) (c n : ℕ) (v : View) where
  -- a look is counted of no chunk
  pub look_same : (b : ℕ) → Same b v (on_class (noted_by kind c n) v)
  look_same b (held j) = refl
  look_same b (named j) = refl
  look_same b (saw j) = refl
  look_same b owners = on_first_total (λ k. cond (owns b k) 1 0) (noted_by kind c n) (λ k. refl) v.classes
  look_same b (strays s) = on_first_total (λ k. cond (owns b k && not (is_standing (standing k b) s)) 1 0)
      (noted_by kind c n) (λ k. refl) v.classes
  look_same b (mislabels i x) = on_first_total (λ k. cond (owns b k && not (eqb (last_word i k b) x)) 1 0)
      (noted_by kind c n) (λ k. refl) v.classes
  look_same b (misreads i j x) = refl
  look_same b (glanced j) = refl
  look_same b (misglanced i j x) = refl

  -- and shows what was shown, and no move
  pub look_backed : IsBacked v (on_class (noted_by kind c n) v)
  look_backed = record {
    backs = λ wk e. (by wk e e.outcome, λ more. absurd (omega arith));
    even = λ q. let same_moves = on_first_total (λ k. how_many (is_move_for q.test q.worker q.number) k.history)
        (noted_by kind c n) (λ k. refl) v.classes in omega arith;
    progress = λ q. let same = on_first_total (λ k. names_move q k.applying) (noted_by kind c n) (λ k. refl)
        v.classes in omega arith;
    own = let same = on_first_total foreign_in (noted_by kind c n) (λ k. refl) v.classes in omega arith;
    labels = have_on_first (noted_by kind c n) (λ k p. noted_labels k (noted_by kind c n k).steps p) v.classes;
    workers = λ w. refl;
    lanes = λ w. refl;
    tidy = omega arith;
  }
    where
      by : (wk : ℕ) (e : AppliedBump) (o : Outcome) → shown_by o wk e v ≤ shown_by o wk e
          (on_class (noted_by kind c n) v)
      by wk e outcome.Moved = omega (
        arith,
        on_first_total (of_owner e.life.chunk
            (λ k. how_many (is_move_for (is_same e.life) wk e.number) k.history)) (noted_by kind c n) (λ k. refl)
            v.classes,
      )
      by wk e outcome.Gone = omega (
        arith,
        on_first_total (of_owner e.life.chunk (λ k. how_many (is_unlink_of e.life) k.history))
            (noted_by kind c n) (λ k. refl) v.classes,
      )
      by wk e outcome.TimeOnly = let more =
          on_first_le (of_owner e.life.chunk (λ k. how_many (shows_time_only wk e.number e.life.chunk) k.steps))
          (noted_by kind c n) (λ k. owned_push (owns e.life.chunk k)
          (λ x. cond (shows_time_only wk e.number e.life.chunk x) 1 0) k.steps (step_of kind c n None)) v.classes
          in omega arith

module _ {law : RowPredicate} (key : Config) (slots id : ℕ) (m : Sat) (c : ℕ) (near : c < chunks key) where
  -- whatever is noted of the word that was found
  pub reaches_by_look : (kind : Kind) (y n : ℕ) (x : ℕ → ℕ) (t : Measure → ℕ) (tell : Sat → Type 0) → Sound law key.refs_limit n x t
      → tell (on_class (noted_by kind c y) m.0, m.1) → Reaches law key c m tell n x t
  reaches_by_look kind y n x t tell o told = (
    on_class (noted_by kind c y) m.0,
    (λ u moved. same_sound key.refs_limit n x t u
        (same_counts c m.0 (on_class (noted_by kind c y) m.0) t u (look_same kind c y m.0 c) moved) o),
    (λ b ne. look_same kind c y m.0 b),
    look_backed kind c y m.0,
    told,
  )

  -- any class may look at any chunk
  pub may_load : Allows (Kept law key) slots id m (head_place slots c) (λ n. n)
      (on_chunk load_tells (step slots (head_place slots c) 0 0 none) m)
  may_load = at_chunk load_tells key slots id m c 0 (λ n. n) near (λ n x t limits o a.
      reaches_by_look kind.Load n n x t (load_tells c 0 m n) o
      (refl, (o.head, o.spells, tells c key.refs_limit n x m.0 t o a)))

  -- also for its generation
  pub may_see_generation : Allows (Kept law key) slots id m (head_place slots c) (λ n. n)
      (on_chunk generation_load_tells (step slots (head_place slots c) 0 0 none) m)
  may_see_generation = at_chunk generation_load_tells key slots id m c 0 (λ n. n) near (λ n x t limits o a.
      reaches_by_look kind.SeeGeneration (n / 2 ^ generation_first) n x t (generation_load_tells c 0 m n) o
      (refl, (o.head, o.spells, tells c key.refs_limit n x m.0 t o a)))

  -- and at its time
  pub may_see_time : Allows (Kept law key) slots id m (head_place slots c + 1) (λ y. y)
      (on_time time_load_tells (step slots (head_place slots c + 1) 0 0 none) m)
  may_see_time = at_time time_load_tells key slots id m c 0 (λ y. y) (λ y. y) near
      (λ y n x t limits o a. reaches_by_look kind.SeeTime y n x t (time_load_tells c 0 m y) o refl)
