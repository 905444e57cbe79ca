-- Views that are put together count together: all cuts and joins of seats rest on this.
use Rattle.std.proofs.Common.{◌≡◌, ℕ, ◌+◌, ◌&&◌, eqb, cond, not, List, [], ◌++◌, refl, sym, arith}
use Rattle.atomic_table.specs.Table.{Splits, Joins}
use Rattle.bump_rules.specs.declared.bumps.Outcome.{Outcome}
use Rattle.bump_rules.specs.declared.bumps.Outcome.TheVariants as outcome
use Rattle.bump_rules.specs.declared.bumps.AppliedBump.{AppliedBump}
use Rattle.bump_rules.specs.declared.configs.Config.{Config}
use Rattle.bump_rules.specs.Totals.{total, how_many}
use Rattle.bump_rules.specs.Lives.{life, is_same, one_if, count_of}
use Rattle.bump_rules.specs.History.{is_standing}
use Rattle.bump_rules.specs.Entries.{is_move_for, is_unlink_of}
use Rattle.bump_rules.proofs.Updates.{total_append}
use Rattle.bump_steps.specs.declared.views.View.{View}
use Rattle.bump_steps.specs.Views.{Measure, held, named, saw, owners, strays, mislabels, misreads, glanced, misglanced, misread, glances_at, misglances_at, refers, in_hand, is_fetch_of, bump_aboard, owns, standing, last_word, weight, shown_by, claimed_in, settled_in, names_move, underway_in, untidy_in, shows_time_only, of_owner, foreign_in, HaveLabels}
use Rattle.bump_steps.specs.Rule.{RowPredicate, blank, Kept}
use Rattle.bump_steps.specs.Cuts.{joined, without_lanes, lanes_only, without_holds, holds_only, without_class, class_only, without_worker, worker_only, without_lane, lane_only}
use Rattle.bump_steps.specs.Plays.{behind, first_as_list}
use Rattle.bump_steps.proofs.Frame.{AddsUp, splits, joins}
use Rattle.bump_steps.proofs.LifeLabels.{have_cut, have_both}
use Rattle.bump_steps.proofs.Sums.{cut}

-- two lists have the elements of a third one between them
abbrev pub Shared : {A : Type 0} → List A → List A → List A → Type 0
Shared {A} xs left right = (f : A → ℕ) → total f left + total f right ≡ total f xs

-- two views have the sheets of a third one between them
pub record Parted (v left right : View) : Type 0 where
  pub workers : Shared v.workers left.workers right.workers
  pub holds : Shared v.holds left.holds right.holds
  pub riders : Shared v.riders left.riders right.riders
  pub classes : Shared v.classes left.classes right.classes
  pub lanes : Shared v.lanes left.lanes right.lanes

module _ (v left right : View) (p : Parted v left right) where
  -- they count the same between them
  pub parted_counts : (c : ℕ) (x : Measure) → AddsUp (weight c x) v left right
  parted_counts c (held g) =
      omega (
        arith,
        p.holds (λ h. one_if (life c g) h.life),
        p.riders (λ r. one_if (life c g) r.life),
        p.workers (λ w. in_hand c g w.hand),
        p.lanes (λ l. refers c g (bump_aboard l.stage)),
      )
  parted_counts c (named g) = p.workers (λ w. count_of (life c g) w.hits)
  parted_counts c (saw g) = p.workers (λ w. how_many (is_fetch_of c g) w.steps)
  parted_counts c owners = p.classes (λ k. cond (owns c k) 1 0)
  parted_counts c (strays s) = p.classes (λ k. cond (owns c k && not (is_standing (standing k c) s)) 1 0)
  parted_counts c (mislabels i x) = p.classes (λ k. cond (owns c k && not (eqb (last_word i k c) x)) 1 0)
  parted_counts c (misreads i g x) = p.holds (misread i c g x)
  parted_counts c (glanced g) = p.workers (glances_at c g)
  parted_counts c (misglanced i g x) = p.workers (misglances_at i c g x)

  -- they show the same of entries
  pub parted_evidence : (n : ℕ) (a : AppliedBump) (o : Outcome) → AddsUp (shown_by o n a) v left right
  parted_evidence n a outcome.Moved =
      p.classes (of_owner a.life.chunk (λ k. how_many (is_move_for (is_same a.life) n a.number) k.history))
  parted_evidence n a outcome.Gone = p.classes (of_owner a.life.chunk (λ k. how_many (is_unlink_of a.life) k.history))
  parted_evidence n a outcome.TimeOnly =
      omega (
        arith,
        p.classes (of_owner a.life.chunk
            (λ k. how_many (shows_time_only n a.number a.life.chunk) k.steps)),
        p.lanes (λ l. how_many (shows_time_only n a.number a.life.chunk) l.steps),
      )

  -- the rule doesn't notice that a view is cut in two
  pub sheets : {law : RowPredicate} (key : Config) (id : ℕ) → (HaveLabels v.classes → HaveLabels left.classes × HaveLabels right.classes)
      → Splits (Kept law key) id v left right
  sheets key id labels = splits key id v left right parted_counts
      (λ n a. (p.lanes (claimed_in n a), parted_evidence n a a.outcome))
      (λ q. (
        p.classes (λ k. how_many (is_move_for q.test q.worker q.number) k.history),
        p.lanes (settled_in q),
        p.classes (λ k. names_move q k.applying),
        p.lanes (underway_in q),
      ))
      (p.classes foreign_in) labels (λ n. p.workers (λ w. cond (eqb w.worker n) 1 0))
      (λ n. p.lanes (λ l. cond (eqb l.worker n) 1 0)) (p.lanes untidy_in)

-- nothing but a list's own elements, and nothing
here : {A : Type 0} (xs : List A) → Shared xs xs []
here xs f = omega arith

there : {A : Type 0} (xs : List A) → Shared xs [] xs
there xs f = omega arith

-- a list's first, and what is behind it
split_first : {A : Type 0} (xs : List A) → Shared xs (behind xs) (first_as_list xs)
split_first xs f = cut f xs

pub lanes_split : {law : RowPredicate} (key : Config) (id : ℕ) (v : View) → Splits (Kept law key) id v (without_lanes v) (lanes_only v)
lanes_split key id v = sheets v (without_lanes v) (lanes_only v)
    (record {
      workers = here v.workers;
      holds = here v.holds;
      riders = here v.riders;
      classes = here v.classes;
      lanes = there v.lanes;
    }) key id (λ have. (have, tt))

pub holds_split : {law : RowPredicate} (key : Config) (id : ℕ) (v : View) → Splits (Kept law key) id v (without_holds v) (holds_only v)
holds_split key id v = sheets v (without_holds v) (holds_only v)
    (record {
      workers = here v.workers;
      holds = there v.holds;
      riders = here v.riders;
      classes = here v.classes;
      lanes = here v.lanes;
    }) key id (λ have. (have, tt))

pub class_split : {law : RowPredicate} (key : Config) (id : ℕ) (v : View) → Splits (Kept law key) id v (without_class v) (class_only v)
class_split key id v = sheets v (without_class v) (class_only v)
    (record {
      workers = here v.workers;
      holds = here v.holds;
      riders = here v.riders;
      classes = split_first v.classes;
      lanes = here v.lanes;
    }) key id (have_cut v.classes)

pub worker_split : {law : RowPredicate} (key : Config) (id : ℕ) (v : View) → Splits (Kept law key) id v (without_worker v) (worker_only v)
worker_split key id v = sheets v (without_worker v) (worker_only v)
    (record {
      workers = split_first v.workers;
      holds = here v.holds;
      riders = here v.riders;
      classes = here v.classes;
      lanes = here v.lanes;
    }) key id (λ have. (have, tt))

pub lane_split : {law : RowPredicate} (key : Config) (id : ℕ) (v : View) → Splits (Kept law key) id v (without_lane v) (lane_only v)
lane_split key id v = sheets v (without_lane v) (lane_only v)
    (record {
      workers = here v.workers;
      holds = here v.holds;
      riders = here v.riders;
      classes = here v.classes;
      lanes = split_first v.lanes;
    }) key id (λ have. (have, tt))

-- the rule doesn't notice that two views are put together
pub both_join : {law : RowPredicate} (key : Config) (id : ℕ) (v : View) (other : ℕ) (w : View) → Joins (Kept law key) id v other w (joined v w)
    blank
both_join key id v other w = joins key id v other w (joined v w) blank
    (λ c x. omega (arith, counts c x, nothing c x))
    (λ n a. (
      omega (arith, total_append (claimed_in n a) v.lanes w.lanes),
      omega (arith, shows n a a.outcome, shows_nothing n a a.outcome),
    ))
    (λ q. (
      omega (
        arith,
        total_append (λ k. how_many (is_move_for q.test q.worker q.number) k.history) v.classes
            w.classes,
      ),
      omega (arith, total_append (settled_in q) v.lanes w.lanes),
      omega (arith, total_append (λ k. names_move q k.applying) v.classes w.classes),
      omega (arith, total_append (underway_in q) v.lanes w.lanes),
    ))
    (omega (arith, total_append foreign_in v.classes w.classes))
    (λ mine theirs. (have_both v.classes w.classes mine theirs, tt))
    (λ n. omega (arith, total_append (λ p. cond (eqb p.worker n) 1 0) v.workers w.workers))
    (λ n. omega (arith, total_append (λ l. cond (eqb l.worker n) 1 0) v.lanes w.lanes))
    (omega (arith, total_append untidy_in v.lanes w.lanes))
  where
    both : {A : Type 0} (xs ys : List A) → Shared (xs ++ ys) xs ys
    both xs ys f = sym (total_append f xs ys)

    together : Parted (joined v w) v w
    together = record {
      workers = both v.workers w.workers;
      holds = both v.holds w.holds;
      riders =
          both v.riders w.riders;
      classes = both v.classes w.classes;
      lanes = both v.lanes w.lanes;
    }

    counts : (c : ℕ) (x : Measure) → AddsUp (weight c x) (joined v w) v w
    counts = parted_counts (joined v w) v w together

    shows : (n : ℕ) (a : AppliedBump) (o : Outcome) → AddsUp (shown_by o n a) (joined v w) v w
    shows = parted_evidence (joined v w) v w together

    nothing : (c : ℕ) (x : Measure) → weight c x blank ≡ 0
    nothing c (held g) = refl
    nothing c (named g) = refl
    nothing c (saw g) = refl
    nothing c owners = refl
    nothing c (strays s) = refl
    nothing c (mislabels i x) = refl
    nothing c (misreads i g x) = refl
    nothing c (glanced g) = refl
    nothing c (misglanced i g x) = refl

    shows_nothing : (n : ℕ) (a : AppliedBump) (o : Outcome) → shown_by o n a blank ≡ 0
    shows_nothing n a outcome.Moved = refl
    shows_nothing n a outcome.Gone = refl
    shows_nothing n a outcome.TimeOnly = refl
