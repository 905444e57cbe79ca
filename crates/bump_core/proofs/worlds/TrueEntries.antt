-- The entries of the lanes of a lawful World are true, and no two moves are for one bump.
use Rattle.std.proofs.Common.{◌≡◌, ℕ, ◌+◌, ◌<◌, ◌≤◌, ◌≢◌, true, false, ◌&&◌, ◌==◌, map, length, ◌++◌, refl, sym, ap, ◌∙◌, subst, arith, inl, inr, eq-eqb, ne_eqb}
use Rattle.std.specs.List.{Contains}
use Rattle.std.proofs.lemmas.Bool.{and_from, and_parts, cases_lt}
use Rattle.std.proofs.lemmas.List.{get_or_past}
use native.Mathlib.Decide.{ℕ_discrete}
use Rattle.bump_rules.specs.declared.items.ItemId.{ItemId}
use Rattle.bump_rules.specs.declared.places.Segment.TheVariants as segment
use Rattle.bump_rules.specs.declared.history.Cause.TheVariants.{Bump as BumpOf}
use Rattle.bump_rules.specs.declared.history.Change.TheVariants as change
use Rattle.bump_rules.specs.declared.bumps.AppliedBump.{AppliedBump}
use Rattle.bump_rules.specs.declared.bumps.Outcome.{Outcome}
use Rattle.bump_rules.specs.declared.bumps.Outcome.TheVariants as outcome
use Rattle.bump_rules.specs.Entries.{is_move_for, is_moved, is_gone, is_told_moved, is_told_gone, moves_told, Says, ShowsMove, IsTrueEntry}
use Rattle.bump_core.specs.Headline.{moves_for}
use Rattle.bump_rules.specs.Lawful.{bit}
use Rattle.bump_rules.specs.Lives.{is_same}
use Rattle.bump_rules.specs.Rings.{aboard, bump_applied, numbered_from}
use Rattle.model_state.specs.State.{State, ClassState, WorkerState, class_at, worker_at, class_of, no_class, new_worker}
use Rattle.bump_rules.specs.Totals.{how_many}
use Rattle.model_state.specs.Worlds.{is_of_class, IsLawful}
use Rattle.bump_rules.proofs.Counted.{contained_counted, total_of_none, total_at_most_one}
use Rattle.bump_rules.proofs.Laws.{bit_at_most}
use Rattle.bump_rules.proofs.ToldMoves.{told_apart, told_below, told_once, told_never, told_shows}
use Rattle.model_state.proofs.LawfulStates.{same_life, same_lives}

-- a number is not two numbers
one_of_two : (n j k : ℕ) → j ≢ k → bit ((n == j) && true) + bit ((n == k) && true) ≤ 1
one_of_two n j k other = by (ℕ_discrete n j)
  where
    by : Dec (n ≡ j) → bit ((n == j) && true) + bit ((n == k) && true) ≤ 1
    by (yes same) = omega (
      arith,
      bit_at_most ((n == j) && true),
      ap (λ b. bit (b && true)) (ne_eqb n k (λ e. other (sym same ∙ e))),
    )
    by (no differs) = omega (arith, bit_at_most ((n == k) && true), ap (λ b. bit (b && true)) (ne_eqb n j differs))

module _ (s : State) (o : IsLawful s) where
  -- what a lane applied, and what it carries, are numbered from 0; a worker that isn't there has none
  in_order : (w : ℕ) → map bump_applied (worker_at s w).applied ++ aboard (worker_at s w).lane
      ≡ numbered_from 0 (worker_at s w).received
  in_order w = elim (cases_lt w (length s.workers)) [
    | inl within ↦ (o.workers w within).applied
    | inr past ↦ subst (λ (x : WorkerState). map bump_applied x.applied ++ aboard x.lane ≡ numbered_from 0 x.received)
        (sym (get_or_past s.workers w new_worker past)) refl
  ]

  -- a class's history has no more moves for a bump than its lane tells of
  moves_in : (k w n : ℕ) → how_many (is_move_for (λ l. true) w n) (class_at s k).history ≤ moves_told (λ l. true) n
      (worker_at s w).applied (worker_at s w).lane
  moves_in k w n = omega (
    arith,
    o.moves k w n (λ l. true),
    told_below (is_of_class s k (λ l. true)) n
        (worker_at s w).applied (worker_at s w).lane,
  )

  -- nor have the histories of two classes together
  moves_in_two : (j k w n : ℕ) → j ≢ k
      → how_many (is_move_for (λ l. true) w n) (class_at s j).history + how_many (is_move_for (λ l. true) w n)
      (class_at s k).history ≤ moves_told (λ l. true) n (worker_at s w).applied (worker_at s w).lane
  moves_in_two j k w n other = omega (
    arith,
    o.moves j w n (λ l. true),
    o.moves k w n (λ l. true),
    told_apart (is_of_class s j (λ l. true)) (is_of_class s k (λ l. true)) (λ l. one_of_two
        (class_of s l.chunk) j k other) n (worker_at s w).applied (worker_at s w).lane,
  )

  -- no two moves are for one bump
  pub named_once : (w n : ℕ) → moves_for s w n ≤ 1
  named_once w n = total_at_most_one (λ (k : ClassState). how_many
      (is_move_for (λ l. true) w n) k.history) no_class s.classes
      (λ i within. omega (
        arith,
        moves_in i w n,
        told_once (worker_at s w).applied (worker_at s w).lane
            (worker_at s w).received (in_order w) n,
      ))
      (λ i j i_in j_in other. omega (
        arith,
        moves_in_two i j w n other,
        told_once (worker_at s w).applied
            (worker_at s w).lane (worker_at s w).received (in_order w) n,
      ))

  -- no move is for a bump of which the lane tells otherwise
  pub not_named : (w : ℕ) (a : AppliedBump) → Contains (worker_at s w).applied a → is_moved a.outcome ≡ false
      → moves_for s w a.number ≡ 0
  not_named w a has stays = total_of_none (λ (k : ClassState). how_many
      (is_move_for (λ l. true) w a.number) k.history) no_class s.classes
      (λ i within. omega (
        arith,
        moves_in i w a.number,
        told_never (worker_at s w).applied (worker_at s w).lane
            (worker_at s w).received (in_order w) a has stays,
      ))

  -- the move of a life for a bump, which a history has, is shown by the lane
  pub move_shown : (k w n : ℕ) (l : ItemId) → Contains (class_at s k).history
      (change.Moved l segment.Cold segment.Warm (BumpOf w n)) → ShowsMove n l (worker_at s w).applied
      (worker_at s w).lane
  move_shown k w n l has = told_shows l (is_of_class s k (is_same l)) only n (worker_at s w).applied
      (worker_at s w).lane (worker_at s w).received (in_order w) (omega (arith, o.moves k w n (is_same l), counted))
    where
      only : (j : ItemId) → is_of_class s k (is_same l) j ≡ true → j ≡ l
      only j passes = sym (same_lives l j (and_parts (class_of s j.chunk == k) (is_same l j) passes).1)

      counted : 0 < how_many (is_move_for (is_same l) w n) (class_at s k).history
      counted = contained_counted (is_move_for (is_same l) w n) (class_at s k).history _ has
          (and_from (is_same l l) ((w == w) && (n == n)) (same_life l) (and_from (w == w) (n == n) (eq-eqb w w refl)
          (eq-eqb n n refl)))

  -- where an entry tells of a move, the history of its item's class has it
  told_has_move : (w : ℕ) (a : AppliedBump) → Contains (worker_at s w).applied a → is_moved a.outcome ≡ true
      → 0 < how_many (is_move_for (is_same a.life) w a.number) (class_at s (class_of s a.life.chunk)).history
  told_has_move w a has moved = let k = class_of s a.life.chunk in
      omega (
        arith,
        o.moves k w a.number (is_same a.life),
        contained_counted (is_told_moved (is_of_class s k (is_same a.life)) a.number) (worker_at s w).applied a has
            (and_from (is_moved a.outcome) ((a.number == a.number) && ((k == k) && is_same a.life a.life)) moved
            (and_from (a.number == a.number) ((k == k) && is_same a.life a.life) (eq-eqb a.number a.number refl)
            (and_from (k == k) (is_same a.life a.life) (eq-eqb k k refl) (same_life a.life)))),
      )

  -- each entry of a lane is true
  pub true_entry : (w : ℕ) (a : AppliedBump) → w < length s.workers → Contains (worker_at s w).applied a
      → IsTrueEntry (class_at s (class_of s a.life.chunk)).history w (moves_for s w a.number ≡ 0) a
  true_entry w a within has = by a.outcome refl
    where
      by : (x : Outcome) → a.outcome ≡ x → Says (class_at s (class_of s a.life.chunk)).history w
          (moves_for s w a.number ≡ 0) a x
      by outcome.Moved is = told_has_move w a has (ap is_moved is)
      by outcome.Gone is = o.gone w within a.life (contained_counted (is_told_gone a.life)
          (worker_at s w).applied a has (and_from (is_gone a.outcome) (is_same a.life a.life) (ap is_gone is)
          (same_life a.life)))
      by outcome.TimeOnly is = not_named w a has (ap is_moved is)
