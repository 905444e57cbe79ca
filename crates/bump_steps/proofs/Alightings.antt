-- The end of a bump: its lane alights, and the bump aboard becomes the next entry.
use Rattle.std.proofs.Common.{◌≡◌, ℕ, ◌+◌, ◌-◌, ◌%◌, ◌^◌, ◌<◌, ◌≤◌, ◌≢◌, ◌&&◌, ◌==◌, eqb, cond, Bool, true, false, List, [], ◌∷◌, ◌++◌, Option, Some, None, refl, sym, ap, ◌∙◌, subst, arith, eqb-true}
use mathlib.Core.Bool.{false≢true}
use mathlib.Core.Option.{none}
use Rattle.atomic_table.specs.Table.{step, Allows}
use Rattle.bump_rules.specs.declared.items.ItemId.{ItemId}
use Rattle.bump_rules.specs.declared.configs.Config.{Config}
use Rattle.bump_rules.specs.declared.bumps.Bump.{Bump}
use Rattle.bump_rules.specs.declared.lanes.LaneStage.{LaneStage}
use Rattle.bump_rules.specs.declared.lanes.LaneStage.TheVariants as lane
use Rattle.bump_rules.specs.declared.bumps.AppliedBump.{AppliedBump}
use Rattle.bump_rules.specs.declared.bumps.Outcome.{Outcome}
use Rattle.bump_rules.specs.declared.bumps.Outcome.TheVariants as outcome
use Rattle.bump_rules.specs.Lawful.{Lawful}
use Rattle.bump_rules.specs.Totals.{total}
use Rattle.bump_rules.proofs.Laws.{unreferred}
use Rattle.bump_word.proofs.Steps.{one_less}
use Rattle.bump_steps.specs.declared.views.Empty.{Empty}
use Rattle.bump_steps.specs.declared.views.Kind.TheVariants as kind
use Rattle.bump_steps.specs.declared.views.ClassSheet.{ClassSheet}
use Rattle.bump_steps.specs.declared.views.LaneSheet.{LaneSheet}
use Rattle.bump_steps.specs.declared.views.View.{View}
use Rattle.bump_steps.specs.Views.{refers, bump_aboard, held, named, saw, owners, strays, mislabels, misreads, glanced, misglanced, weight, evidence, shown_by, claims, names_move, is_entry, outcome_number, Query, in_order, shows_time_only, IsBacked}
use Rattle.bump_steps.specs.Rule.{RowPredicate, chunks, Kept}
use Rattle.bump_steps.specs.Places.{head_place}
use Rattle.bump_steps.specs.Plays.{Sat, on_chunk, step_of}
use Rattle.bump_steps.specs.Applications.{for_bump, view_after_alight, alight_tells, entries_of_alight, application_of, applying, is_past_move, Alights, MayAlight}
use Rattle.bump_steps.proofs.Told.{tells}
use Rattle.bump_rules.specs.Lives.{life, one_if}
use Rattle.bump_rules.specs.Lanes.{applied_bump}
use Rattle.bump_rules.specs.Entries.{is_told_moved, moving, moves_told, is_moved}
use Rattle.bump_rules.specs.Totals.{how_many}
use Rattle.bump_rules.proofs.Updates.{total_push, total_append}
use Rattle.bump_steps.proofs.LifeLabels.{named_labels}
use Rattle.bump_steps.proofs.Frame.{Same}
use Rattle.bump_steps.proofs.StepLemmas.{at_chunk, level, one_life, other_life, other_chunk}
use Rattle.bump_steps.proofs.Applications.{no_bits, names_as_underway}

bump_or : Bump → Option Bump → Bump
bump_or d None = d
bump_or d (Some x) = x

one_bump : (d b : Bump) → Some d ≡ Some b → d ≡ b
unfolding bump_or
one_bump d b e = ap (bump_or d) e

-- what a bump aboard counts for: nothing before it is moved
moving_of : (q : Query) (s : LaneStage) (b : Bump) → bump_aboard s ≡ Some b → moving q.test q.number s ≡ cond
    (is_past_move s && ((b.number == q.number) && q.test b.life)) 1 0
moving_of q s b e = by s e
  where
    by : (s : LaneStage) → bump_aboard s ≡ Some b → moving q.test q.number s ≡ cond
        (is_past_move s && ((b.number == q.number) && q.test b.life)) 1 0
    by lane.Empty e = refl
    by (lane.Carrying d) e = refl
    by (lane.Tried d) e = refl
    by (lane.Cleared d f) e = refl
    by (lane.Moved d) e = ap (λ (x : Bump). cond ((x.number == q.number) && q.test x.life) 1 0) (one_bump d b e)

-- the entry tells of the move that was in progress
pub alight_refers : (test : ItemId → Bool) (n : ℕ) (l : LaneSheet) (b : Bump) (out : Outcome)
    → bump_aboard l.stage ≡ Some b → is_past_move l.stage ≡ is_moved out
    → moves_told test n (l.applied ++ entries_of_alight out (bump_aboard l.stage)) lane.Empty ≡ moves_told test n
    l.applied l.stage
alight_refers test n l b out aboard past = omega (
  arith,
  total_append (λ a. cond (is_told_moved test n a) 1 0) l.applied (entries_of_alight out (bump_aboard l.stage)),
  ap (λ (o : Option Bump). total (λ a. cond (is_told_moved test n a) 1 0) (entries_of_alight out o)) aboard,
  moving_of (record { test = test; worker = 0; number = n }) l.stage b aboard
      ∙ ap (λ (x : Bool). cond (x && ((b.number == n) && test b.life)) 1 0) past,
)

and_both : (a b : Bool) → (a && b) ≡ true → (a ≡ true) × (b ≡ true)
and_both true true e = (refl, refl)
and_both true false e = absurd (false≢true e)
and_both false b e = absurd (false≢true e)

outcome_is : (a b : Outcome) → outcome_number a ≡ outcome_number b → a ≡ b
outcome_is outcome.Moved outcome.Moved e = refl
outcome_is outcome.Moved outcome.TimeOnly e = absurd (omega arith)
outcome_is outcome.Moved outcome.Gone e = absurd (omega arith)
outcome_is outcome.TimeOnly outcome.Moved e = absurd (omega arith)
outcome_is outcome.TimeOnly outcome.TimeOnly e = refl
outcome_is outcome.TimeOnly outcome.Gone e = absurd (omega arith)
outcome_is outcome.Gone outcome.Moved e = absurd (omega arith)
outcome_is outcome.Gone outcome.TimeOnly e = absurd (omega arith)
outcome_is outcome.Gone outcome.Gone e = refl

-- entries that test as one are one
same_entry_is : (e f : AppliedBump) → is_entry f e ≡ true → e ≡ f
same_entry_is e f is = let a = and_both _ _ is in let b = and_both _ _ a.1 in let l = and_both _ _ b.0 in
    let n = eqb-true _ _ a.0 in let ch = eqb-true _ _ l.0 in let g = eqb-true _ _ l.1 in let o =
    outcome_is e.outcome f.outcome (eqb-true _ _ b.1) in
    λ i. record { number = n i; life = record { chunk = ch i; generation = g i }; outcome = o i }

settle_bits : (w : Bool) (t going more : ℕ) → going ≡ more → cond w (t + more + 0) 0 ≡ cond w (t + going) 0
settle_bits true t going more e = omega arith
settle_bits false t going more e = refl

claim_bits : (w x : Bool) (t : ℕ) → cond w t 0 < cond w (t + cond x 1 0) 0 → (w ≡ true) × (x ≡ true)
claim_bits true true t more = (refl, refl)
claim_bits true false t more = absurd (omega arith)
claim_bits false x t more = absurd (omega arith)

and_true : (x : Bool) → (x && true) ≡ x
and_true true = refl
and_true false = refl

-- the bump aboard becomes the next entry
order_ends : (b : Bump) (a : AppliedBump) → a.number ≡ b.number → (es : List AppliedBump) (i : ℕ)
    → in_order i (es ++ a ∷ []) None ≡ in_order i es (Some b)
order_ends b a e [] i = and_true (a.number == i) ∙ ap (λ (n : ℕ). n == i) e
order_ends b a e (x ∷ xs) i = ap (λ (y : Bool). (x.number == i) && y) (order_ends b a e xs (i + 1))

module _ (key : Config) (slots id : ℕ) (k : ClassSheet) (l : LaneSheet) (b : Bump) (out : Outcome)
    (near : b.life.chunk < chunks key) (sl : List (ℕ × Empty)) (aboard : bump_aboard l.stage ≡ Some b)
    (past : is_past_move l.stage ≡ is_moved out) (names : k.applying ≡ application_of l.worker l.stage) where
  refers_is : (d g : ℕ) → refers d g (bump_aboard l.stage) ≡ one_if (life d g) b.life
  refers_is d g = ap (refers d g) aboard

  applied_is : (f : AppliedBump → ℕ) → total f (l.applied ++ entries_of_alight out (bump_aboard l.stage)) ≡ total f
      l.applied + f (record { number = b.number; life = b.life; outcome = out })
  applied_is f = omega (
    arith,
    total_append f l.applied (entries_of_alight out (bump_aboard l.stage)),
    ap (λ (o : Option Bump). total f (entries_of_alight out o)) aboard,
  )

  module _ (n : ℕ) where
    alight_apart : (d : ℕ) → d ≢ b.life.chunk
        → Same d (applying k l) (view_after_alight out b.life.chunk n (applying k l))
    alight_apart d ne (held j) = omega (arith, refers_is d j, other_chunk d j b.life ne)
    alight_apart d ne (named j) = refl
    alight_apart d ne (saw j) = refl
    alight_apart d ne owners = refl
    alight_apart d ne (strays s) = refl
    alight_apart d ne (mislabels i y) = refl
    alight_apart d ne (misreads i j y) = refl
    alight_apart d ne (glanced j) = refl
    alight_apart d ne (misglanced i j y) = refl

    more_evidence : (wk : ℕ) (e : AppliedBump) (o : Outcome) → shown_by o wk e (applying k l) ≤ shown_by o wk e
        (view_after_alight out b.life.chunk n (applying k l))
    more_evidence wk e outcome.Moved = omega arith
    more_evidence wk e outcome.Gone = omega arith
    more_evidence wk e outcome.TimeOnly =
        omega (
          arith,
          total_push (λ z. cond (shows_time_only wk e.number e.life.chunk z) 1 0) l.steps
              (step_of kind.Alight b.life.chunk n (for_bump l)),
        )

    alight_backed : 0 < evidence l.worker (applied_bump b out) (applying k l) → IsBacked (applying k l)
        (view_after_alight out b.life.chunk n (applying k l))
    alight_backed proof = record {
      backs = λ wk d. (more_evidence wk d d.outcome, λ more. claimed wk d more);
      even = λ q. omega (
        arith,
        settle_bits (l.worker == q.worker) (how_many (is_told_moved q.test q.number) l.applied)
            (moving q.test q.number l.stage)
            (cond (is_told_moved q.test q.number (record { number = b.number; life = b.life; outcome = out })) 1 0)
            (moving_of q l.stage b aboard
            ∙ ap (λ (x : Bool). cond (x && ((b.number == q.number) && q.test b.life)) 1 0) past),
        ap (λ (t : ℕ). cond (l.worker == q.worker) (t + 0) 0)
            (applied_is (λ a. cond (is_told_moved q.test q.number a) 1 0)),
      );
      progress = λ q. omega (
        arith,
        ap (names_move q) names,
        names_as_underway q l.worker l.stage,
        no_bits (l.worker == q.worker),
      );
      own = omega arith;
      labels = λ have. (named_labels k None have.0, tt);
      workers = λ w. refl;
      lanes = λ w. refl;
      tidy = omega (
        arith,
        ap {B = ℕ} (λ (x : Bool). cond x 0 1)
            (ap (in_order 0 l.applied) aboard
            ∙ sym (order_ends b (record { number = b.number; life = b.life; outcome = out }) refl l.applied 0)
            ∙ sym (ap (λ (o : Option Bump). in_order 0 (l.applied ++ entries_of_alight out o) None) aboard)),
      );
    }
      where
        claimed : (wk : ℕ) (d : AppliedBump) → claims wk d (applying k l) < claims wk d
            (view_after_alight out b.life.chunk n (applying k l))
            → 0 < evidence wk d (view_after_alight out b.life.chunk n (applying k l))
        claimed wk d more = let bits = claim_bits (l.worker == wk)
            (is_entry d (record { number = b.number; life = b.life; outcome = out }))
            (how_many (is_entry d) l.applied)
            (omega (
              arith,
              more,
              ap (λ (t : ℕ). cond (l.worker == wk) t 0)
                  (applied_is (λ a. cond (is_entry d a) 1 0)),
            )) in
            let is = same_entry_is (record { number = b.number; life = b.life; outcome = out }) d bits.1 in
            let whose = eqb-true l.worker wk bits.0 in
            subst (λ (e : ℕ × AppliedBump). 0 < evidence e.0 e.1
            (view_after_alight out b.life.chunk n (applying k l))) (λ i. (whose i, is i))
            (omega (arith, proof, more_evidence l.worker (applied_bump b out) out))

  pub alights : {law : RowPredicate} (x : ℕ) → 0 < evidence l.worker (applied_bump b out) (applying k l) → Allows (Kept law key) slots id
      (applying k l, sl) (head_place slots b.life.chunk) (λ n. (n + (2 ^ 64 - 1)) % 2 ^ 64)
      (on_chunk (alight_tells out) (step slots (head_place slots b.life.chunk) x 0 none) (applying k l, sl))
  alights x proof = at_chunk (alight_tells out) key slots id (applying k l, sl) b.life.chunk x
      (λ n. (n + (2 ^ 64 - 1)) % 2 ^ 64) near (λ n label t limits o a.
      let g : ℕ = b.life.generation in
      let c : ℕ = b.life.chunk in
      let own : weight c (held g) (applying k l) ≡ 1 = omega (arith, refers_is c g, one_life b.life) in
      let gen : g ≡ o.head.generation = (o.lawful.used g (omega (arith, a.mine (held g)))).0 in
      let many : 0 < o.head.refs = omega (arith, o.lawful.counted, a.mine (held g), ap (λ (j : ℕ). t (held j)) gen) in
      let w : View = view_after_alight out b.life.chunk n (applying k l) in (
        w,
        (λ u moves. record {
          head = record o.head { refs = o.head.refs - 1 };
          at = o.at;
          spells = one_less n o.head o.spells many;
          lawful = subst (λ (y : ℕ → ℕ). Lawful key.refs_limit (record o.head { refs = o.head.refs - 1 }) o.at
              (λ j. u (held j)) y) (λ i j. level (t (named j)) (u (named j)) 0 (moves (named j)) i)
              (unreferred key.refs_limit o.head o.at (λ j. t (held j)) (λ j. t (named j)) o.lawful (λ j. u (held j))
              (subst (λ (j : ℕ). u (held j) + 1 ≡ t (held j)) gen (omega (arith, moves (held g))))
              (λ j ne. omega (arith, moves (held j), refers_is c j, other_life b.life j (λ q. ne (q ∙ gen)))));
          owned = omega (arith, moves owners, o.owned);
          agreed = omega (arith, moves (strays (o.at, o.head.generation)), o.agreed);
          labelled = λ i. omega (arith, moves (mislabels i (label i)), o.labelled i);
          read = λ i. omega (arith, moves (misreads i o.head.generation (label i)), o.read i);
          ahead = λ j far. omega (arith, moves (glanced j), o.ahead j far);
          faithful = λ lit i. omega (arith, moves (misglanced i o.head.generation (label i)), o.faithful lit i);
          obeys = o.obeys;
          hit = λ j some. omega (arith, moves (named j), o.hit j (omega (arith, some, moves (saw j))));
        }),
        (λ d ne. alight_apart n d ne),
        alight_backed n proof,
        (refl, (o.head, o.spells, tells c key.refs_limit n label (applying k l) t o a)),
      ))

-- for the contract
pub may_alight : {law : RowPredicate} (key : Config) (slots id c x : ℕ) (out : Outcome) (m : Sat) → c < chunks key → MayAlight c out m.0
    → Allows (Kept law key) slots id m (head_place slots c) (λ n. (n + (2 ^ 64 - 1)) % 2 ^ 64)
    (on_chunk (alight_tells out) (step slots (head_place slots c) x 0 none) m)
may_alight {law = law} key slots id c x out m near may = let k : ClassSheet = may.0 in let l : LaneSheet = may.1 in let b : Bump =
    may.2 in let g : Alights c out m.0 k l b = may.3 in
    subst (λ (y : ℕ × View). Allows (Kept law key) slots id (y.1, m.1) (head_place slots y.0) (λ n. (n + (2 ^ 64 - 1)) % 2 ^ 64)
    (on_chunk (alight_tells out) (step slots (head_place slots y.0) x 0 none) (y.1, m.1))) (λ i. (g.chunk i, sym g.view i))
    (alights key slots id k l b out (omega (arith, g.chunk)) m.1 g.aboard g.past g.named x g.proof)
