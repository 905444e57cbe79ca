-- A reader's steps on references and words: whatever the other seats have, its seat can go on.
use Rattle.std.proofs.Common.{◌≡◌, ◌≢◌, ℕ, suc, get_or, ◌+◌, ◌-◌, ◌*◌, ◌/◌, ◌%◌, ◌^◌, ◌<◌, ◌≤◌, ◌&&◌, ◌==◌, eqb, cond, not, nat_lt, Bool, true, false, List, [], ◌∷◌, ◌++◌, None, refl, sym, ap, ◌∙◌, subst, arith, mul-zero, eq-eqb, eqb-true}
use Rattle.std.specs.Prelude.{if◌then◌else◌}
use Rattle.std.proofs.lemmas.Bool.{and_parts, ltb-true}
use mathlib.Core.Option.{none}
use native.Mathlib.Nat.{zero-mul}
use prog.Atomic.{either}
use Rattle.atomic_table.specs.Table.{step, Allows, Enters}
use Rattle.atomic_table.proofs.Lists.{exchanged}
use Rattle.bump_rules.specs.declared.bumps.AppliedBump.{AppliedBump}
use Rattle.bump_rules.specs.declared.bumps.Outcome.{Outcome}
use Rattle.bump_rules.specs.declared.bumps.Outcome.TheVariants as outcome
use Rattle.bump_rules.specs.declared.configs.Config.{Config}
use Rattle.bump_rules.specs.declared.items.Head.{Head}
use Rattle.bump_rules.specs.declared.items.ItemId.{ItemId}
use Rattle.bump_rules.specs.History.{Standing}
use Rattle.bump_rules.specs.Lawful.{Lawful}
use Rattle.bump_rules.specs.Lives.{life, one_if, count_of}
use Rattle.bump_rules.specs.Tables.{is_of, get_of, IsHeld, IsStale, IsRefsFull}
use Rattle.bump_rules.specs.Totals.{total, how_many}
use Rattle.bump_rules.proofs.Laws.{used_where_linked, referred, unreferred}
use Rattle.bump_rules.proofs.Updates.{total_push}
use Rattle.bump_word.specs.Layout.{generation_first}
use Rattle.bump_word.specs.Words.{Spells}
use Rattle.bump_word.proofs.Steps.{one_more_next, one_less}
use Rattle.bump_word.proofs.Words.{fields, one_head}
use Rattle.bump_steps.specs.declared.views.GivenBack.{GivenBack}
use Rattle.bump_steps.specs.declared.views.HoldSheet.{HoldSheet}
use Rattle.bump_steps.specs.declared.views.Kind.{Kind}
use Rattle.bump_steps.specs.declared.views.Kind.TheVariants as kind
use Rattle.bump_steps.specs.declared.views.View.{View}
use Rattle.bump_steps.specs.declared.views.WorkerSheet.{WorkerSheet}
use Rattle.bump_steps.specs.Places.{head_place}
use Rattle.bump_steps.specs.Plays.{Sat, Found, on_chunk, on_row, on_label, on_word, behind, on_first, step_of}
use Rattle.bump_steps.specs.Marks.{noted, on_worker}
use Rattle.bump_steps.specs.References.{load_to_take_tells, new_hold, worker_after_take, view_after_take, take_tells, HasHold, view_after_release, release_of_hold_tells, hold_after_load, view_after_load_of_hold, load_of_hold_tells, IsRow, IsOfRow, label_load_tells, word_load_tells, IsAnyHead, load_without_seat_tells, seen_me}
use Rattle.bump_steps.specs.Rule.{RowPredicate, Sound, chunks, Kept, HasFittingLimit}
use Rattle.bump_steps.specs.Views.{Measure, held, named, saw, owners, strays, mislabels, misreads, glanced, misglanced, glances_at, misglances_at, is_fetch, is_fetch_of, in_hand, misread, weight, tally, claims, evidence, shown_by, moves, settled, in_progress, underway, foreign, workers_of, lane_count_of, untidy, IsBacked}
use Rattle.bump_steps.proofs.LifeLabels.{labelled_push}
use Rattle.bump_steps.proofs.Frame.{Same, Amid, Reaches, on_words_load, same_sound}
use Rattle.bump_steps.proofs.StepLemmas.{at_chunk, at_row, at_label, at_word, on_first_total, same_counts, level, one_life, other_life, other_chunk, chunk_is}
use Rattle.bump_steps.proofs.Told.{tells}

-- Two views count the same for the chunk but for references, and the second one no more holds in whose row there is
-- another word than x.
record Beside (c : ℕ) (x : ℕ → ℕ) (v w : View) : Type 0 where
  first_hits : (g : ℕ) → weight c (named g) w ≡ weight c (named g) v
  fetches : (g : ℕ) → weight c (saw g) w ≡ weight c (saw g) v
  owning : weight c owners w ≡ weight c owners v
  straying : (s : Standing) → weight c (strays s) w ≡ weight c (strays s) v
  labels : (i y : ℕ) → weight c (mislabels i y) w ≡ weight c (mislabels i y) v
  reads : (i g : ℕ) → weight c (misreads i g (x i)) w ≤ weight c (misreads i g (x i)) v
  glances : (g : ℕ) → weight c (glanced g) w ≡ weight c (glanced g) v
  glimpses : (i g y : ℕ) → weight c (misglanced i g y) w ≡ weight c (misglanced i g y) v

-- what counts the same on both sides of a step is the same before and behind it
same_where : (p q a b : ℕ) → q + a ≡ p + b → b ≡ a → p ≡ q
same_where p q a b moved same = omega arith

-- where only the count of references changes, and with it the references of the views, the chunk stays sound
refs_sound : {law : RowPredicate} (limit n p : ℕ) (x : ℕ → ℕ) (c r : ℕ) (v w : View) (t u : Measure → ℕ)
    → ((y : Measure) → u y + weight c y v ≡ t y + weight c y w) → (o : Sound law limit n x t)
    → Spells p (record o.head { refs = r })
    → Lawful limit (record o.head { refs = r }) o.at (λ g. u (held g)) (λ g. t (named g)) → Beside c x v w
    → Sound law limit p x u
refs_sound limit n p x c r v w t u moved o spells lawful b = record {
  head = record o.head { refs = r };
  at = o.at;
  spells = spells;
  lawful = subst (λ (y : ℕ → ℕ). Lawful limit (record o.head { refs = r }) o.at (λ g. u (held g)) y)
      (λ i g. same_where (t (named g)) (u (named g)) (weight c (named g) v) (weight c (named g) w) (moved (named g))
      (b.first_hits g) i) lawful;
  owned = omega (arith, moved owners, b.owning, o.owned);
  agreed = omega (arith, moved (strays (o.at, o.head.generation)), b.straying (o.at, o.head.generation), o.agreed);
  labelled = λ i. omega (arith, moved (mislabels i (x i)), b.labels i (x i), o.labelled i);
  read = λ i. omega (
    arith,
    moved (misreads i o.head.generation (x i)),
    b.reads i o.head.generation,
    o.read i,
  );
  ahead = λ g far. omega (arith, moved (glanced g), b.glances g, o.ahead g far);
  faithful = λ lit i. omega (
    arith,
    moved (misglanced i o.head.generation (x i)),
    b.glimpses i o.head.generation (x i),
    o.faithful lit i,
  );
  obeys = o.obeys;
  hit = λ g some. omega (
    arith,
    moved (named g),
    b.first_hits g,
    o.hit g (omega (arith, some, moved (saw g), b.fetches g)),
  );
}

-- workers' and holds' sheets show nothing of entries and of moves, and so do marks of what was given back
quiet : (v : View) (ws : List WorkerSheet) (hs : List HoldSheet) (gs : List GivenBack)
    → ((n : ℕ) → total (λ w. cond (w.worker == n) 1 0) ws ≡ workers_of n v)
    → IsBacked v (record v { workers = ws; holds = hs; returned = gs })
quiet v ws hs gs same = record {
  backs = λ wk a. (by wk a a.outcome, λ more. absurd (omega arith));
  even = λ q. omega arith;
  progress = λ q. omega arith;
  own = omega arith;
  labels = λ have. have;
  workers = same;
  lanes = λ w. refl;
  tidy = omega arith;
}
  where
    by : (wk : ℕ) (a : AppliedBump) (o : Outcome) → shown_by o wk a v ≤ shown_by o wk a
        (record v { workers = ws; holds = hs; returned = gs })
    by wk a outcome.Moved = omega arith
    by wk a outcome.Gone = omega arith
    by wk a outcome.TimeOnly = omega arith

-- a worker that notes a step keeps its number
same_workers : (k : Kind) (c n : ℕ) (v : View) (w : ℕ) → total (λ p. cond (p.worker == w) 1 0)
    (on_first (noted k c n) v.workers) ≡ workers_of w v
same_workers k c n v w = on_first_total (λ p. cond (p.worker == w) 1 0) (noted k c n) (λ p. refl) v.workers

module _ (step_kind : Kind) (plain : is_fetch step_kind ≡ false) (c n : ℕ) where
  -- a step that sets no mark is no fetch
  no_fetch : (b g : ℕ) (w : WorkerSheet) → how_many (is_fetch_of b g) (noted step_kind c n w).steps ≡ how_many
      (is_fetch_of b g) w.steps
  no_fetch b g w = omega (
    arith,
    total_push (λ x. cond (is_fetch_of b g x) 1 0) w.steps (step_of step_kind c n None),
    ap {B = ℕ} (λ (f : Bool). cond (f && ((c == b) && (n / 2 ^ generation_first == g))) 1 0) plain,
  )

  -- so a view counts the same with it
  noted_same : (v : View) (hs : List HoldSheet) (b : ℕ) (y : Measure)
      → weight b y (record v { workers = on_first (noted step_kind c n) v.workers; holds = hs }) ≡ weight b y
      (record v { holds = hs })
  noted_same v hs b (held g) =
      omega (arith, on_first_total (λ w. in_hand b g w.hand) (noted step_kind c n) (λ w. refl) v.workers)
  noted_same v hs b (named g) = on_first_total (λ w. count_of (life b g) w.hits) (noted step_kind c n) (λ w. refl)
      v.workers
  noted_same v hs b (saw g) = on_first_total (λ w. how_many (is_fetch_of b g) w.steps) (noted step_kind c n)
      (λ w. no_fetch b g w) v.workers
  noted_same v hs b owners = refl
  noted_same v hs b (strays s) = refl
  noted_same v hs b (mislabels i x) = refl
  noted_same v hs b (misreads i g x) = refl
  noted_same v hs b (glanced g) = on_first_total (glances_at b g) (noted step_kind c n) (λ w. refl) v.workers
  noted_same v hs b (misglanced i g x) = on_first_total (misglances_at i b g x) (noted step_kind c n) (λ w. refl)
      v.workers

-- and so does one whose worker noted a hold that it took
took_same : (c n : ℕ) (row : List ℕ) (v : View) (hs : List HoldSheet) (b : ℕ) (y : Measure)
    → weight b y (record v { workers = on_first (worker_after_take c n row) v.workers; holds = hs }) ≡ weight b y
    (record v { holds = hs })
took_same c n row v hs b (held g) =
    omega (arith, on_first_total (λ w. in_hand b g w.hand) (worker_after_take c n row) (λ w. refl) v.workers)
took_same c n row v hs b (named g) =
    on_first_total (λ w. count_of (life b g) w.hits) (worker_after_take c n row) (λ w. refl) v.workers
took_same c n row v hs b (saw g) = on_first_total (λ w. how_many (is_fetch_of b g) w.steps) (worker_after_take c n row)
    (λ w. no_fetch kind.Take refl c n b g w) v.workers
took_same c n row v hs b owners = refl
took_same c n row v hs b (strays s) = refl
took_same c n row v hs b (mislabels i x) = refl
took_same c n row v hs b (misreads i g x) = refl
took_same c n row v hs b (glanced g) = on_first_total (glances_at b g) (worker_after_take c n row) (λ w. refl) v.workers
took_same c n row v hs b (misglanced i g x) =
    on_first_total (misglances_at i b g x) (worker_after_take c n row) (λ w. refl) v.workers

-- it keeps its number too
took_workers : (c n : ℕ) (row : List ℕ) (v : View) (w : ℕ) → total (λ p. cond (p.worker == w) 1 0)
    (on_first (worker_after_take c n row) v.workers) ≡ workers_of w v
took_workers c n row v w = on_first_total (λ p. cond (p.worker == w) 1 0) (worker_after_take c n row) (λ p. refl)
    v.workers

-- a view counts the same where its first hold noted a look
looked_same : (n : ℕ) (v : View) (b : ℕ) → Same b v (view_after_load_of_hold n v)
looked_same n v b (held g) =
    omega (arith, on_first_total (λ p. one_if (life b g) p.life) (hold_after_load n) (λ p. refl) v.holds)
looked_same n v b (named g) = refl
looked_same n v b (saw g) = refl
looked_same n v b owners = refl
looked_same n v b (strays s) = refl
looked_same n v b (mislabels i x) = refl
looked_same n v b (misreads i g x) =
    omega (arith, on_first_total (misread i b g x) (hold_after_load n) (λ p. refl) v.holds)
looked_same n v b (glanced g) = refl
looked_same n v b (misglanced i g x) = refl

-- by the get table, a word by which a get is a hold is linked, of the generation, and has a count under the limit
pub held_is : (limit g : ℕ) (h : Head) → get_of limit g h ≡ IsHeld → (h.linked ≡ true) × (h.generation ≡ g)
    × (h.refs < limit)
held_is limit g h is = by (is_of g h) refl (nat_lt h.refs limit) refl is
  where
    by : (of : Bool) → is_of g h ≡ of → (few : Bool) → nat_lt h.refs limit ≡ few
        → (if not of then IsStale else (if few then IsHeld else IsRefsFull)) ≡ IsHeld → (h.linked ≡ true)
        × (h.generation ≡ g) × (h.refs < limit)
    by true of true few is = let p = and_parts h.linked (h.generation == g) of in
        (p.0, eqb-true h.generation g p.1, ltb-true h.refs limit few)
    by true of false few is = absurd (cc is)
    by false of few less is = absurd (cc is)

-- a new hold with the chunk's row has no other word
same_row : (i b j : ℕ) (l : ItemId) (row : List ℕ) → misread i b j (get_or row i 0) (new_hold l row) ≡ 0
same_row i b j l row = ap (λ (z : Bool). one_if (life b j) l * cond z 0 1) (eq-eqb (get_or row i 0) (get_or row i 0) refl)
    ∙ mul-zero (one_if (life b j) l)

-- of the first hold, of this chunk, it is known that
module _ {law : RowPredicate} (c limit n : ℕ) (x : ℕ → ℕ) (v : View) (t : Measure → ℕ) (o : Sound law limit n x t) (a : Amid c v t) (h : HoldSheet)
    (is : v.holds ≡ h ∷ behind v.holds) (of : h.life.chunk ≡ c) where
  one_first : one_if (life c h.life.generation) h.life ≡ 1
  one_first = ap (λ (d : ℕ). one_if (life d h.life.generation) h.life) (sym of) ∙ one_life h.life

  -- its life is the chunk's
  pub first_life : h.life.generation ≡ o.head.generation
  first_life = (o.lawful.used h.life.generation
      (omega (
        arith,
        a.mine (held h.life.generation),
        ap (total (λ (p : HoldSheet). one_if (life c h.life.generation) p.life)) is,
        one_first,
      ))).0

  -- and its row the chunk's
  pub first_row : (i : ℕ) → x i ≡ get_or h.row i 0
  first_row i = sym (eqb-true (get_or h.row i 0) (x i) (no_other (eqb (get_or h.row i 0) (x i)) none))
    where
      no_other : (b : Bool) → 1 * cond b 0 1 ≡ 0 → b ≡ true
      no_other true e = refl
      no_other false e = absurd (omega (arith, e))

      none : 1 * cond (eqb (get_or h.row i 0) (x i)) 0 1 ≡ 0
      none = subst (λ (k : ℕ). k * cond (eqb (get_or h.row i 0) (x i)) 0 1 ≡ 0) one_first
          (subst (λ (j : ℕ). misread i c j (x i) h ≡ 0) (sym first_life)
          (omega (
            arith,
            a.mine (misreads i o.head.generation (x i)),
            o.read i,
            ap (total (misread i c o.head.generation (x i))) is,
          )))

module _ (key : Config) (slots id : ℕ) (m : Sat) (c : ℕ) (near : c < chunks key) where
  -- a load by a worker, or its exchange that failed, changes no word, and nothing that counts
  pub reaches_by_look : {law : RowPredicate} (kind : Kind) → is_fetch kind ≡ false → (n : ℕ) (x : ℕ → ℕ) (t : Measure → ℕ) (tell : Sat → Type 0)
      → Sound law key.refs_limit n x t
      → tell (on_worker (noted kind c n) m.0, m.1) → Reaches law key c m tell n x t
  reaches_by_look kind plain n x t tell o told = (
    on_worker (noted kind c n) m.0,
    (λ u moved. same_sound key.refs_limit n x t u
        (same_counts c m.0 (on_worker (noted kind c n) m.0) t u (noted_same kind plain c n m.0 m.0.holds c) moved) o),
    (λ b ne. noted_same kind plain c n m.0 m.0.holds b),
    quiet m.0 (on_first (noted kind c n) m.0.workers) m.0.holds m.0.returned (same_workers kind c n m.0),
    told,
  )

  -- a load by a worker
  pub may_load_to_take : {law : RowPredicate} → Allows (Kept law key) slots id m (head_place slots c) (λ n. n)
      (on_chunk load_to_take_tells (step slots (head_place slots c) 0 0 none) m)
  may_load_to_take = at_chunk load_to_take_tells key slots id m c 0 (λ n. n) near
      (λ n x t limits o a. reaches_by_look kind.Load refl n x t (load_to_take_tells c 0 m n) o
      (refl, (o.head, o.spells, tells c key.refs_limit n x m.0 t o a)))

  -- a load by a hold changes no word, and nothing that counts
  pub may_look_of_hold : {law : RowPredicate} → Allows (Kept law key) slots id m (head_place slots c) (λ n. n)
      (on_chunk load_of_hold_tells (step slots (head_place slots c) 0 0 none) m)
  may_look_of_hold = at_chunk load_of_hold_tells key slots id m c 0 (λ n. n) near (λ n x t limits o a. (
    view_after_load_of_hold n m.0,
    (λ u moved. same_sound key.refs_limit n x t u
        (same_counts c m.0 (view_after_load_of_hold n m.0) t u (looked_same n m.0 c) moved) o),
    (λ b ne. looked_same n m.0 b),
    quiet m.0 m.0.workers (on_first (hold_after_load n) m.0.holds) m.0.returned (λ w. refl),
    (refl, (o.head, o.spells, tells c key.refs_limit n x m.0 t o a)),
  ))

  -- a reference is taken where the word is the one that the exchange expects
  won : {law : RowPredicate} (g old : ℕ) (h : Head) → Spells old h → get_of key.refs_limit g h ≡ IsHeld → (row : List ℕ) → IsRow slots row
      → (n : ℕ) (t : Measure → ℕ)
      → HasFittingLimit key → Sound law key.refs_limit n (λ i. get_or row i 0) t → Amid c m.0 t → n ≡ old
      → Reaches law key c m (take_tells law slots c old m n) (old + 1) (λ i. get_or row i 0) t
  won g old h is may row long n t limits o a hit =
      let x : ℕ → ℕ = λ i. get_or row i 0 in
      let now : o.head ≡ h = one_head n o.head h o.spells (hit ∙ is.0, is.1) in
      let can = held_is key.refs_limit g h may in
      let k : ℕ = n / 2 ^ generation_first in
      let gen : k ≡ o.head.generation = (fields n o.head o.spells).generation in
      let lit : o.head.linked ≡ true = ap (λ (z : Head). z.linked) now ∙ can.0 in
      let less : o.head.refs < key.refs_limit = omega (arith, ap (λ (z : Head). z.refs) now, can.2) in
      let here : one_if (life c o.head.generation) (life c k) ≡ 1 = ap (λ (j : ℕ). one_if (life c j) (life c k))
      (sym gen) ∙ one_life (life c k) in
      let hs : List HoldSheet = new_hold (life c k) row ∷ m.0.holds in
      let same : (b : ℕ) (y : Measure) → weight b y (view_after_take c n row m.0) ≡ weight b y
      (record m.0 { holds = hs }) = took_same c n row m.0 hs in (
        view_after_take c n row m.0,
        (λ u moved. refs_sound key.refs_limit n (old + 1) x c (o.head.refs + 1) m.0 (view_after_take c n row m.0) t u
            moved o
            (subst (λ (j : ℕ). Spells (j + 1) (record o.head { refs = o.head.refs + 1 })) hit
            (one_more_next n o.head o.spells (omega (arith, less, limits.1))))
            (referred key.refs_limit o.head o.at (λ j. t (held j)) (λ j. t (named j)) o.lawful (λ j. u (held j))
            (used_where_linked o.head o.at o.lawful.shown lit) less
            (omega (arith, moved (held o.head.generation), same c (held o.head.generation), here))
            (λ j ne. omega (arith, moved (held j), same c (held j), other_life (life c k) j (λ e. ne (e ∙ gen)))))
            (record {
              first_hits = λ j. same c (named j);
              fetches = λ j. same c (saw j);
              owning = same c owners;
              straying = λ s. same c (strays s);
              labels = λ i y. same c (mislabels i y);
              reads =
                  λ i j. omega (arith, same c (misreads i j (x i)), same_row i c j (life c k) row);
              glances = λ j. same c (glanced j);
              glimpses = λ i j y. same c (misglanced i j y);
            })),
        apart (view_after_take c n row m.0) k hs same,
        quiet m.0 (on_first (worker_after_take c n row) m.0.workers) hs m.0.returned (took_workers c n row m.0),
        (
          (λ _. (row, long, o.obeys lit, refl)),
          (λ miss. absurd (miss hit)),
          (o.head, o.spells, tells c key.refs_limit n x m.0 t o a),
        ),
      )
    where
      -- a new hold counts for its own chunk alone
      apart : (w : View) (k : ℕ) (hs : List HoldSheet)
          → ((b : ℕ) (y : Measure) → weight b y w ≡ weight b y
          (record m.0 { holds = new_hold (life c k) row ∷ m.0.holds })) → (b : ℕ) → b ≢ c → Same b m.0 w
      apart w k hs same b ne (held j) = omega (arith, same b (held j), other_chunk b j (life c k) ne)
      apart w k hs same b ne (named j) = same b (named j)
      apart w k hs same b ne (saw j) = same b (saw j)
      apart w k hs same b ne owners = same b owners
      apart w k hs same b ne (strays s) = same b (strays s)
      apart w k hs same b ne (mislabels i y) = same b (mislabels i y)
      apart w k hs same b ne (misreads i j y) = omega (
        arith,
        same b (misreads i j y),
        ap (λ (z : ℕ). z * cond (eqb (get_or row i 0) y) 0 1) (other_chunk b j (life c k) ne),
        zero-mul (cond (eqb (get_or row i 0) y) 0 1),
      )
      apart w k hs same b ne (glanced j) = same b (glanced j)
      apart w k hs same b ne (misglanced i j y) = same b (misglanced i j y)

  -- the exchange that takes a hold
  pub may_take : {law : RowPredicate} (g old : ℕ) (h : Head) → Spells old h → get_of key.refs_limit g h ≡ IsHeld
      → Allows (Kept law key) slots id m (head_place slots c) (λ n. either (eqb n old) (old + 1) n)
      (on_row (take_tells law) (step slots (head_place slots c) old (old + 1) none) m)
  may_take {law = law} g old h is may = at_row (take_tells law) key slots id m c old (λ n. either (eqb n old) (old + 1) n) near
      (λ row long n t limits o a.
      let x : ℕ → ℕ = λ i. get_or row i 0 in
      exchanged n old (old + 1) (λ p. Reaches law key c m (take_tells law slots c old m n) p x t)
      (λ hit. won g old h is may row long n t limits o a hit)
      (λ miss. reaches_by_look kind.Failed refl n x t (take_tells law slots c old m n) o (
        (λ hit. absurd (miss hit)),
        (λ _. refl),
        (o.head, o.spells, tells c key.refs_limit n x m.0 t o a),
      )))

  module _ (h : HoldSheet) (is : m.0.holds ≡ h ∷ behind m.0.holds) (of : h.life.chunk ≡ c) where
    -- the first hold's term, and those of the others
    first_term : (f : HoldSheet → ℕ) → total f m.0.holds ≡ f h + total f (behind m.0.holds)
    first_term f = ap (total f) is

    one_here : one_if (life c h.life.generation) h.life ≡ 1
    one_here = ap (λ (d : ℕ). one_if (life d h.life.generation) h.life) (sym of) ∙ one_life h.life

    other_here : (j : ℕ) → j ≢ h.life.generation → one_if (life c j) h.life ≡ 0
    other_here j ne = ap (λ (d : ℕ). one_if (life d j) h.life) (sym of) ∙ other_life h.life j ne

    none_there : (b j : ℕ) → b ≢ c → one_if (life b j) h.life ≡ 0
    none_there b j ne = other_chunk b j h.life (λ e. ne (e ∙ of))

    -- its row counts for its own chunk alone
    unread_there : (b j : ℕ) (more : ℕ) → b ≢ c → one_if (life b j) h.life * more ≡ 0
    unread_there b j more ne = ap (λ (k : ℕ). k * more) (none_there b j ne) ∙ zero-mul more

    fewer : (n b : ℕ) → b ≢ c → Same b m.0 (view_after_release n m.0)
    fewer n b ne (held j) = omega (arith, first_term (λ p. one_if (life b j) p.life), none_there b j ne)
    fewer n b ne (named j) = refl
    fewer n b ne (saw j) = refl
    fewer n b ne owners = refl
    fewer n b ne (strays s) = refl
    fewer n b ne (mislabels i y) = refl
    fewer n b ne (misreads i j y) =
        omega (
          arith,
          first_term (misread i b j y),
          unread_there b j (cond (eqb (get_or h.row i 0) y) 0 1) ne,
        )
    fewer n b ne (glanced j) = refl
    fewer n b ne (misglanced i j y) = refl

    -- a hold gives its reference back
    releases : {law : RowPredicate} → Allows (Kept law key) slots id m (head_place slots c) (λ n. (n + (2 ^ 64 - 1)) % 2 ^ 64)
        (on_chunk release_of_hold_tells (step slots (head_place slots c) 1 0 none) m)
    releases = at_chunk release_of_hold_tells key slots id m c 1 (λ n. (n + (2 ^ 64 - 1)) % 2 ^ 64) near
        (λ n x t limits o a.
        let g : ℕ = h.life.generation in
        let gen : g ≡ o.head.generation = first_life c key.refs_limit n x m.0 t o a h is of in
        let mine : weight c (held g) m.0 ≡ 1 + weight c (held g) (view_after_release n m.0) =
        omega (arith, first_term (λ p. one_if (life c g) p.life), one_here) in
        let many : 0 < o.head.refs =
        omega (arith, o.lawful.counted, a.mine (held g), mine, ap (λ (j : ℕ). t (held j)) gen) in (
          view_after_release n m.0,
          (λ u moved. refs_sound key.refs_limit n ((n + (2 ^ 64 - 1)) % 2 ^ 64) x c (o.head.refs - 1) m.0
              (view_after_release n m.0) t u moved o (one_less n o.head o.spells many)
              (unreferred key.refs_limit o.head o.at (λ j. t (held j)) (λ j. t (named j)) o.lawful (λ j. u (held j))
              (subst (λ (j : ℕ). u (held j) + 1 ≡ t (held j)) gen (omega (arith, moved (held g), mine)))
              (λ j ne. omega (
                arith,
                moved (held j),
                first_term (λ p. one_if (life c j) p.life),
                other_here j (λ e. ne (e ∙ gen)),
              )))
              (record {
                first_hits = λ j. refl;
                fetches = λ j. refl;
                owning = refl;
                straying = λ s. refl;
                labels =
                    λ i y. refl;
                reads = λ i j. omega (arith, first_term (misread i c j (x i)));
                glances = λ j. refl;
                glimpses = λ i j y. refl;
              })),
          fewer n,
          quiet m.0 m.0.workers (behind m.0.holds) (view_after_release n m.0).returned (λ w. refl),
          (refl, (o.head, o.spells, tells c key.refs_limit n x m.0 t o a)),
        ))

  -- for the contract
  pub may_release : {law : RowPredicate} → HasHold c m.0 → Allows (Kept law key) slots id m (head_place slots c) (λ n. (n + (2 ^ 64 - 1)) % 2 ^ 64)
      (on_chunk release_of_hold_tells (step slots (head_place slots c) 1 0 none) m)
  may_release has = releases has.0 has.1 has.2

  -- A load of word i by a hold changes nothing: it finds the word of the hold's row.
  may_read : {law : RowPredicate} (i : ℕ) → i ≤ slots → Allows (Kept law key) slots id m (head_place slots c + (2 + i)) (λ x. x)
      (λ y w. (w ≡ m) × IsOfRow i c m.0 y)
  may_read i low = on_words_load key slots id m c i (λ y w. (w ≡ m) × IsOfRow i c m.0 y) low near
      (λ n x t limits o a. (
        m.0,
        (λ u moved. same_sound key.refs_limit n x t u (λ y. sym (level (t y) (u y) (weight c y m.0) (moved y))) o),
        (λ b ne y. refl),
        quiet m.0 m.0.workers m.0.holds m.0.returned (λ w. refl),
        (refl, λ h is of. first_row c key.refs_limit n x m.0 t o a h is of i),
      ))

  -- a load of a label word, by a hold
  pub may_load_label : {law : RowPredicate} → Allows (Kept law key) slots id m (head_place slots c + (2 + 0)) (λ x. x)
      (on_label label_load_tells (step slots (head_place slots c + (2 + 0)) 0 0 none) m)
  may_load_label = at_label label_load_tells key slots id m c 0 (λ x. x) (λ x. x) (may_read 0 (omega arith))

  -- and of a further word
  pub may_load_word : {law : RowPredicate} (j : ℕ) → j < slots → Allows (Kept law key) slots id m (head_place slots c + (2 + suc j)) (λ x. x)
      (on_word word_load_tells (step slots (head_place slots c + (2 + suc j)) 0 0 none) m)
  may_load_word j low = at_word word_load_tells key slots id m c j 0 (λ x. x) (λ x. x) low
      (may_read (suc j) (omega (arith, low)))

-- the view that has no sheet counts nothing
nothing : (b c n : ℕ) (y : Measure) → weight b y (seen_me c n).0 ≡ 0
nothing b c n (held g) = refl
nothing b c n (named g) = refl
nothing b c n (saw g) = refl
nothing b c n owners = refl
nothing b c n (strays s) = refl
nothing b c n (mislabels i x) = refl
nothing b c n (misreads i g x) = refl
nothing b c n (glanced g) = refl
nothing b c n (misglanced i g x) = refl

-- a load of a head word, without a seat
pub may_load_without_seat : {law : RowPredicate} (key : Config) (slots c : ℕ) (first : View) → c < chunks key → Enters (Kept law key) slots
    (head_place slots c) (λ n w. on_chunk (load_without_seat_tells key.refs_limit) (step slots (head_place slots c) 0 0 none)
    (first, []) n (w, []))
may_load_without_seat key slots c first near s o count small =
    let e = o.each c near in
    let n : ℕ = get_or s.words (head_place slots c) 0 in (
      (seen_me c n).0,
      record {
        wide = o.wide;
        small = o.small;
        each = λ b h. same_sound key.refs_limit _ _ (tally s.views b) (tally (s.views ++ (seen_me c n).0 ∷ []) b)
            (λ y. omega (arith, total_push (weight b y) s.views (seen_me c n).0, nothing b c n y)) (o.each b h);
        one_class = λ b. omega (arith, total_push (weight b owners) s.views (seen_me c n).0, o.one_class b);
        true_entries = λ w a many. let old = o.true_entries w a in
            omega (
              arith,
              total_push (evidence w a) s.views (seen_me c n).0,
              old (omega (arith, many, total_push (claims w a) s.views (seen_me c n).0)),
            );
        even_moves = λ q. omega (
          arith,
          total_push (moves q) s.views (seen_me c n).0,
          total_push (settled q) s.views (seen_me c n).0,
          o.even_moves q,
        );
        named_moves = λ q. omega (
          arith,
          total_push (in_progress q) s.views (seen_me c n).0,
          total_push (underway q) s.views (seen_me c n).0,
          o.named_moves q,
        );
        own_chunks = omega (arith, total_push foreign s.views (seen_me c n).0, o.own_chunks);
        own_labels = labelled_push s.views (seen_me c n).0 o.own_labels tt;
        one_worker = λ k. omega (arith, total_push (workers_of k) s.views (seen_me c n).0, o.one_worker k);
        one_lane = λ k. omega (arith, total_push (lane_count_of k) s.views (seen_me c n).0, o.one_lane k);
        few_lanes = λ k far. omega (arith, total_push (lane_count_of k) s.views (seen_me c n).0, o.few_lanes k far);
        orderly = omega (arith, total_push untidy s.views (seen_me c n).0, o.orderly);
      },
      λ d at. (
        ap (λ (b : ℕ). seen_me b n) (chunk_is slots c d 0 (omega arith) (omega (arith, at))),
        subst (λ (z : ℕ). Found (get_or s.words (head_place z c) 0) (IsAnyHead key.refs_limit)) count (
          e.head,
          e.spells,
          record {
            within = e.lawful.within;
            linked = omega (arith, e.lawful.counted);
            active =
                e.lawful.active;
          },
        ),
      ),
    )
