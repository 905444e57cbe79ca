-- The marks that a worker leaves, and its time: whatever the other seats have, a worker's seat can go on.
use Rattle.std.proofs.Common.{◌≡◌, ℕ, ◌+◌, ◌-◌, ◌/◌, ◌^◌, ◌<◌, ◌≤◌, ◌≢◌, ◌&&◌, ◌==◌, cond, not, Bool, true, false, List, [], ◌∷◌, length, None, refl, sym, ap, ◌∙◌, subst, arith, eq-eqb, ne_eqb, bit_or, bit_and, if◌then◌else◌}
use mathlib.Core.Logic.{dite}
use mathlib.Core.Option.{none}
use native.Mathlib.Decide.{ℕ_discrete}
use Rattle.atomic_table.specs.Table.{step, Allows}
use Rattle.bump_rules.specs.declared.hands.Hand.{Hand}
use Rattle.bump_rules.specs.declared.hands.Hand.TheVariants as hand
use Rattle.bump_rules.specs.declared.items.Head.{Head}
use Rattle.bump_rules.specs.declared.items.ItemId.{ItemId}
use Rattle.bump_rules.specs.declared.configs.Config.{Config}
use Rattle.bump_rules.specs.declared.bumps.AppliedBump.{AppliedBump}
use Rattle.bump_rules.specs.declared.bumps.Outcome.{Outcome}
use Rattle.bump_rules.specs.declared.bumps.Outcome.TheVariants as outcome
use Rattle.bump_rules.specs.Lawful.{bit, Lawful}
use Rattle.bump_rules.specs.Heads.{fetched_head, marked_head, cleared_head}
use Rattle.bump_rules.specs.Lives.{life, one_if, count_of}
use Rattle.bump_rules.specs.Tables.{is_cold}
use Rattle.bump_rules.specs.Totals.{total, how_many}
use Rattle.bump_rules.proofs.Laws.{relawful, named_first, fetched_again, marked as marked_law}
use Rattle.bump_rules.proofs.Updates.{total_push, count_push}
use Rattle.bump_word.specs.Layout.{fetched_first, active_first, generation_first}
use Rattle.bump_word.specs.Words.{word_of}
use Rattle.bump_word.proofs.Words.{fields}
use Rattle.bump_word.proofs.Steps.{set_fetched, set_active, clear_active}
use Rattle.bump_steps.specs.declared.views.Kind.{Kind}
use Rattle.bump_steps.specs.declared.views.Kind.TheVariants as kind
use Rattle.bump_steps.specs.declared.views.WorkerSheet.{WorkerSheet}
use Rattle.bump_steps.specs.declared.views.View.{View}
use Rattle.bump_steps.specs.Views.{Measure, held, named, saw, owners, strays, mislabels, misreads, glanced, misglanced, glances_at, misglances_at, in_hand, is_fetch, is_fetch_of, weight, shown_by, IsBacked}
use Rattle.bump_steps.specs.Rule.{RowPredicate, Sound, chunks, Kept}
use Rattle.bump_steps.specs.Places.{head_place}
use Rattle.bump_steps.specs.Plays.{Sat, on_chunk, on_time, on_first, step_of}
use Rattle.bump_steps.specs.Marks.{on_worker, noted, hits_after, worker_after_fetch, trying, attempting, worker_after_mark, done, worker_after_unmark, worker_after_store_time, fetch_tells, mark_tells, unmark_tells, store_time_tells, MayMark}
use Rattle.bump_steps.proofs.Frame.{Same, same_sound}
use Rattle.bump_steps.proofs.StepLemmas.{at_time, at_chunk, on_first_total, same_counts, one_life, other_life, other_chunk}
use Rattle.bump_steps.proofs.Told.{tells}

-- a change of the first element that adds the same to each term adds it to the sum
pub on_first_gain : {A : Type 0} (f : A → ℕ) (h : A → A) (k : ℕ) → ((x : A) → f (h x) ≡ f x + k) → (l : List A)
    → 0 < length l → total f (on_first h l) ≡ total f l + k
on_first_gain f h k gains [] some = absurd (omega (arith, some))
on_first_gain f h k gains (x ∷ xs) some = omega (arith, gains x)

-- what a worker knows shows no entry, and settles no move
pub worker_backed : (f : WorkerSheet → WorkerSheet) → ((p : WorkerSheet) → (f p).worker ≡ p.worker) → (v : View)
    → IsBacked v (on_worker f v)
worker_backed f same v = record {
  backs = λ wk e. (by wk e e.outcome, λ more. absurd (omega arith));
  even = λ q. omega arith;
  progress = λ q. omega arith;
  own = omega arith;
  labels = λ have. have;
  workers = λ n. on_first_total (λ w. cond (w.worker == n) 1 0) f (λ p. ap (λ (w : ℕ). cond (w == n) 1 0) (same p))
      v.workers;
  lanes = λ n. refl;
  tidy = omega arith;
}
  where
    by : (wk : ℕ) (e : AppliedBump) (o : Outcome) → shown_by o wk e v ≤ shown_by o wk e (on_worker f v)
    by wk e outcome.Moved = omega arith
    by wk e outcome.Gone = omega arith
    by wk e outcome.TimeOnly = omega arith

-- a change of a worker's sheet that counts the same for the chunk, leaving its glances aside
pub record Steady (b : ℕ) (f : WorkerSheet → WorkerSheet) : Type 0 where
  pub hand : (j : ℕ) (p : WorkerSheet) → in_hand b j (f p).hand ≡ in_hand b j p.hand
  pub hits : (j : ℕ) (p : WorkerSheet) → count_of (life b j) (f p).hits ≡ count_of (life b j) p.hits
  pub steps : (j : ℕ) (p : WorkerSheet) → how_many (is_fetch_of b j) (f p).steps ≡ how_many (is_fetch_of b j) p.steps

-- and of its glances
pub record Quiet (b : ℕ) (f : WorkerSheet → WorkerSheet) : Type 0 where
  pub steady : Steady b f
  pub glances : (j : ℕ) (p : WorkerSheet) → glances_at b j (f p) ≡ glances_at b j p
  pub glimpses : (i j x : ℕ) (p : WorkerSheet) → misglances_at i b j x (f p) ≡ misglances_at i b j x p

-- leaves what the view counts
pub quiet_same : (b : ℕ) (f : WorkerSheet → WorkerSheet) (v : View) → Quiet b f → Same b v (on_worker f v)
quiet_same b f v q (held j) = omega (arith, on_first_total (λ w. in_hand b j w.hand) f (q.steady.hand j) v.workers)
quiet_same b f v q (named j) = on_first_total (λ w. count_of (life b j) w.hits) f (q.steady.hits j) v.workers
quiet_same b f v q (saw j) = on_first_total (λ w. how_many (is_fetch_of b j) w.steps) f (q.steady.steps j) v.workers
quiet_same b f v q owners = refl
quiet_same b f v q (strays s) = refl
quiet_same b f v q (mislabels i x) = refl
quiet_same b f v q (misreads i j x) = refl
quiet_same b f v q (glanced j) = on_first_total (glances_at b j) f (q.glances j) v.workers
quiet_same b f v q (misglanced i j x) = on_first_total (misglances_at i b j x) f (q.glimpses i j x) v.workers

-- a step that isn't a fetch is none of the fetches
pub other_steps : (k : Kind) → is_fetch k ≡ false → (b j c n : ℕ) (p : WorkerSheet) → how_many (is_fetch_of b j)
    (noted k c n p).steps ≡ how_many (is_fetch_of b j) p.steps
other_steps k other b j c n p =
    omega (
      arith,
      total_push (λ x. cond (is_fetch_of b j x) 1 0) p.steps (step_of k c n None),
      ap {B = ℕ} (λ (a : Bool). cond (a && ((c == b) && (n / 2 ^ generation_first == j))) 1 0) other,
    )

-- who tries to take a reference has none in its hand yet
tries_none : (b j : ℕ) (l : ItemId) (h : Hand) → in_hand b j (trying l h) ≡ in_hand b j h
tries_none b j l hand.Idle = refl
tries_none b j l (hand.Trying m) = refl
tries_none b j l (hand.InHand m) = refl
tries_none b j l (hand.Clearing m) = refl

-- the same of one that is done
done_none : (b j : ℕ) (h : Hand) → in_hand b j (done h) ≡ in_hand b j h
done_none b j hand.Idle = refl
done_none b j (hand.Trying m) = refl
done_none b j (hand.InHand m) = refl
done_none b j (hand.Clearing m) = refl

-- a time changes nothing that is counted
store_time_quiet : (b : ℕ) (l : ItemId) (n : ℕ) → Quiet b (worker_after_store_time l n)
store_time_quiet b l n = record {
  steady = record {
    hand = λ j p. refl;
    hits = λ j p. refl;
    steps = λ j p. other_steps kind.StoreTime refl b j l.chunk n p;
  };
  glances = λ j p. refl;
  glimpses = λ i j x p. refl;
}

-- nor does a mark that is cleared
unmark_quiet : (b : ℕ) (l : ItemId) (h : Head) → Quiet b (worker_after_unmark l h)
unmark_quiet b l h = record {
  steady = record {
    hand = λ j p. done_none b j p.hand;
    hits = λ j p. refl;
    steps = λ j p. other_steps kind.Unmark refl b j l.chunk (word_of h) p;
  };
  glances = λ j p. refl;
  glimpses = λ i j x p. refl;
}

-- whether or not a bump is attempted
pub either_way : {A : Type 0} (f : WorkerSheet → A) (b : Bool) (l : ItemId) (p : WorkerSheet) (a : A) → f p ≡ a
    → f (attempting l p) ≡ a → f (if b then attempting l p else p) ≡ a
either_way f true l p a stays attempts = attempts
either_way f false l p a stays attempts = stays

-- nor one that is set
mark_quiet : (b : ℕ) (l : ItemId) (h : Head) → Quiet b (worker_after_mark l h)
mark_quiet b l h = record {
  steady = record {
    hand = λ j p. either_way (λ w. in_hand b j w.hand) (not h.active && is_cold h.segment) l
        (noted kind.Mark l.chunk (word_of h) p) (in_hand b j p.hand) refl (tries_none b j l p.hand);
    hits = λ j p. either_way (λ w. count_of (life b j) w.hits) (not h.active && is_cold h.segment) l
        (noted kind.Mark l.chunk (word_of h) p) (count_of (life b j) p.hits) refl refl;
    steps = λ j p. either_way (λ w. how_many (is_fetch_of b j) w.steps) (not h.active && is_cold h.segment) l
        (noted kind.Mark l.chunk (word_of h) p) (how_many (is_fetch_of b j) p.steps)
        (other_steps kind.Mark refl b j l.chunk (word_of h) p) (other_steps kind.Mark refl b j l.chunk (word_of h) p);
  };
  glances = λ j p. either_way (glances_at b j) (not h.active && is_cold h.segment) l
      (noted kind.Mark l.chunk (word_of h) p) (glances_at b j p) refl refl;
  glimpses = λ i j x p. either_way (misglances_at i b j x) (not h.active && is_cold h.segment) l
      (noted kind.Mark l.chunk (word_of h) p) (misglances_at i b j x p) refl refl;
}

-- ---- fetches

-- how often the first hits then name a life
gained : (f : Bool) (d j : ℕ) (l : ItemId) (hits : List ItemId) → count_of (life d j) (hits_after f l hits) ≡ count_of
    (life d j) hits + cond f 0 (one_if (life d j) l)
gained true d j l hits = omega arith
gained false d j l hits = count_push (life d j) l hits

-- a fetch of a life is one of its fetches, and none of another life's
pub is_its_fetch : (c n g : ℕ) → n / 2 ^ generation_first ≡ g → (j : ℕ)
    → cond (is_fetch_of c j (step_of kind.Fetch c n None)) 1 0 ≡ one_if (life c j) (life c g)
is_its_fetch c n g e j = ap {B = ℕ} (λ (a : Bool). cond ((c == c) && a) 1 0) (ap (λ (k : ℕ). k == j) e ∙ eqb_turn g j)
  where
    eqb_turn : (x y : ℕ) → ◌≡◌ {A = Bool} (x == y) (y == x)
    eqb_turn x y = dite (ℕ_discrete x y) (λ e. eq-eqb x y e ∙ sym (eq-eqb y x (sym e)))
        (λ ne. ne_eqb x y ne ∙ sym (ne_eqb y x (λ e. ne (sym e))))

module _ {law : RowPredicate} (key : Config) (slots id : ℕ) (m : Sat) (c : ℕ) (near : c < chunks key) where
  -- the seat has a worker's sheet, and its step finds this word
  module _ (has : 0 < length m.0.workers) (n : ℕ) (x : ℕ → ℕ) (t : Measure → ℕ) (o : Sound law key.refs_limit n x t) where
    abbrev pub found : Head
    found = o.head

    abbrev pub of : ItemId
    of = life c o.head.generation

    abbrev pub after : View
    after = on_worker (worker_after_fetch (life c o.head.generation) o.head) m.0

    -- the word has the chunk's generation
    gen : word_of o.head / 2 ^ generation_first ≡ o.head.generation
    gen = ap (λ (k : ℕ). k / 2 ^ generation_first) (sym o.spells.0) ∙ (fields n o.head o.spells).generation

    -- the life is named once more where FETCHED was clear
    names_more : (b j : ℕ) → weight b (named j) after ≡ weight b (named j) m.0 + cond o.head.fetched 0
        (one_if (life b j) of)
    names_more b j = on_first_gain (λ w. count_of (life b j) w.hits) (worker_after_fetch of found)
        (cond o.head.fetched 0 (one_if (life b j) of)) (λ p. gained o.head.fetched b j of p.hits) m.0.workers has

    -- the fetch is counted
    saw_more : (b j : ℕ) → weight b (saw j) after ≡ weight b (saw j) m.0 + cond
        (is_fetch_of b j (step_of kind.Fetch c (word_of o.head) None)) 1 0
    saw_more b j = on_first_gain (λ w. how_many (is_fetch_of b j) w.steps) (worker_after_fetch of found)
        (cond (is_fetch_of b j (step_of kind.Fetch c (word_of o.head) None)) 1 0)
        (λ p. total_push (λ x. cond (is_fetch_of b j x) 1 0) p.steps (step_of kind.Fetch c (word_of o.head) None))
        m.0.workers has

    -- glances are as they were
    glanced_as : (b j : ℕ) → weight b (glanced j) after ≡ weight b (glanced j) m.0
    glanced_as b j = on_first_total (glances_at b j) (worker_after_fetch of found) (λ p. refl) m.0.workers

    misglanced_as : (i b j y : ℕ) → weight b (misglanced i j y) after ≡ weight b (misglanced i j y) m.0
    misglanced_as i b j y = on_first_total (misglances_at i b j y) (worker_after_fetch of found) (λ p. refl) m.0.workers

    -- references are as they were
    held_as : (b j : ℕ) → weight b (held j) after ≡ weight b (held j) m.0
    held_as b j = omega (
      arith,
      on_first_total (λ w. in_hand b j w.hand) (worker_after_fetch of found) (λ p. refl)
          m.0.workers,
    )

    -- and other chunks count as they did
    fetch_apart : (b : ℕ) → b ≢ c → Same b m.0 after
    fetch_apart b ne (held j) = held_as b j
    fetch_apart b ne (named j) =
        omega (arith, names_more b j, none_of o.head.fetched (one_if (life b j) of) (other_chunk b j of ne))
      where
        none_of : (f : Bool) (k : ℕ) → ◌≡◌ {A = ℕ} k 0 → ◌≡◌ {A = ℕ} (cond f 0 k) 0
        none_of true k e = refl
        none_of false k e = e
    fetch_apart b ne (saw j) =
        omega (
          arith,
          saw_more b j,
          ap {B = ℕ} (λ (a : Bool). cond (a && (word_of o.head / 2 ^ generation_first == j)) 1 0)
              (ne_eqb c b (λ e. ne (sym e))),
        )
    fetch_apart b ne owners = refl
    fetch_apart b ne (strays s) = refl
    fetch_apart b ne (mislabels i y) = refl
    fetch_apart b ne (misreads i j y) = refl
    fetch_apart b ne (glanced j) = glanced_as b j
    fetch_apart b ne (misglanced i j y) = misglanced_as i b j y

    module _ (u : Measure → ℕ) (moves : (y : Measure) → u y + weight c y m.0 ≡ t y + weight c y after) where
      -- the same of all views together
      names : (j : ℕ) → u (named j) ≡ t (named j) + cond o.head.fetched 0 (one_if (life c j) of)
      names j = omega (arith, moves (named j), names_more c j)

      saws : (j : ℕ) → u (saw j) ≡ t (saw j) + one_if (life c j) of
      saws j = omega (arith, moves (saw j), saw_more c j, is_its_fetch c (word_of o.head) o.head.generation gen j)

      -- the chunk stays lawful, by its first hit or a later one
      fetch_lawful : (f : Bool) → o.head.fetched ≡ f → Lawful key.refs_limit (fetched_head o.head) o.at
          (λ g. u (held g)) (λ g. u (named g))
      fetch_lawful true is = relawful key.refs_limit (fetched_head o.head) o.at (λ g. t (held g)) (λ g. t (named g))
          (fetched_again key.refs_limit o.head o.at (λ g. t (held g)) (λ g. t (named g)) o.lawful is)
          (λ g. u (held g)) (λ g. u (named g))
          (λ g. omega (arith, moves (held g), held_as c g))
          (λ g. omega (arith, names g, ap {B = ℕ} (λ (f : Bool). cond f 0 (one_if (life c g) of)) is))
      fetch_lawful false is = relawful key.refs_limit (fetched_head o.head) o.at (λ g. t (held g)) (λ g. u (named g))
          (named_first key.refs_limit o.head o.at (λ g. t (held g)) (λ g. t (named g)) o.lawful (λ g. u (named g)) is
          (omega (
            arith,
            names o.head.generation,
            ap {B = ℕ} (λ (f : Bool). cond f 0 (one_if (life c o.head.generation) of)) is,
            one_life of,
          ))
          (λ g ne. omega (
            arith,
            names g,
            ap {B = ℕ} (λ (f : Bool). cond f 0 (one_if (life c g) of)) is,
            other_life of g ne,
          )))
          (λ g. u (held g)) (λ g. u (named g)) (λ g. omega (arith, moves (held g), held_as c g)) (λ g. refl)

      -- and sound
      fetch_sound : Sound law key.refs_limit (bit_or n (2 ^ fetched_first)) x u
      fetch_sound = let lawful = fetch_lawful o.head.fetched refl in record {
        head = fetched_head o.head;
        at = o.at;
        spells = set_fetched n o.head o.spells tt;
        lawful = lawful;
        owned = omega (arith, moves owners, o.owned);
        agreed = omega (arith, moves (strays (o.at, o.head.generation)), o.agreed);
        labelled = λ i. omega (arith, moves (mislabels i (x i)), o.labelled i);
        read = λ i. omega (arith, moves (misreads i o.head.generation (x i)), o.read i);
        ahead = λ g far. omega (arith, moves (glanced g), glanced_as c g, o.ahead g far);
        faithful = λ lit i. omega (
          arith,
          moves (misglanced i o.head.generation (x i)),
          misglanced_as i c o.head.generation (x i),
          o.faithful lit i,
        );
        obeys = o.obeys;
        hit = λ g some. dite (ℕ_discrete g o.head.generation)
            (λ e. omega (arith, lawful.fetched, ap (λ (k : ℕ). u (named k)) e))
            (λ ne. omega (arith, names g, o.hit g (omega (arith, some, saws g, other_life of g ne))));
      }

  -- a fetch is allowed where the seat has a worker's sheet
  pub may_fetch : 0 < length m.0.workers → Allows (Kept law key) slots id m (head_place slots c)
      (λ n. bit_or n (2 ^ fetched_first)) (on_chunk fetch_tells (step slots (head_place slots c) (2 ^ fetched_first) 0 none) m)
  may_fetch has = at_chunk fetch_tells key slots id m c (2 ^ fetched_first) (λ n. bit_or n (2 ^ fetched_first)) near
      (λ n x t limits o a. (
        on_worker (worker_after_fetch (life c o.head.generation) o.head) m.0,
        (λ u moves. fetch_sound has n x t o u moves),
        (λ b ne. fetch_apart has n x t o b ne),
        worker_backed (worker_after_fetch (life c o.head.generation) o.head) (λ p. refl) m.0,
        (refl, (o.head, o.spells, (refl, tells c key.refs_limit n x m.0 t o a))),
      ))

  -- ACTIVE may be set where the seat's own fetch shows that FETCHED is set
  pub may_mark : MayMark c m.0 → Allows (Kept law key) slots id m (head_place slots c) (λ n. bit_or n (2 ^ active_first))
      (on_chunk mark_tells (step slots (head_place slots c) (2 ^ active_first) 0 none) m)
  may_mark may = at_chunk mark_tells key slots id m c (2 ^ active_first) (λ n. bit_or n (2 ^ active_first)) near
      (λ n x t limits o a.
      let l : ItemId = life c o.head.generation in
      let told = tells c key.refs_limit n x m.0 t o a in
      let set : bit o.head.fetched ≡ 1 =
      ap bit (told.saw (subst (λ (g : ℕ). 0 < weight c (saw g) m.0) (told.held may.0 may.1) may.2)) in (
        on_worker (worker_after_mark l o.head) m.0,
        (λ u moves. same_sound key.refs_limit (bit_or n (2 ^ active_first)) x t u
            (same_counts c m.0 (on_worker (worker_after_mark l o.head) m.0) t u
            (quiet_same c (worker_after_mark l o.head) m.0 (mark_quiet c l o.head)) moves) (record {
              head = marked_head o.head;
              at = o.at;
              spells = set_active n o.head o.spells tt;
              lawful = marked_law key.refs_limit o.head o.at (λ g. t (held g)) (λ g. t (named g)) o.lawful true
                  (omega (arith, set));
              owned = o.owned;
              agreed = o.agreed;
              labelled = o.labelled;
              read = o.read;
              ahead = o.ahead;
              faithful = o.faithful;
              obeys = o.obeys;
              hit = o.hit;
            })),
        (λ b ne. quiet_same b (worker_after_mark l o.head) m.0 (mark_quiet b l o.head)),
        worker_backed (worker_after_mark l o.head)
            (λ p. either_way (λ w. w.worker) (not o.head.active && is_cold o.head.segment) l
            (noted kind.Mark l.chunk (word_of o.head) p) p.worker refl refl) m.0,
        (refl, (o.head, o.spells, (refl, told))),
      ))

  -- it may always be cleared
  pub may_unmark : Allows (Kept law key) slots id m (head_place slots c) (λ n. bit_and n (2 ^ 64 - 1 - 2 ^ active_first))
      (on_chunk unmark_tells (step slots (head_place slots c) (2 ^ 64 - 1 - 2 ^ active_first) 0 none) m)
  may_unmark = at_chunk unmark_tells key slots id m c (2 ^ 64 - 1 - 2 ^ active_first)
      (λ n. bit_and n (2 ^ 64 - 1 - 2 ^ active_first)) near (λ n x t limits o a.
      let l : ItemId = life c o.head.generation in (
        on_worker (worker_after_unmark l o.head) m.0,
        (λ u moves. same_sound key.refs_limit (bit_and n (2 ^ 64 - 1 - 2 ^ active_first)) x t u
            (same_counts c m.0 (on_worker (worker_after_unmark l o.head) m.0) t u
            (quiet_same c (worker_after_unmark l o.head) m.0 (unmark_quiet c l o.head)) moves) (record {
              head = cleared_head o.head;
              at = o.at;
              spells = clear_active n o.head o.spells tt;
              lawful = marked_law key.refs_limit o.head o.at (λ g. t (held g)) (λ g. t (named g)) o.lawful false
                  (omega arith);
              owned = o.owned;
              agreed = o.agreed;
              labelled = o.labelled;
              read = o.read;
              ahead = o.ahead;
              faithful = o.faithful;
              obeys = o.obeys;
              hit = o.hit;
            })),
        (λ b ne. quiet_same b (worker_after_unmark l o.head) m.0 (unmark_quiet b l o.head)),
        worker_backed (worker_after_unmark l o.head) (λ p. refl) m.0,
        (refl, (o.head, o.spells, (refl, tells c key.refs_limit n x m.0 t o a))),
      ))

  -- and the rule says nothing of time words
  pub may_store_time : (now : ℕ) → Allows (Kept law key) slots id m (head_place slots c + 1) (λ _. now)
      (λ _. on_time store_time_tells (step slots (head_place slots c + 1) now 0 none) m now)
  may_store_time now = at_time store_time_tells key slots id m c now (λ _. now) (λ _. now)
      near (λ y n x t limits o a. (
        on_worker (worker_after_store_time (life c 0) now) m.0,
        (λ u moves. same_sound key.refs_limit n x t u
            (same_counts c m.0 (on_worker (worker_after_store_time (life c 0) now) m.0) t u
            (quiet_same c (worker_after_store_time (life c 0) now) m.0 (store_time_quiet c (life c 0) now)) moves) o),
        (λ b ne. quiet_same b (worker_after_store_time (life c 0) now) m.0 (store_time_quiet b (life c 0) now)),
        worker_backed (worker_after_store_time (life c 0) now) (λ p. refl) m.0,
        refl,
      ))
