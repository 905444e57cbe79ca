-- A glance's loads: whatever the other seats have, its worker's seat can go on.
use Rattle.std.proofs.Common.{◌≡◌, ◌≢◌, ℕ, suc, get_or, length, ◌+◌, ◌*◌, ◌/◌, ◌^◌, ◌<◌, ◌≤◌, ◌&&◌, eqb, cond, Bool, true, false, List, refl, sym, ap, ◌∙◌, arith, mul-zero, eq-eqb}
use mathlib.Core.Bool.{false≢true}
use mathlib.Core.Option.{none}
use native.Mathlib.Nat.{zero-mul}
use Rattle.atomic_table.specs.Table.{step, Allows}
use Rattle.bump_rules.specs.declared.configs.Config.{Config}
use Rattle.bump_rules.specs.Lives.{life, one_if, count_of}
use Rattle.bump_rules.specs.Totals.{total, how_many}
use Rattle.bump_rules.proofs.Laws.{relawful}
use Rattle.bump_word.specs.Layout.{generation_first}
use Rattle.bump_word.proofs.Words.{fields}
use Rattle.bump_steps.specs.declared.views.GlanceSheet.{GlanceSheet}
use Rattle.bump_steps.specs.declared.views.Kind.TheVariants as kind
use Rattle.bump_steps.specs.declared.views.View.{View}
use Rattle.bump_steps.specs.declared.views.WorkerSheet.{WorkerSheet}
use Rattle.bump_steps.specs.Places.{head_place}
use Rattle.bump_steps.specs.Plays.{Sat, on_chunk, on_row, on_label, on_word, behind, on_first}
use Rattle.bump_steps.specs.References.{IsRow}
use Rattle.bump_steps.specs.Marks.{on_worker}
use Rattle.bump_steps.specs.Glances.{new_glance, worker_after_glance, glance_tells, HasGlance, glance_after_load, worker_after_glance_load, view_after_glance_load, glance_label_tells, glance_word_tells, look_again_tells}
use Rattle.bump_steps.specs.Rule.{RowPredicate, Sound, chunks, Kept}
use Rattle.bump_steps.specs.Views.{Measure, held, named, saw, owners, strays, mislabels, misreads, glanced, misglanced, misglance, glances_at, misglances_at, in_hand, is_fetch_of, weight}
use Rattle.bump_steps.proofs.Frame.{Same, Amid, Reaches, on_words_load}
use Rattle.bump_steps.proofs.Marking.{on_first_gain, worker_backed, Steady, Quiet, quiet_same, other_steps}
use Rattle.bump_steps.proofs.Referring.{reaches_by_look}
use Rattle.bump_steps.proofs.StepLemmas.{at_chunk, at_row, at_label, at_word, on_first_total, one_life, other_life, other_chunk}

-- where a glance's row has this word and the one that is loaded, and it found no other, it stays so
keep : (n : ℕ) (r a s : Bool) → n * cond (r && a) 0 1 ≡ 0 → n * cond (s && a) 0 1 ≡ 0
    → n * cond (r && (a && s)) 0 1 ≡ 0
keep n true true true p q = q
keep n true true false p q = q
keep n true false s p q = p
keep n false a s p q = p

-- what counts nothing adds nothing
adds_none : (a b : ℕ) → a ≡ 0 → a + b ≡ b
adds_none a b is = omega (arith, is)

-- one that counts nothing against its life found no other word
found_none : (n : ℕ) (r a : Bool) → n ≡ 1 → n * cond (r && a) 0 1 ≡ 0 → a ≡ true
found_none n true true one clear = refl
found_none n true false one clear = absurd (omega (arith, one, clear))
found_none n false a one clear = absurd (omega (arith, one, clear))

-- where nothing but a worker's glances counts otherwise, the chunk stays sound if what the rule says of glances does
glance_sound : {law : RowPredicate} (limit n : ℕ) (x : ℕ → ℕ) (c : ℕ) (f : WorkerSheet → WorkerSheet) (v : View) (t u : Measure → ℕ)
    → Steady c f → ((y : Measure) → u y + weight c y v ≡ t y + weight c y (on_worker f v)) → (o : Sound law limit n x t)
    → ((g : ℕ) → o.head.generation < g → u (glanced g) ≡ 0)
    → (o.head.linked ≡ true → (i : ℕ) → u (misglanced i o.head.generation (x i)) ≡ 0) → Sound law limit n x u
glance_sound limit n x c f v t u q moved o ahead faithful = record {
  head = o.head;
  at = o.at;
  spells = o.spells;
  lawful = relawful limit o.head o.at (λ g. t (held g)) (λ g. t (named g)) o.lawful (λ g. u (held g)) (λ g. u (named g))
      (λ g. omega (arith, moved (held g), on_first_total (λ w. in_hand c g w.hand) f (q.hand g) v.workers))
      (λ g. omega (arith, moved (named g), names g));
  owned = omega (arith, moved owners, o.owned);
  agreed = omega (arith, moved (strays (o.at, o.head.generation)), o.agreed);
  labelled = λ j. omega (arith, moved (mislabels j (x j)), o.labelled j);
  read = λ j. omega (arith, moved (misreads j o.head.generation (x j)), o.read j);
  ahead = ahead;
  faithful = faithful;
  obeys = o.obeys;
  hit = λ g some. omega (
    arith,
    moved (named g),
    names g,
    o.hit g (omega (
      arith,
      some,
      moved (saw g),
      on_first_total (λ w. how_many (is_fetch_of c g) w.steps) f (q.steps g) v.workers,
    )),
  );
}
  where
    names : (g : ℕ) → total (λ w. count_of (life c g) w.hits) (on_first f v.workers)
        ≡ total (λ w. count_of (life c g) w.hits) v.workers
    names g = on_first_total (λ w. count_of (life c g) w.hits) f (q.hits g) v.workers

module _ (key : Config) (slots id : ℕ) (m : Sat) (c : ℕ) (near : c < chunks key) where
  -- ---- the first load
  module _ {law : RowPredicate} (has : 0 < length m.0.workers) (row : List ℕ) (long : IsRow slots row) (n : ℕ) (t : Measure → ℕ)
      (o : Sound law key.refs_limit n (λ i. get_or row i 0) t) where
    abbrev k : ℕ
    k = n / 2 ^ generation_first

    gen : k ≡ o.head.generation
    gen = (fields n o.head o.spells).generation

    -- the new glance counts once for its life
    more : (b g : ℕ) → weight b (glanced g) (on_worker (worker_after_glance c n row) m.0) ≡ weight b (glanced g) m.0
        + one_if (life b g) (life c k)
    more b g = on_first_gain (glances_at b g) (worker_after_glance c n row) (one_if (life b g) (life c k))
        (λ p. omega arith) m.0.workers has

    -- and its row has the chunk's words
    none_wrong : (i g : ℕ) → misglance i c g (get_or row i 0) (new_glance (life c k) row) ≡ 0
    none_wrong i g = ap (λ (z : Bool). one_if (life c g) (life c k) * cond (z && true) 0 1)
        (eq-eqb (get_or row i 0) (get_or row i 0) refl)
        ∙ mul-zero (one_if (life c g) (life c k))

    right : (i g : ℕ) → weight c (misglanced i g (get_or row i 0)) (on_worker (worker_after_glance c n row) m.0)
        ≡ weight c (misglanced i g (get_or row i 0)) m.0
    right i g = on_first_total (misglances_at i c g (get_or row i 0)) (worker_after_glance c n row)
        (λ p. adds_none (misglance i c g (get_or row i 0) (new_glance (life c k) row))
        (misglances_at i c g (get_or row i 0) p) (none_wrong i g)) m.0.workers

    steady : (b : ℕ) → Steady b (worker_after_glance c n row)
    steady b = record {
      hand = λ j p. refl;
      hits = λ j p. refl;
      steps = λ j p. other_steps kind.Load refl b j c n p;
    }

    -- it counts for no other chunk
    apart : (b : ℕ) → b ≢ c → Quiet b (worker_after_glance c n row)
    apart b ne = record {
      steady = steady b;
      glances = λ j p. adds_none (one_if (life b j) (life c k)) (glances_at b j p) (other_chunk b j (life c k) ne);
      glimpses = λ i j x p. adds_none (misglance i b j x (new_glance (life c k) row)) (misglances_at i b j x p)
          (ap (λ (z : ℕ). z * cond (eqb (get_or row i 0) x && true) 0 1) (other_chunk b j (life c k) ne)
          ∙ zero-mul (cond (eqb (get_or row i 0) x && true) 0 1));
    }

    begun : o.head.linked ≡ true → Reaches law key c m (glance_tells law slots c 0 m n) n (λ i. get_or row i 0) t
    begun on = (
      on_worker (worker_after_glance c n row) m.0,
      (λ u moved. glance_sound key.refs_limit n (λ i. get_or row i 0) c (worker_after_glance c n row) m.0 t u (steady c)
          moved o
          (λ g far. omega (
            arith,
            moved (glanced g),
            more c g,
            other_life (life c k) g (λ e. omega (arith, e, gen, far)),
            o.ahead g far,
          ))
          (λ lit i. omega (
            arith,
            moved (misglanced i o.head.generation (get_or row i 0)),
            right i o.head.generation,
            o.faithful lit i,
          ))),
      (λ b ne. quiet_same b (worker_after_glance c n row) m.0 (apart b ne)),
      worker_backed (worker_after_glance c n row) (λ p. refl) m.0,
      (o.head, o.spells, ((λ lit. (row, long, o.obeys lit, refl)), (λ dark. absurd (false≢true (sym dark ∙ on))))),
    )

    looks : (b : Bool) → o.head.linked ≡ b
        → Reaches law key c m (glance_tells law slots c 0 m n) n (λ i. get_or row i 0) t
    looks true on = begun on
    looks false off = reaches_by_look key slots id m c near kind.Load refl n (λ i. get_or row i 0) t
        (glance_tells law slots c 0 m n) o
        (o.head, o.spells, ((λ lit. absurd (false≢true (sym off ∙ lit))), (λ dark. refl)))

  -- a load of the head, by a worker that glances
  pub may_glance : {law : RowPredicate} → 0 < length m.0.workers → Allows (Kept law key) slots id m (head_place slots c) (λ n. n)
      (on_row (glance_tells law) (step slots (head_place slots c) 0 0 none) m)
  may_glance {law = law} has = at_row (glance_tells law) key slots id m c 0 (λ n. n) near
      (λ row long n t limits o a. looks has row long n t o o.head.linked refl)

  -- ---- loads of words
  module _ (has : HasGlance c m.0) where
    abbrev p : GlanceSheet
    p = has.glance

    -- the first glance's term, and those of the others, before and after a load
    first_term : (f : GlanceSheet → ℕ) → total (λ (w : WorkerSheet). total f w.glances) m.0.workers
        ≡ f has.glance + total f (behind has.worker.glances)
        + total (λ (w : WorkerSheet). total f w.glances) (behind m.0.workers)
    first_term f = ap (total (λ (w : WorkerSheet). total f w.glances)) has.workers
        ∙ ap (λ (l : List GlanceSheet). total f l + total (λ (w : WorkerSheet). total f w.glances) (behind m.0.workers))
        has.glances

    module _ (i word : ℕ) where
      after_term : (f : GlanceSheet → ℕ)
          → total (λ (w : WorkerSheet). total f w.glances) (on_first (worker_after_glance_load i word) m.0.workers)
          ≡ f (glance_after_load i word has.glance) + total f (behind has.worker.glances)
          + total (λ (w : WorkerSheet). total f w.glances) (behind m.0.workers)
      after_term f = ap (λ (l : List WorkerSheet). total (λ (w : WorkerSheet). total f w.glances)
          (on_first (worker_after_glance_load i word) l)) has.workers
          ∙ ap (λ (l : List GlanceSheet). total f (on_first (glance_after_load i word) l)
          + total (λ (w : WorkerSheet). total f w.glances) (behind m.0.workers)) has.glances

      -- it stays a glance at its life
      as_many : (b g : ℕ) → weight b (glanced g) (view_after_glance_load i word m.0) ≡ weight b (glanced g) m.0
      as_many b g = on_first_total (glances_at b g) (worker_after_glance_load i word)
          (λ w. on_first_total (λ y. one_if (life b g) y.life) (glance_after_load i word) (λ y. refl) w.glances)
          m.0.workers

      none_there : (b g z : ℕ) → b ≢ c → one_if (life b g) has.glance.life * z ≡ 0
      none_there b g z ne = ap (λ (j : ℕ). j * z) (other_chunk b g has.glance.life (λ e. ne (e ∙ has.of))) ∙ zero-mul z

      -- which counts for no other chunk
      elsewhere : (b : ℕ) → b ≢ c → Same b m.0 (view_after_glance_load i word m.0)
      elsewhere b ne (held g) = omega (
        arith,
        on_first_total (λ w. in_hand b g w.hand) (worker_after_glance_load i word) (λ w. refl) m.0.workers,
      )
      elsewhere b ne (named g) = on_first_total (λ w. count_of (life b g) w.hits) (worker_after_glance_load i word)
          (λ w. refl) m.0.workers
      elsewhere b ne (saw g) = on_first_total (λ w. how_many (is_fetch_of b g) w.steps)
          (worker_after_glance_load i word) (λ w. refl) m.0.workers
      elsewhere b ne owners = refl
      elsewhere b ne (strays s) = refl
      elsewhere b ne (mislabels j x) = refl
      elsewhere b ne (misreads j g x) = refl
      elsewhere b ne (glanced g) = as_many b g
      elsewhere b ne (misglanced j g x) = omega (
        arith,
        after_term (misglance j b g x),
        first_term (misglance j b g x),
        none_there b g (cond (eqb (get_or has.glance.row j 0) x && has.glance.agrees) 0 1) ne,
        none_there b g (cond (eqb (get_or has.glance.row j 0) x
            && (has.glance.agrees && eqb (get_or has.glance.row i 0) word)) 0 1) ne,
      )

    module _ {law : RowPredicate} (n : ℕ) (x : ℕ → ℕ) (t : Measure → ℕ) (o : Sound law key.refs_limit n x t) (a : Amid c m.0 t) where
      -- while its life lasts, a glance has the chunk's words, and found no other
      none_of : o.head.linked ≡ true → (j : ℕ) → misglance j c o.head.generation (x j) has.glance ≡ 0
      none_of lit j = omega (
        arith,
        a.mine (misglanced j o.head.generation (x j)),
        o.faithful lit j,
        first_term (misglance j c o.head.generation (x j)),
      )

      first_agrees : o.head.linked ≡ true → o.head.generation ≡ has.glance.life.generation → has.glance.agrees ≡ true
      first_agrees lit same = found_none (one_if (life c o.head.generation) has.glance.life)
          (let words : List ℕ = has.glance.row in eqb (get_or words 0 0) (x 0)) has.glance.agrees
          (ap (λ (g : ℕ). one_if (life c g) has.glance.life) same
          ∙ (ap (λ (d : ℕ). one_if (life d has.glance.life.generation) has.glance.life) (sym has.of)
          ∙ one_life has.glance.life)) (none_of lit 0)

      -- so its load of a word leaves the chunk sound
      load_sound : (i : ℕ) (u : Measure → ℕ)
          → ((y : Measure) → u y + weight c y m.0 ≡ t y + weight c y (view_after_glance_load i (x i) m.0))
          → Sound law key.refs_limit n x u
      load_sound i u moved = glance_sound key.refs_limit n x c (worker_after_glance_load i (x i)) m.0 t u
          (record { hand = λ j w. refl; hits = λ j w. refl; steps = λ j w. refl }) moved o
          (λ g far. omega (arith, moved (glanced g), as_many i (x i) c g, o.ahead g far))
          (λ lit j. omega (
            arith,
            moved (misglanced j o.head.generation (x j)),
            a.mine (misglanced j o.head.generation (x j)),
            o.faithful lit j,
            first_term (misglance j c o.head.generation (x j)),
            after_term i (x i) (misglance j c o.head.generation (x j)),
            keep (one_if (life c o.head.generation) has.glance.life) (eqb (get_or has.glance.row j 0) (x j))
                has.glance.agrees (eqb (get_or has.glance.row i 0) (x i)) (none_of lit j) (none_of lit i),
          ))

    loads : {law : RowPredicate} (i : ℕ) → i ≤ slots → Allows (Kept law key) slots id m (head_place slots c + (2 + i)) (λ x. x)
        (λ y w. w ≡ (view_after_glance_load i y m.0, m.1))
    loads i low = on_words_load key slots id m c i (λ y w. w ≡ (view_after_glance_load i y m.0, m.1)) low near
        (λ n x t limits o a. (
          view_after_glance_load i (x i) m.0,
          (λ u moved. load_sound n x t o a i u moved),
          (λ b ne. elsewhere i (x i) b ne),
          worker_backed (worker_after_glance_load i (x i)) (λ w. refl) m.0,
          refl,
        ))

  -- a load of a label word, by a glance
  pub may_glance_label : {law : RowPredicate} → HasGlance c m.0 → Allows (Kept law key) slots id m (head_place slots c + (2 + 0)) (λ x. x)
      (on_label glance_label_tells (step slots (head_place slots c + (2 + 0)) 0 0 none) m)
  may_glance_label has = at_label glance_label_tells key slots id m c 0 (λ x. x) (λ x. x) (loads has 0 (omega arith))

  -- and of a further word
  pub may_glance_word : {law : RowPredicate} → HasGlance c m.0 → (j : ℕ) → j < slots
      → Allows (Kept law key) slots id m (head_place slots c + (2 + suc j)) (λ x. x)
      (on_word glance_word_tells (step slots (head_place slots c + (2 + suc j)) 0 0 none) m)
  may_glance_word has j low = at_word glance_word_tells key slots id m c j 0 (λ x. x) (λ x. x) low
      (loads has (suc j) (omega (arith, low)))

  -- and of the head again
  pub may_look_again : {law : RowPredicate} → Allows (Kept law key) slots id m (head_place slots c) (λ n. n)
      (on_chunk look_again_tells (step slots (head_place slots c) 0 0 none) m)
  may_look_again = at_chunk look_again_tells key slots id m c 0 (λ n. n) near
      (λ n x t limits o a. reaches_by_look key slots id m c near kind.Load refl n x t (look_again_tells c 0 m n) o
      (refl, (o.head, o.spells, λ has lit same. first_agrees has n x t o a lit same)))
