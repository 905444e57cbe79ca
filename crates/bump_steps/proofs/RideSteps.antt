-- Steps of a worker for a bump's reference: whatever the other seats have, its seat with the hold joined can go on.
use Rattle.std.proofs.Common.{◌≡◌, ◌≢◌, ℕ, ◌+◌, ◌-◌, ◌/◌, ◌%◌, ◌^◌, ◌<◌, ◌≤◌, ◌&&◌, ◌==◌, cond, Bool, false, List, [], ◌∷◌, ◌++◌, Option, Some, None, refl, sym, ap, ◌∙◌, subst, arith}
use prog.Atomic.{either}
use Rattle.atomic_table.specs.Table.{Allows}
use Rattle.atomic_table.proofs.Lists.{exchanged}
use Rattle.bump_rules.specs.declared.configs.Config.{Config}
use Rattle.bump_rules.specs.declared.items.Head.{Head}
use Rattle.bump_rules.specs.declared.items.ItemId.{ItemId}
use Rattle.bump_rules.specs.declared.bumps.Accounts.{Accounts}
use Rattle.bump_rules.specs.declared.bumps.AppliedBump.{AppliedBump}
use Rattle.bump_rules.specs.declared.bumps.Outcome.{Outcome}
use Rattle.bump_rules.specs.declared.bumps.Outcome.TheVariants as outcome
use Rattle.bump_rules.specs.declared.hands.Hand.{Hand}
use Rattle.bump_rules.specs.declared.hands.Hand.TheVariants as hand
use Rattle.bump_rules.specs.declared.commands.Dropped.{Dropped}
use Rattle.bump_rules.specs.Lawful.{Lawful}
use Rattle.bump_rules.specs.Tables.{refused_of}
use Rattle.bump_rules.specs.Totals.{how_many}
use Rattle.bump_rules.proofs.Laws.{referred, unreferred}
use Rattle.bump_rules.proofs.Updates.{total_push}
use Rattle.bump_word.specs.Layout.{generation_first}
use Rattle.bump_word.specs.Words.{Spells, word_of}
use Rattle.bump_word.proofs.Steps.{one_less}
use Rattle.bump_word.proofs.Words.{one_head}
use Rattle.bump_steps.specs.declared.views.Empty.{Empty}
use Rattle.bump_steps.specs.declared.views.Kind.{Kind}
use Rattle.bump_steps.specs.declared.views.Kind.TheVariants as kind
use Rattle.bump_steps.specs.declared.views.OwnStep.{OwnStep}
use Rattle.bump_steps.specs.declared.views.WorkerSheet.{WorkerSheet}
use Rattle.bump_steps.specs.declared.views.HoldSheet.{HoldSheet}
use Rattle.bump_steps.specs.declared.views.View.{View}
use Rattle.bump_steps.specs.Views.{Measure, held, named, saw, owners, strays, mislabels, misreads, glanced, misglanced, weight, in_hand, is_fetch, is_fetch_of, shown_by, IsBacked}
use Rattle.bump_steps.specs.Rule.{RowPredicate, Sound, chunks, Kept, HasFittingLimit}
use Rattle.bump_steps.specs.Places.{head_place}
use Rattle.bump_steps.specs.Plays.{Sat, step_of}
use Rattle.bump_rules.specs.Accounts.{counted_drop}
use Rattle.bump_steps.specs.Rides.{touching, judged_hand, IsOfHeld, load_to_ride_by_tells, load_to_ride_tells, reserve_tells, try_to_ride_tells, release_tells, IsOn, HasRoomForReference}
use Rattle.bump_steps.proofs.Frame.{Same, Amid, Reaches, on_head, same_sound}
use Rattle.bump_steps.proofs.StepLemmas.{level, one_life, other_life, other_chunk, same_counts}

-- a worker that tries, or is to clear ACTIVE, has no reference in its hand
none_in_hand : (o : Option Dropped) (l : ItemId) (b k : ℕ) → in_hand b k (judged_hand o l) ≡ 0
none_in_hand None l b k = refl
none_in_hand (Some r) l b k = refl

module _ (p : WorkerSheet) (q : HoldSheet) (l : ItemId) where
  -- the worker so far, with these accounts and steps, and its hold
  abbrev pub with_hold : Hand → Accounts → List OwnStep → View
  with_hold s a steps = touching (record p { hand = s; accounts = a; steps = steps }) (record q { life = l })

  module _ (s z : Hand) (a : Accounts) (x : OwnStep) (plain : is_fetch x.kind ≡ false) where
    -- such a step adds no fetch
    same_saw : (b k : ℕ) → how_many (is_fetch_of b k) (p.steps ++ x ∷ []) ≡ how_many (is_fetch_of b k) p.steps
    same_saw b k = omega (
      arith,
      total_push (λ y. cond (is_fetch_of b k y) 1 0) p.steps x,
      ap {B = ℕ} (λ (f : Bool). cond (f && ((x.chunk == b) && (x.word / 2 ^ generation_first == k))) 1 0) plain,
    )

    -- another chunk counts as before
    elsewhere : (b : ℕ) → ((k : ℕ) → in_hand b k z ≡ in_hand b k s) → Same b (with_hold s p.accounts p.steps)
        (with_hold z a (p.steps ++ x ∷ []))
    elsewhere b same (held k) = omega (arith, same k)
    elsewhere b same (named k) = refl
    elsewhere b same (saw k) = omega (arith, same_saw b k)
    elsewhere b same owners = refl
    elsewhere b same (strays w) = refl
    elsewhere b same (mislabels i y) = refl
    elsewhere b same (misreads i k y) = refl
    elsewhere b same (glanced k) = refl
    elsewhere b same (misglanced i k y) = refl

    -- a worker's step shows nothing of applied bumps
    quiet : IsBacked (with_hold s p.accounts p.steps) (with_hold z a (p.steps ++ x ∷ []))
    quiet = record {
      backs = λ w e. (by w e e.outcome, λ more. absurd (omega arith));
      even = λ y. omega arith;
      progress = λ y. omega arith;
      own =
          omega arith;
      labels = λ have. have;
      workers = λ w. refl;
      lanes = λ w. refl;
      tidy = omega arith;
    }
      where
        by : (w : ℕ) (e : AppliedBump) (o : Outcome) → shown_by o w e (with_hold s p.accounts p.steps) ≤ shown_by o w
            e (with_hold z a (p.steps ++ x ∷ []))
        by w e outcome.Moved = omega arith
        by w e outcome.Gone = omega arith
        by w e outcome.TimeOnly = omega arith

    -- the chunk stays sound where its head's count goes with its references
    refs_sound : {law : RowPredicate} (limit n m : ℕ) (y : ℕ → ℕ) (t u : Measure → ℕ)
        → ((g : Measure) → u g + weight l.chunk g (with_hold s p.accounts p.steps) ≡ t g + weight l.chunk g
        (with_hold z a (p.steps ++ x ∷ []))) → (o : Sound law limit n y t) → (r : ℕ)
        → Spells m (record o.head { refs = r })
        → Lawful limit (record o.head { refs = r }) o.at (λ g. u (held g)) (λ g. t (named g)) → Sound law limit m y u
    refs_sound limit n m y t u moves o r spells lawful = record {
      head = record o.head { refs = r };
      at = o.at;
      spells = spells;
      lawful = subst (λ (f : ℕ → ℕ). Lawful limit (record o.head { refs = r }) o.at (λ j. u (held j)) f)
          (λ i j. level (t (named j)) (u (named j)) (weight l.chunk (named j) (with_hold s p.accounts p.steps))
          (moves (named j)) i) lawful;
      owned = omega (arith, moves owners, o.owned);
      agreed = omega (arith, moves (strays (o.at, o.head.generation)), o.agreed);
      labelled = λ i. omega (arith, moves (mislabels i (y i)), o.labelled i);
      read = λ i. omega (arith, moves (misreads i o.head.generation (y i)), o.read i);
      ahead = λ j far. omega (arith, moves (glanced j), o.ahead j far);
      faithful = λ lit i. omega (arith, moves (misglanced i o.head.generation (y i)), o.faithful lit i);
      obeys = o.obeys;
      hit = λ j some. omega (
        arith,
        moves (named j),
        o.hit j (omega (arith, some, moves (saw j), same_saw l.chunk j)),
      );
    }

module _ (key : Config) (slots id : ℕ) (p : WorkerSheet) (q : HoldSheet) (l : ItemId) (near : l.chunk < chunks key)
    (sl : List (ℕ × Empty)) where
  -- the seat of a worker with this in its hand, and its hold
  abbrev pub seat_with : Hand → Sat
  seat_with s = (with_hold p q l s p.accounts p.steps, sl)

  -- the hold's life is the chunk's, and has a reference
  held_here : {law : RowPredicate} (s : Hand) (n : ℕ) (y : ℕ → ℕ) (t : Measure → ℕ) (o : Sound law key.refs_limit n y t) → Amid l.chunk (seat_with s).0 t
      → IsOfHeld key.refs_limit l o.head
  held_here s n y t o a =
      let mine : 0 < t (held l.generation) = omega (arith, a.mine (held l.generation), one_life l) in
      let gen : l.generation ≡ o.head.generation = (o.lawful.used l.generation mine).0 in
      (sym gen, omega (arith, o.lawful.counted, ap (λ (j : ℕ). t (held j)) gen, mine), o.lawful.within)

  -- a load, or an exchange that failed: the attempt ends here or goes on
  look_reaches : {law : RowPredicate} (kind : Kind) → is_fetch kind ≡ false → (failed n : ℕ) (y : ℕ → ℕ) (t : Measure → ℕ)
      (o : Sound law key.refs_limit n y t)
      → Amid l.chunk (seat_with (hand.Trying l)).0 t → Reaches law key l.chunk (seat_with (hand.Trying l))
      (load_to_ride_by_tells kind key.refs_limit failed l (seat_with (hand.Trying l)) n) n y t
  look_reaches kind plain failed n y t o a = let why : Option Dropped = refused_of key.refs_limit failed o.head in
      let x : OwnStep = step_of kind l.chunk (word_of o.head) None in
      let next : (b k : ℕ) → in_hand b k (judged_hand why l) ≡ 0 = none_in_hand why l in (
        with_hold p q l (judged_hand why l) (counted_drop why p.accounts) (p.steps ++ x ∷ []),
        (λ u moves. same_sound key.refs_limit n y t u
            (same_counts l.chunk (seat_with (hand.Trying l)).0
            (with_hold p q l (judged_hand why l) (counted_drop why p.accounts) (p.steps ++ x ∷ [])) t u
            (elsewhere p q l (hand.Trying l) (judged_hand why l) (counted_drop why p.accounts) x plain l.chunk
            (next l.chunk)) moves) o),
        (λ b ne. elsewhere p q l (hand.Trying l) (judged_hand why l) (counted_drop why p.accounts) x plain b (next b)),
        quiet p q l (hand.Trying l) (judged_hand why l) (counted_drop why p.accounts) x plain,
        (o.head, o.spells, held_here (hand.Trying l) n y t o a, refl),
      )

  loads_to_ride : {law : RowPredicate} (failed : ℕ) → Allows (Kept law key) slots id (seat_with (hand.Trying l)) (head_place slots l.chunk) (λ n. n)
      (load_to_ride_tells key.refs_limit failed l (seat_with (hand.Trying l)))
  loads_to_ride failed = on_head key slots id (seat_with (hand.Trying l)) l.chunk (λ n. n)
      (load_to_ride_tells key.refs_limit failed l (seat_with (hand.Trying l))) near
      (λ n y t limits o a. look_reaches kind.Load refl failed n y t o a)

  -- an exchange that found the word that it expects
  reserve_reaches : {law : RowPredicate} (old : ℕ) → HasRoomForReference key.refs_limit old → (n : ℕ) (y : ℕ → ℕ) (t : Measure → ℕ) → HasFittingLimit key
      → (o : Sound law key.refs_limit n y t) → Amid l.chunk (seat_with (hand.Trying l)).0 t → n ≡ old
      → Reaches law key l.chunk (seat_with (hand.Trying l)) (reserve_tells key.refs_limit l (seat_with (hand.Trying l)) n)
      (old + 1) y t
  reserve_reaches old room n y t limits o a hit =
      let x : OwnStep = step_of kind.Reserve l.chunk (word_of o.head) None in
      let is : IsOfHeld key.refs_limit l o.head = held_here (hand.Trying l) n y t o a in
      let now : o.head ≡ room.0 = one_head n o.head room.0 o.spells (hit ∙ room.1.0, room.1.1) in
      let less : o.head.refs < key.refs_limit = omega (arith, ap (λ (h : Head). h.refs) now, room.2) in
      let used = (o.lawful.used l.generation (omega (arith, a.mine (held l.generation), one_life l))).1 in (
        with_hold p q l (hand.InHand l) p.accounts (p.steps ++ x ∷ []),
        (λ u moves. refs_sound p q l (hand.Trying l) (hand.InHand l) p.accounts x refl key.refs_limit n (old + 1) y t
            u moves o (o.head.refs + 1)
            (omega (arith, o.spells.0, hit), (omega (arith, limits.1, less), o.spells.1.1))
            (referred key.refs_limit o.head o.at (λ j. t (held j)) (λ j. t (named j)) o.lawful (λ j. u (held j)) used
            less
            (subst (λ (j : ℕ). u (held j) ≡ t (held j) + 1) (sym is.0)
            (omega (arith, moves (held l.generation), one_life l)))
            (λ j ne. omega (arith, moves (held j), other_life l j (λ e. ne (e ∙ sym is.0)))))),
        (λ b ne. away (hand.Trying l) (hand.InHand l) p.accounts x refl b ne (λ j. refl) (λ j. other_chunk b j l ne)),
        quiet p q l (hand.Trying l) (hand.InHand l) p.accounts x refl,
        (o.head, o.spells, is, refl),
      )
    where
      away : (s z : Hand) (a : Accounts) (x : OwnStep) (plain : is_fetch x.kind ≡ false) (b : ℕ) → b ≢ l.chunk
          → ((j : ℕ) → in_hand b j s ≡ 0) → ((j : ℕ) → in_hand b j z ≡ 0)
          → Same b (seat_with s).0 (with_hold p q l z a (p.steps ++ x ∷ []))
      away s z a x plain b ne none nothing = elsewhere p q l s z a x plain b (λ j. nothing j ∙ sym (none j))

  reserves : {law : RowPredicate} (failed old : ℕ) → HasRoomForReference key.refs_limit old → Allows (Kept law key) slots id (seat_with (hand.Trying l))
      (head_place slots l.chunk) (λ n. either (n == old) (old + 1) n)
      (try_to_ride_tells key.refs_limit failed l old (seat_with (hand.Trying l)))
  reserves {law = law} failed old room = on_head key slots id (seat_with (hand.Trying l)) l.chunk
      (λ n. either (n == old) (old + 1) n) (try_to_ride_tells key.refs_limit failed l old (seat_with (hand.Trying l)))
      near (λ n y t limits o a.
      exchanged n old (old + 1)
      (λ k. Reaches law key l.chunk (seat_with (hand.Trying l))
      (try_to_ride_tells key.refs_limit failed l old (seat_with (hand.Trying l)) n) k y t)
      (λ hit. let r = reserve_reaches old room n y t limits o a hit in
      (r.0, r.1, r.2, r.3, ((λ _. r.4), (λ miss. absurd (miss hit)))))
      (λ miss. let r = look_reaches kind.Failed refl failed n y t o a in
      (r.0, r.1, r.2, r.3, ((λ hit. absurd (miss hit)), (λ _. r.4)))))

  -- a bump's reference is given back
  releases : {law : RowPredicate} → Allows (Kept law key) slots id (seat_with (hand.InHand l)) (head_place slots l.chunk)
      (λ n. (n + (2 ^ 64 - 1)) % 2 ^ 64) (release_tells l (seat_with (hand.InHand l)))
  releases = on_head key slots id (seat_with (hand.InHand l)) l.chunk (λ n. (n + (2 ^ 64 - 1)) % 2 ^ 64)
      (release_tells l (seat_with (hand.InHand l))) near (λ n y t limits o a.
      let x : OwnStep = step_of kind.GiveBackBump l.chunk (word_of o.head) None in
      let less : Accounts = record p.accounts { full = p.accounts.full + 1 } in
      let is : IsOfHeld key.refs_limit l o.head = held_here (hand.InHand l) n y t o a in
      let both : 2 ≤ t (held l.generation) = omega (arith, a.mine (held l.generation), one_life l) in
      let many : 2 ≤ o.head.refs = omega (arith, o.lawful.counted, ap (λ (j : ℕ). t (held j)) is.0, both) in (
        with_hold p q l (hand.Clearing l) less (p.steps ++ x ∷ []),
        (λ u moves. refs_sound p q l (hand.InHand l) (hand.Clearing l) less x refl key.refs_limit n
            ((n + (2 ^ 64 - 1)) % 2 ^ 64) y t u moves o (o.head.refs - 1)
            (one_less n o.head o.spells (omega (arith, many)))
            (unreferred key.refs_limit o.head o.at (λ j. t (held j)) (λ j. t (named j)) o.lawful (λ j. u (held j))
            (subst (λ (j : ℕ). u (held j) + 1 ≡ t (held j)) (sym is.0)
            (omega (arith, moves (held l.generation), one_life l)))
            (λ j ne. omega (arith, moves (held j), other_life l j (λ e. ne (e ∙ sym is.0)))))),
        (λ b ne. elsewhere p q l (hand.InHand l) (hand.Clearing l) less x refl b (λ j. sym (other_chunk b j l ne))),
        quiet p q l (hand.InHand l) (hand.Clearing l) less x refl,
        (o.head, o.spells, is.0, many, refl),
      ))

-- ---- for the contracts

-- the seat that is so far, as these lemmas have it
abbrev seen_as : (s : Hand) (l : ItemId) (m : Sat) → IsOn s l m.0 → Sat
seen_as s l m on = (with_hold on.sheet on.hold l s on.sheet.accounts on.sheet.steps, m.1)

seat_is : (s : Hand) (l : ItemId) (m : Sat) (on : IsOn s l m.0) → m ≡ seen_as s l m on
seat_is s l m on = λ i. (
  (on.view
      ∙ (λ j. touching (record on.sheet { hand = on.hand j }) (record on.hold { life = on.life j }))) i,
  m.1,
)

pub may_load_to_ride : {law : RowPredicate} (key : Config) (slots id : ℕ) (m : Sat) (l : ItemId) (limit failed : ℕ) → l.chunk < chunks key
    → limit ≡ key.refs_limit → IsOn (hand.Trying l) l m.0 → Allows (Kept law key) slots id m (head_place slots l.chunk) (λ n. n)
    (load_to_ride_tells limit failed l m)
may_load_to_ride {law = law} key slots id m l limit failed near is on =
    subst (λ (z : ℕ × Sat). Allows (Kept law key) slots id z.1 (head_place slots l.chunk) (λ n. n)
    (load_to_ride_tells z.0 failed l z.1)) (λ i. (sym is i, sym (seat_is (hand.Trying l) l m on) i))
    (loads_to_ride key slots id on.sheet on.hold l near m.1 failed)

pub may_reserve : {law : RowPredicate} (key : Config) (slots id : ℕ) (m : Sat) (l : ItemId) (limit failed old : ℕ) → l.chunk < chunks key
    → limit ≡ key.refs_limit → IsOn (hand.Trying l) l m.0 → HasRoomForReference limit old → Allows (Kept law key) slots id m
    (head_place slots l.chunk) (λ n. either (n == old) (old + 1) n) (try_to_ride_tells limit failed l old m)
may_reserve {law = law} key slots id m l limit failed old near is on room =
    subst (λ (z : ℕ × Sat). Allows (Kept law key) slots id z.1 (head_place slots l.chunk) (λ n. either (n == old) (old + 1) n)
    (try_to_ride_tells z.0 failed l old z.1)) (λ i. (sym is i, sym (seat_is (hand.Trying l) l m on) i))
    (reserves key slots id on.sheet on.hold l near m.1 failed old (subst (λ (k : ℕ). HasRoomForReference k old) is room))

pub may_release_bump : {law : RowPredicate} (key : Config) (slots id : ℕ) (m : Sat) (l : ItemId) → l.chunk < chunks key
    → IsOn (hand.InHand l) l m.0 → Allows (Kept law key) slots id m (head_place slots l.chunk) (λ n. (n + (2 ^ 64 - 1)) % 2 ^ 64)
    (release_tells l m)
may_release_bump {law = law} key slots id m l near on =
    subst (λ (z : Sat). Allows (Kept law key) slots id z (head_place slots l.chunk) (λ n. (n + (2 ^ 64 - 1)) % 2 ^ 64)
    (release_tells l z)) (sym (seat_is (hand.InHand l) l m on)) (releases key slots id on.sheet on.hold l near m.1)
