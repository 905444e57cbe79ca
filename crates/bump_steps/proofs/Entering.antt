-- Steps of a class's seat alone that add an entry to its history: whatever the other seats have, it can go on.
use Rattle.std.proofs.Common.{◌≡◌, ℕ, ◌+◌, ◌-◌, ◌/◌, ◌%◌, ◌^◌, ◌<◌, ◌≤◌, ◌≢◌, ◌&&◌, ◌==◌, eqb, cond, not, Bool, true, false, List, [], ◌∷◌, ◌++◌, None, if◌then◌else◌, refl, sym, ap, ap₂, ◌∙◌, subst, arith, eq-eqb, ne_eqb, eqb-true}
use mathlib.Core.Bool.{false≢true}
use mathlib.Core.Option.{none}
use mathlib.Core.Logic.{dite}
use native.Mathlib.Decide.{ℕ_discrete}
use Rattle.atomic_table.specs.Table.{step, Allows}
pub use Rattle.bump_rules.proofs.Unlinks.{freed_subject}
use Rattle.bump_rules.specs.declared.items.Head.{Head}
use Rattle.bump_rules.specs.declared.items.ItemId.{ItemId}
use Rattle.bump_rules.specs.declared.places.Place.{Place}
use Rattle.bump_rules.specs.declared.places.Place.TheVariants.{Hot, Warm, Cold, Temp, Dying, Unused, Retired}
use Rattle.bump_rules.specs.declared.places.Segment.TheVariants as segment
use Rattle.bump_rules.specs.declared.places.Start.{Start}
use Rattle.bump_rules.specs.declared.places.Start.TheVariants as start
use Rattle.bump_rules.specs.declared.history.Change.{Change}
use Rattle.bump_rules.specs.declared.history.Change.TheVariants as change
use Rattle.bump_rules.specs.declared.labels.LabelStep.{LabelStep}
use Rattle.bump_rules.specs.declared.labels.LabelStep.TheVariants.{Linked}
use Rattle.bump_rules.specs.declared.configs.Config.{Config}
use Rattle.bump_rules.specs.declared.bumps.AppliedBump.{AppliedBump}
use Rattle.bump_rules.specs.declared.bumps.Outcome.{Outcome}
use Rattle.bump_rules.specs.declared.bumps.Outcome.TheVariants as outcome
use Rattle.bump_rules.specs.Entries.{names_bump, is_move_for, is_unlink_of}
use Rattle.bump_rules.specs.Heads.{linked_head, unlinked_head}
use Rattle.bump_rules.specs.History.{Standing, subject, target, freed_change, is_standing}
use Rattle.bump_rules.specs.Starts.{begun_change}
use Rattle.bump_rules.specs.Labels.{label_word}
use Rattle.bump_rules.specs.Lawful.{bit, Shows, IsUsed, Lawful}
use Rattle.bump_rules.specs.Lives.{life, is_same}
use Rattle.bump_rules.specs.Places.{place_of, first_segment}
use Rattle.bump_rules.proofs.Beginnings.{begun_subject, begun_target, begun_quiet}
use Rattle.bump_rules.proofs.Laws.{relawful, none_where_free, born, unlinked, ended}
use Rattle.bump_rules.proofs.Replay.{standing_push}
use Rattle.bump_rules.proofs.Standings.{standing_same}
use Rattle.bump_rules.proofs.ToldMoves.{no_move}
use Rattle.bump_rules.proofs.Updates.{total_push}
use Rattle.bump_word.specs.Layout.{refs_width, linked_first, generation_first, generation_width}
use Rattle.bump_word.specs.Words.{Spells, word_of, segment_number}
use Rattle.bump_word.proofs.Steps.{unlink}
use Rattle.bump_word.proofs.Words.{fields}
use Rattle.bump_steps.specs.declared.views.Empty.{Empty}
use Rattle.bump_steps.specs.declared.views.Kind.TheVariants as kind
use Rattle.bump_steps.specs.declared.views.OwnStep.{OwnStep}
use Rattle.bump_steps.specs.declared.views.WordStep.{WordStep}
use Rattle.bump_steps.specs.declared.views.WordStep.TheVariants.{Begun}
use Rattle.bump_steps.specs.declared.views.ClassSheet.{ClassSheet}
use Rattle.bump_steps.specs.declared.views.View.{View}
use Rattle.bump_steps.specs.Views.{Measure, held, named, saw, owners, strays, mislabels, misreads, glanced, misglanced, owns, standing, labels_of, last_word, weight, shown_by, shows_time_only, HasLabels, IsBacked}
use Rattle.bump_steps.specs.Rule.{RowPredicate, Sound, chunks, Kept}
use Rattle.bump_steps.specs.Places.{head_place}
use Rattle.bump_steps.specs.Plays.{Sat, on_chunk, step_of, Stands}
use Rattle.bump_steps.specs.Lives.{alone, class_after_load, class_after_link, class_after_sweep, IsInSegment, IsLinked, IsDying, MayLink, on_class, start_in, link_tells, unlink_tells, sweep_or_load_tells}
use Rattle.bump_steps.specs.Lives as lives
use Rattle.bump_steps.proofs.Frame.{Same, Amid, Reaches, same_sound}
use Rattle.bump_steps.proofs.LabelLists.{word_linked, labels_begun}
use Rattle.bump_steps.proofs.LifeLabels.{entered_labels, link_labels}
use Rattle.bump_steps.proofs.Looking.{look_same, look_backed}
use Rattle.bump_steps.proofs.Sights.{stored_last}
use Rattle.bump_steps.proofs.StepLemmas.{at_chunk_by, at_chunk, owned_push, same_counts}
use Rattle.bump_steps.proofs.Told.{at_standing, tells, stands_alone}

-- ---- An entry of a chunk of the class that names no bump, and labels that leave all words.

module _ (c : ℕ) (k : ClassSheet) (own : owns c k ≡ true) (e : Change) (ls : List LabelStep) (ws : List WordStep) (x : OwnStep)
    (of : (subject e).chunk ≡ c) (quiet : names_bump e ≡ false)
    (same_labels : (i b : ℕ) → label_word b 0 (labels_of i ls ws) ≡ last_word i k b) where
  -- the view after it
  abbrev pub entering : View
  entering = alone (record k { history = k.history ++ e ∷ []; labels = ls; words = ws; steps = k.steps ++ x ∷ [] })

  -- where it leaves the chunk
  abbrev pub to_be : Standing
  to_be = (target e, (subject e).generation)

  -- the other chunks of the class stand where they stood
  pub enter_apart : (b : ℕ) → b ≢ c → Same b (alone k) entering
  enter_apart b ne (held j) = refl
  enter_apart b ne (named j) = refl
  enter_apart b ne (saw j) = refl
  enter_apart b ne owners = refl
  enter_apart b ne (strays s) = ap (λ (at : Standing). bit (owns b k && not (is_standing at s)) + 0)
      (standing_push b (Unused, k.fresh) k.history e
      ∙ ap (λ o. cond o (target e, (subject e).generation) (standing k b))
      (ne_eqb (subject e).chunk b (λ q. ne (sym q ∙ of))))
  enter_apart b ne (mislabels i z) = ap (λ (l : ℕ). bit (owns b k && not (eqb l z)) + 0) (same_labels i b)
  enter_apart b ne (misreads i j z) = refl
  enter_apart b ne (glanced j) = refl
  enter_apart b ne (misglanced i j z) = refl

  -- this one stands where the entry says
  no_stray : weight c (strays to_be) entering ≡ 0
  no_stray = ap₂ (λ (o same : Bool). bit (o && not same) + 0) own
      (standing_same _ _ (standing_push c (Unused, k.fresh) k.history e
      ∙ ap (λ o. cond o (target e, (subject e).generation) (standing k c)) (eq-eqb (subject e).chunk c of)))

  -- the entry shows what was shown, and no move
  pub enter_backed : (HasLabels k
      → HasLabels (record k { history = k.history ++ e ∷ []; labels = ls; words = ws; steps = k.steps ++ x ∷ [] }))
      → IsBacked (alone k) entering
  enter_backed keeps = record {
    backs = λ wk d. (by wk d d.outcome, λ more. absurd (omega arith));
    even = λ q. omega (
      arith,
      total_push (λ z. bit (is_move_for q.test q.worker q.number z)) k.history e,
      ap bit (no_move q.test q.worker q.number e quiet),
    );
    progress = λ q. omega arith;
    own = omega (
      arith,
      total_push (λ z. bit (not (owns (subject z).chunk k))) k.history e,
      ap (λ (d : ℕ). bit (not (owns d k))) of,
      ap (λ (b : Bool). bit (not b)) own,
    );
    labels = λ have. (keeps have.0, tt);
    workers = λ w. refl;
    lanes = λ w. refl;
    tidy = omega arith;
  }
    where
      by : (wk : ℕ) (d : AppliedBump) (o : Outcome) → shown_by o wk d (alone k) ≤ shown_by o wk d
          (alone (record k { history = k.history ++ e ∷ []; labels = ls; words = ws; steps = k.steps ++ x ∷ [] }))
      by wk d outcome.Moved = omega (
        arith,
        owned_push (owns d.life.chunk k) (λ z. bit (is_move_for (is_same d.life) wk d.number z)) k.history
            e,
      )
      by wk d outcome.Gone = omega (
        arith,
        owned_push (owns d.life.chunk k) (λ z. bit (is_unlink_of d.life z))
            k.history e,
      )
      by wk d outcome.TimeOnly =
          omega (
            arith,
            owned_push (owns d.life.chunk k) (λ z. bit (shows_time_only wk d.number d.life.chunk z))
                k.steps x,
          )

  -- the chunk is sound with a head that is lawful there
  pub enter_sound : {law : RowPredicate} (limit n p : ℕ) (label : ℕ → ℕ) (t u : Measure → ℕ) → Amid c (alone k) t
      → ((y : Measure) → u y + weight c y (alone k) ≡ t y + weight c y entering) → (o : Sound law limit n label t)
      (to : Head) → Spells p to → to.generation ≡ (subject e).generation
      → ((i : ℕ) → t (misreads i to.generation (label i)) ≡ 0)
      → ((g : ℕ) → to.generation < g → t (glanced g) ≡ 0)
      → (to.linked ≡ true → (i : ℕ) → t (misglanced i to.generation (label i)) ≡ 0) → (to.linked ≡ true → law label)
      → Lawful limit to (target e) (λ g. t (held g)) (λ g. t (named g))
      → Sound law limit p label u
  enter_sound limit n p label t u a moves o to spells gen read ahead faithful obeys lawful = record {
    head = to;
    at = target e;
    spells = spells;
    lawful = relawful limit to (target e) (λ g. t (held g)) (λ g. t (named g)) lawful (λ g. u (held g))
        (λ g. u (named g)) (λ g. omega (arith, moves (held g))) (λ g. omega (arith, moves (named g)));
    owned = omega (arith, moves owners, o.owned);
    agreed = subst (λ (g : ℕ). u (strays (target e, g)) ≡ 0) (sym gen)
        (omega (arith, moves (strays to_be), no_stray, a.others to_be, a.mine owners, o.owned, ap bit own));
    labelled = λ i. omega (
      arith,
      moves (mislabels i (label i)),
      ap (λ (l : ℕ). bit (owns c k && not (eqb l (label i))))
          (same_labels i c),
      o.labelled i,
    );
    read = λ i. omega (arith, moves (misreads i to.generation (label i)), read i);
    ahead = λ g far. omega (arith, moves (glanced g), ahead g far);
    faithful = λ lit i. omega (arith, moves (misglanced i to.generation (label i)), faithful lit i);
    obeys = obeys;
    hit = λ j some. omega (arith, moves (named j), o.hit j (omega (arith, some, moves (saw j))));
  }

-- ---- What the chunk's place says.

-- a chunk of a segment is linked
pub linked_in_segment : (h : Head) (at : Place) → Shows h at → IsInSegment at → h.linked ≡ true
linked_in_segment h Hot shows in_it = shows.0
linked_in_segment h Warm shows in_it = shows.0
linked_in_segment h Cold shows in_it = shows.0
linked_in_segment h Temp shows in_it = shows.0
linked_in_segment h Dying shows in_it = absurd (false≢true in_it)
linked_in_segment h Unused shows in_it = absurd (false≢true in_it)
linked_in_segment h Retired shows in_it = absurd (false≢true in_it)

-- and isn't free
pub used_in_place : (at : Place) → IsInSegment at → IsUsed at
used_in_place Hot in_it = tt
used_in_place Warm in_it = tt
used_in_place Cold in_it = tt
used_in_place Temp in_it = tt
used_in_place Dying in_it = tt
used_in_place Unused in_it = absurd (false≢true in_it)
used_in_place Retired in_it = absurd (false≢true in_it)

-- no chunk is freed to a place of chunks in use
pub freed_unused : (l : ItemId) → IsUsed (target (freed_change l)) → ⊥
freed_unused l = by (l.generation == 4294967295)
  where
    by : (b : Bool) → IsUsed (target (if b then change.Retired l else change.Swept l)) → ⊥
    by true used = used
    by false used = used

-- the entry of a chunk that is freed names no bump
pub freed_quiet : (l : ItemId) → names_bump (freed_change l) ≡ false
freed_quiet l = by (l.generation == 4294967295)
  where
    by : (b : Bool) → names_bump (if b then change.Retired l else change.Swept l) ≡ false
    by true = refl
    by false = refl

-- an unlinked head agrees with the place to which its chunk is freed
freed_shows : (h : Head) (l : ItemId) → h.linked ≡ false → h.generation ≤ 4294967295 → h.generation ≡ l.generation
    → Shows h (target (freed_change l))
freed_shows h l off most same = by (l.generation == 4294967295) refl
  where
    by : (b : Bool) → (l.generation == 4294967295) ≡ b
        → Shows h (target (if b then change.Retired l else change.Swept l))
    by true is = (off, same ∙ eqb-true l.generation 4294967295 is)
    by false is = (
      off,
      dite (ℕ_discrete l.generation 4294967295)
          (λ e. absurd (false≢true (sym is ∙ eq-eqb l.generation 4294967295 e))) (λ ne. omega (arith, most, same)),
    )

-- ---- What the word of a new life says.

-- where the life begins
starts : (a : Start) (n g : ℕ) → Spells n (linked_head a g) → start_in n ≡ a
starts a n g spells = ap (λ (s : ℕ). if s == segment_number segment.Temp then start.Temp else start.Hot)
    (fields n (linked_head a g) spells).segment ∙ by a
  where
    by : (a : Start) → (if segment_number (first_segment a) == segment_number segment.Temp then start.Temp else start.Hot) ≡ a
    by start.Hot = refl
    by start.Temp = refl

-- ---- The steps.

module _ (key : Config) (slots id c : ℕ) (near : c < chunks key) (sl : List (ℕ × Empty)) (k : ClassSheet)
    (own : owns c k ≡ true) where
  -- the chunk stands at its place
  stands_at : (p : Place) → (standing k c).0 ≡ p → Stands c (alone k) (p, (standing k c).1)
  stands_at p e = subst (λ (q : Place). Stands c (alone k) (q, (standing k c).1)) e
      (stands_alone c (alone k) k refl own)

  -- the head of a new life is stored
  pub links : {law : RowPredicate} (a : Start) (new : ℕ) → (standing k c).0 ≡ Unused
      → new ≡ word_of (linked_head a ((standing k c).1 + 1)) → law (λ i. last_word i k c)
      → Allows (Kept law key) slots id (alone k, sl) (head_place slots c) (λ _. new)
      (λ _. on_chunk link_tells (step slots (head_place slots c) new 0 none) (alone k, sl) new)
  links {law = law} b new unused is obeys = let begins : Start = start_in new in
      at_chunk_by link_tells key slots id (alone k, sl) c new (λ _. new) (λ _. new) near
      (λ n label t limits o a.
      let at = at_standing c key.refs_limit n label (alone k) t o a (Unused, (standing k c).1)
      (stands_at Unused unused) in
      let gen : o.head.generation ≡ (standing k c).1 = ap (λ (s : Standing). s.1) at in
      let place : o.at ≡ Unused = ap (λ (s : Standing). s.0) at in
      let room : o.head.generation < 4294967295 = (subst (Shows o.head) place o.lawful.shown).1 in
      let h : Head = linked_head b (o.head.generation + 1) in
      let spells : Spells new h =
      (is ∙ ap (λ (g : ℕ). word_of (linked_head b (g + 1))) (sym gen), (omega arith, omega arith)) in
      let here : o.head.generation + 1 ≡ new / 2 ^ generation_first = sym (fields new h spells).generation in
      let l : ItemId = life c (new / 2 ^ generation_first) in
      let e : Change = begun_change begins l in
      let of = begun_subject begins l in
      let own_chunk : (subject e).chunk ≡ c = ap (λ (j : ItemId). j.chunk) of in
      let in_place : target e ≡ place_of (first_segment b) =
      begun_target begins l ∙ ap (λ (d : Start). place_of (first_segment d))
      (starts b new (o.head.generation + 1) spells) in
      let ls : List LabelStep = k.labels ++ Linked l ∷ [] in
      let ws : List WordStep = k.words ++ Begun l ∷ [] in
      let same : ((i d : ℕ) → label_word d 0 (labels_of i ls ws) ≡ last_word i k d) =
      λ i d. ap (λ (z : List LabelStep). label_word d 0 z) (labels_begun i k.labels k.words l)
      ∙ word_linked d 0 (labels_of i k.labels k.words) l in
      let x : OwnStep = step_of kind.Link c new None in (
        on_class (class_after_link begins c (new / 2 ^ generation_first) new) (alone k),
        (λ u moves. enter_sound c k own e ls ws x own_chunk (begun_quiet begins l) same key.refs_limit n new label t u a
            moves o h spells (here ∙ sym (ap (λ (j : ItemId). j.generation) of))
            (λ i. a.readers i (o.head.generation + 1) (label i)
            (none_where_free key.refs_limit o.head o.at (λ g. t (held g)) (λ g. t (named g)) o.lawful
            (ap IsUsed place) (o.head.generation + 1)))
            (λ g far. o.ahead g (omega (arith, far)))
            (λ lit i. a.glancers i (o.head.generation + 1) (label i) (o.ahead (o.head.generation + 1) (omega arith)))
            (λ lit. subst law (λ z i. stored_last c i key.refs_limit n label (alone k) t o a k refl own z) obeys)
            (subst (λ (p : Place). Lawful key.refs_limit h p (λ g. t (held g)) (λ g. t (named g))) (sym in_place)
            (born key.refs_limit o.head o.at (λ g. t (held g)) (λ g. t (named g)) o.lawful b place limits.0))),
        enter_apart c k own e ls ws x own_chunk (begun_quiet begins l) same,
        enter_backed c k own e ls ws x own_chunk (begun_quiet begins l) same
            (λ p. link_labels begins c (new / 2 ^ generation_first) new k p (sym here ∙ ap (λ (g : ℕ). g + 1) gen)),
        refl,
      ))

  -- LINKED and its reference are subtracted
  pub unlinks : {law : RowPredicate} → IsInSegment (standing k c).0 → Allows (Kept law key) slots id (alone k, sl) (head_place slots c)
      (λ n. (n + (2 ^ 64 - (2 ^ linked_first + 1))) % 2 ^ 64)
      (on_chunk unlink_tells (step slots (head_place slots c) (2 ^ linked_first + 1) 0 none) (alone k, sl))
  unlinks in_it = at_chunk unlink_tells key slots id (alone k, sl) c (2 ^ linked_first + 1)
      (λ n. (n + (2 ^ 64 - (2 ^ linked_first + 1))) % 2 ^ 64) near (λ n label t limits o a.
      let at = at_standing c key.refs_limit n label (alone k) t o a (standing k c)
      (stands_alone c (alone k) k refl own) in
      let gen : o.head.generation ≡ (standing k c).1 = ap (λ (s : Standing). s.1) at in
      let on : o.head.linked ≡ true = linked_in_segment o.head (standing k c).0
      (subst (Shows o.head) (ap (λ (s : Standing). s.0) at) o.lawful.shown) in_it in
      let many : bit o.head.linked ≤ o.head.refs = omega (arith, o.lawful.counted) in
      let e : Change = change.Unlinked (life c (standing k c).1) in
      let x : OwnStep = step_of kind.Unlink c n None in (
        on_class (lives.class_after_unlink c n) (alone k),
        (λ u moves. enter_sound c k own e k.labels k.words x refl refl (λ i b. refl) key.refs_limit n
            ((n + (2 ^ 64 - (2 ^ linked_first + 1))) % 2 ^ 64) label t u a moves o (unlinked_head o.head)
            (unlink n o.head o.spells (on, omega (arith, many, ap bit on))) gen o.read o.ahead
            (λ lit. absurd (false≢true lit))
            (λ lit. absurd (false≢true lit))
            (unlinked key.refs_limit o.head o.at (λ g. t (held g)) (λ g. t (named g)) o.lawful on)),
        enter_apart c k own e k.labels k.words x refl refl (λ i b. refl),
        enter_backed c k own e k.labels k.words x refl refl (λ i b. refl)
            (λ p. entered_labels k e (k.steps ++ x ∷ []) p refl (λ used. used_in_place (standing k c).0 in_it)),
        (refl, (o.head, o.spells, (tells c key.refs_limit n label (alone k) t o a, many))),
      ))

  -- a DYING chunk is looked at, and freed where no reference is found
  pub sweeps : {law : RowPredicate} → (standing k c).0 ≡ Dying → Allows (Kept law key) slots id (alone k, sl) (head_place slots c) (λ n. n)
      (on_chunk sweep_or_load_tells (step slots (head_place slots c) 0 0 none) (alone k, sl))
  sweeps {law = law} dying = at_chunk sweep_or_load_tells key slots id (alone k, sl) c 0 (λ n. n) near
      (λ n label t limits o a. by n label t o a (n % 2 ^ refs_width == 0) refl)
    where
      by : (n : ℕ) (label : ℕ → ℕ) (t : Measure → ℕ) (o : Sound law key.refs_limit n label t) → Amid c (alone k) t → (b : Bool)
          → (n % 2 ^ refs_width == 0) ≡ b → Reaches law key c (alone k, sl) (sweep_or_load_tells c 0 (alone k, sl) n) n
          label t
      by n label t o a false is = (
        on_class (class_after_load c n) (alone k),
        (λ u moves. same_sound key.refs_limit n label t u
            (same_counts c (alone k) (on_class (class_after_load c n) (alone k)) t u (look_same kind.Load c n (alone k) c)
            moves) o),
        (λ d ne. look_same kind.Load c n (alone k) d),
        look_backed kind.Load c n (alone k),
        (
          ap (λ (b : Bool). (
            on_class (λ j. if b then class_after_sweep c n j else class_after_load c n j) (alone k),
            sl,
          )) (sym is),
          (o.head, o.spells, tells c key.refs_limit n label (alone k) t o a),
        ),
      )
      by n label t o a true is =
          let at = at_standing c key.refs_limit n label (alone k) t o a (Dying, (standing k c).1)
          (stands_at Dying dying) in
          let gen : o.head.generation ≡ (standing k c).1 = ap (λ (s : Standing). s.1) at in
          let place : o.at ≡ Dying = ap (λ (s : Standing). s.0) at in
          let l : ItemId = life c (standing k c).1 in
          let e : Change = freed_change l in
          let of : (subject e).chunk ≡ c = ap (λ (j : ItemId). j.chunk) (freed_subject l) in
          let zero_refs : o.head.refs ≡ 0 = sym (fields n o.head o.spells).refs ∙ eqb-true (n % 2 ^ refs_width) 0 is
          in
          let x : OwnStep = step_of kind.Sweep c n None in (
            on_class (class_after_sweep c n) (alone k),
            (λ u moves. enter_sound c k own e k.labels k.words x of (freed_quiet l) (λ i b. refl) key.refs_limit n n label t u a
                moves o o.head o.spells (gen ∙ sym (ap (λ (j : ItemId). j.generation) (freed_subject l))) o.read o.ahead
                o.faithful o.obeys
                (ended key.refs_limit o.head o.at (λ g. t (held g)) (λ g. t (named g)) o.lawful (target e) place
                zero_refs (freed_shows o.head l (subst (Shows o.head) place o.lawful.shown) o.lawful.generation
                gen))),
            enter_apart c k own e k.labels k.words x of (freed_quiet l) (λ i b. refl),
            enter_backed c k own e k.labels k.words x of (freed_quiet l) (λ i b. refl)
                (λ p. entered_labels k e (k.steps ++ x ∷ []) p
                (subst (λ (j : ItemId). j.generation ≡ (standing k j.chunk).1) (sym (freed_subject l)) refl)
                (λ used. absurd (freed_unused l used))),
            (
              ap (λ (b : Bool). (
                on_class (λ j. if b then class_after_sweep c n j else class_after_load c n j)
                    (alone k),
                sl,
              )) (sym is),
              (o.head, o.spells, tells c key.refs_limit n label (alone k) t o a),
            ),
          )

-- ---- For the contracts.

-- a life may begin by the store of its head
pub may_link : {law : RowPredicate} (key : Config) (slots id c g : ℕ) (m : Sat) → c < chunks key → (a : Start) → MayLink law c g m.0
    → (new : ℕ) → new ≡ word_of (linked_head a g) → Allows (Kept law key) slots id m (head_place slots c) (λ _. new)
    (λ _. on_chunk link_tells (step slots (head_place slots c) new 0 none) m new)
may_link {law = law} key slots id c g m near a may new is = let k : ClassSheet = may.0 in let o = may.1 in
    subst (λ (v : View). Allows (Kept law key) slots id (v, m.1) (head_place slots c) (λ _. new)
    (λ _. on_chunk link_tells (step slots (head_place slots c) new 0 none) (v, m.1) new)) (sym o.view)
    (links key slots id c near m.1 k o.own a new o.at (is ∙ ap (λ (j : ℕ). word_of (linked_head a j)) may.2) may.3)

-- and what that tells
pub link_told : (c g : ℕ) (a : Start) (m w : Sat) (new : ℕ) → g < 2 ^ generation_width
    → new ≡ word_of (linked_head a g) → link_tells c new m new w
    → w ≡ (on_class (class_after_link a c g (word_of (linked_head a g))) m.0, m.1)
link_told c g a m w new fits is told =
    let h : Head = linked_head a g in
    let n : ℕ = word_of h in
    let spells : Spells n h = (refl, (omega arith, fits)) in
    told
    ∙ (ap (λ (x : ℕ). (
      on_class (class_after_link (start_in x) c (x / 2 ^ generation_first) x) m.0,
      m.1,
    )) is
    ∙ (ap (λ (b : Start). (on_class (class_after_link b c (n / 2 ^ generation_first) n) m.0, m.1)) (starts a n g spells)
    ∙ ap (λ (j : ℕ). (on_class (class_after_link a c j n) m.0, m.1)) (fields n h spells).generation))

-- a linked chunk may be unlinked
pub may_unlink : {law : RowPredicate} (key : Config) (slots id c : ℕ) (m : Sat) → c < chunks key → IsLinked c m.0
    → Allows (Kept law key) slots id m (head_place slots c) (λ n. (n + (2 ^ 64 - (2 ^ linked_first + 1))) % 2 ^ 64)
    (on_chunk unlink_tells (step slots (head_place slots c) (2 ^ linked_first + 1) 0 none) m)
may_unlink {law = law} key slots id c m near may =
    subst (λ (v : View). Allows (Kept law key) slots id (v, m.1) (head_place slots c)
    (λ n. (n + (2 ^ 64 - (2 ^ linked_first + 1))) % 2 ^ 64)
    (on_chunk unlink_tells (step slots (head_place slots c) (2 ^ linked_first + 1) 0 none) (v, m.1))) (sym may.1.view)
    (unlinks key slots id c near m.1 may.0 may.1.own may.1.at)

-- a DYING chunk may be seen, and freed
pub may_sweep : {law : RowPredicate} (key : Config) (slots id c : ℕ) (m : Sat) → c < chunks key → IsDying c m.0
    → Allows (Kept law key) slots id m (head_place slots c) (λ n. n)
    (on_chunk sweep_or_load_tells (step slots (head_place slots c) 0 0 none) m)
may_sweep {law = law} key slots id c m near may =
    subst (λ (v : View). Allows (Kept law key) slots id (v, m.1) (head_place slots c) (λ n. n)
    (on_chunk sweep_or_load_tells (step slots (head_place slots c) 0 0 none) (v, m.1))) (sym may.1.view)
    (sweeps key slots id c near m.1 may.0 may.1.own may.1.at)
