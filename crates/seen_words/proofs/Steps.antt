-- Each step keeps the rule.
use Rattle.std.proofs.Common.{◌≡◌, ℕ, zero, suc, ◌+◌, true, false, List, [], ◌∷◌, ◌++◌, drop, replicate, slice_index, slice_set, refl, sym, ap, ◌∙◌, subst, ⊎_elim, true≢false, get_or-drop, arith, ◌-◌, ◌<◌, length, length-set}
use Rattle.std.proofs.lemmas.List.{drop-set-add, drop-replicate}
use mathlib.Core.Option.{some, none, some-injective, some-ne-none}
use lib.ListN.{get_elem?}
use Rattle.atomic_table.specs.Table.{Me, Allows, Enters, Splits, opening, step, keeps}
use Rattle.atomic_table.proofs.Lists.{at_set, at_snoc, set_again}
use Rattle.seen_words.specs.declared.views.NoSlot.{NoSlot}
use Rattle.seen_words.specs.declared.views.Moment.{Moment}
use Rattle.seen_words.specs.declared.views.Sight.{Sight}
use Rattle.seen_words.specs.Past.{AllLawful, AllSized, AreEyes, Extends, IsEyeOf, Kept, moment, words_of, pen_sight, eye_sight, first_sight, same_sight, eye_of, enter_tells, load_tells, read_tells, write_tells, MomentLaw}

-- what is set to itself stays
set_same : (ws : List ℕ) (i : ℕ) → slice_set ws i (slice_index ws i) ≡ ws
set_same [] i = refl
set_same (w ∷ ws) zero = refl
set_same (w ∷ ws) (suc i) = ap (λ (r : List ℕ). w ∷ r) (set_same ws i)

-- the zeros behind the six
pub zeros_behind : (all : List ℕ) (n count : ℕ) → all ≡ replicate n 0 → n ≡ 6 + count → drop 6 all ≡ replicate count 0
zeros_behind all n count is size =
    ap (λ (ws : List ℕ). drop 6 ws) is
    ∙ (drop-replicate 6 n 0 ∙ ap (λ (k : ℕ). replicate k 0) (let e : n - 6 ≡ count = omega (arith, size) in e))

-- a word behind the six
word_behind : (all words : List ℕ) (i j : ℕ) → words ≡ drop 6 all → 6 + i ≡ 6 + j
    → slice_index all (6 + i) ≡ slice_index words j
word_behind all words i j is same =
    ap (λ (n : ℕ). slice_index all n) same
    ∙ (sym (get_or-drop 6 all j 0) ∙ ap (λ (ws : List ℕ). slice_index ws j) (sym is))

-- a moment more is seen
more_seen : (before past : List Moment) (now : Moment) → Extends before past → Extends before (now ∷ past)
more_seen before past now seen = record { more = now ∷ seen.more; is = ap (λ (p : List Moment). now ∷ p) seen.is }

all_seen : (past : List Moment) → Extends past past
all_seen past = record { more = []; is = refl }

-- what was seen has as many words
sized_before : (size : ℕ) (more before : List Moment) → AllSized size (more ++ before) → 0 < length (words_of before)
    → length (words_of before) ≡ size
sized_before size [] [] all has = absurd (omega (arith, has))
sized_before size [] (m ∷ older) all has = all.0
sized_before size (m ∷ more) before all has = sized_before size more before all.1 has

-- an eye's seat isn't the first one
eye_at : (past : List Moment) (eyes : List Sight) (id : ℕ) (v : Sight) → v.writes ≡ false
    → get_elem? (pen_sight past ∷ eyes) id ≡ some v → (k : ℕ) × (id ≡ suc k) × (get_elem? eyes k ≡ some v)
eye_at past eyes zero v off at =
    let same : pen_sight past ≡ v = some-injective (pen_sight past) v at in
    absurd (true≢false (ap (λ (w : Sight). w.writes) same ∙ off))
eye_at past eyes (suc k) v off at = (k, refl, at)

-- the pen's is
pen_at : (past : List Moment) (eyes : List Sight) (id : ℕ) (v : Sight) → v.writes ≡ true → AreEyes past eyes
    → get_elem? (pen_sight past ∷ eyes) id ≡ some v → (id ≡ zero) × (pen_sight past ≡ v)
pen_at past eyes zero v on all at = (refl, some-injective (pen_sight past) v at)
pen_at past eyes (suc k) v on all at = absurd (true≢false (sym on ∙ (all k v at).eye))

-- whoever has a seat knows what was up to some moment
knows : (past : List Moment) (eyes : List Sight) (id : ℕ) (v : Sight) → AreEyes past eyes
    → get_elem? (pen_sight past ∷ eyes) id ≡ some v → Extends v.past past
knows past eyes zero v all at =
    let same : pen_sight past ≡ v = some-injective (pen_sight past) v at in
    record { more = []; is = ap (λ (w : Sight). w.past) same }
knows past eyes (suc k) v all at = (all k v at).seen

eyes_set : (past : List Moment) (eyes : List Sight) (k : ℕ) (w : Sight) → AreEyes past eyes → IsEyeOf past w
    → AreEyes past (slice_set eyes k w)
eyes_set past eyes k w all mine j b at =
    ⊎_elim (λ t. subst (IsEyeOf past) t.1 mine) (λ t. all j b t.1) (at_set eyes k j w b at)

eyes_more : (past : List Moment) (eyes : List Sight) (w : Sight) → AreEyes past eyes → IsEyeOf past w
    → AreEyes past (eyes ++ w ∷ [])
eyes_more past eyes w all mine j b at =
    ⊎_elim (λ t. all j b t) (λ t. subst (IsEyeOf past) t mine) (at_snoc eyes w b j at)

eyes_on : (past : List Moment) (now : Moment) (eyes : List Sight) → AreEyes past eyes → AreEyes (now ∷ past) eyes
eyes_on past now eyes all j b at =
    let it = all j b at in record { eye = it.eye; seen = more_seen b.past past now it.seen }

module _ (law : MomentLaw) where
  pub sees : (slots id i : ℕ) (me : Me NoSlot Sight) → me.0.writes ≡ false
      → Allows (Kept law) slots id me (6 + i) (λ n. n) (load_tells law (step slots (6 + i) 0 0 none) me)
  sees slots id i me off s kept room at fits =
      let past : List Moment = kept.now ∷ kept.older in
      let w : Sight = eye_sight past in
      let there : get_elem? (pen_sight past ∷ kept.eyes) id ≡ some me.0 =
      subst (λ (vs : List Sight). get_elem? vs id ≡ some me.0) kept.views at in
      let here : (k : ℕ) × (id ≡ suc k) × (get_elem? kept.eyes k ≡ some me.0) = eye_at past kept.eyes id me.0 off there in
      let mine : Extends me.0.past past = (kept.seen here.0 me.0 here.2).seen in (
        w,
        keeps,
        tt,
        record {
          now = kept.now;
          older = kept.older;
          eyes = slice_set kept.eyes here.0 w;
          views = ap (λ (vs : List Sight). slice_set vs id w) kept.views
              ∙ ap (λ (n : ℕ). slice_set (pen_sight past ∷ kept.eyes) n w) here.1;
          words = kept.words ∙ ap (λ (ws : List ℕ). drop 6 ws) (sym (set_same s.words (6 + i)));
          sized = subst (λ (ws : List ℕ). AllSized (length (drop 6 ws)) (kept.now ∷ kept.older))
              (sym (set_same s.words (6 + i))) kept.sized;
          lawful = kept.lawful;
          seen = eyes_set past kept.eyes here.0 w kept.seen (record { eye = refl; seen = all_seen past });
        },
        record {
          carried = refl;
          eye = sym off;
          seen = mine;
          size = λ (has : 0 < length (words_of me.0.past)).
              kept.sized.0 ∙ sym (sized_before (length (drop 6 s.words)) mine.more me.0.past
              (subst (AllSized (length (drop 6 s.words))) mine.is kept.sized) has);
          lawful = record { now = kept.now; older = kept.older; is = refl; all = kept.lawful };
          told = λ (j : ℕ) (e : 6 + i ≡ 6 + j). word_behind s.words kept.now.words i j kept.words e;
        },
      )

  pub opens : (slots i : ℕ) (first : Sight) → Enters (Kept law) slots i
      (λ n w. enter_tells law (step slots i 0 0 none) (first, []) n (w, []))
  opens slots i first s kept room fits =
      let past : List Moment = kept.now ∷ kept.older in
      let w : Sight = eye_sight past in (
        w,
        record {
          now = kept.now;
          older = kept.older;
          eyes = kept.eyes ++ w ∷ [];
          views = ap (λ (vs : List Sight). vs ++ w ∷ []) kept.views;
          words = kept.words;
          sized = kept.sized;
          lawful = kept.lawful;
          seen = eyes_more past kept.eyes w kept.seen (record { eye = refl; seen = all_seen past });
        },
        (refl, record { now = kept.now; older = kept.older; is = refl; all = kept.lawful }),
      )

  pub parts : (id : ℕ) (v : Sight) → Splits (Kept law) id v (same_sight v) (eye_of v)
  parts id v s kept at =
      let past : List Moment = kept.now ∷ kept.older in
      let w : Sight = eye_of v in
      let there : get_elem? (pen_sight past ∷ kept.eyes) id ≡ some v =
      subst (λ (vs : List Sight). get_elem? vs id ≡ some v) kept.views at in
      record {
        now = kept.now;
        older = kept.older;
        eyes = kept.eyes ++ w ∷ [];
        views = ap (λ (vs : List Sight). vs ++ w ∷ []) (set_again s.views id v at ∙ kept.views);
        words = kept.words;
        sized = kept.sized;
        lawful = kept.lawful;
        seen = eyes_more past kept.eyes w kept.seen (record { eye = refl; seen = knows past kept.eyes id v kept.seen there });
      }

  pub reads : (slots id i : ℕ) (me : Me NoSlot Sight) → me.0.writes ≡ true
      → Allows (Kept law) slots id me (6 + i) (λ n. n) (read_tells (step slots (6 + i) 0 0 none) me)
  reads slots id i me on s kept room at fits =
      let past : List Moment = kept.now ∷ kept.older in
      let there : get_elem? (pen_sight past ∷ kept.eyes) id ≡ some me.0 =
      subst (λ (vs : List Sight). get_elem? vs id ≡ some me.0) kept.views at in
      let here : (id ≡ zero) × (pen_sight past ≡ me.0) = pen_at past kept.eyes id me.0 on kept.seen there in (
        me.0,
        keeps,
        tt,
        record {
          now = kept.now;
          older = kept.older;
          eyes = kept.eyes;
          views = set_again s.views id me.0 at ∙ kept.views;
          words = kept.words ∙ ap (λ (ws : List ℕ). drop 6 ws) (sym (set_same s.words (6 + i)));
          sized = subst (λ (ws : List ℕ). AllSized (length (drop 6 ws)) (kept.now ∷ kept.older))
              (sym (set_same s.words (6 + i))) kept.sized;
          lawful = kept.lawful;
          seen = kept.seen;
        },
        (
          refl,
          λ (j : ℕ) (e : 6 + i ≡ 6 + j). word_behind s.words kept.now.words i j kept.words e
              ∙ ap (λ (v : Sight). slice_index (words_of v.past) j) here.1,
        ),
      )

  pub writes : (slots id i new : ℕ) (note : List (List ℕ)) (me : Me NoSlot Sight) → me.0.writes ≡ true
      → law me.0.past (moment (slice_set (words_of me.0.past) i new) note)
      → Allows (Kept law) slots id me (6 + i) (λ n. new) (λ n. write_tells note (step slots (6 + i) new 0 none) me new)
  writes slots id i new note me on lawful s kept room at fits =
      let past : List Moment = kept.now ∷ kept.older in
      let there : get_elem? (pen_sight past ∷ kept.eyes) id ≡ some me.0 =
      subst (λ (vs : List Sight). get_elem? vs id ≡ some me.0) kept.views at in
      let here : (id ≡ zero) × (pen_sight past ≡ me.0) = pen_at past kept.eyes id me.0 on kept.seen there in
      let mine : past ≡ me.0.past = ap (λ (v : Sight). v.past) here.1 in
      let known : kept.now.words ≡ words_of me.0.past = ap (λ (p : List Moment). words_of p) mine in
      let next : Moment = moment (slice_set (words_of me.0.past) i new) note in
      let w : Sight = pen_sight (next ∷ me.0.past) in
      let written : slice_set (words_of me.0.past) i new ≡ drop 6 (slice_set s.words (6 + i) new) =
      ap (λ (ws : List ℕ). slice_set ws i new) (sym known ∙ kept.words) ∙ sym (drop-set-add 6 s.words i new) in
      let size : length (drop 6 (slice_set s.words (6 + i) new)) ≡ length (drop 6 s.words) =
      ap (λ (ws : List ℕ). length ws) (drop-set-add 6 s.words i new) ∙ length-set (drop 6 s.words) i new in (
        w,
        keeps,
        tt,
        record {
          now = next;
          older = me.0.past;
          eyes = kept.eyes;
          views = ap (λ (vs : List Sight). slice_set vs id w) kept.views
              ∙ ap (λ (n : ℕ). slice_set (pen_sight past ∷ kept.eyes) n w) here.0;
          words = written;
          sized = (
            ap (λ (ws : List ℕ). length ws) written,
            subst (λ (n : ℕ). AllSized n me.0.past) (sym size) (subst (AllSized (length (drop 6 s.words))) mine kept.sized),
          );
          lawful = (lawful, subst (AllLawful law) mine kept.lawful);
          seen = eyes_on me.0.past next kept.eyes (subst (λ (p : List Moment). AreEyes p kept.eyes) mine kept.seen);
        },
        λ (j : ℕ) (e : 6 + i ≡ 6 + j).
            let same : i ≡ j = omega (arith, e) in
            ap (λ (k : ℕ). (pen_sight (moment (slice_set (words_of me.0.past) k new) note ∷ me.0.past), me.1)) same,
      )

  -- words that nobody has written
  pub starts : (words : List ℕ) → law [] (moment (drop 6 words) []) → Kept law (opening words [] (first_sight words))
  starts words lawful = record {
    now = moment (drop 6 words) [];
    older = [];
    eyes = [];
    views = refl;
    words = refl;
    sized = (refl, tt);
    lawful = (lawful, tt);
    seen = λ (id : ℕ) (sight : Sight) at. absurd (some-ne-none sight (sym at));
  }
