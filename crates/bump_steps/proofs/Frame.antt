-- A step on one chunk's words by one seat leaves the other chunks as they are.
use Rattle.std.proofs.Common.{◌≡◌, ℕ, ◌+◌, ◌*◌, ◌<◌, ◌≤◌, ◌≢◌, ◌&&◌, eqb, cond, length, not, Bool, true, false, List, [], ◌∷◌, ◌++◌, get_or, set, refl, sym, ap, ◌∙◌, subst, arith, length-set, get_or-set_other, get_or-set_same}
use mathlib.Core.Logic.{dite}
use native.Mathlib.Decide.{ℕ_discrete}
use native.Mathlib.Nat.{zero-mul}
use mathlib.Core.Option.{Option, some}
use lib.ListN.{get_elem?}
use Rattle.atomic_table.specs.Table.{State, Me, Act, Allows, Splits, Joins, Valid, stepped, carried_after, keeps}
use Rattle.bump_rules.specs.Totals.{total}
use Rattle.bump_rules.specs.History.{Standing, is_standing}
use Rattle.bump_rules.specs.declared.configs.Config.{Config}
use Rattle.bump_steps.specs.declared.views.Empty.{Empty}
use Rattle.bump_rules.specs.declared.bumps.AppliedBump.{AppliedBump}
use Rattle.bump_rules.specs.Lives.{life, one_if}
use Rattle.bump_rules.proofs.Updates.{total_append, total_below}
use Rattle.bump_steps.specs.declared.views.View.{View}
use Rattle.bump_steps.specs.Views.{Measure, held, owners, strays, mislabels, misreads, glanced, misglanced, misread, misglance, glances_at, misglances_at, owns, standing, last_word, weight, tally, claims, evidence, Query, moves, settled, in_progress, underway, foreign, HaveLabels, workers_of, lane_count_of, untidy, IsBacked}
use Rattle.bump_steps.specs.Places.{head_place, row_at, words_at}
use Rattle.bump_steps.specs.References.{IsRow}
use Rattle.bump_steps.proofs.Places.{place_apart, place_near, place_behind, row_long, words_beside, words_written, word_found, with_word, with_same}
use Rattle.bump_steps.specs.Rule.{RowPredicate, Sound, SoundAt, chunks, Kept, HasFittingLimit}
use Rattle.bump_steps.specs.Plays.{every, IsOwn}
use Rattle.bump_steps.proofs.Once.{settled_once, settled_here}
use Rattle.bump_steps.proofs.OwnMoves.{moves_here}
use Rattle.bump_steps.proofs.LifeLabels.{labelled_at, labelled_beside, labelled_set, labelled_push}
use Rattle.bump_steps.proofs.Sums.{total-set, none_where_none, term_le, others_le}

abbrev pub Sat : Type 0
Sat = Me Empty View

abbrev pub state : List ℕ → List (Option Empty) → List View → State Empty View
state ws hs vs = record { words = ws; homes = hs; views = vs }

-- the views count the same for the chunk
abbrev pub Same : ℕ → View → View → Type 0
Same c v w = (m : Measure) → weight c m w ≡ weight c m v

-- one of the views that count t together is v
pub record Amid (c : ℕ) (v : View) (t : Measure → ℕ) : Type 0 where
  pub mine : (m : Measure) → weight c m v ≤ t m
  -- of the others none is a stray that is no owner
  pub others : (s : Standing) → t (strays s) + weight c owners v ≤ t owners + weight c (strays s) v
  pub other_labels : (i x : ℕ) → t (mislabels i x) + weight c owners v ≤ t owners + weight c (mislabels i x) v
  -- the histories of the view name no bump twice, and speak of its classes' own chunks alone
  pub once : (w n : ℕ) → moves (every w n) v ≤ 1
  pub own : foreign v ≡ 0
  -- they have the moves of own items that its lanes tell
  pub told : (q : Query) → IsOwn q.test v → 0 < lane_count_of q.worker v → moves q v ≡ settled q v
  -- only a reference reads
  pub readers : (i g x : ℕ) → t (held g) ≡ 0 → t (misreads i g x) ≡ 0
  -- and only a glance finds another word
  pub glancers : (i g x : ℕ) → t (glanced g) ≡ 0 → t (misglanced i g x) ≡ 0

-- the seat can go on to some view w, so that the chunk stays sound at the head word n, and the label and words x
abbrev pub Reaches : RowPredicate → Config → ℕ → Sat → (Sat → Type 0) → ℕ → (ℕ → ℕ) → (Measure → ℕ) → Type 0
Reaches law key c m then n x t = (w : View)
    × ((u : Measure → ℕ) → ((y : Measure) → u y + weight c y m.0 ≡ t y + weight c y w) → Sound law key.refs_limit n x u)
    × ((b : ℕ) → b ≢ c → Same b m.0 w) × IsBacked m.0 w × then (w, m.1)

abbrev pub From : RowPredicate → Config → ℕ → Sat → (ℕ → (ℕ → ℕ) → (Measure → ℕ) → Type 0) → Type 0
From law key c m goes = (n : ℕ) (x : ℕ → ℕ) (t : Measure → ℕ) → HasFittingLimit key → Sound law key.refs_limit n x t → Amid c m.0 t
    → goes n x t

same_tally : (views : List View) (i c : ℕ) (v w : View) → get_elem? views i ≡ some v → Same c v w
    → tally views c ≡ tally (set views i w) c
same_tally views i c v w me same = λ k m. eq m k
  where
    eq : (m : Measure) → tally views c m ≡ tally (set views i w) c m
    eq m = omega (arith, total-set (weight c m) views i v w me, same m)

and_le : (a b : Bool) → cond (a && b) 1 0 ≤ cond a 1 0
and_le true true = omega arith
and_le true false = omega arith
and_le false b = omega arith

pub stray_owns : (c : ℕ) (s : Standing) (v : View) → weight c (strays s) v ≤ weight c owners v
stray_owns c s v = total_below (λ k. cond (owns c k && not (is_standing (standing k c) s)) 1 0)
    (λ k. cond (owns c k) 1 0) (λ k. and_le (owns c k) (not (is_standing (standing k c) s))) v.classes

pub mislabel_owns : (c i x : ℕ) (v : View) → weight c (mislabels i x) v ≤ weight c owners v
mislabel_owns c i x v = total_below (λ k. cond (owns c k && not (eqb (last_word i k c) x)) 1 0)
    (λ k. cond (owns c k) 1 0) (λ k. and_le (owns c k) (not (eqb (last_word i k c) x))) v.classes

reader_holds : (c i g x : ℕ) (v : View) → weight c (held g) v ≡ 0 → weight c (misreads i g x) v ≡ 0
reader_holds c i g x v e = none_where_none (λ h. one_if (life c g) h.life) (misread i c g x)
    (λ h none. ap (λ (k : ℕ). k * cond (eqb (get_or h.row i 0) x) 0 1) none
    ∙ zero-mul (cond (eqb (get_or h.row i 0) x) 0 1)) v.holds
    (omega arith)

glance_finds : (c i g x : ℕ) (v : View) → weight c (glanced g) v ≡ 0 → weight c (misglanced i g x) v ≡ 0
glance_finds c i g x v e = none_where_none (glances_at c g) (misglances_at i c g x)
    (λ w none. none_where_none (λ y. one_if (life c g) y.life) (misglance i c g x)
    (λ y clear. ap (λ (k : ℕ). k * cond (eqb (get_or y.row i 0) x && y.agrees) 0 1) clear
    ∙ zero-mul (cond (eqb (get_or y.row i 0) x && y.agrees) 0 1)) w.glances none) v.workers
    (omega (arith, e))

-- what the rule says of one of the views
pub amid : {law : RowPredicate} (key : Config) (s : State Empty View) → Kept law key s → (c i : ℕ) (v : View) → get_elem? s.views i ≡ some v
    → Amid c v (tally s.views c)
amid key s o c i v me = record {
  once = λ w n. omega (
    arith,
    term_le (moves (every w n)) s.views i v me,
    o.even_moves (every w n),
    settled_once w n s.views o.orderly,
    o.one_lane w,
  );
  own = omega (arith, term_le foreign s.views i v me, o.own_chunks);
  told = λ q own mine. omega (
    arith,
    moves_here q s.views i v me o.one_class o.own_chunks own,
    o.even_moves q,
    settled_here q s.views i v me (o.one_lane q.worker) mine,
  );
  mine = λ m. term_le (weight c m) s.views i v me;
  others = λ at. others_le (weight c (strays at)) (weight c owners) (stray_owns c at) s.views i v me;
  other_labels = λ j x. others_le (weight c (mislabels j x)) (weight c owners) (mislabel_owns c j x) s.views i v me;
  readers = λ j g x. none_where_none (weight c (held g)) (weight c (misreads j g x)) (reader_holds c j g x) s.views;
  glancers = λ j g x. none_where_none (weight c (glanced g)) (weight c (misglanced j g x)) (glance_finds c j g x)
      s.views;
}

-- what one view adds to the entries is backed
backed : (views : List View) (i : ℕ) (v w : View) → get_elem? views i ≡ some v → IsBacked v w
    → ((n : ℕ) (e : AppliedBump) → 0 < total (claims n e) views → 0 < total (evidence n e) views)
    → (n : ℕ) (e : AppliedBump) → 0 < total (claims n e) (set views i w) → 0 < total (evidence n e) (set views i w)
backed views i v w me is o n e many = let more = total-set (evidence n e) views i v w me in let had =
    total-set (claims n e) views i v w me in let b = is.backs n e in let old = o n e in
    dite (ℕ_discrete (total (claims n e) views) 0)
    (λ none. omega (arith, b.1 (omega arith), term_le (evidence n e) views i v me))
    (λ ne. omega (arith, old (omega arith), b.0))

-- a word that is not in the row of a chunk is neither its head nor one of its labels
beside_head : (slots b c i word : ℕ) → word ≡ head_place slots c + i → i < slots + 3 → b ≢ c → head_place slots b ≢ word
beside_head slots b c i word at small ne e =
    ne (place_apart slots b c 0 i (omega arith) small (omega (arith, e, at))).0

beside_words : (slots b c i word : ℕ) → word ≡ head_place slots c + i → i < slots + 3 → b ≢ c → (j : ℕ) → j ≤ slots
    → head_place slots b + (2 + j) ≢ word
beside_words slots b c i word at small ne j low e =
    ne (place_apart slots b c (2 + j) i (omega (arith, low)) small (omega (arith, e, at))).0

module _ {law : RowPredicate} (key : Config) (s : State Empty View) (o : Kept law key s) (i c word j p : ℕ)
    (v w : View) (me : get_elem? s.views i ≡ some v) (near : c < chunks key)
    (at : word ≡ head_place (length s.homes) c + j) (small : j < length s.homes + 3) where
  stepped_kept : ((b : ℕ) → b ≢ c → Same b v w) → IsBacked v w
      → Sound law key.refs_limit (get_or (set s.words word p) (head_place (length s.homes) c) 0)
      (words_at (length s.homes) (set s.words word p) c) (tally (set s.views i w) c)
      → Kept law key (state (set s.words word p) s.homes (set s.views i w))
  stepped_kept apart back now = record {
    wide = length-set s.words word p ∙ o.wide;
    small = o.small;
    each = λ b h. dite (ℕ_discrete b c)
        (λ e. subst (λ (x : ℕ). SoundAt law key (state (set s.words word p) s.homes (set s.views i w)) x) (sym e) now)
        (λ ne.
        subst (λ (x : ℕ × (ℕ → ℕ) × (Measure → ℕ)). Sound law key.refs_limit x.0 x.1 x.2)
        (λ k. (
          sym (get_or-set_other s.words word (head_place (length s.homes) b) p 0
              (beside_head (length s.homes) b c j word at small ne)) k,
          sym (words_beside (length s.homes) s.words word p b (beside_words (length s.homes) b c j word at small ne)) k,
          same_tally s.views i b v w me (apart b ne) k,
        )) (o.each b h));
    one_class = λ b. dite (ℕ_discrete b c)
        (λ e. omega (arith, ap (λ (d : ℕ). total (weight d owners) (set s.views i w)) e, now.owned))
        (λ ne. omega (arith, total-set (weight b owners) s.views i v w me, apart b ne owners, o.one_class b));
    true_entries = backed s.views i v w me back o.true_entries;
    even_moves = λ q. omega (
      arith,
      total-set (moves q) s.views i v w me,
      total-set (settled q) s.views i v w me,
      back.even q,
      o.even_moves q,
    );
    named_moves = λ q. omega (
      arith,
      total-set (in_progress q) s.views i v w me,
      total-set (underway q) s.views i v w me,
      back.progress q,
      o.named_moves q,
    );
    own_chunks = omega (arith, total-set foreign s.views i v w me, back.own, o.own_chunks);
    own_labels = labelled_set s.views i v w me o.own_labels (back.labels (labelled_at s.views i v me o.own_labels));
    one_worker = λ n. omega (arith, total-set (workers_of n) s.views i v w me, back.workers n, o.one_worker n);
    one_lane = λ n. omega (arith, total-set (lane_count_of n) s.views i v w me, back.lanes n, o.one_lane n);
    few_lanes = λ n far. omega (arith, total-set (lane_count_of n) s.views i v w me, back.lanes n, o.few_lanes n far);
    orderly = omega (arith, total-set untidy s.views i v w me, back.tidy, o.orderly);
  }

-- what a step that changes no slot has to show of a state
abbrev Goes : RowPredicate → Config → ℕ → Sat → ℕ → (ℕ → ℕ) → (ℕ → Sat → Type 0) → State Empty View → Type 0
Goes law key id m word f then s = (w : View) × (a : Act Empty) × Valid s.homes m.1 a
    × Kept law key (stepped s word (f (get_or s.words word 0)) id m.1 w a)
    × then (get_or s.words word 0) (w, carried_after m.1 a)

-- a step on a head word is allowed where it can go on, whatever sound words it finds, which are the chunk's row
pub on_head_row : {law : RowPredicate} (key : Config) (slots id : ℕ) (m : Sat) (c : ℕ) (f : ℕ → ℕ) (then : ℕ → Sat → Type 0) → c < chunks key
    → ((row : List ℕ) → IsRow slots row → (n : ℕ) (t : Measure → ℕ) → HasFittingLimit key
    → Sound law key.refs_limit n (λ i. get_or row i 0) t → Amid c m.0 t
    → Reaches law key c m (then n) (f n) (λ i. get_or row i 0) t)
    → Allows (Kept law key) slots id m (head_place slots c) f then
on_head_row {law = law} key slots id m c f then near goes s o count me small =
    subst (λ (z : ℕ). Goes law key id m (head_place z c) f then s) count it
  where
    n : ℕ
    n = get_or s.words (head_place (length s.homes) c) 0

    x : ℕ → ℕ
    x = words_at (length s.homes) s.words c

    within : head_place (length s.homes) c < length s.words
    within = omega (arith, o.wide, place_near (length s.homes) c (chunks key) 0 near (omega arith))

    it : Goes law key id m (head_place (length s.homes) c) f then s
    it = let g = goes (row_at (length s.homes) s.words c) (omega (arith, row_long (length s.homes) s.words c, count)) n
        (tally s.views c) o.small (o.each c near) (amid key s o c id m.0 me) in
        let now : Sound law key.refs_limit (f n) x (tally (set s.views id g.0) c) = g.1 (tally (set s.views id g.0) c)
        (λ y. total-set (weight c y) s.views id m.0 g.0 me) in (
          g.0,
          keeps,
          tt,
          stepped_kept key s o id c (head_place (length s.homes) c) 0 (f n) m.0 g.0 me near (omega arith) (omega arith) g.2 g.3
              (subst (λ (y : ℕ × (ℕ → ℕ)). Sound law key.refs_limit y.0 y.1 (tally (set s.views id g.0) c))
              (λ k. (
                sym (get_or-set_same s.words (head_place (length s.homes) c) (f n) 0 within) k,
                sym (words_beside (length s.homes) s.words (head_place (length s.homes) c) (f n) c (λ i low e. omega (arith, e))) k,
              )) now),
          g.4,
        )

pub on_head : {law : RowPredicate} (key : Config) (slots id : ℕ) (m : Sat) (c : ℕ) (f : ℕ → ℕ) (then : ℕ → Sat → Type 0) → c < chunks key
    → From law key c m (λ n x t. Reaches law key c m (then n) (f n) x t)
    → Allows (Kept law key) slots id m (head_place slots c) f then
on_head key slots id m c f then near goes =
    on_head_row key slots id m c f then near (λ row long n t. goes n (λ i. get_or row i 0) t)

-- on its label, which is word 0, or on a further word
pub on_words : {law : RowPredicate} (key : Config) (slots id : ℕ) (m : Sat) (c i : ℕ) (f : ℕ → ℕ) (then : ℕ → Sat → Type 0) → i ≤ slots
    → c < chunks key → From law key c m (λ n x t. Reaches law key c m (then (x i)) n (with_word x i (f (x i))) t)
    → Allows (Kept law key) slots id m (head_place slots c + (2 + i)) f then
on_words {law = law} key slots id m c i f then low near goes s o count me small =
    subst (λ (z : ℕ). Goes law key id m (head_place z c + (2 + i)) f then s) count it
  where
    n : ℕ
    n = get_or s.words (head_place (length s.homes) c) 0

    x : ℕ → ℕ
    x = words_at (length s.homes) s.words c

    y : ℕ
    y = get_or s.words (head_place (length s.homes) c + (2 + i)) 0

    few : i ≤ (length s.homes)
    few = omega (arith, low, count)

    -- the word found is word i
    found : x i ≡ y
    found = word_found (length s.homes) s.words c i few

    within : head_place (length s.homes) c + (2 + i) < length s.words
    within = omega (arith, o.wide, place_near (length s.homes) c (chunks key) (2 + i) near (omega (arith, few)))

    it : Goes law key id m (head_place (length s.homes) c + (2 + i)) f then s
    it = let g = goes n x (tally s.views c) o.small (o.each c near) (amid key s o c id m.0 me) in
        let now : Sound law key.refs_limit n (with_word x i (f (x i))) (tally (set s.views id g.0) c) =
        g.1 (tally (set s.views id g.0) c) (λ y. total-set (weight c y) s.views id m.0 g.0 me) in (
          g.0,
          keeps,
          tt,
          stepped_kept key s o id c (head_place (length s.homes) c + (2 + i)) (2 + i) (f y) m.0 g.0 me near refl
              (omega (arith, few)) g.2 g.3
              (subst (λ (y : ℕ × (ℕ → ℕ)). Sound law key.refs_limit y.0 y.1 (tally (set s.views id g.0) c))
              (λ k. (
                sym (get_or-set_other s.words (head_place (length s.homes) c + (2 + i)) (head_place (length s.homes) c) (f y) 0
                    (λ e. omega (arith, e))) k,
                (ap (λ (v : ℕ). with_word x i (f v)) found
                    ∙ sym (words_written (length s.homes) s.words (f y) c i few within)) k,
              )) now),
          subst (λ (v : ℕ). then v (g.0, m.1)) found g.4,
        )

-- a load of one of them
pub on_words_load : {law : RowPredicate} (key : Config) (slots id : ℕ) (m : Sat) (c i : ℕ) (then : ℕ → Sat → Type 0) → i ≤ slots
    → c < chunks key → From law key c m (λ n x t. Reaches law key c m (then (x i)) n x t)
    → Allows (Kept law key) slots id m (head_place slots c + (2 + i)) (λ x. x) then
on_words_load {law = law} key slots id m c i then low near goes =
    on_words key slots id m c i (λ x. x) then low near
    (λ n x t limits o a. subst (λ (y : ℕ → ℕ). Reaches law key c m (then (x i)) n y t) (sym (with_same x i))
    (goes n x t limits o a))

-- on a time word, of which the rule says nothing
pub time_step : {law : RowPredicate} (key : Config) (slots id : ℕ) (m : Sat) (c : ℕ) (f : ℕ → ℕ) (then : ℕ → Sat → Type 0) → c < chunks key
    → ((y : ℕ) → From law key c m (λ n x t. Reaches law key c m (then y) n x t))
    → Allows (Kept law key) slots id m (head_place slots c + 1) f then
time_step {law = law} key slots id m c f then near goes s o count me small =
    subst (λ (z : ℕ). Goes law key id m (head_place z c + 1) f then s) count it
  where
    n : ℕ
    n = get_or s.words (head_place (length s.homes) c) 0

    x : ℕ → ℕ
    x = words_at (length s.homes) s.words c

    y : ℕ
    y = get_or s.words (head_place (length s.homes) c + 1) 0

    it : Goes law key id m (head_place (length s.homes) c + 1) f then s
    it = let g = goes y n x (tally s.views c) o.small (o.each c near) (amid key s o c id m.0 me) in
        let now : Sound law key.refs_limit n x (tally (set s.views id g.0) c) = g.1 (tally (set s.views id g.0) c)
        (λ y. total-set (weight c y) s.views id m.0 g.0 me) in (
          g.0,
          keeps,
          tt,
          stepped_kept key s o id c (head_place (length s.homes) c + 1) 1 (f y) m.0 g.0 me near refl (omega arith) g.2 g.3
              (subst (λ (y : ℕ × (ℕ → ℕ)). Sound law key.refs_limit y.0 y.1 (tally (set s.views id g.0) c))
              (λ k. (
                sym (get_or-set_other s.words (head_place (length s.homes) c + 1) (head_place (length s.homes) c) (f y) 0
                    (λ e. omega (arith, e))) k,
                sym (words_beside (length s.homes) s.words (head_place (length s.homes) c + 1) (f y) c (λ i low e. omega (arith, e))) k,
              )) now),
          g.4,
        )

-- a load of a spare word, which leaves all words as they are, where the seat goes on to a view that counts the same
pub on_spare : {law : RowPredicate} (key : Config) (slots id : ℕ) (m : Sat) (w : View) (then : ℕ → Sat → Type 0)
    → ((b : ℕ) → Same b m.0 w) → IsBacked m.0 w
    → ((n : ℕ) (s : State Empty View) → Kept law key s → get_elem? s.views id ≡ some m.0 → then n (w, m.1))
    → Allows (Kept law key) slots id m 0 (λ n. n) then
on_spare {law = law} key slots id m w then same back goes s o count me small = let n : ℕ = get_or s.words 0 0 in (
  w,
  keeps,
  tt,
  record {
    wide = length-set s.words 0 n ∙ o.wide;
    small = o.small;
    each = λ b h. subst (λ (x : ℕ × (ℕ → ℕ) × (Measure → ℕ)). Sound law key.refs_limit x.0 x.1 x.2)
        (λ k. (
          sym (get_or-set_other s.words 0 (head_place (length s.homes) b) n 0
              (λ e. omega (arith, e, place_behind (length s.homes) b))) k,
          sym (words_beside (length s.homes) s.words 0 n b
              (λ i low e. omega (arith, e, place_behind (length s.homes) b))) k,
          same_tally s.views id b m.0 w me (same b) k,
        )) (o.each b h);
    one_class = λ b. omega (arith, total-set (weight b owners) s.views id m.0 w me, same b owners, o.one_class b);
    true_entries = backed s.views id m.0 w me back o.true_entries;
    even_moves = λ q. omega (
      arith,
      total-set (moves q) s.views id m.0 w me,
      total-set (settled q) s.views id m.0 w me,
      back.even q,
      o.even_moves q,
    );
    named_moves = λ q. omega (
      arith,
      total-set (in_progress q) s.views id m.0 w me,
      total-set (underway q) s.views id m.0 w me,
      back.progress q,
      o.named_moves q,
    );
    own_chunks = omega (arith, total-set foreign s.views id m.0 w me, back.own, o.own_chunks);
    own_labels = labelled_set s.views id m.0 w me o.own_labels (back.labels (labelled_at s.views id m.0 me o.own_labels));
    one_worker = λ k. omega (arith, total-set (workers_of k) s.views id m.0 w me, back.workers k, o.one_worker k);
    one_lane = λ k. omega (arith, total-set (lane_count_of k) s.views id m.0 w me, back.lanes k, o.one_lane k);
    few_lanes = λ k far. omega (arith, total-set (lane_count_of k) s.views id m.0 w me, back.lanes k, o.few_lanes k far);
    orderly = omega (arith, total-set untidy s.views id m.0 w me, back.tidy, o.orderly);
  },
  goes n s o me,
)

pub same_sound : {law : RowPredicate} (limit n : ℕ) (x : ℕ → ℕ) (t u : Measure → ℕ) → ((y : Measure) → u y ≡ t y) → Sound law limit n x t
    → Sound law limit n x u
same_sound {law = law} limit n x t u e o = subst (Sound law limit n x) (λ i y. sym (e y) i) o

abbrev pub AddsUp : (View → ℕ) → View → View → View → Type 0
AddsUp f v left right = f left + f right ≡ f v

pub splits : {law : RowPredicate} (key : Config) (id : ℕ) (v left right : View)
    → ((c : ℕ) (x : Measure) → AddsUp (weight c x) v left right)
    → ((n : ℕ) (e : AppliedBump) → AddsUp (claims n e) v left right × AddsUp (evidence n e) v left right)
    → ((q : Query) → AddsUp (moves q) v left right × AddsUp (settled q) v left right
    × AddsUp (in_progress q) v left right × AddsUp (underway q) v left right) → AddsUp foreign v left right
    → (HaveLabels v.classes → HaveLabels left.classes × HaveLabels right.classes)
    → ((n : ℕ) → AddsUp (workers_of n) v left right) → ((n : ℕ) → AddsUp (lane_count_of n) v left right)
    → AddsUp untidy v left right → Splits (Kept law key) id v left right
splits key id v left right even entries rides owned labels workers lanes tidy s o me = record {
  wide = o.wide;
  small = o.small;
  each = λ c near. same_sound key.refs_limit (get_or s.words (head_place (length s.homes) c) 0)
      (words_at (length s.homes) s.words c)
      (tally s.views c) (tally (set s.views id left ++ right ∷ []) c) (λ x. keep (weight c x) (even c x))
      (o.each c near);
  one_class = λ c. omega (arith, keep (weight c owners) (even c owners), o.one_class c);
  true_entries = λ n e many. let old = o.true_entries n e in
      omega (
        arith,
        keep (claims n e) (entries n e).0,
        keep (evidence n e) (entries n e).1,
        old (omega (arith, keep (claims n e) (entries n e).0)),
      );
  even_moves = λ q. omega (arith, keep (moves q) (rides q).0, keep (settled q) (rides q).1, o.even_moves q);
  named_moves = λ q. omega (arith, keep (in_progress q) (rides q).2, keep (underway q) (rides q).3, o.named_moves q);
  own_chunks = omega (arith, keep foreign owned, o.own_chunks);
  own_labels = let have = labels (labelled_at s.views id v me o.own_labels) in labelled_push (set s.views id left)
      right (labelled_set s.views id v left me o.own_labels have.0) have.1;
  one_worker = λ n. omega (arith, keep (workers_of n) (workers n), o.one_worker n);
  one_lane = λ n. omega (arith, keep (lane_count_of n) (lanes n), o.one_lane n);
  few_lanes = λ n far. omega (arith, keep (lane_count_of n) (lanes n), o.few_lanes n far);
  orderly = omega (arith, keep untidy tidy, o.orderly);
}
  where
    keep : (f : View → ℕ) → AddsUp f v left right → total f (set s.views id left ++ right ∷ []) ≡ total f s.views
    keep f h = omega (arith, total_append f (set s.views id left) (right ∷ []), total-set f s.views id v left me)

pub joins : {law : RowPredicate} (key : Config) (id : ℕ) (v : View) (other : ℕ) (w both spent : View)
    → ((c : ℕ) (x : Measure) → weight c x both + weight c x spent ≡ weight c x v + weight c x w)
    → ((n : ℕ) (e : AppliedBump) → (claims n e both + claims n e spent ≡ claims n e v + claims n e w)
    × (evidence n e both + evidence n e spent ≡ evidence n e v + evidence n e w))
    → ((q : Query) → (moves q both + moves q spent ≡ moves q v + moves q w)
    × (settled q both + settled q spent ≡ settled q v + settled q w)
    × (in_progress q both + in_progress q spent ≡ in_progress q v + in_progress q w)
    × (underway q both + underway q spent ≡ underway q v + underway q w)) → foreign both + foreign spent ≡ foreign v
    + foreign w → (HaveLabels v.classes → HaveLabels w.classes → HaveLabels both.classes
    × HaveLabels spent.classes)
    → ((n : ℕ) → workers_of n both + workers_of n spent ≡ workers_of n v + workers_of n w)
    → ((n : ℕ) → lane_count_of n both + lane_count_of n spent ≡ lane_count_of n v + lane_count_of n w)
    → untidy both + untidy spent ≡ untidy v + untidy w → Joins (Kept law key) id v other w both spent
joins key id v other w both spent even entries rides owned labels workers lanes tidy s o me apart them = record {
  wide = o.wide;
  small = o.small;
  each = λ c near. same_sound key.refs_limit (get_or s.words (head_place (length s.homes) c) 0)
      (words_at (length s.homes) s.words c)
      (tally s.views c) (tally (set (set s.views id both) other spent) c) (λ x. keep (weight c x) (even c x))
      (o.each c near);
  one_class = λ c. omega (arith, keep (weight c owners) (even c owners), o.one_class c);
  true_entries = λ n e many. let old = o.true_entries n e in
      omega (arith, keep (evidence n e) (entries n e).1, old (omega (arith, keep (claims n e) (entries n e).0)));
  even_moves = λ q. omega (arith, keep (moves q) (rides q).0, keep (settled q) (rides q).1, o.even_moves q);
  named_moves = λ q. omega (arith, keep (in_progress q) (rides q).2, keep (underway q) (rides q).3, o.named_moves q);
  own_chunks = omega (arith, keep foreign owned, o.own_chunks);
  own_labels = let have = labels (labelled_at s.views id v me o.own_labels)
      (labelled_beside s.views id other both w apart them o.own_labels) in labelled_set (set s.views id both) other w
      spent them (labelled_set s.views id v both me o.own_labels have.0) have.1;
  one_worker = λ n. omega (arith, keep (workers_of n) (workers n), o.one_worker n);
  one_lane = λ n. omega (arith, keep (lane_count_of n) (lanes n), o.one_lane n);
  few_lanes = λ n far. omega (arith, keep (lane_count_of n) (lanes n), o.few_lanes n far);
  orderly = omega (arith, keep untidy tidy, o.orderly);
}
  where
    keep : (f : View → ℕ) → f both + f spent ≡ f v + f w → total f (set (set s.views id both) other spent) ≡ total f
        s.views
    keep f h = omega (arith, total-set f s.views id v both me, total-set f (set s.views id both) other w spent them)
