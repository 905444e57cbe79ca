-- The start: the rule holds of fresh words and the first seat.
use Rattle.std.proofs.Common.{◌≡◌, ℕ, zero, suc, cond, map, get_or, set, length-set, get_or-set_same, get_or-set_other, mul-le-mul_right, ◌+◌, ◌-◌, ◌^◌, ◌<◌, ◌≤◌, ◌&&◌, eqb, ltb, leb, not, Bool, true, false, List, [], ◌∷◌, length, None, refl, sym, ap, ap₂, ◌∙◌, subst, arith, eq-eqb, ne_eqb, lt-ltb, le-ltb}
use Rattle.std.proofs.lemmas.Bool.{le-leb, lt-leb}
use mathlib.Core.Bool.{false≢true}
use mathlib.Core.Logic.{dite}
use native.Mathlib.Decide.{dec_le, ℕ_discrete}
use mathlib.Core.Option.{some}
use lib.ListN.{length-map}
use Rattle.atomic_table.specs.Table.{opening}
use Rattle.bump_rules.specs.declared.labels.LabelStep.{LabelStep}
use Rattle.bump_rules.specs.Labels.{label_of_life, label_word}
use Rattle.bump_steps.specs.declared.views.Empty.{Empty}
use Rattle.bump_steps.specs.Places.{head_place, words_at}
use Rattle.bump_steps.proofs.Places.{place_near, place_apart, words_beside, word_found, word_past}
use Rattle.bump_rules.specs.declared.places.Place.TheVariants.{Unused}
use Rattle.bump_rules.specs.Lawful.{bit}
use Rattle.bump_rules.specs.Heads.{fresh_head}
use Rattle.bump_rules.specs.Totals.{total}
use Rattle.bump_rules.specs.Configs.{chunks_of, most_chunks}
use Rattle.bump_rules.specs.declared.configs.ClassConfig.{ClassConfig}
use Rattle.bump_rules.specs.declared.configs.Config.{Config}
use Rattle.bump_steps.specs.declared.views.ClassSheet.{ClassSheet}
use Rattle.bump_steps.specs.declared.views.WorkerSheet.{WorkerSheet}
use Rattle.bump_steps.specs.declared.views.LaneSheet.{LaneSheet}
use Rattle.bump_rules.specs.Totals.{how_many}
use Rattle.bump_rules.specs.Lives.{life, count_of}
use Rattle.bump_rules.specs.History.{is_standing}
use Rattle.bump_rules.specs.Entries.{is_move_for}
use Rattle.bump_rules.proofs.Standings.{standing_same}
use Rattle.bump_word.specs.Layout.{generation_width}
use Rattle.bump_steps.specs.Views.{owns, standing, labels_of, last_word, held, named, saw, glanced, glances_at, weight, refers, in_hand, is_fetch_of, bump_aboard, claimed_in, settled_in, names_move, underway_in, foreign_in, HaveLabels, untidy_in}
use Rattle.bump_steps.specs.Rule.{RowPredicate, chunks, Kept, class_sheets, worker_sheet, worker_sheets, lane_sheet, lane_sheets, opened, AreFresh, HasFittingLimit}

-- the sheet of a class to which nothing happened
abbrev new_class : ℕ → ℕ → ℕ → ClassConfig → ClassSheet
new_class fresh i first n = record {
  class = i;
  first = first;
  count = n.chunks;
  fresh = fresh;
  history = [];
  labels = [];
  words = [];
  applying = None;
  steps = [];
}

-- of no word anything was done
pub nothing_yet : (i : ℕ) → labels_of i [] [] ≡ []
nothing_yet zero = refl
nothing_yet (suc j) = refl

owns_yes : (c : ℕ) (k : ClassSheet) → k.first ≤ c → c < k.first + k.count → bit (owns c k) ≡ 1
owns_yes c k low high = ap₂ (λ a b. bit (a && b)) (le-leb k.first c low) (lt-ltb c (k.first + k.count) high)

owns_before : (c : ℕ) (k : ClassSheet) → c < k.first → bit (owns c k) ≡ 0
owns_before c k h = ap (λ a. bit (a && ltb c (k.first + k.count))) (lt-leb k.first c h)

owns_behind : (c : ℕ) (k : ClassSheet) → k.first + k.count ≤ c → bit (owns c k) ≡ 0
owns_behind c k h = ap (λ a. bit (leb k.first c && a)) (le-ltb c (k.first + k.count) h) ∙ none (leb k.first c)
  where
    none : (a : Bool) → bit (a && false) ≡ 0
    none true = refl
    none false = refl

pub no_owner : (fresh i first c : ℕ) (ns : List ClassConfig) → c < first → total (λ k. bit (owns c k))
    (class_sheets fresh i first ns) ≡ 0
no_owner fresh i first c [] h = refl
no_owner fresh i first c (n ∷ ns) h =
    omega (
      arith,
      owns_before c (new_class fresh i first n) h,
      no_owner fresh (i + 1) (first + n.chunks) c ns (omega arith),
    )

pub one_owner : (fresh i first c : ℕ) (ns : List ClassConfig) → first ≤ c → c < first + chunks_of ns
    → total (λ k. bit (owns c k)) (class_sheets fresh i first ns) ≡ 1
one_owner fresh i first c [] low high = absurd (omega arith)
one_owner fresh i first c (n ∷ ns) low high = let k : ClassSheet = new_class fresh i first n in
    dite (dec_le (first + n.chunks) c)
    (λ later. omega (
      arith,
      owns_behind c k later,
      one_owner fresh (i + 1) (first + n.chunks) c ns later
          (omega arith),
    ))
    (λ here. omega (
      arith,
      owns_yes c k low (omega arith),
      no_owner fresh (i + 1) (first + n.chunks) c ns
          (omega arith),
    ))

-- nor has one that is behind them all
no_owner_behind : (fresh i first c : ℕ) (ns : List ClassConfig) → first + chunks_of ns ≤ c
    → total (λ k. bit (owns c k)) (class_sheets fresh i first ns) ≡ 0
no_owner_behind fresh i first c [] h = refl
no_owner_behind fresh i first c (n ∷ ns) h =
    omega (
      arith,
      owns_behind c (new_class fresh i first n) (omega arith),
      no_owner_behind fresh (i + 1) (first + n.chunks) c ns (omega arith),
    )

-- so no chunk has two classes
few_owners : (fresh c : ℕ) (ns : List ClassConfig) → total (λ k. bit (owns c k)) (class_sheets fresh 0 0 ns) ≤ 1
few_owners fresh c ns = dite (dec_le (chunks_of ns) c)
    (λ behind. omega (arith, no_owner_behind fresh 0 0 c ns (omega (arith, behind))))
    (λ among. omega (arith, one_owner fresh 0 0 c ns (omega arith) (omega arith)))

pub no_stray_yet : (fresh i first c : ℕ) (ns : List ClassConfig)
    → total (λ k. bit (owns c k && not (is_standing (standing k c) (Unused, fresh)))) (class_sheets fresh i first ns)
    ≡ 0
no_stray_yet fresh i first c [] = refl
no_stray_yet fresh i first c (n ∷ ns) =
    omega (
      arith,
      none (owns c (new_class fresh i first n)),
      no_stray_yet fresh (i + 1) (first + n.chunks) c ns,
    )
  where
    none : (a : Bool) → bit (a && not (is_standing (Unused, fresh) (Unused, fresh))) ≡ 0
    none true = ap (λ b. bit (not b)) (standing_same (Unused, fresh) (Unused, fresh) refl)
    none false = refl

pub no_mislabel_yet : (i fresh j first c : ℕ) (ns : List ClassConfig)
    → total (λ k. bit (owns c k && not (eqb (last_word i k c) 0))) (class_sheets fresh j first ns) ≡ 0
no_mislabel_yet i fresh j first c [] = refl
no_mislabel_yet i fresh j first c (n ∷ ns) =
    omega (
      arith,
      none (owns c (new_class fresh j first n)),
      no_mislabel_yet i fresh (j + 1) (first + n.chunks) c ns,
    )
  where
    none : (a : Bool) → bit (a && not (eqb (label_word c 0 (labels_of i [] [])) 0)) ≡ 0
    none true = ap (λ (l : List LabelStep). bit (not (eqb (label_word c 0 l) 0))) (nothing_yet i)
    none false = refl

-- workers and lanes count for nothing at the start
no_workers : (f : WorkerSheet → ℕ) → ((w : ℕ) → f (worker_sheet w) ≡ 0) → (w n : ℕ) → total f (worker_sheets w n) ≡ 0
no_workers f e w zero = refl
no_workers f e w (suc n) = omega (arith, e w, no_workers f e (w + 1) n)

no_lanes : (f : LaneSheet → ℕ) → ((w : ℕ) → f (lane_sheet w) ≡ 0) → (w n : ℕ) → total f (lane_sheets w n) ≡ 0
no_lanes f e w zero = refl
no_lanes f e w (suc n) = omega (arith, e w, no_lanes f e (w + 1) n)

no_classes : (f : ClassSheet → ℕ)
    → ((g i at n : ℕ) → f (record {
      class = i;
      first = at;
      count = n;
      fresh = g;
      history = [];
      labels = [];
      words = [];
      applying = None;
      steps =
          [];
    }) ≡ 0) → (g i at : ℕ) (ks : List ClassConfig) → total f (class_sheets g i at ks) ≡ 0
no_classes f e g i at [] = refl
no_classes f e g i at (k ∷ ks) = omega (arith, e g i at k.chunks, no_classes f e g (i + 1) (at + k.chunks) ks)

cond_none : (b : Bool) → ◌≡◌ {A = ℕ} (cond b 0 0) 0
cond_none true = refl
cond_none false = refl

no_held : (c g : ℕ) (key : Config) → weight c (held g) (opened key) ≡ 0
no_held c g key = omega (
  arith,
  no_workers (λ w. in_hand c g w.hand) (λ w. refl) 0 key.workers,
  no_lanes (λ l. refers c g (bump_aboard l.stage)) (λ w. refl) 0 key.workers,
)

no_named : (c g : ℕ) (key : Config) → weight c (named g) (opened key) + 0 ≡ 0
no_named c g key = omega (arith, no_workers (λ w. count_of (life c g) w.hits) (λ w. refl) 0 key.workers)

no_saw : (c g : ℕ) (key : Config) → weight c (saw g) (opened key) + 0 ≡ 0
no_saw c g key = omega (arith, no_workers (λ w. how_many (is_fetch_of c g) w.steps) (λ w. refl) 0 key.workers)

no_glance : (c g : ℕ) (key : Config) → weight c (glanced g) (opened key) + 0 ≡ 0
no_glance c g key = omega (arith, no_workers (glances_at c g) (λ w. refl) 0 key.workers)

-- no chunk of a new class is in use, and no life has begun
fresh_labels : (g i at : ℕ) (ks : List ClassConfig) → HaveLabels (class_sheets g i at ks)
fresh_labels g i at [] = tt
fresh_labels g i at (k ∷ ks) = (
  record {
    labelled = λ i c own used. absurd used;
    unbegun = λ i c j later. ap (λ (l : List LabelStep). label_of_life (life c j) 0 l) (nothing_yet i);
  },
  fresh_labels g (i + 1) (at + k.chunks) ks,
)

-- of the lanes of workers from w on one is of each worker
none_of : (n w m : ℕ) → n < w → total (λ l. cond (eqb l.worker n) 1 0) (lane_sheets w m) ≡ 0
none_of n w zero h = refl
none_of n w (suc m) h = omega (
  arith,
  ap {B = ℕ} (λ (b : Bool). cond b 1 0) (ne_eqb w n (λ e. omega (arith, h, e))),
  none_of n (w + 1) m (omega arith),
)

one_of : (n w m : ℕ) → total (λ l. cond (eqb l.worker n) 1 0) (lane_sheets w m) ≤ 1
one_of n w zero = omega arith
one_of n w (suc m) = dite (ℕ_discrete w n)
    (λ e. omega (arith, ap {B = ℕ} (λ (b : Bool). cond b 1 0) (eq-eqb w n e), none_of n (w + 1) m (omega arith)))
    (λ ne. omega (arith, ap {B = ℕ} (λ (b : Bool). cond b 1 0) (ne_eqb w n ne), one_of n (w + 1) m))

-- and none is of a number behind them
none_above : (n w m : ℕ) → w + m ≤ n → total (λ l. cond (eqb l.worker n) 1 0) (lane_sheets w m) ≡ 0
none_above n w zero h = refl
none_above n w (suc m) h = omega (
  arith,
  ap {B = ℕ} (λ (b : Bool). cond b 1 0) (ne_eqb w n (λ e. omega (arith, h, e))),
  none_above n (w + 1) m (omega arith),
)

-- and the same of workers
no_worker_of : (n w m : ℕ) → n < w → total (λ p. cond (eqb p.worker n) 1 0) (worker_sheets w m) ≡ 0
no_worker_of n w zero h = refl
no_worker_of n w (suc m) h =
    omega (
      arith,
      ap {B = ℕ} (λ (b : Bool). cond b 1 0) (ne_eqb w n (λ e. omega (arith, h, e))),
      no_worker_of n (w + 1) m (omega arith),
    )

one_worker_of : (n w m : ℕ) → total (λ p. cond (eqb p.worker n) 1 0) (worker_sheets w m) ≤ 1
one_worker_of n w zero = omega arith
one_worker_of n w (suc m) = dite (ℕ_discrete w n)
    (λ e. omega (arith, ap {B = ℕ} (λ (b : Bool). cond b 1 0) (eq-eqb w n e), no_worker_of n (w + 1) m (omega arith)))
    (λ ne. omega (arith, ap {B = ℕ} (λ (b : Bool). cond b 1 0) (ne_eqb w n ne), one_worker_of n (w + 1) m))

pub starts : {law : RowPredicate} (key : Config) (words : List ℕ) (slots : List Empty)
    → AreFresh (length slots) (chunks key) (key.first_generation - 1) words
    → HasFittingLimit key → (0 < key.first_generation) × (key.first_generation < 2 ^ generation_width)
    → Kept law key (opening words slots (opened key))
starts key words slots at_first limits generations = record {
  wide = fresh.0;
  small = limits;
  each = λ c near. record {
    head = fresh_head (key.first_generation - 1);
    at = Unused;
    spells = (omega (arith, (fresh.1 c near).0), (omega arith, omega arith));
    lawful = record {
      counted = omega (arith, no_held c (key.first_generation - 1) key);
      within = omega arith;
      generation = omega arith;
      shown = (refl, omega arith);
      used = λ g many. absurd (omega (arith, many, no_held c g key));
      active = omega arith;
      fetched = no_named c (key.first_generation - 1) key;
      once = λ g. omega (arith, no_named c g key);
      past = λ g many. absurd (omega (arith, many, no_named c g key));
    };
    owned = omega (arith, one_owner (key.first_generation - 1) 0 0 c key.classes (omega arith) (omega (arith, near)));
    obeys = λ lit. absurd (false≢true lit);
    agreed = omega (arith, no_stray_yet (key.first_generation - 1) 0 0 c key.classes);
    labelled = λ i. subst (λ (x : ℕ). total (λ k. bit (owns c k && not (eqb (last_word i k c) x)))
        (class_sheets (key.first_generation - 1) 0 0 key.classes) + 0 ≡ 0) (sym ((fresh.1 c near).1 i))
        (omega (arith, no_mislabel_yet i (key.first_generation - 1) 0 0 c key.classes));
    read = λ i. refl;
    ahead = λ g far. no_glance c g key;
    faithful = λ lit. absurd (false≢true lit);
    hit = λ g some. absurd (omega (arith, some, no_saw c g key));
  };
  one_class = λ c. omega (arith, few_owners (key.first_generation - 1) c key.classes);
  true_entries = λ n a many. absurd
      (omega (arith, many, no_lanes (claimed_in n a) (λ w. cond_none (eqb w n)) 0 key.workers));
  even_moves = λ q. omega (
    arith,
    no_classes (λ k. how_many (is_move_for q.test q.worker q.number) k.history)
        (λ g i at n. refl) (key.first_generation - 1) 0 0 key.classes,
    no_lanes (settled_in q)
        (λ w. cond_none (eqb w q.worker)) 0 key.workers,
  );
  named_moves = λ q. omega (
    arith,
    no_classes (λ k. names_move q k.applying) (λ g i at n. refl) (key.first_generation - 1) 0 0 key.classes,
    no_lanes (underway_in q) (λ w. cond_none (eqb w q.worker)) 0 key.workers,
  );
  own_chunks = omega (arith, no_classes foreign_in (λ g i at n. refl) (key.first_generation - 1) 0 0 key.classes);
  own_labels = (fresh_labels (key.first_generation - 1) 0 0 key.classes, tt);
  one_worker = λ n. omega (arith, one_worker_of n 0 key.workers);
  one_lane = λ n. omega (arith, one_of n 0 key.workers);
  few_lanes = λ n far. omega (arith, none_above n 0 key.workers (omega (arith, far)));
  orderly = omega (arith, no_lanes untidy_in (λ w. refl) 0 key.workers);
}
  where
    fresh : AreFresh (length (map some slots)) (chunks key) (key.first_generation - 1) words
    fresh = subst (λ (n : ℕ). AreFresh n (chunks key) (key.first_generation - 1) words) (sym (length-map slots some))
        at_first

-- ---- fresh words

-- a list of zeros has no other number
pub all_zero : (ws : List ℕ) → ((k : ℕ) → k < length ws → get_or ws k 0 ≡ 0) → (k : ℕ) → get_or ws k 0 ≡ 0
all_zero [] zeros k = refl
all_zero (w ∷ ws) zeros zero = zeros 0 (omega arith)
all_zero (w ∷ ws) zeros (suc k) = all_zero ws (λ j h. zeros (suc j) (omega (arith, h))) k

-- so each label and word is 0
pub no_words : (s c : ℕ) (ws : List ℕ) → ((k : ℕ) → get_or ws k 0 ≡ 0) → (i : ℕ) → words_at s ws c i ≡ 0
no_words s c ws zeros i = dite (dec_le i s) (λ le. word_found s ws c i le ∙ zeros (head_place s c + (2 + i)))
    (λ gt. word_past s ws c i (omega (arith, gt)))

-- how far the loop is that stores the heads
pub record Heads (s chunks n word : ℕ) (ws : List ℕ) : Type 0 where
  pub wide : length ws ≡ head_place s chunks
  pub heads : (c : ℕ) → c < n → get_or ws (head_place s c) 0 ≡ word
  pub others : (c i : ℕ) → words_at s ws c i ≡ 0

pub heads_start : (s chunks word : ℕ) (ws : List ℕ) → length ws ≡ head_place s chunks
    → ((k : ℕ) → k < length ws → get_or ws k 0 ≡ 0) → Heads s chunks 0 word ws
heads_start s chunks word ws wide zeros = record {
  wide = wide;
  heads = λ c h. absurd (omega (arith, h));
  others = λ c i. no_words s c ws (all_zero ws zeros) i;
}

pub heads_go_on : (s chunks n word : ℕ) (ws : List ℕ) → n < chunks → Heads s chunks n word ws
    → Heads s chunks (n + 1) word (set ws (head_place s n) word)
heads_go_on s chunks n word ws near o = record {
  wide = length-set ws (head_place s n) word ∙ o.wide;
  heads = λ c h. dite (ℕ_discrete c n)
      (λ e. ap (λ (d : ℕ). get_or (set ws (head_place s n) word) (head_place s d) 0) e
      ∙ get_or-set_same ws (head_place s n) word 0
      (omega (arith, o.wide, place_near s n chunks 0 near (omega arith))))
      (λ ne. get_or-set_other ws (head_place s n) (head_place s c) word 0
      (λ e. ne (place_apart s c n 0 0 (omega arith) (omega arith) (omega (arith, e))).0)
      ∙ o.heads c (omega (arith, h, ne)));
  others = λ c i. ap (λ (x : ℕ → ℕ). x i) (words_beside s ws (head_place s n) word c
      (λ j low e. absurd (two_places s c n j low (omega (arith, e))))) ∙ o.others c i;
}
  where
    -- a label is no head
    two_places : (s c n j : ℕ) → j ≤ s → head_place s c + (2 + j) ≡ head_place s n + 0 → ⊥
    two_places s c n j low e = let one : (c ≡ n) × (2 + j ≡ 0) =
        place_apart s c n (2 + j) 0 (omega (arith, low)) (omega arith) e in omega (arith, one.1)

-- the table of the most chunks is small
pub place_small : (s c : ℕ) → c ≤ most_chunks → s < 2 ^ 32 → head_place s c < 2 ^ 60
unfolding head_place
place_small s c h low = omega (arith, mul-le-mul_right (s + 3) h, low)
