-- A sweep that tells which chunks came free, and stops where its slice is full.
use Rattle.std.proofs.Common.{◌≡◌, ◌≢◌, ℕ, zero, suc, ◌+◌, ◌<◌, ◌≤◌, cond, get_or, set, Bool, true, false, List, [], ◌∷◌, ◌++◌, length, take, drop, Option, Some, if◌then◌else◌, refl, sym, ap, ap₂, ◌∙◌, arith, eq-eqb, ne_eqb}
use Rattle.std.proofs.lemmas.List.{append-nil, append_assoc, drop_more, take_more, take-append-drop, length-append, length-map}
use Rattle.std.proofs.Math.Seq.{set-append_seam}
use mathlib.Core.Logic.{dite}
use native.Mathlib.Decide.{ℕ_discrete}
use Rattle.bump_links.specs.Lists.{times, first_of, next_of}
use Rattle.bump_rules.specs.declared.items.Head.{Head}
use Rattle.bump_rules.specs.Sweeps.{unheld, swept_of}
use Rattle.bump_rules.specs.Tables.{is_unheld}
use Rattle.bump_rules.specs.declared.places.Place.TheVariants.{Dying}
use Rattle.bump_rules.proofs.PlainLists.{times_same}
use Rattle.bump_word.specs.Words.{Fits}
use Rattle.bump_heads.specs.Linking.{generation_of_chunk}
use Rattle.bump_class.specs.Books.{BookView, IsBook}
use Rattle.bump_class.specs.Changes.{book_after_sweep_or_load}
use Rattle.bump_class.specs.Sweeps.{SweepsThese, SweepsInto, up_to, told_first}
use Rattle.bump_class.proofs.Keeping.{once_at_most}
use Rattle.bump_class.proofs.Sights.{SweptSoFar, none_swept, one_more, moved_on, with_found, found_same, found_other, apart, times_append}

-- ---- plain lists

-- a chunk in front, where it is free
abbrev one_if_free : Bool → ℕ → List ℕ
one_if_free free c = if free then c ∷ [] else []

-- the unheld chunks of a list are its first, if it is, and those of the rest
unheld_cons : (heads : ℕ → Head) (x : ℕ) (xs : List ℕ) → unheld heads (x ∷ xs)
    ≡ one_if_free (is_unheld (heads x)) x ++ unheld heads xs
unheld_cons heads x xs = by (is_unheld (heads x))
  where
    by : (b : Bool) → cond b (x ∷ unheld heads xs) (unheld heads xs) ≡ one_if_free b x ++ unheld heads xs
    by true = refl
    by false = refl

-- one more look at the end
pub unheld_more : (c : ℕ) (h : Head) (heads : ℕ → Head) (xs : List ℕ) → times c xs ≡ 0
    → unheld (with_found c h heads) (xs ++ c ∷ []) ≡ unheld heads xs ++ one_if_free (is_unheld h) c
unheld_more c h heads [] none = unheld_cons (with_found c h heads) c []
    ∙ (append-nil (one_if_free (is_unheld (with_found c h heads c)) c)
    ∙ ap (λ (k : Head). one_if_free (is_unheld k) c) (found_same c h heads))
unheld_more c h heads (x ∷ xs) none =
    let other = apart c x xs none in
    unheld_cons (with_found c h heads) x (xs ++ c ∷ [])
    ∙ (ap₂ (λ a b. a ++ b) (ap (λ (k : Head). one_if_free (is_unheld k) x) (found_other c x h heads other.0))
    (unheld_more c h heads xs other.1)
    ∙ (sym (append_assoc (one_if_free (is_unheld (heads x)) x) (unheld heads xs) (one_if_free (is_unheld h) c))
    ∙ ap (λ a. a ++ one_if_free (is_unheld h) c) (sym (unheld_cons heads x xs))))

-- the heads of other chunks don't matter
unheld_found : (c : ℕ) (h : Head) (heads : ℕ → Head) (xs : List ℕ) → times c xs ≡ 0
    → unheld (with_found c h heads) xs ≡ unheld heads xs
unheld_found c h heads [] none = refl
unheld_found c h heads (x ∷ xs) none =
    let other = apart c x xs none in
    unheld_cons (with_found c h heads) x xs
    ∙ (ap₂ (λ a b. a ++ b) (ap (λ (k : Head). one_if_free (is_unheld k) x) (found_other c x h heads other.0))
    (unheld_found c h heads xs other.1) ∙ sym (unheld_cons heads x xs))

-- as many chunks are told as enter the history
pub as_many : (heads : ℕ → Head) (xs : List ℕ) → length (swept_of heads xs) ≡ length (unheld heads xs)
as_many heads xs = length-map (unheld heads xs) _

-- one more chunk is written behind those that were told
pub told_more : (us slice : List ℕ) (c : ℕ) → length us < length slice
    → set (told_first us slice) (length us) c ≡ told_first (us ++ c ∷ []) slice
told_more us slice c room =
    let n = length us in
    ap (λ zs. set (us ++ zs) n c) (drop_more slice n 0 room)
    ∙ (set-append_seam us (get_or slice n 0) (drop (n + 1) slice) c
    ∙ (sym (append_assoc us (c ∷ []) (drop (n + 1) slice))
    ∙ ap (λ k. (us ++ c ∷ []) ++ drop k slice) (sym (length-append us (c ∷ [])))))

-- ---- where a sweep stops

none_left : (n : ℕ) (heads : ℕ → Head) → up_to n heads [] ≡ []
none_left zero heads = refl
none_left (suc n) heads = refl

tail_same : {x y : ℕ} {xs ys : List ℕ} → ◌≡◌ {A = List ℕ} (x ∷ xs) (y ∷ ys) → xs ≡ ys
tail_same e = ap (λ (l : List ℕ). drop 1 l) e

-- the heads of other chunks don't matter
up_to_found : (n c : ℕ) (h : Head) (heads : ℕ → Head) (xs : List ℕ) → times c xs ≡ 0
    → up_to n (with_found c h heads) xs ≡ up_to n heads xs
up_to_found zero c h heads xs none = refl
up_to_found (suc n) c h heads [] none = refl
up_to_found (suc n) c h heads (x ∷ xs) none =
    let other = apart c x xs none in
    ap (λ (k : Head). x ∷ up_to (if is_unheld k then n else suc n) (with_found c h heads) xs)
    (found_other c x h heads other.0)
    ∙ ap (λ zs. x ∷ zs) (up_to_found (if is_unheld (heads x) then n else suc n) c h heads xs other.1)

-- while there is room, one more chunk is looked at
up_to_more : (n : ℕ) (heads : ℕ → Head) (xs : List ℕ) (c : ℕ) → up_to n heads xs ≡ xs
    → length (unheld heads xs) < n → up_to n heads (xs ++ c ∷ []) ≡ xs ++ c ∷ []
up_to_more zero heads xs c same room = absurd (omega (arith, room))
up_to_more (suc n) heads [] c same room = ap (λ zs. c ∷ zs) (none_left (if is_unheld (heads c) then n else suc n) heads)
up_to_more (suc n) heads (x ∷ xs) c same room = ap (λ zs. x ∷ zs)
    (by (λ m. up_to_more m heads xs c) (is_unheld (heads x)) (tail_same same) room)
  where
    by : ((m : ℕ) → up_to m heads xs ≡ xs → length (unheld heads xs) < m → up_to m heads (xs ++ c ∷ []) ≡ xs ++ c ∷ [])
        → (b : Bool) → up_to (if b then n else suc n) heads xs ≡ xs
        → length (cond b (x ∷ unheld heads xs) (unheld heads xs)) < suc n
        → up_to (if b then n else suc n) heads (xs ++ c ∷ []) ≡ xs ++ c ∷ []
    by rest true e few = rest n e (omega (arith, few))
    by rest false e few = rest (suc n) e few

-- where there is none any more, no further one is
up_to_full : (n : ℕ) (heads : ℕ → Head) (xs ys : List ℕ) → up_to n heads xs ≡ xs → length (unheld heads xs) ≡ n
    → up_to n heads (xs ++ ys) ≡ xs
up_to_full zero heads [] ys same full = refl
up_to_full zero heads (x ∷ xs) ys same full = absurd (cc same)
up_to_full (suc n) heads [] ys same full = absurd (omega (arith, full))
up_to_full (suc n) heads (x ∷ xs) ys same full = ap (λ zs. x ∷ zs)
    (by (λ m. up_to_full m heads xs ys) (is_unheld (heads x)) (tail_same same) full)
  where
    by : ((m : ℕ) → up_to m heads xs ≡ xs → length (unheld heads xs) ≡ m → up_to m heads (xs ++ ys) ≡ xs)
        → (b : Bool) → up_to (if b then n else suc n) heads xs ≡ xs
        → length (cond b (x ∷ unheld heads xs) (unheld heads xs)) ≡ suc n
        → up_to (if b then n else suc n) heads (xs ++ ys) ≡ xs
    by rest true e all = rest n e (omega (arith, all))
    by rest false e all = rest (suc n) e all

-- ---- how far a sweep is

-- What a slice was told so far, where there is one: the chunks that came free among the first i of DYING. It has room
-- for one more.
pub record ToldSoFar (dying : List ℕ) (i n : ℕ) (slice now : List ℕ) (heads : ℕ → Head) : Type 0 where
  pub told : now ≡ told_first (unheld heads (take i dying)) slice
  pub room : n < length slice
  pub ahead : up_to (length slice) heads (take i dying) ≡ take i dying

-- nothing was told yet
pub none_told : (dying slice : List ℕ) (heads : ℕ → Head) → 0 < length slice → ToldSoFar dying 0 0 slice slice heads
none_told dying slice heads some = record { told = refl; room = some; ahead = none_left (length slice) heads }

-- What a sweep comes to that stops where its slice, if it has one, is full.
abbrev pub SweepsFor : BookView → List ℕ → ℕ → BookView → List ℕ → (ℕ → Head) → List ℕ → Type 0
SweepsFor book slice count left told heads looked = SweepsThese looked book count left heads
    × (length slice ≡ 0 → looked ≡ book.lists.dying)
    × (0 < length slice → (looked ≡ up_to (length slice) heads book.lists.dying)
    × (told ≡ told_first (unheld heads looked) slice) × (count ≤ length slice))

-- where so many were looked at, these were swept
these_swept : (b now : BookView) (i n : ℕ) (ahead : Option ℕ) (heads : ℕ → Head) (kept : List ℕ)
    → SweptSoFar b i now ahead n heads kept → SweepsThese (take i b.lists.dying) b n now heads
these_swept b now i n ahead heads kept so = record {
  fits = so.fits;
  unlinked = so.unlinked;
  generation = so.generation;
  after = so.after;
  freed = so.counted ∙ as_many heads (take i b.lists.dying);
}

module _ (b now : BookView) (i n : ℕ) (ahead : Option ℕ) (heads : ℕ → Head) (kept : List ℕ) (c : ℕ) (h : Head)
    (o : IsBook b) (within : i < length b.lists.dying) (is : ahead ≡ Some c)
    (so : SweptSoFar b i now ahead n heads kept) where
  abbrev pub d : List ℕ
  d = b.lists.dying

  abbrev pub xs : List ℕ
  xs = take i d

  there : drop i d ≡ get_or d i 0 ∷ drop (i + 1) d
  there = drop_more d i 0 within

  front : get_or d i 0 ≡ c
  front = let f : Some (get_or d i 0) ≡ Some c = ap first_of (sym there) ∙ (sym so.next ∙ is) in cc

  -- the next chunk wasn't looked at
  none : times c xs ≡ 0
  none =
      let all : times c xs + times c (drop i d) ≡ times c d = sym (times_append c xs (drop i d))
      ∙ ap (times c) (take-append-drop i d) in
      let here : times c (drop i d) ≡ suc (times c (drop (i + 1) d)) = ap (times c) there
      ∙ times_same c (get_or d i 0) (drop (i + 1) d) front in
      omega (arith, all, here, once_at_most b c Dying o)

  more : take (i + 1) d ≡ xs ++ c ∷ []
  more = take_more d i 0 within ∙ ap (λ x. xs ++ x ∷ []) front

  abbrev pub later : ℕ → Head
  later = with_found c h heads

  -- with it the chunks that nobody holds are these
  unheld_later : unheld later (take (i + 1) d) ≡ unheld heads xs ++ one_if_free (is_unheld h) c
  unheld_later = ap (unheld later) more ∙ unheld_more c h heads xs none

  many : n ≡ length (unheld heads xs)
  many = so.counted ∙ as_many heads xs

  module _ (slice told : List ℕ) (t : ToldSoFar d i n slice told heads) where
    ahead_later : up_to (length slice) later (take (i + 1) d) ≡ take (i + 1) d
    ahead_later = ap (up_to (length slice) later) more
        ∙ up_to_more (length slice) later xs c (up_to_found (length slice) c h heads xs none ∙ t.ahead)
        (omega (arith, t.room, many, ap length (unheld_found c h heads xs none)))
        ∙ sym more

    -- it is held, and is not told
    pub told_held : is_unheld h ≡ false → ToldSoFar d (i + 1) n slice told later
    told_held held = record {
      told = t.told ∙ ap (λ us. told_first us slice) (sym (unheld_later
          ∙ (ap (λ f. unheld heads xs ++ one_if_free f c) held ∙ append-nil (unheld heads xs))));
      room = t.room;
      ahead = ahead_later;
    }

    -- it is free, and is written behind the others
    told_now : is_unheld h ≡ true → (now_told : List ℕ) → now_told ≡ set told n c
        → now_told ≡ told_first (unheld later (take (i + 1) d)) slice
    told_now free now_told written = written
        ∙ (ap₂ (λ (l : List ℕ) (k : ℕ). set l k c) t.told many
        ∙ (told_more (unheld heads xs) slice c (omega (arith, t.room, many))
        ∙ ap (λ us. told_first us slice) (sym (unheld_later ∙ ap (λ f. unheld heads xs ++ one_if_free f c) free))))

    pub told_free : is_unheld h ≡ true → (now_told : List ℕ) → now_told ≡ set told n c → n + 1 < length slice
        → ToldSoFar d (i + 1) (n + 1) slice now_told later
    told_free free now_told written room = record {
      told = told_now free now_told written;
      room = room;
      ahead = ahead_later;
    }

    -- it is free, and the slice is full
    pub full_swept : is_unheld h ≡ true → (now_told : List ℕ) → now_told ≡ set told n c → n + 1 ≡ length slice
        → (up_to (length slice) later d ≡ take (i + 1) d)
        × (now_told ≡ told_first (unheld later (take (i + 1) d)) slice)
    full_swept free now_told written full = (
      ap (up_to (length slice) later) (sym (take-append-drop (i + 1) d))
          ∙ up_to_full (length slice) later (take (i + 1) d) (drop (i + 1) d) ahead_later
          (ap length unheld_later ∙ omega (
            arith,
            length-append (unheld heads xs) (one_if_free (is_unheld h) c),
            ap (λ f. length (one_if_free f c)) free,
            many,
            full,
          )),
      told_now free now_told written,
    )

-- ---- a sweep, step by step

-- How far a sweep is that tells a slice.
abbrev pub SoFar : BookView → List ℕ → ℕ → BookView → Option ℕ → ℕ → List ℕ → Type 0
SoFar b slice i now ahead n told = (heads : ℕ → Head) × (kept : List ℕ) × SweptSoFar b i now ahead n heads kept
    × (0 < length slice → ToldSoFar b.lists.dying i n slice told heads) × (length told ≡ length slice)

module _ (b now new : BookView) (i n : ℕ) (ahead behind : Option ℕ) (slice told : List ℕ) (c : ℕ) (h : Head) (o : IsBook b)
    (within : i < length b.lists.dying) (is : ahead ≡ Some c) (so : SoFar b slice i now ahead n told)
    (once : times c now.lists.dying ≡ 1) (fit : Fits h) (off : h.linked ≡ false)
    (generation : h.generation ≡ generation_of_chunk now.sheet c) (is_new : new ≡ book_after_sweep_or_load c h now)
    (is_behind : behind ≡ next_of c now.lists.dying) where
  -- one more chunk was looked at
  swept_on : (m : ℕ) → n + (if is_unheld h then 1 else 0) ≡ m
      → SweptSoFar b (i + 1) new behind m (with_found c h so.0) (if is_unheld h then so.1 else so.1 ++ c ∷ [])
  swept_on m count = moved_on b (book_after_sweep_or_load c h now) new (i + 1) (n + (if is_unheld h then 1 else 0)) m
      (next_of c now.lists.dying) behind (with_found c h so.0) (if is_unheld h then so.1 else so.1 ++ c ∷ []) is_new
      is_behind count (one_more c h o within is so.2 once fit off generation)

  -- it is held
  pub held_more : h.refs ≢ 0 → SoFar b slice (i + 1) new behind n told
  held_more some_refs =
      let held : is_unheld h ≡ false = ne_eqb h.refs 0 some_refs in (
        with_found c h so.0,
        if is_unheld h then so.1 else so.1 ++ c ∷ [],
        swept_on n (ap (λ (f : Bool). n + (if f then 1 else 0)) held ∙ omega arith),
        λ some. told_held b now i n ahead so.0 so.1 c h o within is so.2 slice told (so.3 some) held,
        so.4,
      )

  module _ (now_told : List ℕ) (none_refs : h.refs ≡ 0) (written : n < length told → now_told ≡ set told n c)
      (long : length now_told ≡ length told) where
    free : is_unheld h ≡ true
    free = eq-eqb h.refs 0 none_refs

    swept_free : SweptSoFar b (i + 1) new behind (n + 1) (with_found c h so.0)
        (if is_unheld h then so.1 else so.1 ++ c ∷ [])
    swept_free = swept_on (n + 1) (ap (λ (f : Bool). n + (if f then 1 else 0)) free)

    was_written : 0 < length slice → now_told ≡ set told n c
    was_written some = let room = (so.3 some).room in written (omega (arith, room, so.4))

    -- it came free, and there is room for more
    pub free_more : n + 1 ≢ length now_told → SoFar b slice (i + 1) new behind (n + 1) now_told
    free_more ne = (
      with_found c h so.0,
      if is_unheld h then so.1 else so.1 ++ c ∷ [],
      swept_free,
      λ some. let room = (so.3 some).room in
          told_free b now i n ahead so.0 so.1 c h o within is so.2 slice told (so.3 some) free now_told
          (was_written some)
          (dite (ℕ_discrete (n + 1) (length slice)) (λ e. absurd (ne (omega (arith, e, long, so.4))))
          (λ other. omega (arith, room, other))),
      omega (arith, long, so.4),
    )

    -- it came free, and the slice is full
    pub free_full : n + 1 ≡ length now_told
        → (heads : ℕ → Head) × (looked : List ℕ) × SweepsFor b slice (n + 1) new now_told heads looked
    free_full full =
        let size : n + 1 ≡ length slice = omega (arith, full, long, so.4) in (
          with_found c h so.0,
          take (i + 1) b.lists.dying,
          (
            these_swept b new (i + 1) (n + 1) behind (with_found c h so.0) (if is_unheld h then so.1 else so.1 ++ c ∷ [])
                swept_free,
            λ none. absurd (omega (arith, none, size)),
            λ some. let all = full_swept b now i n ahead so.0 so.1 c h o within is so.2 slice told (so.3 some) free
                now_told (was_written some) size in (sym all.0, all.1, omega (arith, size)),
          ),
        )

-- ---- what callers are told

-- and one for a slice that has none looks at nothing
pub swept_none : (b : BookView) (slice : List ℕ) → length slice ≡ 0
    → (heads : ℕ → Head) × SweepsInto b slice 0 b slice heads
swept_none b [] none =
    let so = none_swept b in (so.0, record { sweeps = these_swept b b 0 0 _ so.0 so.1 so.2; tells = refl })
swept_none b (x ∷ xs) none = absurd (omega (arith, none))
