-- Rows of readers have part after part.
use Rattle.std.proofs.Common.{◌≡◌, ℕ, ◌+◌, ◌*◌, ◌<◌, ◌≤◌, ◌++◌, List, [], ◌∷◌, length, drop, set, get_or, Some, option_map, refl, sym, ap, ◌∙◌, arith}
use Rattle.std.specs.List.{All, slice_get}
use Rattle.bump_rules.specs.declared.configs.Config.{Config}
use Rattle.bump_unlocked.specs.Workers.{WorkerState}
use Rattle.cache_readers.specs.Readers.{ReaderView, counts_of, no_counts}
use native.Mathlib.Decide.{ℕ_discrete}
use Rattle.std.proofs.lemmas.List.{length-append, length-set}
use Rattle.std.proofs.lemmas.Option.{slice_get-get_or, slice_get_within}
use Rattle.cache_config.specs.Configs.{most_parts}
use Rattle.cache_config.specs.Choosing.{IsPartCount}
use Rattle.cache_config.specs.Making.{AddsPart, AreRows}
use Rattle.cache_config.proofs.Places.{get_drop, get_end, get_front, get_set_other, get_set_same, get_within}

-- the first so many rows have a reader more, and the others are as they were
pub record AddsFirst (store : Config) (chunk : ℕ) (workers : List WorkerState) (first : ℕ)
    (before after : List (List ReaderView)) : Type 0 where
  pub count : length after ≡ length before
  pub each : (number : ℕ) (row : List ReaderView) → number < first → slice_get before number ≡ Some row
      → (worker : WorkerState) × (slice_get workers number ≡ Some worker)
      × (reader : ReaderView) × (counts_of reader ≡ no_counts store chunk worker)
      × (slice_get after number ≡ Some (row ++ reader ∷ []))
  pub others : (number : ℕ) → first ≤ number → slice_get after number ≡ slice_get before number

-- what the row of one number is once the reader of another one is made
module _ (store : Config) (chunk : ℕ) (workers : List WorkerState) (first : ℕ) (before half : List (List ReaderView))
    (row : List ReaderView) (worker : WorkerState) (reader : ReaderView)
    (made : counts_of reader ≡ no_counts store chunk worker) (so_far : AddsFirst store chunk workers first before half)
    (low : first < length before) (at : slice_get half first ≡ Some row)
    (next : slice_get workers first ≡ Some worker) where
  -- the rows with one reader more
  abbrev added : List (List ReaderView)
  added = set half first (row ++ reader ∷ [])

  -- each of the first ones and this one has a reader more
  each_added : (number : ℕ) (old : List ReaderView) → number < first + 1 → slice_get before number ≡ Some old
      → Dec (number ≡ first) → (other : WorkerState) × (slice_get workers number ≡ Some other)
      × (one : ReaderView) × (counts_of one ≡ no_counts store chunk other)
      × (slice_get added number ≡ Some (old ++ one ∷ []))
  each_added number old below had (yes same) =
      let room : first < length half = omega (arith, low, so_far.count) in
      let both : Some row ≡ Some old =
      sym at ∙ (so_far.others first (omega arith) ∙ (ap (slice_get before) (sym same) ∙ had)) in
      let is : row ≡ old = cc both in (
        worker,
        ap (slice_get workers) same ∙ next,
        reader,
        made,
        ap (slice_get added) same
            ∙ (get_set_same half first (row ++ reader ∷ []) room ∙ ap (λ r. Some (r ++ reader ∷ [])) is),
      )
  each_added number old below had (no unlike) =
      let under : number < first = omega (arith, below, unlike) in
      let was = so_far.each number old under had in (
        was.0,
        was.1,
        was.2,
        was.3,
        get_set_other half first number (row ++ reader ∷ []) unlike ∙ was.4,
      )

  -- one row more has a reader more
  pub adds_next : AddsFirst store chunk workers (first + 1) before (set half first (row ++ reader ∷ []))
  adds_next = record {
    count = length-set half first (row ++ reader ∷ []) ∙ so_far.count;
    each = λ number old below had. each_added number old below had (ℕ_discrete number first);
    others = λ number past.
        get_set_other half first number (row ++ reader ∷ []) (λ e. omega (arith, past, e))
        ∙ so_far.others number (omega (arith, past));
  }

-- before the first row none has one more
pub adds_none : (store : Config) (chunk : ℕ) (workers : List WorkerState) (rows : List (List ReaderView))
    → AddsFirst store chunk workers 0 rows rows
adds_none store chunk workers rows = record {
  count = refl;
  each = λ number row below had. absurd (omega (arith, below));
  others = λ number past. refl;
}

-- and in the end all have
pub adds_all : (store : Config) (chunk : ℕ) (workers : List WorkerState) (count : ℕ)
    (before after : List (List ReaderView)) → count ≡ length before
    → AddsFirst store chunk workers count before after → AddsPart store chunk workers before after
adds_all store chunk workers count before after all so_far = record {
  count = so_far.count;
  each = λ number row had.
      let low : number < length before = slice_get_within before number row had in
      so_far.each number row (omega (arith, low, all)) had;
}

-- rows of no part
pub rows_none : (store : Config) (chunks : ℕ → ℕ) (readers : ℕ) (workers : List WorkerState)
    (rows : List (List ReaderView))
    → length rows ≡ readers → ((number : ℕ) → number < readers → slice_get rows number ≡ Some [])
    → AreRows store chunks readers 0 workers rows
rows_none store chunks readers workers rows count each = record {
  count = count;
  length_is = λ number row had.
      let low : number < length rows = slice_get_within rows number row had in
      let both : Some [] ≡ Some row = sym (each number (omega (arith, low, count))) ∙ had in
      let is : [] ≡ row = cc both in ap length (sym is);
  each = λ number row had part below. absurd (omega (arith, below));
}

module _ (store : Config) (chunks : ℕ → ℕ) (readers parts : ℕ) (workers : List WorkerState)
    (before after : List (List ReaderView)) (are : AreRows store chunks readers parts workers before)
    (adds : AddsPart store (chunks parts) (drop (parts * readers) workers) before after) where
  -- the row of a number has one more at its end
  record Grown (number : ℕ) (row : List ReaderView) : Type 0 where
    pub old : List ReaderView
    pub was : slice_get before number ≡ Some old
    pub worker : WorkerState
    pub next : slice_get workers (parts * readers + number) ≡ Some worker
    pub reader : ReaderView
    pub made : counts_of reader ≡ no_counts store (chunks parts) worker
    pub is : row ≡ old ++ reader ∷ []

  grown : (number : ℕ) (row : List ReaderView) → slice_get after number ≡ Some row → Grown number row
  grown number row had =
      let low : number < length after = slice_get_within after number row had in
      let within : number < length before = omega (arith, low, adds.count) in
      let old = get_within before number within in
      let one = adds.each number old.0 old.1 in
      let both : Some row ≡ Some (old.0 ++ one.2 ∷ []) = sym had ∙ one.4 in
      record {
        old = old.0;
        was = old.1;
        worker = one.0;
        next = sym (get_drop workers (parts * readers) number) ∙ one.1;
        reader = one.2;
        made = one.3;
        is = cc both;
      }

  -- each part of it is by its worker
  by_part : (number : ℕ) (row : List ReaderView) → Grown number row → (part : ℕ) → part < parts + 1
      → Dec (part ≡ parts)
      → option_map counts_of (slice_get row part)
      ≡ option_map (no_counts store (chunks part)) (slice_get workers (part * readers + number))
  by_part number row one part below (yes same) =
      let long : length one.old ≡ parts = are.length_is number one.old one.was in
      let place : part ≡ length one.old = same ∙ sym long in
      let last : slice_get row part ≡ Some one.reader =
      ap (slice_get row) place
      ∙ (ap (λ r. slice_get r (length one.old)) one.is ∙ get_end one.old one.reader) in
      ap (option_map counts_of) last
      ∙ (ap Some one.made
      ∙ (ap (option_map (no_counts store (chunks parts))) (sym one.next)
      ∙ ap (λ p. option_map (no_counts store (chunks p)) (slice_get workers (p * readers + number))) (sym same)))
  by_part number row one part below (no unlike) =
      let long : length one.old ≡ parts = are.length_is number one.old one.was in
      let under : part < parts = omega (arith, below, unlike) in
      ap (λ r. option_map counts_of (slice_get r part)) one.is
      ∙ (ap (option_map counts_of) (get_front one.old (one.reader ∷ []) part (omega (arith, under, long)))
      ∙ are.each number one.old one.was part under)

  -- rows of one part more
  pub rows_next : AreRows store chunks readers (parts + 1) workers after
  rows_next = record {
    count = adds.count ∙ are.count;
    length_is = λ number row had.
        let one = grown number row had in
        let long : length one.old ≡ parts = are.length_is number one.old one.was in
        ap length one.is ∙ (length-append one.old (one.reader ∷ []) ∙ ap (λ n. n + 1) long);
    each = λ number row had part below. by_part number row (grown number row had) part below (ℕ_discrete part parts);
  }

-- each row has as many parts as a cache may have
pub rows_counted : (store : Config) (chunks : ℕ → ℕ) (readers parts : ℕ) (workers : List WorkerState)
    (rows : List (List ReaderView)) → AreRows store chunks readers parts workers rows → 1 ≤ parts → parts ≤ most_parts
    → All (λ (row : List ReaderView). IsPartCount (length row)) rows
rows_counted store chunks readers parts workers rows are some few = λ k none low.
    let had : slice_get rows k ≡ Some (get_or rows k none) = slice_get-get_or rows k none low in
    let long : length (get_or rows k none) ≡ parts = are.length_is k (get_or rows k none) had in
    (omega (arith, long, some), omega (arith, long, few))
