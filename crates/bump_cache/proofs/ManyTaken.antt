-- Each value that gets of many keys found stands, behind its key, in the row of a hold that the worker of the key's part
-- took meanwhile, or of a glance that it made. So no other value can be claimed of them than one that was read there.
use Rattle.std.proofs.Common.{◌≡◌, ℕ, zero, suc, List, [], ◌∷◌, length, Option, Some, None, set, refl, sym, ap, ◌∙◌, subst}
use Rattle.std.proofs.lemmas.List.{length-set}
use Rattle.std.proofs.lemmas.Option.{slice_get_within}
use Rattle.std.specs.List.{slice_get}
use native.Mathlib.Decide.{ℕ_discrete}
use Rattle.bump_steps.specs.Rule.{RowPredicate}
use Rattle.keyed_hash.specs.Hashes.{full_hash_of}
use Rattle.cache_config.proofs.Places.{get_set_other, get_set_same}
use Rattle.cache_config.specs.Choosing.{part_of}
use Rattle.cache_readers.specs.Readers.{ReaderView}
use Rattle.cache_readers.proofs.GrownLemmas.{TookBetween, TookMore, finds_more, finds_took, nothing_more, took_none, took_since, took_still, took_then}
use Rattle.bump_cache.specs.Many.{GetsEach, GetsOne}
use Rattle.bump_cache.specs.Readers.{CacheReaderView, InPart, part_for}

-- In each part the worker has all holds that it had taken, and all its glances; the parts stay as many, and the seed stays.
pub record TooksMore (before after : CacheReaderView) : Type 0 where
  pub seed : after.seed ≡ before.seed
  pub count : length after.parts ≡ length before.parts
  pub later : (part : ℕ) (from : ReaderView) → slice_get before.parts part ≡ Some from
      → (to : ReaderView) × (slice_get after.parts part ≡ Some to) × TookMore from.worker to.worker
  pub earlier : (part : ℕ) (to : ReaderView) → slice_get after.parts part ≡ Some to
      → (from : ReaderView) × (slice_get before.parts part ≡ Some from) × TookMore from.worker to.worker

-- nothing was done
took_still_all : (before after : CacheReaderView) → after ≡ before → TooksMore before after
took_still_all before after same = subst (TooksMore before) (sym same) (record {
  seed = refl;
  count = refl;
  later = λ part from is. (from, is, took_none from.worker from.worker refl);
  earlier = λ part to is. (to, is, took_none to.worker to.worker refl);
})

-- more was taken, and then more
took_all_then : (before between after : CacheReaderView) → TooksMore before between → TooksMore between after
    → TooksMore before after
took_all_then before between after one other = record {
  seed = other.seed ∙ one.seed;
  count = other.count ∙ one.count;
  later = λ part from is.
      let half = one.later part from is in
      let whole = other.later part half.0 half.1 in
      (whole.0, whole.1, took_then from.worker half.0.worker whole.0.worker half.2 whole.2);
  earlier = λ part to is.
      let half = other.earlier part to is in
      let whole = one.earlier part half.0 half.1 in
      (whole.0, whole.1, took_then whole.0.worker half.0.worker to.worker whole.2 half.2);
}

-- the worker of one part took holds and glanced, or didn't
in_part_more : (Does : ReaderView → ReaderView → Type 0) (key : List ℕ) (before after : CacheReaderView)
    → ((from to : ReaderView) → Does from to → TookMore from.worker to.worker) → InPart Does key before after
    → TooksMore before after
in_part_more Does key before after does one = subst (TooksMore before) (sym one.others) (record {
  seed = refl;
  count = length-set before.parts place one.to;
  later = λ part from is. later part from is (ℕ_discrete part place);
  earlier = λ part to is. earlier part to is (ℕ_discrete part place);
})
  where
    place : ℕ
    place = part_for key before

    there : slice_get (set before.parts place one.to) place ≡ Some one.to
    there = get_set_same before.parts place one.to (slice_get_within before.parts place one.from one.was)

    later : (part : ℕ) (from : ReaderView) → slice_get before.parts part ≡ Some from → Dec (part ≡ place)
        → (to : ReaderView) × (slice_get (set before.parts place one.to) part ≡ Some to)
        × TookMore from.worker to.worker
    later part from is (yes same) =
        let both : Some from ≡ Some one.from = sym is ∙ (ap (slice_get before.parts) same ∙ one.was) in
        let first : from ≡ one.from = cc both in (
          one.to,
          ap (slice_get (set before.parts place one.to)) same ∙ there,
          subst (λ (r : ReaderView). TookMore r.worker one.to.worker) (sym first) (does one.from one.to one.does),
        )
    later part from is (no unlike) = (
      from,
      get_set_other before.parts place part one.to unlike ∙ is,
      took_none from.worker from.worker refl,
    )

    earlier : (part : ℕ) (to : ReaderView) → slice_get (set before.parts place one.to) part ≡ Some to
        → Dec (part ≡ place) → (from : ReaderView) × (slice_get before.parts part ≡ Some from)
        × TookMore from.worker to.worker
    earlier part to is (yes same) =
        let both : Some to ≡ Some one.to =
        sym is ∙ (ap (slice_get (set before.parts place one.to)) same ∙ there) in
        let last : to ≡ one.to = cc both in (
          one.from,
          ap (slice_get before.parts) same ∙ one.was,
          subst (λ (r : ReaderView). TookMore one.from.worker r.worker) (sym last) (does one.from one.to one.does),
        )
    earlier part to is (no unlike) = (
      to,
      sym (get_set_other before.parts place part one.to unlike) ∙ is,
      took_none to.worker to.worker refl,
    )

-- The worker of the key's part took a hold meanwhile that has the key, and behind it the value, or glanced at such a row.
pub record TookIn (key value : List ℕ) (before after : CacheReaderView) : Type 0 where
  pub from : ReaderView
  pub to : ReaderView
  pub was : slice_get before.parts (part_for key before) ≡ Some from
  pub is : slice_get after.parts (part_for key before) ≡ Some to
  pub took : TookBetween key value from.worker to.worker

module _ {K V : Type 0} (law : RowPredicate) (key_words : K → List ℕ) (value_words : V → List ℕ) (now : ℕ) where
  -- one get takes holds and glances, or doesn't
  one_more : (key : K) (answer : Option V) (before after : CacheReaderView)
      → GetsOne law key_words value_words now key answer before after → TooksMore before after
  one_more key None before after one = in_part_more _ (key_words key) before after
      (λ from to misses. nothing_more from.config (key_words key) now from.anew to.anew
      from.worker to.worker misses.nothing) one.missed
  one_more key (Some value) before after one = in_part_more _ (key_words key) before after
      (λ from to finds. finds_more law from.config (key_words key) (value_words value) now from.anew to.anew from.worker
      to.worker finds)
      one.found

  -- so do many
  each_more : (keys : List K) (answers : List (Option V)) (before after : CacheReaderView)
      → GetsEach law key_words value_words now keys answers before after → TooksMore before after
  each_more [] [] before after same = took_still_all before after same
  each_more [] (answer ∷ answers) before after none = absurd none
  each_more (key ∷ keys) [] before after none = absurd none
  each_more (key ∷ keys) (answer ∷ answers) before after (between, one, rest) =
      took_all_then before between after (one_more key answer before between one)
      (each_more keys answers between after rest)

  -- what the first get found stays behind the later ones
  first_took : (key : K) (value : V) (before between after : CacheReaderView)
      → GetsOne law key_words value_words now key (Some value) before between → TooksMore between after
      → TookIn (key_words key) (value_words value) before after
  first_took key value before between after one more =
      let found = one.found in
      let there : slice_get between.parts (part_for (key_words key) before) ≡ Some found.to =
      ap (λ (r : CacheReaderView). slice_get r.parts (part_for (key_words key) before)) found.others
      ∙ get_set_same before.parts (part_for (key_words key) before) found.to
      (slice_get_within before.parts (part_for (key_words key) before) found.from found.was) in
      let last = more.later (part_for (key_words key) before) found.to there in
      record {
        from = found.from;
        to = last.0;
        was = found.was;
        is = last.1;
        took = took_still (key_words key) (value_words value) found.from.worker found.to.worker last.0.worker
            (finds_took law found.from.config (key_words key) (value_words value) now found.from.anew found.to.anew
            found.from.worker found.to.worker found.does) last.2;
      }

  -- and what a later one found was taken since
  later_took : (key value : List ℕ) (before between after : CacheReaderView) → TooksMore before between
      → TookIn key value between after → TookIn key value before after
  later_took key value before between after more took =
      let place : part_for key between ≡ part_for key before =
      ap (λ (n : ℕ). part_of n (full_hash_of between.seed key)) more.count
      ∙ ap (λ s. part_of (length before.parts) (full_hash_of s key)) more.seed in
      let first = more.earlier (part_for key between) took.from took.was in
      record {
        from = first.0;
        to = took.to;
        was = ap (slice_get before.parts) (sym place) ∙ first.1;
        is = ap (slice_get after.parts) (sym place) ∙ took.is;
        took = took_since key value first.0.worker took.from.worker took.to.worker first.2 took.took;
      }

  -- Each value that was found is that of a hold which its part's worker took between the first state and the last, or of a
  -- glance that it made between them.
  pub each_took : (keys : List K) (answers : List (Option V)) (before after : CacheReaderView)
      → GetsEach law key_words value_words now keys answers before after → (place : ℕ) (key : K) (value : V)
      → slice_get keys place ≡ Some key → slice_get answers place ≡ Some (Some value)
      → TookIn (key_words key) (value_words value) before after
  each_took [] answers before after gets place key value here answered = absurd (let none : ⊥ = cc here in none)
  each_took (other ∷ keys) [] before after gets place key value here answered = absurd gets
  each_took (other ∷ keys) (answer ∷ answers) before after (between, one, rest) zero key value here answered =
      let same : other ≡ key = cc here in
      let told : answer ≡ Some value = cc answered in
      first_took key value before between after
      (subst (λ (k : K). GetsOne law key_words value_words now k (Some value) before between) same
      (subst (λ (a : Option V). GetsOne law key_words value_words now other a before between) told one))
      (each_more keys answers between after rest)
  each_took (other ∷ keys) (answer ∷ answers) before after (between, one, rest) (suc place) key value here answered =
      later_took (key_words key) (value_words value) before between after (one_more other answer before between one)
      (each_took keys answers between after rest place key value here answered)
