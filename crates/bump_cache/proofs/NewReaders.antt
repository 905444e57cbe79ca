-- The readers of a cache that was opened.
use Rattle.std.proofs.Common.{◌≡◌, ℕ, ◌<◌, List, length, map, Some, option_map, refl, sym, ap, ◌∙◌, subst, arith}
use Rattle.std.specs.List.{slice_get}
use Rattle.std.proofs.lemmas.List.{length-map}
use Rattle.std.proofs.lemmas.Option.{slice_get-map, slice_get_within}
use Rattle.bump_rules.specs.declared.configs.Config.{Config}
use Rattle.bump_unlocked.specs.Workers.{WorkerState}
use Rattle.cache_readers.specs.Readers.{ReaderView}
use Rattle.cache_config.specs.declared.config.CacheConfig.{CacheConfig}
use Rattle.cache_config.specs.Making.{AreRows, chunks_before}
use Rattle.cache_config.proofs.Places.{get_within}
use Rattle.bump_cache.specs.Opening.{IsNewReader}
use Rattle.bump_cache.specs.Readers.{CacheReaderView, readers_by}

-- rows of all parts are those of new readers
pub rows_all : (config : CacheConfig) (store : Config) (workers : List WorkerState) (rows : List (List ReaderView))
    (parts number : ℕ) (reader : CacheReaderView) → parts ≡ config.parts
    → AreRows store (chunks_before config) config.readers parts workers rows
    → slice_get (map (readers_by config.seed) rows) number ≡ Some reader
    → IsNewReader config store workers number reader
rows_all config store workers rows parts number reader all are had =
    let low : number < length (map (readers_by config.seed) rows) = slice_get_within _ number reader had in
    let within : number < length rows = omega (arith, low, length-map rows (readers_by config.seed)) in
    let row = get_within rows number within in
    let both : Some (readers_by config.seed row.0) ≡ Some reader =
    ap (option_map (readers_by config.seed)) (sym row.1)
    ∙ (sym (slice_get-map (readers_by config.seed) rows number) ∙ had) in
    let is : readers_by config.seed row.0 ≡ reader = cc both in
    subst (IsNewReader config store workers number) is (record {
      seed = refl;
      parts = are.length_is number row.0 row.1 ∙ all;
      each = λ part below. are.each number row.0 row.1 part (omega (arith, below, all));
    })
