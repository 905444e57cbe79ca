use Rattle.call_log.specs.Calls.{OnlyLooks}
use Rattle.bump_cache.specs.Tending.{SumsUpParts}
use Rattle.bump_cache.proofs.caches.Cache.stats.Given as goal

-- so many parts were looked at, and summed up
abbrev pub invariant-loop-part : goal.invariant-loop-part
invariant-loop-part g l = record {
  look : OnlyLooks l.fn.me l.me;
  sums : SumsUpParts l.part l.fn.me l.me l.stats;
}
