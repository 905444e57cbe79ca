use Rattle.std.proofs.Common.{◌<◌, ◌≤◌, inr, refl, arith}
use Rattle.cache_config.proofs.MemoryLemmas.{room_for_one}
use Rattle.cache_config.proofs.config.CacheConfig.for_bytes.Goals as goal

pub returns-in-0-clause-none : goal.returns-in-0-clause-none
returns-in-0-clause-none c =
    let none : c.most_items.result < 1 = omega (arith, c.in-0.is) in (
      λ no. inr (c.most_items.ensures.over 1 none (omega arith)),
      λ why. refl,
    )

pub returns-in_default-clause-none : goal.returns-in_default-clause-none
returns-in_default-clause-none c =
    let most = c.most_items.ensures in let in_use : 1 ≤ c.most_items.result = omega (arith, c.in_default) in (
      λ no. absurd (let u : ⊥ = cc no in u),
      λ why. absurd (room_for_one c.most_items.result c.args.limit c.args.readers c.args.seed c.args.key_words
          c.args.value_words in_use (omega (arith, c.if-readers-lt1.false))
          (omega (arith, c.if-readers-gt64.false)) (most.fits in_use) why),
    )
