use Rattle.std.proofs.Common.{rules, ◌≡◌, ◌<◌, subst}
use Rattle.entry_cache.specs.Asking.{hash_by}
use Rattle.entry_cache.specs.Looking.{GetsNoRow, GetsRow, LooksInVain, MissesEntry}
use Rattle.entry_cache.proofs.LookLemmas.{looks_more, misses_there}
use Rattle.entry_cache.proofs.readers.EntryReader.get.Goals as goal

pub returns-in-Err : goal.returns-in-Err
returns-in-Err g c =
    let same : c.hash_of-hash.result ≡ hash_by c.args.cache.now.seed (g.Q.Hash.hash_input c.args.asked) = search rules in
    let few : c.loop-look._look < 1000 = search rules in
    let it = c.in-Some.ensures in record {
      found = tt;
      same = tt;
      asked = tt;
      law = tt;
      missed = subst (λ hash. MissesEntry (GetsRow hash c.args.now) (GetsNoRow hash c.args.now) g.L.Keeps.holds
          (g.Q.Asks.asks c.args.asked) c.args.now c.in-Err.why c.args.self.now.rows c.get.new.self) same
          (misses_there (GetsRow c.hash_of-hash.result c.args.now) (GetsNoRow c.hash_of-hash.result c.args.now)
          g.L.Keeps.holds (g.Q.Asks.asks c.args.asked) c.args.now c.in-Err.why c.in-Some.place c.loop-look._look
          c.args.self.now.rows c.loop-look.self-inside.rows c.get.new.self few c.loop-look.invariant.again
          (record { finds = it.found; counted = it.counted; ring = it.ring }) c.in-Err.ensures.lack);
    }

pub loop-look-preserved : goal.loop-look-preserved
loop-look-preserved g c =
    let it = c.in-Some.ensures in record {
      again = looks_more (GetsRow c.hash_of-hash.result c.args.now) c.loop-look._look c.in-Some.place c.args.self.now.rows
          c.loop-look.self-inside.rows c.get.new.self c.loop-look.invariant.again
          (record { finds = it.found; counted = it.counted; ring = it.ring });
      same = c.loop-look.invariant.same;
    }

pub returns-clause-missed : goal.returns-clause-missed
returns-clause-missed g c =
    let same : c.hash_of-hash.result ≡ hash_by c.args.cache.now.seed (g.Q.Hash.hash_input c.args.asked) = search rules in
    let all : c.loop-look._look ≡ 1000 = search rules in
    subst (λ hash. LooksInVain (GetsRow hash c.args.now) c.args.self.now.rows c.loop-look.self-inside.rows) same (record {
      count = c.loop-look._look;
      all = all;
      again = c.loop-look.invariant.again;
    })
