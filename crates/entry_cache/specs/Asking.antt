-- The hash by which an entry is found.
use Rattle.std.specs.Prelude.{ℕ, List, fold}
use Rattle.std.specs.Hash as fed
use Rattle.std.specs.Hash.DefaultHasher as sip
use Rattle.keyed_hash.specs.declared.seed.Seed.{Seed}

-- the hash of what a key writes, under a seed: SipHash of the seed's two numbers, and then of these writes
abbrev pub hash_by : Seed → List (List ℕ) → ℕ
hash_by seed writes = sip.finish (fold sip.write (fold sip.write (fold sip.write sip.initial (fed.u64 seed.first))
    (fed.u64 seed.second)) writes)
