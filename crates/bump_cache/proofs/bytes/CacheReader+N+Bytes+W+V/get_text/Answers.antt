use Rattle.std.proofs.Common.{subst}
use Rattle.std.specs.Prelude.{IfNone, IfSome}
use Rattle.cache_readers.specs.Readers.{CountsHit, Misses}
use Rattle.packed_words.specs.Strings.{MayHold, string_words}
use Rattle.bump_cache.specs.Bytes.{IfRoom}
use Rattle.bump_cache.specs.Pairs.{IsPair}
use Rattle.bump_cache.specs.Readers.{FindsValue, InPart, MissesKey}
use Rattle.bump_cache.proofs.bytes.CacheReader+N+Bytes+W+V.get_text.Goals as goal

pub returns-clause-found : goal.returns-clause-found
returns-clause-found g c = subst (λ key. IfSome c.get_bytes.result (λ value. InPart (FindsValue (IsPair
    (MayHold g.row.W) (string_words g.row.W) g.V.Packed.fits g.V.Packed.as_words) (string_words g.row.W key)
    (g.V.Packed.as_words value) c.args.now) (string_words g.row.W key) c.args.self.now c.get_bytes.new.self))
    c.as_bytes.ensures.value c.get_bytes.ensures.found

pub returns-clause-counted : goal.returns-clause-counted
returns-clause-counted g c = subst (λ key. IfSome c.get_bytes.result (λ value. InPart CountsHit
    (string_words g.row.W key) c.args.self.now c.get_bytes.new.self)) c.as_bytes.ensures.value
    c.get_bytes.ensures.counted

pub returns-clause-missed : goal.returns-clause-missed
returns-clause-missed g c = subst (λ key. IfNone c.get_bytes.result (IfRoom g.row.W key (InPart
    (Misses (string_words g.row.W key) c.args.now) (string_words g.row.W key) c.args.self.now
    c.get_bytes.new.self))) c.as_bytes.ensures.value c.get_bytes.ensures.missed

pub returns-clause-absent : goal.returns-clause-absent
returns-clause-absent g c = subst (λ key. IfNone c.get_bytes.result (IfRoom g.row.W key (InPart
    (MissesKey c.args.self.now.seed (string_words g.row.W key) c.args.now) (string_words g.row.W key) c.args.self.now
    c.get_bytes.new.self))) c.as_bytes.ensures.value c.get_bytes.ensures.absent
