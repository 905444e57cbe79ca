use Rattle.std.proofs.Common.{◌≡◌, true, false, subst}
use Rattle.cache_readers.specs.Readers.{CountsNothing, ReadsNothing}
use Rattle.packed_words.specs.Strings.{MayHold, string_words}
use Rattle.bump_cache.specs.Bytes.{IfRoom}
use Rattle.bump_cache.specs.Pairs.{IsPair}
use Rattle.bump_cache.specs.Readers.{InPart, MissesKey, SeesItem}
use Rattle.bump_cache.proofs.bytes.CacheReader+N+Bytes+W+V.contains_text.Goals as goal

pub returns-clause-found : goal.returns-clause-found
returns-clause-found g c =
    subst (λ key. c.contains_bytes.result ≡ true → InPart (SeesItem (IsPair (MayHold g.row.W) (string_words g.row.W)
    g.V.Packed.fits g.V.Packed.as_words) (string_words g.row.W key) c.args.now) (string_words g.row.W key)
    c.args.self.now c.contains_bytes.new.self) c.as_bytes.ensures.value c.contains_bytes.ensures.found

pub returns-clause-nothing : goal.returns-clause-nothing
returns-clause-nothing g c =
    subst (λ key. c.contains_bytes.result ≡ false → IfRoom g.row.W key (InPart
    (ReadsNothing (string_words g.row.W key) c.args.now) (string_words g.row.W key) c.args.self.now
    c.contains_bytes.new.self)) c.as_bytes.ensures.value c.contains_bytes.ensures.nothing

pub returns-clause-uncounted : goal.returns-clause-uncounted
returns-clause-uncounted g c =
    subst (λ key. IfRoom g.row.W key (InPart (CountsNothing c.contains_bytes.result) (string_words g.row.W key) c.args.self.now
    c.contains_bytes.new.self)) c.as_bytes.ensures.value c.contains_bytes.ensures.uncounted

pub returns-clause-absent : goal.returns-clause-absent
returns-clause-absent g c =
    subst (λ key. c.contains_bytes.result ≡ false → IfRoom g.row.W key (InPart
    (MissesKey c.args.self.now.seed (string_words g.row.W key) c.args.now) (string_words g.row.W key) c.args.self.now
    c.contains_bytes.new.self)) c.as_bytes.ensures.value c.contains_bytes.ensures.absent
