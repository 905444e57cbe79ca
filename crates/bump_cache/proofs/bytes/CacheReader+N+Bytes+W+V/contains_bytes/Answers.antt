use Rattle.std.proofs.Common.{◌≡◌, true, false, subst}
use Rattle.cache_readers.specs.Readers.{ReadsNothing}
use Rattle.packed_words.specs.Strings.{MayHold, string_words}
use Rattle.bump_cache.specs.Bytes.{IfRoom}
use Rattle.bump_cache.specs.Pairs.{IsPair}
use Rattle.bump_cache.specs.Readers.{InPart, MissesKey, SeesItem}
use Rattle.bump_cache.proofs.bytes.CacheReader+N+Bytes+W+V.contains_bytes.Goals as goal

pub returns-in-Ok-clause-found : goal.returns-in-Ok-clause-found
returns-in-Ok-clause-found g c =
    subst (λ key. c.contains.result ≡ true → InPart (SeesItem (IsPair (MayHold g.row.W) (string_words g.row.W)
    g.V.Packed.fits g.V.Packed.as_words) (string_words g.row.W key) c.args.now) (string_words g.row.W key)
    c.args.self.now c.contains.new.self) c.in-Ok.ensures.made c.contains.ensures.found

pub returns-in-Ok-clause-nothing : goal.returns-in-Ok-clause-nothing
returns-in-Ok-clause-nothing g c =
    subst (λ key. c.contains.result ≡ false → IfRoom g.row.W c.args.key.now (InPart
    (ReadsNothing (string_words g.row.W key) c.args.now) (string_words g.row.W key) c.args.self.now
    c.contains.new.self)) c.in-Ok.ensures.made (λ none room. c.contains.ensures.nothing none)

pub returns-in-Ok-clause-absent : goal.returns-in-Ok-clause-absent
returns-in-Ok-clause-absent g c =
    subst (λ key. c.contains.result ≡ false → IfRoom g.row.W c.args.key.now (InPart
    (MissesKey c.args.self.now.seed (string_words g.row.W key) c.args.now) (string_words g.row.W key) c.args.self.now
    c.contains.new.self)) c.in-Ok.ensures.made (λ none room. c.contains.ensures.absent none)
