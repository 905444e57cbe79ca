use Rattle.std.proofs.Common.{subst}
use Rattle.cache_shelf.proofs.Keeping.{where_err, where_ok}
use Rattle.bump_cache.specs.Putting.{PutsValue, RefusesValue}
use Rattle.bump_cache.proofs.pairs.Pairs.put.Goals as goal

pub returns-clause-puts : goal.returns-clause-puts
returns-clause-puts g c = where_ok c.put_row.result _ _ (λ did puts.
    subst (λ v. PutsValue g.K.Packed.as_words g.V.Packed.as_words c.args.key.now c.args.value.now c.args.expires
    c.args.now did v c.put_row.new.shelf) c.self.view_is puts) c.put_row.ensures.puts

pub returns-clause-refuses : goal.returns-clause-refuses
returns-clause-refuses g c = where_err c.put_row.result _ _ (λ why refuses.
    subst (λ v. RefusesValue g.K.Packed.as_words g.V.Packed.as_words c.args.key.now c.args.now why v
    c.put_row.new.shelf) c.self.view_is refuses) c.put_row.ensures.refuses
