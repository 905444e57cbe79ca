use Rattle.std.proofs.Common.{subst}
use Rattle.cache_shelf.specs.Putting.{RemovesEntry}
use Rattle.cache_shelf.specs.Shelves.{ShelfView}
use Rattle.cache_shelf.proofs.Keeping.{alike_removed}
use Rattle.cache_shelf.proofs.Removing.{removed_lawful, removes_entry}
use Rattle.cache_shelf.proofs.shelves.Shelf.remove.Goals as goal

pub invariant_of-self : goal.invariant_of-self
invariant_of-self g c =
    let before = c.self.inside.part in let after = c.remove.new.self in let e = c.remove.ensures in (
      removed_lawful c.args.key.now before after (alike_removed before after e.rest) c.promise.ensures.part c.remove.result
          e.removes g.L.RowLaw.law c.self.invariant.0,
      c.self.invariant.1,
    )

pub returns-clause-removes : goal.returns-clause-removes
returns-clause-removes g c =
    let before = c.self.inside.part in let after = c.remove.new.self in let e = c.remove.ensures in
    subst (λ (from : ShelfView). RemovesEntry g.L.RowLaw.law c.args.key.now c.remove.result c.args.old.now c.remove.new.old
    from.part after) c.self.view_is
    (removes_entry c.args.key.now before after (alike_removed before after e.rest) c.promise.ensures.part c.remove.result
    e.removes g.L.RowLaw.law c.args.old.now c.remove.new.old c.self.invariant.0 e.told)
