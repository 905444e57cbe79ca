use Rattle.std.proofs.Common.{subst}
use Rattle.cache_part.specs.Expiring.{LooksInTurn}
use Rattle.cache_shelf.specs.Entries.{AllUnexpiredKept}
use Rattle.cache_shelf.specs.Shelves.{ShelfView}
use Rattle.cache_shelf.proofs.Keeping.{alike_tended, unexpired_all, unexpired_lawful}
use Rattle.cache_shelf.proofs.shelves.Shelf.tend.Goals as goal

pub invariant_of-self : goal.invariant_of-self
invariant_of-self g c =
    let e = c.tend.ensures in let before = c.self.inside.part in (
      unexpired_lawful c.args.now before c.tend.new.self (alike_tended before c.tend.new.self e.rest) e.unexpired
          g.L.RowLaw.law c.self.invariant.0,
      c.self.invariant.1,
    )

pub returns-clause-looked : goal.returns-clause-looked
returns-clause-looked g c =
    subst (λ (from : ShelfView). LooksInTurn from.limits.looks c.args.now from.part c.tend.new.self) c.self.view_is
    c.tend.ensures.looked

pub returns-clause-kept : goal.returns-clause-kept
returns-clause-kept g c =
    let before = c.self.inside.part in
    subst (λ (from : ShelfView). AllUnexpiredKept c.args.now from.part c.tend.new.self) c.self.view_is
    (unexpired_all c.args.now before c.tend.new.self (alike_tended before c.tend.new.self c.tend.ensures.rest)
    c.tend.ensures.unexpired)
