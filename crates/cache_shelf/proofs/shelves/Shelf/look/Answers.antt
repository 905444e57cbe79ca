use Rattle.std.proofs.Common.{subst, true}
use Rattle.cache_shelf.specs.Entries.{Had}
use Rattle.cache_shelf.specs.Shelves.{ShelfView}
use Rattle.cache_shelf.proofs.Keeping.{moved_lawful}
use Rattle.cache_shelf.proofs.Moving.{reads_move}
use Rattle.cache_shelf.proofs.Putting.{had_told}
use Rattle.cache_shelf.proofs.shelves.Shelf.look.Goals as goal

pub invariant_of-self : goal.invariant_of-self
invariant_of-self g c =
    let before = c.self.inside.part in let after = c.look.new.self in
    let moves = reads_move before after c.look.ensures.reads in (
      moved_lawful before after moves.alike moves.items g.L.RowLaw.law c.self.invariant.0,
      c.self.invariant.1,
    )

pub returns-clause-had : goal.returns-clause-had
returns-clause-had g c =
    subst (λ (from : ShelfView). Had g.L.RowLaw.law c.args.key.now c.look.result c.args.told.now c.look.new.told from.part)
    c.self.view_is
    (had_told true g.L.RowLaw.law c.args.key.now c.look.result c.args.told.now c.look.new.told c.self.inside.part
    c.self.invariant.0 c.look.ensures.item c.look.ensures.told)
