use Rattle.cache_shelf.proofs.Keeping.{moved_lawful}
use Rattle.cache_shelf.proofs.Moving.{reads_move}
use Rattle.cache_shelf.proofs.entries.read_unexpired_entry.Goals as goal

pub returns-clause-lawful : goal.returns-clause-lawful
returns-clause-lawful g c =
    let e = c.read_unexpired.ensures in
    let moves = reads_move c.args.part.now c.read_unexpired.new.self (record { looks = e.looks; rest = e.rest }) in
    moved_lawful c.args.part.now c.read_unexpired.new.self moves.alike moves.items g.L.RowLaw.law c.requires.lawful
