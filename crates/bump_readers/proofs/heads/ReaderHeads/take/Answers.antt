use Rattle.std.proofs.Common.{◌∙◌}
use Rattle.bump_steps.specs.Tries.{of_life}
use Rattle.bump_readers.proofs.Attempts.{held_seat, refused_seat}
use Rattle.bump_readers.proofs.heads.ReaderHeads.take.Goals as goal

pub invariant_of-worker : goal.invariant_of-worker
invariant_of-worker g c = let t = c.take.ensures.told in
    refused_seat g.N.Name.table c.worker.inside.worker c.worker.inside.seat.table_id c.take.new.seat.table_id
    c.worker.inside.seat.me
    c.take.new.seat.me c.args.worker.now c.worker.invariant (cc c.worker.view_is) c.take.ensures.same.0
    c.self.inside.limit
    (of_life c.args.life) c.args.life.chunk t.0 t.1 t.2 c.take.result c.in-Some.refusal c.requires.alone t.5 t.6
    c.in-Some.is

pub invariant_of-worker-2 : goal.invariant_of-worker-2
invariant_of-worker-2 g c = let t = c.take.ensures.told in
    held_seat g.N.Name.table c.worker.inside.worker c.worker.inside.seat.table_id c.part_holds-sheet.new.seat.table_id
    c.worker.inside.seat.me c.part_holds-sheet.new.seat.me c.args.worker.now c.worker.invariant (cc c.worker.view_is)
    (c.part_holds-sheet.ensures.same.0 ∙ c.take.ensures.same.0) c.self.inside.limit (of_life c.args.life)
    c.args.life.chunk t.0 t.1 t.2
    c.take.new.seat.me t.5 c.part_holds-sheet.ensures.sheets.0
