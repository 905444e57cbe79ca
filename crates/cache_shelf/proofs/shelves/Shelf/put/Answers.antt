use Rattle.std.proofs.Common.{ap, refl, subst, take}
use Rattle.cache_part.specs.Putting.{FindsNoRoom, Puts, Told}
use Rattle.cache_shelf.specs.Turns.{OnlyMoves}
use Rattle.cache_shelf.proofs.Keeping.{alike_put, moved_lawful, where_err, where_ok}
use Rattle.cache_shelf.proofs.Moving.{in_turn, only_move, puts_entry, refuses_entry}
use Rattle.cache_shelf.proofs.Putting.{law_kept}
use Rattle.cache_shelf.proofs.shelves.Shelf.put.Goals as goal

pub invariant_of-self : goal.invariant_of-self
invariant_of-self g c =
    let drained = c.drain_in_turn.new.part in let mid = c.put-put.new.self in let after = c.take_turn-self-inside.new.part in
    let early = only_move c.self.inside.part drained
    c.drain_in_turn.ensures.moves in
    let lawful = moved_lawful c.self.inside.part drained early.alike early.items g.L.RowLaw.law c.self.invariant.0 in
    let turn = only_move mid after c.take_turn-self-inside.ensures.moves in
    let was : Told = record { old = c.args.old.now; evicted = c.args.evicted.now } in
    let told : Told = record { old = c.put-put.new.old; evicted = c.put-put.new.evicted } in
    let e = c.put-put.ensures in (
      moved_lawful mid after turn.alike turn.items g.L.RowLaw.law
          (law_kept c.args.tells g.L.RowLaw.law c.args.row.now c.args.now c.self.inside.limits.most was told drained mid c.drain_in_turn.new.lanes
          c.put-put.new.lanes (alike_put drained mid e.rest) lawful c.promise.ensures.part c.args.expires c.put-put.result
          c.requires.law e.puts e.refuses),
      c.take_turn-self-inside.ensures.below,
    )

pub returns-clause-puts : goal.returns-clause-puts
returns-clause-puts g c =
    let drained = c.drain_in_turn.new.part in let mid = c.put-put.new.self in
    let moves = subst (λ v. OnlyMoves v.part drained) c.self.view_is c.drain_in_turn.ensures.moves in
    let early = only_move c.self.inside.part drained
    c.drain_in_turn.ensures.moves in
    let lawful = moved_lawful c.self.inside.part drained early.alike early.items g.L.RowLaw.law c.self.invariant.0 in
    where_ok c.put-put.result _ _ (λ did puts.
    puts_entry c.args.tells g.L.RowLaw.law c.args.row.now c.args.now c.self.inside.limits.most _ _ _ _ drained mid c.drain_in_turn.new.lanes
    c.put-put.new.lanes moves c.take_turn-self-inside.ensures.moves (alike_put drained mid c.put-put.ensures.rest) lawful
    c.promise.ensures.part c.args.expires did puts
    (in_turn (Puts did.old did.evicted c.args.row.now c.args.expires c.args.now did.chunk) c.args.now _ _ drained mid _
    c.drain_in_turn.new.lanes c.put-put.new.lanes c.self.inside.lanes.len _ c.self.view_is c.deref_mut-lanes.ensures.value
    c.drain_in_turn.auto.lanes c.put-put.auto.lanes c.deref_mut-lanes.ensures.len refl c.drain_in_turn.ensures.drains moves puts.puts
    c.take_turn-self-inside.ensures.turn)) c.put-put.ensures.puts

pub returns-clause-refuses : goal.returns-clause-refuses
returns-clause-refuses g c =
    let drained = c.drain_in_turn.new.part in let mid = c.put-put.new.self in
    let moves = subst (λ v. OnlyMoves v.part drained) c.self.view_is c.drain_in_turn.ensures.moves in
    let early = only_move c.self.inside.part drained
    c.drain_in_turn.ensures.moves in
    let lawful = moved_lawful c.self.inside.part drained early.alike early.items g.L.RowLaw.law c.self.invariant.0 in
    where_err c.put-put.result _ _ (λ why refuses.
    refuses_entry c.args.tells g.L.RowLaw.law c.args.row.now c.args.now c.self.inside.limits.most _ _ _ _ drained mid c.drain_in_turn.new.lanes
    c.put-put.new.lanes moves c.take_turn-self-inside.ensures.moves (alike_put drained mid c.put-put.ensures.rest) lawful
    c.promise.ensures.part why refuses
    (in_turn (FindsNoRoom (take c.args.self.now.part.key_words c.args.row.now) why.evicted c.args.now) c.args.now _ _ drained
    mid _ c.drain_in_turn.new.lanes c.put-put.new.lanes c.self.inside.lanes.len _ c.self.view_is c.deref_mut-lanes.ensures.value
    c.drain_in_turn.auto.lanes c.put-put.auto.lanes c.deref_mut-lanes.ensures.len refl c.drain_in_turn.ensures.drains moves
    (subst (λ n. FindsNoRoom (take n c.args.row.now) why.evicted c.args.now c.self.inside.limits.most drained
    c.drain_in_turn.new.lanes mid c.put-put.new.lanes) (ap (λ p. p.key_words) moves.rest) refuses.room)
    c.take_turn-self-inside.ensures.turn)) c.put-put.ensures.refuses
