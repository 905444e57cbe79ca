use Rattle.std.proofs.Common.{arith, sym, ◌∙◌, ◌++◌, ◌∷◌, []}
use Rattle.bump_steps.specs.Tries.{of_life}
use Rattle.bump_steps.proofs.Tries.{still_working, take_head, take_starts, take_goes_on, take_refuses, take_gives_up, takes_it}
use Rattle.bump_steps.proofs.words.Words.take.Goals as goal

pub head_of-head-requires : goal.head_of-head-requires
head_of-head-requires g c = let t = c.loop-failed.invariant.tries in
    take_head g.L.RowLaw.law c.args.limit.now c.args.self.now.table.shared.table_id.slots (of_life c.args.life) c.args.life.chunk c.args.seat.now.me c.loop-failed.seat.me c.loop-failed.word
    c.loop-failed.failed t.0 t.1 t.2

pub try_take-found-requires-clause-worker : goal.try_take-found-requires-clause-worker
try_take-found-requires-clause-worker g c = let t = c.loop-failed.invariant.tries in
    still_working g.L.RowLaw.law c.args.limit.now c.args.self.now.table.shared.table_id.slots (of_life c.args.life) c.args.life.chunk c.args.seat.now.me c.loop-failed.seat.me c.loop-failed.word
    c.loop-failed.failed t.0 t.1 t.2
    c.requires.worker

pub returns-in-Some-clause-told : goal.returns-in-Some-clause-told
returns-in-Some-clause-told g c = let t = c.loop-failed.invariant.tries in
    let k = take_refuses g.L.RowLaw.law c.args.limit.now c.args.self.now.table.shared.table_id.slots (of_life c.args.life) c.args.life.chunk c.args.seat.now.me c.loop-failed.seat.me c.loop-failed.word
    c.loop-failed.failed
    t.0 t.1 t.2 (omega (arith, c.loop-failed-test.true)) c.head_of-head.result c.head_of-head.ensures
    c.in-Some.refused
    (sym c.refusal.ensures ∙ c.in-Some.is) in
    (t.0, t.1, k.row, k.long, k.found, k.view, k.answer, k.obeys)

pub returns-then-found-word-clause-told : goal.returns-then-found-word-clause-told
returns-then-found-word-clause-told g c = let t = c.loop-failed.invariant.tries in
    let k = takes_it g.L.RowLaw.law c.args.limit.now c.args.self.now.table.shared.table_id.slots (of_life c.args.life) c.args.life.chunk c.args.seat.now.me c.loop-failed.seat.me c.loop-failed.word
    c.loop-failed.failed
    t.0 t.1 t.2 (omega (arith, c.loop-failed-test.true)) c.head_of-head.result c.head_of-head.ensures
    (sym c.refusal.ensures ∙ c.in_default.is) c.try_take-found.new.seat.me c.try_take-found.result
    c.if-found-word.true
    c.try_take-found.ensures.told in
    (t.0, t.1, k.row, k.long, k.found, k.view, k.answer, k.obeys)

pub loop-failed-preserved : goal.loop-failed-preserved
loop-failed-preserved g c = let t = c.loop-failed.invariant.tries in
    let k = take_goes_on g.L.RowLaw.law c.args.limit.now c.args.self.now.table.shared.table_id.slots (of_life c.args.life) c.args.life.chunk c.args.seat.now.me c.loop-failed.seat.me c.loop-failed.word
    c.loop-failed.failed
    t.0 t.1 t.2 (omega (arith, c.loop-failed-test.true)) c.head_of-head.result c.head_of-head.ensures
    (sym c.refusal.ensures ∙ c.in_default.is) c.try_take-found.new.seat.me c.try_take-found.result
    c.if-found-word.false
    c.try_take-found.ensures.told in record {
      same = (
        c.try_take-found.ensures.same.0 ∙ c.loop-failed.invariant.same.0,
        c.try_take-found.ensures.same.1 ∙ c.loop-failed.invariant.same.1,
      );
      tries = (t.0, t.1 ++ k.0 ∷ [], k.1);
    }

pub returns-clause-told : goal.returns-clause-told
returns-clause-told g c = let t = c.loop-failed.invariant.tries in
    let k = take_gives_up g.L.RowLaw.law c.args.limit.now c.args.self.now.table.shared.table_id.slots (of_life c.args.life) c.args.life.chunk c.args.seat.now.me c.loop-failed.seat.me c.loop-failed.word
    c.loop-failed.failed
    t.0 t.1 t.2 (omega arith) in
    (t.0, t.1, k.row, k.long, k.found, k.view, k.answer, k.obeys)

pub loop-failed-init : goal.loop-failed-init
loop-failed-init g c = record {
  same = c.load_to_take-word.ensures.same;
  tries = take_starts g.L.RowLaw.law c.args.limit.now c.args.self.now.table.shared.table_id.slots (of_life c.args.life) c.args.life.chunk c.args.seat.now.me c.load_to_take-word.new.seat.me
      c.load_to_take-word.result 0
      c.load_to_take-word.ensures.told;
}
