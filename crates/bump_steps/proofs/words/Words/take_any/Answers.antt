use Rattle.std.proofs.Common.{◌≡◌, ℕ, arith, sym, ap, subst, ◌∙◌, ◌++◌, ◌∷◌, [], Option, Ok, Err}
use Rattle.bump_steps.specs.declared.refusals.TakeRefusal.{TakeRefusal}
use Rattle.bump_steps.specs.Tries.{last_found, of_any, refused_by, any_answer}
use Rattle.bump_rules.specs.Tables.{get_of, IsHeld}
use Rattle.bump_steps.proofs.Tries.{still_working, take_head, take_starts, take_goes_on, take_refuses, take_gives_up, takes_it, any_refused, any_taken, unrefused}
use Rattle.bump_steps.proofs.words.Words.take_any.Goals as goal

pub head_of-head-requires : goal.head_of-head-requires
head_of-head-requires g c = let t = c.loop-lost.invariant.tries in
    take_head g.L.RowLaw.law c.args.limit.now c.args.self.now.table.shared.table_id.slots of_any c.args.chunk c.args.seat.now.me c.loop-lost.seat.me
    c.loop-lost.expected c.loop-lost.lost t.0 t.1 t.2

pub try_take-found-requires-clause-worker : goal.try_take-found-requires-clause-worker
try_take-found-requires-clause-worker g c = let t = c.loop-lost.invariant.tries in
    still_working g.L.RowLaw.law c.args.limit.now c.args.self.now.table.shared.table_id.slots of_any c.args.chunk c.args.seat.now.me c.loop-lost.seat.me
    c.loop-lost.expected c.loop-lost.lost t.0 t.1 t.2
    c.requires.worker

pub try_take-found-requires-clause-word : goal.try_take-found-requires-clause-word
try_take-found-requires-clause-word g c =
    let h = c.head_of-head.result in (
      h,
      c.head_of-head.ensures,
      subst (λ (n : ℕ). get_of n h.generation h ≡ IsHeld) c.requires.limit
          (unrefused (get_of c.args.limit.now h.generation h)
          (any_taken (refused_by (get_of c.args.limit.now h.generation h)) (sym c.any_refusal.ensures ∙ c.in_default.is))),
    )

pub returns-in-Some-clause-told : goal.returns-in-Some-clause-told
returns-in-Some-clause-told g c = let t = c.loop-lost.invariant.tries in
    let h = c.head_of-head.result in
    let q = any_refused (refused_by (get_of c.args.limit.now h.generation h)) c.in-Some.refused
    (sym c.any_refusal.ensures ∙ c.in-Some.is) in
    let k = take_refuses g.L.RowLaw.law c.args.limit.now c.args.self.now.table.shared.table_id.slots of_any c.args.chunk c.args.seat.now.me c.loop-lost.seat.me
    c.loop-lost.expected c.loop-lost.lost t.0 t.1 t.2
    (omega (arith, c.loop-lost-test.true)) h c.head_of-head.ensures q.0 q.1 in (
      t.0,
      t.1,
      k.row,
      k.long,
      k.found,
      k.view,
      ap Err q.2 ∙ ap (λ (o : Option TakeRefusal). any_answer o (last_found t.0 t.1)) k.answer,
      λ none. k.obeys (k.answer ∙ none),
    )

pub returns-then-found-expected-clause-told : goal.returns-then-found-expected-clause-told
returns-then-found-expected-clause-told g c = let t = c.loop-lost.invariant.tries in
    let h = c.head_of-head.result in
    let k = takes_it g.L.RowLaw.law c.args.limit.now c.args.self.now.table.shared.table_id.slots of_any c.args.chunk c.args.seat.now.me c.loop-lost.seat.me
    c.loop-lost.expected c.loop-lost.lost t.0 t.1 t.2
    (omega (arith, c.loop-lost-test.true)) h c.head_of-head.ensures
    (any_taken (refused_by (get_of c.args.limit.now h.generation h)) (sym c.any_refusal.ensures ∙ c.in_default.is))
    c.try_take-found.new.seat.me c.try_take-found.result c.if-found-expected.true c.try_take-found.ensures.told in (
      t.0,
      t.1,
      k.row,
      k.long,
      k.found,
      k.view,
      ap Ok t.2.last ∙ ap (λ (o : Option TakeRefusal). any_answer o (last_found t.0 t.1)) k.answer,
      λ none. k.obeys (k.answer ∙ none),
    )

pub loop-lost-preserved : goal.loop-lost-preserved
loop-lost-preserved g c = let t = c.loop-lost.invariant.tries in
    let h = c.head_of-head.result in
    let k = take_goes_on g.L.RowLaw.law c.args.limit.now c.args.self.now.table.shared.table_id.slots of_any c.args.chunk c.args.seat.now.me c.loop-lost.seat.me
    c.loop-lost.expected c.loop-lost.lost t.0 t.1 t.2
    (omega (arith, c.loop-lost-test.true)) h c.head_of-head.ensures
    (any_taken (refused_by (get_of c.args.limit.now h.generation h)) (sym c.any_refusal.ensures ∙ c.in_default.is))
    c.try_take-found.new.seat.me c.try_take-found.result c.if-found-expected.false c.try_take-found.ensures.told in record {
      same = (
        c.try_take-found.ensures.same.0 ∙ c.loop-lost.invariant.same.0,
        c.try_take-found.ensures.same.1 ∙ c.loop-lost.invariant.same.1,
      );
      tries = (t.0, t.1 ++ k.0 ∷ [], k.1);
    }

pub returns-clause-told : goal.returns-clause-told
returns-clause-told g c = let t = c.loop-lost.invariant.tries in
    let k = take_gives_up g.L.RowLaw.law c.args.limit.now c.args.self.now.table.shared.table_id.slots of_any c.args.chunk c.args.seat.now.me c.loop-lost.seat.me
    c.loop-lost.expected c.loop-lost.lost t.0 t.1 t.2
    (omega arith) in (
      t.0,
      t.1,
      k.row,
      k.long,
      k.found,
      k.view,
      ap (λ (o : Option TakeRefusal). any_answer o (last_found t.0 t.1)) k.answer,
      λ none. k.obeys (k.answer ∙ none),
    )

pub loop-lost-init : goal.loop-lost-init
loop-lost-init g c = record {
  same = c.load_to_take-expected.ensures.same;
  tries = take_starts g.L.RowLaw.law c.args.limit.now c.args.self.now.table.shared.table_id.slots of_any c.args.chunk
      c.args.seat.now.me c.load_to_take-expected.new.seat.me
      c.load_to_take-expected.result 0
      c.load_to_take-expected.ensures.told;
}
