use Rattle.std.proofs.Common.{rules, length, refl, sym, ap, ◌∙◌, subst, arith}
use mathlib.Core.List.{IsPrefix}
use Rattle.bump_class.specs.Lanes.{LaneView, carries, entries}
use Rattle.bump_class.proofs.RunLemmas.{stands_still, grown_on}
use Rattle.bump_store.specs.Lanes.{LaneState}
use Rattle.bump_store.proofs.RunLemmas.{run_behind, boarded_by_fetch}
use Rattle.bump_store.proofs.lanes.Lane.drain.Goals as goal

pub loop-done-init : goal.loop-done-init
loop-done-init g c =
    let same = ap (λ (s : LaneState). s.lane) c.self.view_is in record {
      most = search rules;
      same = ap (λ (s : LaneState). s.capacity) c.self.view_is;
      ring = ap (λ (x : LaneView). x.ring) same;
      count = omega (arith, ap (λ (x : LaneView). length (entries x)) same);
      grown = subst (λ (x : LaneView). IsPrefix (entries c.args.self.now.lane) (entries x)) (sym same) (search rules);
      drained = (c.args.self.now.lane, refl, stands_still _ c.args.self.now.lane _ c.self.invariant same);
      empty = λ _. c.self.invariant;
    }

pub loop-done-preserved : goal.loop-done-preserved
loop-done-preserved g c =
    let i = c.loop-done.invariant in
    let e = c.in-Some.ensures in
    let run = c.apply_run-done in
    let all = run.ensures.applied in
    let raw = c.loop-done.self-inside.raw in
    let fetched = c.fetch.new.self in
    let boarded = boarded_by_fetch (carries raw) i.drained.0 raw fetched c.in-Some.bump refl i.drained.2 e.kept e.next
    e.aboard.told in record {
      most = search rules;
      same = i.same;
      ring = all.ring ∙ e.aboard.ring ∙ i.ring;
      count = omega (arith, all.count, ap length e.aboard.kept, i.count);
      grown = grown_on (entries c.args.self.now.lane) (entries raw) _ i.grown
          (subst (λ xs. IsPrefix xs (entries run.new.lane)) e.aboard.kept all.grown);
      drained = (
        all.run.0,
        run_behind c.args.now c.args.self.now.lane c.loop-done.done i.drained.0 c.deref_mut.result.now fetched
            i.drained.1 boarded run.result run.new.self all.run.0 all.some all.run.1,
        all.run.2,
      );
      empty = λ full. all.empty (omega (arith, full, c.loop-done-test.true));
    }

pub returns-clause-none : goal.returns-clause-none
returns-clause-none g c =
    let same = ap (λ (s : LaneState). s.capacity) c.self.view_is in
    λ few. absurd (omega (arith, few, c.from-2.ensures, c.loop-done-test.false, same))

pub invariant_of-self : goal.invariant_of-self
invariant_of-self g c =
    let i = c.loop-done.invariant in
    i.empty (omega (arith, i.most, c.loop-done-test.false))

pub returns-clause-drained : goal.returns-clause-drained
returns-clause-drained g c = search rules
