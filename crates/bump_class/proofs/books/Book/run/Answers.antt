use Rattle.std.proofs.Common.{rules, IsSome, [], refl, sym, subst, arith}
use Rattle.bump_class.specs.Runs.{IsRunOver}
use Rattle.bump_class.proofs.RunLemmas.{is_aboard, stands_still, has_boarded, ends, frees, goes_on}
use Rattle.bump_class.proofs.books.Book.run.Goals as goal

pub returns-then-done-limit-clause-applied : goal.returns-then-done-limit-clause-applied
returns-then-done-limit-clause-applied g c =
    let t = c.tell_freed-count in
    ends c.loop-done.invariant c.apply_bump-applied.ensures.applied t.ensures.told t.ensures.count c.apply_bump-applied.new.lane
    (stands_still _ c.apply_bump-applied.new.lane c.apply_bump-applied.new.lane c.apply_bump-applied.ensures.applied.empty refl) (λ _. c.apply_bump-applied.ensures.applied.empty)

pub returns-then-done-limit-clause-freed : goal.returns-then-done-limit-clause-freed
returns-then-done-limit-clause-freed g c =
    let t = c.tell_freed-count in
    frees c.loop-done.invariant c.apply_bump-applied.ensures.applied t.ensures.told t.ensures.count c.apply_bump-applied.new.lane
    (stands_still _ c.apply_bump-applied.new.lane c.apply_bump-applied.new.lane c.apply_bump-applied.ensures.applied.empty refl)

pub returns-then-is_full-clause-applied : goal.returns-then-is_full-clause-applied
returns-then-is_full-clause-applied g c =
    let t = c.tell_freed-count in
    ends c.loop-done.invariant c.apply_bump-applied.ensures.applied t.ensures.told t.ensures.count c.apply_bump-applied.new.lane
    (stands_still _ c.apply_bump-applied.new.lane c.apply_bump-applied.new.lane c.apply_bump-applied.ensures.applied.empty refl) (λ _. c.apply_bump-applied.ensures.applied.empty)

pub returns-then-is_full-clause-freed : goal.returns-then-is_full-clause-freed
returns-then-is_full-clause-freed g c =
    let t = c.tell_freed-count in
    frees c.loop-done.invariant c.apply_bump-applied.ensures.applied t.ensures.told t.ensures.count c.apply_bump-applied.new.lane
    (stands_still _ c.apply_bump-applied.new.lane c.apply_bump-applied.new.lane c.apply_bump-applied.ensures.applied.empty refl)

pub returns-in_default-clause-applied : goal.returns-in_default-clause-applied
returns-in_default-clause-applied g c =
    let t = c.tell_freed-count in
    let d = c.in_default.ensures.aboard in
    ends c.loop-done.invariant c.apply_bump-applied.ensures.applied t.ensures.told t.ensures.count c.take.new.self
    (stands_still _ c.apply_bump-applied.new.lane _ d.told d.unchanged) (λ _. d.told)

pub returns-in_default-clause-freed : goal.returns-in_default-clause-freed
returns-in_default-clause-freed g c =
    let t = c.tell_freed-count in
    let d = c.in_default.ensures.aboard in
    frees c.loop-done.invariant c.apply_bump-applied.ensures.applied t.ensures.told t.ensures.count c.take.new.self
    (stands_still _ c.apply_bump-applied.new.lane _ d.told d.unchanged)

pub returns-then-not-has_chunk-clause-applied : goal.returns-then-not-has_chunk-clause-applied
returns-then-not-has_chunk-clause-applied g c =
    let t = c.tell_freed-count in
    let boards = c.in-Some.ensures.next in
    ends c.loop-done.invariant c.apply_bump-applied.ensures.applied t.ensures.told t.ensures.count c.take.new.self
    (has_boarded _ c.apply_bump-applied.new.lane _ c.in-Some.next boards.0 c.in-Some.ensures.aboard.told boards.1) (λ e. absurd (omega (arith, e, c.if-done-limit.false)))

pub returns-then-not-has_chunk-clause-freed : goal.returns-then-not-has_chunk-clause-freed
returns-then-not-has_chunk-clause-freed g c =
    let t = c.tell_freed-count in
    let boards = c.in-Some.ensures.next in
    frees c.loop-done.invariant c.apply_bump-applied.ensures.applied t.ensures.told t.ensures.count c.take.new.self
    (has_boarded _ c.apply_bump-applied.new.lane _ c.in-Some.next boards.0 c.in-Some.ensures.aboard.told boards.1)

pub returns-then-not-has_chunk-clause-over : goal.returns-then-not-has_chunk-clause-over
returns-then-not-has_chunk-clause-over g c =
    λ _ _. subst (λ o. IsRunOver o c.apply_bump-applied.new.self c.take.new.self) (sym c.in-Some.ensures.aboard.told)
    (sym c.if-not-has_chunk.ensures)

pub loop-done-init : goal.loop-done-init
loop-done-init g c = record {
  runs = (
    c.args.lane.now,
    [],
    (refl, refl, refl),
    is_aboard _ c.args.lane.now (subst IsSome (sym c.requires.carries) refl),
    λ some. (refl, refl, omega arith),
    λ some. some,
    refl,
  );
  few = omega arith;
  aboard = c.requires.carries;
  own = c.requires.own;
  below = search rules;
  ring = refl;
  count = omega arith;
  grown = search rules;
  class = (refl, refl, refl);
}

pub loop-done-preserved : goal.loop-done-preserved
loop-done-preserved g c =
    let t = c.tell_freed-count in
    let boards = c.in-Some.ensures.next in
    goes_on c.loop-done.invariant c.apply_bump-applied.ensures.applied t.ensures.told t.ensures.count c.take.new.self
    c.in-Some.next boards.0 boards.1 c.in-Some.ensures.aboard.told (sym c.if-not-has_chunk.ensures)
    c.if-done-limit.false t.auto.freed (c.if-is_full.ensures.room refl)
