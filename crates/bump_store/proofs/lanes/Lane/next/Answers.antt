use Rattle.std.proofs.Common.{rules, ap, ◌∙◌, ◌++◌, ◌∷◌, [], length, subst}
use Rattle.bump_class.specs.Lanes.{entries}
use Rattle.bump_store.specs.Lanes.{LaneState, AppliesNext, NothingAboard, applied_bump_of}
use Rattle.bump_store.proofs.LaneLemmas.{all_applied, entry_kept}
use Rattle.bump_store.proofs.lanes.Lane.next.Goals as goal

pub returns-clause-next : goal.returns-clause-next
returns-clause-next g c =
    let boards = c.in_ok-bump.ensures.next in
    let bump = c.in_ok-bump.bump in
    let entry = c.apply_aboard.result in
    let e = c.apply_aboard.ensures in
    subst (λ (s : LaneState). AppliesNext c.args.now s.lane entry c.apply_aboard.new.raw) c.self.view_is (
      boards.0,
      c.take.new.self,
      c.deref_mut-book.result.now,
      c.apply_aboard.new.book,
      record {
        boards = search (rules, boards.1, e.bump);
        own = search (rules, e.bump);
        applied = e.applied;
      },
    )

pub returns-clause-number : goal.returns-clause-number
returns-clause-number g c =
    let boards = c.in_ok-bump.ensures.next in
    c.apply_aboard.ensures.bump.0 ∙ boards.1.number
    ∙ all_applied c.self.inside.raw c.promise.ensures c.self.invariant
    ∙ ap (λ (s : LaneState). length (entries s.lane)) c.self.view_is

pub returns-clause-entry : goal.returns-clause-entry
returns-clause-entry g c =
    entry_kept c.args.now c.deref_mut-book.result.now c.apply_aboard.new.book c.take.new.self
    c.apply_aboard.new.raw c.apply_aboard.result c.apply_aboard.ensures.applied
    ∙ ap (λ xs. xs ++ applied_bump_of c.apply_aboard.result ∷ [])
    (c.in_ok-bump.ensures.aboard.kept ∙ ap (λ (s : LaneState). entries s.lane) c.self.view_is)

pub apply_aboard-requires-clause-own : goal.apply_aboard-requires-clause-own
apply_aboard-requires-clause-own g c = search rules

pub invariant_of-self-2 : goal.invariant_of-self-2
invariant_of-self-2 g c = search rules

pub returns-clause-was_idle : goal.returns-clause-was_idle
returns-clause-was_idle g c = subst (λ (s : LaneState). NothingAboard s.lane) c.self.view_is c.self.invariant
