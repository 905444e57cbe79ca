use Rattle.std.proofs.Common.{◌≡◌, refl, sym, ap, ◌∙◌, length, arith}
use Rattle.std.proofs.lemmas.Bool.{false≢true}
use Rattle.bump_class.specs.Lanes.{entries}
use Rattle.bump_store.specs.Lanes.{LaneState}
use Rattle.bump_store.proofs.SettlingLemmas.{as_many}
use Rattle.bump_store.proofs.lanes.Lane.next_of.Goals as goal

pub unreachable-requires : goal.unreachable-requires
unreachable-requires g c =
    let seen = c.rest.new.self.lane in
    let none : length seen.known ≡ 0 = ap length c.in-None.ensures.none in
    let all = c.in-Some-rest.ensures.all (c.in-Some-rest.ensures.number ∙ none) in
    let same : length (entries c.args.self.now.lane) ≡ length c.args.closed.now.sender.sent = omega (
      arith,
      as_many seen _ all,
      ap length c.rest.ensures.entries,
      ap (λ (s : LaneState). length (entries s.lane)) c.in_default.ensures.unchanged,
    ) in
    false≢true (sym c.if-applied_as_many.false ∙ c.applied_as_many.ensures.1 same)

pub returns-then-applied_as_many-clause-none : goal.returns-then-applied_as_many-clause-none
returns-then-applied_as_many-clause-none g c =
    (λ _. c.applied_as_many.ensures.0 c.if-applied_as_many.true, λ _. refl)

pub returns-then-applied_as_many-clause-unknown : goal.returns-then-applied_as_many-clause-unknown
returns-then-applied_as_many-clause-unknown g c = tt

pub returns-then-applied_as_many-clause-unseen : goal.returns-then-applied_as_many-clause-unseen
returns-then-applied_as_many-clause-unseen g c = tt
