use Rattle.std.proofs.Common.{sym, ap, ◌∙◌, subst}
use Rattle.bump_class.specs.Lanes.{LaneView}
use Rattle.bump_unlocked.specs.Closing.{AppliedAll}
use Rattle.bump_store.specs.Lanes.{LaneState}
use Rattle.bump_store.specs.Settling.{MaySeeEnd}
use Rattle.bump_store.proofs.SettlingLemmas.{in_order, is_empty, left_if_shown, looked_once}
use Rattle.bump_store.proofs.lanes.Lane.rest.Goals as goal

pub returns-clause-seen : goal.returns-clause-seen
returns-clause-seen g c =
    let sent = c.args.closed.now.sender.sent in
    let room = c.args.closed.now.sender.capacity in
    let after = c.rest.new.lane in
    let e = c.rest.ensures in
    subst (λ (s : LaneState). MaySeeEnd sent room s.lane after) c.self.view_is
    (looked_once sent room c.self.inside.raw after c.rest.result c.promise.ensures c.self.invariant e.lane e.rest e.number e.few e.unchanged)

pub returns-clause-number : goal.returns-clause-number
returns-clause-number g c =
    let e = c.rest.ensures in
    left_if_shown c.args.closed.now.sender.sent c.self.inside.raw c.rest.new.lane c.rest.result c.promise.ensures
    c.self.invariant e.lane e.rest e.number

pub returns-clause-all : goal.returns-clause-all
returns-clause-all g c = c.rest.ensures.all

pub returns-clause-order : goal.returns-clause-order
returns-clause-order g c =
    subst (λ (x : LaneView). AppliedAll x.received x) (sym c.rest.ensures.lane)
    (in_order c.self.inside.raw c.promise.ensures c.self.invariant)

pub returns-clause-empty : goal.returns-clause-empty
returns-clause-empty g c =
    ap (λ (x : LaneView). x.sheet.stage) c.rest.ensures.lane
    ∙ is_empty c.self.inside.raw.sheet.stage c.promise.ensures.at_rest c.self.invariant

pub returns-clause-rest : goal.returns-clause-rest
returns-clause-rest g c = c.rest.ensures.rest
