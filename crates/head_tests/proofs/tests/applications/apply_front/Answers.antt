use Rattle.std.proofs.Common.{refl, sym, ◌∙◌}
use mathlib.Core.Bool.{false≢true}
use Rattle.bump_heads.proofs.Endings.{carrying, own_aboard, ends_gone, ends_elsewhere, ends_clear, ends_moved}
use Rattle.head_tests.proofs.tests.applications.apply_front.Goals as goal
use Rattle.head_tests.proofs.tests.applications.apply_front.Goals.{in-Cold, in_default}

pub try_front-tried-requires-clause-own : goal.try_front-tried-requires-clause-own
try_front-tried-requires-clause-own g c = own_aboard c.args.bump c.args.lane.now c.args.class.now.sheet c.requires.carries c.requires.own

pub alight-last-requires-clause-ends : goal.alight-last-requires-clause-ends
alight-last-requires-clause-ends g c =
    let t = c.try_front-tried in
    let m = carrying c.args.lane.now c.args.bump c.requires.carries in
    ends_gone c.args.class.now t.new.self c.args.lane.now m.0 c.args.bump c.args.bump.life.chunk t.result m.1 refl t.ensures.tried t.ensures.found t.ensures.fits c.requires.own c.if-not-tried.true

pub alight-last-requires-then-not-matches-clause-ends :
    goal.alight-last-requires-then-not-matches-clause-ends
alight-last-requires-then-not-matches-clause-ends g c =
    let t = c.try_front-tried in
    let m = carrying c.args.lane.now c.args.bump c.requires.carries in
    let ends = ends_elsewhere c.args.class.now t.new.self c.args.lane.now m.0 c.args.bump c.args.bump.life.chunk t.result m.1 refl t.ensures.tried t.ensures.found t.ensures.fits c.requires.own in
    ends c.args.now c.put_time.new.self c.put_time.ensures.timed c.if-not-tried.false
    (elim c.match-matches.branch [ in-Cold w ↦ (λ e. false≢true (sym c.if-not-matches.true ∙ w.matches-is)) | in_default w ↦ w.in_default.not-Cold ])

pub alight-last-requires-then-not-cleared-clause-ends :
    goal.alight-last-requires-then-not-cleared-clause-ends
alight-last-requires-then-not-cleared-clause-ends g c =
    let t = c.try_front-tried in
    let m = carrying c.args.lane.now c.args.bump c.requires.carries in
    let d = c.clear_active-cleared in
    let ends = ends_clear c.args.class.now t.new.self c.args.lane.now m.0 c.args.bump c.args.bump.life.chunk t.result m.1 refl t.ensures.tried t.ensures.found t.ensures.fits c.requires.own in
    ends c.args.now c.put_time.new.self c.put_time.ensures.timed d.result d.new.self d.ensures.cleared c.if-not-cleared.true

pub alight-last-requires-2-clause-ends : goal.alight-last-requires-2-clause-ends
alight-last-requires-2-clause-ends g c =
    let t = c.try_front-tried in
    let m = carrying c.args.lane.now c.args.bump c.requires.carries in
    let d = c.clear_active-cleared in
    let s = c.change_segment-moved in
    let ends = ends_moved c.args.class.now t.new.self c.args.lane.now m.0 c.args.bump c.args.bump.life.chunk t.result m.1 refl t.ensures.tried t.ensures.found t.ensures.fits c.requires.own in
    ends c.args.now c.put_time.new.self c.put_time.ensures.timed d.result d.new.self d.ensures.cleared s.result s.new.self s.ensures.moved c.if-not-cleared.false
