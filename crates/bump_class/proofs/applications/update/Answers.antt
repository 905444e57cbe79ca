use Rattle.std.proofs.Common.{◌≡◌, ◌≢◌, if◌then◌else◌, refl, sym, ap, ◌∙◌, Bool, true}
use mathlib.Core.Bool.{false≢true}
use Rattle.bump_rules.specs.declared.bumps.Outcome.TheVariants.{Moved, TimeOnly, Gone}
use Rattle.bump_rules.specs.declared.places.Segment.TheVariants.{Cold}
use Rattle.bump_rules.specs.Tables.{is_cold}
use Rattle.bump_heads.proofs.Endings as on
use Rattle.bump_class.specs.Applications.{class_with_time, with_clearing, with_move}
use Rattle.bump_class.proofs.UpdateLemmas.{not_cold, gone_by, elsewhere_by, clear_by, moved_by, rests, FittingHeads, found_by, updates}
use Rattle.bump_class.proofs.applications.update.Goals as goal
use Rattle.bump_class.proofs.applications.update.Goals.{in-Cold, in_default}

pub try_front-tried-requires-clause-own : goal.try_front-tried-requires-clause-own
try_front-tried-requires-clause-own g c =
    on.own_aboard c.args.bump c.args.lane.now c.args.class.now.sheet c.requires.carries c.requires.own

pub alight-requires-clause-ends : goal.alight-requires-clause-ends
alight-requires-clause-ends g c =
    let t = c.try_front-tried in
    let b = c.args.bump in
    let m = on.carrying c.args.lane.now b c.requires.carries in
    let ends = on.ends_gone c.args.class.now t.new.self c.args.lane.now m.0 b b.life.chunk t.result m.1 refl
    t.ensures.tried t.ensures.found t.ensures.fits c.requires.own in
    ends c.if-not-tried.true

pub alight-requires-then-not-matches-clause-ends : goal.alight-requires-then-not-matches-clause-ends
alight-requires-then-not-matches-clause-ends g c =
    let t = c.try_front-tried in
    let b = c.args.bump in
    let m = on.carrying c.args.lane.now b c.requires.carries in
    let ends = on.ends_elsewhere c.args.class.now t.new.self c.args.lane.now m.0 b b.life.chunk t.result m.1 refl
    t.ensures.tried t.ensures.found t.ensures.fits c.requires.own in
    ends c.args.now c.put_time.new.self c.put_time.ensures.timed c.if-not-tried.false
    (elim c.match-matches.branch [
      | in-Cold w ↦ (λ e. false≢true (sym c.if-not-matches.true ∙ w.matches-is))
      | in_default w ↦ w.in_default.not-Cold
    ])

pub alight-requires-then-not-cleared-clause-ends : goal.alight-requires-then-not-cleared-clause-ends
alight-requires-then-not-cleared-clause-ends g c =
    let t = c.try_front-tried in
    let b = c.args.bump in
    let m = on.carrying c.args.lane.now b c.requires.carries in
    let d = c.clear_active-cleared in
    let ends = on.ends_clear c.args.class.now t.new.self c.args.lane.now m.0 b b.life.chunk t.result m.1 refl
    t.ensures.tried t.ensures.found t.ensures.fits c.requires.own in
    ends c.args.now c.put_time.new.self c.put_time.ensures.timed d.result d.new.self d.ensures.cleared
    c.if-not-cleared.true

pub alight-requires-2-clause-ends : goal.alight-requires-2-clause-ends
alight-requires-2-clause-ends g c =
    let t = c.try_front-tried in
    let b = c.args.bump in
    let m = on.carrying c.args.lane.now b c.requires.carries in
    let d = c.clear_active-cleared in
    let s = c.change_segment in
    let ends = on.ends_moved c.args.class.now t.new.self c.args.lane.now m.0 b b.life.chunk t.result m.1 refl
    t.ensures.tried t.ensures.found t.ensures.fits c.requires.own in
    ends c.args.now c.put_time.new.self c.put_time.ensures.timed d.result d.new.self d.ensures.cleared s.result
    s.new.self s.ensures.moved c.if-not-cleared.false

pub returns-then-not-tried : goal.returns-then-not-tried
returns-then-not-tried g c =
    let t = c.try_front-tried in
    let b = c.args.bump in
    let m = on.carrying c.args.lane.now b c.requires.carries in
    let a = c.alight in
    let v = c.args.class.now in
    let o = c.args.lane.now in
    let found : FittingHeads = found_by t.result t.result t.result a.result t.ensures.fits t.ensures.fits t.ensures.fits a.ensures.fits in
    let is = on.tried_is v t.new.self o m.0 b b.life.chunk t.result m.1 refl t.ensures.tried t.ensures.found
    t.ensures.fits c.requires.own in
    let all = updates v o m.0 b c.args.now c.requires.alone m.1 Gone found t.ensures.found
    (sym (gone_by t.result t.result c.if-not-tried.true)) t.new.self a.new.self a.new.lane _ _ is
    (rests v.sheet c.requires.idle) refl refl a.ensures.class a.ensures.lane a.ensures.entry a.ensures.once a.ensures.moves in
    record { whole = all.0; updates = all.1 }

pub returns-then-not-matches : goal.returns-then-not-matches
returns-then-not-matches g c =
    let t = c.try_front-tried in
    let b = c.args.bump in
    let m = on.carrying c.args.lane.now b c.requires.carries in
    let a = c.alight-then-not-matches in
    let v = c.args.class.now in
    let o = c.args.lane.now in
    let found : FittingHeads = found_by t.result t.result t.result a.result t.ensures.fits t.ensures.fits t.ensures.fits a.ensures.fits in
    let other : t.result.segment ≢ Cold = elim c.match-matches.branch [
      | in-Cold w ↦ (λ e. false≢true (sym c.if-not-matches.true ∙ w.matches-is))
      | in_default w ↦ w.in_default.not-Cold
    ] in
    let elsewhere = not_cold t.result.segment other in
    let p = c.put_time in
    let is = on.put_time_is v t.new.self o m.0 b b.life.chunk t.result m.1 refl t.ensures.tried t.ensures.found
    t.ensures.fits c.requires.own c.args.now p.new.self p.ensures.timed in
    let timed = class_with_time m.0.worker b c.args.now v.sheet in
    let sheet = sym (ap (λ (x : Bool). if x then with_clearing m.0.worker b t.result timed else timed) elsewhere) in
    let all = updates v o m.0 b c.args.now c.requires.alone m.1 TimeOnly found t.ensures.found
    (sym (elsewhere_by t.result t.result c.if-not-tried.false elsewhere)) p.new.self a.new.self a.new.lane _ _ is
    (rests timed c.requires.idle ∙ sheet) refl refl a.ensures.class a.ensures.lane a.ensures.entry a.ensures.once a.ensures.moves in
    record { whole = all.0; updates = all.1 }

pub returns-then-not-cleared : goal.returns-then-not-cleared
returns-then-not-cleared g c =
    let t = c.try_front-tried in
    let b = c.args.bump in
    let m = on.carrying c.args.lane.now b c.requires.carries in
    let d = c.clear_active-cleared in
    let a = c.alight-then-not-cleared in
    let v = c.args.class.now in
    let o = c.args.lane.now in
    let found : FittingHeads = found_by t.result d.result t.result a.result t.ensures.fits d.ensures.fits t.ensures.fits a.ensures.fits in
    let cold : is_cold t.result.segment ≡ true = ap is_cold (elim c.match-matches.branch [
      | in-Cold w ↦ w.in-Cold.is
      | in_default w ↦ absurd (false≢true (sym w.matches-is ∙ c.if-not-matches.false))
    ]) in
    let p = c.put_time in
    let is = on.clear_active_is v t.new.self o m.0 b b.life.chunk t.result m.1 refl t.ensures.tried t.ensures.found
    t.ensures.fits c.requires.own c.args.now p.new.self p.ensures.timed d.result d.new.self d.ensures.cleared in
    let timed = class_with_time m.0.worker b c.args.now v.sheet in
    let sheet = sym (ap (λ (x : Bool). if x then with_clearing m.0.worker b d.result timed else timed) cold) in
    let all = updates v o m.0 b c.args.now c.requires.alone m.1 TimeOnly found t.ensures.found
    (sym (clear_by t.result d.result c.if-not-tried.false cold c.if-not-cleared.true)) d.new.self a.new.self
    a.new.lane _ _ is (rests (with_clearing m.0.worker b d.result timed) c.requires.idle ∙ sheet) refl refl a.ensures.class a.ensures.lane a.ensures.entry a.ensures.once
    a.ensures.moves in
    record { whole = all.0; updates = all.1 }

pub returns : goal.returns
returns g c =
    let t = c.try_front-tried in
    let b = c.args.bump in
    let m = on.carrying c.args.lane.now b c.requires.carries in
    let d = c.clear_active-cleared in
    let s = c.change_segment in
    let a = c.alight-2 in
    let v = c.args.class.now in
    let o = c.args.lane.now in
    let found : FittingHeads = found_by t.result d.result s.result a.result t.ensures.fits d.ensures.fits s.ensures.fits a.ensures.fits in
    let cold : is_cold t.result.segment ≡ true = ap is_cold (elim c.match-matches.branch [
      | in-Cold w ↦ w.in-Cold.is
      | in_default w ↦ absurd (false≢true (sym w.matches-is ∙ c.if-not-matches.false))
    ]) in
    let p = c.put_time in
    let is = on.moved_is v t.new.self o m.0 b b.life.chunk t.result m.1 refl t.ensures.tried t.ensures.found
    t.ensures.fits c.requires.own c.args.now p.new.self p.ensures.timed d.result d.new.self d.ensures.cleared s.result
    s.new.self s.ensures.moved in
    let all = updates v o m.0 b c.args.now c.requires.alone m.1 Moved found t.ensures.found
    (sym (moved_by t.result d.result c.if-not-tried.false cold c.if-not-cleared.false)) s.new.self a.new.self
    a.new.lane _ _ is (rests (with_move m.0.worker b s.result (with_clearing m.0.worker b d.result
    (class_with_time m.0.worker b c.args.now v.sheet))) c.requires.idle) refl refl a.ensures.class a.ensures.lane a.ensures.entry a.ensures.once
    a.ensures.moves in
    record { whole = all.0; updates = all.1 }
