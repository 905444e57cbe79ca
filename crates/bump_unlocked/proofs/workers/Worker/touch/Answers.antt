use Rattle.std.proofs.Common.{refl, ap, sym, ◌∙◌, length, ◌++◌, arith}
use Rattle.bump_rules.specs.declared.bumps.Accounts.{Accounts}
use Rattle.bump_steps.specs.declared.views.WorkerSheet.{WorkerSheet}
use Rattle.bump_readers.specs.declared.views.HoldView.{HoldView}
use Rattle.bump_readers.specs.declared.views.WorkerView.{WorkerView}
use Rattle.bump_unlocked.specs.Holds.{sheet_of}
use Rattle.bump_unlocked.specs.Touches.{touched_sheet, touch_steps}
use Rattle.bump_unlocked.specs.Workers.{WorkerState}
use Rattle.bump_unlocked.proofs.StepLemmas.{touch_makes}
use Rattle.bump_unlocked.proofs.workers.Worker.touch.Goals as goal

pub hold_out-requires-clause-joined : goal.hold_out-requires-clause-joined
hold_out-requires-clause-joined g c = (
  sheet_of c.hold.inside.held,
  ap (λ (v : WorkerView). v.hold) c.hit-touch.ensures.hit.1.sheet ∙ ap (λ (v : WorkerView). v.hold) c.hold_in.ensures.worker
      ∙ ap (λ (v : HoldView). v.sheet) c.hold.invariant,
  sym (ap (λ (v : HoldView). v.life) c.hold_in.ensures.hollow),
)

pub returns-clause-few : goal.returns-clause-few
returns-clause-few g c =
    let l = c.life-life.result in
    let now = c.args.now in
    let answered = c.hit-touch.result in
    let f = c.hit-touch.ensures.hit.0 in
    let m = c.hit-touch.ensures.hit.1 in
    let sheet = ap (λ (v : WorkerView). v.sheet) c.hold_out.ensures.worker ∙ ap (λ (v : WorkerView). v.sheet) m.sheet
    ∙ ap (λ (v : WorkerView). touched_sheet answered l now f v.sheet) c.hold_in.ensures.worker in
    let steps = ap (λ (p : WorkerSheet). p.steps) sheet
    ∙ ap (λ (w : WorkerState). w.sheet.steps ++ touch_steps answered l now f) c.self.view_is in
    touch_makes c.args.heads.now.refs_limit l now f (length c.self.inside.sender.sent) answered _ _ m.answer
    (λ e. (m.findings.looks e).most) steps

pub returns-clause-taken : goal.returns-clause-taken
returns-clause-taken g c =
    let l = c.life-life.result in
    let now = c.args.now in
    let answered = c.hit-touch.result in
    let f = c.hit-touch.ensures.hit.0 in
    let m = c.hit-touch.ensures.hit.1 in
    let sheet = ap (λ (v : WorkerView). v.sheet) c.hold_out.ensures.worker ∙ ap (λ (v : WorkerView). v.sheet) m.sheet
    ∙ ap (λ (v : WorkerView). touched_sheet answered l now f v.sheet) c.hold_in.ensures.worker in
    ap (λ (p : WorkerSheet). p.taken) sheet ∙ ap (λ (w : WorkerState). w.sheet.taken) c.self.view_is

pub returns-clause-glances : goal.returns-clause-glances
returns-clause-glances g c =
    let l = c.life-life.result in
    let now = c.args.now in
    let answered = c.hit-touch.result in
    let f = c.hit-touch.ensures.hit.0 in
    let m = c.hit-touch.ensures.hit.1 in
    let sheet = ap (λ (v : WorkerView). v.sheet) c.hold_out.ensures.worker ∙ ap (λ (v : WorkerView). v.sheet) m.sheet
    ∙ ap (λ (v : WorkerView). touched_sheet answered l now f v.sheet) c.hold_in.ensures.worker in
    ap (λ (p : WorkerSheet). p.glances) sheet ∙ ap (λ (w : WorkerState). w.sheet.glances) c.self.view_is

pub returns-then-attempted-ge-MOST_ATTEMPTS-clause-exhausted : goal.returns-then-attempted-ge-MOST_ATTEMPTS-clause-exhausted
returns-then-attempted-ge-MOST_ATTEMPTS-clause-exhausted g c = λ _. (refl, refl)

pub returns-then-attempted-ge-MOST_ATTEMPTS-clause-touched : goal.returns-then-attempted-ge-MOST_ATTEMPTS-clause-touched
returns-then-attempted-ge-MOST_ATTEMPTS-clause-touched g c =
    let counts = ap (λ (k : Accounts). k.attempted) c.self.invariant.1 in
    let same = ap (λ (w : WorkerState). w.sheet.accounts.attempted) c.self.view_is in
    λ low. absurd (omega (arith, low, c.if-attempted-ge-MOST_ATTEMPTS.true, counts, same))
