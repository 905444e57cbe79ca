use Rattle.std.proofs.Common.{refl, ap, ◌∙◌, subst, ◌≡◌, true}
use Rattle.bump_rules.specs.declared.items.ItemId.{ItemId}
use Rattle.bump_steps.specs.declared.views.Kind.TheVariants as kind
use Rattle.bump_steps.specs.Marks.{noted}
use Rattle.bump_readers.specs.Glances.{IsGlancing, IsLinkedLife}
use Rattle.bump_readers.specs.Seats.{worker_me}
use Rattle.bump_readers.proofs.Attempts.{stepped_seat}
use Rattle.bump_readers.proofs.Glancing.{faithful, look_kept}
use Rattle.bump_readers.proofs.heads.ReaderHeads.end_glance.Goals as goal

pub invariant_of-worker : goal.invariant_of-worker
invariant_of-worker g c = stepped_seat g.N.Name.table c.worker.inside.worker c.worker.inside.seat.table_id
    c.look_again.new.seat.table_id c.worker.inside.seat.me c.look_again.new.seat.me c.args.worker.now
    c.worker.invariant (cc c.worker.view_is) c.look_again.ensures.same.0
    (noted kind.Load c.glance.inside.life.chunk c.look_again.result) c.look_again.ensures.told.0 refl
    (look_kept c.glance.inside.life.chunk c.look_again.result c.args.worker.now.sheet)

pub returns-clause-faithful : goal.returns-clause-faithful
returns-clause-faithful g c = let same : c.glance.inside.life ≡ c.args.glance.now = cc c.glance.view_is in
    let before : c.worker.inside.seat.me ≡ worker_me c.args.worker.now = c.worker.invariant.0
    ∙ ap worker_me (cc c.worker.view_is) in
    subst (λ (i : ItemId). (last : IsGlancing i c.args.worker.now.sheet) → IsLinkedLife i c.head_of.result
    → last.glance.agrees ≡ true) same (faithful c.glance.inside.life c.look_again.result c.head_of.result
    c.worker.inside.seat.me c.args.worker.now before c.head_of.ensures c.look_again.ensures.told.1)
