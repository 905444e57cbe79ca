use Rattle.std.proofs.Common.{refl, ap, ◌∙◌, subst, ◌≡◌}
use Rattle.atomic_table.specs.Seated.{TableId}
use Rattle.bump_steps.specs.declared.views.Kind.TheVariants as kind
use Rattle.bump_steps.specs.Glances.{worker_after_glance}
use Rattle.bump_steps.specs.Marks.{noted}
use Rattle.bump_steps.specs.References.{IsRow}
use Rattle.bump_readers.specs.Seats.{worker_me}
use Rattle.bump_readers.proofs.Attempts.{stepped_seat}
use Rattle.bump_readers.proofs.Glancing.{told_of, begun_view, look_kept, lit_of, dark_of}
use Rattle.bump_readers.proofs.heads.ReaderHeads.glance.Goals as goal

pub invariant_of-worker : goal.invariant_of-worker
invariant_of-worker g c =
    let told = told_of c.glance-word.result c.head_of-found.result _ c.head_of-found.ensures c.glance-word.ensures.told in
    stepped_seat g.N.Name.table c.worker.inside.worker c.worker.inside.seat.table_id
    c.glance-word.new.seat.table_id c.worker.inside.seat.me c.glance-word.new.seat.me c.args.worker.now
    c.worker.invariant (cc c.worker.view_is) c.glance-word.ensures.same.0
    (noted kind.Load c.args.chunk c.glance-word.result) (told.1 (dark_of c.head_of-found.result.linked c.if-not-found.true)) refl
    (look_kept c.args.chunk c.glance-word.result c.args.worker.now.sheet)

pub invariant_of-worker-2 : goal.invariant_of-worker-2
invariant_of-worker-2 g c =
    let told = told_of c.glance-word.result c.head_of-found.result _ c.head_of-found.ensures c.glance-word.ensures.told in
    let new = told.0 (lit_of c.head_of-found.result.linked c.if-not-found.false) in
    stepped_seat g.N.Name.table c.worker.inside.worker c.worker.inside.seat.table_id
    c.glance-word.new.seat.table_id c.worker.inside.seat.me c.glance-word.new.seat.me c.args.worker.now
    c.worker.invariant (cc c.worker.view_is) c.glance-word.ensures.same.0
    (worker_after_glance c.args.chunk c.glance-word.result new.0) new.3 refl
    (λ is. let kept = look_kept c.args.chunk c.glance-word.result c.args.worker.now.sheet is in
    record { accounts = kept.accounts; attempts = kept.attempts })

pub returns-clause-begins : goal.returns-clause-begins
returns-clause-begins g c =
    let told = told_of c.glance-word.result c.head_of-found.result _ c.head_of-found.ensures c.glance-word.ensures.told in
    let lit = lit_of c.head_of-found.result.linked c.if-not-found.false in
    let new = told.0 lit in
    let before : c.worker.inside.seat.me ≡ worker_me c.args.worker.now = c.worker.invariant.0
    ∙ ap worker_me (cc c.worker.view_is) in record {
      linked = record { fits = c.head_of-found.ensures.1; linked = lit; generation = refl };
      row = new.0;
      long = subst (λ (t : TableId). IsRow t.slots new.0) c.self.invariant.0 new.1;
      lawful = new.2;
      glances = begun_view c.args.chunk c.glance-word.result c.head_of-found.result new.0 c.worker.inside.seat.me
          c.glance-word.new.seat.me c.args.worker.now before c.head_of-found.ensures new.3;
    }
