use Rattle.std.proofs.Common.{rules, ◌≡◌, ◌∙◌, ap, refl}
use Rattle.std.specs.Arc.{arc_value}
use Rattle.bump_steps.specs.declared.views.HoldSheet.{HoldSheet}
use Rattle.bump_steps.specs.References.{label_of_row}
use Rattle.bump_handles.proofs.PlaceLemmas.{hits_there, worker_gets, worker_touches}
use Rattle.bump_handles.proofs.readers.Reader.hit.Goals as goal

pub returns-in-Ok : goal.returns-in-Ok
returns-in-Ok g c =
    let words : c.deref-2.result.now ≡ arc_value c.self.inside.heads = search rules in
    let words_too : c.deref-in-Ok-2.result.now ≡ arc_value c.self.inside.heads = search rules in
    let rings : c.touch-touch.new.self.sender.ring ≡ c.self.inside.worker.sender.ring = search rules in
    record {
      hits = hits_there c.args.id c.args.now _ _ _ c.get.new.self c.in-Ok.hold c.touch-touch.result c.label-label.result c.self.view_is
          (worker_gets _ _ _ _ _ _ words c.in-Ok.ensures.missing c.in-Ok.ensures.got)
          (worker_touches _ _ _ _ _ _ _ words_too c.touch-touch.ensures.exhausted c.touch-touch.ensures.touched)
          (c.label-label.ensures.is ∙ ap (λ (h : HoldSheet). label_of_row h.row) c.touch-touch.ensures.hold) rings refl;
    }
