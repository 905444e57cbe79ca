use Rattle.std.proofs.Common.{List, ap, ap₂, ◌∙◌, rules}
use Rattle.atomic_table.specs.Table.{Me}
use Rattle.atomic_table.specs.Seated.{TableId}
use Rattle.seen_words.specs.declared.views.NoSlot.{NoSlot}
use Rattle.seen_words.specs.declared.views.Moment.{Moment}
use Rattle.seen_words.specs.declared.views.Sight.{Sight}
use Rattle.seen_words.specs.Past.{pen_view}
use Rattle.seen_words.proofs.Steps.{parts}
use Rattle.seen_words.proofs.words.SeenWords.pens_eye.Goals as goal

pub split_seat-seat-requires : goal.split_seat-seat-requires
split_seat-seat-requires g c = (search rules, search rules, parts g.L.Law.law _ _)

pub returns-clause-pen : goal.returns-clause-pen
returns-clause-pen g c =
    ap₂ (λ (t : TableId) (p : List Moment). pen_view t p) c.split_seat-seat.ensures.0
    (ap (λ (m : Me NoSlot Sight). m.0.past) c.split_seat-seat.ensures.2) ∙ c.pen.view_is
