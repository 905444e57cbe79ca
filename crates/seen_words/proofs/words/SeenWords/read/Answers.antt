use Rattle.std.proofs.Common.{List, ap, ap₂, ◌∙◌, rules}
use Rattle.atomic_table.specs.Table.{Me}
use Rattle.atomic_table.specs.Seated.{TableId}
use Rattle.seen_words.specs.declared.views.NoSlot.{NoSlot}
use Rattle.seen_words.specs.declared.views.Moment.{Moment}
use Rattle.seen_words.specs.declared.views.Sight.{Sight}
use Rattle.seen_words.specs.Past.{pen_view}
use Rattle.seen_words.proofs.Steps.{reads}
use Rattle.seen_words.proofs.words.SeenWords.read.Goals as goal

pub load-requires : goal.load-requires
load-requires g c = (search rules, search rules, reads g.L.Law.law _ _ _ _ (search rules))

pub returns-clause-pen : goal.returns-clause-pen
returns-clause-pen g c =
    ap₂ (λ (t : TableId) (p : List Moment). pen_view t p) c.load.ensures.0
    (ap (λ (m : Me NoSlot Sight). m.0.past) c.load.ensures.2.0) ∙ c.pen.view_is
