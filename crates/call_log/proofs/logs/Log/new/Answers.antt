use Rattle.std.proofs.Common.{◌<◌, List, sym, ◌∙◌, ap, subst}
use Rattle.std.proofs.lemmas.List.Elements.{All-nil}
use Rattle.call_log.specs.Fronts.{AreNumbered}
use Rattle.call_log.specs.Logs.{calls_of}
use Rattle.call_log.proofs.logs.Log.new.Goals as goal

pub invariant_of-result : goal.invariant_of-result
unfolding calls_of
invariant_of-result g c = (
  c.requires.number,
  c.requires.calls ∙ ap (λ (l : List g.row.E.Denot). calls_of g.E.State.number c.args.head l) (sym c.requires.log),
  subst (λ (l : List g.row.E.Denot). AreNumbered g.E.State.number c.args.front.values l) (sym c.requires.log)
      (All-nil (λ s. g.E.State.number s < c.args.front.values)),
  c.requires.alone,
  record {
    named = c.requires.tally.named;
    of = c.requires.tally.of;
    here = c.requires.tally.here;
    counts = c.requires.tally.counts ∙ sym c.requires.calls;
  },
)
