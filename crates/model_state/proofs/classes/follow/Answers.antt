use Rattle.std.proofs.Common.{drop, ◌+◌, sym, ap, ap₂, ◌∙◌, subst}
use Rattle.bump_rules.specs.History.{replay, AreListed}
use Rattle.bump_rules.specs.Lists.{Lists, to_front}
use Rattle.model_state.proofs.classes.Sweeps.{followed}
use Rattle.model_state.proofs.classes.follow.Goals as goal

pub loop-entry-preserved : goal.loop-entry-preserved
loop-entry-preserved c =
    let es = c.args.entries.now in
    let moved = c.to_front.ensures ∙ ap₂ (λ d p. to_front d p c.loop-entry.lists) c.chunk.ensures c.place.ensures in
    let next = followed c.loop-entry.lists es c.loop-entry.entry-index _ c.loop-entry-test.true
    c.loop-entry.invariant.1 in (
      ap (λ (l : Lists). replay l (drop (c.loop-entry.entry-index + 1) es)) moved ∙ (next.0 ∙ c.loop-entry.invariant.0),
      subst (λ (l : Lists). AreListed l (drop (c.loop-entry.entry-index + 1) es)) (sym moved) next.1,
    )
