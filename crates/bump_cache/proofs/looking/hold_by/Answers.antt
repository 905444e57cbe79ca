use Rattle.std.proofs.Common.{sym, subst}
use Rattle.bump_steps.specs.declared.views.HoldSheet.{HoldSheet}
use Rattle.bump_cache.specs.Readers.{HoldsValue}
use Rattle.bump_cache.proofs.HeldLemmas.{value_held}
use Rattle.bump_cache.proofs.looking.hold_by.Goals as goal

pub returns-clause-value : goal.returns-clause-value
returns-clause-value g c =
    subst (λ (hold : HoldSheet). HoldsValue g.V.Packed.fits g.V.Packed.as_words g.K.Packed.width hold)
    (sym c.new.ensures)
    (value_held g.K.Packed.fits g.K.Packed.as_words g.V.Packed.fits g.V.Packed.as_words g.K.Packed.width
    g.met.K.Packed.length_is c.in-Some.hold.row c.in-Some.ensures.found.takes.search.ends.lawful)

pub new-requires-clause-pair : goal.new-requires-clause-pair
new-requires-clause-pair g c = c.in-Some.ensures.found.takes.search.ends.lawful
