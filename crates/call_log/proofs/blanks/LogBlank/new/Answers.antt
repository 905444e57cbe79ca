use Rattle.call_log.specs.Tallies.{name_in, tallies}
use Rattle.call_log.proofs.Sharing.{roster_keyless}
use Rattle.call_log.proofs.Steps.{begun_kept}
use Rattle.call_log.proofs.blanks.LogBlank.new.Goals as goal

pub open_row-seen-requires : goal.open_row-seen-requires
open_row-seen-requires g c = (
  begun_kept g.E.State.number g.E.State.some_state c.args.values,
  λ entries. roster_keyless (name_in c.begin-start.result.0.names) 0 (tallies g.E.State.number entries),
  c.begin-start.ensures.shown,
)
