-- Why workers are not closed.
use Rattle.std.specs.Prelude.{List, [], ◌∷◌, Bool, true, false, not, ◌==◌, is_some, if◌then◌else◌, Option, Some, None}
use Rattle.bump_steps.specs.declared.views.HoldSheet.{HoldSheet}
use Rattle.bump_handles.specs.declared.drainers.NotClosed.{NotClosed}
use Rattle.bump_handles.specs.declared.drainers.NotClosed.TheVariants.{OtherStore, OtherWorker, HoldsOut, Twice}
use Rattle.bump_handles.specs.Views.{ReaderView, DrainerView}

-- whether some place has a hold
abbrev pub has_hold : List (Option HoldSheet) → Bool
has_hold [] = false
has_hold (held ∷ holds) = if is_some held then true else has_hold holds

-- why the worker of this reader isn't closed with this lane: the first reason that applies
abbrev pub why_not_closed : DrainerView → ReaderView → Option NotClosed
why_not_closed drainer reader =
    if not (reader.store == drainer.store) then Some OtherStore else
    (if not (reader.number == drainer.lane.sheet.worker) then Some OtherWorker else
    (if has_hold reader.holds then Some HoldsOut else
    (if is_some drainer.closed then Some Twice else None)))
