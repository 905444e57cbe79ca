-- Each event that is enabled leaves a lawful state lawful, and so does a run; what a
-- World keeps, a step and a run keep.
use Rattle.std.proofs.Common.{◌≡◌, true, List, Some, Result, arith}
use Rattle.bump_rules.specs.declared.events.Event.{Event}
use Rattle.bump_rules.specs.declared.events.Event.TheVariants as event
use Rattle.bump_rules.specs.declared.events.Reply.{Reply}
use Rattle.bump_rules.specs.declared.places.Start.TheVariants as start
use Rattle.bump_rules.specs.declared.events.Refused.{Refused}
use Rattle.bump_core.specs.Runs.{run_of}
use Rattle.model_state.specs.State.{State, SameSizes}
use Rattle.model_state.specs.Events.{Steps, is_enabled, after}
use Rattle.model_state.specs.Worlds.{IsLawful, IsSized}
use Rattle.bump_core.proofs.worlds.Sizes.{after_sizes}
use Rattle.bump_core.proofs.events.Runs.{by_step, by_run}
use Rattle.bump_core.proofs.events.LawfulHolds.{after_load, after_take, after_release}
use Rattle.bump_core.proofs.events.LawfulHits.{after_fetch, after_mark, after_store_time}
use Rattle.bump_core.proofs.events.LawfulLinks.{after_put_label, after_put_time, after_link}
use Rattle.bump_core.proofs.events.LawfulEnds.{after_unlink, after_sweep}
use Rattle.bump_core.proofs.events.LawfulRings.{after_close}
use Rattle.bump_core.proofs.events.LawfulPulls.{after_clear_active, after_move}
use Rattle.bump_core.proofs.events.LawfulLanes.{after_take_bump, after_try, after_bump_time, after_clear_for, after_move_for, after_alight}
use Rattle.bump_core.proofs.events.LawfulAttempts.{after_reserve, after_drop_refs, after_drop_busy, after_push, after_drop_full, after_unmark}

-- the state after an event that is enabled
abbrev pub KeepsLawful : State → Event → Type 0
KeepsLawful s e = is_enabled s e ≡ true → IsLawful (after s e)

-- each event that is enabled leaves a lawful state lawful
pub lawful_after : (s : State) → IsLawful s → (e : Event) → KeepsLawful s e
lawful_after s o (event.Load c) = after_load s c o
lawful_after s o (event.Take w l) = after_take s w l o
lawful_after s o (event.Fetch w l) = after_fetch s w l o
lawful_after s o (event.Mark w l) = after_mark s w l o
lawful_after s o (event.Reserve w) = after_reserve s w o
lawful_after s o (event.DropRefs w) = after_drop_refs s w o
lawful_after s o (event.DropBusy w) = after_drop_busy s w o
lawful_after s o (event.Push w) = after_push s w o
lawful_after s o (event.DropFull w) = after_drop_full s w o
lawful_after s o (event.Unmark w) = after_unmark s w o
lawful_after s o (event.Close w) = after_close s w o
lawful_after s o (event.StoreTime l t) = after_store_time s l t o
lawful_after s o (event.Release l) = after_release s l o
lawful_after s o (event.PutLabel k x) = after_put_label s k x o
lawful_after s o (event.PutTime k t) = after_put_time s k t o
lawful_after s o (event.Link k) = after_link s o start.Hot k
lawful_after s o (event.LinkTemp k) = after_link s o start.Temp k
lawful_after s o (event.Unlink l) = after_unlink s o l
lawful_after s o (event.Sweep c) = after_sweep s o c
lawful_after s o (event.ClearActive c) = after_clear_active s c o
lawful_after s o (event.Move c to) = after_move s o c to
lawful_after s o (event.TakeBump w) = after_take_bump s w o
lawful_after s o (event.Try w) = after_try s w o
lawful_after s o (event.BumpTime w t) = after_bump_time s w t o
lawful_after s o (event.ClearFor w) = after_clear_for s w o
lawful_after s o (event.MoveFor w) = after_move_for s o w
lawful_after s o (event.Alight w) = after_alight s w o

-- and so does a run
pub run_lawful : (s : State) (es : List Event) (t : State) → IsLawful s → run_of s es ≡ Some t → IsLawful t
run_lawful s es t o ends = by_run IsLawful lawful_after s es t o ends

-- what a World keeps: it is lawful, and there are no more classes, chunks and workers than may be
abbrev pub WorldKeeps : State → Type 0
WorldKeeps s = IsLawful s × IsSized s

-- as many classes, chunks and workers as before are no more than may be
sized_after : (s t : State) → SameSizes s t → IsSized s → IsSized t
sized_after s t same sized = record {
  classes = omega (arith, same.1, sized.classes);
  chunks = omega (
    arith,
    same.0,
    sized.chunks,
  );
  workers = omega (arith, same.2, sized.workers);
}

-- each event that is enabled keeps all
pub keeps_after : (s : State) → WorldKeeps s → (e : Event) → is_enabled s e ≡ true → WorldKeeps (after s e)
keeps_after s k e enabled = (lawful_after s k.0 e enabled, sized_after s (after s e) (after_sizes s e) k.1)

-- so does a step
pub step_keeps : (old : State) (e : Event) (new : State) (r : Result Reply Refused) → WorldKeeps old
    → Steps old e new r → WorldKeeps new
step_keeps old e new r k made = by_step WorldKeeps old e new r k (keeps_after old k e) made

-- and so does a run
pub run_keeps : (s : State) (es : List Event) (t : State) → WorldKeeps s → run_of s es ≡ Some t → WorldKeeps t
run_keeps s es t k ends = by_run WorldKeeps keeps_after s es t k ends
