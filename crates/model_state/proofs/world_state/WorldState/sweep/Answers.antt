use Rattle.std.proofs.Common.{◌≡◌, false, ◌&&◌, length, refl, sym, ap, ◌∙◌}
use Rattle.std.proofs.lemmas.Bool.{ltb-false}
use Rattle.model_state.specs.State.{class_of, head_at}
use Rattle.model_state.specs.Views.{state_of}
use Rattle.bump_rules.specs.Tables.{is_unheld}
use Rattle.model_state.specs.Events.{is_at_rest, is_dying}
use Rattle.model_state.proofs.Enabled.{not_dying_past}
use Rattle.model_state.proofs.world_state.WorldState.sweep.Goals as goal
use Rattle.model_state.proofs.world_state.WorldState.sweep.Goals.{then-not-has_chunk-via-then-not-has_chunk, then-not-has_chunk-via-else-not-has_chunk+then-not-is_dying}

pub returns-then-not-has_chunk : goal.returns-then-not-has_chunk
returns-then-not-has_chunk c =
    let s = state_of c.args.self.now in
    let rests = is_unheld (head_at s c.args.chunk) && is_at_rest s (class_of s c.args.chunk) in
    let not_there : is_dying s c.args.chunk ≡ false = elim c.then-not-has_chunk.branch [
      | then-not-has_chunk-via-then-not-has_chunk w ↦ not_dying_past s c.requires c.args.chunk
          (ltb-false c.args.chunk (length s.chunks) (sym c.has_chunk.ensures ∙ w.if-not-has_chunk.true))
      | then-not-has_chunk-via-else-not-has_chunk+then-not-is_dying w ↦ sym w.is_dying.ensures
          ∙ w.if-not-is_dying.true
    ] in
    record {
      step = record { enabled = ap (λ b. b && rests) not_there; state = tt; reply = tt; unchanged = refl };
    }
