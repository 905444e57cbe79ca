use Rattle.std.proofs.Common.{rules, ◌≡◌, sym, ◌∙◌}
use Rattle.std.proofs.lemmas.List.{get_or-set_same}
use Rattle.bump_rules.specs.Heads.{marked_head}
use Rattle.model_state.specs.declared.chunks.Chunk.{Chunk}
use Rattle.model_state.specs.State.{chunk_at, no_chunk, with_chunk}
use Rattle.model_state.specs.Views.{state_of}
use Rattle.model_state.proofs.Enabled.{free_hold_from}
use Rattle.bump_core.proofs.commands.ChangedState.{chunk_again}
use Rattle.bump_core.proofs.commands.hits.call_touch.Goals as goal

pub returns-in_ok-store_time-in-Marked : goal.returns-in_ok-store_time-in-Marked
returns-in_ok-store_time-in-Marked c =
    let s = state_of c.args.inside.now in
    let x = chunk_at s c.args.id.chunk in
    let marked : state_of c.mark.new.self ≡ with_chunk s c.args.id.chunk (record x { head = marked_head x.head })
    = search rules in
    let again = chunk_again s c.args.id.chunk (record x { head = marked_head x.head }) (λ (a : Chunk). record a {
      time = c.args.now;
    }) (free_hold_from s c.args.id (sym c.has_free_hold.ensures ∙ c.if-not-has_free_hold.false)).0 in
    (search rules, search rules, search rules)

pub returns-in_err-store_time-in-Marked : goal.returns-in_err-store_time-in-Marked
returns-in_err-store_time-in-Marked c =
    let s = state_of c.args.inside.now in
    let x = chunk_at s c.args.id.chunk in
    let y : Chunk = record x { head = marked_head x.head } in
    let marked : state_of c.mark.new.self ≡ with_chunk s c.args.id.chunk y = search rules in
    let read = get_or-set_same s.chunks c.args.id.chunk y no_chunk
    (free_hold_from s c.args.id (sym c.has_free_hold.ensures ∙ c.if-not-has_free_hold.false)).0 in
    search rules
