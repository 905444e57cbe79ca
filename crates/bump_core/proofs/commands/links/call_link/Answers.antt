use Rattle.std.proofs.Common.{rules, ◌≡◌, ℕ, ◌+◌, Option, sym, ap, ◌∙◌}
use Rattle.std.specs.Option.{option_map_or}
use Rattle.bump_rules.specs.Heads.{linked_head}
use Rattle.bump_rules.specs.Starts.{begun_change}
use Rattle.model_state.specs.declared.chunks.Chunk.{Chunk}
use Rattle.model_state.specs.Events.{link, next_life}
use Rattle.model_state.specs.State.{State, chunk_at, with_change}
use Rattle.model_state.specs.Views.{state_of}
use Rattle.bump_core.proofs.commands.ChangedState.{chunk_again}
use Rattle.bump_core.proofs.commands.links.call_link.Goals as goal

pub returns : goal.returns
returns c =
    let s = state_of c.args.inside.now in
    let d = c.in-Some.next in
    let x = chunk_at s d in
    let begun : state_of c.begin_life.new.self ≡ link s c.args.start c.args.class d
    = c.in_ok-begin_life.ensures.state
    ∙ ap (λ (o : Option ℕ). option_map_or (link s c.args.start c.args.class) o s) (sym c.in-Some.ensures.front) in
    let again = ap (λ (t : State). with_change t c.args.class (begun_change c.args.start (next_life s d)))
    (chunk_again s d (record x { head = linked_head c.args.start (x.head.generation + 1) }) (λ (z : Chunk). record x {
      head = z.head;
      time = c.args.now;
      label = c.args.label;
    }) c.in-Some.ensures.free.0) in
    (search rules, search rules, search rules)
