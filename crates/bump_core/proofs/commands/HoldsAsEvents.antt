-- The commands of holds are their events: a get, the label of what is held, and a release.
use Rattle.std.proofs.Common.{rules, ◌≡◌, ℕ, ltb, eqb, Bool, true, not, ◌&&◌, [], Some, if◌then◌else◌, refl}
use Rattle.std.proofs.lemmas.Bool.{and_parts, and_from}
use Rattle.bump_rules.specs.declared.items.ItemId.{ItemId}
use Rattle.bump_rules.specs.declared.events.Event.TheVariants as event
use Rattle.bump_rules.specs.declared.commands.Command.TheVariants as command
use Rattle.model_state.specs.State.{State, chunk_at, head_at, is_chunk, is_linked}
use Rattle.model_state.specs.Events.{is_under_limit}
use Rattle.bump_core.specs.Runs.{run_of}
use Rattle.bump_core.specs.Commands.{is_allowed, events_of, command_after, get_at}
use Rattle.bump_rules.specs.Tables.{IsStale, IsRefsFull, IsHeld}
use Rattle.bump_core.proofs.events.Runs.{run_step}

-- the label of a held item is one load
pub label_made : (s : State) (l : ItemId) → is_allowed s (command.Label l) ≡ true
    → run_of s (events_of s (command.Label l)) ≡ Some (command_after s (command.Label l))
label_made s l allowed = run_step s s (event.Load l.chunk) [] (and_parts (is_chunk s l.chunk)
    (eqb (head_at s l.chunk).generation l.generation) (and_parts (is_chunk s l.chunk && eqb
    (head_at s l.chunk).generation l.generation) (ltb 0 (chunk_at s l.chunk).holds) allowed).0).0 refl

-- a release is one event
pub release_made : (s : State) (l : ItemId) → is_allowed s (command.Release l) ≡ true
    → run_of s (events_of s (command.Release l)) ≡ Some (command_after s (command.Release l))
release_made s l allowed = run_step s _ (event.Release l) [] allowed refl

-- a get that comes to a hold found a linked word of the generation, and a count under the limit
held_from : (on same few : Bool) → (if not (on && same) then IsStale else (if few then IsHeld else IsRefsFull))
    ≡ IsHeld → (on ≡ true) × (same ≡ true) × (few ≡ true)
held_from on same few is = search rules

-- a hold is taken by a load and, if the item is linked and its count under the limit, an exchange
pub take_made : (s : State) (w : ℕ) (l : ItemId) → is_allowed s (command.Take w l) ≡ true
    → run_of s (events_of s (command.Take w l)) ≡ Some (command_after s (command.Take w l))
take_made s w l allowed = search (rules, may)
  where
    may : is_chunk s l.chunk ≡ true → get_at s l ≡ IsHeld → (is_linked s l && is_under_limit s l.chunk) ≡ true
    may in_range is =
        let found = held_from (head_at s l.chunk).linked (eqb (head_at s l.chunk).generation l.generation)
        (ltb (head_at s l.chunk).refs s.refs_limit) is in
        and_from _ _ (and_from _ _ (and_from _ _ in_range found.1) found.0) found.2
