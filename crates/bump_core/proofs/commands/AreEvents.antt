-- Each command that is allowed is its events, each enabled in its turn, and asks for memory where one of them does.
use Rattle.std.proofs.Common.{◌≡◌, true, false, Some, Result, Ok, Err, refl, sym, ap, ◌∙◌, subst}
use Rattle.std.specs.Prelude.{OnOk, IfErr}
use Rattle.std.proofs.lemmas.Bool.{both_ways}
use Rattle.bump_rules.specs.declared.commands.Answer.{Answer}
use Rattle.bump_rules.specs.declared.events.Refused.{Refused}
use Rattle.bump_rules.specs.declared.events.Refused.TheVariants.{NotEnabled, OutOfMemory}
use Rattle.bump_rules.specs.declared.commands.Command.{Command}
use Rattle.bump_rules.specs.declared.commands.Command.TheVariants as command
use Rattle.bump_rules.specs.declared.places.Start.TheVariants as start
use Rattle.model_state.specs.State.{State, SameSizes}
use Rattle.model_state.specs.Worlds.{IsLawful}
use Rattle.bump_core.specs.Runs.{run_of, made_by}
use Rattle.bump_core.specs.Commands.{is_allowed, events_of, command_after, command_asks_for_memory, Commands}
use Rattle.bump_core.proofs.worlds.Sizes.{run_sizes}
use Rattle.bump_core.proofs.worlds.StaysLawful.{WorldKeeps, run_keeps}
use Rattle.bump_core.proofs.commands.EndsAsEvents.{unlink_made, sweep_made, close_made}
use Rattle.bump_core.proofs.commands.HoldsAsEvents.{label_made, release_made, take_made}
use Rattle.bump_core.proofs.commands.LinksAsEvents.{link_made}
use Rattle.bump_core.proofs.commands.PullsAsEvents.{pull_made}
use Rattle.bump_core.proofs.commands.HitsAsEvents.{touch_made}
use Rattle.bump_core.proofs.commands.LanesAsEvents.{next_made}

-- a command leaves the state that its events leave
pub commands_are_events : (s : State) → IsLawful s → (c : Command) → is_allowed s c ≡ true → run_of s (events_of s c)
    ≡ Some (command_after s c)
commands_are_events s o (command.Link k x now) allowed = link_made s o start.Hot k x now allowed
commands_are_events s o (command.LinkTemp k x now) allowed = link_made s o start.Temp k x now allowed
commands_are_events s o (command.Unlink l) allowed = unlink_made s o l allowed
commands_are_events s o (command.Sweep k) allowed = sweep_made s o k allowed
commands_are_events s o (command.Pull k t) allowed = pull_made s o k t allowed
commands_are_events s o (command.Take w l) allowed = take_made s w l allowed
commands_are_events s o (command.Touch w l now) allowed = touch_made s o w l now allowed
commands_are_events s o (command.Label l) allowed = label_made s l allowed
commands_are_events s o (command.Release l) allowed = release_made s l allowed
commands_are_events s o (command.Next w now) allowed = next_made s o w now allowed
commands_are_events s o (command.Close w) allowed = close_made s w allowed

-- a command that is refused changes nothing
refused_same : (old : State) (c : Command) (new : State) (r : Refused) → Commands old c new (Err r) → new ≡ old
refused_same old c new NotEnabled refused = refused.1
refused_same old c new OutOfMemory refused = refused.1

-- the events of a command that was made
pub command_events : (old : State) (c : Command) (new : State) (r : Result Answer Refused) → WorldKeeps old
    → Commands old c new r → OnOk r (run_of old (events_of old c) ≡ Some new)
command_events old c new (Ok answer) k made = commands_are_events old k.0 c made.0
    ∙ ap (λ (s : State). Some s) (sym made.1)
command_events old c new (Err r) k refused = tt

-- a command keeps what a World keeps, as the run of its events does
pub command_keeps : (old : State) (c : Command) (new : State) (r : Result Answer Refused) → WorldKeeps old
    → Commands old c new r → WorldKeeps new
command_keeps old c new (Ok answer) k made = run_keeps old (events_of old c) new k (command_events old c new
    (Ok answer) k made)
command_keeps old c new (Err r) k refused = subst WorldKeeps (sym (refused_same old c new r refused)) k

-- and it leaves the sizes
pub command_sizes : (old : State) (c : Command) (new : State) (r : Result Answer Refused) → WorldKeeps old
    → Commands old c new r → SameSizes old new
command_sizes old c new (Ok answer) k made = run_sizes old (events_of old c) new (command_events old c new
    (Ok answer) k made)
command_sizes old c new (Err r) k refused = subst (SameSizes old) (sym (refused_same old c new r refused)) (
  refl,
  refl,
  refl,
)

-- a command leaves the state that the events that it made leave
pub command_runs : (old : State) (c : Command) (new : State) (r : Result Answer Refused) → WorldKeeps old
    → Commands old c new r → run_of old (made_by (events_of old c) r) ≡ Some new
command_runs old c new (Ok answer) k made = command_events old c new (Ok answer) k made
command_runs old c new (Err r) k refused = ap (λ (s : State). Some s) (sym (refused_same old c new r refused))

-- where no event of a command asks for memory, the command is never refused for want of it
pub wants_where_asked : (old : State) (c : Command) (new : State) (r : Result Answer Refused) → Commands old c new r
    → command_asks_for_memory old c ≡ false → IfErr r (λ e. e ≡ NotEnabled)
wants_where_asked old c new (Ok answer) made none = tt
wants_where_asked old c new (Err NotEnabled) refused none = refl
wants_where_asked old c new (Err OutOfMemory) refused none = absurd (both_ways _ none refused.2)
