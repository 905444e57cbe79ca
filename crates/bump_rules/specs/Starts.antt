-- A link, by where its item begins: the entry of its life, its event and its command.
use Rattle.std.specs.Prelude.{ℕ}
use Rattle.bump_rules.specs.declared.places.Start.{Start}
use Rattle.bump_rules.specs.declared.places.Start.TheVariants.{Hot, Temp}
use Rattle.bump_rules.specs.declared.items.ItemId.{ItemId}
use Rattle.bump_rules.specs.declared.history.Change.{Change}
use Rattle.bump_rules.specs.declared.history.Change.TheVariants.{Linked, LinkedTemp}
use Rattle.bump_rules.specs.declared.events.Event.{Event}
use Rattle.bump_rules.specs.declared.events.Event.TheVariants as event
use Rattle.bump_rules.specs.declared.commands.Command.{Command}
use Rattle.bump_rules.specs.declared.commands.Command.TheVariants as command

-- the entry of a life that begins
abbrev pub begun_change : Start → ItemId → Change
begun_change Hot life = Linked life
begun_change Temp life = LinkedTemp life

-- the event by which the next life of a class begins
abbrev pub link_event : Start → ℕ → Event
link_event Hot class = event.Link class
link_event Temp class = event.LinkTemp class

-- the command that stores an item in a class
abbrev pub link_command : Start → ℕ → ℕ → ℕ → Command
link_command Hot class label now = command.Link class label now
link_command Temp class label now = command.LinkTemp class label now
