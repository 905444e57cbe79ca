-- What the answers of commands tell.
use Rattle.std.specs.Prelude.{Option, None, Some}
use Rattle.bump_rules.specs.declared.commands.Pulled.{Pulled}
use Rattle.bump_rules.specs.declared.commands.Pulled.TheVariants as pulled
use Rattle.bump_rules.specs.declared.commands.Pulled.TheVariants.{Empty}
use Rattle.bump_rules.specs.declared.items.ItemId.{ItemId}

-- the item that a pull tells, if it found one
abbrev pub item_told : Pulled → Option ItemId
item_told Empty = None
item_told (pulled.Stay item) = Some item
item_told (pulled.Warm item) = Some item
item_told (pulled.Again item) = Some item
item_told (pulled.Cold item) = Some item
item_told (pulled.Freed item) = Some item
item_told (pulled.Deferred item) = Some item
