use Rattle.std.proofs.Common.{rules}
use Rattle.store_lies.proofs.words.has_room.Goals as goal

pub returns : goal.returns
returns c = search rules
