use std.Path.{fun_ext}
use Rattle.std.proofs.lemmas.Map.Text.{hash_map_updates_str}
use Rattle.bump_trace.proofs.names.Names.unbind.Goals as goal

pub returns : goal.returns
returns c = fun_ext (hash_map_updates_str c.args.name.now c.args.self.now.ids c.remove.new.self _ c.remove.ensures.updates)
