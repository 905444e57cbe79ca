use Rattle.std.proofs.Common.{◌<◌, length}
use Rattle.bump_store.proofs.stores.Store.lock_class.Given as goal

abbrev pub invariant-loop : goal.invariant-loop
invariant-loop g l = l.at < length l.self.classes
