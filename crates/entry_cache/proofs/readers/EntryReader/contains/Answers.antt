use Rattle.std.proofs.Common.{sym, ◌∙◌}
use Rattle.entry_cache.specs.Asking.{hash_by}
use Rattle.entry_cache.specs.Entries.{IsAsked}
use Rattle.entry_cache.specs.Looking.{PeeksRow}
use Rattle.entry_cache.proofs.LookLemmas.{finds_there}
use Rattle.entry_cache.proofs.readers.EntryReader.contains.Goals as goal

pub returns-clause-found : goal.returns-clause-found
returns-clause-found g c found =
    let e = c.peek.ensures in
    finds_there (PeeksRow (hash_by c.args.cache.now.seed (g.Q.Hash.hash_input c.args.asked)) c.args.now) g.L.Keeps.holds
    (IsAsked (g.Q.Asks.asks c.args.asked) c.args.now) c.args.self.now.rows c.peek.new.self.rows c.peek.result (sym c.is_some.ensures ∙ found) e.found
    e.asked e.law
