use Rattle.std.proofs.Common.{sym, ap, ◌∙◌}
use Rattle.std.specs.Prelude.{is_some}
use Rattle.store_trace.specs.OpenStores.{seen}
use Rattle.store_trace.proofs.EndedLines.{line_behind, drop_ends}
use Rattle.store_trace.proofs.OpenStores.{drop_found, drop_unbound}
use Rattle.store_trace.proofs.open_store.OpenStore.drop_hold.Goals as goal

pub returns-in_default-clause-fault : goal.returns-in_default-clause-fault
returns-in_default-clause-fault g c = drop_unbound (seen c.args.self.now) c.args.hold_name.now (sym c.take.ensures.found ∙ ap is_some c.in_default.is)

pub returns-clause-fault : goal.returns-clause-fault
returns-clause-fault g c = drop_found (seen c.args.self.now) c.args.hold_name.now (sym c.take.ensures.found ∙ ap is_some c.in-Some.is)

pub returns-clause-lines : goal.returns-clause-lines
returns-clause-lines g c = λ before. line_behind c.args.out.now.items _ c.put_drop.new.out.items (drop_ends c.args.hold_name.now) c.in_ok-put_drop.ensures
