use Rattle.std.proofs.Common.{◌≤◌, List, subst, sym}
use Rattle.bump_rules.specs.Configs.{HaveChunks, chunks_of, most_chunks}
use Rattle.bump_rules.specs.declared.configs.ClassConfig.{ClassConfig}
use Rattle.bump_rules.proofs.Bounds.{bounds}
use Rattle.bump_unlocked.proofs.NewSheets.{count_of_workers, count_of_lanes}
use Rattle.bump_unlocked.proofs.unlocked_store.UnlockedStore.open.Goals as goal

pub make_books-requires-clause-chunks : goal.make_books-requires-clause-chunks
make_books-requires-clause-chunks g c = let key = c.args.config.now in subst HaveChunks (sym c.as_slice.ensures) (bounds key.workers key.capacity key.refs_limit key.first_generation key.classes key.valid).chunks_each

pub make_books-requires-clause-workers : goal.make_books-requires-clause-workers
make_books-requires-clause-workers g c = let key = c.args.config.now in
    (bounds key.workers key.capacity key.refs_limit key.first_generation key.classes key.valid).workers_most

pub returns-clause-count : goal.returns-clause-count
returns-clause-count g c =
    (count_of_workers _ _ c.in_ok-workers.ensures.workers, count_of_lanes _ _ c.in_ok-workers.ensures.lanes)

pub make_books-requires-clause-few : goal.make_books-requires-clause-few
make_books-requires-clause-few g c = let key = c.args.config.now in
    subst (λ (ks : List ClassConfig). chunks_of ks ≤ most_chunks) (sym c.as_slice.ensures)
    (bounds key.workers key.capacity key.refs_limit key.first_generation key.classes key.valid).chunks_most
