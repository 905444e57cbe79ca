use Rattle.std.proofs.Common.{List, Option, None, ◌++◌, replicate, ap, ◌∙◌}
use Rattle.std.proofs.lemmas.List.{replicate-append-replicate}
use Rattle.cache_index.specs.Views.{Led}
use Rattle.cache_index.proofs.index.Index.new.Goals as goal

pub returns-clause-table : goal.returns-clause-table
returns-clause-table c =
    ap (λ (t : List (Option Led)). replicate c.args.first None ++ t) c.in_ok-from_zero.ensures.table
    ∙ replicate-append-replicate c.args.first c.args.chunks None
