use Rattle.std.proofs.Common.{◌≡◌, ◌==◌, ◌||◌, ℕ, ap, subst}
use Rattle.bump_rules.specs.declared.items.ItemId.{ItemId}
use Rattle.cache_index.specs.Views.{IndexView, has_answered, numbered_from}
use Rattle.cache_index.proofs.NumberLemmas.{answered_more}
use Rattle.cache_index.proofs.index.Index.next_of.Goals as goal

pub returns-clause-answered : goal.returns-clause-answered
returns-clause-answered c =
    let first = c.self.inside.first in
    let u = c.next_of.new.self in
    let next = c.next_of.new.search in
    subst (λ (w : IndexView). (chunk : ℕ) → has_answered (numbered_from first u) next chunk
    ≡ (has_answered w c.args.search.now chunk || (chunk == c.numbered.result.chunk))) c.self.view_is
    (answered_more first c.self.inside.from_zero u c.args.search.now next c.in-Some.life.chunk
    c.numbered.result.chunk (ap (λ (i : ItemId). i.chunk) c.numbered.ensures) c.in-Some.ensures.answered)
