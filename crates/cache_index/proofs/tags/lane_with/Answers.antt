use Rattle.std.proofs.Common.{◌<◌, ◌∙◌, sym, ap, subst, arith}
use Rattle.cache_index.specs.Tags.{tag_in}
use Rattle.cache_index.proofs.FoundLemmas.{not_wrapped, none_found, first_behind, first_has_tag, others_between}
use Rattle.cache_index.proofs.tags.lane_with.Goals as goal

pub returns-then-found-eq0-clause-others : goal.returns-then-found-eq0-clause-others
returns-then-found-eq0-clause-others c lane behind below =
    let found = c.lanes_with.result in
    let kept = not_wrapped found c.args.from (omega (arith, c.lanes_with.ensures.narrow)) in
    none_found found c.args.tags c.args.tag c.args.from lane c.lanes_with.ensures.lanes
    (sym kept ∙ c.if-found-eq0.true) behind below

pub returns-else-found-eq0-clause-behind : goal.returns-else-found-eq0-clause-behind
returns-else-found-eq0-clause-behind c =
    let found = c.lanes_with.result in
    let kept = not_wrapped found c.args.from (omega (arith, c.lanes_with.ensures.narrow)) in
    first_behind found c.args.from c.lowest.result
    (subst (λ n. 0 < tag_in n c.lowest.result) kept c.lowest.ensures.here)

pub returns-else-found-eq0-clause-found : goal.returns-else-found-eq0-clause-found
returns-else-found-eq0-clause-found c below =
    let found = c.lanes_with.result in
    let kept = not_wrapped found c.args.from (omega (arith, c.lanes_with.ensures.narrow)) in
    first_has_tag found c.args.tags c.args.tag c.args.from c.lowest.result
    (c.lanes_with.ensures.lanes c.lowest.result below) (c.lanes_with.ensures.others c.lowest.result below)
    (subst (λ n. 0 < tag_in n c.lowest.result) kept c.lowest.ensures.here)

pub returns-else-found-eq0-clause-others : goal.returns-else-found-eq0-clause-others
returns-else-found-eq0-clause-others c lane behind below =
    let found = c.lanes_with.result in
    let kept = not_wrapped found c.args.from (omega (arith, c.lanes_with.ensures.narrow)) in
    others_between found c.args.tags c.args.tag c.args.from lane
    (c.lanes_with.ensures.lanes lane (omega (arith, below, c.lowest.ensures.within))) behind
    (ap (λ n. tag_in n lane) (sym kept) ∙ c.lowest.ensures.lowest lane below)
