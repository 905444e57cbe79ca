use Rattle.std.proofs.Common.{◌≡◌, ℕ, ◌+◌, ◌-◌, ◌*◌, ◌<◌, cond, eqb, get_or, ap, ◌∙◌, refl, rules, subst, arith}
use Rattle.seen_words.specs.Past.{words_of}
use Rattle.cache_index.specs.Tags.{tag_in}
use Rattle.cache_index.specs.Views.{ReaderSearchView}
use Rattle.cache_index.specs.History.{BeginsPast}
use Rattle.cache_index.proofs.ReaderLemmas.{begins_past}
use Rattle.cache_index.proofs.readers.IndexReader.search.Goals as goal

pub returns-clause-begins : goal.returns-clause-begins
returns-clause-begins c =
    let before = c.args.eye.now in
    let after = c.lanes_now-lanes.new.eye in
    let nests = c.deref-nests.result.now.nests in
    let nest = c.home-nest.result in
    let word : ℕ = 8 * nest in
    let lanes = c.lanes_now-lanes.result in
    let to : ReaderSearchView = record {
      table = c.deref-nests.result.now.table;
      first = c.args.self.now.first;
      hash = c.args.hash;
      nests = nests;
      tag = c.tag_of-tag.result;
      nest = nest;
      later = c.count-count.result - 1;
      lanes = lanes;
    } in
    let nests_is : nests ≡ c.args.self.now.nests = search rules in
    let later : c.count-count.result - 1 + 1 ≡ nests = omega (
      arith,
      c.count-count.ensures.count,
      c.count-count.ensures.some,
    ) in
    subst (λ (n : ℕ). BeginsPast n c.args.hash to before after) nests_is
    (begins_past nests c.args.hash word nest lanes to before after c.lanes_now-lanes.ensures.eye c.home-nest.ensures.within
    refl
    (λ (lane : ℕ) (few : lane < 6). c.lanes_now-lanes.ensures.lanes lane few
    ∙ ap (λ (t : ℕ). cond (eqb (tag_in (get_or (words_of after.seen) word 0) lane) t) 1 0) c.tag_of-tag.ensures.tag)
    refl refl refl later)
