use Rattle.std.proofs.Common.{◌≡◌, ℕ, ◌+◌, ◌-◌, ◌*◌, ◌<◌, cond, eqb, get_or, ap, ◌∙◌, refl, rules, subst}
use Rattle.seen_words.specs.Past.{words_of}
use Rattle.cache_index.specs.Tags.{tag_in}
use Rattle.cache_index.specs.Views.{ReaderSearchView}
use Rattle.cache_index.specs.History.{ComesPast}
use Rattle.cache_index.specs.Places.{home_of, nest_behind}
use Rattle.cache_index.proofs.ReaderLemmas.{walks_past}
use Rattle.cache_index.proofs.WalkLemmas.{walks_behind}
use Rattle.cache_index.proofs.readers.Search.walk.Goals as goal

pub invariant_of-self : goal.invariant_of-self
invariant_of-self c =
    let same : c.behind-self-inside.result ≡ nest_behind c.self.inside.nests.now.nests c.self.inside.nest 1 = search rules in
    let less : c.self.inside.later - 1 + 1 ≡ c.self.inside.later = search rules in (
      search rules,
      search rules,
      search rules,
      search rules,
      search rules,
      search rules,
      search rules,
      same
          ∙ walks_behind c.self.inside.nests.now.nests (home_of c.self.inside.nests.now.nests c.self.inside.hash) c.self.inside.nest
          c.self.inside.later (c.self.inside.later - 1) (search rules) (search rules) less (search rules),
    )

pub returns-clause-past : goal.returns-clause-past
returns-clause-past c =
    let i = c.self.inside in
    let v = c.self.invariant in
    let before = c.args.eye.now in
    let after = c.lanes_now-self-inside.new.eye in
    let nests = i.nests.now.nests in
    let nest = c.behind-self-inside.result in
    let word : ℕ = 8 * nest in
    let lanes = c.lanes_now-self-inside.result in
    let s : ReaderSearchView = record {
      table = i.nests.now.table;
      first = i.reader.now.first;
      hash = i.hash;
      nests = nests;
      tag = i.tag;
      nest = i.nest;
      later = i.later;
      lanes = i.lanes;
    } in
    let to : ReaderSearchView = record {
      table = i.nests.now.table;
      first = i.reader.now.first;
      hash = i.hash;
      nests = nests;
      tag = i.tag;
      nest = nest;
      later = i.later - 1;
      lanes = lanes;
    } in
    let is : s ≡ c.args.self.now = c.self.view_is in
    let same : nest ≡ nest_behind nests i.nest 1 = search rules in
    let less : i.later - 1 + 1 ≡ i.later = search rules in
    let inside : nest < nests = search rules in
    subst (λ (r : ReaderSearchView). ComesPast r.nests r.hash r to before after) is
    (walks_past i.hash word lanes s to before after c.lanes_now-self-inside.ensures.eye v.3
    (ap (λ (r : ReaderSearchView). r.lanes) is ∙ c.requires.lanes) refl
    (λ (lane : ℕ) (few : lane < 6). c.lanes_now-self-inside.ensures.lanes lane few
    ∙ ap (λ (t : ℕ). cond (eqb (tag_in (get_or (words_of after.seen) word 0) lane) t) 1 0) v.0)
    refl same refl less inside)
