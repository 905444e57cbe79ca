use Rattle.std.proofs.Common.{◌≡◌, ◌*◌, ap, ◌∙◌, refl, subst}
use Rattle.cache_index.specs.Views.{ReaderSearchView}
use Rattle.cache_index.specs.History.{EndsPast}
use Rattle.cache_index.proofs.ReaderLemmas.{ends_past, not_true}
use Rattle.cache_index.proofs.readers.Search.is_end.Goals as goal

pub returns-clause-ends : goal.returns-clause-ends
returns-clause-ends c = λ yes.
    let i = c.self.inside in
    let v = c.self.invariant in
    let before = c.args.eye.now in
    let after = c.is_passed_now.new.eye in
    let s : ReaderSearchView = record {
      table = i.nests.now.table;
      first = i.reader.now.first;
      hash = i.hash;
      nests = i.nests.now.nests;
      tag = i.tag;
      nest = i.nest;
      later = i.later;
      lanes = i.lanes;
    } in
    let is : s ≡ c.args.self.now = c.self.view_is in
    subst (λ (r : ReaderSearchView). EndsPast r.nests r.hash r before after) is
    (ends_past i.hash (8 * i.nest) s before after c.is_passed_now.ensures.eye v.3 v.4 v.6 v.7
    (ap (λ (r : ReaderSearchView). r.lanes) is ∙ c.requires.lanes) refl
    (c.is_passed_now.ensures.none (not_true c.is_passed_now.result yes)))
