use Rattle.std.proofs.Common.{rules, ◌≡◌, ◌+◌, ◌<◌, ◌++◌, [], ◌∷◌, map, length, drop, sym, ap, ◌∙◌, subst, vec_len, arith}
use Rattle.std.proofs.lemmas.List.{drop_more}
use Rattle.std.specs.Prelude.{slice_index_or}
use Rattle.bump_rules.specs.declared.configs.ClassConfig.{ClassConfig}
use Rattle.bump_class.specs.Books.{BookView}
use Rattle.bump_store.specs.Finishing.{sum_of, AreSizesOf, AreOfClasses}
use Rattle.bump_store.proofs.FinishingLemmas.{sum_of_class, one_more}
use Rattle.bump_unlocked.proofs.GrowingLists.{pushed}
use Rattle.bump_store.proofs.stores.Store.finish.Goals as goal

abbrev none : ClassConfig
none = record { chunks = 0; hot = 0; warm = 0 }

pub loop-class-preserved : goal.loop-class-preserved
loop-class-preserved g c =
    let was = c.loop-class.invariant in
    let n = c.loop-class.class in
    let classes = c.args.self.classes in
    let made = c.loop-class.all.items in
    let sizes = c.class_sizes.result in
    let items : c.push.new.self.items ≡ made ++ sizes ∷ [] = search rules in
    let long : vec_len c.loop-class.all ≡ length made = search rules in
    let place : n ≡ length made = omega (arith, was.count, long) in
    let low : n < length classes = omega (arith, c.loop-class-test.true, was.end) in
    let is = c.class_sizes.ensures in record {
      count = search rules;
      end = was.end;
      room = search rules;
      books = subst (AreOfClasses classes) (sym items) (one_more classes made sizes was.books (subst (λ m. (book : BookView) × AreSizesOf m classes sizes book) place is));
      sums = pushed sum_of made c.push.new.self.items sizes (slice_index_or classes n none).chunks (map (λ (k : ClassConfig). k.chunks) (drop (n + 1) classes)) (map (λ (k : ClassConfig). k.chunks) classes) items
          (sum_of_class n classes sizes is.0 none is.1 low)
          (ap (λ ks. map sum_of made ++ map (λ (k : ClassConfig). k.chunks) ks) (sym (drop_more classes n none low)) ∙ was.sums);
    }
