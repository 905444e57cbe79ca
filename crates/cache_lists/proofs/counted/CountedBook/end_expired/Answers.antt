use Rattle.std.proofs.Common.{refl, sym, ap, ◌∙◌, arith}
use Rattle.bump_class.specs.Changes.{book_after_load}
use Rattle.cache_lists.specs.Counts.{with_crawled}
use Rattle.cache_lists.specs.Linked.{linked_at}
use Rattle.cache_lists.proofs.Counting.{counts}
use Rattle.cache_lists.proofs.ExpiringLemmas.{ends_found, finds_unexpired, finds_unlinked}
use Rattle.cache_lists.proofs.LookLemmas.{head_looks}
use Rattle.cache_lists.proofs.Standings.{ended_none, unlinked_shown}
use Rattle.cache_lists.proofs.counted.CountedBook.end_expired.Goals as goal

pub returns-then-not-has_expired : goal.returns-then-not-has_expired
returns-then-not-has_expired g c = record {
  ends = finds_unexpired c.args.chunk c.args.now c.label-expires.result c.args.self.now c.label-expires.new.self
      c.label-expires.ensures.seen c.label-expires.ensures.stored
      (sym c.has_expired.ensures ∙ grind (arith, c.if-not-has_expired.true));
}

pub returns-in_default : goal.returns-in_default
returns-in_default g c = let none = c.in_default.ensures in record {
  ends = finds_unlinked c.args.chunk c.args.now c.label-expires.result c.args.self.now c.label-expires.new.self
      c.end.new.self c.label-expires.ensures.seen none.ends none.stays none.evictions;
}

pub returns : goal.returns
returns g c =
    let chunk = c.args.chunk in let seen = c.label-expires.new.self in let ended = c.end.new.self in
    let inside = c.self.inside.book in let head = c.load_head-head.result in let load = c.load_head-head.ensures in
    let left = c.load_head-head.new.self in let did = c.in-Some.ensures in
    record {
      ends = ends_found chunk c.args.now c.label-expires.result c.in-Some.field-0 head.fetched head.active
          c.args.self.now seen ended (counts left c.self.inside.flow c.note_crawled.new.self)
          c.label-expires.ensures.seen c.label-expires.ensures.stored
          (sym c.has_expired.ensures ∙ grind (arith, c.if-not-has_expired.false)) did.ends did.flow did.evictions
          (head_looks ended.book left chunk head
          (load.looked ∙ ap (λ v. book_after_load chunk head v.book) c.self.view_is))
          (ap (λ v. v.flow) c.self.view_is) (record {
            head = head;
            between = inside;
            look = load.looked;
            fits = load.fits;
            unlinked = unlinked_shown inside.sheet chunk head
                (ap (λ v. linked_at v.book.sheet chunk) c.self.view_is ∙ ended_none seen.book ended.book chunk did.ends.ends)
                load.agrees;
            is_fetched = refl;
            is_active = refl;
          }) (c.note_crawled.ensures ∙ ap (λ v. with_crawled head.fetched v.evictions) c.self.view_is);
    }
