use Rattle.std.proofs.Common.{◌≡◌, ◌-◌, ◌∙◌, subst, arith}
use Rattle.std.specs.List.{FoldsTo}
use Rattle.cache_shelf.specs.Visiting.{first_unexpired, unexpired_entries}
use Rattle.cache_shelf.proofs.Visiting.{unexpired_are}
use Rattle.bump_cache.specs.Visiting.{CallsWith}
use Rattle.bump_cache.proofs.VisitLemmas.{calls_more, calls_none, entry_read, owned_by, owned_read, reads_more, reads_none, unexpired_read}
use Rattle.bump_cache.proofs.pairs.Pairs.for_each.Goals as goal

pub loop-chunk-init : goal.loop-chunk-init
loop-chunk-init g c = record {
  callable = c.requires;
  from = omega (arith, c.chunks-chunks.ensures.start);
  within = omega (arith, c.chunks-chunks.ensures.start);
  reads = reads_none c.args.self.now;
  calls = calls_none (CallsWith g.K.Packed.fits g.K.Packed.as_words g.V.Packed.fits g.V.Packed.as_words
      (λ from key value expires to. goal.F-step g from key value expires tt to)) c.args.now c.args.self.now.part
      c.chunks-chunks.result.start c.args.visit c.chunks-chunks.ensures.start;
}

pub visit_chunk-visit-requires-clause-own : goal.visit_chunk-visit-requires-clause-own
visit_chunk-visit-requires-clause-own g c =
    let so_far = c.loop-chunk.invariant in
    owned_read c.args.self.now c.loop-chunk.self so_far.reads c.loop-chunk.chunk
    ∙ owned_by c.args.self.now.part.book.sheet c.loop-chunk.chunk so_far.from
    (omega (arith, c.loop-chunk-test.true, c.chunks-chunks.ensures.end))

pub loop-chunk-preserved : goal.loop-chunk-preserved
loop-chunk-preserved g c =
    let so_far = c.loop-chunk.invariant in let did = c.visit_chunk-visit.ensures in
    let first = c.args.self.now in let now = c.loop-chunk.self in let chunk = c.loop-chunk.chunk in
    let Calls = CallsWith g.K.Packed.fits g.K.Packed.as_words g.V.Packed.fits g.V.Packed.as_words
    (λ from key value expires to. goal.F-step g from key value expires tt to) in
    let same = unexpired_read first now so_far.reads chunk c.args.now in
    record {
      callable = did.callable;
      from = omega (arith, so_far.from);
      within = omega (arith, c.loop-chunk-test.true, c.chunks-chunks.ensures.end);
      reads = reads_more first now c.visit_chunk-visit.new.self so_far.reads did.reads;
      calls = calls_more Calls c.args.now first.part chunk c.args.visit so_far.from c.loop-chunk.visit
          c.visit_chunk-visit.result so_far.calls
          (λ some. subst (λ entry. Calls c.loop-chunk.visit entry c.visit_chunk-visit.result)
          (entry_read first now so_far.reads chunk) (did.some (same ∙ some)))
          (λ none. did.none (same ∙ none));
    }

pub returns-clause-visits : goal.returns-clause-visits
returns-clause-visits g c =
    let so_far = c.loop-chunk.invariant in let part = c.args.self.now.part in
    let all : c.loop-chunk.chunk - part.book.sheet.first ≡ part.book.sheet.count =
    omega (arith, so_far.from, so_far.within, c.loop-chunk-test.false, c.chunks-chunks.ensures.end) in
    record {
      entries = unexpired_entries c.args.now part;
      unexpired = unexpired_are c.args.now part c.chunks-chunks.ensures.part;
      calls = subst (λ n. FoldsTo (CallsWith g.K.Packed.fits g.K.Packed.as_words g.V.Packed.fits g.V.Packed.as_words
          (λ from key value expires to. goal.F-step g from key value expires tt to)) c.args.visit
          (first_unexpired c.args.now part n) c.loop-chunk.visit) all so_far.calls;
    }
