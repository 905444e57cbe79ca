use Rattle.std.proofs.Common.{arith, ℕ, ◌+◌, ◌*◌, set, refl, sym, subst}
use Rattle.bump_steps.proofs.Places.{place_is, place_next, place_near}
use Rattle.bump_steps.proofs.Starts.{Heads, heads_start, heads_go_on, place_small}
use Rattle.bump_steps.proofs.fresh.fresh_words.Goals as goal

pub loop-chunk-init : goal.loop-chunk-init
loop-chunk-init c = let all = c.resize.new.self in record {
  heads = heads_start c.args.further c.args.chunks (c.from-word.result * 4294967296) all.items
      (omega (arith, c.in_ok-resize.ensures.len, all.ok.0, place_is c.args.further c.args.chunks))
      (λ k h. c.in_ok-resize.ensures.by_index.1 k 0 refl (omega (arith, c.new-words.ensures.len))
      (omega (arith, h, c.in_ok-resize.ensures.len, all.ok.0)));
  head = omega (arith, place_is c.args.further 0);
  row = refl;
  word = omega (arith, c.from-word.ensures);
}

pub index_mut-requires : goal.index_mut-requires
index_mut-requires c = let o = c.loop-chunk.invariant in omega (
  arith,
  o.head,
  o.heads.wide,
  c.loop-chunk.words.ok.0,
  place_near c.args.further c.loop-chunk.chunk c.args.chunks 0 c.loop-chunk-test.true (omega arith),
)

pub overflow_add-head : goal.overflow_add-head
overflow_add-head c = omega (
  arith,
  c.loop-chunk.invariant.head,
  place_next c.args.further c.loop-chunk.chunk,
  place_small c.args.further (c.loop-chunk.chunk + 1) (omega (arith, c.requires.0, c.loop-chunk-test.true))
      c.ranges.further.fits,
)

pub loop-chunk-preserved : goal.loop-chunk-preserved
loop-chunk-preserved c = let o = c.loop-chunk.invariant in let word : ℕ = c.from-word.result * 4294967296 in record {
  heads = subst (λ (p : ℕ). Heads c.args.further c.args.chunks (c.loop-chunk.chunk + 1) word
      (set c.loop-chunk.words.items p word)) (sym o.head)
      (heads_go_on c.args.further c.args.chunks c.loop-chunk.chunk word c.loop-chunk.words.items
      c.loop-chunk-test.true o.heads);
  head = omega (arith, o.head, place_next c.args.further c.loop-chunk.chunk);
  row = refl;
  word = o.word;
}
