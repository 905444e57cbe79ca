use Rattle.std.proofs.Common.{suc, ◌+◌, refl, sym, ap, ◌∙◌, arith, below_more}
use Rattle.std.proofs.lemmas.List.{get_or-set_same, get_or-set_other, length-set}
use Rattle.bump_steps.specs.Views.{owns, last_word}
use Rattle.cache_part.specs.Keys.{words_from}
use Rattle.cache_part.proofs.KeyLemmas.{words_read}
use Rattle.cache_part.proofs.LookLemmas.{looks_then, word_looks, seen_rest, rest_then}
use Rattle.cache_part.proofs.reading.read.Goals as goal

pub word-requires-clause-own : goal.word-requires-clause-own
word-requires-clause-own g c = ap (λ b. owns c.args.chunk b.sheet) c.loop-index.invariant.looks ∙ c.requires.own

pub returns-clause-read : goal.returns-clause-read
returns-clause-read g c =
    let loop = c.loop-index in let class = c.args.lists.now.book.sheet in
    sym (ap (λ n. words_from c.args.from n class c.args.chunk) (sym loop.invariant.size)
    ∙ words_read class c.args.chunk c.args.from loop.words (λ j low.
    loop.invariant.same j (omega (arith, low, loop.invariant.size, c.loop-index-test.false))))

pub loop-index-init : goal.loop-index-init
loop-index-init g c = record {
  looks = refl;
  rest = refl;
  size = refl;
  same = λ j low. absurd (omega (arith, low));
}

pub loop-index-preserved : goal.loop-index-preserved
loop-index-preserved g c =
    let so_far = c.loop-index.invariant in let class = c.args.lists.now.book.sheet in
    let now = c.loop-index.lists in let left = c.word.new.self in
    let words = c.loop-index.words in let index = c.loop-index.index in let read = c.word.result in
    record {
      looks = looks_then c.args.lists.now.book now.book left.book so_far.looks
          (word_looks now left c.args.chunk read c.word.ensures.seen);
      rest = rest_then c.args.lists.now now left so_far.rest (seen_rest now left _ c.word.ensures.seen);
      size = length-set words index read ∙ so_far.size;
      same = below_more _ _
          (λ j low. so_far.same j low ∙ sym (get_or-set_other words index j read 0 (λ same. omega (arith, low, same))))
          (sym (c.word.ensures.stored
          ∙ ap (λ b. last_word (suc (c.args.from + index)) b.sheet c.args.chunk) so_far.looks)
          ∙ sym (get_or-set_same words index read 0 (omega (arith, so_far.size, c.loop-index-test.true))));
    }

pub returns-clause-rest : goal.returns-clause-rest
returns-clause-rest g c = c.loop-index.invariant.rest
