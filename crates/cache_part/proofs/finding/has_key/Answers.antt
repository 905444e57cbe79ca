use Rattle.std.proofs.Common.{◌≡◌, suc, ◌+◌, get_or, refl, sym, ap, ◌∙◌, arith, below_more}
use Rattle.bump_steps.specs.Views.{owns, last_word}
use Rattle.cache_part.specs.Keys.{words_from, key_at}
use Rattle.cache_part.proofs.KeyLemmas.{words_read, word_read}
use Rattle.cache_part.proofs.LookLemmas.{looks_then, word_looks, seen_rest, rest_then}
use Rattle.cache_part.proofs.finding.has_key.Goals as goal

pub word-requires-clause-own : goal.word-requires-clause-own
word-requires-clause-own g c = ap (λ b. owns c.args.chunk b.sheet) c.loop-index.invariant.looks ∙ c.requires.own

pub returns-clause-same : goal.returns-clause-same
returns-clause-same g c so =
    let class = c.args.lists.now.book.sheet in let key = c.args.key.now in
    ap (λ n. words_from 0 n class c.args.chunk) (sym c.requires.words)
    ∙ words_read class c.args.chunk 0 key (λ j low.
    let here : 0 + j ≡ j = omega arith in
    ap (λ n. last_word (suc n) class c.args.chunk) here
    ∙ c.loop-index.invariant.same j (omega (arith, low, c.requires.words, c.loop-index-test.false)))

pub loop-index-init : goal.loop-index-init
loop-index-init g c = record { looks = refl; rest = refl; same = λ j low. absurd (omega (arith, low)) }

pub loop-index-preserved : goal.loop-index-preserved
loop-index-preserved g c =
    let so_far = c.loop-index.invariant in
    let now = c.loop-index.lists in let left = c.word.new.self in
    record {
      looks = looks_then c.args.lists.now.book now.book left.book so_far.looks
          (word_looks now left c.args.chunk c.word.result c.word.ensures.seen);
      rest = rest_then c.args.lists.now now left so_far.rest
          (seen_rest now left _ c.word.ensures.seen);
      same = below_more _ _ so_far.same
          (sym (c.word.ensures.stored
          ∙ ap (λ b. last_word (suc c.loop-index.index) b.sheet c.args.chunk) so_far.looks) ∙ c.if-word-key.false);
    }

pub returns-clause-other : goal.returns-clause-other
returns-clause-other g c e = absurd (cc e)

pub returns-then-word-key-clause-same : goal.returns-then-word-key-clause-same
returns-then-word-key-clause-same g c e = absurd (cc e)

pub returns-then-word-key-clause-other : goal.returns-then-word-key-clause-other
returns-then-word-key-clause-other g c e same =
    let class = c.args.lists.now.book.sheet in let index = c.loop-index.index in
    let here : 0 + index ≡ index = omega arith in
    let read : get_or (key_at c.args.key_words class c.args.chunk) index 0 ≡ last_word (suc index) class c.args.chunk =
    word_read class c.args.chunk 0 c.args.key_words index c.loop-index-test.true
    ∙ ap (λ n. last_word (suc n) class c.args.chunk) here in
    c.if-word-key.true (c.word.ensures.stored
    ∙ (ap (λ b. last_word (suc index) b.sheet c.args.chunk) c.loop-index.invariant.looks
    ∙ (sym read ∙ ap (λ xs. get_or xs index 0) same)))

pub returns-clause-rest : goal.returns-clause-rest
returns-clause-rest g c = c.loop-index.invariant.rest

pub returns-then-word-key-clause-looks : goal.returns-then-word-key-clause-looks
returns-then-word-key-clause-looks g c = looks_then c.args.lists.now.book c.loop-index.lists.book c.word.new.self.book
    c.loop-index.invariant.looks (word_looks c.loop-index.lists c.word.new.self c.args.chunk c.word.result c.word.ensures.seen)

pub returns-then-word-key-clause-rest : goal.returns-then-word-key-clause-rest
returns-then-word-key-clause-rest g c = rest_then c.args.lists.now c.loop-index.lists c.word.new.self
    c.loop-index.invariant.rest (seen_rest c.loop-index.lists c.word.new.self _ c.word.ensures.seen)
