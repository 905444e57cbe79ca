use Rattle.std.proofs.Common.{◌≡◌, ◌+◌, ◌*◌, ◌^◌, ◌-◌}
use Rattle.bump_word.specs.Layout.{generation_first}
use Rattle.bump_steps.specs.Places.{head_place}
use Rattle.bump_steps.proofs.Starts.{Heads}
use Rattle.bump_steps.proofs.fresh.fresh_words.Given as goal

abbrev pub invariant-loop-chunk : goal.invariant-loop-chunk
invariant-loop-chunk l = record {
  heads : Heads l.fn.further l.fn.chunks l.chunk l.word l.words.items;
  head : l.head ≡ head_place l.fn.further l.chunk;
  row : l.row ≡ l.fn.further + 3;
  word : l.word ≡ (l.fn.first - 1) * 2 ^ generation_first;
}
