use Rattle.std.proofs.Common.{◌≡◌, ◌≢◌, ℕ, ◌<◌, length, arith, ap, ◌∙◌, below_more, get_or-set_other, get_or-set_same}
use Rattle.std.proofs.lemmas.List.{length-set, length-replicate}
use Rattle.packed_words.specs.Strings.{MayHold, string_words, string_in}
use Rattle.packed_words.specs.StringLaws.{string_back}
use Rattle.packed_words.proofs.StringReads.{held_by, spelled_by, all_bytes}
use Rattle.packed_words.proofs.bytes.spell.Goals as goal

pub loop-at-init : goal.loop-at-init
loop-at-init g c = (length-replicate {A = ℕ} g.row.W 0, (λ k p. absurd (omega arith)))

pub loop-at-preserved : goal.loop-at-preserved
loop-at-preserved g c = (
  rw length-set c.loop-at.invariant.0,
  below_more
      _
      _
      (λ k h. let ne : k ≢ c.loop-at.at = omega arith in rw get_or-set_other (c.loop-at.invariant.1 k h))
      (let lt : c.loop-at.at < length c.loop-at.word-items = omega arith in rw get_or-set_same c.counted_word.ensures),
)

-- the bytes may be held
may_hold : (g : _) (c : goal.After-loop-at g) → MayHold g.row.W c.args.bytes.now
may_hold g c = (c.requires, all_bytes c.args.bytes.now (λ k. omega (arith, c.type_inv.bytes k)))

-- the words are the string's
words_are : (g : _) (c : goal.After-loop-at g) → c.loop-at.word-items ≡ string_words g.row.W c.args.bytes.now
words_are g c =
    spelled_by g.row.W c.args.bytes.now c.loop-at.word-items c.loop-at.invariant.0
    (λ k p. c.loop-at.invariant.1 k (omega arith))

pub returns-clause-string : goal.returns-clause-string
returns-clause-string g c = held_by g.row.W c.args.bytes.now c.loop-at.word-items (may_hold g c) (words_are g c)

pub returns-clause-same : goal.returns-clause-same
returns-clause-same g c = ap string_in (words_are g c) ∙ string_back g.row.W c.args.bytes.now (may_hold g c)
