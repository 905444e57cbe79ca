use Rattle.std.proofs.Common.{◌≡◌, ℕ, ◌+◌, ◌-◌, ◌*◌, arith, ap, ◌∙◌, get_or}
use Rattle.packed_words.specs.Strings.{counted}
use Rattle.packed_words.proofs.StringReads.{own_byte}
use Rattle.packed_words.proofs.bytes.full_word.Goals as goal

pub returns : goal.returns
returns c =
    let own : (i : ℕ) → get_or c.args.bytes.now (8 * c.args.at - 2 + i) 0 ≡ get_or (counted c.args.bytes.now) (8 * c.args.at + i) 0 =
    λ i. own_byte c.args.bytes.now c.args.at i c.requires.behind in
    let first : get_or c.args.bytes.now (8 * c.args.at - 2) 0 ≡ get_or (counted c.args.bytes.now) (8 * c.args.at + 0) 0 =
    ap (λ (m : ℕ). get_or c.args.bytes.now m 0) (omega arith) ∙ own 0 in
    omega (arith, c.from_le_bytes.ensures, first, own 1, own 2, own 3, own 4, own 5, own 6, own 7)
