-- A field's mask has ones at the lowest bits alone, so it takes the rest of a division.
use Rattle.std.proofs.Common.{◌/◌, ◌^◌}
use Rattle.std.proofs.lemmas.Nat.{and_mask, one_shl}
use Rattle.bump_word.proofs.layout.Field.read.Goals as goal

pub returns : goal.returns
returns c = rw (one_shl c.args.self.width 64 c.requires.width)
    (and_mask (c.args.word / 2 ^ c.args.self.first) c.args.self.width)
