use Rattle.bump_steps.proofs.Decoded.{read_spells}
use Rattle.bump_steps.proofs.decoding.head_of.Goals as goal

pub returns : goal.returns
returns c = read_spells c.args.word c.requires.0 c.segment_in.result c.requires.1
    (c.segment_in.ensures c.requires.0 c.requires.1)
