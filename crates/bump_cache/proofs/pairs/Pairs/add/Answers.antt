use Rattle.bump_cache.proofs.ChangingLemmas.{puts_new, refuses_new}
use Rattle.bump_cache.proofs.pairs.Pairs.add.Goals as goal

pub returns-in-Ok-clause-adds : goal.returns-in-Ok-clause-adds
returns-in-Ok-clause-adds g c = puts_new g.K.Packed.as_words g.V.Packed.as_words c.args.key.now c.args.now
    c.args.self.now c.look.new.self c.put.new.self
    c.look.ensures.reads c.args.value.now c.args.expires c.in-Ok.did c.in_default.ensures.had c.in-Ok.ensures.puts

pub returns-in-Err-clause-refuses : goal.returns-in-Err-clause-refuses
returns-in-Err-clause-refuses g c = refuses_new g.K.Packed.as_words g.V.Packed.as_words c.args.key.now c.args.now
    c.args.self.now c.look.new.self c.put.new.self
    c.look.ensures.reads c.in-Err.why c.in_default.ensures.had c.in-Err.ensures.refuses
