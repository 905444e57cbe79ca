use Rattle.bump_cache.proofs.ChangingLemmas.{refuses_anew, replaces}
use Rattle.bump_cache.proofs.pairs.Pairs.replace.Goals as goal

pub returns-in-Ok-clause-replaces : goal.returns-in-Ok-clause-replaces
returns-in-Ok-clause-replaces g c =
    let had = c.in-Some.ensures.had in
    replaces g.K.Packed.as_words g.V.Packed.as_words c.args.key.now c.args.now
    c.args.self.now c.look.new.self c.put.new.self
    c.look.ensures.reads _ c.args.value.now c.args.expires c.in-Ok.did (_, had.1, had.2) c.in-Ok.ensures.puts

pub returns-in-Err-clause-refuses : goal.returns-in-Err-clause-refuses
returns-in-Err-clause-refuses g c =
    let had = c.in-Some.ensures.had in
    refuses_anew g.K.Packed.as_words g.V.Packed.as_words c.args.key.now c.args.now
    c.args.self.now c.look.new.self c.put.new.self
    c.look.ensures.reads c.in-Err.why (_, (_, had.1, had.2)) c.in-Err.ensures.refuses
