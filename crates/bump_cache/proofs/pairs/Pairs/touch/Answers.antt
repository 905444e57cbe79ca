use Rattle.bump_cache.proofs.ChangingLemmas.{puts_anew, refuses_anew}
use Rattle.bump_cache.proofs.pairs.Pairs.touch.Goals as goal

pub returns-in-Ok-clause-touches : goal.returns-in-Ok-clause-touches
returns-in-Ok-clause-touches g c =
    let had = c.in-Some.ensures.had in
    puts_anew g.K.Packed.as_words g.V.Packed.as_words c.args.key.now c.args.now
    c.args.self.now c.look.new.self c.put.new.self
    c.look.ensures.reads (g.V.Packed.as_words c.in-Some.value) c.in-Some.value c.args.expires c.in-Ok.field-0 (_, had.1, had.2)
    c.in-Ok.ensures.puts

pub returns-in-Err-clause-refuses : goal.returns-in-Err-clause-refuses
returns-in-Err-clause-refuses g c =
    let had = c.in-Some.ensures.had in
    refuses_anew g.K.Packed.as_words g.V.Packed.as_words c.args.key.now c.args.now
    c.args.self.now c.look.new.self c.put.new.self
    c.look.ensures.reads c.in-Err.why (_, (_, had.1, had.2)) c.in-Err.ensures.refuses
