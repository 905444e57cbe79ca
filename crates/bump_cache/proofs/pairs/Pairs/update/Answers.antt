use Rattle.bump_cache.proofs.ChangingLemmas.{puts_anew, refuses_anew}
use Rattle.bump_cache.proofs.pairs.Pairs.update.Goals as goal

pub returns-in-Ok-clause-changes : goal.returns-in-Ok-clause-changes
returns-in-Ok-clause-changes g c =
    let had = c.in-Some.ensures.had in
    let puts = puts_anew g.K.Packed.as_words g.V.Packed.as_words c.args.key.now c.args.now
    c.args.self.now c.look.new.self c.put.new.self
    c.look.ensures.reads (g.V.Packed.as_words c.in-Some.had) c.changed_by-changed.result c.in-Some.expires c.in-Ok.field-0
    (_, had.1, had.2) c.in-Ok.ensures.puts in
    record {
      old = c.in-Some.had;
      in_range = had.0;
      answers = c.changed_by-changed.ensures;
      expires = c.in-Some.expires;
      unexpired = had.1;
      had = had.2;
      kept = puts.kept;
      others = puts.others;
      puts = puts.puts;
    }

pub returns-in-Err-clause-refuses : goal.returns-in-Err-clause-refuses
returns-in-Err-clause-refuses g c =
    let had = c.in-Some.ensures.had in
    refuses_anew g.K.Packed.as_words g.V.Packed.as_words c.args.key.now c.args.now
    c.args.self.now c.look.new.self c.put.new.self
    c.look.ensures.reads c.in-Err.why (_, (_, had.1, had.2)) c.in-Err.ensures.refuses

pub returns-in-Err-clause-called : goal.returns-in-Err-clause-called
returns-in-Err-clause-called g c = let had = c.in-Some.ensures.had in
    (c.in-Some.had, c.changed_by-changed.result, (_, had.1, had.2), c.changed_by-changed.ensures)
