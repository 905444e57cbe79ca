use Rattle.std.proofs.Common.{false}
use Rattle.bump_cache.proofs.SettingLemmas.{puts_words, refuses_words}
use Rattle.cache_handles.proofs.desks.put_row.Goals as goal

pub returns-in-Ok-clause-puts : goal.returns-in-Ok-clause-puts
returns-in-Ok-clause-puts g c =
    puts_words false _ c.in-Ok.did c.args.row.now _ _ _ _ _ _ _ c.in-Ok.ensures.puts c.is_some.ensures

pub returns-in-Err-clause-puts : goal.returns-in-Err-clause-puts
returns-in-Err-clause-puts g c =
    refuses_words false _ c.in-Err.why c.args.row.now _ _ _ _ _ _ c.in-Err.ensures.refuses c.is_some-in-Err.ensures
