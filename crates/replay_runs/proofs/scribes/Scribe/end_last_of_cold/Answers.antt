use Rattle.std.proofs.Common.{◌∙◌, ap, vec_items}
use Rattle.replay_runs.proofs.scribes.Scribe.end_last_of_cold.Goals as goal

pub returns-in-Some-clause-text : goal.returns-in-Some-clause-text
returns-in-Some-clause-text c = ap vec_items c.forget.ensures ∙ c.in_ok-pulled.ensures.text
