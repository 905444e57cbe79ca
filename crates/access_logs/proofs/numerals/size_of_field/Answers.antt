use Rattle.std.proofs.Common.{sym, ap, ◌∙◌}
use Rattle.access_logs.specs.Numerals.{size_of_field}
use Rattle.access_logs.proofs.NumeralLemmas.{number-parsed, number-not_text}
use Rattle.access_logs.proofs.numerals.size_of_field.Goals as goal

pub returns-in-Ok : goal.returns-in-Ok
returns-in-Ok c = c.ok.ensures.value ∙ number-parsed 32 c.in-Ok.text.now c.parse.result c.parse.ensures.value.0 ∙ ap size_of_field c.in-Ok.ensures.cases.0

pub returns-in-Err : goal.returns-in-Err
returns-in-Err c = sym (number-not_text 32 c.args.field.now c.in-Err.ensures.cases.0)
