use Rattle.std.proofs.Common.{sym, ◌∙◌}
use Rattle.trace_lines.proofs.NameBytes.{names_are_text}
use Rattle.trace_lines.proofs.fields.name_field.Goals as goal

pub from_utf8_unchecked-requires : goal.from_utf8_unchecked-requires
from_utf8_unchecked-requires c = names_are_text c.args.word.now (sym c.has_name_bytes.ensures ∙ c.if-has_name_bytes.true)
