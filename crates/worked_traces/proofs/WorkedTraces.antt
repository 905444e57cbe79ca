-- What a proof unfolds to compute `verdict_of` at a trace that is written out.
use Rattle.std.specs.Prelude.{⊤}
use Rattle.std.specs.Fmt.{digits}
use Rattle.trace_lines.specs.Fields.{field}
use Rattle.trace_lines.specs.Lines.{line_of, line_of_words, line_said}
use Rattle.bump_trace.specs.Shows.{list_line, worker_line, close_line}
use Rattle.bump_trace.specs.Stages.{opened, declared}
use Rattle.bump_trace.specs.OpenStore.{set_said, get_said, hold_said, hit_said, read_said, drop_said, del_said, pull_said, sweep_said, drain_said, close_said, show_said, moves_said, par_said, instruction_said}
use Rattle.bump_trace.specs.Meaning.{verdict_of, step, effect, fault_at_end}

-- the definitions from a trace's bytes to its text
unfoldable pub on_traces : ⊤
unfolding verdict_of step effect fault_at_end opened declared instruction_said set_said get_said hold_said hit_said read_said drop_said del_said pull_said sweep_said drain_said close_said show_said moves_said par_said list_line worker_line close_line field line_of line_of_words line_said digits
on_traces = tt
