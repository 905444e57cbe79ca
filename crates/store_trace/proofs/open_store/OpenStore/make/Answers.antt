use Rattle.std.proofs.Common.{sym, ap, subst, ◌∙◌}
use Rattle.bump_trace.specs.Meaning.{fault_in}
use Rattle.bump_trace.specs.OpenStore.{line_answered}
use Rattle.trace_lines.specs.Seen.{seen_instruction}
use Rattle.trace_lines.specs.declared.lines.Instruction.{Instruction as TheInstruction}
use Rattle.store_trace.specs.OpenStores.{seen, FailsAs}
use Rattle.store_trace.specs.WholeLines.{IsLines}
use Rattle.store_trace.proofs.EndedLines.{lines_behind, moves_whole}
use Rattle.store_trace.proofs.OpenStores.{drain_found, show_found, moves_found, par_found}
use Rattle.store_trace.proofs.open_store.OpenStore.make.Goals as goal

pub returns-in-Drain-clause-fault : goal.returns-in-Drain-clause-fault
returns-in-Drain-clause-fault g c = subst (FailsAs c.drain.result) (sym (ap (λ (i : TheInstruction). fault_in (line_answered (seen c.args.self.now) c.args.now (seen_instruction i))) c.in-Drain.is ∙ drain_found (seen c.args.self.now) c.args.now)) c.drain.ensures.no_fault

pub returns-in_ok-show-in-Show-clause-fault : goal.returns-in_ok-show-in-Show-clause-fault
returns-in_ok-show-in-Show-clause-fault g c = ap (λ (i : TheInstruction). fault_in (line_answered (seen c.args.self.now) c.args.now (seen_instruction i))) c.in-Show.is ∙ show_found (seen c.args.self.now)

pub returns-in_ok-put_all_moves-in-Moves-clause-fault : goal.returns-in_ok-put_all_moves-in-Moves-clause-fault
returns-in_ok-put_all_moves-in-Moves-clause-fault g c = ap (λ (i : TheInstruction). fault_in (line_answered (seen c.args.self.now) c.args.now (seen_instruction i))) c.in-Moves.is ∙ moves_found (seen c.args.self.now)

pub returns-in_ok-put_all_moves-in-Moves-clause-lines : goal.returns-in_ok-put_all_moves-in-Moves-clause-lines
returns-in_ok-put_all_moves-in-Moves-clause-lines g c =
    λ before.
    let (moves, are_moves, is) = c.in_ok-put_all_moves-in-Moves.ensures.moves in
    subst IsLines (sym is) (lines_behind c.args.out.now.items _ before (moves_whole moves))

pub returns-in-Par-clause-fault : goal.returns-in-Par-clause-fault
returns-in-Par-clause-fault g c = ap (λ (i : TheInstruction). fault_in (line_answered (seen c.args.self.now) c.args.now (seen_instruction i))) c.in-Par.is ∙ par_found (seen c.args.self.now)
