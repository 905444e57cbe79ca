-- Answers of calls that are refused where there is no such class.
use Rattle.std.proofs.Common.{◌≡◌, ℕ, ◌<◌, ◌≤◌, Result, Ok, Err, IfOk, IfErr, arith}
use Rattle.bump_rules.specs.declared.commands.Answer.{Answer}
use Rattle.trace_lines.specs.declared.faults.Fault.{Fault}
use Rattle.trace_lines.specs.declared.faults.Fault.TheVariants.{Class}

-- where there is the class there is an answer
pub answer_inside : (P : Answer → Type 0) (answered : Result Answer Fault) (class count : ℕ) → class < count
    → IfErr answered (λ e. (e ≡ Class) × (count ≤ class)) → IfOk answered P → (answer : Answer) × P answer
answer_inside P (Ok answer) class count inside none is = (answer, is)
answer_inside P (Err fault) class count inside none is = absurd (omega (arith, inside, none.1))
