-- The text of a run, as it is gathered and written.
use Rattle.std.proofs.Common.{◌≡◌, ℕ, ◌+◌, true, List, [], ◌∷◌, ◌++◌, Option, Ok, Err, sym, ap, ◌∙◌, append_assoc}
use Rattle.std.specs.Io.KnownBytes.{Appends}
use Rattle.trace_lines.specs.declared.faults.Fault.{Fault}
use Rattle.bump_trace.specs.Stages.{Stage, say}
use Rattle.trace_lines.specs.Text.{fault_line}
use Rattle.bump_trace.specs.Meaning.{Verdict, prepend, failed, ended, go_on, run, step, fault_at_end, parts_of, verdict_of}
use Rattle.bump_trace.specs.Gathering.{Gathers, GathersFault, RunsInto}
use Rattle.bump_trace.specs.Views.{FailsBy}
use Rattle.trace_lines.specs.declared.faults.LineError.{LineError}
use Rattle.trace_lines.specs.declared.faults.LineError.TheVariants as errors
use Rattle.bump_trace.proofs.KnownBytes.{appends_more}
use Rattle.bump_trace.proofs.CutLines.{run_more}

-- Text was gathered after what was written and gathered before.
pub gathered_more : (held mid holds : Option (List ℕ)) (sent old new text : List ℕ) → Appends held mid sent → Gathers mid holds old new text
    → (all : List ℕ) × Appends held holds all × (all ++ new ≡ (sent ++ old) ++ text)
gathered_more held mid holds sent old new text p q =
    let (more, wrote, same) = q in
    (sent ++ more, appends_more held mid holds sent more p wrote, append_assoc sent more new ∙ ap (λ l. sent ++ l) same ∙ sym (append_assoc sent old text))

-- two texts before a verdict are one
prepend_both : (a b : List ℕ) (v : Verdict) → prepend a (prepend b v) ≡ prepend (a ++ b) v
prepend_both a b v = ap (λ t. let w : Verdict = record { text = t; is_fault = v.is_fault } in w) (sym (append_assoc a b v.text))

-- a line was run
pub line_run : (n : ℕ) (line after done all : List ℕ) (s t : Stage) (parts : List (List ℕ)) (text : List ℕ) (v : Verdict)
    → parts ≡ line ∷ parts_of after → step s n line ≡ Ok (say t text) → all ≡ done ++ text
    → prepend done (run n parts s) ≡ v → prepend all (run (n + 1) (parts_of after) t) ≡ v
line_run n line after done all s t parts text v p q e h =
    ap (λ l. prepend l (run (n + 1) (parts_of after) t)) e ∙ sym (prepend_both done text (run (n + 1) (parts_of after) t))
    ∙ ap (λ r. prepend done (go_on n (run (n + 1) (parts_of after)) r)) (sym q) ∙ ap (prepend done) (sym (run_more n line after s))
    ∙ ap (λ ps. prepend done (run n ps s)) (sym p) ∙ h

-- a line has a fault
pub line_failed : (n : ℕ) (line after done : List ℕ) (s : Stage) (parts : List (List ℕ)) (fault : Fault) (v : Verdict)
    → parts ≡ line ∷ parts_of after → step s n line ≡ Err fault → prepend done (run n parts s) ≡ v → prepend done (failed n fault) ≡ v
line_failed n line after done s parts fault v p q h =
    ap (λ r. prepend done (go_on n (run (n + 1) (parts_of after)) r)) (sym q) ∙ ap (prepend done) (sym (run_more n line after s))
    ∙ ap (λ ps. prepend done (run n ps s)) (sym p) ∙ h

-- the end of the input
pub input_ended : (n : ℕ) (rest done : List ℕ) (s : Stage) (parts : List (List ℕ)) (fault : Option Fault) (v : Verdict)
    → parts ≡ rest ∷ [] → fault ≡ fault_at_end s rest → prepend done (run n parts s) ≡ v → prepend done (ended n fault) ≡ v
input_ended n rest done s parts fault v p q h = ap (λ f. prepend done (ended n f)) q ∙ ap (λ ps. prepend done (run n ps s)) (sym p) ∙ h

-- the line of a fault was gathered, and the text is whole
pub runs_failed : (held mid holds : Option (List ℕ)) (sent old new input : List ℕ) (n : ℕ) (fault : Fault) → Appends held mid sent → Gathers mid holds old new (fault_line n fault)
    → prepend (sent ++ old) (failed n fault) ≡ verdict_of input → RunsInto held holds new input true
runs_failed held mid holds sent old new input n fault p q h =
    let (all, wrote, same) = gathered_more held mid holds sent old new _ p q in
    (all, wrote, same ∙ ap (λ (v : Verdict). v.text) h, sym (ap (λ (v : Verdict). v.is_fault) h))

-- a line was not run
pub runs_stopped : (held mid holds : Option (List ℕ)) (sent old new input line after : List ℕ) (n : ℕ) (s : Stage) (parts : List (List ℕ)) (error : LineError)
    → Appends held mid sent → GathersFault mid holds old new n error → parts ≡ line ∷ parts_of after → FailsBy error (step s n line)
    → prepend (sent ++ old) (run n parts s) ≡ verdict_of input → RunsInto held holds new input true
runs_stopped held mid holds sent old new input line after n s parts errors.Memory p q e f h = absurd q
runs_stopped held mid holds sent old new input line after n s parts (errors.Fault fault) p q e f h =
    runs_failed held mid holds sent old new input n fault p q (line_failed n line after (sent ++ old) s parts fault _ e f h)
