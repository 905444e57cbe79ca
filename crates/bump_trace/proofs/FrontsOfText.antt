-- Fronts of a text: what was written where a run stopped before its end.
use Rattle.std.proofs.Common.{◌≡◌, ℕ, ◌+◌, Bool, List, [], ◌∷◌, ◌++◌, Option, Ok, refl, sym, ap, ◌∙◌, subst, append_assoc, append-nil}
use Rattle.std.specs.Io.KnownBytes.{Appends}
use Rattle.trace_lines.specs.declared.faults.Fault.{Fault}
use Rattle.trace_lines.specs.declared.faults.LineError.{LineError}
use Rattle.trace_lines.specs.declared.faults.LineError.TheVariants as errors
use Rattle.trace_lines.specs.Text.{fault_line}
use Rattle.bump_trace.specs.Stages.{Stage, say}
use Rattle.bump_trace.specs.Meaning.{Verdict, prepend, failed, run, step, parts_of, verdict_of}
use Rattle.bump_trace.specs.Views.{FailsBy}
use Rattle.bump_trace.specs.Gathering.{WritesFront, GathersFront, StopsWithin, stopped_line, RunsInto}
use Rattle.bump_trace.specs.declared.runs.SimFault.{SimFault}
use Rattle.bump_trace.specs.declared.runs.SimFault.TheVariants as faults
use Rattle.bump_trace.proofs.KnownBytes.{appends_more}
use Rattle.bump_trace.proofs.GatheredText.{line_run, line_failed}

-- more text was to stand behind
pub front_of_more : (held holds : Option (List ℕ)) (text behind : List ℕ) → WritesFront held holds text → WritesFront held holds (text ++ behind)
front_of_more held holds text behind p = record {
  sent = p.sent;
  more = p.more ++ behind;
  wrote = p.wrote;
  front = sym (append_assoc p.sent p.more behind) ∙ ap (λ l. l ++ behind) p.front;
}

-- other text was written before
pub front_behind : (held mid holds : Option (List ℕ)) (done text : List ℕ) → Appends held mid done → WritesFront mid holds text
    → WritesFront held holds (done ++ text)
front_behind held mid holds done text p q = record {
  sent = done ++ q.sent;
  more = q.more;
  wrote = appends_more held mid holds done q.sent p q.wrote;
  front = append_assoc done q.sent q.more ∙ ap (λ l. done ++ l) q.front;
}

-- what was gathered was written, and there was no memory for the text behind it
pub ungathered_behind : (held holds : Option (List ℕ)) (old new text : List ℕ) (e : SimFault) → e ≡ faults.Memory → Appends held holds old → new ≡ []
    → StopsWithin held holds new (old ++ text) e
ungathered_behind held holds old new text e p q empty =
    rw (p, empty) (let w : GathersFront held holds [] (old ++ text) = record { sent = old; more = text; wrote = q; front = ap (λ l. l ++ text) (append-nil old) } in w)

-- what was gathered was not written whole
pub unflushed : (held holds : Option (List ℕ)) (old new text : List ℕ) (e : SimFault) → e ≡ faults.Write → WritesFront held holds old
    → StopsWithin held holds new (old ++ text) e
unflushed held holds old new text e p q = rw p (front_of_more held holds old text q)

-- what was gathered was written, and the text behind it not whole
pub unwritten_behind : (held mid holds : Option (List ℕ)) (old new text : List ℕ) (e : SimFault) → e ≡ faults.Write → Appends held mid old
    → WritesFront mid holds text → StopsWithin held holds new (old ++ text) e
unwritten_behind held mid holds old new text e p q r = rw p (front_behind held mid holds old text q r)

-- a run stops within its whole text, where it does within a part of that behind what was written and gathered
pub stops_behind : (held mid holds : Option (List ℕ)) (sent old new text behind whole : List ℕ) (e : SimFault) → Appends held mid sent
    → StopsWithin mid holds new (old ++ text) e → ((sent ++ old) ++ text) ++ behind ≡ whole → StopsWithin held holds new whole e
stops_behind held mid holds sent old new text behind whole faults.Memory p q h =
    let apart : ((sent ++ q.sent) ++ new) ++ (q.more ++ behind) ≡ sent ++ (((q.sent ++ new) ++ q.more) ++ behind) = simp append_assoc in
    let joined : sent ++ ((old ++ text) ++ behind) ≡ ((sent ++ old) ++ text) ++ behind = simp append_assoc in
    record {
      sent = sent ++ q.sent;
      more = q.more ++ behind;
      wrote = appends_more held mid holds sent q.sent p q.wrote;
      front = apart ∙ ap (λ l. sent ++ (l ++ behind)) q.front ∙ joined ∙ h;
    }
stops_behind held mid holds sent old new text behind whole faults.Write p q h =
    let joined : sent ++ ((old ++ text) ++ behind) ≡ ((sent ++ old) ++ text) ++ behind = simp append_assoc in
    subst (WritesFront held holds) (joined ∙ h) (front_behind held mid holds sent _ p (front_of_more mid holds _ behind q))
stops_behind held mid holds sent old new text behind whole faults.Trace p q h = absurd q
stops_behind held mid holds sent old new text behind whole faults.Read p q h = absurd q
stops_behind held mid holds sent old new text behind whole faults.Size p q h = absurd q
stops_behind held mid holds sent old new text behind whole faults.Threads p q h = absurd q
stops_behind held mid holds sent old new text behind whole faults.Ring p q h = absurd q
stops_behind held mid holds sent old new text behind whole faults.Gate p q h = absurd q

-- at a line that was run
pub stops_at_line : (held mid holds : Option (List ℕ)) (sent old new text input line after : List ℕ) (n : ℕ) (s t : Stage) (parts : List (List ℕ)) (e : SimFault)
    → Appends held mid sent → StopsWithin mid holds new (old ++ text) e → parts ≡ line ∷ parts_of after → step s n line ≡ Ok (say t text)
    → prepend (sent ++ old) (run n parts s) ≡ verdict_of input → StopsWithin held holds new (verdict_of input).text e
stops_at_line held mid holds sent old new text input line after n s t parts e p q c said h =
    stops_behind held mid holds sent old new text (run (n + 1) (parts_of after) t).text _ e p q
    (ap (λ (v : Verdict). v.text) (line_run n line after (sent ++ old) ((sent ++ old) ++ text) s t parts text _ c said refl h))

-- at the line of a fault
pub stops_at_fault : (held mid holds : Option (List ℕ)) (sent old new input : List ℕ) (n : ℕ) (fault : Fault) (e : SimFault) → Appends held mid sent
    → StopsWithin mid holds new (old ++ fault_line n fault) e → prepend (sent ++ old) (failed n fault) ≡ verdict_of input
    → StopsWithin held holds new (verdict_of input).text e
stops_at_fault held mid holds sent old new input n fault e p q h =
    stops_behind held mid holds sent old new (fault_line n fault) [] _ e p q (append-nil _ ∙ ap (λ (v : Verdict). v.text) h)

-- at a line that was not run
pub stops_unrun : (held mid holds : Option (List ℕ)) (sent old new input line after : List ℕ) (n : ℕ) (s : Stage) (parts : List (List ℕ)) (error : LineError) (e : SimFault)
    → Appends held mid sent → StopsWithin mid holds new (old ++ stopped_line n error) e → parts ≡ line ∷ parts_of after → FailsBy error (step s n line)
    → prepend (sent ++ old) (run n parts s) ≡ verdict_of input → StopsWithin held holds new (verdict_of input).text e
stops_unrun held mid holds sent old new input line after n s parts errors.Memory e p q c f h =
    stops_behind held mid holds sent old new [] (run n parts s).text _ e p q
    (ap (λ l. l ++ (run n parts s).text) (append-nil (sent ++ old)) ∙ ap (λ (v : Verdict). v.text) h)
stops_unrun held mid holds sent old new input line after n s parts (errors.Fault fault) e p q c f h =
    stops_at_fault held mid holds sent old new input n fault e p q (line_failed n line after (sent ++ old) s parts fault _ c f h)

-- all was gathered, and not written whole
pub front_of_all : (held mid holds : Option (List ℕ)) (gathered input : List ℕ) (is_fault : Bool) → RunsInto held mid gathered input is_fault
    → WritesFront mid holds gathered → WritesFront held holds (verdict_of input).text
front_of_all held mid holds gathered input is_fault p q =
    let (sent, wrote, same, fault) = p in
    subst (WritesFront held holds) same (front_behind held mid holds sent gathered wrote q)

-- a front was gathered, and not written whole
pub front_unflushed : (held mid holds : Option (List ℕ)) (gathered text : List ℕ) → GathersFront held mid gathered text → WritesFront mid holds gathered
    → WritesFront held holds text
front_unflushed held mid holds gathered text p q =
    subst (WritesFront held holds) p.front (front_of_more held holds _ p.more (front_behind held mid holds p.sent gathered p.wrote q))
