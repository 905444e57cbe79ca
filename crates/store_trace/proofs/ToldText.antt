-- The text of a run on a store, as it is gathered and written.
use Rattle.std.proofs.Common.{◌≡◌, ℕ, true, false, List, [], ◌∷◌, ◌++◌, Option, Err, refl, sym, ap, ◌∙◌, append_assoc, append-nil, inl}
use Rattle.bump_rules.specs.declared.configs.Config.{Config}
use Rattle.model_state.specs.Opening.{new_state}
use Rattle.bump_store.specs.Lanes.{LaneState}
use Rattle.bump_trace.specs.Gathering.{Gathers, GathersFault}
use Rattle.bump_trace.specs.Meaning.{fault_in, step, parts_of}
use Rattle.bump_trace.specs.Stages.{Stage, StoreState}
use Rattle.bump_trace.proofs.KnownBytes.{appends_more, appends_start}
use Rattle.trace_lines.specs.Text.{fault_line}
use Rattle.trace_lines.specs.declared.faults.Fault.{Fault}
use Rattle.trace_lines.specs.declared.faults.LineError.{LineError}
use Rattle.trace_lines.specs.declared.faults.LineError.TheVariants as errors
use Rattle.store_trace.specs.Endings.{Whole, Stopped, EndsAt, Goes, StopsAs}
use Rattle.store_trace.specs.OpenStores.{FailsAs}
use Rattle.store_trace.specs.Reports.{IsReport}
use Rattle.store_trace.specs.Runs.{Behind, NoMore, Reported, TellsEnd, TellsStop, GathersLines, GathersSomeFault}
use Rattle.store_trace.specs.WholeLines.{IsLines}
use Rattle.store_trace.specs.declared.stops.Stop.{Stop}
use Rattle.store_trace.specs.declared.stops.Stop.TheVariants.{Line, Ring}
use Rattle.store_trace.specs.declared.totals.Totals.{Totals}
use Rattle.store_trace.proofs.EndedLines.{lines_behind}
use Rattle.store_trace.proofs.Endings.{stops_at}

-- more text was gathered, and maybe written
pub gathers_more : (held mid holds : Option (List ℕ)) (old gathered new text more : List ℕ) → Gathers held mid old gathered text
    → Gathers mid holds gathered new more → Gathers held holds old new (text ++ more)
gathers_more held mid holds old gathered new text more p q =
    let (sent, wrote, same) = p in
    let (next, now_wrote, now_same) = q in (
      sent ++ next,
      appends_more held mid holds sent next wrote now_wrote,
      append_assoc sent next new ∙ ap (λ (l : List ℕ). sent ++ l) now_same ∙ sym (append_assoc sent gathered more)
          ∙ ap (λ (l : List ℕ). l ++ more) same ∙ append_assoc old text more,
    )

-- nothing was gathered yet
pub gathers_none : (held : Option (List ℕ)) (old : List ℕ) → GathersLines held held old old
gathers_none held old = ([], inl refl, ([], appends_start held, sym (append-nil old)))

-- more whole lines were gathered
pub gathers_lines : (held mid holds : Option (List ℕ)) (old gathered new more : List ℕ) → GathersLines held mid old gathered → IsLines more
    → Gathers mid holds gathered new more → GathersLines held holds old new
gathers_lines held mid holds old gathered new more p whole q =
    let (text, lines, told) = p in
    (text ++ more, lines_behind text more lines whole, gathers_more held mid holds old gathered new text more told q)

module _ (held mid holds : Option (List ℕ)) (old gathered new : List ℕ) (before : GathersLines held mid old gathered)
    (n : ℕ) (all : List (List ℕ)) (s : Stage) where
  -- the line of a fault was gathered, at which the lines end
  pub tells_stop : (number : ℕ) (what : Fault) → EndsAt n all s (Stopped number what) → Gathers mid holds gathered new (fault_line number what)
      → TellsStop held holds old new n all s
  tells_stop number what ends told =
      let (text, lines, so_far) = before in record {
        before = text;
        whole = lines;
        at = number;
        what = what;
        told = gathers_more held mid holds old gathered new text (fault_line number what) so_far told;
        ends = ends;
      }

  -- so it was of an error that stopped them
  pub tells_error : (number : ℕ) (error : LineError) → StopsAs n all s number error → GathersFault mid holds gathered new number error → TellsStop held holds old new n all s
  tells_error number errors.Memory ends told = absurd told
  tells_error number (errors.Fault what) ends told = tells_stop number what ends told

  -- a report was gathered behind the last line
  pub tells_report : (config : Config) (lanes : List LaneState) (totals : Totals) (store : StoreState) (report : List ℕ) → store.state ≡ new_state config → IsReport config lanes totals report
      → EndsAt n all s (Whole store) → Gathers mid holds gathered new report → TellsEnd Reported held holds old new n all s false
  tells_report config lanes totals store report is_new is_report ends told =
      let (text, lines, so_far) = before in record {
        text = text ++ report;
        end = Whole store;
        told = gathers_more held mid holds old gathered new text report so_far told;
        ends = ends;
        as_text = (text, report, lines, (config, lanes, totals, is_new, is_report), refl);
        fault = refl;
      }

-- a line was run that has a fault
pub tells_line : (held mid holds : Option (List ℕ)) (old gathered new : List ℕ) → GathersLines held mid old gathered → (n₀ : ℕ) (all : List (List ℕ)) (s₀ : Stage) (n : ℕ)
    (rest : List ℕ) (s : Stage) → Goes n₀ all s₀ n (parts_of rest) s → (line bytes : List ℕ) → parts_of rest ≡ line ∷ parts_of bytes → (why : Stop)
    → FailsAs (Err why) (fault_in (step s n line)) → GathersSomeFault mid holds gathered new n why → TellsStop held holds old new n₀ all s₀
tells_line held mid holds old gathered new before n₀ all s₀ n rest s so_far line bytes cut Ring fails told = absurd told
tells_line held mid holds old gathered new before n₀ all s₀ n rest s so_far line bytes cut (Line errors.Memory) fails told = absurd told
tells_line held mid holds old gathered new before n₀ all s₀ n rest s so_far line bytes cut (Line (errors.Fault what)) fails told =
    tells_stop held mid holds old gathered new before n₀ all s₀ n what (stops_at n₀ all s₀ n rest s so_far line bytes cut what fails) told

-- lines that were told to end by a fault end so, whatever is told behind others
pub tells_fault : (more : Behind) (held holds : Option (List ℕ)) (old new : List ℕ) (n : ℕ) (all : List (List ℕ)) (s : Stage) → TellsStop held holds old new n all s
    → TellsEnd more held holds old new n all s true
tells_fault more held holds old new n all s p = record {
  text = p.before ++ fault_line p.at p.what;
  end = Stopped p.at p.what;
  told = p.told;
  ends = p.ends;
  as_text = (p.before, p.whole, refl);
  fault = refl;
}

-- nothing was gathered behind the last line
pub tells_whole : (held holds : Option (List ℕ)) (old new : List ℕ) (n : ℕ) (all : List (List ℕ)) (s : Stage) (store : StoreState) → GathersLines held holds old new
    → EndsAt n all s (Whole store) → TellsEnd NoMore held holds old new n all s false
tells_whole held holds old new n all s store before ends =
    let (text, lines, told) = before in record {
      text = text;
      end = Whole store;
      told = told;
      ends = ends;
      as_text = (text, [], lines, refl, sym (append-nil text));
      fault = refl;
    }
