-- A whole run: its answer, by what its reading and its writing answered.
use Rattle.std.proofs.Common.{◌≡◌, ◌≤◌, ℕ, Bool, List, [], length, Option, inl, inr, sym, ◌∙◌, subst, append-nil}
use Rattle.std.proofs.KnownBytes.{Keeps-refl}
use Rattle.std.specs.Io.KnownBytes.{Appends, Consumes, IsAtEnd}
use Rattle.bump_trace.specs.Meaning.{verdict_of}
use Rattle.bump_trace.specs.Gathering.{IsOfWriting, WritesFront, RunsInto}
use Rattle.bump_trace.specs.Reading.{IsOfReading, IsOfSize}
use Rattle.bump_trace.specs.Runs.{most_bytes, Ran, StoppedBy, IsUncalled}
use Rattle.bump_trace.specs.declared.runs.SimFault.{SimFault}
use Rattle.bump_trace.specs.declared.runs.SimFault.TheVariants as faults

-- the trace was not read, and the writer was not called before
pub uncalled : (writes : ℕ) (e : SimFault) → writes ≡ 0 → IsUncalled writes e
uncalled writes faults.Trace p = tt
uncalled writes faults.Read p = p
uncalled writes faults.Size p = p
uncalled writes faults.Write p = tt
uncalled writes faults.Memory p = tt
uncalled writes faults.Threads p = tt
uncalled writes faults.Ring p = tt
uncalled writes faults.Gate p = tt

-- the trace was not read, and nothing was written before
pub unread : (calls failed : ℕ) (had left held : Option (List ℕ)) (e : SimFault) → IsOfReading calls failed e → IsOfSize had left e
    → StoppedBy had left held held e
unread calls failed had left held faults.Trace p q = absurd p
unread calls failed had left held faults.Read p q = Keeps-refl held
unread calls failed had left held faults.Size p q = (Keeps-refl held, q)
unread calls failed had left held faults.Write p q = absurd p
unread calls failed had left held faults.Memory p q = inl (Keeps-refl held)
unread calls failed had left held faults.Threads p q = absurd p
unread calls failed had left held faults.Ring p q = absurd p
unread calls failed had left held faults.Gate p q = absurd p

module _ (had left held holds : Option (List ℕ)) (input : List ℕ)
    (read : Consumes had left input) (end : IsAtEnd left) (size : length input ≤ most_bytes) where
  -- the trace was read, and its text not written whole
  pub unwritten : (failed : ℕ) (e : SimFault) → IsOfWriting failed e → WritesFront held holds (verdict_of input).text
      → StoppedBy had left held holds e
  unwritten failed faults.Trace p q = absurd p
  unwritten failed faults.Read p q = absurd p
  unwritten failed faults.Size p q = absurd p
  unwritten failed faults.Write p q = record { input = input; read = read; end = end; size = size; front = q }
  unwritten failed faults.Memory p q = inr (record { input = input; read = read; end = end; size = size; front = q })
  unwritten failed faults.Threads p q = absurd p
  unwritten failed faults.Ring p q = absurd p
  unwritten failed faults.Gate p q = absurd p

  -- the trace was read, and its text written whole
  pub all_written : (is_fault answer : Bool) → RunsInto held holds [] input is_fault → is_fault ≡ answer → Ran had left held holds answer
  all_written is_fault answer p q =
      let (sent, wrote, same, fault) = p in
      record {
        input = input;
        read = read;
        end = end;
        size = size;
        text = subst (Appends held holds) (sym (append-nil sent) ∙ same) wrote;
        fault = fault ∙ q;
      }
