-- Where a trace ends, line by line.
use Rattle.std.proofs.Common.{◌≡◌, ℕ, ◌+◌, ◌<◌, ◌==◌, true, Bool, List, [], ◌∷◌, length, Option, Some, Result, Ok, refl, sym, ap, ◌∙◌, subst, inl, inr, arith}
use Rattle.std.specs.Prelude.{◌⊎◌}
use Rattle.std.proofs.lemmas.List.Splits.{length-slice_split}
use Rattle.bump_trace.specs.Meaning.{parts_of, step, effect, effect_of, fault_in, fault_at_end, or_else}
use Rattle.bump_trace.specs.OpenStore.{instruction_said}
use Rattle.bump_trace.specs.Stages.{Stage, Open, StoreState, opened}
use Rattle.trace_lines.specs.Faults.{◌>>=◌}
use Rattle.trace_lines.specs.Lines.{Line, Makes, Instruction, line_said, rest_fault}
use Rattle.trace_lines.specs.declared.faults.Fault.{Fault}
use Rattle.trace_lines.specs.declared.faults.LineError.{LineError}
use Rattle.trace_lines.specs.declared.faults.LineError.TheVariants as errors
use Rattle.store_trace.specs.Endings.{Follows, Passes, Ending, Whole, Stopped, StopsHere, EndsHere, EndsAt, Goes, StopsAs, HasFault}

-- a line that isn't the last one is where lines end, or lines end behind it
abbrev Either : ℕ → List ℕ → List (List ℕ) → Stage → Ending → Type 0
Either n line others s end =
    StopsHere n line s end ⊎ ((next : Stage) × Passes s n line next × EndsAt (n + 1) others next end)

-- with more lines behind it
ends_parts : (n : ℕ) (line : List ℕ) (others : List (List ℕ)) (s : Stage) (end : Ending) → 0 < length others → Either n line others s end → EndsAt n (line ∷ others) s end
ends_parts n line [] s end h p = absurd (omega (arith, h))
ends_parts n line (next ∷ others) s end h p = p

-- and the other way
parts_end : (n : ℕ) (line : List ℕ) (others : List (List ℕ)) (s : Stage) (end : Ending) → 0 < length others → EndsAt n (line ∷ others) s end → Either n line others s end
parts_end n line [] s end h p = absurd (omega (arith, h))
parts_end n line (next ∷ others) s end h p = p

-- what stands between line feeds is one part or more
some_parts : (bytes : List ℕ) → 0 < length (parts_of bytes)
some_parts bytes = omega (arith, length-slice_split (λ b. b == 10) bytes)

module _ (n₀ : ℕ) (all : List (List ℕ)) (s₀ : Stage) (n : ℕ) (rest : List ℕ) (s : Stage)
    (so_far : Goes n₀ all s₀ n (parts_of rest) s) where
  module _ (line bytes : List ℕ) (cut : parts_of rest ≡ line ∷ parts_of bytes) where
    -- the lines end at this one, or behind it
    ends_so : (end : Ending) → Either n line (parts_of bytes) s end → EndsAt n₀ all s₀ end
    ends_so end p =
        so_far end (subst (λ (ps : List (List ℕ)). EndsAt n ps s end) (sym cut) (ends_parts n line (parts_of bytes) s end (some_parts bytes) p))

    -- a line without a fault
    pub goes_on : (next : Stage) → Passes s n line next → Goes n₀ all s₀ (n + 1) (parts_of bytes) next
    goes_on next passes end ends = ends_so end (inr (next, passes, ends))

    -- a line with a fault
    pub stops_at : (what : Fault) → fault_in (step s n line) ≡ Some what → EndsAt n₀ all s₀ (Stopped n what)
    stops_at what is = ends_so (Stopped n what) (inl (refl, is))

    -- a line that was told not to have been run
    pub stops_as : (error : LineError) → HasFault s n line error → StopsAs n₀ all s₀ n error
    stops_as errors.Memory p = tt
    stops_as (errors.Fault what) p = stops_at what p

    module _ (store : StoreState) (i : Instruction) (reads : line_said line ≡ Ok (Some (Makes i))) (opens : opened s ≡ Ok store) where
      -- the first command is made on the store that it opens
      same_step : step s n line ≡ step (Open store) n line
      unfolding step effect opened
      same_step =
          ap (λ (r : Result (Option Line) Fault). r >>= effect_of s n) reads ∙ ap (λ (r : Result StoreState Fault). r >>= (λ st. instruction_said st n i)) opens
          ∙ sym (ap (λ (r : Result (Option Line) Fault). r >>= effect_of (Open store) n) reads)

      -- what it says
      same_said : (said : Option Line) → line_said line ≡ Ok said → said ≡ Some (Makes i)
      same_said said is = cc

      -- so that what follows it on the open store follows it here
      follows_too : (said : Option Line) (next : Stage) → said ≡ Some (Makes i) → Follows (Open store) said next → Follows s (Some (Makes i)) next
      unfolding opened
      follows_too said next is p =
          let (old, new, is_old, leaves, is_next) = subst (λ (x : Option Line). Follows (Open store) x next) is p in
          (old, new, opens ∙ is_old, leaves, is_next)

      -- where it ends on the open store it ends here
      stops_too : (end : Ending) → StopsHere n line (Open store) end → StopsHere n line s end
      stops_too (Whole st) p = absurd p
      stops_too (Stopped at what) p = (p.0, ap fault_in same_step ∙ p.1)

      -- and so it is behind it
      either_too : (end : Ending) → Either n line (parts_of bytes) (Open store) end → Either n line (parts_of bytes) s end
      either_too end (inl p) = inl (stops_too end p)
      either_too end (inr p) =
          let (next, passes, ends) = p in
          inr (
            next,
            record {
              fault = ap fault_in same_step ∙ passes.fault;
              said = Some (Makes i);
              reads = reads;
              follows = follows_too passes.said next (same_said passes.said passes.reads) passes.follows;
            },
            ends,
          )

      -- the first command opens the store
      pub opens_at : Goes n₀ all s₀ n (parts_of rest) (Open store)
      opens_at end ends =
          let there = subst (λ (ps : List (List ℕ)). EndsAt n ps (Open store) end) cut ends in
          ends_so end (either_too end (parts_end n line (parts_of bytes) (Open store) end (some_parts bytes) there))

  module _ (last : parts_of rest ≡ rest ∷ []) where
    -- the lines end at the end of the input
    pub ends_here : (end : Ending) → EndsHere n rest s end → EndsAt n₀ all s₀ end
    ends_here end p = so_far end (subst (λ (ps : List (List ℕ)). EndsAt n ps s end) (sym last) p)

    -- what is wrong there
    pub stops_here : (what : Fault) → fault_at_end s rest ≡ Some what → EndsAt n₀ all s₀ (Stopped n what)
    stops_here what is = ends_here (Stopped n what) (refl, is)

    module _ (store : StoreState) (opens : opened s ≡ Ok store) where
      -- the same is wrong with the store open
      same_end : fault_at_end s rest ≡ fault_at_end (Open store) rest
      unfolding fault_at_end opened
      same_end = ap (λ (r : Result StoreState Fault). or_else (rest_fault rest) (fault_in r)) opens

      -- so that it ends here as it does with the store open
      here_too : (end : Ending) → EndsHere n rest (Open store) end → EndsHere n rest s end
      unfolding opened
      here_too (Whole st) p = (same_end ∙ p.0, opens ∙ p.1)
      here_too (Stopped at what) p = (p.0, same_end ∙ p.1)

      -- the end of the input opens the store
      pub opens_at_end : Goes n₀ all s₀ n (parts_of rest) (Open store)
      opens_at_end end ends =
          ends_here end (here_too end (subst (λ (ps : List (List ℕ)). EndsAt n ps (Open store) end) last ends))

-- where a line stands before others, the end isn't near
pub past_of : (flag : Bool) (rest line bytes : List ℕ) → (parts_of rest ≡ rest ∷ []) ⊎ (flag ≡ true) → parts_of rest ≡ line ∷ parts_of bytes → flag ≡ true
past_of flag rest line bytes (inl last) cut =
    let none : length (parts_of bytes) ≡ 0 = let both = sym (ap length cut) ∙ ap length last in omega (arith, both) in
    absurd (omega (arith, none, some_parts bytes))
past_of flag rest line bytes (inr is) cut = is
