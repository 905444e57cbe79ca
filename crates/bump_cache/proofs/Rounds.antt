-- One part more had its turn.
use Rattle.std.proofs.Common.{◌≡◌, ℕ, suc, ◌+◌, refl, subst, ◌∙◌, arith}
use Rattle.call_log.proofs.Beginnings.{prefix_self, prefix_trans}
use Rattle.call_log.specs.Calls.{CallerView, OnlyLooks}
use Rattle.cache_part.specs.declared.stats.Stats.{Stats}
use Rattle.bump_cache.specs.States.{PartState}
use Rattle.bump_cache.specs.Sums.{both_stats}
use Rattle.bump_cache.specs.Tending.{ClearsPart, ClearsParts, LooksAtPart, SumsUpParts, TendsPart, TendsParts}

-- it was tended
pub tends_more : (part now : ℕ) (me between after : CallerView PartState) → TendsParts part now me between
    → TendsPart part now between after → TendsParts (part + 1) now me after
tends_more part now me between after so_far one =
    let more : suc part ≡ part + 1 = omega arith in
    subst (λ n. TendsParts n now me after) more (between, so_far, one)

-- it was cleared
pub clears_more : (part : ℕ) (me between after : CallerView PartState) → ClearsParts part me between
    → ClearsPart part between after → ClearsParts (part + 1) me after
clears_more part me between after so_far one =
    let more : suc part ≡ part + 1 = omega arith in
    subst (λ n. ClearsParts n me after) more (between, so_far, one)

-- it was looked at
pub sums_more : (part : ℕ) (me between after : CallerView PartState) (before own both : Stats)
    → SumsUpParts part me between before → LooksAtPart part between after own → both ≡ both_stats before own
    → SumsUpParts (part + 1) me after both
sums_more part me between after before own both so_far one sum =
    let more : suc part ≡ part + 1 = omega arith in
    subst (λ n. SumsUpParts n me after both) more (between, before, own, so_far, one, sum)

-- who looks at nothing only looks
pub looks_none : (me : CallerView PartState) → OnlyLooks me me
looks_none me = record { first = refl; seen = prefix_self me.log; calls = refl; parts = refl }

-- and who looks twice
pub looks_more : (me between after : CallerView PartState) → OnlyLooks me between → OnlyLooks between after
    → OnlyLooks me after
looks_more me between after one other = record {
  first = other.first ∙ one.first;
  seen = prefix_trans me.log between.log after.log one.seen other.seen;
  calls = other.calls ∙ one.calls;
  parts = other.parts ∙ one.parts;
}
