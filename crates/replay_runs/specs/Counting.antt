-- The hits that a trace's text tells, by kind.
use Rattle.std.specs.Prelude.{ℕ, ◌+◌, ◌-◌, ◌^◌, min, Bool, ◌==◌, List, [], ◌∷◌, drop, codes, find, position}
use Rattle.std.specs.Prelude.{nat_eq, Option, Some, None, option_map, if◌then◌else◌}
use Rattle.std.specs.List.{starts_with}
use Rattle.std.specs.Str.{bytes_eq}
use Rattle.trace_lines.specs.Counted.{next_count}
use Rattle.bump_trace.specs.Meaning.{parts_of}
use Rattle.replay_runs.specs.declared.counting.HitCounts.{HitCounts}
use Rattle.replay_runs.specs.declared.counting.HitKind.{HitKind}
use Rattle.replay_runs.specs.declared.counting.HitKind.TheVariants as kind

-- what stands behind the first space, if there is one
abbrev pub behind_space : List ℕ → Option (List ℕ)
behind_space bytes = option_map (λ at. drop (at + 1) bytes) (position (λ b. b == 32) bytes)

-- what stands behind the next space, if anything does
abbrev pub behind_next : Option (List ℕ) → Option (List ℕ)
behind_next None = None
behind_next (Some bytes) = behind_space bytes

-- whether these words tell a hit of this kind, as docs/TRACE.md has it
abbrev pub tells : HitKind → List ℕ → Bool
tells kind.First hit = bytes_eq hit (codes "first")
tells kind.Already hit = bytes_eq hit (codes "already")
tells kind.Marked hit = bytes_eq hit (codes "marked")
tells kind.Queued hit = starts_with nat_eq hit (codes "queued ")
tells kind.Full hit = bytes_eq hit (codes "dropped full")
tells kind.Busy hit = bytes_eq hit (codes "dropped busy")
tells kind.Refs hit = bytes_eq hit (codes "dropped refs")
tells kind.Exhausted hit = bytes_eq hit (codes "exhausted")

-- the kind of the hit that these words tell, if they tell one
abbrev pub kind_of : List ℕ → Option HitKind
kind_of hit =
    find (λ kind. tells kind hit)
    (kind.First ∷ kind.Already ∷ kind.Marked ∷ kind.Queued ∷ kind.Full ∷ kind.Busy ∷ kind.Refs ∷ kind.Exhausted ∷ [])

-- the kind of the hit that these words tell, if there are any and they tell one
abbrev pub kind_told : Option (List ℕ) → Option HitKind
kind_told None = None
kind_told (Some hit) = kind_of hit

-- The kind of the hit that a line tells, if it tells one: a line `get` does by what stands behind its first four spaces,
-- which are those before the worker, the name, the label and the hit.
abbrev pub kind_of_line : List ℕ → Option HitKind
kind_of_line line =
    if starts_with nat_eq line (codes "get ")
    then kind_told (behind_next (behind_next (behind_next (behind_space line))))
    else None

-- no hit was told
abbrev pub no_hits : HitCounts
no_hits = record { first = 0; already = 0; marked = 0; queued = 0; full = 0; busy = 0; refs = 0; exhausted = 0 }

-- how many hits there are of all kinds together, up to the greatest number
abbrev pub total_hits : HitCounts → ℕ
total_hits hits =
    min (hits.first + hits.already + hits.marked + hits.queued + hits.full + hits.busy + hits.refs + hits.exhausted)
    (2 ^ 64 - 1)

-- with one more of a kind, up to the greatest number
abbrev pub with_one_more : HitKind → HitCounts → HitCounts
with_one_more kind.First hits = record hits { first = next_count hits.first }
with_one_more kind.Already hits = record hits { already = next_count hits.already }
with_one_more kind.Marked hits = record hits { marked = next_count hits.marked }
with_one_more kind.Queued hits = record hits { queued = next_count hits.queued }
with_one_more kind.Full hits = record hits { full = next_count hits.full }
with_one_more kind.Busy hits = record hits { busy = next_count hits.busy }
with_one_more kind.Refs hits = record hits { refs = next_count hits.refs }
with_one_more kind.Exhausted hits = record hits { exhausted = next_count hits.exhausted }

-- with the hit that a line tells, if it tells one
abbrev pub with_hit : Option HitKind → HitCounts → HitCounts
with_hit None hits = hits
with_hit (Some kind) hits = with_one_more kind hits

abbrev pub with_line : List ℕ → HitCounts → HitCounts
with_line line hits = with_hit (kind_of_line line) hits

-- These hits, and those that these lines tell. The last part has no line feed behind it, and is no line.
abbrev pub hits_of_lines : HitCounts → List (List ℕ) → HitCounts
hits_of_lines hits [] = hits
hits_of_lines hits (rest ∷ []) = hits
hits_of_lines hits (line ∷ next ∷ others) = hits_of_lines (with_line line hits) (next ∷ others)

-- the hits that a text tells
abbrev pub hits_told : List ℕ → HitCounts
hits_told text = hits_of_lines no_hits (parts_of text)
