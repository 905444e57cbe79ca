-- How answers are counted.
use Rattle.std.specs.Prelude.{ℕ, ◌+◌, ◌-◌, ◌^◌, min}
use Rattle.bump_rules.specs.declared.commands.Touch.{Touch}
use Rattle.bump_rules.specs.declared.commands.Touch.TheVariants as touch
use Rattle.bump_unlocked.specs.declared.refusals.GetRefusal.{GetRefusal}
use Rattle.bump_unlocked.specs.declared.refusals.GetRefusal.TheVariants as refusal
use Rattle.store_trace.specs.declared.totals.Totals.{Totals}
use Rattle.trace_lines.specs.Counted.{next_count}

-- no line was made
abbrev pub no_lines : Totals
no_lines = record {
  first = 0;
  already = 0;
  marked = 0;
  queued = 0;
  dropped = 0;
  miss = 0;
  refs = 0;
  busy = 0;
  closed = 0;
}

-- a hit more
abbrev pub with_touch : Touch → Totals → Totals
with_touch touch.First totals = record totals { first = next_count totals.first }
with_touch touch.Already totals = record totals { already = next_count totals.already }
with_touch touch.Marked totals = record totals { marked = next_count totals.marked }
with_touch (touch.Queued number) totals = record totals { queued = next_count totals.queued }
with_touch (touch.Dropped why) totals = record totals { dropped = next_count totals.dropped }
with_touch touch.Exhausted totals = totals

-- a get more that took no hold
abbrev pub with_refusal : GetRefusal → Totals → Totals
with_refusal refusal.NoSuchChunk totals = record totals { miss = next_count totals.miss }
with_refusal refusal.Stale totals = record totals { miss = next_count totals.miss }
with_refusal refusal.RefsFull totals = record totals { refs = next_count totals.refs }
with_refusal refusal.Busy totals = record totals { busy = next_count totals.busy }

-- a sum stops growing at the greatest number, as a count does
abbrev pub sum_up : ℕ → ℕ → ℕ
sum_up count more = min (count + more) (2 ^ 64 - 1)

-- what two workers counted
abbrev pub both_totals : Totals → Totals → Totals
both_totals totals more = record {
  first = sum_up totals.first more.first;
  already = sum_up totals.already more.already;
  marked = sum_up totals.marked more.marked;
  queued = sum_up totals.queued more.queued;
  dropped = sum_up totals.dropped more.dropped;
  miss = sum_up totals.miss more.miss;
  refs = sum_up totals.refs more.refs;
  busy = sum_up totals.busy more.busy;
  closed = sum_up totals.closed more.closed;
}
