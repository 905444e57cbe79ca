use Rattle.std.proofs.Common.{◌≡◌, ◌≤◌, replicate, None, vec_len, vec_capacity}
use Rattle.bump_handles.proofs.readers.no_holds.Given as goal

abbrev pub invariant-loop-place : goal.invariant-loop-place
invariant-loop-place g l = record {
  items : l.holds.items ≡ replicate l.place None;
  count : vec_len l.holds ≡ l.place;
  room : l.fn.places ≤ vec_capacity l.holds;
}
