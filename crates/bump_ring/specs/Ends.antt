-- What contracts see of the ends of a ring: plain data.
use Rattle.std.specs.Prelude.{ℕ, Bool, List}
use denote.RawPtr.{Ptr}
use Rattle.std.specs.declared.alloc.Global.{Global}
use Rattle.rtrb.specs.Shared.{Names}
use Rattle.rtrb.specs.declared.end.End.{End}
use Rattle.bump_steps.specs.declared.views.Ride.{Ride}

-- Which ring it is, as one value: its memory, and the names that the rule of its memory goes by. The two ends of a ring
-- have the same.
abbrev pub Ring : Type 0
Ring = Ptr × Ptr × Names × Global

module _ {T P : Type 0} where
  -- the ring of an end
  abbrev pub ring_of : End T Global P → Ring
  ring_of end = (end.words, end.slots, end.names, end.heap)

pub record SenderView : Type 0 where
  -- which ring it is
  pub ring : Ring
  -- the ring has room for so many bumps
  pub capacity : ℕ
  -- the bumps that the ring accepted, in order
  pub sent : List Ride
  -- so many of them had been taken out when the two ends met last: none before they met
  pub shown : ℕ

pub record ReceiverView : Type 0 where
  -- which ring it is
  pub ring : Ring
  -- the bumps that were taken, in order
  pub received : List Ride
  -- the bumps that the next takes give, in order, as far as they are known
  pub known : List Ride

pub record ClosedView : Type 0 where
  -- which ring it is
  pub ring : Ring
  -- the ring has room for so many bumps
  pub capacity : ℕ
  -- the bumps that the ring accepted before it was closed, in order: no more will be
  pub sent : List Ride
  -- whether it can show the receiver the ring's end
  pub shows_end : Bool
