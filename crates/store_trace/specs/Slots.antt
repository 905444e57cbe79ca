-- The rings of workers that go to threads and come back.
use Rattle.std.specs.Prelude.{List, map}
use Rattle.bump_ring.specs.Ends.{Ring}
use Rattle.store_trace.specs.declared.slots.Slot.{Slot}

module _ {N : Type 0} where
  -- the ring of the lane from which a worker was parted
  abbrev pub slot_ring : Slot N → Ring
  slot_ring slot = slot.lane_was.value.lane.ring

  -- those of all, in order
  abbrev pub slot_rings : List (Slot N) → List Ring
  slot_rings slots = map slot_ring slots
