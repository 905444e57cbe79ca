-- What a worker, a book, a lane and a store own names no thread, nor what the parts and the readers of a cache do: so their
-- handles may go to another one.
use mathlib.Core.HProp.{HProp}
use base.Shift.{Keyless}
use mir.Raw.{raw}
use denote.Memory.{lone}
use denote.Param.Send.{IsSend, sendable}
use denote.RattleType.{RattleType}
use denote.RawPtr.{Ptr}
use Rattle.std.specs.Global.{Global}
use Rattle.std.proofs.Crossing.{crosses, frees}
use Rattle.std_alloc.proofs.SendSync.{lies}
use Rattle.std_heap.specs.contracts.Global as Heap
use Rattle.std_heap.specs.contracts.GlobalAllocator.TheImpl.{ghosts}
use Rattle.std_heap.proofs.Global.TheSendSync as handle
use Rattle.std_heap.proofs.GlobalAllocator.TheSendSync.{the_frees}
use Rattle.atomic_table.specs.Seated.{TableId}
use Rattle.bump_readers.specs.declared.names.Name.{Ghosts}
use Rattle.bump_readers.specs.contracts.riders.Rider as Rider
use Rattle.bump_readers.specs.contracts.workers.WorkerSeat as Seat
use Rattle.bump_readers.proofs.riders.Rider.TheSendSync as rider
use Rattle.bump_readers.proofs.workers.WorkerSeat.TheSendSync as seat
use Rattle.bump_ring.specs.contracts.numbered.Numbered as Numbered
use Rattle.bump_ring.specs.contracts.numbered.NumberedProtocolRider.TheImpl as protocol
use Rattle.bump_ring.specs.contracts.ends.ClosedSender as ClosedSender
use Rattle.rtrb.specs.contracts.finished.Finished as Finished
use Rattle.rtrb.proofs.finished.Finished.TheSendSync as finished
use Rattle.bump_steps.specs.contracts.laws.AnyRow as AnyRow
use Rattle.bump_steps.specs.contracts.laws.AnyRowRowLaw.TheImpl as any_row
use Rattle.bump_class.specs.contracts.lanes.RawLane as RawLane
use Rattle.bump_class.proofs.lanes.RawLane.TheSendSync as raw_lane
use Rattle.bump_unlocked.specs.contracts.closing.ClosedWorker as ClosedWorker
use Rattle.bump_handles.specs.contracts.books.TaggedBook as TaggedBook
use Rattle.bump_handles.specs.contracts.drainers.Drainer as Drainer
use Rattle.bump_handles.specs.contracts.opening.Opened as Opened
use Rattle.bump_handles.specs.contracts.readers.Reader as Reader
use Rattle.bump_handles.proofs.books.TaggedBook.TheSendSync as tagged_book
use Rattle.bump_handles.proofs.readers.Reader.TheSendSync as reader
use Rattle.cache_handles.specs.contracts.opening.OpenedCache as OpenedCache
use Rattle.cache_handles.specs.contracts.parts.BytePart as BytePart
use Rattle.cache_handles.specs.contracts.readers.ByteReader as ByteReader
use Rattle.cache_handles.proofs.parts.BytePart.TheSendSync as byte_part
use Rattle.cache_handles.proofs.readers.ByteReader.TheSendSync as byte_reader
use Rattle.bump_c.specs.One.{any, trivial_proposition}
use Rattle.bump_c.specs.Seals.{owns}

module _ (z : TableId) where
  abbrev named : Ghosts (any trivial_proposition).Denot
  named = record { table = z }

  -- what is left of a ring's sending end
  finished_sends : IsSend (Finished.the_row (Rider.the_row (any trivial_proposition) named) Heap.the_row (Numbered.the_row (any trivial_proposition)) ghosts (protocol.ghosts (any trivial_proposition) named protocol.no_dict))
  finished_sends = finished.the_send (Rider.the_row (any trivial_proposition) named) Heap.the_row (Numbered.the_row (any trivial_proposition)) ghosts (protocol.ghosts (any trivial_proposition) named protocol.no_dict) (rider.the_send (any trivial_proposition) named) handle.the_send the_frees

  closed_sender : IsSend (ClosedSender.the_row (any trivial_proposition) named)
  closed_sender = search (sendable, crosses, finished_sends) depth 20

  seat_sends : IsSend (Seat.the_row (any trivial_proposition) named)
  seat_sends = seat.the_send (any trivial_proposition) named

  closed_worker : IsSend (ClosedWorker.the_row (any trivial_proposition) named)
  closed_worker = search (sendable, crosses, seat_sends, closed_sender) depth 20

  raw_lane_sends : IsSend (RawLane.the_row (any trivial_proposition) AnyRow.the_row named any_row.ghosts)
  raw_lane_sends = raw_lane.the_send (any trivial_proposition) AnyRow.the_row named any_row.ghosts

  -- a lane
  pub lane_sends : IsSend (Drainer.the_row (any trivial_proposition) named)
  lane_sends = search (sendable, crosses, raw_lane_sends, closed_worker) depth 20

  -- a worker
  pub worker_sends : IsSend (Reader.the_row (any trivial_proposition) named)
  worker_sends = reader.the_send (any trivial_proposition) named

  -- a book
  pub book_sends : IsSend (TaggedBook.the_row (any trivial_proposition) named)
  book_sends = tagged_book.the_send (any trivial_proposition) named

  -- what is still to be taken out of a store
  pub store_sends : IsSend (Opened.the_row (any trivial_proposition) named)
  store_sends = search (sendable, crosses, worker_sends, book_sends, lane_sends) depth 20

  -- a part of a cache
  pub cache_part_sends : IsSend (BytePart.the_row (any trivial_proposition) named)
  cache_part_sends = byte_part.the_send (any trivial_proposition) named

  -- a reader of it
  pub cache_reader_sends : IsSend (ByteReader.the_row (any trivial_proposition) named)
  cache_reader_sends = byte_reader.the_send (any trivial_proposition) named

  -- what is still to be taken out of it
  pub cache_sends : IsSend (OpenedCache.the_row (any trivial_proposition) named)
  cache_sends = search (sendable, crosses, cache_part_sends, cache_reader_sends) depth 20

-- what a handle owns of a part whose row names no thread
pub owned_sends : (row : HProp {0} → TableId → RattleType) → ((z : TableId) → IsSend (row trivial_proposition z)) → (alloc : Global) (p : Ptr) (z : TableId) (v : (row trivial_proposition z).Denot) → Keyless (owns row alloc p z v)
owned_sends row sends alloc p z v = (lies (row trivial_proposition z) (sends z) p v, frees.frees alloc (raw (lone (row trivial_proposition z).mir)) p)
