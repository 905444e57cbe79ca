-- What is kept of the lines or records that were read so far.
use Rattle.std.specs.Prelude.{ℕ, ◌≡◌, Bool, true, List, None, length}
use Rattle.access_logs.specs.Entries.{Said, keys_in, sizes_in, times_in, operations_in, ttls_in, unreadable_in, first_unreadable_in}
use Rattle.access_logs.specs.Keys.{distinct, numbers_of}
use Rattle.access_logs.specs.Numbering.{keys_of}
use Rattle.access_logs.specs.declared.drafts.Draft.{Draft}
use Rattle.access_logs.specs.declared.log.Log.{Log}

-- the draft of a log of which these lines or records were read, the first of them with this number
pub record IsDraftOf (strict : Bool) (first : ℕ) (entries : List Said) (draft : Draft) : Type 0 where
  pub keys : keys_of draft.numbering ≡ distinct (keys_in entries)
  pub accesses : draft.accesses.items ≡ numbers_of (keys_in entries)
  pub sizes : draft.sizes.items ≡ sizes_in entries
  pub times : draft.times.items ≡ times_in entries
  pub operations : draft.operations.items ≡ operations_in entries
  pub ttls : draft.ttls.items ≡ ttls_in entries
  pub unreadable : draft.unreadable ≡ unreadable_in entries
  pub first_unreadable : draft.first_unreadable ≡ first_unreadable_in first entries
  pub setting : draft.strict ≡ strict
  pub strictly : strict ≡ true → first_unreadable_in first entries ≡ None

-- the log of these lines or records
pub record IsLogOf (strict : Bool) (first : ℕ) (entries : List Said) (log : Log) : Type 0 where
  pub accesses : log.accesses.items ≡ numbers_of (keys_in entries)
  pub sizes : log.sizes.items ≡ sizes_in entries
  pub times : log.times.items ≡ times_in entries
  pub operations : log.operations.items ≡ operations_in entries
  pub ttls : log.ttls.items ≡ ttls_in entries
  pub keys : log.keys ≡ length (distinct (keys_in entries))
  pub unreadable : log.unreadable ≡ unreadable_in entries
  pub first_unreadable : log.first_unreadable ≡ first_unreadable_in first entries
  pub strictly : strict ≡ true → log.first_unreadable ≡ None
