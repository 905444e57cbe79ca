-- What readers of the parts of a cache counted, over all parts.
use Rattle.std.specs.Prelude.{ℕ, ◌+◌, List, length, sum_by}
use Rattle.bump_rules.specs.declared.bumps.Accounts.{Accounts}
use Rattle.bump_rules.specs.declared.hands.Hand.TheVariants as hand
use Rattle.bump_rules.specs.Rings.{IsAccounts}
use Rattle.cache_lists.specs.Counts.{capped}
use Rattle.cache_readers.specs.Readers.{ReaderView}

-- how many of its gets found something, over all parts, as far as the count goes
abbrev pub hits_of : List ReaderView → ℕ
hits_of parts = capped (sum_by (λ (part : ReaderView). part.hits) parts)

-- how many found nothing
abbrev pub misses_of : List ReaderView → ℕ
misses_of parts = capped (sum_by (λ (part : ReaderView). part.misses) parts)

-- its counts of bumps, each over all parts, as far as the count goes
abbrev pub bumps_of : List ReaderView → Accounts
bumps_of parts = record {
  attempted = capped (sum_by (λ (part : ReaderView). part.worker.sheet.accounts.attempted) parts);
  accepted = capped (sum_by (λ (part : ReaderView). part.worker.sheet.accounts.accepted) parts);
  full = capped (sum_by (λ (part : ReaderView). part.worker.sheet.accounts.full) parts);
  busy = capped (sum_by (λ (part : ReaderView). part.worker.sheet.accounts.busy) parts);
  refs = capped (sum_by (λ (part : ReaderView). part.worker.sheet.accounts.refs) parts);
}

-- what a part's reader sent adds up: bumps that were accepted and dropped are those attempted
abbrev pub AddsUp : ReaderView → Type 0
AddsUp part = IsAccounts part.worker.sheet.accounts (length part.worker.sender.sent) hand.Idle

-- how many bumps were dropped, as far as the count goes
abbrev pub dropped_of : Accounts → ℕ
dropped_of accounts = capped (accounts.full + accounts.busy + accounts.refs)
