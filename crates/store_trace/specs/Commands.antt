-- What a line does to a Book that it is lent, and what it answers; and what it does to some Book of a class.
use Rattle.std.specs.Prelude.{◌≡◌, ℕ, ◌≤◌, ◌<◌, ◌⊎◌, List, Result, Ok, Err}
use Rattle.std.specs.Result.{result_err}
use Rattle.bump_class.specs.Books.{BookView}
use Rattle.bump_class.specs.Changes.{book_with_item}
use Rattle.bump_class.specs.Ends as ends
use Rattle.bump_class.specs.Pulls as pulling
use Rattle.bump_class.specs.Sweeps as sweeping
use Rattle.bump_class.specs.declared.ending.UnlinkRefusal.{UnlinkRefusal}
use Rattle.bump_class.specs.declared.ending.UnlinkRefusal.TheVariants as refused
use Rattle.bump_class.specs.declared.linking.LinkRefusal.{LinkRefusal}
use Rattle.bump_rules.specs.Configs.{chunks_of}
use Rattle.bump_rules.specs.declared.bumps.Ended.{Ended}
use Rattle.bump_rules.specs.declared.commands.Answer.{Answer}
use Rattle.bump_rules.specs.declared.commands.Answer.TheVariants as answers
use Rattle.bump_rules.specs.declared.commands.Pulled.{Pulled}
use Rattle.bump_rules.specs.declared.commands.Touch.{Touch}
use Rattle.bump_rules.specs.declared.commands.Touch.TheVariants.{Exhausted}
use Rattle.bump_rules.specs.declared.configs.Config.{Config}
use Rattle.bump_rules.specs.declared.items.Head.{Head}
use Rattle.bump_rules.specs.declared.items.ItemId.{ItemId}
use Rattle.bump_rules.specs.declared.places.Start.{Start}
use Rattle.bump_rules.specs.declared.places.Tail.{Tail}
use Rattle.bump_rules.specs.Rings.{most_attempts}
use Rattle.bump_steps.specs.Rule.{chunks as all_chunks}
use Rattle.bump_steps.specs.declared.views.HoldSheet.{HoldSheet}
use Rattle.bump_unlocked.specs.Gets.{Got}
use Rattle.bump_store.specs.Stores.{ClassHasChunk, IsOfClass}
use Rattle.bump_unlocked.specs.Touches.{Findings, Touched}
use Rattle.bump_unlocked.specs.Workers.{WorkerState}
use Rattle.bump_unlocked.specs.declared.refusals.GetRefusal.{GetRefusal}
use Rattle.bump_unlocked.specs.declared.refusals.GetRefusal.TheVariants.{NoSuchChunk}

-- how a link is told
abbrev pub link_told : Result ItemId LinkRefusal → Answer
link_told (Ok item) = answers.Linked item
link_told (Err refusal) = answers.NoFreeChunk

-- What a link leaves, by what it comes to: the item's life began where it begins, with its label and its time; or
-- nothing.
abbrev pub LeavesLinked : Start → ℕ → ℕ → BookView → Result ItemId LinkRefusal → BookView → Type 0
LeavesLinked start label now book (Ok item) left = left ≡ book_with_item start item label now book
LeavesLinked start label now book (Err refusal) left = left ≡ book

-- how an unlink is told
abbrev pub unlink_told : Result Ended UnlinkRefusal → Answer
unlink_told (Ok ended) = answers.Ended ended
unlink_told (Err refused.NoSuchChunk) = answers.NoSuchChunk
unlink_told (Err refused.NotLinked) = answers.NotLinked

-- an unlink of an item of a Book
abbrev pub AnswersUnlink : ItemId → BookView → Answer → BookView → Type 0
AnswersUnlink item book answer left = (came : Result Ended UnlinkRefusal) × (answer ≡ unlink_told came)
    × (result_err came ≡ ends.unlink_refusal book item) × ends.Unlinks book item came left

-- a pull of a list of a Book
abbrev pub AnswersPull : Tail → BookView → Answer → BookView → Type 0
AnswersPull tail book answer left = (pulled : Pulled) × (answer ≡ answers.Pulled pulled) × pulling.Pulls book tail pulled left

-- a sweep of a Book
abbrev pub AnswersSweep : BookView → Answer → BookView → Type 0
AnswersSweep book answer left = (freed : ℕ) × (heads : ℕ → Head) × (answer ≡ answers.Swept freed)
    × sweeping.Sweeps book freed left heads

-- It was done to some Book of the class with this number: another thread may have had its lock just before.
abbrev pub OnClass : ℕ → Config → (BookView → BookView → Type 0) → Type 0
OnClass class config does = (book : BookView) × (left : BookView) × IsOfClass class config.classes book
    × (book.workers ≡ config.workers) × does book left

-- The same of the class that has a chunk. Of a chunk that there is not it is told that there is none.
abbrev pub OnItsClass : ℕ → Config → Answer → (BookView → BookView → Type 0) → Type 0
OnItsClass chunk config answer does =
    ((chunks_of config.classes ≤ chunk) × (answer ≡ answers.NoSuchChunk))
    ⊎ ((class : ℕ) × ClassHasChunk chunk class config.classes × OnClass class config does)

-- A touch by a worker: one that may attempt no bump any more makes no step.
abbrev pub TouchesAs : ℕ → ItemId → ℕ → WorkerState → Touch → WorkerState → Type 0
TouchesAs limit item now before answered after =
    (before.sheet.accounts.attempted ≡ most_attempts → (answered ≡ Exhausted) × (after ≡ before))
    × (before.sheet.accounts.attempted < most_attempts → (found : Findings)
    × Touched limit item now before after answered found)

-- A get by a worker that took a hold, and a touch of it at this time behind; or one that was refused.
abbrev pub GetsAs : Config → ItemId → ℕ → WorkerState → Result (ℕ × Touch) GetRefusal → WorkerState → Type 0
GetsAs config item now before (Ok answered) after = (hold : HoldSheet) × (first : Head) × (more : List Head)
    × (between : WorkerState) × Got config.refs_limit item before between (Ok hold) first more
    × TouchesAs config.refs_limit item now between answered.1 after
GetsAs config item now before (Err refusal) after =
    ((all_chunks config ≤ item.chunk) × (refusal ≡ NoSuchChunk) × (after ≡ before))
    ⊎ ((first : Head) × (more : List Head) × Got config.refs_limit item before after (Err refusal) first more)
