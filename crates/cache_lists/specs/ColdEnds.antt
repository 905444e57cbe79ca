-- What a look at the last item of COLD tells.
use Rattle.std.specs.Prelude.{◌≡◌, ℕ, Bool, false, nat_lt, Option, None, Some}
use Rattle.bump_links.specs.Lists.{last_of}
use Rattle.bump_rules.specs.declared.items.Head.{Head}
use Rattle.bump_word.specs.Words.{Fits}
use Rattle.bump_class.specs.Books.{BookView}
use Rattle.bump_class.specs.Changes.{book_after_load}

-- The chunk was looked at, and it is told whether the head that was found counts more references than the one for being
-- linked; or there is none, and nothing changed.
abbrev pub SeesHeld : Bool → Option ℕ → BookView → BookView → Type 0
SeesHeld held None before after = (held ≡ false) × (after ≡ before)
SeesHeld held (Some chunk) before after =
    (head : Head) × Fits head × (held ≡ nat_lt 1 head.refs) × (after ≡ book_after_load chunk head before)

-- so it is of COLD's last chunk
abbrev pub LooksAtColdEnd : Bool → BookView → BookView → Type 0
LooksAtColdEnd held before after = SeesHeld held (last_of before.lists.cold) before after
