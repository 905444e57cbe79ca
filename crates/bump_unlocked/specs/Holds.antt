-- What contracts see of holds.
use Rattle.std.specs.Prelude.{◌≡◌, ◌<◌, ◌&&◌, ◌++◌, ◌∷◌, [], Bool, Some}
use Rattle.bump_rules.specs.declared.items.Head.{Head}
use Rattle.bump_word.specs.Words.{Fits, word_of}
use Rattle.bump_steps.specs.declared.views.HoldSheet.{HoldSheet}
use Rattle.bump_readers.specs.declared.views.HoldView.{HoldView}
use Rattle.bump_readers.specs.Seats.{row_in, looks_in}

-- the life that is held, its words, and the head words that looks found
abbrev pub sheet_of : HoldView → HoldSheet
sheet_of hold = record { life = hold.life; row = row_in hold.sheet; looks = looks_in hold.sheet }

-- a hold with its sheet, which is joined to no seat
abbrev pub whole : HoldSheet → HoldView
whole sheet = record { life = sheet.life; sheet = Some sheet }

-- What a look at the head of the item that is held leaves, by the head that it found.
pub record SeesHead (before after : HoldSheet) (found : Head) : Type 0 where
  -- it is one that a word spells, of the item, which has a reference at least
  pub fits : Fits found
  pub generation : found.generation ≡ before.life.generation
  pub counted : 0 < found.refs
  -- the hold notes this very word, and nothing else is changed
  pub noted : after ≡ record before { looks = before.looks ++ word_of found ∷ [] }

-- What a look for the marks of the item that is held answers, and what the hold keeps, by the head that it found.
pub record SeesMarks (before : HoldSheet) (answer : Bool) (after : HoldSheet) (found : Head) : Type 0 where
  pub sees : SeesHead before after found
  -- both marks were set
  pub marked : answer ≡ (found.fetched && found.active)
