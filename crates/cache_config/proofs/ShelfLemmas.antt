-- The shelves of a new cache, part by part.
use Rattle.std.proofs.Common.{◌≡◌, ℕ, suc, ◌+◌, ◌-◌, ◌*◌, ◌<◌, ◌≤◌, ◌++◌, List, [], ◌∷◌, length, drop, Option, Some, refl, sym, ap, ◌∙◌, subst, arith}
use Rattle.std.specs.List.{slice_get}
use Rattle.bump_class.specs.Books.{BookView}
use Rattle.bump_class.specs.Lanes.{LaneView}
use Rattle.cache_index.specs.Views.{IndexView, Led}
use Rattle.cache_shelf.specs.Shelves.{ShelfView}
use Rattle.cache_config.specs.declared.config.CacheConfig.{CacheConfig}
use Rattle.cache_config.specs.Making.{AreMadeShelves, AreNewBooks, AreNewIndexes, IsMadeShelf, IsNewBook, IsNewIndex, new_shelf}
use Rattle.std.proofs.Math.Nat.{mul-le-mul_right, suc-mul}
use Rattle.std.proofs.Math.Seq.{drop-append_seam}
use Rattle.std.proofs.lemmas.List.{length-drop}
use Rattle.cache_config.proofs.Places.{drop_drop, each_pushed, get_drop, get_front, length_pushed}

-- no index yet
pub indexes_none : (config : CacheConfig) → AreNewIndexes config 0 []
indexes_none config = record { count_is = refl; each = λ part low. absurd (omega (arith, low)) }

-- one index more
pub indexes_next : (config : CacheConfig) (part : ℕ) (before after : List IndexView) (index : IndexView)
    → AreNewIndexes config part before → after ≡ before ++ index ∷ [] → IsNewIndex config part index
    → AreNewIndexes config (part + 1) after
indexes_next config part before after index are is new = record {
  count_is = length_pushed before after part index are.count_is is;
  each = each_pushed (IsNewIndex config) before after part index are.count_is is are.each new;
}

-- no shelf yet
pub shelves_none : (config : CacheConfig) (key_width value_width : ℕ) (lanes : List LaneView)
    → AreMadeShelves config key_width value_width lanes 0 []
shelves_none config key_width value_width lanes =
    record { count_is = refl; each = λ part low. absurd (omega (arith, low)) }

-- one shelf more
pub shelves_next : (config : CacheConfig) (key_width value_width : ℕ) (lanes : List LaneView) (part : ℕ)
    (before after : List ShelfView) (shelf : ShelfView)
    → AreMadeShelves config key_width value_width lanes part before → after ≡ before ++ shelf ∷ []
    → IsMadeShelf config part key_width value_width lanes shelf
    → AreMadeShelves config key_width value_width lanes (part + 1) after
shelves_next config key_width value_width lanes part before after shelf are is made = record {
  count_is = length_pushed before after part shelf are.count_is is;
  each = each_pushed (λ n s. IsMadeShelf config n key_width value_width lanes s) before after part shelf are.count_is is
      are.each made;
}

-- the Book that comes next is that of the part
pub next_book : (config : CacheConfig) (books : List BookView) (part : ℕ) (book : BookView) → AreNewBooks config books
    → part < config.parts → slice_get books part ≡ Some book → IsNewBook config part book
next_book config books part book are low at =
    let it = are.each part low in
    let both : Some it.0 ≡ Some book = sym it.1 ∙ at in
    let is : it.0 ≡ book = cc both in
    subst (IsNewBook config part) is it.2

-- and so is the index
pub next_index : (config : CacheConfig) (count : ℕ) (indexes : List IndexView) (part : ℕ) (index : IndexView)
    → AreNewIndexes config count indexes → part < count → slice_get indexes part ≡ Some index
    → IsNewIndex config part index
next_index config count indexes part index are low at =
    let it = are.each part low in
    let both : Some it.0 ≡ Some index = sym it.1 ∙ at in
    let is : it.0 ≡ index = cc both in
    subst (IsNewIndex config part) is it.2

-- the shelf of a part by the lanes that come next
pub made_shelf : (config : CacheConfig) (part key_width value_width : ℕ) (lanes own rest : List LaneView)
    (book : BookView) (index : IndexView) (shelf : ShelfView) → IsNewBook config part book
    → IsNewIndex config part index → length own ≡ config.readers → drop (part * config.readers) lanes ≡ own ++ rest
    → shelf ≡ new_shelf config part key_width value_width book index.table own
    → IsMadeShelf config part key_width value_width lanes shelf
made_shelf config part key_width value_width lanes own rest book index shelf new_book new_index count taken made =
    record {
      book = book;
      new_book = new_book;
      own = own;
      count = count;
      each = λ number low.
          sym (get_front own rest number (omega (arith, low, count)))
          ∙ (ap (λ (ls : List LaneView). slice_get ls number) (sym taken)
          ∙ get_drop lanes (part * config.readers) number);
      made = made ∙ ap (λ (table : List (Option Led)). new_shelf config part key_width value_width book table own)
          new_index.table;
    }

-- a part's lanes are left
pub room_for : {X : Type 0} (parts readers part : ℕ) (all left : List X) → length all ≡ parts * readers
    → part < parts → left ≡ drop (part * readers) all → readers ≤ length left
room_for parts readers part all left count low is =
    let most : suc part * readers ≤ parts * readers = mul-le-mul_right readers (omega (arith, low)) in
    let next : suc part * readers ≡ part * readers + readers = suc-mul part readers in
    let long : length left ≡ length all - part * readers = ap length is ∙ length-drop (part * readers) all in
    omega (arith, most, next, long, count)

-- and behind them those of the next one
pub taken_next : {X : Type 0} (readers part : ℕ) (all own rest : List X) → length own ≡ readers
    → drop (part * readers) all ≡ own ++ rest → rest ≡ drop ((part + 1) * readers) all
taken_next readers part all own rest count is =
    let seam : drop readers (own ++ rest) ≡ rest =
    ap (λ n. drop n (own ++ rest)) (sym count) ∙ drop-append_seam own rest in
    let next : part * readers + readers ≡ (part + 1) * readers =
    let one : suc part ≡ part + 1 = omega arith in
    sym (suc-mul part readers) ∙ ap (λ n. n * readers) one in
    sym seam ∙ (ap (drop readers) (sym is) ∙ (drop_drop all (part * readers) readers ∙ ap (λ n. drop n all) next))

-- behind what one part takes is left what the next one takes
pub rest_next : {X : Type 0} (readers part : ℕ) (all left rest : List X) → left ≡ drop (part * readers) all
    → rest ≡ drop readers left → rest ≡ drop ((part + 1) * readers) all
rest_next readers part all left rest is behind =
    let next : part * readers + readers ≡ (part + 1) * readers =
    let one : suc part ≡ part + 1 = omega arith in
    sym (suc-mul part readers) ∙ ap (λ n. n * readers) one in
    behind ∙ (ap (drop readers) is ∙ (drop_drop all (part * readers) readers ∙ ap (λ n. drop n all) next))
