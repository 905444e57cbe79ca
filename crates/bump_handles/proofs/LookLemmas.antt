-- Ends of items with their labels, and walks of lists.
use Rattle.std.proofs.Common.{◌≡◌, ℕ, ◌+◌, ◌<◌, List, [], ◌∷◌, ◌++◌, length, drop, set, Option, Some, None, Ok, refl, sym, ap, ◌∙◌, subst, arith, inl, inr}
use Rattle.std.specs.Result.{result_err}
use Rattle.std.proofs.lemmas.Bool.Decides.{eqb_tells}
use Rattle.std.proofs.lemmas.List.{append_assoc, length-append}
use Rattle.bump_links.specs.Lists.{times, first_of, next_of}
use Rattle.bump_links.proofs.ListsLemmas.{apart-from_times, next_of-split}
use Rattle.bump_rules.specs.declared.bumps.Ended.{Ended}
use Rattle.bump_rules.specs.declared.items.ItemId.{ItemId}
use Rattle.bump_rules.specs.declared.places.Place.{Place}
use Rattle.bump_rules.specs.Lists.{list_at}
use Rattle.bump_rules.proofs.PlainLists.{times_same}
use Rattle.bump_class.specs.Books.{BookView}
use Rattle.bump_class.specs.Ends.{Unlinks, unlink_refusal}
use Rattle.bump_class.specs.Sweeps.{told_first}
use Rattle.bump_class.proofs.Freeing.{told_more}
use Rattle.bump_class.proofs.Sights.{times_append}
use Rattle.bump_handles.specs.declared.looking.Walked.{Walked}
use Rattle.bump_handles.specs.Booking.{BookUnlinks, ReadsLabel}
use Rattle.bump_handles.specs.Looking.{BookWalks, IsFirst, WalksOn}
use Rattle.bump_handles.specs.Views.{TaggedBookView}

-- an item ended, and its label was read behind that
pub unlinks : (id : ItemId) (w before after : TaggedBookView) (ended : Ended) (label : ℕ) (between : BookView) → w ≡ before
    → result_err (Ok ended) ≡ unlink_refusal w.book id → Unlinks w.book id (Ok ended) between
    → ReadsLabel id.chunk between after.book label → after.store ≡ w.store
    → BookUnlinks id before after (Ok (ended, label))
unlinks id w before after ended label between same refused unlinked reads store =
    subst (λ (b : TaggedBookView). BookUnlinks id b after (Ok (ended, label))) same (record {
      refused = refused;
      between = between;
      unlinked = unlinked;
      labelled = reads;
      unchanged = tt;
      store = store;
    })

-- a list that has a chunk falls in what stands before it, and a row that begins with it
split_from : (c : ℕ) (xs : List ℕ) → 0 < times c xs
    → (before : List ℕ) × (row : List ℕ) × (xs ≡ before ++ row) × (first_of row ≡ Some c)
split_from c [] some = absurd (omega (arith, some))
split_from c (x ∷ xs) some =
    elim (eqb_tells x c) [
      | inl t ↦ ([], x ∷ xs, refl, ap (λ y. Some y) t.1)
      | inr f ↦
          let rest = split_from c xs (rw f.0 at some) in
          (x ∷ rest.0, rest.1, ap (λ ys. x ∷ ys) rest.2, rest.3)
    ]

-- a walk from its first chunk on is one of the list
pub walks : (place : Place) (from first : Option ℕ) (book : TaggedBookView) (slice told : List ℕ) (answer : Walked)
    → IsFirst place from book (Ok first) → WalksOn (list_at book.book.lists place) first slice told answer
    → BookWalks place from book slice told (Ok answer)
walks place None first book slice told answer is on =
    let xs = list_at book.book.lists place in
    record {
      walks = (xs, refl, on [] xs refl (is.all refl));
      given = tt;
      not_there = tt;
      unchanged = tt;
    }
walks place (Some c) first book slice told answer is on =
    let row = split_from c (list_at book.book.lists place) is.there in
    record {
      walks = (row.1, (row.0, row.2, row.3), on row.0 row.1 row.2 (is.given_one ∙ sym row.3));
      given = tt;
      not_there = tt;
      unchanged = tt;
    }

-- what a walk came to so far: these chunks are told, and those are ahead
abbrev pub WalkedSoFar : (row slice chunks : List ℕ) (next : Option ℕ) (count : ℕ) → Type 0
WalkedSoFar row slice chunks next count = (ahead : List ℕ) × (told : List ℕ) × (row ≡ told ++ ahead)
    × (length told ≡ count) × (next ≡ first_of ahead) × (chunks ≡ told ++ drop count slice)

-- it goes on by one chunk
pub walks_more : (xs before row slice chunks : List ℕ) (count chunk : ℕ) (next : Option ℕ) → xs ≡ before ++ row
    → WalkedSoFar row slice chunks (Some chunk) count → count < length slice
    → next ≡ next_of chunk xs → times chunk xs ≡ 1
    → WalkedSoFar row slice (set chunks count chunk) next (count + 1)
walks_more xs before row slice chunks count chunk next whole ([], told, split, many, first, is) room follows once =
    absurd (cc)
walks_more xs before row slice chunks count chunk next whole (c ∷ rest, told, split, many, first, is) room follows once =
    let same : chunk ≡ c = cc in
    let behind : row ≡ told ++ chunk ∷ rest = split ∙ ap (λ d. told ++ d ∷ rest) (sym same) in
    let all : xs ≡ (before ++ told) ++ chunk ∷ rest = whole ∙ ap (λ ys. before ++ ys) behind
    ∙ sym (append_assoc before told (chunk ∷ rest)) in
    let none : times chunk (before ++ told) ≡ 0 = omega (
      arith,
      once,
      ap (times chunk) all,
      times_append chunk (before ++ told) (chunk ∷ rest),
      times_same chunk chunk rest refl,
    ) in
    let next_is : next_of chunk xs ≡ first_of rest = ap (next_of chunk) all
    ∙ next_of-split chunk (before ++ told) rest (apart-from_times chunk (before ++ told) none) in
    let written : chunks ≡ told_first told slice = is ∙ ap (λ k. told ++ drop k slice) (sym many) in
    let longer : length (told ++ chunk ∷ []) ≡ count + 1 = length-append told (chunk ∷ []) ∙ ap (λ k. k + 1) many in (
      rest,
      told ++ chunk ∷ [],
      behind ∙ sym (append_assoc told (chunk ∷ []) rest),
      longer,
      follows ∙ next_is,
      ap (λ ys. set ys count chunk) written ∙ ap (λ k. set (told_first told slice) k chunk) (sym many)
          ∙ told_more told slice chunk (omega (arith, room, many))
          ∙ ap (λ k. (told ++ chunk ∷ []) ++ drop k slice) longer,
    )
