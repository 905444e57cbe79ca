-- What a part does by its desk: it takes the words of a key, looks what the key has, and puts.
use Rattle.std.proofs.Common.{◌≡◌, ℕ, suc, ◌%◌, ◌^◌, List, ◌∷◌, Option, None, IfNone, IfSome, sym, ap, ◌∙◌, subst}
use Rattle.std.specs.Prelude.{slice_index}
use Rattle.packed_words.specs.Spelling.{long_string}
use Rattle.cache_part.specs.Parts.{PartView}
use Rattle.cache_shelf.specs.Entries.{ReadsShelf}
use Rattle.cache_shelf.specs.Shelves.{ShelfView}
use Rattle.bump_cache.specs.Putting.{HadValue}
use Rattle.cache_handles.specs.declared.looking.LookTold.TheVariants as looked
use Rattle.cache_handles.specs.declared.looking.Looked.{Looked}
use Rattle.cache_handles.specs.declared.putting.PutTold.{PutTold}
use Rattle.cache_handles.specs.declared.putting.PutTold.TheVariants as told
use Rattle.cache_handles.specs.Desks.{DeskView}
use Rattle.cache_handles.specs.Looking.{HadWords, TellsLook}
use Rattle.cache_handles.specs.Putting.{Adds, FindsSome, Puts, PutsAnewBy, TellsPut, put_fault}
use Rattle.cache_handles.specs.Rows.{TellsValue}
use Rattle.cache_handles.specs.Views.{BytePartView, fault_in, key_row}

-- a part, by its desk
abbrev pub part_of : DeskView → BytePartView
part_of desk = record {
  shelf = desk.shelf;
  place = desk.place;
  key_bytes = desk.key_bytes;
  value_bytes = desk.value_bytes;
  found = desk.had;
  entry = desk.entry;
}

-- the desk that has taken the words of a key
abbrev pub keyed : DeskView → List ℕ → DeskView
keyed desk key = record desk { key = long_string desk.shelf.part.key_words key }

-- where nothing is told nothing is owed of it, and else is owed what holds
pub if_some_none : {A : Type 0} (o : Option A) (P : A → Type 0) → o ≡ None → IfSome o P
if_some_none o P none = subst (λ (it : Option _). IfSome it P) (sym none) tt

pub if_none : {A : Type 0} (o : Option A) (P : Type 0) → o ≡ None → P → IfNone o P
if_none o P none holds = subst (λ (it : Option _). IfNone it P) (sym none) holds

-- a look changes no width of a part
pub width_same : (before after : ShelfView) → ReadsShelf before after
    → after.part.value_words ≡ before.part.value_words
width_same before after reads = ap (λ (part : PartView). part.value_words) reads.part.rest

module _ (before : DeskView) (key : List ℕ) (taken found : DeskView) (is : taken ≡ keyed before key)
    (reads : ReadsShelf taken.shelf found.shelf)
    (rest : found ≡ record taken { shelf = found.shelf; had = found.had }) where
  -- what was looked at is the shelf as it was
  pub read_before : ReadsShelf before.shelf found.shelf
  read_before = subst (λ (desk : DeskView). ReadsShelf desk.shelf found.shelf) is reads

  -- the key is still there
  pub key_found : found.key ≡ key_row (part_of before) key
  key_found = ap (λ (desk : DeskView). desk.key) rest ∙ ap (λ (desk : DeskView). desk.key) is

  -- nothing else of the part changed
  pub rest_found : part_of found ≡ record (part_of before) { shelf = found.shelf; found = found.had; entry = found.entry }
  rest_found = ap (λ (desk : DeskView).
      record (part_of desk) { shelf = found.shelf; found = found.had; entry = found.entry }) rest
      ∙ ap (λ (desk : DeskView).
      record (part_of desk) { shelf = found.shelf; found = found.had; entry = found.entry }) is

  -- nor where something was put
  pub rest_put : (after : DeskView)
      → after ≡ record found { shelf = after.shelf; had = after.had; entry = after.entry }
      → part_of after ≡ record (part_of before) { shelf = after.shelf; found = after.had; entry = after.entry }
  rest_put after put = ap part_of put
      ∙ (ap (λ (desk : DeskView).
      record (part_of desk) { shelf = after.shelf; found = after.had; entry = after.entry }) rest
      ∙ ap (λ (desk : DeskView).
      record (part_of desk) { shelf = after.shelf; found = after.had; entry = after.entry }) is)

  -- a look that found nothing
  pub looks_nothing : (now : ℕ) → fault_in (part_of before) key ≡ None → HadValue taken.key None now taken.shelf.part
      → TellsLook key now (part_of before) (part_of found) looked.Nothing
  looks_nothing now none had = record {
    fault = if_some_none (fault_in (part_of before) key) _ none;
    looks = if_none (fault_in (part_of before) key) _ none
        (subst (λ (desk : DeskView). HadValue desk.key None now desk.shelf.part) is had);
    reads = if_none (fault_in (part_of before) key) _ none read_before;
    rest = ap (λ (desk : DeskView). record (part_of desk) { shelf = found.shelf; found = found.had }) rest
        ∙ ap (λ (desk : DeskView). record (part_of desk) { shelf = found.shelf; found = found.had }) is;
  }

  -- a look that found something: what is told is what was found
  pub looks_found : (now : ℕ) (told : Looked) → fault_in (part_of before) key ≡ None
      → HadWords taken.key now found.had taken.shelf.part
      → TellsValue (λ i. slice_index found.had (suc i)) told.value.flags told.value.length
      → told.expires ≡ slice_index found.had 0
      → TellsLook key now (part_of before) (part_of found) (looked.Found told)
  looks_found now told none had value expires =
      let it = subst (λ (desk : DeskView). HadWords desk.key now found.had desk.shelf.part) is had in
      let word : (i : ℕ) → slice_index found.had i ≡ slice_index (it.expires ∷ it.value) i =
      λ i. ap (λ (words : List ℕ). slice_index words i) it.words_are in record {
        fault = if_some_none (fault_in (part_of before) key) _ none;
        looks = if_none (fault_in (part_of before) key) _ none (record {
          had = it;
          expires_is = expires ∙ word 0;
          value = record {
            flags_are = value.flags_are ∙ ap (λ (n : ℕ). n % 2 ^ 32) (word 1);
            length_is = value.length_is ∙ word 2;
          };
        });
        reads = if_none (fault_in (part_of before) key) _ none read_before;
        rest = ap (λ (desk : DeskView). record (part_of desk) { shelf = found.shelf; found = found.had }) rest
            ∙ ap (λ (desk : DeskView). record (part_of desk) { shelf = found.shelf; found = found.had }) is;
      }

-- a call that puts, where nothing is against it
pub tells_put : (Does : ShelfView → ShelfView → PutTold → Type 0) (key : List ℕ) (value_length : ℕ)
    (before after : BytePartView) (answer : PutTold) → put_fault before key value_length ≡ None
    → Does before.shelf after.shelf answer
    → after ≡ record before { shelf = after.shelf; found = after.found; entry = after.entry }
    → TellsPut Does key value_length before after answer
tells_put Does key value_length before after answer none does rest = record {
  fault = if_some_none (put_fault before key value_length) _ none;
  does = if_none (put_fault before key value_length) _ none does;
  rest = rest;
}

-- something was found, and no more was done
pub finds_some : (key words : List ℕ) (now : ℕ) (before after : ShelfView) → HadWords key now words before.part
    → ReadsShelf before after → FindsSome key now before after
finds_some key words now before after had reads =
    (had.value, record { had = (had.expires, had.unexpired, had.kept); reads = reads })

-- a put behind a look that found nothing is an add
pub adds_behind : (key value : List ℕ) (expires now : ℕ) (before between after : ShelfView) (answer : PutTold)
    → HadValue key None now before.part → ReadsShelf before between
    → Puts key value expires now between after answer → Adds key value expires now before after answer
adds_behind key value expires now before between after (told.Done evicted) had reads puts =
    (had, record { between = between; looks = reads; does = puts })
adds_behind key value expires now before between after (told.NoRoom evicted) had reads puts =
    (had, record { between = between; looks = reads; does = puts })
adds_behind key value expires now before between after told.Has had reads puts = absurd puts
adds_behind key value expires now before between after told.Nothing had reads puts = absurd puts
adds_behind key value expires now before between after told.KeyBytes had reads puts = absurd puts
adds_behind key value expires now before between after told.ValueBytes had reads puts = absurd puts
adds_behind key value expires now before between after told.OtherPart had reads puts = absurd puts

-- a put behind a look that found something puts anew
pub anew_behind : (make : List ℕ → List ℕ) (until : ℕ → ℕ) (key words : List ℕ) (now : ℕ)
    (before between after : ShelfView) (answer : PutTold) (had : HadWords key now words before.part)
    → ReadsShelf before between → Puts key (make had.value) (until had.expires) now between after answer
    → PutsAnewBy make until key now before after answer
anew_behind make until key words now before between after (told.Done evicted) had reads puts = (
  had.value,
  had.expires,
  had.unexpired,
  had.kept,
  record { between = between; looks = reads; does = puts },
)
anew_behind make until key words now before between after (told.NoRoom evicted) had reads puts = (
  (had.value, (had.expires, had.unexpired, had.kept)),
  record { between = between; looks = reads; does = puts },
)
anew_behind make until key words now before between after told.Has had reads puts = absurd puts
anew_behind make until key words now before between after told.Nothing had reads puts = absurd puts
anew_behind make until key words now before between after told.KeyBytes had reads puts = absurd puts
anew_behind make until key words now before between after told.ValueBytes had reads puts = absurd puts
anew_behind make until key words now before between after told.OtherPart had reads puts = absurd puts
