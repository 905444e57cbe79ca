-- Lemmas on the records of a text, one after the other.
use Rattle.std.proofs.Common.{◌||◌, ◌≡◌, ℕ, zero, suc, ◌+◌, ◌-◌, ◌<◌, ◌≤◌, Bool, true, false, cond, List, [], ◌∷◌, ◌++◌, map, drop, length, refl, sym, ap, subst, ◌∙◌, arith, length-append, length-drop, append_assoc, append-nil, zero-le, drop_of_length-le, true≢false}
use Rattle.std.specs.Prelude.{Option, None, Some, IfSome, is_some, unwrap_or, option_map, nat_le}
use Rattle.std.specs.Io.KnownBytes.{append_known}
use Rattle.std.proofs.lemmas.List.{map-append, length-map}
use Rattle.std.proofs.Math.Seq.{drop-append-le}
use Rattle.std.proofs.lemmas.Bool.{leb-true, leb-false}
use Rattle.csv.specs.Machine.{Read, next_record, step, is_end, ends_at_end, fields_after, field_after}
use Rattle.csv.specs.Reading.{Reached, ReadRecord, default_config, records, records_from, records_next, source_of, strip_bom, reader_config, reader_state}
use Rattle.csv.specs.declared.parser.Config.{Config}
use Rattle.csv.specs.declared.parser.State.{State}
use Rattle.csv.specs.declared.parser.State.TheVariants as st
use Rattle.csv.specs.declared.reader.Reader.{Reader}
use Rattle.csv.proofs.ReadFacts.{rows-more, rows-end}
use Rattle.access_logs.specs.Entries.{Said, RefusesLog}
use Rattle.access_logs.specs.Lines.{IsReadOrMemory}
use Rattle.access_logs.specs.Records.{entry_of_record, entries_from, first_record, line_feeds, records_of, rows_left, ReadsRow}
use Rattle.access_logs.specs.Columns.{has_name}
use Rattle.access_logs.specs.declared.columns.AskedColumns.{AskedColumns}
use Rattle.access_logs.specs.declared.columns.Columns.{Columns}
use Rattle.access_logs.specs.declared.log.LogFault.{LogFault}
use Rattle.access_logs.proofs.EntryLemmas.{refused-more, refused-read}

-- what an option holds
some-is : (x p : Read) → Some x ≡ Some p → x ≡ p
some-is x p is = ap (λ o. unwrap_or o x) is

-- a record takes at least a byte of a text that has one
next-shorter : (cfg : Config) (s : State) (fields : List (List ℕ)) (field bytes : List ℕ) (p : Read) → next_record cfg s fields field bytes ≡ Some p → length p.2 ≤ length bytes - 1
unfolding next_record
next-shorter cfg s fields field [] p is = by (ends_at_end s) is
  where
    by : (b : Bool) → cond b (Some (fields ++ (field ∷ []), st.StartRecord, [])) None ≡ Some p → length p.2 ≤ 0
    by true h = let end = ap (λ x. length x.2) (some-is (fields ++ (field ∷ []), st.StartRecord, []) p h) in omega (arith, end)
    by false h = absurd (true≢false (sym (ap is_some h)))
next-shorter cfg s fields field (byte ∷ bytes) p is =
    by (is_end (step cfg s byte).1) is
    (next-shorter cfg (step cfg s byte).0 (fields_after (step cfg s byte).1 fields field) (field_after (step cfg s byte).1 byte field) bytes p)
  where
    by : (b : Bool) → cond b (Some (fields_after (step cfg s byte).1 fields field, (step cfg s byte).0, bytes))
        (next_record cfg (step cfg s byte).0 (fields_after (step cfg s byte).1 fields field) (field_after (step cfg s byte).1 byte field) bytes) ≡ Some p
        → (next_record cfg (step cfg s byte).0 (fields_after (step cfg s byte).1 fields field) (field_after (step cfg s byte).1 byte field) bytes ≡ Some p → length p.2 ≤ length bytes - 1)
        → length p.2 ≤ length (byte ∷ bytes) - 1
    by true h rest = let end = ap (λ x. length x.2) (some-is (fields_after (step cfg s byte).1 fields field, (step cfg s byte).0, bytes) p h) in omega (arith, end)
    by false h rest = let left = rest h in omega (arith, left)

-- behind the record that the end of a text ends there is none
last-record : (cfg : Config) (s : State) (p : Read) → next_record cfg s [] [] [] ≡ Some p → next_record cfg p.1 [] [] p.2 ≡ None
unfolding next_record
last-record cfg s p is = by (ends_at_end s) is
  where
    by : (b : Bool) → cond b (Some ([] ∷ [], st.StartRecord, [])) None ≡ Some p → next_record cfg p.1 [] [] p.2 ≡ None
    by true h = ap (λ q. next_record cfg q.1 [] [] q.2) (sym (some-is ([] ∷ [], st.StartRecord, []) p h))
    by false h = absurd (true≢false (sym (ap is_some h)))

-- where there is no next record, there are none
pub ended : (cfg : Config) (n : ℕ) (s : State) (xs : List ℕ) → next_record cfg s [] [] xs ≡ None → records_from cfg n s xs ≡ []
unfolding records_from
ended cfg zero s xs none = refl
ended cfg (suc n) s xs none = ap (records_next (records_from cfg n)) none

-- the records of the rest of a text are the same with any bound beyond its length
records_from-same : (cfg : Config) (n m : ℕ) (s : State) (xs : List ℕ) → length xs < n → length xs < m → records_from cfg n s xs ≡ records_from cfg m s xs
unfolding records_from
records_from-same cfg zero m s xs far other = absurd (omega (arith, far))
records_from-same cfg (suc n) zero s xs far other = absurd (omega (arith, other))
records_from-same cfg (suc n) (suc m) s [] far other = by (next_record cfg s [] [] []) refl
  where
    by : (o : Option Read) → next_record cfg s [] [] [] ≡ o → records_next (records_from cfg n) o ≡ records_next (records_from cfg m) o
    by None is = refl
    by (Some p) is = let none = last-record cfg s p is in ap (λ rows. p.0 ∷ rows) (ended cfg n p.1 p.2 none ∙ sym (ended cfg m p.1 p.2 none))
records_from-same cfg (suc n) (suc m) s (x ∷ xs) far other = by (next_record cfg s [] [] (x ∷ xs)) refl (λ t ys. records_from-same cfg n m t ys)
  where
    by : (o : Option Read) → next_record cfg s [] [] (x ∷ xs) ≡ o
        → ((t : State) (ys : List ℕ) → length ys < n → length ys < m → records_from cfg n t ys ≡ records_from cfg m t ys)
        → records_next (records_from cfg n) o ≡ records_next (records_from cfg m) o
    by None is same = refl
    by (Some p) is same = let shorter = next-shorter cfg s [] [] (x ∷ xs) p is in ap (λ rows. p.0 ∷ rows) (same p.1 p.2 (omega (arith, shorter, far)) (omega (arith, shorter, other)))

-- the records are the next one and those of the text behind it
records_from-front : (cfg : Config) (n : ℕ) (s : State) (xs : List ℕ) (p : Read) → length xs < n → next_record cfg s [] [] xs ≡ Some p
    → records_from cfg n s xs ≡ p.0 ∷ records_from cfg (length p.2 + 1) p.1 p.2
unfolding records_from
records_from-front cfg zero s xs p far is = absurd (omega (arith, far))
records_from-front cfg (suc n) s [] p far is =
    let none = last-record cfg s p is in
    ap (records_next (records_from cfg n)) is ∙ ap (λ rows. p.0 ∷ rows) (ended cfg n p.1 p.2 none ∙ sym (ended cfg (length p.2 + 1) p.1 p.2 none))
records_from-front cfg (suc n) s (x ∷ xs) p far is =
    let shorter = next-shorter cfg s [] [] (x ∷ xs) p is in
    ap (records_next (records_from cfg n)) is ∙ ap (λ rows. p.0 ∷ rows) (records_from-same cfg n (length p.2 + 1) p.1 p.2 (omega (arith, shorter, far)) (omega arith))

-- ---- what records say

-- no records say nothing
pub entries_from-nil : (first : ℕ) (columns : Columns) → entries_from first columns [] ≡ []
entries_from-nil first columns = ap (map (entry_of_record columns)) (drop_of_length-le [] {i = first - 1} zero-le)

-- one more record that has a key
pub entries_from-more : (first : ℕ) (columns : Columns) (seen : List (List (List ℕ))) (row : List (List ℕ)) → first - 1 ≤ length seen
    → entries_from first columns (seen ++ row ∷ []) ≡ entries_from first columns seen ++ entry_of_record columns row ∷ []
entries_from-more first columns seen row far =
    ap (map (entry_of_record columns)) (drop-append-le (first - 1) seen (row ∷ []) far) ∙ map-append (entry_of_record columns) (drop (first - 1) seen) (row ∷ [])

-- each record but those before the first that has a key says something
pub length-entries_from : (first : ℕ) (columns : Columns) (seen : List (List (List ℕ))) → length (entries_from first columns seen) ≡ length seen - (first - 1)
length-entries_from first columns seen = length-map (drop (first - 1) seen) (entry_of_record columns) ∙ length-drop (first - 1) seen

-- the record behind those that were seen stands behind what they say, or before the first that has a key
pub entries_from-reach : (first : ℕ) (columns : Columns) (seen : List (List (List ℕ))) (number : ℕ) → 0 < first → number ≡ 1 + length seen → number ≤ first + length (entries_from first columns seen)
entries_from-reach first columns seen number some is = let long = length-entries_from first columns seen in omega (arith, long, some, is)

-- the reader failed in that record, or memory
pub refused-next : (strict : Bool) (first : ℕ) (columns : Columns) (seen : List (List (List ℕ))) (number : ℕ) (why : LogFault) → 0 < first → number ≡ 1 + length seen → IsReadOrMemory number why
    → RefusesLog strict first (entries_from first columns seen) why
refused-next strict first columns seen number why some is due = refused-read strict first (entries_from first columns seen) number why due (omega (arith, is)) (entries_from-reach first columns seen number some is)

-- the first record that has a key is no record 0
pub first_record-some : (header : Bool) (asked : AskedColumns) (first : ℕ) → first ≡ first_record header asked → 0 < first
first_record-some header asked first is = by (header || has_name asked) is
  where
    by : (b : Bool) → first ≡ cond b 2 1 → 0 < first
    by true same = omega (arith, same)
    by false same = omega (arith, same)

-- one more record before the first that has a key
pub entries_from-before : (first : ℕ) (columns : Columns) (seen : List (List (List ℕ))) (row : List (List ℕ)) → length seen < first - 1
    → entries_from first columns (seen ++ row ∷ []) ≡ entries_from first columns seen
entries_from-before first columns seen row near =
    let longer = length-append seen (row ∷ []) in
    ap (map (entry_of_record columns)) (drop_of_length-le (seen ++ row ∷ []) {i = first - 1} (omega (arith, longer, near)) ∙ sym (drop_of_length-le seen {i = first - 1} (omega (arith, near))))

-- what the records say that were read so far is the first of what all say
entries_from-front : (first : ℕ) (columns : Columns) (seen more : List (List (List ℕ)))
    → (rest : List Said) × (entries_from first columns (seen ++ more) ≡ entries_from first columns seen ++ rest)
entries_from-front first columns seen more = by (nat_le (first - 1) (length seen)) refl
  where
    by : (b : Bool) → nat_le (first - 1) (length seen) ≡ b → (rest : List Said) × (entries_from first columns (seen ++ more) ≡ entries_from first columns seen ++ rest)
    by true far = (
      map (entry_of_record columns) more,
      ap (map (entry_of_record columns)) (drop-append-le (first - 1) seen more (leb-true (first - 1) (length seen) far)) ∙ map-append (entry_of_record columns) (drop (first - 1) seen) more,
    )
    by false near =
        let above = leb-false (first - 1) (length seen) near in
        let none : entries_from first columns seen ≡ [] = ap (map (entry_of_record columns)) (drop_of_length-le seen {i = first - 1} (omega (arith, above))) in
        (entries_from first columns (seen ++ more), ap (λ l. l ++ entries_from first columns (seen ++ more)) (sym none))

-- ---- a reader's records

-- a reader of a text, with none read
pub rows-opened : (known : Option (List ℕ)) → option_map (records default_config) (option_map strip_bom (append_known known line_feeds)) ≡ option_map records_of known
rows-opened None = refl
rows-opened (Some bytes) = refl

module _ {R : Type 0} (remaining : R → Option (List ℕ)) (old new : Reader R) (found : Bool) (row : List (List ℕ)) (config : reader_config old ≡ default_config) (read : ReadRecord remaining old new found row) where
  -- a read that found a record read the first of those that were left
  pub row-reads : found ≡ true → ReadsRow (rows_left remaining old) true row (rows_left remaining new)
  unfolding Reached
  row-reads some = by (source_of remaining old) refl (subst (λ b. ReadRecord remaining old new b row) some read)
    where
      by : (bytes : Option (List ℕ)) → source_of remaining old ≡ bytes → ReadRecord remaining old new true row
          → ReadsRow (option_map (λ xs. records_from default_config (length xs + 1) (reader_state old) xs) bytes) true row (rows_left remaining new)
      by None is r = tt
      by (Some xs) is r =
          let more = rows-more remaining old new row default_config (reader_state old) xs xs [] config is (refl, refl) r in
          let p = more.2.0 in
          let rest = ap (λ s. records_from default_config (length p.2 + 1) s p.2) more.2.3.0 ∙ ap (λ ys. records_from default_config (length ys + 1) (reader_state new) ys) more.2.3.1 in
          let all = records_from-front default_config (length xs + 1) (reader_state old) xs p (omega arith) more.2.1 ∙ ap (λ fields. fields ∷ records_from default_config (length p.2 + 1) p.1 p.2) (sym more.2.2) ∙ ap (λ rows. row ∷ rows) rest in
          subst (λ o. ReadsRow (Some (records_from default_config (length xs + 1) (reader_state old) xs)) true row (option_map (λ ys. records_from default_config (length ys + 1) (reader_state new) ys) o)) (sym more.1) all

  -- and where it found none there was none left
  pub none-reads : (fields : List (List ℕ)) → found ≡ false → ReadsRow (rows_left remaining old) false fields (rows_left remaining new)
  none-reads fields none = by (source_of remaining old) refl (subst (λ b. ReadRecord remaining old new b row) none read)
    where
      by : (bytes : Option (List ℕ)) → source_of remaining old ≡ bytes → ReadRecord remaining old new false row
          → ReadsRow (option_map (λ xs. records_from default_config (length xs + 1) (reader_state old) xs) bytes) false fields (rows_left remaining new)
      by None is r = tt
      by (Some xs) is r = ended default_config (length xs + 1) (reader_state old) xs (rows-end remaining old new row default_config xs config is r)

-- of the records that a reader had, where they are known, these were read and the others are left
abbrev pub AreRead : Option (List (List (List ℕ))) → List (List (List ℕ)) → Option (List (List (List ℕ))) → Type 0
AreRead known seen left = IfSome known (λ rows. (rest : List (List (List ℕ))) × (rows ≡ seen ++ rest) × (left ≡ Some rest))

-- none was read
pub none-read : (known : Option (List (List (List ℕ)))) → AreRead known [] known
none-read None = tt
none-read (Some rows) = (rows, refl, refl)

-- one more
pub row-read : (known left after : Option (List (List (List ℕ)))) (seen : List (List (List ℕ))) (row : List (List ℕ)) (found : Bool) → AreRead known seen left
    → ReadsRow left found row after → found ≡ true → AreRead known (seen ++ row ∷ []) after
row-read None left after seen row found before read some = tt
row-read (Some rows) left after seen row found before read some = by after (subst (λ b. ReadsRow (Some before.0) b row after) some (subst (λ o. ReadsRow o found row after) before.2 read))
  where
    by : (o : Option (List (List (List ℕ)))) → ReadsRow (Some before.0) true row o → AreRead (Some rows) (seen ++ row ∷ []) o
    by None r = absurd r
    by (Some rest) r = (rest, before.1 ∙ ap (λ l. seen ++ l) r ∙ sym (append_assoc seen (row ∷ []) rest), refl)

-- no more
pub all-read : (known left after : Option (List (List (List ℕ)))) (seen : List (List (List ℕ))) (row : List (List ℕ)) (found : Bool) → AreRead known seen left
    → ReadsRow left found row after → found ≡ false → IfSome known (λ rows. rows ≡ seen)
all-read None left after seen row found before read none = tt
all-read (Some rows) left after seen row found before read none =
    before.1 ∙ ap (λ l. seen ++ l) (subst (λ b. ReadsRow (Some before.0) b row after) none (subst (λ o. ReadsRow o found row after) before.2 read)) ∙ append-nil seen

-- why the records that were read so far are refused is why all are
pub refused-rest : (strict : Bool) (first : ℕ) (columns : Columns) (header : List (List ℕ)) (known left : Option (List (List (List ℕ)))) (seen : List (List (List ℕ))) (why : LogFault)
    → AreRead known seen left → RefusesLog strict first (entries_from first columns (header ∷ seen)) why
    → IfSome known (λ rows. RefusesLog strict first (entries_from first columns (header ∷ rows)) why)
refused-rest strict first columns header None left seen why before due = tt
refused-rest strict first columns header (Some rows) left seen why before due =
    let more = entries_from-front first columns (header ∷ seen) before.0 in
    subst (λ rs. RefusesLog strict first (entries_from first columns (header ∷ rs)) why) (sym before.1)
    (subst (λ entries. RefusesLog strict first entries why) (sym more.1) (refused-more strict first (entries_from first columns (header ∷ seen)) more.0 why due))
