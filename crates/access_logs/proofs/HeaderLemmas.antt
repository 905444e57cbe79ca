-- Lemmas on a log of records by its first record, which may name columns.
use Rattle.std.proofs.Common.{◌≡◌, ℕ, ◌<◌, Bool, true, false, List, [], ◌∷◌, refl, sym, ap, subst, ◌∙◌, arith}
use Rattle.std.specs.Prelude.{Option, None, Some, IfSome, IfOk, IfErr, OnOk, Result, Ok, Err, option_map}
use Rattle.std.specs.Result.{result_err}
use Rattle.access_logs.specs.Columns.{columns_in}
use Rattle.access_logs.specs.Drafts.{IsDraftOf, IsLogOf}
use Rattle.access_logs.specs.Lines.{IsReadOrMemory}
use Rattle.access_logs.specs.Records.{entries_from, entries_by, entries_of_records, first_record, header_of, columns_of, records_of, IsLogOfRows, ReadsRow, RefusesBy, RefusesRecords}
use Rattle.access_logs.specs.declared.columns.AskedColumns.{AskedColumns}
use Rattle.access_logs.specs.declared.columns.Columns.{Columns}
use Rattle.access_logs.specs.declared.drafts.Draft.{Draft}
use Rattle.access_logs.specs.declared.log.Field.{Field}
use Rattle.access_logs.specs.declared.log.Log.{Log}
use Rattle.access_logs.specs.declared.log.LogFault.{LogFault}
use Rattle.access_logs.specs.declared.log.LogFault.TheVariants as fault
use Rattle.access_logs.proofs.EntryLemmas.{refused-read}
use Rattle.access_logs.proofs.RecordLemmas.{entries_from-nil}

-- the reader failed in the first record, or memory
pub refused-first : (strict : Bool) (first : ℕ) (found : Result Columns Field) (rows : List (List (List ℕ))) (why : LogFault) → IsReadOrMemory 1 why → 0 < first → RefusesBy strict first found rows why
refused-first strict first (Ok columns) rows why due some = refused-read strict first (entries_from first columns rows) 1 why due (omega arith) (omega (arith, some))
refused-first strict first (Err lacking) rows (fault.Read number cause) due some = due
refused-first strict first (Err lacking) rows fault.TooManyLines due some = absurd due
refused-first strict first (Err lacking) rows fault.Memory due some = tt
refused-first strict first (Err lacking) rows (fault.Unreadable found) due some = absurd due
refused-first strict first (Err lacking) rows fault.TooManyKeys due some = absurd due
refused-first strict first (Err lacking) rows (fault.NoColumn field) due some = absurd due

-- the first record lacks the name of a column
pub refused-header : (strict : Bool) (first : ℕ) (asked : AskedColumns) (known left : Option (List (List (List ℕ)))) (found : Bool) (names : List (List ℕ)) (lacking : Field)
    → ReadsRow known found names left → (found ≡ false → names ≡ []) → columns_in names asked ≡ Err lacking
    → IfSome known (λ rows. RefusesBy strict first (columns_in (header_of rows) asked) rows (fault.NoColumn lacking))
refused-header strict first asked None left found names lacking read none lacks = tt
refused-header strict first asked (Some rows) left found names lacking read none lacks =
    subst (λ columns. RefusesBy strict first columns rows (fault.NoColumn lacking)) (sym (ap (λ row. columns_in row asked) (by found left read none) ∙ lacks)) refl
  where
    by : (b : Bool) (o : Option (List (List (List ℕ)))) → ReadsRow (Some rows) b names o → (b ≡ false → names ≡ []) → header_of rows ≡ names
    by true None r empty = absurd r
    by true (Some rest) r empty = ap header_of r
    by false o r empty = ap header_of r ∙ sym (empty refl)

-- what holds of the first record and the others holds of all
pub rows-front : (P : List (List (List ℕ)) → Type 0) (known left : Option (List (List (List ℕ)))) (row : List (List ℕ)) (found : Bool) → ReadsRow known found row left → found ≡ true
    → IfSome left (λ rest. P (row ∷ rest)) → IfSome known P
rows-front P None left row found read some p = tt
rows-front P (Some rows) left row found read some p = by left (subst (λ b. ReadsRow (Some rows) b row left) some read) p
  where
    by : (o : Option (List (List (List ℕ)))) → ReadsRow (Some rows) true row o → IfSome o (λ rest. P (row ∷ rest)) → P rows
    by None r q = absurd r
    by (Some rest) r q = subst P (sym r) q

-- a draft of nothing is one of no records
pub first-draft : (strict : Bool) (first : ℕ) (columns : Columns) (draft : Draft) → ((number : ℕ) → IsDraftOf strict number [] draft) → IsDraftOf strict first (entries_from first columns []) draft
first-draft strict first columns draft fresh = subst (λ entries. IsDraftOf strict first entries draft) (sym (entries_from-nil first columns)) (fresh first)

module _ (strict : Bool) (asked : AskedColumns) (header : Bool) (first : ℕ) (is : first ≡ first_record header asked) (known : Option (List ℕ)) (left : Option (List (List (List ℕ)))) (rows : left ≡ option_map records_of known) (result : Result Log LogFault) where
  -- the log of a text's records
  pub log-of : IfOk result (IsLogOfRows strict first asked left)
      → IfSome known (λ bytes. IfOk result (IsLogOf strict (first_record header asked) (entries_of_records asked header bytes)))
  log-of read = by known result (subst (λ o. IfOk result (IsLogOfRows strict first asked o)) rows read)
    where
      by : (o : Option (List ℕ)) (r : Result Log LogFault) → IfOk r (IsLogOfRows strict first asked (option_map records_of o))
          → IfSome o (λ bytes. IfOk r (IsLogOf strict (first_record header asked) (entries_of_records asked header bytes)))
      by None r p = tt
      by (Some bytes) (Err why) p = tt
      by (Some bytes) (Ok log) p =
          subst (λ rs. IsLogOf strict (first_record header asked) (entries_by (first_record header asked) (columns_in (header_of rs) asked) rs) log) (sym p.4)
          (subst (λ n. IsLogOf strict n (entries_by n (columns_in (header_of p.0) asked) p.0) log) is
          (subst (λ found. IsLogOf strict first (entries_by first found p.0) log) (sym p.2) p.3))

  -- and its columns are there
  pub columns-read : IfOk result (IsLogOfRows strict first asked left) → IfSome known (λ bytes. OnOk result (result_err (columns_of asked bytes) ≡ None))
  columns-read read = by known result (subst (λ o. IfOk result (IsLogOfRows strict first asked o)) rows read)
    where
      by : (o : Option (List ℕ)) (r : Result Log LogFault) → IfOk r (IsLogOfRows strict first asked (option_map records_of o)) → IfSome o (λ bytes. OnOk r (result_err (columns_of asked bytes) ≡ None))
      by None r p = tt
      by (Some bytes) (Err why) p = tt
      by (Some bytes) (Ok log) p = ap (λ rs. result_err (columns_in (header_of rs) asked)) p.4 ∙ ap result_err p.2

  -- or why there is none
  pub refusal-of : IfErr result (λ why. IfSome left (λ rs. RefusesBy strict first (columns_in (header_of rs) asked) rs why))
      → IfSome known (λ bytes. IfErr result (RefusesRecords strict asked header bytes))
  refusal-of refused = by known result (subst (λ o. IfErr result (λ why. IfSome o (λ rs. RefusesBy strict first (columns_in (header_of rs) asked) rs why))) rows refused)
    where
      by : (o : Option (List ℕ)) (r : Result Log LogFault) → IfErr r (λ why. IfSome (option_map records_of o) (λ rs. RefusesBy strict first (columns_in (header_of rs) asked) rs why))
          → IfSome o (λ bytes. IfErr r (RefusesRecords strict asked header bytes))
      by None r p = tt
      by (Some bytes) (Ok log) p = tt
      by (Some bytes) (Err why) p = subst (λ n. RefusesBy strict n (columns_of asked bytes) (records_of bytes) why) is p
