-- Lemmas on the place of a name in a header, and on the columns that are asked for.
use Rattle.std.proofs.Common.{◌≡◌, ℕ, zero, suc, ◌+◌, ◌≤◌, Bool, true, false, cond, List, [], ◌∷◌, drop, length, refl, sym, ap, ◌∙◌, arith, true≢false, drop_of_length-le}
use Rattle.std.specs.Prelude.{Option, Some, None, is_some, unwrap_or, option_map, Result, Ok, Err, is_ok}
use Rattle.std.specs.List.{position_from}
use Rattle.csv.specs.Records.{field_at}
use Rattle.access_logs.specs.Columns.{column_in, asked_in, columns_with_key, columns_in}
use Rattle.access_logs.specs.declared.columns.AskedColumns.{AskedColumns}
use Rattle.access_logs.specs.declared.columns.Columns.{Columns}
use Rattle.access_logs.specs.declared.log.Column.{Column}
use Rattle.access_logs.specs.declared.log.Field.{Field}

-- what is left of fields begins with the next
drop-next : (fields : List (List ℕ)) (n : ℕ) (field : List ℕ) → field_at fields n ≡ Some field → drop n fields ≡ field ∷ drop (suc n) fields
unfolding field_at
drop-next [] n field is = absurd (true≢false (sym (ap is_some is)))
drop-next (first ∷ fields) zero field is = ap (λ o. unwrap_or o first ∷ fields) is
drop-next (first ∷ fields) (suc n) field is = drop-next fields n field is

module _ (test : List ℕ → Bool) (fields : List (List ℕ)) (place : ℕ) where
  -- where the next passes, it is the first that does
  pub found-next : (field : List ℕ) → field_at fields place ≡ Some field → test field ≡ true → position_from test place (drop place fields) ≡ Some place
  found-next field is passes =
      ap (position_from test place) (drop-next fields place field is)
      ∙ ap (λ b. cond b (Some place) (position_from test (place + 1) (drop (suc place) fields))) passes

  -- and else the first is among the others
  pub found-later : (field : List ℕ) → field_at fields place ≡ Some field → test field ≡ false
      → position_from test place (drop place fields) ≡ position_from test (place + 1) (drop (place + 1) fields)
  found-later field is fails =
      let one : suc place ≡ place + 1 = omega arith in
      ap (position_from test place) (drop-next fields place field is)
      ∙ ap (λ b. cond b (Some place) (position_from test (place + 1) (drop (suc place) fields))) fails
      ∙ ap (λ n. position_from test (place + 1) (drop n fields)) one

  -- where none are left, none passes
  pub found-none : length fields ≤ place → position_from test place (drop place fields) ≡ None
  found-none end = ap (position_from test place) (drop_of_length-le fields {i = place} end)

-- ---- the columns that are asked for

-- a column that is asked for has a number
asked-some : (header : List (List ℕ)) (column : Option Column) (number : Option ℕ) → asked_in header column ≡ Some number → is_some number ≡ is_some column
asked-some header None None is = refl
asked-some header None (Some n) is = sym (ap (λ o. is_some (unwrap_or o None)) is)
asked-some header (Some column) number is = by (column_in header column) is
  where
    by : (found : Option ℕ) → option_map (λ n. Some n) found ≡ Some number → is_some number ≡ true
    by None none = absurd (true≢false (sym (ap is_some none)))
    by (Some n) some = sym (ap (λ o. is_some (unwrap_or o None)) some)

-- columns, as a result
abbrev ok : Columns → Result Columns Field
ok columns = Ok columns

-- what a result holds
result-is : (other x y : Columns) → ok x ≡ ok y → x ≡ y
result-is other x y is = ap (λ r. held r) is
  where
    held : Result Columns Field → Columns
    held (Ok columns) = columns
    held (Err field) = other

module _ (header : List (List ℕ)) (asked : AskedColumns) (columns : Columns) (are : columns_in header asked ≡ Ok columns) where
  -- what is found for each column that is asked for is what the columns have
  parts : (key : Option ℕ) (size time operation ttl : Option (Option ℕ)) → columns_with_key key size time operation ttl ≡ Ok columns
      → (size ≡ Some columns.size) × (time ≡ Some columns.time) × (operation ≡ Some columns.operation) × (ttl ≡ Some columns.ttl)
  parts None size time operation ttl is = absurd (true≢false (sym (ap is_ok is)))
  parts (Some key) None time operation ttl is = absurd (true≢false (sym (ap is_ok is)))
  parts (Some key) (Some size) None operation ttl is = absurd (true≢false (sym (ap is_ok is)))
  parts (Some key) (Some size) (Some time) None ttl is = absurd (true≢false (sym (ap is_ok is)))
  parts (Some key) (Some size) (Some time) (Some operation) None is = absurd (true≢false (sym (ap is_ok is)))
  parts (Some key) (Some size) (Some time) (Some operation) (Some ttl) is =
      let same = result-is columns (record { key = key; size = size; time = time; operation = operation; ttl = ttl }) columns is in
      (ap (λ c. Some c.size) same, ap (λ c. Some c.time) same, ap (λ c. Some c.operation) same, ap (λ c. Some c.ttl) same)

  all : (asked_in header asked.size ≡ Some columns.size) × (asked_in header asked.time ≡ Some columns.time)
      × (asked_in header asked.operation ≡ Some columns.operation) × (asked_in header asked.ttl ≡ Some columns.ttl)
  all = parts (column_in header asked.key) (asked_in header asked.size) (asked_in header asked.time) (asked_in header asked.operation) (asked_in header asked.ttl) are

  -- there is a column of sizes where one is asked for
  pub size-asked : is_some columns.size ≡ is_some asked.size
  size-asked = asked-some header asked.size columns.size all.0

  -- and of times
  pub time-asked : is_some columns.time ≡ is_some asked.time
  time-asked = asked-some header asked.time columns.time all.1

  -- and of operations
  pub operation-asked : is_some columns.operation ≡ is_some asked.operation
  operation-asked = asked-some header asked.operation columns.operation all.2

  -- and of how long what is put lasts
  pub ttl-asked : is_some columns.ttl ≡ is_some asked.ttl
  ttl-asked = asked-some header asked.ttl columns.ttl all.3
