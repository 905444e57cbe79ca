-- Lemmas on how many sizes, times, operations and ttls are in a log: as many as accesses where they are asked for, and
-- else none.
use Rattle.std.proofs.Common.{◌≡◌, ℕ, suc, ◌-◌, Bool, true, false, List, [], ◌∷◌, ◌++◌, map, drop, length, refl, sym, ap, ◌∙◌, true≢false}
use Rattle.std.specs.Prelude.{Option, Some, None, is_some, option_map, filter_map, nat_lt, ◌==◌, if◌then◌else◌}
use Rattle.std.specs.List.{cons_option}
use Rattle.std.proofs.lemmas.List.{length-map}
use Rattle.std.proofs.lemmas.List.Elements.{filter_map-append}
use Rattle.access_logs.specs.Drafts.{IsLogOf}
use Rattle.access_logs.specs.Entries.{Said, Taken, Unread, key_in, size_in, time_in, operation_in, ttl_in, of_key, keys_in, sizes_in, times_in, operations_in, ttls_in}
use Rattle.access_logs.specs.Keys.{distinct, number_among}
use Rattle.access_logs.specs.Lines.{longest_key, content_of, entry_of_line}
use Rattle.access_logs.specs.Records.{with_ttl, with_operation, with_time, with_size, with_key, key_of_record, size_of_record, time_of_record, operation_of_record, ttl_of_record, asked_size, asked_time, asked_operation, asked_ttl, is_long, entry_of_record, entries_from}
use Rattle.access_logs.specs.declared.log.Defect.{Defect}
use Rattle.access_logs.specs.declared.log.Defect.TheVariants as defect
use Rattle.access_logs.specs.declared.log.Field.TheVariants as field
use Rattle.access_logs.specs.declared.log.Log.{Log}
use Rattle.access_logs.specs.declared.columns.Columns.{Columns}
use Rattle.access_logs.specs.declared.operations.Operation.{Operation}

-- ---- lines

-- what neither an access of a key alone nor a defect tells, no line tells
none-line : {A : Type 0} (tell : Said → Option A) → ((defect : Defect) → tell (Unread defect) ≡ None) → ((key : List ℕ) → tell (Taken (of_key key)) ≡ None)
    → (line : List ℕ) → tell (entry_of_line line) ≡ None
unfolding entry_of_line
none-line tell unread bare line = by (length (content_of line) == 0) (nat_lt longest_key (length (content_of line)))
  where
    by : (a b : Bool) → tell (if a then Unread (defect.Lacks field.Key) else if b then Unread defect.TooLong else Taken (of_key (content_of line))) ≡ None
    by true b = unread (defect.Lacks field.Key)
    by false true = unread defect.TooLong
    by false false = bare (content_of line)

-- a line more tells no size
pub no_sizes-line : (entries : List Said) (line : List ℕ) → sizes_in entries ≡ [] → sizes_in (entries ++ entry_of_line line ∷ []) ≡ []
no_sizes-line entries line none =
    filter_map-append size_in entries (entry_of_line line ∷ []) ∙ ap (λ l. l ++ sizes_in (entry_of_line line ∷ [])) none
    ∙ ap (λ o. cons_option o []) (none-line size_in (λ defect. refl) (λ key. refl) line)

-- nor a time
pub no_times-line : (entries : List Said) (line : List ℕ) → times_in entries ≡ [] → times_in (entries ++ entry_of_line line ∷ []) ≡ []
no_times-line entries line none =
    filter_map-append time_in entries (entry_of_line line ∷ []) ∙ ap (λ l. l ++ times_in (entry_of_line line ∷ [])) none
    ∙ ap (λ o. cons_option o []) (none-line time_in (λ defect. refl) (λ key. refl) line)

-- nor an operation
pub no_operations-line : (entries : List Said) (line : List ℕ) → operations_in entries ≡ [] → operations_in (entries ++ entry_of_line line ∷ []) ≡ []
no_operations-line entries line none =
    filter_map-append operation_in entries (entry_of_line line ∷ []) ∙ ap (λ l. l ++ operations_in (entry_of_line line ∷ [])) none
    ∙ ap (λ o. cons_option o []) (none-line operation_in (λ defect. refl) (λ key. refl) line)

-- nor how long something lasts
pub no_ttls-line : (entries : List Said) (line : List ℕ) → ttls_in entries ≡ [] → ttls_in (entries ++ entry_of_line line ∷ []) ≡ []
no_ttls-line entries line none =
    filter_map-append ttl_in entries (entry_of_line line ∷ []) ∙ ap (λ l. l ++ ttls_in (entry_of_line line ∷ [])) none
    ∙ ap (λ o. cons_option o []) (none-line ttl_in (λ defect. refl) (λ key. refl) line)

-- ---- records

module _ {A : Type 0} (tell : Said → Option A) (columns : Columns) where
  -- what no record tells isn't told
  none-rows : ((row : List (List ℕ)) → tell (entry_of_record columns row) ≡ None) → (rows : List (List (List ℕ))) → filter_map tell (map (entry_of_record columns) rows) ≡ []
  none-rows none [] = refl
  none-rows none (row ∷ rows) = ap (λ o. cons_option o (filter_map tell (map (entry_of_record columns) rows))) (none row) ∙ none-rows none rows

  -- what each record with a key tells is told as often as a key
  as_many-rows : ((row : List (List ℕ)) → is_some (tell (entry_of_record columns row)) ≡ is_some (key_in (entry_of_record columns row)))
      → (rows : List (List (List ℕ))) → length (filter_map tell (map (entry_of_record columns) rows)) ≡ length (keys_in (map (entry_of_record columns) rows))
  as_many-rows same [] = refl
  as_many-rows same (row ∷ rows) = by (tell (entry_of_record columns row)) (key_in (entry_of_record columns row)) (same row) (as_many-rows same rows)
    where
      told : List A
      told = filter_map tell (map (entry_of_record columns) rows)

      keys : List (List ℕ)
      keys = keys_in (map (entry_of_record columns) rows)

      by : (one : Option A) (key : Option (List ℕ)) → is_some one ≡ is_some key → length told ≡ length keys → length (cons_option one told) ≡ length (cons_option key keys)
      by None None is rest = rest
      by (Some one) (Some key) is rest = ap (λ n. suc n) rest
      by None (Some key) is rest = absurd (true≢false (sym is))
      by (Some one) None is rest = absurd (true≢false is)

module _ (columns : Columns) (row : List (List ℕ)) where
  -- where no size is asked for, a record tells none
  no_size-row : is_some columns.size ≡ false → size_in (entry_of_record columns row) ≡ None
  no_size-row none = by (is_long row) (key_of_record columns.key row) columns.size none (asked_time columns.time row) (asked_operation columns.operation row) (asked_ttl columns.ttl row)
    where
      by : (long : Bool) (key : Option (List ℕ)) (size : Option ℕ) → is_some size ≡ false → (time : Option (Option ℕ)) (operation : Option (Option Operation)) (ttl : Option (Option ℕ))
          → size_in (if long then Unread defect.TooLong else with_key key (asked_size size row) time operation ttl) ≡ None
      by true key size is time operation ttl = refl
      by false None size is time operation ttl = refl
      by false (Some key) None is None operation ttl = refl
      by false (Some key) None is (Some time) None ttl = refl
      by false (Some key) None is (Some time) (Some operation) None = refl
      by false (Some key) None is (Some time) (Some operation) (Some ttl) = refl
      by false (Some key) (Some column) is time operation ttl = absurd (true≢false is)

  -- nor a time where none is asked for
  no_time-row : is_some columns.time ≡ false → time_in (entry_of_record columns row) ≡ None
  no_time-row none = by (is_long row) (key_of_record columns.key row) (asked_size columns.size row) columns.time none (asked_operation columns.operation row) (asked_ttl columns.ttl row)
    where
      by : (long : Bool) (key : Option (List ℕ)) (size : Option (Option ℕ)) (time : Option ℕ) → is_some time ≡ false → (operation : Option (Option Operation)) (ttl : Option (Option ℕ))
          → time_in (if long then Unread defect.TooLong else with_key key size (asked_time time row) operation ttl) ≡ None
      by true key size time is operation ttl = refl
      by false None size time is operation ttl = refl
      by false (Some key) None time is operation ttl = refl
      by false (Some key) (Some size) None is None ttl = refl
      by false (Some key) (Some size) None is (Some operation) None = refl
      by false (Some key) (Some size) None is (Some operation) (Some ttl) = refl
      by false (Some key) (Some size) (Some column) is operation ttl = absurd (true≢false is)

  -- nor an operation where none is asked for
  no_operation-row : is_some columns.operation ≡ false → operation_in (entry_of_record columns row) ≡ None
  no_operation-row none = by (is_long row) (key_of_record columns.key row) (asked_size columns.size row) (asked_time columns.time row) columns.operation none (asked_ttl columns.ttl row)
    where
      by : (long : Bool) (key : Option (List ℕ)) (size time : Option (Option ℕ)) (operation : Option ℕ) → is_some operation ≡ false → (ttl : Option (Option ℕ))
          → operation_in (if long then Unread defect.TooLong else with_key key size time (asked_operation operation row) ttl) ≡ None
      by true key size time operation is ttl = refl
      by false None size time operation is ttl = refl
      by false (Some key) None time operation is ttl = refl
      by false (Some key) (Some size) None operation is ttl = refl
      by false (Some key) (Some size) (Some time) None is None = refl
      by false (Some key) (Some size) (Some time) None is (Some ttl) = refl
      by false (Some key) (Some size) (Some time) (Some column) is ttl = absurd (true≢false is)

  -- nor how long what it puts lasts where that isn't asked for
  no_ttl-row : is_some columns.ttl ≡ false → ttl_in (entry_of_record columns row) ≡ None
  no_ttl-row none = by (is_long row) (key_of_record columns.key row) (asked_size columns.size row) (asked_time columns.time row) (asked_operation columns.operation row) columns.ttl none
    where
      by : (long : Bool) (key : Option (List ℕ)) (size time : Option (Option ℕ)) (operation : Option (Option Operation)) (ttl : Option ℕ) → is_some ttl ≡ false
          → ttl_in (if long then Unread defect.TooLong else with_key key size time operation (asked_ttl ttl row)) ≡ None
      by true key size time operation ttl is = refl
      by false None size time operation ttl is = refl
      by false (Some key) None time operation ttl is = refl
      by false (Some key) (Some size) None operation ttl is = refl
      by false (Some key) (Some size) (Some time) None ttl is = refl
      by false (Some key) (Some size) (Some time) (Some operation) None is = refl
      by false (Some key) (Some size) (Some time) (Some operation) (Some column) is = absurd (true≢false is)

  -- where a size is asked for, a record tells one if it tells a key
  sized-row : is_some columns.size ≡ true → is_some (size_in (entry_of_record columns row)) ≡ is_some (key_in (entry_of_record columns row))
  sized-row some = by (is_long row) (key_of_record columns.key row) columns.size some (asked_time columns.time row) (asked_operation columns.operation row) (asked_ttl columns.ttl row)
    where
      told : (key : List ℕ) (size : Option ℕ) (time : Option (Option ℕ)) (operation : Option (Option Operation)) (ttl : Option (Option ℕ))
          → is_some (size_in (with_size key (option_map (λ n. Some n) size) time operation ttl)) ≡ is_some (key_in (with_size key (option_map (λ n. Some n) size) time operation ttl))
      told key None time operation ttl = refl
      told key (Some size) None operation ttl = refl
      told key (Some size) (Some time) None ttl = refl
      told key (Some size) (Some time) (Some operation) None = refl
      told key (Some size) (Some time) (Some operation) (Some ttl) = refl

      by : (long : Bool) (key : Option (List ℕ)) (size : Option ℕ) → is_some size ≡ true → (time : Option (Option ℕ)) (operation : Option (Option Operation)) (ttl : Option (Option ℕ))
          → is_some (size_in (if long then Unread defect.TooLong else with_key key (asked_size size row) time operation ttl))
          ≡ is_some (key_in (if long then Unread defect.TooLong else with_key key (asked_size size row) time operation ttl))
      by true key size is time operation ttl = refl
      by false None size is time operation ttl = refl
      by false (Some key) None is time operation ttl = absurd (true≢false (sym is))
      by false (Some key) (Some column) is time operation ttl = told key (size_of_record column row) time operation ttl

  -- and a time likewise
  timed-row : is_some columns.time ≡ true → is_some (time_in (entry_of_record columns row)) ≡ is_some (key_in (entry_of_record columns row))
  timed-row some = by (is_long row) (key_of_record columns.key row) (asked_size columns.size row) columns.time some (asked_operation columns.operation row) (asked_ttl columns.ttl row)
    where
      told : (key : List ℕ) (size time : Option ℕ) (operation : Option (Option Operation)) (ttl : Option (Option ℕ))
          → is_some (time_in (with_time key size (option_map (λ n. Some n) time) operation ttl)) ≡ is_some (key_in (with_time key size (option_map (λ n. Some n) time) operation ttl))
      told key size None operation ttl = refl
      told key size (Some time) None ttl = refl
      told key size (Some time) (Some operation) None = refl
      told key size (Some time) (Some operation) (Some ttl) = refl

      by : (long : Bool) (key : Option (List ℕ)) (size : Option (Option ℕ)) (time : Option ℕ) → is_some time ≡ true → (operation : Option (Option Operation)) (ttl : Option (Option ℕ))
          → is_some (time_in (if long then Unread defect.TooLong else with_key key size (asked_time time row) operation ttl))
          ≡ is_some (key_in (if long then Unread defect.TooLong else with_key key size (asked_time time row) operation ttl))
      by true key size time is operation ttl = refl
      by false None size time is operation ttl = refl
      by false (Some key) None time is operation ttl = refl
      by false (Some key) (Some size) None is operation ttl = absurd (true≢false (sym is))
      by false (Some key) (Some size) (Some column) is operation ttl = told key size (time_of_record column row) operation ttl

  -- and an operation likewise
  operated-row : is_some columns.operation ≡ true → is_some (operation_in (entry_of_record columns row)) ≡ is_some (key_in (entry_of_record columns row))
  operated-row some = by (is_long row) (key_of_record columns.key row) (asked_size columns.size row) (asked_time columns.time row) columns.operation some (asked_ttl columns.ttl row)
    where
      told : (key : List ℕ) (size time : Option ℕ) (operation : Option Operation) (ttl : Option (Option ℕ))
          → is_some (operation_in (with_operation key size time (option_map (λ o. Some o) operation) ttl)) ≡ is_some (key_in (with_operation key size time (option_map (λ o. Some o) operation) ttl))
      told key size time None ttl = refl
      told key size time (Some operation) None = refl
      told key size time (Some operation) (Some ttl) = refl

      by : (long : Bool) (key : Option (List ℕ)) (size time : Option (Option ℕ)) (operation : Option ℕ) → is_some operation ≡ true → (ttl : Option (Option ℕ))
          → is_some (operation_in (if long then Unread defect.TooLong else with_key key size time (asked_operation operation row) ttl))
          ≡ is_some (key_in (if long then Unread defect.TooLong else with_key key size time (asked_operation operation row) ttl))
      by true key size time operation is ttl = refl
      by false None size time operation is ttl = refl
      by false (Some key) None time operation is ttl = refl
      by false (Some key) (Some size) None operation is ttl = refl
      by false (Some key) (Some size) (Some time) None is ttl = absurd (true≢false (sym is))
      by false (Some key) (Some size) (Some time) (Some column) is ttl = told key size time (operation_of_record column row) ttl

  -- and how long what it puts lasts likewise
  lasting-row : is_some columns.ttl ≡ true → is_some (ttl_in (entry_of_record columns row)) ≡ is_some (key_in (entry_of_record columns row))
  lasting-row some = by (is_long row) (key_of_record columns.key row) (asked_size columns.size row) (asked_time columns.time row) (asked_operation columns.operation row) columns.ttl some
    where
      told : (key : List ℕ) (size time : Option ℕ) (operation : Option Operation) (ttl : Option ℕ)
          → is_some (ttl_in (with_ttl key size time operation (option_map (λ n. Some n) ttl))) ≡ is_some (key_in (with_ttl key size time operation (option_map (λ n. Some n) ttl)))
      told key size time operation None = refl
      told key size time operation (Some ttl) = refl

      by : (long : Bool) (key : Option (List ℕ)) (size time : Option (Option ℕ)) (operation : Option (Option Operation)) (ttl : Option ℕ) → is_some ttl ≡ true
          → is_some (ttl_in (if long then Unread defect.TooLong else with_key key size time operation (asked_ttl ttl row)))
          ≡ is_some (key_in (if long then Unread defect.TooLong else with_key key size time operation (asked_ttl ttl row)))
      by true key size time operation ttl is = refl
      by false None size time operation ttl is = refl
      by false (Some key) None time operation ttl is = refl
      by false (Some key) (Some size) None operation ttl is = refl
      by false (Some key) (Some size) (Some time) None ttl is = refl
      by false (Some key) (Some size) (Some time) (Some operation) None is = absurd (true≢false (sym is))
      by false (Some key) (Some size) (Some time) (Some operation) (Some column) is = told key size time operation (ttl_of_record column row)

module _ (first : ℕ) (columns : Columns) (rows : List (List (List ℕ))) where
  -- where no sizes are asked for, there are none
  pub no_sizes-from : is_some columns.size ≡ false → sizes_in (entries_from first columns rows) ≡ []
  no_sizes-from none = none-rows size_in columns (λ row. no_size-row columns row none) (drop (first - 1) rows)

  -- where no times are asked for, there are none
  pub no_times-from : is_some columns.time ≡ false → times_in (entries_from first columns rows) ≡ []
  no_times-from none = none-rows time_in columns (λ row. no_time-row columns row none) (drop (first - 1) rows)

  -- where no operations are asked for, there are none
  pub no_operations-from : is_some columns.operation ≡ false → operations_in (entries_from first columns rows) ≡ []
  no_operations-from none = none-rows operation_in columns (λ row. no_operation-row columns row none) (drop (first - 1) rows)

  -- where no ttls are asked for, there are none
  pub no_ttls-from : is_some columns.ttl ≡ false → ttls_in (entries_from first columns rows) ≡ []
  no_ttls-from none = none-rows ttl_in columns (λ row. no_ttl-row columns row none) (drop (first - 1) rows)

  -- where sizes are asked for, there are as many as keys
  pub sized-from : is_some columns.size ≡ true → length (sizes_in (entries_from first columns rows)) ≡ length (keys_in (entries_from first columns rows))
  sized-from some = as_many-rows size_in columns (λ row. sized-row columns row some) (drop (first - 1) rows)

  -- where times are asked for, there are as many as keys
  pub timed-from : is_some columns.time ≡ true → length (times_in (entries_from first columns rows)) ≡ length (keys_in (entries_from first columns rows))
  timed-from some = as_many-rows time_in columns (λ row. timed-row columns row some) (drop (first - 1) rows)

  -- where operations are asked for, there are as many as keys
  pub operated-from : is_some columns.operation ≡ true → length (operations_in (entries_from first columns rows)) ≡ length (keys_in (entries_from first columns rows))
  operated-from some = as_many-rows operation_in columns (λ row. operated-row columns row some) (drop (first - 1) rows)

  -- where ttls are asked for, there are as many as keys
  pub lasting-from : is_some columns.ttl ≡ true → length (ttls_in (entries_from first columns rows)) ≡ length (keys_in (entries_from first columns rows))
  lasting-from some = as_many-rows ttl_in columns (λ row. lasting-row columns row some) (drop (first - 1) rows)

module _ (strict : Bool) (first : ℕ) (entries : List Said) (log : Log) (is : IsLogOf strict first entries log) where
  -- a log has as many accesses as keys were read
  accesses-log : length log.accesses.items ≡ length (keys_in entries)
  accesses-log = ap length is.accesses ∙ length-map (keys_in entries) (number_among (distinct (keys_in entries)))

  -- so it has as many sizes where as many were read
  pub sized-log : length (sizes_in entries) ≡ length (keys_in entries) → length log.sizes.items ≡ length log.accesses.items
  sized-log same = ap length is.sizes ∙ same ∙ sym accesses-log

  -- and as many times
  pub timed-log : length (times_in entries) ≡ length (keys_in entries) → length log.times.items ≡ length log.accesses.items
  timed-log same = ap length is.times ∙ same ∙ sym accesses-log

  -- and as many operations
  pub operated-log : length (operations_in entries) ≡ length (keys_in entries) → length log.operations.items ≡ length log.accesses.items
  operated-log same = ap length is.operations ∙ same ∙ sym accesses-log

  -- and as many ttls
  pub lasting-log : length (ttls_in entries) ≡ length (keys_in entries) → length log.ttls.items ≡ length log.accesses.items
  lasting-log same = ap length is.ttls ∙ same ∙ sym accesses-log
