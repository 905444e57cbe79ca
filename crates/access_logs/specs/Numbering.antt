-- The keys that have a number, and why one gets none.
use Rattle.std.specs.Prelude.{ℕ, List, ◌≡◌, map, length, false, ⊤}
use Rattle.access_logs.specs.Keys.{bytes_of, is_among}
use Rattle.access_logs.specs.declared.numbering.Numbering.{Numbering}
use Rattle.access_logs.specs.declared.log.LogFault.{LogFault}
use Rattle.access_logs.specs.declared.log.LogFault.TheVariants as fault

-- the keys that have a number, by number
abbrev pub keys_of : Numbering → List (List ℕ)
keys_of numbering = map bytes_of numbering.keys.keys

-- why a key gets no number: memory, or as many keys as there are numbers
abbrev pub RefusesKey : List (List ℕ) → List ℕ → LogFault → Type 0
RefusesKey keys key (fault.Read number cause) = ⊥
RefusesKey keys key fault.TooManyLines = ⊥
RefusesKey keys key fault.Memory = ⊤
RefusesKey keys key (fault.Unreadable found) = ⊥
RefusesKey keys key fault.TooManyKeys = (length keys ≡ 4294967295) × (is_among keys key ≡ false)
RefusesKey keys key (fault.NoColumn field) = ⊥
