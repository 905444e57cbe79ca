-- What an access log asks of a cache.
use Rattle.std.specs.Prelude.{ℕ, zero, suc, ◌+◌, ◌-◌, ◌^◌, List, min, slice_index_or}
use Rattle.access_logs.specs.declared.operations.Operation.{Operation}
use Rattle.access_logs.specs.declared.operations.Operation.TheVariants.{Get, Set, Delete, Other}

-- an access's time: that of its place, and the place itself if nothing stands there
abbrev pub time_at : List ℕ → ℕ → ℕ
time_at times place = slice_index_or times place place

-- what is asked for at a place: a get where nothing stands there
abbrev pub operation_at : List Operation → ℕ → Operation
operation_at operations place = slice_index_or operations place Get

-- how many accesses an operation counts as: a get is one, and all else none
abbrev pub counted : Operation → ℕ
counted Get = 1
counted Set = 0
counted Delete = 0
counted Other = 0

-- how many of the first so many accesses count
abbrev pub gets_among : List Operation → ℕ → ℕ
gets_among operations zero = 0
gets_among operations (suc place) = gets_among operations place + counted (operation_at operations place)

-- when what is put now expires, by how long after that it does: 0 stands for never, and no time is past the last one
abbrev pub expires_by : ℕ → ℕ → ℕ
expires_by zero now = 0
expires_by (suc ttl) now = min (now + suc ttl) (2 ^ 64 - 1)
