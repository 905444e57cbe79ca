-- The state of a new World.
use Rattle.std.specs.Prelude.{ℕ, ◌+◌, ◌-◌, List, [], ◌∷◌, replicate}
use Rattle.bump_rules.specs.declared.configs.ClassConfig.{ClassConfig}
use Rattle.bump_rules.specs.declared.configs.Config.{Config}
use Rattle.model_state.specs.declared.chunks.Chunk.{Chunk}
use Rattle.bump_rules.specs.Configs.{chunks_of}
use Rattle.bump_rules.specs.Heads.{fresh_head}
use Rattle.bump_rules.specs.Lists.{opening}
use Rattle.model_state.specs.State.{State, ClassState, new_worker}

-- a chunk before its first life
abbrev pub fresh_chunk : ℕ → Chunk
fresh_chunk generation = record { head = fresh_head generation; time = 0; label = 0; holds = 0 }

-- a class whose chunks are all UNUSED, and fresh with this generation
abbrev pub new_class : ℕ → ℕ → ClassConfig → ClassState
new_class fresh first config = record {
  first = first;
  end = first + config.chunks;
  fresh = fresh;
  hot_limit = config.hot;
  warm_limit = config.warm;
  lists = opening first config.chunks;
  history = [];
}

-- the first class has the first chunks, the next class the next
abbrev pub classes_from : ℕ → ℕ → List ClassConfig → List ClassState
classes_from fresh first [] = []
classes_from fresh first (config ∷ configs) =
    new_class fresh first config ∷ classes_from fresh (first + config.chunks) configs

-- All chunks are fresh, with the generation before the first one; no worker has done anything.
abbrev pub opening_state : ℕ → ℕ → ℕ → ℕ → List ClassConfig → State
opening_state workers capacity limit generation classes = record {
  refs_limit = limit;
  capacity = capacity;
  chunks = replicate (chunks_of classes) (fresh_chunk (generation - 1));
  classes = classes_from (generation - 1) 0 classes;
  workers = replicate workers new_worker;
}

-- the state of a configuration
abbrev pub new_state : Config → State
new_state config = opening_state config.workers config.capacity config.refs_limit config.first_generation config.classes
