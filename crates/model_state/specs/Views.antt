-- What the state of the program stands for.
use Rattle.std.specs.Prelude.{map}
use Rattle.model_state.specs.declared.classes.Class.{Class}
use Rattle.model_state.specs.declared.world_state.WorldState.{WorldState}
use Rattle.model_state.specs.State.{State, ClassState}
use Rattle.model_state.specs.Workers.{worker_views}

abbrev pub class_view : Class → ClassState
class_view class = record {
  first = class.first;
  end = class.end;
  fresh = class.fresh;
  hot_limit = class.hot_limit;
  warm_limit = class.warm_limit;
  lists = class.lists;
  history = class.history.items;
}

abbrev pub state_of : WorldState → State
state_of inside = record {
  refs_limit = inside.refs_limit;
  capacity = inside.capacity;
  chunks = inside.chunks.items;
  classes = map class_view inside.classes.items;
  workers = worker_views inside.workers;
}
