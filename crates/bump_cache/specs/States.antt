-- The states of a cache's log, and what a caller knows of them.
use Rattle.std.specs.Prelude.{ℕ, [], None}
use Rattle.bump_class.specs.Books.{new_book}
use Rattle.cache_lists.specs.Counts.{no_evictions, no_flow}
use Rattle.cache_shelf.specs.Shelves.{ShelfView}
use Rattle.call_log.specs.Calls.{CallerView, from_of as from_state, now_of as now_state, to_of as to_state}

-- a part's number, and its shelf
pub record PartState : Type 0 where
  pub number : ℕ
  pub shelf : ShelfView

-- a shelf of no chunk
abbrev pub no_shelf : ShelfView
no_shelf = record {
  part = record {
    book = new_book (record {
      class = 0;
      first = 0;
      count = 0;
      fresh = 0;
      history = [];
      labels = [];
      words = [];
      applying = None;
      steps = [];
    }) (record { chunks = 0; hot = 0; warm = 0 }) 0;
    flow = no_flow;
    evictions = no_evictions;
    index = [];
    seed = record { first = 0; second = 0 };
    key_words = 0;
    value_words = 0;
    items = 0;
    temporary = None;
    cursor = 0;
  };
  lanes = [];
  limits = record { bounds = record { hot = 0; warm = 0; hot_age = None; warm_age = None }; most = 0; looks = 0 };
  puts = 0;
}

-- what stands for a state where there is none yet
abbrev pub no_state : PartState
no_state = record { number = 0; shelf = no_shelf }

-- which part it is a state of
abbrev pub number_of : PartState → ℕ
number_of state = state.number

-- the part that the caller's last call was of
abbrev pub part_called : CallerView PartState → ℕ
part_called me = (to_state me).number

-- what that call left of the part
abbrev pub to_of : CallerView PartState → ShelfView
to_of me = (to_state me).shelf

-- what it found there
abbrev pub from_of : CallerView PartState → ShelfView
from_of me = (from_state number_of me).shelf

-- what the caller knows of a part, by its number
abbrev pub now_of : ℕ → CallerView PartState → ShelfView
now_of part me = (now_state number_of part me).shelf
