-- How the views of seats are cut in two, and put together.
use Rattle.std.specs.Prelude.{[], ◌++◌}
use Rattle.bump_steps.specs.declared.views.View.{View}
use Rattle.bump_steps.specs.Rule.{blank}
use Rattle.bump_steps.specs.Plays.{behind, first_as_list}

abbrev pub joined : View → View → View
joined view other = record {
  workers = view.workers ++ other.workers;
  holds = view.holds ++ other.holds;
  riders =
      view.riders ++ other.riders;
  classes = view.classes ++ other.classes;
  lanes = view.lanes ++ other.lanes;
  returned = view.returned ++ other.returned;
  seen = view.seen ++ other.seen;
}

abbrev pub without_lanes : View → View
without_lanes view = record view { lanes = [] }

abbrev pub lanes_only : View → View
lanes_only view = record blank { lanes = view.lanes }

abbrev pub without_holds : View → View
without_holds view = record view { holds = [] }

abbrev pub holds_only : View → View
holds_only view = record blank { holds = view.holds }

abbrev pub without_class : View → View
without_class view = record view { classes = behind view.classes }

abbrev pub class_only : View → View
class_only view = record blank { classes = first_as_list view.classes }

abbrev pub without_worker : View → View
without_worker view = record view { workers = behind view.workers }

abbrev pub worker_only : View → View
worker_only view = record blank { workers = first_as_list view.workers }

abbrev pub without_lane : View → View
without_lane view = record view { lanes = behind view.lanes }

abbrev pub lane_only : View → View
lane_only view = record blank { lanes = first_as_list view.lanes }
