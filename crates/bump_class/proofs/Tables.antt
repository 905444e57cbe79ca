-- Moves that no table has: those from TEMP and to TEMP are among them.
use Rattle.std.proofs.Common.{◌≡◌, ◌≤◌, ◌||◌, not, List, arith}
use Rattle.bump_rules.specs.declared.history.Change.{Change}
use Rattle.bump_rules.specs.declared.history.Change.TheVariants as change
use Rattle.bump_rules.specs.declared.places.Segment.{Segment}
use Rattle.bump_rules.specs.declared.places.Segment.TheVariants.{Hot, Warm, Cold, Temp}
use Rattle.bump_rules.specs.Lawful.{bit}
use Rattle.bump_rules.specs.Tables.{may_move}
use Rattle.bump_rules.specs.Totals.{how_many}
use Rattle.bump_rules.proofs.Updates.{total_below}
use Rattle.bump_heads.specs.Seats.{is_barred, is_temp, moves_temp}

-- no table has a move from or to TEMP
no_table : (from to : Segment) → bit (is_temp from || is_temp to) ≤ bit (not (may_move from to))
no_table Hot Hot = omega arith
no_table Hot Warm = omega arith
no_table Hot Cold = omega arith
no_table Hot Temp = omega arith
no_table Warm Hot = omega arith
no_table Warm Warm = omega arith
no_table Warm Cold = omega arith
no_table Warm Temp = omega arith
no_table Cold Hot = omega arith
no_table Cold Warm = omega arith
no_table Cold Cold = omega arith
no_table Cold Temp = omega arith
no_table Temp Hot = omega arith
no_table Temp Warm = omega arith
no_table Temp Cold = omega arith
no_table Temp Temp = omega arith

no_entry : (e : Change) → bit (moves_temp e) ≤ bit (is_barred e)
no_entry (change.Linked life) = omega arith
no_entry (change.LinkedTemp life) = omega arith
no_entry (change.Moved life from to cause) = no_table from to
no_entry (change.Unlinked life) = omega arith
no_entry (change.Swept life) = omega arith
no_entry (change.Retired life) = omega arith

-- where each move is one that a table has, none is from or to TEMP
pub none_of_temp : (history : List Change) → how_many is_barred history ≡ 0 → how_many moves_temp history ≡ 0
none_of_temp history fair =
    omega (arith, total_below (λ e. bit (moves_temp e)) (λ e. bit (is_barred e)) no_entry history, fair)
