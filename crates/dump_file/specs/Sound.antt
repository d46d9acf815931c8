-- What is so of every dump that was read, whatever its text.
use Rattle.std.specs.Prelude.{ℕ, ◌≡◌, Bool, true, false, ◌+◌, ◌==◌, ◌&&◌, nat_le, List, [], ◌∷◌, Option, Some, None}
use Rattle.std.specs.List.{list_all, IsDistinct}
use Rattle.std.specs.Option.{option_map_or}
use Rattle.dump_file.specs.declared.heading.Heading.{Heading}
use Rattle.dump_file.specs.declared.row.Row.{Row}
use Rattle.dump_file.specs.declared.table.Table.{Table}
use Rattle.dump_file.specs.Dump.{DraftState, DumpState, heading_of, rows_so_far}
use Rattle.dump_file.specs.Destination.{guid_said}
use Rattle.dump_file.specs.Row.{end_of, may_follow}
use Rattle.dump_file.specs.Table.{rows_of}

-- both tables are of one switch
abbrev pub shares_switch : Table → Table → Bool
shares_switch a b = a.guid == b.guid

-- LIDs rise from this one on, up to the top
abbrev pub rise : ℕ → ℕ → List Row → Bool
rise low top [] = true
rise low top (row ∷ rows) = nat_le low row.lid && (nat_le row.lid top && rise (row.lid + 1) top rows)

-- those of a table do, from LID 0 on
abbrev pub is_rising : Table → Bool
is_rising table = rise 0 table.top table.rows

-- a row that says whose its LID is says what the first such row of that LID says
abbrev pub is_end : ℕ → Option ℕ → Bool
is_end guid (Some other) = guid == other
is_end guid None = false

abbrev pub has_its_end : List Row → Row → Bool
has_its_end rows row = option_map_or (λ guid. is_end guid (end_of row.lid rows)) (guid_said row.destination) true

abbrev pub have_one_end : List Row → Bool
have_one_end rows = list_all (has_its_end rows) rows

-- what stands of the tables that count
pub record AreSound (tables : List Table) : Type 0 where
  pub own_switches : IsDistinct shares_switch tables
  pub rising : list_all is_rising tables ≡ true

-- the LIDs of a table that is open rise so far. If none is open there are no rows.
abbrev pub StandUnder : Option Heading → List Row → Type 0
StandUnder (Some heading) rows = rise 0 heading.top rows ≡ true
StandUnder None rows = rows ≡ []

-- the row may be one of the table that is open
abbrev pub may_take : Option Heading → List Row → Row → Bool
may_take (Some heading) rows row = may_follow heading.top rows row.lid
may_take None rows row = false

-- what stands after each line, also if the table that is open is broken off
pub record IsSoundSoFar (so_far : DraftState) : Type 0 where
  pub rising : list_all is_rising so_far.tables ≡ true
  pub open_rows : StandUnder (heading_of so_far.stage) so_far.rows
  pub one_end_closed : have_one_end (rows_of so_far.tables) ≡ true
  pub one_end : have_one_end (rows_so_far so_far) ≡ true

-- what stands of the whole
pub record IsSound (dump : DumpState) : Type 0 where
  pub tables : AreSound dump.tables
  pub one_end : have_one_end (rows_of dump.tables) ≡ true
