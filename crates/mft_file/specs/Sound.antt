-- What is so of all tables that were read, whatever their text.
use Rattle.std.specs.Prelude.{ℕ, ◌≡◌, Bool, true, false, ◌+◌, ◌==◌, ◌&&◌, nat_le, List, [], ◌∷◌, Option, Some, None}
use Rattle.std.specs.List.{list_all, IsDistinct}
use Rattle.mft_file.specs.declared.heading.Heading.{Heading}
use Rattle.mft_file.specs.declared.row.MaskRow.{MaskRow}
use Rattle.mft_file.specs.declared.table.MaskTable.{MaskTable}
use Rattle.mft_file.specs.Mfts.{DraftState, MftState, heading_of}
use Rattle.mft_file.specs.Row.{may_follow}
use Rattle.mft_file.specs.Table.{place_of}

-- both tables are of one switch
abbrev pub shares_switch : MaskTable → MaskTable → Bool
shares_switch a b = a.guid == b.guid

-- MLIDs rise from this one on, up to the last one that there is
abbrev pub rise : ℕ → List MaskRow → Bool
rise low [] = true
rise low (row ∷ rows) = nat_le low row.mlid && (nat_le row.mlid 65534 && rise (row.mlid + 1) rows)

-- those of a table do
abbrev pub is_rising : MaskTable → Bool
is_rising table = rise 49152 table.rows

-- what stands of whole tables
pub record AreSound (tables : List MaskTable) : Type 0 where
  pub own_switches : IsDistinct shares_switch tables
  pub rising : list_all is_rising tables ≡ true

-- of a table that is open: its switch has no other, and its MLIDs rise so far. If none is open there are no rows.
pub record IsOpen (tables : List MaskTable) (heading : Heading) (rows : List MaskRow) : Type 0 where
  pub new : place_of heading.guid tables ≡ None
  pub rising : rise 49152 rows ≡ true

abbrev pub StandUnder : Option Heading → List MaskTable → List MaskRow → Type 0
StandUnder (Some heading) tables rows = IsOpen tables heading rows
StandUnder None tables rows = rows ≡ []

-- the row may be one of the table that is open
abbrev pub may_take : Option Heading → List MaskRow → MaskRow → Bool
may_take (Some heading) rows row = may_follow heading.top rows row.mlid
may_take None rows row = false

-- what stands after each line
pub record IsSoundSoFar (so_far : DraftState) : Type 0 where
  pub tables : AreSound so_far.tables
  pub open_rows : StandUnder (heading_of so_far.stage) so_far.tables so_far.rows

-- what stands of the whole
abbrev pub IsSound : MftState → Type 0
IsSound mfts = AreSound mfts.tables
