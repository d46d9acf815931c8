-- What is so of all that was read, whatever the text.
use Rattle.std.specs.Prelude.{ℕ, ◌≡◌, Bool, true, ◌==◌, ◌&&◌, nat_le, List, length}
use Rattle.std.specs.List.{list_all, IsDistinct}
use Rattle.std.specs.Option.{option_map_or}
use Rattle.sl2vl_file.specs.declared.path.Field.{Field}
use Rattle.sl2vl_file.specs.declared.path.Field.TheVariants.{Sl}
use Rattle.sl2vl_file.specs.declared.path.PathFields.{PathFields}
use Rattle.sl2vl_file.specs.declared.path.PathSl.{PathSl}
use Rattle.sl2vl_file.specs.declared.row.LaneRow.{LaneRow}
use Rattle.sl2vl_file.specs.declared.stage.Stage.{Stage}
use Rattle.sl2vl_file.specs.declared.stage.Stage.TheVariants.{Record}
use Rattle.sl2vl_file.specs.Lanes.{DraftState, LanesState}
use Rattle.sl2vl_file.specs.Row.{are_vls}
use Rattle.sl2vl_file.specs.Rows.{is_row_of}

-- both rows are of one LID and of the same two ports
abbrev pub shares_ports : LaneRow → LaneRow → Bool
shares_ports a b = is_row_of a.lid a.input a.output b

-- a VL for each of the 16 SLs, none above 15
abbrev pub has_16_vls : List ℕ → Bool
has_16_vls vls = (length vls == 16) && are_vls vls

abbrev pub is_whole_row : LaneRow → Bool
is_whole_row row = has_16_vls row.lanes

abbrev pub is_low_sl : PathSl → Bool
is_low_sl path = nat_le path.sl 15

-- what stands of all that was read
pub record IsSound (lanes : LanesState) : Type 0 where
  pub own_ports : IsDistinct shares_ports lanes.rows
  pub whole_rows : list_all is_whole_row lanes.rows ≡ true
  pub low_sls : list_all is_low_sl lanes.paths ≡ true

-- ---- of a record that has not ended
abbrev pub is_low_field : Field → Bool
is_low_field (Sl sl) = nat_le sl 15
is_low_field _ = true

abbrev pub has_low_sl : PathFields → Bool
has_low_sl fields = option_map_or (λ sl. nat_le sl 15) fields.sl true

abbrev pub is_low_stage : Stage → Bool
is_low_stage (Record fields) = has_low_sl fields
is_low_stage _ = true

-- what stands after each line
pub record IsSoundSoFar (so_far : DraftState) : Type 0 where
  pub own_ports : IsDistinct shares_ports so_far.rows
  pub whole_rows : list_all is_whole_row so_far.rows ≡ true
  pub low_sls : list_all is_low_sl so_far.paths ≡ true
  pub low_stage : is_low_stage so_far.stage ≡ true
