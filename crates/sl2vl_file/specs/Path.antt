-- The fields of a path record.
use Rattle.std.specs.Prelude.{ℕ, nat_eq, List, codes, drop, length, if◌then◌else◌, Option, Some, None, is_some, Result, Ok, Err}
use Rattle.std.specs.List.{starts_with}
use Rattle.step_results.specs.Steps.{◌>>=◌}
use Rattle.sl2vl_file.specs.declared.fault.LanesCause.{LanesCause}
use Rattle.sl2vl_file.specs.declared.fault.LanesCause.TheVariants.{DuplicateField}
use Rattle.sl2vl_file.specs.declared.path.Field.{Field}
use Rattle.sl2vl_file.specs.declared.path.Field.TheVariants.{Source, Destination, Sl, Other}
use Rattle.sl2vl_file.specs.declared.path.PathFields.{PathFields}
use Rattle.sl2vl_file.specs.declared.path.PathSl.{PathSl}
use Rattle.sl2vl_file.specs.Parts.{behind, lid_in, sl_in}

-- ---- a line of a record: two tabs, the name of the field, dots up to 24 characters, and the value. What is neither the SLID,
-- the DLID nor the SL is not looked at
abbrev pub value_of : (name : List ℕ) → List ℕ → Option (List ℕ)
value_of name text = if starts_with nat_eq text name then Some (drop (length name) text) else None

abbrev pub field_of : (slid dlid sl : Option (List ℕ)) → Result Field LanesCause
field_of (Some word) dlid sl = lid_in word >>= λ lid. Ok (Source lid)
field_of None (Some word) sl = lid_in word >>= λ lid. Ok (Destination lid)
field_of None None (Some word) = sl_in word >>= λ sl. Ok (Sl sl)
field_of None None None = Ok Other

unfoldable pub field_in : List ℕ → Result Field LanesCause
field_in text = do
  field ← behind (codes "\t\t") text
  field_of (value_of (codes "slid....................") field) (value_of (codes "dlid....................") field)
      (value_of (codes "sl......................") field)

-- ---- one more field of a record, which it does not have yet
abbrev pub with_field : PathFields → Field → Result PathFields LanesCause
with_field fields (Source lid) = if is_some fields.source then Err DuplicateField else Ok (record fields { source = Some lid })
with_field fields (Destination lid) = if is_some fields.destination then Err DuplicateField else Ok (record fields { destination = Some lid })
with_field fields (Sl sl) = if is_some fields.sl then Err DuplicateField else Ok (record fields { sl = Some sl })
with_field fields Other = Ok fields

unfoldable pub fields_reported : PathFields → List ℕ → Result PathFields LanesCause
fields_reported fields text = field_in text >>= with_field fields

-- ---- the record whose heading is at this line, before its first field
abbrev pub no_fields : (line : ℕ) → PathFields
no_fields line = record { line = line; source = None; destination = None; sl = None }

-- what a record says once it has ended, if it lacks nothing
abbrev pub path_by : (source destination sl : Option ℕ) → Option PathSl
path_by (Some source) (Some destination) (Some sl) = Some (record { source = source; destination = destination; sl = sl })
path_by _ _ _ = None

abbrev pub path_of : PathFields → Option PathSl
path_of fields = path_by fields.source fields.destination fields.sl
