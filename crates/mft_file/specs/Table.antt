-- Tables, in the order of the text.
use Rattle.std.specs.Prelude.{ℕ, ◌==◌, List, position, Option}
use Rattle.mft_file.specs.declared.heading.Heading.{Heading}
use Rattle.mft_file.specs.declared.row.MaskRow.{MaskRow}
use Rattle.mft_file.specs.declared.table.MaskTable.{MaskTable}

-- a table, by its heading and its rows
abbrev pub table_of : Heading → List MaskRow → MaskTable
table_of heading rows = record { line = heading.line; guid = heading.guid; rows = rows }

-- where the table of the switch of this GUID stands among the tables
abbrev pub place_of : ℕ → List MaskTable → Option ℕ
place_of guid tables = position (λ table. guid == table.guid) tables
