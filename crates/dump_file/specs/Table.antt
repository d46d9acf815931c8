-- Tables, in the order of the text.
use Rattle.std.specs.Prelude.{ℕ, ◌==◌, List, [], ◌∷◌, flat_map, position, Option, if◌then◌else◌}
use Rattle.dump_file.specs.declared.heading.Heading.{Heading}
use Rattle.dump_file.specs.declared.row.Row.{Row}
use Rattle.dump_file.specs.declared.table.Table.{Table}

-- a table, by its heading and its rows
abbrev pub table_of : Heading → List Row → Table
table_of heading rows = record { line = heading.line; guid = heading.guid; top = heading.top; rows = rows }

-- where the table of the switch of this GUID stands among the tables
abbrev pub place_of : ℕ → List Table → Option ℕ
place_of guid tables = position (λ table. guid == table.guid) tables

-- ---- of two tables of a switch the later one counts, at the place of the first
abbrev pub put : Table → List Table → List Table
put table [] = table ∷ []
put table (first ∷ rest) = if table.guid == first.guid then table ∷ rest else first ∷ put table rest

abbrev pub put_all : List Table → List Table → List Table
put_all so_far [] = so_far
put_all so_far (table ∷ rest) = put_all (put table so_far) rest

abbrev pub latest : List Table → List Table
latest tables = put_all [] tables

-- all rows
abbrev pub rows_of : List Table → List Row
rows_of tables = flat_map (λ table. table.rows) tables
