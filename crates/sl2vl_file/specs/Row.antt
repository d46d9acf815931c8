-- The rows of an SL-to-VL mapping table.
use Rattle.std.specs.Prelude.{ℕ, Bool, ◌+◌, ◌-◌, ◌*◌, ◌%◌, ◌==◌, ◌&&◌, ◌||◌, nat_le, List, codes, get_or, length, map, if◌then◌else◌, Result, Ok}
use Rattle.std.specs.List.{enumerate_from, list_all, range_with_len}
use Rattle.step_results.specs.Steps.{◌>>=◌}
use Rattle.sl2vl_file.specs.declared.row.LaneRow.{LaneRow}
use Rattle.sl2vl_file.specs.declared.fault.LanesCause.{LanesCause}
use Rattle.sl2vl_file.specs.Parts.{behind, cut, only_if, port_in}

-- ---- ` 0| 1| 2|..|15|`: of each SL from 0 to 15 two places with the VL's decimal digits, the first blank below 10, and a bar
abbrev pub is_digit : ℕ → Bool
is_digit byte = nat_le 48 byte && nat_le byte 57

abbrev pub is_cell : (place byte : ℕ) → Bool
is_cell place byte =
    if place % 3 == 0 then (byte == 32) || (byte == 49)
    else (if place % 3 == 1 then is_digit byte
    else byte == 124)

abbrev pub are_cells : List ℕ → Bool
are_cells text = list_all (λ p. is_cell p.0 p.1) (enumerate_from 0 text)

abbrev pub tens_at : List ℕ → (sl : ℕ) → ℕ
tens_at text sl = if get_or text (3 * sl) 32 == 49 then 10 else 0

abbrev pub vl_at : List ℕ → (sl : ℕ) → ℕ
vl_at text sl = tens_at text sl + (get_or text (3 * sl + 1) 48 - 48)

-- the VL of each SL, from SL 0 on
abbrev pub vls_at : List ℕ → List ℕ
vls_at text = map (vl_at text) (range_with_len 0 16)

-- 15 is the last
abbrev pub are_vls : List ℕ → Bool
are_vls vls = list_all (λ vl. nat_le vl 15) vls

abbrev pub vls_in : List ℕ → Result (List ℕ) LanesCause
vls_in text = only_if ((length text == 48) && (are_cells text && are_vls (vls_at text))) (vls_at text)

-- ---- `ports: in  0, out  1: | 0| 1| 2|..|15|`: the port at which packets come in, and the port by which they leave
unfoldable pub ports_in : List ℕ → Result (ℕ × (ℕ × List ℕ)) LanesCause
ports_in text = do
  ports ← behind (codes "ports: in ") text
  parts ← cut 44 ports
  input ← port_in parts.0
  rest ← behind (codes " out ") parts.1
  last ← cut 58 rest
  output ← port_in last.0
  Ok (input, (output, last.1))

-- that of the table of this LID
unfoldable pub row_in : (line lid : ℕ) → List ℕ → Result LaneRow LanesCause
row_in line lid text = do
  ports ← ports_in text
  cells ← behind (codes " |") ports.1.1
  vls ← vls_in cells
  Ok (record { line = line; lid = lid; input = ports.0; output = ports.1.0; lanes = vls })
