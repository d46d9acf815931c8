-- The titles of a table.
use Rattle.std.specs.Prelude.{ℕ, Bool, ◌+◌, ◌/◌, ◌%◌, ◌==◌, ◌&&◌, nat_eq, nat_le, List, length, codes, if◌then◌else◌, Result}
use Rattle.std.specs.List.{enumerate_from, ends_with, list_all, starts_with}
use Rattle.step_results.specs.Steps.{◌>>=◌}
use Rattle.dump_file.specs.Heading.{is_way}
use Rattle.mft_file.specs.declared.heading.Heading.{Heading}
use Rattle.mft_file.specs.declared.fault.MftCause.{MftCause}
use Rattle.mft_file.specs.Parts.{behind, cut, guid_in, mlid_in, only_if}

-- `DR path slid 0; dlid 0; 0,1,1,2 guid 0x0000000000000020 ` or `Lid 4 guid 0x0000000000000020 `: no way has a `g`
unfoldable pub guid_behind_way : List ℕ → Result ℕ MftCause
guid_behind_way text = do
  parts ← cut 103 text
  rest ← behind (codes "uid ") parts.1
  word ← cut 32 rest
  guid ← guid_in word.0
  only_if (is_way parts.0 && (length word.1 == 0)) guid

-- `Multicast mlids [0xc000-0xc3ff] of switch`, the way and the GUID, and ` (R2):`, the name, whatever bytes it has
unfoldable pub heading_in : ℕ → List ℕ → Result Heading MftCause
heading_in line text = do
  range ← behind (codes "Multicast mlids [0xc000-") text
  top ← cut 93 range
  mlid ← mlid_in top.0
  switch ← behind (codes " of switch ") top.1
  parts ← cut 40 switch
  guid ← guid_behind_way parts.0
  only_if (ends_with nat_eq parts.1 (codes "):")) (record { line = line; guid = guid; top = mlid; columns = 0 })

-- ---- from 10 ports on a line of tens stands above the port numbers. It is passed over
abbrev pub is_tens : List ℕ → Bool
is_tens text = starts_with nat_eq text (codes "            0")

-- ---- `     Ports: 0 1 2 3 4`: of each port from 0 on the last digit, with a blank between
abbrev pub is_digit_of : ℕ → ℕ → Bool
is_digit_of column byte = if column % 2 == 0 then byte == 48 + (column / 2) % 10 else byte == 32

abbrev pub are_digits : List ℕ → Bool
are_digits text = list_all (λ p. is_digit_of p.0 p.1) (enumerate_from 0 text)

-- how many ports it shows: 255 at most
unfoldable pub columns_in : List ℕ → Result ℕ MftCause
columns_in text = do
  digits ← behind (codes "     Ports: ") text
  only_if (are_digits digits && nat_le (length digits) 510) ((length digits + 1) / 2)
