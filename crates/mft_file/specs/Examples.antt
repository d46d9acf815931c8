-- Lines as they are printed, what they say, and which tables are not sound.
use Rattle.std.specs.Prelude.{ℕ, ◌≡◌, true, false, ◌+◌, ◌%◌, List, [], ◌∷◌, ◌++◌, codes, flat_map, map, Ok, Err}
use Rattle.std.specs.List.{IsDistinct, range_with_len}
use Rattle.text_words.specs.Cut.{trimmed}
use Rattle.mft_file.specs.declared.fault.MftCause.TheVariants.{DuplicateTable, Malformed, Unfinished, WrongCount, WrongMlid}
use Rattle.mft_file.specs.declared.row.MaskRow.{MaskRow}
use Rattle.mft_file.specs.declared.table.MaskTable.{MaskTable}
use Rattle.mft_file.specs.Heading.{columns_in, heading_in, is_tens}
use Rattle.mft_file.specs.Mfts.{MftState, count_reported, mfts_of}
use Rattle.mft_file.specs.Row.{may_follow, row_in}
use Rattle.mft_file.specs.Sound.{is_rising, shares_switch}

-- ---- the titles of a table
-- that of so many ports
abbrev title_of : ℕ → List ℕ
title_of ports = codes "     Ports: " ++ flat_map (λ port. (48 + port % 10) ∷ 32 ∷ []) (range_with_len 0 ports)

pub record TitlesAreRead : Type 0 where
  pub by_path : heading_in 1 (codes "Multicast mlids [0xc000-0xc3ff] of switch DR path slid 0; dlid 0; 0,1,9 guid 0x0002c902004085b0 (leaf-2):")
      ≡ Ok (record { line = 1; guid = 0x2c902004085b0; top = 50175; columns = 0 })
  pub by_lid : heading_in 7 (codes "Multicast mlids [0xc000-0xc01f] of switch Lid 4 guid 0x0000000000000020 (left (old): guid 0x7):")
      ≡ Ok (record { line = 7; guid = 0x20; top = 49183; columns = 0 })
  pub of_last_guid : heading_in 1 (codes "Multicast mlids [0xc000-0xc3ff] of switch Lid 4 guid 0xffffffffffffffff (B):")
      ≡ Ok (record { line = 1; guid = 0xffffffffffffffff; top = 50175; columns = 0 })
  -- a way that is none, a line without its end, and a part of a table
  pub by_no_way : heading_in 1 (codes "Multicast mlids [0xc000-0xc3ff] of switch 4 guid 0x0000000000000020 (B):") ≡ Err Malformed
  pub without_end : heading_in 1 (codes "Multicast mlids [0xc000-0xc3ff] of switch Lid 4 guid 0x0000000000000020 (B)") ≡ Err Malformed
  pub of_a_part : heading_in 1 (codes "Multicast mlids [0xc020-0xc3ff] of switch Lid 4 guid 0x0000000000000020 (B):") ≡ Err Malformed
  -- ports 0 to 4, and 0 to 11 with the line of tens above
  pub of_4_ports : columns_in (codes "     Ports: 0 1 2 3 4") ≡ Ok 5
  pub of_11_ports : columns_in (codes "     Ports: 0 1 2 3 4 5 6 7 8 9 0 1") ≡ Ok 12
  pub of_255_ports : columns_in (title_of 255) ≡ Ok 255
  pub of_256_ports : columns_in (title_of 256) ≡ Err Malformed
  pub tens : is_tens (codes "            0                   1") ≡ true
  pub of_wrong_digits : columns_in (codes "     Ports: 0 1 2 4") ≡ Err Malformed

abbrev one_row : MaskRow
one_row = record { mlid = 49152; ports = 1 ∷ 2 ∷ 3 ∷ [] }

-- so many blanks
abbrev blanks : ℕ → List ℕ
blanks count = map (λ place. 32) (range_with_len 0 count)

-- a row, and whether it may stand behind another; the last line
pub record MasksAreRead : Type 0 where
  pub of_three : row_in 5 (codes "0xc000        x x x") ≡ Ok one_row
  -- the switch itself, and its last port
  pub of_the_ends : row_in 12 (codes "0xc001      x                     x") ≡ Ok (record { mlid = 49153; ports = 0 ∷ 11 ∷ [] })
  pub of_the_last : row_in 255 (codes "0xc001" ++ blanks 514 ++ codes "x") ≡ Ok (record { mlid = 49153; ports = 254 ∷ [] })
  pub of_none : row_in 5 (codes "0xc002") ≡ Ok (record { mlid = 49154; ports = [] })
  -- a port that the titles do not have, one before port 0, one between two ports, a byte that is no `x`, and an MLID of other length
  pub past_the_last : row_in 3 (codes "0xc000        x x x") ≡ Err Malformed
  pub before_the_first : row_in 5 (codes "0xc000    x") ≡ Err Malformed
  pub between : row_in 5 (codes "0xc000       x") ≡ Err Malformed
  pub no_cross : row_in 5 (codes "0xc000        y") ≡ Err Malformed
  pub of_five_digits : row_in 5 (codes "0x0c000       x") ≡ Err Malformed
  pub next_follows : may_follow 49183 (one_row ∷ []) 49153 ≡ true
  pub top_follows : may_follow 49183 (one_row ∷ []) 49183 ≡ true
  pub last_follows : may_follow 65535 (one_row ∷ []) 65534 ≡ true
  pub same_does_not : may_follow 49183 (one_row ∷ []) 49152 ≡ false
  pub past_the_top_does_not : may_follow 49183 (one_row ∷ []) 49184 ≡ false
  pub a_lid_does_not : may_follow 49183 [] 49151 ≡ false
  pub the_permissive_lid_does_not : may_follow 65535 [] 65535 ≡ false
  pub counted : count_reported (one_row ∷ []) (trimmed (codes "1 valid mlids dumped \r\n")) ≡ Ok 1
  pub miscounted : count_reported (one_row ∷ []) (codes "2 mlids dumped") ≡ Err WrongCount

-- ---- a whole text: comments, lines with nothing on them, unicast tables and a warning are passed over, and a table may have
-- no rows
abbrev titles_text : List ℕ
titles_text = codes "Multicast mlids [0xc000-0xc3ff] of switch Lid 2 guid 0x0000000000000010 (A):\n     Ports: 0 1 2 3 4 \n MLid\n"

abbrev two_tables : List ℕ
two_tables =
    codes "# of two switches\n \t\r\n" ++ titles_text ++ codes "0xc000        x x x   \n1 valid mlids dumped \n"
    ++ codes "Unicast lids [0x0-0x0] of switch Lid 2 guid 0x0000000000000010 (A):\n  Lid  Out   Destination\n       Port     Info \n0 valid lids dumped\n"
    ++ codes "Multicast mlids [0xc000-0xc3ff] of switch Lid 4 guid 0x0000000000000020 (B):\n     Ports: 0 1\n MLid\n0 valid mlids dumped\n"
    ++ codes "\n*** WARNING ***: this command has been replaced by dump_fts -M\n"

abbrev first_table : MaskTable
first_table = record { line = 3; guid = 0x10; rows = one_row ∷ [] }

abbrev lft_text : List ℕ
lft_text = codes "Unicast lids [0x0-0x0] of switch Lid 2 guid 0x0000000000000010 (A):\n"

-- a table of 12 ports, whose tens stand in a line of their own
abbrev wide_table : List ℕ
wide_table =
    codes "Multicast mlids [0xc000-0xc3ff] of switch Lid 2 guid 0x0000000000000010 (A):\n            0                   1\n"
    ++ title_of 12 ++ codes "\n MLid\n0xc001      x                     x\n1 mlids dumped\n"

-- what `ibroute -M` prints if a switch does not answer it
abbrev failure_text : List ℕ
failure_text = codes "ibroute: iberror: failed: dump tables: node info failed: valid addr?\n"

abbrev wide_mfts : ℕ → MftState
wide_mfts line = record { tables = record { line = line; guid = 0x10; rows = record { mlid = 49153; ports = 0 ∷ 11 ∷ [] } ∷ [] } ∷ [] }

pub record MftTextsAreRead : Type 0 where
  pub whole : mfts_of two_tables ≡ Ok (record { tables = first_table ∷ record { line = 12; guid = 0x20; rows = [] } ∷ [] })
  -- behind a unicast table of all entries
  pub of_12_ports : mfts_of (lft_text ++ codes "0 lids dumped\n" ++ wide_table)
      ≡ Ok (wide_mfts 3)
  -- a unicast table that has no end, and one alone; a table that has no end behind one that has
  pub within_an_lft : mfts_of (lft_text ++ titles_text) ≡ Err (record { line = 2; cause = Malformed })
  pub of_an_lft : mfts_of (lft_text ++ codes "0 lids dumped\n") ≡ Err (record { line = 0; cause = Unfinished })
  pub unfinished_behind_one : mfts_of (wide_table ++ lft_text) ≡ Err (record { line = 0; cause = Unfinished })
  -- a table without its titles, one that has no end, a switch that has two, and an MLID twice
  pub without_titles : mfts_of (codes "Multicast mlids [0xc000-0xc3ff] of switch Lid 2 guid 0x0000000000000010 (A):\n0xc000        x\n") ≡ Err (record { line = 2; cause = Malformed })
  pub unfinished : mfts_of titles_text ≡ Err (record { line = 0; cause = Unfinished })
  pub of_one_switch : mfts_of (titles_text ++ codes "0 mlids dumped\n" ++ titles_text) ≡ Err (record { line = 5; cause = DuplicateTable })
  -- a query that failed between tables and in a unicast table; one that failed within a table or its titles, of which nothing counts then:
  -- another one of the switch may follow, and it alone is none
  pub failed_between : mfts_of (failure_text ++ lft_text ++ failure_text ++ wide_table ++ failure_text) ≡ Ok (wide_mfts 4)
  pub failed_within : mfts_of (titles_text ++ codes "0xc000        x\n" ++ failure_text ++ wide_table) ≡ Ok (wide_mfts 6)
  pub failed_at_titles : mfts_of (codes "Multicast mlids [0xc000-0xc3ff] of switch Lid 2 guid 0x0000000000000010 (A):\n" ++ failure_text ++ wide_table) ≡ Ok (wide_mfts 3)
  pub failed_alone : mfts_of (titles_text ++ codes "0xc000        x\n" ++ failure_text) ≡ Err (record { line = 0; cause = Unfinished })
  pub counted_behind_it : mfts_of (titles_text ++ codes "0xc000        x\n" ++ failure_text ++ codes "1 mlids dumped\n") ≡ Err (record { line = 6; cause = Malformed })
  pub twice : mfts_of (titles_text ++ codes "0xc000        x\n0xc000        x\n") ≡ Err (record { line = 5; cause = WrongMlid })

-- ---- tables that are not sound
pub record UnsoundMasksAreReported : Type 0 where
  pub of_one_switch : IsDistinct shares_switch (first_table ∷ record first_table { line = 17 } ∷ []) → ⊥
  pub twice : is_rising (record first_table { rows = one_row ∷ one_row ∷ [] }) ≡ false
  pub of_a_lid : is_rising (record first_table { rows = record one_row { mlid = 3 } ∷ [] }) ≡ false
  pub of_the_permissive_lid : is_rising (record first_table { rows = record one_row { mlid = 65535 } ∷ [] }) ≡ false
