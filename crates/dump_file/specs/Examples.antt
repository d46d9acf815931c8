-- Lines as they are printed, what they say, and which dumps are not sound.
use Rattle.std.specs.Prelude.{ℕ, ◌≡◌, true, false, List, [], ◌∷◌, ◌++◌, codes, Ok, Err}
use Rattle.std.specs.List.{IsDistinct}
use Rattle.dump_file.specs.declared.destination.Destination.TheVariants.{ChannelAdapter, Switch, Router, FurtherLid, Nobody, NotReported}
use Rattle.dump_file.specs.declared.fault.DumpCause.TheVariants.{DuplicateTable, EndNotReported, Malformed, TwoEndPorts, Unfinished, WrongCount}
use Rattle.dump_file.specs.declared.row.Row.{Row}
use Rattle.dump_file.specs.declared.table.Table.{Table}
use Rattle.dump_file.specs.Dump.{count_reported, dump_of}
use Rattle.dump_file.specs.Heading.{heading_in}
use Rattle.dump_file.specs.Row.{is_said_otherwise, may_follow, row_in}
use Rattle.dump_file.specs.Sound.{have_one_end, is_rising, shares_switch}
use Rattle.text_words.specs.Cut.{trimmed}

-- the first line of a table
pub record HeadingsAreRead : Type 0 where
  pub by_path : heading_in 1 (codes "Unicast lids [0x0-0x140] of switch DR path slid 0; dlid 0; 0,1,9 guid 0x0002c902004085b0 (leaf-2):")
      ≡ Ok (record { line = 1; guid = 0x2c902004085b0; top = 320; by_lid = false })
  pub by_lid : heading_in 7 (codes "Unicast lids [0x0-0x6] of switch Lid 4 guid 0x0000000000000020 (B):") ≡ Ok (record { line = 7; guid = 0x20; top = 6; by_lid = true })
  -- a name may look like the end of the line
  pub by_any_name : heading_in 1 (codes "Unicast lids [0x0-0x6] of switch Lid 4 guid 0x0000000000000020 (left (old): guid 0x7):") ≡ Ok (record { line = 1; guid = 0x20; top = 6; by_lid = true })
  -- a way that is none, and a line without its end
  pub by_no_way : heading_in 1 (codes "Unicast lids [0x0-0x6] of switch 4 guid 0x0000000000000020 (B):") ≡ Err Malformed
  pub without_end : heading_in 1 (codes "Unicast lids [0x0-0x6] of switch Lid 4 guid 0x0000000000000020 (B)") ≡ Err Malformed
  -- a part of a table, and the file that OpenSM writes of itself
  pub of_a_part : heading_in 1 (codes "Unicast lids [0x3-0x6] of switch Lid 4 guid 0x0000000000000020 (B):") ≡ Err Malformed
  pub by_opensm : heading_in 1 (codes "Unicast lids [0-6] of switch Lid 2 guid 0x0000000000000010 ('R1'):") ≡ Err Malformed

abbrev one_row : Row
one_row = record { lid = 3; port = 3; destination = ChannelAdapter 0x111 }

-- an entry of 255, of which nothing is reported, and one of 254, whose end port has the greatest GUID
abbrev closed_row : Row
closed_row = record { lid = 4; port = 255; destination = NotReported }

abbrev last_port_row : Row
last_port_row = record { lid = 5; port = 254; destination = Router 0xffffffffffffffff }

-- a row, and whether it may stand behind another; the last line
pub record RowsAreRead : Type 0 where
  pub adapter : row_in (codes "0x0003 003 : (Channel Adapter portguid 0x0000000000000111: 'it's (old): 'h1'')") ≡ Ok one_row
  pub switch : row_in (codes "0x0004 000 : (Switch portguid 0x0000000000000020: 'R2')") ≡ Ok (record { lid = 4; port = 0; destination = Switch 0x20 })
  pub router : row_in (codes "0x0005 007 : (Router portguid 0x7cfe9003009f0a11: 'gateway 1')") ≡ Ok (record { lid = 5; port = 7; destination = Router 0x7cfe9003009f0a11 })
  pub further : row_in (codes "0x0004 003 : (path #2 out of 2: portguid 0x0000000000000111)") ≡ Ok (record { lid = 4; port = 3; destination = FurtherLid 0x111 })
  pub nobody : row_in (codes "0x0015 002 : (node info not available fabric scan)") ≡ Ok (record { lid = 21; port = 2; destination = Nobody })
  pub illegal : row_in (codes "0x0001 255 : (illegal port)") ≡ Ok (record { lid = 1; port = 255; destination = NotReported })
  pub illegal_path : row_in (codes "0x0000 255 : (path #0 - illegal port)") ≡ Ok (record { lid = 0; port = 255; destination = NotReported })
  pub of_lid_0 : row_in (codes "0x0000 001 : (path #1 out of 1)") ≡ Ok (record { lid = 0; port = 1; destination = NotReported })
  pub last_port : row_in (codes "0x0005 254 : (Router portguid 0xffffffffffffffff: '')") ≡ Ok last_port_row
  pub without_end : row_in (codes "0x0003 003") ≡ Err EndNotReported
  pub top_follows : may_follow 4 (one_row ∷ []) 4 ≡ true
  pub same_does_not : may_follow 4 (one_row ∷ []) 3 ≡ false
  pub past_the_top_does_not : may_follow 4 (one_row ∷ []) 5 ≡ false
  pub two_ends : is_said_otherwise (one_row ∷ []) (record one_row { destination = Switch 0x20 }) ≡ true
  pub further_of_one : is_said_otherwise (one_row ∷ []) (record one_row { destination = FurtherLid 0x111 }) ≡ false
  pub further_of_another : is_said_otherwise (one_row ∷ []) (record one_row { destination = FurtherLid 0x222 }) ≡ true
  pub of_router : is_said_otherwise (last_port_row ∷ []) (record last_port_row { destination = Switch 0x20 }) ≡ true
  pub of_nobody : is_said_otherwise (one_row ∷ []) (record one_row { destination = Nobody }) ≡ false
  pub counted : count_reported (one_row ∷ []) (trimmed (codes "1 valid lids dumped \r\n")) ≡ Ok 1
  pub miscounted : count_reported (one_row ∷ []) (codes "2 lids dumped") ≡ Err WrongCount
  -- entries of 255 are counted if all are, and those of 254 always
  pub valid_counted : count_reported (closed_row ∷ one_row ∷ last_port_row ∷ last_port_row ∷ []) (codes "3 valid lids dumped") ≡ Ok 3
  pub all_counted : count_reported (one_row ∷ closed_row ∷ last_port_row ∷ []) (codes "3 lids dumped") ≡ Ok 3

-- ---- a whole text: comments, lines with nothing on them, multicast tables and a warning are passed over, and a table may
-- have no rows
abbrev heading_text : List ℕ
heading_text = codes "Unicast lids [0x0-0x5] of switch Lid 2 guid 0x0000000000000010 (A):\n  Lid  Out   Destination\n       Port     Info \n"

abbrev rows_text : List ℕ
rows_text = codes "0x0003 003 : (Channel Adapter portguid 0x0000000000000111: 'h1')\n\n0x0004 255 : (illegal port)\n"

abbrev two_tables : List ℕ
two_tables =
    codes "# of two switches\n \t\r\n" ++ heading_text ++ rows_text ++ codes "2 lids dumped\n"
    ++ codes "Multicast mlids [0xc000-0xc3ff] of switch Lid 2 guid 0x0000000000000010 (A):\n     Ports: 0\n0xc000 x\n1 mlids dumped\n"
    ++ codes "Multicast mlids [0xc000-0xc3ff] of switch Lid 4 guid 0x0000000000000020 (B):\n0 valid mlids dumped\n"
    ++ codes "Unicast lids [0x0-0x0] of switch Lid 4 guid 0x0000000000000020 (B):\n  Lid  Out   Destination\n       Port     Info \n0 valid lids dumped\n"
    ++ codes "*** WARNING ***: AM_KEY not set\n"

abbrev routed_text : List ℕ
routed_text =
    codes "Unicast lids [0x0-0x5] of switch DR path slid 0; dlid 0; 0,1 guid 0x0000000000000010 (A):\n  Lid  Out   Destination\n       Port     Info \n"
    ++ codes "0 valid lids dumped\n"

abbrev routed_title : List ℕ
routed_title = codes "Unicast lids [0x0-0x5] of switch DR path slid 0; dlid 0; 0,1 guid 0x0000000000000010 (A):\n"

abbrev other_text : List ℕ
other_text = codes "Unicast lids [0x0-0x0] of switch DR path slid 0; dlid 0; 0,2 guid 0x0000000000000020 (B):\n  Lid  Out   Destination\n       Port     Info \n0 valid lids dumped\n"

abbrev denying_rows : List ℕ
denying_rows =
    codes "Unicast lids [0x0-0x5] of switch DR path slid 0; dlid 0; 0,1 guid 0x0000000000000010 (A):\n  Lid  Out   Destination\n       Port     Info \n"
    ++ codes "0x0003 003 : (Channel Adapter portguid 0x0000000000000222: 'h2')\n"

abbrev denying_text : List ℕ
denying_text = denying_rows ++ codes "1 valid lids dumped\n"

abbrev mft_text : List ℕ
mft_text = codes "Multicast mlids [0xc000-0xc3ff] of switch Lid 2 guid 0x0000000000000010 (A):\n     Ports: 0\n MLid\n"

-- what `ibroute` prints if a switch does not answer it
abbrev failure_text : List ℕ
failure_text = codes "ibroute: iberror: failed: dump tables: node info failed: valid addr?\n"

abbrev first_table : Table
first_table = record { line = 3; guid = 0x10; top = 5; rows = one_row ∷ closed_row ∷ [] }

pub record TextsAreRead : Type 0 where
  pub whole : dump_of two_tables ≡ Ok (record { tables = first_table ∷ record { line = 16; guid = 0x20; top = 0; rows = [] } ∷ [] })
  -- a table by the LID of a switch counts in the place of one by a directed route, where that stood
  pub by_lid_counts : dump_of (routed_text ++ other_text ++ heading_text ++ rows_text ++ codes "2 lids dumped\n")
      ≡ Ok (record { tables = record first_table { line = 9 } ∷ record { line = 5; guid = 0x20; top = 0; rows = [] } ∷ [] })
  -- but not the other way round; and what the one says of LIDs the other must not deny
  pub by_route_does_not : dump_of (heading_text ++ codes "0 lids dumped\n" ++ routed_text) ≡ Err (record { line = 5; cause = DuplicateTable })
  pub of_two_ends : dump_of (denying_text ++ heading_text ++ rows_text) ≡ Err (record { line = 9; cause = TwoEndPorts })
  -- words before a `#`, a table that has no end, and a switch that has two
  pub before_a_comment : dump_of (codes "2 tables # of two switches\n") ≡ Err (record { line = 1; cause = Malformed })
  pub unfinished : dump_of (heading_text ++ rows_text) ≡ Err (record { line = 0; cause = Unfinished })
  pub of_one_switch : dump_of (heading_text ++ codes "0 lids dumped\n" ++ heading_text) ≡ Err (record { line = 5; cause = DuplicateTable })
  -- a text that ends in a multicast table behind a whole one, and one of multicast tables alone
  pub unfinished_behind_one : dump_of (heading_text ++ codes "0 lids dumped\n" ++ mft_text) ≡ Err (record { line = 0; cause = Unfinished })
  pub of_mfts : dump_of (mft_text ++ codes "0 mlids dumped\n") ≡ Err (record { line = 0; cause = Unfinished })
  -- a multicast table that has no end, and a table without its titles
  pub within_an_mft : dump_of (mft_text ++ heading_text) ≡ Err (record { line = 4; cause = Malformed })
  pub without_titles : dump_of (routed_title ++ rows_text) ≡ Err (record { line = 2; cause = Malformed })
  -- a query that failed between tables and in a multicast table; one that failed within a table, of which nothing counts then: another one of
  -- the switch may follow, its rows deny nothing, and it alone is none
  pub failed_between : dump_of (failure_text ++ mft_text ++ failure_text ++ other_text ++ failure_text)
      ≡ Ok (record { tables = record { line = 6; guid = 0x20; top = 0; rows = [] } ∷ [] })
  pub failed_within : dump_of (denying_rows ++ failure_text ++ heading_text ++ rows_text ++ codes "2 lids dumped\n")
      ≡ Ok (record { tables = record first_table { line = 6 } ∷ [] })
  pub failed_at_titles : dump_of (routed_title ++ failure_text ++ other_text) ≡ Ok (record { tables = record { line = 3; guid = 0x20; top = 0; rows = [] } ∷ [] })
  pub failed_alone : dump_of (heading_text ++ rows_text ++ failure_text) ≡ Err (record { line = 0; cause = Unfinished })
  pub counted_behind_it : dump_of (heading_text ++ rows_text ++ failure_text ++ codes "2 lids dumped\n") ≡ Err (record { line = 8; cause = Malformed })
  pub a_warning : dump_of (codes "ibwarn: [4711] mad_rpc: _do_madrpc failed; dport (Lid 9)\n" ++ other_text) ≡ Err (record { line = 1; cause = Malformed })
  pub without_second_title : dump_of (routed_title ++ codes "  Lid  Out   Destination\n" ++ rows_text) ≡ Err (record { line = 3; cause = Malformed })

-- ---- dumps that are not sound
pub record UnsoundAreReported : Type 0 where
  pub of_one_switch : IsDistinct shares_switch (first_table ∷ record first_table { line = 17 } ∷ []) → ⊥
  pub twice : is_rising (record first_table { rows = one_row ∷ one_row ∷ [] }) ≡ false
  pub falling : is_rising (record first_table { rows = closed_row ∷ one_row ∷ [] }) ≡ false
  pub past_the_top : is_rising (record first_table { top = 2 }) ≡ false
  pub of_two_ends : have_one_end (one_row ∷ record one_row { destination = Switch 0x20 } ∷ []) ≡ false
