-- What the definitions give for lines and texts as they are printed.
use Rattle.std.specs.Prelude.{ℕ, ◌≡◌, true, false, List, [], ◌∷◌, ◌++◌, codes, Some, Ok, Err}
use Rattle.step_results.specs.AtLine.{AtLine}
use Rattle.pkeys_file.specs.declared.answer.Answer.{Answer}
use Rattle.pkeys_file.specs.declared.answer.Reply.{Reply}
use Rattle.pkeys_file.specs.declared.answer.Reply.TheVariants as replies
use Rattle.pkeys_file.specs.declared.fault.KeysCause.{KeysCause}
use Rattle.pkeys_file.specs.declared.fault.KeysCause.TheVariants.{Malformed, DuplicateQuery, OtherAnswer, WrongPlace, NoQuery}
use Rattle.pkeys_file.specs.declared.query.Query.{Query}
use Rattle.pkeys_file.specs.declared.query.QueryKind.TheVariants.{NodeInfo, Keys, PortInfo}
use Rattle.pkeys_file.specs.Answers.{answers_of}
use Rattle.pkeys_file.specs.Fields.{field_in, no_fields, with_node_field, with_port_field}
use Rattle.pkeys_file.specs.Query.{judged_by, query_in}
use Rattle.pkeys_file.specs.Rows.{capacity_after, row_after}

abbrev query : Query
query = record { kind = Keys; lid = 5; port = 1 }

-- ---- queries, titles and fields
abbrev eight : List ℕ
eight = 0x7fff ∷ 0x8001 ∷ 0 ∷ 0x8102 ∷ 0 ∷ 0 ∷ 0 ∷ 0 ∷ []

pub record LinesAreRead : Type 0 where
  pub query_is : query_in (codes "# smpquery pkeys 5 1") ≡ Ok query
  pub portless : query_in (codes "# smpquery pkeys 5") ≡ Ok (record query { port = 0 })
  pub other_query : query_in (codes "# smpquery gids 5") ≡ Err Malformed
  pub title : judged_by (record query { kind = PortInfo }) (codes "# Port info: Lid 5 port 1") ≡ Ok (record query { kind = PortInfo })
  pub other_title : judged_by (record query { kind = NodeInfo }) (codes "# Node info: Lid 6") ≡ Err OtherAnswer
  pub field : field_in (codes "PartCap:.........................64") ≡ Ok (codes "PartCap", codes "64")
  pub guid : with_node_field no_fields (codes "PortGuid") (codes "0x98039b0300d05031")
      ≡ Ok (record no_fields { port_guid = Some 0x98039b0300d05031 })
  pub twice : with_node_field (record no_fields { guid = Some 1 }) (codes "Guid") (codes "0x1") ≡ Err Malformed
  pub bit : with_port_field no_fields (codes "PartEnforceInb") (codes "1") ≡ Ok (record no_fields { inbound = Some true })
  -- empty places may stand before keys, and a row begins with the place of its first key
  pub row : row_after [] (codes "   0: 0x7fff 0x8001 0x0000 0x8102 0x0000 0x0000 0x0000 0x0000") ≡ Ok eight
  pub other_row : row_after eight (codes "  16: 0x7fff 0x8001 0x0000 0x8102 0x0000 0x0000 0x0000 0x0000") ≡ Err WrongPlace
  pub short_row : row_after [] (codes "   0: 0x7fff 0x8001") ≡ Err Malformed
  pub capacity : capacity_after eight no_fields (codes "6 pkeys capacity for this port") ≡ Ok (record no_fields { capacity = Some 6 })
  pub other_capacity : capacity_after eight no_fields (codes "9 pkeys capacity for this port") ≡ Err WrongPlace

-- ---- whole inputs: what is not printed whole is unread
abbrev node_text : List ℕ
node_text = codes "# smpquery nodeinfo 5\n# Node info: Lid 5\nGuid:....0x10\nPortGuid:....0x11\r\nPartCap:....8\nDevId:....0xd2f0\n"

abbrev table_text : List ℕ
table_text = codes "# smpquery pkeys 5 1\n   0: 0x7fff 0x8001 0x0000 0x8102 0x0000 0x0000 0x0000 0x0000\n8 pkeys capacity for this port\n"

abbrev ports_text : List ℕ
ports_text = codes "# smpquery pkeys 3 1\n   0: 0x7fff 0x8001 0x0000 0x8102 0x0000 0x0000 0x0000 0x0000\n\n# smpquery portinfo 3 1\n"

abbrev port_text : List ℕ
port_text = codes "# smpquery portinfo 3 2\n# Port info: Lid 3 port 2\nCapMask:....0x2\n\t\tIsSM\nPartEnforceInb:.1\nPartEnforceOutb:.0\n"

abbrev answered : ℕ → Query → Reply → Answer
answered line asked reply = record { line = line; query = asked; reply = reply }

abbrev all_text : List ℕ
all_text = node_text ++ table_text ++ ports_text ++ port_text

pub record TextsAreRead : Type 0 where
  pub whole : answers_of all_text ≡ Ok (
      answered 1 (record query { kind = NodeInfo; port = 0 }) (replies.Node (record { guid = 0x10; port_guid = 0x11; capacity = 8 }))
      ∷ answered 7 query (replies.Keys eight)
      ∷ answered 10 (record query { lid = 3 }) replies.Unread
      ∷ answered 13 (record query { kind = PortInfo; lid = 3 }) replies.Unread
      ∷ answered 14 (record query { kind = PortInfo; lid = 3; port = 2 }) (replies.Port true false) ∷ [])

-- ---- a query that failed is unread, whatever of its answer was printed before and behind; the next one counts
abbrev failure : List ℕ
failure = codes "/usr/sbin/smpquery: iberror: failed: operation pkeys: node info query failed\n"

abbrev failed_node : List ℕ
failed_node = codes "# smpquery nodeinfo 5\n# Node info: Lid 5\nGuid:....0x10\nPortGuid:....0x11\nPartCap:....8\n" ++ failure

abbrev broken_table : List ℕ
broken_table =
    codes "# smpquery pkeys 5 2\n   0: 0x7fff 0x8001 0x0000 0x8102 0x0000 0x0000 0x0000 0x0000\n" ++ failure
    ++ codes "8 pkeys capacity for this port\nbroken off\n"

pub record FailuresAreUnread : Type 0 where
  pub alone : answers_of (codes "# smpquery pkeys 5 1\n" ++ failure) ≡ Ok (answered 1 query replies.Unread ∷ [])
  pub behind_an_answer : answers_of (table_text ++ failure) ≡ Ok (answered 1 query replies.Unread ∷ [])
  pub between : answers_of (failed_node ++ broken_table ++ table_text) ≡ Ok (
      answered 1 (record query { kind = NodeInfo; port = 0 }) replies.Unread
      ∷ answered 7 (record query { port = 2 }) replies.Unread
      ∷ answered 12 query (replies.Keys eight) ∷ [])
  -- before the first query it is passed over
  pub in_front : answers_of (failure ++ table_text) ≡ Ok (answered 2 query (replies.Keys eight) ∷ [])
  -- other words are at fault
  pub other_words : answers_of (codes "# smpquery pkeys 5 1\nibwarn: [7] _do_madrpc failed\n") ≡ Err (record { line = 2; cause = Malformed })

-- ---- and whole inputs that are refused
abbrev at : ℕ → KeysCause → AtLine KeysCause
at line cause = record { line = line; cause = cause }

pub record TextsAreRefused : Type 0 where
  pub of_no_query : answers_of (codes "\n\n") ≡ Err (at 0 NoQuery)
  pub before_a_query : answers_of (codes "8 pkeys capacity for this port\n") ≡ Err (at 1 Malformed)
  pub asked_twice : answers_of (table_text ++ table_text) ≡ Err (at 4 DuplicateQuery)
  pub behind_the_last : answers_of (table_text ++ codes "   8: 0x7fff\n") ≡ Err (at 4 Malformed)
  pub without_a_value : answers_of (node_text ++ codes "PartCap\n") ≡ Err (at 7 Malformed)
