-- What ports of our examples receive. The first 56 bytes of a MAD are its header, the RMPP header and the ComponentMask.
use Rattle.std.specs.Prelude.{◌≡◌, ◌+◌, ◌*◌, ◌^◌, [], ◌∷◌, take}
use Rattle.sa_model.specs.GroupExamples.{with_broadcast_group}
use Rattle.sa_replies.specs.Examples.{making, joining, leaving, nodes_wanted, ack}
use Rattle.sa_replies.specs.RunExamples.{ask, send_mad, send_to_group, setting, services_wanted, groups_wanted, without_default, heard, heard_in, sources, sources_in}

-- a full member makes a group and a limited member joins it: a packet of another limited member reaches the full one
-- alone, as two limited members have no key that matches; the full member's leave ends the group
pub record WhoHearsAGroup : Type 0 where
  pub before : heard [] (send_to_group 0x131 0x0001) ≡ []
  pub joined : heard (ask 0x111 (making 0x111 0x8001) ∷ ask 0x121 (joining 0x121 0x8001) ∷ []) (send_to_group 0x131 0x0001)
      ≡ (0x111 ∷ 6 ∷ 0xc020 ∷ 0x0001 ∷ 1 ∷ []) ∷ []
  -- a sender does not hear itself
  pub by_full : heard (ask 0x111 (making 0x111 0x8001) ∷ ask 0x121 (joining 0x121 0x8001) ∷ []) (send_to_group 0x111 0x8001)
      ≡ (0x121 ∷ 4 ∷ 0xc020 ∷ 0x8001 ∷ 1 ∷ []) ∷ []
  pub ended : heard (ask 0x111 (making 0x111 0x8001) ∷ ask 0x121 (joining 0x121 0x8001) ∷ ask 0x111 (leaving 0x111) ∷ [])
      (send_to_group 0x111 0x8001)
      ≡ []

-- ---- what asking brings
-- all segments of a table within the command, under the key of the SM port that matches
abbrev pub WholeTable : Type 0
WholeTable =
    heard [] (ask 0x111 (nodes_wanted 4))
    ≡ (0x111 ∷ 1 ∷ 4 ∷ 0xffff
    ∷ (0x010302920000000000000000000000040011000000000000 * 2 ^ 256 + 0x0101030000000001000001fc * 2 ^ 160 + 14 * 2 ^ 80)
    ∷ [])
    ∷ (0x111 ∷ 1 ∷ 4 ∷ 0xffff
    ∷ (0x010302920000000000000000000000040011000000000000 * 2 ^ 256 + 0x010101000000000200000000 * 2 ^ 160 + 14 * 2 ^ 80)
    ∷ [])
    ∷ (0x111 ∷ 1 ∷ 4 ∷ 0xffff
    ∷ (0x010302920000000000000000000000040011000000000000 * 2 ^ 256 + 0x010105000000000300000044 * 2 ^ 160 + 14 * 2 ^ 80)
    ∷ [])
    ∷ []

-- a limited member is shown fewer nodes, so its table has two
abbrev pub ShorterTable : Type 0
ShorterTable =
    heard [] (ask 0x121 (nodes_wanted 5))
    ≡ (0x121 ∷ 1 ∷ 5 ∷ 0xffff
    ∷ (0x010302920000000000000000000000050011000000000000 * 2 ^ 256 + 0x010103000000000100000178 * 2 ^ 160 + 14 * 2 ^ 80)
    ∷ [])
    ∷ (0x121 ∷ 1 ∷ 5 ∷ 0xffff
    ∷ (0x010302920000000000000000000000050011000000000000 * 2 ^ 256 + 0x01010500000000020000009c * 2 ^ 160 + 14 * 2 ^ 80)
    ∷ [])
    ∷ []

-- after it no transfer is in progress: an ACK that would abort one is not answered
abbrev pub Closed : Type 0
Closed =
    heard (ask 0x121 (nodes_wanted 5) ∷ []) (send_mad 0x121 (ack 5 2 1)) ≡ []

-- who sends the MAD itself, and acknowledges nothing, is sent the first segment
abbrev pub FirstSegment : Type 0
FirstSegment =
    heard [] (send_mad 0x121 (nodes_wanted 5))
    ≡ (0x121 ∷ 1 ∷ 5 ∷ 0xffff
    ∷ (0x010302920000000000000000000000050011000000000000 * 2 ^ 256 + 0x010103000000000100000178 * 2 ^ 160 + 14 * 2 ^ 80)
    ∷ [])
    ∷ []

-- what is shorter than a MAD is not answered
abbrev pub NoMad : Type 0
NoMad =
    heard [] (send_mad 0x111 (take 255 (nodes_wanted 5))) ≡ []

-- a table without records is one segment
abbrev pub NoServices : Type 0
NoServices =
    heard [] (ask 0x111 (services_wanted 8))
    ≡ (0x111 ∷ 1 ∷ 4 ∷ 0xffff
    ∷ (0x010302920000000000000000000000080031000000000000 * 2 ^ 256 + 0x010107000000000100000014 * 2 ^ 160 + 22 * 2 ^ 80)
    ∷ [])
    ∷ []

-- a limited member's service is shown to the full member, in a table of one record
abbrev pub OneService : Type 0
OneService =
    heard (ask 0x121 (setting 0x121) ∷ []) (ask 0x111 (services_wanted 11))
    ≡ (0x111 ∷ 1 ∷ 4 ∷ 0xffff
    ∷ (0x0103029200000000000000000000000b0031000000000000 * 2 ^ 256 + 0x0101070000000001000000c4 * 2 ^ 160 + 22 * 2 ^ 80)
    ∷ [])
    ∷ []

abbrev pub HiddenService : Type 0
HiddenService =
    heard (ask 0x121 (setting 0x121) ∷ []) (ask 0x131 (services_wanted 11))
    ≡ (0x131 ∷ 1 ∷ 6 ∷ 0xffff
    ∷ (0x0103029200000000000000000000000b0031000000000000 * 2 ^ 256 + 0x010107000000000100000014 * 2 ^ 160 + 22 * 2 ^ 80)
    ∷ [])
    ∷ []

-- the partition file's group is there from the start
abbrev pub GroupOfFile : Type 0
GroupOfFile =
    heard_in with_broadcast_group [] (ask 0x111 (groups_wanted 1))
    ≡ (0x111 ∷ 1 ∷ 4 ∷ 0xffff
    ∷ (0x010302920000000000000000000000010038000000000000 * 2 ^ 256 + 0x01010700000000010000004c * 2 ^ 160 + 7 * 2 ^ 80)
    ∷ [])
    ∷ []

-- who holds no key of the default partition asks for nothing
abbrev pub Refused : Type 0
Refused =
    heard_in without_default [] (ask 0x111 (nodes_wanted 4)) ≡ (0x111 ∷ []) ∷ []

pub record WhatAskingBrings : Type 0 where
  pub whole_table : WholeTable
  pub shorter_table : ShorterTable
  pub closed : Closed
  pub first_segment : FirstSegment
  pub no_mad : NoMad
  pub no_services : NoServices
  pub one_service : OneService
  pub hidden_service : HiddenService
  pub group_of_file : GroupOfFile
  pub refused : Refused

-- ---- what records come from
-- of a table of four nodes in three segments: the second and the fourth are cut in two
abbrev pub SourcesOfNodes : Type 0
SourcesOfNodes =
    sources [] (ask 0x111 (nodes_wanted 4)) ≡ (0x101 ∷ 0x111 ∷ []) ∷ (0x111 ∷ 0x121 ∷ 0x131 ∷ []) ∷ (0x131 ∷ []) ∷ []

-- of a group, its maker, whoever joins it, and the partition file; of the reply to a leave, the port that leaves
pub record SourcesOfGroups : Type 0 where
  pub made : sources [] (ask 0x111 (making 0x111 0x8001)) ≡ (0x111 ∷ []) ∷ []
  pub joined : sources (ask 0x111 (making 0x111 0x8001) ∷ []) (ask 0x121 (joining 0x121 0x8001)) ≡ (0x111 ∷ []) ∷ []
  pub left : sources (ask 0x111 (making 0x111 0x8001) ∷ ask 0x121 (joining 0x121 0x8001) ∷ []) (ask 0x121 (leaving 0x121))
      ≡ (0x121 ∷ []) ∷ []
  pub of_file : sources_in with_broadcast_group [] (ask 0x111 (groups_wanted 1)) ≡ (0 ∷ []) ∷ []
  -- a refusal has none, and neither has a packet from port to port
  pub refused : sources [] (ask 0x121 (making 0x121 0x0001)) ≡ [] ∷ []
  pub packet : sources (ask 0x111 (making 0x111 0x8001) ∷ []) (send_to_group 0x131 0x0001) ≡ [] ∷ []

-- of a service, its port, as it sets it and as it is shown
pub record SourcesOfServices : Type 0 where
  pub set : sources [] (ask 0x121 (setting 0x121)) ≡ (0x121 ∷ []) ∷ []
  pub shown : sources (ask 0x121 (setting 0x121) ∷ []) (ask 0x111 (services_wanted 11)) ≡ (0x121 ∷ []) ∷ []
  pub hidden : sources (ask 0x121 (setting 0x121) ∷ []) (ask 0x131 (services_wanted 11)) ≡ [] ∷ []

-- an ABORT has none, whatever its table had
abbrev pub SourcesOfAbort : Type 0
SourcesOfAbort =
    sources (send_mad 0x121 (nodes_wanted 5) ∷ []) (send_mad 0x121 (ack 5 2 1)) ≡ [] ∷ []

pub record WhatRecordsComeFrom : Type 0 where
  pub nodes : SourcesOfNodes
  pub groups : SourcesOfGroups
  pub services : SourcesOfServices
  pub abort : SourcesOfAbort
