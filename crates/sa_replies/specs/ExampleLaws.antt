-- What subnet administration answers to the MADs of our examples, each MAD as one number.
use Rattle.std.specs.Prelude.{◌≡◌, ◌+◌, ◌*◌, ◌^◌, true, [], ◌∷◌, map, take}
use Rattle.mad_layout.specs.Bits.{number}
use Rattle.sa_model.specs.GroupExamples.{ports}
use Rattle.sa_model.specs.QueryExamples.{full, limited}
use Rattle.sa_replies.specs.Answer.{answer}
use Rattle.sa_replies.specs.Examples.{making, making_another, with_all_mlids, joining, leaving, path_wanted, nodes_wanted, ack}
use Rattle.sa_replies.specs.Examples.{old_version, new_base_version, of_method, of_class, of_attribute, node_set, by, answered, fronts}
use Rattle.sa_replies.specs.Examples.{mlids_after, leaving_in, making_by, speeds_after, joining_to_send, receivers_after}
use Rattle.sa_replies.specs.Examples.{of_transfer, is_open_after, paths_of_nobody, with_services, service_asked_by, statuses_in, ids_after}

-- no group is made if none of the partition's MLIDs is free
abbrev pub NoMlidIsFree : Type 0
NoMlidIsFree =
    map number (answer ports full making_another with_all_mlids).0
    ≡ (0x010302810100000000000000000000010038000000000000 * 2 ^ 1856 + 0x130c7 * 2 ^ 1600) ∷ []

pub record WhoIsInGroups : Type 0 where
  -- a full member makes a group, and a limited member joins it; a limited member makes none
  pub made : answered [] full (making 0x111 0x8001)
      ≡ (0x010302810000000000000000000000010038000000000000 * 2 ^ 1856
      + 0x00000000000130c7ff12000000000000000000000000000afe80000000000000000000000000011100001234c0208400800183920000000021 * 2 ^ 1208) ∷ []
  pub joined : answered (by full (making 0x111 0x8001) ∷ []) limited (joining 0x121 0x8001)
      ≡ (0x010302810000000000000000000000020038000000000000 * 2 ^ 1856
      + 0x0000000000010083ff12000000000000000000000000000afe80000000000000000000000000012100001234c0208400800183920000000021 * 2 ^ 1208) ∷ []
  pub not_made : answered [] limited (making 0x121 0x0001)
      ≡ (0x010302810200000000000000000000010038000000000000 * 2 ^ 1856 + 0x130c7 * 2 ^ 1600) ∷ []
  pub no_mlid : NoMlidIsFree
  -- the full member's leave ends the group, so that the limited member has none to leave
  pub left : fronts (by full (making 0x111 0x8001) ∷ []) full (leaving 0x111)
      ≡ (0x010302950000000000000000000000030038000000000000 * 2 ^ 256 + 0x10003) ∷ []
  pub ended : fronts (by full (making 0x111 0x8001) ∷ by limited (joining 0x121 0x8001) ∷ by full (leaving 0x111) ∷ []) limited
      (leaving 0x121)
      ≡ (0x010302950200000000000000000000030038000000000000 * 2 ^ 256 + 0x10003) ∷ []

-- what is asked in a version, by a method or of an attribute that is not ours is refused; to a response, to another
-- class and to what is no MAD there is no answer
pub record WhoIsRefused : Type 0 where
  pub version : answered [] full old_version ≡ (0x01030281000400000000000000000005 * 2 ^ 1920) ∷ []
  pub base_version : answered [] full new_base_version ≡ (0x01030281000400000000000000000005 * 2 ^ 1920) ∷ []
  pub method : answered [] full (of_method 0x13) ≡ (0x01030293000800000000000000000006 * 2 ^ 1920) ∷ []
  pub attribute : fronts [] full node_set ≡ (0x01030281000c000000000000000000070011000000000000 * 2 ^ 256) ∷ []
  pub unknown_attribute : fronts [] full (of_attribute 0xffff) ≡ (0x01030281000c00000000000000000006ffff000000000000 * 2 ^ 256) ∷ []
  pub response : answered [] full (of_method 0x81) ≡ []
  pub class : answered [] full (of_class 4) ≡ []
  pub short : answered [] full (take 255 old_version) ≡ []

pub record WhichPath : Type 0 where
  pub found : answered [] limited path_wanted
      ≡ (0x010302810000000000000000000000070035000000000000 * 2 ^ 1856
      + 0xc * 2 ^ 1600
      + 0xfe800000000000000000000000000111fe8000000000000000000000000001210004000500000000008000010000848392 * 2 ^ 1144) ∷ []

-- a table of 448 bytes in three segments, of which ACKs bring the later ones
pub record WhichSegments : Type 0 where
  pub first : fronts [] full (nodes_wanted 4)
      ≡ (0x010302920000000000000000000000040011000000000000 * 2 ^ 256 + 0x0101030000000001000001fc * 2 ^ 160 + 14 * 2 ^ 80) ∷ []
  pub later : fronts (by full (nodes_wanted 4) ∷ []) full (ack 4 1 9)
      ≡ (0x010302920000000000000000000000040011000000000000 * 2 ^ 256 + 0x010101000000000200000000 * 2 ^ 160 + 14 * 2 ^ 80)
      ∷ (0x010302920000000000000000000000040011000000000000 * 2 ^ 256 + 0x010105000000000300000044 * 2 ^ 160 + 14 * 2 ^ 80)
      ∷ []
  -- a window before the segment, and a segment after the last, abort it; then nothing is left to acknowledge
  pub too_small : fronts (by full (nodes_wanted 7) ∷ []) full (ack 7 2 1)
      ≡ (0x010302920000000000000000000000070011000000000000 * 2 ^ 256 + 0x0104017a * 2 ^ 224) ∷ []
  pub too_big : fronts (by full (nodes_wanted 7) ∷ []) full (ack 7 4 9)
      ≡ (0x010302920000000000000000000000070011000000000000 * 2 ^ 256 + 0x0104017b * 2 ^ 224) ∷ []
  pub over : fronts (by full (nodes_wanted 7) ∷ by full (ack 7 4 9) ∷ []) full (ack 7 1 9) ≡ []
  pub complete : fronts (by full (nodes_wanted 7) ∷ by full (ack 7 3 3) ∷ []) full (ack 7 3 3) ≡ []
  -- an ACK of another transaction does nothing
  pub other : fronts (by full (nodes_wanted 4) ∷ []) full (ack 5 1 9) ≡ []
  -- two ports have tables side by side
  pub side_by_side : fronts (by full (nodes_wanted 4) ∷ by limited (nodes_wanted 5) ∷ []) full (ack 4 1 2)
      ≡ (0x010302920000000000000000000000040011000000000000 * 2 ^ 256 + 0x010101000000000200000000 * 2 ^ 160 + 14 * 2 ^ 80) ∷ []

-- groups are named by base and MGID: made in each of two partitions, they end in both by a leave that names none, and by one
-- that names a key in that of its base
pub record WhichPartitions : Type 0 where
  pub made : mlids_after (making 0x102 0x8001 ∷ making 0x102 0x8002 ∷ []) ≡ 0xc000 ∷ 0xc020 ∷ []
  pub in_both : mlids_after (making 0x102 0x8001 ∷ making 0x102 0x8002 ∷ leaving 0x102 ∷ []) ≡ []
  pub in_one : mlids_after (making 0x102 0x8001 ∷ making 0x102 0x8002 ∷ leaving_in 0x102 0x8002 ∷ []) ≡ 0xc000 ∷ []

-- a group takes the greatest MTU and the fastest rate that its maker's selectors leave: 1 asks for less, 2 for this one
pub record WhichSpeeds : Type 0 where
  pub less_mtu : speeds_after (making_by 1 4 2 3) ≡ 3 ∷ 3 ∷ []
  -- 5 Gb/s are less than 10, though their code, 5, is greater than 3
  pub less_rate : speeds_after (making_by 2 4 1 3) ≡ 4 ∷ 5 ∷ []
  pub no_mtu : fronts [] full (making_by 1 1 2 3)
      ≡ (0x010302810200000000000000000000010038000000000000 * 2 ^ 256 + 0x133f7) ∷ []
  pub no_rate : fronts [] full (making_by 2 4 1 2)
      ≡ (0x010302810200000000000000000000010038000000000000 * 2 ^ 256 + 0x133f7) ∷ []

-- who joins to send alone takes part in the group, and receives nothing
pub record WhoOnlySends : Type 0 where
  pub answer : fronts (by full (making 0x111 0x8001) ∷ []) limited joining_to_send
      ≡ (0x010302810000000000000000000000020038000000000000 * 2 ^ 256 + 0x10083) ∷ []
  pub receivers : receivers_after (by full (making 0x111 0x8001) ∷ by limited joining_to_send ∷ []) ≡ 0x111 ∷ []
  pub members : receivers_after (by full (making 0x111 0x8001) ∷ by limited (joining 0x121 0x0001) ∷ []) ≡ 0x111 ∷ 0x121 ∷ []

-- what comes while a table of three segments is open, and whether it is open after that
pub record WhatLeavesATable : Type 0 where
  -- an ACK of no segment with no window, DATA, a type and a version that are not known
  pub ack_of_none : fronts (by full (nodes_wanted 4) ∷ []) full (ack 4 0 0) ≡ []
  pub data_segment : fronts (by full (nodes_wanted 4) ∷ []) full (of_transfer 4 1 1) ≡ []
  pub other_type : fronts (by full (nodes_wanted 4) ∷ []) full (of_transfer 4 1 9) ≡ []
  pub other_version : fronts (by full (nodes_wanted 4) ∷ []) full (of_transfer 4 2 2) ≡ []
  pub open_after_ack : is_open_after (by full (nodes_wanted 4) ∷ by full (ack 4 0 0) ∷ []) ≡ true
  pub open_after_data : is_open_after (by full (nodes_wanted 4) ∷ by full (of_transfer 4 1 1) ∷ []) ≡ true
  pub open_after_type : is_open_after (by full (nodes_wanted 4) ∷ by full (of_transfer 4 1 9) ∷ []) ≡ true
  pub open_after_version : is_open_after (by full (nodes_wanted 4) ∷ by full (of_transfer 4 2 2) ∷ []) ≡ true
  -- an ACK of segment 1 with the widest window brings all that is left
  pub widest : fronts (by full (nodes_wanted 4) ∷ []) full (ack 4 1 0xffffffff)
      ≡ (0x010302920000000000000000000000040011000000000000 * 2 ^ 256 + 0x010101000000000200000000 * 2 ^ 160 + 14 * 2 ^ 80)
      ∷ (0x010302920000000000000000000000040011000000000000 * 2 ^ 256 + 0x010105000000000300000044 * 2 ^ 160 + 14 * 2 ^ 80)
      ∷ []
  -- a STOP ends it without a word
  pub stop : fronts (by full (nodes_wanted 4) ∷ []) full (of_transfer 4 1 3) ≡ []
  pub after_stop : fronts (by full (nodes_wanted 4) ∷ by full (of_transfer 4 1 3) ∷ []) full (ack 4 1 9) ≡ []
  -- a GetTable that is refused leaves it
  pub refused : fronts (by full (nodes_wanted 4) ∷ []) full paths_of_nobody
      ≡ (0x010302920600000000000000000000090035000000000000 * 2 ^ 256) ∷ []
  pub after_refused : fronts (by full (nodes_wanted 4) ∷ by full paths_of_nobody ∷ []) full (ack 4 1 2)
      ≡ (0x010302920000000000000000000000040011000000000000 * 2 ^ 256 + 0x010101000000000200000000 * 2 ^ 160 + 14 * 2 ^ 80) ∷ []

-- a 17th service is refused, and one of an ID that is there is set again; a second Delete is refused
pub record HowManyServices : Type 0 where
  pub one_more : statuses_in (with_services 16) (service_asked_by 2 17) ≡ 0x0100 ∷ []
  pub again : statuses_in (with_services 16) (service_asked_by 2 16) ≡ 0 ∷ []
  pub deleted : ids_after (with_services 1) (service_asked_by 21 1) ≡ []
  pub deletes : statuses_in (with_services 1) (service_asked_by 21 1) ≡ 0 ∷ []
  pub deletes_again : statuses_in (with_services 0) (service_asked_by 21 1) ≡ 0x0300 ∷ []
