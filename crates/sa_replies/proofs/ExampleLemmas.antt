-- Our examples, computed.
use Rattle.std.proofs.Common.{refl}
use Rattle.mad_layout.specs.Bits.{field, put_field}
use Rattle.rmpp_core.specs.Reply.{reply_bytes}
use Rattle.rmpp_core.specs.Segments.{segment_of}
use Rattle.sa_records.specs.Speed.{speed_of}
use Rattle.sa_records.specs.NodeRecord.{node_record_bytes, node_record_selected, node_in}
use Rattle.sa_records.specs.PathRecord.{path_record_bytes, path_record_selected, path_in}
use Rattle.sa_records.specs.McMemberRecord.{mc_member_record_bytes, mc_member_record_selected, group_in}
use Rattle.sa_records.specs.ServiceRecord.{data16_selected, data32_selected, data64_selected, data8_back_selected, data8_front_selected, names_selected, service_record_bytes, service_record_selected, service_in}
use Rattle.sa_replies.specs.Request.{request_in}
use Rattle.sa_replies.specs.ExampleLaws.{NoMlidIsFree, WhoIsInGroups, WhoIsRefused, WhichPath, WhichSegments, WhichPartitions, WhichSpeeds, WhoOnlySends, WhatLeavesATable, HowManyServices}

no_mlid : NoMlidIsFree
unfolding field put_field reply_bytes request_in group_in mc_member_record_bytes mc_member_record_selected speed_of
no_mlid = refl

pub who_is_in_groups : WhoIsInGroups
unfolding field put_field reply_bytes request_in group_in mc_member_record_bytes mc_member_record_selected speed_of
who_is_in_groups = record { made = refl; joined = refl; not_made = refl; no_mlid = no_mlid; left = refl; ended = refl }

pub who_is_refused : WhoIsRefused
unfolding field put_field reply_bytes request_in
who_is_refused = record { version = refl; base_version = refl; method = refl; attribute = refl; unknown_attribute = refl; response = refl; class = refl; short = refl }

pub which_path : WhichPath
unfolding field put_field reply_bytes request_in path_in path_record_bytes path_record_selected speed_of
which_path = record { found = refl }

pub which_segments : WhichSegments
unfolding field put_field reply_bytes segment_of request_in node_in node_record_bytes node_record_selected
which_segments = record {
  first = refl;
  later = refl;
  too_small = refl;
  too_big = refl;
  over = refl;
  complete = refl;
  other = refl;
  side_by_side = refl;
}

pub which_partitions : WhichPartitions
unfolding field put_field reply_bytes request_in group_in mc_member_record_bytes mc_member_record_selected speed_of
which_partitions = record { made = refl; in_both = refl; in_one = refl }

pub which_speeds : WhichSpeeds
unfolding field put_field reply_bytes request_in group_in mc_member_record_bytes mc_member_record_selected speed_of
which_speeds = record { less_mtu = refl; less_rate = refl; no_mtu = refl; no_rate = refl }

pub who_only_sends : WhoOnlySends
unfolding field put_field reply_bytes request_in group_in mc_member_record_bytes mc_member_record_selected speed_of
who_only_sends = record { answer = refl; receivers = refl; members = refl }

pub what_leaves_a_table : WhatLeavesATable
unfolding field put_field reply_bytes segment_of request_in node_in path_in node_record_bytes node_record_selected
what_leaves_a_table = record {
  ack_of_none = refl;
  data_segment = refl;
  other_type = refl;
  other_version = refl;
  open_after_ack = refl;
  open_after_data = refl;
  open_after_type = refl;
  open_after_version = refl;
  widest = refl;
  stop = refl;
  after_stop = refl;
  refused = refl;
  after_refused = refl;
}

pub how_many_services : HowManyServices
unfolding field put_field reply_bytes request_in service_in service_record_bytes service_record_selected names_selected data8_front_selected data8_back_selected data16_selected data32_selected data64_selected
how_many_services = record { one_more = refl; again = refl; deleted = refl; deletes = refl; deletes_again = refl }
