-- Our examples, computed.
use Rattle.std.proofs.Common.{refl}
use Rattle.mad_layout.specs.Bits.{field, put_field}
use Rattle.rmpp_core.specs.Reply.{reply_bytes}
use Rattle.rmpp_core.specs.Segments.{segment_of}
use Rattle.sa_records.specs.McMemberRecord.{mc_member_record_bytes, mc_member_record_selected, group_in}
use Rattle.sa_records.specs.NodeRecord.{node_record_bytes, node_record_selected, node_in}
use Rattle.sa_records.specs.ServiceRecord.{data16_selected, data32_selected, data64_selected, data8_back_selected, data8_front_selected, names_selected, service_record_bytes, service_record_selected, service_in}
use Rattle.sa_records.specs.Speed.{speed_of}
use Rattle.sa_replies.specs.Request.{request_in}
use Rattle.sa_replies.specs.RunExampleLaws.{WhoHearsAGroup, WhatAskingBrings, WholeTable, ShorterTable, Closed, FirstSegment, NoMad, NoServices, OneService, HiddenService, GroupOfFile, Refused, WhatRecordsComeFrom, SourcesOfNodes, SourcesOfGroups, SourcesOfServices, SourcesOfAbort}

pub who_hears_a_group : WhoHearsAGroup
unfolding field put_field reply_bytes segment_of request_in group_in mc_member_record_bytes mc_member_record_selected speed_of
who_hears_a_group = record { before = refl; joined = refl; by_full = refl; ended = refl }

-- each by itself, since all at once take more steps than one check has
whole_table : WholeTable
unfolding field put_field reply_bytes segment_of request_in node_in node_record_bytes node_record_selected
whole_table = refl

first_segment : FirstSegment
unfolding field put_field reply_bytes segment_of request_in node_in node_record_bytes node_record_selected
first_segment = refl

no_mad : NoMad
unfolding field put_field reply_bytes segment_of request_in node_in node_record_bytes node_record_selected
no_mad = refl

no_services : NoServices
unfolding field put_field reply_bytes segment_of request_in service_in service_record_bytes service_record_selected names_selected data8_front_selected data8_back_selected data16_selected data32_selected data64_selected
no_services = refl

one_service : OneService
unfolding field put_field reply_bytes segment_of request_in service_in service_record_bytes service_record_selected names_selected data8_front_selected data8_back_selected data16_selected data32_selected data64_selected
one_service = refl

hidden_service : HiddenService
unfolding field put_field reply_bytes segment_of request_in service_in service_record_bytes service_record_selected names_selected data8_front_selected data8_back_selected data16_selected data32_selected data64_selected
hidden_service = refl

refused : Refused
unfolding field put_field reply_bytes segment_of request_in node_in node_record_bytes node_record_selected
refused = refl

shorter_table : ShorterTable
unfolding field put_field reply_bytes segment_of request_in node_in node_record_bytes node_record_selected
shorter_table = refl

group_of_file : GroupOfFile
unfolding field put_field reply_bytes segment_of request_in group_in mc_member_record_bytes mc_member_record_selected speed_of
group_of_file = refl

closed : Closed
unfolding field put_field reply_bytes segment_of request_in node_in node_record_bytes node_record_selected
closed = refl

pub what_asking_brings : WhatAskingBrings
what_asking_brings = record {
  whole_table = whole_table;
  shorter_table = shorter_table;
  closed = closed;
  first_segment = first_segment;
  no_mad = no_mad;
  no_services = no_services;
  one_service = one_service;
  hidden_service = hidden_service;
  group_of_file = group_of_file;
  refused = refused;
}

sources_of_nodes : SourcesOfNodes
unfolding field put_field reply_bytes segment_of request_in node_in node_record_bytes node_record_selected
sources_of_nodes = refl

sources_of_groups : SourcesOfGroups
unfolding field put_field reply_bytes segment_of request_in group_in mc_member_record_bytes mc_member_record_selected speed_of
sources_of_groups = record { made = refl; joined = refl; left = refl; of_file = refl; refused = refl; packet = refl }

sources_of_services : SourcesOfServices
unfolding field put_field reply_bytes segment_of request_in service_in service_record_bytes service_record_selected names_selected data8_front_selected data8_back_selected data16_selected data32_selected data64_selected
sources_of_services = record { set = refl; shown = refl; hidden = refl }

sources_of_abort : SourcesOfAbort
unfolding field put_field reply_bytes segment_of request_in node_in node_record_bytes node_record_selected
sources_of_abort = refl

pub what_records_come_from : WhatRecordsComeFrom
what_records_come_from = record { nodes = sources_of_nodes; groups = sources_of_groups; services = sources_of_services; abort = sources_of_abort }
