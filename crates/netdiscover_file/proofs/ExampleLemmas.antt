-- What lines say, computed.
use Rattle.std.proofs.Common.{refl}
use Rattle.step_results.specs.AtLine.{after_lines}
use Rattle.netdiscover_file.specs.Examples.{EndsAreRead, HeadersAreRead, TextsAreRead, UnsoundAreReported}
use Rattle.netdiscover_file.specs.Cut.{enclosed}
use Rattle.netdiscover_file.specs.Discovery.{after_line, after_words, are_nodes, discovery_of, header_of, header_encoded, port_reported, whole}
use Rattle.netdiscover_file.specs.Assignment.{first_switch_guids}
use Rattle.netdiscover_file.specs.Comment.{initiating_port, initiator_in, initiator_of}
use Rattle.netdiscover_file.specs.Ends.{behind_external, behind_number, far_end_alone, far_end_apart, far_end_in, far_end_numbered, far_end_of, node_id_in, own_end_in}
use Rattle.netdiscover_file.specs.Lids.{first_lid, lid_encoded, node_lid, only_lid, own_lid}
use Rattle.netdiscover_file.specs.Assignment.{switch_guids_in, switch_guids_encoded}
use Rattle.netdiscover_file.specs.Comment.{quoted_name}
use Rattle.netdiscover_file.specs.Ends.{port_guid_in}
use Rattle.netdiscover_file.specs.Lids.{own_lid_in, port_0_lid}

pub ends_are_read : EndsAreRead
unfolding behind_external enclosed far_end_alone far_end_apart far_end_in far_end_numbered far_end_of first_lid lid_encoded node_id_in own_end_in own_lid_in port_guid_in
ends_are_read = record { switch = refl; adapter = refl; to_switch = refl; to_router = refl; apart = refl; own_external = refl; external = refl; external_guid = refl; external_apart = refl; no_number = refl; short = refl; lid = refl }

pub headers_are_read : HeadersAreRead
unfolding enclosed first_switch_guids header_of header_encoded initiating_port initiator_in initiator_of lid_encoded node_id_in node_lid only_lid port_0_lid quoted_name switch_guids_in switch_guids_encoded
headers_are_read = record { switch = refl; other_kind = refl; guids = refl; initiator = refl }

pub texts_are_read : TextsAreRead
unfolding after_line after_lines after_words are_nodes behind_external behind_number discovery_of enclosed far_end_alone far_end_apart far_end_in far_end_numbered far_end_of first_lid first_switch_guids header_of header_encoded initiating_port initiator_in initiator_of lid_encoded node_id_in node_lid only_lid own_end_in own_lid own_lid_in port_0_lid port_guid_in port_reported quoted_name switch_guids_in switch_guids_encoded whole
texts_are_read = record { whole = refl; of_one_end = refl; of_no_node = refl; of_no_heading = refl; again = refl; again_before_another = refl; of_another_name = refl; of_another_port = refl; of_another_far_end = refl; of_another_guid = refl }

pub unsound_are_reported : UnsoundAreReported
unsound_are_reported = record { below = refl; past = refl; at_no_node = refl; of_a_switch = refl; of_an_adapter = refl; without_a_lid = refl }
