-- Our examples, computed.
use Rattle.std.proofs.Common.{refl}
use Rattle.mad_layout.specs.Bits.{put_field}
use Rattle.sa_records.specs.Speed.{speed_of}
use Rattle.sa_records.specs.NodeRecord.{node_record_bytes, node_record_selected}
use Rattle.sa_records.specs.PathRecord.{path_record_bytes, path_record_selected}
use Rattle.sa_records.specs.McMemberRecord.{mc_member_record_bytes, mc_member_record_selected}
use Rattle.sa_records.specs.ServiceRecord.{service_record_bytes, service_record_selected, names_selected}
use Rattle.sa_records.specs.ServiceRecord.{data8_front_selected, data8_back_selected, data16_selected, data32_selected, data64_selected}
use Rattle.sa_model.specs.QueryExampleLaws.{WhichNodes, WhichPaths, WhichRates, HowManyPaths, WhichGroups, WhichServices, WhichBytes}

pub which_nodes : WhichNodes
unfolding node_record_selected
which_nodes = record { to_full = refl; to_limited = refl; several = refl; own = refl; hidden = refl }

pub which_paths : WhichPaths
unfolding path_record_selected speed_of
which_paths = record {
  found = refl;
  between_limited = refl;
  senderless = refl;
  foreign = refl;
  several = refl;
  all = refl;
  to_itself = refl;
  not_to_itself = refl;
}

pub which_rates : WhichRates
unfolding path_record_selected speed_of
which_rates = record { above_5 = refl; above_30 = refl; unknown = refl }

pub how_many_paths : HowManyPaths
unfolding path_record_selected speed_of
how_many_paths = record { all = refl; one_each = refl; none_wanted = refl; first = refl }

pub which_groups : WhichGroups
unfolding mc_member_record_selected speed_of
which_groups = record { to_full = refl; to_limited = refl; to_outside = refl }

pub which_services : WhichServices
unfolding service_record_selected names_selected data8_front_selected data8_back_selected data16_selected data32_selected data64_selected
which_services = record { to_full = refl; to_owner = refl; to_other = refl; none = refl }

pub which_bytes : WhichBytes
unfolding node_record_bytes path_record_bytes mc_member_record_bytes service_record_bytes put_field
which_bytes = record { node = refl; path = refl; group = refl; service = refl }
