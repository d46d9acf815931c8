-- MADs that ports of the examples send to subnet administration, and what it answers.
use Rattle.std.specs.Prelude.{ℕ, ◌+◌, ◌-◌, Bool, true, false, Option, Some, None}
use Rattle.std.specs.Prelude.{List, [], ◌∷◌, ◌++◌, length, replicate, filter, map, take, fold}
use Rattle.std.specs.List.{flat_map, range_with_len}
use Rattle.mad_layout.specs.Bits.{field, number}
use Rattle.mad_layout.specs.declared.mad_header.Header.{Header}
use Rattle.mad_layout.specs.declared.rmpp_header.RmppHeader.{RmppHeader}
use Rattle.rmpp_core.specs.Reply.{reply_bytes}
use Rattle.rmpp_core.specs.Segments.{Transfer}
use Rattle.sa_records.specs.declared.mc_member_record.McMemberRecord.{McMemberRecord}
use Rattle.sa_records.specs.McMemberRecord.{mc_member_record_bytes}
use Rattle.sa_records.specs.McMemberMask as member_mask
use Rattle.sa_records.specs.PathMask as path_mask
use Rattle.sa_records.specs.PathRecord.{path_record_bytes}
use Rattle.sa_records.specs.ServiceMask as service_mask
use Rattle.sa_records.specs.ServiceRecord.{service_record_bytes}
use Rattle.subnet_model.specs.Configuration.{ConfigurationState}
use Rattle.subnet_model.specs.declared.subnet_port.SubnetPort.{SubnetPort}
use Rattle.sa_model.specs.Delivery.{is_receiver_of}
use Rattle.sa_model.specs.GroupExamples.{many, mlids, nobody, ports}
use Rattle.sa_model.specs.Groups.{MulticastGroup, start_of}
use Rattle.sa_model.specs.ServiceExamples.{ids}
use Rattle.sa_model.specs.Gid.{gid_of}
use Rattle.sa_model.specs.QueryExamples.{full, limited, nothing, path_asked, service, twice_full, two_ports}
use Rattle.sa_replies.specs.Reply.{no_rmpp}
use Rattle.sa_replies.specs.Transfers.{no_transfers, table_of}
use Rattle.sa_replies.specs.Answer.{Administration, answer}

-- ---- the MADs
abbrev pub header_of : ℕ → ℕ → ℕ → Header
header_of method transaction attribute = record {
  base_version = 1;
  mgmt_class = 3;
  class_version = 2;
  method = method;
  status = 0;
  class_specific = 0;
  transaction_id = transaction;
  attribute_id = attribute;
  attribute_modifier = 0;
}

-- a request by these bytes of a record
abbrev pub asking : Header → RmppHeader → ℕ → List ℕ → List ℕ
asking header rmpp mask bytes =
    reply_bytes header rmpp
    (record { sm_key = 0; attribute_offset = 0; component_mask = mask; «data» = bytes ++ replicate (200 - length bytes) 0 })

abbrev pub group_mgid : ℕ
group_mgid = 0xff12000000000000000000000000000a

-- a group's record by MGID, PortGID, Q_Key, P_Key and JoinState FullMember
abbrev pub group_asked : ℕ → ℕ → ℕ → McMemberRecord
group_asked guid q_key p_key = record {
  mgid = group_mgid;
  port_gid = gid_of guid;
  q_key = q_key;
  mlid = 0;
  mtu_selector = 0;
  mtu = 0;
  t_class = 0;
  p_key = p_key;
  rate_selector = 0;
  rate = 0;
  packet_life_time_selector = 0;
  packet_life_time = 0;
  sl = 0;
  flow_label = 0;
  hop_limit = 0;
  scope = 0;
  join_state = 1;
  proxy_join = false;
}

abbrev pub making_mask : ℕ
making_mask =
    member_mask.mgid + member_mask.port_gid + member_mask.q_key + member_mask.t_class + member_mask.p_key + member_mask.sl
    + member_mask.flow_label + member_mask.join_state

-- the first port makes a group, by all that this takes; another joins it; and each may leave it
abbrev pub making : ℕ → ℕ → List ℕ
making guid p_key = asking (header_of 2 1 0x38) no_rmpp making_mask (mc_member_record_bytes (group_asked guid 0x1234 p_key))

-- one group more than a partition has MLIDs for
abbrev pub making_another : List ℕ
making_another =
    asking (header_of 2 1 0x38) no_rmpp making_mask
    (mc_member_record_bytes (record (group_asked 0x111 0x1234 0x8001) { mgid = group_mgid + 32 }))

abbrev pub joining : ℕ → ℕ → List ℕ
joining guid p_key = asking (header_of 2 2 0x38) no_rmpp
    (member_mask.mgid + member_mask.port_gid + member_mask.p_key + member_mask.join_state) (mc_member_record_bytes (group_asked guid 0 p_key))

abbrev pub leaving : ℕ → List ℕ
leaving guid = asking (header_of 0x15 3 0x38) no_rmpp (member_mask.mgid + member_mask.port_gid + member_mask.join_state)
    (mc_member_record_bytes (group_asked guid 0 0))

-- a Get of a path, and a GetTable of all nodes
abbrev pub path_wanted : List ℕ
path_wanted = asking (header_of 1 7 0x35) no_rmpp (path_mask.dgid + path_mask.sgid) (path_record_bytes (path_asked 0x121 0x111 0 0 0))

abbrev pub nodes_wanted : ℕ → List ℕ
nodes_wanted transaction = asking (header_of 0x12 transaction 0x11) no_rmpp 0 []

-- an ACK of this segment, with this window
abbrev pub ack : ℕ → ℕ → ℕ → List ℕ
ack transaction segment window =
    asking (header_of 0x12 transaction 0x11)
    (record {
      version = 1;
      kind = 2;
      response_time = 0;
      flags = 1;
      status = 0;
      segment_number = segment;
      payload_length_or_new_window_last = window;
    }) 0 []

-- MADs that subnet administration does not answer by a record
abbrev pub old_version : List ℕ
old_version = asking (record (header_of 1 5 0) { class_version = 1 }) no_rmpp 0 []

abbrev pub new_base_version : List ℕ
new_base_version = asking (record (header_of 1 5 0) { base_version = 2 }) no_rmpp 0 []

abbrev pub of_attribute : ℕ → List ℕ
of_attribute attribute = asking (header_of 1 6 attribute) no_rmpp 0 []

abbrev pub of_method : ℕ → List ℕ
of_method method = asking (header_of method 6 0) no_rmpp 0 []

abbrev pub of_class : ℕ → List ℕ
of_class mgmt_class = asking (record (header_of 1 6 0x11) { mgmt_class = mgmt_class }) no_rmpp 0 []

abbrev pub node_set : List ℕ
node_set = asking (header_of 2 7 0x11) no_rmpp 0 []

-- ---- a port sends a MAD; several, one after another
pub record Sent : Type 0 where
  pub sender : SubnetPort
  pub mad : List ℕ

abbrev pub by : SubnetPort → List ℕ → Sent
by sender mad = record { sender = sender; mad = mad }

abbrev pub at_first : Administration
at_first = record { remembered = nothing; transfers = no_transfers ports }

-- if the partition has a group of each of its MLIDs
abbrev pub with_all_mlids : Administration
with_all_mlids = record { remembered = record nothing { partitions = many }; transfers = no_transfers ports }

abbrev pub after : List Sent → Administration
after sent = fold (λ state one. (answer ports one.sender one.mad state).1) at_first sent

-- what the last of these MADs brings, each MAD as one number
abbrev pub answered : List Sent → SubnetPort → List ℕ → List ℕ
answered before sender mad = map number (answer ports sender mad (after before)).0

-- the same of the 56 bytes before the data
abbrev pub fronts : List Sent → SubnetPort → List ℕ → List ℕ
fronts before sender mad = map (λ mad. number (take 56 mad)) (answer ports sender mad (after before)).0

-- ---- a group in each of two partitions, under one MGID: both ports are full members of both
abbrev pub member_of_two : SubnetPort
member_of_two = twice_full 2 0x102

abbrev pub two_partitions : ConfigurationState
two_partitions = record {
  ports = two_ports;
  partitions = record { base = 1; name = []; group = None } ∷ record { base = 2; name = []; group = None } ∷ [];
}

-- a leave in the partition of this key alone
abbrev pub leaving_in : ℕ → ℕ → List ℕ
leaving_in guid p_key =
    asking (header_of 0x15 3 0x38) no_rmpp (member_mask.mgid + member_mask.port_gid + member_mask.p_key + member_mask.join_state)
    (mc_member_record_bytes (group_asked guid 0 p_key))

abbrev pub without_groups : Administration
without_groups = record {
  remembered = record { partitions = start_of two_partitions; services = [] };
  transfers = no_transfers two_ports;
}

-- the MLIDs of all groups after these MADs
abbrev pub mlids_after : List (List ℕ) → List ℕ
mlids_after mads =
    mlids (fold (λ state mad. (answer two_ports member_of_two mad state).1) without_groups mads).remembered.partitions

-- ---- a group is made by selectors for MTU and rate, each with a code
abbrev pub making_by : ℕ → ℕ → ℕ → ℕ → List ℕ
making_by mtu_selector mtu rate_selector rate =
    asking (header_of 2 1 0x38) no_rmpp (making_mask + member_mask.mtu + member_mask.rate)
    (mc_member_record_bytes (record (group_asked 0x111 0x1234 0x8001) {
      mtu_selector = mtu_selector;
      mtu = mtu;
      rate_selector = rate_selector;
      rate = rate;
    }))

-- MTU and rate of each group then
abbrev pub speeds_of : MulticastGroup → List ℕ
speeds_of group = group.parameters.mtu ∷ group.parameters.rate ∷ []

abbrev pub speeds_after : List ℕ → List ℕ
speeds_after mad =
    flat_map (λ partition. flat_map speeds_of partition.groups) (answer ports full mad at_first).1.remembered.partitions

-- ---- a limited member joins as SendOnlyNonMember alone
abbrev pub joining_to_send : List ℕ
joining_to_send =
    asking (header_of 2 2 0x38) no_rmpp (member_mask.mgid + member_mask.port_gid + member_mask.p_key + member_mask.join_state)
    (mc_member_record_bytes (record (group_asked 0x121 0 0x0001) { join_state = 4 }))

-- who receives what is sent to the group then
abbrev pub receivers_after : List Sent → List ℕ
receivers_after sent =
    map (λ port. port.guid) (filter (λ port. is_receiver_of (after sent).remembered.partitions 0xc020 port.guid) ports)

-- ---- a MAD of a transfer of this RMPP version and type, for segment 1 with the window 9
abbrev pub of_transfer : ℕ → ℕ → ℕ → List ℕ
of_transfer transaction version kind =
    asking (header_of 0x12 transaction 0x11)
    (record {
      version = version;
      kind = kind;
      response_time = 0;
      flags = 1;
      status = 0;
      segment_number = 1;
      payload_length_or_new_window_last = 9;
    }) 0 []

abbrev pub is_there : Option Transfer → Bool
is_there (Some transfer) = true
is_there None = false

-- an RMPP transfer to the full member is in progress
abbrev pub is_open_after : List Sent → Bool
is_open_after sent = is_there (table_of 0x111 (after sent).transfers)

-- all paths, by no sender
abbrev pub paths_of_nobody : List ℕ
paths_of_nobody = asking (header_of 0x12 9 0x35) no_rmpp 0 []

-- ---- a limited member's services: as many as it may have, and the Set and the Delete of one
abbrev pub with_services : ℕ → Administration
with_services count = record {
  remembered = record {
    partitions = nobody;
    services = record { port = 0x121; base = 1; services = map (λ id. record service { service_id = id }) (range_with_len 1 count) } ∷ [];
  };
  transfers = no_transfers ports;
}

abbrev pub service_asked_by : ℕ → ℕ → List ℕ
service_asked_by method id =
    asking (header_of method 10 0x31) no_rmpp (service_mask.service_id + service_mask.service_gid + service_mask.service_p_key)
    (service_record_bytes (record {
      service_id = id;
      service_gid = gid_of 0x121;
      service_p_key = 0x0001;
      service_lease = 0;
      service_key = 0;
      service_name = replicate 64 0;
      service_data = replicate 64 0;
    }))

-- the status that a MAD is answered by in a state, and the ServiceIDs after it
abbrev pub statuses_in : Administration → List ℕ → List ℕ
statuses_in state mad = map (λ one. field one 32 16) (answer ports limited mad state).0

abbrev pub ids_after : Administration → List ℕ → List ℕ
ids_after state mad = ids (answer ports limited mad state).1.remembered.services
