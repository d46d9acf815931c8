-- Commands to the ports of the examples of groups, and what they bring.
use Rattle.std.specs.Prelude.{ℕ, ◌+◌, ◌==◌, not, List, [], ◌∷◌, filter, map, replicate, take}
use Rattle.std.specs.List.{flat_map}
use Rattle.mad_layout.specs.Bits.{number}
use Rattle.subnet_model.specs.declared.command.Command.{Command}
use Rattle.subnet_model.specs.declared.command.Command.TheVariants.{Ask, Send}
use Rattle.subnet_model.specs.declared.event.Outcome.{Outcome}
use Rattle.subnet_model.specs.declared.event.Outcome.TheVariants.{Received, Refused}
use Rattle.subnet_model.specs.Configuration.{ConfigurationState}
use Rattle.subnet_model.specs.Report.{events_from, state_from, step_by}
use Rattle.sa_model.specs.GroupExamples.{configuration}
use Rattle.subnet_model.specs.Examples.{adapter}
use Rattle.sa_model.specs.Groups.{Creator}
use Rattle.sa_records.specs.ServiceRecord.{service_record_bytes}
use Rattle.sa_records.specs.ServiceMask as service_mask
use Rattle.sa_model.specs.Gid.{gid_of}
use Rattle.sa_replies.specs.Examples.{asking, header_of}
use Rattle.sa_replies.specs.Reply.{no_rmpp}
use Rattle.sa_replies.specs.Administration.{subnet_administration}
use Rattle.sa_replies.specs.State.{at_start}
use Rattle.sa_replies.specs.RunSources.{NotedEvent, noted_start, noted_step, noted_in}

-- ---- the commands: a port asks by a MAD, sends a MAD to subnet administration itself, or a byte to an MLID
abbrev pub ask : ℕ → List ℕ → Command
ask guid mad = Ask (record { port_guid = guid; mad = mad })

abbrev pub send_mad : ℕ → List ℕ → Command
send_mad guid mad = Send (record { port_guid = guid; dlid = 1; p_key = 0x7fff; destination_qp = 1; payload = mad })

abbrev pub send_to_group : ℕ → ℕ → Command
send_to_group guid p_key = Send (record { port_guid = guid; dlid = 0xc020; p_key = p_key; destination_qp = 7; payload = 1 ∷ [] })

abbrev pub setting_mask : ℕ
setting_mask =
    service_mask.service_id + service_mask.service_gid + service_mask.service_p_key + service_mask.service_key + service_mask.service_name

-- a service of the port, and a GetTable of all services, and of all groups
abbrev pub setting : ℕ → List ℕ
setting guid =
    asking (header_of 2 10 0x31) no_rmpp setting_mask
    (service_record_bytes (record {
      service_id = 1;
      service_gid = gid_of guid;
      service_p_key = 0x0001;
      service_lease = 0;
      service_key = 0x77;
      service_name = 0x64 ∷ 0x62 ∷ 0x73 ∷ replicate 61 0;
      service_data = replicate 64 0;
    }))

abbrev pub services_wanted : ℕ → List ℕ
services_wanted transaction = asking (header_of 0x12 transaction 0x31) no_rmpp 0 []

abbrev pub groups_wanted : ℕ → List ℕ
groups_wanted transaction = asking (header_of 0x12 transaction 0x38) no_rmpp 0 []

-- two ports alone, the second of which holds no key of the default partition
abbrev pub without_default : ConfigurationState
without_default = record configuration { ports = adapter 1 0x101 (0xffff ∷ []) ∷ adapter 4 0x111 (0x8001 ∷ []) ∷ [] }

-- ---- what the last command brings, after those before it: for each packet its receiver, SLID, DLID and key, and its
-- first 56 bytes as one number; for each refusal the port alone
abbrev pub heard_as : ℕ → Outcome → List (List ℕ)
heard_as guid (Received packet) = (guid ∷ packet.slid ∷ packet.dlid ∷ packet.p_key ∷ number (take 56 packet.payload) ∷ []) ∷ []
heard_as guid (Refused refusal) = (guid ∷ []) ∷ []

abbrev pub heard_in : ConfigurationState → List Command → Command → List (List ℕ)
heard_in subnet before command =
    flat_map (λ event. heard_as event.port_guid event.what)
    (events_from (step_by subnet_administration subnet)
    (state_from (step_by subnet_administration subnet) (at_start subnet) before) (command ∷ []))

abbrev pub heard : List Command → Command → List (List ℕ)
heard before command = heard_in configuration before command

-- ---- what the records come from that the last command brings: of each event each source once, in the order of their bytes;
-- a port by its GUID, and the partition file by 0
abbrev pub number_of : Creator → ℕ
number_of (Creator.Port guid) = guid
number_of Creator.PartitionFile = 0

abbrev pub each_once : List ℕ → List ℕ
each_once [] = []
each_once (n ∷ ns) = n ∷ filter (λ m. not (m == n)) (each_once ns)

abbrev pub sources_of : NotedEvent → List ℕ
sources_of one = each_once (map (λ byte. number_of byte.source) (noted_in one.noted))

abbrev pub sources_in : ConfigurationState → List Command → Command → List (List ℕ)
sources_in subnet before command =
    map sources_of
    (events_from (noted_step subnet) (state_from (noted_step subnet) (noted_start subnet) before) (command ∷ []))

abbrev pub sources : List Command → Command → List (List ℕ)
sources before command = sources_in configuration before command
