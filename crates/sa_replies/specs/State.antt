-- What subnet administration remembers at any time of a run, whatever was asked before.
use Rattle.std.specs.Prelude.{ℕ, ◌≡◌, ◌^◌, ◌==◌, Bool, true, ◌&&◌, nat_lt, List, length, map, Some, All}
use Rattle.std.specs.List.{list_all}
use Rattle.subnet_model.specs.Configuration.{ConfigurationState}
use Rattle.subnet_model.specs.Configured.{IsConfigured}
use Rattle.subnet_model.specs.Delivery.{port_with_guid}
use Rattle.subnet_model.specs.declared.subnet_port.SubnetPort.{SubnetPort}
use Rattle.sa_model.specs.Changes.{partition_of}
use Rattle.sa_model.specs.Groups.{GroupParameters, PartitionGroups, start_of}
use Rattle.sa_model.specs.Sound.{is_sound}
use Rattle.sa_model.specs.ServiceChange.{port_and_base}
use Rattle.sa_model.specs.ServiceSound.{are_sound_services}
use Rattle.sa_model.specs.Services.{PortServices, Service, no_services}
use Rattle.sa_model.specs.Visible.{SaState}
use Rattle.sa_replies.specs.Answer.{Administration, answer}
use Rattle.sa_replies.specs.Laws.{AnswerRule}
use Rattle.sa_replies.specs.Transfers.{CanBeSent, no_transfers}

-- ---- before the first command: the groups of the partition file, and nothing else
abbrev pub at_start : ConfigurationState → Administration
at_start configuration = record {
  remembered = record { partitions = start_of configuration; services = no_services configuration.ports };
  transfers = no_transfers configuration.ports;
}

-- ---- values that fit the fields of their records, if a field is no whole number of bytes
-- MTU, rate and PacketLifeTime have 6 bits, SL and Scope 4, and FlowLabel 20
abbrev pub is_fit_group : GroupParameters → Bool
is_fit_group parameters =
    nat_lt parameters.mtu 64
    && (nat_lt parameters.rate 64
    && (nat_lt parameters.packet_life_time 64
    && (nat_lt parameters.service_level 16 && (nat_lt parameters.flow_label (2 ^ 20) && nat_lt parameters.scope 16))))

abbrev pub are_fit_groups : PartitionGroups → Bool
are_fit_groups partition = list_all (λ group. is_fit_group group.parameters) partition.groups

-- a service's name and its numbers have 64 bytes each
abbrev pub is_fit_service : Service → Bool
is_fit_service service = (length service.name == 64) && (length service.numbers == 64)

abbrev pub are_fit_services : PortServices → Bool
are_fit_services place = list_all is_fit_service place.services

-- ---- groups and services: those of the configuration's partitions, and of its ports and their bases; they are sound, and
-- fit their records
pub record IsRememberedOf (configuration : ConfigurationState) (state : SaState) : Type 0 where
  pub partitions : map partition_of state.partitions ≡ map partition_of (start_of configuration)
  pub groups : is_sound configuration.ports state.partitions ≡ true
  pub fit_groups : list_all are_fit_groups state.partitions ≡ true
  pub places : map port_and_base state.services ≡ map port_and_base (no_services configuration.ports)
  pub services : are_sound_services configuration.ports state.services ≡ true
  pub fit_services : list_all are_fit_services state.services ≡ true

-- ---- and a place for a table for each port, as the ports stand
pub record IsStateOf (configuration : ConfigurationState) (state : Administration) : Type 0 where
  pub remembered : IsRememberedOf configuration state.remembered
  pub places : map (λ place. place.port) state.transfers ≡ map (λ port. port.guid) configuration.ports
  pub tables : All (λ place. CanBeSent place.open_table) state.transfers

-- so it is at the start of each subnet
abbrev pub StartsAreStates : Type 0
StartsAreStates = (configuration : ConfigurationState) → IsConfigured configuration → IsStateOf configuration (at_start configuration)

-- what is proved of a rule for answers and of what is remembered
abbrev pub KeepsStates : AnswerRule → Type 0
KeepsStates rule =
    (configuration : ConfigurationState) (own : SubnetPort) (payload : List ℕ) (state : Administration) → IsConfigured configuration
    → port_with_guid configuration.ports own.guid ≡ Some own → IsStateOf configuration state
    → IsStateOf configuration (rule configuration.ports own payload state).1

-- it holds of ours
abbrev pub AnswersKeepStates : Type 0
AnswersKeepStates = KeepsStates answer
