-- What a store stands for: a subnet, and what its SA remembers.
use Rattle.std.specs.Prelude.{ℕ, ◌≡◌, ◌==◌, Bool, List, Option, Some, filter, position}
use Rattle.partition_file.specs.declared.heading.Heading.{Heading}
use Rattle.subnet_model.specs.Configuration.{ConfigurationState}
use Rattle.subnet_model.specs.Configured.{IsConfigured}
use Rattle.subnet_model.specs.Delivery.{port_with_guid}
use Rattle.subnet_model.specs.declared.subnet_port.SubnetPort.{SubnetPort}
use Rattle.sa_model.specs.Groups.{PartitionGroups}
use Rattle.sa_model.specs.Receivers.{changed_numbers}
use Rattle.sa_model.specs.ServiceChange.{Deed, ServiceChange}
use Rattle.sa_model.specs.Services.{PortServices, Service}
use Rattle.sa_model.specs.Visible.{SaState}
use Rattle.sa_replies.specs.Answer.{Administration}
use Rattle.sa_replies.specs.ServiceRequests.{after_change}
use Rattle.sa_replies.specs.State.{IsRememberedOf}
use Rattle.sa_store.specs.declared.requester.Requester.{Requester}
use Rattle.sa_store.specs.Kept.{KeptPort, ports_of, services_of, transfers_of}

-- it is broken for good once an allocation failed while it changed
pub record RegistryState : Type 0 where
  pub configuration : ConfigurationState
  pub administration : Administration
  pub is_broken : Bool

abbrev pub configuration_in : List KeptPort → List Heading → ConfigurationState
configuration_in kept headings = record { ports = ports_of kept; partitions = headings }

abbrev pub remembered_in : List KeptPort → List PartitionGroups → SaState
remembered_in kept partitions = record { partitions = partitions; services = services_of kept }

abbrev pub administration_in : List KeptPort → List PartitionGroups → Administration
administration_in kept partitions = record {
  remembered = remembered_in kept partitions;
  transfers = transfers_of kept;
}

abbrev pub registry_in : List KeptPort → List Heading → List PartitionGroups → Bool → RegistryState
registry_in kept headings partitions is_broken = record {
  configuration = configuration_in kept headings;
  administration = administration_in kept partitions;
  is_broken = is_broken;
}

-- ---- the places of ports, by their GUIDs
abbrev pub place_with_guid : List SubnetPort → ℕ → Option ℕ
place_with_guid ports guid = position (λ port. port.guid == guid) ports

abbrev pub Finds : List SubnetPort → (ℕ → Option ℕ) → Type 0
Finds ports place_of = (guid : ℕ) → place_of guid ≡ place_with_guid ports guid

-- a port that sends requests is one of these, and has that place
abbrev pub IsRequester : List SubnetPort → Requester → Type 0
IsRequester ports requester = place_with_guid ports requester.guid ≡ Some requester.place

-- the port is one of these, and the first of its GUID
abbrev pub IsListed : List SubnetPort → SubnetPort → Type 0
IsListed ports own = port_with_guid ports own.guid ≡ Some own

-- ---- the ports of a LID and of a GUID
abbrev pub of_lid : ℕ → List SubnetPort → List SubnetPort
of_lid lid ports = filter (λ port. port.lid == lid) ports

abbrev pub of_guid : ℕ → List SubnetPort → List SubnetPort
of_guid guid ports = filter (λ port. port.guid == guid) ports

-- and the services of that port
abbrev pub of_port : ℕ → List PortServices → List PortServices
of_port guid places = filter (λ place. place.port == guid) places

-- ---- a registry is of a configured subnet, finds its ports, and remembers what may be remembered of them
pub record IsRegistry (kept : List KeptPort) (headings : List Heading) (partitions : List PartitionGroups) (place_of : ℕ → Option ℕ)
    : Type 0 where
  pub configured : IsConfigured (configuration_in kept headings)
  pub finds : Finds (ports_of kept) place_of
  pub remembered : IsRememberedOf (configuration_in kept headings) (remembered_in kept partitions)

-- ---- after what a port does to services
abbrev pub set_by : (guid base : ℕ) → Service → ServiceChange
set_by guid base service = record { port = guid; base = base; deed = Deed.sets service }

abbrev pub deleted_by : (guid base id : ℕ) → ServiceChange
deleted_by guid base id = record { port = guid; base = base; deed = Deed.deletes id }

abbrev pub with_remembered : SaState → RegistryState → RegistryState
with_remembered remembered state = record state { administration = record state.administration { remembered = remembered } }

abbrev pub with_change : ServiceChange → RegistryState → RegistryState
with_change change state = with_remembered (after_change state.administration.remembered change) state

-- ---- after what a port does to memberships in groups
abbrev pub with_partitions : List PartitionGroups → RegistryState → RegistryState
with_partitions partitions state = with_remembered (record state.administration.remembered { partitions = partitions }) state

-- the numbers of the partitions whose receivers changed
abbrev pub changed_between : RegistryState → RegistryState → List ℕ
changed_between old new =
    changed_numbers old.configuration.ports old.administration.remembered.partitions new.administration.remembered.partitions
