-- Wrong rules for what a port is shown, most of which show it too much, and what each of them breaks.
use Rattle.std.specs.Prelude.{◌≡◌, ◌==◌, true, not, List, ◌++◌, Some, None, filter, map}
use Rattle.std.specs.List.{list_all, flat_map}
use Rattle.pkey_rules.specs.PKey.{base_of}
use Rattle.pkey_rules.specs.KeyTable.{has_base}
use Rattle.subnet_model.specs.declared.subnet_port.SubnetPort.{SubnetPort}
use Rattle.subnet_model.specs.Configuration.{ConfigurationState}
use Rattle.subnet_model.specs.Configured.{IsConfigured}
use Rattle.subnet_model.specs.Delivery.{port_with_guid}
use Rattle.subnet_model.specs.Near.{is_near}
use Rattle.sa_model.specs.Groups.{Creator, PartitionGroups}
use Rattle.sa_model.specs.Sound.{pairwise}
use Rattle.sa_model.specs.KeyOrder.{by_base}
use Rattle.sa_model.specs.ServiceChange.{port_and_base}
use Rattle.sa_model.specs.ServiceSight.{services_near}
use Rattle.sa_model.specs.ServiceSound.{are_sound_services}
use Rattle.sa_model.specs.Services.{PortServices, no_services}
use Rattle.sa_model.specs.Order.{is_offered_before}
use Rattle.sa_model.specs.Visible.{GroupOfBase, keys_to, paths_under, groups_of, services_of, visible_services}
use Rattle.sa_model.specs.Shown.{Entry}
use Rattle.sa_model.specs.Selected.{selected}
use Rattle.sa_model.specs.QueryLaws.{ServiceRule, ShowsAlike, ShowsServicesAlike}
use Rattle.sa_model.specs.Shares.{PathRule, SharesBases}
use Rattle.sa_model.specs.NamedSources.{SelectRule, SaysTheSource}

-- ---- under which keys there are paths from one port to another: paths may lead to ports near the first alone
abbrev pub LeadsToNear : PathRule → Type 0
LeadsToNear rule =
    (ports : List SubnetPort) (own : SubnetPort) → port_with_guid ports own.guid ≡ Some own
    → list_all (λ path. is_near ports own.guid path.destination.guid)
    (flat_map (λ other. paths_under (rule own other) own other) ports) ≡ true

-- it holds of ours
abbrev pub PathsLeadToNear : Type 0
PathsLeadToNear = LeadsToNear keys_to

-- a path in each partition of both ports, even if both are limited members
abbrev pub keys_of_common_bases : PathRule
keys_of_common_bases own other = filter (λ key. has_base (base_of key) other.keys) (by_base own.keys)

abbrev pub PathsByBaseReport : Type 0
PathsByBaseReport = LeadsToNear keys_of_common_bases → ⊥

-- nor is such a base shared
abbrev pub CommonBasesAreNotShared : Type 0
CommonBasesAreNotShared = SharesBases keys_of_common_bases → ⊥

-- ---- groups of all partitions, whoever asks
abbrev pub groups_of_all : SubnetPort → List PartitionGroups → List GroupOfBase
groups_of_all own partitions = flat_map groups_of partitions

abbrev pub GroupsOfAllReport : Type 0
GroupsOfAllReport = ShowsAlike groups_of_all → ⊥

-- ---- services of the ports near it, also of a partition in which both are limited members
abbrev pub services_of_ports_near : ServiceRule
services_of_ports_near ports own services = flat_map services_of (services_near ports own.guid services)

abbrev pub ServicesOfPortsNearReport : Type 0
ServicesOfPortsNearReport = ShowsServicesAlike services_of_ports_near → ⊥

-- ---- to say of each record that it comes from the partition file: then nothing comes from far
abbrev pub selected_of_file : SelectRule
selected_of_file ports own state query =
    map (λ (entry : Entry). record entry { source = Creator.PartitionFile }) (selected None ports own state query)

abbrev pub AllOfFileIsWrong : Type 0
AllOfFileIsWrong = SaysTheSource selected_of_file → ⊥

-- ---- in which order services are shown: by LID, base and ServiceID
abbrev pub ShowsInOrder : ServiceRule → Type 0
ShowsInOrder rule =
    (configuration : ConfigurationState) (own : SubnetPort) (services : List PortServices) → IsConfigured configuration
    → map port_and_base services ≡ map port_and_base (no_services configuration.ports)
    → are_sound_services configuration.ports services ≡ true
    → pairwise (is_offered_before configuration.ports) (rule configuration.ports own services) ≡ true

-- it holds of ours
abbrev pub ServicesStandInOrder : Type 0
ServicesStandInOrder = ShowsInOrder visible_services

-- a port's own services before those of others
abbrev pub own_services_first : ServiceRule
own_services_first ports own services =
    filter (λ one. one.port == own.guid) (visible_services ports own services)
    ++ filter (λ one. not (one.port == own.guid)) (visible_services ports own services)

abbrev pub OwnFirstIsOutOfOrder : Type 0
OwnFirstIsOutOfOrder = ShowsInOrder own_services_first → ⊥
