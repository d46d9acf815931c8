-- What holds of every request for records: what it shows to a port depends only on the ports near it and the partition file.
use Rattle.std.specs.Prelude.{ℕ, ◌≡◌, Bool, true, List, Option, Some, map, IfOk}
use Rattle.std.specs.List.{list_all}
use Rattle.subnet_model.specs.declared.subnet_port.SubnetPort.{SubnetPort}
use Rattle.subnet_model.specs.Configuration.{ConfigurationState}
use Rattle.subnet_model.specs.Delivery.{port_with_guid}
use Rattle.subnet_model.specs.Near.{is_near}
use Rattle.sa_model.specs.Groups.{Creator, PartitionGroups, start_of}
use Rattle.sa_model.specs.Changes.{Change, after_changes, changes_near}
use Rattle.sa_model.specs.Sound.{is_sound}
use Rattle.sa_model.specs.Sight.{seen}
use Rattle.sa_model.specs.Services.{PortServices, no_services}
use Rattle.sa_model.specs.ServiceChange.{ServiceChange, services_after, service_changes_near}
use Rattle.sa_model.specs.ServiceLaws.{ServiceSight}
use Rattle.sa_model.specs.ServiceSight.{services_seen}
use Rattle.sa_model.specs.Visible.{SaState, GroupOfBase, ServiceOfPort, visible_nodes, visible_paths, visible_groups, visible_services}
use Rattle.sa_model.specs.Shown.{Entry, node_entry, path_entry, group_entry, service_entry}
use Rattle.sa_model.specs.Selected.{Query, selected}
use Rattle.sa_model.specs.Outcome.{got, table}

-- ---- what is shown of groups owes this to a port: if it sees the same of two states, the same is shown
abbrev pub GroupSight : Type 0
GroupSight = SubnetPort → List PartitionGroups → List GroupOfBase

abbrev pub ShowsAlike : GroupSight → Type 0
ShowsAlike sight =
    (ports : List SubnetPort) (own : SubnetPort) (s t : List PartitionGroups) → port_with_guid ports own.guid ≡ Some own
    → seen ports own.guid s ≡ seen ports own.guid t → map group_entry (sight own s) ≡ map group_entry (sight own t)

abbrev pub GroupsAreShownAlike : Type 0
GroupsAreShownAlike = ShowsAlike visible_groups

-- ---- and of services: if those that it may be shown are the same
abbrev pub ServiceRule : Type 0
ServiceRule = List SubnetPort → SubnetPort → List PortServices → List ServiceOfPort

abbrev pub ShowsServicesAlike : ServiceRule → Type 0
ShowsServicesAlike rule =
    (ports : List SubnetPort) (own : SubnetPort) (s t : List PortServices) → port_with_guid ports own.guid ≡ Some own
    → services_seen ports own.guid s ≡ services_seen ports own.guid t
    → map service_entry (rule ports own s) ≡ map service_entry (rule ports own t)

abbrev pub ServicesAreShownAlike : Type 0
ServicesAreShownAlike = ShowsServicesAlike visible_services

-- ---- so it is with what a request selects, and with what comes of it
-- the port of this GUID sees the same in both states, of services as this rule says
pub record SeesSame (sight : ServiceSight) (ports : List SubnetPort) (p : ℕ) (s t : SaState) : Type 0 where
  pub groups : seen ports p s.partitions ≡ seen ports p t.partitions
  pub services : sight ports p s.services ≡ sight ports p t.services

abbrev pub SelectedAlike : Type 0
SelectedAlike =
    (most : Option ℕ) (ports : List SubnetPort) (own : SubnetPort) (s t : SaState) (query : Query)
    → port_with_guid ports own.guid ≡ Some own → SeesSame services_seen ports own.guid s t
    → selected most ports own s query ≡ selected most ports own t query

pub record SameOutcomes (ports : List SubnetPort) (own : SubnetPort) (s t : SaState) (query : Query) : Type 0 where
  pub got : got ports own s query ≡ got ports own t query
  pub table : table ports own s query ≡ table ports own t query

abbrev pub QueriesEndAlike : Type 0
QueriesEndAlike =
    (ports : List SubnetPort) (own : SubnetPort) (s t : SaState) (query : Query) → port_with_guid ports own.guid ≡ Some own
    → SeesSame services_seen ports own.guid s t → SameOutcomes ports own s t query

-- the state after joins and leaves, and after Sets and Deletes of services
abbrev pub state_after : ConfigurationState → List Change → List ServiceChange → SaState
state_after configuration changes service_changes = record {
  partitions = after_changes configuration.ports (start_of configuration) changes;
  services = services_after (no_services configuration.ports) service_changes;
}

-- the same after those of the ports near p alone
abbrev pub state_near : ConfigurationState → ℕ → List Change → List ServiceChange → SaState
state_near configuration p changes service_changes =
    state_after configuration (changes_near configuration.ports p changes)
    (service_changes_near configuration.ports p service_changes)

-- whatever ports did, a request ends as it would if the ports near its requester alone had done it
abbrev pub QueriesDependOnNear : Type 0
QueriesDependOnNear =
    (configuration : ConfigurationState) (own : SubnetPort) (changes : List Change) (service_changes : List ServiceChange) (query : Query)
    → port_with_guid configuration.ports own.guid ≡ Some own
    → SameOutcomes configuration.ports own (state_after configuration changes service_changes)
    (state_near configuration own.guid changes service_changes) query

-- ---- where records come from
abbrev pub is_source_near : List SubnetPort → ℕ → Creator → Bool
is_source_near ports p (Creator.Port guid) = is_near ports p guid
is_source_near ports p Creator.PartitionFile = true

abbrev pub come_from_near : List SubnetPort → ℕ → List Entry → Bool
come_from_near ports p entries = list_all (λ entry. is_source_near ports p entry.source) entries

-- all that is visible to a port comes from a port near it or from the partition file
pub record VisibleFromNear (ports : List SubnetPort) (own : SubnetPort) (state : SaState) : Type 0 where
  pub nodes : come_from_near ports own.guid (map node_entry (visible_nodes ports own)) ≡ true
  pub paths : come_from_near ports own.guid (map path_entry (visible_paths ports own)) ≡ true
  pub groups : come_from_near ports own.guid (map group_entry (visible_groups own state.partitions)) ≡ true
  pub services : come_from_near ports own.guid (map service_entry (visible_services ports own state.services)) ≡ true

abbrev pub VisibleComesFromNear : Type 0
VisibleComesFromNear =
    (ports : List SubnetPort) (own : SubnetPort) (state : SaState) → port_with_guid ports own.guid ≡ Some own
    → is_sound ports state.partitions ≡ true → VisibleFromNear ports own state

-- and so does each record by which a request is answered
pub record AnsweredFromNear (ports : List SubnetPort) (own : SubnetPort) (state : SaState) (query : Query) : Type 0 where
  pub got : IfOk (got ports own state query) (λ entry. is_source_near ports own.guid entry.source ≡ true)
  pub table : IfOk (table ports own state query) (λ entries. come_from_near ports own.guid entries ≡ true)

abbrev pub AnswersComeFromNear : Type 0
AnswersComeFromNear =
    (ports : List SubnetPort) (own : SubnetPort) (state : SaState) (query : Query) → port_with_guid ports own.guid ≡ Some own
    → is_sound ports state.partitions ≡ true → AnsweredFromNear ports own state query
