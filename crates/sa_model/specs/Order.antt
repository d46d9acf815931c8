-- In which order a port is shown what is visible to it.
use Rattle.std.specs.Prelude.{ℕ, ◌≡◌, Bool, true, ◌==◌, ◌&&◌, ◌||◌, nat_lt, nat_le, List, map, Option, Some, None}
use Rattle.pkey_rules.specs.PKey.{base_of}
use Rattle.subnet_model.specs.Configuration.{ConfigurationState}
use Rattle.subnet_model.specs.Configured.{IsConfigured}
use Rattle.subnet_model.specs.Delivery.{port_with_guid}
use Rattle.subnet_model.specs.declared.subnet_port.SubnetPort.{SubnetPort}
use Rattle.sa_model.specs.Changes.{partition_of}
use Rattle.sa_model.specs.Groups.{start_of}
use Rattle.sa_model.specs.Sound.{pairwise, is_sound}
use Rattle.sa_model.specs.ServiceChange.{port_and_base}
use Rattle.sa_model.specs.ServiceSound.{are_sound_services}
use Rattle.sa_model.specs.Services.{no_services}
use Rattle.sa_model.specs.Visible.{SaState, Path, GroupOfBase, ServiceOfPort, visible_nodes, visible_paths, visible_groups, visible_services}

-- nodes by LID
abbrev pub lower_lid : SubnetPort → SubnetPort → Bool
lower_lid a b = nat_lt a.lid b.lid

-- paths by the LID that they lead to, and then by base
abbrev pub goes_before : Path → Path → Bool
goes_before a b =
    nat_lt a.destination.lid b.destination.lid
    || ((a.destination.lid == b.destination.lid) && nat_le (base_of a.key) (base_of b.key))

-- groups by MLID
abbrev pub of_lower_mlid : GroupOfBase → GroupOfBase → Bool
of_lower_mlid a b = nat_lt a.group.mlid b.group.mlid

-- services by the LID of their port, then by base, and then by ServiceID
abbrev pub lid_of_port : Option SubnetPort → ℕ
lid_of_port (Some port) = port.lid
lid_of_port None = 0

abbrev pub lid_with_guid : List SubnetPort → ℕ → ℕ
lid_with_guid ports guid = lid_of_port (port_with_guid ports guid)

abbrev pub is_offered_before : List SubnetPort → ServiceOfPort → ServiceOfPort → Bool
is_offered_before ports a b =
    nat_lt (lid_with_guid ports a.port) (lid_with_guid ports b.port)
    || ((lid_with_guid ports a.port == lid_with_guid ports b.port)
    && (nat_lt a.base b.base || ((a.base == b.base) && nat_lt a.service.service_id b.service.service_id)))

-- all that is visible stands so
pub record InOrder (ports : List SubnetPort) (own : SubnetPort) (state : SaState) : Type 0 where
  pub nodes : pairwise lower_lid (visible_nodes ports own) ≡ true
  pub paths : pairwise goes_before (visible_paths ports own) ≡ true
  pub groups : pairwise of_lower_mlid (visible_groups own state.partitions) ≡ true
  pub services : pairwise (is_offered_before ports) (visible_services ports own state.services) ≡ true

-- if a subnet is configured, and a state has its partitions and its places for services, each with what is sound
pub record IsOfConfiguration (configuration : ConfigurationState) (state : SaState) : Type 0 where
  pub partitions : map partition_of state.partitions ≡ map partition_of (start_of configuration)
  pub groups : is_sound configuration.ports state.partitions ≡ true
  pub places : map port_and_base state.services ≡ map port_and_base (no_services configuration.ports)
  pub services : are_sound_services configuration.ports state.services ≡ true

abbrev pub VisibleStandsInOrder : Type 0
VisibleStandsInOrder =
    (configuration : ConfigurationState) (own : SubnetPort) (state : SaState) → IsConfigured configuration
    → IsOfConfiguration configuration state → InOrder configuration.ports own state
