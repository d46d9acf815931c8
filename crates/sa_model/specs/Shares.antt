-- That two ports share a partition is said of keys, of paths, of nodes and of services: it is one thing.
use Rattle.std.specs.Prelude.{ℕ, ◌≡◌, ◌==◌, ◌&&◌, Bool, true, List, Some, ◌⊎◌}
use Rattle.std.specs.List.{flat_map, list_any}
use Rattle.pkey_rules.specs.PKey.{base_of}
use Rattle.pkey_rules.specs.KeyTable.{SomeSharedBase, holds, shares_base}
use Rattle.subnet_model.specs.Configuration.{ConfigurationState}
use Rattle.subnet_model.specs.Configured.{IsConfigured}
use Rattle.subnet_model.specs.Delivery.{port_with_guid}
use Rattle.subnet_model.specs.declared.subnet_port.SubnetPort.{SubnetPort}
use Rattle.sa_model.specs.ServiceSight.{ports_share_base}
use Rattle.sa_model.specs.Visible.{Path, keys_to, paths_under, visible_nodes}

-- under which keys there are paths from one port to another
abbrev pub PathRule : Type 0
PathRule = SubnetPort → SubnetPort → List ℕ

-- a path to the port of this GUID under this key
abbrev pub is_path_to : ℕ → ℕ → Path → Bool
is_path_to guid key path = (path.destination.guid == guid) && (path.key == key)

-- two ports of a list, by a rule for paths. A path is visible if and only if it is under a key that the first holds of a base that
-- both share; a node if and only if it is the port's own, or some base is shared; services of a base if and only if it is shared
pub record IsSharing (rule : PathRule) (ports : List SubnetPort) (own other : SubnetPort) : Type 0 where
  pub paths : (key : ℕ) → list_any (is_path_to other.guid key) (flat_map (λ port. paths_under (rule own port) own port) ports)
      ≡ (holds key own.keys && shares_base (base_of key) own.keys other.keys)
  pub known : list_any (λ node. node.guid == other.guid) (visible_nodes ports own) ≡ true
      → (other.guid ≡ own.guid) ⊎ SomeSharedBase own.keys other.keys
  pub shown : (other.guid ≡ own.guid) ⊎ SomeSharedBase own.keys other.keys
      → list_any (λ node. node.guid == other.guid) (visible_nodes ports own) ≡ true
  pub services : (base : ℕ) → ports_share_base ports base own.guid other.guid ≡ shares_base base own.keys other.keys

abbrev pub SharesBases : PathRule → Type 0
SharesBases rule =
    (configuration : ConfigurationState) (own other : SubnetPort) → IsConfigured configuration
    → port_with_guid configuration.ports own.guid ≡ Some own → port_with_guid configuration.ports other.guid ≡ Some other
    → IsSharing rule configuration.ports own other

-- so it is with our rule
abbrev pub SharingIsOneThing : Type 0
SharingIsOneThing = SharesBases keys_to
