-- What the loss of each cable between switches does, in numbers.
use Rattle.std.specs.Prelude.{ℕ, ◌≡◌, ◌==◌, ◌&&◌, ◌||◌, Bool, List, All, filter, length, map}
use Rattle.std.specs.List.{list_any}
use Rattle.fabric_parts.specs.NodeType.{is_switch_type}
use Rattle.fabric_parts.specs.declared.cable.Cable.{Cable}
use Rattle.subnet_model.specs.Configuration.{ConfigurationState}
use Rattle.subnet_model.specs.declared.subnet_port.SubnetPort.{SubnetPort}
use Rattle.topo_file.specs.Topology.{TopologyState}
use Rattle.updn_routes.specs.Subnet.{RoutesState}
use Rattle.cable_cuts.specs.Cables.{switch_cables, without_cable}
use Rattle.cable_cuts.specs.Changes.{Tables, changes, entry_by}
use Rattle.cable_cuts.specs.Fate.{IsFate}
use Rattle.cable_cuts.specs.Masks.{Masks, mask_by, mask_changes}
use Rattle.cable_cuts.specs.declared.changes.Change.{Change}
use Rattle.cable_cuts.specs.declared.fate.Cut.{Cut}
use Rattle.cable_cuts.specs.declared.fate.Cut.TheVariants as cut
use Rattle.cable_cuts.specs.declared.loss.Loss.{Loss}
use Rattle.cable_cuts.specs.declared.masks.MaskChange.{MaskChange}
use Rattle.cable_cuts.specs.declared.outcome.Difference.{Difference}
use Rattle.cable_cuts.specs.declared.outcome.Outcome.{Outcome}
use Rattle.cable_cuts.specs.declared.outcome.Outcome.TheVariants.{Keeps, Stops}

-- ---- numbers
-- some entry, or some mask, changes at the switch of that LID
abbrev pub is_named : List Change → List MaskChange → ℕ → Bool
is_named changes masks lid = list_any (λ change. change.switch == lid) changes || list_any (λ change. change.switch == lid) masks

-- that end port is a switch's own, and some entry or mask of the switch changes
abbrev pub has_changes : List Change → List MaskChange → SubnetPort → Bool
has_changes changes masks port = is_switch_type port.node_type && is_named changes masks port.lid

abbrev pub difference_of : List SubnetPort → List Change → List MaskChange → Difference
difference_of ports changes masks =
    record { entries = length changes; masks = length masks; switches = length (filter (has_changes changes masks) ports) }

-- of what differs between these tables and between these masks
abbrev pub difference_by : ConfigurationState → Tables → Tables → Masks → Masks → Difference
difference_by configuration one other was becomes =
    difference_of configuration.ports (changes configuration.ports one other) (mask_changes configuration was becomes)

-- what becomes of the fabric that these routes brought up
abbrev pub outcome_of : ConfigurationState → RoutesState → Cut → Outcome
outcome_of configuration routes (cut.Keeps others) =
    Keeps (difference_by configuration (entry_by routes) (entry_by others) (mask_by configuration.ports routes) (mask_by configuration.ports others))
outcome_of configuration routes (cut.Stops stop) = Stops stop

-- ---- each cable
-- it is what becomes of the fabric of the topology without that cable, by the rule of ties of these routes
pub record IsOutcome (plan : TopologyState) (configuration : ConfigurationState) (routes : RoutesState) (cable : Cable) (outcome : Outcome) : Type 0 where
  pub fate : Cut
  pub fate_is : IsFate routes.between.rule (without_cable cable plan) fate
  pub outcome_is : outcome ≡ outcome_of configuration routes fate

-- one for each of these cables, in their order
pub record AreLossesOf (plan : TopologyState) (configuration : ConfigurationState) (routes : RoutesState) (cables : List Cable)
    (losses : List Loss) : Type 0 where
  pub all : map (λ loss. loss.cable) losses ≡ cables
  pub each : All (λ loss. IsOutcome plan configuration routes loss.cable loss.outcome) losses

-- of those between switches
abbrev pub AreLosses : TopologyState → ConfigurationState → RoutesState → List Loss → Type 0
AreLosses plan configuration routes losses = AreLossesOf plan configuration routes (switch_cables plan) losses
