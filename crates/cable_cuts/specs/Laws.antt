-- What the answers say of fabrics: the statements of the laws of `src/laws.rt`.
use Rattle.std.specs.Prelude.{ℕ, ◌≡◌, ◌≢◌, ◌<◌, ◌≤◌, ◌↔◌, ◌==◌, ◌&&◌, Bool, true, is_some, List, length, slice_get, Some}
use Rattle.std.specs.List.{Contains, IsDistinct}
use Rattle.fabric_parts.specs.NodeType.{is_switch_type}
use Rattle.fabric_parts.specs.declared.cable.Cable.{Cable}
use Rattle.partition_file.specs.declared.heading.Heading.{Heading}
use Rattle.pkey_rules.specs.declared.key_table.TheConstants.{PARTITIONS}
use Rattle.smp_wire.specs.FabricState.{FabricState}
use Rattle.subnet_fabric.specs.BringUp.{BroughtUpState, IsBroughtUpBy, IsBroughtUpOf}
use Rattle.subnet_fabric.specs.Standing.{CanComeUp}
use Rattle.subnet_model.specs.Configuration.{ConfigurationState}
use Rattle.subnet_model.specs.Configured.{HaveLidsInOrder}
use Rattle.subnet_model.specs.declared.subnet_port.SubnetPort.{SubnetPort}
use Rattle.table_push.specs.Masks.{LiesInTable, all_masks_pushed}
use Rattle.topo_file.specs.Sound.{IsSound}
use Rattle.topo_file.specs.Topology.{TopologyState}
use Rattle.updn_routes.specs.Subnet.{RoutesState}
use Rattle.cable_cuts.specs.Cables.{can_be_cut, without_cable}
use Rattle.cable_cuts.specs.Changes.{Tables, changes, entry_by, entry_in}
use Rattle.cable_cuts.specs.Fate.{ArePlannedFor, HaveBroughtUp, IsFate}
use Rattle.cable_cuts.specs.Masks.{Masks, mask_by, mask_changes, mask_in, receives_all}
use Rattle.sa_model.specs.Groups.{first_mlid}
use Rattle.cable_cuts.specs.Outcomes.{IsOutcome, difference_by}
use Rattle.cable_cuts.specs.Texts.{ReportsAll, ReportsOne, keeps}
use Rattle.cable_cuts.specs.declared.changes.Change.{Change}
use Rattle.cable_cuts.specs.declared.fate.Cut.{Cut}
use Rattle.cable_cuts.specs.declared.fate.Cut.TheVariants.{Keeps, Stops}
use Rattle.cable_cuts.specs.declared.masks.MaskChange.{MaskChange}
use Rattle.cable_cuts.specs.declared.outcome.Difference.{Difference}
use Rattle.cable_cuts.specs.declared.outcome.Outcome.{Outcome}

-- ---- whether it comes up
-- a cable is reported as one that the fabric keeps without if and only if the fabric of the topology without it comes up
abbrev pub KeptIsWhatComesUp : Type 0
KeptIsWhatComesUp =
    (plan : TopologyState) (configuration : ConfigurationState) (routes : RoutesState) (cable : Cable) (outcome : Outcome)
    → IsOutcome plan configuration routes cable outcome → (keeps outcome ≡ true) ↔ CanComeUp (without_cable cable plan)

-- ---- what differs
-- an entry is reported if and only if these tables have different ports there: of a switch among the end ports, for the LID of one
pub record IsDifference (ports : List SubnetPort) (one other : Tables) (change : Change) : Type 0 where
  pub switch : SubnetPort
  pub switch_listed : Contains ports switch
  pub is_switch : is_switch_type switch.node_type ≡ true
  pub port : SubnetPort
  pub port_listed : Contains ports port
  pub differ : one switch.guid port.lid ≢ other switch.guid port.lid
  pub change_is : change ≡ record { switch = switch.lid; lid = port.lid; was = one switch.guid port.lid; becomes = other switch.guid port.lid }

abbrev pub ChangesAreWhatDiffers : Type 0
ChangesAreWhatDiffers =
    (ports : List SubnetPort) (one other : Tables) (change : Change)
    → Contains (changes ports one other) change ↔ IsDifference ports one other change

-- and the tables are those that the two fabrics hold: that of the topology, and that of the topology without the cable, brought up by
-- the same rule of ties
abbrev pub ChangesAreTheFabrics : Type 0
ChangesAreTheFabrics =
    (plan : TopologyState) (ports : List SubnetPort) (cable : Cable) (keys other_keys : List (List ℕ)) (routes others : RoutesState)
    (fabric left : FabricState) → IsSound plan → IsBroughtUpBy plan keys routes fabric → can_be_cut plan cable ≡ true
    → ArePlannedFor (without_cable cable plan) others → (up : IsBroughtUpOf (without_cable cable plan) other_keys left)
    → others.between.rule ≡ up.routes.between.rule
    → changes ports (entry_by routes) (entry_by others) ≡ changes ports (entry_in fabric) (entry_in left)

-- of these, entries of one switch for one LID are the same
abbrev pub same_entry : Change → Change → Bool
same_entry a b = (a.switch == b.switch) && (a.lid == b.lid)

abbrev pub have_same_lid : SubnetPort → SubnetPort → Bool
have_same_lid a b = a.lid == b.lid

-- if each end port has a LID of its own, a rule for what differs reports each entry once
abbrev pub EntriesAreReportedOnceBy : (List SubnetPort → Tables → Tables → List Change) → Type 0
EntriesAreReportedOnceBy rule =
    (ports : List SubnetPort) (one other : Tables) → IsDistinct have_same_lid ports → IsDistinct same_entry (rule ports one other)

abbrev pub EntriesAreReportedOnce : Type 0
EntriesAreReportedOnce = EntriesAreReportedOnceBy changes

-- so each has, if LIDs count from 1 in the order of the ports
abbrev pub LidsAreOwn : Type 0
LidsAreOwn = (ports : List SubnetPort) → HaveLidsInOrder ports → IsDistinct have_same_lid ports

-- ---- masks
-- a mask is counted if and only if in these some port has different bits: of a switch among the end ports, for the group of a
-- partition
pub record IsMaskDifference (configuration : ConfigurationState) (one other : Masks) (change : MaskChange) : Type 0 where
  pub switch : SubnetPort
  pub switch_listed : Contains configuration.ports switch
  pub is_switch : is_switch_type switch.node_type ≡ true
  pub number : ℕ
  pub heading : Heading
  pub partition : slice_get configuration.partitions number ≡ Some heading
  pub group : is_some heading.group ≡ true
  pub port : ℕ
  pub port_low : port < 48
  pub differ : one number heading switch.guid port ≢ other number heading switch.guid port
  pub change_is : change ≡ record { switch = switch.lid; partition = number }

abbrev pub MaskRule : Type 0
MaskRule = ConfigurationState → Masks → Masks → List MaskChange

abbrev pub MasksAreWhatDiffersBy : MaskRule → Type 0
MasksAreWhatDiffersBy rule =
    (configuration : ConfigurationState) (one other : Masks) (change : MaskChange)
    → Contains (rule configuration one other) change ↔ IsMaskDifference configuration one other change

abbrev pub MaskChangesAreWhatDiffers : Type 0
MaskChangesAreWhatDiffers = MasksAreWhatDiffersBy mask_changes

-- and once, as entries are
abbrev pub same_mask : MaskChange → MaskChange → Bool
same_mask a b = (a.switch == b.switch) && (a.partition == b.partition)

abbrev pub MasksAreReportedOnceBy : MaskRule → Type 0
MasksAreReportedOnceBy rule =
    (configuration : ConfigurationState) (one other : Masks) → IsDistinct have_same_lid configuration.ports
    → IsDistinct same_mask (rule configuration one other)

abbrev pub MasksAreReportedOnce : Type 0
MasksAreReportedOnce = MasksAreReportedOnceBy mask_changes

-- ---- their numbers
-- how many entries and how many masks differ, each of them once
pub record AreNumbersOf (configuration : ConfigurationState) (one other : Tables) (was becomes : Masks) (numbers : Difference) : Type 0 where
  pub all : List Change
  pub once : IsDistinct same_entry all
  pub each : (change : Change) → Contains all change ↔ IsDifference configuration.ports one other change
  pub entries_are : numbers.entries ≡ length all
  pub all_masks : List MaskChange
  pub masks_once : IsDistinct same_mask all_masks
  pub each_mask : (change : MaskChange) → Contains all_masks change ↔ IsMaskDifference configuration was becomes change
  pub masks_are : numbers.masks ≡ length all_masks

abbrev pub NumbersAreOfWhatDiffersBy : (ConfigurationState → Tables → Tables → Masks → Masks → Difference) → Type 0
NumbersAreOfWhatDiffersBy rule =
    (configuration : ConfigurationState) (one other : Tables) (was becomes : Masks) → IsDistinct have_same_lid configuration.ports
    → AreNumbersOf configuration one other was becomes (rule configuration one other was becomes)

abbrev pub NumbersAreOfWhatDiffers : Type 0
NumbersAreOfWhatDiffers = NumbersAreOfWhatDiffersBy difference_by

-- ---- masks of fabrics
-- that a fabric holds once those of a partition's group are pushed by its routes, for all members
abbrev pub mask_pushed : List SubnetPort → RoutesState → FabricState → Masks
mask_pushed ports routes fabric number heading =
    mask_in (all_masks_pushed routes (receives_all ports heading.base (first_mlid number)) fabric) number heading

-- those of all partitions are the two fabrics' too, bit by bit
abbrev pub MasksAreTheFabrics : Type 0
MasksAreTheFabrics =
    (plan : TopologyState) (ports : List SubnetPort) (cable : Cable) (keys other_keys : List (List ℕ)) (routes others : RoutesState)
    (fabric : FabricState) (left : BroughtUpState) (number : ℕ) (heading : Heading) (guid port : ℕ) → IsSound plan
    → IsBroughtUpBy plan keys routes fabric → can_be_cut plan cable ≡ true → ArePlannedFor (without_cable cable plan) others
    → IsBroughtUpBy (without_cable cable plan) other_keys left.routes left.fabric → LiesInTable number → port < 48
    → (mask_by ports routes number heading guid port ≡ mask_pushed ports routes fabric number heading guid port)
    × (mask_by ports others number heading guid port ≡ mask_pushed ports left.routes left.fabric number heading guid port)

-- so the masks that are counted are those in which the two fabrics differ
abbrev pub MaskChangesAreTheFabrics : Type 0
MaskChangesAreTheFabrics =
    (plan : TopologyState) (configuration : ConfigurationState) (cable : Cable) (keys other_keys : List (List ℕ)) (routes others : RoutesState)
    (fabric : FabricState) (left : BroughtUpState) → IsSound plan → length configuration.partitions ≤ PARTITIONS
    → IsBroughtUpBy plan keys routes fabric → can_be_cut plan cable ≡ true → ArePlannedFor (without_cable cable plan) others
    → IsBroughtUpBy (without_cable cable plan) other_keys left.routes left.fabric
    → mask_changes configuration (mask_by configuration.ports routes) (mask_by configuration.ports others)
    ≡ mask_changes configuration (mask_pushed configuration.ports routes fabric) (mask_pushed configuration.ports left.routes left.fabric)

-- ---- one answer
-- that report the same: the tables and masks of the fabric, or why it does not come up
abbrev pub ReportTheSame : Cut → Cut → Type 0
ReportTheSame (Keeps one) (Keeps other) =
    (entry_by other ≡ entry_by one) × ((ports : List SubnetPort) → mask_by ports other ≡ mask_by ports one)
ReportTheSame (Stops one) (Stops other) = other ≡ one
ReportTheSame (Keeps one) (Stops other) = ⊥
ReportTheSame (Stops one) (Keeps other) = ⊥

-- one thing becomes of a fabric without a cable
abbrev pub OneFateIsReported : Type 0
OneFateIsReported =
    (plan : TopologyState) (routes : RoutesState) (cable : Cable) (one other : Cut) → IsSound plan → HaveBroughtUp plan routes
    → can_be_cut plan cable ≡ true → IsFate routes.between.rule (without_cable cable plan) one
    → IsFate routes.between.rule (without_cable cable plan) other → ReportTheSame one other

-- so each text is one
abbrev pub OneTextIsReported : Type 0
OneTextIsReported =
    (plan : TopologyState) (configuration : ConfigurationState) (routes : RoutesState) (cable : Cable) (one other : List ℕ) → IsSound plan
    → HaveBroughtUp plan routes
    → (ReportsAll plan configuration routes one → ReportsAll plan configuration routes other → other ≡ one)
    × (can_be_cut plan cable ≡ true → ReportsOne plan configuration routes cable one → ReportsOne plan configuration routes cable other → other ≡ one)
