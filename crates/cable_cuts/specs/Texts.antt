-- What is printed of the loss of cables.
use Rattle.std.specs.Prelude.{ℕ, ◌≡◌, ◌==◌, Bool, true, false, not, if◌then◌else◌, List, [], ◌∷◌, ◌++◌, codes, decimal, filter, find, length}
use Rattle.std.specs.List.{flat_map}
use Rattle.std.specs.Option.{option_map_or}
use Rattle.fabric_parts.specs.declared.cable.Cable.{Cable}
use Rattle.fabric_parts.specs.declared.cable.PortRef.{PortRef}
use Rattle.partition_reports.specs.Ports.{port_text}
use Rattle.text_words.specs.Parts.{port_name}
use Rattle.subnet_model.specs.Configuration.{ConfigurationState}
use Rattle.subnet_model.specs.declared.subnet_port.SubnetPort.{SubnetPort}
use Rattle.topo_file.specs.Node.{name_at}
use Rattle.topo_file.specs.Topology.{TopologyState}
use Rattle.topo_file.specs.declared.node.Node.{Node}
use Rattle.updn_routes.specs.Subnet.{RoutesState}
use Rattle.cable_cuts.specs.Cables.{without_cable}
use Rattle.cable_cuts.specs.Changes.{changes, entry_by}
use Rattle.cable_cuts.specs.Fate.{IsFate}
use Rattle.cable_cuts.specs.Outcomes.{AreLosses, outcome_of}
use Rattle.cable_cuts.specs.declared.changes.Change.{Change}
use Rattle.cable_cuts.specs.declared.fate.Cut.{Cut}
use Rattle.cable_cuts.specs.declared.fate.Cut.TheVariants as cut
use Rattle.cable_cuts.specs.declared.fate.Stop.{Stop}
use Rattle.cable_cuts.specs.declared.fate.Stop.TheVariants.{Apart, TooFar, NoLegalPath}
use Rattle.cable_cuts.specs.declared.loss.Loss.{Loss}
use Rattle.cable_cuts.specs.declared.outcome.Difference.{Difference}
use Rattle.cable_cuts.specs.declared.outcome.Outcome.{Outcome}
use Rattle.cable_cuts.specs.declared.outcome.Outcome.TheVariants.{Keeps, Stops}

-- ---- names
-- a port of a node, as `A/3`
abbrev pub end_text : List Node → PortRef → List ℕ
end_text nodes at = port_name (name_at nodes at.node) at.port

-- the node of the end port of that LID, and the end port itself, as `i/1`
abbrev pub node_text : List SubnetPort → ℕ → List ℕ
node_text ports lid = option_map_or (λ port. port.node_name) (find (λ port. port.lid == lid) ports) []

abbrev pub lid_text : List SubnetPort → ℕ → List ℕ
lid_text ports lid = option_map_or port_text (find (λ port. port.lid == lid) ports) []

-- ---- a line for a cable
-- by the code of what would be at fault
abbrev pub stop_text : List SubnetPort → Stop → List ℕ
stop_text ports Apart = codes "TF9"
stop_text ports TooFar = codes "SW3"
stop_text ports (NoLegalPath switch port) = codes "UR1 " ++ node_text ports switch ++ codes " " ++ lid_text ports port

abbrev pub difference_text : Difference → List ℕ
difference_text difference =
    decimal difference.entries ++ codes " entries " ++ decimal difference.masks ++ codes " masks " ++ decimal difference.switches ++ codes " switches"

abbrev pub outcome_text : List SubnetPort → Outcome → List ℕ
outcome_text ports (Keeps difference) = codes " keeps " ++ difference_text difference
outcome_text ports (Stops stop) = codes " stops " ++ stop_text ports stop

-- `cut PORT PORT keeps COUNT entries COUNT masks COUNT switches`, or `cut PORT PORT stops CODE`
abbrev pub loss_line : List Node → List SubnetPort → Cable → Outcome → List ℕ
loss_line nodes ports cable outcome =
    codes "cut " ++ end_text nodes cable.first ++ codes " " ++ end_text nodes cable.second ++ outcome_text ports outcome ++ 10 ∷ []

-- ---- all cables
abbrev pub keeps : Outcome → Bool
keeps (Keeps difference) = true
keeps (Stops stop) = false

abbrev pub kept : List Loss → List Loss
kept losses = filter (λ loss. keeps loss.outcome) losses

abbrev pub stopped : List Loss → List Loss
stopped losses = filter (λ loss. not (keeps loss.outcome)) losses

-- `cables COUNT keep COUNT stop COUNT`
abbrev pub count_line : List Loss → List ℕ
count_line losses =
    codes "cables " ++ decimal (length losses) ++ codes " keep " ++ decimal (length (kept losses))
    ++ codes " stop " ++ decimal (length (stopped losses)) ++ 10 ∷ []

abbrev pub lines_of : List Node → List SubnetPort → List Loss → List ℕ
lines_of nodes ports losses = flat_map (λ loss. loss_line nodes ports loss.cable loss.outcome) losses ++ count_line losses

-- the text is that of the losses of all cables between switches
pub record ReportsAll (plan : TopologyState) (configuration : ConfigurationState) (routes : RoutesState) (text : List ℕ) : Type 0 where
  pub losses : List Loss
  pub are : AreLosses plan configuration routes losses
  pub text_is : text ≡ lines_of plan.nodes configuration.ports losses

-- ---- one cable, with the entries that change
abbrev pub hop_text : ℕ → List ℕ
hop_text number = if number == 255 then codes "none" else decimal number

-- `SWITCH lid LID port PORT becomes PORT`
abbrev pub change_line : List SubnetPort → Change → List ℕ
change_line ports change =
    node_text ports change.switch ++ codes " lid " ++ decimal change.lid ++ codes " port " ++ hop_text change.was
    ++ codes " becomes " ++ hop_text change.becomes ++ 10 ∷ []

abbrev pub change_lines : List SubnetPort → RoutesState → Cut → List ℕ
change_lines ports routes (cut.Keeps others) = flat_map (change_line ports) (changes ports (entry_by routes) (entry_by others))
change_lines ports routes (cut.Stops stop) = []

abbrev pub lines_of_one : List Node → ConfigurationState → RoutesState → Cable → Cut → List ℕ
lines_of_one nodes configuration routes cable fate =
    loss_line nodes configuration.ports cable (outcome_of configuration routes fate) ++ change_lines configuration.ports routes fate

-- the text is that of what becomes of the fabric without that cable
pub record ReportsOne (plan : TopologyState) (configuration : ConfigurationState) (routes : RoutesState) (cable : Cable) (text : List ℕ) : Type 0 where
  pub fate : Cut
  pub fate_is : IsFate routes.between.rule (without_cable cable plan) fate
  pub text_is : text ≡ lines_of_one plan.nodes configuration routes cable fate
