-- What is so of all discoveries: the statements of the laws of `src/laws.rt`.
use Rattle.std.specs.Prelude.{ℕ, Bool, ◌≡◌, ◌↔◌, true, false, not, find, List, ◌∷◌, ◌++◌, [], slice_get, Some, None, Ok}
use Rattle.std.specs.List.{list_all}
use Rattle.netdiscover_file.specs.declared.assignment.SwitchGuids.{SwitchGuids}
use Rattle.netdiscover_file.specs.declared.kind.NodeKind.TheVariants.{Switch}
use Rattle.netdiscover_file.specs.declared.node.Node.{Node}
use Rattle.netdiscover_file.specs.declared.port.PortLine.{PortLine}
use Rattle.netdiscover_file.specs.Agreement.{is_one_cable, stands_at_both_ends}
use Rattle.netdiscover_file.specs.Discovery.{DiscoveryState, DraftState, has_taken_guid, reported_by}
use Rattle.netdiscover_file.specs.Port.{is_reported}
use Rattle.netdiscover_file.specs.Sound.{has_other_end, port_guids, AreSound, IsSound, IsSoundSoFar}

-- a cable stands once at its other end: the lines that lead back to a line are one, in every discovery of which this is so
abbrev pub OneOtherEndWhere : (DiscoveryState → Type 0) → Type 0
OneOtherEndWhere So =
    (discovery : DiscoveryState) → So discovery → (line a b : PortLine) (i j : ℕ)
    → slice_get discovery.ports i ≡ Some a → slice_get discovery.ports j ≡ Some b
    → is_one_cable discovery.nodes line a ≡ true → is_one_cable discovery.nodes line b ≡ true → i ≡ j

abbrev pub OneOtherEnd : Type 0
OneOtherEnd = OneOtherEndWhere IsSound

-- if no line fails this test, each has one that leads back
abbrev pub ReportsMissingEnds : (List Node → List PortLine → PortLine → Bool) → Type 0
ReportsMissingEnds test =
    (nodes : List Node) (ports : List PortLine) → find (λ line. not (test nodes ports line)) ports ≡ None
    → list_all (has_other_end nodes ports) ports ≡ true

abbrev pub MissingEndsAreReported : Type 0
MissingEndsAreReported = ReportsMissingEnds stands_at_both_ends

-- a line passes this test if and only if some line leads back
abbrev pub ReportsOnlyMissingEnds : (List Node → List PortLine → PortLine → Bool) → Type 0
ReportsOnlyMissingEnds test =
    (nodes : List Node) (ports : List PortLine) → AreSound nodes ports → (line : PortLine)
    → test nodes ports line ≡ has_other_end nodes ports line

abbrev pub OnlyMissingEndsAreReported : Type 0
OnlyMissingEndsAreReported = ReportsOnlyMissingEnds stands_at_both_ends

-- what is so after each line: all is sound, and the GUIDs that are noted are those of the ports
pub record IsReportedSoFar (so_far : DraftState) : Type 0 where
  pub sound : IsSoundSoFar so_far.nodes so_far.ports so_far.port_guids
  pub noted_alone : list_all (λ guid. is_reported guid (port_guids so_far.nodes so_far.ports)) so_far.port_guids ≡ true

abbrev pub LinesSaySo : Type 0
LinesSaySo = (text : List ℕ) (so_far : DraftState) → reported_by text ≡ Ok so_far → IsReportedSoFar so_far

-- with this node all GUIDs stay apart, and if the line before reported those of a switch, it is that switch
pub record HasOwnGuids (so_far : DraftState) (node : Node) : Type 0 where
  pub apart : AreSound (so_far.nodes ++ node ∷ []) so_far.ports
  pub meant : (guids : SwitchGuids) → so_far.switch_guids ≡ Some guids → (node.id.kind ≡ Switch) × (node.id.guid ≡ guids.node)

-- this test reports that a GUID of a node is taken if and only if the node has none of its own
abbrev pub ReportsTakenGuids : (DraftState → Node → Bool) → Type 0
ReportsTakenGuids test = (so_far : DraftState) (node : Node) → IsReportedSoFar so_far → (test so_far node ≡ false) ↔ HasOwnGuids so_far node

abbrev pub TakenGuidsAreReported : Type 0
TakenGuidsAreReported = ReportsTakenGuids has_taken_guid
