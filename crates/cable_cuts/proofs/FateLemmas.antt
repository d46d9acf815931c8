-- One thing becomes of a fabric without a cable, and the tables that are reported are those of the fabric.
use Rattle.std.proofs.Common.{ℕ, ◌+◌, ◌<◌, nat_le, arith, ◌≡◌, ◌∙◌, ◌==◌, ap, refl, sym, subst, true, false, List, unwrap_or, Option, ◌↔◌}
use Rattle.std.specs.Option.{option_map_or}
use Rattle.std.proofs.lemmas.Bool.{and_from, eq-eqb, false≢true, le-leb, lt-ltb}
use Rattle.fabric_parts.specs.Cable.{last_of, port}
use Rattle.fabric_parts.specs.declared.cable.Cable.{Cable}
use Rattle.fabric_parts.specs.declared.cable.PortRef.{PortRef}
use Rattle.fabric_wire.specs.OfTopology.{fabric_of}
use Rattle.lid_assign.specs.Lids.{AreLids, end_ports}
use Rattle.updn_routes.proofs.AlikeLemmas.{one_pair_is_refused}
use Rattle.updn_routes.proofs.ChoiceLemmas.{next_hops_are_the_fabrics}
use Rattle.updn_routes.proofs.OfFabricLemmas.{graphs_of_one_fabric_are_alike}
use Rattle.updn_routes.specs.Alike.{layout_of}
use Rattle.smp_wire.specs.FabricState.{FabricState}
use Rattle.smp_wire.specs.Good.{IsGood, SwitchesJoined}
use Rattle.subnet_fabric.proofs.FoundLemmas.{laid_out}
use Rattle.subnet_fabric.proofs.StandingLookLemmas.{joined_alike, no_path_alike, planned_alike}
use Rattle.subnet_fabric.specs.BringUp.{HasNoPath, IsBroughtUpBy, root_guids}
use Rattle.subnet_fabric.specs.Planning.{ArePlannedOver}
use Rattle.subnet_fabric.specs.SetUp.{HasNoPathFrom}
use Rattle.subnet_fabric.specs.Standing.{CanComeUp}
use Rattle.sweep.proofs.LayoutLemmas.{at_less, at_switch, same_node, walk_up}
use Rattle.sweep.specs.Graph.{GraphState}
use Rattle.sweep.specs.Joined.{AllJoined}
use Rattle.sweep.specs.OfFabric.{IsLayoutOf}
use Rattle.topo_file.specs.Connectivity.{is_connected}
use Rattle.topo_file.specs.Sound.{IsSound}
use Rattle.topo_file.specs.Topology.{TopologyState}
use Rattle.updn_routes.specs.Fault.{IsRefused}
use Rattle.updn_routes.specs.Subnet.{RoutesState, guids_of, homes_of, rows_of}
use Rattle.cable_cuts.proofs.ConnectedLemmas.{is_connected_then}
use Rattle.cable_cuts.proofs.LidLemmas.{same_lids}
use Rattle.cable_cuts.proofs.MaskMeetLemmas.{masks_meet}
use Rattle.cable_cuts.proofs.NeededLemmas.{never_up}
use Rattle.cable_cuts.proofs.PlanLemmas.{cut_alike, cut_fabric, good_cut, left_alike}
use Rattle.cable_cuts.proofs.TableLemmas.{bit_is, entry_is}
use Rattle.cable_cuts.specs.Cables.{can_be_cut, without_cable}
use Rattle.cable_cuts.specs.Changes.{changes, entry_by, entry_in}
use Rattle.cable_cuts.specs.Fate.{ArePlannedFor, HaveBroughtUp, IsFate, IsStop}
use Rattle.cable_cuts.specs.Laws.{ChangesAreTheFabrics, KeptIsWhatComesUp, MasksAreTheFabrics, OneFateIsReported, ReportTheSame}
use Rattle.cable_cuts.specs.Masks.{mask_by, receives_all}
use Rattle.sa_model.specs.Groups.{first_mlid}
use Rattle.agent_rules.specs.declared.power_up.TheConstants.{MULTICAST_TABLE}
use Rattle.fabric_parts.specs.Lid.{is_multicast}
use Rattle.fabric_parts.specs.declared.lid.TheConstants.{FIRST_MULTICAST_LID}
use Rattle.subnet_model.specs.declared.subnet_port.SubnetPort.{SubnetPort}
use Rattle.table_push.specs.Masks.{LiesInTable}
use Rattle.cable_cuts.specs.Outcomes.{outcome_of}
use Rattle.cable_cuts.specs.Texts.{keeps}
use Rattle.cable_cuts.specs.declared.fate.Cut.{Cut}
use Rattle.cable_cuts.specs.declared.fate.Cut.TheVariants.{Keeps, Stops}
use Rattle.cable_cuts.specs.declared.fate.Stop.{Stop}
use Rattle.cable_cuts.specs.declared.fate.Stop.TheVariants.{Apart, TooFar, NoLegalPath}
use Rattle.updn_routes.specs.declared.tie_rule.TieRule.{TieRule}

-- ---- over one good fabric
module _ (fabric : FabricState) (good : IsGood fabric) where
  tables_meet : (roots : List ℕ) (one other : RoutesState) → ArePlannedOver fabric roots one → ArePlannedOver fabric roots other
      → other.between.rule ≡ one.between.rule → entry_by other ≡ entry_by one
  tables_meet roots one other planned planned_too ruled =
      let lids = same_lids fabric good one.graph other.graph one.lids other.lids planned.laid.layout planned_too.laid.layout planned.assigned planned_too.assigned in
      let hops = λ (guid lid : ℕ). next_hops_are_the_fabrics fabric one other roots guid lid good planned.laid.layout planned_too.laid.layout
      planned.chosen planned_too.chosen lids ruled in
      λ i guid lid. unwrap_or (hops guid lid i) 255

  one_pair : (roots : List ℕ) (a b c d : ℕ) → HasNoPathFrom fabric roots a b → HasNoPathFrom fabric roots c d → (a ≡ c) × (b ≡ d)
  one_pair roots a b c d one other =
      let same : other.guids ≡ one.guids =
      same_lids fabric good one.graph other.graph one.guids other.guids one.laid.layout other.laid.layout one.assigned other.assigned in
      let alike =
      graphs_of_one_fabric_are_alike fabric one.graph other.graph one.guids good one.laid.layout other.laid.layout one.assigned.lids
      (subst (AreLids (end_ports other.graph)) same other.assigned.lids) in
      one_pair_is_refused (layout_of one.graph one.guids) (layout_of other.graph one.guids) roots a b c d alike one.refused
      (subst (λ (lids : List ℕ). IsRefused (rows_of other.graph) (guids_of other.graph) roots (homes_of other.graph lids) c d) same other.refused)

  -- a layout whose links join its switches is that of a fabric whose cables do
  joined : (graph : GraphState) → IsLayoutOf graph fabric → AllJoined graph.rows → SwitchesJoined fabric
  joined graph layout all a b one other =
      let s = at_switch fabric graph good layout a one in
      let d = at_switch fabric graph good layout b other in
      let walks = all s.0 d.0 (at_less fabric graph good layout s.0 a s.1) (at_less fabric graph good layout d.0 b d.1) in
      let up = walk_up fabric graph good layout (port a 0) s.0 d.0 walks.0 s.1 walks.1 in
      let end : (last_of (port a 0) up.ends).node ≡ b = same_node fabric graph good layout d.0 _ b up.at d.1 in (
        up.numbers,
        ap (λ (o : Option (List PortRef)). option_map_or (λ ends. (last_of (port a 0) ends).node == b) o false) up.walked ∙ eq-eqb _ b end,
      )

-- those that brought a fabric up are as planned
planned_of : (plan : TopologyState) (keys : List (List ℕ)) (routes : RoutesState) (fabric : FabricState) → IsBroughtUpBy plan keys routes fabric
    → ArePlannedFor plan routes
planned_of plan keys routes fabric by = record {
  laid = laid_out (fabric_of plan) routes.graph by.are.found;
  assigned = by.are.assigned;
  made = by.are.made;
  reached = by.are.reached;
  chosen = record { of = by.home.of; ranks = by.are.made.ranks_are; chosen = by.home.chosen };
}

-- ---- without a cable
module _ (plan : TopologyState) (routes : RoutesState) (cable : Cable) (sound : IsSound plan) (up : HaveBroughtUp plan routes)
    (can : can_be_cut plan cable ≡ true) where
  abbrev left : TopologyState
  left = without_cable cable plan

  abbrev over : FabricState
  over = cut_fabric plan routes cable sound up can

  tables_are : (one other : RoutesState) → ArePlannedFor left one → ArePlannedFor left other → other.between.rule ≡ one.between.rule
      → entry_by other ≡ entry_by one
  tables_are one other planned planned_too ruled =
      let alike = left_alike plan routes cable sound up can in
      tables_meet over (good_cut plan routes cable sound up can) (root_guids plan) one other
      (planned_alike (fabric_of left) over (root_guids plan) one alike planned) (planned_alike (fabric_of left) over (root_guids plan) other alike planned_too) ruled

  masks_are : (ports : List SubnetPort) (one other : RoutesState) → ArePlannedFor left one → ArePlannedFor left other
      → mask_by ports other ≡ mask_by ports one
  masks_are ports one other planned planned_too =
      let alike = left_alike plan routes cable sound up can in
      masks_meet over (good_cut plan routes cable sound up can) one other (root_guids plan)
      (planned_alike (fabric_of left) over (root_guids plan) one alike planned) (planned_alike (fabric_of left) over (root_guids plan) other alike planned_too) ports

  none_over : (switch port : ℕ) → HasNoPath left switch port → HasNoPathFrom over (root_guids plan) switch port
  none_over switch port none = no_path_alike over (fabric_of left) (root_guids plan) switch port (cut_alike plan routes cable sound up can) none

  not_apart : (switch port : ℕ) → HasNoPath left switch port → is_connected left.nodes left.cables ≡ true
  not_apart switch port none =
      let there = none_over switch port none in
      is_connected_then left (joined_alike over (fabric_of left) (cut_alike plan routes cable sound up can)
      (joined over (good_cut plan routes cable sound up can) there.graph there.laid.layout there.laid.joined))

  one_stop : (one other : Stop) → IsStop left one → IsStop left other → other ≡ one
  one_stop Apart Apart is too = refl
  one_stop Apart TooFar is too = absurd (false≢true (sym is ∙ too.0))
  one_stop Apart (NoLegalPath switch port) is too = absurd (false≢true (sym is ∙ not_apart switch port too))
  one_stop TooFar Apart is too = absurd (false≢true (sym too ∙ is.0))
  one_stop TooFar TooFar is too = refl
  one_stop TooFar (NoLegalPath switch port) is too = absurd (too.laid.near is.1)
  one_stop (NoLegalPath switch port) Apart is too = absurd (false≢true (sym too ∙ not_apart switch port is))
  one_stop (NoLegalPath switch port) TooFar is too = absurd (is.laid.near too.1)
  one_stop (NoLegalPath a b) (NoLegalPath c d) is too =
      let same = one_pair over (good_cut plan routes cable sound up can) (root_guids plan) a b c d (none_over a b is) (none_over c d too) in
      let first = same.0 in
      let second = same.1 in
      sym (λ i. NoLegalPath (first i) (second i))

  one_fate : (rule : TieRule) (one other : Cut) → IsFate rule left one → IsFate rule left other → ReportTheSame one other
  one_fate rule (Keeps one) (Keeps other) is too =
      (tables_are one other is.1 too.1 (too.2 ∙ sym is.2), λ ports. masks_are ports one other is.1 too.1)
  one_fate rule (Keeps one) (Stops stop) is too = absurd (never_up left stop too is.0)
  one_fate rule (Stops stop) (Keeps other) is too = absurd (never_up left stop is too.0)
  one_fate rule (Stops one) (Stops other) is too = one_stop one other is too

pub one_fate_is_reported : OneFateIsReported
one_fate_is_reported plan routes cable one other sound up can is too = one_fate plan routes cable sound up can routes.between.rule one other is too

pub kept_is_what_comes_up : KeptIsWhatComesUp
kept_is_what_comes_up plan configuration routes cable outcome is = by is.fate is.fate_is is.outcome_is
  where
    by : (fate : Cut) → IsFate routes.between.rule (without_cable cable plan) fate → outcome ≡ outcome_of configuration routes fate
        → (keeps outcome ≡ true) ↔ CanComeUp (without_cable cable plan)
    by (Keeps others) fate outcome_is = (λ kept. fate.0, λ can. ap keeps outcome_is)
    by (Stops stop) fate outcome_is = (
      λ kept. absurd (false≢true (sym (ap keeps outcome_is) ∙ kept)),
      λ can. absurd (never_up (without_cable cable plan) stop fate can),
    )

pub changes_are_the_fabrics : ChangesAreTheFabrics
changes_are_the_fabrics plan ports cable keys other_keys routes others fabric left sound by can planned up_too ruled =
    let here : entry_by routes ≡ entry_in fabric = λ i guid lid. sym (entry_is plan keys routes fabric by guid lid) i in
    let there : entry_by up_too.routes ≡ entry_in left =
    λ i guid lid. sym (entry_is (without_cable cable plan) other_keys up_too.routes left up_too.by guid lid) i in
    let up : HaveBroughtUp plan routes = record { keys = keys; fabric = fabric; by = by } in
    let more = tables_are plan routes cable sound up can up_too.routes others
    (planned_of (without_cable cable plan) other_keys up_too.routes left up_too.by) planned ruled in
    let all = more ∙ there in
    λ i. changes ports (here i) (all i)

-- ---- masks
lies : (number : ℕ) → LiesInTable number → first_mlid number < FIRST_MULTICAST_LID + MULTICAST_TABLE
lies number low = omega (arith, low)

multicast : (number : ℕ) → LiesInTable number → is_multicast (first_mlid number) ≡ true
multicast number low =
    and_from (nat_le 0xc000 (first_mlid number)) _ (le-leb 0xc000 (first_mlid number) (omega arith))
    (lt-ltb (first_mlid number) 0xffff (omega (arith, low)))

pub masks_are_the_fabrics : MasksAreTheFabrics
masks_are_the_fabrics plan ports cable keys other_keys routes others fabric left number heading guid port sound by can planned by_too low few =
    let receives = receives_all ports heading.base (first_mlid number) in
    let up : HaveBroughtUp plan routes = record { keys = keys; fabric = fabric; by = by } in
    let same = masks_are plan routes cable sound up can ports left.routes others (planned_of (without_cable cable plan) other_keys left.routes left.fabric by_too) planned in (
      sym (bit_is plan keys routes fabric by receives guid (first_mlid number) port (multicast number low) (lies number low) few),
      (λ i. same i number heading guid port)
          ∙ sym (bit_is (without_cable cable plan) other_keys left.routes left.fabric by_too receives guid (first_mlid number) port (multicast number low) (lies number low) few),
    )
