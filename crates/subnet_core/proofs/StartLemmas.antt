-- Before the first command nobody receives what is sent to groups, and masks are those of power-up, which have no bit.
use Rattle.std.proofs.Common.{ℕ, ◌+◌, ◌-◌, ◌≡◌, ◌==◌, ◌&&◌, ◌||◌, ◌∙◌, ap, refl, subst, sym, not, Bool, true, false, if◌then◌else◌, List, [], ◌∷◌, slice_get, Option, Some, None}
use Rattle.std.specs.List.{All, enumerate_from, list_all}
use Rattle.std.specs.Option.{option_map_or}
use Rattle.std.proofs.lemmas.Bool.{and_parts}
use Rattle.fabric_parts.specs.Lid.{is_multicast}
use Rattle.fabric_parts.specs.NodeType.{is_switch_type}
use Rattle.fabric_parts.specs.declared.lid.TheConstants.{FIRST_MULTICAST_LID}
use Rattle.fabric_wire.specs.OfTopology.{fabric_of}
use Rattle.partition_file.specs.declared.broadcast_group.BroadcastGroup.{BroadcastGroup}
use Rattle.partition_file.specs.declared.heading.Heading.{Heading}
use Rattle.step_results.proofs.ListLemmas.{all_there, any_none}
use Rattle.step_results.proofs.BoolLemmas.{and_false}
use Rattle.sa_model.proofs.ReceiverLemmas.{any_alike}
use Rattle.sa_model.specs.Delivery.{is_receiver_of, receives_in}
use Rattle.sa_model.specs.Groups.{file_groups, first_mlid, start_from, start_of}
use Rattle.smp_wire.specs.FabricState.{FabricState}
use Rattle.smp_wire.specs.Good.{IsGoodNode}
use Rattle.smp_wire.specs.declared.node.Node.{Node}
use Rattle.smp_wire.specs.declared.node.Node.TheVariants.{Switch}
use Rattle.subnet_fabric.proofs.ListedLemmas.{up}
use Rattle.subnet_fabric.proofs.StandingListedLemmas.{brought_up_stands}
use Rattle.subnet_fabric.proofs.MaskLemmas.{are_empty, are_unmasked, made_unmasked, masks_of as held_masks, pushed_unmasked}
use Rattle.subnet_fabric.specs.Laws.{all_keys}
use Rattle.subnet_model.specs.declared.subnet_port.SubnetPort.{SubnetPort}
use Rattle.subnet_fabric.specs.Ports.{configuration_of, ports_of}
use Rattle.switch_model.specs.Multicast.{has_bit, has_bits}
use Rattle.table_push.specs.BroughtUp.{IsBroughtUp}
use Rattle.table_push.specs.Masks.{all_masks_pushed}
use Rattle.updn_routes.specs.Subnet.{RoutesState}
use Rattle.subnet_core.proofs.OverLemmas.{slices_over}
use Rattle.subnet_core.specs.AdministrationLaws.{StartsAreServed}
use Rattle.subnet_core.specs.Served.{receives_at}

none_in_group : (mlid guid number base : ℕ) (group : Option BroadcastGroup)
    → receives_in mlid guid (record { number = number; base = base; groups = file_groups number base group }) ≡ false
none_in_group mlid guid number base None = refl
none_in_group mlid guid number base (Some group) = ap (λ b. b || false) (and_false (first_mlid number == mlid))

none_received : (mlid guid number : ℕ) (headings : List Heading) → is_receiver_of (start_from number headings) mlid guid ≡ false
none_received mlid guid number [] = refl
none_received mlid guid number (heading ∷ headings) =
    ap (λ b. b || is_receiver_of (start_from (number + 1) headings) mlid guid) (none_in_group mlid guid number heading.base heading.group)
    ∙ none_received mlid guid (number + 1) headings

pub nobody_receives : (ports : List SubnetPort) (headings : List Heading) (mlid lid : ℕ) → receives_at ports (start_from 0 headings) mlid lid ≡ false
nobody_receives ports headings mlid lid =
    any_alike (λ port. (port.lid == lid) && (not (is_switch_type port.node_type) && is_receiver_of (start_from 0 headings) mlid port.guid)) (λ port. false)
    (λ port. ap (λ b. (port.lid == lid) && (not (is_switch_type port.node_type) && b)) (none_received mlid port.guid 0 headings)
    ∙ ap (λ b. (port.lid == lid) && b) (and_false (not (is_switch_type port.node_type))) ∙ and_false (port.lid == lid)) ports
    ∙ any_none ports

-- ---- masks of power-up have no bit for any group
no_bit_in : (mlid : ℕ) (words : List ℕ) → list_all (λ word. word == 0) words ≡ true → has_bit mlid words ≡ false
no_bit_in mlid words empty = by (is_multicast mlid)
  where
    read : (o : Option ℕ) → slice_get words (mlid - FIRST_MULTICAST_LID) ≡ o → option_map_or (λ mask. not (mask == 0)) o false ≡ false
    read None there = refl
    read (Some word) there = ap not (all_there (λ (word : ℕ). word == 0) words (mlid - FIRST_MULTICAST_LID) word empty there)

    by : (multi : Bool) → option_map_or (λ mask. not (mask == 0)) (if multi then slice_get words (mlid - FIRST_MULTICAST_LID) else None) false ≡ false
    by true = read (slice_get words (mlid - FIRST_MULTICAST_LID)) refl
    by false = refl

none_in : (mlid : ℕ) (masks : List (List ℕ)) → are_empty masks ≡ true → has_bits masks mlid ≡ false
none_in mlid [] empty = refl
none_in mlid (words ∷ masks) empty =
    let parts = and_parts (list_all (λ word. word == 0) words) (are_empty masks) empty in
    rw (no_bit_in mlid words parts.0) (none_in mlid masks parts.1)

-- so it has all masks of nobody
has_all_masks : (routes : RoutesState) (receives : ℕ → ℕ → Bool) (fabric : FabricState) → ((mlid lid : ℕ) → receives mlid lid ≡ false)
    → are_unmasked fabric.nodes ≡ true → All IsGoodNode fabric.nodes → fabric ≡ all_masks_pushed routes receives fabric
has_all_masks routes receives fabric nobody empty good =
    slices_over routes receives [] (λ i within lies. nobody (FIRST_MULTICAST_LID + i)) fabric good
    (λ node mlid held there nobody. none_in mlid held.masks (all_there (λ (one : Node). are_empty (held_masks one)) fabric.nodes node (Switch held) empty there))

pub starts_are_served : StartsAreServed
starts_are_served plan partitions routes fabric sound whole by =
    let ports = ports_of partitions plan in
    let keys = all_keys ports in
    let brought : IsBroughtUp routes keys fabric =
    subst (IsBroughtUp routes keys) (sym by.is) (up plan partitions sound whole routes by.are by.home by.pushed) in
    let empty : are_unmasked fabric.nodes ≡ true =
    ap (λ (f : FabricState). are_unmasked f.nodes) by.is
    ∙ pushed_unmasked routes keys (fabric_of plan) (made_unmasked plan.cables (enumerate_from 0 plan.nodes)) in
    record {
      base = fabric;
      stands = brought_up_stands plan keys routes fabric by;
      masks = has_all_masks routes (receives_at ports (start_of (configuration_of partitions plan))) fabric
          (nobody_receives ports (configuration_of partitions plan).partitions) empty brought.good.holdings;
    }
