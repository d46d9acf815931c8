-- A bit that leads to a switch with no bits is idle.
use Rattle.std.proofs.Common.{ℕ, ◌≡◌, ◌==◌, ◌%◌, ◌-◌, ◌/◌, ◌∙◌, ap, refl, sym, subst, Bool, true, false, if◌then◌else◌, List, [], ◌∷◌, replicate, slice_get, Option, Some, None}
use Rattle.std.specs.Int.{bit_at}
use Rattle.std.specs.List.{list_all}
use Rattle.std.specs.Option.{option_and_then, option_map_or}
use Rattle.std.proofs.lemmas.Bool.{false≢true}
use Rattle.std.proofs.lemmas.Option.{none-some, same_Some}
use Rattle.agent_rules.specs.declared.power_up.TheConstants.{MULTICAST_TABLE}
use Rattle.fabric_parts.specs.Cable.{port}
use Rattle.fabric_parts.specs.Lid.{is_multicast}
use Rattle.fabric_parts.specs.declared.cable.PortRef.{PortRef}
use Rattle.fabric_parts.specs.declared.lid.TheConstants.{FIRST_MULTICAST_LID}
use Rattle.port_model.specs.AdapterState.{AdapterState}
use Rattle.step_results.proofs.ListLemmas.{all_there}
use Rattle.smp_wire.specs.FabricState.{FabricState}
use Rattle.switch_model.specs.Multicast.{is_in_masks, mask_of}
use Rattle.smp_wire.specs.Deliveries.{adapter_at}
use Rattle.smp_wire.specs.DeliveryExamples.{received_by, two_switches_with}
use Rattle.smp_wire.specs.Groups.{GoesByMasks, HasNoIdleBits, is_in_masks_at}
use Rattle.smp_wire.specs.DeliveryWrongRules.{BitsTowardsNobodyAreIdle}
use Rattle.smp_wire.proofs.ExampleMlidLemmas.{no_bit}

-- ---- masks without a bit
abbrev are_empty : List (List ℕ) → Bool
are_empty = list_all (λ masks. list_all (λ mask. mask == 0) masks)

in_position : (masks : List ℕ) (lid bit : ℕ) (b : Bool) → is_multicast lid ≡ b → list_all (λ mask. mask == 0) masks ≡ true
    → option_map_or (λ mask. bit_at mask bit == 1) (if b then slice_get masks (lid - FIRST_MULTICAST_LID) else None) false ≡ false
in_position masks lid bit false is all = refl
in_position masks lid bit true is all =
    no_bit masks (lid - FIRST_MULTICAST_LID) bit (slice_get masks (lid - FIRST_MULTICAST_LID)) refl all

in_positions : (positions : List (List ℕ)) (lid number : ℕ) (found : Option (List ℕ)) → slice_get positions (number / 16) ≡ found
    → are_empty positions ≡ true → option_map_or (λ mask. bit_at mask (number % 16) == 1) (option_and_then (mask_of lid) found) false ≡ false
in_positions positions lid number None is all = refl
in_positions positions lid number (Some masks) is all =
    in_position masks lid (number % 16) (is_multicast lid) refl
    (all_there (λ masks. list_all (λ mask. mask == 0) masks) positions (number / 16) masks all is)

none_in : (positions : List (List ℕ)) (lid number : ℕ) → are_empty positions ≡ true → is_in_masks positions lid number ≡ false
none_in positions lid number all = in_positions positions lid number (slice_get positions (number / 16)) refl all

-- ---- the fabric
abbrev fabric : FabricState
fabric = two_switches_with 0b1110 0

abbrev masks_of_b : List (List ℕ)
masks_of_b = (0 ∷ replicate (MULTICAST_TABLE - 1) 0) ∷ replicate 2 (replicate MULTICAST_TABLE 0)

none_at_b : (mlid number : ℕ) → is_in_masks_at fabric.nodes mlid (port 1 number) ≡ false
none_at_b mlid number = none_in masks_of_b mlid number refl

stuck : (mlid : ℕ) (way : List PortRef) (at : PortRef) (one : AdapterState) → GoesByMasks fabric.nodes fabric.cables mlid (port 1 3) way at
    → adapter_at fabric.nodes at ≡ Some one → ⊥
stuck mlid [] at one goes there = none-some one (ap (adapter_at fabric.nodes) goes ∙ there)
stuck mlid (next ∷ later) at one goes there = false≢true (sym (none_at_b mlid goes.0.out) ∙ goes.0.group)

pub idle_towards_nobody : BitsTowardsNobodyAreIdle
idle_towards_nobody all =
    let one = all FIRST_MULTICAST_LID (port 0 3) refl in
    let next : port 1 3 ≡ one.next = same_Some (port 1 3) one.next one.cable in
    stuck FIRST_MULTICAST_LID one.way one.at one.port
    (subst (λ (p : PortRef). GoesByMasks fabric.nodes fabric.cables FIRST_MULTICAST_LID p one.way one.at) (sym next) one.goes) one.cabled.there
