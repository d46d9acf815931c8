-- The bits of a fabric that has the masks of a test, by the hops of the tree.
use Rattle.std.proofs.Common.{ℕ, ◌≡◌, ◌+◌, ◌-◌, ◌/◌, ◌%◌, ◌<◌, ◌≤◌, ◌==◌, ◌&&◌, ◌∙◌, ap, refl, sym, not, Bool, true, false, if◌then◌else◌, List, length, slice_get, Option, Some, None, option_map, arith}
use Rattle.std.specs.Int.{bit_at}
use Rattle.std.specs.List.{range_with_len}
use Rattle.std.specs.Option.{option_and_then, option_map_or}
use Rattle.std.proofs.lemmas.Bool.{and_from, and_parts, eq-eqb, eqb-true, false≢true, not-true, not_from_false}
use Rattle.std.proofs.lemmas.List.FromFn.{length-map-range_with_len}
use Rattle.std.proofs.lemmas.Option.{none-some, same_Some, slice_get-map, slice_get_within}
use Rattle.agent_rules.specs.declared.power_up.TheConstants.{MULTICAST_TABLE}
use Rattle.fabric_parts.specs.Cable.{port}
use Rattle.fabric_parts.specs.Lid.{is_multicast}
use Rattle.fabric_parts.specs.declared.cable.PortRef.{PortRef}
use Rattle.fabric_parts.specs.declared.lid.TheConstants.{FIRST_MULTICAST_LID}
use Rattle.smp_wire.specs.Groups.{is_in_masks_at, is_in_node_masks}
use Rattle.step_results.proofs.ListLemmas.{range_at}
use Rattle.smp_wire.specs.FabricState.{FabricState, is_switch}
use Rattle.smp_wire.specs.Good.{node_guid}
use Rattle.smp_wire.specs.declared.node.Node.{Node}
use Rattle.smp_wire.specs.declared.node.Node.TheVariants.{Switch, Adapter}
use Rattle.sweep.specs.Graph.{IsGraph}
use Rattle.sweep.specs.OfFabric.{Found, IsGraphOf, nodes_of, switch_of}
use Rattle.sweep.specs.declared.graph.GraphSwitch.{GraphSwitch}
use Rattle.sweep.proofs.FoundLemmas.{among_at, any_at, any_by, node_there}
use Rattle.switch_model.specs.Multicast.{is_in_masks, mask_of}
use Rattle.switch_model.specs.SwitchState.{SwitchState}
use Rattle.table_push.specs.Laws.{HasMasksOf}
use Rattle.table_push.specs.Masks.{is_hop, is_hop_to, is_in_mask, mask_of_position, mask_word, masks_of, tree_hop}
use Rattle.table_push.proofs.HomeLemmas.{own_switch}
use Rattle.table_push.proofs.MaskLemmas.{masks_are_read}
use Rattle.updn_routes.specs.Routes.{home_of}
use Rattle.updn_routes.specs.Subnet.{RoutesState, place_of}

-- ---- who gets it by a port
-- a LID that receives is reached by that port
pub record IsReached (routes : RoutesState) (receives : ℕ → ℕ → Bool) (place mlid number : ℕ) : Type 0 where
  pub lid : ℕ
  pub member : receives mlid lid ≡ true
  pub home : PortRef
  pub home_is : home_of routes.between.homes lid ≡ Some home
  pub some : (home.port == 0) ≡ false
  pub hop : tree_hop routes place home ≡ Some number

pub reached : (routes : RoutesState) (receives : ℕ → ℕ → Bool) (place mlid number : ℕ) → is_in_mask routes receives place mlid number ≡ true
    → IsReached routes receives place mlid number
unfolding is_in_mask
reached routes receives place mlid number is =
    let at = any_at (λ lid. receives mlid lid && is_hop_to routes place number lid) (range_with_len 1 (length routes.lids)) is in
    let parts = and_parts (receives mlid at.one) (is_hop_to routes place number at.one) at.passes in
    by at.one parts.0 (home_of routes.between.homes at.one) refl parts.1
  where
    by_hop : (lid : ℕ) → receives mlid lid ≡ true → (home : PortRef) → home_of routes.between.homes lid ≡ Some home → (home.port == 0) ≡ false
        → (o : Option ℕ) → tree_hop routes place home ≡ o → option_map_or (λ port. port == number) o false ≡ true
        → IsReached routes receives place mlid number
    by_hop lid member home at some None hop is = absurd (false≢true is)
    by_hop lid member home at some (Some out) hop is =
        record { lid = lid; member = member; home = home; home_is = at; some = some; hop = hop ∙ ap (λ (n : ℕ). Some n) (eqb-true out number is) }

    by : (lid : ℕ) → receives mlid lid ≡ true → (o : Option PortRef) → home_of routes.between.homes lid ≡ o
        → option_map_or (is_hop routes place number) o false ≡ true → IsReached routes receives place mlid number
    by lid member None at is = absurd (false≢true is)
    by lid member (Some home) at is =
        let parts = and_parts (not (home.port == 0)) _ is in
        by_hop lid member home at (not-true (home.port == 0) parts.0) (tree_hop routes place home) refl parts.1

pub in_mask : (routes : RoutesState) (receives : ℕ → ℕ → Bool) (place mlid number lid : ℕ) (home : PortRef) → 1 ≤ lid → lid ≤ length routes.lids
    → receives mlid lid ≡ true → home_of routes.between.homes lid ≡ Some home → (home.port == 0) ≡ false → tree_hop routes place home ≡ Some number
    → is_in_mask routes receives place mlid number ≡ true
unfolding is_in_mask
in_mask routes receives place mlid number lid home low high member at some hop =
    let within : lid - 1 < length routes.lids = omega (arith, low, high) in
    let one : 1 + (lid - 1) ≡ lid = omega (arith, low) in
    let passes : is_hop_to routes place number lid ≡ true =
    ap (λ (o : Option PortRef). option_map_or (is_hop routes place number) o false) at
    ∙ and_from (not (home.port == 0)) _ (not_from_false (home.port == 0) some)
    (ap (λ (o : Option ℕ). option_map_or (λ port. port == number) o false) hop ∙ eq-eqb number number refl) in
    any_by (λ lid. receives mlid lid && is_hop_to routes place number lid) (range_with_len 1 (length routes.lids)) (lid - 1) lid
    (range_at 1 (length routes.lids) (lid - 1) within ∙ ap (λ (n : ℕ). Some n) one) (and_from (receives mlid lid) _ member passes)

-- ---- what masks have bits of
pub record HasBits (mlid : ℕ) : Type 0 where
  pub multicast : is_multicast mlid ≡ true
  pub within : mlid < FIRST_MULTICAST_LID + MULTICAST_TABLE

has_bits : (routes : RoutesState) (receives : ℕ → ℕ → Bool) (place mlid number : ℕ) → is_in_masks (masks_of routes receives place) mlid number ≡ true → HasBits mlid
has_bits routes receives place mlid number is = by (slice_get (masks_of routes receives place) (number / 16)) refl is
  where
    by_place : (position : ℕ) (o : Option ℕ) → slice_get (mask_of_position routes receives place position) (mlid - FIRST_MULTICAST_LID) ≡ o
        → option_map_or (λ mask. bit_at mask (number % 16) == 1) o false ≡ true → is_multicast mlid ≡ true → HasBits mlid
    by_place position None at is multi = absurd (false≢true is)
    by_place position (Some mask) at is multi =
        let few = slice_get_within (mask_of_position routes receives place position) (mlid - FIRST_MULTICAST_LID) mask at in
        let count : length (mask_of_position routes receives place position) ≡ MULTICAST_TABLE =
        length-map-range_with_len (λ i. mask_word routes receives place position (FIRST_MULTICAST_LID + i)) 0 MULTICAST_TABLE in
        record { multicast = multi; within = omega (arith, few, count) }

    by_kind : (position : ℕ) (b : Bool) → is_multicast mlid ≡ b
        → option_map_or (λ mask. bit_at mask (number % 16) == 1) (if b then slice_get (mask_of_position routes receives place position) (mlid - FIRST_MULTICAST_LID) else None) false ≡ true
        → HasBits mlid
    by_kind position false multi is = absurd (false≢true is)
    by_kind position true multi is = by_place position (slice_get (mask_of_position routes receives place position) (mlid - FIRST_MULTICAST_LID)) refl is multi

    by_words : (position : ℕ) (words : List ℕ) → mask_of_position routes receives place position ≡ words
        → option_map_or (λ mask. bit_at mask (number % 16) == 1) (mask_of mlid words) false ≡ true → HasBits mlid
    by_words position words same is =
        by_kind position (is_multicast mlid) refl
        (ap (λ (all : List ℕ). option_map_or (λ mask. bit_at mask (number % 16) == 1) (mask_of mlid all) false) same ∙ is)

    by : (o : Option (List ℕ)) → slice_get (masks_of routes receives place) (number / 16) ≡ o
        → option_map_or (λ mask. bit_at mask (number % 16) == 1) (option_and_then (mask_of mlid) o) false ≡ true → HasBits mlid
    by None at is = absurd (false≢true is)
    by (Some words) at is = by_made (slice_get (range_with_len 0 3) (number / 16)) (sym (slice_get-map (mask_of_position routes receives place) (range_with_len 0 3) (number / 16)) ∙ at)
      where
        by_made : (o : Option ℕ) → option_map (mask_of_position routes receives place) o ≡ Some words → HasBits mlid
        by_made None made = absurd (none-some words made)
        by_made (Some position) made = by_words position words (same_Some (mask_of_position routes receives place position) words made) is

-- and masks have bits of 48 ports
bit_within : (routes : RoutesState) (receives : ℕ → ℕ → Bool) (place mlid number : ℕ) → is_in_masks (masks_of routes receives place) mlid number ≡ true
    → number < 48
bit_within routes receives place mlid number is = by (slice_get (masks_of routes receives place) (number / 16)) refl is
  where
    by : (o : Option (List ℕ)) → slice_get (masks_of routes receives place) (number / 16) ≡ o
        → option_map_or (λ mask. bit_at mask (number % 16) == 1) (option_and_then (mask_of mlid) o) false ≡ true → number < 48
    by None at is = absurd (false≢true is)
    by (Some words) at is =
        let few = slice_get_within (masks_of routes receives place) (number / 16) words at in
        let count : length (masks_of routes receives place) ≡ 3 = length-map-range_with_len (mask_of_position routes receives place) 0 3 in
        omega (arith, few, count)

module _ (routes : RoutesState) (fabric : FabricState) (graph : IsGraph routes.graph) (of : IsGraphOf routes.graph fabric) (receives : ℕ → ℕ → Bool) (has : HasMasksOf routes receives fabric) where
  -- ---- the MFT entries of a switch
  record Holds (place : ℕ) (found : Found) : Type 0 where
    held : SwitchState
    there : slice_get fabric.nodes found.node ≡ Some (Switch held)
    masks : held.masks ≡ masks_of routes receives place

  holds : (place : ℕ) (found : Found) → slice_get of.layout.found place ≡ Some found → Holds place found
  holds place found stands =
      by (slice_get fabric.nodes found.node) refl
      (sym (of.layout.all found.node) ∙ among_at (nodes_of of.layout.found) place found.node (node_there of.layout.found place found stands))
    where
      by : (o : Option Node) → slice_get fabric.nodes found.node ≡ o → option_map_or is_switch o false ≡ true → Holds place found
      by None there is = absurd (false≢true is)
      by (Some (Adapter ports)) there is = absurd (false≢true is)
      by (Some (Switch held)) there is =
          let one = switch_of fabric found in
          let at : slice_get routes.graph.switches place ≡ Some one =
          ap (λ (switches : List GraphSwitch). slice_get switches place) of.layout.switches ∙ slice_get-map (switch_of fabric) of.layout.found place
          ∙ ap (option_map (switch_of fabric)) stands in
          let guid : one.guid ≡ held.node_guid = ap (λ (o : Option Node). option_map_or node_guid o 0) there in
          record {
            held = held;
            there = there;
            masks = has found.node place held there (ap (place_of routes.graph.switches) (sym guid) ∙ own_switch routes.graph place one graph at);
          }

  bit_of : (place : ℕ) (found : Found) → slice_get of.layout.found place ≡ Some found → (mlid number : ℕ)
      → is_in_masks_at fabric.nodes mlid (port found.node number) ≡ is_in_masks (masks_of routes receives place) mlid number
  bit_of place found stands mlid number =
      let one = holds place found stands in
      ap (λ (o : Option Node). option_map_or (λ node. is_in_node_masks node mlid number) o false) one.there
      ∙ ap (λ (masks : List (List ℕ)). is_in_masks masks mlid number) one.masks

  -- a bit that is set leads to a LID that receives
  pub bit_reaches : (place : ℕ) (found : Found) → slice_get of.layout.found place ≡ Some found → (mlid number : ℕ)
      → is_in_masks_at fabric.nodes mlid (port found.node number) ≡ true → IsReached routes receives place mlid number
  bit_reaches place found stands mlid number is =
      let set = sym (bit_of place found stands mlid number) ∙ is in
      let bits = has_bits routes receives place mlid number set in
      reached routes receives place mlid number
      (sym (masks_are_read routes receives place mlid number bits.multicast bits.within (bit_within routes receives place mlid number set)) ∙ set)

  -- and it is of an MLID that tables have
  pub bits_at : (place : ℕ) (found : Found) → slice_get of.layout.found place ≡ Some found → (mlid number : ℕ)
      → is_in_masks_at fabric.nodes mlid (port found.node number) ≡ true → HasBits mlid
  bits_at place found stands mlid number is =
      has_bits routes receives place mlid number (sym (bit_of place found stands mlid number) ∙ is)

  -- and where a LID that receives is reached the bit is set
  pub bit_is_set : (place : ℕ) (found : Found) → slice_get of.layout.found place ≡ Some found → (mlid number : ℕ) → number ≤ 36 → HasBits mlid
      → is_in_mask routes receives place mlid number ≡ true → is_in_masks_at fabric.nodes mlid (port found.node number) ≡ true
  bit_is_set place found stands mlid number few bits is =
      bit_of place found stands mlid number
      ∙ masks_are_read routes receives place mlid number bits.multicast bits.within (omega (arith, few)) ∙ is
