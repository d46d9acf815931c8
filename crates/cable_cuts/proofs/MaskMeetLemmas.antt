-- By two layouts of one fabric, masks are the same.
use Rattle.std.proofs.Common.{ℕ, ◌-◌, ◌<◌, ◌≡◌, ◌==◌, ◌&&◌, ◌∙◌, not, ap, refl, sym, subst, Bool, true, false, if◌then◌else◌, List, length, map, slice_get, Option, Some, None, option_map}
use Rattle.std.specs.List.{list_any, range_with_len}
use Rattle.std.specs.Option.{option_map_or}
use Rattle.std.proofs.lemmas.Option.{slice_get-map}
use Rattle.fabric_parts.specs.declared.cable.PortRef.{PortRef}
use Rattle.lid_assign.specs.Lids.{AreLids, end_ports}
use Rattle.partition_file.specs.declared.heading.Heading.{Heading}
use Rattle.updn_routes.proofs.AlikeLemmas.{home_low}
use Rattle.updn_routes.proofs.OfFabricLemmas.{has_switch, meets, not_without, within_rows}
use Rattle.updn_routes.specs.Alike.{layout_of, placed_home}
use Rattle.smp_wire.specs.FabricState.{FabricState}
use Rattle.smp_wire.specs.Good.{IsGood}
use Rattle.subnet_model.specs.declared.subnet_port.SubnetPort.{SubnetPort}
use Rattle.table_push.specs.Masks.{is_hop, is_hop_to, is_in_mask}
use Rattle.updn_routes.specs.Routes.{home_of}
use Rattle.updn_routes.specs.Subnet.{RoutesState, homes_of, place_of as place_in}
use Rattle.cable_cuts.proofs.TreeHopLemmas.{alike, count, hop_same, lids, place}
use Rattle.subnet_fabric.specs.Planning.{ArePlannedOver}
use Rattle.cable_cuts.specs.Masks.{mask_by, receives_all}
use Rattle.sa_model.specs.Groups.{first_mlid}

module _ (fabric : FabricState) (good : IsGood fabric) (one other : RoutesState) (roots : List ℕ) (planned : ArePlannedOver fabric roots one)
    (planned_too : ArePlannedOver fabric roots other) where
  abbrev to : ℕ → ℕ
  to = place fabric good one other roots planned planned_too

  abbrev many : ℕ
  many = count fabric good one other roots planned planned_too

  home_moved : (lid : ℕ) → home_of other.between.homes lid ≡ option_map (placed_home to) (home_of one.between.homes lid)
  home_moved lid =
      ap (λ (homes : List PortRef). home_of homes lid)
      (planned_too.made.homes_are ∙ ap (homes_of other.graph) (lids fabric good one other roots planned planned_too)
      ∙ (alike fabric good one other roots planned planned_too).to_other.homes
      ∙ ap (map (placed_home to)) (sym planned.made.homes_are))
      ∙ by (lid == 0)
    where
      by : (b : Bool) → (if b then None else slice_get (map (placed_home to) one.between.homes) (lid - 1))
          ≡ option_map (placed_home to) (if b then None else slice_get one.between.homes (lid - 1))
      by true = refl
      by false = slice_get-map (placed_home to) one.between.homes (lid - 1)

  low_home : (lid : ℕ) (home : PortRef) → home_of one.between.homes lid ≡ Some home → home.node < many
  low_home lid home at =
      let both = alike fabric good one other roots planned planned_too in
      home_low (layout_of one.graph one.lids) (layout_of other.graph one.lids) both.place both.one_is both.to_other lid home
      (ap (λ (homes : List PortRef). home_of homes lid) (sym planned.made.homes_are) ∙ at)

  hop_to_same : (s number lid : ℕ) → s < many → is_hop_to other (to s) number lid ≡ is_hop_to one s number lid
  hop_to_same s number lid low =
      ap (λ (o : Option PortRef). option_map_or (is_hop other (to s) number) o false) (home_moved lid) ∙ by (home_of one.between.homes lid) refl
    where
      by : (o : Option PortRef) → home_of one.between.homes lid ≡ o
          → option_map_or (is_hop other (to s) number) (option_map (placed_home to) o) false ≡ option_map_or (is_hop one s number) o false
      by None at = refl
      by (Some home) at =
          ap (λ (hop : Option ℕ). not (home.port == 0) && option_map_or (λ port. port == number) hop false)
          (hop_same fabric good one other roots planned planned_too s home low (low_home lid home at))

  bit_same : (receives : ℕ → ℕ → Bool) (s mlid number : ℕ) → s < many
      → is_in_mask other receives (to s) mlid number ≡ is_in_mask one receives s mlid number
  unfolding is_in_mask
  bit_same receives s mlid number low =
      let same = lids fabric good one other roots planned planned_too in
      λ i. list_any (λ lid. receives mlid lid && hop_to_same s number lid low i) (range_with_len 1 (length (same i)))

  pub masks_meet : (ports : List SubnetPort) → mask_by ports other ≡ mask_by ports one
  masks_meet ports = λ i number heading guid port. each number heading guid port i
    where
      are_too : AreLids (end_ports other.graph) one.lids
      are_too = subst (AreLids (end_ports other.graph)) (lids fabric good one other roots planned planned_too) planned_too.assigned.lids

      each : (number : ℕ) (heading : Heading) (guid port : ℕ) → mask_by ports other number heading guid port ≡ mask_by ports one number heading guid port
      each number heading guid port = by (place_in one.graph.switches guid) refl (place_in other.graph.switches guid) refl
        where
          by : (o : Option ℕ) → place_in one.graph.switches guid ≡ o → (p : Option ℕ) → place_in other.graph.switches guid ≡ p
              → option_map_or (λ place. is_in_mask other (receives_all ports heading.base (first_mlid number)) place (first_mlid number) port) p false
              ≡ option_map_or (λ place. is_in_mask one (receives_all ports heading.base (first_mlid number)) place (first_mlid number) port) o false
          by None at None at_too = refl
          by (Some k) at None at_too =
              let has = has_switch fabric one.graph planned.laid.layout guid k at in
              absurd (not_without fabric other.graph planned_too.laid.layout guid has.node has.switch has.guid_is at_too)
          by None at (Some m) at_too =
              let has = has_switch fabric other.graph planned_too.laid.layout guid m at_too in
              absurd (not_without fabric one.graph planned.laid.layout guid has.node has.switch has.guid_is at)
          by (Some k) at (Some m) at_too =
              let has = has_switch fabric one.graph planned.laid.layout guid k at in
              ap (λ (place : ℕ). is_in_mask other (receives_all ports heading.base (first_mlid number)) place (first_mlid number) port)
              (meets fabric one.graph other.graph one.lids guid k m good planned.laid.layout planned_too.laid.layout planned.assigned.lids are_too at at_too)
              ∙ bit_same (receives_all ports heading.base (first_mlid number)) k (first_mlid number) port
              (within_rows fabric one.graph planned.laid.layout k has.node has.there)
