-- Two routes over one fabric push the same.
use Rattle.std.proofs.Common.{ℕ, zero, suc, inl, inr, ◌≡◌, ◌⊎◌, ◌-◌, ◌<◌, ◌==◌, ◌∙◌, ap, refl, sym, subst, unwrap_or, Bool, true, false, if◌then◌else◌, List, [], ◌∷◌, get_or, length, map, slice_get, Option, Some, None, option_map, arith}
use Rattle.std.specs.List.{list_any}
use Rattle.std.specs.Option.{option_and_then, option_map_or}
use Rattle.std.proofs.lemmas.Option.{none-some, same_Some}
use Rattle.fabric_parts.specs.declared.cable.PortRef.{PortRef}
use Rattle.lid_assign.specs.Lids.{AreLids, end_ports, lid_in}
use Rattle.updn_routes.specs.Alike.{layout_of}
use Rattle.updn_routes.specs.NextHops.{AreChosenFrom, hop_by}
use Rattle.updn_routes.proofs.ChoiceLemmas.{next_hops_are_the_fabrics}
use Rattle.updn_routes.proofs.OfFabricLemmas.{has_switch, meets, not_without, within_rows}
use Rattle.smp_wire.specs.FabricState.{FabricState}
use Rattle.smp_wire.specs.Good.{IsGood}
use Rattle.step_results.proofs.ListLemmas.{any_map}
use Rattle.sweep.specs.Graph.{GraphState}
use Rattle.sweep.specs.declared.graph.GraphLink.{GraphLink}
use Rattle.sweep.specs.declared.graph.GraphPort.{GraphPort}
use Rattle.switch_model.specs.SwitchState.{SwitchState}
use Rattle.table_push.specs.Keys.{adapter_keys, attached_at, key_table, keys_of, keys_wanted, port_of, switch_keys}
use Rattle.table_push.specs.Linear.{linear_table}
use Rattle.table_push.specs.Masks.{masks_of}
use Rattle.table_push.specs.Nodes.{with_infos, with_keys, with_switches}
use Rattle.table_push.specs.Ports.{adapter_change, change_wanted, changed, has_link, set_top, stays, switch_change}
use Rattle.table_push.specs.declared.ports.PortChange.{PortChange}
use Rattle.table_push.proofs.ForgetLemmas.{same_table}
use Rattle.updn_routes.specs.Cabling.{links_of}
use Rattle.updn_routes.specs.Places.{placed_link}
use Rattle.updn_routes.specs.Routes.{next_hop}
use Rattle.updn_routes.specs.Subnet.{RoutesState, link_of, place_of, row_of, rows_of}
use Rattle.updn_routes.specs.declared.link.Link.{Link}
use Rattle.table_push.specs.OrderLaws.{AreRoutesIn, MasksAreTheFabrics, PushesAreTheFabrics}
use Rattle.table_push.proofs.HopOrderLemmas.{alike, both_stand, lids_too, place, same_masks}
use Rattle.table_push.proofs.PortOrderLemmas.{attached_guid, guid_from, guid_in, same_guid_of}

-- ---- links by their ports
by_row : (rows : List (List GraphLink)) (place number : ℕ)
    → list_any (λ (link : GraphLink). link.port == number) (get_or rows place [])
    ≡ list_any (λ (link : Link). link.port == number) (links_of (map row_of rows) place)
by_row [] zero number = refl
by_row [] (suc place) number = refl
by_row (row ∷ rows) zero number = sym (any_map (λ (link : Link). link.port == number) link_of row)
by_row (row ∷ rows) (suc place) number = by_row rows place number

-- ---- what is wanted of a port, by the GUIDs of the ports of channel adapters
abbrev switch_change_by : List ℕ → (guid number : ℕ) → Option ℕ → Bool → PortChange
switch_change_by lids guid number attached linked =
    if number == 0 then record stays { lid = lid_in lids guid }
    else option_map_or (λ (hung : ℕ). record stays { enforcement = Some true; active = true }) attached
    (if linked then record stays { enforcement = Some false; active = true } else stays)

abbrev adapter_change_by : List ℕ → Option ℕ → PortChange
adapter_change_by lids own = option_map_or (λ (guid : ℕ). record stays { lid = lid_in lids guid; active = true }) own stays

abbrev keys_by_guid : List ℕ → List (List ℕ) → ℕ → Option (List ℕ)
keys_by_guid lids keys guid = option_and_then (λ lid. slice_get keys (lid - 1)) (lid_in lids guid)

abbrev switch_keys_by : List ℕ → List (List ℕ) → (guid number : ℕ) → Option ℕ → Option (List ℕ)
switch_keys_by lids keys guid number attached =
    if number == 0 then option_map (key_table false) (keys_by_guid lids keys guid)
    else option_and_then (λ hung. option_map (key_table true) (keys_by_guid lids keys hung)) attached

abbrev adapter_keys_by : List ℕ → List (List ℕ) → Option ℕ → Option (List ℕ)
adapter_keys_by lids keys own = option_and_then (λ guid. option_map (key_table false) (keys_by_guid lids keys guid)) own

module _ (routes : RoutesState) (keys : List (List ℕ)) (guid number : ℕ) where
  switch_change_is : (place : ℕ) → switch_change routes guid place number
      ≡ switch_change_by routes.lids guid number (guid_in (attached_at routes.graph.ports place number)) (has_link routes.graph place number)
  switch_change_is place = by (attached_at routes.graph.ports place number)
    where
      by : (o : Option GraphPort)
          → (if number == 0 then record stays { lid = lid_in routes.lids guid }
          else option_map_or (λ (one : GraphPort). record stays { enforcement = Some true; active = true }) o
          (if has_link routes.graph place number then record stays { enforcement = Some false; active = true } else stays))
          ≡ switch_change_by routes.lids guid number (guid_in o) (has_link routes.graph place number)
      by None = refl
      by (Some one) = refl

  adapter_change_is : adapter_change routes guid number ≡ adapter_change_by routes.lids (guid_in (port_of routes.graph.ports guid number))
  adapter_change_is = by (port_of routes.graph.ports guid number)
    where
      by : (o : Option GraphPort) → option_map_or (λ (one : GraphPort). record stays { lid = lid_in routes.lids one.port_guid; active = true }) o stays
          ≡ adapter_change_by routes.lids (guid_in o)
      by None = refl
      by (Some one) = refl

  switch_keys_is : (place : ℕ) → switch_keys routes keys guid place number
      ≡ switch_keys_by routes.lids keys guid number (guid_in (attached_at routes.graph.ports place number))
  switch_keys_is place = by (attached_at routes.graph.ports place number)
    where
      by : (o : Option GraphPort)
          → (if number == 0 then option_map (key_table false) (keys_of routes keys guid)
          else option_and_then (λ (one : GraphPort). option_map (key_table true) (keys_of routes keys one.port_guid)) o)
          ≡ switch_keys_by routes.lids keys guid number (guid_in o)
      by None = refl
      by (Some one) = refl

  adapter_keys_is : adapter_keys routes keys guid number ≡ adapter_keys_by routes.lids keys (guid_in (port_of routes.graph.ports guid number))
  adapter_keys_is = by (port_of routes.graph.ports guid number)
    where
      by : (o : Option GraphPort) → option_and_then (λ (one : GraphPort). option_map (key_table false) (keys_of routes keys one.port_guid)) o
          ≡ adapter_keys_by routes.lids keys (guid_in o)
      by None = refl
      by (Some one) = refl

module _ (fabric : FabricState) (roots : List ℕ) (one other : RoutesState) (good : IsGood fabric) (are : AreRoutesIn fabric roots one)
    (too : AreRoutesIn fabric roots other) (lids : other.lids ≡ one.lids) where
  abbrev moved : ℕ → ℕ
  moved = place fabric roots one other good are too lids

  -- ---- where a switch stands in both graphs, or in none
  abbrev StandsIn : Option ℕ → Option ℕ → Type 0
  StandsIn mine theirs =
      ((mine ≡ None) × (theirs ≡ None)) ⊎ ((k : ℕ) × (mine ≡ Some k) × (theirs ≡ Some (moved k)) × (k < length (rows_of one.graph)))

  stand : (guid : ℕ) → StandsIn (place_of one.graph.switches guid) (place_of other.graph.switches guid)
  stand guid = by (place_of one.graph.switches guid) refl (place_of other.graph.switches guid) refl
    where
      by : (o : Option ℕ) → place_of one.graph.switches guid ≡ o → (p : Option ℕ) → place_of other.graph.switches guid ≡ p → StandsIn o p
      by None at None at_too = inl (refl, refl)
      by (Some k) at None at_too =
          let has = has_switch fabric one.graph are.graph.layout guid k at in
          absurd (not_without fabric other.graph too.graph.layout guid has.node has.switch has.guid_is at_too)
      by None at (Some m) at_too =
          let has = has_switch fabric other.graph too.graph.layout guid m at_too in
          absurd (not_without fabric one.graph are.graph.layout guid has.node has.switch has.guid_is at)
      by (Some k) at (Some m) at_too =
          let has = has_switch fabric one.graph are.graph.layout guid k at in
          let meet = meets fabric one.graph other.graph one.lids guid k m good are.graph.layout too.graph.layout are.home.of.lids_are
          (lids_too fabric roots one other good are too lids) at at_too in
          inr (k, refl, ap (λ (n : ℕ). Some n) meet, within_rows fabric one.graph are.graph.layout k has.node has.there)

  -- ---- what is at a port of a switch
  same_attached : (k number : ℕ) → k < length (rows_of one.graph)
      → guid_in (attached_at other.graph.ports (moved k) number) ≡ guid_in (attached_at one.graph.ports k number)
  same_attached k number low =
      let both = both_stand fabric roots one other good are too lids k low in
      attached_guid fabric other.graph good too.home.graph too.graph (moved k) number both.other_found both.stands_too
      ∙ ap (λ (node : ℕ). guid_from fabric node number) both.node
      ∙ sym (attached_guid fabric one.graph good are.home.graph are.graph k number both.found both.stands)

  same_link : (k number : ℕ) → k < length (rows_of one.graph) → has_link other.graph (moved k) number ≡ has_link one.graph k number
  same_link k number low =
      by_row other.graph.rows (moved k) number
      ∙ ap (list_any (λ (link : Link). link.port == number)) ((alike fabric roots one other good are too lids).to_other.links k low)
      ∙ any_map (λ (link : Link). link.port == number) (placed_link moved) (links_of (rows_of one.graph) k)
      ∙ sym (by_row one.graph.rows k number)

  same_own : (guid number : ℕ) → guid_in (port_of other.graph.ports guid number) ≡ guid_in (port_of one.graph.ports guid number)
  same_own guid number = same_guid_of fabric one.graph other.graph good are.home.graph too.home.graph are.graph too.graph guid number

  -- ---- what is pushed
  same_change : (guid number : ℕ) → change_wanted other guid number ≡ change_wanted one guid number
  unfolding change_wanted
  same_change guid number = elim (stand guid) [
    | inl none ↦ rw (none.0, none.1) (adapter_change_is other [] guid number
        ∙ (λ i. adapter_change_by (lids i) (same_own guid number i)) ∙ sym (adapter_change_is one [] guid number))
    | inr at ↦ rw (at.1, at.2) (switch_change_is other [] guid number (moved at.0)
        ∙ (λ i. switch_change_by (lids i) guid number (same_attached at.0 number at.3 i) (same_link at.0 number at.3 i))
        ∙ sym (switch_change_is one [] guid number at.0))
  ]

  same_keys : (keys : List (List ℕ)) (guid number : ℕ) → keys_wanted other keys guid number ≡ keys_wanted one keys guid number
  unfolding keys_wanted
  same_keys keys guid number = elim (stand guid) [
    | inl none ↦ rw (none.0, none.1) (adapter_keys_is other keys guid number
        ∙ (λ i. adapter_keys_by (lids i) keys (same_own guid number i)) ∙ sym (adapter_keys_is one keys guid number))
    | inr at ↦ rw (at.1, at.2) (switch_keys_is other keys guid number (moved at.0)
        ∙ (λ i. switch_keys_by (lids i) keys guid number (same_attached at.0 number at.3 i)) ∙ sym (switch_keys_is one keys guid number at.0))
  ]

  chosen : (routes : RoutesState) → AreRoutesIn fabric roots routes → AreChosenFrom roots routes
  chosen routes are = record { of = are.home.of; ranks = are.made.ranks_are; chosen = are.home.chosen }

  same_hop_by : other.between.rule ≡ one.between.rule → (guid lid : ℕ) → hop_by other guid lid ≡ hop_by one guid lid
  same_hop_by ruled guid lid =
      next_hops_are_the_fabrics fabric one other roots guid lid good are.graph.layout too.graph.layout (chosen one are) (chosen other too) lids ruled

  same_linear : other.between.rule ≡ one.between.rule → (guid : ℕ) (held : List ℕ)
      → option_map_or (linear_table other) (place_of other.graph.switches guid) held ≡ option_map_or (linear_table one) (place_of one.graph.switches guid) held
  same_linear ruled guid held = elim (stand guid) [
    | inl none ↦ rw (none.0, none.1) refl
    | inr at ↦ ap (λ (o : Option ℕ). option_map_or (linear_table other) o held) at.2 ∙ at_both at.0 at.1 at.2
        ∙ sym (ap (λ (o : Option ℕ). option_map_or (linear_table one) o held) at.1)
  ]
    where
      at_both : (k : ℕ) → place_of one.graph.switches guid ≡ Some k → place_of other.graph.switches guid ≡ Some (moved k)
          → linear_table other (moved k) ≡ linear_table one k
      at_both k mine theirs =
          same_table one other k (moved k)
          (λ lid. sym (ap (option_and_then (λ place. next_hop other.between place lid)) theirs) ∙ same_hop_by ruled guid lid
          ∙ ap (option_and_then (λ place. next_hop one.between place lid)) mine)

  same_multicast : (receives : ℕ → ℕ → Bool) (guid : ℕ) (held : List (List ℕ))
      → option_map_or (masks_of other receives) (place_of other.graph.switches guid) held
      ≡ option_map_or (masks_of one receives) (place_of one.graph.switches guid) held
  same_multicast receives guid held = elim (stand guid) [
    | inl none ↦ rw (none.0, none.1) refl
    | inr at ↦ ap (λ (o : Option ℕ). option_map_or (masks_of other receives) o held) at.2
        ∙ same_masks fabric roots one other good are too lids receives at.0 at.3
        ∙ sym (ap (λ (o : Option ℕ). option_map_or (masks_of one receives) o held) at.1)
  ]

pub pushes_are_the_fabrics : PushesAreTheFabrics
pushes_are_the_fabrics fabric roots one other keys to good are too lids ruled =
    λ i. with_switches (λ guid held. record held { linear = same_linear fabric roots one other good are too lids ruled guid held.linear i })
    (with_keys (λ guid number held. unwrap_or (same_keys fabric roots one other good are too lids keys guid number i) held)
    (with_switches (λ guid. set_top (length (lids i)))
    (with_infos (λ guid number. changed (same_change fabric roots one other good are too lids guid number i)) to)))

pub masks_are_the_fabrics : MasksAreTheFabrics
masks_are_the_fabrics fabric roots one other receives to good are too lids =
    λ i. with_switches (λ guid held. record held { masks = same_multicast fabric roots one other good are too lids receives guid held.masks i }) to
