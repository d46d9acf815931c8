-- PortInfo of ports that a path leads to.
use Rattle.std.proofs.Common.{ℕ, ◌≡◌, ◌+◌, ◌-◌, ◌^◌, ◌<◌, ◌≤◌, ◌==◌, ◌&&◌, ◌∙◌, ap, refl, sym, subst, Bool, true, false, List, length, map, get_or, nat_lt, slice_get, slice_set, Option, Some, None, Ok, option_map, arith}
use Rattle.std.specs.List.{list_all, range_with_len}
use Rattle.std.specs.Option.{option_and_then, option_map_or}
use Rattle.std.proofs.lemmas.Bool.{and_parts, ne_eqb}
use Rattle.std.proofs.lemmas.List.FromFn.{get_or-range_with_len}
use Rattle.std.proofs.lemmas.Option.{get_or_from_slice_get, slice_get-map, slice_get_within}
use Rattle.std.proofs.lemmas.Slice.Eq.{bytes_eq-Decides}
use Rattle.agent_rules.specs.Agent.{shown_at}
use Rattle.agent_rules.specs.Good.{IsGoodInfo}
use Rattle.agent_rules.specs.PortSetting.{port_info_after, port_setting}
use Rattle.attr_tables.specs.PortInfo.{port_info_bytes}
use Rattle.attr_tables.specs.declared.port_info.PortInfo.{PortInfo}
use Rattle.attr_tables.specs.declared.smp_attribute.SmpAttribute.TheVariants.{PortInfo as PortInfoAsked}
use Rattle.fabric_parts.specs.declared.cable.PortRef.{PortRef}
use Rattle.port_model.specs.AdapterState.{AdapterState}
use Rattle.port_model.specs.Agent.{get as adapter_gives, set as adapter_set}
use Rattle.port_model.specs.Good.{IsGoodPort as IsGoodAdapterPort}
use Rattle.step_results.proofs.ListLemmas.{all_have, all_there}
use Rattle.smp_wire.specs.FabricState.{FabricState, is_switch, is_switch_at, port_count}
use Rattle.smp_wire.specs.Get.{gives_along, node_gives}
use Rattle.smp_wire.specs.Good.{IsGood, has_a_right_count, info_at, is_in_order, is_of, node_guid, port_info_at}
use Rattle.smp_wire.specs.Set.{node_takes, takes_along}
use Rattle.smp_wire.specs.Shape.{IsSameShape}
use Rattle.smp_wire.specs.Walk.{end_of}
use Rattle.smp_wire.specs.declared.node.Node.{Node}
use Rattle.smp_wire.specs.declared.node.Node.TheVariants.{Switch, Adapter}
use Rattle.smp_wire.proofs.ArrivalLemmas.{port_small}
use Rattle.step_results.proofs.ElementLemmas.{get_written}
use Rattle.switch_model.specs.Agent.{get as switch_gives, set as switch_set}
use Rattle.switch_model.specs.Good.{IsGoodPort as IsGoodSwitchPort}
use Rattle.switch_model.specs.SwitchState.{SwitchState}
use Rattle.switch_model.specs.declared.switch_port.SwitchPort.{SwitchPort}
use Rattle.fabric_parts.specs.Cable.{port}
use Rattle.sweep.specs.OfFabric.{guid_at}
use Rattle.sweep.proofs.EndLemmas.{end_port}
use Rattle.table_push.specs.Nodes.{infos_by, on_port, with_infos}
use Rattle.table_push.specs.Pushes.{IsAskedFor, LeadsToPort}
use Rattle.table_push.proofs.LeadLemmas.{ends_on}
use Rattle.table_push.proofs.NodeLemmas.{one_changes}
use Rattle.table_push.proofs.PartLemmas.{adapter_part_at, info_part, other_node, part_after, switch_part_at}
use Rattle.table_push.proofs.PortLemmas.{count_is, element, good_ports}

-- ---- one Set, at either kind of node
-- what a Set makes of PortInfo, and what a Get then reports; it reports the port by which it came in
pub record InfoSet (guid number asked in_port : ℕ) (on : Bool) (node : Node) (info : PortInfo) : Type 0 where
  pub takes : (change : PortInfo → PortInfo) (bytes : List ℕ) → port_info_after on info (port_setting bytes) ≡ Ok (change info)
      → node_takes node in_port PortInfoAsked asked bytes ≡ Some (Ok (infos_by (on_port guid number change) node))
  pub given : node_gives node in_port PortInfoAsked asked ≡ Some (Ok (port_info_bytes (shown_at in_port info)))
  pub gives : (change : PortInfo → PortInfo)
      → node_gives (infos_by (on_port guid number change) node) in_port PortInfoAsked asked ≡ Some (Ok (port_info_bytes (shown_at in_port (change info))))
  -- two changes that make the same of that PortInfo are the same there
  pub alike : (one other : PortInfo → PortInfo) → one info ≡ other info
      → infos_by (on_port guid number one) node ≡ infos_by (on_port guid number other) node

switch_takes_info : (held : SwitchState) (port : SwitchPort) (in_port number : ℕ) (bytes : List ℕ) (next : PortInfo)
    → slice_get held.ports number ≡ Some port → port_info_after (nat_lt 0 number) port.info (port_setting bytes) ≡ Ok next
    → node_takes (Switch held) in_port PortInfoAsked number bytes
    ≡ Some (Ok (Switch (record held { ports = slice_set held.ports number (record port { info = next }) })))
unfolding switch_set
switch_takes_info held port in_port number bytes next there set = rw (there, set) refl

switch_gives_info : (held : SwitchState) (port : SwitchPort) (in_port number : ℕ) → slice_get held.ports number ≡ Some port
    → node_gives (Switch held) in_port PortInfoAsked number ≡ Some (Ok (port_info_bytes (shown_at in_port port.info)))
unfolding switch_gives
switch_gives_info held port in_port number there = rw there refl

switch_sets : (held : SwitchState) (port : SwitchPort) (guid in_port number : ℕ) → held.node_guid ≡ guid → slice_get held.ports number ≡ Some port
    → InfoSet guid number number in_port (nat_lt 0 number) (Switch held) port.info
switch_sets held port guid in_port number is there = record {
  takes = λ change bytes set.
      switch_takes_info held port in_port number bytes (change port.info) there set
      ∙ ap (λ (next : Node). Some (Ok next)) (sym (switch_part_at info_part change guid number held port is there));
  given = switch_gives_info held port in_port number there;
  gives = λ change.
      ap (λ (next : Node). node_gives next in_port PortInfoAsked number) (switch_part_at info_part change guid number held port is there)
      ∙ switch_gives_info (record held { ports = slice_set held.ports number (record port { info = change port.info }) }) (record port { info = change port.info })
      in_port number (get_written held.ports number (record port { info = change port.info }) port there);
  alike = λ one other same.
      switch_part_at info_part one guid number held port is there
      ∙ ap (λ (info : PortInfo). Switch (record held { ports = slice_set held.ports number (record port { info = info }) })) same
      ∙ sym (switch_part_at info_part other guid number held port is there);
}

adapter_takes_info : (ports : List AdapterState) (port : AdapterState) (number : ℕ) (bytes : List ℕ) (next : PortInfo) → (number == 0) ≡ false
    → slice_get ports (number - 1) ≡ Some port → port_info_after false port.info (port_setting bytes) ≡ Ok next
    → node_takes (Adapter ports) number PortInfoAsked 0 bytes ≡ Some (Ok (Adapter (slice_set ports (number - 1) (record port { info = next }))))
unfolding adapter_set
adapter_takes_info ports port number bytes next some there set = rw (some, there, set) refl

adapter_gives_info : (ports : List AdapterState) (port : AdapterState) (number : ℕ) → (number == 0) ≡ false → port.number ≡ number
    → slice_get ports (number - 1) ≡ Some port
    → node_gives (Adapter ports) number PortInfoAsked 0 ≡ Some (Ok (port_info_bytes (shown_at number port.info)))
unfolding adapter_gives
adapter_gives_info ports port number some own there = rw (some, there, own) refl

adapter_sets : (ports : List AdapterState) (port : AdapterState) (guid number : ℕ) → node_guid (Adapter ports) ≡ guid → 1 ≤ number
    → port.number ≡ number → slice_get ports (number - 1) ≡ Some port → InfoSet guid number 0 number false (Adapter ports) port.info
adapter_sets ports port guid number is some own there =
    let counted : 1 + (number - 1) ≡ number = omega (arith, some) in
    let first : (number == 0) ≡ false = ne_eqb number 0 (λ none. omega (arith, none, some)) in
    let at : (change : PortInfo → PortInfo) → infos_by (on_port guid number change) (Adapter ports) ≡ Adapter (slice_set ports (number - 1) (record port { info = change port.info })) =
    λ change. subst (λ (n : ℕ). infos_by (on_port guid n change) (Adapter ports) ≡ Adapter (slice_set ports (number - 1) (record port { info = change port.info })))
    counted (adapter_part_at info_part change guid (number - 1) ports port is there) in
    record {
      takes = λ change bytes set.
          adapter_takes_info ports port number bytes (change port.info) first there set ∙ ap (λ (next : Node). Some (Ok next)) (sym (at change));
      given = adapter_gives_info ports port number first own there;
      gives = λ change.
          ap (λ (next : Node). node_gives next number PortInfoAsked 0) (at change)
          ∙ adapter_gives_info (slice_set ports (number - 1) (record port { info = change port.info })) (record port { info = change port.info })
          number first own (get_written ports (number - 1) (record port { info = change port.info }) port there);
      alike = λ one other same.
          at one ∙ ap (λ (info : PortInfo). Adapter (slice_set ports (number - 1) (record port { info = info }))) same ∙ sym (at other);
    }

-- ---- the port there
pub record InfoThere (fabric : FabricState) (path : List ℕ) (asked guid number : ℕ) (at : PortRef) : Type 0 where
  pub node : Node
  pub info : PortInfo
  -- it can enforce partitions
  pub on : Bool
  pub ends : end_of fabric path ≡ Some at
  pub there : slice_get fabric.nodes at.node ≡ Some node
  pub guid_is : node_guid node ≡ guid
  pub held : info_at fabric (port at.node number) ≡ Some info
  pub good : IsGoodInfo info
  pub small : at.port < 2 ^ 8
  pub on_is : (is_switch_at fabric.nodes at.node && nat_lt 0 number) ≡ on
  pub sets : InfoSet guid number asked at.port on node info

at_switch : (fabric : FabricState) (path : List ℕ) (asked guid number : ℕ) (at : PortRef) (held : SwitchState) → IsGood fabric → end_of fabric path ≡ Some at
    → slice_get fabric.nodes at.node ≡ Some (Switch held) → held.node_guid ≡ guid → asked ≡ number → number ≤ port_count (Switch held)
    → InfoThere fabric path asked guid number at
at_switch fabric path asked guid number at held good ends there is own within =
    let right = all_there has_a_right_count fabric.nodes at.node (Switch held) good.counts there in
    let some = count_is (Switch held) 0 right in
    let one = element held.ports number (omega (arith, within, some)) in
    let is_good = good_ports fabric at.node (Switch held) good there in
    record {
      node = Switch held;
      info = one.0.info;
      on = nat_lt 0 number;
      ends = ends;
      there = there;
      guid_is = is;
      held = rw (there, one.1) refl;
      good = (all_have IsGoodSwitchPort held.ports number one.0 is_good.ports one.1).info;
      small = port_small fabric.nodes at good.counts (end_port fabric path at good ends);
      on_is = rw there refl;
      sets = subst (λ (n : ℕ). InfoSet guid number n at.port (nat_lt 0 number) (Switch held) one.0.info) (sym own) (switch_sets held one.0 guid at.port number is one.1);
    }

-- ports of an adapter stand in order of their numbers
own_number : (ports : List AdapterState) (k : ℕ) (one : AdapterState) → is_in_order (Adapter ports) ≡ true → slice_get ports k ≡ Some one → one.number ≡ 1 + k
own_number ports k one order there =
    let numbers = map (λ (other : AdapterState). other.number) ports in
    let parts = and_parts (list_all (is_of (node_guid (Adapter ports)) (length ports)) ports) _ order in
    let same = (bytes_eq-Decides numbers (range_with_len 1 (length ports))).0 parts.1 in
    let got : slice_get numbers k ≡ Some one.number =
    slice_get-map (λ (other : AdapterState). other.number) ports k ∙ ap (option_map (λ (other : AdapterState). other.number)) there in
    sym (get_or_from_slice_get numbers k one.number 0 got) ∙ ap (λ (xs : List ℕ). get_or xs k 0) same
    ∙ get_or-range_with_len 1 (length ports) k 0 (slice_get_within ports k one there)

at_adapter : (fabric : FabricState) (path : List ℕ) (asked guid number : ℕ) (at : PortRef) (ports : List AdapterState) → IsGood fabric → end_of fabric path ≡ Some at
    → slice_get fabric.nodes at.node ≡ Some (Adapter ports) → node_guid (Adapter ports) ≡ guid → asked ≡ 0 → at.port ≡ number → 1 ≤ number
    → number ≤ length ports → InfoThere fabric path asked guid number at
at_adapter fabric path asked guid number at ports good ends there is none own some within =
    let one = element ports (number - 1) (omega (arith, within, some)) in
    let is_good = good_ports fabric at.node (Adapter ports) good there in
    let first : (number == 0) ≡ false = ne_eqb number 0 (λ zero. omega (arith, zero, some)) in
    let counted : 1 + (number - 1) ≡ number = omega (arith, some) in
    let numbers : one.0.number ≡ number =
    own_number ports (number - 1) one.0 (all_there is_in_order fabric.nodes at.node (Adapter ports) good.order there) one.1 ∙ counted in
    record {
      node = Adapter ports;
      info = one.0.info;
      on = false;
      ends = ends;
      there = there;
      guid_is = is;
      held = rw (there, first, one.1) refl;
      good = (all_have IsGoodAdapterPort ports (number - 1) one.0 is_good one.1).info;
      small = port_small fabric.nodes at good.counts (end_port fabric path at good ends);
      on_is = rw there refl;
      sets = subst (λ (n : ℕ). InfoSet guid number n at.port false (Adapter ports) one.0.info) (sym none)
          (subst (λ (n : ℕ). InfoSet guid number 0 n false (Adapter ports) one.0.info) (sym own) (adapter_sets ports one.0 guid number is some numbers one.1));
    }

pub info_there : (fabric : FabricState) (path : List ℕ) (asked guid number : ℕ) → IsGood fabric → (leads : LeadsToPort fabric path asked guid number)
    → InfoThere fabric path asked guid number leads.at
info_there fabric path asked guid number good leads = by (slice_get fabric.nodes leads.at.node) refl
  where
    asked_for : (found : Option Node) → slice_get fabric.nodes leads.at.node ≡ found
        → IsAskedFor (option_map_or is_switch found false) (option_map_or port_count found 0) leads.at.port asked number
    asked_for found is =
        subst (λ (o : Option Node). IsAskedFor (option_map_or is_switch o false) (option_map_or port_count o 0) leads.at.port asked number) is leads.there

    by : (found : Option Node) → slice_get fabric.nodes leads.at.node ≡ found → InfoThere fabric path asked guid number leads.at
    by None is = let for = asked_for None is in absurd (omega (arith, for.2, for.3))
    by (Some (Switch held)) is =
        let for = asked_for (Some (Switch held)) is in
        at_switch fabric path asked guid number leads.at held good leads.ends is
        (ap (λ (o : Option Node). option_map_or node_guid o 0) (sym is) ∙ leads.guid_is) for.0 for.1
    by (Some (Adapter ports)) is =
        let for = asked_for (Some (Adapter ports)) is in
        at_adapter fabric path asked guid number leads.at ports good leads.ends is
        (ap (λ (o : Option Node). option_map_or node_guid o 0) (sym is) ∙ leads.guid_is) for.0 for.1 for.2 for.3

-- ---- the fabric
module _ (fabric : FabricState) (path : List ℕ) (asked guid number : ℕ) (at : PortRef) (good : IsGood fabric)
    (here : InfoThere fabric path asked guid number at) where
  set_there : (change : PortInfo → PortInfo) → with_infos (on_port guid number change) fabric
      ≡ record fabric { nodes = slice_set fabric.nodes at.node (infos_by (on_port guid number change) here.node) }
  set_there change =
      ap (λ (nodes : List Node). record fabric { nodes = nodes })
      (one_changes (infos_by (on_port guid number change)) guid (other_node info_part change guid number) fabric.nodes at.node here.node good.node_guids.own here.there here.guid_is)

  takes_there : (next : Node) (bytes : List ℕ) → node_takes here.node at.port PortInfoAsked asked bytes ≡ Some (Ok next)
      → takes_along fabric path PortInfoAsked asked bytes ≡ Some (Ok (record fabric { nodes = slice_set fabric.nodes at.node next }))
  takes_there next bytes takes = rw (here.ends, here.there, takes) refl

  pub info_takes : (change : PortInfo → PortInfo) (bytes : List ℕ) → port_info_after here.on here.info (port_setting bytes) ≡ Ok (change here.info)
      → takes_along fabric path PortInfoAsked asked bytes ≡ Some (Ok (with_infos (on_port guid number change) fabric))
  info_takes change bytes set =
      takes_there (infos_by (on_port guid number change) here.node) bytes (here.sets.takes change bytes set)
      ∙ ap (λ (next : FabricState). Some (Ok next)) (sym (set_there change))

  pub info_given : gives_along fabric path PortInfoAsked asked ≡ Some (Ok (port_info_bytes (shown_at at.port here.info)))
  info_given = rw (here.ends, here.there, here.sets.given) refl

  pub info_gives : (change : PortInfo → PortInfo) → IsSameShape fabric (with_infos (on_port guid number change) fabric)
      → gives_along (with_infos (on_port guid number change) fabric) path PortInfoAsked asked ≡ Some (Ok (port_info_bytes (shown_at at.port (change here.info))))
  info_gives change same =
      let next = with_infos (on_port guid number change) fabric in
      let there : slice_get next.nodes at.node ≡ Some (infos_by (on_port guid number change) here.node) =
      ap (λ (one : FabricState). slice_get one.nodes at.node) (set_there change)
      ∙ get_written fabric.nodes at.node (infos_by (on_port guid number change) here.node) here.node here.there in
      gives_then next (ends_on fabric next path at same here.ends) there (here.sets.gives change)
    where
      gives_then : (next : FabricState) → end_of next path ≡ Some at
          → slice_get next.nodes at.node ≡ Some (infos_by (on_port guid number change) here.node)
          → node_gives (infos_by (on_port guid number change) here.node) at.port PortInfoAsked asked ≡ Some (Ok (port_info_bytes (shown_at at.port (change here.info))))
          → gives_along next path PortInfoAsked asked ≡ Some (Ok (port_info_bytes (shown_at at.port (change here.info))))
      gives_then next ends there gives = rw (ends, there, gives) refl

  pub info_alike : (one other : PortInfo → PortInfo) → one here.info ≡ other here.info
      → with_infos (on_port guid number one) fabric ≡ with_infos (on_port guid number other) fabric
  info_alike one other same =
      set_there one ∙ ap (λ (next : Node). record fabric { nodes = slice_set fabric.nodes at.node next }) (here.sets.alike one other same)
      ∙ sym (set_there other)

-- ---- PortInfo of every port then
pub info_after_node : (change : ℕ → ℕ → PortInfo → PortInfo) (node : Node) (number : ℕ)
    → port_info_at (infos_by change node) number ≡ option_map (change (node_guid node) number) (port_info_at node number)
info_after_node change (Switch held) number = part_after info_part change (Switch held) number
info_after_node change (Adapter ports) number = part_after info_part change (Adapter ports) number

pub info_after : (change : ℕ → ℕ → PortInfo → PortInfo) (fabric : FabricState) (at : PortRef)
    → info_at (with_infos change fabric) at ≡ option_map (change (guid_at fabric at.node) at.port) (info_at fabric at)
info_after change fabric at =
    ap (λ (o : Option Node). option_and_then (λ node. port_info_at node at.port) o) (slice_get-map (infos_by change) fabric.nodes at.node)
    ∙ by (slice_get fabric.nodes at.node)
  where
    by : (o : Option Node) → option_and_then (λ node. port_info_at node at.port) (option_map (infos_by change) o)
        ≡ option_map (change (option_map_or node_guid o 0) at.port) (option_and_then (λ node. port_info_at node at.port) o)
    by None = refl
    by (Some node) = info_after_node change node at.port
