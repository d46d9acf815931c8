-- P_Key tables of ports that a path leads to.
use Rattle.std.proofs.Common.{ℕ, ◌≡◌, ◌+◌, ◌-◌, ◌*◌, ◌/◌, ◌%◌, ◌^◌, ◌<◌, ◌≤◌, ◌==◌, ◌⊎◌, inl, inr, ◌∙◌, ap, refl, sym, subst, Bool, true, false, List, length, get_or, slice_get, slice_set, Option, Some, None, Ok, ◌&&◌, nat_le, arith}
use Rattle.std.specs.Option.{option_map_or}
use Rattle.std.proofs.lemmas.Bool.{and_parts, ne_eqb}
use Rattle.std.proofs.lemmas.Bool.Decides.{nat_tests}
use Rattle.std.proofs.lemmas.Nat.{div-mul-add, mod-mul-add}
use Rattle.std.proofs.lemmas.Option.{slice_get_cases}
use Rattle.agent_rules.specs.Agent.{set_word_block, word_block}
use Rattle.agent_rules.specs.Good.{IsTable}
use Rattle.attr_tables.specs.declared.smp_attribute.SmpAttribute.TheVariants.{PKeyTable}
use Rattle.fabric_parts.specs.declared.cable.PortRef.{PortRef}
use Rattle.pkey_rules.specs.declared.key_table.TheConstants.{PARTITIONS}
use Rattle.port_model.specs.AdapterState.{AdapterState}
use Rattle.port_model.specs.Agent.{get as adapter_gives, set as adapter_set}
use Rattle.port_model.specs.Good.{IsGoodPort as IsGoodAdapterPort}
use Rattle.step_results.proofs.ListLemmas.{all_have, all_there}
use Rattle.smp_wire.specs.FabricState.{FabricState, is_switch, is_switch_at, port_count}
use Rattle.smp_wire.specs.Get.{gives_along, node_gives}
use Rattle.smp_wire.specs.Good.{IsGood, IsGoodNode, has_a_right_count, most_ports_of, node_guid}
use Rattle.smp_wire.specs.Set.{node_takes, takes_along}
use Rattle.smp_wire.specs.Shape.{IsSameShape}
use Rattle.smp_wire.specs.Walk.{end_of}
use Rattle.smp_wire.specs.declared.node.Node.{Node}
use Rattle.smp_wire.specs.declared.node.Node.TheVariants.{Switch, Adapter}
use Rattle.step_results.proofs.ElementLemmas.{get_written, or_same}
use Rattle.switch_model.specs.Agent.{get as switch_gives, set as switch_set}
use Rattle.switch_model.specs.Good.{IsGoodPort as IsGoodSwitchPort}
use Rattle.switch_model.specs.SwitchState.{SwitchState}
use Rattle.switch_model.specs.declared.switch_port.SwitchPort.{SwitchPort}
use Rattle.sweep.specs.OfFabric.{ports_at}
use Rattle.table_push.specs.Nodes.{keys_by, on_port, with_keys}
use Rattle.table_push.specs.Pushes.{IsAskedFor, LeadsToPort}
use Rattle.table_push.proofs.LeadLemmas.{ends_on}
use Rattle.table_push.proofs.NodeLemmas.{one_changes}
use Rattle.table_push.proofs.PartLemmas.{adapter_part_at, keys_part, other_node, switch_part_at}

-- ---- one Set of a block, at either kind of node
-- what a Set of a block to these bytes makes of the table, and what a Get of it then reports
pub record KeysSet (guid number asked in_port : ℕ) (node : Node) (keys : List ℕ) : Type 0 where
  pub takes : (change : List ℕ → List ℕ) (block : ℕ) (bytes : List ℕ) → block < 65536 → set_word_block block bytes keys ≡ Ok (change keys)
      → node_takes node in_port PKeyTable (asked * 65536 + block) bytes ≡ Some (Ok (keys_by (on_port guid number change) node))
  pub gives : (change : List ℕ → List ℕ) (block : ℕ) (bytes : List ℕ) → block < 65536 → word_block block (change keys) ≡ Ok bytes
      → node_gives (keys_by (on_port guid number change) node) in_port PKeyTable (asked * 65536 + block) ≡ Some (Ok bytes)
  -- two changes that make the same of that table are the same there
  pub alike : (one other : List ℕ → List ℕ) → one keys ≡ other keys → keys_by (on_port guid number one) node ≡ keys_by (on_port guid number other) node

port_half : (asked block : ℕ) → block < 65536 → (asked * 65536 + block) / 2 ^ 16 ≡ asked
port_half asked block below = div-mul-add asked 65536 block below

block_half : (asked block : ℕ) → block < 65536 → (asked * 65536 + block) % 2 ^ 16 ≡ block
block_half asked block below = mod-mul-add asked 65536 block below

switch_takes_keys : (held : SwitchState) (port : SwitchPort) (in_port number block : ℕ) (bytes keys : List ℕ) → block < 65536
    → slice_get held.ports number ≡ Some port → set_word_block block bytes port.keys ≡ Ok keys
    → node_takes (Switch held) in_port PKeyTable (number * 65536 + block) bytes
    ≡ Some (Ok (Switch (record held { ports = slice_set held.ports number (record port { keys = keys }) })))
unfolding switch_set
switch_takes_keys held port in_port number block bytes keys below there set =
    rw (port_half number block below, block_half number block below, there, set) refl

switch_gives_keys : (held : SwitchState) (port : SwitchPort) (in_port number block : ℕ) (bytes : List ℕ) → block < 65536
    → slice_get held.ports number ≡ Some port → word_block block port.keys ≡ Ok bytes
    → node_gives (Switch held) in_port PKeyTable (number * 65536 + block) ≡ Some (Ok bytes)
unfolding switch_gives
switch_gives_keys held port in_port number block bytes below there gives =
    rw (port_half number block below, block_half number block below, there, gives) refl

switch_sets : (held : SwitchState) (port : SwitchPort) (guid in_port number : ℕ) → held.node_guid ≡ guid → slice_get held.ports number ≡ Some port
    → KeysSet guid number number in_port (Switch held) port.keys
switch_sets held port guid in_port number is there = record {
  takes = λ change block bytes below set.
      switch_takes_keys held port in_port number block bytes (change port.keys) below there set
      ∙ ap (λ (next : Node). Some (Ok next)) (sym (switch_part_at keys_part change guid number held port is there));
  gives = λ change block bytes below gives.
      ap (λ (next : Node). node_gives next in_port PKeyTable (number * 65536 + block)) (switch_part_at keys_part change guid number held port is there)
      ∙ switch_gives_keys (record held { ports = slice_set held.ports number (record port { keys = change port.keys }) }) (record port { keys = change port.keys })
      in_port number block bytes below (get_written held.ports number (record port { keys = change port.keys }) port there) gives;
  alike = λ one other same.
      switch_part_at keys_part one guid number held port is there
      ∙ ap (λ (keys : List ℕ). Switch (record held { ports = slice_set held.ports number (record port { keys = keys }) })) same
      ∙ sym (switch_part_at keys_part other guid number held port is there);
}

adapter_takes_keys : (ports : List AdapterState) (port : AdapterState) (number block : ℕ) (bytes keys : List ℕ) → (number == 0) ≡ false
    → slice_get ports (number - 1) ≡ Some port → set_word_block block bytes port.keys ≡ Ok keys
    → node_takes (Adapter ports) number PKeyTable (0 * 65536 + block) bytes ≡ Some (Ok (Adapter (slice_set ports (number - 1) (record port { keys = keys }))))
unfolding adapter_set
adapter_takes_keys ports port number block bytes keys some there set =
    let same : 0 * 65536 + block ≡ block = omega arith in
    rw (same, some, there, set) refl

adapter_gives_keys : (ports : List AdapterState) (port : AdapterState) (number block : ℕ) (bytes : List ℕ) → (number == 0) ≡ false
    → slice_get ports (number - 1) ≡ Some port → word_block block port.keys ≡ Ok bytes
    → node_gives (Adapter ports) number PKeyTable (0 * 65536 + block) ≡ Some (Ok bytes)
unfolding adapter_gives
adapter_gives_keys ports port number block bytes some there gives =
    let same : 0 * 65536 + block ≡ block = omega arith in
    rw (same, some, there, gives) refl

adapter_sets : (ports : List AdapterState) (port : AdapterState) (guid number : ℕ) → node_guid (Adapter ports) ≡ guid → 1 ≤ number
    → slice_get ports (number - 1) ≡ Some port → KeysSet guid number 0 number (Adapter ports) port.keys
adapter_sets ports port guid number is some there =
    let counted : 1 + (number - 1) ≡ number = omega (arith, some) in
    let first : (number == 0) ≡ false = ne_eqb number 0 (λ none. omega (arith, none, some)) in
    let at : (change : List ℕ → List ℕ) → keys_by (on_port guid number change) (Adapter ports) ≡ Adapter (slice_set ports (number - 1) (record port { keys = change port.keys })) =
    λ change. subst (λ (n : ℕ). keys_by (on_port guid n change) (Adapter ports) ≡ Adapter (slice_set ports (number - 1) (record port { keys = change port.keys })))
    counted (adapter_part_at keys_part change guid (number - 1) ports port is there) in
    record {
      takes = λ change block bytes below set.
          adapter_takes_keys ports port number block bytes (change port.keys) first there set ∙ ap (λ (next : Node). Some (Ok next)) (sym (at change));
      gives = λ change block bytes below gives.
          ap (λ (next : Node). node_gives next number PKeyTable (0 * 65536 + block)) (at change)
          ∙ adapter_gives_keys (slice_set ports (number - 1) (record port { keys = change port.keys })) (record port { keys = change port.keys })
          number block bytes first (get_written ports (number - 1) (record port { keys = change port.keys }) port there) gives;
      alike = λ one other same.
          at one ∙ ap (λ (keys : List ℕ). Adapter (slice_set ports (number - 1) (record port { keys = keys }))) same ∙ sym (at other);
    }

-- ---- the port there
pub record PortThere (fabric : FabricState) (path : List ℕ) (asked guid number : ℕ) : Type 0 where
  pub at : PortRef
  pub node : Node
  pub keys : List ℕ
  pub ends : end_of fabric path ≡ Some at
  pub there : slice_get fabric.nodes at.node ≡ Some node
  pub guid_is : node_guid node ≡ guid
  pub table : IsTable PARTITIONS 65536 keys
  pub sets : KeysSet guid number asked at.port node keys

pub element : {X : Type 0} (xs : List X) (k : ℕ) → k < length xs → (x : X) × (slice_get xs k ≡ Some x)
element {X = X} xs k within = by (slice_get_cases xs k).1
  where
    by : ((x : X) × (k < length xs) × (slice_get xs k ≡ Some x) × (get_or xs k x ≡ x)) ⊎ ((length xs ≤ k) × (slice_get xs k ≡ None))
        → (x : X) × (slice_get xs k ≡ Some x)
    by (inl there) = (there.0, there.2)
    by (inr past) = absurd (omega (arith, within, past.0))

abbrev pub port_on : (old new : FabricState) (path : List ℕ) (asked guid number : ℕ) → IsSameShape old new → LeadsToPort old path asked guid number
    → LeadsToPort new path asked guid number
port_on old new path asked guid number same leads = record {
  at = leads.at;
  ends = ends_on old new path leads.at same leads.ends;
  guid_is = or_same node_guid 0 old.nodes new.nodes leads.at.node same.node_guids ∙ leads.guid_is;
  there = subst (λ (b : Bool). IsAskedFor b (ports_at new leads.at.node) leads.at.port asked number) (sym (or_same is_switch false old.nodes new.nodes leads.at.node same.switches))
      (subst (λ (count : ℕ). IsAskedFor (is_switch_at old.nodes leads.at.node) count leads.at.port asked number) (sym (or_same port_count 0 old.nodes new.nodes leads.at.node same.port_counts)) leads.there);
}

pub count_is : (node : Node) (count : ℕ) → (nat_le 1 (port_count node) && nat_le (port_count node) (most_ports_of node)) ≡ true → 1 ≤ port_count node
count_is node count right = le_from (and_parts (nat_le 1 (port_count node)) _ right).0
  where
    le_from : nat_le 1 (port_count node) ≡ true → 1 ≤ port_count node
    le_from h = grind (arith, nat_tests, h)

pub good_ports : (fabric : FabricState) (place : ℕ) (node : Node) → IsGood fabric → slice_get fabric.nodes place ≡ Some node → IsGoodNode node
good_ports fabric place node good there = all_have IsGoodNode fabric.nodes place node good.holdings there

at_switch : (fabric : FabricState) (path : List ℕ) (asked guid number : ℕ) (at : PortRef) (held : SwitchState) → IsGood fabric → end_of fabric path ≡ Some at
    → slice_get fabric.nodes at.node ≡ Some (Switch held) → held.node_guid ≡ guid → asked ≡ number → number ≤ port_count (Switch held)
    → PortThere fabric path asked guid number
at_switch fabric path asked guid number at held good ends there is own within =
    let right = all_there has_a_right_count fabric.nodes at.node (Switch held) good.counts there in
    let some = count_is (Switch held) 0 right in
    let port = element held.ports number (omega (arith, within, some)) in
    let is_good = good_ports fabric at.node (Switch held) good there in
    let keys = (all_have IsGoodSwitchPort held.ports number port.0 is_good.ports port.1).keys in
    record {
      at = at;
      node = Switch held;
      keys = port.0.keys;
      ends = ends;
      there = there;
      guid_is = is;
      table = keys;
      sets = subst (λ (n : ℕ). KeysSet guid number n at.port (Switch held) port.0.keys) (sym own) (switch_sets held port.0 guid at.port number is port.1);
    }

at_adapter : (fabric : FabricState) (path : List ℕ) (asked guid number : ℕ) (at : PortRef) (ports : List AdapterState) → IsGood fabric → end_of fabric path ≡ Some at
    → slice_get fabric.nodes at.node ≡ Some (Adapter ports) → node_guid (Adapter ports) ≡ guid → asked ≡ 0 → at.port ≡ number → 1 ≤ number
    → number ≤ length ports → PortThere fabric path asked guid number
at_adapter fabric path asked guid number at ports good ends there is none own some within =
    let port = element ports (number - 1) (omega (arith, within, some)) in
    let is_good = good_ports fabric at.node (Adapter ports) good there in
    let keys = (all_have IsGoodAdapterPort ports (number - 1) port.0 is_good port.1).keys in
    record {
      at = at;
      node = Adapter ports;
      keys = port.0.keys;
      ends = ends;
      there = there;
      guid_is = is;
      table = keys;
      sets = subst (λ (n : ℕ). KeysSet guid number n at.port (Adapter ports) port.0.keys) (sym none)
          (subst (λ (n : ℕ). KeysSet guid number 0 n (Adapter ports) port.0.keys) (sym own) (adapter_sets ports port.0 guid number is some port.1));
    }

pub port_there : (fabric : FabricState) (path : List ℕ) (asked guid number : ℕ) → IsGood fabric → LeadsToPort fabric path asked guid number
    → PortThere fabric path asked guid number
port_there fabric path asked guid number good leads = by (slice_get fabric.nodes leads.at.node) refl
  where
    asked_for : (found : Option Node) → slice_get fabric.nodes leads.at.node ≡ found
        → IsAskedFor (option_map_or is_switch found false) (option_map_or port_count found 0) leads.at.port asked number
    asked_for found is =
        subst (λ (o : Option Node). IsAskedFor (option_map_or is_switch o false) (option_map_or port_count o 0) leads.at.port asked number) is leads.there

    by : (found : Option Node) → slice_get fabric.nodes leads.at.node ≡ found → PortThere fabric path asked guid number
    by None is = let for = asked_for None is in absurd (omega (arith, for.2, for.3))
    by (Some (Switch held)) is =
        let for = asked_for (Some (Switch held)) is in
        at_switch fabric path asked guid number leads.at held good leads.ends is
        (ap (λ (o : Option Node). option_map_or node_guid o 0) (sym is) ∙ leads.guid_is) for.0 for.1
    by (Some (Adapter ports)) is =
        let for = asked_for (Some (Adapter ports)) is in
        at_adapter fabric path asked guid number leads.at ports good leads.ends is
        (ap (λ (o : Option Node). option_map_or node_guid o 0) (sym is) ∙ leads.guid_is) for.0 for.1 for.2 for.3

-- ---- the fabric
set_there : (fabric : FabricState) (path : List ℕ) (asked guid number : ℕ) (change : List ℕ → List ℕ) → IsGood fabric
    → (here : PortThere fabric path asked guid number)
    → with_keys (on_port guid number change) fabric ≡ record fabric { nodes = slice_set fabric.nodes here.at.node (keys_by (on_port guid number change) here.node) }
set_there fabric path asked guid number change good here =
    ap (λ (nodes : List Node). record fabric { nodes = nodes })
    (one_changes (keys_by (on_port guid number change)) guid (other_node keys_part change guid number) fabric.nodes here.at.node here.node good.node_guids.own here.there here.guid_is)

takes_there : (fabric : FabricState) (path : List ℕ) (at : PortRef) (node next : Node) (modifier : ℕ) (bytes : List ℕ) → end_of fabric path ≡ Some at
    → slice_get fabric.nodes at.node ≡ Some node → node_takes node at.port PKeyTable modifier bytes ≡ Some (Ok next)
    → takes_along fabric path PKeyTable modifier bytes ≡ Some (Ok (record fabric { nodes = slice_set fabric.nodes at.node next }))
takes_there fabric path at node next modifier bytes ends there takes = rw (ends, there, takes) refl

pub port_takes : (fabric : FabricState) (path : List ℕ) (asked guid number block : ℕ) (change : List ℕ → List ℕ) (bytes : List ℕ) → IsGood fabric
    → (here : PortThere fabric path asked guid number) → block < 65536 → set_word_block block bytes here.keys ≡ Ok (change here.keys)
    → takes_along fabric path PKeyTable (asked * 65536 + block) bytes ≡ Some (Ok (with_keys (on_port guid number change) fabric))
port_takes fabric path asked guid number block change bytes good here below set =
    takes_there fabric path here.at here.node (keys_by (on_port guid number change) here.node) (asked * 65536 + block) bytes here.ends here.there
    (here.sets.takes change block bytes below set)
    ∙ ap (λ (next : FabricState). Some (Ok next)) (sym (set_there fabric path asked guid number change good here))

gives_there : (next : FabricState) (path bytes : List ℕ) (at : PortRef) (after : Node) (modifier : ℕ) → end_of next path ≡ Some at
    → slice_get next.nodes at.node ≡ Some after → node_gives after at.port PKeyTable modifier ≡ Some (Ok bytes)
    → gives_along next path PKeyTable modifier ≡ Some (Ok bytes)
gives_there next path bytes at after modifier ends there gives = rw (ends, there, gives) refl

pub port_gives : (fabric : FabricState) (path : List ℕ) (asked guid number block : ℕ) (change : List ℕ → List ℕ) (bytes : List ℕ) → IsGood fabric
    → (here : PortThere fabric path asked guid number) → block < 65536 → word_block block (change here.keys) ≡ Ok bytes
    → IsSameShape fabric (with_keys (on_port guid number change) fabric)
    → gives_along (with_keys (on_port guid number change) fabric) path PKeyTable (asked * 65536 + block) ≡ Some (Ok bytes)
port_gives fabric path asked guid number block change bytes good here below gives same =
    let next = with_keys (on_port guid number change) fabric in
    let after = keys_by (on_port guid number change) here.node in
    let there : slice_get next.nodes here.at.node ≡ Some after =
    ap (λ (one : FabricState). slice_get one.nodes here.at.node) (set_there fabric path asked guid number change good here)
    ∙ get_written fabric.nodes here.at.node after here.node here.there in
    gives_there next path bytes here.at after (asked * 65536 + block) (ends_on fabric next path here.at same here.ends) there
    (here.sets.gives change block bytes below gives)

-- two changes that make the same of the table there are the same
pub port_alike : (fabric : FabricState) (path : List ℕ) (asked guid number : ℕ) (one other : List ℕ → List ℕ) → IsGood fabric
    → (here : PortThere fabric path asked guid number) → one here.keys ≡ other here.keys
    → with_keys (on_port guid number one) fabric ≡ with_keys (on_port guid number other) fabric
port_alike fabric path asked guid number one other good here same =
    set_there fabric path asked guid number one good here
    ∙ ap (λ (next : Node). record fabric { nodes = slice_set fabric.nodes here.at.node next }) (here.sets.alike one other same)
    ∙ sym (set_there fabric path asked guid number other good here)
