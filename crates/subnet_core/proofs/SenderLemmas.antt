-- Each command of an accepted script names a listed port of a channel adapter.
use Rattle.std.proofs.Common.{ℕ, IfSome, ◌≡◌, ◌==◌, ◌||◌, ◌∙◌, ap, refl, subst, sym, Bool, true, false, not, List, [], ◌∷◌, find, Option, Some, None, Ok}
use Rattle.std.specs.List.{All, list_any}
use Rattle.std.proofs.lemmas.Bool.{and_from, and_parts, eq-eqb, eqb-true, false≢true, not-true}
use Rattle.std.proofs.lemmas.List.Elements.{All-head, All-weaker}
use Rattle.std.proofs.lemmas.Option.{none-some, same_Some}
use Rattle.fabric_parts.specs.Cable.{is_cabled}
use Rattle.fabric_parts.specs.Lid.{manager_lid}
use Rattle.fabric_parts.specs.NodeType.{is_switch_type}
use Rattle.fabric_parts.specs.declared.cable.PortRef.{PortRef}
use Rattle.step_results.proofs.ListLemmas.{all_have}
use Rattle.subnet_model.specs.Configuration.{ConfigurationState}
use Rattle.subnet_model.specs.Configured.{HaveLidsInOrder}
use Rattle.subnet_model.specs.Delivery.{port_with_guid}
use Rattle.subnet_model.specs.declared.command.Command.{Command}
use Rattle.subnet_model.specs.declared.command.Command.TheVariants.{Ask, Cable, Send}
use Rattle.subnet_model.specs.declared.subnet_port.SubnetPort.{SubnetPort}
use Rattle.subnet_fabric.proofs.EndPortLemmas.{end_ports_stand_in_order}
use Rattle.subnet_fabric.proofs.OwnEndLemmas.{one_end}
use Rattle.subnet_fabric.specs.EndPorts.{AreEndPorts, IsEndPort, is_end_port}
use Rattle.subnet_fabric.proofs.GraphPortLemmas.{type_kept}
use Rattle.subnet_fabric.proofs.ListLemmas.{found_among}
use Rattle.topo_file.specs.Node.{is_switch_at, port_guid_at}
use Rattle.topo_file.specs.Sound.{is_port}
use Rattle.topo_file.specs.Topology.{TopologyState}
use Rattle.subnet_core.specs.Laws.{EachCommandNamesASender}
use Rattle.subnet_core.specs.Inventory.{IsInventoried, InventoryState}
use Rattle.subnet_core.specs.Senders.{NamesSender}
use Rattle.script_lines.proofs.CommandLemmas.{commands_name_what_is_there, line_names}
use Rattle.script_lines.specs.Laws.{IsSendingPort, NamesWhatIsThere}
use Rattle.script_lines.specs.Script.{command_of}

-- a search finds what passes
found_later : {X : Type 0} (p : X → Bool) (x : X) (xs : List X) (y : X) → p x ≡ false → find p xs ≡ Some y → find p (x ∷ xs) ≡ Some y
found_later p x xs y fails is = rw fails is

found : {X : Type 0} (p : X → Bool) (xs : List X) → list_any p xs ≡ true → (x : X) × (find p xs ≡ Some x)
found p [] any = absurd (false≢true any)
found {X = X} p (x ∷ xs) any = by (p x) refl (λ later. found p xs later)
  where
    by : (b : Bool) → p x ≡ b → (list_any p xs ≡ true → (y : X) × (find p xs ≡ Some y)) → (y : X) × (find p (x ∷ xs) ≡ Some y)
    by true passes later = (x, rw passes refl)
    by false fails later =
        let rest = later (ap (λ (b : Bool). b || list_any p xs) (sym fails) ∙ any) in
        (rest.0, found_later p x xs rest.0 fails rest.1)

-- ---- a cabled port of an adapter
record IsAdapterPort (plan : TopologyState) (guid : ℕ) : Type 0 where
  at : PortRef
  there : is_end_port plan at ≡ true
  adapter : is_switch_at plan.nodes at.node ≡ false
  guid_is : port_guid_at plan.nodes at ≡ guid

-- as each is that a script may name
sends_from : (plan : TopologyState) (guid : ℕ) → IsSendingPort plan guid → IsAdapterPort plan guid
sends_from plan guid from = record {
  at = from.at;
  there = rw from.adapter (and_from (is_port plan.nodes from.at) (is_cabled plan.cables from.at) from.there from.cabled);
  adapter = from.adapter;
  guid_is = from.guid_is;
}

-- ---- the inventory lists each such port
module _ (inventory : InventoryState) (is : IsInventoried inventory) where
  abbrev plan : TopologyState
  plan = inventory.plan

  abbrev ports : List SubnetPort
  ports = inventory.configuration.ports

  ends : AreEndPorts is.partitions plan ports
  ends =
      subst (λ (configuration : ConfigurationState). AreEndPorts is.partitions plan configuration.ports) (sym is.listed)
      (end_ports_stand_in_order is.partitions plan is.topology)

  -- the port of a GUID, and that it is a channel adapter's
  record IsListed (guid : ℕ) (port : SubnetPort) : Type 0 where
    named : port_with_guid ports guid ≡ Some port
    adapter : is_switch_type port.node_type ≡ false

  adapter_listed : (guid : ℕ) → IsAdapterPort plan guid → (port : SubnetPort) × IsListed guid port
  adapter_listed guid from =
      let named : SubnetPort → Bool = λ port. port.guid == guid in
      let any = subst (λ (g : ℕ). list_any (λ (port : SubnetPort). port.guid == g) ports ≡ true) from.guid_is (ends.all from.at from.there) in
      let one = found named ports any in
      let among = found_among named ports one.0 one.1 in
      let end = all_have (IsEndPort is.partitions plan) ports among.place one.0 ends.only among.there in
      let ours = sym end.guid ∙ eqb-true one.0.guid guid among.passes ∙ sym from.guid_is in
      let same = one_end plan end.at from.at is.topology end.there from.there ours in
      let kind = ap is_switch_type end.node_type ∙ type_kept (is_switch_at plan.nodes end.at.node) in
      (one.0, record { named = one.1; adapter = kind ∙ ap (λ (at : PortRef). is_switch_at plan.nodes at.node) same ∙ from.adapter })

  names_sender : (command : Command) → NamesWhatIsThere plan command → NamesSender ports command
  names_sender (Send command) from =
      let listed = adapter_listed command.port_guid (sends_from plan command.port_guid from) in
      (listed.0, record { named = listed.1.named; adapter = listed.1.adapter })
  names_sender (Ask command) from =
      let listed = adapter_listed command.port_guid (sends_from plan command.port_guid from) in
      (listed.0, record { named = listed.1.named; adapter = listed.1.adapter })
  names_sender (Cable command) from = tt

-- what a line gives, if it gives a command
pub line_names_sender : (inventory : InventoryState) → IsInventoried inventory → (line : List ℕ) (given : Option Command)
    → command_of inventory.plan line ≡ Ok given → IfSome given (NamesSender inventory.configuration.ports)
line_names_sender inventory is line None read = tt
line_names_sender inventory is line (Some command) read = names_sender inventory is command (line_names inventory.plan line command read)

pub commands_name_senders : EachCommandNamesASender
commands_name_senders inventory is script commands given =
    All-weaker (NamesWhatIsThere inventory.plan) (NamesSender inventory.configuration.ports) (names_sender inventory is) commands
    (commands_name_what_is_there inventory.plan script commands given)

-- ---- the SM port is the first of the list, and a channel adapter's
pub record IsManager (ports : List SubnetPort) (manager : SubnetPort) : Type 0 where
  pub first : find (λ port. port.lid == manager_lid) ports ≡ Some manager
  pub named : port_with_guid ports manager.guid ≡ Some manager
  pub adapter : is_switch_type manager.node_type ≡ false

pub manager_is_listed : (inventory : InventoryState) → IsInventoried inventory → (manager : SubnetPort) × IsManager inventory.configuration.ports manager
manager_is_listed inventory is =
    by inventory.configuration.ports (ends inventory is).lids (ends inventory is).manager listed.0 listed.1.named listed.1.adapter
  where
    parts : (not (is_switch_at inventory.plan.nodes inventory.plan.sm.node) ≡ true) × (is_port inventory.plan.nodes inventory.plan.sm ≡ true)
    parts = and_parts (not (is_switch_at inventory.plan.nodes inventory.plan.sm.node)) (is_port inventory.plan.nodes inventory.plan.sm) is.topology.manager_port

    adapter : is_switch_at inventory.plan.nodes inventory.plan.sm.node ≡ false
    adapter = not-true (is_switch_at inventory.plan.nodes inventory.plan.sm.node) parts.0

    listed : (port : SubnetPort) × IsListed inventory is (port_guid_at inventory.plan.nodes inventory.plan.sm) port
    listed = adapter_listed inventory is (port_guid_at inventory.plan.nodes inventory.plan.sm) (record {
      at = inventory.plan.sm;
      there = rw adapter (and_from (is_port inventory.plan.nodes inventory.plan.sm) (is_cabled inventory.plan.cables inventory.plan.sm) parts.1 is.topology.manager_cabled);
      adapter = adapter;
      guid_is = refl;
    })

    by : (ports : List SubnetPort) → HaveLidsInOrder ports → All (λ port. port.lid ≡ 1 → port.guid ≡ port_guid_at inventory.plan.nodes inventory.plan.sm) ports
        → (port : SubnetPort) → port_with_guid ports (port_guid_at inventory.plan.nodes inventory.plan.sm) ≡ Some port → is_switch_type port.node_type ≡ false
        → (manager : SubnetPort) × IsManager ports manager
    by [] lids manager port named adapter = absurd (none-some port named)
    by (one ∷ ports) lids manager port named adapter =
        let lid : one.lid ≡ 1 = cc in
        let guid = All-head (λ port. port.lid ≡ 1 → port.guid ≡ port_guid_at inventory.plan.nodes inventory.plan.sm) one ports manager lid in
        let here : port_with_guid (one ∷ ports) (port_guid_at inventory.plan.nodes inventory.plan.sm) ≡ Some one = rw (eq-eqb one.guid (port_guid_at inventory.plan.nodes inventory.plan.sm) guid) refl in
        let same : one ≡ port = same_Some one port (sym here ∙ named) in (
          one,
          record {
            first = rw (eq-eqb one.lid manager_lid lid) refl;
            named = rw (eq-eqb one.guid one.guid refl) refl;
            adapter = ap (λ (port : SubnetPort). is_switch_type port.node_type) same ∙ adapter;
          },
        )
