-- What is printed of a port that a word names is the text of that end port, and of no other.
use Rattle.std.proofs.Common.{ℕ, ◌≡◌, ◌==◌, ◌&&◌, ◌∙◌, ap, refl, sym, arith, Bool, true, false, nat_le, not, if◌then◌else◌, List, [], slice_get, Option, Some, None, Ok}
use Rattle.std.proofs.lemmas.Bool.{and_from, eqb-true, not-false}
use Rattle.std.proofs.lemmas.List.Elements.{recursion_from_All}
use Rattle.std.proofs.lemmas.Option.{none-some, same_Some}
use Rattle.std.proofs.lemmas.Slice.Eq.{bytes_eq-Decides}
use Rattle.std.specs.List.{AllByRecursion}
use Rattle.std.specs.Option.{ok_or, option_map_or}
use Rattle.std.specs.Str.{bytes_eq}
use Rattle.fabric_parts.specs.Cable.{is_cabled, is_same_port}
use Rattle.fabric_parts.specs.declared.cable.PortRef.{PortRef}
use Rattle.headline_laws.specs.Texts.{printed}
use Rattle.partition_file.specs.declared.partition.Partition.{Partition}
use Rattle.partition_reports.specs.Ports.{port_text}
use Rattle.script_lines.proofs.AskLoopLemmas.{some_reported}
use Rattle.script_lines.specs.NamedPort.{adapter_port, named_place, named_port, switch_guid, switch_port}
use Rattle.script_lines.specs.Sender.{sender_of}
use Rattle.script_lines.specs.declared.script_cause.ScriptCause.TheVariants.{ManagerPort, UncabledPort, UnknownPort}
use Rattle.step_results.proofs.ElementLemmas.{each_weaker}
use Rattle.step_results.proofs.ListLemmas.{all_have}
use Rattle.step_results.proofs.StepLemmas.{bind_ok, let_through, not_stopped, same_ok}
use Rattle.subnet_fabric.proofs.EndPortLemmas.{end_ports_stand_in_order}
use Rattle.subnet_fabric.proofs.ListLemmas.{found_among}
use Rattle.subnet_fabric.proofs.OwnEndLemmas.{one_end}
use Rattle.subnet_fabric.specs.EndPorts.{IsEndPort, is_end_port}
use Rattle.subnet_fabric.specs.Ports.{ports_of}
use Rattle.subnet_model.proofs.IsolationLemmas.{found_guid}
use Rattle.subnet_model.specs.Delivery.{port_with_guid}
use Rattle.subnet_model.specs.declared.subnet_port.SubnetPort.{SubnetPort}
use Rattle.sweep.proofs.CabledLemmas.{any_found}
use Rattle.sweep.proofs.PlaceLemmas.{position_at}
use Rattle.text_words.specs.Parts.{port_name}
use Rattle.text_words.specs.Words.{Port, port_in}
use Rattle.topo_file.specs.Cable.{port_at}
use Rattle.topo_file.specs.Node.{is_switch_at, name_at, place_of, port_guid_at, ports_at}
use Rattle.topo_file.specs.Sound.{IsSound, is_port}
use Rattle.topo_file.specs.Topology.{TopologyState}
use Rattle.topo_file.specs.declared.node.Node.{Node}

-- ---- words
-- the name and the number that are read from a word
printed_as : (word : List ℕ) (named : Port) → port_in word ≡ Some named → printed word ≡ port_name named.name named.number
printed_as word named is = rw is refl

-- the node that stands at the place of a name has the name
name_there : (name : List ℕ) (nodes : List Node) (place : ℕ) → place_of name nodes ≡ Some place → name_at nodes place ≡ name
name_there name nodes place is =
    let found = position_at (λ (node : Node). bytes_eq name node.name) nodes place is in
    ap (λ (o : Option Node). option_map_or (λ (node : Node). node.name) o []) found.1 ∙ sym ((bytes_eq-Decides name found.0.name).0 found.2)

-- ---- an end port of this GUID, with this text
pub record IsPortOf (ports : List SubnetPort) (guid : ℕ) (name : List ℕ) : Type 0 where
  pub port : SubnetPort
  pub found : port_with_guid ports guid ≡ Some port
  pub text : port_text port ≡ name

module _ (partitions : List Partition) (plan : TopologyState) (sound : IsSound plan) where
  abbrev ports : List SubnetPort
  ports = ports_of partitions plan

  -- of an end port the text is that of its place, so that of a GUID is one
  text_of : (port : SubnetPort) (is : IsEndPort partitions plan port) → port_text port ≡ port_name (name_at plan.nodes is.at.node) is.at.port
  text_of port is =
      ap (λ (name : List ℕ). port_name name port.number) is.node_name ∙ ap (port_name (name_at plan.nodes is.at.node)) is.number

  one_text : (a b : SubnetPort) → IsEndPort partitions plan a → IsEndPort partitions plan b → a.guid ≡ b.guid → port_text a ≡ port_text b
  one_text a b is also same =
      text_of a is
      ∙ ap (λ (at : PortRef). port_name (name_at plan.nodes at.node) at.port) (one_end plan is.at also.at sound is.there also.there (sym is.guid ∙ same ∙ also.guid))
      ∙ sym (text_of b also)

  is_end : (guid : ℕ) (port : SubnetPort) → port_with_guid ports guid ≡ Some port → IsEndPort partitions plan port
  is_end guid port found =
      let among = found_among (λ (port : SubnetPort). port.guid == guid) ports port found in
      all_have (IsEndPort partitions plan) ports among.place port (end_ports_stand_in_order partitions plan sound).only among.there

  pub all_texts : (guid : ℕ) (name : List ℕ) → IsPortOf ports guid name → AllByRecursion (λ (port : SubnetPort). port.guid ≡ guid → port_text port ≡ name) ports
  all_texts guid name one =
      each_weaker (IsEndPort partitions plan) (λ (port : SubnetPort). port.guid ≡ guid → port_text port ≡ name)
      (λ port is same. one_text port one.port is (is_end guid one.port one.found) (same ∙ sym (found_guid ports guid one.port one.found)) ∙ one.text) ports
      (recursion_from_All (IsEndPort partitions plan) ports (end_ports_stand_in_order partitions plan sound).only)

  port_there : (at : PortRef) → is_end_port plan at ≡ true → IsPortOf ports (port_guid_at plan.nodes at) (port_name (name_at plan.nodes at.node) at.port)
  port_there at there =
      let guid = port_guid_at plan.nodes at in
      let found = any_found (λ (port : SubnetPort). port.guid == guid) ports ((end_ports_stand_in_order partitions plan sound).all at there) in
      let is = is_end guid found.0 found.1 in
      let same : is.at ≡ at = one_end plan is.at at sound is.there there (sym is.guid ∙ found_guid ports guid found.0 found.1) in
      record {
        port = found.0;
        found = found.1;
        text = text_of found.0 is ∙ ap (λ (one : PortRef). port_name (name_at plan.nodes one.node) one.port) same;
      }

  -- a word names it
  named_so : (word : List ℕ) (named : Port) (at : PortRef) (guid : ℕ) → port_in word ≡ Some named
      → place_of named.name plan.nodes ≡ Some at.node → at.port ≡ named.number → is_end_port plan at ≡ true → port_guid_at plan.nodes at ≡ guid → IsPortOf ports guid (printed word)
  named_so word named at guid read place number there is =
      let one = port_there at there in
      record {
        port = one.port;
        found = ap (port_with_guid ports) (sym is) ∙ one.found;
        text = one.text
            ∙ ap (λ (name : List ℕ). port_name name at.port) (name_there named.name plan.nodes at.node place)
            ∙ ap (port_name named.name) number
            ∙ sym (printed_as word named read);
      }

  -- ---- a port of an adapter
  record IsPortAt (place number : ℕ) (at : PortRef) : Type 0 where
    node : at.node ≡ place
    port : at.port ≡ number
    there : is_port plan.nodes at ≡ true

  is_at : (place number : ℕ) (at : PortRef) → port_at plan.nodes place number ≡ Some at → IsPortAt place number at
  is_at place number at is = by (nat_le 1 number && nat_le number (ports_at plan.nodes place)) refl is
    where
      by : (b : Bool) → (nat_le 1 number && nat_le number (ports_at plan.nodes place)) ≡ b
          → (if b then Some (record { node = place; port = number }) else None) ≡ Some at → IsPortAt place number at
      by true within is =
          let same = same_Some (record { node = place; port = number }) at is in
          record {
            node = ap (λ (one : PortRef). one.node) (sym same);
            port = ap (λ (one : PortRef). one.port) (sym same);
            there = ap (is_port plan.nodes) (sym same) ∙ within;
          }
      by false within is = absurd (none-some at is)

  adapter_end : (at : PortRef) → is_switch_at plan.nodes at.node ≡ false → is_port plan.nodes at ≡ true → is_cabled plan.cables at ≡ true → is_end_port plan at ≡ true
  adapter_end at adapter port cabled = rw adapter (and_from (is_port plan.nodes at) (is_cabled plan.cables at) port cabled)

  -- ---- the port of an argument, and the port of a command
  switch_text : (word : List ℕ) (named : Port) (place guid : ℕ) → port_in word ≡ Some named
      → place_of named.name plan.nodes ≡ Some place → is_switch_at plan.nodes place ≡ true → switch_port plan place named.number ≡ Ok guid → IsPortOf ports guid (printed word)
  switch_text word named place guid read there switch is =
      let zero = let_through (named.number == 0) (Ok (switch_guid plan.nodes place)) UnknownPort guid is in
      let at : PortRef = record { node = place; port = named.number } in
      let own : is_end_port plan at ≡ true = rw switch zero.0 in
      named_so word named at guid read there refl own (at_zero (slice_get plan.nodes place) refl (eqb-true named.number 0 zero.0) ∙ same_ok (switch_guid plan.nodes place) guid zero.1)
    where
      at_zero : (found : Option Node) → slice_get plan.nodes place ≡ found → named.number ≡ 0
          → port_guid_at plan.nodes (record { node = place; port = named.number }) ≡ switch_guid plan.nodes place
      at_zero None is none = rw is refl
      at_zero (Some node) is none = rw (is, none) (omega arith)

  adapter_text : (word : List ℕ) (named : Port) (place guid : ℕ) → port_in word ≡ Some named
      → place_of named.name plan.nodes ≡ Some place → is_switch_at plan.nodes place ≡ false → adapter_port plan place named.number ≡ Ok guid → IsPortOf ports guid (printed word)
  adapter_text word named place guid read there adapter is =
      let at = bind_ok (ok_or (port_at plan.nodes place named.number) UnknownPort) _ guid is in
      let here = is_at place named.number at.0 (some_reported (port_at plan.nodes place named.number) UnknownPort _ at.0 refl at.1) in
      let cabled = let_through (is_cabled plan.cables at.0) (Ok (port_guid_at plan.nodes at.0)) UncabledPort guid at.2 in
      named_so word named at.0 guid read (there ∙ ap (λ (n : ℕ). Some n) (sym here.node)) here.port
      (adapter_end at.0 (ap (is_switch_at plan.nodes) here.node ∙ adapter) here.there cabled.0) (same_ok (port_guid_at plan.nodes at.0) guid cabled.1)

  pub asked_text : (word : List ℕ) (guid : ℕ) → named_port plan word ≡ Ok guid → IsPortOf ports guid (printed word)
  unfolding named_port
  asked_text word guid is =
      let named = bind_ok (ok_or (port_in word) UnknownPort) _ guid is in
      let place = bind_ok (ok_or (place_of named.0.name plan.nodes) UnknownPort) _ guid named.2 in
      by named.0 place.0 (some_reported (port_in word) UnknownPort _ named.0 refl named.1) (some_reported (place_of named.0.name plan.nodes) UnknownPort _ place.0 refl place.1)
      (is_switch_at plan.nodes place.0) refl place.2
    where
      by : (named : Port) (place : ℕ) → port_in word ≡ Some named → place_of named.name plan.nodes ≡ Some place → (b : Bool) → is_switch_at plan.nodes place ≡ b
          → (if b then switch_port plan place named.number else adapter_port plan place named.number) ≡ Ok guid → IsPortOf ports guid (printed word)
      by named place read there true switch is = switch_text word named place guid read there switch is
      by named place read there false adapter is = adapter_text word named place guid read there adapter is

  pub sender_text : (word : List ℕ) (guid : ℕ) → sender_of plan word ≡ Ok guid → IsPortOf ports guid (printed word)
  unfolding sender_of named_place
  sender_text word guid is =
      let at = bind_ok (named_place plan word) _ guid is in
      let named = bind_ok (ok_or (port_in word) UnknownPort) _ at.0 at.1 in
      let place = bind_ok (ok_or (place_of named.0.name plan.nodes) UnknownPort) _ at.0 named.2 in
      let here = is_at place.0 named.0.number at.0 (some_reported (port_at plan.nodes place.0 named.0.number) UnknownPort _ at.0 refl place.2) in
      let adapter = not_stopped (is_switch_at plan.nodes at.0.node) UnknownPort _ guid at.2 in
      let other = not_stopped (is_same_port at.0 plan.sm) ManagerPort _ guid adapter.1 in
      let cabled = not_stopped (not (is_cabled plan.cables at.0)) UncabledPort _ guid other.1 in
      named_so word named.0 at.0 guid (some_reported (port_in word) UnknownPort _ named.0 refl named.1)
      (some_reported (place_of named.0.name plan.nodes) UnknownPort _ place.0 refl place.1 ∙ ap (λ (n : ℕ). Some n) (sym here.node)) here.port
      (adapter_end at.0 adapter.0 here.there (not-false (is_cabled plan.cables at.0) cabled.0)) (same_ok (port_guid_at plan.nodes at.0) guid cabled.1)
