-- Each event of a report has one line, which begins with the name of its port and of no other.
use Rattle.std.proofs.Common.{ℕ, zero, suc, ◌≡◌, ◌≤◌, ◌==◌, ◌&&◌, ◌∙◌, ap, refl, subst, sym, arith, append_assoc, Bool, true, false, not}
use Rattle.std.proofs.Common.{List, [], ◌∷◌, ◌++◌, codes, decimal, drop, filter, find, length, map, nat_eq, nat_le, slice_get, Option, Some, None}
use Rattle.std.proofs.lemmas.Bool.{and_parts, eq-eqb, eqb-true, false≢true}
use Rattle.std.proofs.lemmas.Bool.Decides.{nat_tests}
use Rattle.std.proofs.lemmas.Fmt.{decimal_injective}
use Rattle.std.proofs.lemmas.List.Elements.{All-from_recursion}
use Rattle.std.proofs.lemmas.Map.Keys.{IsDistinct-head, IsDistinct-tail}
use Rattle.std.proofs.lemmas.Option.{none-some, same_Some}
use Rattle.std.proofs.lemmas.Slice.Eq.{bytes_eq-Decides}
use Rattle.std.specs.Int.{w16, w32, to_be_bytes}
use Rattle.std.specs.List.{All, IsDistinct, list_all, starts_with}
use Rattle.hex.specs.Hex.{encode_lower}
use Rattle.data_packet.specs.Refusal.{code_of}
use Rattle.data_packet.specs.declared.refusal.Refusal.{Refusal}
use Rattle.data_packet.specs.declared.refusal.Refusal.TheVariants.{KeyNotHeld, QpZero, ReservedDlid, PortNotActive}
use Rattle.fabric_parts.specs.NodeType.{most_ports}
use Rattle.fabric_parts.specs.declared.cable.PortRef.{PortRef}
use Rattle.fabric_parts.specs.declared.node_type.NodeType.{NodeType}
use Rattle.fabric_parts.specs.declared.node_type.NodeType.TheVariants.{ChannelAdapter, Switch}
use Rattle.partition_reports.specs.Ports.{port_text}
use Rattle.text_words.specs.Parts.{hex_text}
use Rattle.partition_file.specs.declared.partition.Partition.{Partition}
use Rattle.step_results.proofs.ListLemmas.{all_have, all_joined, all_there}
use Rattle.subnet_core.specs.EventLines.{line_text, name_text, outcome_text, packet_text, payload_text, report_text, trimmed}
use Rattle.subnet_model.proofs.IsolationLemmas.{found_guid}
use Rattle.subnet_model.specs.Delivery.{port_with_guid}
use Rattle.subnet_model.specs.Restriction.{events_at}
use Rattle.subnet_model.specs.declared.event.Outcome.{Outcome}
use Rattle.subnet_model.specs.declared.event.Outcome.TheVariants.{Received, Refused}
use Rattle.subnet_model.specs.declared.event.PortEvent.{PortEvent}
use Rattle.subnet_model.specs.declared.subnet_port.SubnetPort.{SubnetPort}
use Rattle.subnet_fabric.proofs.EndPortLemmas.{end_ports_stand_in_order}
use Rattle.subnet_fabric.specs.EndPorts.{IsEndPort, is_end_port}
use Rattle.subnet_fabric.specs.Ports.{ports_of}
use Rattle.text_words.specs.Words.{is_name, is_name_byte}
use Rattle.topo_file.specs.Node.{is_switch, port_guid_at}
use Rattle.topo_file.specs.Sound.{IsSound, is_named, is_sized, shares_name}
use Rattle.topo_file.specs.Topology.{TopologyState}
use Rattle.topo_file.specs.declared.node.Node.{Node}
use Rattle.fabric_cli.specs.Printed.{lines_at}
use Rattle.fabric_cli.proofs.LineTextLemmas.{all_other, begins, begun, high_decimal, inner_hex, is_inner, kept_of_all, lines_of_all, same_word}

-- ---- the name of a port
-- of an end port that stands there: a node with a name, and a number that is small
record Stands (plan : TopologyState) (at : PortRef) : Type 0 where
  node : Node
  there : slice_get plan.nodes at.node ≡ Some node
  named : is_name node.name ≡ true
  low : at.port ≤ 36

few_ports : (node_type : NodeType) → most_ports node_type ≤ 36
few_ports Switch = omega arith
few_ports ChannelAdapter = omega arith

stands : (plan : TopologyState) (at : PortRef) → IsSound plan → is_end_port plan at ≡ true → Stands plan at
stands plan at sound ends = by (slice_get plan.nodes at.node) refl
  where
    low_by : (node : Node) → slice_get plan.nodes at.node ≡ Some node → (b : Bool) → is_switch node ≡ b → at.port ≤ 36
    low_by node there true e =
        let zero_is : (at.port == 0) ≡ true = rw (there, e) at ends in
        omega (arith, eqb-true at.port 0 zero_is)
    low_by node there false e =
        let port : ((nat_le 1 at.port && nat_le at.port node.ports) && _) ≡ true = rw (there, e) at ends in
        let within = (and_parts (nat_le 1 at.port) (nat_le at.port node.ports) (and_parts (nat_le 1 at.port && nat_le at.port node.ports) _ port).0).1 in
        let sized = all_there is_sized plan.nodes at.node node sound.lines.sizes there in
        let counted = (and_parts (nat_le 1 node.ports) (nat_le node.ports (most_ports node.node_type)) (and_parts (nat_le 1 node.guid) _ sized).1).1 in
        grind (arith, nat_tests, few_ports node.node_type)

    by : (found : Option Node) → slice_get plan.nodes at.node ≡ found → Stands plan at
    by None there =
        let port : ((nat_le 1 at.port && nat_le at.port 0) && _) ≡ true = rw there at ends in
        let both = and_parts (nat_le 1 at.port) (nat_le at.port 0) (and_parts (nat_le 1 at.port && nat_le at.port 0) _ port).0 in
        absurd (grind (arith, nat_tests))
    by (Some node) there = record {
      node = node;
      there = there;
      named = all_there is_named plan.nodes at.node node sound.lines.names there;
      low = low_by node there (is_switch node) refl;
    }

-- no two nodes have one name
apart : (node other : Node) (nodes : List Node) (j : ℕ) → IsDistinct shares_name (node ∷ nodes) → slice_get nodes j ≡ Some other → node.name ≡ other.name → ⊥
apart node other nodes j own there same =
    let differ = all_have (λ one. shares_name node one ≡ false) nodes j other (All-from_recursion _ nodes (IsDistinct-head shares_name node nodes own)) there in
    false≢true (sym differ ∙ (bytes_eq-Decides node.name other.name).1 same)

one_named : (nodes : List Node) (i j : ℕ) (a b : Node) → IsDistinct shares_name nodes → slice_get nodes i ≡ Some a → slice_get nodes j ≡ Some b
    → a.name ≡ b.name → i ≡ j
one_named [] i j a b own here there same = absurd (none-some a here)
one_named (node ∷ nodes) zero zero a b own here there same = refl
one_named (node ∷ nodes) zero (suc j) a b own here there same =
    absurd (apart node b nodes j own there (ap (λ (one : Node). one.name) (same_Some node a here) ∙ same))
one_named (node ∷ nodes) (suc i) zero a b own here there same =
    absurd (apart node a nodes i own here (ap (λ (one : Node). one.name) (same_Some node b there) ∙ sym same))
one_named (node ∷ nodes) (suc i) (suc j) a b own here there same = ap suc (one_named nodes i j a b (IsDistinct-tail shares_name node nodes own) here there same)

name_bytes : (name : List ℕ) → is_name name ≡ true → list_all is_name_byte name ≡ true
name_bytes name named = (and_parts _ (list_all is_name_byte name) (and_parts _ _ named).1).1

-- what stands in no name, is no slash and is less than the digits
not_in_port : (c : ℕ) → is_name_byte c ≡ false → (47 == c) ≡ false → nat_le 48 c ≡ false → (port : SubnetPort) → is_name port.node_name ≡ true
    → list_all (λ byte. not (byte == c)) (port_text port) ≡ true
not_in_port c no_name no_slash no_digit port named =
    all_joined (λ byte. not (byte == c)) (port.node_name ++ codes "/") (decimal port.number)
    (all_joined (λ byte. not (byte == c)) port.node_name (codes "/") (all_other is_name_byte c no_name port.node_name (name_bytes port.node_name named)) (rw no_slash refl))
    (all_other (nat_le 48) c no_digit (decimal port.number) (high_decimal port.number))

same_names : (a b : SubnetPort) → is_name a.node_name ≡ true → is_name b.node_name ≡ true → a.number ≤ 36 → b.number ≤ 36 → (x y : List ℕ)
    → port_text a ++ 32 ∷ x ≡ port_text b ++ 32 ∷ y → (a.node_name ≡ b.node_name) × (a.number ≡ b.number)
same_names a b named other low few x y same =
    let words = same_word (λ byte. not (byte == 32)) 32 refl (port_text a) (port_text b) x y (not_in_port 32 refl refl refl a named) (not_in_port 32 refl refl refl b other) same in
    let parts = same_word (λ byte. not (byte == 47)) 47 refl a.node_name b.node_name (decimal a.number) (decimal b.number)
    (all_other is_name_byte 47 refl a.node_name (name_bytes a.node_name named)) (all_other is_name_byte 47 refl b.node_name (name_bytes b.node_name other))
    (sym (append_assoc a.node_name (codes "/") (decimal a.number)) ∙ words.0 ∙ append_assoc b.node_name (codes "/") (decimal b.number)) in
    (parts.0, decimal_injective a.number b.number (omega (arith, low)) (omega (arith, few)) parts.1)

same_place : (nodes : List Node) (a b : PortRef) → a.node ≡ b.node → a.port ≡ b.port → port_guid_at nodes a ≡ port_guid_at nodes b
same_place nodes a b node port = rw (node, port) refl

-- ---- an event
spaced : (what : Outcome) → (rest : List ℕ) × (outcome_text what ≡ 32 ∷ rest)
spaced (Received packet) = (drop 1 (packet_text packet), refl)
spaced (Refused refusal) = (drop 1 (outcome_text (Refused refusal)), refl)

inner_number : (bytes : List ℕ) → list_all is_inner (hex_text bytes) ≡ true
inner_number bytes = all_joined is_inner (codes "0x") (encode_lower bytes) refl (inner_hex bytes)

number_behind : (before bytes : List ℕ) → list_all is_inner before ≡ true → list_all is_inner (before ++ codes " " ++ hex_text bytes) ≡ true
number_behind before bytes inner = all_joined is_inner (before ++ codes " ") (hex_text bytes) (all_joined is_inner before (codes " ") inner refl) (inner_number bytes)

inner_payload : (bytes : List ℕ) → list_all is_inner (payload_text bytes) ≡ true
inner_payload bytes =
    all_joined is_inner (decimal (length bytes) ++ codes ":") (encode_lower (trimmed bytes))
    (all_joined is_inner (decimal (length bytes)) (codes ":") (all_other (nat_le 48) 10 refl (decimal (length bytes)) (high_decimal (length bytes))) refl)
    (inner_hex (trimmed bytes))

inner_code : (refusal : Refusal) → list_all is_inner (code_of refusal) ≡ true
inner_code KeyNotHeld = refl
inner_code QpZero = refl
inner_code ReservedDlid = refl
inner_code PortNotActive = refl

inner_outcome : (what : Outcome) → list_all is_inner (outcome_text what) ≡ true
inner_outcome (Received packet) =
    let slid = to_be_bytes w16 packet.slid in
    let dlid = to_be_bytes w16 packet.dlid in
    let key = to_be_bytes w16 packet.p_key in
    let pair = drop 1 (to_be_bytes w32 packet.destination_qp) in
    let first = codes " recv " ++ hex_text slid in
    let second = first ++ codes " " ++ hex_text dlid in
    let third = second ++ codes " " ++ hex_text key in
    let fourth = third ++ codes " " ++ hex_text pair in
    let numbers = number_behind third pair (number_behind second key (number_behind first dlid (all_joined is_inner (codes " recv ") (hex_text slid) refl (inner_number slid)))) in
    all_joined is_inner (fourth ++ codes " ") (payload_text packet.payload) (all_joined is_inner fourth (codes " ") numbers refl) (inner_payload packet.payload)
inner_outcome (Refused refusal) = all_joined is_inner (codes " refused ") (code_of refusal) refl (inner_code refusal)

-- ---- the port of an event
found_has : {X : Type 0} (P : X → Type 0) (test : X → Bool) (xs : List X) (x : X) → All P xs → find test xs ≡ Some x → P x
found_has P test [] x all found = absurd (none-some x found)
found_has {X = X} P test (y ∷ xs) x all found = by (test y) refl (found_has P test xs x (λ k d within. all (suc k) d (omega (arith, within))))
  where
    by : (b : Bool) → test y ≡ b → (find test xs ≡ Some x → P x) → P x
    by true e later = subst P (same_Some y x (sym (rw e refl) ∙ found)) (all 0 y (omega arith))
    by false e later = later (sym (rw e refl) ∙ found)

module _ (plan : TopologyState) (partitions : List Partition) (sound : IsSound plan) where
  abbrev ports : List SubnetPort
  ports = ports_of partitions plan

  listed : (guid : ℕ) (one : SubnetPort) → port_with_guid ports guid ≡ Some one → IsEndPort partitions plan one
  listed guid one found = found_has (IsEndPort partitions plan) (λ port. port.guid == guid) ports one (end_ports_stand_in_order partitions plan sound).only found

  name_is : (one : SubnetPort) (is : IsEndPort partitions plan one) → one.node_name ≡ (stands plan is.at sound is.there).node.name
  name_is one is = is.node_name ∙ (let there = (stands plan is.at sound is.there).there in rw there refl)

  named : (one : SubnetPort) → IsEndPort partitions plan one → is_name one.node_name ≡ true
  named one is = ap is_name (name_is one is) ∙ (stands plan is.at sound is.there).named

  low : (one : SubnetPort) → IsEndPort partitions plan one → one.number ≤ 36
  low one is = omega (arith, is.number, (stands plan is.at sound is.there).low)

  -- two ports of one name are one
  one_port : (a b : SubnetPort) → IsEndPort partitions plan a → IsEndPort partitions plan b → (x y : List ℕ) → port_text a ++ 32 ∷ x ≡ port_text b ++ 32 ∷ y
      → a.guid ≡ b.guid
  one_port a b is also x y same =
      let here = stands plan is.at sound is.there in
      let there = stands plan also.at sound also.there in
      let names = same_names a b (named a is) (named b also) (low a is) (low b also) x y same in
      let place = one_named plan.nodes is.at.node also.at.node here.node there.node sound.lines.own_names here.there there.there
      (sym (name_is a is) ∙ names.0 ∙ name_is b also) in
      is.guid ∙ same_place plan.nodes is.at also.at place (sym is.number ∙ names.1 ∙ also.number) ∙ sym also.guid

  abbrev within : PortEvent → List ℕ
  within event = name_text (port_with_guid ports event.port_guid) ++ outcome_text event.what

  ended : (event : PortEvent) → line_text ports event ≡ within event ++ 10 ∷ []
  ended event = refl

  inner : (event : PortEvent) → list_all is_inner (within event) ≡ true
  inner event = all_joined is_inner (name_text (port_with_guid ports event.port_guid)) (outcome_text event.what) (by (port_with_guid ports event.port_guid) refl) (inner_outcome event.what)
    where
      by : (found : Option SubnetPort) → port_with_guid ports event.port_guid ≡ found → list_all is_inner (name_text found) ≡ true
      by None is = refl
      by (Some one) is = not_in_port 10 refl refl refl one (named one (listed event.port_guid one is))

  module _ (p : ℕ) (port : SubnetPort) (found : port_with_guid ports p ≡ Some port) where
    abbrev needle : List ℕ
    needle = port_text port ++ codes " "

    -- a text that begins with the port's name and a blank
    begins_so : (text : List ℕ) → starts_with nat_eq text needle ≡ true → (rest : List ℕ) × (text ≡ port_text port ++ 32 ∷ rest)
    begins_so text so = (drop (length needle) text, begun needle text so ∙ append_assoc (port_text port) (codes " ") (drop (length needle) text))

    nameless : (rest more : List ℕ) → 32 ∷ rest ≡ port_text port ++ 32 ∷ more → ⊥
    nameless rest more same =
        let words = same_word (λ byte. not (byte == 32)) 32 refl [] (port_text port) rest more refl (not_in_port 32 refl refl refl port (named port (listed p port found))) same in
        no_text port.node_name (sym words.0)
      where
        no_text : (name : List ℕ) → name ++ codes "/" ++ decimal port.number ≡ [] → ⊥
        no_text [] is = absurd cc
        no_text (byte ∷ name) is = absurd cc

    own_line : (event : PortEvent) → starts_with nat_eq (line_text ports event) needle ≡ (event.port_guid == p)
    own_line event = by (port_with_guid ports event.port_guid) refl (event.port_guid == p) refl
      where
        rest : List ℕ
        rest = (spaced event.what).0 ++ 10 ∷ []

        says : (one : Option SubnetPort) → port_with_guid ports event.port_guid ≡ one → line_text ports event ≡ name_text one ++ 32 ∷ rest
        says one is =
            rw is (append_assoc (name_text one) (outcome_text event.what) (10 ∷ []) ∙ ap (λ (text : List ℕ). name_text one ++ (text ++ 10 ∷ [])) (spaced event.what).1)

        other : (one : SubnetPort) → port_with_guid ports event.port_guid ≡ Some one → (event.port_guid == p) ≡ false
            → (b : Bool) → starts_with nat_eq (line_text ports event) needle ≡ b → b ≡ false
        other one is apart false e = refl
        other one is apart true e =
            let more = begins_so (line_text ports event) e in
            let guid = one_port one port (listed event.port_guid one is) (listed p port found) rest more.0 (sym (says (Some one) is) ∙ more.1) in
            let same : event.port_guid ≡ p = sym (found_guid ports event.port_guid one is) ∙ guid ∙ found_guid ports p port found in
            absurd (false≢true (sym apart ∙ eq-eqb event.port_guid p same))

        unnamed : port_with_guid ports event.port_guid ≡ None → (b : Bool) → starts_with nat_eq (line_text ports event) needle ≡ b → b ≡ false
        unnamed is false e = refl
        unnamed is true e =
            let more = begins_so (line_text ports event) e in
            absurd (nameless rest more.0 (sym (says None is) ∙ more.1))

        by : (one : Option SubnetPort) → port_with_guid ports event.port_guid ≡ one → (b : Bool) → (event.port_guid == p) ≡ b
            → starts_with nat_eq (line_text ports event) needle ≡ b
        by one is true same =
            let here : port_with_guid ports event.port_guid ≡ Some port = ap (port_with_guid ports) (eqb-true event.port_guid p same) ∙ found in
            ap (λ (text : List ℕ). starts_with nat_eq text needle) (says (Some port) here ∙ sym (append_assoc (port_text port) (codes " ") rest)) ∙ begins needle rest
        by None is false apart = unnamed is (starts_with nat_eq (line_text ports event) needle) refl
        by (Some one) is false apart = other one is apart (starts_with nat_eq (line_text ports event) needle) refl

-- so a port's lines are those of its own events
pub own_lines : (plan : TopologyState) (partitions : List Partition) → IsSound plan → (p : ℕ) (port : SubnetPort)
    → port_with_guid (ports_of partitions plan) p ≡ Some port → (events : List PortEvent)
    → lines_at port (report_text (ports_of partitions plan) events) ≡ map (line_text (ports_of partitions plan)) (events_at p events)
own_lines plan partitions sound p port found events =
    ap (filter (λ line. starts_with nat_eq line (port_text port ++ codes " ")))
    (lines_of_all (line_text (ports_of partitions plan)) (within plan partitions sound) (ended plan partitions sound) (inner plan partitions sound) events)
    ∙ kept_of_all (line_text (ports_of partitions plan)) (λ line. starts_with nat_eq line (port_text port ++ codes " ")) (λ event. event.port_guid == p)
    (own_line plan partitions sound p port found) events
