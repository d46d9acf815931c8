-- Where no switch holds back what a port would accept, a packet goes all of a way by which switches send it.
use Rattle.std.proofs.Common.{ℕ, ◌-◌, ◌≡◌, ◌<◌, ◌≤◌, ◌==◌, ◌∙◌, ap, refl, sym, subst, not, ◌&&◌, ◌||◌, Bool, true, false, nat_le, List, [], ◌∷◌, length, slice_get, Option, Some, None, get_or, arith}
use Rattle.std.specs.List.{list_all}
use Rattle.std.specs.Option.{option_and_then, option_map_or}
use Rattle.std.proofs.lemmas.Bool.{and_parts, leb-true, false≢true}
use Rattle.std.proofs.lemmas.Option.{same_Some, slice_get-get_or}
use Rattle.data_packet.specs.declared.packet.Packet.{Packet}
use Rattle.fabric_parts.specs.declared.cable.Cable.{Cable}
use Rattle.fabric_parts.specs.declared.cable.PortRef.{PortRef}
use Rattle.fabric_parts.specs.Cable.{far_end, is_same_port}
use Rattle.pkey_rules.specs.KeyTable.{accepts}
use Rattle.pkey_rules.specs.StoredKeys.{stored_keys}
use Rattle.port_model.specs.AdapterState.{AdapterState}
use Rattle.switch_model.specs.Forwarding.{passes_inbound, passes_outbound}
use Rattle.switch_model.specs.SwitchState.{SwitchState}
use Rattle.switch_model.specs.declared.switch_port.SwitchPort.{SwitchPort}
use Rattle.smp_wire.proofs.CableLemmas.{both_ways, cabled_is_port, far_ends_meet, far_is_port}
use Rattle.step_results.proofs.DistinctLemmas.{differ}
use Rattle.smp_wire.specs.FabricState.{FabricState, adapter_port, is_port, is_switch, is_switch_at, port_count}
use Rattle.smp_wire.specs.Good.{is_right}
use Rattle.smp_wire.specs.declared.node.Node.{Node}
use Rattle.smp_wire.specs.declared.node.Node.TheVariants.{Switch, Adapter}
use Rattle.smp_wire.specs.Deliveries.{Goes, IsDelivered, Passes, adapter_at, adapter_ports, sends_at}
use Rattle.smp_wire.specs.Forwards.{HoldsBackNothing, IsCabledPort, switch_port_at}
use Rattle.smp_wire.proofs.KeyLemmas.{HoldsFull, IsStamped, accepted_passes, held_passes}
use Rattle.smp_wire.proofs.WayLemmas.{in_none}

-- ---- a port of a switch
pub record AtSwitch (nodes : List Node) (at : PortRef) : Type 0 where
  pub held : SwitchState
  pub there : slice_get nodes at.node ≡ Some (Switch held)
  pub port : SwitchPort
  pub port_is : slice_get held.ports at.port ≡ Some port

switch_by : (nodes : List Node) (at : PortRef) (found : Option Node) → slice_get nodes at.node ≡ found → option_map_or is_switch found false ≡ true
    → nat_le 1 at.port && nat_le at.port (option_map_or port_count found 0) ≡ true → AtSwitch nodes at
switch_by nodes at None there is port = absurd (cc)
switch_by nodes at (Some (Adapter ports)) there is port = absurd (cc)
switch_by nodes at (Some (Switch held)) there is port =
    let parts = and_parts (nat_le 1 at.port) _ port in
    let some = leb-true 1 at.port parts.0 in
    let few = leb-true at.port (length held.ports - 1) parts.1 in
    let within : at.port < length held.ports = omega (arith, some, few) in
    record { held = held; there = there; port = get_or held.ports at.port (first held.ports within); port_is = slice_get-get_or held.ports at.port (first held.ports within) within }
  where
    first : (ports : List SwitchPort) → at.port < length ports → SwitchPort
    first [] within = absurd (omega (arith, within))
    first (one ∷ ports) within = one

at_switch : (nodes : List Node) (at : PortRef) → is_switch_at nodes at.node ≡ true → is_port nodes at ≡ true → AtSwitch nodes at
at_switch nodes at is port = switch_by nodes at (slice_get nodes at.node) refl is port

port_there : (nodes : List Node) (at : PortRef) (here : AtSwitch nodes at) → switch_port_at nodes at ≡ Some here.port
port_there nodes at here = rw (here.there) here.port_is

same_switch : (nodes : List Node) (here other : PortRef) (at : AtSwitch nodes here) (beside : AtSwitch nodes other) → here.node ≡ other.node
    → beside.held ≡ at.held
same_switch nodes here other at beside node =
    let same = same_Some _ _ (sym beside.there ∙ ap (slice_get nodes) (sym node) ∙ at.there) in cc

-- ---- a port of a channel adapter
no_switch_by : (found : Option Node) (number : ℕ) (port : AdapterState)
    → option_and_then (λ node. adapter_port (adapter_ports node) number) found ≡ Some port → option_map_or is_switch found false ≡ false
no_switch_by None number port is = refl
no_switch_by (Some (Switch held)) number port is = absurd (in_none (number == 0) (number - 1) port is)
no_switch_by (Some (Adapter ports)) number port is = refl

no_switch : (nodes : List Node) (at : PortRef) (port : AdapterState) → adapter_at nodes at ≡ Some port → is_switch_at nodes at.node ≡ false
no_switch nodes at port there = no_switch_by (slice_get nodes at.node) at.port port there

-- ---- one end of each cable is at a switch
one_switch : (nodes : List Node) (cables : List Cable) (a b : PortRef) → list_all (is_right nodes) cables ≡ true → far_end cables a ≡ Some b
    → is_switch_at nodes a.node ≡ false → is_switch_at nodes b.node ≡ true
one_switch nodes cables a b right far none =
    by (is_switch_at nodes b.node) none
    (far_ends_meet (λ one other. (is_switch_at nodes one.node || is_switch_at nodes other.node) ≡ true) (is_right nodes) each cables a b right far)
  where
    turned : (x y : Bool) → (x || y) ≡ true → (y || x) ≡ true
    turned true true is = refl
    turned true false is = refl
    turned false true is = refl
    turned false false is = cc

    each : (cable : Cable) → is_right nodes cable ≡ true
        → ((is_switch_at nodes cable.first.node || is_switch_at nodes cable.second.node) ≡ true)
        × ((is_switch_at nodes cable.second.node || is_switch_at nodes cable.first.node) ≡ true)
    each cable is =
        let one = and_parts (is_port nodes cable.first) _ is in
        let two = and_parts (is_port nodes cable.second) _ one.1 in
        let three = and_parts (not (cable.first.node == cable.second.node)) _ two.1 in
        (three.1, turned (is_switch_at nodes cable.first.node) (is_switch_at nodes cable.second.node) three.1)

    by : (b_is : Bool) → is_switch_at nodes a.node ≡ false → (is_switch_at nodes a.node || b_is) ≡ true → b_is ≡ true
    by true none any = refl
    by false none any = absurd (let neither : (is_switch_at nodes a.node || false) ≡ false = rw none refl in cc)

-- ---- what passes at a port of a switch
may_pass : (enforced : Bool) (accepted : Bool) → enforced ≡ false → (not enforced || accepted) ≡ true
may_pass enforced accepted none = rw none refl

does_pass : (enforced : Bool) (accepted : Bool) → accepted ≡ true → (not enforced || accepted) ≡ true
does_pass true accepted is = is
does_pass false accepted is = refl

-- ---- ways by which switches send a packet
-- the switch here sends it out of a port, where its ports let it pass, and the cable there leads on
pub record IsSent (fabric : FabricState) (packet : Packet) (here next : PortRef) : Type 0 where
  pub out : ℕ
  pub cable : far_end fabric.cables (record { node = here.node; port = out }) ≡ Some next
  pub switch : is_switch_at fabric.nodes here.node ≡ true
  pub sends : (at : AtSwitch fabric.nodes here) → 1 ≤ out → passes_inbound at.held.ports here.port packet.p_key ≡ true
      → passes_outbound at.held.ports out packet.p_key ≡ true → sends_at fabric.nodes here packet out ≡ true

-- and so on along these ports, of which the last is the one named last
abbrev pub IsSentBy : FabricState → Packet → PortRef → List PortRef → PortRef → Type 0
IsSentBy fabric packet here [] last = here ≡ last
IsSentBy fabric packet here (next ∷ later) last = IsSent fabric packet here next × IsSentBy fabric packet next later last

module _ (fabric : FabricState) (free : HoldsBackNothing fabric) where
  turned_round : (a b : PortRef) → far_end fabric.cables a ≡ Some b → far_end fabric.cables b ≡ Some a
  turned_round a b far = both_ways fabric.cables a b (differ is_same_port _ free.once) far

  -- a packet may come in at a port that faces a switch, and leave by it
  passes_between : (here far : PortRef) (at : AtSwitch fabric.nodes here) (key : ℕ) → far_end fabric.cables here ≡ Some far
      → is_switch_at fabric.nodes far.node ≡ true
      → (passes_inbound at.held.ports here.port key ≡ true) × (passes_outbound at.held.ports here.port key ≡ true)
  passes_between here far at key cable is =
      let none = free.between here far at.port (port_there fabric.nodes here at) cable is in
      (rw at.port_is (may_pass at.port.info.partition_enforcement_inbound _ none.0), rw at.port_is (may_pass at.port.info.partition_enforcement_outbound _ none.1))

  -- the port that faces a channel adapter holds the full forms of its keys
  faces : (here far : PortRef) (at : AtSwitch fabric.nodes here) (port : AdapterState) → far_end fabric.cables here ≡ Some far
      → adapter_at fabric.nodes far ≡ Some port → HoldsFull at.port.keys port.keys
  faces here far at port cable there key held = free.facing here far at.port port key (port_there fabric.nodes here at) cable there held

  -- ---- to a port that accepts the packet
  module _ (packet : Packet) (last : PortRef) (port : AdapterState) (there : adapter_at fabric.nodes last ≡ Some port)
      (accepted : accepts packet.p_key (stored_keys port.keys) ≡ true) where
    -- where the next port is no switch's, the way leads no further
    ends_there : (way : List PortRef) (here : PortRef) → is_switch_at fabric.nodes here.node ≡ false → IsSentBy fabric packet here way last
        → (here ≡ last) × (way ≡ [])
    ends_there [] here none sent = (sent, refl)
    ends_there (next ∷ later) here none sent = absurd (false≢true (sym none ∙ sent.0.switch))

    -- one hop, and that the packet may come in there
    record Hop (here next : PortRef) : Type 0 where
      passes : Passes fabric.nodes fabric.cables packet here next
      onward : is_switch_at fabric.nodes next.node ≡ true
          → (at : AtSwitch fabric.nodes next) × (passes_inbound at.held.ports next.port packet.p_key ≡ true)

    hop : (here next : PortRef) (at : AtSwitch fabric.nodes here) → passes_inbound at.held.ports here.port packet.p_key ≡ true
        → (sent : IsSent fabric packet here next) (b : Bool) → is_switch_at fabric.nodes next.node ≡ b
        → (b ≡ false → next ≡ last) → Hop here next
    hop here next at inbound sent b is ends =
        let out : PortRef = record { node = here.node; port = sent.out } in
        let out_port = cabled_is_port fabric.nodes fabric.cables out next free.cables sent.cable in
        let beside = at_switch fabric.nodes out sent.switch out_port in
        let same = same_switch fabric.nodes here out at beside refl in
        let some = leb-true 1 sent.out (and_parts (nat_le 1 sent.out) _ out_port).0 in
        record {
          passes = record {
            out = sent.out;
            sends = sent.sends at some inbound
                (subst (λ (held : SwitchState). passes_outbound held.ports sent.out packet.p_key ≡ true) same (leaves out beside sent.cable b is ends));
            cable = sent.cable;
          };
          onward = λ onward.
              let there = at_switch fabric.nodes next onward (far_is_port fabric.nodes fabric.cables out next free.cables sent.cable) in
              (there, (passes_between next out there packet.p_key (turned_round out next sent.cable) sent.switch).0);
        }
      where
        leaves : (out : PortRef) (beside : AtSwitch fabric.nodes out) → far_end fabric.cables out ≡ Some next → (b : Bool)
            → is_switch_at fabric.nodes next.node ≡ b → (b ≡ false → next ≡ last) → passes_outbound beside.held.ports out.port packet.p_key ≡ true
        leaves out beside cable true is ends = (passes_between out next beside packet.p_key cable is).1
        leaves out beside cable false is ends =
            let full = faces out next beside port cable (rw (ends refl) there) in
            rw beside.port_is
            (does_pass beside.port.info.partition_enforcement_outbound _ (accepted_passes beside.port.keys port.keys packet.p_key full accepted))

    by_next : (b : Bool) (next : PortRef) (later : List PortRef) → is_switch_at fabric.nodes next.node ≡ b
        → IsSentBy fabric packet next later last
        → (is_switch_at fabric.nodes next.node ≡ true → Goes fabric.nodes fabric.cables packet next later last)
        → Goes fabric.nodes fabric.cables packet next later last
    by_next true next later is sent onward = onward is
    by_next false next later is sent onward =
        let end = ends_there later next is sent in
        subst (λ (way : List PortRef). Goes fabric.nodes fabric.cables packet next way last) (sym end.1) end.0

    goes_along : (way : List PortRef) (here : PortRef) (at : AtSwitch fabric.nodes here) → passes_inbound at.held.ports here.port packet.p_key ≡ true
        → IsSentBy fabric packet here way last → Goes fabric.nodes fabric.cables packet here way last
    goes_along [] here at inbound sent = sent
    goes_along (next ∷ later) here at inbound sent =
        let one = hop here next at inbound sent.0 (is_switch_at fabric.nodes next.node) refl (λ none. (ends_there later next none sent.1).0) in (
          one.passes,
          by_next (is_switch_at fabric.nodes next.node) next later refl sent.1
              (λ is. let onward = one.onward is in goes_along later next onward.0 onward.1 sent.1),
        )

  -- ---- the last hop
  last_hop : (packet : Packet) (later : List PortRef) (here next last : PortRef) → Goes fabric.nodes fabric.cables packet here (next ∷ later) last
      → (before : PortRef) × Passes fabric.nodes fabric.cables packet before last
  last_hop packet [] here next last goes =
      (here, subst (λ (p : PortRef). Passes fabric.nodes fabric.cables packet here p) goes.1 goes.0)
  last_hop packet (one ∷ later) here next last goes = last_hop packet later next one last goes.1

  -- ---- what a port sends
  pub first_switch : (from : PortRef) (sender : AdapterState) (begin : IsCabledPort fabric from sender) → is_switch_at fabric.nodes begin.far.node ≡ true
  first_switch from sender begin =
      one_switch fabric.nodes fabric.cables from begin.far free.cables begin.cable (no_switch fabric.nodes from sender begin.there)

  module _ (from : PortRef) (sender : AdapterState) (packet : Packet) (begin : IsCabledPort fabric from sender) where
    -- comes in at the first switch
    first_at : AtSwitch fabric.nodes begin.far
    first_at = at_switch fabric.nodes begin.far (first_switch from sender begin) (far_is_port fabric.nodes fabric.cables from begin.far free.cables begin.cable)

    comes_in : (dlid p_key : ℕ) → IsStamped sender dlid p_key packet → passes_inbound first_at.held.ports begin.far.port packet.p_key ≡ true
    comes_in dlid p_key is =
        let full = faces begin.far from first_at sender (turned_round from begin.far begin.cable) begin.there in
        let passes : accepts packet.p_key (stored_keys first_at.port.keys) ≡ true =
        ap (λ (key : ℕ). accepts key (stored_keys first_at.port.keys)) is.key_is ∙ held_passes first_at.port.keys sender.keys p_key full is.held in
        rw first_at.port_is (does_pass first_at.port.info.partition_enforcement_inbound _ passes)

    -- and is delivered at the end of a way
    pub delivered_by : (at : PortRef) (port : AdapterState) (dlid p_key : ℕ) → IsStamped sender dlid p_key packet → adapter_at fabric.nodes at ≡ Some port
        → accepts p_key (stored_keys port.keys) ≡ true → (way : List PortRef) → IsSentBy fabric packet begin.far way at
        → IsDelivered fabric.nodes fabric.cables from packet at port
    delivered_by at port dlid p_key is there accepts_key way sent =
        let accepted : accepts packet.p_key (stored_keys port.keys) ≡ true = rw is.key_is accepts_key in
        record {
          first = begin.far;
          cable = begin.cable;
          way = way;
          goes = goes_along packet at port there accepted way begin.far first_at (comes_in dlid p_key is) sent;
          there = there;
          accepts = accepted;
        }

    -- where it is delivered a last hop led
    pub record Arrival (at : PortRef) (port : AdapterState) : Type 0 where
      pub before : PortRef
      pub passes : Passes fabric.nodes fabric.cables packet before at
      pub cabled : IsCabledPort fabric at port

    arrives_by : (way : List PortRef) (first at : PortRef) → first ≡ begin.far → Goes fabric.nodes fabric.cables packet first way at
        → is_switch_at fabric.nodes at.node ≡ false → (before : PortRef) × Passes fabric.nodes fabric.cables packet before at
    arrives_by [] first at same goes none =
        let here : is_switch_at fabric.nodes begin.far.node ≡ false = rw (← same, goes) none in
        absurd (false≢true (sym here ∙ first_switch from sender begin))
    arrives_by (next ∷ later) first at same goes none = last_hop packet later first next at goes

    pub first_is : (at : PortRef) (port : AdapterState) (delivered : IsDelivered fabric.nodes fabric.cables from packet at port) → delivered.first ≡ begin.far
    first_is at port delivered = same_Some _ _ (sym delivered.cable ∙ begin.cable)

    pub arrives : (at : PortRef) (port : AdapterState) → IsDelivered fabric.nodes fabric.cables from packet at port → Arrival at port
    arrives at port delivered =
        let hop_before = arrives_by delivered.way delivered.first at (first_is at port delivered) delivered.goes (no_switch fabric.nodes at port delivered.there) in
        record {
          before = hop_before.0;
          passes = hop_before.1;
          cabled = record {
            there = delivered.there;
            far = record { node = hop_before.0.node; port = hop_before.1.out };
            cable = turned_round (record { node = hop_before.0.node; port = hop_before.1.out }) at hop_before.1.cable;
          };
        }
