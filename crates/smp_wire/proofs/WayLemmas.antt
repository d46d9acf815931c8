-- The way of a unicast packet: there is one, and one that ends is no longer than there are ends of cables.
use Rattle.std.proofs.Common.{ℕ, ◌+◌, ◌-◌, ◌*◌, ◌≡◌, ◌<◌, ◌≤◌, ◌==◌, ◌∙◌, ap, refl, sym, subst, length-append, not, ◌||◌, Bool, true, false, List, [], ◌∷◌, ◌++◌, length, flat_map, slice_get, Option, Some, None, if◌then◌else◌, arith}
use Rattle.std.specs.List.{list_any}
use Rattle.std.specs.Option.{option_and_then, option_map_or}
use Rattle.std.proofs.lemmas.Bool.{and_from, eqb-true, eq-eqb, not_from_false}
use Rattle.std.proofs.lemmas.Option.{same_Some}
use Rattle.std.proofs.lemmas.Map.Made.{length-le_from_is_member}
use Rattle.data_packet.specs.declared.packet.Packet.{Packet}
use Rattle.fabric_parts.specs.declared.cable.Cable.{Cable}
use Rattle.fabric_parts.specs.declared.cable.PortRef.{PortRef}
use Rattle.fabric_parts.specs.Cable.{far_end, is_same_port}
use Rattle.fabric_parts.specs.Lid.{is_multicast}
use Rattle.port_model.specs.AdapterState.{AdapterState}
use Rattle.switch_model.specs.Forwarding.{out_port}
use Rattle.smp_wire.proofs.CableLemmas.{count_ends, far_is_end, ports_equiv, same_port}
use Rattle.step_results.proofs.DistinctLemmas.{all_differ, distinct}
use Rattle.smp_wire.specs.FabricState.{adapter_port}
use Rattle.smp_wire.specs.Good.{ends_of}
use Rattle.smp_wire.specs.declared.node.Node.{Node}
use Rattle.smp_wire.specs.declared.node.Node.TheVariants.{Switch, Adapter}
use Rattle.smp_wire.specs.Deliveries.{Goes, IsDelivered, Passes, adapter_at, adapter_ports, sends_on}
use Rattle.smp_wire.specs.DeliveryLaws.{UnicastGoesOneWay, UnicastReachesOnePort}
use Rattle.smp_wire.specs.Unicast.{IsEnd, next_port, node_out_port, out_port_at}

-- ---- one step
is_out : (found : Option ℕ) (out : ℕ) → option_map_or (λ port. port == out) found false ≡ true → found ≡ Some out
is_out None out is = absurd (cc)
is_out (Some port) out is = ap (λ (n : ℕ). Some n) (eqb-true port out is)

node_sends : (found : Option Node) (number out : ℕ) (packet : Packet) → is_multicast packet.dlid ≡ false → option_map_or (λ node. sends_on node number packet out) found false ≡ true
    → option_and_then (λ node. node_out_port node number packet) found ≡ Some out
node_sends None number out packet unicast is = absurd (cc)
node_sends (Some (Switch held)) number out packet unicast is = is_out (out_port held number packet) out (rw unicast at is)
node_sends (Some (Adapter ports)) number out packet unicast is = absurd (cc)

sends_node : (found : Option Node) (number out : ℕ) (packet : Packet) → is_multicast packet.dlid ≡ false → option_and_then (λ node. node_out_port node number packet) found ≡ Some out
    → option_map_or (λ node. sends_on node number packet out) found false ≡ true
sends_node None number out packet unicast is = absurd (cc)
sends_node (Some (Switch held)) number out packet unicast is = rw (unicast, is) (eq-eqb out out refl)
sends_node (Some (Adapter ports)) number out packet unicast is = absurd (cc)

pub to_next : (nodes : List Node) (cables : List Cable) (packet : Packet) (here next : PortRef) → is_multicast packet.dlid ≡ false
    → Passes nodes cables packet here next → next_port nodes cables packet here ≡ Some next
to_next nodes cables packet here next unicast passes =
    let out = node_sends (slice_get nodes here.node) here.port passes.out packet unicast passes.sends in
    rw out passes.cable

by_out : (nodes : List Node) (cables : List Cable) (packet : Packet) (here next : PortRef) (found : Option ℕ) → is_multicast packet.dlid ≡ false
    → out_port_at nodes here packet ≡ found
    → option_and_then (λ out. far_end cables (record { node = here.node; port = out })) found ≡ Some next → Passes nodes cables packet here next
by_out nodes cables packet here next None unicast found is = absurd (cc)
by_out nodes cables packet here next (Some out) unicast found is =
    record { out = out; sends = sends_node (slice_get nodes here.node) here.port out packet unicast found; cable = is }

pub from_next : (nodes : List Node) (cables : List Cable) (packet : Packet) (here next : PortRef) → is_multicast packet.dlid ≡ false
    → next_port nodes cables packet here ≡ Some next → Passes nodes cables packet here next
from_next nodes cables packet here next unicast is = by_out nodes cables packet here next (out_port_at nodes here packet) unicast refl is

pub goes_one_way : UnicastGoesOneWay
goes_one_way nodes cables packet here next unicast = (to_next nodes cables packet here next unicast, from_next nodes cables packet here next unicast)

-- ---- no channel adapter sends on
pub in_none : (none : Bool) (place : ℕ) (port : AdapterState) → (if none then None else slice_get {X = AdapterState} [] place) ≡ Some port → ⊥
in_none true place port is = cc
in_none false place port is = cc

node_stops : (found : Option Node) (number : ℕ) (packet : Packet) (port : AdapterState)
    → option_and_then (λ node. adapter_port (adapter_ports node) number) found ≡ Some port
    → option_and_then (λ node. node_out_port node number packet) found ≡ None
node_stops None number packet port is = refl
node_stops (Some (Switch held)) number packet port is = absurd (in_none (number == 0) (number - 1) port is)
node_stops (Some (Adapter ports)) number packet port is = refl

pub adapter_stops : (nodes : List Node) (cables : List Cable) (packet : Packet) (at : PortRef) (port : AdapterState)
    → adapter_at nodes at ≡ Some port → next_port nodes cables packet at ≡ None
adapter_stops nodes cables packet at port there =
    ap (option_and_then (λ out. far_end cables (record { node = at.node; port = out })))
    (node_stops (slice_get nodes at.node) at.port packet port there)

-- ---- one way
module _ (nodes : List Node) (cables : List Cable) (packet : Packet) (unicast : is_multicast packet.dlid ≡ false) where
  abbrev Stops : PortRef → Type 0
  Stops here = next_port nodes cables packet here ≡ None

  abbrev GoesBy : PortRef → List PortRef → PortRef → Type 0
  GoesBy here way last = Goes nodes cables packet here way last

  same_next : (here a b : PortRef) → Passes nodes cables packet here a → Passes nodes cables packet here b → a ≡ b
  same_next here a b one other = same_Some a b (sym (to_next nodes cables packet here a unicast one) ∙ to_next nodes cables packet here b unicast other)

  stops_there : (here last next : PortRef) → here ≡ last → Stops last → Passes nodes cables packet here next → ⊥
  stops_there here last next same stops passes =
      let is = to_next nodes cables packet here next unicast passes in
      let ends = ap (next_port nodes cables packet) same ∙ stops in
      cc

  pub same_end : (one other : List PortRef) (here a b : PortRef) → GoesBy here one a → GoesBy here other b → Stops a → Stops b → a ≡ b
  same_end [] [] here a b g h stops ends = sym g ∙ h
  same_end [] (next ∷ later) here a b g h stops ends = absurd (stops_there here a next g stops h.0)
  same_end (next ∷ later) [] here a b g h stops ends = absurd (stops_there here b next h ends g.0)
  same_end (n ∷ one) (m ∷ other) here a b g h stops ends =
      same_end one other n a b g.1 (subst (λ (p : PortRef). GoesBy p other b) (same_next here m n h.0 g.0) h.1) stops ends

  pub no_longer : (one other : List PortRef) (here a b : PortRef) → GoesBy here one a → GoesBy here other b → Stops b → length one ≤ length other
  no_longer [] other here a b g h ends = omega arith
  no_longer (next ∷ later) [] here a b g h ends = absurd (stops_there here b next h ends g.0)
  no_longer (n ∷ one) (m ∷ other) here a b g h ends =
      let rest = no_longer one other n a b g.1 (subst (λ (p : PortRef). GoesBy p other b) (same_next here m n h.0 g.0) h.1) ends in
      omega (arith, rest)

  -- from a port on a way it is not so far
  abbrev Rest : PortRef → List PortRef → PortRef → Type 0
  Rest port way last = (rest : List PortRef) × GoesBy port rest last × (length rest < length way)

  later_rest : (port next last : PortRef) (later : List PortRef) → Rest port later last → Rest port (next ∷ later) last
  later_rest port next last later rest = (rest.0, rest.1, omega (arith, rest.2))

  rest_by : (b : Bool) (port next last : PortRef) (later : List PortRef) → is_same_port port next ≡ b → GoesBy next later last
      → (list_any (is_same_port port) later ≡ true → Rest port later last) → (b || list_any (is_same_port port) later) ≡ true
      → Rest port (next ∷ later) last
  rest_by true port next last later same goes more on =
      (later, subst (λ (p : PortRef). GoesBy p later last) (sym (same_port port next same)) goes, omega arith)
  rest_by false port next last later other goes more on = later_rest port next last later (more on)

  rest_of : (way : List PortRef) (port here last : PortRef) → GoesBy here way last → list_any (is_same_port port) way ≡ true → Rest port way last
  rest_of [] port here last goes on = absurd (cc)
  rest_of (next ∷ later) port here last goes on =
      rest_by (is_same_port port next) port next last later refl goes.1 (rest_of later port next last goes.1) on

  -- so a way that ends comes to no port twice
  not_again : (b : Bool) (way : List PortRef) (here last : PortRef) → GoesBy here way last → Stops last
      → list_any (is_same_port here) way ≡ b → b ≡ false
  not_again false way here last goes ends is = refl
  not_again true way here last goes ends is =
      let rest = rest_of way here here last goes is in
      let long = no_longer way rest.0 here last last goes rest.1 ends in
      let short = rest.2 in
      absurd (omega (arith, long, short))

  all_differ_on : (way : List PortRef) (here last : PortRef) → GoesBy here way last → Stops last → all_differ is_same_port way ≡ true
  all_differ_on [] here last goes ends = refl
  all_differ_on (next ∷ later) here last goes ends =
      and_from (not (list_any (is_same_port next) later)) (all_differ is_same_port later)
      (not_from_false _ (not_again (list_any (is_same_port next) later) later next last goes.1 ends refl))
      (all_differ_on later next last goes.1 ends)

  -- and each is an end of a cable
  end_by : (b : Bool) (port next here : PortRef) (later : List PortRef) → is_same_port port next ≡ b → Passes nodes cables packet here next
      → (list_any (is_same_port port) later ≡ true → list_any (is_same_port port) (flat_map ends_of cables) ≡ true)
      → (b || list_any (is_same_port port) later) ≡ true → list_any (is_same_port port) (flat_map ends_of cables) ≡ true
  end_by true port next here later same passes more on =
      far_is_end cables (record { node = here.node; port = passes.out }) next port same passes.cable
  end_by false port next here later other passes more on = more on

  ends_on : (way : List PortRef) (port here last : PortRef) → GoesBy here way last → list_any (is_same_port port) way ≡ true
      → list_any (is_same_port port) (flat_map ends_of cables) ≡ true
  ends_on [] port here last goes on = absurd (cc)
  ends_on (next ∷ later) port here last goes on =
      end_by (is_same_port port next) port next here later refl goes.0 (ends_on later port next last goes.1) on

  pub few_ends : (way : List PortRef) (here last : PortRef) → GoesBy here way last → Stops last → length way ≤ length (flat_map ends_of cables)
  few_ends way here last goes ends =
      length-le_from_is_member ports_equiv way (flat_map ends_of cables) (distinct is_same_port way (all_differ_on way here last goes ends))
      (λ port on. ends_on way port here last goes on)

  -- a way that ends has no more hops than there are ends of cables
  pub few_hops : (way : List PortRef) (here last : PortRef) → GoesBy here way last → Stops last → length way ≤ 2 * length cables
  few_hops way here last goes ends = rw (count_ends cables) at few_ends way here last goes ends

-- ---- one port
pub reaches_one_port : UnicastReachesOnePort
reaches_one_port nodes cables from packet a b p q unicast one other =
    let first = same_Some one.first other.first (sym one.cable ∙ other.cable) in
    same_end nodes cables packet unicast one.way other.way one.first a b one.goes
    (subst (λ (port : PortRef). Goes nodes cables packet port other.way b) (sym first) other.goes)
    (adapter_stops nodes cables packet a p one.there)
    (adapter_stops nodes cables packet b q other.there)

-- ---- a packet that has gone so many hops
pub record IsOnWay (nodes : List Node) (cables : List Cable) (packet : Packet) (first : PortRef) (hops : ℕ) (here : PortRef) : Type 0 where
  pub way : List PortRef
  pub goes : Goes nodes cables packet first way here
  pub count : length way ≡ hops

pub begins : (nodes : List Node) (cables : List Cable) (packet : Packet) (first : PortRef) → IsOnWay nodes cables packet first 0 first
begins nodes cables packet first = record { way = []; goes = refl; count = refl }

pub one_more : (nodes : List Node) (cables : List Cable) (packet : Packet) (way : List PortRef) (first here next : PortRef) → Goes nodes cables packet first way here
    → Passes nodes cables packet here next → Goes nodes cables packet first (way ++ next ∷ []) next
one_more nodes cables packet [] first here next goes passes = (subst (λ (p : PortRef). Passes nodes cables packet p next) (sym goes) passes, refl)
one_more nodes cables packet (one ∷ way) first here next goes passes = (goes.0, one_more nodes cables packet way one here next goes.1 passes)

pub goes_on : (nodes : List Node) (cables : List Cable) (packet : Packet) (first here next : PortRef) (hops : ℕ)
    → is_multicast packet.dlid ≡ false → IsOnWay nodes cables packet first hops here → next_port nodes cables packet here ≡ Some next
    → IsOnWay nodes cables packet first (hops + 1) next
goes_on nodes cables packet first here next hops unicast on is =
    let count = on.count in
    let more = length-append on.way (next ∷ []) in
    record {
      way = on.way ++ next ∷ [];
      goes = one_more nodes cables packet on.way first here next on.goes (from_next nodes cables packet here next unicast is);
      count = omega (arith, count, more);
    }

-- after more hops than there are ends of cables the way has no end
pub goes_round : (nodes : List Node) (cables : List Cable) (packet : Packet) (first here last : PortRef) (hops : ℕ)
    → is_multicast packet.dlid ≡ false → IsOnWay nodes cables packet first hops here → 2 * length cables < hops → IsEnd nodes cables packet first last → ⊥
goes_round nodes cables packet first here last hops unicast on many end =
    let far = no_longer nodes cables packet unicast on.way end.way first here last on.goes end.goes end.ends in
    let few = few_hops nodes cables packet unicast end.way first last end.goes end.ends in
    let count = on.count in
    omega (arith, many, far, few, count)

-- ---- who is reached is at the end of the way
module _ (nodes : List Node) (cables : List Cable) (packet : Packet) (unicast : is_multicast packet.dlid ≡ false) (from first at : PortRef) (port : AdapterState) where
  pub way_ends : far_end cables from ≡ Some first → IsDelivered nodes cables from packet at port → IsEnd nodes cables packet first at
  way_ends cable is = record {
    way = is.way;
    goes = subst (λ (p : PortRef). Goes nodes cables packet p is.way at) (same_Some is.first first (sym is.cable ∙ cable)) is.goes;
    ends = adapter_stops nodes cables packet at port is.there;
  }

  pub at_end : (last : PortRef) → far_end cables from ≡ Some first → IsEnd nodes cables packet first last
      → IsDelivered nodes cables from packet at port → adapter_at nodes last ≡ Some port
  at_end last cable end is =
      let other = way_ends cable is in
      ap (adapter_at nodes) (same_end nodes cables packet unicast end.way other.way first last at end.goes other.goes end.ends other.ends) ∙ is.there
