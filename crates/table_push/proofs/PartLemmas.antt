-- A part of ports, as their P_Key tables, that changes by the GUID of their node and their number there.
use Rattle.std.proofs.Common.{ℕ, ◌≡◌, ◌+◌, ◌-◌, ◌==◌, ◌&&◌, ◌∙◌, ap, refl, sym, Bool, true, false, if◌then◌else◌, List, [], ◌∷◌, map, slice_get, slice_set, Option, Some, None, option_map, arith}
use Rattle.std.proofs.lemmas.Bool.{eq-eqb, eqb-false}
use Rattle.std.proofs.lemmas.Simd.{map-map}
use Rattle.std.proofs.Math.Nat.{zero-add}
use Rattle.attr_tables.specs.declared.port_info.PortInfo.{PortInfo}
use Rattle.port_model.specs.AdapterState.{AdapterState}
use Rattle.smp_wire.specs.FabricState.{FabricState, adapter_port}
use Rattle.smp_wire.specs.Good.{node_guid}
use Rattle.smp_wire.specs.declared.node.Node.{Node}
use Rattle.smp_wire.specs.declared.node.Node.TheVariants.{Switch, Adapter}
use Rattle.switch_model.specs.SwitchState.{SwitchState}
use Rattle.switch_model.specs.declared.switch_port.SwitchPort.{SwitchPort}
use Rattle.table_push.specs.Nodes.{numbered, on_port, ports_by, with_nodes}
use Rattle.table_push.proofs.NumberedLemmas.{got_numbered, kept_at, kept_from_1, numbered_alike, numbered_at, numbered_same, numbered_twice}

-- ---- a part of something
-- a part, and the whole with another in its place
pub record Part (P X : Type 0) : Type 0 where
  pub of : P → X
  pub put : X → P → P
  pub has : (x : X) (whole : P) → of (put x whole) ≡ x
  pub last : (x y : X) (whole : P) → put x (put y whole) ≡ put x whole
  pub own : (whole : P) → put (of whole) whole ≡ whole

module _ {P X : Type 0} (part : Part P X) where
  abbrev pub changes : (ℕ → X → X) → ℕ → P → P
  changes change number whole = part.put (change number (part.of whole)) whole

  one_number : (change : X → X) (number first k : ℕ) (wholes : List P) (whole : P) → number ≡ first + k → slice_get wholes k ≡ Some whole
      → numbered (changes (λ n held. if number == n then change held else held)) first wholes ≡ slice_set wholes k (part.put (change (part.of whole)) whole)
  one_number change number first k wholes whole is there =
      numbered_alike _ (λ n one. if number == n then part.put (change (part.of one)) one else one) first wholes (λ n one. by (number == n) one)
      ∙ numbered_at (λ one. part.put (change (part.of one)) one) number first k wholes whole is there
    where
      by : (b : Bool) (one : P) → part.put (if b then change (part.of one) else part.of one) one ≡ (if b then part.put (change (part.of one)) one else one)
      by true one = refl
      by false one = part.own one

  none_changes : (first : ℕ) (wholes : List P) → numbered (changes (λ n held. held)) first wholes ≡ wholes
  none_changes first wholes = numbered_same _ first wholes (λ n one. part.own one)

  both_change : (c d h : ℕ → X → X) (first : ℕ) (wholes : List P) → ((n : ℕ) (held : X) → c n (d n held) ≡ h n held)
      → numbered (changes c) first (numbered (changes d) first wholes) ≡ numbered (changes h) first wholes
  both_change c d h first wholes each =
      numbered_twice _ _ (changes h) first wholes
      (λ n one. part.last _ _ one ∙ ap (λ (x : X). part.put x one) (ap (c n) (part.has (d n (part.of one)) one) ∙ each n (part.of one)))

  part_got : (change : ℕ → X → X) (first : ℕ) (wholes : List P) (k : ℕ)
      → option_map part.of (slice_get (numbered (changes change) first wholes) k) ≡ option_map (change (first + k)) (option_map part.of (slice_get wholes k))
  part_got change first wholes k =
      ap (option_map part.of) (got_numbered (changes change) first wholes k) ∙ by (slice_get wholes k)
    where
      by : (o : Option P) → option_map part.of (option_map (changes change (first + k)) o) ≡ option_map (change (first + k)) (option_map part.of o)
      by None = refl
      by (Some one) = ap (λ (x : X). Some x) (part.has _ one)

-- ---- a part that ports of switches have, and ports of channel adapters
pub record PortPart (X : Type 0) : Type 0 where
  pub switch : Part SwitchPort X
  pub adapter : Part AdapterState X
  pub guid : (x : X) (port : AdapterState) → (adapter.put x port).node_guid ≡ port.node_guid

abbrev pub keys_part : PortPart (List ℕ)
keys_part = record {
  switch = record {
    of = λ port. port.keys;
    put = λ keys port. record port { keys = keys };
    has = λ keys port. refl;
    last = λ keys other port. refl;
    own = λ port. refl;
  };
  adapter = record {
    of = λ port. port.keys;
    put = λ keys port. record port { keys = keys };
    has = λ keys port. refl;
    last = λ keys other port. refl;
    own = λ port. refl;
  };
  guid = λ keys port. refl;
}

abbrev pub info_part : PortPart PortInfo
info_part = record {
  switch = record {
    of = λ port. port.info;
    put = λ info port. record port { info = info };
    has = λ info port. refl;
    last = λ info other port. refl;
    own = λ port. refl;
  };
  adapter = record {
    of = λ port. port.info;
    put = λ info port. record port { info = info };
    has = λ info port. refl;
    last = λ info other port. refl;
    own = λ port. refl;
  };
  guid = λ info port. refl;
}

module _ {X : Type 0} (part : PortPart X) where
  abbrev pub parts_by : (ℕ → ℕ → X → X) → Node → Node
  parts_by change = ports_by (λ guid. changes part.switch (change guid)) (λ guid. changes part.adapter (change guid))

  abbrev pub with_parts : (ℕ → ℕ → X → X) → FabricState → FabricState
  with_parts change fabric = with_nodes (parts_by change) fabric

  -- the part of the port of that number
  abbrev pub part_at : Node → ℕ → Option X
  part_at (Switch held) number = option_map part.switch.of (slice_get held.ports number)
  part_at (Adapter ports) number = option_map part.adapter.of (adapter_port ports number)

  pub same_guid : (change : ℕ → X → X) (ports : List AdapterState)
      → node_guid (Adapter (numbered (changes part.adapter change) 1 ports)) ≡ node_guid (Adapter ports)
  same_guid change [] = refl
  same_guid change (port ∷ ports) = part.guid _ port

  -- ---- one port, by what stands in the list of ports of its node
  pub switch_part_at : (change : X → X) (guid number : ℕ) (held : SwitchState) (port : SwitchPort) → held.node_guid ≡ guid
      → slice_get held.ports number ≡ Some port
      → parts_by (on_port guid number change) (Switch held)
      ≡ Switch (record held { ports = slice_set held.ports number (part.switch.put (change (part.switch.of port)) port) })
  switch_part_at change guid number held port is there =
      let own : (guid == held.node_guid) ≡ true = eq-eqb guid held.node_guid (sym is) in
      (λ i. Switch (record held {
        ports = numbered (changes part.switch (λ n x. if own i && (number == n) then change x else x)) 0 held.ports;
      }))
      ∙ ap (λ (ports : List SwitchPort). Switch (record held { ports = ports }))
      (one_number part.switch change number 0 number held.ports port (sym (zero-add number)) there)

  pub adapter_part_at : (change : X → X) (guid k : ℕ) (ports : List AdapterState) (port : AdapterState) → node_guid (Adapter ports) ≡ guid
      → slice_get ports k ≡ Some port
      → parts_by (on_port guid (1 + k) change) (Adapter ports) ≡ Adapter (slice_set ports k (part.adapter.put (change (part.adapter.of port)) port))
  adapter_part_at change guid k ports port is there =
      let own : (guid == node_guid (Adapter ports)) ≡ true = eq-eqb guid (node_guid (Adapter ports)) (sym is) in
      (λ i. Adapter (numbered (changes part.adapter (λ n x. if own i && (1 + k == n) then change x else x)) 1 ports))
      ∙ ap (λ (all : List AdapterState). Adapter all) (one_number part.adapter change (1 + k) 1 k ports port refl there)

  pub other_node : (change : X → X) (guid number : ℕ) (node : Node) → (guid == node_guid node) ≡ false
      → parts_by (on_port guid number change) node ≡ node
  other_node change guid number (Switch held) apart =
      (λ i. Switch (record held {
        ports = numbered (changes part.switch (λ n x. if apart i && (number == n) then change x else x)) 0 held.ports;
      }))
      ∙ ap (λ (ports : List SwitchPort). Switch (record held { ports = ports })) (none_changes part.switch 0 held.ports)
  other_node change guid number (Adapter ports) apart =
      (λ i. Adapter (numbered (changes part.adapter (λ n x. if apart i && (number == n) then change x else x)) 1 ports))
      ∙ ap (λ (all : List AdapterState). Adapter all) (none_changes part.adapter 1 ports)

  -- ---- one change after another
  twice_by : (c d h : ℕ → ℕ → X → X) → ((guid number : ℕ) (held : X) → c guid number (d guid number held) ≡ h guid number held)
      → (node : Node) → parts_by c (parts_by d node) ≡ parts_by h node
  twice_by c d h each (Switch held) =
      ap (λ (ports : List SwitchPort). Switch (record held { ports = ports }))
      (both_change part.switch (c held.node_guid) (d held.node_guid) (h held.node_guid) 0 held.ports (each held.node_guid))
  twice_by c d h each (Adapter ports) =
      let guid : ℕ = node_guid (Adapter ports) in
      ap (λ (g : ℕ). Adapter (numbered (changes part.adapter (c g)) 1 (numbered (changes part.adapter (d guid)) 1 ports))) (same_guid (d guid) ports)
      ∙ ap (λ (all : List AdapterState). Adapter all) (both_change part.adapter (c guid) (d guid) (h guid) 1 ports (each guid))

  pub parts_twice : (c d h : ℕ → ℕ → X → X) (fabric : FabricState)
      → ((guid number : ℕ) (held : X) → c guid number (d guid number held) ≡ h guid number held)
      → with_parts c (with_parts d fabric) ≡ with_parts h fabric
  parts_twice c d h fabric each =
      ap (λ (nodes : List Node). record fabric { nodes = nodes })
      (map-map (parts_by c) (parts_by d) fabric.nodes ∙ (λ place. map (λ node. twice_by c d h each node place) fabric.nodes))

  stays_by : (node : Node) → parts_by (λ guid number held. held) node ≡ node
  stays_by (Switch held) = ap (λ (ports : List SwitchPort). Switch (record held { ports = ports })) (none_changes part.switch 0 held.ports)
  stays_by (Adapter ports) = ap (λ (all : List AdapterState). Adapter all) (none_changes part.adapter 1 ports)

  all_as_they_are : (nodes : List Node) → map (parts_by (λ guid number held. held)) nodes ≡ nodes
  all_as_they_are [] = refl
  all_as_they_are (node ∷ nodes) =
      let head = stays_by node in
      let tail = all_as_they_are nodes in
      λ place. head place ∷ tail place

  pub parts_stay : (c : ℕ → ℕ → X → X) (fabric : FabricState) → ((guid number : ℕ) (held : X) → c guid number held ≡ held)
      → with_parts c fabric ≡ fabric
  parts_stay c fabric each =
      ap (λ (change : ℕ → ℕ → X → X). with_parts change fabric) (λ place guid number held. each guid number held place)
      ∙ ap (λ (nodes : List Node). record fabric { nodes = nodes }) (all_as_they_are fabric.nodes)

  -- ---- what a port has then
  pub part_after : (change : ℕ → ℕ → X → X) (node : Node) (number : ℕ)
      → part_at (parts_by change node) number ≡ option_map (change (node_guid node) number) (part_at node number)
  part_after change (Switch held) number =
      part_got part.switch (change held.node_guid) 0 held.ports number
      ∙ ap (λ (n : ℕ). option_map (change held.node_guid n) (option_map part.switch.of (slice_get held.ports number))) (zero-add number)
  part_after change (Adapter ports) number = by (number == 0) refl
    where
      by : (b : Bool) → (number == 0) ≡ b
          → option_map part.adapter.of (if b then None else slice_get (numbered (changes part.adapter (change (node_guid (Adapter ports)))) 1 ports) (number - 1))
          ≡ option_map (change (node_guid (Adapter ports)) number) (option_map part.adapter.of (if b then None else slice_get ports (number - 1)))
      by true is = refl
      by false is =
          let some = eqb-false number 0 is in
          let counted : 1 + (number - 1) ≡ number = omega (arith, some) in
          part_got part.adapter (change (node_guid (Adapter ports))) 1 ports (number - 1)
          ∙ ap (λ (n : ℕ). option_map (change (node_guid (Adapter ports)) n) (option_map part.adapter.of (slice_get ports (number - 1)))) counted

-- ---- two parts of which a change of one leaves the other
pub record AreApart {X Y : Type 0} (one : PortPart X) (other : PortPart Y) : Type 0 where
  pub switch : (x : X) (port : SwitchPort) → other.switch.of (one.switch.put x port) ≡ other.switch.of port
  pub adapter : (x : X) (port : AdapterState) → other.adapter.of (one.adapter.put x port) ≡ other.adapter.of port

pub other_part : {X Y : Type 0} (one : PortPart X) (other : PortPart Y) → AreApart one other → (change : ℕ → ℕ → X → X) (node : Node) (number : ℕ)
    → part_at other (parts_by one change node) number ≡ part_at other node number
other_part one other apart change (Switch held) number =
    kept_at (changes one.switch (change held.node_guid)) other.switch.of 0 held.ports number (λ n port. apart.switch _ port)
other_part one other apart change (Adapter ports) number =
    kept_from_1 (changes one.adapter (change (node_guid (Adapter ports)))) other.adapter.of number ports (number == 0) (λ n port. apart.adapter _ port)
