-- A unicast packet is accepted in its trace if and only if it is delivered.
use Rattle.std.proofs.Common.{ℕ, zero, suc, ◌+◌, ◌*◌, ◌≡◌, ◌-◌, ◌==◌, ◌||◌, ◌<◌, ◌⊎◌, ◌∙◌, inl, inr, ap, refl, sym, subst, arith, Bool, true, false, if◌then◌else◌, List, [], ◌∷◌, ◌++◌, length, is_some, slice_get, Option, Some, None}
use Rattle.std.specs.List.{Contains, list_any, slice_index_or}
use Rattle.std.specs.Option.{option_and_then, option_map_or}
use Rattle.std.proofs.lemmas.List.Elements.{Contains-append_cases, Contains-append_right}
use Rattle.std.proofs.lemmas.Option.{same_Some}
use Rattle.data_packet.specs.declared.packet.Packet.{Packet}
use Rattle.fabric_parts.specs.Cable.{far_end, is_same_port}
use Rattle.fabric_parts.specs.Lid.{is_multicast}
use Rattle.fabric_parts.specs.declared.cable.Cable.{Cable}
use Rattle.fabric_parts.specs.declared.cable.PortRef.{PortRef}
use Rattle.packet_trace.specs.Trace.{next_after, step, steps_from, turn_after, turn_at, turn_by, turn_in, turn_of_fate, way_of}
use Rattle.packet_trace.specs.declared.turn.Step.{Step}
use Rattle.packet_trace.specs.declared.turn.Turn.TheVariants.{Accepts, DropsKey, GoesOut, NoCable}
use Rattle.smp_wire.proofs.WayLemmas.{adapter_stops, few_hops, from_next, in_none, no_longer, to_next}
use Rattle.smp_wire.specs.Deliveries.{Goes, IsDelivered, Passes, adapter_at, adapter_ports}
use Rattle.smp_wire.specs.Unicast.{next_port, node_out_port}
use Rattle.port_model.specs.AdapterState.{AdapterState}
use Rattle.port_model.specs.Packets.{accepts_packet}
use Rattle.smp_wire.proofs.CableLemmas.{same_port}
use Rattle.smp_wire.specs.FabricState.{FabricState, adapter_port}
use Rattle.smp_wire.specs.declared.node.Node.{Node}
use Rattle.smp_wire.specs.declared.node.Node.TheVariants.{Switch, Adapter}
use Rattle.switch_model.proofs.FateLemmas.{fates_report_ways_out}
use Rattle.switch_model.specs.Fate.{fate, way_out}
use Rattle.switch_model.specs.declared.fate.Fate.{Fate}
use Rattle.switch_model.specs.declared.fate.Fate.TheVariants.{KeptOut, OverTop, NoPort, Taken, KeptIn, Leaves}

-- ---- one step
by_cable : (cables : List Cable) (here : PortRef) (out : ℕ) (far : Option PortRef) → far_end cables (record { node = here.node; port = out }) ≡ far
    → next_after cables here (turn_of_fate cables here (Leaves out)) ≡ far
by_cable cables here out None is = rw is refl
by_cable cables here out (Some there) is = rw is is

by_fate : (cables : List Cable) (here : PortRef) (met : Fate) → next_after cables here (turn_of_fate cables here met)
    ≡ option_and_then (λ out. far_end cables (record { node = here.node; port = out })) (way_out met)
by_fate cables here KeptOut = refl
by_fate cables here OverTop = refl
by_fate cables here (NoPort entry) = refl
by_fate cables here Taken = refl
by_fate cables here (KeptIn out) = refl
by_fate cables here (Leaves out) = by_cable cables here out (far_end cables (record { node = here.node; port = out })) refl

no_turn : (cables : List Cable) (packet : Packet) (here : PortRef) (port : Option AdapterState)
    → next_after cables here (option_map_or (turn_by packet) port DropsKey) ≡ None
no_turn cables packet here None = refl
no_turn cables packet here (Some port) = by (accepts_packet port packet)
  where
    by : (b : Bool) → next_after cables here (if b then Accepts else DropsKey) ≡ None
    by true = refl
    by false = refl

by_node : (cables : List Cable) (packet : Packet) (here : PortRef) (node : Option Node)
    → next_after cables here (option_map_or (turn_in cables packet here) node DropsKey)
    ≡ option_and_then (λ out. far_end cables (record { node = here.node; port = out })) (option_and_then (λ node. node_out_port node here.port packet) node)
by_node cables packet here None = refl
by_node cables packet here (Some (Switch held)) =
    by_fate cables here (fate held here.port packet)
    ∙ ap (option_and_then (λ out. far_end cables (record { node = here.node; port = out }))) (sym (fates_report_ways_out held here.port packet))
by_node cables packet here (Some (Adapter ports)) = no_turn cables packet here (adapter_port ports here.port)

-- what a step says leads where the packet goes
pub turns_lead : (fabric : FabricState) (packet : Packet) (here : PortRef)
    → next_after fabric.cables here (turn_at fabric packet here) ≡ next_port fabric.nodes fabric.cables packet here
unfolding turn_at
turns_lead fabric packet here = by_node fabric.cables packet here (slice_get fabric.nodes here.node)

-- ---- ports of channel adapters
by_port : (cables : List Cable) (packet : Packet) (at : PortRef) (port : AdapterState) (node : Option Node)
    → option_and_then (λ node. adapter_port (adapter_ports node) at.port) node ≡ Some port
    → option_map_or (turn_in cables packet at) node DropsKey ≡ turn_by packet port
by_port cables packet at port None is = absurd (cc)
by_port cables packet at port (Some (Switch held)) is = absurd (in_none (at.port == 0) (at.port - 1) port is)
by_port cables packet at port (Some (Adapter ports)) is = rw is refl

turn_there : (fabric : FabricState) (packet : Packet) (at : PortRef) (port : AdapterState) → adapter_at fabric.nodes at ≡ Some port
    → turn_at fabric packet at ≡ turn_by packet port
unfolding turn_at
turn_there fabric packet at port there = by_port fabric.cables packet at port (slice_get fabric.nodes at.node) there

accepted_by : (b : Bool) → (if b then Accepts else DropsKey) ≡ Accepts → b ≡ true
accepted_by true is = refl
accepted_by false is = cc

-- a switch never does
by_way_out : (out : ℕ) (b : Bool) → (if b then GoesOut out else NoCable out) ≡ Accepts → ⊥
by_way_out out true is = cc
by_way_out out false is = cc

no_switch : (cables : List Cable) (here : PortRef) (met : Fate) → turn_of_fate cables here met ≡ Accepts → ⊥
no_switch cables here KeptOut is = cc
no_switch cables here OverTop is = cc
no_switch cables here (NoPort entry) is = cc
no_switch cables here Taken is = cc
no_switch cables here (KeptIn out) is = cc
no_switch cables here (Leaves out) is = by_way_out out (is_some (far_end cables (record { node = here.node; port = out }))) is

by_adapter : (packet : Packet) (port : Option AdapterState) → option_map_or (turn_by packet) port DropsKey ≡ Accepts
    → (found : AdapterState) × (port ≡ Some found)
by_adapter packet None is = absurd (cc)
by_adapter packet (Some port) is = (port, refl)

by_its_node : (cables : List Cable) (packet : Packet) (at : PortRef) (node : Option Node) → option_map_or (turn_in cables packet at) node DropsKey ≡ Accepts
    → (port : AdapterState) × (option_and_then (λ node. adapter_port (adapter_ports node) at.port) node ≡ Some port)
by_its_node cables packet at None is = absurd (cc)
by_its_node cables packet at (Some (Switch held)) is = absurd (no_switch cables at (fate held at.port packet) is)
by_its_node cables packet at (Some (Adapter ports)) is = by_adapter packet (adapter_port ports at.port) is

adapter_there : (fabric : FabricState) (packet : Packet) (at : PortRef) → turn_at fabric packet at ≡ Accepts
    → (port : AdapterState) × (adapter_at fabric.nodes at ≡ Some port)
unfolding turn_at
adapter_there fabric packet at is = by_its_node fabric.cables packet at (slice_get fabric.nodes at.node) is

-- ---- in lists
pub at_first : (first : Step) (later : List Step) → Contains (first ∷ later) first
at_first first later = (0, omega arith, refl)

pub in_one : (one x : Step) → Contains (one ∷ []) x → x ≡ one
in_one one x there = by there.0 there.1 there.2
  where
    by : (k : ℕ) → k < length (one ∷ []) → slice_index_or (one ∷ []) k x ≡ x → x ≡ one
    by zero low is = sym is
    by (suc k) low is = absurd (omega (arith, low))

pub nothing_in : (x : Step) → Contains [] x → ⊥
nothing_in x there = let low = there.1 in omega (arith, low)

-- ---- from a trace to a way
module _ (fabric : FabricState) (packet : Packet) (unicast : is_multicast packet.dlid ≡ false) (at : PortRef) where
  abbrev GoesBy : PortRef → List PortRef → Type 0
  GoesBy here way = Goes fabric.nodes fabric.cables packet here way at

  record IsReported (here : PortRef) : Type 0 where
    way : List PortRef
    goes : GoesBy here way
    accepts : turn_at fabric packet at ≡ Accepts

  reported_here : (before : List Step) (here : PortRef) (again : Bool) → list_any (λ one. is_same_port one.at here) before ≡ again
      → step at Accepts ≡ step here (turn_after fabric packet before here) → IsReported here
  reported_here before here true was is =
      let turn : Accepts ≡ turn_after fabric packet before here = ap (λ (one : Step). one.turn) is in
      let other = rw was at turn in cc
  reported_here before here false was is =
      let turn : Accepts ≡ turn_after fabric packet before here = ap (λ (one : Step). one.turn) is in
      let there : at ≡ here = ap (λ (one : Step). one.at) is in
      let same = rw was at turn in
      record { way = []; goes = sym there; accepts = ap (turn_at fabric packet) there ∙ sym same }

  pub leads_on : (before : List Step) (here next : PortRef) (again : Bool) → list_any (λ one. is_same_port one.at here) before ≡ again
      → next_after fabric.cables here (turn_after fabric packet before here) ≡ Some next → Passes fabric.nodes fabric.cables packet here next
  leads_on before here next true was leads = let none = rw was at leads in absurd (cc)
  leads_on before here next false was leads =
      let on = rw was at leads in
      from_next fabric.nodes fabric.cables packet here next unicast (sym (turns_lead fabric packet here) ∙ on)

  abbrev now_at : List Step → PortRef → Step
  now_at before here = step here (turn_after fabric packet before here)

  reported_later : (before : List Step) (here : PortRef) (rest : List Step → PortRef → List Step) (next : Option PortRef)
      → next_after fabric.cables here (now_at before here).turn ≡ next
      → ((there : PortRef) → Contains (rest (before ++ now_at before here ∷ []) there) (step at Accepts) → IsReported there)
      → Contains (option_map_or (rest (before ++ now_at before here ∷ [])) next []) (step at Accepts) → IsReported here
  reported_later before here rest None leads on there = absurd (nothing_in (step at Accepts) there)
  reported_later before here rest (Some next) leads on there =
      let reported = on next there in
      record {
        way = next ∷ reported.way;
        goes = (leads_on before here next (list_any (λ one. is_same_port one.at here) before) refl leads, reported.goes);
        accepts = reported.accepts;
      }

  reported_by : (before : List Step) (here : PortRef) (others : List Step) → (Contains others (step at Accepts) → IsReported here)
      → Contains (now_at before here ∷ []) (step at Accepts) ⊎ Contains others (step at Accepts) → IsReported here
  reported_by before here others on (inl now) =
      reported_here before here (list_any (λ one. is_same_port one.at here) before) refl (in_one (now_at before here) (step at Accepts) now)
  reported_by before here others on (inr after) = on after

  reported_from : (more : ℕ) (before : List Step) (here : PortRef) → Contains (steps_from fabric packet more before here) (step at Accepts) → IsReported here
  reported_from zero before here there = absurd (nothing_in (step at Accepts) there)
  reported_from (suc more) before here there =
      let others = option_map_or (steps_from fabric packet more (before ++ now_at before here ∷ [])) (next_after fabric.cables here (now_at before here).turn) [] in
      reported_by before here others
      (reported_later before here (steps_from fabric packet more) (next_after fabric.cables here (now_at before here).turn) refl
      (λ next. reported_from more (before ++ now_at before here ∷ []) next))
      (Contains-append_cases (now_at before here ∷ []) others (step at Accepts) there)

  -- ---- from a way to a trace
  abbrev Stops : Type 0
  Stops = next_port fabric.nodes fabric.cables packet at ≡ None

  -- from each port before it is further to go
  abbrev Far : List PortRef → List Step → Type 0
  Far way [] = Unit {0}
  Far way (one ∷ before) = ((long : List PortRef) × GoesBy one.at long × (length way < length long)) × Far way before

  apart : (one : Step) (before : List Step) (way : List PortRef) (here : PortRef) (b : Bool) → GoesBy here way → Stops → Far way (one ∷ before)
      → is_same_port one.at here ≡ b → list_any (λ one. is_same_port one.at here) before ≡ false
      → (b || list_any (λ one. is_same_port one.at here) before) ≡ false
  apart one before way here true goes stops far same rest =
      let long = subst (λ (p : PortRef). GoesBy p far.0.0) (same_port one.at here same) far.0.1 in
      let short = no_longer fabric.nodes fabric.cables packet unicast far.0.0 way here at at long goes stops in
      let more = far.0.2 in
      absurd (omega (arith, short, more))
  apart one before way here false goes stops far other rest = rest

  not_before : (before : List Step) (way : List PortRef) (here : PortRef) → GoesBy here way → Stops → Far way before
      → list_any (λ one. is_same_port one.at here) before ≡ false
  not_before [] way here goes stops far = refl
  not_before (one ∷ before) way here goes stops far =
      apart one before way here (is_same_port one.at here) goes stops far refl (not_before before way here goes stops far.1)

  far_more : (before : List Step) (next : PortRef) (later : List PortRef) (now : Step) → GoesBy now.at (next ∷ later) → Far (next ∷ later) before
      → Far later (before ++ now ∷ [])
  far_more [] next later now goes far = ((next ∷ later, goes, omega arith), tt)
  far_more (one ∷ before) next later now goes far =
      let more = far.0.2 in
      ((far.0.0, far.0.1, omega (arith, more)), far_more before next later now goes far.1)

  reported_on : (more : ℕ) (before : List Step) (here : PortRef) (way : List PortRef) → GoesBy here way → Stops → Far way before → length way < more
      → turn_at fabric packet at ≡ Accepts → Contains (steps_from fabric packet more before here) (step at Accepts)
  reported_on zero before here way goes stops far low accepts = absurd (omega (arith, low))
  reported_on (suc more) before here [] goes stops far low accepts =
      let fresh = not_before before [] here goes stops far in
      let now : step here (turn_after fabric packet before here) ≡ step at Accepts = rw fresh (ap (λ (p : PortRef). step p (turn_at fabric packet p)) goes ∙ ap (step at) accepts) in
      subst (λ (one : Step). Contains (steps_from fabric packet (suc more) before here) one) now
      (at_first (step here (turn_after fabric packet before here)) _)
  reported_on (suc more) before here (next ∷ later) goes stops far low accepts =
      let now = step here (turn_after fabric packet before here) in
      let fresh = not_before before (next ∷ later) here goes stops far in
      let leads : next_after fabric.cables here (turn_after fabric packet before here) ≡ Some next =
      rw fresh (turns_lead fabric packet here ∙ to_next fabric.nodes fabric.cables packet here next unicast goes.0) in
      let rest = reported_on more (before ++ now ∷ []) next later goes.1 stops (far_more before next later now goes far) (omega (arith, low)) accepts in
      subst (λ (there : Option PortRef). Contains (now ∷ option_map_or (steps_from fabric packet more (before ++ now ∷ [])) there []) (step at Accepts)) (sym leads)
      (Contains-append_right (now ∷ []) (steps_from fabric packet more (before ++ now ∷ []) next) (step at Accepts) rest)

-- ---- the laws
module _ (fabric : FabricState) (packet : Packet) (unicast : is_multicast packet.dlid ≡ false) (first at : PortRef) where
  pub reported_of : (from : PortRef) (port : AdapterState) → far_end fabric.cables from ≡ Some first → adapter_at fabric.nodes at ≡ Some port
      → IsDelivered fabric.nodes fabric.cables from packet at port → Contains (way_of fabric packet first) (step at Accepts)
  reported_of from port cable there is =
      let stops = adapter_stops fabric.nodes fabric.cables packet at port there in
      let first_is = same_Some is.first first (sym is.cable ∙ cable) in
      let goes = subst (λ (p : PortRef). Goes fabric.nodes fabric.cables packet p is.way at) first_is is.goes in
      let few = few_hops fabric.nodes fabric.cables packet unicast is.way first at goes stops in
      reported_on fabric packet unicast at (2 * length fabric.cables + 1) [] first is.way goes stops tt (omega (arith, few))
      (turn_there fabric packet at port there ∙ rw is.accepts refl)

  pub delivered_of : (from : PortRef) (port : AdapterState) → far_end fabric.cables from ≡ Some first → adapter_at fabric.nodes at ≡ Some port
      → Contains (way_of fabric packet first) (step at Accepts) → IsDelivered fabric.nodes fabric.cables from packet at port
  delivered_of from port cable there reported =
      let is = reported_from fabric packet unicast at (2 * length fabric.cables + 1) [] first reported in
      record {
        first = first;
        cable = cable;
        way = is.way;
        goes = is.goes;
        there = there;
        accepts = accepted_by (accepts_packet port packet) (sym (turn_there fabric packet at port there) ∙ is.accepts);
      }

  pub adapter_of : Contains (way_of fabric packet first) (step at Accepts) → (port : AdapterState) × (adapter_at fabric.nodes at ≡ Some port)
  adapter_of reported = adapter_there fabric packet at (reported_from fabric packet unicast at (2 * length fabric.cables + 1) [] first reported).accepts
