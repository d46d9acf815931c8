-- What is accepted went along the entries, switch by switch.
use Rattle.std.proofs.Common.{ℕ, zero, suc, ◌≡◌, ◌≢◌, ◌<◌, ◌==◌, ◌&&◌, ◌||◌, ◌⊎◌, ◌∙◌, inl, inr, ap, refl, sym, subst, arith, Bool, true, false, not, if◌then◌else◌, List, [], ◌∷◌, ◌++◌, length, get_or, is_some, unwrap_or, nat_le, nat_lt, slice_get, Option, Some, None}
use Rattle.std.specs.Cmp.{both_ways}
use Rattle.std.specs.List.{Contains, list_any}
use Rattle.std.specs.Option.{option_map_or}
use Rattle.std.proofs.lemmas.Bool.{and_from, and_parts, eq-eqb, eqb-true, false≢true, ltb-true, ne_eqb, or_left, or_right}
use Rattle.std.proofs.lemmas.List.Elements.{Contains-append_cases}
use Rattle.std.proofs.lemmas.Option.{unwrap_or-slice_get}
use Rattle.audit_net.specs.Ways.{way}
use Rattle.audit_plan.specs.Plan.{is_on}
use Rattle.audit_loads.specs.Ways.{passes}
use Rattle.audit_net.proofs.WholeLemmas.{ways_are_whole}
use Rattle.data_packet.specs.declared.packet.Packet.{Packet}
use Rattle.dump_file.specs.Dump.{DumpState}
use Rattle.fabric_parts.specs.Cable.{far_end, is_same_port, port}
use Rattle.fabric_parts.specs.declared.cable.Cable.{Cable}
use Rattle.fabric_parts.specs.declared.cable.PortRef.{PortRef}
use Rattle.fabric_loads.specs.HeldRows.{held_entry}
use Rattle.joint_laws.specs.RouteLaws.{over}
use Rattle.joint_laws.specs.Shown.{HasRow, Shows}
use Rattle.packet_trace.specs.Trace.{next_after, step, steps_from, turn_after, turn_at, turn_by, turn_in, turn_of_fate}
use Rattle.packet_trace.specs.declared.turn.Step.{Step}
use Rattle.packet_trace.specs.declared.turn.Turn.{Turn}
use Rattle.packet_trace.specs.declared.turn.Turn.TheVariants.{Again, DropsInbound, DropsTop, DropsEntry, DropsMask, Takes, DropsOutbound, NoCable, Meets, GoesOut, Accepts, DropsKey}
use Rattle.packet_trace.proofs.DeliveryLemmas.{in_one, nothing_in}
use Rattle.port_model.specs.AdapterState.{AdapterState}
use Rattle.port_model.specs.Packets.{accepts_packet}
use Rattle.audit_loops.specs.Channels.{leaves_by}
use Rattle.audit_net.specs.Following.{turn}
use Rattle.audit_net.specs.declared.following.Turn.TheVariants as turns
use Rattle.audit_net.specs.Laws.{ComesBy}
use Rattle.audit_net.specs.Net.{NetState}
use Rattle.smp_wire.specs.FabricState.{FabricState, adapter_port, is_switch, is_switch_at}
use Rattle.smp_wire.specs.declared.node.Node.{Node}
use Rattle.smp_wire.specs.declared.node.Node.TheVariants.{Switch, Adapter}
use Rattle.switch_model.specs.Fate.{fate, fate_by}
use Rattle.switch_model.specs.Forwarding.{passes_inbound, passes_outbound}
use Rattle.switch_model.specs.SwitchState.{SwitchState}
use Rattle.switch_model.specs.declared.fate.Fate.{Fate}
use Rattle.switch_model.specs.declared.fate.Fate.TheVariants.{KeptOut, OverTop, NoPort, Taken, KeptIn, Leaves}
use Rattle.topo_file.specs.Node.{is_switch_at as is_planned_switch}
use Rattle.topo_file.specs.Topology.{TopologyState}
use Rattle.joint_laws.specs.TraceLaws.{IsFabricOf}
use Rattle.joint_laws.specs.Steps.{is_left_by, leaves_at}

-- ---- what leaves a switch
pub record IsEntry (held : SwitchState) (lid out : ℕ) : Type 0 where
  pub entry : held_entry held lid ≡ out
  pub within : out < length held.ports
  pub some : out ≢ 0

by_outbound : (b : Bool) (entry out : ℕ) → (if b then Leaves entry else KeptIn entry) ≡ Leaves out → entry ≡ out
by_outbound true entry out is = cc
by_outbound false entry out is = absurd cc

by_own : (held : SwitchState) (key lid entry out : ℕ) → get_or held.linear lid 255 ≡ entry → nat_lt entry (length held.ports) ≡ true → (b : Bool) → (entry == 0) ≡ b
    → (if b then Taken else (if passes_outbound held.ports entry key then Leaves entry else KeptIn entry)) ≡ Leaves out → IsEntry held lid out
by_own held key lid entry out is low true own leaves = absurd cc
by_own held key lid entry out is low false own leaves =
    let same = by_outbound (passes_outbound held.ports entry key) entry out leaves in
    record {
      entry = is ∙ same;
      within = subst (λ (n : ℕ). n < length held.ports) same (ltb-true entry (length held.ports) low);
      some = λ none. false≢true (sym own ∙ eq-eqb entry 0 (same ∙ none));
    }

by_ports : (held : SwitchState) (key lid entry out : ℕ) → get_or held.linear lid 255 ≡ entry → (b : Bool) → nat_lt entry (length held.ports) ≡ b
    → (if not b then NoPort entry else (if entry == 0 then Taken else (if passes_outbound held.ports entry key then Leaves entry else KeptIn entry))) ≡ Leaves out
    → IsEntry held lid out
by_ports held key lid entry out is true low leaves = by_own held key lid entry out is low (entry == 0) refl leaves
by_ports held key lid entry out is false low leaves = absurd cc

by_entry : (held : SwitchState) (key lid out : ℕ) (entry : Option ℕ) → slice_get held.linear lid ≡ entry
    → option_map_or (fate_by held.ports key) entry OverTop ≡ Leaves out → IsEntry held lid out
by_entry held key lid out None there leaves = absurd cc
by_entry held key lid out (Some entry) there leaves =
    by_ports held key lid entry out (sym (unwrap_or-slice_get held.linear lid 255) ∙ ap (λ (o : Option ℕ). unwrap_or o 255) there) (nat_lt entry (length held.ports)) refl leaves

by_top : (held : SwitchState) (key lid out : ℕ) (b : Bool)
    → (if not b then OverTop else option_map_or (fate_by held.ports key) (slice_get held.linear lid) OverTop) ≡ Leaves out → IsEntry held lid out
by_top held key lid out true leaves = by_entry held key lid out (slice_get held.linear lid) refl leaves
by_top held key lid out false leaves = absurd cc

by_inbound : (held : SwitchState) (key lid out : ℕ) (b : Bool)
    → (if not b then KeptOut else (if not (nat_le lid held.info.linear_fdb_top) then OverTop else option_map_or (fate_by held.ports key) (slice_get held.linear lid) OverTop)) ≡ Leaves out
    → IsEntry held lid out
by_inbound held key lid out true leaves = by_top held key lid out (nat_le lid held.info.linear_fdb_top) leaves
by_inbound held key lid out false leaves = absurd cc

entry_of : (held : SwitchState) (in_port out : ℕ) (packet : Packet) → fate held in_port packet ≡ Leaves out → IsEntry held packet.dlid out
unfolding fate
entry_of held in_port out packet leaves = by_inbound held packet.p_key packet.dlid out (passes_inbound held.ports in_port packet.p_key) leaves

-- ---- a turn by which a packet goes out, and one at which it is accepted
by_cable : (out other : ℕ) (b : Bool) → (if b then GoesOut out else NoCable out) ≡ GoesOut other → (out ≡ other) × (b ≡ true)
by_cable out other true is = let same : out ≡ other = cc in (same, refl)
by_cable out other false is = absurd cc

of_fate : (cables : List Cable) (here : PortRef) (met : Fate) (out : ℕ) → turn_of_fate cables here met ≡ GoesOut out → met ≡ Leaves out
of_fate cables here KeptOut out is = absurd cc
of_fate cables here OverTop out is = absurd cc
of_fate cables here (NoPort entry) out is = absurd cc
of_fate cables here Taken out is = absurd cc
of_fate cables here (KeptIn other) out is = absurd cc
of_fate cables here (Leaves other) out is =
    ap (λ (n : ℕ). Leaves n) (by_cable other out (is_some (far_end cables (record { node = here.node; port = other }))) is).0

no_out : (packet : Packet) (adapter : Option AdapterState) (out : ℕ) → option_map_or (turn_by packet) adapter DropsKey ≡ GoesOut out → ⊥
no_out packet None out is = absurd cc
no_out packet (Some adapter) out is = by (accepts_packet adapter packet) is
  where
    by : (b : Bool) → (if b then Accepts else DropsKey) ≡ GoesOut out → ⊥
    by true same = absurd cc
    by false same = absurd cc

pub record LeavesSwitch (fabric : FabricState) (packet : Packet) (here : PortRef) (out : ℕ) : Type 0 where
  pub held : SwitchState
  pub there : slice_get fabric.nodes here.node ≡ Some (Switch held)
  pub is : IsEntry held packet.dlid out

goes_out : (fabric : FabricState) (packet : Packet) (here : PortRef) (out : ℕ) → turn_at fabric packet here ≡ GoesOut out → LeavesSwitch fabric packet here out
unfolding turn_at
goes_out fabric packet here out is = by (slice_get fabric.nodes here.node) refl is
  where
    by : (node : Option Node) → slice_get fabric.nodes here.node ≡ node → option_map_or (turn_in fabric.cables packet here) node DropsKey ≡ GoesOut out
        → LeavesSwitch fabric packet here out
    by None there same = absurd cc
    by (Some (Switch held)) there same =
        record { held = held; there = there; is = entry_of held here.port out packet (of_fate fabric.cables here (fate held here.port packet) out same) }
    by (Some (Adapter ports)) there same = absurd (no_out packet (adapter_port ports here.port) out same)

no_accept : (cables : List Cable) (here : PortRef) (met : Fate) → turn_of_fate cables here met ≡ Accepts → ⊥
no_accept cables here KeptOut is = absurd cc
no_accept cables here OverTop is = absurd cc
no_accept cables here (NoPort entry) is = absurd cc
no_accept cables here Taken is = absurd cc
no_accept cables here (KeptIn other) is = absurd cc
no_accept cables here (Leaves other) is = by (is_some (far_end cables (record { node = here.node; port = other }))) is
  where
    by : (b : Bool) → (if b then GoesOut other else NoCable other) ≡ Accepts → ⊥
    by true same = absurd cc
    by false same = absurd cc

accepts_there : (fabric : FabricState) (packet : Packet) (here : PortRef) → turn_at fabric packet here ≡ Accepts → is_switch_at fabric.nodes here.node ≡ false
unfolding turn_at
accepts_there fabric packet here is = by (slice_get fabric.nodes here.node) refl is
  where
    by : (node : Option Node) → slice_get fabric.nodes here.node ≡ node → option_map_or (turn_in fabric.cables packet here) node DropsKey ≡ Accepts
        → option_map_or is_switch node false ≡ false
    by None there same = refl
    by (Some (Switch held)) there same = absurd (no_accept fabric.cables here (fate held here.port packet) same)
    by (Some (Adapter ports)) there same = refl

-- ---- the steps of a packet that is accepted
pub data Goes (fabric : FabricState) (packet : Packet) : (here : PortRef) (steps : List Step) → Type 0 where
  Ends : (here : PortRef) → is_switch_at fabric.nodes here.node ≡ false → Goes fabric packet here (step here Accepts ∷ [])
  GoesOn : (here there : PortRef) (out : ℕ) (rest : List Step) → LeavesSwitch fabric packet here out
      → far_end fabric.cables (port here.node out) ≡ Some there → Goes fabric packet there rest → Goes fabric packet here (step here (GoesOut out) ∷ rest)

module _ (fabric : FabricState) (packet : Packet) (end : PortRef) where
  -- it is accepted here, or later
  here_or_later : (now : Step) (rest : List Step) → Contains (now ∷ rest) (step end Accepts) → (now ≡ step end Accepts) ⊎ Contains rest (step end Accepts)
  here_or_later now rest among = by (Contains-append_cases (now ∷ []) rest (step end Accepts) among)
    where
      by : Contains (now ∷ []) (step end Accepts) ⊎ Contains rest (step end Accepts) → (now ≡ step end Accepts) ⊎ Contains rest (step end Accepts)
      by (inl one) = inl (sym (in_one now (step end Accepts) one))
      by (inr later) = inr later

  unless_again : (b : Bool) (here : PortRef) (turned : Turn) → (if b then Again else turn_at fabric packet here) ≡ turned → (turned ≡ Again → ⊥)
      → turn_at fabric packet here ≡ turned
  unless_again true here turned is other = absurd (other (sym is))
  unless_again false here turned is other = is

  pub goes_along : (more : ℕ) (before : List Step) (here : PortRef) → Contains (steps_from fabric packet more before here) (step end Accepts)
      → Goes fabric packet here (steps_from fabric packet more before here)
  goes_along zero before here among = absurd (nothing_in (step end Accepts) among)
  goes_along (suc more) before here among = by (turn_after fabric packet before here) refl (λ out there. goes_along more (before ++ step here (GoesOut out) ∷ []) there) among
    where
      rest_of : Turn → List Step
      rest_of turned = option_map_or (steps_from fabric packet more (before ++ step here turned ∷ [])) (next_after fabric.cables here turned) []

      -- a packet that does not go on is not accepted later
      not_accepted : (turned : Turn) → (turned ≡ Accepts → ⊥) → Contains (step here turned ∷ []) (step end Accepts) → ⊥
      not_accepted turned other one = other (sym (ap (λ (s : Step). s.turn) (in_one (step here turned) (step end Accepts) one)))

      on : (out : ℕ) → ((there : PortRef) → Contains (steps_from fabric packet more (before ++ step here (GoesOut out) ∷ []) there) (step end Accepts)
          → Goes fabric packet there (steps_from fabric packet more (before ++ step here (GoesOut out) ∷ []) there))
          → turn_after fabric packet before here ≡ GoesOut out → (next : Option PortRef) → far_end fabric.cables (port here.node out) ≡ next
          → Contains (step here (GoesOut out) ∷ option_map_or (steps_from fabric packet more (before ++ step here (GoesOut out) ∷ [])) next []) (step end Accepts)
          → Goes fabric packet here (step here (GoesOut out) ∷ option_map_or (steps_from fabric packet more (before ++ step here (GoesOut out) ∷ [])) next [])
      on out further is None cable among = absurd (not_accepted (GoesOut out) (λ same. absurd cc) among)
      on out further is (Some there) cable among = later (here_or_later (step here (GoesOut out)) (steps_from fabric packet more (before ++ step here (GoesOut out) ∷ []) there) among)
        where
          later : (step here (GoesOut out) ≡ step end Accepts) ⊎ Contains (steps_from fabric packet more (before ++ step here (GoesOut out) ∷ []) there) (step end Accepts)
              → Goes fabric packet here (step here (GoesOut out) ∷ steps_from fabric packet more (before ++ step here (GoesOut out) ∷ []) there)
          later (inl same) = let turned : GoesOut out ≡ Accepts = ap (λ (s : Step). s.turn) same in absurd cc
          later (inr rest) =
              GoesOn here there out _ (goes_out fabric packet here out (unless_again (list_any (λ one. is_same_port one.at here) before) here (GoesOut out) is (λ same. absurd cc))) cable
              (further there rest)

      by : (turned : Turn) → turn_after fabric packet before here ≡ turned
          → ((out : ℕ) (there : PortRef) → Contains (steps_from fabric packet more (before ++ step here (GoesOut out) ∷ []) there) (step end Accepts)
          → Goes fabric packet there (steps_from fabric packet more (before ++ step here (GoesOut out) ∷ []) there))
          → Contains (step here turned ∷ rest_of turned) (step end Accepts)
          → Goes fabric packet here (step here turned ∷ rest_of turned)
      by (GoesOut out) is further among = on out (further out) is (far_end fabric.cables (port here.node out)) refl among
      by Accepts is further among = Ends here (accepts_there fabric packet here (unless_again (list_any (λ one. is_same_port one.at here) before) here Accepts is (λ same. absurd cc)))
      by Again is further among = absurd (not_accepted Again (λ same. absurd cc) among)
      by DropsInbound is further among = absurd (not_accepted DropsInbound (λ same. absurd cc) among)
      by DropsTop is further among = absurd (not_accepted DropsTop (λ same. absurd cc) among)
      by (DropsEntry entry) is further among = absurd (not_accepted (DropsEntry entry) (λ same. absurd cc) among)
      by DropsMask is further among = absurd (not_accepted DropsMask (λ same. absurd cc) among)
      by Takes is further among = absurd (not_accepted Takes (λ same. absurd cc) among)
      by (DropsOutbound out) is further among = absurd (not_accepted (DropsOutbound out) (λ same. absurd cc) among)
      by (NoCable out) is further among = absurd (not_accepted (NoCable out) (λ same. absurd cc) among)
      by (Meets out) is further among = absurd (not_accepted (Meets out) (λ same. absurd cc) among)
      by DropsKey is further among = absurd (not_accepted DropsKey (λ same. absurd cc) among)

-- ---- along the entries of the dump
module _ (plan : TopologyState) (fabric : FabricState) (lids : List ℕ) (dump : DumpState) (packet : Packet)
    (of : IsFabricOf plan fabric) (shows : Shows (over plan dump) lids fabric) where
  abbrev net : NetState
  net = over plan dump

  abbrev lid : ℕ
  lid = packet.dlid

  -- the row of the entry by which it leaves
  row_of_leaving : (here : PortRef) (out : ℕ) → LeavesSwitch fabric packet here out → HasRow net here.node lid out
  row_of_leaving here out leaves =
      let low = leaves.is.within in
      let few = of.few here.node leaves.held leaves.there in
      subst (HasRow net here.node lid) leaves.is.entry
      (shows.rows here.node lid leaves.held leaves.there (λ none. let is = leaves.is.entry in omega (arith, is, none, low, few)))

  not_255 : (here : PortRef) (out : ℕ) → LeavesSwitch fabric packet here out → out ≢ 255
  not_255 here out leaves none =
      let low = leaves.is.within in
      let few = of.few here.node leaves.held leaves.there in
      omega (arith, none, low, few)

  leaves_is : (here : PortRef) (out number : ℕ) → LeavesSwitch fabric packet here out → leaves_by net (port here.node number) lid ≡ (out == number)
  leaves_is here out number leaves =
      let row = row_of_leaving here out leaves in
      rw (row.there, row.found, row.is, ne_eqb out 255 (not_255 here out leaves)) refl

  turn_is : (here there : PortRef) (out : ℕ) → LeavesSwitch fabric packet here out → far_end fabric.cables (port here.node out) ≡ Some there
      → turn net lid here.node ≡ (if is_planned_switch plan.nodes there.node then turns.Goes there.node else turns.Arrives there)
  turn_is here there out leaves cable =
      let row = row_of_leaving here out leaves in
      let planned : far_end plan.cables (port here.node out) ≡ Some there = ap (λ (cables : List Cable). far_end cables (port here.node out)) (sym of.cables) ∙ cable in
      rw (row.there, row.found, row.is, ne_eqb out 255 (not_255 here out leaves), ne_eqb out 0 leaves.is.some, planned) refl

  -- ---- a port by which it leaves in the trace is on its way
  pub record IsOnWay (here at : PortRef) : Type 0 where
    pub over : List ℕ
    pub comes : ComesBy net lid here.node over at.node
    pub leaves : leaves_by net at lid ≡ true

  no_port : (at here : PortRef) → is_left_by (step here Accepts ∷ []) at ≡ true → ⊥
  no_port at here is = by (here.node == at.node) is
    where
      by : (b : Bool) → ((b && false) || false) ≡ true → ⊥
      by true same = false≢true same
      by false same = false≢true same

  -- what comes to an adapter leaves by no port
  not_beyond : (here : PortRef) (steps : List Step) (at : PortRef) → Goes fabric packet here steps → is_planned_switch plan.nodes here.node ≡ false
      → is_left_by steps at ≡ true → ⊥
  not_beyond here steps at (Ends end none) adapter is = no_port at here is
  not_beyond here steps at (GoesOn from there out rest leaves cable later) adapter is =
      let switch : is_switch_at fabric.nodes here.node ≡ true = ap (λ (node : Option Node). option_map_or is_switch node false) leaves.there in
      false≢true (sym adapter ∙ sym (of.switches here.node) ∙ switch)

  on_way : (here : PortRef) (steps : List Step) (at : PortRef) → Goes fabric packet here steps → is_left_by steps at ≡ true → IsOnWay here at
  on_way here steps at (Ends end adapter) is = absurd (no_port at here is)
  on_way here steps at (GoesOn from there out rest leaves cable later) is = by (leaves_at at (step here (GoesOut out))) refl (on_way there rest at later) is
    where
      on_switch : (b : Bool) → is_planned_switch plan.nodes there.node ≡ b → (is_left_by rest at ≡ true → IsOnWay there at) → Goes fabric packet there rest
          → is_left_by rest at ≡ true → IsOnWay here at
      on_switch true switch again further later_is =
          let on = again later_is in
          record {
            over = there.node ∷ on.over;
            comes = (turn_is here there out leaves cable ∙ rw switch refl, on.comes);
            leaves = on.leaves;
          }
      on_switch false adapter again further later_is = absurd (not_beyond there rest at further adapter later_is)

      by : (b : Bool) → leaves_at at (step here (GoesOut out)) ≡ b → (is_left_by rest at ≡ true → IsOnWay there at)
          → (leaves_at at (step here (GoesOut out)) || is_left_by rest at) ≡ true → IsOnWay here at
      by true now again same =
          let parts = and_parts (here.node == at.node) (out == at.port) now in
          let node : here.node ≡ at.node = eqb-true here.node at.node parts.0 in
          record {
            over = [];
            comes = node;
            leaves = subst (λ (n : ℕ). leaves_by net (port n at.port) lid ≡ true) node (leaves_is here out at.port leaves ∙ parts.1);
          }
      by false now again same = on_switch (is_planned_switch plan.nodes there.node) refl again later (sym (rw now refl) ∙ same)

  -- ---- and a port on its way is one by which it leaves
  left_on_way : (here : PortRef) (steps : List Step) (at : PortRef) (over : List ℕ) → Goes fabric packet here steps → is_planned_switch plan.nodes here.node ≡ true
      → ComesBy net lid here.node over at.node → leaves_by net at lid ≡ true → is_left_by steps at ≡ true
  left_on_way here steps at over (Ends end adapter) switch comes leaving = absurd (false≢true (sym adapter ∙ of.switches here.node ∙ switch))
  left_on_way here steps at [] (GoesOn from there out rest leaves cable later) switch comes leaving =
      let out_is : (out == at.port) ≡ true = sym (leaves_is here out at.port leaves) ∙ ap (λ (n : ℕ). leaves_by net (port n at.port) lid) comes ∙ leaving in
      or_left (leaves_at at (step here (GoesOut out))) (is_left_by rest at) (and_from (here.node == at.node) (out == at.port) (eq-eqb here.node at.node comes) out_is)
  left_on_way here steps at (next ∷ over) (GoesOn from there out rest leaves cable later) switch comes leaving =
      by (is_planned_switch plan.nodes there.node) refl (λ on coming. left_on_way there rest at over later on coming leaving) (sym (turn_is here there out leaves cable) ∙ comes.0)
    where
      by : (b : Bool) → is_planned_switch plan.nodes there.node ≡ b
          → (is_planned_switch plan.nodes there.node ≡ true → ComesBy net lid there.node over at.node → is_left_by rest at ≡ true)
          → (if is_planned_switch plan.nodes there.node then turns.Goes there.node else turns.Arrives there) ≡ turns.Goes next
          → (leaves_at at (step here (GoesOut out)) || is_left_by rest at) ≡ true
      by true on again is =
          let goes_on : turns.Goes there.node ≡ turns.Goes next = sym (rw on refl) ∙ is in
          let same : there.node ≡ next = cc in
          or_right (leaves_at at (step here (GoesOut out))) (is_left_by rest at)
          (again on (subst (λ (n : ℕ). ComesBy net lid n over at.node) (sym same) comes.1))
      by false adapter again is = let arrives : turns.Arrives there ≡ turns.Goes next = sym (rw adapter refl) ∙ is in absurd cc

  -- ---- so both say the same of each port
  pub same_ports : (here : PortRef) (steps : List Step) (at : PortRef) → Goes fabric packet here steps → is_planned_switch plan.nodes here.node ≡ true
      → passes net lid here.node at ≡ is_left_by steps at
  same_ports here steps at along switch =
      both_ways (passes net lid here.node at) (is_left_by steps at)
      (λ is.
      let parts = and_parts (is_on at.node (way net lid here.node)) (leaves_by net at lid) is in
      let comes = ways_are_whole.there net lid here.node at.node parts.0 in
      left_on_way here steps at comes.0 along switch comes.1 parts.1)
      (λ is.
      let on = on_way here steps at along is in
      and_from (is_on at.node (way net lid here.node)) (leaves_by net at lid) (ways_are_whole.comes net lid here.node at.node on.over switch on.comes) on.leaves)
