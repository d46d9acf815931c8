-- The way of a unicast packet has an end, at which the packet does not go out.
use Rattle.std.proofs.Common.{ℕ, zero, suc, ◌+◌, ◌*◌, ◌≡◌, ◌||◌, ◌≤◌, ◌∙◌, not, ap, refl, sym, arith, Bool, true, false, if◌then◌else◌, List, [], ◌∷◌, ◌++◌, flat_map, length, slice_get, Option, Some, None}
use Rattle.std.specs.List.{list_any}
use Rattle.std.specs.Option.{option_map_or}
use Rattle.std.proofs.lemmas.Bool.{and_from, not_from_false}
use Rattle.std.proofs.lemmas.Map.Made.{length-le_from_is_member}
use Rattle.step_results.proofs.TestLemmas.{or_turned}
use Rattle.data_packet.specs.declared.packet.Packet.{Packet}
use Rattle.fabric_parts.specs.Cable.{far_end, is_same_port}
use Rattle.fabric_parts.specs.declared.cable.Cable.{Cable}
use Rattle.fabric_parts.specs.declared.cable.PortRef.{PortRef}
use Rattle.packet_trace.specs.Laws.{HasEnd}
use Rattle.packet_trace.specs.Trace.{leaves_by, next_after, step, steps_from, turn_after, turn_at, turn_by, turn_in, turn_of_fate, way_of}
use Rattle.packet_trace.specs.declared.turn.Step.{Step}
use Rattle.packet_trace.specs.declared.turn.Turn.{Turn}
use Rattle.packet_trace.specs.declared.turn.Turn.TheVariants.{Again, DropsInbound, DropsTop, DropsEntry, DropsMask, Takes, DropsOutbound, NoCable, Meets, GoesOut, Accepts, DropsKey}
use Rattle.port_model.specs.AdapterState.{AdapterState}
use Rattle.port_model.specs.Packets.{accepts_packet}
use Rattle.smp_wire.proofs.CableLemmas.{count_ends, far_is_end, ports_equiv, ports_turn}
use Rattle.step_results.proofs.DistinctLemmas.{all_differ, distinct}
use Rattle.smp_wire.specs.FabricState.{FabricState, adapter_port}
use Rattle.smp_wire.specs.Good.{ends_of}
use Rattle.smp_wire.specs.declared.node.Node.{Node}
use Rattle.smp_wire.specs.declared.node.Node.TheVariants.{Switch, Adapter}
use Rattle.switch_model.specs.Fate.{fate}
use Rattle.switch_model.specs.declared.fate.Fate.{Fate}
use Rattle.switch_model.specs.declared.fate.Fate.TheVariants.{KeptOut, OverTop, NoPort, Taken, KeptIn, Leaves}

-- ---- what goes out goes on
out_by_cable : (cables : List Cable) (here : PortRef) (port out : ℕ) (far : Option PortRef)
    → far_end cables (record { node = here.node; port = port }) ≡ far
    → leaves_by cables here port ≡ GoesOut out → next_after cables here (leaves_by cables here port) ≡ None → ⊥
out_by_cable cables here port out None is reported stops = let no = rw is at reported in cc
out_by_cable cables here port out (Some there) is reported stops =
    let none : far_end cables (record { node = here.node; port = port }) ≡ None = rw is at stops in
    let both = sym is ∙ none in cc

out_by_fate : (cables : List Cable) (here : PortRef) (out : ℕ) (met : Fate)
    → turn_of_fate cables here met ≡ GoesOut out → next_after cables here (turn_of_fate cables here met) ≡ None → ⊥
out_by_fate cables here out KeptOut reported stops = cc
out_by_fate cables here out OverTop reported stops = cc
out_by_fate cables here out (NoPort entry) reported stops = cc
out_by_fate cables here out Taken reported stops = cc
out_by_fate cables here out (KeptIn port) reported stops = cc
out_by_fate cables here out (Leaves port) reported stops =
    out_by_cable cables here port out (far_end cables (record { node = here.node; port = port })) refl reported stops

none_out : (packet : Packet) (out : ℕ) (port : Option AdapterState) → option_map_or (turn_by packet) port DropsKey ≡ GoesOut out → ⊥
none_out packet out None reported = cc
none_out packet out (Some port) reported = by (accepts_packet port packet) reported
  where
    by : (b : Bool) → (if b then Accepts else DropsKey) ≡ GoesOut out → ⊥
    by true is = cc
    by false is = cc

out_by_node : (cables : List Cable) (packet : Packet) (here : PortRef) (out : ℕ) (node : Option Node)
    → option_map_or (turn_in cables packet here) node DropsKey ≡ GoesOut out
    → next_after cables here (option_map_or (turn_in cables packet here) node DropsKey) ≡ None → ⊥
out_by_node cables packet here out None reported stops = cc
out_by_node cables packet here out (Some (Switch held)) reported stops = out_by_fate cables here out (fate held here.port packet) reported stops
out_by_node cables packet here out (Some (Adapter ports)) reported stops = none_out packet out (adapter_port ports here.port) reported

out_at : (fabric : FabricState) (packet : Packet) (here : PortRef) (out : ℕ)
    → turn_at fabric packet here ≡ GoesOut out → next_after fabric.cables here (turn_at fabric packet here) ≡ None → ⊥
unfolding turn_at
out_at fabric packet here out reported stops = out_by_node fabric.cables packet here out (slice_get fabric.nodes here.node) reported stops

out_after : (fabric : FabricState) (packet : Packet) (before : List Step) (here : PortRef) (out : ℕ) (again : Bool)
    → list_any (λ one. is_same_port one.at here) before ≡ again
    → turn_after fabric packet before here ≡ GoesOut out → next_after fabric.cables here (turn_after fabric packet before here) ≡ None → ⊥
out_after fabric packet before here out true was reported stops = let no = rw was at reported in cc
out_after fabric packet before here out false was reported stops = out_at fabric packet here out (rw was at reported) (rw was at stops)

-- ---- among some ports
module _ (ports : List PortRef) where
  abbrev pub IsAmong : PortRef → Type 0
  IsAmong here = (p : PortRef) → is_same_port p here ≡ true → list_any (is_same_port p) ports ≡ true

  abbrev pub AreAmong : List PortRef → Type 0
  AreAmong seen = (p : PortRef) → list_any (is_same_port p) seen ≡ true → list_any (is_same_port p) ports ≡ true

  pub one_more_among : (here : PortRef) (seen : List PortRef) → IsAmong here → AreAmong seen → AreAmong (here ∷ seen)
  one_more_among here seen is are p among = by (is_same_port p here) refl among
    where
      by : (b : Bool) → is_same_port p here ≡ b → (b || list_any (is_same_port p) seen) ≡ true → list_any (is_same_port p) ports ≡ true
      by true same among = is p same
      by false other among = are p among

  pub few_among : (seen : List PortRef) → all_differ is_same_port seen ≡ true → AreAmong seen → length seen ≤ length ports
  few_among seen differ are = length-le_from_is_member ports_equiv seen ports (distinct is_same_port seen differ) are

-- ---- ends of cables
module _ (cables : List Cable) where
  abbrev pub IsEnd : PortRef → Type 0
  IsEnd here = IsAmong (flat_map ends_of cables) here

  abbrev AreEnds : List PortRef → Type 0
  AreEnds seen = AreAmong (flat_map ends_of cables) seen

  -- where it goes on it comes to an end of a cable
  pub comes_to_an_end : (here there : PortRef) (turn : Turn) → next_after cables here turn ≡ Some there → IsEnd there
  comes_to_an_end here there (GoesOut out) leads p same = far_is_end cables (record { node = here.node; port = out }) there p same leads
  comes_to_an_end here there Again leads p same = absurd (cc)
  comes_to_an_end here there DropsInbound leads p same = absurd (cc)
  comes_to_an_end here there DropsTop leads p same = absurd (cc)
  comes_to_an_end here there (DropsEntry entry) leads p same = absurd (cc)
  comes_to_an_end here there DropsMask leads p same = absurd (cc)
  comes_to_an_end here there Takes leads p same = absurd (cc)
  comes_to_an_end here there (DropsOutbound out) leads p same = absurd (cc)
  comes_to_an_end here there (NoCable out) leads p same = absurd (cc)
  comes_to_an_end here there (Meets out) leads p same = absurd (cc)
  comes_to_an_end here there Accepts leads p same = absurd (cc)
  comes_to_an_end here there DropsKey leads p same = absurd (cc)

  few : (seen : List PortRef) → all_differ is_same_port seen ≡ true → AreEnds seen → length seen ≤ 2 * length cables
  few seen differ are = rw (count_ends cables) at (few_among (flat_map ends_of cables) seen differ are)

-- ---- the ports to which it came
-- the ports of these steps are those
abbrev pub AreAt : List Step → List PortRef → Type 0
AreAt before seen = (p : PortRef) → list_any (λ one. is_same_port one.at p) before ≡ list_any (is_same_port p) seen

any_more : (before : List Step) (now : Step) (p : PortRef)
    → list_any (λ one. is_same_port one.at p) (before ++ now ∷ []) ≡ (is_same_port p now.at || list_any (λ one. is_same_port one.at p) before)
any_more [] now p = ap (λ (b : Bool). b || false) (ports_turn now.at p)
any_more (one ∷ before) now p =
    ap (λ (b : Bool). is_same_port one.at p || b) (any_more before now p)
    ∙ or_turned (is_same_port one.at p) (is_same_port p now.at) (list_any (λ one. is_same_port one.at p) before)

pub at_more : (before : List Step) (seen : List PortRef) (now : Step) → AreAt before seen → AreAt (before ++ now ∷ []) (now.at ∷ seen)
at_more before seen now are p = any_more before now p ∙ ap (λ (b : Bool). is_same_port p now.at || b) (are p)

-- ---- its end
module _ (fabric : FabricState) (packet : Packet) where
  abbrev now_at : List Step → PortRef → Step
  now_at before here = step here (turn_after fabric packet before here)

  -- it goes on where it did not come in before alone
  pub is_new : (before : List Step) (here there : PortRef) (again : Bool) → list_any (λ one. is_same_port one.at here) before ≡ again
      → next_after fabric.cables here (turn_after fabric packet before here) ≡ Some there → again ≡ false
  is_new before here there true was leads = let no = rw was at leads in absurd (cc)
  is_new before here there false was leads = refl

  behind : (now : Step) (rest : List Step) → HasEnd rest → HasEnd (now ∷ rest)
  behind now rest end = record {
    before = now ∷ end.before;
    last = end.last;
    whole = ap (λ (steps : List Step). now ∷ steps) end.whole;
    stays = end.stays;
  }

  by_next : (before : List Step) (here : PortRef) (rest : PortRef → List Step) (next : Option PortRef)
      → next_after fabric.cables here (turn_after fabric packet before here) ≡ next
      → ((there : PortRef) → next_after fabric.cables here (turn_after fabric packet before here) ≡ Some there → HasEnd (rest there))
      → HasEnd (now_at before here ∷ option_map_or rest next [])
  by_next before here rest None stops on = record {
    before = [];
    last = now_at before here;
    whole = refl;
    stays = λ out reported. out_after fabric packet before here out (list_any (λ one. is_same_port one.at here) before) refl reported stops;
  }
  by_next before here rest (Some there) leads on = behind (now_at before here) (rest there) (on there leads)

  has_end : (more : ℕ) (before : List Step) (seen : List PortRef) (here : PortRef)
      → AreAt before seen → all_differ is_same_port seen ≡ true → AreEnds fabric.cables seen → IsEnd fabric.cables here
      → length seen + more ≡ 2 * length fabric.cables + 1 → HasEnd (steps_from fabric packet more before here)
  has_end zero before seen here same differ are is count =
      let low = few fabric.cables seen differ are in
      absurd (omega (arith, low, count))
  has_end (suc more) before seen here same differ are is count =
      by_next before here (steps_from fabric packet more (before ++ now_at before here ∷ []))
      (next_after fabric.cables here (turn_after fabric packet before here)) refl
      (λ there leads.
      let new = sym (same here) ∙ is_new before here there (list_any (λ one. is_same_port one.at here) before) refl leads in
      has_end more (before ++ now_at before here ∷ []) (here ∷ seen) there
      (at_more before seen (now_at before here) same)
      (and_from (not (list_any (is_same_port here) seen)) (all_differ is_same_port seen) (not_from_false _ new) differ)
      (one_more_among (flat_map ends_of fabric.cables) here seen is are)
      (comes_to_an_end fabric.cables here there (turn_after fabric packet before here) leads)
      (omega (arith, count)))

-- ---- the law
pub way_has_an_end : (fabric : FabricState) (packet : Packet) (from first : PortRef) → far_end fabric.cables from ≡ Some first
    → HasEnd (way_of fabric packet first)
way_has_an_end fabric packet from first cable =
    has_end fabric packet (2 * length fabric.cables + 1) [] [] first
    (λ p. refl) refl (λ p among. absurd (cc)) (λ p same. far_is_end fabric.cables from first p same cable) (omega arith)
