-- A reply is ready to come home: by the ports that its request has noted.
use Rattle.std.proofs.Common.{ℕ, zero, suc, ◌≡◌, ◌+◌, ◌*◌, ◌<◌, ◌≤◌, ◌∙◌, refl, sym, inr, true, List, [], ◌∷◌, length, slice_get, slice_index, Option}
use Rattle.std.proofs.Common.{Some, None, option_map, arith}
use Rattle.std.specs.Int.Digits.{AllBelowBase}
use Rattle.std.specs.List.{list_all}
use Rattle.std.proofs.lemmas.Bool.{eq-eqb}
use Rattle.std.proofs.lemmas.Bool.Decides.{nat_tests}
use Rattle.std.proofs.lemmas.List.{get_or-set_other, length-set}
use Rattle.std.proofs.lemmas.Option.{same_Some}
use Rattle.mad_layout.specs.Bits.{put_field}
use Rattle.mad_layout.specs.Layout.{at, is_free}
use Rattle.mad_layout.proofs.AlignedLemmas.{byte_is_field}
use Rattle.mad_layout.proofs.LayoutLemmas.{field-put_apart, length-put_field}
use Rattle.agent_rules.specs.Request.{KeepsRest}
use Rattle.smp_route.specs.HopFields.{count, pointer, return_port, turned_round, with_return_port}
use Rattle.fabric_parts.specs.declared.cable.Cable.{Cable}
use Rattle.fabric_parts.specs.declared.cable.PortRef.{PortRef}
use Rattle.smp_wire.specs.declared.node.Node.{Node}
use Rattle.smp_wire.specs.declared.walking.Arrival.{Arrival}
use Rattle.fabric_parts.specs.Cable.{far_end, is_same_port, last_of}
use Rattle.smp_wire.specs.FabricState.{FabricState, is_switch_at, nodes_after}
use Rattle.smp_wire.specs.Good.{IsGood, is_right}
use Rattle.fabric_wire.specs.Hopping.{leads_home}
use Rattle.smp_wire.specs.Walk.{arrival_of, arrived, is_sent, path_of, walk, with_return_ports}
use Rattle.fabric_wire.proofs.HomeLemmas.{leads_alike, leads_by, walk_leads_home}
use Rattle.fabric_wire.proofs.HopLemmas.{byte_kept, pointer_set}
use Rattle.smp_wire.proofs.KeptLemmas.{IsSame, after_found, stays_good, switch_same}
use Rattle.smp_wire.proofs.ArrivalLemmas.{arrived_carries, put_below, walks_right}
use Rattle.smp_wire.proofs.WalkLemmas.{path_length, sent_parts}
use Rattle.step_results.proofs.DistinctLemmas.{differ}
use Rattle.smp_wire.proofs.PresentLemmas.{present_once, present_right}

pub record IsReady (nodes : List Node) (cables : List Cable) (manager agent : PortRef) (smp : List ℕ) : Type 0 where
  pub right : list_all (is_right nodes) cables ≡ true
  pub few : count smp ≤ 63
  pub pointer_is : pointer smp ≡ count smp + 1
  pub home : leads_home nodes cables manager.node smp (count smp) agent.node ≡ true

-- ---- bytes of a reply that no agent writes
abbrev pub IsKept : ℕ → Type 0
IsKept k = (33 ≤ 8 * k) × (is_free (8 * k) 8 (at 24 8 0 ∷ at 33 15 0 ∷ at 512 512 0 ∷ []) ≡ true)

kept_byte : (request reply : List ℕ) (k : ℕ) → AllBelowBase 256 request → AllBelowBase 256 reply
    → length request ≡ 256 → length reply ≡ 256 → KeepsRest request reply → k < 256 → IsKept k
    → slice_index (put_field reply 32 1 1) k ≡ slice_index request k
kept_byte request reply k low low_reply long long_reply keeps inside kept =
    let turned = put_field reply 32 1 1 in
    let wide : length turned ≡ 256 = length-put_field reply 32 1 1 ∙ long_reply in
    byte_is_field turned k (put_below reply 32 1 1) (omega (arith, wide, inside))
    ∙ field-put_apart reply 32 1 1 (8 * k) 8 (omega (arith, long_reply)) (omega (arith, long_reply, inside)) (omega arith) (inr (omega (arith, kept)))
    ∙ keeps (8 * k) 8 (omega (arith, inside)) kept.1
    ∙ sym (byte_is_field request k low (omega (arith, long, inside)))

return_kept : (k : ℕ) → k < 64 → IsKept (192 + k)
return_kept k low = (omega arith, grind (arith, nat_tests, low))

-- ---- nodes that are as they were
same_way : (old new : List Node) (cables : List Cable) (manager : ℕ) (smp : List ℕ) (left node : ℕ)
    → ((place : ℕ) → is_switch_at new place ≡ is_switch_at old place)
    → leads_home new cables manager smp left node ≡ leads_home old cables manager smp left node
same_way old new cables manager smp zero node switches = refl
same_way old new cables manager smp (suc left) node switches =
    leads_by left old new (leads_home new cables manager smp left) (leads_home old cables manager smp left)
    (far_end cables (record { node = node; port = return_port smp (suc left) })) switches
    (λ there. same_way old new cables manager smp left there switches)

-- ---- the way home of a request that has arrived
count_noted : (k : ℕ) (ends : List PortRef) (smp : List ℕ) → count (with_return_ports k ends smp) ≡ count smp
count_noted k [] smp = refl
count_noted k (end ∷ ends) smp = count_noted (k + 1) ends (with_return_port k end.port smp) ∙ get_or-set_other smp (192 + k) 7 end.port 0 (λ e. omega (arith, e))

-- over the nodes as they were
pub ready_before : (fabric : FabricState) (sent reply : List ℕ) (ends : List PortRef) → IsGood fabric
    → is_sent sent ≡ true → AllBelowBase 256 sent → length sent ≡ 256
    → walk fabric.nodes fabric.cables true fabric.manager (path_of sent) ≡ Some ends
    → AllBelowBase 256 reply → length reply ≡ 256 → KeepsRest (arrived ends sent) reply
    → IsReady fabric.nodes fabric.cables fabric.manager (last_of fabric.manager ends) (turned_round reply)
ready_before fabric sent reply ends good is low long walked low_reply long_reply keeps =
    let agent = last_of fabric.manager ends in
    let request = arrived ends sent in
    let noted = with_return_ports 1 ends sent in
    let turned = turned_round reply in
    let few = (sent_parts sent is).1 in
    let right = walks_right fabric true fabric.manager (path_of sent) ends good walked in
    let path_long : length (path_of sent) ≡ count sent = path_length sent long few in
    let hops : length ends ≡ count sent = right.0 ∙ path_long in
    let carrier = arrived_carries sent ends low long hops few right.1 in
    let noted_long : length noted ≡ 256 = sym (length-set noted 6 (count sent + 1)) ∙ carrier.long in
    let byte : (k : ℕ) → k < 256 → IsKept k → slice_index turned k ≡ slice_index request k =
    λ k inside kept. kept_byte request reply k carrier.below low_reply carrier.long long_reply keeps inside kept in
    let count_is : count turned ≡ count sent = byte 7 (omega arith) (omega arith, refl) ∙ byte_kept noted (count sent + 1) 7 (λ e. omega (arith, e)) ∙ count_noted 1 ends sent in
    let pointer_is : pointer turned ≡ count sent + 1 = byte 6 (omega arith) (omega arith, refl) ∙ pointer_set noted (count sent + 1) noted_long in
    let led : leads_home fabric.nodes fabric.cables fabric.manager.node noted (0 + length ends) agent.node ≡ true =
    walk_leads_home fabric.nodes fabric.cables fabric.manager.node true fabric.manager 0 (path_of sent) sent ends
    (differ is_same_port _ (present_once good)) refl (omega (arith, path_long, few)) long
    (eq-eqb fabric.manager.node fabric.manager.node refl) walked in
    let hops_are : 0 + length ends ≡ count sent = omega (arith, hops) in
    let home : leads_home fabric.nodes fabric.cables fabric.manager.node turned (count sent) agent.node ≡ true =
    leads_alike fabric.nodes fabric.cables fabric.manager.node turned noted (count sent) agent.node
    (λ k from to. byte (192 + k) (omega (arith, to, few)) (return_kept k (omega (arith, to, few))) ∙ byte_kept noted (count sent + 1) (192 + k) (λ e. omega (arith, e)))
    ∙ rw (← hops_are) led in
    record { right = (present_right good); few = rw count_is few; pointer_is = rw count_is pointer_is; home = rw count_is home }

-- and as they are then
ready_at : (fabric : FabricState) (sent reply : List ℕ) (new : List Node) (ends : List PortRef) → IsGood fabric
    → is_sent sent ≡ true → AllBelowBase 256 sent → length sent ≡ 256
    → walk fabric.nodes fabric.cables true fabric.manager (path_of sent) ≡ Some ends
    → AllBelowBase 256 reply → length reply ≡ 256 → KeepsRest (arrived ends sent) reply
    → new ≡ nodes_after fabric.nodes (last_of fabric.manager ends) (arrived ends sent) (slice_get fabric.nodes (last_of fabric.manager ends).node)
    → IsReady new fabric.cables fabric.manager (last_of fabric.manager ends) (turned_round reply)
ready_at fabric sent reply new ends good is low long walked low_reply long_reply keeps new_is =
    let agent = last_of fabric.manager ends in
    let turned = turned_round reply in
    let before = ready_before fabric sent reply ends good is low long walked low_reply long_reply keeps in
    let same : IsSame fabric (record fabric { nodes = new }) = rw new_is (after_found fabric agent (arrived ends sent) (slice_get fabric.nodes agent.node) refl) in
    let still = stays_good fabric (record fabric { nodes = new }) same good in
    record {
      right = present_right still;
      few = before.few;
      pointer_is = before.pointer_is;
      home = same_way fabric.nodes new fabric.cables fabric.manager.node turned (count turned) agent.node
          (λ place. switch_same fabric (record fabric { nodes = new }) same place) ∙ before.home;
    }

ready_by : (fabric : FabricState) (sent reply : List ℕ) (new : List Node) (arrival : Arrival) (walked : Option (List PortRef))
    → IsGood fabric → is_sent sent ≡ true → AllBelowBase 256 sent → length sent ≡ 256
    → walk fabric.nodes fabric.cables true fabric.manager (path_of sent) ≡ walked → Some arrival ≡ option_map (arrival_of fabric.manager sent) walked
    → AllBelowBase 256 reply → length reply ≡ 256 → KeepsRest arrival.smp reply
    → new ≡ nodes_after fabric.nodes arrival.at arrival.smp (slice_get fabric.nodes arrival.at.node)
    → IsReady new fabric.cables fabric.manager arrival.at (turned_round reply)
ready_by fabric sent reply new arrival None good is low long walked there low_reply long_reply keeps new_is = cc
ready_by fabric sent reply new arrival (Some ends) good is low long walked there low_reply long_reply keeps new_is =
    let same : arrival ≡ arrival_of fabric.manager sent ends = same_Some _ _ there in
    rw same (ready_at fabric sent reply new ends good is low long walked low_reply long_reply (rw same at keeps) (rw same at new_is))

pub ready : (fabric : FabricState) (sent reply : List ℕ) (new : List Node) (arrival : Arrival) → IsGood fabric
    → is_sent sent ≡ true → AllBelowBase 256 sent → length sent ≡ 256
    → Some arrival ≡ option_map (arrival_of fabric.manager sent) (walk fabric.nodes fabric.cables true fabric.manager (path_of sent))
    → AllBelowBase 256 reply → length reply ≡ 256 → KeepsRest arrival.smp reply
    → new ≡ nodes_after fabric.nodes arrival.at arrival.smp (slice_get fabric.nodes arrival.at.node)
    → IsReady new fabric.cables fabric.manager arrival.at (turned_round reply)
ready fabric sent reply new arrival good is low long there low_reply long_reply keeps new_is =
    ready_by fabric sent reply new arrival _ good is low long refl there low_reply long_reply keeps new_is
