-- In a good fabric the hop rules bring an answer home, and so a reply comes if and only if they do.
use Rattle.std.proofs.Common.{ℕ, zero, suc, ◌≡◌, ◌≢◌, ◌+◌, ◌<◌, ◌==◌, ◌∙◌, ap, refl, sym, subst, inl, inr, Bool, true, List, [], ◌∷◌, length, Option}
use Rattle.std.proofs.Common.{Some, None, option_map, arith, false}
use Rattle.std.specs.Int.Digits.{AllBelowBase}
use Rattle.std.specs.List.{list_all}
use Rattle.std.proofs.lemmas.Bool.{and_parts, eqb-true, false≢true}
use Rattle.std.proofs.lemmas.Option.{same_Some}
use Rattle.mad_layout.proofs.LayoutLemmas.{field-put_same, length-put_field}
use Rattle.smp_route.specs.declared.hop.Hop.{Hop}
use Rattle.smp_route.specs.declared.hop.Hop.TheVariants.{Forward, ToAgent, ToManager, Discard}
use Rattle.smp_route.specs.HopFields.{count, is_outgoing, turned_round, with_pointer}
use Rattle.fabric_parts.specs.declared.cable.PortRef.{PortRef}
use Rattle.smp_wire.specs.declared.walking.Arrival.{Arrival}
use Rattle.fabric_parts.specs.Cable.{far_end, last_of}
use Rattle.smp_wire.specs.FabricState.{FabricState, after_at, reply_at}
use Rattle.smp_wire.specs.Good.{IsGood, is_right}
use Rattle.fabric_wire.specs.Laws.{ExchangesGoByHops}
use Rattle.fabric_wire.specs.HopByHop.{ComesHome, Goes, IsAnswered, Passes, ComesTo, Visit, hop_rules}
use Rattle.fabric_wire.specs.Hopping.{node_type_at}
use Rattle.smp_wire.specs.Walk.{arrival_of, arrived, exchange_after, exchange_reply, path_of, returned, walk, walk_of}
use Rattle.fabric_wire.proofs.ExchangeLemmas.{IsReady, ready_before}
use Rattle.fabric_wire.proofs.HopByHopLemmas.{back_from, direction_kept, follows, found, is_sent_by, rules_back, rules_out, set_out as set_out_by}
use Rattle.smp_wire.proofs.ReplyLemmas.{replies}
use Rattle.smp_wire.proofs.WalkedLemmas.{carried, no_walk_after, no_walk_reply, walk_after, walk_reply, walks}
use Rattle.fabric_wire.proofs.ReturnLemmas.{IsComing, bare_port, came, goes, lost, set_out}
use Rattle.smp_wire.proofs.ArrivalLemmas.{put_below}
use Rattle.smp_route.specs.Hops.{Step}

abbrev visit : PortRef → ℕ → List ℕ → Visit
visit at entered smp = record { node = at.node; entered = entered; smp = smp }

-- ---- on the way back the direction bit is set
record IsBack (reply : List ℕ) : Type 0 where
  pub below : AllBelowBase 256 reply
  pub back : is_outgoing reply ≡ false

rules_here : (fabric : FabricState) (home : Bool) (reply : List ℕ) (done : ℕ) (at : PortRef) (entered : ℕ) (smp : List ℕ) → IsBack reply
    → IsComing fabric.nodes fabric.cables fabric.manager.node home reply done at entered smp
    → hop_rules fabric.nodes (visit at entered smp) ≡ back_from fabric.nodes (visit at entered smp)
rules_here fabric home reply done at entered smp is on =
    rules_back fabric.nodes (visit at entered smp)
    (ap is_outgoing on.smp_is ∙ direction_kept reply 6 (on.left + 1) is.below on.long (omega arith) (omega arith)
    (let hops = on.hops in let few = on.few in omega (arith, hops, few)) ∙ is.back)

-- ---- every way back to the subnet manager ends where the way of the definition does
IsHome : FabricState → Bool → List ℕ → Visit → Type 0
IsHome fabric home reply last = ((last.node == fabric.manager.node) ≡ home) × ((hop_rules fabric.nodes last).smp ≡ with_pointer 0 reply)

back_follows : (fabric : FabricState) (home : Bool) (reply : List ℕ) (way : List Visit) (done : ℕ) (at : PortRef) (entered : ℕ) (smp : List ℕ) (last : Visit)
    → list_all (is_right fabric.nodes) fabric.cables ≡ true → IsBack reply
    → IsComing fabric.nodes fabric.cables fabric.manager.node home reply done at entered smp
    → Goes fabric (visit at entered smp) way last → (hop_rules fabric.nodes last).hop ≡ ToManager → IsHome fabric home reply last
unfolding IsHome
back_follows fabric home reply [] done at entered smp last right back on is to =
    let rules = rules_here fabric home reply done at entered smp back on in
    let given : (back_from fabric.nodes (visit at entered smp)).hop ≡ ToManager = sym (ap (λ (s : Step). s.hop) rules) ∙ ap (λ (v : Visit). (hop_rules fabric.nodes v).hop) is ∙ to in
    let came_home = came fabric.nodes fabric.cables fabric.manager.node home reply done at entered smp right on given in
    subst (λ (v : Visit). IsHome fabric home reply v) is (came_home.0, ap (λ (s : Step). s.smp) rules ∙ came_home.1)
back_follows fabric home reply (next ∷ later) done at entered smp last right back on way to =
    let pass = way.0 in
    let rules = rules_here fabric home reply done at entered smp back on in
    let there : PortRef = record { node = next.node; port = next.entered } in
    let leaves_by = sym (ap (λ (s : Step). s.hop) rules) ∙ pass.leaves in
    let as_left = pass.as_left ∙ ap (λ (s : Step). s.smp) rules in
    let on_there = goes fabric.nodes fabric.cables fabric.manager.node home reply done at there entered smp pass.port right on leaves_by pass.cable in
    back_follows fabric home reply later (done + 1) there next.entered next.smp last right back (rw as_left on_there) way.1 to

-- ---- where the definition leads home there is a way
record FoundHome (fabric : FabricState) (reply : List ℕ) (here : Visit) : Type 0 where
  pub way : List Visit
  pub last : Visit
  pub goes : Goes fabric here way last
  pub to_manager : (hop_rules fabric.nodes last).hop ≡ ToManager
  pub home : last.node ≡ fabric.manager.node
  pub smp_is : (hop_rules fabric.nodes last).smp ≡ with_pointer 0 reply

home_by : (fabric : FabricState) (reply : List ℕ) (done : ℕ) (at : PortRef) (entered : ℕ) (smp : List ℕ) (hop : Hop)
    → list_all (is_right fabric.nodes) fabric.cables ≡ true → IsBack reply
    → IsComing fabric.nodes fabric.cables fabric.manager.node true reply done at entered smp
    → (back_from fabric.nodes (visit at entered smp)).hop ≡ hop
    → ((there : PortRef) (next : List ℕ) → IsComing fabric.nodes fabric.cables fabric.manager.node true reply
    (done + 1) there there.port next → FoundHome fabric reply (visit there there.port next))
    → FoundHome fabric reply (visit at entered smp)
home_by fabric reply done at entered smp ToManager right back on to later =
    let rules = rules_here fabric true reply done at entered smp back on in
    let here = came fabric.nodes fabric.cables fabric.manager.node true reply done at entered smp right on to in
    record {
      way = [];
      last = visit at entered smp;
      goes = refl;
      to_manager = ap (λ (s : Step). s.hop) rules ∙ to;
      home = eqb-true at.node fabric.manager.node here.0;
      smp_is = ap (λ (s : Step). s.smp) rules ∙ here.1;
    }
home_by fabric reply done at entered smp ToAgent right back on to later =
    absurd (false≢true (lost fabric.nodes fabric.cables fabric.manager.node true reply done at entered smp right on ToAgent (sym to) (inl refl)))
home_by fabric reply done at entered smp Discard right back on to later =
    absurd (false≢true (lost fabric.nodes fabric.cables fabric.manager.node true reply done at entered smp right on Discard (sym to) (inr refl)))
home_by fabric reply done at entered smp (Forward port) right back on to later = by_cable (far_end fabric.cables (record { node = at.node; port = port })) refl
  where
    by_cable : (end : Option PortRef) → far_end fabric.cables (record { node = at.node; port = port }) ≡ end
        → FoundHome fabric reply (visit at entered smp)
    by_cable None is = absurd (false≢true (bare_port fabric.nodes fabric.cables fabric.manager.node true reply done at entered smp port right on to is))
    by_cable (Some there) is =
        let rules = rules_here fabric true reply done at entered smp back on in
        let left = (back_from fabric.nodes (visit at entered smp)).smp in
        let rest = later there left (goes fabric.nodes fabric.cables fabric.manager.node true reply done at there entered smp port right on to is) in
        let pass : Passes fabric (visit at entered smp)
        (visit there there.port left) = record {
          port = port;
          leaves = ap (λ (s : Step). s.hop) rules ∙ to;
          cable = is;
          as_left = sym (ap (λ (s : Step). s.smp) rules);
        } in
        record { way = visit there there.port left ∷ rest.way; last = rest.last; goes = (pass, rest.goes); to_manager = rest.to_manager; home = rest.home; smp_is = rest.smp_is }

home_within : (fabric : FabricState) (reply : List ℕ) (fuel done : ℕ) (at : PortRef) (entered : ℕ) (smp : List ℕ)
    → list_all (is_right fabric.nodes) fabric.cables ≡ true → IsBack reply
    → IsComing fabric.nodes fabric.cables fabric.manager.node true reply done at entered smp → count reply < done + fuel → FoundHome fabric reply (visit at entered smp)
home_within fabric reply zero done at entered smp right back on few = let hops = on.hops in absurd (omega (arith, hops, few))
home_within fabric reply (suc fuel) done at entered smp right back on few =
    home_by fabric reply done at entered smp _ right back on refl
    (λ there next on_there. home_within fabric reply fuel (done + 1) there there.port next right back on_there
    (omega (arith, few)))

-- ---- what an agent answers comes home as the definition says
coming : (fabric : FabricState) (agent : PortRef) (turned : List ℕ) → length turned ≡ 256
    → IsReady fabric.nodes fabric.cables fabric.manager agent turned
    → IsComing fabric.nodes fabric.cables fabric.manager.node true turned 0 agent 0 turned
coming fabric agent turned long ready =
    subst (λ (home : Bool). IsComing fabric.nodes fabric.cables fabric.manager.node home turned 0 agent 0 turned) ready.home
    (set_out fabric.nodes fabric.cables fabric.manager.node turned agent long ready.few ready.pointer_is)

turned_back : (answer : List ℕ) → length answer ≡ 256 → IsBack (turned_round answer)
turned_back answer long = record {
  below = put_below answer 32 1 1;
  back = ap (λ (bit : ℕ). bit == 0) (field-put_same answer 32 1 1 (omega (arith, long)) (omega arith));
}

comes : (fabric : FabricState) (agent : PortRef) (answer : List ℕ) → length answer ≡ 256
    → IsReady fabric.nodes fabric.cables fabric.manager agent (turned_round answer)
    → ComesHome fabric agent.node answer (returned answer)
comes fabric agent answer long ready =
    let turned = turned_round answer in
    let wide : length turned ≡ 256 = length-put_field answer 32 1 1 ∙ long in
    let home = home_within fabric turned (count turned + 1) 0 agent 0 turned ready.right (turned_back answer long) (coming fabric agent turned wide ready) (omega arith) in
    record { way = home.way; last = home.last; goes = home.goes; to_manager = home.to_manager; home = home.home; reply_is = sym home.smp_is }

only_reply : (fabric : FabricState) (agent : PortRef) (answer reply : List ℕ) → length answer ≡ 256
    → IsReady fabric.nodes fabric.cables fabric.manager agent (turned_round answer)
    → ComesHome fabric agent.node answer reply → reply ≡ returned answer
unfolding IsHome
only_reply fabric agent answer reply long ready home =
    let turned = turned_round answer in
    let wide : length turned ≡ 256 = length-put_field answer 32 1 1 ∙ long in
    home.reply_is ∙ (back_follows fabric true turned home.way 0 agent 0 turned home.last ready.right
    (turned_back answer long) (coming fabric agent turned wide ready) home.goes home.to_manager).1

-- ---- the way out, as a walk
not_dropped : (fabric : FabricState) (here last : Visit) (way : List Visit) → Goes fabric here way last
    → (hop_rules fabric.nodes last).hop ≡ ToAgent → (hop_rules fabric.nodes here).hop ≢ Discard
not_dropped fabric here last [] is to dropped =
    let clash : Discard ≡ ToAgent = sym dropped ∙ ap (λ (v : Visit). (hop_rules fabric.nodes v).hop) is ∙ to in
    cc
not_dropped fabric here last (next ∷ later) way to dropped =
    let pass = way.0 in
    let clash : Discard ≡ Forward pass.port = sym dropped ∙ pass.leaves in
    cc

-- a walk to the agent at that port, and the SMP as the agent gets it
record WalksTo (fabric : FabricState) (smp : List ℕ) (at : PortRef) (request : List ℕ) : Type 0 where
  pub ends : List PortRef
  pub is : walk_of fabric smp ≡ Some ends
  pub at_is : last_of fabric.manager ends ≡ at
  pub request_is : arrived ends smp ≡ request

walks_to : (fabric : FabricState) (smp : List ℕ) (at : PortRef) (request : List ℕ) (walked : Option (List PortRef)) → walk_of fabric smp ≡ walked
    → option_map (arrival_of fabric.manager smp) walked ≡ Some (record { at = at; smp = request }) → WalksTo fabric smp at request
walks_to fabric smp at request None is arrives = cc
walks_to fabric smp at request (Some ends) is arrives =
    let same = same_Some _ _ arrives in
    record { ends = ends; is = is; at_is = ap (λ (a : Arrival). a.at) same; request_is = ap (λ (a : Arrival). a.smp) same }

as_walk : (fabric : FabricState) (smp : List ℕ) (at : PortRef) (request : List ℕ) → IsGood fabric → length smp ≡ 256
    → AllBelowBase 256 smp → ComesTo fabric smp at request → WalksTo fabric smp at request
as_walk fabric smp at request good long below comes =
    let start = visit fabric.manager 0 smp in
    let rules = rules_out fabric.nodes start comes.outgoing in
    let kept = not_dropped fabric start comes.last comes.way comes.goes comes.to_agent in
    let sent = is_sent_by (node_type_at fabric.nodes fabric.manager.node) smp comes.outgoing (λ dropped. kept (ap (λ (s : Step). s.hop) rules ∙ dropped)) in
    let ends = follows fabric smp comes.way 0 fabric.manager 0 smp comes.last good (set_out_by fabric smp good long below sent) comes.goes comes.to_agent in
    walks_to fabric smp at request (walk fabric.nodes fabric.cables true fabric.manager (path_of smp)) (rw sent refl) (sym ends ∙ rw (comes.at_is, comes.request_is) refl)

as_hops : (fabric : FabricState) (smp : List ℕ) (ends : List PortRef) → IsGood fabric → length smp ≡ 256
    → AllBelowBase 256 smp → walk_of fabric smp ≡ Some ends
    → ComesTo fabric smp (last_of fabric.manager ends) (arrived ends smp)
as_hops fabric smp ends good long below is =
    let so = walks fabric smp ends is in
    let way = found fabric smp (arrival_of fabric.manager smp ends) good long below so.sent (ap (option_map (arrival_of fabric.manager smp)) so.walked) in
    record {
      outgoing = (and_parts _ _ so.sent).0;
      way = way.way;
      last = way.last;
      goes = way.goes;
      to_agent = way.to_agent;
      at_is = ap (λ (a : Arrival). a.at) way.arrival_is;
      request_is = ap (λ (a : Arrival). a.smp) way.arrival_is;
    }

-- ---- what the agent at the end of a walk answers is ready to come home
record IsAnswer (fabric : FabricState) (at : PortRef) (answer : List ℕ) : Type 0 where
  pub long : length answer ≡ 256
  pub ready : IsReady fabric.nodes fabric.cables fabric.manager at (turned_round answer)

is_answer : (fabric : FabricState) (smp : List ℕ) (ends : List PortRef) (answer : List ℕ) → IsGood fabric
    → length smp ≡ 256 → AllBelowBase 256 smp → walk_of fabric smp ≡ Some ends
    → reply_at fabric (last_of fabric.manager ends) (arrived ends smp) ≡ Some answer → IsAnswer fabric (last_of fabric.manager ends) answer
is_answer fabric smp ends answer good long below is answers =
    let so = walks fabric smp ends is in
    let reply = replies fabric (last_of fabric.manager ends) (arrived ends smp) answer (carried fabric smp ends good long below is).long good.holdings answers in
    record { long = reply.long; ready = ready_before fabric smp answer ends good so.sent below long so.walked reply.below reply.long reply.keeps }

-- ---- a reply comes only where hops bring it
answered_by : (fabric : FabricState) (smp reply : List ℕ) (ends : List PortRef) (answer : Option (List ℕ))
    → IsGood fabric → length smp ≡ 256 → AllBelowBase 256 smp → walk_of fabric smp ≡ Some ends
    → reply_at fabric (last_of fabric.manager ends) (arrived ends smp) ≡ answer → option_map returned answer ≡ Some reply → IsAnswered fabric smp reply
answered_by fabric smp reply ends None good long below is answers replied = cc
answered_by fabric smp reply ends (Some answer) good long below is answers replied =
    let at = last_of fabric.manager ends in
    let one = is_answer fabric smp ends answer good long below is answers in
    record {
      at = at;
      request = arrived ends smp;
      answer = answer;
      comes = as_hops fabric smp ends good long below is;
      answers = answers;
      comes_home = subst (λ (home : List ℕ). ComesHome fabric at.node answer home) (same_Some _ _ replied) (comes fabric at answer one.long one.ready);
    }

only_by_hops : (fabric : FabricState) (smp reply : List ℕ) (walked : Option (List PortRef)) → IsGood fabric
    → length smp ≡ 256 → AllBelowBase 256 smp → walk_of fabric smp ≡ walked
    → exchange_reply fabric smp ≡ Some reply → IsAnswered fabric smp reply
only_by_hops fabric smp reply None good long below is replied = let none = no_walk_reply fabric smp is in cc
only_by_hops fabric smp reply (Some ends) good long below is replied = answered_by fabric smp reply ends _ good long below is refl (sym (walk_reply fabric smp ends is) ∙ replied)

-- ---- and wherever they do
by_hops : (fabric : FabricState) (smp reply : List ℕ) → IsGood fabric → length smp ≡ 256 → AllBelowBase 256 smp
    → IsAnswered fabric smp reply → exchange_reply fabric smp ≡ Some reply
by_hops fabric smp reply good long below answered =
    let way = as_walk fabric smp answered.at answered.request good long below answered.comes in
    let at = last_of fabric.manager way.ends in
    let answers : reply_at fabric at (arrived way.ends smp) ≡ Some answered.answer = rw (way.at_is, way.request_is) answered.answers in
    let one = is_answer fabric smp way.ends answered.answer good long below way.is answers in
    let home : ComesHome fabric at.node answered.answer reply = rw way.at_is answered.comes_home in
    walk_reply fabric smp way.ends way.is ∙ ap (option_map returned) answers
    ∙ ap (λ (reply : List ℕ). Some reply) (sym (only_reply fabric at answered.answer reply one.long one.ready home))

-- ---- what the fabric is then
changed : (fabric : FabricState) (smp : List ℕ) (at : PortRef) (request : List ℕ) → IsGood fabric → length smp ≡ 256
    → AllBelowBase 256 smp → ComesTo fabric smp at request → exchange_after fabric smp ≡ after_at fabric at request
changed fabric smp at request good long below comes =
    let way = as_walk fabric smp at request good long below comes in
    walk_after fabric smp way.ends way.is ∙ rw (way.at_is, way.request_is) refl

unchanged : (fabric : FabricState) (smp : List ℕ) (walked : Option (List PortRef)) → IsGood fabric → length smp ≡ 256
    → AllBelowBase 256 smp → walk_of fabric smp ≡ walked
    → ((at : PortRef) (request : List ℕ) → ComesTo fabric smp at request → ⊥) → exchange_after fabric smp ≡ fabric
unchanged fabric smp None good long below is none = no_walk_after fabric smp is
unchanged fabric smp (Some ends) good long below is none = absurd (none (last_of fabric.manager ends) (arrived ends smp) (as_hops fabric smp ends good long below is))

pub exchanges_go_by_hops : ExchangesGoByHops
exchanges_go_by_hops fabric smp good long below =
    record {
      replies = λ reply. (λ replied. only_by_hops fabric smp reply _ good long below refl replied, λ answered. by_hops fabric smp reply good long below answered);
      change = λ at request comes. changed fabric smp at request good long below comes;
      no_change = λ none. unchanged fabric smp _ good long below refl none;
    }
