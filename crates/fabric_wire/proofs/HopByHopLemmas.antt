-- The walk of an exchange is the way that the hop rules take an SMP and its reply.
use Rattle.std.proofs.Common.{ℕ, zero, suc, ◌≡◌, ◌≢◌, ◌+◌, ◌<◌, ◌==◌, ◌∙◌, ◌&&◌, nat_le, nat_lt, ap, refl, sym, subst, inl, inr, Bool, true, false}
use Rattle.std.proofs.Common.{List, [], ◌∷◌, length, Option, Some, None, option_map, arith, ◌*◌, ◌≤◌, slice_set}
use Rattle.std.specs.List.{list_all}
use Rattle.std.proofs.lemmas.Bool.{and_from, and_parts}
use Rattle.std.proofs.lemmas.Bool.Decides.{nat_tests}
use Rattle.fabric_parts.specs.declared.node_type.NodeType.{NodeType}
use Rattle.smp_route.specs.declared.hop.Hop.{Hop}
use Rattle.smp_route.specs.declared.hop.Hop.TheVariants.{Forward, ToAgent, ToManager, Discard}
use Rattle.smp_route.specs.Hops.{Step, outgoing, returning}
use Rattle.smp_route.specs.HopFields.{count, is_outgoing, pointer, with_pointer, with_return_port}
use Rattle.fabric_parts.specs.declared.cable.PortRef.{PortRef}
use Rattle.smp_wire.specs.declared.walking.Arrival.{Arrival}
use Rattle.fabric_parts.specs.Cable.{far_end}
use Rattle.smp_wire.specs.FabricState.{FabricState}
use Rattle.smp_wire.specs.Good.{IsGood, is_right}
use Rattle.fabric_wire.specs.HopByHop.{Goes, Passes, Visit, agent_port, hop_rules}
use Rattle.smp_wire.specs.Walk.{arrival_of, is_sent, path_of, walk}
use Rattle.fabric_wire.proofs.HomeLemmas.{numbered}
use Rattle.fabric_wire.proofs.HopLemmas.{IsOnWay, Leaves, leaves, noted_by}
use Rattle.fabric_wire.proofs.HopLemmas.Leaves.{arrives, drops, passes}
use Rattle.smp_wire.proofs.ArrivalLemmas.{end_small, port_small, put_below}
use Rattle.fabric_wire.proofs.OutwardLemmas.{arrived, bare_port, begun, goes, lost}
use Rattle.fabric_wire.specs.Hopping.{node_type_at}
use Rattle.smp_wire.specs.declared.node.Node.{Node}
use Rattle.fabric_parts.specs.declared.cable.Cable.{Cable}
use Rattle.mad_layout.proofs.LayoutLemmas.{field-put_apart}
use Rattle.mad_layout.proofs.AlignedLemmas.{byte_is_set}
use Rattle.mad_layout.specs.Bits.{field}
use Rattle.std.proofs.lemmas.Option.{same_Some}
use Rattle.std.proofs.lemmas.List.{length-set}
use Rattle.std.specs.Int.Digits.{AllBelowBase}
use Rattle.smp_wire.proofs.PresentLemmas.{present_right}

abbrev visit : PortRef → ℕ → List ℕ → Visit
visit at entered smp = record { node = at.node; entered = entered; smp = smp }

-- the rules of the way out, and of the way back
abbrev pub out_from : List Node → Visit → Step
out_from nodes here = outgoing (node_type_at nodes here.node) here.entered here.smp

abbrev pub back_from : List Node → Visit → Step
back_from nodes here = returning (node_type_at nodes here.node) here.entered here.smp

pub rules_out : (nodes : List Node) (here : Visit) → is_outgoing here.smp ≡ true → hop_rules nodes here ≡ out_from nodes here
rules_out nodes here out = rw out refl

pub rules_back : (nodes : List Node) (here : Visit) → is_outgoing here.smp ≡ false → hop_rules nodes here ≡ back_from nodes here
rules_back nodes here back = rw back refl

-- ---- no hop changes the direction bit
pub direction_kept : (smp : List ℕ) (k v : ℕ) → AllBelowBase 256 smp → length smp ≡ 256 → 5 ≤ k → k < 256 → v < 256
    → is_outgoing (slice_set smp k v) ≡ is_outgoing smp
direction_kept smp k v below long later inside small =
    ap (λ (bit : ℕ). bit == 0)
    (ap (λ (xs : List ℕ). field xs 32 1) (byte_is_set smp k v below (omega (arith, long, inside)) small)
    ∙ field-put_apart smp (8 * k) 8 v 32 1 (omega (arith, long, inside)) (omega (arith, long)) (omega (arith, small)) (inl (omega (arith, later))))

pub record IsOut (smp : List ℕ) : Type 0 where
  pub below : AllBelowBase 256 smp
  pub out : is_outgoing smp ≡ true

byte_out : (smp : List ℕ) (k v : ℕ) → IsOut smp → length smp ≡ 256 → 5 ≤ k → k < 256 → v < 256 → IsOut (slice_set smp k v)
byte_out smp k v is long later inside small = record {
  below = rw (byte_is_set smp k v is.below (omega (arith, long, inside)) small) (put_below smp (8 * k) 8 v);
  out = direction_kept smp k v is.below long later inside small ∙ is.out;
}

noted_out : (hops p : ℕ) (at : PortRef) (smp : List ℕ) → IsOut smp → length smp ≡ 256 → hops ≤ 63 → p < 256
    → at.port < 256 → IsOut (with_pointer p (noted_by hops at smp))
noted_out zero p at smp is long few low small = byte_out smp 6 p is long (omega arith) (omega arith) low
noted_out (suc done) p at smp is long few low small =
    let cleared = byte_out smp 6 0 is long (omega arith) (omega arith) (omega arith) in
    let cleared_long : length (with_pointer 0 smp) ≡ 256 = length-set smp 6 0 ∙ long in
    let noted = byte_out (with_pointer 0 smp) (192 + suc done) at.port cleared cleared_long (omega arith) (omega (arith, few)) small in
    byte_out (with_return_port (suc done) at.port (with_pointer 0 smp)) 6 p noted (length-set (with_pointer 0 smp) (192 + suc done) at.port ∙ cleared_long) (omega arith) (omega arith) low

passes_out : (nodes : List Node) (cables : List Cable) (sent : List ℕ) (hops : ℕ) (at : PortRef) (smp : List ℕ) (step : Step) (port : ℕ)
    → Leaves nodes cables sent hops at smp step → step.hop ≡ Forward port
    → IsOut smp → length smp ≡ 256 → count sent ≤ 63 → at.port < 256 → IsOut step.smp
passes_out nodes cables sent hops at smp step port (arrives over is) to out long few small =
    let clash : ToAgent ≡ Forward port = sym (ap (λ (s : Step). s.hop) is) ∙ to in
    cc
passes_out nodes cables sent hops at smp step port (passes more hands is) to out long few small =
    rw (ap (λ (s : Step). s.smp) is) (noted_out hops (hops + 1) at smp out long (omega (arith, more, few)) (omega (arith, more, few)) small)
passes_out nodes cables sent hops at smp step port (drops more none is) to out long few small =
    let clash : Discard ≡ Forward port = sym (ap (λ (s : Step). s.hop) is) ∙ to in
    cc

-- where the walk of the definition arrives
abbrev pub walk_ends : FabricState → List ℕ → Option Arrival
walk_ends fabric sent = option_map (arrival_of fabric.manager sent) (walk fabric.nodes fabric.cables true fabric.manager (path_of sent))

abbrev arrival_at : FabricState → Visit → Arrival
arrival_at fabric last = record { at = agent_port fabric.manager last; smp = (hop_rules fabric.nodes last).smp }

-- the agent of a node to which an SMP came by a cable
entered_by : (fabric : FabricState) (out : PortRef) (next : Visit) → list_all (is_right fabric.nodes) fabric.cables ≡ true
    → far_end fabric.cables out ≡ Some (record { node = next.node; port = next.entered }) → agent_port fabric.manager next ≡ record { node = next.node; port = next.entered }
entered_by fabric out next right is =
    rw (numbered fabric.nodes fabric.cables out (record { node = next.node; port = next.entered }) right is).1 refl

-- an SMP on its way out
pub record GoesOut (fabric : FabricState) (sent : List ℕ) (hops : ℕ) (at : PortRef) (entered : ℕ) (smp : List ℕ) : Type 0 where
  pub on : IsOnWay fabric.nodes fabric.cables fabric.manager sent hops at entered smp
  pub out : IsOut smp
  pub small : at.port < 256
  pub agent : agent_port fabric.manager (visit at entered smp) ≡ at

pub set_out : (fabric : FabricState) (sent : List ℕ) → IsGood fabric → length sent ≡ 256 → AllBelowBase 256 sent
    → is_sent sent ≡ true → GoesOut fabric sent 0 fabric.manager 0 sent
set_out fabric sent good long below is = record {
  on = begun fabric.nodes fabric.cables fabric.manager sent long is;
  out = record { below = below; out = (and_parts _ _ is).0 };
  small = port_small fabric.nodes fabric.manager good.counts good.manager_port;
  agent = refl;
}

goes_out : (fabric : FabricState) (sent : List ℕ) (hops : ℕ) (at : PortRef) (entered : ℕ) (smp : List ℕ) (next : Visit) (port : ℕ)
    → IsGood fabric → GoesOut fabric sent hops at entered smp
    → (out_from fabric.nodes (visit at entered smp)).hop ≡ Forward port → far_end fabric.cables
    (record { node = at.node; port = port }) ≡ Some (record { node = next.node; port = next.entered })
    → next.smp ≡ (out_from fabric.nodes (visit at entered smp)).smp → GoesOut fabric sent (hops + 1) (record { node = next.node; port = next.entered }) next.entered next.smp
goes_out fabric sent hops at entered smp next port good way to cable as_left =
    let there : PortRef = record { node = next.node; port = next.entered } in
    let on = way.on in
    record {
      on = rw as_left (goes fabric.nodes fabric.cables fabric.manager sent hops at there entered smp port (present_right good) on to cable);
      out = rw as_left (passes_out fabric.nodes fabric.cables sent hops at smp _ port
          (leaves fabric.nodes fabric.cables fabric.manager sent hops at entered smp (present_right good) on) to way.out
          on.long on.few way.small);
      small = end_small fabric (record { node = at.node; port = port }) there good cable;
      agent = entered_by fabric (record { node = at.node; port = port }) next (present_right good) cable;
    }

-- ---- every way out to an agent ends where the walk does
pub follows : (fabric : FabricState) (sent : List ℕ) (way : List Visit) (hops : ℕ) (at : PortRef) (entered : ℕ) (smp : List ℕ) (last : Visit)
    → IsGood fabric → GoesOut fabric sent hops at entered smp
    → Goes fabric (visit at entered smp) way last → (hop_rules fabric.nodes last).hop ≡ ToAgent → Some (arrival_at fabric last) ≡ walk_ends fabric sent
follows fabric sent [] hops at entered smp last good here is to =
    let rules = rules_out fabric.nodes (visit at entered smp) here.out.out in
    let given : (out_from fabric.nodes (visit at entered smp)).hop ≡ ToAgent = sym (ap (λ (s : Step). s.hop) rules) ∙ ap (λ (v : Visit). (hop_rules fabric.nodes v).hop) is ∙ to in
    subst (λ (v : Visit). Some (arrival_at fabric v) ≡ walk_ends fabric sent) is
    (rw (here.agent, ap (λ (s : Step). s.smp) rules) (arrived fabric.nodes fabric.cables fabric.manager sent hops at entered smp (present_right good) here.on given))
follows fabric sent (next ∷ later) hops at entered smp last good here way to =
    let pass = way.0 in
    let rules = rules_out fabric.nodes (visit at entered smp) here.out.out in
    let leaves_by = sym (ap (λ (s : Step). s.hop) rules) ∙ pass.leaves in
    let as_left = pass.as_left ∙ ap (λ (s : Step). s.smp) rules in
    follows fabric sent later (hops + 1) (record { node = next.node; port = next.entered }) next.entered next.smp
    last good (goes_out fabric sent hops at entered smp next pass.port good here leaves_by pass.cable as_left)
    way.1 to

-- ---- where the walk arrives there is a way
pub record Found (fabric : FabricState) (arrival : Arrival) (here : Visit) : Type 0 where
  pub way : List Visit
  pub last : Visit
  pub goes : Goes fabric here way last
  pub to_agent : (hop_rules fabric.nodes last).hop ≡ ToAgent
  pub arrival_is : arrival ≡ arrival_at fabric last

found_on : (fabric : FabricState) (arrival : Arrival) (here next : Visit) → Passes fabric here next
    → Found fabric arrival next → Found fabric arrival here
found_on fabric arrival here next pass rest = record { way = next ∷ rest.way; last = rest.last; goes = (pass, rest.goes); to_agent = rest.to_agent; arrival_is = rest.arrival_is }

found_by : (fabric : FabricState) (sent : List ℕ) (arrival : Arrival) (hops : ℕ) (at : PortRef) (entered : ℕ) (smp : List ℕ) (hop : Hop)
    → IsGood fabric → GoesOut fabric sent hops at entered smp
    → walk_ends fabric sent ≡ Some arrival → (out_from fabric.nodes (visit at entered smp)).hop ≡ hop
    → ((next : Visit) → GoesOut fabric sent (hops + 1) (record { node = next.node; port = next.entered }) next.entered next.smp → Found fabric arrival next)
    → Found fabric arrival (visit at entered smp)
found_by fabric sent arrival hops at entered smp ToAgent good here ends to later =
    let rules = rules_out fabric.nodes (visit at entered smp) here.out.out in
    let given = arrived fabric.nodes fabric.cables fabric.manager sent hops at entered smp (present_right good) here.on to in
    record {
      way = [];
      last = visit at entered smp;
      goes = refl;
      to_agent = ap (λ (s : Step). s.hop) rules ∙ to;
      arrival_is = same_Some _ _ (sym (given ∙ ends)) ∙ rw (here.agent, ap (λ (s : Step). s.smp) rules) refl;
    }
found_by fabric sent arrival hops at entered smp ToManager good here ends to later =
    let none = lost fabric.nodes fabric.cables fabric.manager sent hops at entered smp (present_right good) here.on ToManager (sym to) (inl refl) in
    cc
found_by fabric sent arrival hops at entered smp Discard good here ends to later =
    let none = lost fabric.nodes fabric.cables fabric.manager sent hops at entered smp (present_right good) here.on Discard (sym to) (inr refl) in
    cc
found_by fabric sent arrival hops at entered smp (Forward port) good here ends to later = by_cable (far_end fabric.cables (record { node = at.node; port = port })) refl
  where
    by_cable : (end : Option PortRef) → far_end fabric.cables (record { node = at.node; port = port }) ≡ end
        → Found fabric arrival (visit at entered smp)
    by_cable None is =
        let none = bare_port fabric.nodes fabric.cables fabric.manager sent hops at entered smp port (present_right good) here.on to is in
        cc
    by_cable (Some there) is =
        let rules = rules_out fabric.nodes (visit at entered smp) here.out.out in
        let next = visit there there.port (out_from fabric.nodes (visit at entered smp)).smp in
        let pass : Passes fabric (visit at entered smp)
        next = record {
          port = port;
          leaves = ap (λ (s : Step). s.hop) rules ∙ to;
          cable = is;
          as_left = sym
              (ap (λ (s : Step). s.smp) rules);
        } in
        found_on fabric arrival (visit at entered smp) next pass (later next (goes_out fabric sent hops at entered smp next port good here to is refl))

found_within : (fabric : FabricState) (sent : List ℕ) (arrival : Arrival) (fuel hops : ℕ) (at : PortRef) (entered : ℕ) (smp : List ℕ)
    → IsGood fabric → GoesOut fabric sent hops at entered smp
    → walk_ends fabric sent ≡ Some arrival → count sent < hops + fuel → Found fabric arrival (visit at entered smp)
found_within fabric sent arrival zero hops at entered smp good here ends few = let within = here.on.within in absurd (omega (arith, within, few))
found_within fabric sent arrival (suc fuel) hops at entered smp good here ends few =
    found_by fabric sent arrival hops at entered smp _ good here ends refl
    (λ next on_there. found_within fabric sent arrival fuel (hops + 1) (record { node = next.node; port = next.entered }) next.entered next.smp good on_there ends (omega (arith, few)))

pub found : (fabric : FabricState) (sent : List ℕ) (arrival : Arrival) → IsGood fabric → length sent ≡ 256
    → AllBelowBase 256 sent → is_sent sent ≡ true → walk_ends fabric sent ≡ Some arrival
    → Found fabric arrival (visit fabric.manager 0 sent)
found fabric sent arrival good long below is ends =
    found_within fabric sent arrival (count sent + 1) 0 fabric.manager 0 sent good (set_out fabric sent good long below is) ends (omega arith)

-- ---- what the hop rules send from the subnet manager is at the beginning of its path
begins_by : (node_type : NodeType) (smp : List ℕ) (long past start : Bool) → nat_lt 63 (count smp) ≡ long
    → nat_lt (count smp) (pointer smp) ≡ past → (pointer smp == 0) ≡ start
    → (outgoing node_type 0 smp).hop ≢ Discard → (pointer smp == 0) && nat_le (count smp) 63 ≡ true
begins_by node_type smp true past start l p s kept = absurd (kept (rw l refl))
begins_by node_type smp false true start l p s kept = absurd (kept (rw (l, p) refl))
begins_by node_type smp false false false l p s kept = absurd (kept (rw (l, p, s) refl))
begins_by node_type smp false false true l p s kept = and_from (pointer smp == 0) _ s (grind (arith, nat_tests, l))

pub is_sent_by : (node_type : NodeType) (smp : List ℕ) → is_outgoing smp ≡ true → (outgoing node_type 0 smp).hop ≢ Discard → is_sent smp ≡ true
is_sent_by node_type smp out kept = and_from (is_outgoing smp) _ out (begins_by node_type smp _ _ _ refl refl refl kept)
