-- The hop rules lead an SMP along the walk of the definition.
use Rattle.std.proofs.Common.{ℕ, zero, suc, ◌≡◌, ◌≢◌, ◌+◌, ◌<◌, ◌≤◌, ◌==◌, ◌∙◌, ap, refl, sym, ◌&&◌, Bool, true, false, if◌then◌else◌, List, length}
use Rattle.std.proofs.Common.{slice_index, Option, Some, None, arith}
use Rattle.std.specs.List.{list_all}
use Rattle.std.proofs.lemmas.Bool.{eqb-true, false≢true, le-ltb}
use Rattle.std.proofs.lemmas.Bool.Decides.{nat_tests}
use Rattle.std.proofs.lemmas.List.{get_or-set_other, get_or-set_same, set-set, set_comm}
use Rattle.fabric_parts.specs.declared.node_type.NodeType.{NodeType}
use Rattle.smp_route.specs.declared.hop.Hop.TheVariants.{Forward, ToAgent}
use Rattle.smp_route.specs.Hops.{Step, by_port, discarded, handed_on, noted, outgoing}
use Rattle.smp_route.specs.HopFields.{count, initial_port, pointer, with_pointer, with_return_port}
use Rattle.fabric_parts.specs.declared.cable.Cable.{Cable}
use Rattle.fabric_parts.specs.declared.cable.PortRef.{PortRef}
use Rattle.smp_wire.specs.declared.node.Node.{Node}
use Rattle.fabric_parts.specs.Cable.{far_end}
use Rattle.smp_wire.specs.FabricState.{is_port, is_switch_at}
use Rattle.smp_wire.specs.Good.{is_right}
use Rattle.fabric_wire.specs.Hopping.{node_type_at}
use Rattle.smp_wire.specs.Walk.{hands_on, hop}
use Rattle.smp_wire.proofs.CableLemmas.{cabled_is_port}
use Rattle.fabric_wire.proofs.HomeLemmas.{numbered}
use Rattle.smp_wire.proofs.WalkLemmas.{IsUnderWay}

-- ---- the bytes that hops change
pub pointer_set : (smp : List ℕ) (p : ℕ) → length smp ≡ 256 → pointer (with_pointer p smp) ≡ p
pointer_set smp p long = get_or-set_same smp 6 p 0 (omega (arith, long))

pub byte_kept : (smp : List ℕ) (p k : ℕ) → k ≢ 6 → slice_index (with_pointer p smp) k ≡ slice_index smp k
byte_kept smp p k other = get_or-set_other smp 6 k p 0 other

pub byte_left : (smp : List ℕ) (hops port k : ℕ) → k < 192 → slice_index (with_return_port hops port smp) k ≡ slice_index smp k
byte_left smp hops port k low = get_or-set_other smp (192 + hops) k port 0 (λ e. omega (arith, low, e))

-- ---- the SMP with all ports by which it came in, the last of which its node has still to write, and with
-- pointer 0
abbrev pub noted_by : ℕ → PortRef → List ℕ → List ℕ
noted_by zero at smp = smp
noted_by (suc done) at smp = with_return_port (suc done) at.port (with_pointer 0 smp)

-- the port by which it came in, 0 for the node itself
abbrev pub entry_port : ℕ → PortRef → ℕ
entry_port zero at = 0
entry_port (suc done) at = at.port

abbrev pub IsNumbered : ℕ → PortRef → Type 0
IsNumbered zero at = Unit {0}
IsNumbered (suc done) at = (at.port == 0) ≡ false

pub record IsOnWay (nodes : List Node) (cables : List Cable) (manager : PortRef) (sent : List ℕ) (hops : ℕ) (at : PortRef) (entered : ℕ) (smp : List ℕ) : Type 0 where
  pub under : IsUnderWay nodes cables manager sent hops at (noted_by hops at smp)
  pub sent_long : length sent ≡ 256
  pub long : length smp ≡ 256
  pub pointer_is : pointer smp ≡ hops
  pub count_is : count smp ≡ count sent
  pub path_is : (k : ℕ) → k < 64 → initial_port smp k ≡ initial_port sent k
  pub few : count sent ≤ 63
  pub within : hops ≤ count sent
  pub entered_is : entered ≡ entry_port hops at
  pub is_numbered : IsNumbered hops at

-- ---- what a node does with it
pub data Leaves (nodes : List Node) (cables : List Cable) (sent : List ℕ) (hops : ℕ) (at : PortRef) (smp : List ℕ) (step : Step) : Type 0 where
  arrives : count sent ≤ hops
      → step ≡ record { hop = ToAgent; smp = with_pointer (count sent + 1) (noted_by hops at smp) }
      → Leaves nodes cables sent hops at smp step
  passes : hops < count sent → hands_on nodes (hops == 0) at ≡ true
      → step ≡ record { hop = Forward (initial_port sent (hops + 1)); smp = with_pointer (hops + 1) (noted_by hops at smp) }
      → Leaves nodes cables sent hops at smp step
  drops : hops < count sent → hop nodes cables (hops == 0) at (initial_port sent (hops + 1)) ≡ None
      → step ≡ discarded smp → Leaves nodes cables sent hops at smp step

-- one hop leaves by one port
pub same_port_out : (a b : ℕ) → Forward a ≡ Forward b → a ≡ b
same_port_out a b e = cc

-- port 0 has no cable
bare_by : (cables : List Cable) (node : ℕ) (found : Option PortRef) → ((there : PortRef) → found ≡ Some there → ⊥) → found ≡ None
bare_by cables node None h = refl
bare_by cables node (Some there) h = absurd (h there refl)

pub port_0_is_bare : (nodes : List Node) (cables : List Cable) (node number : ℕ)
    → list_all (is_right nodes) cables ≡ true → (number == 0) ≡ true
    → far_end cables (record { node = node; port = number }) ≡ None
port_0_is_bare nodes cables node number right zero_is =
    bare_by cables node (far_end cables (record { node = node; port = number }))
    (λ there is. false≢true (sym
    (numbered nodes cables (record { node = node; port = number }) there right is).0 ∙ zero_is))

no_hop : (nodes : List Node) (cables : List Cable) (starts : Bool) (at : PortRef) (number : ℕ)
    → far_end cables (record { node = at.node; port = number }) ≡ None → hop nodes cables starts at number ≡ None
unfolding hop
no_hop nodes cables starts at number none = by (hands_on nodes starts at && is_port nodes (record { node = at.node; port = number }))
  where
    by : (b : Bool) → (if b then far_end cables (record { node = at.node; port = number }) else None) ≡ None
    by true = none
    by false = refl

not_handed : (nodes : List Node) (cables : List Cable) (starts : Bool) (at : PortRef) (number : ℕ)
    → hands_on nodes starts at ≡ false → hop nodes cables starts at number ≡ None
unfolding hop
not_handed nodes cables starts at number is = rw is refl

-- where cables are right, a hop of a node that hands on asks for a cable alone
bare_unless : (is : Bool) (found : Option PortRef) → ((there : PortRef) → found ≡ Some there → is ≡ true) → (if is then found else None) ≡ found
bare_unless true found ports = refl
bare_unless false None ports = refl
bare_unless false (Some there) ports = absurd (false≢true (ports there refl))

pub hop_is_far_end : (nodes : List Node) (cables : List Cable) (starts : Bool) (at : PortRef) (number : ℕ)
    → list_all (is_right nodes) cables ≡ true → hands_on nodes starts at ≡ true
    → hop nodes cables starts at number ≡ far_end cables (record { node = at.node; port = number })
unfolding hop
hop_is_far_end nodes cables starts at number right is =
    rw is (bare_unless (is_port nodes (record { node = at.node; port = number }))
    (far_end cables (record { node = at.node; port = number }))
    (λ there found. cabled_is_port nodes cables (record { node = at.node; port = number }) there right found))

-- ---- the rules of the way out
-- from the node itself
rule_sent : (node_type : NodeType) (smp : List ℕ) → pointer smp ≡ 0 → count smp ≤ 63
    → outgoing node_type 0 smp ≡ (if count smp == 0 then record { hop = ToAgent; smp = with_pointer 1 smp } else by_port (initial_port smp 1) (with_pointer 1 smp) smp)
rule_sent node_type smp start few = rw (le-ltb 63 (count smp) few, start, le-ltb (count smp) 0 (omega arith)) refl

-- from another node
rule_came_in : (node_type : NodeType) (port done : ℕ) (smp : List ℕ) → (port == 0) ≡ false → pointer smp ≡ suc done
    → suc done ≤ count smp → count smp ≤ 63
    → outgoing node_type port smp ≡ (if suc done == count smp then record { hop = ToAgent; smp = noted port smp } else handed_on node_type port smp)
rule_came_in node_type port done smp numbered at within few =
    let later : (suc done == 0) ≡ false = grind (arith, nat_tests) in
    rw (le-ltb 63 (count smp) few, at, le-ltb (count smp) (suc done) within, numbered, later) refl

-- what it writes
noted_is : (port done : ℕ) (at : PortRef) (smp : List ℕ) (p : ℕ) → length smp ≡ 256 → pointer smp ≡ suc done → port ≡ at.port → p ≡ suc done + 1
    → noted port smp ≡ with_pointer p (noted_by (suc done) at smp)
noted_is port done at smp p long here is place =
    let written = with_return_port (suc done) at.port smp in
    let kept : pointer written ≡ suc done = byte_left smp (suc done) at.port 6 (omega arith) ∙ here in
    let swapped : with_return_port (suc done) at.port (with_pointer 0 smp) ≡ with_pointer 0 written = set_comm smp 6 (192 + suc done) 0 at.port (λ e. omega (arith, e)) in
    rw (here, is, kept, place, swapped) (sym (set-set written 6 0 (suc done + 1)))

-- ---- at the subnet manager's node
some_hop : (hops : ℕ) → (hops == 0) ≡ false → 0 < hops
some_hop hops is = grind (arith, nat_tests, is)

from_manager_by : (nodes : List Node) (cables : List Cable) (sent : List ℕ) (at : PortRef) (smp : List ℕ) (here none : Bool) (step : Step)
    → list_all (is_right nodes) cables ≡ true → (count smp == 0) ≡ here → (initial_port smp 1 == 0) ≡ none
    → count smp ≡ count sent → initial_port smp 1 ≡ initial_port sent 1
    → step ≡ (if count smp == 0 then record { hop = ToAgent; smp = with_pointer 1 smp } else by_port (initial_port smp 1) (with_pointer 1 smp) smp)
    → Leaves nodes cables sent 0 at smp step
from_manager_by nodes cables sent at smp true none step right is zero_is same path rule =
    let least : count sent ≡ 0 = rw (← same) (eqb-true (count smp) 0 is) in
    arrives (omega (arith, least)) (rule ∙ rw (is, least) refl)
from_manager_by nodes cables sent at smp false true step right is zero_is same path rule =
    drops (some_hop (count sent) (ap (λ (n : ℕ). n == 0) (sym same) ∙ is))
    (no_hop nodes cables true at (initial_port sent (0 + 1))
    (port_0_is_bare nodes cables at.node (initial_port sent 1) right
    (ap (λ (n : ℕ). n == 0) (sym path) ∙ zero_is))) (rule ∙ rw (is, zero_is) refl)
from_manager_by nodes cables sent at smp false false step right is zero_is same path rule =
    passes (some_hop (count sent) (ap (λ (n : ℕ). n == 0) (sym same) ∙ is)) refl (rule ∙ rw (is, zero_is, path) refl)

from_manager : (nodes : List Node) (cables : List Cable) (manager : PortRef) (sent : List ℕ) (at : PortRef) (entered : ℕ) (smp : List ℕ)
    → list_all (is_right nodes) cables ≡ true
    → IsOnWay nodes cables manager sent 0 at entered smp → Leaves nodes cables sent 0 at smp (outgoing (node_type_at nodes at.node) entered smp)
from_manager nodes cables manager sent at entered smp right way =
    from_manager_by nodes cables sent at smp (count smp == 0) (initial_port smp 1 == 0) _ right refl refl way.count_is (way.path_is 1 (omega arith))
    (ap (λ (port : ℕ). outgoing (node_type_at nodes at.node) port smp) way.entered_is ∙ rule_sent (node_type_at nodes at.node) smp way.pointer_is (rw way.count_is way.few))

-- ---- at a node on the way
handed_by : (nodes : List Node) (cables : List Cable) (sent : List ℕ) (done : ℕ) (at : PortRef) (port : ℕ) (smp : List ℕ) (switch none : Bool) (step : Step)
    → list_all (is_right nodes) cables ≡ true → suc done < count sent → is_switch_at nodes at.node ≡ switch → (initial_port smp (suc done + 1) == 0) ≡ none
    → initial_port smp (suc done + 1) ≡ initial_port sent (suc done + 1) → pointer smp ≡ suc done
    → noted port smp ≡ with_pointer (suc done + 1) (noted_by (suc done) at smp)
    → step ≡ handed_on (node_type_at nodes at.node) port smp
    → Leaves nodes cables sent (suc done) at smp step
handed_by nodes cables sent done at port smp false none step right more switch zero_is path here writes rule =
    let later : (suc done == 0) ≡ false = grind (arith, nat_tests) in
    drops more (not_handed nodes cables (suc done == 0) at (initial_port sent (suc done + 1)) (rw (later, switch) refl)) (rule ∙ rw switch refl)
handed_by nodes cables sent done at port smp true true step right more switch zero_is path here writes rule =
    drops more (no_hop nodes cables (suc done == 0) at (initial_port sent (suc done + 1))
    (port_0_is_bare nodes cables at.node (initial_port sent (suc done + 1)) right
    (ap (λ (n : ℕ). n == 0) (sym path) ∙ zero_is)))
    (rule ∙ rw (switch, here, zero_is) refl)
handed_by nodes cables sent done at port smp true false step right more switch zero_is path here writes rule =
    let later : (suc done == 0) ≡ false = grind (arith, nat_tests) in
    passes more (rw (later, switch) refl) (rule ∙ rw (switch, writes, here, zero_is, path) refl)

not_last : (a b : ℕ) → a ≤ b → (a == b) ≡ false → a < b
not_last a b h e = grind (arith, nat_tests, h, e)

on_way_by : (nodes : List Node) (cables : List Cable) (sent : List ℕ) (done : ℕ) (at : PortRef) (port : ℕ) (smp : List ℕ) (last : Bool) (step : Step)
    → list_all (is_right nodes) cables ≡ true → suc done ≤ count sent → (suc done == count smp) ≡ last → count smp ≡ count sent
    → (suc done < count sent → initial_port smp (suc done + 1) ≡ initial_port sent (suc done + 1)) → pointer smp ≡ suc done
    → noted port smp ≡ with_pointer (suc done + 1) (noted_by (suc done) at smp)
    → step ≡ (if suc done == count smp then record { hop = ToAgent; smp = noted port smp } else handed_on (node_type_at nodes at.node) port smp)
    → Leaves nodes cables sent (suc done) at smp step
on_way_by nodes cables sent done at port smp true step right within last same path here writes rule =
    let all : suc done ≡ count sent = eqb-true (suc done) (count smp) last ∙ same in
    arrives (omega (arith, all)) (rule ∙ rw (last, ← all) (ap (λ (written : List ℕ). record { hop = ToAgent; smp = written }) writes))
on_way_by nodes cables sent done at port smp false step right within last same path here writes rule =
    let more = not_last (suc done) (count sent) within (ap (λ (n : ℕ). suc done == n) (sym same) ∙ last) in
    handed_by nodes cables sent done at port smp (is_switch_at nodes at.node) (initial_port smp (suc done + 1) == 0) step right more refl refl (path more) here writes (rule ∙ rw last refl)

on_way : (nodes : List Node) (cables : List Cable) (manager : PortRef) (sent : List ℕ) (done : ℕ) (at : PortRef) (entered : ℕ) (smp : List ℕ)
    → list_all (is_right nodes) cables ≡ true
    → IsOnWay nodes cables manager sent (suc done) at entered smp → Leaves nodes cables sent (suc done) at smp (outgoing (node_type_at nodes at.node) entered smp)
on_way nodes cables manager sent done at entered smp right way =
    on_way_by nodes cables sent done at entered smp (suc done == count smp) _ right way.within refl way.count_is
    (λ more. way.path_is (suc done + 1) (omega (arith, more, way.few))) way.pointer_is
    (noted_is entered done at smp (suc done + 1) way.long way.pointer_is way.entered_is refl)
    (rule_came_in (node_type_at nodes at.node) entered done smp
    (ap (λ (n : ℕ). n == 0) way.entered_is ∙ way.is_numbered) way.pointer_is (rw way.count_is way.within)
    (rw way.count_is way.few))

pub leaves : (nodes : List Node) (cables : List Cable) (manager : PortRef) (sent : List ℕ) (hops : ℕ) (at : PortRef) (entered : ℕ) (smp : List ℕ)
    → list_all (is_right nodes) cables ≡ true
    → IsOnWay nodes cables manager sent hops at entered smp → Leaves nodes cables sent hops at smp (outgoing (node_type_at nodes at.node) entered smp)
leaves nodes cables manager sent zero at entered smp right way = from_manager nodes cables manager sent at entered smp right way
leaves nodes cables manager sent (suc done) at entered smp right way = on_way nodes cables manager sent done at entered smp right way
