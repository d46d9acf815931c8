-- The hop rules bring an answer home where the ports of its return path lead there.
use Rattle.std.proofs.Common.{ℕ, zero, suc, ◌≡◌, ◌⊎◌, ◌+◌, ◌-◌, ◌≤◌, ◌==◌, ◌∙◌, ◌&&◌, ◌||◌, nat_le, nat_lt, ap, refl, sym, inl, inr, Bool, true}
use Rattle.std.proofs.Common.{false, if◌then◌else◌, List, length, Some, None, arith, add-one}
use Rattle.std.specs.List.{list_all}
use Rattle.std.proofs.lemmas.Bool.Decides.{nat_tests}
use Rattle.std.proofs.lemmas.List.{set-get_or, set-set}
use Rattle.fabric_parts.specs.declared.node_type.NodeType.{NodeType}
use Rattle.smp_route.specs.declared.hop.Hop.{Hop}
use Rattle.smp_route.specs.declared.hop.Hop.TheVariants.{Forward, ToAgent, ToManager, Discard}
use Rattle.smp_route.specs.Hops.{Step, discarded, may_return, passes_back, returning, sent_back}
use Rattle.smp_route.specs.HopFields.{count, pointer, return_port, with_pointer}
use Rattle.fabric_parts.specs.declared.cable.Cable.{Cable}
use Rattle.fabric_parts.specs.declared.cable.PortRef.{PortRef}
use Rattle.smp_wire.specs.declared.node.Node.{Node}
use Rattle.fabric_parts.specs.Cable.{far_end}
use Rattle.smp_wire.specs.FabricState.{is_switch_at}
use Rattle.smp_wire.specs.Good.{is_right}
use Rattle.fabric_wire.specs.Hopping.{leads_home, node_type_at}
use Rattle.fabric_wire.proofs.HomeLemmas.{numbered}
use Rattle.fabric_wire.proofs.HopLemmas.{byte_kept, pointer_set, port_0_is_bare, same_port_out}

-- whether a node hands on what came in; at the beginning it comes from the node's own agent
abbrev pub hands_back : List Node → ℕ → ℕ → ℕ → Bool
hands_back nodes zero left node = true
hands_back nodes (suc done) left node = (left == 0) || is_switch_at nodes node

abbrev pub EntersBy : ℕ → ℕ → Type 0
EntersBy zero entered = entered ≡ 0
EntersBy (suc done) entered = (entered == 0) ≡ false

-- so many hops are done and so many are left
pub record IsComing (nodes : List Node) (cables : List Cable) (manager : ℕ) (home : Bool) (reply : List ℕ) (done : ℕ) (at : PortRef) (entered : ℕ) (smp : List ℕ) : Type 0 where
  pub left : ℕ
  pub hops : done + left ≡ count reply
  pub few : count reply ≤ 63
  pub long : length reply ≡ 256
  pub smp_is : smp ≡ with_pointer (left + 1) reply
  pub leads : home ≡ hands_back nodes done left at.node && leads_home nodes cables manager reply left at.node
  pub enters : EntersBy done entered

pub set_out : (nodes : List Node) (cables : List Cable) (manager : ℕ) (reply : List ℕ) (at : PortRef)
    → length reply ≡ 256 → count reply ≤ 63 → pointer reply ≡ count reply + 1
    → IsComing nodes cables manager (leads_home nodes cables manager reply (count reply) at.node) reply 0 at 0 reply
set_out nodes cables manager reply at long few here = record {
  left = count reply;
  hops = omega arith;
  few = few;
  long = long;
  smp_is = sym (ap (λ (p : ℕ). with_pointer p reply) (sym here) ∙ set-get_or reply 6 0);
  leads = refl;
  enters = refl;
}

-- ---- the rules of the way back
data Returns (cables : List Cable) (nodes : List Node) (manager : ℕ) (home : Bool) (reply : List ℕ) (done : ℕ) (at : PortRef) (smp : List ℕ) (step : Step) : Type 0 where
  is_home : home ≡ (at.node == manager) → step ≡ record { hop = ToManager; smp = with_pointer 0 reply }
      → Returns cables nodes manager home reply done at smp step
  passes : (left : ℕ) → done + suc left ≡ count reply → home ≡ leads_home nodes cables manager reply (suc left) at.node
      → step ≡ record { hop = Forward (return_port reply (suc left)); smp = with_pointer (suc left) reply } → Returns cables nodes manager home reply done at smp step
  drops : home ≡ false → step ≡ discarded smp → Returns cables nodes manager home reply done at smp step

rule_may : (node_type : NodeType) (entered : ℕ) (smp : List ℕ) (may : Bool) → count smp ≤ 63 → may_return node_type entered smp ≡ may
    → returning node_type entered smp ≡ (if may then sent_back smp else discarded smp)
rule_may node_type entered smp may few is =
    let short : nat_lt 63 (count smp) ≡ false = grind (arith, nat_tests, few) in
    rw (short, is) refl

by_type : (nodes : List Node) (node left : ℕ) (switch last : Bool) → is_switch_at nodes node ≡ switch → (left == 0) ≡ last → (left + 1 == 1) ≡ last
    → passes_back (node_type_at nodes node) (left + 1) ≡ (left == 0) || is_switch_at nodes node
by_type nodes node left true true s l one = rw (s, l) refl
by_type nodes node left true false s l one = rw (s, l) refl
by_type nodes node left false true s l one = rw (s, l, one) refl
by_type nodes node left false false s l one = rw (s, l, one) refl

last_hop : (left : ℕ) → (left + 1 == 1) ≡ (left == 0)
last_hop zero = refl
last_hop (suc left) = grind (arith, nat_tests)

may : (nodes : List Node) (done left : ℕ) (node entered : ℕ) (smp : List ℕ) → EntersBy done entered → pointer smp ≡ left + 1 → done + left ≡ count smp
    → may_return (node_type_at nodes node) entered smp ≡ hands_back nodes done left node
may nodes zero left node entered smp enters here hops =
    let all : (left + 1 == count smp + 1) ≡ true = grind (arith, nat_tests, hops) in
    rw (enters, here, all) refl
may nodes (suc done) left node entered smp enters here hops =
    let some : nat_le 1 (left + 1) ≡ true = grind (arith, nat_tests) in
    let within : nat_le (left + 1) (count smp) ≡ true = grind (arith, nat_tests, hops) in
    rw (enters, here, some, within) (by_type nodes node left (is_switch_at nodes node) (left == 0) refl refl (last_hop left))

back_by : (cables : List Cable) (nodes : List Node) (manager : ℕ) (home : Bool) (reply : List ℕ) (done left : ℕ) (at : PortRef) (smp : List ℕ) (hands : Bool) (step : Step)
    → list_all (is_right nodes) cables ≡ true → length reply ≡ 256 → smp ≡ with_pointer (left + 1)
    reply → done + left ≡ count reply → home ≡ hands && leads_home nodes cables manager reply left at.node
    → step ≡ (if hands then sent_back smp else discarded smp) → Returns cables nodes manager home reply done at smp step
back_by cables nodes manager home reply done left at smp false step right long smp_is hops leads rule = drops leads rule
back_by cables nodes manager home reply done zero at smp true step right long smp_is hops leads rule =
    let here : pointer smp ≡ 1 = ap pointer smp_is ∙ pointer_set reply 1 long in
    let nearer_is : with_pointer 0 smp ≡ with_pointer 0 reply = ap (with_pointer 0) smp_is ∙ set-set reply 6 1 0 in
    is_home leads (rule ∙ rw (here, nearer_is) refl)
back_by cables nodes manager home reply done (suc left) at smp true step right long smp_is hops leads rule = by_number (return_port reply (suc left) == 0) refl
  where
    here : pointer smp ≡ suc left + 1
    here = ap pointer smp_is ∙ pointer_set reply (suc left + 1) long

    not_last : (suc left + 1 == 1) ≡ false
    not_last = grind (arith, nat_tests)

    before : suc left + 1 - 1 ≡ suc left
    before = omega arith

    nearer_is : with_pointer (suc left) smp ≡ with_pointer (suc left) reply
    nearer_is = ap (with_pointer (suc left)) smp_is ∙ set-set reply 6 (suc left + 1) (suc left)

    port_is : return_port smp (suc left) ≡ return_port reply (suc left)
    port_is = ap (λ (one : List ℕ). return_port one (suc left)) smp_is ∙ byte_kept reply (suc left + 1) (192 + suc left) (λ e. omega (arith, e))

    by_number : (none : Bool) → (return_port reply (suc left) == 0) ≡ none → Returns cables nodes manager home reply done at smp step
    by_number true none =
        let bare = port_0_is_bare nodes cables at.node (return_port reply (suc left)) right none in
        drops (leads ∙ rw bare refl) (rule ∙ rw (here, not_last, before, port_is, none) refl)
    by_number false none = passes left hops leads (rule ∙ rw (here, not_last, before, port_is, none, nearer_is) refl)

returns : (nodes : List Node) (cables : List Cable) (manager : ℕ) (home : Bool) (reply : List ℕ) (done : ℕ) (at : PortRef) (entered : ℕ) (smp : List ℕ)
    → list_all (is_right nodes) cables ≡ true
    → IsComing nodes cables manager home reply done at entered smp → Returns cables nodes manager home reply done at smp (returning (node_type_at nodes at.node) entered smp)
returns nodes cables manager home reply done at entered smp right way =
    let here : pointer smp ≡ way.left + 1 = ap pointer way.smp_is ∙ pointer_set reply (way.left + 1) way.long in
    let same : count smp ≡ count reply = ap count way.smp_is ∙ byte_kept reply (way.left + 1) 7 (λ e. omega (arith, e)) in
    back_by cables nodes manager home reply done way.left at smp (hands_back nodes done way.left at.node) _ right way.long way.smp_is way.hops way.leads
    (rule_may (node_type_at nodes at.node) entered smp _ (rw same way.few) (may nodes done way.left at.node entered smp way.enters here (way.hops ∙ sym same)))

-- ---- the exits of a turn
came_by : (nodes : List Node) (cables : List Cable) (manager : ℕ) (home : Bool) (reply : List ℕ) (done : ℕ) (at : PortRef) (smp : List ℕ) (step : Step)
    → Returns cables nodes manager home reply done at smp step → step.hop ≡ ToManager → ((at.node == manager) ≡ home) × (step.smp ≡ with_pointer 0 reply)
came_by nodes cables manager home reply done at smp step (is_home leads is) to = (sym leads, ap (λ (s : Step). s.smp) is)
came_by nodes cables manager home reply done at smp step (passes left hops leads is) to =
    let clash : Forward (return_port reply (suc left)) ≡ ToManager = sym (ap (λ (s : Step). s.hop) is) ∙ to in
    cc
came_by nodes cables manager home reply done at smp step (drops leads is) to =
    let clash : Discard ≡ ToManager = sym (ap (λ (s : Step). s.hop) is) ∙ to in
    cc

lost_by : (nodes : List Node) (cables : List Cable) (manager : ℕ) (home : Bool) (reply : List ℕ) (done : ℕ) (at : PortRef) (smp : List ℕ) (step : Step)
    → Returns cables nodes manager home reply done at smp step → (step.hop ≡ ToAgent) ⊎ (step.hop ≡ Discard) → false ≡ home
lost_by nodes cables manager home reply done at smp step (is_home leads is) to =
    let hop_is : step.hop ≡ ToManager = ap (λ (s : Step). s.hop) is in
    elim to [ inl one ↦ cc | inr other ↦ cc ]
lost_by nodes cables manager home reply done at smp step (passes left hops leads is) to =
    let hop_is : step.hop ≡ Forward (return_port reply (suc left)) = ap (λ (s : Step). s.hop) is in
    elim to [ inl one ↦ cc | inr other ↦ cc ]
lost_by nodes cables manager home reply done at smp step (drops leads is) to = sym leads

bare_by : (nodes : List Node) (cables : List Cable) (manager : ℕ) (home : Bool) (reply : List ℕ) (done : ℕ) (at : PortRef) (smp : List ℕ) (step : Step) (number : ℕ)
    → Returns cables nodes manager home reply done at smp step → step.hop ≡ Forward number → far_end cables (record { node = at.node; port = number }) ≡ None → false ≡ home
bare_by nodes cables manager home reply done at smp step number (is_home leads is) to none =
    let clash : ToManager ≡ Forward number = sym (ap (λ (s : Step). s.hop) is) ∙ to in
    cc
bare_by nodes cables manager home reply done at smp step number (passes left hops leads is) to none =
    let same : return_port reply (suc left) ≡ number = same_port_out _ _ (sym (ap (λ (s : Step). s.hop) is) ∙ to) in
    sym (leads ∙ rw (same, none) refl)
bare_by nodes cables manager home reply done at smp step number (drops leads is) to none = sym leads

goes_by : (nodes : List Node) (cables : List Cable) (manager : ℕ) (home : Bool) (reply : List ℕ) (done : ℕ) (at there : PortRef) (entered : ℕ) (smp : List ℕ) (step : Step) (number : ℕ)
    → list_all (is_right nodes) cables ≡ true
    → IsComing nodes cables manager home reply done at entered smp
    → Returns cables nodes manager home reply done at smp step → step.hop ≡ Forward number → far_end cables (record { node = at.node; port = number }) ≡ Some there
    → IsComing nodes cables manager home reply (suc done) there there.port step.smp
goes_by nodes cables manager home reply done at there entered smp step number right way (is_home leads is) to there_is =
    let clash : ToManager ≡ Forward number = sym (ap (λ (s : Step). s.hop) is) ∙ to in
    cc
goes_by nodes cables manager home reply done at there entered smp step number right way (passes left hops leads is) to there_is =
    let same : return_port reply (suc left) ≡ number = same_port_out _ _ (sym (ap (λ (s : Step). s.hop) is) ∙ to) in
    record {
      left = left;
      hops = omega (arith, hops);
      few = way.few;
      long = way.long;
      smp_is = ap (λ (s : Step). s.smp) is ∙ ap (λ (p : ℕ). with_pointer p reply) (sym (add-one left));
      leads = leads ∙ rw (same, there_is) refl;
      enters = (numbered nodes cables (record { node = at.node; port = number }) there right there_is).1;
    }
goes_by nodes cables manager home reply done at there entered smp step number right way (drops leads is) to there_is =
    let clash : Discard ≡ Forward number = sym (ap (λ (s : Step). s.hop) is) ∙ to in
    cc

-- ---- the same over what the node did
abbrev Turn : List Node → PortRef → ℕ → List ℕ → Step
Turn nodes at entered smp = returning (node_type_at nodes at.node) entered smp

pub came : (nodes : List Node) (cables : List Cable) (manager : ℕ) (home : Bool) (reply : List ℕ) (done : ℕ) (at : PortRef) (entered : ℕ) (smp : List ℕ)
    → list_all (is_right nodes) cables ≡ true
    → IsComing nodes cables manager home reply done at entered
    smp → (Turn nodes at entered smp).hop ≡ ToManager → ((at.node == manager) ≡ home) × ((Turn nodes at entered
    smp).smp ≡ with_pointer 0 reply)
came nodes cables manager home reply done at entered smp right way to =
    came_by nodes cables manager home reply done at smp _ (returns nodes cables manager home reply done at entered smp right way) to

pub lost : (nodes : List Node) (cables : List Cable) (manager : ℕ) (home : Bool) (reply : List ℕ) (done : ℕ) (at : PortRef) (entered : ℕ) (smp : List ℕ)
    → list_all (is_right nodes) cables ≡ true
    → IsComing nodes cables manager home reply done at entered smp → (given : Hop) → given ≡ (Turn nodes at entered smp).hop → (given ≡ ToAgent) ⊎ (given ≡ Discard) → false ≡ home
lost nodes cables manager home reply done at entered smp right way given is to =
    lost_by nodes cables manager home reply done at smp _
    (returns nodes cables manager home reply done at entered smp right way)
    (elim to [ inl one ↦ inl (sym is ∙ one) | inr other ↦ inr (sym is ∙ other) ])

pub bare_port : (nodes : List Node) (cables : List Cable) (manager : ℕ) (home : Bool) (reply : List ℕ) (done : ℕ) (at : PortRef) (entered : ℕ) (smp : List ℕ) (number : ℕ)
    → list_all (is_right nodes) cables ≡ true
    → IsComing nodes cables manager home reply done at entered smp → (Turn nodes at entered smp).hop ≡ Forward
    number → far_end cables (record { node = at.node; port = number }) ≡ None → false ≡ home
bare_port nodes cables manager home reply done at entered smp number right way to none =
    bare_by nodes cables manager home reply done at smp _ number (returns nodes cables manager home reply done at entered smp right way) to none

pub goes : (nodes : List Node) (cables : List Cable) (manager : ℕ) (home : Bool) (reply : List ℕ) (done : ℕ) (at there : PortRef) (entered : ℕ) (smp : List ℕ) (number : ℕ)
    → list_all (is_right nodes) cables ≡ true
    → IsComing nodes cables manager home reply done at entered smp → (Turn nodes at entered smp).hop ≡ Forward number
    → far_end cables (record { node = at.node; port = number }) ≡ Some there
    → IsComing nodes cables manager home reply (done + 1) there there.port (Turn nodes at entered smp).smp
goes nodes cables manager home reply done at there entered smp number right way to is =
    rw (add-one done) (goes_by nodes cables manager home reply done at there entered smp _ number right way (returns nodes cables manager home reply done at entered smp right way) to is)
