-- The way out, turn by turn: the SMP is on the walk of the definition.
use Rattle.std.proofs.Common.{ℕ, zero, suc, ◌≡◌, ◌⊎◌, ◌+◌, ◌<◌, ◌==◌, ◌∙◌, ap, refl, sym, inl, inr, true, List, length, Option, Some, None, option_map, arith, add-one}
use Rattle.std.specs.List.{list_all}
use Rattle.std.proofs.lemmas.List.{length-set, set-get_or, set-set}
use Rattle.smp_route.specs.declared.hop.Hop.{Hop}
use Rattle.smp_route.specs.declared.hop.Hop.TheVariants.{Forward, ToAgent, ToManager, Discard}
use Rattle.smp_route.specs.Hops.{Step, outgoing}
use Rattle.smp_route.specs.HopFields.{count, initial_port, pointer, with_pointer, with_return_port}
use Rattle.fabric_parts.specs.declared.cable.Cable.{Cable}
use Rattle.fabric_parts.specs.declared.cable.PortRef.{PortRef}
use Rattle.smp_wire.specs.declared.node.Node.{Node}
use Rattle.smp_wire.specs.declared.walking.Arrival.{Arrival}
use Rattle.fabric_parts.specs.Cable.{far_end}
use Rattle.smp_wire.specs.Good.{is_right}
use Rattle.fabric_wire.specs.Hopping.{node_type_at}
use Rattle.smp_wire.specs.Walk.{arrival_of, hop, is_sent, path_of, walk}
use Rattle.smp_wire.proofs.WalkLemmas.{IsUnderWay, begins, ends, goes_on, sent_parts, stops}
use Rattle.fabric_wire.proofs.HomeLemmas.{numbered}
use Rattle.fabric_wire.proofs.HopLemmas.{IsOnWay, Leaves, byte_kept, byte_left, hop_is_far_end, leaves, noted_by, pointer_set, same_port_out}
use Rattle.fabric_wire.proofs.HopLemmas.Leaves.{arrives, drops, passes}

-- ---- the loop: at the beginning
pub begun : (nodes : List Node) (cables : List Cable) (manager : PortRef) (sent : List ℕ) → length sent ≡ 256
    → is_sent sent ≡ true → IsOnWay nodes cables manager sent 0 manager 0 sent
begun nodes cables manager sent long is =
    let parts = sent_parts sent is in
    record {
      under = begins nodes cables manager sent;
      sent_long = long;
      long = long;
      pointer_is = parts.0;
      count_is = refl;
      path_is = λ k low. refl;
      few = parts.1;
      within = omega arith;
      entered_is = refl;
      is_numbered = tt;
    }

-- ---- the exits of a turn
abbrev Ends : List Node → List Cable → PortRef → List ℕ → Option Arrival → Type 0
Ends nodes cables manager sent given = given ≡ option_map (arrival_of manager sent) (walk nodes cables true manager (path_of sent))

arrived_by : (nodes : List Node) (cables : List Cable) (manager : PortRef) (sent : List ℕ) (hops : ℕ) (at : PortRef) (entered : ℕ) (smp : List ℕ) (step : Step)
    → IsOnWay nodes cables manager sent hops at entered smp → Leaves nodes cables sent hops at smp
    step → step.hop ≡ ToAgent → Ends nodes cables manager sent (Some (record { at = at; smp = step.smp }))
arrived_by nodes cables manager sent hops at entered smp step way (arrives over is) to = rw is
    (ends nodes cables manager sent hops at (noted_by hops at smp) way.sent_long way.few over way.under)
arrived_by nodes cables manager sent hops at entered smp step way (passes more hands is) to =
    let clash : Forward (initial_port sent (hops + 1)) ≡ ToAgent = sym (ap (λ (s : Step). s.hop) is) ∙ to in
    cc
arrived_by nodes cables manager sent hops at entered smp step way (drops more none is) to =
    let clash : Discard ≡ ToAgent = sym (ap (λ (s : Step). s.hop) is) ∙ to in
    cc

lost_by : (nodes : List Node) (cables : List Cable) (manager : PortRef) (sent : List ℕ) (hops : ℕ) (at : PortRef) (entered : ℕ) (smp : List ℕ) (step : Step)
    → IsOnWay nodes cables manager sent hops at entered smp → Leaves nodes cables sent hops at smp step
    → (step.hop ≡ ToManager) ⊎ (step.hop ≡ Discard) → Ends nodes cables manager sent None
lost_by nodes cables manager sent hops at entered smp step way (arrives over is) to =
    let hop_is : step.hop ≡ ToAgent = ap (λ (s : Step). s.hop) is in
    elim to [ inl one ↦ cc | inr other ↦ cc ]
lost_by nodes cables manager sent hops at entered smp step way (passes more hands is) to =
    let hop_is : step.hop ≡ Forward (initial_port sent (hops + 1)) = ap (λ (s : Step). s.hop) is in
    elim to [ inl one ↦ cc | inr other ↦ cc ]
lost_by nodes cables manager sent hops at entered smp step way (drops more none is) to =
    stops nodes cables manager sent hops at (noted_by hops at smp) way.sent_long way.few more way.under none

bare_port_by : (nodes : List Node) (cables : List Cable) (manager : PortRef) (sent : List ℕ) (hops : ℕ) (at : PortRef) (entered : ℕ) (smp : List ℕ) (step : Step) (number : ℕ)
    → list_all (is_right nodes) cables ≡ true
    → IsOnWay nodes cables manager sent hops at entered smp → Leaves nodes cables sent hops at smp
    step → step.hop ≡ Forward number → far_end cables (record { node = at.node; port = number }) ≡ None → Ends
    nodes cables manager sent None
bare_port_by nodes cables manager sent hops at entered smp step number right way (arrives over is) to none =
    let clash : ToAgent ≡ Forward number = sym (ap (λ (s : Step). s.hop) is) ∙ to in
    cc
bare_port_by nodes cables manager sent hops at entered smp step number right way (passes more hands is) to none =
    let same : initial_port sent (hops + 1) ≡ number = same_port_out _ _ (sym (ap (λ (s : Step). s.hop) is) ∙ to) in
    stops nodes cables manager sent hops at (noted_by hops at smp) way.sent_long way.few more way.under
    (hop_is_far_end nodes cables (hops == 0) at (initial_port sent (hops + 1)) right hands ∙ rw same none)
bare_port_by nodes cables manager sent hops at entered smp step number right way (drops more none_is is) to none =
    stops nodes cables manager sent hops at (noted_by hops at smp) way.sent_long way.few more way.under none_is

-- ---- from turn to turn
record IsNoted (smp full : List ℕ) : Type 0 where
  pub long : length full ≡ length smp
  pub start : pointer full ≡ 0
  pub count_is : count full ≡ count smp
  pub path_is : (k : ℕ) → k < 64 → initial_port full k ≡ initial_port smp k

is_noted : (hops : ℕ) (at : PortRef) (smp : List ℕ) → length smp ≡ 256 → pointer smp ≡ hops → IsNoted smp (noted_by hops at smp)
is_noted zero at smp long here = record { long = refl; start = here; count_is = refl; path_is = λ k low. refl }
is_noted (suc done) at smp long here =
    let cleared = with_pointer 0 smp in
    record {
      long = length-set cleared (192 + suc done) at.port ∙ length-set smp 6 0;
      start = byte_left cleared (suc done) at.port 6 (omega arith) ∙ pointer_set smp 0 long;
      count_is = byte_left cleared (suc done) at.port 7 (omega arith) ∙ byte_kept smp 0 7 (λ e. omega (arith, e));
      path_is = λ k low. byte_left cleared (suc done) at.port (128 + k) (omega (arith, low)) ∙ byte_kept smp 0 (128 + k) (λ e. omega (arith, e));
    }

-- the pointer of the SMP is its pointer 0 again
cleared_again : (full : List ℕ) (p : ℕ) → pointer full ≡ 0 → with_pointer 0 (with_pointer p full) ≡ full
cleared_again full p start = set-set full 6 p 0 ∙ rw (← start) (set-get_or full 6 0)

way_on : (nodes : List Node) (cables : List Cable) (manager : PortRef) (sent : List ℕ) (hops : ℕ) (at there : PortRef) (entered number : ℕ) (smp : List ℕ)
    → list_all (is_right nodes) cables ≡ true
    → IsOnWay nodes cables manager sent hops at entered smp → hops < count sent → hop nodes cables (hops == 0) at
    (initial_port sent (hops + 1)) ≡ Some there → far_end cables
    (record { node = at.node; port = number }) ≡ Some there
    → IsOnWay nodes cables manager sent (suc hops) there there.port (with_pointer (hops + 1) (noted_by hops at smp))
way_on nodes cables manager sent hops at there entered number smp right way more hopped is =
    let full = noted_by hops at smp in
    let noted = is_noted hops at smp way.long way.pointer_is in
    let next = with_pointer (hops + 1) full in
    let full_long : length full ≡ 256 = noted.long ∙ way.long in
    let under : IsUnderWay nodes cables manager sent (suc hops) there (with_return_port (suc hops) there.port full) =
    rw (← add-one hops) (goes_on nodes cables manager sent hops at there full way.sent_long way.few more way.under hopped) in
    record {
      under = rw (cleared_again full (hops + 1) noted.start) under;
      sent_long = way.sent_long;
      long = length-set full 6 (hops + 1) ∙ full_long;
      pointer_is = pointer_set full (hops + 1) full_long ∙ add-one hops;
      count_is = byte_kept full (hops + 1) 7 (λ e. omega (arith, e)) ∙ noted.count_is ∙ way.count_is;
      path_is = λ k low. byte_kept full (hops + 1) (128 + k) (λ e. omega (arith, e)) ∙ noted.path_is k low ∙ way.path_is k low;
      few = way.few;
      within = omega (arith, more);
      entered_is = refl;
      is_numbered = (numbered nodes cables (record { node = at.node; port = number }) there right is).1;
    }

goes_by : (nodes : List Node) (cables : List Cable) (manager : PortRef) (sent : List ℕ) (hops : ℕ) (at there : PortRef) (entered : ℕ) (smp : List ℕ) (step : Step) (number : ℕ)
    → list_all (is_right nodes) cables ≡ true
    → IsOnWay nodes cables manager sent hops at entered smp → Leaves nodes cables sent hops at smp
    step → step.hop ≡ Forward number → far_end cables (record { node = at.node; port = number }) ≡ Some there
    → IsOnWay nodes cables manager sent (suc hops) there there.port step.smp
goes_by nodes cables manager sent hops at there entered smp step number right way (arrives over is) to there_is =
    let clash : ToAgent ≡ Forward number = sym (ap (λ (s : Step). s.hop) is) ∙ to in
    cc
goes_by nodes cables manager sent hops at there entered smp step number right way (passes more hands is) to there_is =
    let same : initial_port sent (hops + 1) ≡ number = same_port_out _ _ (sym (ap (λ (s : Step). s.hop) is) ∙ to) in
    rw (ap (λ (s : Step). s.smp) is) (way_on nodes cables manager sent hops at there entered number smp right way
    more (hop_is_far_end nodes cables (hops == 0) at (initial_port sent (hops + 1)) right hands ∙ rw same
    there_is) there_is)
goes_by nodes cables manager sent hops at there entered smp step number right way (drops more none is) to there_is =
    let clash : Discard ≡ Forward number = sym (ap (λ (s : Step). s.hop) is) ∙ to in
    cc

-- ---- the same over what the node did
abbrev Turn : List Node → PortRef → ℕ → List ℕ → Step
Turn nodes at entered smp = outgoing (node_type_at nodes at.node) entered smp

pub arrived : (nodes : List Node) (cables : List Cable) (manager : PortRef) (sent : List ℕ) (hops : ℕ) (at : PortRef) (entered : ℕ) (smp : List ℕ)
    → list_all (is_right nodes) cables ≡ true
    → IsOnWay nodes cables manager sent hops at entered smp → (Turn nodes at entered smp).hop ≡ ToAgent → Ends nodes
    cables manager sent (Some (record { at = at; smp = (Turn nodes at entered smp).smp }))
arrived nodes cables manager sent hops at entered smp right way to =
    arrived_by nodes cables manager sent hops at entered smp _ way (leaves nodes cables manager sent hops at entered smp right way) to

pub lost : (nodes : List Node) (cables : List Cable) (manager : PortRef) (sent : List ℕ) (hops : ℕ) (at : PortRef) (entered : ℕ) (smp : List ℕ)
    → list_all (is_right nodes) cables ≡ true
    → IsOnWay nodes cables manager sent hops at entered
    smp → (given : Hop) → given ≡ (Turn nodes at entered smp).hop → (given ≡ ToManager) ⊎
    (given ≡ Discard) → Ends nodes cables manager sent None
lost nodes cables manager sent hops at entered smp right way given is to =
    lost_by nodes cables manager sent hops at entered smp _ way
    (leaves nodes cables manager sent hops at entered smp right way)
    (elim to [ inl one ↦ inl (sym is ∙ one) | inr other ↦ inr (sym is ∙ other) ])

pub bare_port : (nodes : List Node) (cables : List Cable) (manager : PortRef) (sent : List ℕ) (hops : ℕ) (at : PortRef) (entered : ℕ) (smp : List ℕ) (number : ℕ)
    → list_all (is_right nodes) cables ≡ true
    → IsOnWay nodes cables manager sent hops at entered smp → (Turn nodes at entered smp).hop ≡ Forward
    number → far_end cables (record { node = at.node; port = number }) ≡ None → Ends nodes cables manager sent
    None
bare_port nodes cables manager sent hops at entered smp number right way to none =
    bare_port_by nodes cables manager sent hops at entered smp _ number right way (leaves nodes cables manager sent hops at entered smp right way) to none

pub goes : (nodes : List Node) (cables : List Cable) (manager : PortRef) (sent : List ℕ) (hops : ℕ) (at there : PortRef) (entered : ℕ) (smp : List ℕ) (number : ℕ)
    → list_all (is_right nodes) cables ≡ true
    → IsOnWay nodes cables manager sent hops at entered smp → (Turn nodes at entered smp).hop ≡ Forward number
    → far_end cables (record { node = at.node; port = number }) ≡ Some there
    → IsOnWay nodes cables manager sent (hops + 1) there there.port (Turn nodes at entered smp).smp
goes nodes cables manager sent hops at there entered smp number right way to is =
    rw (add-one hops) (goes_by nodes cables manager sent hops at there entered smp _ number right way (leaves nodes cables manager sent hops at entered smp right way) to is)
