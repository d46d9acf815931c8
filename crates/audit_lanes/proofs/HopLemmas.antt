-- Hops, one after the other.
use Rattle.std.proofs.Common.{◌≡◌, ◌∙◌, ap, refl, sym, ℕ, suc, ◌+◌, ◌-◌, ◌<◌, ◌≤◌, List, [], ◌∷◌, ◌++◌, append-nil, append_assoc, Option, Some, None, arith}
use Rattle.fabric_parts.specs.declared.cable.PortRef.{PortRef}
use Rattle.sl2vl_file.specs.declared.path.PathSl.{PathSl}
use Rattle.audit_net.specs.Net.{NetState}
use Rattle.audit_lanes.specs.declared.hop.Hop.{Hop}
use Rattle.audit_lanes.specs.declared.hop.Step.{Step}
use Rattle.audit_lanes.specs.Hops.{hops_by, hops_on, hops_within, step_of}
use Rattle.audit_lanes.specs.Tables.{TablesState}

one_less : (total counter : ℕ) → counter < total → total - counter ≡ suc (total - (counter + 1))
one_less total counter less = omega (arith, less)

-- what is left, from the next switch on
step_left : (net : NetState) (tables : TablesState) (path : PathSl) (total counter : ℕ) (at : PortRef) → counter < total
    → hops_within net tables path (total - counter) at ≡ hops_by (λ there. hops_within net tables path (total - (counter + 1)) there) (step_of net tables path at)
step_left net tables path total counter at less = ap (λ (n : ℕ). hops_within net tables path n at) (one_less total counter less)

pub ends_here : (net : NetState) (tables : TablesState) (path : PathSl) (total counter : ℕ) (at : PortRef) (hops whole : List Hop) → counter < total
    → step_of net tables path at ≡ None → hops ++ hops_within net tables path (total - counter) at ≡ whole → hops ≡ whole
ends_here net tables path total counter at hops whole less none is =
    sym (append-nil hops)
    ∙ ap (λ (rest : List Hop). hops ++ rest)
    (sym (step_left net tables path total counter at less ∙ ap (hops_by (λ there. hops_within net tables path (total - (counter + 1)) there)) none))
    ∙ is

-- a hop, and what is behind it
abbrev behind : NetState → TablesState → PathSl → ℕ → Option PortRef → List Hop
behind net tables path count (Some there) = hops_within net tables path count there
behind net tables path count None = []

on_behind : (net : NetState) (tables : TablesState) (path : PathSl) (count : ℕ) (hop : Hop) (next : Option PortRef)
    → hops_on (λ there. hops_within net tables path count there) hop next ≡ hop ∷ behind net tables path count next
on_behind net tables path count hop (Some there) = refl
on_behind net tables path count hop None = refl

one_hop : (net : NetState) (tables : TablesState) (path : PathSl) (total counter : ℕ) (at : PortRef) (hops whole : List Hop) (step : Step) → counter < total
    → step_of net tables path at ≡ Some step → hops ++ hops_within net tables path (total - counter) at ≡ whole
    → (hops ++ step.hop ∷ []) ++ behind net tables path (total - (counter + 1)) step.next ≡ whole
one_hop net tables path total counter at hops whole step less some is =
    append_assoc hops (step.hop ∷ []) (behind net tables path (total - (counter + 1)) step.next)
    ∙ ap (λ (rest : List Hop). hops ++ rest)
    (sym (step_left net tables path total counter at less ∙ ap (hops_by (λ there. hops_within net tables path (total - (counter + 1)) there)) some
    ∙ on_behind net tables path (total - (counter + 1)) step.hop step.next))
    ∙ is

pub last_hop : (net : NetState) (tables : TablesState) (path : PathSl) (total counter : ℕ) (at : PortRef) (hops whole : List Hop) (step : Step) → counter < total
    → step_of net tables path at ≡ Some step → step.next ≡ None → hops ++ hops_within net tables path (total - counter) at ≡ whole → hops ++ step.hop ∷ [] ≡ whole
last_hop net tables path total counter at hops whole step less some none is =
    sym (append-nil (hops ++ step.hop ∷ []))
    ∙ ap (λ (rest : List Hop). (hops ++ step.hop ∷ []) ++ rest) (sym (ap (behind net tables path (total - (counter + 1))) none))
    ∙ one_hop net tables path total counter at hops whole step less some is

pub next_hop : (net : NetState) (tables : TablesState) (path : PathSl) (total counter : ℕ) (at there : PortRef) (hops whole : List Hop) (step : Step) → counter < total
    → step_of net tables path at ≡ Some step → step.next ≡ Some there → hops ++ hops_within net tables path (total - counter) at ≡ whole
    → (hops ++ step.hop ∷ []) ++ hops_within net tables path (total - (counter + 1)) there ≡ whole
next_hop net tables path total counter at there hops whole step less some on is =
    ap (λ (rest : List Hop). (hops ++ step.hop ∷ []) ++ rest) (sym (ap (behind net tables path (total - (counter + 1))) on))
    ∙ one_hop net tables path total counter at hops whole step less some is

pub all_passed : (net : NetState) (tables : TablesState) (path : PathSl) (total counter : ℕ) (at : PortRef) (hops whole : List Hop) → total ≤ counter
    → hops ++ hops_within net tables path (total - counter) at ≡ whole → hops ≡ whole
all_passed net tables path total counter at hops whole past is =
    let none : total - counter ≡ 0 = omega (arith, past) in
    sym (append-nil hops) ∙ ap (λ (n : ℕ). hops ++ hops_within net tables path n at) (sym none) ∙ is
