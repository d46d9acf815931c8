-- Far ends that are looked up.
use Rattle.std.proofs.Common.{◌≡◌, ◌∙◌, inl, inr, ap, refl, sym, ℕ, zero, suc, ◌+◌, ◌-◌, ◌<◌, ◌≤◌, Bool, true, false, cond, ◌==◌, ◌||◌, List, [], ◌∷◌, length, drop, find, get_or, slice_get, arith, Option, Some, None, option_map, if◌then◌else◌, IfSome}
use Rattle.std.proofs.lemmas.Bool.{cases_lt}
use Rattle.std.proofs.lemmas.Bool.Decides.{nat_tests}
use Rattle.indexmap.specs.IndexMap.{IndexMap, get}
use Rattle.fabric_parts.specs.Cable.{ends_at as is_end_of, far_end, is_same_port, other_end, port}
use Rattle.fabric_parts.specs.declared.cable.Cable.{Cable}
use Rattle.fabric_parts.specs.declared.cable.PortRef.{PortRef}
use Rattle.topo_file.specs.Node.{ports_at}
use Rattle.audit_plan.specs.FarEnds.{KnowsFarEnds, all_ends, end_at, ends_at, ends_of}
use Rattle.audit_plan.specs.Plan.{PlanState}
use Rattle.audit_plan.proofs.RangeLemmas.{at_range, at_some, cut_before, none_there, past_range}

-- ---- by port
far_by : (a b : Bool) (cable : Cable) (port : PortRef) (rest : Option Cable) → is_same_port cable.first port ≡ a → is_same_port cable.second port ≡ b
    → option_map (other_end port) (cond (a || b) (Some cable) rest) ≡ cond a (Some cable.second) (cond b (Some cable.first) (option_map (other_end port) rest))
far_by true b cable port rest first second = ap (λ (test : Bool). Some (if test then cable.second else cable.first)) first
far_by false true cable port rest first second = ap (λ (test : Bool). Some (if test then cable.second else cable.first)) first
far_by false false cable port rest first second = refl

far_first : (cable : Cable) (rest : List Cable) (port : PortRef) → far_end (cable ∷ rest) port
    ≡ cond (is_same_port cable.first port) (Some cable.second) (cond (is_same_port cable.second port) (Some cable.first) (far_end rest port))
far_first cable rest port = far_by (is_same_port cable.first port) (is_same_port cable.second port) cable port (find (λ c. is_end_of port c) rest) refl refl

pub far_end_more : {S : Type 0} (before one both : IndexMap PortRef PortRef S) (cables : List Cable) (index : ℕ) (none : Cable) → 0 < index → index ≤ length cables
    → KnowsFarEnds before (drop index cables)
    → ((port : PortRef) → get is_same_port one port ≡ cond (is_same_port (get_or cables (index - 1) none).second port) (Some (get_or cables (index - 1) none).first) (get is_same_port before port))
    → ((port : PortRef) → get is_same_port both port ≡ cond (is_same_port (get_or cables (index - 1) none).first port) (Some (get_or cables (index - 1) none).second) (get is_same_port one port))
    → KnowsFarEnds both (drop (index - 1) cables)
far_end_more before one both cables index none some within knows first second port =
    let cable = get_or cables (index - 1) none in
    second port ∙ ap (cond (is_same_port cable.first port) (Some cable.second)) (first port ∙ ap (cond (is_same_port cable.second port) (Some cable.first)) (knows port))
    ∙ sym (far_first cable (drop index cables) port) ∙ ap (λ (rest : List Cable). far_end rest port) (sym (cut_before cables index none some within))

-- ---- looked up by the place of a node and the number of its port
known_behind : (plan : PlanState) (place before : ℕ) (there : Option PortRef) → slice_get (ends_of (all_ends plan) place) before ≡ Some there → there ≡ far_end plan.cables (port place (before + 1))
known_behind plan place before there is = elim (cases_lt place (length plan.nodes)) [
  | inl within ↦
      let at : ends_of (all_ends plan) place ≡ ends_at plan place = at_range (ends_at plan) 0 (length plan.nodes) place place [] (omega arith) within in
      let here : 0 + before ≡ before = omega arith in
      sym (at_some (λ n. far_end plan.cables (port place (n + 1))) 0 (ports_at plan.nodes place) before there (sym (ap (λ (es : List (Option PortRef)). slice_get es before) at) ∙ is))
      ∙ ap (λ (n : ℕ). far_end plan.cables (port place (n + 1))) here
  | inr past ↦ absurd (none_there (ends_of (all_ends plan) place) before there (past_range (ends_at plan) 0 (length plan.nodes) place [] past) is)
]

known_end_is : (plan : PlanState) (node number : ℕ) (there : Option PortRef) → end_at (all_ends plan) (port node number) ≡ Some there → there ≡ far_end plan.cables (port node number)
known_end_is plan node zero there is = absurd (cc)
known_end_is plan node (suc before) there is =
    let less : suc before - 1 ≡ before = omega arith in
    let some : (suc before == 0) ≡ false = grind (arith, nat_tests) in
    let step : end_at (all_ends plan) (port node (suc before)) ≡ slice_get (ends_of (all_ends plan) node) (suc before - 1) = rw some refl in
    let more : before + 1 ≡ suc before = omega arith in
    known_behind plan node before there (sym (ap (λ (n : ℕ). slice_get (ends_of (all_ends plan) node) n) less) ∙ sym step ∙ is) ∙ ap (λ (n : ℕ). far_end plan.cables (port node n)) more

pub known_end_by : (plan : PlanState) (all : List (List (Option PortRef))) (here : PortRef) (known : Option (Option PortRef)) → all ≡ all_ends plan
    → known ≡ end_at all here → IfSome known (λ there. there ≡ far_end plan.cables here)
known_end_by plan all here None are found = tt
known_end_by plan all here (Some there) are found =
    known_end_is plan here.node here.port there (ap (λ (ends : List (List (Option PortRef))). end_at ends here) (sym are) ∙ sym found)
