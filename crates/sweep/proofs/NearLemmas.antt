-- Where each switch was asked, each cable has an end that an SMP comes to; and what a sweep comes to.
use Rattle.std.proofs.Common.{ℕ, zero, suc, ◌≤◌, ◌≡◌, ◌⊎◌, inl, inr, ◌∙◌, ◌||◌, not, nat_le, ap, refl, sym, subst, Bool, true, false, List, [], ◌∷◌}
use Rattle.std.proofs.Common.{◌++◌, flat_map, length, slice_get, Option, Some, option_map, arith}
use Rattle.std.proofs.Math.Bool.{or-true}
use Rattle.std.specs.List.{list_any}
use Rattle.std.proofs.lemmas.Bool.{and_parts, false≢true, not-true, or_cases, or_parts}
use Rattle.std.proofs.lemmas.Bool.Decides.{nat_tests}
use Rattle.std.proofs.lemmas.Option.{same_Some, slice_get_within}
use Rattle.step_results.proofs.ListLemmas.{all_have, all_there}
use Rattle.fabric_parts.specs.Cable.{far_end, is_same_port, port}
use Rattle.fabric_parts.specs.declared.cable.Cable.{Cable}
use Rattle.fabric_parts.specs.declared.cable.PortRef.{PortRef}
use Rattle.smp_wire.proofs.CableLemmas.{cabled_is_port, far_end_before, itself}
use Rattle.step_results.proofs.DistinctLemmas.{all_differ, differ}
use Rattle.smp_wire.specs.FabricState.{FabricState, is_port, is_switch_at}
use Rattle.smp_wire.specs.Good.{ends_of, is_right}
use Rattle.smp_wire.specs.Walk.{end_of}
use Rattle.sweep.specs.Graph.{GraphState, IsGraph, graph_with, is_joined}
use Rattle.sweep.specs.Hops.{IsTooFar, IsWithin}
use Rattle.sweep.specs.OfFabric.{Found, Leads, nodes_of}
use Rattle.sweep.specs.Progress.{IsProgress, StandsAt}
use Rattle.sweep.specs.Seen.{seen_at}
use Rattle.sweep.specs.Survey.{SurveyState}
use Rattle.sweep.specs.Sweeps.{Fails, IsAllAsked, IsFoundWhole, IsSweepable}
use Rattle.sweep.specs.declared.fault.SweepFault.{SweepFault}
use Rattle.sweep.specs.declared.fault.SweepFault.TheVariants.{NoMemory, WrongReply}
use Rattle.sweep.specs.declared.path.TheConstants.{PATH_HOPS}
use Rattle.sweep.proofs.EndedLemmas.{each_found, graph_is}
use Rattle.sweep.proofs.FoundLemmas.{among_place}
use Rattle.sweep.proofs.LeastLemmas.{in_range}
use Rattle.sweep.proofs.SmallLemmas.{not_too_big}
use Rattle.sweep.proofs.WholeLemmas.{graph_is_whole, rows_joined}
use Rattle.smp_wire.proofs.PresentLemmas.{present_once, present_right}

-- ---- the far ends of a cable
ends_in : (p : PortRef → Bool) (cables : List Cable) (k : ℕ) (cable : Cable) → slice_get cables k ≡ Some cable
    → p cable.first || p cable.second ≡ true → list_any p (flat_map ends_of cables) ≡ true
ends_in p [] k cable there passes = cc
ends_in p (one ∷ cables) zero cable there passes =
    let same : one ≡ cable = same_Some one cable there in
    elim (or_cases (p cable.first) (p cable.second) passes) [
      | inl first ↦ rw (same, first) refl
      | inr second ↦ rw (same, second) (or-true (p cable.first))
    ]
ends_in p (one ∷ cables) (suc k) cable there passes = rw (ends_in p cables k cable there passes) (both (p one.first) (p one.second))
  where
    both : (a b : Bool) → a || (b || true) ≡ true
    both true b = refl
    both false true = refl
    both false false = refl

pub record AreFarEnds (cables : List Cable) (cable : Cable) : Type 0 where
  pub first : far_end cables cable.first ≡ Some cable.second
  pub second : far_end cables cable.second ≡ Some cable.first

pass : (one : Cable) (cables : List Cable) (at : PortRef) (there : Option PortRef) → is_same_port one.first at ≡ false → is_same_port one.second at ≡ false
    → far_end cables at ≡ there → far_end (one ∷ cables) at ≡ there
pass one cables at there first second later = sym (far_end_before one cables at) ∙ rw (first, second) later

apart_by : (p : PortRef → Bool) (cables : List Cable) (k : ℕ) (cable : Cable) → slice_get cables k ≡ Some cable → list_any p (flat_map ends_of cables) ≡ false
    → (p cable.first ≡ false) × (p cable.second ≡ false)
apart_by p cables k cable there none = or_parts (p cable.first) (p cable.second) (by (p cable.first || p cable.second) refl)
  where
    by : (b : Bool) → p cable.first || p cable.second ≡ b → b ≡ false
    by false is = refl
    by true is = sym (ends_in p cables k cable there is) ∙ none

pub far_ends : (cables : List Cable) (k : ℕ) (cable : Cable) → slice_get cables k ≡ Some cable → all_differ is_same_port (flat_map ends_of cables) ≡ true
    → AreFarEnds cables cable
far_ends [] k cable there once = cc
far_ends (one ∷ cables) zero cable there once =
    let same : one ≡ cable = same_Some one cable there in
    let head = and_parts (not (is_same_port one.first one.second || list_any (is_same_port one.first) (flat_map ends_of cables))) _ once in
    let differ = or_parts (is_same_port one.first one.second) _ (not-true _ head.0) in
    subst (AreFarEnds (one ∷ cables)) same (record {
      first = sym (far_end_before one cables one.first) ∙ rw (itself one.first) refl;
      second = sym (far_end_before one cables one.second) ∙ rw (differ.0, itself one.second) refl;
    })
far_ends (one ∷ cables) (suc k) cable there once =
    let head = and_parts (not (is_same_port one.first one.second || list_any (is_same_port one.first) (flat_map ends_of cables))) _ once in
    let next = and_parts (not (list_any (is_same_port one.second) (flat_map ends_of cables))) _ head.1 in
    let from_first = apart_by (is_same_port one.first) cables k cable there (or_parts (is_same_port one.first one.second) _ (not-true _ head.0)).1 in
    let from_second = apart_by (is_same_port one.second) cables k cable there (not-true _ next.0) in
    let later = far_ends cables k cable there next.1 in
    record {
      first = pass one cables cable.first (Some cable.second) from_first.0 from_second.0 later.first;
      second = pass one cables cable.second (Some cable.first) from_first.1 from_second.1 later.second;
    }

-- ---- an end at a switch that is near, or the other
near_end : (fabric : FabricState) (found : List Found) (survey : SurveyState) (a b : PortRef) → IsSweepable fabric
    → IsProgress fabric found (length found) 0 survey [] → far_end fabric.cables a ≡ Some b → is_switch_at fabric.nodes a.node ≡ true
    → IsWithin fabric 62 a.node ⊎ IsWithin fabric 62 b.node
near_end fabric found survey a b sweepable progress cable switch =
    let at = among_place (nodes_of found) a.node (each_found fabric found survey sweepable.joined progress a.node ∙ switch) in
    let stands = Rattle.sweep.proofs.WholeLemmas.found_there found at.0 a.node at.1 in
    by at.0 stands.0 stands.1 stands.2 (nat_le 63 (length stands.0.path)) refl
  where
    under : (n : ℕ) → nat_le 63 n ≡ false → n ≤ 62
    under n h = grind (arith, nat_tests, h)

    reach : (n : ℕ) → nat_le 63 n ≡ true → PATH_HOPS ≤ n
    reach n h = grind (arith, nat_tests, h)

    by : (k : ℕ) (one : Found) → StandsAt found k one → one.node ≡ a.node → (b_deep : Bool) → nat_le 63 (length one.path) ≡ b_deep
        → IsWithin fabric 62 a.node ⊎ IsWithin fabric 62 b.node
    by k one there node false short =
        let leads = all_have (Leads fabric) found k one progress.discovery.lead there in
        inl (record {
          switch = switch;
          rest = leads.rest;
          short = omega (arith, under (length one.path) short, ap (λ (some : List ℕ). length some) leads.leaves);
          at = leads.at;
          ends = ap (end_of fabric) (sym leads.leaves) ∙ leads.ends;
          node_is = leads.node ∙ node;
        })
    by k one there node true long =
        let known = progress.asked.before k one (slice_get_within found k one there) there in
        let range = in_range fabric a.node a.port (cabled_is_port fabric.nodes fabric.cables a b (present_right sweepable.good) cable) in
        inr (known.near_behind a.port b range.0 (rw node range.1) (ap (λ (n : ℕ). far_end fabric.cables (port n a.port)) node ∙ cable) (reach (length one.path) long))

pub each_near : (fabric : FabricState) (found : List Found) (survey : SurveyState) → IsSweepable fabric
    → IsProgress fabric found (length found) 0 survey [] → IsTooFar fabric → ⊥
each_near fabric found survey sweepable progress far =
    let k = far.there.0 in
    let stands : slice_get fabric.cables k ≡ Some far.cable =
    Rattle.std.proofs.lemmas.Option.slice_get_read fabric.cables (length fabric.cables) k far.cable refl far.there.1 (sym far.there.2) in
    let ends = far_ends fabric.cables k far.cable stands (differ is_same_port _ (present_once sweepable.good)) in
    let right = all_there (is_right fabric.nodes) fabric.cables k far.cable (present_right sweepable.good) stands in
    let one = and_parts (is_port fabric.nodes far.cable.first) _ right in
    let two = and_parts (is_port fabric.nodes far.cable.second) _ one.1 in
    let three = and_parts _ (is_switch_at fabric.nodes far.cable.first.node || is_switch_at fabric.nodes far.cable.second.node) two.1 in
    elim (or_cases (is_switch_at fabric.nodes far.cable.first.node) (is_switch_at fabric.nodes far.cable.second.node) three.1) [
      | inl first ↦ neither (near_end fabric found survey far.cable.first far.cable.second sweepable progress ends.first first) far.first far.second
      | inr second ↦ neither (near_end fabric found survey far.cable.second far.cable.first sweepable progress ends.second second) far.second far.first
    ]
  where
    neither : {A B : Type 0} → A ⊎ B → (A → ⊥) → (B → ⊥) → ⊥
    neither (inl a) no_a no_b = no_a a
    neither (inr b) no_a no_b = no_b b

-- ---- what a sweep comes to
pub finds : (fabric : FabricState) (found : List Found) (survey : SurveyState) (manager : ℕ) (graph : GraphState) → IsSweepable fabric
    → option_map (λ seen. seen.port_guid) (seen_at fabric fabric.manager) ≡ Some manager → IsAllAsked fabric found survey
    → graph ≡ graph_with manager survey.switches survey.rows survey.ports → IsFoundWhole fabric graph
finds fabric found survey manager graph sweepable is all same =
    let of = graph_is fabric found survey manager sweepable is all in
    rw same (record {
      graph_is = of;
      near = λ far. each_near fabric (found ++ all.more) survey sweepable all.progress far;
      small = λ big. not_too_big fabric _ sweepable.good (graph_is_whole fabric found survey manager sweepable is all) of.layout big;
    })

-- replies never contradict one another
pub no_contradiction : (fabric : FabricState) (found : List Found) (survey : SurveyState) (manager : ℕ) (fault : SweepFault) → IsSweepable fabric
    → option_map (λ seen. seen.port_guid) (seen_at fabric fabric.manager) ≡ Some manager → IsAllAsked fabric found survey
    → (fault ≡ NoMemory) ⊎ (fault ≡ WrongReply) → (fault ≡ WrongReply → IsGraph (graph_with manager survey.switches survey.rows survey.ports) → ⊥)
    → Fails fabric fault
no_contradiction fabric found survey manager fault sweepable is all (inl memory) wrong = rw memory tt
no_contradiction fabric found survey manager fault sweepable is all (inr reply) wrong =
    absurd (wrong reply (graph_is_whole fabric found survey manager sweepable is all))

pub always_joined : (fabric : FabricState) (found : List Found) (survey : SurveyState) (rows : List (List _)) → IsSweepable fabric → IsAllAsked fabric found survey
    → rows ≡ survey.rows → is_joined rows ≡ false → ⊥
always_joined fabric found survey rows sweepable all same none =
    false≢true (sym none ∙ ap is_joined same ∙ rows_joined fabric found survey sweepable all)
