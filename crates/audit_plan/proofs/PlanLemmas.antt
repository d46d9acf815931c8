-- End ports by their GUIDs, and hosts.
use Rattle.std.proofs.Common.{◌≡◌, ◌∙◌, ap, refl, sym, inl, inr, ℕ, ◌-◌, ◌<◌, ◌≤◌, cond, ◌==◌, nat_eq, true, false, not, List, ◌∷◌, drop, length, get_or, Some}
use Rattle.std.proofs.lemmas.Bool.{and_parts, cases_Bool, not-true}
use Rattle.indexmap.specs.IndexMap.{IndexMap, get}
use Rattle.fabric_parts.specs.declared.cable.PortRef.{PortRef}
use Rattle.audit_plan.specs.declared.ends.EndGuid.{EndGuid}
use Rattle.audit_plan.specs.Ends.{KnowsEnds}
use Rattle.audit_plan.specs.Plan.{PlanState, is_host, port_of}
use Rattle.topo_file.specs.Node.{is_switch_at}
use Rattle.audit_plan.proofs.RangeLemmas.{cut_before}

port_first : (end : EndGuid) (rest : List EndGuid) (guid : ℕ) → port_of (end ∷ rest) guid ≡ cond (end.guid == guid) (Some end.port) (port_of rest guid)
port_first end rest guid = elim (cases_Bool (end.guid == guid)) [
  | inl here ↦ rw here refl
  | inr other ↦ rw other refl
]

pub ends_more : {S : Type 0} (before both : IndexMap ℕ PortRef S) (ends : List EndGuid) (index : ℕ) (none : EndGuid) → 0 < index → index ≤ length ends
    → KnowsEnds before (drop index ends)
    → ((guid : ℕ) → get nat_eq both guid ≡ cond (nat_eq (get_or ends (index - 1) none).guid guid) (Some (get_or ends (index - 1) none).port) (get nat_eq before guid))
    → KnowsEnds both (drop (index - 1) ends)
ends_more before both ends index none some within knows more guid =
    let end = get_or ends (index - 1) none in
    more guid ∙ ap (cond (nat_eq end.guid guid) (Some end.port)) (knows guid)
    ∙ sym (port_first end (drop index ends) guid) ∙ ap (λ (rest : List EndGuid). port_of rest guid) (sym (cut_before ends index none some within))

-- ---- a host is no switch
pub host_is_no_switch : (plan : PlanState) (place : ℕ) → is_host plan place ≡ true → is_switch_at plan.nodes place ≡ false
host_is_no_switch plan place is = not-true (is_switch_at plan.nodes place) (and_parts (not (is_switch_at plan.nodes place)) _ is).0
