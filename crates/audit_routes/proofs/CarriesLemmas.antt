-- Which switches hosts are attached to.
use Rattle.std.proofs.Common.{◌≡◌, ◌∙◌, inl, inr, ap, refl, ℕ, zero, suc, ◌+◌, ◌<◌, ◌≤◌, Bool, true, false, ◌==◌, map, arith, Option, Some, None}
use Rattle.std.specs.List.{list_any, range_with_len}
use Rattle.std.specs.Option.{option_map_or}
use Rattle.std.proofs.lemmas.Bool.{cases_Bool, eqb-true, false≢true}
use Rattle.fabric_parts.specs.Cable.{far_end, port}
use Rattle.fabric_parts.specs.declared.cable.PortRef.{PortRef}
use Rattle.step_results.proofs.ListLemmas.{any_map, list_any_weaker}
use Rattle.topo_file.specs.Node.{is_switch_at, ports_at}
use Rattle.audit_plan.specs.Attached.{carries_host, leads_to_host}
use Rattle.audit_net.specs.Net.{NetState}
use Rattle.audit_plan.proofs.PlaceLemmas.{in_range}
use Rattle.audit_plan.specs.Plan.{is_host}
use Rattle.audit_routes.specs.Laws.{CarriesAHost}

pub carries : (net : NetState) (place : ℕ) → CarriesAHost net place → carries_host net.plan place ≡ true
carries net place is =
    let low = is.low in
    let high = is.high in
    let leads : leads_to_host net.plan (port place is.number) ≡ true =
    ap (λ (o : Option PortRef). option_map_or (λ there. is_host net.plan there.node) o false) is.cable ∙ is.host in
    any_map (leads_to_host net.plan) (port place) (range_with_len 1 (ports_at net.plan.nodes place))
    ∙ list_any_weaker (λ n. n == is.number) (λ n. leads_to_host net.plan (port place n))
    (λ n same. ap (λ (m : ℕ). leads_to_host net.plan (port place m)) (eqb-true n is.number same) ∙ leads) (range_with_len 1 (ports_at net.plan.nodes place))
    (in_range is.number 1 (ports_at net.plan.nodes place) low (omega (arith, high)))

-- a switch that carries a host has a port with a cable to one
some_port : (test : PortRef → Bool) (place first count : ℕ) → list_any test (map (port place) (range_with_len first count)) ≡ true
    → (number : ℕ) × (first ≤ number) × (number < first + count) × (test (port place number) ≡ true)
some_port test place first zero some = absurd (false≢true some)
some_port test place first (suc count) some = elim (cases_Bool (test (port place first))) [
  | inl here ↦ (first, omega arith, omega arith, here)
  | inr other ↦
      let rest = some_port test place (first + 1) count (rw other at some) in
      (rest.0, (let low = rest.1 in omega (arith, low)), (let high = rest.2 in omega (arith, high)), rest.3)
]

pub carried : (net : NetState) (place : ℕ) → is_switch_at net.plan.nodes place ≡ true → carries_host net.plan place ≡ true → CarriesAHost net place
carried net place switch some = by found.0 found.1 found.2 (far_end net.plan.cables (port place found.0)) refl found.3
  where
    found : (number : ℕ) × (1 ≤ number) × (number < 1 + ports_at net.plan.nodes place) × (leads_to_host net.plan (port place number) ≡ true)
    found = some_port (leads_to_host net.plan) place 1 (ports_at net.plan.nodes place) some

    by : (number : ℕ) → 1 ≤ number → number < 1 + ports_at net.plan.nodes place → (o : Option PortRef) → far_end net.plan.cables (port place number) ≡ o
        → option_map_or (λ there. is_host net.plan there.node) o false ≡ true → CarriesAHost net place
    by number low high None far leads = absurd (false≢true leads)
    by number low high (Some at) far leads = record {
      switch = switch;
      number = number;
      low = low;
      high = omega (arith, high);
      at = at;
      cable = far;
      host = leads;
    }
