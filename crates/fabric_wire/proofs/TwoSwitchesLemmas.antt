-- The topology of our examples is sound.
use Rattle.std.proofs.Common.{ℕ, zero, suc, ◌≡◌, refl, true, nat_eq, nat_lt, List, [], ◌∷◌, All, arith}
use Rattle.std.specs.List.{list_all}
use Rattle.std.proofs.lemmas.Bool.{and_parts, false≢true}
use Rattle.std.proofs.lemmas.Bool.Decides.{nat_tests}
use Rattle.std.proofs.lemmas.List.Elements.{All-cons, All-nil}
use Rattle.topo_file.specs.declared.node.Node.{Node}
use Rattle.topo_file.specs.Connectivity.{AllJoined}
use Rattle.topo_file.specs.Node.{HasGuids, is_switch_at, last_guid, shares_guid}
use Rattle.topo_file.specs.Sound.{IsSound, shares_name, shares_port}
use Rattle.fabric_wire.specs.TwoSwitches.{two_switches}
use Rattle.step_results.proofs.DistinctLemmas.{distinct}

no_switch : (k : ℕ) → is_switch_at two_switches.nodes (suc (suc k)) ≡ true → ⊥
no_switch zero h = absurd (false≢true h)
no_switch (suc zero) h = absurd (false≢true h)
no_switch (suc (suc zero)) h = absurd (false≢true h)
no_switch (suc (suc (suc zero))) h = absurd (false≢true h)
no_switch (suc (suc (suc (suc k)))) h = absurd (false≢true h)

joined : AllJoined two_switches.nodes two_switches.cables
joined zero zero p q = ([], refl)
joined zero (suc zero) p q = (1 ∷ [], refl)
joined (suc zero) zero p q = (0 ∷ [], refl)
joined (suc zero) (suc zero) p q = ([], refl)
joined zero (suc (suc k)) p q = absurd (no_switch k q)
joined (suc zero) (suc (suc k)) p q = absurd (no_switch k q)
joined (suc (suc k)) b p q = absurd (no_switch k p)

have_guids : (nodes : List Node) → list_all (λ node. nat_lt (last_guid node) 18446744073709551616) nodes ≡ true → All HasGuids nodes
have_guids [] below = All-nil HasGuids
have_guids (node ∷ nodes) below =
    let parts = and_parts (nat_lt (last_guid node) 18446744073709551616) _ below in
    let one = parts.0 in
    All-cons HasGuids node nodes (grind (arith, nat_tests, one)) (have_guids nodes parts.1)

pub sound : IsSound two_switches
sound = record {
  lines = record {
    names = refl;
    own_names = distinct shares_name two_switches.nodes refl;
    guids = have_guids two_switches.nodes refl;
    own_guids = distinct shares_guid two_switches.nodes refl;
    sizes = refl;
    limits = (omega arith, omega arith);
    ends = refl;
    joins = refl;
    own_ports = distinct shares_port two_switches.cables refl;
  };
  connected = joined;
  roots = record { switches = refl; own = distinct nat_eq [] refl };
  manager_port = refl;
  manager_cabled = refl;
}
