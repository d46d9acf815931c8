-- The end ports that an audit takes of a topology, found node by node.
use Rattle.std.proofs.Common.{ℕ, zero, suc, ◌≡◌, ◌+◌, ◌-◌, ◌<◌, ◌≤◌, ◌==◌, ◌&&◌, nat_le, nat_lt, ◌∙◌, ap, ap₂, inl, inr, refl, true, false, if◌then◌else◌, List, [], ◌∷◌, ◌++◌, length, flat_map, slice_get, Option, Some, None, option_map, arith}
use Rattle.std.specs.List.{range_with_len}
use Rattle.std.specs.Option.{option_map_or, option_or}
use Rattle.std.proofs.lemmas.Bool.{and_from, cases_Bool, cases_lt, eqb-true, le-leb, lt-ltb}
use Rattle.std.proofs.lemmas.Bool.Decides.{nat_tests}
use Rattle.fabric_parts.specs.Cable.{port}
use Rattle.fabric_parts.specs.declared.cable.PortRef.{PortRef}
use Rattle.topo_file.specs.Node.{is_switch}
use Rattle.topo_file.specs.declared.node.Node.{Node}
use Rattle.audit_plan.specs.declared.ends.EndGuid.{EndGuid}
use Rattle.audit_plan.specs.Plan.{adapter_end, ends_at, ends_in, ends_of, port_of}

-- ---- the port of a GUID, node by node
abbrev pub number_in : ℕ → Node → Option ℕ
number_in guid node =
    if is_switch node then (if guid == node.guid then Some 0 else None)
    else (if nat_lt node.guid guid && nat_le guid (node.guid + node.ports) then Some (guid - node.guid) else None)

-- the first that has it, of nodes that are counted from this place
abbrev pub port_from : ℕ → ℕ → List Node → Option PortRef
port_from guid place [] = None
port_from guid place (node ∷ rest) = option_or (option_map (port place) (number_in guid node)) (port_from guid (place + 1) rest)

-- ---- in two lists
port_in_both : (guid : ℕ) (xs ys : List EndGuid) → port_of (xs ++ ys) guid ≡ option_or (port_of xs guid) (port_of ys guid)
port_in_both guid [] ys = refl
port_in_both guid (x ∷ xs) ys = elim (cases_Bool (x.guid == guid)) [
  | inl here ↦ rw here refl
  | inr other ↦ rw other (port_in_both guid xs ys)
]

-- ---- of one node: ports of an adapter from this one on, of these many
from_low : (guid place first low many : ℕ) → guid ≤ first + low → port_of (flat_map (adapter_end place first) (range_with_len low many)) guid ≡ None
from_low guid place first low zero below = refl
from_low guid place first low (suc many) below =
    let apart : (first + (low + 1) == guid) ≡ false = grind (arith, nat_tests, below) in
    rw apart (from_low guid place first (low + 1) many (omega (arith, below)))

within : (guid place first low many : ℕ) → first + low < guid → guid ≤ first + (low + many)
    → port_of (flat_map (adapter_end place first) (range_with_len low many)) guid ≡ Some (port place (guid - first))
within guid place first low zero above below = absurd (omega (arith, above, below))
within guid place first low (suc many) above below = elim (cases_Bool (first + (low + 1) == guid)) [
  | inl here ↦
      let same : first + (low + 1) ≡ guid = eqb-true _ guid here in
      let number : low + 1 ≡ guid - first = omega (arith, same) in
      rw here (ap (λ (n : ℕ). Some (port place n)) number)
  | inr other ↦
      let more : first + (low + 1) < guid = grind (arith, nat_tests, other, above) in
      rw other (within guid place first (low + 1) many more (omega (arith, below)))
]

past : (guid place first low many : ℕ) → first + (low + many) < guid → port_of (flat_map (adapter_end place first) (range_with_len low many)) guid ≡ None
past guid place first low zero above = refl
past guid place first low (suc many) above =
    let apart : (first + (low + 1) == guid) ≡ false = grind (arith, nat_tests, above) in
    rw apart (past guid place first (low + 1) many (omega (arith, above)))

of_adapter : (guid place first ports : ℕ) → port_of (flat_map (adapter_end place first) (range_with_len 0 ports)) guid
    ≡ option_map (port place) (if nat_lt first guid && nat_le guid (first + ports) then Some (guid - first) else None)
of_adapter guid place first ports = elim (cases_lt first guid) [
  | inr low ↦
      let none : nat_lt first guid ≡ false = grind (arith, nat_tests, low) in
      from_low guid place first 0 ports (omega (arith, low)) ∙ rw none refl
  | inl above ↦ elim (cases_lt (first + ports) guid) [
    | inl over ↦
        let none : (nat_lt first guid && nat_le guid (first + ports)) ≡ false = grind (arith, nat_tests, above, over) in
        past guid place first 0 ports (omega (arith, over)) ∙ rw none refl
    | inr inside ↦
        let is : (nat_lt first guid && nat_le guid (first + ports)) ≡ true =
        and_from (nat_lt first guid) _ (lt-ltb first guid above) (le-leb guid (first + ports) inside) in
        within guid place first 0 ports (omega (arith, above)) (omega (arith, inside)) ∙ rw is refl
  ]
]

of_node : (guid place : ℕ) (node : Node) → port_of (ends_in place node) guid ≡ option_map (port place) (number_in guid node)
of_node guid place node = elim (cases_Bool (is_switch node)) [
  | inl switch ↦ rw switch (elim (cases_Bool (guid == node.guid)) [
    | inl here ↦
        let same : (node.guid + 0 == guid) ≡ true = grind (arith, nat_tests, here) in
        rw (same, here) refl
    | inr other ↦
        let apart : (node.guid + 0 == guid) ≡ false = grind (arith, nat_tests, other) in
        rw (apart, other) refl
  ])
  | inr adapter ↦ rw adapter (of_adapter guid place node.guid node.ports)
]

-- ---- of all
abbrev ends_from : ℕ → List Node → List EndGuid
ends_from place [] = []
ends_from place (node ∷ rest) = ends_in place node ++ ends_from (place + 1) rest

abbrev there : ℕ → List Node → ℕ → List EndGuid
there first nodes k = option_map_or (ends_in (first + k)) (slice_get nodes k) []

shifted : {X : Type 0} (f g : ℕ → List X) (low many : ℕ) → ((k : ℕ) → f (k + 1) ≡ g k) → flat_map f (range_with_len (low + 1) many) ≡ flat_map g (range_with_len low many)
shifted f g low zero same = refl
shifted f g low (suc many) same = ap₂ (λ (a b : List _). a ++ b) (same low) (shifted f g (low + 1) many same)

listed : (first : ℕ) (nodes : List Node) → flat_map (there first nodes) (range_with_len 0 (length nodes)) ≡ ends_from first nodes
listed first [] = refl
listed first (x ∷ rest) =
    let here : first + 0 ≡ first = omega arith in
    ap₂ (λ (a b : List EndGuid). a ++ b) (ap (λ (place : ℕ). ends_in place x) here)
    (shifted (there first (x ∷ rest)) (there (first + 1) rest) 0 (length rest) (λ k. moved k) ∙ listed (first + 1) rest)
  where
    moved : (k : ℕ) → there first (x ∷ rest) (k + 1) ≡ there (first + 1) rest k
    moved k =
        let next : k + 1 ≡ suc k = omega arith in
        let place : first + suc k ≡ first + 1 + k = omega arith in
        rw next (ap (λ (n : ℕ). option_map_or (ends_in n) (slice_get rest k) []) place)

found_from : (guid first : ℕ) (nodes : List Node) → port_of (ends_from first nodes) guid ≡ port_from guid first nodes
found_from guid first [] = refl
found_from guid first (node ∷ rest) =
    port_in_both guid (ends_in first node) (ends_from (first + 1) rest)
    ∙ ap₂ (λ (a b : Option PortRef). option_or a b) (of_node guid first node) (found_from guid (first + 1) rest)

-- the first port of this GUID is that of the first node that has it
pub found_by_node : (nodes : List Node) (guid : ℕ) → port_of (ends_of nodes) guid ≡ port_from guid 0 nodes
found_by_node nodes guid =
    ap (λ (ends : List EndGuid). port_of ends guid) (same ∙ listed 0 nodes) ∙ found_from guid 0 nodes
  where
    same : ends_of nodes ≡ flat_map (there 0 nodes) (range_with_len 0 (length nodes))
    same = each 0 (length nodes)
      where
        each : (low many : ℕ) → flat_map (ends_at nodes) (range_with_len low many) ≡ flat_map (there 0 nodes) (range_with_len low many)
        each low zero = refl
        each low (suc many) =
            let place : low ≡ 0 + low = omega arith in
            ap₂ (λ (a b : List EndGuid). a ++ b) (ap (λ (n : ℕ). option_map_or (ends_in n) (slice_get nodes low) []) place) (each (low + 1) many)
