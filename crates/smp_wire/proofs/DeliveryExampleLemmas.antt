-- That a fabric forwards by LID, by tests that compute.
use Rattle.std.proofs.Common.{ℕ, zero, suc, ◌≡◌, ◌≤◌, ◌==◌, refl, not, ◌&&◌, ◌||◌, Bool, true, false, nat_le, List, [], ◌∷◌, slice_get, Option, Some, None, if◌then◌else◌, arith}
use Rattle.std.specs.List.{list_all}
use Rattle.std.specs.Option.{option_and_then, option_map_or}
use Rattle.std.proofs.lemmas.Bool.{and_parts, eqb-false, eqb-true, eq-eqb, leb-true}
use Rattle.fabric_parts.specs.declared.cable.Cable.{Cable}
use Rattle.fabric_parts.specs.declared.cable.PortRef.{PortRef}
use Rattle.fabric_parts.specs.Cable.{far_end, is_same_port}
use Rattle.port_model.specs.AdapterState.{AdapterState}
use Rattle.smp_wire.proofs.CableLemmas.{same_port}
use Rattle.smp_wire.specs.FabricState.{FabricState}
use Rattle.smp_wire.specs.declared.node.Node.{Node}
use Rattle.smp_wire.specs.declared.node.Node.TheVariants.{Switch, Adapter}
use Rattle.smp_wire.specs.Deliveries.{adapter_at}
use Rattle.smp_wire.specs.Forwards.{Follows, ForwardsByLid, HoldsBackNothing, Leads, entry_at, node_entry}
use Rattle.smp_wire.proofs.ExampleFreeLemmas.{both_meet, from_both}

-- ---- the tests: of a port, the one at the far end of its cable, and a LID up to which entries count
abbrev is_entry : Option ℕ → ℕ → Bool
is_entry entry out = option_map_or (λ port. port == out) entry false

abbrev each_up_to : (top : ℕ) → (ℕ → Bool) → Bool
each_up_to zero test = test zero
each_up_to (suc top) test = test (suc top) && each_up_to top test

module _ (nodes : List Node) (cables : List Cable) (top : ℕ) where
  abbrev counts_up_to : Node → Bool
  counts_up_to (Switch held) = held.info.linear_fdb_top == top
  counts_up_to (Adapter ports) = true

  abbrev leads_own : PortRef → AdapterState → ℕ → Bool
  leads_own here port lid = not (is_entry (entry_at nodes here.node lid) here.port) || (port.info.lid == lid)

  abbrev owns : PortRef → PortRef → Bool
  owns here at = option_map_or (λ port. each_up_to top (leads_own here port)) (adapter_at nodes at) true

  abbrev next_by : ℕ → PortRef → Option PortRef
  next_by lid here = option_and_then (λ out. far_end cables (record { node = here.node; port = out })) (entry_at nodes here.node lid)

  -- the entries lead there in so many hops or fewer
  abbrev comes : ℕ → ℕ → PortRef → PortRef → Bool
  comes zero lid here last = is_same_port here last
  comes (suc hops) lid here last = is_same_port here last || option_map_or (λ next. comes hops lid next last) (next_by lid here) false

  abbrev comes_to : PortRef → PortRef → Bool
  comes_to first at = option_map_or (λ port. comes 3 port.info.lid first at) (adapter_at nodes at) true

  abbrev comes_to_all : PortRef → PortRef → Bool
  comes_to_all from first = option_map_or (λ sender. list_all (from_both (λ at far. comes_to first at)) cables) (adapter_at nodes from) true

  abbrev fits : PortRef → PortRef → Bool
  fits here at = owns here at && comes_to_all here at

  -- ---- what they give
  up_to : (n : ℕ) (test : ℕ → Bool) (lid : ℕ) → each_up_to n test ≡ true → lid ≤ n → test lid ≡ true
  up_to zero test lid all low = let is : lid ≡ zero = omega (arith, low) in rw is all
  up_to (suc n) test lid all low =
      let parts = and_parts (test (suc n)) _ all in
      by (lid == suc n) refl parts.0 (λ less. up_to n test lid parts.1 less)
    where
      by : (b : Bool) → (lid == suc n) ≡ b → test (suc n) ≡ true → (lid ≤ n → test lid ≡ true) → test lid ≡ true
      by true is here later = rw (eqb-true lid (suc n) is) here
      by false is here later = let other = eqb-false lid (suc n) is in later (omega (arith, other, low))

  -- the top of each switch is this one
  within : (found : Option Node) (lid out : ℕ) → option_map_or counts_up_to found true ≡ true
      → option_and_then (λ node. node_entry node lid) found ≡ Some out → lid ≤ top
  within None lid out counts entry = absurd (cc)
  within (Some (Adapter ports)) lid out counts entry = absurd (cc)
  within (Some (Switch held)) lid out counts entry =
      let is = eqb-true held.info.linear_fdb_top top counts in
      let low = leb-true lid held.info.linear_fdb_top (counted (nat_le lid held.info.linear_fdb_top) (slice_get held.linear lid) entry) in
      omega (arith, is, low)
    where
      counted : (b : Bool) (found_entry : Option ℕ) → (if b then found_entry else None) ≡ Some out → b ≡ true
      counted true found_entry is = refl
      counted false found_entry is = absurd (cc)

  at_place : (xs : List Node) (place : ℕ) → list_all counts_up_to xs ≡ true → option_map_or counts_up_to (slice_get xs place) true ≡ true
  at_place [] place all = refl
  at_place (x ∷ xs) zero all = (and_parts (counts_up_to x) _ all).0
  at_place (x ∷ xs) (suc place) all = at_place xs place (and_parts (counts_up_to x) _ all).1

  leads_by : (lid : ℕ) (here next : PortRef) (entry : Option ℕ) → entry_at nodes here.node lid ≡ entry
      → option_and_then (λ out. far_end cables (record { node = here.node; port = out })) entry ≡ Some next → Leads nodes cables lid here next
  leads_by lid here next None entry cable = absurd (cc)
  leads_by lid here next (Some out) entry cable = record { out = out; entry = entry; cable = cable }

  comes_along : (hops lid : ℕ) (here last : PortRef) → comes hops lid here last ≡ true → (way : List PortRef) × Follows nodes cables lid here way last
  comes_along zero lid here last is = ([], same_port here last is)
  comes_along (suc hops) lid here last is =
      by (is_same_port here last) refl (next_by lid here) refl (λ next more. comes_along hops lid next last more) is
    where
      by : (b : Bool) → is_same_port here last ≡ b → (found : Option PortRef) → next_by lid here ≡ found
          → ((next : PortRef) → comes hops lid next last ≡ true → (way : List PortRef) × Follows nodes cables lid next way last)
          → (b || option_map_or (λ next. comes hops lid next last) found false) ≡ true
          → (way : List PortRef) × Follows nodes cables lid here way last
      by true same found at later any = ([], same_port here last same)
      by false same None at later any = absurd (cc)
      by false same (Some next) at later any =
          let rest = later next any in
          (next ∷ rest.0, (leads_by lid here next (entry_at nodes here.node lid) refl at, rest.1))

  -- ---- all that ends of cables have to meet
  module _ (all : list_all (from_both fits) cables ≡ true) where
    at_ends : (here at : PortRef) → far_end cables here ≡ Some at → (owns here at ≡ true) × (comes_to_all here at ≡ true)
    at_ends here at far = and_parts (owns here at) _ (both_meet cables fits here at all far)

    own_by : list_all counts_up_to nodes ≡ true → (lid : ℕ) (here at : PortRef) (port : AdapterState) → Leads nodes cables lid here at
        → adapter_at nodes at ≡ Some port → port.info.lid ≡ lid
    own_by counts lid here at port leads there =
        let owned : each_up_to top (leads_own (record { node = here.node; port = leads.out }) port) ≡ true =
        rw there at (at_ends (record { node = here.node; port = leads.out }) at leads.cable).0 in
        let low = within (slice_get nodes here.node) lid leads.out (at_place nodes here.node counts) leads.entry in
        let is = up_to top (leads_own (record { node = here.node; port = leads.out }) port) lid owned low in
        eqb-true port.info.lid lid (rw (leads.entry, eq-eqb leads.out leads.out refl) at is)

    lead_by : (from at : PortRef) (sender port : AdapterState) → (first : PortRef) → adapter_at nodes from ≡ Some sender
        → far_end cables from ≡ Some first → (far : PortRef) → far_end cables at ≡ Some far → adapter_at nodes at ≡ Some port
        → (way : List PortRef) × Follows nodes cables port.info.lid first way at
    lead_by from at sender port first sends begin far cable there =
        let each = both_meet cables (λ at far. comes_to first at) at far (rw sends at (at_ends from first begin).1) cable in
        comes_along 3 port.info.lid first at (rw there at each)

-- ---- all of it
pub forwards : (fabric : FabricState) (top : ℕ) → HoldsBackNothing fabric
    → list_all (counts_up_to fabric.nodes fabric.cables top) fabric.nodes ≡ true
    → list_all (from_both (fits fabric.nodes fabric.cables top)) fabric.cables ≡ true → ForwardsByLid fabric
forwards fabric top free counts all = record {
  free = free;
  own = own_by fabric.nodes fabric.cables top all counts;
  lead = λ from at sender port begin end. lead_by fabric.nodes fabric.cables top all from at sender port begin.far begin.there begin.cable end.far end.cable end.there;
}
