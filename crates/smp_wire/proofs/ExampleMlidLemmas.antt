-- That a fabric forwards by multicast LID, by tests that compute, where only the first multicast LID has bits.
use Rattle.std.proofs.Common.{ℕ, zero, suc, ◌-◌, ◌%◌, ◌/◌, ◌≡◌, ◌≢◌, ◌≤◌, ◌==◌, ◌∙◌, ap, refl, sym, subst, not, ◌&&◌, ◌||◌, Bool, true, false, nat_le, List, [], ◌∷◌, drop, slice_get, Option, Some, None, if◌then◌else◌, arith}
use Rattle.std.specs.Int.{bit_at}
use Rattle.std.specs.List.{list_all, list_any}
use Rattle.std.specs.Option.{option_and_then, option_map_or}
use Rattle.std.proofs.lemmas.Bool.{and_from, and_parts, eqb-false, eqb-true, eq-eqb, false≢true, false_from_ne_true, leb-true, not-true}
use Rattle.std.proofs.lemmas.Nat.Bits.{bit_at-zero}
use Rattle.fabric_parts.specs.declared.cable.Cable.{Cable}
use Rattle.fabric_parts.specs.declared.cable.PortRef.{PortRef}
use Rattle.fabric_parts.specs.declared.lid.TheConstants.{FIRST_MULTICAST_LID}
use Rattle.fabric_parts.specs.Cable.{far_end, is_same_port}
use Rattle.fabric_parts.specs.Lid.{is_multicast}
use Rattle.port_model.specs.AdapterState.{AdapterState}
use Rattle.step_results.specs.Truth.{same_answer}
use Rattle.step_results.proofs.ListLemmas.{all_there}
use Rattle.smp_wire.proofs.CableLemmas.{itself, same_port}
use Rattle.smp_wire.specs.FabricState.{FabricState}
use Rattle.smp_wire.specs.declared.node.Node.{Node}
use Rattle.smp_wire.specs.declared.node.Node.TheVariants.{Switch, Adapter}
use Rattle.switch_model.specs.Multicast.{mask_of}
use Rattle.smp_wire.specs.Deliveries.{adapter_at}
use Rattle.smp_wire.specs.Forwards.{HoldsBackNothing, IsCabledPort}
use Rattle.smp_wire.specs.Groups.{Copies, ForwardsByMlid, GoesByMasks, is_in_masks_at, is_in_node_masks}
use Rattle.smp_wire.proofs.ExampleFreeLemmas.{both_meet, from_both}
use Rattle.smp_wire.proofs.KeyLemmas.{match_in}

-- ---- no other multicast LID has bits
abbrev is_first_alone : List ℕ → Bool
is_first_alone masks = list_all (λ mask. mask == 0) (drop 1 masks)

abbrev pub has_first_alone : Node → Bool
has_first_alone (Switch held) = list_all is_first_alone held.masks
has_first_alone (Adapter ports) = true

pub no_bit : (rest : List ℕ) (k bit : ℕ) (found : Option ℕ) → slice_get rest k ≡ found → list_all (λ mask. mask == 0) rest ≡ true
    → option_map_or (λ mask. bit_at mask bit == 1) found false ≡ false
no_bit rest k bit None is all = refl
no_bit rest k bit (Some mask) is all =
    let none = eqb-true mask 0 (all_there (λ mask. mask == 0) rest k mask all is) in
    rw (none, bit_at-zero bit) refl

after_first : (masks : List ℕ) (place bit : ℕ) → is_first_alone masks ≡ true → 1 ≤ place
    → option_map_or (λ mask. bit_at mask bit == 1) (slice_get masks place) false ≡ false
after_first [] place bit all some = refl
after_first (first ∷ rest) zero bit all some = absurd (omega (arith, some))
after_first (first ∷ rest) (suc k) bit all some = no_bit rest k bit (slice_get rest k) refl all

not_first : (lid : ℕ) → (lid == FIRST_MULTICAST_LID) ≡ false → is_multicast lid ≡ true → 1 ≤ lid - FIRST_MULTICAST_LID
not_first lid other multicast =
    let first : FIRST_MULTICAST_LID ≡ 0xc000 = refl in
    let low = leb-true 0xc000 lid (and_parts (nat_le 0xc000 lid) _ multicast).0 in
    let differs = eqb-false lid FIRST_MULTICAST_LID other in
    omega (arith, first, low, differs)

in_position : (masks : List ℕ) (lid bit : ℕ) (b : Bool) → is_multicast lid ≡ b → (lid == FIRST_MULTICAST_LID) ≡ false → is_first_alone masks ≡ true
    → option_map_or (λ mask. bit_at mask bit == 1) (if b then slice_get masks (lid - FIRST_MULTICAST_LID) else None) false ≡ false
in_position masks lid bit false is other all = refl
in_position masks lid bit true is other all = after_first masks (lid - FIRST_MULTICAST_LID) bit all (not_first lid other is)

in_positions : (positions : List (List ℕ)) (lid number : ℕ) (found : Option (List ℕ)) → slice_get positions (number / 16) ≡ found
    → (lid == FIRST_MULTICAST_LID) ≡ false → list_all is_first_alone positions ≡ true
    → option_map_or (λ mask. bit_at mask (number % 16) == 1) (option_and_then (mask_of lid) found) false ≡ false
in_positions positions lid number None is other all = refl
in_positions positions lid number (Some masks) is other all =
    in_position masks lid (number % 16) (is_multicast lid) refl other (all_there is_first_alone positions (number / 16) masks all is)

at_node : (nodes : List Node) (place lid number : ℕ) (found : Option Node) → slice_get nodes place ≡ found → list_all has_first_alone nodes ≡ true
    → (lid == FIRST_MULTICAST_LID) ≡ false → option_map_or (λ node. is_in_node_masks node lid number) found false ≡ false
at_node nodes place lid number None is all other = refl
at_node nodes place lid number (Some (Adapter ports)) is all other = refl
at_node nodes place lid number (Some (Switch held)) is all other =
    in_positions held.masks lid number (slice_get held.masks (number / 16)) refl other (all_there has_first_alone nodes place (Switch held) all is)

no_bit_at : (nodes : List Node) (lid : ℕ) (at : PortRef) → list_all has_first_alone nodes ≡ true → (lid == FIRST_MULTICAST_LID) ≡ false
    → is_in_masks_at nodes lid at ≡ false
no_bit_at nodes lid at all other = at_node nodes at.node lid at.port (slice_get nodes at.node) refl all other

-- ---- tests of the bits of the first: `numbers` are those of the ports that are tried, and `member` reports receivers by GUID
abbrev beside : PortRef → ℕ → PortRef
beside here out = record { node = here.node; port = out }

module _ (nodes : List Node) (cables : List Cable) (numbers : List ℕ) (member : ℕ → Bool) where
  abbrev owns : PortRef → PortRef → Bool
  owns here at = option_map_or (λ port. same_answer (is_in_masks_at nodes FIRST_MULTICAST_LID here) (member port.port_guid)) (adapter_at nodes at) true

  abbrev copies : PortRef → ℕ → Bool
  copies here out = not (out == here.port) && is_in_masks_at nodes FIRST_MULTICAST_LID (beside here out)

  -- the bits lead there in so many hops or fewer
  abbrev comes : ℕ → PortRef → PortRef → Bool
  comes zero here last = is_same_port here last
  comes (suc hops) here last =
      is_same_port here last
      || list_any (λ out. copies here out && option_map_or (λ next. comes hops next last) (far_end cables (beside here out)) false) numbers

  -- they lead nowhere in so many hops, and not there in fewer
  abbrev misses : ℕ → PortRef → PortRef → Bool
  misses zero here last = false
  misses (suc hops) here last =
      not (is_same_port here last)
      && list_all (from_both (λ end next. not (end.node == here.node) || (not (copies here end.port) || misses hops next last))) cables

  abbrev comes_to : PortRef → PortRef → PortRef → Bool
  comes_to from first at =
      option_map_or (λ port. is_same_port from at || (not (member port.port_guid) || comes 3 first at)) (adapter_at nodes at) true

  abbrev begins : PortRef → PortRef → Bool
  begins from first =
      option_map_or (λ sender. misses 4 first from && list_all (from_both (λ at far. comes_to from first at)) cables) (adapter_at nodes from) true

  abbrev fits : PortRef → PortRef → Bool
  fits here at = owns here at && begins here at

  -- ---- what they give
  copies_by : (here next : PortRef) (out : ℕ) → copies here out ≡ true → far_end cables (beside here out) ≡ Some next
      → Copies nodes cables FIRST_MULTICAST_LID here next
  copies_by here next out is cable =
      let parts = and_parts (not (out == here.port)) _ is in
      record { out = out; onward = eqb-false out here.port (not-true (out == here.port) parts.0); group = parts.1; cable = cable }

  copies_from : (here next : PortRef) (one : Copies nodes cables FIRST_MULTICAST_LID here next) → copies here one.out ≡ true
  copies_from here next one =
      let other = false_from_ne_true (one.out == here.port) (λ same. one.onward (eqb-true one.out here.port same)) in
      and_from (not (one.out == here.port)) _ (ap not other) one.group

  abbrev Comes : PortRef → PortRef → Type 0
  Comes here last = (way : List PortRef) × GoesByMasks nodes cables FIRST_MULTICAST_LID here way last

  comes_along : (hops : ℕ) (here last : PortRef) → comes hops here last ≡ true → Comes here last
  comes_along zero here last is = ([], same_port here last is)
  comes_along (suc hops) here last is = by (is_same_port here last) refl (λ next more. comes_along hops next last more) is
    where
      on : (out : ℕ) → copies here out ≡ true → (found : Option PortRef) → far_end cables (beside here out) ≡ found
          → option_map_or (λ next. comes hops next last) found false ≡ true → ((next : PortRef) → comes hops next last ≡ true → Comes next last)
          → Comes here last
      on out copied None cable more later = absurd (cc)
      on out copied (Some next) cable more later =
          let rest = later next more in (next ∷ rest.0, (copies_by here next out copied cable, rest.1))

      by : (b : Bool) → is_same_port here last ≡ b → ((next : PortRef) → comes hops next last ≡ true → Comes next last)
          → (b || list_any (λ out. copies here out && option_map_or (λ next. comes hops next last) (far_end cables (beside here out)) false) numbers) ≡ true
          → Comes here last
      by true same later any = ([], same_port here last same)
      by false same later any =
          let one = match_in (λ out. copies here out && option_map_or (λ next. comes hops next last) (far_end cables (beside here out)) false) numbers any in
          let parts = and_parts (copies here one.key) _ one.passes in
          on one.key parts.0 (far_end cables (beside here one.key)) refl parts.1 later

  third : (a b c : Bool) → a ≡ true → b ≡ true → (not a || (not b || c)) ≡ true → c ≡ true
  third true true c one two is = is
  third true false c one two is = absurd (cc)
  third false b c one two is = absurd (cc)

  never_comes : (hops : ℕ) (way : List PortRef) (here last : PortRef) → misses hops here last ≡ true
      → GoesByMasks nodes cables FIRST_MULTICAST_LID here way last → ⊥
  never_comes zero way here last is goes = cc
  never_comes (suc hops) [] here last is goes =
      let other = not-true (is_same_port here last) (and_parts (not (is_same_port here last)) _ is).0 in
      false≢true (sym other ∙ ap (λ (p : PortRef). is_same_port p last) goes ∙ itself last)
  never_comes (suc hops) (next ∷ later) here last is goes =
      let one = goes.0 in
      let each = both_meet cables (λ end next. not (end.node == here.node) || (not (copies here end.port) || misses hops next last)) (beside here one.out) next
      (and_parts (not (is_same_port here last)) _ is).1 one.cable in
      never_comes hops later next last
      (third (here.node == here.node) (copies here one.out) (misses hops next last) (eq-eqb here.node here.node refl) (copies_from here next one) each) goes.1

  same_bit : (a b : Bool) → same_answer a b ≡ true → a ≡ b
  same_bit true true is = refl
  same_bit true false is = absurd (cc)
  same_bit false true is = absurd (cc)
  same_bit false false is = refl

  -- ---- all that ends of cables have to meet
  module _ (all : list_all (from_both fits) cables ≡ true) where
    at_ends : (here at : PortRef) → far_end cables here ≡ Some at → (owns here at ≡ true) × (begins here at ≡ true)
    at_ends here at far = and_parts (owns here at) _ (both_meet cables fits here at all far)

    own_by : (here at : PortRef) (port : AdapterState) → far_end cables here ≡ Some at → adapter_at nodes at ≡ Some port
        → is_in_masks_at nodes FIRST_MULTICAST_LID here ≡ member port.port_guid
    own_by here at port far there =
        same_bit (is_in_masks_at nodes FIRST_MULTICAST_LID here) (member port.port_guid) (rw there at (at_ends here at far).0)

    starts : (from first : PortRef) (sender : AdapterState) → adapter_at nodes from ≡ Some sender → far_end cables from ≡ Some first
        → (misses 4 first from ≡ true) × (list_all (from_both (λ at far. comes_to from first at)) cables ≡ true)
    starts from first sender sends begin = and_parts (misses 4 first from) _ (rw sends at (at_ends from first begin).1)

    lead_by : (from at first far : PortRef) (sender port : AdapterState) → adapter_at nodes from ≡ Some sender → far_end cables from ≡ Some first
        → adapter_at nodes at ≡ Some port → far_end cables at ≡ Some far → from ≢ at → member port.port_guid ≡ true → Comes first at
    lead_by from at first far sender port sends begin there cable other receives =
        let each = both_meet cables (λ at far. comes_to from first at) at far (starts from first sender sends begin).1 cable in
        let apart = false_from_ne_true (is_same_port from at) (λ same. other (same_port from at same)) in
        comes_along 3 first at (rw (there, apart, receives) at each)

-- ---- all of it
module _ (fabric : FabricState) (receives : ℕ → ℕ → Bool) (numbers : List ℕ) (alone : list_all has_first_alone fabric.nodes ≡ true)
    (no_other : (mlid guid : ℕ) → (mlid == FIRST_MULTICAST_LID) ≡ false → receives mlid guid ≡ false)
    (all : list_all (from_both (fits fabric.nodes fabric.cables numbers (receives FIRST_MULTICAST_LID))) fabric.cables ≡ true) where
  own : (b : Bool) (mlid : ℕ) (here at : PortRef) (port : AdapterState) → (mlid == FIRST_MULTICAST_LID) ≡ b → far_end fabric.cables here ≡ Some at
      → adapter_at fabric.nodes at ≡ Some port → is_in_masks_at fabric.nodes mlid here ≡ receives mlid port.port_guid
  own true mlid here at port is far there =
      subst (λ (lid : ℕ). is_in_masks_at fabric.nodes lid here ≡ receives lid port.port_guid) (sym (eqb-true mlid FIRST_MULTICAST_LID is))
      (own_by fabric.nodes fabric.cables numbers (receives FIRST_MULTICAST_LID) all here at port far there)
  own false mlid here at port is far there = no_bit_at fabric.nodes mlid here alone is ∙ sym (no_other mlid port.port_guid is)

  lead : (b : Bool) (mlid : ℕ) (from at : PortRef) (sender port : AdapterState) (begin : IsCabledPort fabric from sender) → IsCabledPort fabric at port
      → (mlid == FIRST_MULTICAST_LID) ≡ b → from ≢ at → receives mlid port.port_guid ≡ true
      → (way : List PortRef) × GoesByMasks fabric.nodes fabric.cables mlid begin.far way at
  lead true mlid from at sender port begin end is other member =
      let first = eqb-true mlid FIRST_MULTICAST_LID is in
      subst (λ (lid : ℕ). (way : List PortRef) × GoesByMasks fabric.nodes fabric.cables lid begin.far way at) (sym first)
      (lead_by fabric.nodes fabric.cables numbers (receives FIRST_MULTICAST_LID) all from at begin.far end.far sender port begin.there begin.cable end.there
      end.cable other (subst (λ (lid : ℕ). receives lid port.port_guid ≡ true) first member))
  lead false mlid from at sender port begin end is other member = absurd (false≢true (sym (no_other mlid port.port_guid is) ∙ member))

  away : (b : Bool) (mlid : ℕ) (from : PortRef) (sender : AdapterState) (begin : IsCabledPort fabric from sender) (way : List PortRef)
      → (mlid == FIRST_MULTICAST_LID) ≡ b → GoesByMasks fabric.nodes fabric.cables mlid begin.far way from → ⊥
  away b mlid from sender begin [] is goes =
      never_comes fabric.nodes fabric.cables numbers (receives FIRST_MULTICAST_LID) 4 [] begin.far from
      (starts fabric.nodes fabric.cables numbers (receives FIRST_MULTICAST_LID) all from begin.far sender begin.there begin.cable).0 goes
  away true mlid from sender begin (next ∷ later) is goes =
      never_comes fabric.nodes fabric.cables numbers (receives FIRST_MULTICAST_LID) 4 (next ∷ later) begin.far from
      (starts fabric.nodes fabric.cables numbers (receives FIRST_MULTICAST_LID) all from begin.far sender begin.there begin.cable).0
      (subst (λ (lid : ℕ). GoesByMasks fabric.nodes fabric.cables lid begin.far (next ∷ later) from) (eqb-true mlid FIRST_MULTICAST_LID is) goes)
  away false mlid from sender begin (next ∷ later) is goes =
      false≢true (sym (no_bit_at fabric.nodes mlid (beside begin.far goes.0.out) alone is) ∙ goes.0.group)

  pub forwards : HoldsBackNothing fabric → ForwardsByMlid fabric receives
  forwards free = record {
    free = free;
    own = λ mlid here at port multicast far there. own (mlid == FIRST_MULTICAST_LID) mlid here at port refl far there;
    lead = λ mlid from at sender port begin end other member multicast.
        lead (mlid == FIRST_MULTICAST_LID) mlid from at sender port begin end refl other member;
    away = λ mlid from sender begin way goes. away (mlid == FIRST_MULTICAST_LID) mlid from sender begin way refl goes;
  }
