-- That masks along the tree are those of the hops.
use Rattle.std.proofs.Common.{ℕ, zero, suc, ◌≡◌, ◌+◌, ◌-◌, ◌*◌, ◌^◌, ◌<◌, ◌≤◌, ◌==◌, ◌&&◌, ◌||◌, not, ◌∙◌, ap, refl, sym, Bool, true, false, List, [], ◌∷◌, length, find, get_or, map, min, bit_and, slice_get, w64, Option, Some, None, option_map, inl, inr, arith}
use Rattle.std.specs.Int.{bit_at}
use Rattle.std.specs.List.{list_any, range_with_len}
use Rattle.std.specs.Option.{option_and_then, option_map_or}
use Rattle.std.proofs.Math.Nat.{zero-add}
use Rattle.std.proofs.lemmas.Bool.{and_from, and_parts, cases_lt, eq-eqb, eqb-false, eqb-true, false≢true, ne_eqb, not-true, not_from_false, or_cases, or_left, or_right}
use Rattle.std.proofs.lemmas.List.{get_or-map, get_or_past, length-map}
use Rattle.std.proofs.lemmas.List.FromFn.{get_or-map-range_with_len, length-map-range_with_len}
use Rattle.std.proofs.lemmas.Map.Keys.{any_passes_from_place}
use Rattle.std.proofs.lemmas.Nat.{and_le_r}
use Rattle.std.proofs.lemmas.Nat.Bits.{bit_at-lt, bit_at-trailing_zeros, bit_at_and}
use Rattle.fabric_parts.specs.declared.lid.TheConstants.{FIRST_MULTICAST_LID}
use Rattle.std.proofs.lemmas.Option.{none-some, same_Some}
use Rattle.step_results.proofs.ListLemmas.{found_passes, range_at}
use Rattle.step_results.proofs.TestLemmas.{same_and}
use Rattle.step_results.proofs.BoolLemmas.{or_assoc}
use Rattle.subnet_model.specs.declared.group_receiver.GroupReceiver.{GroupReceiver}
use Rattle.attr_tables.specs.Blocks.{block_of}
use Rattle.table_push.proofs.MaskLemmas.{bit_where}
use Rattle.table_push.proofs.MaskWordLemmas.{block_is}
use Rattle.table_push.specs.Masks.{LiesInTable, bits_where, child_towards, is_in_mask, mask_of_position, receives_of, tree_end, tree_hop, wanted_range}
use Rattle.table_push.specs.MaskSteps.{AreAttached, AreReceiversBits, AreRangeBits, is_attached_at, is_attached_to, is_that_port, leads_away, some_receives, words_at}
use Rattle.table_push.specs.PlaceSteps.{IsUnturned}
use Rattle.table_push.specs.TreeSteps.{AreSpread, IsTree, blocks_of, leads_down, leads_up, meets, some_lead_down}
use Rattle.table_push.specs.declared.trees.Tree.{Tree}
use Rattle.table_push.proofs.HopLemmas.{away, range_same, turned}
use Rattle.table_push.proofs.NodeLemmas.{same_number}
use Rattle.table_push.proofs.ReachLemmas.{among, no_bits, reached_is, same_answers}
use Rattle.updn_routes.specs.Cabling.{links_of}
use Rattle.updn_routes.specs.declared.link.Link.{Link}
use Rattle.updn_routes.specs.Routes.{AreRoutes}
use Rattle.updn_routes.specs.Sides.{above, is_below, parent}
use Rattle.updn_routes.specs.Subnet.{AreOfGraph, RoutesState, home_in}
use Rattle.updn_routes.specs.Tree.{tree_link, tree_port}

-- ---- sets of bits
two_bits : (a b : ℕ) → (a == 1) ≡ true → (b == 1) ≡ true → (min a b == 1) ≡ true
two_bits a b one other = rw (eqb-true a 1 one, eqb-true b 1 other) refl

both_set : (a b : ℕ) → (min a b ≡ 1) → (a < 2) → (b < 2) → ((a == 1) ≡ true) × ((b == 1) ≡ true)
both_set a b is low other =
    let one : a ≡ 1 = omega (arith, is, low, other) in
    let two : b ≡ 1 = omega (arith, is, low, other) in
    (eq-eqb a 1 one, eq-eqb b 1 two)

meets_at : (a b t : ℕ) → (bit_at a t == 1) ≡ true → (bit_at b t == 1) ≡ true → meets a b ≡ true
meets_at a b t one other = by (bit_and a b == 0) refl
  where
    by : (c : Bool) → (bit_and a b == 0) ≡ c → not c ≡ true
    by false is = refl
    by true is =
        let none : (bit_at (bit_and a b) t == 1) ≡ false = ap (λ (n : ℕ). bit_at n t == 1) (eqb-true (bit_and a b) 0 is) ∙ no_bits t in
        let some : (bit_at (bit_and a b) t == 1) ≡ true = ap (λ (n : ℕ). n == 1) (bit_at_and a b t) ∙ two_bits (bit_at a t) (bit_at b t) one other in
        absurd (false≢true (sym none ∙ some))

record IsMet (a b : ℕ) : Type 0 where
  t : ℕ
  low : t < 64
  one : (bit_at a t == 1) ≡ true
  other : (bit_at b t == 1) ≡ true

meets_some : (a b : ℕ) → b < 2 ^ 64 → meets a b ≡ true → IsMet a b
meets_some a b fits is =
    let some : (bit_and a b == 0) ≡ false = not-true (bit_and a b == 0) is in
    let apart : bit_and a b ≡ 0 → ⊥ = eqb-false (bit_and a b) 0 some in
    let above : 0 < bit_and a b = omega (arith, apart) in
    let under = and_le_r a b in
    let lowest = bit_at-trailing_zeros w64 (bit_and a b) above (omega (arith, under, fits)) in
    let parts = both_set _ _ (sym (bit_at_and a b _) ∙ lowest.1) (bit_at-lt a _) (bit_at-lt b _) in
    record { t = _; low = lowest.0; one = parts.0; other = parts.1 }

-- ---- up the tree
module _ (rows : List (List Link)) (depths : List ℕ) where
  abbrev depth : ℕ → ℕ
  depth s = get_or depths s 0

  same_then : {X : Type 0} (o : Option X) → option_and_then (λ x. Some x) o ≡ o
  same_then None = refl
  same_then (Some x) = refl

  above_more : (h t : ℕ) → above rows depths (suc h) t ≡ option_and_then (parent rows depths) (above rows depths h t)
  above_more zero t = same_then (parent rows depths t)
  above_more (suc h) t = by (parent rows depths t) (above_more h)
    where
      by : (o : Option ℕ) → ((p : ℕ) → above rows depths (suc h) p ≡ option_and_then (parent rows depths) (above rows depths h p))
          → option_and_then (above rows depths (suc h)) o ≡ option_and_then (parent rows depths) (option_and_then (above rows depths h) o)
      by None each = refl
      by (Some p) each = each p

  deeper : (c s : ℕ) → parent rows depths c ≡ Some s → depth s + 1 ≡ depth c
  deeper c s is = by (tree_link rows depths c) refl is
    where
      by : (o : Option Link) → tree_link rows depths c ≡ o → option_map (λ link. link.to) o ≡ Some s → depth s + 1 ≡ depth c
      by None at never = absurd (none-some s never)
      by (Some link) at same =
          let passes = eqb-true (depth link.to + 1) (depth c) (found_passes (λ (link : Link). depth link.to + 1 == depth c) (links_of rows c) link at) in
          ap (λ (n : ℕ). depth n + 1) (sym (same_Some link.to s same)) ∙ passes

  has_row : (c s : ℕ) → parent rows depths c ≡ Some s → c < length rows
  has_row c s is = elim (cases_lt c (length rows)) [
    | inl within ↦ within
    | inr past ↦
        let none : links_of rows c ≡ [] = get_or_past rows c [] past in
        let gone : parent rows depths c ≡ None =
        ap (λ (links : List Link). option_map (λ (link : Link). link.to) (find (λ (link : Link). get_or depths link.to 0 + 1 == get_or depths c 0) links)) none in
        absurd (none-some s (sym gone ∙ is))
  ]

  top_is : (s t hops : ℕ) → option_map_or (λ top. top == s) (above rows depths hops t) false ≡ true → above rows depths hops t ≡ Some s
  top_is s t hops is = by (above rows depths hops t) is
    where
      by : (o : Option ℕ) → option_map_or (λ top. top == s) o false ≡ true → o ≡ Some s
      by None never = absurd (false≢true never)
      by (Some top) same = ap (λ (n : ℕ). Some n) (eqb-true top s same)

  not_deeper : (s t : ℕ) → is_below rows depths s t ≡ true → depth s ≤ depth t
  not_deeper s t is = elim (cases_lt (depth t) (depth s)) [
    | inr fine ↦ fine
    | inl less ↦
        let none : depth t - depth s ≡ 0 = omega (arith, less) in
        let same : t ≡ s = same_Some t s (ap (λ (hops : ℕ). above rows depths hops t) (sym none) ∙ top_is s t (depth t - depth s) is) in
        let equal : depth t ≡ depth s = ap depth same in
        absurd (omega (arith, less, equal))
  ]

  below_itself : (s : ℕ) → is_below rows depths s s ≡ true
  below_itself s =
      let none : depth s - depth s ≡ 0 = omega arith in
      ap (λ (hops : ℕ). option_map_or (λ top. top == s) (above rows depths hops s) false) none ∙ same_number s

  record IsChild (s t c : ℕ) : Type 0 where
    is_parent : parent rows depths c ≡ Some s
    below : is_below rows depths c t ≡ true
    towards : above rows depths (depth t - depth s - 1) t ≡ Some c

  -- what is below a switch next below another is below that one, and is not that one
  record IsUnder (s t c : ℕ) : Type 0 where
    differs : (t == s) ≡ false
    below : is_below rows depths s t ≡ true
    towards : above rows depths (depth t - depth s - 1) t ≡ Some c

  under : (s t c : ℕ) → parent rows depths c ≡ Some s → is_below rows depths c t ≡ true → IsUnder s t c
  under s t c of is =
      let one : depth s + 1 ≡ depth c = deeper c s of in
      let low : depth c ≤ depth t = not_deeper c t is in
      let hops = depth t - depth c in
      let at : above rows depths hops t ≡ Some c = top_is c t hops is in
      let more : depth t - depth s ≡ suc hops = omega (arith, one, low) in
      let left : depth t - depth s - 1 ≡ hops = omega (arith, one, low) in
      let top : above rows depths (suc hops) t ≡ Some s = above_more hops t ∙ ap (option_and_then (parent rows depths)) at ∙ of in
      record {
        differs = ne_eqb t s (λ same. let equal : depth t ≡ depth s = ap depth same in omega (arith, one, low, equal));
        below = ap (λ (n : ℕ). option_map_or (λ top. top == s) (above rows depths n t) false) more
            ∙ ap (λ (o : Option ℕ). option_map_or (λ top. top == s) o false) top ∙ same_number s;
        towards = ap (λ (n : ℕ). above rows depths n t) left ∙ at;
      }

  child : (s t : ℕ) → is_below rows depths s t ≡ true → (t == s) ≡ false → (c : ℕ) × IsChild s t c
  child s t is differs = elim (cases_lt (depth s) (depth t)) [
    | inl less ↦ found less
    | inr more ↦
        let none : depth t - depth s ≡ 0 = omega (arith, more) in
        let same : t ≡ s = same_Some t s (ap (λ (hops : ℕ). above rows depths hops t) (sym none) ∙ top_is s t (depth t - depth s) is) in
        absurd (eqb-false t s differs same)
  ]
    where
      found : depth s < depth t → (c : ℕ) × IsChild s t c
      found less = by (above rows depths (depth t - depth s - 1) t) refl
        where
          by : (o : Option ℕ) → above rows depths (depth t - depth s - 1) t ≡ o → (c : ℕ) × IsChild s t c
          by o at =
              let hops = depth t - depth s - 1 in
              let more : depth t - depth s ≡ suc hops = omega (arith, less) in
              let top : option_and_then (parent rows depths) o ≡ Some s =
              ap (option_and_then (parent rows depths)) (sym at) ∙ sym (above_more hops t) ∙ ap (λ (n : ℕ). above rows depths n t) (sym more) ∙ top_is s t (depth t - depth s) is in
              one o at top
            where
              one : (o : Option ℕ) → above rows depths (depth t - depth s - 1) t ≡ o → option_and_then (parent rows depths) o ≡ Some s → (c : ℕ) × IsChild s t c
              one None at never = absurd (none-some s never)
              one (Some c) at of =
                  let deep : depth s + 1 ≡ depth c = deeper c s of in
                  let left : depth t - depth c ≡ depth t - depth s - 1 = omega (arith, deep) in (
                    c,
                    record {
                      is_parent = of;
                      below = ap (λ (n : ℕ). option_map_or (λ top. top == c) (above rows depths n t) false) left
                          ∙ ap (λ (o : Option ℕ). option_map_or (λ top. top == c) o false) at ∙ same_number c;
                      towards = at;
                    },
                  )

-- ---- hops
hop_up : (routes : RoutesState) (place t : ℕ) → (t == place) ≡ false → is_below routes.between.rows routes.between.depths place t ≡ false
    → tree_hop routes place (record { node = t; port = 0 }) ≡ tree_port routes.between.rows routes.between.depths place
unfolding tree_hop
hop_up routes place t differs outside = rw (differs, outside) refl

hop_down : (routes : RoutesState) (place t : ℕ) → (t == place) ≡ false → is_below routes.between.rows routes.between.depths place t ≡ true
    → tree_hop routes place (record { node = t; port = 0 }) ≡ option_map (λ at. at.port) (option_and_then (tree_end routes) (child_towards routes place t))
unfolding tree_hop
hop_down routes place t differs below = rw (differs, below) refl

that_port : (o : Option ℕ) (s : ℕ) → is_that_port o s ≡ true → o ≡ Some s
that_port None s never = absurd (false≢true never)
that_port (Some x) s is = ap (λ (n : ℕ). Some n) (eqb-true x s is)

range_low : (a n k x : ℕ) → slice_get (range_with_len a n) k ≡ Some x → x < a + n
range_low a zero k x there = absurd (cc)
range_low a (suc n) zero x there =
    let is : a ≡ x = same_Some a x there in
    omega (arith, is)
range_low a (suc n) (suc k) x there =
    let less = range_low (a + 1) n k x there in
    omega (arith, less)

abbrev marked_away : RoutesState → (switches place number : ℕ) → ℕ → Bool
marked_away routes switches place number t = (bit_at switches t == 1) && leads_away routes place t number

module _ (routes : RoutesState) (tree : Tree) (switches place number : ℕ) (is_tree : IsTree routes tree 64) (few : length routes.between.rows ≤ 64) (low : place < 64) (below : number < 48) where
  abbrev rows : List (List Link)
  rows = routes.between.rows

  abbrev depths : List ℕ
  depths = routes.between.depths

  passes_at : (t : ℕ) → t < 64 → (bit_at switches t == 1) ≡ true → leads_away routes place t number ≡ true
      → list_any (marked_away routes switches place number) (range_with_len 0 64) ≡ true
  passes_at t within one leads =
      any_passes_from_place (marked_away routes switches place number) (range_with_len 0 64) t t (range_at 0 64 t within ∙ ap (λ (n : ℕ). Some n) (zero-add t))
      (and_from (bit_at switches t == 1) (leads_away routes place t number) one leads)

  from_up : leads_up tree switches place number ≡ true → list_any (marked_away routes switches place number) (range_with_len 0 64) ≡ true
  from_up is =
      let node = is_tree place low in
      let parts = and_parts (meets switches (get_or tree.outside place 0)) (bit_at (get_or tree.ups place 0) number == 1) is in
      let met = meets_some switches (get_or tree.outside place 0) node.outside_fits parts.0 in
      let outside : is_below rows depths place met.t ≡ false = not-true (is_below rows depths place met.t) (sym (node.is_outside met.t met.low) ∙ met.other) in
      let differs : (met.t == place) ≡ false =
      ne_eqb met.t place (λ same. false≢true (sym outside ∙ ap (is_below rows depths place) same ∙ below_itself rows depths place)) in
      passes_at met.t met.low met.one (and_from (not (met.t == place)) (is_that_port (tree_hop routes place (record { node = met.t; port = 0 })) number)
      (not_from_false (met.t == place) differs)
      (ap (λ (port : Option ℕ). is_that_port port number) (hop_up routes place met.t differs outside) ∙ sym (node.is_up number below) ∙ parts.1))

  from_down : (c : ℕ) → c < 64 → leads_down tree switches place number c ≡ true → list_any (marked_away routes switches place number) (range_with_len 0 64) ≡ true
  from_down c within is =
      let node = is_tree c within in
      let parts = and_parts (is_that_port (get_or tree.parents c None) place) (meets switches (get_or tree.below c 0) && (bit_at (get_or tree.ends c 0) number == 1)) is in
      let rest = and_parts (meets switches (get_or tree.below c 0)) (bit_at (get_or tree.ends c 0) number == 1) parts.1 in
      let of : parent rows depths c ≡ Some place = that_port (parent rows depths c) place (sym (node.is_parent place low) ∙ parts.0) in
      let met = meets_some switches (get_or tree.below c 0) node.below_fits rest.0 in
      let here = under rows depths place met.t c of (sym (node.is_below met.t met.low) ∙ met.other) in
      passes_at met.t met.low met.one (and_from (not (met.t == place)) (is_that_port (tree_hop routes place (record { node = met.t; port = 0 })) number)
      (not_from_false (met.t == place) here.differs)
      (ap (λ (port : Option ℕ). is_that_port port number) (hop_down routes place met.t here.differs here.below
      ∙ ap (λ (o : Option ℕ). option_map (λ at. at.port) (option_and_then (tree_end routes) o)) here.towards)
      ∙ sym (node.is_end number below) ∙ rest.1))

  sides_are : (leads_up tree switches place number || some_lead_down tree 64 switches place number)
      ≡ list_any (marked_away routes switches place number) (range_with_len 0 64)
  unfolding some_lead_down
  sides_are =
      same_answers (leads_up tree switches place number || some_lead_down tree 64 switches place number)
      (list_any (marked_away routes switches place number) (range_with_len 0 64)) there back
    where
      there : (leads_up tree switches place number || list_any (leads_down tree switches place number) (range_with_len 0 64)) ≡ true
          → list_any (marked_away routes switches place number) (range_with_len 0 64) ≡ true
      there any = elim (or_cases (leads_up tree switches place number) (list_any (leads_down tree switches place number) (range_with_len 0 64)) any) [
        | inl up ↦ from_up up
        | inr down ↦
            let found = among (leads_down tree switches place number) (range_with_len 0 64) down in
            from_down found.one (range_low 0 64 found.at found.one found.there) found.passes
      ]

      at : (t : ℕ) → t < 64 → (bit_at switches t == 1) ≡ true → (t == place) ≡ false → is_that_port (tree_hop routes place (record { node = t; port = 0 })) number ≡ true
          → (b : Bool) → is_below rows depths place t ≡ b
          → (leads_up tree switches place number || list_any (leads_down tree switches place number) (range_with_len 0 64)) ≡ true
      at t within one differs hop false outside =
          let node = is_tree place low in
          or_left (leads_up tree switches place number) (list_any (leads_down tree switches place number) (range_with_len 0 64))
          (and_from (meets switches (get_or tree.outside place 0)) (bit_at (get_or tree.ups place 0) number == 1)
          (meets_at switches (get_or tree.outside place 0) t one (node.is_outside t within ∙ not_from_false (is_below rows depths place t) outside))
          (node.is_up number below ∙ ap (λ (port : Option ℕ). is_that_port port number) (sym (hop_up routes place t differs outside)) ∙ hop))
      at t within one differs hop true under_it =
          let found = child rows depths place t under_it differs in
          let c = found.0 in
          let is_child = found.1 in
          let row = has_row rows depths c place is_child.is_parent in
          let c_low : c < 64 = omega (arith, row, few) in
          let node = is_tree c c_low in
          let of : is_that_port (get_or tree.parents c None) place ≡ true =
          node.is_parent place low ∙ ap (λ (o : Option ℕ). is_that_port o place) is_child.is_parent ∙ same_number place in
          let ends : (bit_at (get_or tree.ends c 0) number == 1) ≡ true =
          node.is_end number below ∙ ap (λ (port : Option ℕ). is_that_port port number)
          (sym (hop_down routes place t differs under_it ∙ ap (λ (o : Option ℕ). option_map (λ at. at.port) (option_and_then (tree_end routes) o)) is_child.towards)) ∙ hop in
          or_right (leads_up tree switches place number) (list_any (leads_down tree switches place number) (range_with_len 0 64))
          (any_passes_from_place (leads_down tree switches place number) (range_with_len 0 64) c c (range_at 0 64 c c_low ∙ ap (λ (n : ℕ). Some n) (zero-add c))
          (and_from (is_that_port (get_or tree.parents c None) place) (meets switches (get_or tree.below c 0) && (bit_at (get_or tree.ends c 0) number == 1)) of
          (and_from (meets switches (get_or tree.below c 0)) (bit_at (get_or tree.ends c 0) number == 1)
          (meets_at switches (get_or tree.below c 0) t one (node.is_below t within ∙ is_child.below)) ends)))

      back : list_any (marked_away routes switches place number) (range_with_len 0 64) ≡ true
          → (leads_up tree switches place number || list_any (leads_down tree switches place number) (range_with_len 0 64)) ≡ true
      back any =
          let found = among (marked_away routes switches place number) (range_with_len 0 64) any in
          let parts = and_parts (bit_at switches found.one == 1) (leads_away routes place found.one number) found.passes in
          let leads = and_parts (not (found.one == place)) (is_that_port (tree_hop routes place (record { node = found.one; port = 0 })) number) parts.1 in
          at found.one (range_low 0 64 found.at found.one found.there) parts.0 (not-true (found.one == place) leads.0) leads.1 (is_below rows depths place found.one) refl

-- what is attached to its ports, and what they lead to along the tree, make its mask
pub one_mask_is : (routes : RoutesState) (tree : Tree) (place mlid : ℕ) (receivers : List GroupReceiver) (marks : ℕ) → AreOfGraph routes → AreRoutes routes.between
    → place < 64 → IsTree routes tree 64
    → ((t : ℕ) → t < 64 → (bit_at marks t == 1) ≡ some_receives receivers mlid (λ lid. is_attached_to routes.between.homes lid t)) → (number : ℕ) → number < 48
    → ((some_receives receivers mlid (λ lid. is_attached_at routes.between.homes place lid number) || leads_up tree marks place number)
    || some_lead_down tree 64 marks place number)
    ≡ is_in_mask routes (receives_of receivers) place mlid number
one_mask_is routes tree place mlid receivers marks of are low is_tree on number below =
    let long : length routes.between.homes ≡ length routes.lids = ap length of.homes_are ∙ length-map routes.lids (home_in routes.graph) in
    let own = some_receives receivers mlid (λ lid. is_attached_at routes.between.homes place lid number) in
    or_assoc own (leads_up tree marks place number) (some_lead_down tree 64 marks place number)
    ∙ ap (λ (b : Bool). own || b)
    (sides_are routes tree marks place number is_tree are.few low below
    ∙ range_same (marked_away routes marks place number) (away routes place mlid number receivers) 0 64
    (λ t few. same_and (bit_at marks t == 1) (some_receives receivers mlid (λ lid. is_attached_to routes.between.homes lid t))
    (leads_away routes place t number) (leads_away routes place t number) (on t few) refl))
    ∙ turned routes place mlid number receivers are
    ∙ reached_is routes place mlid number receivers long

-- and so for each multicast LID of the MLID range of a partition
pub mask_is : (routes : RoutesState) (tree : Tree) (place partition : ℕ) (receivers : List GroupReceiver) (switches : ℕ → ℕ) → AreOfGraph routes → AreRoutes routes.between
    → place < 64 → IsTree routes tree 64 → AreReceiversBits 64 partition receivers (is_attached_to routes.between.homes) switches → (i number : ℕ) → i < 32 → number < 48
    → ((some_receives receivers (FIRST_MULTICAST_LID + (32 * partition + i)) (λ lid. is_attached_at routes.between.homes place lid number) || leads_up tree (switches i) place number)
    || some_lead_down tree 64 (switches i) place number)
    ≡ is_in_mask routes (receives_of receivers) place (FIRST_MULTICAST_LID + (32 * partition + i)) number
mask_is routes tree place partition receivers switches of are low is_tree on i number within below =
    one_mask_is routes tree place (FIRST_MULTICAST_LID + (32 * partition + i)) receivers (switches i) of are low is_tree (λ t few. on i t within few) number below

pub spread_masks_are : (routes : RoutesState) (tree : Tree) (place partition : ℕ) (receivers : List GroupReceiver) (ports masks : List (List ℕ)) (switches : List ℕ)
    → AreOfGraph routes → AreRoutes routes.between → place < 64 → IsTree routes tree 64 → AreAttached routes partition receivers ports switches
    → length masks ≡ 32 → AreSpread tree ports switches 32 masks
    → AreRangeBits routes partition (receives_of receivers) place (map (λ row. get_or row place 0) masks)
spread_masks_are routes tree place partition receivers ports masks switches of are low is_tree attached count spread i within number below =
    let marks = get_or switches i 0 in
    ap (λ (n : ℕ). bit_at n number == 1) (get_or-map (λ (row : List ℕ). get_or row place 0) masks i [] 0 (omega (arith, within, count)))
    ∙ spread i within place number low
    ∙ ap (λ (b : Bool). (b || leads_up tree marks place number) || some_lead_down tree 64 marks place number) (attached.of_ports place low i number within below)
    ∙ mask_is routes tree place partition receivers (λ i. get_or switches i 0) of are low is_tree attached.of_switches i number within below

blocks_are : (routes : RoutesState) (place partition : ℕ) (receives : ℕ → ℕ → Bool) (bits : List ℕ) → LiesInTable partition → length bits ≡ 32
    → AreRangeBits routes partition receives place bits
    → words_at 0 bits ∷ words_at 1 bits ∷ words_at 2 bits ∷ [] ≡ wanted_range routes partition receives place
blocks_are routes place partition receives bits below long right =
    let block : (position : ℕ) → position < 3 → words_at position bits ≡ block_of 32 partition (mask_of_position routes receives place position) =
    λ position few. block_is routes partition place position receives bits below few long right in
    let first = block 0 (omega arith) in
    let second = block 1 (omega arith) in
    let third = block 2 (omega arith) in
    λ i. first i ∷ second i ∷ third i ∷ []

pub wanted_is : (routes : RoutesState) (tree : Tree) (place partition : ℕ) (receivers : List GroupReceiver) (ports masks blocks : List (List ℕ)) (switches : List ℕ)
    → LiesInTable partition → AreOfGraph routes → AreRoutes routes.between → place < 64 → IsTree routes tree 64 → AreAttached routes partition receivers ports switches
    → length masks ≡ 32 → AreSpread tree ports switches 32 masks → blocks ≡ blocks_of masks place → blocks ≡ wanted_range routes partition (receives_of receivers) place
wanted_is routes tree place partition receivers ports masks blocks switches below of are low is_tree attached count spread is =
    is ∙ blocks_are routes place partition (receives_of receivers) (map (λ (row : List ℕ). get_or row place 0) masks) below
    (length-map masks (λ (row : List ℕ). get_or row place 0) ∙ count)
    (spread_masks_are routes tree place partition receivers ports masks switches of are low is_tree attached count spread)

-- the blocks of one switch
pub place_wanted : (routes : RoutesState) (tree : Tree) (place partition : ℕ) (receivers : List GroupReceiver) (ports bits switches : List ℕ)
    → LiesInTable partition → AreOfGraph routes → AreRoutes routes.between → place < 64 → IsTree routes tree 64
    → AreReceiversBits 48 partition receivers (is_attached_at routes.between.homes place) (λ i. get_or ports i 0)
    → AreReceiversBits 64 partition receivers (is_attached_to routes.between.homes) (λ i. get_or switches i 0)
    → length bits ≡ 32
    → ((i number : ℕ) → i < 32 → (bit_at (get_or bits i 0) number == 1)
    ≡ (((bit_at (get_or ports i 0) number == 1) || leads_up tree (get_or switches i 0) place number) || some_lead_down tree 64 (get_or switches i 0) place number))
    → words_at 0 bits ∷ words_at 1 bits ∷ words_at 2 bits ∷ [] ≡ wanted_range routes partition (receives_of receivers) place
place_wanted routes tree place partition receivers ports bits switches below of are low is_tree at on long spread =
    blocks_are routes place partition (receives_of receivers) bits below long
    (λ i within number few.
    let marks = get_or switches i 0 in
    spread i number within
    ∙ ap (λ (b : Bool). (b || leads_up tree marks place number) || some_lead_down tree 64 marks place number) (at i number within few)
    ∙ mask_is routes tree place partition receivers (λ i. get_or switches i 0) of are low is_tree on i number within few)

-- a switch whose masks are the same after as before
pub wanted_stays : (routes : RoutesState) (tree : Tree) (place partition : ℕ) (before after : List GroupReceiver) (switches_before switches_after : List ℕ)
    → LiesInTable partition → AreOfGraph routes → AreRoutes routes.between → place < 64 → IsTree routes tree 64
    → AreReceiversBits 64 partition before (is_attached_to routes.between.homes) (λ i. get_or switches_before i 0)
    → AreReceiversBits 64 partition after (is_attached_to routes.between.homes) (λ i. get_or switches_after i 0)
    → ((mlid number : ℕ) → some_receives before mlid (λ lid. is_attached_at routes.between.homes place lid number)
    ≡ some_receives after mlid (λ lid. is_attached_at routes.between.homes place lid number))
    → ((i : ℕ) → i < 32 → IsUnturned tree (get_or switches_before i 0) (get_or switches_after i 0) place)
    → wanted_range routes partition (receives_of before) place ≡ wanted_range routes partition (receives_of after) place
wanted_stays routes tree place partition before after switches_before switches_after below of are low is_tree on_before on_after own ways =
    sym (blocks_are routes place partition (receives_of before) bits below long bits_are)
    ∙ blocks_are routes place partition (receives_of after) bits below long
    (λ i within number few. bits_are i within number few ∙ same i number within few)
  where
    word : ℕ → ℕ
    word i = bits_where 48 (is_in_mask routes (receives_of before) place (FIRST_MULTICAST_LID + (32 * partition + i)))

    bits : List ℕ
    bits = map word (range_with_len 0 32)

    long : length bits ≡ 32
    long = length-map-range_with_len word 0 32

    bits_are : AreRangeBits routes partition (receives_of before) place bits
    bits_are i within number few =
        ap (λ (n : ℕ). bit_at n number == 1) (get_or-map-range_with_len word 0 32 i i 0 within (zero-add i))
        ∙ bit_where 48 (is_in_mask routes (receives_of before) place (FIRST_MULTICAST_LID + (32 * partition + i))) number few

    same : (i number : ℕ) → i < 32 → number < 48 → is_in_mask routes (receives_of before) place (FIRST_MULTICAST_LID + (32 * partition + i)) number
        ≡ is_in_mask routes (receives_of after) place (FIRST_MULTICAST_LID + (32 * partition + i)) number
    same i number within few =
        let mlid = FIRST_MULTICAST_LID + (32 * partition + i) in
        let turn = ways i within number in
        sym (mask_is routes tree place partition before (λ i. get_or switches_before i 0) of are low is_tree on_before i number within few)
        ∙ ap (λ (b : Bool). (b || leads_up tree (get_or switches_before i 0) place number) || some_lead_down tree 64 (get_or switches_before i 0) place number) (own mlid number)
        ∙ (λ k. (some_receives after mlid (λ lid. is_attached_at routes.between.homes place lid number) || turn.0 k) || turn.1 k)
        ∙ mask_is routes tree place partition after (λ i. get_or switches_after i 0) of are low is_tree on_after i number within few
