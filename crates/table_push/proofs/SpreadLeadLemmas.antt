-- Along the spanning tree the bits of masks lead to each port that receives.
use Rattle.std.proofs.Common.{ℕ, zero, suc, ◌≡◌, ◌-◌, ◌≤◌, ◌<◌, ◌==◌, ◌∙◌, ap, refl, sym, Bool, true, false, List, [], ◌∷◌, get_or, length, slice_get, Some, arith}
use Rattle.std.specs.Option.{option_map_or}
use Rattle.std.proofs.lemmas.Bool.{eq-eqb, eqb-true, false≢true, not-true, not_from_true}
use Rattle.std.proofs.lemmas.Option.{same_Some}
use Rattle.fabric_parts.specs.Cable.{far_end, port}
use Rattle.fabric_parts.specs.declared.cable.PortRef.{PortRef}
use Rattle.smp_wire.specs.Groups.{Copies, GoesByMasks, is_in_masks_at}
use Rattle.smp_wire.specs.FabricState.{FabricState, is_switch_at}
use Rattle.sweep.specs.OfFabric.{Found}
use Rattle.sweep.proofs.MetLemmas.{good_once}
use Rattle.table_push.specs.BroughtUp.{IsBroughtUp, RoutesLeadHome}
use Rattle.table_push.specs.Laws.{HasMasksOf}
use Rattle.table_push.specs.Masks.{tree_hop}
use Rattle.table_push.proofs.MaskHopLemmas.{HasBits, bit_is_set, in_mask}
use Rattle.table_push.proofs.SpreadStepLemmas.{by_side, home_within, out_range, stands_switch}
use Rattle.table_push.proofs.TreeCableLemmas.{IsSideCable, one_port, side_cable, within_rows}
use Rattle.table_push.proofs.TreeHopLemmas.{behind_back, hop_by_side, hop_home, parted, tree_sided}
use Rattle.updn_routes.specs.Routes.{home_of}
use Rattle.updn_routes.specs.Sides.{IsSide, Side, Up, Down, above, back, is_behind, is_below, neighbour, parent}
use Rattle.updn_routes.specs.Subnet.{RoutesState}
use Rattle.updn_routes.specs.Tree.{AreDepths}
use Rattle.updn_routes.specs.declared.link.Link.{Link}

module _ (routes : RoutesState) (roots : List ℕ) (keys : List (List ℕ)) (fabric : FabricState) (receives : ℕ → ℕ → Bool) (home : RoutesLeadHome routes) (right : AreDepths routes.between.rows routes.between.guids roots routes.between.depths) (up : IsBroughtUp routes keys fabric) (has : HasMasksOf routes receives fabric) where
  abbrev rows : List (List Link)
  rows = routes.between.rows

  abbrev depths : List ℕ
  depths = routes.between.depths

  abbrev Stands : ℕ → Found → Type 0
  Stands place found = slice_get up.graph.layout.found place ≡ Some found

  -- a LID that receives is attached there, and the cable leads out of the tree
  pub record IsEnd (mlid : ℕ) (t at : PortRef) : Type 0 where
    pub bits : HasBits mlid
    pub lid : ℕ
    pub low : 1 ≤ lid
    pub high : lid ≤ length routes.lids
    pub member : receives mlid lid ≡ true
    pub attached : home_of routes.between.homes lid ≡ Some t
    pub some : (t.port == 0) ≡ false
    pub last : Found
    pub stands : Stands t.node last
    pub cable : far_end fabric.cables (port last.node t.port) ≡ Some at
    pub off : is_switch_at fabric.nodes at.node ≡ false

  abbrev Way : ℕ → PortRef → PortRef → Type 0
  Way mlid here at = (way : List PortRef) × GoesByMasks fabric.nodes fabric.cables mlid here way at

  copies : (mlid : ℕ) (t at : PortRef) → IsEnd mlid t at → (s : ℕ) (found : Found) (here next : PortRef) (number : ℕ) → Stands s found → found.node ≡ here.node
      → tree_hop routes s t ≡ Some number → (tree_hop routes s t ≡ Some here.port → ⊥) → far_end fabric.cables (port found.node number) ≡ Some next
      → Copies fabric.nodes fabric.cables mlid here next
  copies mlid t at end s found here next number stands node hop away cable =
      let few = out_range routes roots keys fabric home right up found.node number next cable in
      let set = bit_is_set routes fabric home.graph up.graph receives has s found stands mlid number few.1 end.bits
      (in_mask routes receives s mlid number end.lid t end.low end.high end.member end.attached end.some hop) in
      record {
        out = number;
        onward = λ same. away (hop ∙ ap (λ (n : ℕ). Some n) same);
        group = ap (λ (n : ℕ). is_in_masks_at fabric.nodes mlid (port n number)) (sym node) ∙ set;
        cable = ap (λ (n : ℕ). far_end fabric.cables (port n number)) (sym node) ∙ cable;
      }

  -- at the switch where it is attached
  arrive : (mlid : ℕ) (t at : PortRef) → IsEnd mlid t at → (s : ℕ) (found : Found) (here : PortRef) → Stands s found → found.node ≡ here.node
      → (tree_hop routes s t ≡ Some here.port → ⊥) → t.node ≡ s → Way mlid here at
  arrive mlid t at end s found here stands node away is =
      let same : end.last ≡ found = same_Some end.last found (sym end.stands ∙ ap (slice_get up.graph.layout.found) is ∙ stands) in
      let cable : far_end fabric.cables (port found.node t.port) ≡ Some at =
      ap (λ (f : Found). far_end fabric.cables (port f.node t.port)) (sym same) ∙ end.cable in
      (at ∷ [], (copies mlid t at end s found here at t.port stands node (hop_home routes roots home right s t is) away cable, refl))

  -- over a cable of the tree
  pub record Step (mlid : ℕ) (t : PortRef) (s : ℕ) (found : Found) (here : PortRef) (far : ℕ) : Type 0 where
    pub next : PortRef
    pub there : Found
    pub stands : Stands far there
    pub node : there.node ≡ next.node
    pub goes : Copies fabric.nodes fabric.cables mlid here next
    pub number : ℕ
    pub hop : tree_hop routes s t ≡ Some number
    pub cable : far_end fabric.cables (port found.node number) ≡ Some next
    pub away : tree_hop routes far t ≡ Some next.port → ⊥

  pub step : (mlid : ℕ) (t at : PortRef) → IsEnd mlid t at → (s : ℕ) (found : Found) (here : PortRef) → Stands s found → found.node ≡ here.node
      → (tree_hop routes s t ≡ Some here.port → ⊥) → (q : Side) → IsSide rows depths s q → is_behind rows depths s q t.node ≡ true
      → (far : ℕ) → neighbour rows depths s q ≡ Some far → Step mlid t s found here far
  step mlid t at end s found here stands node away q side behind far is =
      record {
        next = next;
        there = one.there;
        stands = one.stands;
        node = refl;
        goes = goes;
        number = one.out;
        hop = hop;
        cable = one.cable;
        away = not_back (t.node == far) refl;
      }
    where
      less : s < length rows
      less = within_rows routes roots fabric home right up.good up.graph s found stands

      there_less : t.node < length rows
      there_less = home_within routes roots keys fabric home right up end.lid t end.attached

      one : IsSideCable routes roots fabric home right up.good up.graph s q far found
      one = side_cable routes roots fabric home right up.good up.graph s q far found stands side is

      next : PortRef
      next = port one.there.node one.into

      hop : tree_hop routes s t ≡ Some one.out
      hop = hop_by_side routes roots home right s t less there_less q side behind ∙ one.out_is

      goes : Copies fabric.nodes fabric.cables mlid here next
      goes = copies mlid t at end s found here next one.out stands node hop away one.cable

      not_back : (b : Bool) → (t.node == far) ≡ b → tree_hop routes far t ≡ Some one.into → ⊥
      not_back true same hop =
          let t_there = eqb-true t.node far same in
          let number : t.port ≡ one.into = same_Some t.port one.into (sym (hop_home routes roots home right far t t_there) ∙ hop) in
          let last : end.last ≡ one.there = same_Some end.last one.there (sym end.stands ∙ ap (slice_get up.graph.layout.found) t_there ∙ one.stands) in
          let back = good_once fabric (port found.node one.out) next up.good one.cable in
          let at_is : at ≡ port found.node one.out =
          same_Some at (port found.node one.out) (sym end.cable ∙ (λ i. far_end fabric.cables (port (last i).node (number i))) ∙ back) in
          false≢true (sym end.off ∙ ap (λ (p : PortRef). is_switch_at fabric.nodes p.node) at_is
          ∙ stands_switch routes roots keys fabric home right up s found stands)
      not_back false apart hop =
          let far_less = within_rows routes roots fabric home right up.good up.graph far one.there one.stands in
          let other = by_side routes roots keys fabric home right up far t one.into far_less there_less apart hop in
          let back_side = ((parted routes roots home right s less).back_is q far side is).0 in
          let same = one_port routes roots fabric home right up.good up.graph far one.there one.stands other.q (back s q) one.into other.side back_side
          other.port_is one.into_is in
          let turned : is_behind rows depths far (back s q) t.node ≡ false =
          behind_back routes roots home right s q far t.node is ∙ not_from_true (is_behind rows depths s q t.node) behind in
          false≢true (sym turned ∙ ap (λ (r : Side). is_behind rows depths far r t.node) (sym same) ∙ other.behind)

  -- ---- at each switch: out there, or by a side
  abbrev OnFrom : ℕ → PortRef → PortRef → ℕ → Type 0
  OnFrom mlid t at far =
      (there : Found) (next : PortRef) → Stands far there → there.node ≡ next.node → (tree_hop routes far t ≡ Some next.port → ⊥) → Way mlid next at

  from_here : (mlid : ℕ) (t at : PortRef) → IsEnd mlid t at → (s : ℕ) (found : Found) (here : PortRef) → Stands s found → found.node ≡ here.node
      → (tree_hop routes s t ≡ Some here.port → ⊥)
      → ((p : ℕ) → parent rows depths s ≡ Some p → is_below rows depths s t.node ≡ false → OnFrom mlid t at p)
      → ((c : ℕ) → parent rows depths c ≡ Some s → c < length rows → is_below rows depths c t.node ≡ true → OnFrom mlid t at c)
      → Way mlid here at
  from_here mlid t at end s found here stands node away above_it below_it = by (t.node == s) refl
    where
      less : s < length rows
      less = within_rows routes roots fabric home right up.good up.graph s found stands

      by_side_of : (q : Side) → IsSide rows depths s q → is_behind rows depths s q t.node ≡ true → Way mlid here at
      by_side_of Up side behind =
          let one = step mlid t at end s found here stands node away Up side behind side.0 side.1 in
          let rest = above_it side.0 side.1 (not-true (is_below rows depths s t.node) behind) one.there one.next one.stands one.node one.away in
          (one.next ∷ rest.0, (one.goes, rest.1))
      by_side_of (Down c) side behind =
          let one = step mlid t at end s found here stands node away (Down c) side behind c refl in
          let rest = below_it c side.0 side.1 behind one.there one.next one.stands one.node one.away in
          (one.next ∷ rest.0, (one.goes, rest.1))

      by : (b : Bool) → (t.node == s) ≡ b → Way mlid here at
      by true is = arrive mlid t at end s found here stands node away (eqb-true t.node s is)
      by false apart =
          let there_less = home_within routes roots keys fabric home right up end.lid t end.attached in
          let one = (parted routes roots home right s less).some t.node there_less (λ same. false≢true (sym apart ∙ eq-eqb t.node s same)) in
          by_side_of one.0 one.1 one.2

  -- ---- down, along its own way up
  no_hops : (s t hops : ℕ) → hops ≡ zero → option_map_or (λ top. top == s) (above rows depths hops t) false ≡ true → t ≡ s
  no_hops s t hops none below =
      eqb-true t s (ap (λ (n : ℕ). option_map_or (λ top. top == s) (above rows depths n t) false) (sym none) ∙ below)

  down : (k mlid : ℕ) (t at : PortRef) → IsEnd mlid t at → (s : ℕ) (found : Found) (here : PortRef) → Stands s found → found.node ≡ here.node
      → (tree_hop routes s t ≡ Some here.port → ⊥) → is_below rows depths s t.node ≡ true → get_or depths t.node 0 - get_or depths s 0 ≡ k
      → Way mlid here at
  down zero mlid t at end s found here stands node away below far =
      arrive mlid t at end s found here stands node away (no_hops s t.node (get_or depths t.node 0 - get_or depths s 0) far below)
  down (suc k) mlid t at end s found here stands node away below far =
      from_here mlid t at end s found here stands node away (λ p is off. absurd (false≢true (sym off ∙ below)))
      (λ c is less under there next standing same apart.
      let near = ((tree_sided routes roots home right).nearer c s less is).1 in
      down k mlid t at end c there next standing same apart under (omega (arith, near, far)))

  -- ---- up, until it is below
  climb : (k mlid : ℕ) (t at : PortRef) → IsEnd mlid t at → (s : ℕ) (found : Found) (here : PortRef) → Stands s found → found.node ≡ here.node
      → (tree_hop routes s t ≡ Some here.port → ⊥) → get_or depths s 0 ≡ k → Way mlid here at
  climb zero mlid t at end s found here stands node away deep =
      from_here mlid t at end s found here stands node away
      (λ p is off.
      let near = ((tree_sided routes roots home right).nearer s p (within_rows routes roots fabric home right up.good up.graph s found stands) is).1 in
      absurd (let no_room : ⊥ = omega (arith, near, deep) in no_room))
      (λ c is less under there next standing same apart.
      down (get_or depths t.node 0 - get_or depths c 0) mlid t at end c there next standing same apart under refl)
  climb (suc k) mlid t at end s found here stands node away deep =
      from_here mlid t at end s found here stands node away
      (λ p is off there next standing same apart.
      let near = ((tree_sided routes roots home right).nearer s p (within_rows routes roots fabric home right up.good up.graph s found stands) is).1 in
      climb k mlid t at end p there next standing same apart (omega (arith, near, deep)))
      (λ c is less under there next standing same apart.
      down (get_or depths t.node 0 - get_or depths c 0) mlid t at end c there next standing same apart under refl)

  -- from wherever it doesn't come in by the port that leads to the receiver
  pub leads_there : (mlid : ℕ) (t at : PortRef) → IsEnd mlid t at → (s : ℕ) (found : Found) (here : PortRef) → Stands s found → found.node ≡ here.node
      → (tree_hop routes s t ≡ Some here.port → ⊥) → (way : List PortRef) × GoesByMasks fabric.nodes fabric.cables mlid here way at
  leads_there mlid t at end s found here stands node away = climb (get_or depths s 0) mlid t at end s found here stands node away refl
