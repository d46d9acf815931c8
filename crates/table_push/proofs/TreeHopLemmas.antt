-- By which ports a switch sends along the spanning tree, by its sides.
use Rattle.std.proofs.Common.{ℕ, zero, ◌≡◌, ◌-◌, ◌<◌, ◌==◌, ◌∙◌, ap, refl, sym, subst, not, Bool, true, false, List, length, get_or, Option, Some, None, option_map, arith}
use Rattle.std.specs.List.{IsDistinct}
use Rattle.std.specs.Option.{option_and_then, option_map_or}
use Rattle.std.proofs.lemmas.Bool.{eq-eqb, eqb-true, false≢true, not-true, not_from_false}
use Rattle.std.proofs.lemmas.Option.{same_Some}
use Rattle.fabric_parts.specs.declared.cable.PortRef.{PortRef}
use Rattle.step_results.proofs.DistinctLemmas.{left_part}
use Rattle.updn_routes.specs.declared.link.Link.{Link}
use Rattle.updn_routes.specs.Laws.{IsSided, SidesPart}
use Rattle.updn_routes.specs.Order.{is_first_root}
use Rattle.updn_routes.specs.Sides.{IsSide, Side, Up, Down, above, back, is_behind, is_below, neighbour, parent}
use Rattle.updn_routes.specs.Subnet.{RoutesState, guids_of}
use Rattle.updn_routes.specs.Tree.{AreDepths, tree_port}
use Rattle.updn_routes.proofs.SideLemmas.{one_first_root, sided, sides_part}
use Rattle.table_push.specs.BroughtUp.{RoutesLeadHome}
use Rattle.table_push.specs.Masks.{child_towards, tree_end, tree_hop}

-- the port of a switch towards that side
abbrev pub side_port : RoutesState → ℕ → Side → Option ℕ
side_port routes s Up = tree_port routes.between.rows routes.between.depths s
side_port routes s (Down c) = option_map (λ (at : PortRef). at.port) (tree_end routes c)

not_twice : (b : Bool) → b ≡ not (not b)
not_twice true = refl
not_twice false = refl

module _ (routes : RoutesState) (roots : List ℕ) (home : RoutesLeadHome routes) (right : AreDepths routes.between.rows routes.between.guids roots routes.between.depths) where
  abbrev rows : List (List Link)
  rows = routes.between.rows

  abbrev depths : List ℕ
  depths = routes.between.depths

  abbrev is_first : ℕ → Bool
  is_first s = is_first_root routes.between.guids roots s

  -- ---- the sides of the tree
  pub tree_sided : IsSided rows is_first depths
  tree_sided = sided rows is_first depths home.chosen.cabling right

  own_guids : IsDistinct (λ a b. a == b) routes.between.guids
  own_guids =
      subst (λ (guids : List ℕ). IsDistinct (λ a b. a == b) guids) (sym home.of.guids_are)
      (left_part (λ a b. a == b) (guids_of routes.graph) _ home.graph.guids)

  pub parted : (s : ℕ) → s < length rows → SidesPart rows depths s
  parted s less =
      sides_part rows is_first depths home.chosen.cabling right
      (λ a b al bl. one_first_root routes.between.guids roots a b own_guids (within a al) (within b bl)) s less
    where
      within : (a : ℕ) → a < length rows → a < length routes.between.guids
      within a less = omega (arith, less, home.chosen.count)

  under_child : (s c : ℕ) → c < length rows → parent rows depths c ≡ Some s → is_below rows depths s c ≡ true
  under_child s c less up = (tree_sided.meant s c less).1 (1, ap (option_and_then (above rows depths zero)) up)

  pub record HasNeighbour (s : ℕ) (q : Side) : Type 0 where
    pub far : ℕ
    pub is : neighbour rows depths s q ≡ Some far
    pub within : far < length rows
    pub behind : is_behind rows depths s q far ≡ true

  pub neighbour_of : (s : ℕ) → s < length rows → (q : Side) → IsSide rows depths s q → HasNeighbour s q
  neighbour_of s less Up side = record {
    far = side.0;
    is = side.1;
    within = (tree_sided.nearer s side.0 less side.1).0;
    behind = not_from_false (is_below rows depths s side.0) (tree_sided.upward s side.0 less side.1);
  }
  neighbour_of s less (Down c) side = record { far = c; is = refl; within = side.1; behind = tree_sided.itself c side.1 }

  -- what is behind a side is not behind the side that leads back
  pub behind_back : (s : ℕ) (q : Side) (far t : ℕ) → neighbour rows depths s q ≡ Some far
      → is_behind rows depths far (back s q) t ≡ not (is_behind rows depths s q t)
  behind_back s Up far t is = not_twice (is_below rows depths s t)
  behind_back s (Down c) far t is =
      ap (λ (v : ℕ). not (is_below rows depths v t)) (sym (same_Some c far is))

  -- ---- hops
  towards : (s c t : ℕ) → c < length rows → parent rows depths c ≡ Some s → is_below rows depths c t ≡ true → child_towards routes s t ≡ Some c
  towards s c t less up below =
      let near = (tree_sided.nearer c s less up).1 in
      let many : get_or depths t 0 - get_or depths s 0 - 1 ≡ get_or depths t 0 - get_or depths c 0 = omega (arith, near) in
      ap (λ (hops : ℕ). above rows depths hops t) many ∙ by (above rows depths (get_or depths t 0 - get_or depths c 0) t) below
    where
      by : (o : Option ℕ) → option_map_or (λ top. top == c) o false ≡ true → o ≡ Some c
      by None h = absurd (false≢true h)
      by (Some top) h = ap (λ (v : ℕ). Some v) (eqb-true top c h)

  apart_from : (s t : ℕ) → s < length rows → (q : Side) → IsSide rows depths s q → is_behind rows depths s q t ≡ true → (t == s) ≡ false
  apart_from s t less q side behind = by (t == s) refl
    where
      by : (b : Bool) → (t == s) ≡ b → b ≡ false
      by false is = refl
      by true is =
          absurd (false≢true (sym ((parted s less).not_itself q side) ∙ ap (is_behind rows depths s q) (sym (eqb-true t s is)) ∙ behind))

  hop_up : (s : ℕ) (at : PortRef) → (at.node == s) ≡ false → is_below rows depths s at.node ≡ false → tree_hop routes s at ≡ tree_port rows depths s
  unfolding tree_hop
  hop_up s at apart below = rw (apart, below) refl

  hop_down : (s c : ℕ) (at : PortRef) → (at.node == s) ≡ false → is_below rows depths s at.node ≡ true → child_towards routes s at.node ≡ Some c
      → tree_hop routes s at ≡ side_port routes s (Down c)
  unfolding tree_hop
  hop_down s c at apart below child = rw (apart, below, child) refl

  -- what is for a port of another switch goes by the side that this one is behind
  pub hop_by_side : (s : ℕ) (at : PortRef) → s < length rows → at.node < length rows → (q : Side) → IsSide rows depths s q
      → is_behind rows depths s q at.node ≡ true → tree_hop routes s at ≡ side_port routes s q
  hop_by_side s at less there Up side behind =
      hop_up s at (apart_from s at.node less Up side behind) (not-true (is_below rows depths s at.node) behind)
  hop_by_side s at less there (Down c) side behind =
      hop_down s c at (apart_from s at.node less (Down c) side behind)
      (tree_sided.further s c at.node there (under_child s c side.1 side.0) behind) (towards s c at.node side.1 side.0 behind)

  pub hop_home : (s : ℕ) (at : PortRef) → at.node ≡ s → tree_hop routes s at ≡ Some at.port
  unfolding tree_hop
  hop_home s at is = rw (is, same s) refl
    where
      same : (n : ℕ) → (n == n) ≡ true
      same n = eq-eqb n n refl
