-- The spanning tree of a cabling is that of one whose switches stand in another order.
use Rattle.std.proofs.Common.{ℕ, zero, suc, ◌≡◌, ◌≤◌, ◌<◌, ◌+◌, ◌-◌, ◌==◌, ◌∙◌, ap, refl, sym, subst, nat_lt, Bool, true, false, List, [], ◌∷◌, find, get_or, length, map, Option, Some, None, option_map, arith}
use Rattle.std.specs.List.{list_all}
use Rattle.std.specs.Option.{option_and_then, option_map_or}
use Rattle.std.proofs.lemmas.Bool.{and_parts, eqb-false, eqb-true, eq-eqb, ltb-true, ne_eqb}
use Rattle.std.proofs.lemmas.Option.{none-some, same_Some}
use Rattle.updn_routes.specs.Cabling.{links_of}
use Rattle.updn_routes.specs.Order.{is_first_root}
use Rattle.updn_routes.specs.Places.{placed_link}
use Rattle.updn_routes.specs.Sides.{above, is_below, parent}
use Rattle.updn_routes.specs.Tree.{AreDepths, tree_link, tree_port}
use Rattle.updn_routes.specs.declared.link.Link.{Link}
use Rattle.updn_routes.specs.Alike.{AreAlike, IsLayout, IsPlacedIn, Layout}
use Rattle.updn_routes.specs.OrderLaws.{DepthsAreAlike, TreesAreAlike}
use Rattle.updn_routes.proofs.AlikeLemmas.{flip, no_further, root_there}
use Rattle.updn_routes.proofs.ChoiceLemmas.{own_place}

-- ---- depths
first_root_there : (one other : Layout) (roots : List ℕ) (place back : ℕ → ℕ) (d : ℕ) → IsLayout one → IsLayout other
    → IsPlacedIn one other place → IsPlacedIn other one back → d < length one.rows
    → is_first_root one.guids roots d ≡ true → is_first_root other.guids roots (place d) ≡ true
first_root_there one other [] place back d is too to from low root = root_there one other [] place back d is too to from low root
first_root_there one other (first ∷ named) place back d is too to from low root =
    subst (λ (guid : ℕ). (first == guid) ≡ true) (sym (to.guids d low)) root

no_deeper : (one other : Layout) (roots depths other_depths : List ℕ) (s : ℕ) → (alike : AreAlike one other)
    → AreDepths one.rows one.guids roots depths → AreDepths other.rows other.guids roots other_depths
    → s < length one.rows → get_or other_depths (alike.place s) 0 ≤ get_or depths s 0
no_deeper one other roots depths other_depths s alike mine theirs low =
    no_further one other alike.place alike.one_is alike.to_other (is_first_root one.guids roots) (is_first_root other.guids roots) s
    (get_or depths s 0) (get_or other_depths (alike.place s) 0)
    (λ d below. first_root_there one other roots alike.place alike.back d alike.one_is alike.other_is alike.to_other alike.to_one below) low
    (mine.each s low) (theirs.each (alike.place s) (alike.to_other.below s low))

pub depths_are_alike : DepthsAreAlike
depths_are_alike one other roots depths other_depths s alike mine theirs low =
    let one_way = no_deeper one other roots depths other_depths s alike mine theirs low in
    let back_way : get_or depths (alike.back (alike.place s)) 0 ≤ get_or other_depths (alike.place s) 0 =
    no_deeper other one roots other_depths depths (alike.place s) (flip one other alike) theirs mine (alike.to_other.below s low) in
    let same : get_or depths (alike.back (alike.place s)) 0 ≡ get_or depths s 0 = ap (λ (k : ℕ). get_or depths k 0) (alike.there_and_back s low) in
    omega (arith, one_way, back_way, same)

-- ---- what is found
find_moved : {X : Type 0} (p q keeps : X → Bool) (f : X → X) (xs : List X) → ((x : X) → keeps x ≡ true → q (f x) ≡ p x)
    → list_all keeps xs ≡ true → find q (map f xs) ≡ option_map f (find p xs)
find_moved p q keeps f [] same all = refl
find_moved {X = X} p q keeps f (x ∷ xs) same all =
    let parts = and_parts (keeps x) (list_all keeps xs) all in
    by (p x) refl (same x parts.0) (find_moved p q keeps f xs same parts.1)
  where
    by : (b : Bool) → p x ≡ b → q (f x) ≡ p x → find q (map f xs) ≡ option_map f (find p xs)
        → find q (map f (x ∷ xs)) ≡ option_map f (find p (x ∷ xs))
    by true is agrees later = let there = agrees ∙ is in rw (there, is) refl
    by false is agrees later = let there = agrees ∙ is in rw (there, is) later

found_keeps : {X : Type 0} (p keeps : X → Bool) (xs : List X) (x : X) → find p xs ≡ Some x → list_all keeps xs ≡ true → keeps x ≡ true
found_keeps p keeps [] x is all = absurd (none-some x is)
found_keeps {X = X} p keeps (y ∷ xs) x is all =
    let parts = and_parts (keeps y) (list_all keeps xs) all in by (p y) refl parts.0 (λ later. found_keeps p keeps xs x later parts.1)
  where
    by : (b : Bool) → p y ≡ b → keeps y ≡ true → (find p xs ≡ Some x → keeps x ≡ true) → keeps x ≡ true
    by true here kept later = let same : Some y ≡ Some x = rw here at is in subst (λ (z : X). keeps z ≡ true) (same_Some y x same) kept
    by false here kept later = let more : find p xs ≡ Some x = rw here at is in later more

-- ---- the tree
module _ (one other : Layout) (roots depths other_depths : List ℕ) (alike : AreAlike one other) (mine : AreDepths one.rows one.guids roots depths)
    (theirs : AreDepths other.rows other.guids roots other_depths) where
  deep : (s : ℕ) → s < length one.rows → get_or other_depths (alike.place s) 0 ≡ get_or depths s 0
  deep s low = depths_are_alike one other roots depths other_depths s alike mine theirs low

  rises : (s : ℕ) (link : Link) → s < length one.rows → nat_lt link.to (length one.rows) ≡ true
      → (get_or other_depths (alike.place link.to) 0 + 1 == get_or other_depths (alike.place s) 0)
      ≡ (get_or depths link.to 0 + 1 == get_or depths s 0)
  rises s link low within =
      let there = deep link.to (ltb-true link.to (length one.rows) within) in
      let here = deep s low in
      λ i. there i + 1 == here i

  pub link_there : (s : ℕ) → s < length one.rows
      → tree_link other.rows other_depths (alike.place s) ≡ option_map (placed_link alike.place) (tree_link one.rows depths s)
  link_there s low =
      ap (find (λ (link : Link). get_or other_depths link.to 0 + 1 == get_or other_depths (alike.place s) 0)) (alike.to_other.links s low)
      ∙ find_moved (λ link. get_or depths link.to 0 + 1 == get_or depths s 0)
      (λ link. get_or other_depths link.to 0 + 1 == get_or other_depths (alike.place s) 0) (λ link. nat_lt link.to (length one.rows))
      (placed_link alike.place) (links_of one.rows s) (λ link within. rises s link low within) (alike.one_is.within s low)

  pub port_there : (s : ℕ) → s < length one.rows → tree_port other.rows other_depths (alike.place s) ≡ tree_port one.rows depths s
  port_there s low = ap (option_map (λ (link : Link). link.port)) (link_there s low) ∙ by (tree_link one.rows depths s)
    where
      by : (o : Option Link) → option_map (λ (link : Link). link.port) (option_map (placed_link alike.place) o) ≡ option_map (λ (link : Link). link.port) o
      by None = refl
      by (Some link) = refl

  -- ---- up it
  parent_there : (s : ℕ) → s < length one.rows → parent other.rows other_depths (alike.place s) ≡ option_map alike.place (parent one.rows depths s)
  parent_there s low = ap (option_map (λ (link : Link). link.to)) (link_there s low) ∙ by (tree_link one.rows depths s)
    where
      by : (o : Option Link)
          → option_map (λ (link : Link). link.to) (option_map (placed_link alike.place) o) ≡ option_map alike.place (option_map (λ (link : Link). link.to) o)
      by None = refl
      by (Some link) = refl

  parent_low : (s p : ℕ) → s < length one.rows → parent one.rows depths s ≡ Some p → p < length one.rows
  parent_low s p low is = by (tree_link one.rows depths s) refl is
    where
      by : (o : Option Link) → tree_link one.rows depths s ≡ o → option_map (λ (link : Link). link.to) o ≡ Some p → p < length one.rows
      by None found to = absurd (none-some p to)
      by (Some link) found to =
          let within = found_keeps (λ (one_link : Link). get_or depths one_link.to 0 + 1 == get_or depths s 0)
          (λ (one_link : Link). nat_lt one_link.to (length one.rows)) (links_of one.rows s) link found (alike.one_is.within s low) in
          subst (λ (k : ℕ). k < length one.rows) (same_Some link.to p to) (ltb-true link.to (length one.rows) within)

  pub above_there : (hops s : ℕ) → s < length one.rows
      → above other.rows other_depths hops (alike.place s) ≡ option_map alike.place (above one.rows depths hops s)
  above_there zero s low = refl
  above_there (suc hops) s low =
      ap (option_and_then (above other.rows other_depths hops)) (parent_there s low)
      ∙ by (λ p within. above_there hops p within) (parent one.rows depths s) refl
    where
      by : ((p : ℕ) → p < length one.rows → above other.rows other_depths hops (alike.place p) ≡ option_map alike.place (above one.rows depths hops p))
          → (o : Option ℕ) → parent one.rows depths s ≡ o
          → option_and_then (above other.rows other_depths hops) (option_map alike.place o)
          ≡ option_map alike.place (option_and_then (above one.rows depths hops) o)
      by later None is = refl
      by later (Some p) is = later p (parent_low s p low is)

  pub above_low : (hops s t : ℕ) → s < length one.rows → above one.rows depths hops s ≡ Some t → t < length one.rows
  above_low zero s t low is = subst (λ (k : ℕ). k < length one.rows) (same_Some s t is) low
  above_low (suc hops) s t low is = by (λ p within more. above_low hops p t within more) (parent one.rows depths s) refl is
    where
      by : ((p : ℕ) → p < length one.rows → above one.rows depths hops p ≡ Some t → t < length one.rows)
          → (o : Option ℕ) → parent one.rows depths s ≡ o → option_and_then (above one.rows depths hops) o ≡ Some t → t < length one.rows
      by later None found more = absurd (none-some t more)
      by later (Some p) found more = later p (parent_low s p low found) more

  -- ---- what is below
  pub same_place : (a b : ℕ) → a < length one.rows → b < length one.rows → (alike.place a == alike.place b) ≡ (a == b)
  same_place a b al bl = by (a == b) refl
    where
      by : (test : Bool) → (a == b) ≡ test → (alike.place a == alike.place b) ≡ test
      by true is = eq-eqb (alike.place a) (alike.place b) (ap alike.place (eqb-true a b is))
      by false is = ne_eqb (alike.place a) (alike.place b) (λ same. eqb-false a b is (own_place one other a b alike al bl same))

  pub below_there : (s t : ℕ) → s < length one.rows → t < length one.rows
      → is_below other.rows other_depths (alike.place s) (alike.place t) ≡ is_below one.rows depths s t
  below_there s t sl tl =
      let here = deep s sl in
      let there = deep t tl in
      (λ i. option_map_or (λ top. top == alike.place s) (above other.rows other_depths (there i - here i) (alike.place t)) false)
      ∙ ap (λ (o : Option ℕ). option_map_or (λ top. top == alike.place s) o false) (above_there (get_or depths t 0 - get_or depths s 0) t tl)
      ∙ by (above one.rows depths (get_or depths t 0 - get_or depths s 0) t) refl
    where
      by : (o : Option ℕ) → above one.rows depths (get_or depths t 0 - get_or depths s 0) t ≡ o
          → option_map_or (λ top. top == alike.place s) (option_map alike.place o) false ≡ option_map_or (λ top. top == s) o false
      by None is = refl
      by (Some top) is = same_place top s (above_low (get_or depths t 0 - get_or depths s 0) t top tl is) sl

  -- of the switches next below one that which another is below
  pub child_there : (s t : ℕ) → s < length one.rows → t < length one.rows
      → above other.rows other_depths (get_or other_depths (alike.place t) 0 - get_or other_depths (alike.place s) 0 - 1) (alike.place t)
      ≡ option_map alike.place (above one.rows depths (get_or depths t 0 - get_or depths s 0 - 1) t)
  child_there s t sl tl =
      let here = deep s sl in
      let there = deep t tl in
      (λ i. above other.rows other_depths (there i - here i - 1) (alike.place t)) ∙ above_there (get_or depths t 0 - get_or depths s 0 - 1) t tl

pub trees_are_alike : TreesAreAlike
trees_are_alike one other roots depths other_depths s alike mine theirs low = link_there one other roots depths other_depths alike mine theirs s low
