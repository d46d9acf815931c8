-- The spanning tree does not depend on the order in which switches stand: the port by which each sends along it is one.
use Rattle.std.proofs.Common.{ℕ, zero, suc, ◌+◌, ◌-◌, ◌<◌, ◌≡◌, ◌==◌, ◌∙◌, nat_lt, ap, refl, sym, subst, Bool, true, false, cond, List, [], ◌∷◌, find, get_or, length, map, Option, Some, None, option_map, arith}
use Rattle.std.specs.List.{list_all}
use Rattle.std.specs.Option.{option_and_then, option_map_or}
use Rattle.std.proofs.Math.Bool.{or-false}
use Rattle.std.proofs.lemmas.Bool.{and_parts, eqb-false, eqb-true, eq-eqb, ltb-true, ne_eqb}
use Rattle.std.proofs.lemmas.Option.{none-some, same_Some}
use Rattle.updn_routes.proofs.AlikeLemmas.{ranks_are_alike}
use Rattle.updn_routes.specs.Alike.{AreAlike, Layout}
use Rattle.updn_routes.specs.Cabling.{links_of}
use Rattle.updn_routes.specs.Order.{AreDistances, AreRanks, is_first_root, is_root}
use Rattle.updn_routes.specs.Places.{placed_link}
use Rattle.updn_routes.specs.Sides.{above, is_below, parent}
use Rattle.updn_routes.specs.Tree.{AreDepths, tree_link, tree_port}
use Rattle.updn_routes.specs.declared.link.Link.{Link}

-- ---- lists
-- what is found by a test, of elements that all pass another, passes both
found_good : {X : Type 0} (p good : X → Bool) (xs : List X) (x : X) → list_all good xs ≡ true → find p xs ≡ Some x → good x ≡ true
found_good p good [] x all found = absurd (none-some x found)
found_good p good (y ∷ xs) x all found = by (p y) found (λ later. found_good p good xs x parts.1 later)
  where
    parts : (good y ≡ true) × (list_all good xs ≡ true)
    parts = and_parts (good y) _ all

    by : (b : Bool) → cond b (Some y) (find p xs) ≡ Some x → (find p xs ≡ Some x → good x ≡ true) → good x ≡ true
    by true is later = ap good (sym (same_Some y x is)) ∙ parts.0
    by false is later = later is

found_moved : {X : Type 0} (p q good : X → Bool) (f : X → X) (xs : List X) → list_all good xs ≡ true → ((x : X) → good x ≡ true → q (f x) ≡ p x)
    → find q (map f xs) ≡ option_map f (find p xs)
found_moved p q good f [] all same = refl
found_moved p q good f (x ∷ xs) all same =
    ap (λ (b : Bool). cond b (Some (f x)) (find q (map f xs))) (same x parts.0) ∙ by (p x) (found_moved p q good f xs parts.1 same)
  where
    parts : (good x ≡ true) × (list_all good xs ≡ true)
    parts = and_parts (good x) _ all

    by : (b : Bool) → find q (map f xs) ≡ option_map f (find p xs)
        → cond b (Some (f x)) (find q (map f xs)) ≡ option_map f (cond b (Some x) (find p xs))
    by true rest = refl
    by false rest = rest

-- ---- depths are distances from the one root that is named first
first_of : List ℕ → List ℕ
first_of [] = []
first_of (first ∷ named) = first ∷ []

as_ranks : (one : Layout) (roots depths : List ℕ) → AreDepths one.rows one.guids roots depths → AreRanks one.rows one.guids (first_of roots) depths
unfolding first_of
as_ranks one [] depths are = are
as_ranks one (first ∷ named) depths are =
    let same : is_first_root one.guids (first ∷ named) ≡ is_root one.guids (first ∷ []) =
    λ i s. sym (or-false (first == get_or one.guids s 0)) i in
    subst (λ (passes : ℕ → Bool). AreDistances one.rows passes depths) same are

pub depths_are_alike : (one other : Layout) (roots depths too : List ℕ) (s : ℕ) → (alike : AreAlike one other) → AreDepths one.rows one.guids roots depths
    → AreDepths other.rows other.guids roots too → s < length one.rows → get_or too (alike.place s) 0 ≡ get_or depths s 0
depths_are_alike one other roots depths too s alike mine theirs low =
    ranks_are_alike one other (first_of roots) depths too s alike (as_ranks one roots depths mine) (as_ranks other roots too theirs) low

-- ---- up the tree
module _ (one other : Layout) (alike : AreAlike one other) (depths too : List ℕ)
    (deep : (s : ℕ) → s < length one.rows → get_or too (alike.place s) 0 ≡ get_or depths s 0) where
  abbrev place : ℕ → ℕ
  place = alike.place

  abbrev is_low : Link → Bool
  is_low link = nat_lt link.to (length one.rows)

  link_moved : (s : ℕ) → s < length one.rows → tree_link other.rows too (place s) ≡ option_map (placed_link place) (tree_link one.rows depths s)
  link_moved s low =
      ap (find (λ (link : Link). get_or too link.to 0 + 1 == get_or too (place s) 0)) (alike.to_other.links s low)
      ∙ found_moved (λ link. get_or depths link.to 0 + 1 == get_or depths s 0) (λ link. get_or too link.to 0 + 1 == get_or too (place s) 0) is_low
      (placed_link place) (links_of one.rows s) (alike.one_is.within s low)
      (λ link below. (λ i. deep link.to (ltb-true link.to (length one.rows) below) i + 1 == deep s low i))

  pub port_moved : (s : ℕ) → s < length one.rows → tree_port other.rows too (place s) ≡ tree_port one.rows depths s
  port_moved s low = ap (option_map (λ (link : Link). link.port)) (link_moved s low) ∙ by (tree_link one.rows depths s)
    where
      by : (o : Option Link) → option_map (λ (link : Link). link.port) (option_map (placed_link place) o) ≡ option_map (λ link. link.port) o
      by None = refl
      by (Some link) = refl

  parent_moved : (s : ℕ) → s < length one.rows → parent other.rows too (place s) ≡ option_map place (parent one.rows depths s)
  parent_moved s low = ap (option_map (λ (link : Link). link.to)) (link_moved s low) ∙ by (tree_link one.rows depths s)
    where
      by : (o : Option Link) → option_map (λ (link : Link). link.to) (option_map (placed_link place) o) ≡ option_map place (option_map (λ link. link.to) o)
      by None = refl
      by (Some link) = refl

  parent_low : (s q : ℕ) → s < length one.rows → parent one.rows depths s ≡ Some q → q < length one.rows
  parent_low s q low is = by (tree_link one.rows depths s) refl is
    where
      by : (o : Option Link) → tree_link one.rows depths s ≡ o → option_map (λ link. link.to) o ≡ Some q → q < length one.rows
      by None found is = absurd (none-some q is)
      by (Some link) found is =
          let below = ltb-true link.to (length one.rows)
          (found_good (λ link. get_or depths link.to 0 + 1 == get_or depths s 0) is_low (links_of one.rows s) link (alike.one_is.within s low) found) in
          let same = same_Some link.to q is in
          omega (arith, below, same)

  above_moved : (hops t : ℕ) → t < length one.rows → above other.rows too hops (place t) ≡ option_map place (above one.rows depths hops t)
  above_moved zero t low = refl
  above_moved (suc hops) t low =
      ap (option_and_then (above other.rows too hops)) (parent_moved t low)
      ∙ by (parent one.rows depths t) refl (λ q below. above_moved hops q below)
    where
      by : (o : Option ℕ) → parent one.rows depths t ≡ o
          → ((q : ℕ) → q < length one.rows → above other.rows too hops (place q) ≡ option_map place (above one.rows depths hops q))
          → option_and_then (above other.rows too hops) (option_map place o) ≡ option_map place (option_and_then (above one.rows depths hops) o)
      by None is more = refl
      by (Some q) is more = more q (parent_low t q low is)

  above_low : (hops t q : ℕ) → t < length one.rows → above one.rows depths hops t ≡ Some q → q < length one.rows
  above_low zero t q low is = subst (λ (k : ℕ). k < length one.rows) (same_Some t q is) low
  above_low (suc hops) t q low is = by (parent one.rows depths t) refl is (λ r below at. above_low hops r q below at)
    where
      by : (o : Option ℕ) → parent one.rows depths t ≡ o → option_and_then (above one.rows depths hops) o ≡ Some q
          → ((r : ℕ) → r < length one.rows → above one.rows depths hops r ≡ Some q → q < length one.rows) → q < length one.rows
      by None at is more = absurd (none-some q is)
      by (Some r) at is more = more r (parent_low t r low at) is

  pub same_place : (s t : ℕ) → s < length one.rows → t < length one.rows → (place s == place t) ≡ (s == t)
  same_place s t sl tl = by (s == t) refl
    where
      by : (b : Bool) → (s == t) ≡ b → (place s == place t) ≡ b
      by true same = eq-eqb (place s) (place t) (ap place (eqb-true s t same))
      by false apart =
          ne_eqb (place s) (place t)
          (λ same. eqb-false s t apart (sym (alike.there_and_back s sl) ∙ ap alike.back same ∙ alike.there_and_back t tl))

  pub below_moved : (s t : ℕ) → s < length one.rows → t < length one.rows
      → is_below other.rows too (place s) (place t) ≡ is_below one.rows depths s t
  below_moved s t sl tl =
      (λ i. option_map_or (λ top. top == place s) (above other.rows too (deep t tl i - deep s sl i) (place t)) false)
      ∙ ap (λ (o : Option ℕ). option_map_or (λ top. top == place s) o false) (above_moved (get_or depths t 0 - get_or depths s 0) t tl)
      ∙ by (above one.rows depths (get_or depths t 0 - get_or depths s 0) t) refl
    where
      by : (o : Option ℕ) → above one.rows depths (get_or depths t 0 - get_or depths s 0) t ≡ o
          → option_map_or (λ top. top == place s) (option_map place o) false ≡ option_map_or (λ top. top == s) o false
      by None is = refl
      by (Some q) is = same_place q s (above_low (get_or depths t 0 - get_or depths s 0) t q tl is) sl

  pub child_moved : (s t : ℕ) → s < length one.rows → t < length one.rows
      → above other.rows too (get_or too (place t) 0 - get_or too (place s) 0 - 1) (place t)
      ≡ option_map place (above one.rows depths (get_or depths t 0 - get_or depths s 0 - 1) t)
  child_moved s t sl tl =
      (λ i. above other.rows too (deep t tl i - deep s sl i - 1) (place t)) ∙ above_moved (get_or depths t 0 - get_or depths s 0 - 1) t tl

  pub child_low : (s t c : ℕ) → t < length one.rows → above one.rows depths (get_or depths t 0 - get_or depths s 0 - 1) t ≡ Some c → c < length one.rows
  child_low s t c tl is = above_low (get_or depths t 0 - get_or depths s 0 - 1) t c tl is
