-- What is so of a cabling is so of one whose switches stand in another order.
use Rattle.std.proofs.Common.{◌≡◌, ℕ, ◌-◌, ◌<◌, ◌≤◌, ◌⊎◌, Bool, true, false, if◌then◌else◌, not, ◌==◌, ◌&&◌, nat_le, nat_lt, List, [], ◌∷◌, get_or, length, map, slice_get}
use Rattle.std.proofs.Common.{Some, None, option_map, refl, sym, ap, subst, ◌∙◌, inl, inr, arith}
use Rattle.std.specs.List.{list_all, list_any}
use Rattle.std.proofs.lemmas.Bool.{and_parts, and_from, cases_lt, or_cases, or_left, or_right, eqb-true, eq-eqb, ltb-true, false≢true}
use Rattle.std.proofs.lemmas.List.{length-map}
use Rattle.std.proofs.lemmas.Option.{get_or_from_slice_get, none-some, slice_get-map, slice_get_within}
use Rattle.fabric_parts.specs.declared.cable.PortRef.{PortRef}
use Rattle.step_results.proofs.ListLemmas.{all_at, all_there}
use Rattle.step_results.proofs.TestLemmas.{same_and, same_or}
use Rattle.sweep.proofs.FoundLemmas.{all_by}
use Rattle.updn_routes.proofs.CablingLemmas.{some_of}
use Rattle.updn_routes.specs.Cabling.{is_next_to, is_walk, links_of}
use Rattle.updn_routes.specs.Order.{AreRanks, IsDistance, is_root, precedes}
use Rattle.updn_routes.specs.Places.{placed_link}
use Rattle.updn_routes.specs.Routes.{IsFirstUnreached, IsPair, LegalPath, carries, home_of}
use Rattle.updn_routes.specs.UpDown.{goes_down, is_down, is_legal, is_up}
use Rattle.updn_routes.specs.declared.link.Link.{Link}
use Rattle.updn_routes.specs.Alike.{AreAlike, IsLayout, IsPlacedIn, Layout, placed_home}
use Rattle.updn_routes.specs.OrderLaws.{LegalPathsAreAlike, NoneIsReachedAndRefused, OnePairIsRefused, RanksAreAlike}

-- what passes one test passes the other once it is changed
any_moved : {X : Type 0} (p q : X → Bool) (f : X → X) (xs : List X) → ((x : X) → p x ≡ true → q (f x) ≡ true)
    → list_any p xs ≡ true → list_any q (map f xs) ≡ true
any_moved p q f [] so any = absurd (false≢true any)
any_moved p q f (x ∷ xs) so any =
    elim (or_cases (p x) (list_any p xs) any) [
      | inl here ↦ or_left (q (f x)) (list_any q (map f xs)) (so x here)
      | inr later ↦ or_right (q (f x)) (list_any q (map f xs)) (any_moved p q f xs so later)
    ]

-- ---- from the one to the other
module _ (one other : Layout) (place : ℕ → ℕ) (is : IsLayout one) (to : IsPlacedIn one other place) where
  next_there : (s t : ℕ) → s < length one.rows → is_next_to one.rows s t ≡ true → is_next_to other.rows (place s) (place t) ≡ true
  next_there s t low next =
      subst (λ (row : List Link). list_any (λ link. link.to == place t) row ≡ true) (sym (to.links s low))
      (any_moved (λ link. link.to == t) (λ link. link.to == place t) (placed_link place) (links_of one.rows s)
      (λ link leads. eq-eqb (place link.to) (place t) (ap place (eqb-true link.to t leads))) next)

  next_low : (s t : ℕ) → s < length one.rows → is_next_to one.rows s t ≡ true → t < length one.rows
  next_low s t low next =
      let link = some_of (λ link. link.to == t) (λ link. nat_lt link.to (length one.rows)) (links_of one.rows s) (is.within s low) next in
      let same = eqb-true link.0.to t link.1.0 in
      let below = ltb-true link.0.to (length one.rows) link.1.1 in
      omega (arith, below, same)

  -- ---- walks
  walk_there : (s d : ℕ) (steps : List ℕ) → s < length one.rows → is_walk one.rows s steps d ≡ true
      → is_walk other.rows (place s) (map place steps) (place d) ≡ true
  walk_there s d [] low walk = eq-eqb (place s) (place d) (ap place (eqb-true s d walk))
  walk_there s d (t ∷ steps) low walk =
      let parts = and_parts (is_next_to one.rows s t) (is_walk one.rows t steps d) walk in
      and_from (is_next_to other.rows (place s) (place t)) _ (next_there s t low parts.0)
      (walk_there t d steps (next_low s t low parts.0) parts.1)

  end_low : (s d : ℕ) (steps : List ℕ) → s < length one.rows → is_walk one.rows s steps d ≡ true → d < length one.rows
  end_low s d [] low walk = subst (λ (k : ℕ). k < length one.rows) (eqb-true s d walk) low
  end_low s d (t ∷ steps) low walk =
      let parts = and_parts (is_next_to one.rows s t) (is_walk one.rows t steps d) walk in
      end_low t d steps (next_low s t low parts.0) parts.1

  -- no switch is further away there
  pub no_further : (passes too : ℕ → Bool) (s k m : ℕ) → ((d : ℕ) → d < length one.rows → passes d ≡ true → too (place d) ≡ true)
      → s < length one.rows → IsDistance one.rows passes s k → IsDistance other.rows too (place s) m → m ≤ k
  no_further passes too s k m so low near far =
      let d = near.some.0 in
      let steps = near.some.1 in
      let passing = so d (end_low s d steps low near.some.3) near.some.2 in
      let most = far.none_shorter (place d) (map place steps) passing (walk_there s d steps low near.some.3) in
      let long = length-map steps place in
      omega (arith, most, long, near.some.4)

  -- ---- an order that places keep
  module _ (before too : ℕ → ℕ → Bool)
      (same : (s t : ℕ) → s < length one.rows → t < length one.rows → too (place s) (place t) ≡ before s t) where
    down_same : (s d : ℕ) (steps : List ℕ) → s < length one.rows → is_walk one.rows s steps d ≡ true
        → goes_down too (place s) (map place steps) ≡ goes_down before s steps
    down_same s d [] low walk = refl
    down_same s d (t ∷ steps) low walk =
        let parts = and_parts (is_next_to one.rows s t) (is_walk one.rows t steps d) walk in
        let next = next_low s t low parts.0 in
        same_and (is_down too (place s) (place t)) (is_down before s t) _ _ (same s t low next) (down_same t d steps next parts.1)

    legal_same : (s d : ℕ) (steps : List ℕ) → s < length one.rows → is_walk one.rows s steps d ≡ true
        → is_legal too (place s) (map place steps) ≡ is_legal before s steps
    legal_same s d [] low walk = refl
    legal_same s d (t ∷ steps) low walk =
        let parts = and_parts (is_next_to one.rows s t) (is_walk one.rows t steps d) walk in
        let next = next_low s t low parts.0 in
        same_or _ _ _ _
        (same_and (is_up too (place s) (place t)) (is_up before s t) _ _ (same t s next low) (legal_same t d steps next parts.1))
        (down_same s d (t ∷ steps) low walk)

    path_there : (s d : ℕ) → s < length one.rows → LegalPath one.rows before s d → LegalPath other.rows too (place s) (place d)
    path_there s d low path =
        let parts = and_parts (is_walk one.rows s path.0 d) (is_legal before s path.0) path.1 in (
          map place path.0,
          and_from (is_walk other.rows (place s) (map place path.0) (place d)) _ (walk_there s d path.0 low parts.0)
              (legal_same s d path.0 low parts.0 ∙ parts.1),
        )

  -- ---- LIDs
  home_there : (lid : ℕ) (home : PortRef) → home_of one.homes lid ≡ Some home → home_of other.homes lid ≡ Some (placed_home place home)
  home_there lid home at =
      ap (λ (homes : List PortRef). home_of homes lid) to.homes ∙ by (lid == 0) at
    where
      by : (b : Bool) → (if b then None else slice_get one.homes (lid - 1)) ≡ Some home
          → (if b then None else slice_get (map (placed_home place) one.homes) (lid - 1)) ≡ Some (placed_home place home)
      by true at = absurd (none-some home at)
      by false at = slice_get-map (placed_home place) one.homes (lid - 1) ∙ ap (option_map (placed_home place)) at

  pub home_low : (lid : ℕ) (home : PortRef) → home_of one.homes lid ≡ Some home → home.node < length one.rows
  home_low lid home at = by (lid == 0) at
    where
      by : (b : Bool) → (if b then None else slice_get one.homes (lid - 1)) ≡ Some home → home.node < length one.rows
      by true at = absurd (none-some home at)
      by false at =
          ltb-true home.node (length one.rows) (all_there (λ home. nat_lt home.node (length one.rows)) one.homes (lid - 1) home is.hang at)

  carries_there : (s : ℕ) → carries one.homes s ≡ true → carries other.homes (place s) ≡ true
  carries_there s some =
      subst (λ (homes : List PortRef). carries homes (place s) ≡ true) (sym to.homes)
      (any_moved (λ home. not (home.port == 0) && (home.node == s)) (λ home. not (home.port == 0) && (home.node == place s))
      (placed_home place) one.homes
      (λ home on. let parts = and_parts (not (home.port == 0)) (home.node == s) on in
      and_from (not (home.port == 0)) _ parts.0 (eq-eqb (place home.node) (place s) (ap place (eqb-true home.node s parts.1)))) some)

  pair_there : (a b s d : ℕ) → IsPair one.homes a b s d → IsPair other.homes a b (place s) (place d)
  pair_there a b s d pair =
      record {
        port = pair.port;
        switch = home_there a (record { node = s; port = 0 }) pair.switch;
        carried = carries_there s pair.carried;
        adapter = home_there b (record { node = d; port = pair.port }) pair.adapter;
        is_port = pair.is_port;
      }

  pair_low : (a b s d : ℕ) → IsPair one.homes a b s d → (s < length one.rows) × (d < length one.rows)
  pair_low a b s d pair =
      (home_low a (record { node = s; port = 0 }) pair.switch, home_low b (record { node = d; port = pair.port }) pair.adapter)

-- ---- roots
all_guids : (one other : Layout) (back : ℕ → ℕ) (p : ℕ → Bool) → IsLayout one → IsLayout other → IsPlacedIn other one back
    → list_all p one.guids ≡ true → list_all p other.guids ≡ true
all_guids one other back p is too from all =
    all_by p other.guids (λ k x there.
    let within = slice_get_within other.guids k x there in
    let low : k < length other.rows = omega (arith, within, too.count) in
    let below = from.below k low in
    let same : get_or one.guids (back k) 0 ≡ x = from.guids k low ∙ get_or_from_slice_get other.guids k x 0 there in
    ap p (sym same) ∙ all_at p one.guids (back k) 0 all (omega (arith, below, is.count)))

pub root_there : (one other : Layout) (roots : List ℕ) (place back : ℕ → ℕ) (d : ℕ) → IsLayout one → IsLayout other
    → IsPlacedIn one other place → IsPlacedIn other one back → d < length one.rows
    → is_root one.guids roots d ≡ true → is_root other.guids roots (place d) ≡ true
root_there one other [] place back d is too to from low root =
    subst (λ (guid : ℕ). list_all (λ g. nat_le guid g) other.guids ≡ true) (sym (to.guids d low))
    (all_guids one other back (λ g. nat_le (get_or one.guids d 0) g) is too from root)
root_there one other (first ∷ named) place back d is too to from low root =
    subst (λ (guid : ℕ). list_any (λ g. g == guid) (first ∷ named) ≡ true) (sym (to.guids d low)) root

-- ---- both ways
abbrev pub flip : (one other : Layout) → AreAlike one other → AreAlike other one
flip one other alike =
    record {
      one_is = alike.other_is;
      other_is = alike.one_is;
      place = alike.back;
      back = alike.place;
      to_other = alike.to_one;
      to_one = alike.to_other;
      there_and_back = alike.back_and_there;
      back_and_there = alike.there_and_back;
    }

no_higher : (one other : Layout) (roots ranks other_ranks : List ℕ) (s : ℕ) → (alike : AreAlike one other)
    → AreRanks one.rows one.guids roots ranks → AreRanks other.rows other.guids roots other_ranks
    → s < length one.rows → get_or other_ranks (alike.place s) 0 ≤ get_or ranks s 0
no_higher one other roots ranks other_ranks s alike mine theirs low =
    no_further one other alike.place alike.one_is alike.to_other (is_root one.guids roots) (is_root other.guids roots) s (get_or ranks s 0)
    (get_or other_ranks (alike.place s) 0)
    (λ d below. root_there one other roots alike.place alike.back d alike.one_is alike.other_is alike.to_other alike.to_one below) low
    (mine.each s low) (theirs.each (alike.place s) (alike.to_other.below s low))

pub ranks_are_alike : RanksAreAlike
ranks_are_alike one other roots ranks other_ranks s alike mine theirs low =
    let one_way = no_higher one other roots ranks other_ranks s alike mine theirs low in
    let back_way : get_or ranks (alike.back (alike.place s)) 0 ≤ get_or other_ranks (alike.place s) 0 =
    no_higher other one roots other_ranks ranks (alike.place s) (flip one other alike) theirs mine (alike.to_other.below s low) in
    let same : get_or ranks (alike.back (alike.place s)) 0 ≡ get_or ranks s 0 = ap (λ (k : ℕ). get_or ranks k 0) (alike.there_and_back s low) in
    omega (arith, one_way, back_way, same)

pub order_same : (one other : Layout) (roots ranks other_ranks : List ℕ) → (alike : AreAlike one other)
    → AreRanks one.rows one.guids roots ranks → AreRanks other.rows other.guids roots other_ranks
    → (s t : ℕ) → s < length one.rows → t < length one.rows
    → precedes other_ranks other.guids (alike.place s) (alike.place t) ≡ precedes ranks one.guids s t
order_same one other roots ranks other_ranks alike mine theirs s t sl tl =
    let rank_s = ranks_are_alike one other roots ranks other_ranks s alike mine theirs sl in
    let rank_t = ranks_are_alike one other roots ranks other_ranks t alike mine theirs tl in
    rw (rank_s, rank_t, alike.to_other.guids s sl, alike.to_other.guids t tl) refl

pub legal_paths_are_alike : LegalPathsAreAlike
legal_paths_are_alike one other roots ranks other_ranks s d alike mine theirs low path =
    path_there one other alike.place alike.one_is alike.to_other (precedes ranks one.guids) (precedes other_ranks other.guids)
    (order_same one other roots ranks other_ranks alike mine theirs) s d low path

-- ---- pairs
pub none_is_reached_and_refused : NoneIsReachedAndRefused
none_is_reached_and_refused one other roots ranks a b alike refused theirs all =
    let first = refused.first in
    let low = pair_low one other alike.place alike.one_is alike.to_other a b first.s first.d first.pair in
    let path = all a b (alike.place first.s) (alike.place first.d)
    (pair_there one other alike.place alike.one_is alike.to_other a b first.s first.d first.pair) in
    let home : LegalPath one.rows (precedes refused.ranks one.guids) (alike.back (alike.place first.s)) (alike.back (alike.place first.d)) =
    legal_paths_are_alike other one roots ranks refused.ranks (alike.place first.s) (alike.place first.d) (flip one other alike) theirs
    refused.ranks_are (alike.to_other.below first.s low.0) path in
    let own : LegalPath one.rows (precedes refused.ranks one.guids) first.s first.d =
    rw (alike.there_and_back first.s low.0, alike.there_and_back first.d low.1) at home in
    false≢true (sym (first.gone own.0) ∙ own.1)

-- a pair of the other that comes before the first of the one has an up/down path
not_earlier : (one other : Layout) (roots ranks other_ranks : List ℕ) (a b c d : ℕ) → (alike : AreAlike one other)
    → AreRanks one.rows one.guids roots ranks → AreRanks other.rows other.guids roots other_ranks
    → IsFirstUnreached one.rows (precedes ranks one.guids) one.homes a b
    → IsFirstUnreached other.rows (precedes other_ranks other.guids) other.homes c d → (c < a) ⊎ ((c ≡ a) × (d < b)) → ⊥
not_earlier one other roots ranks other_ranks a b c d alike mine theirs first second less =
    let low = pair_low other one alike.back alike.other_is alike.to_one c d second.s second.d second.pair in
    let path = first.earlier c d (alike.back second.s) (alike.back second.d)
    (pair_there other one alike.back alike.other_is alike.to_one c d second.s second.d second.pair) less in
    let away : LegalPath other.rows (precedes other_ranks other.guids) (alike.place (alike.back second.s)) (alike.place (alike.back second.d)) =
    legal_paths_are_alike one other roots ranks other_ranks (alike.back second.s) (alike.back second.d) alike mine theirs
    (alike.to_one.below second.s low.0) path in
    let own : LegalPath other.rows (precedes other_ranks other.guids) second.s second.d =
    rw (alike.back_and_there second.s low.0, alike.back_and_there second.d low.1) at away in
    false≢true (sym (second.gone own.0) ∙ own.1)

pub one_pair_is_refused : OnePairIsRefused
one_pair_is_refused one other roots a b c d alike refused too = (switch, port)
  where
    later : (c < a) ⊎ ((c ≡ a) × (d < b)) → ⊥
    later less = not_earlier one other roots refused.ranks too.ranks a b c d alike refused.ranks_are too.ranks_are refused.first too.first less

    sooner : (a < c) ⊎ ((a ≡ c) × (b < d)) → ⊥
    sooner less =
        not_earlier other one roots too.ranks refused.ranks c d a b (flip one other alike) too.ranks_are refused.ranks_are
        too.first refused.first less

    switch : a ≡ c
    switch =
        elim (cases_lt a c) [
          | inl less ↦ absurd (sooner (inl less))
          | inr more ↦ elim (cases_lt c a) [ inl less ↦ absurd (later (inl less)) | inr least ↦ omega (arith, more, least) ]
        ]

    port : b ≡ d
    port =
        elim (cases_lt b d) [
          | inl less ↦ absurd (sooner (inr (switch, less)))
          | inr more ↦ elim (cases_lt d b) [ inl less ↦ absurd (later (inr (sym switch, less))) | inr least ↦ omega (arith, more, least) ]
        ]
