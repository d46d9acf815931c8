-- The registrations of a port in a group that some port joins.
use Rattle.std.proofs.Common.{ℕ, true, false, ◌==◌, nat_lt, List, [], ◌∷◌, map, filter, ◌≡◌, ◌∙◌, ap, refl, inl, inr, arith}
use Rattle.std.specs.List.{list_any}
use Rattle.std.proofs.lemmas.Bool.Decides.{nat_tests}
use Rattle.std.proofs.lemmas.Bool.{cases_Bool, eqb-true, eq-eqb}
use Rattle.std.proofs.lemmas.List.{append-nil}
use Rattle.std.proofs.lemmas.List.Elements.{filter-append}
use Rattle.step_results.proofs.FilterLemmas.{filter_map_absorbs, filter_map_same}
use Rattle.sa_model.proofs.DeedLemmas.{filter_within}
use Rattle.sa_model.specs.Groups.{Membership, lower_port}
use Rattle.sa_model.specs.Joining.{Join, in_place, is_of, more_joined, new_membership, with_member}
use Rattle.sa_model.specs.JoinState.{JoinState, with_bits}
use Rattle.sa_model.specs.Sound.{pairwise}
use Rattle.sa_model.proofs.InPlaceLemmas.{higher_ones, lower_ones}
use Rattle.sa_replies.specs.Registrations.{bits_held}
use Rattle.sa_replies.proofs.OneLemmas.{filter_none, found_passes, none_kept, one_membership}

abbrev pub states_of : ℕ → List Membership → List JoinState
states_of port memberships = map (λ membership. membership.join_state) (filter (is_of port) memberships)

module _ (join : Join) where
  -- ---- whose registration it is stays
  same_port : (port : ℕ) (membership : Membership) → is_of port (more_joined join membership) ≡ is_of port membership
  same_port port membership = elim (cases_Bool (is_of join.port membership)) [
    | inl this ↦ rw this refl
    | inr other ↦ rw other refl
  ]

  -- ---- another port
  module _ (port : ℕ) (other : (port == join.port) ≡ false) where
    not_its : (membership : Membership) → is_of port membership ≡ true → is_of join.port membership ≡ false
    not_its membership its = grind (arith, nat_tests, other, its)

    idle : (membership : Membership) → is_of port membership ≡ true → more_joined join membership ≡ membership
    idle membership its = rw (not_its membership its) refl

    new_is_other : is_of port (new_membership join) ≡ false
    new_is_other = grind (arith, nat_tests, other)

    apart : (a b : ℕ) → (a == b) ≡ false → nat_lt a b ≡ false → nat_lt b a ≡ true
    apart a b x y = grind (arith, nat_tests, x, y)

    below : nat_lt port join.port ≡ true → (x : Membership) → is_of port x ≡ true → lower_port x (new_membership join) ≡ true
    below low x its = rw (eqb-true x.port port its) low

    not_above : nat_lt port join.port ≡ true → (x : Membership) → lower_port (new_membership join) x ≡ true → is_of port x ≡ false
    not_above low x lower = grind (arith, nat_tests, low, lower)

    above : nat_lt port join.port ≡ false → (x : Membership) → is_of port x ≡ true → lower_port (new_membership join) x ≡ true
    above high x its = rw (eqb-true x.port port its) (apart port join.port other high)

    not_below : nat_lt port join.port ≡ false → (x : Membership) → lower_port x (new_membership join) ≡ true → is_of port x ≡ false
    not_below high x lower = grind (arith, nat_tests, high, lower)

    in_place_leaves : (memberships : List Membership)
        → filter (is_of port) (in_place (new_membership join) memberships) ≡ filter (is_of port) memberships
    in_place_leaves memberships =
        let new = new_membership join in
        let lower = lower_ones new memberships in
        let higher = higher_ones new memberships in
        filter-append (is_of port) lower (new ∷ higher) ∙ elim (cases_Bool (nat_lt port join.port)) [
          | inl low ↦
              let all : filter (is_of port) lower ≡ filter (is_of port) memberships = filter_within (is_of port) (λ m. lower_port m new) (below low) memberships in
              let none : filter (is_of port) higher ≡ [] = none_kept (is_of port) (λ m. lower_port new m) (not_above low) memberships in
              rw (new_is_other, all, none) (append-nil (filter (is_of port) memberships))
          | inr high ↦
              let none : filter (is_of port) lower ≡ [] = none_kept (is_of port) (λ m. lower_port m new) (not_below high) memberships in
              let all : filter (is_of port) higher ≡ filter (is_of port) memberships = filter_within (is_of port) (λ m. lower_port new m) (above high) memberships in
              rw (new_is_other, none, all) refl
        ]

    pub others_stay : (memberships : List Membership) → states_of port (with_member join memberships) ≡ states_of port memberships
    others_stay memberships = ap (map (λ (m : Membership). m.join_state)) (elim (cases_Bool (list_any (is_of join.port) memberships)) [
      | inl there ↦ rw there (filter_map_absorbs (is_of port) (more_joined join) (same_port port) idle memberships)
      | inr none ↦ rw none (in_place_leaves memberships)
    ])

  -- ---- its own
  itself : is_of join.port (new_membership join) ≡ true
  itself = eq-eqb join.port join.port refl

  not_higher : (x : Membership) → lower_port (new_membership join) x ≡ true → is_of join.port x ≡ false
  not_higher x lower = grind (arith, nat_tests, lower)

  not_lower : (x : Membership) → lower_port x (new_membership join) ≡ true → is_of join.port x ≡ false
  not_lower x lower = grind (arith, nat_tests, lower)

  new_alone : (memberships : List Membership)
      → filter (is_of join.port) (in_place (new_membership join) memberships) ≡ new_membership join ∷ []
  new_alone memberships =
      let new = new_membership join in
      let lower = lower_ones new memberships in
      let higher = higher_ones new memberships in
      let none : filter (is_of join.port) lower ≡ [] = none_kept (is_of join.port) (λ m. lower_port m new) not_lower memberships in
      let none_more : filter (is_of join.port) higher ≡ [] = none_kept (is_of join.port) (λ m. lower_port new m) not_higher memberships in
      filter-append (is_of join.port) lower (new ∷ higher) ∙ rw (none, itself, none_more) refl

  pub own_has_more : (memberships : List Membership) → pairwise lower_port memberships ≡ true
      → states_of join.port (with_member join memberships) ≡ with_bits join.join_state (bits_held (states_of join.port memberships)) ∷ []
  own_has_more memberships order = elim (cases_Bool (list_any (is_of join.port) memberships)) [
    | inl there ↦
        let found = one_membership join.port memberships order there in
        let its : is_of join.port found.one ≡ true = found_passes (is_of join.port) memberships found.one found.is in
        rw there
        (ap (map (λ (m : Membership). m.join_state)) (filter_map_same (is_of join.port) (more_joined join) (same_port join.port) memberships)
        ∙ rw (found.is, its) refl)
    | inr none ↦
        let before : filter (is_of join.port) memberships ≡ [] = filter_none (is_of join.port) memberships none in
        rw (none, before) (ap (map (λ (m : Membership). m.join_state)) (new_alone memberships))
  ]
