-- Ties: the ports in a row whose links are of a kind and lead to switches of one distance; and the one that a rule names.
use Rattle.std.proofs.Common.{◌≡◌, ℕ, zero, suc, ◌<◌, ◌≤◌, Bool, true, false, cond, ◌==◌, ◌&&◌, nat_lt, List, [], ◌∷◌, filter, length, map, slice_get}
use Rattle.std.proofs.Common.{Option, Some, refl, sym, ap, subst, ◌∙◌, inl, inr, arith}
use Rattle.std.specs.List.{list_all, list_any}
use Rattle.std.proofs.lemmas.Bool.{and_parts, and_from, cases_order, or_cases, or_left, or_right, eqb-true, eq-eqb, ltb-true, false≢true}
use Rattle.std.proofs.lemmas.Option.{same_Some}
use Rattle.sweep.proofs.FoundLemmas.{any_by}
use Rattle.sweep.proofs.RoundLemmas.{exactly}
use Rattle.sweep.specs.Rounds.{is_exactly}
use Rattle.updn_routes.specs.Cabling.{rises}
use Rattle.updn_routes.specs.Choice.{IsPickedOf, IsShortestOf, least_port}
use Rattle.updn_routes.specs.declared.link.Link.{Link}
use Rattle.updn_routes.proofs.CablingLemmas.{goes}

-- ---- lists that rise
abbrev pub is_in : List ℕ → ℕ → Bool
is_in xs x = list_any (λ y. y == x) xs

above : (x p : ℕ) (xs : List ℕ) → list_all (λ y. nat_lt x y) xs ≡ true → is_in xs p ≡ true → x < p
above x p [] all in_it = absurd (false≢true in_it)
above x p (y ∷ ys) all in_it =
    let parts = and_parts (nat_lt x y) (list_all (λ y. nat_lt x y) ys) all in
    elim (or_cases (y == p) (is_in ys p) in_it) [
      | inl here ↦ subst (λ (k : ℕ). x < k) (eqb-true y p here) (ltb-true x y parts.0)
      | inr later ↦ above x p ys parts.1 later
    ]

-- two that have the same numbers are one
pub one_rising : (xs ys : List ℕ) → rises xs ≡ true → rises ys ≡ true → ((p : ℕ) → is_in xs p ≡ true → is_in ys p ≡ true)
    → ((p : ℕ) → is_in ys p ≡ true → is_in xs p ≡ true) → xs ≡ ys
one_rising [] [] up_x up_y there back = refl
one_rising [] (y ∷ ys) up_x up_y there back = absurd (false≢true (back y (or_left (y == y) (is_in ys y) (eq-eqb y y refl))))
one_rising (x ∷ xs) [] up_x up_y there back = absurd (false≢true (there x (or_left (x == x) (is_in xs x) (eq-eqb x x refl))))
one_rising (x ∷ xs) (y ∷ ys) up_x up_y there back =
    elim (cases_order x y) [
      | inl same ↦ ap (λ k. k ∷ xs) same ∙ ap (λ rest. y ∷ rest) (one_rising xs ys x_parts.1 y_parts.1 (λ p has. on p has same) (λ p has. off p has same))
      | inr other ↦ elim other [
        | inl low ↦ absurd (elim (or_cases (y == x) (is_in ys x) (there x (or_left (x == x) (is_in xs x) (eq-eqb x x refl)))) [
          | inl here ↦ (let even = eqb-true y x here in let no_room : ⊥ = omega (arith, low, even) in no_room)
          | inr later ↦ (let past = above y x ys y_parts.0 later in let no_room : ⊥ = omega (arith, low, past) in no_room)
        ])
        | inr high ↦ absurd (elim (or_cases (x == y) (is_in xs y) (back y (or_left (y == y) (is_in ys y) (eq-eqb y y refl)))) [
          | inl here ↦ (let even = eqb-true x y here in let no_room : ⊥ = omega (arith, high, even) in no_room)
          | inr later ↦ (let past = above x y xs x_parts.0 later in let no_room : ⊥ = omega (arith, high, past) in no_room)
        ])
      ]
    ]
  where
    x_parts : (list_all (λ z. nat_lt x z) xs ≡ true) × (rises xs ≡ true)
    x_parts = and_parts (list_all (λ z. nat_lt x z) xs) (rises xs) up_x

    y_parts : (list_all (λ z. nat_lt y z) ys ≡ true) × (rises ys ≡ true)
    y_parts = and_parts (list_all (λ z. nat_lt y z) ys) (rises ys) up_y

    on : (p : ℕ) → is_in xs p ≡ true → x ≡ y → is_in ys p ≡ true
    on p has same =
        elim (or_cases (y == p) (is_in ys p) (there p (or_right (x == p) (is_in xs p) has))) [
          | inl here ↦ absurd (let past = above x p xs x_parts.0 has in let even = eqb-true y p here in let no_room : ⊥ = omega (arith, past, even, same) in no_room)
          | inr later ↦ later
        ]

    off : (p : ℕ) → is_in ys p ≡ true → x ≡ y → is_in xs p ≡ true
    off p has same =
        elim (or_cases (x == p) (is_in xs p) (back p (or_right (y == p) (is_in ys p) has))) [
          | inl here ↦ absurd (let past = above y p ys y_parts.0 has in let even = eqb-true x p here in let no_room : ⊥ = omega (arith, past, even, same) in no_room)
          | inr later ↦ later
        ]

-- ---- the port that a rule names
pub shortest_of : (pick : ℕ → ℕ) (is_way : ℕ → List ℕ → Bool) (port : ℕ) → IsPickedOf pick is_way port → IsShortestOf is_way port
shortest_of pick is_way port picked =
    picked.are.each port (any_by (λ tie. tie == port) picked.ties (pick (length picked.ties)) port picked.picked (eq-eqb port port refl))

-- a shortest way of the one kind begins by each port by which one of the other does: then one port is named
pub one_picked : (pick too : ℕ → ℕ) (w v : ℕ → List ℕ → Bool) → ((ties : ℕ) → pick ties ≡ too ties)
    → ((p : ℕ) → IsShortestOf w p → IsShortestOf v p) → ((p : ℕ) → IsShortestOf v p → IsShortestOf w p)
    → (p q : ℕ) → IsPickedOf pick w p → IsPickedOf too v q → ◌≡◌ {A = Option ℕ} (Some p) (Some q)
one_picked pick too w v agree there back p q one other =
    let same = one_rising one.ties other.ties one.are.rising other.are.rising
    (λ port has. other.are.all port (there port (one.are.each port has)))
    (λ port has. one.are.all port (back port (other.are.each port has))) in
    sym one.picked ∙ ap (slice_get one.ties) (agree (length one.ties)) ∙ ap (λ (ties : List ℕ). slice_get ties (too (length ties))) same ∙ other.picked

-- ---- in a row
module _ (kind : ℕ → Bool) (far : ℕ → Option ℕ) (k : ℕ) where
  abbrev pub passes : Link → Bool
  passes link = kind link.to && is_exactly (far link.to) k

  abbrev pub ties_in : List Link → List ℕ
  ties_in row = map (λ link. link.port) (filter passes row)

  abbrev ports : List Link → List ℕ
  ports row = map (λ link. link.port) row

  all_kept : (x : ℕ) (row : List Link) → list_all (λ y. nat_lt x y) (ports row) ≡ true → list_all (λ y. nat_lt x y) (ties_in row) ≡ true
  all_kept x [] all = refl
  all_kept x (link ∷ row) all =
      let parts = and_parts (nat_lt x link.port) (list_all (λ y. nat_lt x y) (ports row)) all in
      by (passes link) refl parts.0 (all_kept x row parts.1)
    where
      by : (b : Bool) → passes link ≡ b → nat_lt x link.port ≡ true → list_all (λ y. nat_lt x y) (ties_in row) ≡ true
          → list_all (λ y. nat_lt x y) (ports (cond b (link ∷ filter passes row) (filter passes row))) ≡ true
      by true e low more = and_from (nat_lt x link.port) _ low more
      by false e low more = more

  pub ties_rise : (row : List Link) → rises (ports row) ≡ true → rises (ties_in row) ≡ true
  ties_rise [] up = refl
  ties_rise (link ∷ row) up =
      let parts = and_parts (list_all (λ y. nat_lt link.port y) (ports row)) (rises (ports row)) up in
      by (passes link) refl (all_kept link.port row parts.0) (ties_rise row parts.1)
    where
      by : (b : Bool) → passes link ≡ b → list_all (λ y. nat_lt link.port y) (ties_in row) ≡ true → rises (ties_in row) ≡ true
          → rises (ports (cond b (link ∷ filter passes row) (filter passes row))) ≡ true
      by true e low more = and_from (list_all (λ y. nat_lt link.port y) (ties_in row)) (rises (ties_in row)) low more
      by false e low more = more

  -- each leads to a switch of that kind at that distance
  pub record LeadsTo (row : List Link) (q : ℕ) : Type 0 where
    pub to : ℕ
    pub out : list_any (goes q to) row ≡ true
    pub fits : kind to ≡ true
    pub at : far to ≡ Some k

  pub tie_leads : (row : List Link) (q : ℕ) → is_in (ties_in row) q ≡ true → LeadsTo row q
  tie_leads [] q has = absurd (false≢true has)
  tie_leads (link ∷ row) q has = by (passes link) refl has (λ more. later (tie_leads row q more))
    where
      later : LeadsTo row q → LeadsTo (link ∷ row) q
      later leads = record { to = leads.to; out = or_right (goes q leads.to link) _ leads.out; fits = leads.fits; at = leads.at }

      by : (b : Bool) → passes link ≡ b → is_in (ports (cond b (link ∷ filter passes row) (filter passes row))) q ≡ true
          → (is_in (ties_in row) q ≡ true → LeadsTo (link ∷ row) q) → LeadsTo (link ∷ row) q
      by false e has on = on has
      by true e has on =
          elim (or_cases (link.port == q) (is_in (ties_in row) q) has) [
            | inl here ↦
                (let parts = and_parts (kind link.to) (is_exactly (far link.to) k) e in
                record {
                  to = link.to;
                  out = or_left (goes q link.to link) _ (and_from (link.port == q) (link.to == link.to) here (eq-eqb link.to link.to refl));
                  fits = parts.0;
                  at = exactly (far link.to) k parts.1;
                })
            | inr more ↦ on more
          ]

  -- and each port that does is there
  pub leads_tie : (row : List Link) (q t : ℕ) → list_any (goes q t) row ≡ true → kind t ≡ true → far t ≡ Some k → is_in (ties_in row) q ≡ true
  leads_tie [] q t way fits at = absurd (false≢true way)
  leads_tie (link ∷ row) q t way fits at = by (passes link) refl (λ more. leads_tie row q t more fits at)
    where
      passing : goes q t link ≡ true → passes link ≡ true
      passing here =
          let same = eqb-true link.to t (and_parts (link.port == q) (link.to == t) here).1 in
          and_from (kind link.to) _ (subst (λ (v : ℕ). kind v ≡ true) (sym same) fits)
          (ap (λ (v : ℕ). is_exactly (far v) k) same ∙ (ap (λ (o : Option ℕ). is_exactly o k) at ∙ eq-eqb k k refl))

      by : (b : Bool) → passes link ≡ b → (list_any (goes q t) row ≡ true → is_in (ties_in row) q ≡ true)
          → is_in (ports (cond b (link ∷ filter passes row) (filter passes row))) q ≡ true
      by true e later =
          elim (or_cases (goes q t link) (list_any (goes q t) row) way) [
            | inl here ↦ or_left (link.port == q) _ (and_parts (link.port == q) (link.to == t) here).0
            | inr more ↦ or_right (link.port == q) _ (later more)
          ]
      by false e later =
          elim (or_cases (goes q t link) (list_any (goes q t) row) way) [
            | inl here ↦ absurd (false≢true (sym e ∙ passing here))
            | inr more ↦ later more
          ]

-- the first of those that rise is one that no other is below
pub first_is : (xs : List ℕ) (p : ℕ) → rises xs ≡ true → is_in xs p ≡ true → ((q : ℕ) → is_in xs q ≡ true → p ≤ q)
    → slice_get xs 0 ≡ Some p
first_is [] p up has least = absurd (false≢true has)
first_is (x ∷ xs) p up has least =
    let low = least x (or_left (x == x) (is_in xs x) (eq-eqb x x refl)) in
    elim (or_cases (x == p) (is_in xs p) has) [
      | inl here ↦ ap Some (eqb-true x p here)
      | inr later ↦ absurd (let past = above x p xs (and_parts (list_all (λ y. nat_lt x y) xs) (rises xs) up).0 later in let no_room : ⊥ = omega (arith, low, past) in no_room)
    ]

-- of some there is one in each place below their number
pub some_at : (xs : List ℕ) (i : ℕ) → i < length xs → (p : ℕ) × (slice_get xs i ≡ Some p)
some_at [] i less = absurd (let no_room : ⊥ = omega (arith, less) in no_room)
some_at (x ∷ xs) zero less = (x, refl)
some_at (x ∷ xs) (suc i) less = some_at xs i (omega (arith, less))

pub not_empty : (xs : List ℕ) (p : ℕ) → is_in xs p ≡ true → 0 < length xs
not_empty [] p has = absurd (false≢true has)
not_empty (x ∷ xs) p has = omega arith

-- by the rule of the least port no other is less
pub least_of : (is_way : ℕ → List ℕ → Bool) (port : ℕ) → IsPickedOf (least_port 0) is_way port → (other : ℕ) → IsShortestOf is_way other → port ≤ other
least_of is_way port picked other best = by picked.ties picked.are.rising picked.picked (picked.are.all other best)
  where
    by : (ties : List ℕ) → rises ties ≡ true → slice_get ties 0 ≡ Some port → is_in ties other ≡ true → port ≤ other
    by [] up first has = absurd (false≢true has)
    by (tie ∷ ties) up first has =
        let same : tie ≡ port = same_Some tie port first in
        elim (or_cases (tie == other) (is_in ties other) has) [
          | inl here ↦ (let even = eqb-true tie other here in omega (arith, same, even))
          | inr later ↦ (let past = above tie other ties (and_parts (list_all (λ y. nat_lt tie y) ties) (rises ties) up).0 later in omega (arith, same, past))
        ]
