-- Rows of links: what one port leads to, and where links end.
use Rattle.std.proofs.Common.{◌≡◌, ℕ, ◌<◌, Bool, true, false, not, ◌==◌, ◌&&◌, nat_lt, List, [], ◌∷◌, map, length, refl, sym, ap, subst, ◌∙◌, inl, inr, arith}
use Rattle.std.specs.List.{list_all, list_any}
use Rattle.std.proofs.lemmas.Bool.{and_parts, and_from, or_cases, or_left, or_right, cases_lt, eqb-true, eqb-false, eq-eqb, ne_eqb, ltb-true, false≢true, not-true}
use Rattle.std.proofs.lemmas.List.{get_or_past}
use Rattle.step_results.proofs.ListLemmas.{list_all_weaker, list_any_weaker}
use Rattle.sweep.proofs.JoinedLemmas.{at_each}
use Rattle.updn_routes.specs.declared.link.Link.{Link}
use Rattle.updn_routes.specs.Cabling.{is_cabling, is_next_to, is_row, leads, links_of, rises}

-- ---- lists
-- an element that passes a test passes what all that pass it do
pub some_of : {X : Type 0} (p q : X → Bool) (xs : List X) → list_all q xs ≡ true → list_any p xs ≡ true
    → (x : X) × ((p x ≡ true) × (q x ≡ true))
some_of p q [] all h = absurd (false≢true h)
some_of p q (x ∷ xs) all h =
    let parts = and_parts (q x) (list_all q xs) all in
    elim (or_cases (p x) (list_any p xs) h) [ inl here ↦ (x, (here, parts.0)) | inr later ↦ some_of p q xs parts.1 later ]

-- ---- ports
-- the port of one link among these
abbrev pub goes : ℕ → ℕ → Link → Bool
goes port t link = (link.port == port) && (link.to == t)

pub later_port : (x port t : ℕ) (row : List Link) → list_all (λ y. nat_lt x y) (map (λ link. link.port) row) ≡ true
    → list_any (goes port t) row ≡ true → x < port
later_port x port t [] all h = absurd (false≢true h)
later_port x port t (link ∷ row) all h =
    let parts = and_parts (nat_lt x link.port) _ all in
    elim (or_cases (goes port t link) (list_any (goes port t) row) h) [
      | inl here ↦ subst (λ (k : ℕ). x < k) (eqb-true link.port port (and_parts (link.port == port) (link.to == t) here).0) (ltb-true x link.port parts.0)
      | inr later ↦ later_port x port t row parts.1 later
    ]

one_in : (port t u : ℕ) (row : List Link) → rises (map (λ link. link.port) row) ≡ true
    → list_any (goes port t) row ≡ true → list_any (goes port u) row ≡ true → t ≡ u
one_in port t u [] up h k = absurd (false≢true h)
one_in port t u (link ∷ row) up h k =
    let parts = and_parts (list_all (λ y. nat_lt link.port y) (map (λ link. link.port) row)) _ up in
    elim (or_cases (goes port t link) (list_any (goes port t) row) h) [
      | inl here ↦ let one = and_parts (link.port == port) (link.to == t) here in
          elim (or_cases (goes port u link) (list_any (goes port u) row) k) [
            | inl too ↦ let other = and_parts (link.port == port) (link.to == u) too in sym (eqb-true link.to t one.1) ∙ eqb-true link.to u other.1
            | inr later ↦ let past = later_port link.port port u row parts.0 later in absurd (let same = eqb-true link.port port one.0 in omega (arith, past, same))
          ]
      | inr later ↦
          elim (or_cases (goes port u link) (list_any (goes port u) row) k) [
            | inl too ↦ let past = later_port link.port port t row parts.0 later in
                absurd (let same =
                eqb-true link.port port (and_parts (link.port == port) (link.to == u) too).0 in omega (arith, past, same))
            | inr both ↦ one_in port t u row parts.1 later both
          ]
    ]

row_of : (rows : List (List Link)) (s : ℕ) → is_cabling rows ≡ true → s < length rows
    → is_row (length rows) s (links_of rows s) ≡ true
row_of rows s cabling less =
    at_each (λ s. is_row (length rows) s (links_of rows s)) 0 (length rows) s cabling (omega arith) (omega (arith, less))

pub row_rises : (rows : List (List Link)) (s : ℕ) → is_cabling rows ≡ true → s < length rows
    → rises (map (λ link. link.port) (links_of rows s)) ≡ true
row_rises rows s cabling less =
    (and_parts (rises (map (λ link. link.port) (links_of rows s))) _ (row_of rows s cabling less)).0

pub links_within : (rows : List (List Link)) (s : ℕ) → is_cabling rows ≡ true → s < length rows
    → list_all (λ link. nat_lt link.to (length rows)) (links_of rows s) ≡ true
links_within rows s cabling less =
    list_all_weaker (λ link. nat_lt link.to (length rows) && not (link.to == s)) (λ link. nat_lt link.to (length rows))
    (λ link h. (and_parts (nat_lt link.to (length rows)) (not (link.to == s)) h).0) (links_of rows s)
    (and_parts (rises (map (λ link. link.port) (links_of rows s))) _ (row_of rows s cabling less)).1

-- a port leads to one switch
pub one_end : (rows : List (List Link)) (s port t u : ℕ) → is_cabling rows ≡ true → s < length rows
    → leads rows s port t ≡ true → leads rows s port u ≡ true → t ≡ u
one_end rows s port t u cabling less h k =
    one_in port t u (links_of rows s) (row_rises rows s cabling less) h k

-- to another one
pub ends : (rows : List (List Link)) (s t : ℕ) → is_cabling rows ≡ true → s < length rows → is_next_to rows s t ≡ true
    → (t < length rows) × ((s == t) ≡ false)
ends rows s t cabling less h =
    let all = and_parts (rises (map (λ link. link.port) (links_of rows s))) _ (row_of rows s cabling less) in
    let link = some_of (λ link. link.to == t) (λ link. nat_lt link.to (length rows) && not (link.to == s)) (links_of rows s) all.1 h in
    let parts = and_parts (nat_lt link.0.to (length rows)) (not (link.0.to == s)) link.1.1 in
    let same = eqb-true link.0.to t link.1.0 in
    let below = ltb-true link.0.to (length rows) parts.0 in
    let other = eqb-false link.0.to s (not-true (link.0.to == s) parts.1) in
    (omega (arith, below, same), ne_eqb s t (λ e. other (same ∙ sym e)))

-- ---- next to one another
-- what leads somewhere is a switch
pub leads_there : (rows : List (List Link)) (s port t : ℕ) → leads rows s port t ≡ true → s < length rows
leads_there rows s port t h =
    elim (cases_lt s (length rows)) [
      | inl less ↦ less
      | inr past ↦ absurd (false≢true (ap (λ (row : List Link). list_any (goes port t) row) (sym (get_or_past rows s [] past)) ∙ h))
    ]

pub leads_next : (rows : List (List Link)) (s port t : ℕ) → leads rows s port t ≡ true → is_next_to rows s t ≡ true
leads_next rows s port t h =
    list_any_weaker (goes port t) (λ link. link.to == t) (λ link is. (and_parts (link.port == port) (link.to == t) is).1) (links_of rows s) h

pub next_leads : (rows : List (List Link)) (s t : ℕ) → is_next_to rows s t ≡ true
    → (port : ℕ) × (leads rows s port t ≡ true)
next_leads rows s t h = from (links_of rows s) h
  where
    from : (row : List Link) → list_any (λ link. link.to == t) row ≡ true
        → (port : ℕ) × (list_any (goes port t) row ≡ true)
    from [] h = absurd (false≢true h)
    from (link ∷ row) h =
        elim (or_cases (link.to == t) (list_any (λ link. link.to == t) row) h) [
          | inl here ↦ (link.port, or_left (goes link.port t link) _ (and_from (link.port == link.port) (link.to == t) (eq-eqb link.port link.port refl) here))
          | inr later ↦ let found = from row later in (found.0, or_right (goes found.0 t link) _ found.1)
        ]
