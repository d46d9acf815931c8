-- What rows report when a place is added or written.
use Rattle.std.proofs.Common.{ℕ, ◌≡◌, ◌<◌, ◌==◌, ◌&&◌, ◌∙◌, ap, refl, sym, cond, get_or, Bool, true, false, List, length, slice_get, slice_set, Option, Some, None, ◌≤◌, nat_lt, ◌⊎◌, inl, inr}
use Rattle.std.specs.Option.{option_and_then}
use Rattle.std.proofs.lemmas.Bool.{eqb-true, eq-eqb}
use Rattle.std.proofs.lemmas.Option.{slice_get-get_or, slice_get_cases}
use Rattle.step_results.proofs.ElementLemmas.{get_other, get_written}
use Rattle.fabric_parts.specs.declared.cable.PortRef.{PortRef}
use Rattle.fabric_parts.specs.Cable.{is_same_port}
use Rattle.fabric_wire.specs.Cabling.{has_place}
use Rattle.fabric_wire.specs.Rows.{far_in, far_in_row}

-- ---- with a row written
abbrev Reported : Option (List (Option PortRef)) → ℕ → Option PortRef
Reported found number = option_and_then (λ row. far_in_row row number) found

by_place : (rows : List (List (Option PortRef))) (here : PortRef) (far : Option PortRef) (port : PortRef) (old new : List (Option PortRef)) (b : Bool) → (here.node == port.node) ≡ b
    → slice_get rows here.node ≡ Some old → far_in_row new port.port ≡ cond (here.port == port.port) far (far_in_row old port.port)
    → far_in (slice_set rows here.node new) port ≡ cond (b && (here.port == port.port)) far (far_in rows port)
by_place rows here far port old new true same was is =
    let there : slice_get rows port.node ≡ Some old = ap (slice_get rows) (sym (eqb-true here.node port.node same)) ∙ was in
    let now : slice_get (slice_set rows here.node new) port.node ≡ Some new =
    ap (slice_get (slice_set rows here.node new)) (sym (eqb-true here.node port.node same)) ∙ get_written rows here.node new old was in
    rw (now, there) is
by_place rows here far port old new false other was is =
    ap (λ (found : Option (List (Option PortRef))). Reported found port.port)
    (get_other rows here.node port.node new (λ same. let both = eq-eqb here.node port.node (sym same) in let clash = sym other ∙ both in cc))

pub rows_put : (rows : List (List (Option PortRef))) (here : PortRef) (far : Option PortRef) (old new : List (Option PortRef)) → here.node < length rows
    → old ≡ get_or rows here.node old → ((k : ℕ) → far_in_row new k ≡ cond (here.port == k) far (far_in_row old k))
    → (port : PortRef) → far_in (slice_set rows here.node new) port ≡ cond (is_same_port here port) far (far_in rows port)
rows_put rows here far old new within was is port =
    by_place rows here far port old new (here.node == port.node) refl
    (slice_get-get_or rows here.node old within ∙ ap (λ (row : List (Option PortRef)). Some row) (sym was)) (is port.port)

-- ---- places
-- and with one as long as it was, none gets one
alike_by : (rows : List (List (Option PortRef))) (here port : PortRef) (old new : List (Option PortRef)) (b : Bool) → (here.node == port.node) ≡ b
    → slice_get rows here.node ≡ Some old → length new ≡ length old → has_place (slice_set rows here.node new) port ≡ has_place rows port
alike_by rows here port old new true same was long =
    let there : slice_get rows port.node ≡ Some old = ap (slice_get rows) (sym (eqb-true here.node port.node same)) ∙ was in
    let now : slice_get (slice_set rows here.node new) port.node ≡ Some new =
    ap (slice_get (slice_set rows here.node new)) (sym (eqb-true here.node port.node same)) ∙ get_written rows here.node new old was in
    rw (now, there) (ap (nat_lt port.port) long)
alike_by rows here port old new false other was long =
    rw (get_other rows here.node port.node new (λ same. let both = eq-eqb here.node port.node (sym same) in let clash = sym other ∙ both in cc)) refl

pub places_alike : (rows : List (List (Option PortRef))) (here port : PortRef) (old new : List (Option PortRef)) → here.node < length rows
    → old ≡ get_or rows here.node old → length new ≡ length old → has_place (slice_set rows here.node new) port ≡ has_place rows port
places_alike rows here port old new within was long =
    alike_by rows here port old new (here.node == port.node) refl
    (slice_get-get_or rows here.node old within ∙ ap (λ (row : List (Option PortRef)). Some row) (sym was)) long

-- a port that has a place is in a row that is there
within_by : (rows : List (List (Option PortRef))) (at : PortRef)
    → ((row : List (Option PortRef)) × (at.node < length rows) × (slice_get rows at.node ≡ Some row) × (get_or rows at.node row ≡ row))
    ⊎ ((length rows ≤ at.node) × (slice_get rows at.node ≡ None)) → has_place rows at ≡ true → at.node < length rows
within_by rows at (inl there) has = there.1
within_by rows at (inr past) has = absurd (let none = rw past.1 at has in cc)

pub row_within : (rows : List (List (Option PortRef))) (at : PortRef) → has_place rows at ≡ true → at.node < length rows
row_within rows at has = within_by rows at (slice_get_cases rows at.node).1 has
