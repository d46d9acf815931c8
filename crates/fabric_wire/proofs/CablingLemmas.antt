-- The other end of a cable at a port.
use Rattle.std.proofs.Common.{ℕ, suc, ◌≡◌, ◌-◌, ◌<◌, ◌≤◌, ◌∙◌, ap, sym, cond, List, ◌∷◌, drop, get_or, length, Option, Some, arith, true, flat_map}
use Rattle.std.specs.List.{list_all}
use Rattle.std.proofs.lemmas.Bool.{and_from}
use Rattle.std.proofs.Math.Seq.{drop-cons}
use Rattle.step_results.proofs.ListLemmas.{list_all_weaker}
use Rattle.fabric_parts.specs.declared.cable.Cable.{Cable}
use Rattle.fabric_parts.specs.declared.cable.PortRef.{PortRef}
use Rattle.fabric_parts.specs.Cable.{is_same_port, far_end}
use Rattle.smp_wire.specs.Good.{ends_of}
use Rattle.fabric_wire.specs.Cabling.{has_place}
use Rattle.fabric_wire.specs.Rows.{far_in}
use Rattle.smp_wire.proofs.CableLemmas.{far_end_before}

abbrev pub no_port : PortRef
no_port = record { node = 0; port = 0 }

abbrev pub no_cable : Cable
no_cable = record { first = no_port; second = no_port }

-- with one cable more of a list that is gone through from its end
pub far_end_more : (cables : List Cable) (left : ℕ) (port : PortRef) (old middle new : Option PortRef) → 0 < left → left ≤ length cables
    → old ≡ far_end (drop left cables) port
    → middle ≡ cond (is_same_port (get_or cables (left - 1) no_cable).second port) (Some (get_or cables (left - 1) no_cable).first) old
    → new ≡ cond (is_same_port (get_or cables (left - 1) no_cable).first port) (Some (get_or cables (left - 1) no_cable).second) middle
    → new ≡ far_end (drop (left - 1) cables) port
far_end_more cables left port old middle new some within was second first =
    let cable = get_or cables (left - 1) no_cable in
    let next : suc (left - 1) ≡ left = omega (arith, some) in
    let cut : drop (left - 1) cables ≡ cable ∷ drop left cables =
    drop-cons cables (left - 1) no_cable (omega (arith, some, within)) ∙ ap (λ (n : ℕ). cable ∷ drop n cables) next in
    first ∙ rw (second, was) (far_end_before cable (drop left cables) port ∙ ap (λ (some : List Cable). far_end some port) (sym cut))

-- the look-up of the cables from this place on
pub record LooksUp (cables : List Cable) (index : ℕ) (rows : List (List (Option PortRef))) : Type 0 where
  pub far : (port : PortRef) → far_in rows port ≡ far_end (drop index cables) port
  pub places : list_all (has_place rows) (flat_map ends_of (drop index cables)) ≡ true

pub places_more_ends : (cables : List Cable) (left : ℕ) (old middle new : List (List (Option PortRef))) → 0 < left → left ≤ length cables
    → list_all (has_place old) (flat_map ends_of (drop left cables)) ≡ true
    → has_place middle (get_or cables (left - 1) no_cable).second ≡ true → ((port : PortRef) → has_place old port ≡ true → has_place middle port ≡ true)
    → has_place new (get_or cables (left - 1) no_cable).first ≡ true → ((port : PortRef) → has_place middle port ≡ true → has_place new port ≡ true)
    → list_all (has_place new) (flat_map ends_of (drop (left - 1) cables)) ≡ true
places_more_ends cables left old middle new some within was second more first still =
    let cable = get_or cables (left - 1) no_cable in
    let next : suc (left - 1) ≡ left = omega (arith, some) in
    let cut : drop (left - 1) cables ≡ cable ∷ drop left cables =
    drop-cons cables (left - 1) no_cable (omega (arith, some, within)) ∙ ap (λ (n : ℕ). cable ∷ drop n cables) next in
    rw cut (and_from (has_place new cable.first) _ first (and_from (has_place new cable.second) _ (still cable.second second)
    (list_all_weaker (has_place old) (has_place new) (λ port has. still port (more port has)) (flat_map ends_of (drop left cables)) was)))
