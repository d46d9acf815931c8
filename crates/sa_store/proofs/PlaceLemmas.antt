-- The port of a GUID and of a LID among those that are kept.
use Rattle.std.proofs.Common.{◌≡◌, ℕ, zero, suc, ◌+◌, ◌-◌, ◌<◌, ◌≤◌, ◌==◌, Bool, true, false, List, [], ◌∷◌, length, map, take, drop, get_or, set, Option, Some, None}
use Rattle.std.proofs.Common.{◌⊎◌, ◌++◌}
use Rattle.std.proofs.Common.{refl, sym, ◌∙◌, ap, subst, inl, inr, arith}
use Rattle.std.specs.List.{AllByRecursion, IsDistinct, position_from, range_with_len}
use Rattle.std.proofs.lemmas.Bool.{cases_Bool, eq-eqb, eqb-true, false≢true, ne_eqb}
use Rattle.std.proofs.lemmas.Iterator.Adapters.{position_from-zero}
use Rattle.std.proofs.lemmas.List.Quantifiers.{position-Some}
use Rattle.std.proofs.lemmas.Map.Keys.{IsDistinct-head, IsDistinct-tail}
use Rattle.rmpp_core.specs.Segments.{Transfer}
use Rattle.std.proofs.lemmas.List.{drop_more, length-map}
use Rattle.subnet_model.specs.Configured.{HaveLidsInOrder, same_guid}
use Rattle.subnet_model.specs.Delivery.{port_with_guid}
use Rattle.subnet_model.specs.declared.subnet_port.SubnetPort.{SubnetPort}
use Rattle.sa_replies.specs.Transfers.{table_of, with_table}
use Rattle.sa_store.specs.Registry.{of_guid, of_lid}
use Rattle.partition_file.specs.declared.heading.Heading.{Heading}
use Rattle.sa_model.specs.Groups.{PartitionGroups}
use Rattle.sa_model.specs.Services.{PortServices}
use Rattle.sa_store.specs.Kept.{KeptPort, ports_of, services_of, services_of_port, transfers_of}
use Rattle.sa_store.specs.Registry.{IsRegistry, RegistryState, place_with_guid, registry_in}

-- ---- no port of these has the GUID
abbrev pub AreOthers : ℕ → List KeptPort → Type 0
AreOthers guid kept = AllByRecursion (λ one. (one.port.guid == guid) ≡ false) kept

others_of : (first : SubnetPort) (kept : List KeptPort) → AllByRecursion (λ other. same_guid first other ≡ false) (ports_of kept)
    → AreOthers first.guid kept
others_of first [] h = tt
others_of first (one ∷ kept) h = (flipped first.guid one.port.guid h.0, others_of first kept h.1)
  where
    flipped : (a b : ℕ) → (a == b) ≡ false → (b == a) ≡ false
    flipped a b differ = elim (cases_Bool (b == a)) [
      | inl same ↦ absurd (false≢true (sym differ ∙ ap (λ (n : ℕ). a == n) (eqb-true b a same) ∙ eq-eqb a a refl))
      | inr other ↦ other
    ]

none_of_guid : (guid : ℕ) (kept : List KeptPort) → AreOthers guid kept → of_guid guid (ports_of kept) ≡ []
none_of_guid guid [] h = refl
none_of_guid guid (one ∷ kept) h = rw h.0 (none_of_guid guid kept h.1)

untouched : (guid : ℕ) (table : Option Transfer) (kept : List KeptPort) → AreOthers guid kept
    → with_table guid table (transfers_of kept) ≡ transfers_of kept
untouched guid table [] h = refl
untouched guid table (one ∷ kept) h = rw h.0 (ap (λ rest. record { port = one.port.guid; open_table = one.open_table } ∷ rest) (untouched guid table kept h.1))

-- the one at a place is no other
not_other : (guid : ℕ) (kept : List KeptPort) (i : ℕ) (d : KeptPort) → AreOthers guid kept → i < length kept
    → ((get_or kept i d).port.guid == guid) ≡ false
not_other guid [] i d h within = absurd (omega arith)
not_other guid (one ∷ kept) zero d h within = h.0
not_other guid (one ∷ kept) (suc i) d h within = not_other guid kept i d h.1 (omega arith)

-- ---- the port of a GUID has one place
pub record IsAt (guid : ℕ) (kept : List KeptPort) (i : ℕ) (d : KeptPort) : Type 0 where
  pub distinct : IsDistinct same_guid (ports_of kept)
  pub within : i < length kept
  pub is : ((get_or kept i d).port.guid == guid) ≡ true

pub further : (guid : ℕ) (one : KeptPort) (kept : List KeptPort) (i : ℕ) (d : KeptPort) → IsAt guid (one ∷ kept) (suc i) d
    → ((one.port.guid == guid) ≡ false) × IsAt guid kept i d
further guid one kept i d at =
    let others = others_of one.port kept (IsDistinct-head same_guid one.port (ports_of kept) at.distinct) in
    let within : i < length kept = let w = at.within in omega arith in
    let other = not_other one.port.guid kept i d others within in
    let e : (get_or kept i d).port.guid ≡ guid = eqb-true (get_or kept i d).port.guid guid at.is in (
      elim (cases_Bool (one.port.guid == guid)) [
        | inl same ↦
            let here : one.port.guid ≡ guid = eqb-true one.port.guid guid same in
            absurd (false≢true (sym other ∙ ap (λ (n : ℕ). (get_or kept i d).port.guid == n) here ∙ at.is))
        | inr differ ↦ differ
      ],
      record { distinct = IsDistinct-tail same_guid one.port (ports_of kept) at.distinct; within = within; is = at.is },
    )

pub rest_others : (guid : ℕ) (one : KeptPort) (kept : List KeptPort) (d : KeptPort) → IsAt guid (one ∷ kept) zero d → AreOthers guid kept
rest_others guid one kept d at =
    subst (λ (n : ℕ). AreOthers n kept) (eqb-true one.port.guid guid at.is)
    (others_of one.port kept (IsDistinct-head same_guid one.port (ports_of kept) at.distinct))

pub found_at : (guid : ℕ) (kept : List KeptPort) (i : ℕ) (d : KeptPort) → IsAt guid kept i d
    → port_with_guid (ports_of kept) guid ≡ Some (get_or kept i d).port
found_at guid [] i d at = absurd (let w = at.within in omega arith)
found_at guid (one ∷ kept) zero d at = rw at.is refl
found_at guid (one ∷ kept) (suc i) d at = let on = further guid one kept i d at in rw on.0 (found_at guid kept i d on.1)

pub alone_at : (guid : ℕ) (kept : List KeptPort) (i : ℕ) (d : KeptPort) → IsAt guid kept i d
    → of_guid guid (ports_of kept) ≡ (get_or kept i d).port ∷ []
alone_at guid [] i d at = absurd (let w = at.within in omega arith)
alone_at guid (one ∷ kept) zero d at =
    rw at.is (ap (λ (rest : List SubnetPort). one.port ∷ rest) (none_of_guid guid kept (rest_others guid one kept d at)))
alone_at guid (one ∷ kept) (suc i) d at = let on = further guid one kept i d at in rw on.0 (alone_at guid kept i d on.1)

pub open_at : (guid : ℕ) (kept : List KeptPort) (i : ℕ) (d : KeptPort) → IsAt guid kept i d
    → table_of guid (transfers_of kept) ≡ (get_or kept i d).open_table
open_at guid [] i d at = absurd (let w = at.within in omega arith)
open_at guid (one ∷ kept) zero d at = rw at.is refl
open_at guid (one ∷ kept) (suc i) d at = let on = further guid one kept i d at in rw on.0 (open_at guid kept i d on.1)

pub next_at : (guid : ℕ) (table : Option Transfer) (kept : List KeptPort) (i : ℕ) (d : KeptPort) → IsAt guid kept i d
    → with_table guid table (transfers_of kept) ≡ transfers_of (set kept i (record (get_or kept i d) { open_table = table }))
next_at guid table [] i d at = absurd (let w = at.within in omega arith)
next_at guid table (one ∷ kept) zero d at =
    let e : one.port.guid ≡ guid = eqb-true one.port.guid guid at.is in
    rw at.is (rw e (ap (λ rest. record { port = guid; open_table = table } ∷ rest) (untouched guid table kept (rest_others guid one kept d at))))
next_at guid table (one ∷ kept) (suc i) d at =
    let on = further guid one kept i d at in
    rw on.0 (ap (λ rest. record { port = one.port.guid; open_table = one.open_table } ∷ rest) (next_at guid table kept i d on.1))

-- ---- a place is reported by the ports
position_of_map : (guid from : ℕ) (kept : List KeptPort)
    → position_from (λ port. port.guid == guid) from (ports_of kept) ≡ position_from (λ (one : KeptPort). one.port.guid == guid) from kept
position_of_map guid from [] = refl
position_of_map guid from (one ∷ kept) = elim (cases_Bool (one.port.guid == guid)) [
  | inl here ↦ rw here refl
  | inr other ↦ rw other (position_of_map guid (from + 1) kept)
]

pub place_is : (guid : ℕ) (kept : List KeptPort) → place_with_guid (ports_of kept) guid ≡ position_from (λ (one : KeptPort). one.port.guid == guid) 0 kept
place_is guid kept = position_from-zero (λ (port : SubnetPort). port.guid == guid) (ports_of kept) ∙ position_of_map guid 0 kept

pub is_at : (guid : ℕ) (kept : List KeptPort) (i : ℕ) (d : KeptPort) → IsDistinct same_guid (ports_of kept)
    → place_with_guid (ports_of kept) guid ≡ Some i → IsAt guid kept i d
is_at guid kept i d distinct h =
    let test = λ (one : KeptPort). one.port.guid == guid in
    let at = position-Some test kept i d (position_from-zero test kept ∙ sym (place_is guid kept) ∙ h) in
    record { distinct = distinct; within = at.0; is = at.1 }

pub one_of : (kept : List KeptPort) (i : ℕ) (d : KeptPort) → i < length kept → take (i + 1 - i) (drop i kept) ≡ get_or kept i d ∷ []
one_of kept i d within =
    let e : i + 1 - i ≡ suc zero = omega arith in
    rw (e, drop_more kept i d within) refl

pub guid_slice : (guid : ℕ) (kept : List KeptPort) (i : ℕ) → IsDistinct same_guid (ports_of kept) → place_with_guid (ports_of kept) guid ≡ Some i
    → ports_of (take (i + 1 - i) (drop i kept)) ≡ of_guid guid (ports_of kept)
guid_slice guid [] i distinct h = absurd (cc)
guid_slice guid (d ∷ others) i distinct h =
    let kept : List KeptPort = d ∷ others in
    let at = is_at guid kept i d distinct h in
    ap ports_of (one_of kept i d at.within) ∙ sym (alone_at guid kept i d at)

pub guid_nowhere : (guid : ℕ) (kept : List KeptPort) → place_with_guid (ports_of kept) guid ≡ None → of_guid guid (ports_of kept) ≡ []
guid_nowhere guid kept h = none_from 0 kept (sym (place_is guid kept) ∙ h)
  where
    none_from : (from : ℕ) (some : List KeptPort) → position_from (λ one. one.port.guid == guid) from some ≡ None → of_guid guid (ports_of some) ≡ []
    none_from from [] h = refl
    none_from from (one ∷ some) h = elim (cases_Bool (one.port.guid == guid)) [
      | inl here ↦ absurd (let e : Some from ≡ None = rw here at h in cc)
      | inr other ↦ rw other (none_from (from + 1) some (rw other at h))
    ]

-- ---- LIDs count on from the first
low_lid : (lid first : ℕ) (kept : List KeptPort) → lid < first → map (λ port. port.lid) (ports_of kept) ≡ range_with_len first (length kept)
    → of_lid lid (ports_of kept) ≡ []
low_lid lid first [] low h = refl
low_lid lid first (one ∷ kept) low h =
    let here : one.port.lid ≡ first = cc in
    let other : (one.port.lid == lid) ≡ false = ne_eqb one.port.lid lid (λ e. absurd (omega arith)) in
    rw other (low_lid lid (first + 1) kept (omega arith) (cc))

lid_slice_from : (lid first : ℕ) (kept : List KeptPort) (i : ℕ) (d : KeptPort) → first + i ≡ lid → i < length kept
    → map (λ port. port.lid) (ports_of kept) ≡ range_with_len first (length kept) → of_lid lid (ports_of kept) ≡ (get_or kept i d).port ∷ []
lid_slice_from lid first [] i d e within h = absurd (omega arith)
lid_slice_from lid first (one ∷ kept) zero d e within h =
    let here : one.port.lid ≡ first = cc in
    let same : (one.port.lid == lid) ≡ true = eq-eqb one.port.lid lid (here ∙ omega arith) in
    rw same (ap (λ (rest : List SubnetPort). one.port ∷ rest) (low_lid lid (first + 1) kept (omega arith) (cc)))
lid_slice_from lid first (one ∷ kept) (suc i) d e within h =
    let here : one.port.lid ≡ first = cc in
    let other : (one.port.lid == lid) ≡ false = ne_eqb one.port.lid lid (λ same. absurd (omega arith)) in
    rw other (lid_slice_from lid (first + 1) kept i d (omega arith) (omega arith) (cc))

high_lid : (lid first : ℕ) (kept : List KeptPort) → first + length kept ≤ lid → map (λ port. port.lid) (ports_of kept) ≡ range_with_len first (length kept)
    → of_lid lid (ports_of kept) ≡ []
high_lid lid first [] high h = refl
high_lid lid first (one ∷ kept) high h =
    let here : one.port.lid ≡ first = cc in
    let other : (one.port.lid == lid) ≡ false = ne_eqb one.port.lid lid (λ same. absurd (omega arith)) in
    rw other (high_lid lid (first + 1) kept (omega arith) (cc))

lids_of : (kept : List KeptPort) → HaveLidsInOrder (ports_of kept) → map (λ port. port.lid) (ports_of kept) ≡ range_with_len 1 (length kept)
lids_of kept h = h ∙ ap (λ (n : ℕ). range_with_len 1 n) (length-map kept (λ one. one.port))

pub lid_slice : (lid : ℕ) (kept : List KeptPort) → HaveLidsInOrder (ports_of kept) → 1 ≤ lid → lid ≤ length kept
    → ports_of (take (lid - (lid - 1)) (drop (lid - 1) kept)) ≡ of_lid lid (ports_of kept)
lid_slice lid [] lids low high = absurd (omega arith)
lid_slice lid (d ∷ others) lids low high =
    let kept : List KeptPort = d ∷ others in
    let i = lid - 1 in
    let within : i < length kept = omega arith in
    let e : lid - (lid - 1) ≡ suc zero = omega arith in
    let here : drop (lid - 1) kept ≡ get_or kept i d ∷ drop (i + 1) kept = drop_more kept i d within in
    rw (e, here) (sym (lid_slice_from lid 1 kept i d (omega arith) within (lids_of kept lids)))

pub lid_nowhere : (lid : ℕ) (kept : List KeptPort) → HaveLidsInOrder (ports_of kept) → (lid < 1) ⊎ (length kept < lid) → of_lid lid (ports_of kept) ≡ []
lid_nowhere lid kept lids (inl low) = low_lid lid 1 kept low (lids_of kept lids)
lid_nowhere lid kept lids (inr high) = high_lid lid 1 kept (omega arith) (lids_of kept lids)

-- ---- another table in the place of a port
abbrev pub with_open : Option Transfer → KeptPort → KeptPort
with_open table one = record one { open_table = table }

pub ports_stay : (table : Option Transfer) (kept : List KeptPort) (i : ℕ) (d : KeptPort) → i < length kept
    → ports_of (set kept i (with_open table (get_or kept i d))) ≡ ports_of kept
ports_stay table [] i d within = absurd (omega arith)
ports_stay table (one ∷ kept) zero d within = refl
ports_stay table (one ∷ kept) (suc i) d within = ap (λ (rest : List SubnetPort). one.port ∷ rest) (ports_stay table kept i d (omega arith))

services_stay : (table : Option Transfer) (kept : List KeptPort) (i : ℕ) (d : KeptPort) → i < length kept
    → services_of (set kept i (with_open table (get_or kept i d))) ≡ services_of kept
services_stay table [] i d within = absurd (omega arith)
services_stay table (one ∷ kept) zero d within = refl
services_stay table (one ∷ kept) (suc i) d within = ap (λ (rest : List PortServices). services_of_port one ++ rest) (services_stay table kept i d (omega arith))

pub replaced : (guid : ℕ) (table : Option Transfer) (kept : List KeptPort) (i : ℕ) (d : KeptPort) (headings : List Heading) (partitions : List PartitionGroups)
    (is_broken : Bool) (state : RegistryState) → IsAt guid kept i d → registry_in kept headings partitions is_broken ≡ state
    → registry_in (set kept i (with_open table (get_or kept i d))) headings partitions is_broken
    ≡ record state { administration = record state.administration { transfers = with_table guid table state.administration.transfers } }
replaced guid table kept i d headings partitions is_broken state at is =
    let ports = ports_stay table kept i d at.within in
    let services = services_stay table kept i d at.within in
    let transfers = next_at guid table kept i d at in
    rw (ports, services, ← transfers, ← is) refl

pub stays_registry : (table : Option Transfer) (kept : List KeptPort) (i : ℕ) (d : KeptPort) (headings : List Heading) (partitions : List PartitionGroups)
    (place_of : ℕ → Option ℕ) → i < length kept → IsRegistry kept headings partitions place_of
    → IsRegistry (set kept i (with_open table (get_or kept i d))) headings partitions place_of
stays_registry table kept i d headings partitions place_of within is =
    let ports = ports_stay table kept i d within in
    let services = services_stay table kept i d within in
    record {
      configured = rw ports is.configured;
      finds = rw ports is.finds;
      remembered = rw (ports, services) is.remembered;
    }
