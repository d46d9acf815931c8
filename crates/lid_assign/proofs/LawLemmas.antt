-- LIDs and GUIDs name each other.
use Rattle.std.proofs.Common.{◌≡◌, ℕ, zero, suc, ◌+◌, ◌-◌, ◌<◌, ◌≤◌, Bool, true, false, ◌==◌, List, [], ◌∷◌, length, slice_get, Option, Some, None}
use Rattle.std.proofs.Common.{option_map, refl, sym, ap, subst, ◌∙◌, arith}
use Rattle.std.specs.List.{AllByRecursion, IsDistinct, position}
use Rattle.std.proofs.lemmas.Bool.{eq-eqb}
use Rattle.std.proofs.lemmas.Bool.Decides.{nat_tests}
use Rattle.lid_assign.specs.Laws.{LidsAndGuidsNameEachOther, LidsCountFrom1}
use Rattle.lid_assign.specs.Lids.{guid_in, lid_in}
use Rattle.step_results.proofs.RisingLemmas.{place_here, place_later}

-- ---- places
same_some : (a b : ℕ) → Some a ≡ Some b → a ≡ b
same_some a b h = ap (λ (o : Option ℕ). cond_of o) h
  where
    cond_of : Option ℕ → ℕ
    cond_of None = 0
    cond_of (Some n) = n

guid_there : (guids : List ℕ) (guid place : ℕ) → position (λ o. o == guid) guids ≡ Some place → slice_get guids place ≡ Some guid
guid_there [] guid place h = absurd cc
guid_there (first ∷ guids) guid place h = by (first == guid) refl (λ k. guid_there guids guid k)
  where
    later : (k : Option ℕ) → position (λ o. o == guid) guids ≡ k → option_map (λ n. n + 1) k ≡ Some place
        → ((n : ℕ) → position (λ o. o == guid) guids ≡ Some n → slice_get guids n ≡ Some guid) → slice_get (first ∷ guids) place ≡ Some guid
    later None e there rest = absurd cc
    later (Some n) e there rest =
        let next : suc n ≡ place = omega (arith, same_some (n + 1) place there) in
        subst (λ (m : ℕ). slice_get (first ∷ guids) m ≡ Some guid) next (rest n e)

    by : (b : Bool) → (first == guid) ≡ b → ((n : ℕ) → position (λ o. o == guid) guids ≡ Some n → slice_get guids n ≡ Some guid) → slice_get (first ∷ guids) place ≡ Some guid
    by true e rest =
        let here : 0 ≡ place = same_some 0 place (sym (place_here (λ (o : ℕ). o == guid) first guids e) ∙ h) in
        let same : first ≡ guid = grind (arith, nat_tests) in
        subst (λ (m : ℕ). slice_get (first ∷ guids) m ≡ Some guid) here (ap (λ (g : ℕ). Some g) same)
    by false e rest = later (position (λ o. o == guid) guids) refl (sym (place_later (λ (o : ℕ). o == guid) first guids e) ∙ h) rest

apart_there : (first guid place : ℕ) (guids : List ℕ) → AllByRecursion (λ y. (first == y) ≡ false) guids → slice_get guids place ≡ Some guid → (first == guid) ≡ false
apart_there first guid place [] h there = absurd cc
apart_there first guid zero (next ∷ guids) h there = subst (λ (g : ℕ). (first == g) ≡ false) (same_some next guid there) h.0
apart_there first guid (suc place) (next ∷ guids) h there = apart_there first guid place guids h.1 there

place_there : (guids : List ℕ) (guid place : ℕ) → IsDistinct (λ a b. a == b) guids → slice_get guids place ≡ Some guid → position (λ o. o == guid) guids ≡ Some place
unfolding IsDistinct
place_there [] guid place own there = absurd cc
place_there (first ∷ guids) guid zero own there =
    place_here (λ (o : ℕ). o == guid) first guids (subst (λ (g : ℕ). (first == g) ≡ true) (same_some first guid there) (eq-eqb first first refl))
place_there (first ∷ guids) guid (suc place) own there =
    let sum : place + 1 ≡ suc place = omega arith in
    place_later (λ (o : ℕ). o == guid) first guids (apart_there first guid place guids own.0 there)
    ∙ ap (option_map (λ n. n + 1)) (place_there guids guid place own.1 there) ∙ ap (λ (n : ℕ). Some n) sum

-- ---- LIDs count from 1
guid_of_lid : (guids : List ℕ) (guid lid : ℕ) → lid_in guids guid ≡ Some lid → guid_in guids lid ≡ Some guid
guid_of_lid guids guid lid h = by (position (λ o. o == guid) guids) refl h
  where
    by : (o : Option ℕ) → position (λ o. o == guid) guids ≡ o → option_map (λ place. place + 1) o ≡ Some lid → guid_in guids lid ≡ Some guid
    by None e there = absurd cc
    by (Some place) e there =
        let same : place + 1 ≡ lid = same_some (place + 1) lid there in
        let positive : (lid == 0) ≡ false = grind (arith, nat_tests) in
        let back : lid - 1 ≡ place = omega (arith, same) in
        rw (positive, back) (guid_there guids guid place e)

lid_of_guid : (guids : List ℕ) (guid lid : ℕ) → IsDistinct (λ a b. a == b) guids → guid_in guids lid ≡ Some guid → lid_in guids guid ≡ Some lid
lid_of_guid guids guid zero own h = absurd cc
lid_of_guid guids guid (suc place) own h =
    let back : suc place - 1 ≡ place = omega arith in
    let sum : place + 1 ≡ suc place = omega arith in
    let positive : (suc place == 0) ≡ false = grind (arith, nat_tests) in
    let there : slice_get guids place ≡ Some guid = rw (positive, back) at h in
    ap (option_map (λ place. place + 1)) (place_there guids guid place own there) ∙ ap (λ (n : ℕ). Some n) sum

pub lids_and_guids_name_each_other : LidsAndGuidsNameEachOther
lids_and_guids_name_each_other guids guid lid own = (λ h. guid_of_lid guids guid lid h, λ h. lid_of_guid guids guid lid own h)

some_there : (guids : List ℕ) (place : ℕ) → place < length guids → (guid : ℕ) × (slice_get guids place ≡ Some guid)
some_there [] place h = absurd (omega (arith, h))
some_there (first ∷ guids) zero h = (first, refl)
some_there (first ∷ guids) (suc place) h = some_there guids place (omega (arith, h))

inside : (guids : List ℕ) (place guid : ℕ) → slice_get guids place ≡ Some guid → place < length guids
inside [] place guid h = absurd cc
inside (first ∷ guids) zero guid h = omega arith
inside (first ∷ guids) (suc place) guid h = let less = inside guids place guid h in omega (arith, less)

within : (guids : List ℕ) (lid guid : ℕ) → guid_in guids lid ≡ Some guid → (1 ≤ lid) × (lid ≤ length guids)
within guids zero guid h = absurd cc
within guids (suc place) guid h =
    let back : suc place - 1 ≡ place = omega arith in
    let positive : (suc place == 0) ≡ false = grind (arith, nat_tests) in
    let there : slice_get guids place ≡ Some guid = rw (positive, back) at h in
    let less = inside guids place guid there in
    (omega arith, omega (arith, less))

has_guid : (guids : List ℕ) (lid : ℕ) → 1 ≤ lid → lid ≤ length guids → (guid : ℕ) × (guid_in guids lid ≡ Some guid)
has_guid guids lid low high =
    let positive : (lid == 0) ≡ false = grind (arith, nat_tests) in
    let found = some_there guids (lid - 1) (omega (arith, low, high)) in
    (found.0, rw positive found.1)

pub lids_count_from_1 : LidsCountFrom1
lids_count_from_1 guids lid = (λ h. within guids lid h.0 h.1, λ h. has_guid guids lid h.0 h.1)
