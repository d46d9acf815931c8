-- The place for services of a base, of one port.
use Rattle.std.proofs.Common.{◌≡◌, ℕ, zero, suc, ◌+◌, ◌<◌, ◌==◌, Bool, true, false, List, [], ◌∷◌, ◌++◌, length, map, get_or, set, Some, None}
use Rattle.std.proofs.Common.{refl, sym, ◌∙◌, ap, subst, inl, inr, arith}
use Rattle.std.specs.List.{AllByRecursion, IsDistinct, list_all, list_any, position, position_from}
use Rattle.std.proofs.lemmas.Bool.{cases_Bool, eq-eqb, eqb-true, false≢true}
use Rattle.std.proofs.lemmas.Iterator.Adapters.{position_from-zero}
use Rattle.std.proofs.lemmas.List.{append-nil}
use Rattle.std.proofs.lemmas.List.Quantifiers.{position-Some}
use Rattle.std.proofs.Common.{nat_eq, nat_le}
use Rattle.std.proofs.lemmas.Map.Keys.{IsDistinct-cons, IsDistinct-head, IsDistinct-tail}
use Rattle.pkey_rules.specs.KeyTable.{has_base, same_base}
use Rattle.pkey_rules.specs.PKey.{base_of}
use Rattle.step_results.proofs.ListLemmas.{IsDistinct-nil}
use Rattle.sa_model.specs.Sound.{pairwise}
use Rattle.sa_model.specs.KeyOrder.{by_base, with_key}
use Rattle.sa_model.proofs.KeyOrderLemmas.{stand_by_base}
use Rattle.sa_model.specs.ServiceChange.{Deed, after_deed, lower_id}
use Rattle.sa_model.specs.Services.{Service}
use Rattle.sa_store.specs.Deeds.{CanChange, after_in, is_of_base, services_in}
use Rattle.sa_store.specs.Kept.{KeptPort, ServicesOfBase}

abbrev pub of_one_base : ServicesOfBase → ServicesOfBase → Bool
of_one_base a b = a.base == b.base

-- there is one place for the services of the base, and those of each base stand by ServiceID
pub record HasPlace (base : ℕ) (places : List ServicesOfBase) : Type 0 where
  pub own : IsDistinct of_one_base places
  pub order : list_all (λ place. pairwise lower_id place.services) places ≡ true
  pub there : list_any (is_of_base base) places ≡ true

-- ---- none of these is of the base
abbrev AreOthers : ℕ → List ServicesOfBase → Type 0
AreOthers base places = AllByRecursion (λ place. is_of_base base place ≡ false) places

turned : (a b : ℕ) → (a == b) ≡ false → (b == a) ≡ false
turned a b differ = elim (cases_Bool (b == a)) [
  | inl same ↦ absurd (false≢true (sym differ ∙ ap (λ (n : ℕ). a == n) (eqb-true b a same) ∙ eq-eqb a a refl))
  | inr other ↦ other
]

others_of : (first : ServicesOfBase) (places : List ServicesOfBase) → AllByRecursion (λ other. of_one_base first other ≡ false) places
    → AreOthers first.base places
others_of first [] h = tt
others_of first (place ∷ places) h = (turned first.base place.base h.0, others_of first places h.1)

untouched : (base : ℕ) (deed : Deed) (places : List ServicesOfBase) → AreOthers base places → map (after_in base deed) places ≡ places
untouched base deed [] h = refl
untouched base deed (place ∷ places) h = rw h.0 (ap (λ (rest : List ServicesOfBase). place ∷ rest) (untouched base deed places h.1))

none_in : (base : ℕ) (places : List ServicesOfBase) → AreOthers base places → services_in base places ≡ []
none_in base [] h = refl
none_in base (place ∷ places) h = rw h.0 (none_in base places h.1)

not_other : (base : ℕ) (places : List ServicesOfBase) (i : ℕ) (d : ServicesOfBase) → AreOthers base places → i < length places
    → is_of_base base (get_or places i d) ≡ false
not_other base [] i d h within = absurd (omega arith)
not_other base (place ∷ places) zero d h within = h.0
not_other base (place ∷ places) (suc i) d h within = not_other base places i d h.1 (omega arith)

-- ---- a base has one place
pub record IsAtBase (base : ℕ) (places : List ServicesOfBase) (i : ℕ) (d : ServicesOfBase) : Type 0 where
  pub own : IsDistinct of_one_base places
  pub within : i < length places
  pub is : is_of_base base (get_or places i d) ≡ true

further : (base : ℕ) (first : ServicesOfBase) (places : List ServicesOfBase) (i : ℕ) (d : ServicesOfBase) → IsAtBase base (first ∷ places) (suc i) d
    → (is_of_base base first ≡ false) × IsAtBase base places i d
further base first places i d at =
    let others = others_of first places (IsDistinct-head of_one_base first places at.own) in
    let within : i < length places = let w = at.within in omega arith in
    let other = not_other first.base places i d others within in (
      elim (cases_Bool (is_of_base base first)) [
        | inl same ↦
            let here : first.base ≡ base = eqb-true first.base base same in
            absurd (false≢true (sym other ∙ ap (λ (n : ℕ). (get_or places i d).base == n) here ∙ at.is))
        | inr differ ↦ differ
      ],
      record { own = IsDistinct-tail of_one_base first places at.own; within = within; is = at.is },
    )

rest_others : (base : ℕ) (first : ServicesOfBase) (places : List ServicesOfBase) (d : ServicesOfBase) → IsAtBase base (first ∷ places) zero d
    → AreOthers base places
rest_others base first places d at =
    subst (λ (n : ℕ). AreOthers n places) (eqb-true first.base base at.is) (others_of first places (IsDistinct-head of_one_base first places at.own))

pub set_at : (base : ℕ) (deed : Deed) (places : List ServicesOfBase) (i : ℕ) (d : ServicesOfBase) → IsAtBase base places i d
    → map (after_in base deed) places ≡ set places i (record (get_or places i d) { services = after_deed deed (get_or places i d).services })
set_at base deed [] i d at = absurd (let w = at.within in omega arith)
set_at base deed (first ∷ places) zero d at =
    rw at.is (ap (λ (rest : List ServicesOfBase). record first { services = after_deed deed first.services } ∷ rest)
    (untouched base deed places (rest_others base first places d at)))
set_at base deed (first ∷ places) (suc i) d at =
    let on = further base first places i d at in
    rw on.0 (ap (λ (rest : List ServicesOfBase). first ∷ rest) (set_at base deed places i d on.1))

pub in_at : (base : ℕ) (places : List ServicesOfBase) (i : ℕ) (d : ServicesOfBase) → IsAtBase base places i d
    → services_in base places ≡ (get_or places i d).services
in_at base [] i d at = absurd (let w = at.within in omega arith)
in_at base (first ∷ places) zero d at =
    rw at.is (ap (λ (rest : List Service). first.services ++ rest) (none_in base places (rest_others base first places d at)) ∙ append-nil first.services)
in_at base (first ∷ places) (suc i) d at = let on = further base first places i d at in rw on.0 (in_at base places i d on.1)

-- ---- a port with one key of each base has one place for each
apart_with : (first key : ℕ) (keys : List ℕ) → same_base first key ≡ false → AllByRecursion (λ other. same_base first other ≡ false) keys
    → AllByRecursion (λ other. same_base first other ≡ false) (with_key key keys)
apart_with first key [] other apart = (other, tt)
apart_with first key (held ∷ keys) other apart = elim (cases_Bool (nat_le (base_of key) (base_of held))) [
  | inl before ↦ rw before (other, apart)
  | inr behind ↦ rw behind (apart.0, apart_with first key keys other apart.1)
]

flipped : (a b : ℕ) → same_base a b ≡ false → same_base b a ≡ false
flipped a b differ = elim (cases_Bool (same_base b a)) [
  | inl same ↦ absurd (false≢true (sym differ ∙ eq-eqb (base_of a) (base_of b) (sym (eqb-true (base_of b) (base_of a) same))))
  | inr other ↦ other
]

own_with : (key : ℕ) (keys : List ℕ) → AllByRecursion (λ other. same_base key other ≡ false) keys → IsDistinct same_base keys
    → IsDistinct same_base (with_key key keys)
own_with key [] apart own = IsDistinct-cons same_base key [] tt own
own_with key (held ∷ keys) apart own = elim (cases_Bool (nat_le (base_of key) (base_of held))) [
  | inl before ↦ rw before (IsDistinct-cons same_base key (held ∷ keys) apart own)
  | inr behind ↦
      rw behind (IsDistinct-cons same_base held (with_key key keys)
      (apart_with held key keys (flipped key held apart.0) (IsDistinct-head same_base held keys own))
      (own_with key keys apart.1 (IsDistinct-tail same_base held keys own)))
]

all_apart : (first : ℕ) (keys : List ℕ) → AllByRecursion (λ other. same_base first other ≡ false) keys
    → AllByRecursion (λ other. same_base first other ≡ false) (by_base keys)
all_apart first [] apart = tt
all_apart first (key ∷ keys) apart = apart_with first key (by_base keys) apart.0 (all_apart first keys apart.1)

own_by_base : (keys : List ℕ) → IsDistinct same_base keys → IsDistinct same_base (by_base keys)
own_by_base [] own = own
own_by_base (key ∷ keys) own =
    own_with key (by_base keys) (all_apart key keys (IsDistinct-head same_base key keys own)) (own_by_base keys (IsDistinct-tail same_base key keys own))

bases_own : (keys : List ℕ) → IsDistinct same_base keys → IsDistinct nat_eq (map base_of keys)
bases_own [] own = IsDistinct-nil nat_eq
bases_own (key ∷ keys) own =
    IsDistinct-cons nat_eq (base_of key) (map base_of keys) (apart key keys (IsDistinct-head same_base key keys own)) (bases_own keys (IsDistinct-tail same_base key keys own))
  where
    apart : (first : ℕ) (some : List ℕ) → AllByRecursion (λ other. same_base first other ≡ false) some
        → AllByRecursion (λ n. nat_eq (base_of first) n ≡ false) (map base_of some)
    apart first [] h = tt
    apart first (other ∷ some) h = (h.0, apart first some h.1)

places_own : (places : List ServicesOfBase) → IsDistinct nat_eq (map (λ place. place.base) places) → IsDistinct of_one_base places
places_own [] own = IsDistinct-nil of_one_base
places_own (place ∷ places) own =
    IsDistinct-cons of_one_base place places (apart place places (IsDistinct-head nat_eq place.base (map (λ place. place.base) places) own))
    (places_own places (IsDistinct-tail nat_eq place.base (map (λ place. place.base) places) own))
  where
    apart : (first : ServicesOfBase) (some : List ServicesOfBase) → AllByRecursion (λ n. nat_eq first.base n ≡ false) (map (λ place. place.base) some)
        → AllByRecursion (λ other. of_one_base first other ≡ false) some
    apart first [] h = tt
    apart first (other ∷ some) h = (h.0, apart first some h.1)

any_base : (base : ℕ) (places : List ServicesOfBase) → list_any (is_of_base base) places ≡ list_any (λ n. n == base) (map (λ place. place.base) places)
any_base base [] = refl
any_base base (place ∷ places) = rw (any_base base places) refl

any_key : (base : ℕ) (keys : List ℕ) → list_any (λ n. n == base) (map base_of keys) ≡ has_base base keys
any_key base [] = refl
any_key base (key ∷ keys) = rw (any_key base keys) refl

pub has_place : (base : ℕ) (one : KeptPort) → map (λ place. place.base) one.services ≡ map base_of (by_base one.port.keys) → CanChange base one
    → HasPlace base one.services
has_place base one bases can = record {
  own = places_own one.services (subst (λ (some : List ℕ). IsDistinct nat_eq some) (sym bases) (bases_own (by_base one.port.keys) (own_by_base one.port.keys can.own_keys)));
  order = can.order;
  there = any_base base one.services ∙ ap (λ (some : List ℕ). list_any (λ n. n == base) some) bases ∙ any_key base (by_base one.port.keys)
      ∙ (stand_by_base one.port.keys).same (λ key. base_of key == base) ∙ can.held;
}

-- and still has them when it has changed something there
pub bases_stay : (places : List ServicesOfBase) (i : ℕ) (d new : ServicesOfBase) → i < length places → new.base ≡ (get_or places i d).base
    → map (λ place. place.base) (set places i new) ≡ map (λ place. place.base) places
bases_stay [] i d new within same = absurd (omega arith)
bases_stay (place ∷ places) zero d new within same = ap (λ (base : ℕ). base ∷ map (λ place. place.base) places) same
bases_stay (place ∷ places) (suc i) d new within same = ap (λ (rest : List ℕ). place.base ∷ rest) (bases_stay places i d new (omega arith) same)

-- ---- where it is looked for
pub at_base : (base : ℕ) (places : List ServicesOfBase) (i : ℕ) (d : ServicesOfBase) → HasPlace base places → position (is_of_base base) places ≡ Some i
    → IsAtBase base places i d
at_base base places i d has is =
    let at = position-Some (is_of_base base) places i d is in
    record { own = has.own; within = at.0; is = at.1 }

pub never_none : (base : ℕ) (places : List ServicesOfBase) → HasPlace base places → position (is_of_base base) places ≡ None → ⊥
never_none base places has none = from 0 places has.there (sym (position_from-zero (is_of_base base) places) ∙ none)
  where
    from : (k : ℕ) (some : List ServicesOfBase) → list_any (is_of_base base) some ≡ true → position_from (is_of_base base) k some ≡ None → ⊥
    from k [] there none = false≢true there
    from k (place ∷ some) there none = elim (cases_Bool (is_of_base base place)) [
      | inl here ↦ absurd (let e : Some k ≡ None = rw here at none in cc)
      | inr other ↦ from (k + 1) some (rw other at there) (rw other at none)
    ]

-- nothing is written
pub same_places : (places : List ServicesOfBase) (i : ℕ) (d : ServicesOfBase) → i < length places → set places i (get_or places i d) ≡ places
same_places [] i d within = absurd (omega arith)
same_places (place ∷ places) zero d within = refl
same_places (place ∷ places) (suc i) d within = ap (λ (rest : List ServicesOfBase). place ∷ rest) (same_places places i d (omega arith))
