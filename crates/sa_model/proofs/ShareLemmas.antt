-- To share a partition is one thing, however it is said.
use Rattle.std.proofs.Common.{ℕ, Bool, true, false, ◌==◌, ◌&&◌, ◌||◌, List, [], ◌∷◌, filter, Some, ◌⊎◌}
use Rattle.std.proofs.Common.{◌≡◌, ◌∙◌, ap, refl, sym, subst, inl, inr}
use Rattle.std.specs.List.{AllByRecursion, IsDistinct, list_any}
use Rattle.std.proofs.lemmas.Bool.{cases_Bool, eq-eqb, eqb-true, or_cases, or_left, or_right}
use Rattle.std.proofs.lemmas.List.Elements.{recursion_from_All}
use Rattle.std.proofs.lemmas.Map.Keys.{IsDistinct-head, IsDistinct-tail}
use Rattle.partition_file.specs.declared.heading.Heading.{Heading}
use Rattle.pkey_rules.proofs.KeyTableLemmas.{shared_base, shares_from_base}
use Rattle.pkey_rules.specs.KeyTable.{SomeSharedBase, accepts, holds, same_base, shares, shares_base}
use Rattle.pkey_rules.specs.PKey.{base_of, matches}
use Rattle.subnet_model.specs.Configured.{HoldsKnownKeys, same_guid}
use Rattle.subnet_model.specs.Delivery.{port_with_guid}
use Rattle.subnet_model.specs.declared.subnet_port.SubnetPort.{SubnetPort}
use Rattle.sa_model.proofs.ReceiverLemmas.{any_alike, turned}
use Rattle.sa_model.specs.KeyOrder.{by_base}
use Rattle.sa_model.specs.ServiceSight.{shares_base_with}
use Rattle.sa_model.proofs.KeyOrderLemmas.{stand_by_base}
use Rattle.sa_model.specs.Shares.{SharingIsOneThing, is_path_to}
use Rattle.sa_model.specs.Visible.{keys_to, may_know, paths_to, paths_under, visible_nodes}
use Rattle.step_results.proofs.ListLemmas.{any_flat}

-- ---- tests of some element
any_filter : {X : Type 0} (p t : X → Bool) (xs : List X) → list_any p (filter t xs) ≡ list_any (λ x. p x && t x) xs
any_filter p t [] = refl
any_filter p t (x ∷ xs) = elim (cases_Bool (t x)) [
  | inl here ↦ rw here (with_true (p x) _ _ (any_filter p t xs))
  | inr out ↦ rw out (with_false (p x) _ _ (any_filter p t xs))
]
  where
    with_true : (a b c : Bool) → b ≡ c → (a || b) ≡ ((a && true) || c)
    with_true true b c e = refl
    with_true false b c e = e

    with_false : (a b c : Bool) → b ≡ c → b ≡ ((a && false) || c)
    with_false true b c e = e
    with_false false b c e = e

or_none : (a b : Bool) → b ≡ false → (a || b) ≡ a
or_none true b e = refl
or_none false b e = e

-- ---- the one port of a GUID, and the one key of a base
none_behind : (guid : ℕ) (test : SubnetPort → Bool) (port : SubnetPort) (ports : List SubnetPort) → (port.guid == guid) ≡ true
    → AllByRecursion (λ other. same_guid port other ≡ false) ports → list_any (λ other. (other.guid == guid) && test other) ports ≡ false
none_behind guid test port [] this apart = refl
none_behind guid test port (other ∷ ports) this apart =
    let same : port.guid ≡ guid = eqb-true port.guid guid this in
    let different : (other.guid == guid) ≡ false = turned other.guid guid ∙ (ap (λ (n : ℕ). n == other.guid) (sym same) ∙ apart.0) in
    rw different (none_behind guid test port ports this apart.1)

pub of_one_port : (guid : ℕ) (test : SubnetPort → Bool) (ports : List SubnetPort) (port : SubnetPort) → IsDistinct same_guid ports
    → port_with_guid ports guid ≡ Some port → list_any (λ other. (other.guid == guid) && test other) ports ≡ test port
of_one_port guid test [] port once found = absurd (cc)
of_one_port guid test (first ∷ ports) port once found = elim (cases_Bool (first.guid == guid)) [
  | inl this ↦
      let head : Some first ≡ Some port = rw this at found in
      let same : first ≡ port = cc in
      rw this (or_none (test first) _ (none_behind guid test first ports this (IsDistinct-head same_guid first ports once)) ∙ ap test same)
  | inr other ↦ rw other (of_one_port guid test ports port (IsDistinct-tail same_guid first ports once) (rw other at found))
]

none_of_base : (test : ℕ → Bool) (key : ℕ) (keys : List ℕ) → AllByRecursion (λ held. same_base key held ≡ false) keys
    → list_any (λ held. (base_of held == base_of key) && test held) keys ≡ false
none_of_base test key [] apart = refl
none_of_base test key (held ∷ keys) apart =
    let different : (base_of held == base_of key) ≡ false = turned (base_of held) (base_of key) ∙ apart.0 in
    rw different (none_of_base test key keys apart.1)

apart_from : (first key : ℕ) (keys : List ℕ) → AllByRecursion (λ held. same_base first held ≡ false) keys → holds key keys ≡ true → same_base first key ≡ false
apart_from first key [] apart there = absurd (cc)
apart_from first key (held ∷ keys) apart there = elim (or_cases (held == key) (holds key keys) there) [
  | inl this ↦ subst (λ (n : ℕ). same_base first n ≡ false) (eqb-true held key this) apart.0
  | inr later ↦ apart_from first key keys apart.1 later
]

of_one_key : (key : ℕ) (test : ℕ → Bool) (keys : List ℕ) → IsDistinct same_base keys → holds key keys ≡ true
    → list_any (λ held. (base_of held == base_of key) && test held) keys ≡ test key
of_one_key key test [] once there = absurd (cc)
of_one_key key test (first ∷ keys) once there = elim (cases_Bool (first == key)) [
  | inl this ↦
      subst (λ (n : ℕ). list_any (λ held. (base_of held == base_of n) && test held) (first ∷ keys) ≡ test n) (eqb-true first key this)
      (at_head (IsDistinct-head same_base first keys once))
  | inr other ↦
      let behind : holds key keys ≡ true = rw other at there in
      let different : (base_of first == base_of key) ≡ false = apart_from first key keys (IsDistinct-head same_base first keys once) behind in
      rw different (of_one_key key test keys (IsDistinct-tail same_base first keys once) behind)
]
  where
    at_head : AllByRecursion (λ held. same_base first held ≡ false) keys
        → list_any (λ held. (base_of held == base_of first) && test held) (first ∷ keys) ≡ test first
    at_head apart = rw (eq-eqb (base_of first) (base_of first) refl) (or_none (test first) _ (none_of_base test first keys apart))

-- ---- a key is accepted where its base is shared
matched : (key : ℕ) (keys : List ℕ) → list_any (λ held. (base_of held == base_of key) && matches held key) keys ≡ accepts key keys
matched key keys = any_alike (λ held. (base_of held == base_of key) && matches held key) (λ held. matches held key) (λ held. twice (base_of held == base_of key) _) keys
  where
    twice : (a b : Bool) → (a && (a && b)) ≡ (a && b)
    twice true b = refl
    twice false b = refl

accepted : (key : ℕ) (own other : List ℕ) → IsDistinct same_base own → (holds key own && accepts key other) ≡ (holds key own && shares_base (base_of key) own other)
accepted key own other once = elim (cases_Bool (holds key own)) [
  | inl there ↦
      rw there
      (sym (of_one_key key (λ p. list_any (λ q. (base_of q == base_of key) && matches q p) other) own once there ∙ matched key other))
  | inr gone ↦ rw gone refl
]

-- ---- paths
under_key : (key : ℕ) (test : ℕ → Bool) (keys : List ℕ) → list_any (λ held. held == key) (filter test keys) ≡ (holds key keys && test key)
under_key key test keys = any_filter (λ held. held == key) test keys ∙ one keys
  where
    one : (some : List ℕ) → list_any (λ held. (held == key) && test held) some ≡ (holds key some && test key)
    one [] = refl
    one (held ∷ some) = elim (cases_Bool (held == key)) [
      | inl this ↦ rw this (ap (λ (n : ℕ). test n || list_any (λ x. (x == key) && test x) some) (eqb-true held key this) ∙ joined (test key) (holds key some) _ (one some))
      | inr other ↦ rw other (one some)
    ]
      where
        joined : (a b c : Bool) → c ≡ (b && a) → (a || c) ≡ a
        joined true b c e = refl
        joined false true c e = e
        joined false false c e = e

paths_one : (own port : SubnetPort) (guid key : ℕ) (keys : List ℕ)
    → list_any (is_path_to guid key) (paths_under keys own port) ≡ ((port.guid == guid) && list_any (λ held. held == key) keys)
paths_one own port guid key [] = nothing (port.guid == guid)
  where
    nothing : (a : Bool) → false ≡ (a && false)
    nothing true = refl
    nothing false = refl
paths_one own port guid key (held ∷ keys) =
    ap (λ rest. ((port.guid == guid) && (held == key)) || rest) (paths_one own port guid key keys) ∙ spread (port.guid == guid) (held == key) _
  where
    spread : (a b c : Bool) → ((a && b) || (a && c)) ≡ (a && (b || c))
    spread true b c = refl
    spread false b c = refl

-- ---- a port holds one key of a base
keys_once : (headings : List Heading) (ports : List SubnetPort) (guid : ℕ) (port : SubnetPort) → AllByRecursion (HoldsKnownKeys headings) ports
    → port_with_guid ports guid ≡ Some port → IsDistinct same_base port.keys
keys_once headings [] guid port all found = absurd (cc)
keys_once headings (first ∷ ports) guid port all found = elim (cases_Bool (first.guid == guid)) [
  | inl this ↦
      let head : Some first ≡ Some port = rw this at found in
      let same : first ≡ port = cc in
      subst (λ (one : SubnetPort). IsDistinct same_base one.keys) same all.0.once
  | inr other ↦ keys_once headings ports guid port all.1 (rw other at found)
]

pub sharing_is_one_thing : SharingIsOneThing
sharing_is_one_thing configuration own other configured own_found found =
    let ports = configuration.ports in
    let once = keys_once configuration.partitions ports own.guid own (recursion_from_All (HoldsKnownKeys configuration.partitions) ports configured.keys) own_found in
    let node : list_any (λ one. one.guid == other.guid) (visible_nodes ports own) ≡ may_know own other =
    any_filter (λ one. one.guid == other.guid) (may_know own) ports ∙ of_one_port other.guid (may_know own) ports other configured.own_guids found in
    record {
      paths = λ key. any_flat (is_path_to other.guid key) (paths_to own) ports
          ∙ (any_alike (λ port. list_any (is_path_to other.guid key) (paths_to own port)) (λ port. (port.guid == other.guid) && list_any (λ held. held == key) (keys_to own port))
          (λ port. paths_one own port other.guid key (keys_to own port)) ports
          ∙ (of_one_port other.guid (λ port. list_any (λ held. held == key) (keys_to own port)) ports other configured.own_guids found
          ∙ (under_key key (λ one. accepts one other.keys) (by_base own.keys)
          ∙ (ap (λ held. held && accepts key other.keys) ((stand_by_base own.keys).same (λ held. held == key))
          ∙ accepted key own.keys other.keys once))));
      known = λ visible. elim (or_cases (other.guid == own.guid) (shares own.keys other.keys) (sym node ∙ visible)) [
        | inl same ↦ inl (eqb-true other.guid own.guid same)
        | inr share ↦ inr (shared_base own.keys other.keys share)
      ];
      shown = λ (why : (other.guid ≡ own.guid) ⊎ SomeSharedBase own.keys other.keys). node ∙ elim why [
        | inl same ↦ or_left (other.guid == own.guid) (shares own.keys other.keys) (eq-eqb other.guid own.guid same)
        | inr share ↦ or_right (other.guid == own.guid) (shares own.keys other.keys) (shares_from_base share.0 own.keys other.keys share.1)
      ];
      services = λ base. of_one_port own.guid (λ port. shares_base_with ports base port other.guid) ports own configured.own_guids own_found
          ∙ of_one_port other.guid (λ port. shares_base base own.keys port.keys) ports other configured.own_guids found;
    }
