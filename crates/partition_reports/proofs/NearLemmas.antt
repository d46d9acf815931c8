-- Who has a share with a port is near it, and nobody else.
use Rattle.std.proofs.Common.{◌≡◌, ℕ, Bool, true, false, ◌==◌, ◌&&◌, ◌||◌, List, [], ◌∷◌, map, filter, refl, sym, ap, ◌∙◌, inl, inr, arith}
use Rattle.std.specs.List.{flat_map, list_any, range_with_len}
use Rattle.std.proofs.lemmas.Bool.{cases_Bool}
use Rattle.std.proofs.lemmas.Bool.Decides.{nat_tests}
use Rattle.std.proofs.lemmas.List.Folds.{list_any-append}
use Rattle.std.specs.Cmp.{both_ways}
use Rattle.pkey_rules.specs.KeyTable.{accepts, shares as keys_share, shares_base}
use Rattle.pkey_rules.specs.PKey.{matches}
use Rattle.pkey_rules.proofs.KeyTableLemmas.{shared_base, shares_from_base}
use Rattle.subnet_model.specs.Near.{ports_share, shares_with}
use Rattle.subnet_model.specs.declared.subnet_port.SubnetPort.{SubnetPort}
use Rattle.subnet_model.proofs.IsolationLemmas.{matches_either_way}
use Rattle.partition_reports.proofs.ShareLemmas.{any_kept, in_range, is_shared_base}
use Rattle.partition_reports.specs.FoundShares.{share_of}
use Rattle.partition_reports.specs.ShareLaws.{NearIsToShare, is_of_both}
use Rattle.partition_reports.specs.Shares.{pair_shares, shared_bases, shares}
use Rattle.step_results.proofs.ListLemmas.{any_alike, any_and, any_flat, any_or, any_turned}
use Rattle.step_results.proofs.BoolLemmas.{or_false}

-- ---- two ports and their shares
keys_turned : (ps qs : List ℕ) → keys_share ps qs ≡ keys_share qs ps
keys_turned ps qs =
    any_turned (λ p q. matches q p) ps qs
    ∙ any_alike (λ q. list_any (λ p. matches q p) ps) (λ q. accepts q ps) (λ q. any_alike (λ p. matches q p) (λ p. matches p q) (λ p. matches_either_way q p) ps) qs

any_there : {X : Type 0} (p : X → Bool) (xs : List X) → list_any p xs ≡ true → list_any (λ x. true) xs ≡ true
any_there p [] h = absurd (cc)
any_there p (x ∷ xs) h = refl

first_there : (p : ℕ → Bool) (xs : List ℕ) → list_any (λ x. true) (filter p xs) ≡ true → (n : ℕ) × (p n ≡ true)
first_there p [] h = absurd (cc)
first_there p (x ∷ xs) h = elim (cases_Bool (p x)) [
  | inl here ↦ (x, here)
  | inr other ↦ first_there p xs (rw other at h)
]

some_base : (ps qs : List ℕ) → list_any (λ base. true) (shared_bases ps qs) ≡ keys_share ps qs
unfolding shared_bases
some_base ps qs =
    let test : ℕ → Bool = λ base. shares_base base ps qs in
    let bases : List ℕ = filter test (range_with_len 1 32767) in
    both_ways (list_any (λ base. true) bases) (keys_share ps qs)
    (λ h. let found = first_there test (range_with_len 1 32767) h in shares_from_base found.0 ps qs found.1)
    (λ h. let found = shared_base ps qs h in let fits = is_shared_base found.0 ps qs found.1 in
    any_there (λ base. base == found.0) bases (any_kept test found.0 (range_with_len 1 32767) found.1 ∙ in_range 1 32767 found.0 fits.0 (omega (arith, fits.1))))

abbrev are_both : ℕ → ℕ → SubnetPort → SubnetPort → Bool
are_both p q a b = ((a.guid == p) && (b.guid == q)) || ((a.guid == q) && (b.guid == p))

all_alike : {X Y : Type 0} (b : Bool) (f : X → Y) (p : Y → Bool) → ((x : X) → p (f x) ≡ b) → (xs : List X) → list_any p (map f xs) ≡ (b && list_any (λ x. true) xs)
all_alike true f p same [] = refl
all_alike false f p same [] = refl
all_alike true f p same (x ∷ xs) = rw (same x) refl
all_alike false f p same (x ∷ xs) = rw (same x) (all_alike false f p same xs)

pair_names : (p q : ℕ) (a b : SubnetPort) → list_any (is_of_both p q) (pair_shares a b) ≡ (are_both p q a b && keys_share a.keys b.keys)
pair_names p q a b =
    all_alike (are_both p q a b) (share_of a b) (is_of_both p q) (λ base. refl) (shared_bases a.keys b.keys)
    ∙ ap (λ some. are_both p q a b && some) (some_base a.keys b.keys)

abbrev turned_to : SubnetPort → ℕ → List SubnetPort → Bool
turned_to a p ports = list_any (λ b. (b.guid == p) && keys_share b.keys a.keys) ports

-- the port is the first, and a later one the second, or the other way round
pair_by : (x y : Bool) (c d k k' : Bool) → (x && y) ≡ false → k ≡ k' → (((x && c) || (y && d)) && k) ≡ ((x && (c && k)) || (y && (d && k')))
pair_by true true c d k k' apart same = absurd (cc)
pair_by true false true d k k' apart same = sym (or_false k)
pair_by true false false d k k' apart same = refl
pair_by false true c true k k' apart same = same
pair_by false true c false k k' apart same = refl
pair_by false false c d k k' apart same = refl

named_with : (p q : ℕ) (a : SubnetPort) (ports : List SubnetPort) → ((a.guid == p) && (a.guid == q)) ≡ false
    → list_any (λ b. are_both p q a b && keys_share a.keys b.keys) ports ≡ (((a.guid == p) && shares_with ports a q) || ((a.guid == q) && turned_to a p ports))
named_with p q a ports apart =
    any_alike (λ b. are_both p q a b && keys_share a.keys b.keys) (λ b. ((a.guid == p) && ((b.guid == q) && keys_share a.keys b.keys)) || ((a.guid == q) && ((b.guid == p) && keys_share b.keys a.keys)))
    (λ b. pair_by (a.guid == p) (a.guid == q) (b.guid == q) (b.guid == p) (keys_share a.keys b.keys) (keys_share b.keys a.keys) apart (keys_turned a.keys b.keys)) ports
    ∙ any_or (λ b. (a.guid == p) && ((b.guid == q) && keys_share a.keys b.keys)) (λ b. (a.guid == q) && ((b.guid == p) && keys_share b.keys a.keys)) ports
    ∙ ap (λ t. t || list_any (λ b. (a.guid == q) && ((b.guid == p) && keys_share b.keys a.keys)) ports) (any_and (a.guid == p) (λ b. (b.guid == q) && keys_share a.keys b.keys) ports)
    ∙ ap (λ t. ((a.guid == p) && shares_with ports a q) || t) (any_and (a.guid == q) (λ b. (b.guid == p) && keys_share b.keys a.keys) ports)

-- one more port before others
or_in_turn : (x y : Bool) (own ahead turned later : Bool) → (x && y) ≡ false
    → ((x && ((y && own) || ahead)) || ((y && turned) || later)) ≡ (((x && ahead) || (y && turned)) || later)
or_in_turn true true own ahead turned later apart = absurd (cc)
or_in_turn true false own ahead turned later apart = rw (or_false ahead) refl
or_in_turn false true own ahead turned later apart = refl
or_in_turn false false own ahead turned later apart = refl

step_by : (y b k w : Bool) → (b && ((y && k) || w)) ≡ ((y && (b && k)) || (b && w))
step_by true true k w = refl
step_by true false k w = refl
step_by false true k w = refl
step_by false false k w = refl

shares_more : (p q : ℕ) (a : SubnetPort) (ports : List SubnetPort) → ((a.guid == p) && (a.guid == q)) ≡ false
    → ports_share (a ∷ ports) p q ≡ ((((a.guid == p) && shares_with ports a q) || ((a.guid == q) && turned_to a p ports)) || ports_share ports p q)
shares_more p q a ports apart =
    ap (λ t. ((a.guid == p) && shares_with (a ∷ ports) a q) || t)
    (any_alike (λ port. (port.guid == p) && shares_with (a ∷ ports) port q)
    (λ port. ((a.guid == q) && ((port.guid == p) && keys_share port.keys a.keys)) || ((port.guid == p) && shares_with ports port q))
    (λ port. step_by (a.guid == q) (port.guid == p) (keys_share port.keys a.keys) (shares_with ports port q)) ports
    ∙ any_or (λ port. (a.guid == q) && ((port.guid == p) && keys_share port.keys a.keys)) (λ port. (port.guid == p) && shares_with ports port q) ports
    ∙ ap (λ t. t || ports_share ports p q) (any_and (a.guid == q) (λ port. (port.guid == p) && keys_share port.keys a.keys) ports))
    ∙ or_in_turn (a.guid == p) (a.guid == q) (keys_share a.keys a.keys) (shares_with ports a q) (turned_to a p ports) (ports_share ports p q) apart

not_both : (a p q : ℕ) → (q == p) ≡ false → ((a == p) && (a == q)) ≡ false
not_both a p q apart = grind (arith, nat_tests)

shares_name : (p q : ℕ) → (q == p) ≡ false → (ports : List SubnetPort) → ports_share ports p q ≡ list_any (is_of_both p q) (shares ports)
shares_name p q apart [] = refl
shares_name p q apart (a ∷ ports) =
    let own = not_both a.guid p q apart in
    shares_more p q a ports own
    ∙ ap (λ t. t || ports_share ports p q) (sym (any_flat (is_of_both p q) (pair_shares a) ports
    ∙ any_alike (λ b. list_any (is_of_both p q) (pair_shares a b)) (λ b. are_both p q a b && keys_share a.keys b.keys) (λ b. pair_names p q a b) ports
    ∙ named_with p q a ports own))
    ∙ ap (λ t. list_any (is_of_both p q) (flat_map (pair_shares a) ports) || t) (shares_name p q apart ports)
    ∙ sym (list_any-append (is_of_both p q) (flat_map (pair_shares a) ports) (shares ports))

pub near_is_to_share : NearIsToShare
near_is_to_share ports p q = elim (cases_Bool (q == p)) [
  | inl same ↦ rw same refl
  | inr apart ↦ rw apart (shares_name p q apart ports)
]
