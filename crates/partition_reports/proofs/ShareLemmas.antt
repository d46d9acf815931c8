-- What is found by the bases of a port's keys is what P_Key tables share.
use Rattle.std.proofs.Common.{◌≡◌, ◌≢◌, ℕ, zero, suc, ◌+◌, ◌<◌, ◌≤◌, length, not, Bool, true, false, ◌==◌, ◌&&◌, if◌then◌else◌}
use Rattle.std.proofs.Common.{List, [], ◌∷◌, ◌++◌, Option, filter, map, refl, sym, ap, append_assoc, append-nil, subst, ◌||◌, ◌∙◌, inl, inr, arith}
use Rattle.std.specs.List.{flat_map, list_any, range_with_len, slice_index}
use Rattle.std.specs.List.Sorted.{IsStrictlyIncreasing}
use Rattle.std.proofs.lemmas.Bool.{and_parts, cases_Bool, eqb-true, false≢true, or_cases}
use Rattle.std.proofs.lemmas.Bool.Decides.{nat_tests}
use Rattle.std.proofs.lemmas.Grind.{flat_map-append}
use Rattle.std.proofs.lemmas.List.Elements.{filter-append}
use Rattle.std.proofs.lemmas.List.Folds.{flat_map-map}
use Rattle.std.proofs.lemmas.List.Kept.{IsStrictlyIncreasing-filter}
use Rattle.step_results.proofs.ListLemmas.{list_any_weaker}
use Rattle.step_results.proofs.RisingLemmas.{rises, same_rising}
use Rattle.pkey_rules.specs.KeyTable.{shares_base}
use Rattle.pkey_rules.specs.PKey.{base_of, is_full, matches}
use Rattle.subnet_model.specs.declared.subnet_port.SubnetPort.{SubnetPort}
use Rattle.partition_reports.specs.FoundShares.{AreBases, asked_text, base_text, found_text, has_match, pair_text, share_of}
use Rattle.partition_reports.specs.Shares.{Share, is_asked, pair_shares, share_line, shared_bases, shares, shares_text}

-- a text for those that pass is the text of those
pub flat_kept : (f : ℕ → List ℕ) (p : ℕ → Bool) (xs : List ℕ) → flat_map (λ x. if p x then f x else []) xs ≡ flat_map f (filter p xs)
flat_kept f p [] = refl
flat_kept f p (x ∷ xs) = elim (cases_Bool (p x)) [
  | inl here ↦ rw (here, flat_kept f p xs) refl
  | inr other ↦ rw (other, flat_kept f p xs) refl
]

pub any_kept : (p : ℕ → Bool) (n : ℕ) (xs : List ℕ) → p n ≡ true → list_any (λ x. x == n) (filter p xs) ≡ list_any (λ x. x == n) xs
any_kept p n [] e = refl
any_kept p n (x ∷ xs) e = elim (cases_Bool (p x)) [
  | inl here ↦ rw (here, any_kept p n xs e) refl
  | inr other ↦ rw (other, any_kept p n xs e) (sym (apart p n x xs e other (x == n) refl))
]
  where
    apart : (p : ℕ → Bool) (n x : ℕ) (xs : List ℕ) → p n ≡ true → p x ≡ false → (b : Bool) → (x == n) ≡ b → (b || list_any (λ y. y == n) xs) ≡ list_any (λ y. y == n) xs
    apart p n x xs e other true same = absurd (false≢true (sym other ∙ ap p (eqb-true x n same) ∙ e))
    apart p n x xs e other false differs = refl

any_dropped : (p : ℕ → Bool) (n : ℕ) (xs : List ℕ) → p n ≡ false → list_any (λ x. x == n) (filter p xs) ≡ false
any_dropped p n [] e = refl
any_dropped p n (x ∷ xs) e = elim (cases_Bool (p x)) [
  | inl here ↦ rw here (first p n x (filter p xs) e here (x == n) refl (any_dropped p n xs e))
  | inr other ↦ rw other (any_dropped p n xs e)
]
  where
    first : (p : ℕ → Bool) (n x : ℕ) (xs : List ℕ) → p n ≡ false → p x ≡ true
        → (b : Bool) → (x == n) ≡ b → list_any (λ y. y == n) xs ≡ false → (b || list_any (λ y. y == n) xs) ≡ false
    first p n x xs e here true same h = absurd (false≢true (sym e ∙ sym (ap p (eqb-true x n same)) ∙ here))
    first p n x xs e here false differs h = h

-- a list that rises and has all numbers that pass keeps what the whole range keeps
pub kept_alike : (p : ℕ → Bool) (xs ys : List ℕ) → IsStrictlyIncreasing xs → IsStrictlyIncreasing ys
    → ((n : ℕ) → p n ≡ true → list_any (λ x. x == n) xs ≡ list_any (λ y. y == n) ys) → filter p xs ≡ filter p ys
kept_alike p xs ys one other same =
    same_rising (filter p xs) (filter p ys) (rises (filter p xs) (IsStrictlyIncreasing-filter p xs one))
    (rises (filter p ys) (IsStrictlyIncreasing-filter p ys other)) (λ n. at n (p n) refl)
  where
    at : (n : ℕ) (b : Bool) → p n ≡ b → list_any (λ x. x == n) (filter p xs) ≡ list_any (λ y. y == n) (filter p ys)
    at n true e = any_kept p n xs e ∙ same n e ∙ sym (any_kept p n ys e)
    at n false e = any_dropped p n xs e ∙ sym (any_dropped p n ys e)

-- ---- the whole range of bases
pub range_rises : (a n k : ℕ) → k + 1 < length (range_with_len a n) → slice_index (range_with_len a n) k < slice_index (range_with_len a n) (k + 1)
range_rises a zero k h = absurd (omega (arith, h))
range_rises a (suc zero) zero h = absurd (omega (arith, h))
range_rises a (suc (suc n)) zero h = omega arith
range_rises a (suc n) (suc k) h =
    let next : suc k + 1 ≡ suc (k + 1) = omega arith in
    subst (λ (j : ℕ). slice_index (range_with_len a (suc n)) (suc k) < slice_index (range_with_len a (suc n)) j) (sym next)
    (range_rises (a + 1) n k (omega (arith, h)))

pub in_range : (a n b : ℕ) → a ≤ b → b < a + n → list_any (λ y. y == b) (range_with_len a n) ≡ true
in_range a zero b low high = absurd (omega (arith, low, high))
in_range a (suc n) b low high =
    at (a == b) refl
    (λ apart. let differ : a ≢ b = grind (arith, nat_tests, apart) in in_range (a + 1) n b (omega (arith, low, differ)) (omega (arith, high)))
  where
    at : (t : Bool) → (a == b) ≡ t → ((a == b) ≡ false → list_any (λ y. y == b) (range_with_len (a + 1) n) ≡ true)
        → (t || list_any (λ y. y == b) (range_with_len (a + 1) n)) ≡ true
    at true same later = refl
    at false apart later = later apart

-- a base under which keys match is one
matched : (base key : ℕ) (qs : List ℕ) → list_any (λ q. (base_of q == base) && matches q key) qs ≡ true → 1 ≤ base
matched base key [] h = absurd (cc)
matched base key (q ∷ qs) h = elim (or_cases ((base_of q == base) && matches q key) (list_any (λ r. (base_of r == base) && matches r key) qs) h) [
  | inl here ↦
      let both = and_parts (base_of q == base) (matches q key) here in
      let same : base_of q ≡ base = eqb-true (base_of q) base both.0 in
      let full : Bool = is_full q || is_full key in
      let kept = and_parts (base_of q == base_of key) (not (base_of q == 0) && full) both.1 in
      let named = (and_parts (not (base_of q == 0)) full kept.1).0 in
      let some : base_of q ≢ 0 = grind (arith, nat_tests, named) in
      omega (arith, same, some)
  | inr later ↦ matched base key qs later
]

pub is_shared_base : (base : ℕ) (ps qs : List ℕ) → shares_base base ps qs ≡ true → (1 ≤ base) × (base < 32768)
is_shared_base base [] qs h = absurd (cc)
is_shared_base base (p ∷ ps) qs h =
    elim (or_cases ((base_of p == base) && list_any (λ q. (base_of q == base) && matches q p) qs) (shares_base base ps qs) h) [
      | inl here ↦
          let both = and_parts (base_of p == base) (list_any (λ q. (base_of q == base) && matches q p) qs) here in
          let same : base_of p ≡ base = eqb-true (base_of p) base both.0 in
          (matched base p qs both.1, omega (arith, same))
      | inr later ↦ is_shared_base base ps qs later
    ]

-- ---- texts
-- who may talk under a base has a key of it
pub has_base : (base : ℕ) (ps qs : List ℕ) → shares_base base ps qs ≡ true → list_any (λ key. base_of key == base) ps ≡ true
has_base base ps qs h =
    list_any_weaker (λ key. (base_of key == base) && has_match base key qs) (λ key. base_of key == base)
    (λ key both. (and_parts (base_of key == base) (has_match base key qs) both).0) ps h

pub pair_alike : (bases : List ℕ) (p q : SubnetPort) → AreBases p.keys bases → flat_map (base_text p q) bases ≡ pair_text p q
unfolding shared_bases
pair_alike bases p q are =
    flat_kept (λ base. share_line (share_of p q base)) (λ base. shares_base base p.keys q.keys) bases
    ∙ ap (flat_map (λ base. share_line (share_of p q base))) (kept_alike (λ base. shares_base base p.keys q.keys) bases (range_with_len 1 32767) are.rising (range_rises 1 32767)
    (λ n h. let fits = is_shared_base n p.keys q.keys h in
    are.same n ∙ has_base n p.keys q.keys h ∙ sym (in_range 1 32767 n fits.0 (omega (arith, fits.1)))))
    ∙ sym (flat_map-map share_line (share_of p q) (filter (λ base. shares_base base p.keys q.keys) (range_with_len 1 32767)))

-- a test that says the same of all
kept_by : {X Y : Type 0} (b : Bool) (f : X → Y) (p : Y → Bool) → ((x : X) → p (f x) ≡ b) → (xs : List X) → filter p (map f xs) ≡ (if b then map f xs else [])
kept_by true f p same [] = refl
kept_by false f p same [] = refl
kept_by true f p same (x ∷ xs) = rw (same x, kept_by true f p same xs) refl
kept_by false f p same (x ∷ xs) = rw (same x, kept_by false f p same xs) refl

abbrev is_reported : Option ℕ → Share → Bool
is_reported asked share = is_asked asked share.first share.second

lines_if : (b : Bool) (all : List Share) → (if b then flat_map share_line all else []) ≡ flat_map share_line (if b then all else [])
lines_if true all = refl
lines_if false all = refl

asked_alike : (asked : Option ℕ) (p q : SubnetPort) → asked_text asked p q ≡ flat_map share_line (filter (is_reported asked) (pair_shares p q))
asked_alike asked p q =
    lines_if (is_asked asked p q) (pair_shares p q)
    ∙ ap (flat_map share_line) (sym (kept_by (is_asked asked p q) (share_of p q) (is_reported asked) (λ base. refl) (shared_bases p.keys q.keys)))

others_alike : (asked : Option ℕ) (p : SubnetPort) (others : List SubnetPort)
    → flat_map (asked_text asked p) others ≡ flat_map share_line (filter (is_reported asked) (flat_map (pair_shares p) others))
others_alike asked p [] = refl
others_alike asked p (q ∷ others) =
    let rest = flat_map (pair_shares p) others in
    ap (λ text. text ++ flat_map (asked_text asked p) others) (asked_alike asked p q)
    ∙ ap (λ text. flat_map share_line (filter (is_reported asked) (pair_shares p q)) ++ text) (others_alike asked p others)
    ∙ sym (flat_map-append share_line (filter (is_reported asked) (pair_shares p q)) (filter (is_reported asked) rest))
    ∙ ap (flat_map share_line) (sym (filter-append (is_reported asked) (pair_shares p q) rest))

pub all_alike : (asked : Option ℕ) (ports : List SubnetPort) → found_text asked ports ≡ shares_text asked ports
all_alike asked [] = refl
all_alike asked (p ∷ ports) =
    let here = flat_map (pair_shares p) ports in
    ap (λ text. text ++ found_text asked ports) (others_alike asked p ports)
    ∙ ap (λ text. flat_map share_line (filter (is_reported asked) here) ++ text) (all_alike asked ports)
    ∙ sym (flat_map-append share_line (filter (is_reported asked) here) (filter (is_reported asked) (shares ports)))
    ∙ ap (flat_map share_line) (sym (filter-append (is_reported asked) here (shares ports)))

-- ---- the loop over the ports
pub text_more : (asked : Option ℕ) (old new whole : List ℕ) (rest others : List SubnetPort) (p : SubnetPort) → rest ≡ p ∷ others
    → new ≡ old ++ flat_map (asked_text asked p) others → old ++ found_text asked rest ≡ whole → new ++ found_text asked others ≡ whole
text_more asked old new whole rest others p split grown so_far =
    let before : old ++ (flat_map (asked_text asked p) others ++ found_text asked others) ≡ whole =
    subst (λ (ports : List SubnetPort). old ++ found_text asked ports ≡ whole) split so_far in
    ap (λ text. text ++ found_text asked others) grown
    ∙ append_assoc old (flat_map (asked_text asked p) others) (found_text asked others) ∙ before

pub text_ends : (asked : Option ℕ) (text whole : List ℕ) (rest : List SubnetPort) → length rest ≡ 0 → text ++ found_text asked rest ≡ whole → text ≡ whole
text_ends asked text whole [] ended so_far = sym (append-nil text) ∙ so_far
text_ends asked text whole (p ∷ rest) ended so_far = absurd (omega (arith, ended))
