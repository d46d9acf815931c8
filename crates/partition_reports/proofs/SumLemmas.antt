-- As many pairs may talk in a partition as its members make, full ones and others.
use Rattle.std.proofs.Common.{◌≡◌, ◌≢◌, ℕ, zero, suc, ◌+◌, ◌-◌, ◌*◌, ◌/◌, ◌<◌, ◌≤◌, nat_le, Bool, true, false, not, ◌==◌, ◌&&◌, ◌||◌, if◌then◌else◌, List, [], ◌∷◌, ◌++◌, count_by, filter, get_or, length, take, map, refl, sym, ap, ap₂, ◌∙◌, inl, inr, arith}
use Rattle.std.specs.List.{flat_map, list_all, list_any, range_with_len}
use Rattle.std.proofs.lemmas.List.{flat_map_more, take_more}
use Rattle.partition_file.specs.Members.{bases_in}
use Rattle.partition_file.specs.declared.heading.Heading.{Heading}
use Rattle.std.proofs.lemmas.Bool.{and_parts, cases_Bool, eqb-true, false≢true, leb-true}
use Rattle.std.proofs.lemmas.Bool.Decides.{nat_tests}
use Rattle.std.proofs.lemmas.List.Sums.{sum_by-append, sum_by-cons}
use Rattle.std.proofs.Math.Nat.{mul-suc, suc-mul}
use Rattle.std.proofs.lemmas.Nat.{div-mul-add}
use Rattle.step_results.proofs.ListLemmas.{list_any_weaker}
use Rattle.pkey_rules.specs.KeyTable.{has_base, shares_base}
use Rattle.pkey_rules.specs.PKey.{base_of, is_base, is_full, matches}
use Rattle.subnet_model.specs.declared.subnet_port.SubnetPort.{SubnetPort}
use Rattle.partition_reports.specs.FoundShares.{has_match, share_of}
use Rattle.partition_reports.specs.Pairs.{pair_count}
use Rattle.partition_reports.specs.Shares.{Share, pair_shares, shared_bases, shares}
use Rattle.partition_reports.specs.Sums.{is_full_member, is_member, sum_line, sum_of, sums_text}
use Rattle.partition_reports.proofs.ShareLemmas.{is_shared_base}

-- ---- P_Key tables
-- some key of this base is a full member's
abbrev pub full_in : ℕ → List ℕ → Bool
full_in base keys = list_any (λ key. (base_of key == base) && is_full key) keys

-- both have the base, and one of them as a full member
abbrev pub may_talk : ℕ → List ℕ → List ℕ → Bool
may_talk base ps qs = has_base base ps && (has_base base qs && (full_in base ps || full_in base qs))

pub full_is_member : (base : ℕ) (keys : List ℕ) → full_in base keys ≡ true → has_base base keys ≡ true
full_is_member base keys some =
    list_any_weaker (λ key. (base_of key == base) && is_full key) (λ key. base_of key == base)
    (λ key both. (and_parts (base_of key == base) (is_full key) both).0) keys some

matched_step : (fq fk hb fi : Bool) → (fi ≡ true → hb ≡ true) → ((fq || fk) || (hb && (fk || fi))) ≡ (fk || (fq || fi))
matched_step true true hb fi h = refl
matched_step true false hb fi h = refl
matched_step false true hb fi h = refl
matched_step false false true fi h = refl
matched_step false false false true h = h refl
matched_step false false false false h = refl

-- a key of the base matches those of the base if it is full, and else the full ones
matched_by : (base key : ℕ) (qs : List ℕ) → (base == 0) ≡ false → (base_of key == base) ≡ true
    → has_match base key qs ≡ (has_base base qs && (is_full key || full_in base qs))
matched_by base key [] some is = refl
matched_by base key (q ∷ qs) some is = elim (cases_Bool (base_of q == base)) [
  | inl here ↦
      let same : base_of q ≡ base = eqb-true (base_of q) base here in
      let other : base_of key ≡ base = eqb-true (base_of key) base is in
      let match : matches q key ≡ (is_full q || is_full key) = rw (same, other, self base, some) refl in
      rw (here, match, matched_by base key qs some is) (matched_step (is_full q) (is_full key) (has_base base qs) (full_in base qs) (full_is_member base qs))
  | inr apart ↦ rw (apart, matched_by base key qs some is) refl
]
  where
    self : (n : ℕ) → (n == n) ≡ true
    self n = grind (arith, nat_tests)

talk_step : (hbq fp fiq hbp fip : Bool) → (fip ≡ true → hbp ≡ true)
    → ((hbq && (fp || fiq)) || (hbp && (hbq && (fip || fiq)))) ≡ (hbq && ((fp || fip) || fiq))
talk_step false fp fiq true fip h = refl
talk_step false fp fiq false fip h = refl
talk_step true true fiq hbp fip h = refl
talk_step true false true hbp true h = refl
talk_step true false true hbp false h = refl
talk_step true false false true fip h = refl
talk_step true false false false true h = h refl
talk_step true false false false false h = refl

pub talk_by : (base : ℕ) (ps qs : List ℕ) → (base == 0) ≡ false → shares_base base ps qs ≡ may_talk base ps qs
talk_by base [] qs some = refl
talk_by base (p ∷ ps) qs some = elim (cases_Bool (base_of p == base)) [
  | inl here ↦
      rw (here, matched_by base p qs some here, talk_by base ps qs some)
      (talk_step (has_base base qs) (is_full p) (full_in base qs) (has_base base ps) (full_in base ps) (full_is_member base ps))
  | inr apart ↦ rw (apart, talk_by base ps qs some) refl
]

-- ---- shares of two ports
abbrev pub one_if : Bool → ℕ
one_if so = if so then 1 else 0

count_made : (base : ℕ) (p q : SubnetPort) (xs : List ℕ) → count_by (λ share. share.base == base) (map (share_of p q) xs) ≡ count_by (λ x. x == base) xs
count_made base p q [] = refl
count_made base p q (x ∷ xs) =
    sum_by-cons (λ share. one_if (share.base == base)) (share_of p q x) (map (share_of p q) xs)
    ∙ ap (λ n. one_if (x == base) + n) (count_made base p q xs) ∙ sym (sum_by-cons (λ y. one_if (y == base)) x xs)

pub nothing_added : (n : ℕ) → 0 + n ≡ n
nothing_added n = omega arith

count_kept : (base : ℕ) (p : ℕ → Bool) (xs : List ℕ) → count_by (λ x. x == base) (filter p xs) ≡ (if p base then count_by (λ x. x == base) xs else 0)
count_kept base p [] = none (p base)
  where
    none : (b : Bool) → zero ≡ (if b then 0 else 0)
    none true = refl
    none false = refl
count_kept base p (x ∷ xs) = elim (cases_Bool (p x)) [
  | inl here ↦
      rw here (sum_by-cons (λ y. one_if (y == base)) x (filter p xs) ∙ ap (λ n. one_if (x == base) + n) (count_kept base p xs)
      ∙ taken (x == base) (p base) (λ same. sym (ap p (eqb-true x base same)) ∙ here) ∙ ap (λ (n : ℕ). if p base then n else 0) (sym (sum_by-cons (λ y. one_if (y == base)) x xs)))
  | inr apart ↦
      rw apart (count_kept base p xs
      ∙ left (x == base) (p base) (λ same. sym (ap p (eqb-true x base same)) ∙ apart) ∙ ap (λ (n : ℕ). if p base then n else 0) (sym (sum_by-cons (λ y. one_if (y == base)) x xs)))
]
  where
    rest : ℕ
    rest = count_by (λ y. y == base) xs

    taken : (same passes : Bool) → (same ≡ true → passes ≡ true) → one_if same + (if passes then rest else 0) ≡ (if passes then one_if same + rest else 0)
    taken same true h = refl
    taken true false h = absurd (false≢true (h refl))
    taken false false h = refl

    left : (same passes : Bool) → (same ≡ true → passes ≡ false) → (if passes then rest else 0) ≡ (if passes then one_if same + rest else 0)
    left same false h = refl
    left true true h = absurd (false≢true (sym (h refl)))
    left false true h = sym (nothing_added rest)

count_before : (base a n : ℕ) → base < a → count_by (λ x. x == base) (range_with_len a n) ≡ 0
count_before base a zero low = refl
count_before base a (suc n) low =
    let apart : (a == base) ≡ false = grind (arith, nat_tests, low) in
    sum_by-cons (λ x. one_if (x == base)) a (range_with_len (a + 1) n) ∙ rw apart (nothing_added (count_by (λ x. x == base) (range_with_len (a + 1) n)) ∙ count_before base (a + 1) n (omega (arith, low)))

count_in_range : (base a n : ℕ) → a ≤ base → base < a + n → count_by (λ x. x == base) (range_with_len a n) ≡ 1
count_in_range base a zero low high = absurd (omega (arith, low, high))
count_in_range base a (suc n) low high =
    sum_by-cons (λ x. one_if (x == base)) a (range_with_len (a + 1) n) ∙ at (a == base) refl
    (λ apart. let differ : a ≢ base = grind (arith, nat_tests, apart) in count_in_range base (a + 1) n (omega (arith, low, differ)) (omega (arith, high)))
  where
    rest : ℕ
    rest = count_by (λ x. x == base) (range_with_len (a + 1) n)

    at : (b : Bool) → (a == base) ≡ b → ((a == base) ≡ false → rest ≡ 1) → one_if b + rest ≡ 1
    at true same later = let is : a ≡ base = eqb-true a base same in ap (λ (m : ℕ). 1 + m) (count_before base (a + 1) n (omega (arith, is)))
    at false apart later = nothing_added rest ∙ later apart

of_pair : (base : ℕ) (p q : SubnetPort) → is_base base ≡ true
    → count_by (λ share. share.base == base) (pair_shares p q) ≡ one_if (may_talk base p.keys q.keys)
unfolding shared_bases
of_pair base p q is =
    let parts = and_parts (nat_le 1 base) (nat_le base 32767) is in
    let low : 1 ≤ base = leb-true 1 base parts.0 in
    let high : base ≤ 32767 = leb-true base 32767 parts.1 in
    let some : (base == 0) ≡ false = grind (arith, nat_tests, low) in
    count_made base p q (shared_bases p.keys q.keys) ∙ count_kept base (λ one. shares_base one p.keys q.keys) (range_with_len 1 32767)
    ∙ ap (λ (n : ℕ). if shares_base base p.keys q.keys then n else 0) (count_in_range base 1 32767 low (omega (arith, high)))
    ∙ ap one_if (talk_by base p.keys q.keys some)

-- ---- shares of a port with those behind it
abbrev pub picked : (member full : Bool) → (members fulls : ℕ) → ℕ
picked member full members fulls = if member then (if full then members else fulls) else 0

abbrev count_members : ℕ → List SubnetPort → ℕ
count_members base ports = count_by (is_member base) ports

abbrev count_full : ℕ → List SubnetPort → ℕ
count_full base ports = count_by (is_full_member base) ports

row_step : (mp fp mq fq : Bool) (members fulls : ℕ) → (fq ≡ true → mq ≡ true)
    → one_if (mp && (mq && (fp || fq))) + picked mp fp members fulls ≡ picked mp fp (one_if mq + members) (one_if fq + fulls)
row_step false fp mq fq members fulls h = refl
row_step true true true fq members fulls h = refl
row_step true true false fq members fulls h = refl
row_step true false true fq members fulls h = refl
row_step true false false true members fulls h = absurd (false≢true (h refl))
row_step true false false false members fulls h = refl

row : (base : ℕ) (p : SubnetPort) (ports : List SubnetPort) → is_base base ≡ true
    → count_by (λ share. share.base == base) (flat_map (pair_shares p) ports) ≡ picked (is_member base p) (is_full_member base p) (count_members base ports) (count_full base ports)
row base p [] is = none (is_member base p) (is_full_member base p)
  where
    none : (a b : Bool) → zero ≡ picked a b 0 0
    none true true = refl
    none true false = refl
    none false b = refl
row base p (q ∷ ports) is =
    sum_by-append (λ share. one_if (share.base == base)) (pair_shares p q) (flat_map (pair_shares p) ports)
    ∙ ap₂ (λ (m n : ℕ). m + n) (of_pair base p q is) (row base p ports is)
    ∙ row_step (is_member base p) (is_full_member base p) (is_member base q) (is_full_member base q) (count_members base ports) (count_full base ports) (full_is_member base q.keys)
    ∙ ap₂ (picked (is_member base p) (is_full_member base p)) (sym (sum_by-cons (λ port. one_if (is_member base port)) q ports)) (sym (sum_by-cons (λ port. one_if (is_full_member base port)) q ports))

-- ---- all shares under a base, twice
abbrev pub twice_all : (members full : ℕ) → ℕ
twice_all members full = full * (full - 1 + 2 * (members - full))

pub no_more_full : (base : ℕ) (ports : List SubnetPort) → count_full base ports ≤ count_members base ports
no_more_full base [] = omega arith
no_more_full base (p ∷ ports) =
    let rest = no_more_full base ports in
    let fulls = sum_by-cons (λ port. one_if (is_full_member base port)) p ports in
    let members = sum_by-cons (λ port. one_if (is_member base port)) p ports in
    let here = less (is_full_member base p) (is_member base p) (full_is_member base p.keys) in
    omega (arith, rest, fulls, members, here)
  where
    less : (a b : Bool) → (a ≡ true → b ≡ true) → one_if a ≤ one_if b
    less true true h = omega arith
    less true false h = absurd (false≢true (h refl))
    less false b h = omega arith

two_more : (n x : ℕ) → n * (x + 2) ≡ n * x + 2 * n
two_more n x =
    let e : x + 2 ≡ suc (suc x) = omega arith in
    let one = mul-suc n (suc x) in
    let two = mul-suc n x in
    rw e (omega (arith, one, two))

-- one more limited member
pub limited_more : (members full all : ℕ) → full ≤ members → all * 2 ≡ twice_all members full → (full + all) * 2 ≡ twice_all (1 + members) full
limited_more members full all less is =
    let next : (full - 1 + 2 * (1 + members - full)) ≡ (full - 1 + 2 * (members - full)) + 2 = omega (arith, less) in
    let grown = two_more full (full - 1 + 2 * (members - full)) in
    rw next (omega (arith, is, grown))

-- one more full member
pub full_more : (members full all : ℕ) → full ≤ members → all * 2 ≡ twice_all members full → (members + all) * 2 ≡ twice_all (1 + members) (1 + full)
full_more members zero all less is = omega (arith, is)
full_more members (suc n) all less is =
    let x : ℕ = suc n - 1 + 2 * (members - suc n) in
    let next : 1 + suc n - 1 + 2 * (1 + members - (1 + suc n)) ≡ suc x = omega (arith, less) in
    let more : 1 + suc n ≡ suc (suc n) = omega arith in
    let one = suc-mul (suc n) (suc x) in
    let two = mul-suc (suc n) x in
    let so_far : all * 2 ≡ suc n * x = is in
    omega (arith, less, one, two, so_far) ∙ sym (ap₂ (λ (a b : ℕ). a * b) more next)

total : (base : ℕ) (ports : List SubnetPort) → is_base base ≡ true
    → count_by (λ share. share.base == base) (shares ports) * 2 ≡ twice_all (count_members base ports) (count_full base ports)
total base [] is = refl
total base (p ∷ ports) is =
    let all = sum_by-append (λ share. one_if (share.base == base)) (flat_map (pair_shares p) ports) (shares ports) ∙ ap (λ n. n + count_by (λ share. share.base == base) (shares ports)) (row base p ports is) in
    rw (all, sum_by-cons (λ port. one_if (is_member base port)) p ports, sum_by-cons (λ port. one_if (is_full_member base port)) p ports)
    (grown (is_member base p) (is_full_member base p) (full_is_member base p.keys) (count_members base ports) (count_full base ports) (count_by (λ share. share.base == base) (shares ports))
    (no_more_full base ports) (total base ports is))
  where
    grown : (member full : Bool) → (full ≡ true → member ≡ true) → (members fulls all : ℕ) → fulls ≤ members → all * 2 ≡ twice_all members fulls
        → (picked member full members fulls + all) * 2 ≡ twice_all (one_if member + members) (one_if full + fulls)
    grown true true h members fulls all less is = full_more members fulls all less is
    grown true false h members fulls all less is = rw (nothing_added fulls) (limited_more members fulls all less is)
    grown false true h members fulls all less is = absurd (false≢true (h refl))
    grown false false h members fulls all less is = rw (nothing_added all, nothing_added members, nothing_added fulls) is

pub pairs_are_counted : (base : ℕ) (ports : List SubnetPort) → is_base base ≡ true
    → count_by (λ share. share.base == base) (shares ports) ≡ pair_count (count_by (is_member base) ports) (count_by (is_full_member base) ports)
pairs_are_counted base ports is =
    let n : ℕ = count_by (λ share. share.base == base) (shares ports) in
    let none : n * 2 + 0 ≡ n * 2 = omega arith in
    sym (div-mul-add n 2 0 (omega arith)) ∙ ap (λ (m : ℕ). m / 2) (none ∙ total base ports is)

-- ---- the lines of partitions, one after the other
pub base_at : (headings : List Heading) (i : ℕ) (d : Heading) → list_all is_base (bases_in headings) ≡ true → i < length headings
    → is_base (get_or headings i d).base ≡ true
base_at [] i d all inside = absurd (omega (arith, inside))
base_at (heading ∷ rest) zero d all inside = (and_parts (is_base heading.base) _ all).0
base_at (heading ∷ rest) (suc i) d all inside = base_at rest i d (and_parts (is_base heading.base) _ all).1 (omega (arith, inside))

pub line_more : (ports : List SubnetPort) (headings : List Heading) (i : ℕ) (d heading : Heading) → i < length headings → heading ≡ get_or headings i d
    → sums_text (take i headings) ports ++ sum_line (sum_of ports heading.base) ≡ sums_text (take (i + 1) headings) ports
line_more ports headings i d heading inside is =
    let f : Heading → List ℕ = λ one. sum_line (sum_of ports one.base) in
    ap (λ one. flat_map f (take i headings) ++ f one) is ∙ flat_map_more f [] (take i headings) (get_or headings i d)
    ∙ ap (flat_map f) (sym (take_more headings i d inside))
