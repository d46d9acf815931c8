-- Of a partition of which no key stands or is given nothing is printed.
use Rattle.std.proofs.Common.{◌≡◌, ◌≢◌, ◌∙◌, ap, arith, ℕ, zero, suc, ◌+◌, ◌<◌, ◌≤◌, Bool, true, false, not, ◌==◌, ◌&&◌, ◌||◌, List, [], ◌∷◌, ◌++◌, Option, Some, None, if◌then◌else◌, codes, count_by, filter, map, refl, sym, inl, inr}
use Rattle.std.specs.List.{flat_map, list_all, list_any, range_with_len}
use Rattle.std.proofs.lemmas.Bool.{and_parts, cases_Bool, eqb-true, false≢true, or_cases, or_parts}
use Rattle.std.proofs.lemmas.Bool.Decides.{nat_tests}
use Rattle.std.proofs.lemmas.List.Folds.{list_any-append}
use Rattle.std.proofs.lemmas.List.Sums.{sum_by-cons}
use Rattle.step_results.proofs.BoolLemmas.{or_true}
use Rattle.fabric_parts.specs.declared.cable.PortRef.{PortRef}
use Rattle.partition_reports.specs.declared.membership.Membership.TheVariants.{Outside}
use Rattle.partition_reports.specs.declared.pairs.Member.{Member}
use Rattle.partition_reports.specs.Membership.{has_full, is_member, membership_of}
use Rattle.partition_reports.specs.ChangedPairs.{new_pairs, pair_if}
use Rattle.pkey_rules.specs.KeyTable.{has_base}
use Rattle.pkey_rules.specs.PKey.{base_of}
use Rattle.partition_reports.proofs.ShareLemmas.{in_range, kept_alike, range_rises}
use Rattle.partition_reports.proofs.SumLemmas.{full_is_member, nothing_added}
use Rattle.topo_file.specs.declared.node.Node.{Node}
use Rattle.audit_ports.specs.declared.port.AuditedPort.{AuditedPort}
use Rattle.audit_ports.specs.declared.port.HeldKeys.{HeldKeys}
use Rattle.audit_keys.specs.Apart.{by_file, wide_at}
use Rattle.audit_keys.specs.Standing.{AreBasesOf, bases_of_keys, bases_of_port, bases_there, is_given, only_by_file, only_by_tables, pairs_at, pairs_text, port_bases, standing, standing_by, stands, stray_at, turned}

abbrev among : ℕ → List ℕ → Bool
among n xs = list_any (λ one. one == n) xs

-- ---- the bases of keys
zero_is_none : (n : ℕ) → (n == 0) ≡ false → (0 == n) ≡ false
zero_is_none n some = grind (arith, nat_tests, some)

bases_have : (base : ℕ) → (base == 0) ≡ false → (keys : List ℕ) → among base (bases_of_keys keys) ≡ has_base base keys
bases_have base some [] = refl
bases_have base some (key ∷ keys) = elim (cases_Bool (base_of key == 0)) [
  | inl none ↦
      let is : base_of key ≡ 0 = eqb-true (base_of key) 0 none in
      let other : (base_of key == base) ≡ false = ap (λ (n : ℕ). n == base) is ∙ zero_is_none base some in
      rw (none, other) (bases_have base some keys)
  | inr there ↦ rw (there, bases_have base some keys) refl
]

bases_fit : (n : ℕ) (keys : List ℕ) → among n (bases_of_keys keys) ≡ true → (1 ≤ n) × (n < 32768)
bases_fit n [] is = absurd (false≢true is)
bases_fit n (key ∷ keys) is = elim (cases_Bool (base_of key == 0)) [
  | inl none ↦ bases_fit n keys (rw none at is)
  | inr there ↦ elim (or_cases (base_of key == n) (among n (bases_of_keys keys)) (rw there at is)) [
    | inl here ↦
        let same : base_of key ≡ n = eqb-true (base_of key) n here in
        let some : base_of key ≢ 0 = grind (arith, nat_tests, there) in
        (omega (arith, same, some), omega (arith, same))
    | inr later ↦ bases_fit n keys later
  ]
]

outside : (base : ℕ) → (base == 0) ≡ false → (keys : List ℕ) → among base (bases_of_keys keys) ≡ false → membership_of base keys ≡ Outside
outside base some keys not_there =
    let none : has_base base keys ≡ false = sym (bases_have base some keys) ∙ not_there in
    elim (cases_Bool (has_full base keys)) [
      | inl full ↦ absurd (false≢true (sym none ∙ full_is_member base keys full))
      | inr limited ↦ rw (limited, none) refl
    ]

-- ---- one port
abbrev out : PortRef → Member
out port = record { port = port; after = Outside; before = Outside }

port_out : (base : ℕ) → (base == 0) ≡ false → (port : PortRef) (table : Option HeldKeys) (file : List ℕ)
    → among base (port_bases table file) ≡ false → standing_by base port table file ≡ out port
port_out base some port None file not_there = refl
port_out base some port (Some table) file not_there =
    let both = or_parts (among base (bases_of_keys table.keys)) (among base (bases_of_keys file))
    (sym (list_any-append (λ one. one == base) (bases_of_keys table.keys) (bases_of_keys file)) ∙ not_there) in
    rw (outside base some table.keys both.0, outside base some file both.1) refl

port_fits : (n : ℕ) (table : Option HeldKeys) (file : List ℕ) → among n (port_bases table file) ≡ true → (1 ≤ n) × (n < 32768)
port_fits n None file is = absurd (false≢true is)
port_fits n (Some table) file is =
    elim (or_cases (among n (bases_of_keys table.keys)) (among n (bases_of_keys file)) (sym (list_any-append (λ one. one == n) (bases_of_keys table.keys) (bases_of_keys file)) ∙ is)) [
      | inl here ↦ bases_fit n table.keys here
      | inr given ↦ bases_fit n file given
    ]

-- ---- all ports
more_there : (n : ℕ) (port : AuditedPort) (ports : List AuditedPort) → among n (bases_there (port ∷ ports)) ≡ (among n (bases_of_port port) || among n (bases_there ports))
more_there n port ports = list_any-append (λ one. one == n) (bases_of_port port) (bases_there ports)

all_fit : (n : ℕ) (ports : List AuditedPort) → among n (bases_there ports) ≡ true → (1 ≤ n) × (n < 32768)
all_fit n [] is = absurd (false≢true is)
all_fit n (port ∷ ports) is =
    elim (or_cases (among n (bases_of_port port)) (among n (bases_there ports)) (sym (more_there n port ports) ∙ is)) [
      | inl here ↦ port_fits n port.table port.file here
      | inr later ↦ all_fit n ports later
    ]

module _ (base : ℕ) (some : (base == 0) ≡ false) where
  none_stands : (ports : List AuditedPort) → among base (bases_there ports) ≡ false → count_by (stands base) ports ≡ 0
  none_stands [] not_there = refl
  none_stands (port ∷ ports) not_there =
      let both = or_parts (among base (bases_of_port port)) (among base (bases_there ports)) (sym (more_there base port ports) ∙ not_there) in
      sum_by-cons (λ one. if stands base one then 1 else 0) port ports
      ∙ rw (port_out base some port.port port.table port.file both.0) (nothing_added (count_by (stands base) ports) ∙ none_stands ports both.1)

  none_given : (ports : List AuditedPort) → among base (bases_there ports) ≡ false → count_by (is_given base) ports ≡ 0
  none_given [] not_there = refl
  none_given (port ∷ ports) not_there =
      let both = or_parts (among base (bases_of_port port)) (among base (bases_there ports)) (sym (more_there base port ports) ∙ not_there) in
      sum_by-cons (λ one. if is_given base one then 1 else 0) port ports
      ∙ rw (port_out base some port.port port.table port.file both.0) (nothing_added (count_by (is_given base) ports) ∙ none_given ports both.1)

  row_none : (p : Member) (qs : List Member) → is_member p.after ≡ false → flat_map (pair_if p) qs ≡ []
  row_none p [] is = refl
  row_none p (q ∷ qs) is = rw is (row_none p qs is)

  no_pairs : (f : AuditedPort → Member) → ((port : AuditedPort) → standing base port ≡ out port.port → is_member (f port).after ≡ false)
      → (ports : List AuditedPort) → among base (bases_there ports) ≡ false → new_pairs (map f ports) ≡ []
  no_pairs f each [] not_there = refl
  no_pairs f each (port ∷ ports) not_there =
      let both = or_parts (among base (bases_of_port port)) (among base (bases_there ports)) (sym (more_there base port ports) ∙ not_there) in
      rw (row_none (f port) (map f ports) (each port (port_out base some port.port port.table port.file both.0))) (no_pairs f each ports both.1)

  pub no_stray : (ports : List AuditedPort) → among base (bases_there ports) ≡ false → stray_at ports base ≡ []
  unfolding stray_at
  no_stray ports not_there = rw (none_stands ports not_there, none_given ports not_there) refl

  no_text : (nodes : List Node) (all : Bool) (sign : List ℕ) → pairs_text nodes all sign base [] ≡ []
  unfolding pairs_text
  no_text nodes true sign = refl
  no_text nodes false sign = refl

  pub no_pairs_at : (nodes : List Node) (all : Bool) (ports : List AuditedPort) → among base (bases_there ports) ≡ false → pairs_at nodes all ports base ≡ []
  unfolding pairs_at
  no_pairs_at nodes all ports not_there =
      rw (
        no_pairs (turned base) (λ port is. ap (λ (member : Member). is_member member.before) is) ports not_there,
        no_pairs (standing base) (λ port is. ap (λ (member : Member). is_member member.after) is) ports not_there,
        no_text nodes all (codes "- "),
        no_text nodes all (codes "+ "),
      ) refl

  pub no_wide_at : (ports : List AuditedPort) → among base (bases_there ports) ≡ false → wide_at ports base ≡ []
  unfolding wide_at
  no_wide_at ports not_there = rw (no_pairs (by_file base) (λ port is. ap (λ (member : Member). is_member member.before) is) ports not_there) refl

-- ---- what is said of all bases is said of those that are there
skip_range : {X : Type 0} (f : ℕ → List X) (p : ℕ → Bool) (a n : ℕ) → 1 ≤ a → ((m : ℕ) → 1 ≤ m → p m ≡ false → f m ≡ [])
    → flat_map f (range_with_len a n) ≡ flat_map f (filter p (range_with_len a n))
skip_range f p a zero low none = refl
skip_range {X = X} f p a (suc n) low none = elim (cases_Bool (p a)) [
  | inl here ↦ rw here (ap (λ (rest : List X). f a ++ rest) (skip_range f p (a + 1) n (omega (arith, low)) none))
  | inr apart ↦ rw (apart, none a low apart) (skip_range f p (a + 1) n (omega (arith, low)) none)
]

all_pass : (p : ℕ → Bool) (xs : List ℕ) → ((n : ℕ) → among n xs ≡ true → p n ≡ true) → filter p xs ≡ xs
all_pass p [] each = refl
all_pass p (x ∷ xs) each =
    let own : (x == x) ≡ true = grind (arith, nat_tests) in
    rw (each x (rw own refl), all_pass p xs (λ n there. each n (rw there (or_true (x == n))))) refl

pub over_bases : {X : Type 0} (f : ℕ → List X) (ports : List AuditedPort) (bases : List ℕ) → AreBasesOf ports bases
    → ((n : ℕ) → (n == 0) ≡ false → among n (bases_there ports) ≡ false → f n ≡ [])
    → flat_map f bases ≡ flat_map f (range_with_len 1 32767)
over_bases f ports bases are none =
    let p : ℕ → Bool = λ n. among n (bases_there ports) in
    ap (flat_map f) (sym (all_pass p bases (λ n there. sym (are.same n) ∙ there)))
    ∙ ap (flat_map f) (kept_alike p bases (range_with_len 1 32767) are.rising (range_rises 1 32767)
    (λ n there. let fits = all_fit n ports there in are.same n ∙ there ∙ sym (in_range 1 32767 n fits.0 (omega (arith, fits.1)))))
    ∙ sym (skip_range f p 1 32767 (omega arith) (λ m low apart. none m (grind (arith, nat_tests, low)) apart))
