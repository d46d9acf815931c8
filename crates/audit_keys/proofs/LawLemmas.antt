-- What the status means.
use Rattle.std.proofs.Common.{◌≡◌, ◌∙◌, arith, ℕ, zero, suc, Bool, true, false, not, ◌==◌, ◌&&◌, ◌||◌, List, [], ◌∷◌, ◌++◌, Option, Some, None, refl, sym, subst, ap, fold, length, replicate, slice_get, IfSome, inl, inr}
use Rattle.std.specs.List.{list_all, list_any}
use Rattle.std.proofs.lemmas.Bool.{and_parts, cases_Bool, eqb-true, false≢true, or_cases}
use Rattle.std.proofs.lemmas.Option.{same_Some}
use Rattle.std.proofs.lemmas.Bool.Decides.{nat_tests}
use Rattle.step_results.proofs.BoolLemmas.{false_more, implied, or_assoc}
use Rattle.pkey_rules.specs.PKey.{base_of}
use Rattle.audit_ports.specs.declared.port.AuditedPort.{AuditedPort}
use Rattle.audit_ports.specs.declared.port.Enforcement.{Enforcement}
use Rattle.audit_ports.specs.declared.port.FacingPort.{FacingPort}
use Rattle.audit_ports.specs.declared.port.HeldKeys.{HeldKeys}
use Rattle.audit_ports.specs.declared.port.TrunkLack.{TrunkLack}
use Rattle.audit_keys.specs.Differences.{are_clean, carries_all, enforces, facing_fits_by, fits_if_enforced, is_clean, keys_follow, tables_fit}
use Rattle.pkey_rules.specs.KeyTable.{holds}
use Rattle.audit_ports.specs.Held.{is_key, with_key}
use Rattle.audit_keys.specs.Laws.{FitsIfEnforced, HasKeys, HaveBases, HaveSameBases, HaveSameKeys, IsRight, OfEach, PassesTheRight, TablesThatFollowAreClean, TheStatusIsThatOfEachPort}

equal : (n : ℕ) → (n == n) ≡ true
equal n = grind (arith, nat_tests)

-- ---- numbers that are read of the elements of lists
module _ (f : ℕ → ℕ) where
  abbrev among : ℕ → List ℕ → Bool
  among n xs = list_any (λ x. f x == n) xs

  abbrev all_among : List ℕ → List ℕ → Bool
  all_among xs ys = list_all (λ x. among (f x) ys) xs

  all_means : (xs ys : List ℕ) → all_among xs ys ≡ true → (n : ℕ) → among n xs ≡ true → among n ys ≡ true
  all_means [] ys all n there = absurd (false≢true there)
  all_means (x ∷ xs) ys all n there =
      let parts = and_parts (among (f x) ys) (all_among xs ys) all in
      elim (or_cases (f x == n) (among n xs) there) [
        | inl here ↦ subst (λ (m : ℕ). among m ys ≡ true) (eqb-true (f x) n here) parts.0
        | inr later ↦ all_means xs ys parts.1 n later
      ]

  here_too : (x : ℕ) (xs : List ℕ) → among (f x) (x ∷ xs) ≡ true
  here_too x xs = rw (equal (f x)) refl

  later_too : (n x : ℕ) (xs : List ℕ) → among n xs ≡ true → among n (x ∷ xs) ≡ true
  later_too n x xs there = elim (cases_Bool (f x == n)) [
    | inl is ↦ rw is refl
    | inr other ↦ rw (other, there) refl
  ]

  means_all : (xs ys : List ℕ) → ((n : ℕ) → among n xs ≡ true → among n ys ≡ true) → all_among xs ys ≡ true
  means_all [] ys each = refl
  means_all (x ∷ xs) ys each =
      rw (each (f x) (here_too x xs), means_all xs ys (λ n there. each n (later_too n x xs there))) refl

  both_ways : (a b : Bool) → (a ≡ true → b ≡ true) → (b ≡ true → a ≡ true) → a ≡ b
  both_ways true b there back = sym (there refl)
  both_ways false true there back = back refl
  both_ways false false there back = refl

  pub same_means : (xs ys : List ℕ) → (all_among xs ys && all_among ys xs) ≡ true → (n : ℕ) → among n xs ≡ among n ys
  same_means xs ys same n =
      let parts = and_parts (all_among xs ys) (all_among ys xs) same in
      both_ways (among n xs) (among n ys) (λ there. all_means xs ys parts.0 n there) (λ there. all_means ys xs parts.1 n there)

  pub means_same : (xs ys : List ℕ) → ((n : ℕ) → among n xs ≡ among n ys) → (all_among xs ys && all_among ys xs) ≡ true
  means_same xs ys each =
      rw (means_all xs ys (λ n there. sym (each n) ∙ there), means_all ys xs (λ n there. each n ∙ there)) refl

-- ---- one port
keys_mean : (table : Option HeldKeys) (file : List ℕ) → keys_follow table file ≡ true → HasKeys table file
keys_mean None file is = absurd (false≢true is)
keys_mean (Some table) file is = record { held = table; read = refl; same = same_means (λ key. key) table.keys file is }

means_keys : (table : Option HeldKeys) (file : List ℕ) → HasKeys table file → keys_follow table file ≡ true
means_keys table file is = rw is.read (means_same (λ key. key) is.held.keys file is.same)

fit_means : (table adapter : Option HeldKeys) → tables_fit table adapter ≡ true → HaveBases table adapter
fit_means None adapter is = absurd (false≢true is)
fit_means (Some table) None is = absurd (false≢true is)
fit_means (Some table) (Some adapter) is =
    record { held = table; other = adapter; read = refl; other_read = refl; same = same_means base_of table.keys adapter.keys is }

means_fit : (table adapter : Option HeldKeys) → HaveBases table adapter → tables_fit table adapter ≡ true
means_fit table adapter is = rw (is.read, is.other_read) (means_same base_of is.held.keys is.other.keys is.same)

pub by_fits : (b fit : Bool) → (b ≡ true → fit ≡ true) → (not b || fit) ≡ true
by_fits true fit is = is refl
by_fits false fit is = refl

fits_means : (facing : FacingPort) (enforcement : Option Enforcement) (adapter : Option HeldKeys) → facing.enforcement ≡ enforcement
    → fits_if_enforced enforcement facing.table adapter ≡ true → FitsIfEnforced facing adapter
fits_means facing None adapter read is = absurd (false≢true is)
fits_means facing (Some enforcement) adapter read is = record {
  enforcement = enforcement;
  read = read;
  bases = λ on. fit_means facing.table adapter (implied (enforces enforcement) (tables_fit facing.table adapter) is on);
}

means_fits : (facing : FacingPort) (adapter : Option HeldKeys) → FitsIfEnforced facing adapter
    → fits_if_enforced facing.enforcement facing.table adapter ≡ true
means_fits facing adapter is =
    rw is.read (by_fits (enforces is.enforcement) (tables_fit facing.table adapter) (λ on. means_fit facing.table adapter (is.bases on)))

facing_means : (facing : Option FacingPort) (adapter : Option HeldKeys) → facing_fits_by facing adapter ≡ true
    → IfSome facing (λ (f : FacingPort). FitsIfEnforced f adapter)
facing_means None adapter is = tt
facing_means (Some facing) adapter is = fits_means facing facing.enforcement adapter refl is

means_facing : (facing : Option FacingPort) (adapter : Option HeldKeys) → IfSome facing (λ (f : FacingPort). FitsIfEnforced f adapter)
    → facing_fits_by facing adapter ≡ true
means_facing None adapter is = refl
means_facing (Some facing) adapter is = means_fits facing adapter is

pub none_lacking : (lacks : List TrunkLack) → (length lacks == 0) ≡ true → lacks ≡ []
none_lacking [] is = refl
none_lacking (lack ∷ lacks) is = let none : suc (length lacks) ≡ 0 = eqb-true (suc (length lacks)) 0 is in absurd (omega (arith, none))

pub lacking_none : (port : AuditedPort) → port.lacks ≡ [] → carries_all port ≡ true
lacking_none port none = ap (λ (lacks : List TrunkLack). length lacks == 0) none

pub port_means : (port : AuditedPort) → is_clean port ≡ true → IsRight port
port_means port is =
    let parts = and_parts (keys_follow port.table port.file) (facing_fits_by port.facing port.table && carries_all port) is in
    let others = and_parts (facing_fits_by port.facing port.table) (carries_all port) parts.1 in
    record {
      keys = keys_mean port.table port.file parts.0;
      bases = facing_means port.facing port.table others.0;
      trunks = none_lacking port.lacks others.1;
    }

pub means_port : (port : AuditedPort) → IsRight port → is_clean port ≡ true
means_port port is =
    rw (means_keys port.table port.file is.keys, means_facing port.facing port.table is.bases) (lacking_none port is.trunks)

pub the_right_ports_pass : PassesTheRight is_clean
the_right_ports_pass port = (port_means port, means_port port)

-- ---- all of them
module _ (rule : AuditedPort → Bool) (Is : AuditedPort → Type 0) (rule_means : (port : AuditedPort) → rule port ≡ true → Is port)
    (means_rule : (port : AuditedPort) → Is port → rule port ≡ true) where
  pub all_mean : (ports : List AuditedPort) → list_all rule ports ≡ true → OfEach Is ports
  all_mean [] is place port there = cc
  all_mean (first ∷ ports) is zero port there =
      subst (λ (p : AuditedPort). Is p) (same_Some first port there) (rule_means first (and_parts (rule first) (list_all rule ports) is).0)
  all_mean (first ∷ ports) is (suc place) port there = all_mean ports (and_parts (rule first) (list_all rule ports) is).1 place port there

  pub mean_all : (ports : List AuditedPort) → OfEach Is ports → list_all rule ports ≡ true
  mean_all [] each = refl
  mean_all (first ∷ ports) each =
      rw (means_rule first (each 0 first refl), mean_all ports (λ place port there. each (suc place) port there)) refl

pub the_status_is_that_of_each_port : TheStatusIsThatOfEachPort
the_status_is_that_of_each_port ports =
    (all_mean is_clean IsRight port_means means_port ports, mean_all is_clean IsRight port_means means_port ports)

-- ---- tables that follow: empty places add nothing, and each key of the file is there
nothing_added : (n : ℕ) (so_far : List ℕ) → fold with_key so_far (replicate n 0) ≡ so_far
nothing_added zero so_far = refl
nothing_added (suc n) so_far = nothing_added n so_far

begun_later : (before : ℕ) (file : List ℕ) (behind : ℕ)
    → fold with_key [] (replicate before 0 ++ file ++ replicate behind 0) ≡ fold with_key [] (file ++ replicate behind 0)
begun_later zero file behind = refl
begun_later (suc before) file behind = begun_later before file behind

held_of_both : (key : ℕ) (xs ys : List ℕ) → holds key (xs ++ ys) ≡ (holds key xs || holds key ys)
held_of_both key [] ys = refl
held_of_both key (x ∷ xs) ys = elim (cases_Bool (x == key)) [
  | inl is ↦ rw is refl
  | inr other ↦ rw other (held_of_both key xs ys)
]

-- a key that is there is not added again
one_more : (x : ℕ) (so_far : List ℕ) (key : ℕ) → is_key x ≡ true → holds key (with_key so_far x) ≡ (holds key so_far || (x == key))
one_more x so_far key is = elim (cases_Bool (holds x so_far)) [
  | inl there ↦ rw (is, there) (again there)
  | inr new ↦ rw (is, new) (held_of_both key so_far (x ∷ []) ∙ ap (λ (b : Bool). holds key so_far || b) (sym (false_more (x == key))))
]
  where
    again : holds x so_far ≡ true → holds key so_far ≡ (holds key so_far || (x == key))
    again there = elim (cases_Bool (x == key)) [
      | inl same ↦ let found : holds key so_far ≡ true = subst (λ (k : ℕ). holds k so_far ≡ true) (eqb-true x key same) there in rw found refl
      | inr other ↦ rw other (false_more (holds key so_far))
    ]

all_there : (file so_far : List ℕ) (behind key : ℕ) → list_all is_key file ≡ true
    → holds key (fold with_key so_far (file ++ replicate behind 0)) ≡ (holds key so_far || holds key file)
all_there [] so_far behind key all = ap (holds key) (nothing_added behind so_far) ∙ false_more (holds key so_far)
all_there (x ∷ file) so_far behind key all =
    let parts = and_parts (is_key x) (list_all is_key file) all in
    all_there file (with_key so_far x) behind key parts.1
    ∙ ap (λ (b : Bool). b || holds key file) (one_more x so_far key parts.0)
    ∙ or_assoc (holds key so_far) (x == key) (holds key file)

pub tables_that_follow_are_clean : TablesThatFollowAreClean
tables_that_follow_are_clean file before behind all =
    rw (begun_later before file behind)
    (means_same (λ key. key) (fold with_key [] (file ++ replicate behind 0)) file (λ key. all_there file [] behind key all))
