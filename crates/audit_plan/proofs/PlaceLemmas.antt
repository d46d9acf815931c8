-- Places of nodes, and lists of them.
use Rattle.std.proofs.Common.{◌≡◌, ◌∙◌, inl, inr, ap, refl, sym, ℕ, zero, suc, ◌+◌, ◌<◌, ◌≤◌, Bool, true, false, ◌==◌, List, [], ◌∷◌, length, filter, arith, Option}
use Rattle.std.specs.List.{list_any, range_with_len}
use Rattle.std.specs.Option.{option_map_or}
use Rattle.std.proofs.lemmas.Bool.{cases_Bool, cases_lt, eq-eqb, false≢true, or_right}
use Rattle.std.proofs.lemmas.Bool.Decides.{nat_tests}
use Rattle.std.proofs.lemmas.Option.{slice_get_past}
use Rattle.topo_file.specs.Connectivity.{switches}
use Rattle.topo_file.specs.Node.{is_switch, is_switch_at}
use Rattle.topo_file.specs.declared.node.Node.{Node}

pub in_range : (k low many : ℕ) → low ≤ k → k < low + many → list_any (λ n. n == k) (range_with_len low many) ≡ true
in_range k low zero from to = absurd (omega (arith, from, to))
in_range k low (suc many) from to = elim (cases_Bool (low == k)) [
  | inl here ↦ rw here refl
  | inr other ↦ let apart : low ≡ k → ⊥ = (λ same. let is : (low == k) ≡ true = eq-eqb low k same in false≢true (sym other ∙ is)) in
      rw other (in_range k (low + 1) many (omega (arith, from, apart)) (omega (arith, to)))
]

pub in_kept : (p : ℕ → Bool) (k : ℕ) (xs : List ℕ) → p k ≡ true → list_any (λ n. n == k) xs ≡ true → list_any (λ n. n == k) (filter p xs) ≡ true
in_kept p k [] passes there = absurd (false≢true there)
in_kept p k (x ∷ xs) passes there = elim (cases_Bool (x == k)) [
  | inl here ↦ let same : k ≡ x = grind (arith, nat_tests, here) in let kept : p x ≡ true = ap p (sym same) ∙ passes in rw (kept, here) refl
  | inr other ↦ let later = in_kept p k xs passes (rw other at there) in elim (cases_Bool (p x)) [
    | inl keeps ↦ rw keeps (or_right (x == k) _ later)
    | inr drops ↦ rw drops later
  ]
]

pub within_nodes : (nodes : List Node) (place : ℕ) → is_switch_at nodes place ≡ true → place < length nodes
within_nodes nodes place is = elim (cases_lt place (length nodes)) [
  | inl less ↦ less
  | inr past ↦ absurd (false≢true (sym (ap (λ (o : Option Node). option_map_or is_switch o false) (slice_get_past nodes place past)) ∙ is))
]

pub is_listed : (nodes : List Node) (place : ℕ) → is_switch_at nodes place ≡ true → list_any (λ n. n == place) (switches nodes) ≡ true
is_listed nodes place is = in_kept (is_switch_at nodes) place (range_with_len 0 (length nodes)) is (in_range place 0 (length nodes) (omega arith) (let less = within_nodes nodes place is in omega (arith, less)))

-- ---- tests that agree keep the same
pub filter_alike : {X : Type 0} (p q : X → Bool) → ((x : X) → p x ≡ q x) → (xs : List X) → filter p xs ≡ filter q xs
filter_alike p q same [] = refl
filter_alike p q same (x ∷ xs) = elim (cases_Bool (q x)) [
  | inl here ↦ let there : p x ≡ true = same x ∙ here in rw (here, there, filter_alike p q same xs) refl
  | inr other ↦ let there : p x ≡ false = same x ∙ other in rw (other, there, filter_alike p q same xs) refl
]
