-- One mark more.
use Rattle.std.proofs.Common.{◌≡◌, ◌≢◌, ◌∙◌, inl, inr, ap, refl, sym, ℕ, ◌<◌, Bool, true, false, ◌==◌, ◌||◌, List, length, get_or, slice_get, slice_set, arith, Option, Some, unwrap_or}
use Rattle.std.proofs.lemmas.Bool.{cases_Bool, eq-eqb, false≢true, or_right}
use Rattle.std.proofs.lemmas.Bool.Decides.{nat_tests}
use Rattle.std.proofs.lemmas.Option.{slice_get-get_or}
use Rattle.step_results.proofs.ElementLemmas.{get_other, get_written}
use Rattle.topo_file.specs.Rounds.{is_marked}

pub marked_more : (marks : List Bool) (i other : ℕ) → i < length marks → is_marked (slice_set marks i true) other ≡ (is_marked marks other || (i == other))
marked_more marks i other within = elim (cases_Bool (i == other)) [
  | inl here ↦
      let same : other ≡ i = grind (arith, nat_tests, here) in
      let now : slice_get (slice_set marks i true) i ≡ Some true = get_written marks i true (get_or marks i true) (slice_get-get_or marks i true within) in
      ap (λ (n : ℕ). unwrap_or (slice_get (slice_set marks i true) n) false) same ∙ ap (λ (o : Option Bool). unwrap_or o false) now
      ∙ sym (or_right (is_marked marks other) (i == other) here)
  | inr apart ↦
      let differ : other ≢ i = (λ same. let is : (i == other) ≡ true = eq-eqb i other (sym same) in false≢true (sym apart ∙ is)) in
      ap (λ (o : Option Bool). unwrap_or o false) (get_other marks i other true differ)
      ∙ sym (ap (λ (b : Bool). is_marked marks other || b) apart ∙ or_last (is_marked marks other))
]
  where
    or_last : (b : Bool) → (b || false) ≡ b
    or_last true = refl
    or_last false = refl
