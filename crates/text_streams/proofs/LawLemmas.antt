-- What the words of the clauses rule out.
use Rattle.std.proofs.Common.{◌≡◌, ap, refl, sym, ℕ, zero, suc, ◌<◌, Bool, true, false, List, [], ◌∷◌, ◌++◌, codes, bytes_eq, take, arith, Some, Result, Ok, Err}
use Rattle.std.proofs.lemmas.Bool.{false≢true}
use Rattle.std.proofs.lemmas.List.Elements.{All-head}
use Rattle.std.proofs.lemmas.Option.{same_Some}
use Rattle.std.specs.List.{All}
use Rattle.step_results.proofs.StepLemmas.{same_err}
use Rattle.step_results.specs.AtLine.{AtLine}
use Rattle.text_streams.specs.Laws.{LateReportsAreNotInTime, OthersAreNoPart, OthersAreNotMade, ShortTextsEnd, is_one}
use Rattle.text_streams.specs.Reading.{AreInTime, IsInTime, Moment}

pub short_texts_end : ShortTextsEnd
short_texts_end bytes short endless = omega (arith, short, endless)

another : (n : ℕ) → codes "b" ≡ take n (codes "a") → ⊥
another zero is = cc
another (suc n) is = false≢true (sym (ap (λ (bytes : List ℕ). bytes_eq (take 1 bytes) (codes "b")) is))

twice : (n : ℕ) → codes "aa" ≡ take n (codes "a") → ⊥
twice zero is = cc
twice (suc zero) is = cc
twice (suc (suc n)) is = cc

lost : (n : ℕ) → [] ≡ codes "a" ++ take n (codes "a") → ⊥
lost n is = cc

pub others_are_no_part : OthersAreNoPart
others_are_no_part = record {
  another = λ part. another part.0 part.1;
  twice = λ part. twice part.0 part.1;
  lost = λ part. lost part.0 part.1;
  nothing = λ takes. let some : 0 < 0 = takes (omega arith) in omega (arith, some);
  half = λ writes. let all : codes "a" ≡ codes "ab" = writes.whole refl in cc;
  other = λ writes. another writes.part.0 writes.part.1;
}

-- ---- reads in time
two_are_not_one : (read : List ℕ) → codes "ab" ≡ read ++ codes "b" → read ≡ codes "ab" → ⊥
two_are_not_one read all is = let three : codes "ab" ≡ codes "abb" = rw is at all in cc

late : Moment
late = record { left = Some (codes "b"); written = Some [] }

late_alone : IsInTime (λ read. read) (Some (codes "ab")) (Some []) late → ⊥
unfolding late
late_alone in_time = let none : in_time.read ≡ [] = sym in_time.reported in let one : codes "ab" ≡ codes "b" = rw none at in_time.consumed in cc

late_among : AreInTime (λ read. read) (Some (codes "ab")) (Some []) (Some []) (Some (late ∷ [])) → ⊥
late_among runs =
    let same : runs.moments ≡ late ∷ [] = sym (same_Some _ _ runs.noted) in
    let all : All (IsInTime (λ read. read) (Some (codes "ab")) (Some [])) (late ∷ []) = rw same at runs.in_time in
    late_alone (All-head (IsInTime (λ read. read) (Some (codes "ab")) (Some [])) late [] all)

pub late_is_not : LateReportsAreNotInTime
unfolding late
late_is_not = record {
  late = λ in_time. let none : in_time.read ≡ [] = sym in_time.reported in let one : codes "ab" ≡ codes "b" = rw none at in_time.consumed in cc;
  early = λ in_time. two_are_not_one in_time.read in_time.consumed (sym in_time.reported);
  unread = λ in_time. in_time.consumed;
  noted = late_among;
}

-- ---- what is made
module _ (text : List ℕ) (is : text ≡ codes "a") where
  no_other_value : is_one text ≡ Ok false → ⊥
  no_other_value e = let same : ◌≡◌ {A = Result Bool (AtLine Bool)} (Ok true) (Ok false) = rw is at e in cc

  no_fault : is_one text ≡ Err (record { line = 1; cause = true }) → ⊥
  no_fault e = cc

pub others_are_not_made : OthersAreNotMade
others_are_not_made = record {
  value = λ made. no_other_value made.text (sym made.is_known) made.is_made;
  of_refused = λ made. let e : ◌≡◌ {A = Result Bool (AtLine Bool)} (Err (record { line = 1; cause = true })) (Ok true) = made.is_made in cc;
  fault = λ made. no_fault made.text (sym made.is_known) made.is_made;
  other_cause = λ made. let same = same_err (record { line = 1; cause = true }) (record { line = 1; cause = false }) made.is_made in
      false≢true (sym (ap (λ (at : AtLine Bool). at.cause) same));
  other_line = λ made. let same = same_err (record { line = 1; cause = true }) (record { line = 2; cause = true }) made.is_made in
      let two : ◌≡◌ {A = ℕ} 1 2 = ap (λ (at : AtLine Bool). at.line) same in omega (arith, two);
}
