-- Which fault is reported for one byte: the first in turn of those that hold there.
use Rattle.std.proofs.Common.{◌≡◌, ℕ, zero, suc, ◌+◌, ◌≤◌, Bool, true, false, cond, ◌==◌, List, [], ◌∷◌, Option, Some, None, Ok, Err, refl, sym, ap, subst, ◌∙◌, arith}
use Rattle.std.specs.List.{find}
use Rattle.std.proofs.lemmas.Bool.{eqb-true}
use Rattle.std.proofs.lemmas.Bool.Decides.{nat_tests}
use Rattle.partition_file.specs.declared.fault.PartitionCause.{PartitionCause}
use Rattle.partition_file.specs.declared.fault.PartitionCause.TheVariants.{BadCharacter, BadNumber, ReservedKey, UnknownFlag, BothMembership}
use Rattle.partition_file.specs.declared.fault.PartitionCause.TheVariants.{MgidItem, TooManyPartitions, Unfinished, BadFlagValue}
use Rattle.partition_file.specs.declared.piece.Delimiter.{Delimiter}
use Rattle.step_results.specs.Steps.{unless}
use Rattle.partition_file.specs.Pieces.{delimiter_of, is_allowed, piece_after}
use Rattle.partition_file.specs.Cases.{fault_of, has_fault, in_turn}
use Rattle.partition_file.specs.declared.token.Token.{Token}
use Rattle.partition_file.specs.Definitions.{after_byte, judged_as, judged_at, next}
use Rattle.partition_file.specs.ScanState.{ScanState}
use Rattle.partition_file.specs.Tokens.{token_of}
use Rattle.step_results.proofs.StepLemmas.{unless_err, unless_ok}
use Rattle.partition_file.specs.FirstFault.{faults_of, is_fault_at, turn}
use Rattle.partition_file.proofs.CaseLemmas.{none_there}

-- ---- the first fault in turn
abbrev reported_at : ℕ → PartitionCause
reported_at zero = BothMembership
reported_at (suc zero) = MgidItem
reported_at (suc (suc zero)) = BadCharacter
reported_at (suc (suc (suc zero))) = BadNumber
reported_at (suc (suc (suc (suc zero)))) = ReservedKey
reported_at (suc (suc (suc (suc (suc zero))))) = UnknownFlag
reported_at (suc (suc (suc (suc (suc (suc zero)))))) = TooManyPartitions
reported_at (suc (suc (suc (suc (suc (suc (suc zero))))))) = Unfinished
reported_at (suc (suc (suc (suc (suc (suc (suc (suc n)))))))) = BadFlagValue

by_turn : (fault : PartitionCause) → reported_at (turn fault) ≡ fault
by_turn BothMembership = refl
by_turn MgidItem = refl
by_turn BadCharacter = refl
by_turn BadNumber = refl
by_turn ReservedKey = refl
by_turn UnknownFlag = refl
by_turn TooManyPartitions = refl
by_turn Unfinished = refl
by_turn BadFlagValue = refl

same_turn : (f g : PartitionCause) → turn f ≡ turn g → f ≡ g
same_turn f g h = sym (by_turn f) ∙ ap reported_at h ∙ by_turn g

abbrev InOrder : ℕ → List PartitionCause → Type 0
InOrder n [] = Unit {0}
InOrder n (fault ∷ rest) = (turn fault ≡ n) × InOrder (n + 1) rest

all_in_order : InOrder 0 in_turn
all_in_order = (refl, (refl, (refl, (refl, (refl, (refl, (refl, (refl, (refl, tt)))))))))

found_there : (holds : PartitionCause → Bool) (faults : List PartitionCause) (f : PartitionCause) → find holds faults ≡ Some f → holds f ≡ true
found_there holds [] f h = absurd cc
found_there holds (fault ∷ rest) f h = by (holds fault) refl h (λ k. found_there holds rest f k)
  where
    by : (b : Bool) → holds fault ≡ b → cond b (Some fault) (find holds rest) ≡ Some f → (find holds rest ≡ Some f → holds f ≡ true) → holds f ≡ true
    by true e k later = (let same : fault ≡ f = grind arith in subst (λ (g : PartitionCause). holds g ≡ true) same e)
    by false e k later = later k

above : (n m : ℕ) (b : Bool) → (m == n) ≡ b → b ≡ false → n ≤ m → n + 1 ≤ m
above n m b e k h = grind (arith, nat_tests)

first_found : (holds : PartitionCause → Bool) (faults : List PartitionCause) (n : ℕ) (f g : PartitionCause) → InOrder n faults
    → find holds faults ≡ Some f → holds g ≡ true → n ≤ turn g → turn f ≤ turn g
first_found holds [] n f g order h k low = absurd cc
first_found holds (fault ∷ rest) n f g order h k low = by (holds fault) refl h (λ there next. first_found holds rest (n + 1) f g order.1 there k next)
  where
    later : (b : Bool) → (turn g == n) ≡ b → holds fault ≡ false → (n + 1 ≤ turn g → turn f ≤ turn g) → turn f ≤ turn g
    later true e none goes_on =
        absurd (let same : g ≡ fault = same_turn g fault (eqb-true (turn g) n e ∙ sym order.0) in let gone : holds g ≡ false = subst (λ (x : PartitionCause). holds x ≡ false) (sym same) none in cc)
    later false e none goes_on = goes_on (above n (turn g) false e refl low)

    by : (b : Bool) → holds fault ≡ b → cond b (Some fault) (find holds rest) ≡ Some f → (find holds rest ≡ Some f → n + 1 ≤ turn g → turn f ≤ turn g) → turn f ≤ turn g
    by true e there goes_on = (let same : fault ≡ f = grind arith in let turned : turn f ≡ n = ap turn (sym same) ∙ order.0 in omega (arith, turned, low))
    by false e there goes_on = later (turn g == n) refl e (goes_on there)

both_ways : (f g : PartitionCause) → turn f ≤ turn g → turn g ≤ turn f → f ≡ g
both_ways f g h k = same_turn f g (omega (arith, h, k))

-- what is found, if this one is there and none before it
found_so : (holds : PartitionCause → Bool) (o : Option PartitionCause) (f : PartitionCause) → find holds in_turn ≡ o → (o ≡ None → holds f ≡ false) → holds f ≡ true
    → ((g : PartitionCause) → holds g ≡ true → turn f ≤ turn g) → o ≡ Some f
found_so holds None f h none k first = absurd (let gone = none refl in cc)
found_so holds (Some g) f h none k first =
    ap (λ (x : PartitionCause). Some x) (both_ways g f (first_found holds in_turn 0 g f all_in_order h k (omega arith)) (first g (found_there holds in_turn g h)))

said_so : (s : ScanState) (delimiter : Delimiter) (token : Token) (f : PartitionCause) → has_fault s delimiter token f ≡ true
    → ((g : PartitionCause) → has_fault s delimiter token g ≡ true → turn f ≤ turn g) → fault_of s delimiter token ≡ Some f
unfolding fault_of
said_so s delimiter token f h first =
    found_so (has_fault s delimiter token) (find (has_fault s delimiter token) in_turn) f refl (λ none. none_there s delimiter token none f) h first

reported_there : (s : ScanState) (delimiter : Delimiter) (token : Token) (f : PartitionCause) → fault_of s delimiter token ≡ Some f → has_fault s delimiter token f ≡ true
unfolding fault_of
reported_there s delimiter token f h = found_there (has_fault s delimiter token) in_turn f h

reported_first : (s : ScanState) (delimiter : Delimiter) (token : Token) (f g : PartitionCause) → fault_of s delimiter token ≡ Some f
    → has_fault s delimiter token g ≡ true → turn f ≤ turn g
unfolding fault_of
reported_first s delimiter token f g h k = first_found (has_fault s delimiter token) in_turn 0 f g all_in_order h k (omega arith)

-- ---- one byte
refused_at : (s : ScanState) (o : Option Delimiter) (allowed : Bool) (piece : List ℕ) (f : PartitionCause) → faults_of s o allowed piece f ≡ true
    → ((g : PartitionCause) → faults_of s o allowed piece g ≡ true → turn f ≤ turn g) → judged_at s o allowed piece ≡ Err f
refused_at s (Some delimiter) allowed piece f h first =
    ap (λ (o : Option PartitionCause). unless o (next s delimiter (token_of s.at piece) piece)) (said_so s delimiter (token_of s.at piece) f h first)
refused_at s None true piece BadCharacter h first = absurd cc
refused_at s None false piece BadCharacter h first = refl
refused_at s None allowed piece BadNumber h first = absurd cc
refused_at s None allowed piece ReservedKey h first = absurd cc
refused_at s None allowed piece UnknownFlag h first = absurd cc
refused_at s None allowed piece BothMembership h first = absurd cc
refused_at s None allowed piece MgidItem h first = absurd cc
refused_at s None allowed piece TooManyPartitions h first = absurd cc
refused_at s None allowed piece Unfinished h first = absurd cc
refused_at s None allowed piece BadFlagValue h first = absurd cc

pub refused_here : (s : ScanState) (before : List ℕ) (byte : ℕ) (f : PartitionCause) → is_fault_at s before byte f ≡ true
    → ((g : PartitionCause) → is_fault_at s before byte g ≡ true → turn f ≤ turn g)
    → after_byte s (piece_after before) byte ≡ Err f
unfolding after_byte is_fault_at
refused_here s before byte f h first = refused_at s (delimiter_of byte) (is_allowed byte) (piece_after before) f h first

-- a byte that was refused has the fault, and none before it in turn
pub record IsReportedFor (holds : PartitionCause → Bool) (f : PartitionCause) : Type 0 where
  pub there : holds f ≡ true
  pub first : (g : PartitionCause) → holds g ≡ true → turn f ≤ turn g

reported_by : (s : ScanState) (delimiter : Delimiter) (token : Token) (piece : List ℕ) (f : PartitionCause) → judged_as s delimiter token piece ≡ Err f
    → IsReportedFor (has_fault s delimiter token) f
reported_by s delimiter token piece f h =
    let reported : fault_of s delimiter token ≡ Some f = unless_err (fault_of s delimiter token) (next s delimiter token piece) f h in
    record { there = reported_there s delimiter token f reported; first = λ other k. reported_first s delimiter token f other reported k }

only_character : (s : ScanState) (piece : List ℕ) (g : PartitionCause) → faults_of s None false piece g ≡ true → turn BadCharacter ≤ turn g
only_character s piece BadCharacter h = omega arith
only_character s piece BadNumber h = absurd cc
only_character s piece ReservedKey h = absurd cc
only_character s piece UnknownFlag h = absurd cc
only_character s piece BothMembership h = absurd cc
only_character s piece MgidItem h = absurd cc
only_character s piece TooManyPartitions h = absurd cc
only_character s piece Unfinished h = absurd cc
only_character s piece BadFlagValue h = absurd cc

reported_at_byte : (s : ScanState) (o : Option Delimiter) (allowed : Bool) (piece : List ℕ) (f : PartitionCause) → judged_at s o allowed piece ≡ Err f
    → IsReportedFor (faults_of s o allowed piece) f
reported_at_byte s (Some delimiter) allowed piece f h = reported_by s delimiter (token_of s.at piece) piece f h
reported_at_byte s None true piece f h = absurd cc
reported_at_byte s None false piece f h =
    let same : BadCharacter ≡ f = grind arith in
    subst (λ (g : PartitionCause). IsReportedFor (faults_of s None false piece) g) same (record { there = refl; first = λ g k. only_character s piece g k })

pub reported_here : (s : ScanState) (before : List ℕ) (byte : ℕ) (f : PartitionCause) → after_byte s (piece_after before) byte ≡ Err f → IsReportedFor (is_fault_at s before byte) f
unfolding after_byte is_fault_at
reported_here s before byte f h =
    let reported = reported_at_byte s (delimiter_of byte) (is_allowed byte) (piece_after before) f h in
    record { there = reported.there; first = reported.first }

no_character : (s : ScanState) (piece : List ℕ) (g : PartitionCause) → faults_of s None true piece g ≡ false
no_character s piece BadCharacter = refl
no_character s piece BadNumber = refl
no_character s piece ReservedKey = refl
no_character s piece UnknownFlag = refl
no_character s piece BothMembership = refl
no_character s piece MgidItem = refl
no_character s piece TooManyPartitions = refl
no_character s piece Unfinished = refl
no_character s piece BadFlagValue = refl

clean_at_byte : (s t : ScanState) (o : Option Delimiter) (allowed : Bool) (piece : List ℕ) → judged_at s o allowed piece ≡ Ok t → (g : PartitionCause)
    → faults_of s o allowed piece g ≡ false
clean_at_byte s t (Some delimiter) allowed piece h g =
    let token = token_of s.at piece in
    none_there s delimiter token (unless_ok (fault_of s delimiter token) (next s delimiter token piece) t h).0 g
clean_at_byte s t None true piece h g = no_character s piece g
clean_at_byte s t None false piece h g = absurd cc

pub clean_here : (s t : ScanState) (before : List ℕ) (byte : ℕ) → after_byte s (piece_after before) byte ≡ Ok t → (g : PartitionCause) → is_fault_at s before byte g ≡ false
unfolding after_byte is_fault_at
clean_here s t before byte h g = clean_at_byte s t (delimiter_of byte) (is_allowed byte) (piece_after before) h g
