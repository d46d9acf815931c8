-- Each reason is named if and only if it holds, and a verdict that is not safe has one.
use Rattle.std.proofs.Common.{◌≡◌, ◌∙◌, ap, ap₂, append_assoc, arith, refl, subst, sym, ℕ, zero, suc, ◌+◌, nat_eq, Bool, true, false, ◌==◌, ◌&&◌, ◌||◌, not, List, [], ◌∷◌, ◌++◌, codes, drop, length, Option}
use Rattle.std.specs.List.{list_any, range_with_len, starts_with}
use Rattle.std.proofs.lemmas.Bool.{and_parts, false≢true}
use Rattle.step_results.proofs.BoolLemmas.{and_false, false_more, not_true}
use Rattle.fabric_parts.specs.declared.cable.PortRef.{PortRef}
use Rattle.audit_routes.specs.Laws.{has_word}
use Rattle.audit_net.specs.Net.{NetState}
use Rattle.audit_routes.specs.Verdict.{reasons, verdict_by, verdict_is_safe, with_reason}
use Rattle.audit_net.specs.declared.lids.Aim.{Aim}
use Rattle.audit_routes.specs.declared.verdict.Verdict.{Verdict}
use Rattle.audit_routes.proofs.ReasonLemmas.{none_by, not_empty, reaches_or_loses, some_reason, unsafe_routes_have_a_reason}
use Rattle.audit_multicast.specs.Laws.{AllReasonsAreNamed}
use Rattle.audit_multicast.specs.Verdict.{all_are_safe, all_reasons, joined}
use Rattle.audit_multicast.specs.declared.verdict.MulticastVerdict.{MulticastVerdict}

-- ---- a word in a text, place by place
abbrev found_in : (word text : List ℕ) → Bool
found_in word [] = false
found_in word (byte ∷ rest) = starts_with nat_eq (byte ∷ rest) word || found_in word rest

next_drop : (text : List ℕ) (low byte : ℕ) (rest : List ℕ) → drop low text ≡ byte ∷ rest → drop (suc low) text ≡ rest
next_drop [] zero byte rest is = cc
next_drop [] (suc low) byte rest is = cc
next_drop (x ∷ text) zero byte rest is = cc
next_drop (x ∷ text) (suc low) byte rest is = next_drop text low byte rest is

words_by : (word text : List ℕ) (low : ℕ) (rest : List ℕ) → drop low text ≡ rest
    → list_any (λ k. starts_with nat_eq (drop k text) word) (range_with_len low (length rest)) ≡ found_in word rest
words_by word text low [] is = refl
words_by word text low (byte ∷ rest) is =
    let one : suc low ≡ low + 1 = omega arith in
    ap₂ (λ (a b : Bool). a || b) (ap (λ (some : List ℕ). starts_with nat_eq some word) is)
    (words_by word text (low + 1) rest (subst (λ (k : ℕ). drop k text ≡ rest) one (next_drop text low byte rest is)))

has_is : (word text : List ℕ) → has_word word text ≡ found_in word text
has_is word text = words_by word text 0 text refl

-- ---- reasons are parted by a comma and a blank, which no word has
abbrev is_plain : List ℕ → Bool
is_plain word = not (length word == 0) && (not (list_any (λ byte. byte == 44) word) && not (list_any (λ byte. byte == 32) word))

either_false : (a b : Bool) → (a || b) ≡ false → (a ≡ false) × (b ≡ false)
either_false false b is = (refl, is)
either_false true b is = absurd (false≢true (sym is))

start_kept : (word xs ys : List ℕ) → list_any (λ byte. byte == 44) word ≡ false → starts_with nat_eq (xs ++ 44 ∷ ys) word ≡ starts_with nat_eq xs word
start_kept [] xs ys none = refl
start_kept (c ∷ cs) [] ys none = let parts = either_false (c == 44) _ none in ap (λ (b : Bool). b && starts_with nat_eq ys cs) parts.0
start_kept (c ∷ cs) (x ∷ xs) ys none =
    let parts = either_false (c == 44) _ none in
    ap (λ (b : Bool). nat_eq c x && b) (start_kept cs xs ys parts.1)

begins_apart : (word ys : List ℕ) → is_plain word ≡ true → found_in word (44 ∷ 32 ∷ ys) ≡ found_in word ys
begins_apart [] ys plain = absurd (false≢true plain)
begins_apart (c ∷ cs) ys plain =
    let outer = and_parts (not (length (c ∷ cs) == 0)) _ plain in
    let parts = and_parts (not (list_any (λ byte. byte == 44) (c ∷ cs))) _ outer.1 in
    let comma = either_false (c == 44) _ (not_true _ parts.0) in
    let blank = either_false (c == 32) _ (not_true _ parts.1) in
    rw (comma.0, blank.0) refl

or_moved_in : (a b c : Bool) → (a || (b || c)) ≡ ((a || b) || c)
or_moved_in true b c = refl
or_moved_in false b c = refl

found_joined : (word xs ys : List ℕ) → is_plain word ≡ true → found_in word (xs ++ 44 ∷ 32 ∷ ys) ≡ (found_in word xs || found_in word ys)
found_joined word [] ys plain = begins_apart word ys plain
found_joined word (x ∷ xs) ys plain =
    let outer = and_parts (not (length word == 0)) _ plain in
    let parts = and_parts (not (list_any (λ byte. byte == 44) word)) _ outer.1 in
    ap₂ (λ (a b : Bool). a || b) (start_kept word (x ∷ xs) (32 ∷ ys) (not_true _ parts.0)) (found_joined word xs ys plain)
    ∙ or_moved_in (starts_with nat_eq (x ∷ xs) word) (found_in word xs) (found_in word ys)

found_with : (word : List ℕ) (holds : Bool) (reason others : List ℕ) → is_plain word ≡ true
    → found_in word (with_reason holds reason others) ≡ (found_in word others || (not holds && found_in word reason))
found_with word true reason others plain = false_more (found_in word others)
found_with word false reason [] plain = refl
found_with word false reason (byte ∷ others) plain =
    ap (found_in word) (append_assoc (byte ∷ others) (codes ", ") reason) ∙ found_joined word (byte ∷ others) reason plain

found_without : (word : List ℕ) (holds : Bool) (reason others : List ℕ) → is_plain word ≡ true → found_in word reason ≡ false
    → found_in word (with_reason holds reason others) ≡ found_in word others
found_without word holds reason others plain other =
    found_with word holds reason others plain ∙ ap (λ (b : Bool). found_in word others || (not holds && b)) other
    ∙ ap (λ (b : Bool). found_in word others || b) (and_false (not holds)) ∙ sym (false_more (found_in word others))

-- ---- the words that routes bring
of_routes : (word : List ℕ) (routes : Verdict) (multicast : MulticastVerdict) → is_plain word ≡ true → found_in word (codes "multicast-loop") ≡ false
    → found_in word (codes "multicast-copies") ≡ false → found_in word (codes "multicast-cut") ≡ false
    → has_word word (all_reasons routes multicast) ≡ has_word word (reasons (joined routes multicast))
unfolding all_reasons
of_routes word routes multicast plain no_loop no_copies no_cut =
    let inner = with_reason (not multicast.has_loops) (codes "multicast-loop") (reasons (joined routes multicast)) in
    let outer = with_reason (not multicast.has_copies) (codes "multicast-copies") inner in
    has_is word (all_reasons routes multicast) ∙ found_without word (not multicast.has_cuts) (codes "multicast-cut") outer plain no_cut
    ∙ found_without word (not multicast.has_copies) (codes "multicast-copies") inner plain no_copies
    ∙ found_without word (not multicast.has_loops) (codes "multicast-loop") (reasons (joined routes multicast)) plain no_loop
    ∙ sym (has_is word (reasons (joined routes multicast)))

-- ---- and those of multicast, which routes do not bring
not_of_routes : (word : List ℕ) (verdict : Verdict) → is_plain word ≡ true → found_in word (codes "no-lid") ≡ false → found_in word (codes "unreached") ≡ false
    → found_in word (codes "deadlock") ≡ false → found_in word (codes "mismatch") ≡ false → found_in word (codes "unknown") ≡ false → found_in word (reasons verdict) ≡ false
unfolding reasons
not_of_routes word verdict plain lids pairs waits names entries =
    let one = with_reason verdict.has_lids (codes "no-lid") [] in
    let two = with_reason (not verdict.loses) (codes "unreached") one in
    let three = with_reason verdict.is_free (codes "deadlock") two in
    let four = with_reason verdict.is_same (codes "mismatch") three in
    found_without word (verdict.is_known && not verdict.lacks_entries) (codes "unknown") four plain entries
    ∙ found_without word verdict.is_same (codes "mismatch") three plain names ∙ found_without word verdict.is_free (codes "deadlock") two plain waits
    ∙ found_without word (not verdict.loses) (codes "unreached") one plain pairs ∙ found_without word verdict.has_lids (codes "no-lid") [] plain lids

twice_not : (b : Bool) → (not (not b) && true) ≡ b
twice_not true = refl
twice_not false = refl

of_loops : (routes : Verdict) (multicast : MulticastVerdict) → has_word (codes "multicast-loop") (all_reasons routes multicast) ≡ multicast.has_loops
unfolding all_reasons
of_loops routes multicast =
    let word = codes "multicast-loop" in
    let verdict = joined routes multicast in
    let inner = with_reason (not multicast.has_loops) word (reasons verdict) in
    let outer = with_reason (not multicast.has_copies) (codes "multicast-copies") inner in
    has_is word (all_reasons routes multicast) ∙ found_without word (not multicast.has_cuts) (codes "multicast-cut") outer refl refl
    ∙ found_without word (not multicast.has_copies) (codes "multicast-copies") inner refl refl
    ∙ found_with word (not multicast.has_loops) word (reasons verdict) refl
    ∙ ap (λ (b : Bool). b || (not (not multicast.has_loops) && true)) (not_of_routes word verdict refl refl refl refl refl refl) ∙ twice_not multicast.has_loops

of_copies : (routes : Verdict) (multicast : MulticastVerdict) → has_word (codes "multicast-copies") (all_reasons routes multicast) ≡ multicast.has_copies
unfolding all_reasons
of_copies routes multicast =
    let word = codes "multicast-copies" in
    let verdict = joined routes multicast in
    let inner = with_reason (not multicast.has_loops) (codes "multicast-loop") (reasons verdict) in
    let outer = with_reason (not multicast.has_copies) word inner in
    has_is word (all_reasons routes multicast) ∙ found_without word (not multicast.has_cuts) (codes "multicast-cut") outer refl refl
    ∙ found_with word (not multicast.has_copies) word inner refl
    ∙ ap (λ (b : Bool). b || (not (not multicast.has_copies) && true))
    (found_without word (not multicast.has_loops) (codes "multicast-loop") (reasons verdict) refl refl ∙ not_of_routes word verdict refl refl refl refl refl refl)
    ∙ twice_not multicast.has_copies

of_cuts : (routes : Verdict) (multicast : MulticastVerdict) → has_word (codes "multicast-cut") (all_reasons routes multicast) ≡ multicast.has_cuts
unfolding all_reasons
of_cuts routes multicast =
    let word = codes "multicast-cut" in
    let verdict = joined routes multicast in
    let inner = with_reason (not multicast.has_loops) (codes "multicast-loop") (reasons verdict) in
    let outer = with_reason (not multicast.has_copies) (codes "multicast-copies") inner in
    has_is word (all_reasons routes multicast) ∙ found_with word (not multicast.has_cuts) word outer refl
    ∙ ap (λ (b : Bool). b || (not (not multicast.has_cuts) && true))
    (found_without word (not multicast.has_copies) (codes "multicast-copies") inner refl refl
    ∙ found_without word (not multicast.has_loops) (codes "multicast-loop") (reasons verdict) refl refl ∙ not_of_routes word verdict refl refl refl refl refl refl)
    ∙ twice_not multicast.has_cuts

-- ---- what is not safe has one
and_not_first : (a b c d : Bool) → (a && (b && (c && d))) ≡ false → b ≡ true → c ≡ true → d ≡ true → a ≡ false
and_not_first true true true true is first second third = is
and_not_first true true true false is first second third = absurd (false≢true third)
and_not_first true true false d is first second third = absurd (false≢true second)
and_not_first true false c d is first second third = absurd (false≢true first)
and_not_first false b c d is first second third = refl

some_of_all : (net : NetState) (all : List Aim) (ring : Option (List PortRef)) (multicast : MulticastVerdict) → all_are_safe (verdict_by net all ring) multicast ≡ false
    → all_reasons (verdict_by net all ring) multicast ≡ [] → ⊥
unfolding all_reasons
some_of_all net all ring multicast unsafe none =
    let verdict = joined (verdict_by net all ring) multicast in
    let cuts = none_by (not multicast.has_cuts) (codes "multicast-cut") _ (not_empty _ _) none in
    let copies = none_by (not multicast.has_copies) (codes "multicast-copies") _ (not_empty _ _) cuts.1 in
    let loops = none_by (not multicast.has_loops) (codes "multicast-loop") _ (not_empty _ _) copies.1 in
    some_reason verdict (reaches_or_loses net all ring)
    (and_not_first (verdict_is_safe verdict) (not multicast.has_loops) (not multicast.has_copies) (not multicast.has_cuts) unsafe loops.0 copies.0 cuts.0) loops.1

pub all_reasons_are_named : AllReasonsAreNamed
all_reasons_are_named = record {
  some = some_of_all;
  lids = λ routes multicast. of_routes (codes "no-lid") routes multicast refl refl refl refl ∙ unsafe_routes_have_a_reason.lids (joined routes multicast);
  pairs = λ routes multicast. of_routes (codes "unreached") routes multicast refl refl refl refl ∙ unsafe_routes_have_a_reason.pairs (joined routes multicast);
  waits = λ routes multicast. of_routes (codes "deadlock") routes multicast refl refl refl refl ∙ unsafe_routes_have_a_reason.loops (joined routes multicast);
  names = λ routes multicast. of_routes (codes "mismatch") routes multicast refl refl refl refl ∙ unsafe_routes_have_a_reason.names (joined routes multicast);
  entries = λ routes multicast. of_routes (codes "unknown") routes multicast refl refl refl refl ∙ unsafe_routes_have_a_reason.entries (joined routes multicast);
  loops = of_loops;
  copies = of_copies;
  cuts = of_cuts;
}
