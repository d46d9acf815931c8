-- Each reason is named if and only if it holds, by all cases; and a verdict that is not safe has one.
use Rattle.std.proofs.Common.{ℕ, ◌≡◌, ◌∙◌, refl, Bool, true, false, not, ◌&&◌, List, [], codes, Option, if◌then◌else◌}
use Rattle.std.proofs.lemmas.Bool.{and_parts, false≢true}
use Rattle.step_results.proofs.BoolLemmas.{not_twice}
use Rattle.fabric_parts.specs.declared.cable.PortRef.{PortRef}
use Rattle.audit_net.specs.Net.{NetState}
use Rattle.audit_net.specs.declared.lids.Aim.{Aim}
use Rattle.audit_routes.specs.Laws.{has_word}
use Rattle.audit_routes.specs.Verdict.{reasons, verdict_by, verdict_is_safe, with_reason}
use Rattle.audit_routes.specs.declared.verdict.Verdict.{Verdict}
use Rattle.audit_routes.proofs.ReasonLemmas.{none_by, not_empty, reaches_or_loses, some_reason}
use Rattle.audit_lanes.specs.Laws.{AllReasonsAreNamed}
use Rattle.audit_lanes.specs.Verdict.{all_are_safe, all_reasons, joined}
use Rattle.audit_lanes.specs.declared.verdict.LaneVerdict.{LaneVerdict}

-- ---- what is so of both truth values is so of each
abbrev both : (Bool → Bool) → Bool
both test = test true && test false

of_both : (test : Bool → Bool) → both test ≡ true → (b : Bool) → test b ≡ true
of_both test is true = (and_parts (test true) (test false) is).0
of_both test is false = (and_parts (test true) (test false) is).1

abbrev agree : Bool → Bool → Bool
agree a b = if a then b else not b

agree_is : (a b : Bool) → agree a b ≡ true → a ≡ b
agree_is true true is = refl
agree_is true false is = absurd (false≢true is)
agree_is false true is = absurd (false≢true is)
agree_is false false is = refl

-- ---- the words, by whether each of these holds
abbrev words : (carried known same free kept lids : Bool) → List ℕ
words carried known same free kept lids =
    with_reason carried (codes "dropped") (with_reason known (codes "unknown") (with_reason same (codes "mismatch")
    (with_reason free (codes "deadlock") (with_reason kept (codes "unreached") (with_reason lids (codes "no-lid") [])))))

abbrev names : (carried known same free kept lids : Bool) → Bool
names carried known same free kept lids =
    let text = words carried known same free kept lids in
    agree (has_word (codes "no-lid") text) (not lids) && (agree (has_word (codes "unreached") text) (not kept)
    && (agree (has_word (codes "deadlock") text) (not free) && (agree (has_word (codes "mismatch") text) (not same)
    && (agree (has_word (codes "unknown") text) (not known) && agree (has_word (codes "dropped") text) (not carried)))))

all_names : both (λ a. both (λ b. both (λ c. both (λ d. both (λ e. both (λ f. names a b c d e f)))))) ≡ true
all_names = refl

names_each : (a b c d e f : Bool) → names a b c d e f ≡ true
names_each a b c d e f =
    of_both (λ f. names a b c d e f)
    (of_both (λ e. both (λ f. names a b c d e f))
    (of_both (λ d. both (λ e. both (λ f. names a b c d e f)))
    (of_both (λ c. both (λ d. both (λ e. both (λ f. names a b c d e f))))
    (of_both (λ b. both (λ c. both (λ d. both (λ e. both (λ f. names a b c d e f)))))
    (of_both (λ a. both (λ b. both (λ c. both (λ d. both (λ e. both (λ f. names a b c d e f)))))) all_names a) b) c) d) e) f

record WordsAre (carried known same free kept named : Bool) : Type 0 where
  pub lids : has_word (codes "no-lid") (words carried known same free kept named) ≡ not named
  pub pairs : has_word (codes "unreached") (words carried known same free kept named) ≡ not kept
  pub loops : has_word (codes "deadlock") (words carried known same free kept named) ≡ not free
  pub names : has_word (codes "mismatch") (words carried known same free kept named) ≡ not same
  pub entries : has_word (codes "unknown") (words carried known same free kept named) ≡ not known
  pub drops : has_word (codes "dropped") (words carried known same free kept named) ≡ not carried

words_are : (carried known same free kept lids : Bool) → WordsAre carried known same free kept lids
words_are carried known same free kept lids =
    let text = words carried known same free kept lids in
    let one = and_parts (agree (has_word (codes "no-lid") text) (not lids)) _ (names_each carried known same free kept lids) in
    let two = and_parts (agree (has_word (codes "unreached") text) (not kept)) _ one.1 in
    let three = and_parts (agree (has_word (codes "deadlock") text) (not free)) _ two.1 in
    let four = and_parts (agree (has_word (codes "mismatch") text) (not same)) _ three.1 in
    let five = and_parts (agree (has_word (codes "unknown") text) (not known)) _ four.1 in
    record {
      lids = agree_is _ _ one.0;
      pairs = agree_is _ _ two.0;
      loops = agree_is _ _ three.0;
      names = agree_is _ _ four.0;
      entries = agree_is _ _ five.0;
      drops = agree_is _ _ five.1;
    }

of : (routes : Verdict) (lanes : LaneVerdict)
    → WordsAre (not lanes.drops) ((routes.is_known && (lanes.has_paths && lanes.has_rows)) && not routes.lacks_entries) routes.is_same lanes.is_free (not routes.loses) routes.has_lids
of routes lanes = words_are _ _ _ _ _ _

-- ---- what is not safe has one
first_is_false : (a b : Bool) → (a && b) ≡ false → b ≡ true → a ≡ false
first_is_false true true is second = is
first_is_false true false is second = absurd (false≢true second)
first_is_false false b is second = refl

some_of_all : (net : NetState) (all : List Aim) (ring : Option (List PortRef)) (lanes : LaneVerdict) → all_are_safe (verdict_by net all ring) lanes ≡ false
    → all_reasons (verdict_by net all ring) lanes ≡ [] → ⊥
unfolding all_reasons
some_of_all net all ring lanes unsafe none =
    let verdict = joined (verdict_by net all ring) lanes in
    let carried = none_by (not lanes.drops) (codes "dropped") _ (not_empty _ _) none in
    some_reason verdict (reaches_or_loses net all ring) (first_is_false (verdict_is_safe verdict) (not lanes.drops) unsafe carried.0) carried.1

pub all_reasons_are_named : AllReasonsAreNamed
unfolding all_reasons reasons
all_reasons_are_named = record {
  some = some_of_all;
  lids = λ routes lanes. (of routes lanes).lids;
  pairs = λ routes lanes. (of routes lanes).pairs ∙ not_twice routes.loses;
  waits = λ routes lanes. (of routes lanes).loops;
  names = λ routes lanes. (of routes lanes).names;
  entries = λ routes lanes. (of routes lanes).entries;
  drops = λ routes lanes. (of routes lanes).drops ∙ not_twice lanes.drops;
}
