-- A verdict that is not safe has a reason, and each reason is named if and only if it holds.
use Rattle.std.proofs.Common.{ℕ, ◌≡◌, ◌∙◌, refl, sym, ◌&&◌, Bool, true, false, not, ◌||◌, List, [], ◌∷◌, codes, Option}
use Rattle.std.proofs.lemmas.Bool.{false≢true}
use Rattle.step_results.proofs.BoolLemmas.{not_true, not_twice}
use Rattle.audit_net.specs.declared.following.Fate.{Fate}
use Rattle.audit_net.specs.declared.following.Fate.TheVariants as fates
use Rattle.audit_routes.specs.declared.pairs.Pair.{Pair}
use Rattle.fabric_parts.specs.declared.cable.PortRef.{PortRef}
use Rattle.audit_net.specs.declared.lids.Aim.{Aim}
use Rattle.audit_routes.specs.declared.verdict.Verdict.{Verdict}
use Rattle.audit_routes.specs.Laws.{UnsafeRoutesHaveAReason, has_word}
use Rattle.audit_net.specs.Net.{NetState}
use Rattle.audit_routes.specs.Pairs.{all_reached, between_hosts, is_fate, pairs_by}
use Rattle.audit_routes.specs.Verdict.{reasons, some_lost, some_unknown, verdict_by, verdict_is_safe, with_reason}

-- ---- no reason stands there only if each of these holds
pub not_empty : (byte : ℕ) (bytes : List ℕ) → byte ∷ bytes ≡ [] → ⊥
not_empty byte bytes is = cc

pub none_by : (holds : Bool) (word others : List ℕ) → (word ≡ [] → ⊥) → with_reason holds word others ≡ [] → (holds ≡ true) × (others ≡ [])
none_by true word others some is = (refl, is)
none_by false word [] some is = absurd (some is)
none_by false word (byte ∷ others) some is = absurd (not_empty byte _ is)

-- ---- a pair that is not reached is lost, or comes to an unknown entry
each_reached : (fate : Fate) (lost unknown reached : Bool) → (not (is_fate fates.Reached fate || is_fate fates.Unknown fate) || lost) ≡ false
    → (is_fate fates.Unknown fate || unknown) ≡ false → (lost ≡ false → unknown ≡ false → reached ≡ true) → (is_fate fates.Reached fate && reached) ≡ true
each_reached fates.Reached lost unknown reached kept known others = others kept known
each_reached fates.Hole lost unknown reached kept known others = absurd (false≢true (sym kept))
each_reached fates.Nowhere lost unknown reached kept known others = absurd (false≢true (sym kept))
each_reached fates.Wrong lost unknown reached kept known others = absurd (false≢true (sym kept))
each_reached fates.Loop lost unknown reached kept known others = absurd (false≢true (sym kept))
each_reached fates.Unknown lost unknown reached kept known others = absurd (false≢true (sym known))

all_are_reached : (pairs : List Pair) → some_lost pairs ≡ false → some_unknown pairs ≡ false → all_reached pairs ≡ true
all_are_reached [] kept known = refl
all_are_reached (pair ∷ pairs) kept known =
    each_reached pair.fate (some_lost pairs) (some_unknown pairs) (all_reached pairs) kept known (all_are_reached pairs)

pub both_true : (a b : Bool) → (a && b) ≡ true → (a ≡ true) × (b ≡ true)
both_true true b is = (refl, is)
both_true false b is = absurd (false≢true is)

-- of whichever verdict by which what is neither lost nor unknown is reached
pub some_reason : (verdict : Verdict) → (verdict.loses ≡ false → verdict.lacks_entries ≡ false → verdict.is_reached ≡ true) → verdict_is_safe verdict ≡ false
    → reasons verdict ≡ [] → ⊥
unfolding reasons
some_reason verdict reaches unsafe none =
    let unknown = none_by (verdict.is_known && not verdict.lacks_entries) (codes "unknown") _ (not_empty _ _) none in
    let mismatch = none_by verdict.is_same (codes "mismatch") _ (not_empty _ _) unknown.1 in
    let deadlock = none_by verdict.is_free (codes "deadlock") _ (not_empty _ _) mismatch.1 in
    let lost = none_by (not verdict.loses) (codes "unreached") _ (not_empty _ _) deadlock.1 in
    let named = none_by verdict.has_lids (codes "no-lid") _ (not_empty _ _) lost.1 in
    let known = both_true verdict.is_known (not verdict.lacks_entries) unknown.0 in
    let reached : verdict.is_reached ≡ true = reaches (not_true verdict.loses lost.0) (not_true verdict.lacks_entries known.1) in
    let safe : verdict_is_safe verdict ≡ true = rw (named.0, reached, deadlock.0, mismatch.0, known.0) refl in
    false≢true (sym unsafe ∙ safe)

pub reaches_or_loses : (net : NetState) (all : List Aim) (ring : Option (List PortRef)) → (verdict_by net all ring).loses ≡ false
    → (verdict_by net all ring).lacks_entries ≡ false → (verdict_by net all ring).is_reached ≡ true
reaches_or_loses net all ring kept known = all_are_reached (between_hosts (pairs_by net all)) kept known

reason_is_there : (net : NetState) (all : List Aim) (ring : Option (List PortRef)) → verdict_is_safe (verdict_by net all ring) ≡ false
    → reasons (verdict_by net all ring) ≡ [] → ⊥
reason_is_there net all ring unsafe none = some_reason (verdict_by net all ring) (reaches_or_loses net all ring) unsafe none

-- ---- each word is there if and only if its reason holds
abbrev words : (known same free kept lids : Bool) → List ℕ
words known same free kept lids =
    with_reason known (codes "unknown") (with_reason same (codes "mismatch") (with_reason free (codes "deadlock")
    (with_reason kept (codes "unreached") (with_reason lids (codes "no-lid") []))))

record WordsAre (known same free kept named : Bool) : Type 0 where
  pub lids : has_word (codes "no-lid") (words known same free kept named) ≡ not named
  pub pairs : has_word (codes "unreached") (words known same free kept named) ≡ not kept
  pub loops : has_word (codes "deadlock") (words known same free kept named) ≡ not free
  pub names : has_word (codes "mismatch") (words known same free kept named) ≡ not same
  pub entries : has_word (codes "unknown") (words known same free kept named) ≡ not known

words_are : (known same free kept lids : Bool) → WordsAre known same free kept lids
words_are true true true true true = record { lids = refl; pairs = refl; loops = refl; names = refl; entries = refl }
words_are true true true true false = record { lids = refl; pairs = refl; loops = refl; names = refl; entries = refl }
words_are true true true false true = record { lids = refl; pairs = refl; loops = refl; names = refl; entries = refl }
words_are true true true false false = record { lids = refl; pairs = refl; loops = refl; names = refl; entries = refl }
words_are true true false true true = record { lids = refl; pairs = refl; loops = refl; names = refl; entries = refl }
words_are true true false true false = record { lids = refl; pairs = refl; loops = refl; names = refl; entries = refl }
words_are true true false false true = record { lids = refl; pairs = refl; loops = refl; names = refl; entries = refl }
words_are true true false false false = record { lids = refl; pairs = refl; loops = refl; names = refl; entries = refl }
words_are true false true true true = record { lids = refl; pairs = refl; loops = refl; names = refl; entries = refl }
words_are true false true true false = record { lids = refl; pairs = refl; loops = refl; names = refl; entries = refl }
words_are true false true false true = record { lids = refl; pairs = refl; loops = refl; names = refl; entries = refl }
words_are true false true false false = record { lids = refl; pairs = refl; loops = refl; names = refl; entries = refl }
words_are true false false true true = record { lids = refl; pairs = refl; loops = refl; names = refl; entries = refl }
words_are true false false true false = record { lids = refl; pairs = refl; loops = refl; names = refl; entries = refl }
words_are true false false false true = record { lids = refl; pairs = refl; loops = refl; names = refl; entries = refl }
words_are true false false false false = record { lids = refl; pairs = refl; loops = refl; names = refl; entries = refl }
words_are false true true true true = record { lids = refl; pairs = refl; loops = refl; names = refl; entries = refl }
words_are false true true true false = record { lids = refl; pairs = refl; loops = refl; names = refl; entries = refl }
words_are false true true false true = record { lids = refl; pairs = refl; loops = refl; names = refl; entries = refl }
words_are false true true false false = record { lids = refl; pairs = refl; loops = refl; names = refl; entries = refl }
words_are false true false true true = record { lids = refl; pairs = refl; loops = refl; names = refl; entries = refl }
words_are false true false true false = record { lids = refl; pairs = refl; loops = refl; names = refl; entries = refl }
words_are false true false false true = record { lids = refl; pairs = refl; loops = refl; names = refl; entries = refl }
words_are false true false false false = record { lids = refl; pairs = refl; loops = refl; names = refl; entries = refl }
words_are false false true true true = record { lids = refl; pairs = refl; loops = refl; names = refl; entries = refl }
words_are false false true true false = record { lids = refl; pairs = refl; loops = refl; names = refl; entries = refl }
words_are false false true false true = record { lids = refl; pairs = refl; loops = refl; names = refl; entries = refl }
words_are false false true false false = record { lids = refl; pairs = refl; loops = refl; names = refl; entries = refl }
words_are false false false true true = record { lids = refl; pairs = refl; loops = refl; names = refl; entries = refl }
words_are false false false true false = record { lids = refl; pairs = refl; loops = refl; names = refl; entries = refl }
words_are false false false false true = record { lids = refl; pairs = refl; loops = refl; names = refl; entries = refl }
words_are false false false false false = record { lids = refl; pairs = refl; loops = refl; names = refl; entries = refl }

of : (verdict : Verdict) → WordsAre (verdict.is_known && not verdict.lacks_entries) verdict.is_same verdict.is_free (not verdict.loses) verdict.has_lids
of verdict = words_are _ _ _ _ _

pub unsafe_routes_have_a_reason : UnsafeRoutesHaveAReason
unfolding reasons
unsafe_routes_have_a_reason = record {
  some = reason_is_there;
  lids = λ verdict. (of verdict).lids;
  pairs = λ verdict. (of verdict).pairs ∙ not_twice verdict.loses;
  loops = λ verdict. (of verdict).loops;
  names = λ verdict. (of verdict).names;
  entries = λ verdict. (of verdict).entries;
}
