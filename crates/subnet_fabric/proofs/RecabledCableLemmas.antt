-- Where cables lead before and after one between two ports is cut or mended.
use Rattle.std.proofs.Common.{◌≡◌, inl, inr, ◌&&◌, not, ◌∙◌, ap, refl, sym, subst, Bool, true, false, if◌then◌else◌, List, [], ◌∷◌, ◌++◌, filter, flat_map, Option, Some, None}
use Rattle.std.specs.List.{IsDistinct, list_any}
use Rattle.std.proofs.lemmas.Bool.{and_parts, or_cases, or_parts}
use Rattle.std.proofs.lemmas.Grind.{flat_map-append}
use Rattle.std.proofs.lemmas.List.{append_assoc}
use Rattle.fabric_parts.specs.Cable.{far_end, is_same_port}
use Rattle.fabric_parts.specs.declared.cable.Cable.{Cable}
use Rattle.fabric_parts.specs.declared.cable.PortRef.{PortRef}
use Rattle.fabric_wire.proofs.CutLemmas.{Free, apart, between_one, free_first, none_far, put_behind, taken_out}
use Rattle.fabric_wire.proofs.RecablingLinkLemmas.{split}
use Rattle.fabric_wire.specs.Cabling.{CablingState, IsOnce, is_between, is_not_between}
use Rattle.fabric_wire.specs.Recabling.{cabling_with}
use Rattle.step_results.proofs.DistinctLemmas.{left_part, right_part}
use Rattle.smp_wire.proofs.CableLemmas.{far_end_before, itself, ports_turn, same_port}
use Rattle.smp_wire.specs.Good.{ends_of}

-- ---- far ends
-- cables that do not end at a port say nothing of it
far_past : (before rest : List Cable) (at : PortRef) → Free at before → far_end (before ++ rest) at ≡ far_end rest at
far_past [] rest at free = refl
far_past (cable ∷ before) rest at free =
    let one = or_parts (is_same_port at cable.first) _ free in
    let two = or_parts (is_same_port at cable.second) _ one.1 in
    sym (far_end_before cable (before ++ rest) at)
    ∙ rw (ports_turn cable.first at ∙ one.0, ports_turn cable.second at ∙ two.0) (far_past before rest at two.1)

first_far : (cable : Cable) (rest : List Cable) → far_end (cable ∷ rest) cable.first ≡ Some cable.second
first_far cable rest = sym (far_end_before cable rest cable.first) ∙ rw (itself cable.first) refl

second_far : (cable : Cable) (rest : List Cable) → far_end (cable ∷ rest) cable.second ≡ Some cable.first
second_far cable rest = by (is_same_port cable.first cable.second) refl
  where
    by : (b : Bool) → is_same_port cable.first cable.second ≡ b → far_end (cable ∷ rest) cable.second ≡ Some cable.first
    by true same =
        sym (far_end_before cable rest cable.second)
        ∙ rw same (ap (λ (at : PortRef). Some at) (sym (same_port cable.first cable.second same)))
    by false same = sym (far_end_before cable rest cable.second) ∙ rw (same, itself cable.second) refl

-- ---- what a change comes to
abbrev pub leads : Bool → PortRef → Option PortRef
leads on there = if on then Some there else None

-- before or after it the one port leads to the other, and else to none; where all others lead stays
pub record Moves (one two : PortRef) (up : Bool) (old new : List Cable) : Type 0 where
  pub first_was : far_end old one ≡ leads (not up) two
  pub second_was : far_end old two ≡ leads (not up) one
  pub first_is : far_end new one ≡ leads up two
  pub second_is : far_end new two ≡ leads up one
  pub elsewhere : (at : PortRef) → is_same_port one at ≡ false → is_same_port two at ≡ false → far_end new at ≡ far_end old at

turned : (one two : PortRef) (up : Bool) (old new : List Cable) → Moves one two up old new → Moves two one up old new
turned one two up old new moves = record {
  first_was = moves.second_was;
  second_was = moves.first_was;
  first_is = moves.second_is;
  second_is = moves.first_is;
  elsewhere = λ at first second. moves.elsewhere at second first;
}

-- by the names of the ports of a cable
named : (a b : PortRef) (cable : Cable) (up : Bool) (old new : List Cable) → is_between a b cable ≡ true → Moves cable.first cable.second up old new
    → Moves a b up old new
named a b cable up old new between moves = elim (or_cases (is_same_port cable.first a && is_same_port cable.second b) _ between) [
  | inl this ↦
      let parts = and_parts (is_same_port cable.first a) _ this in
      with_names cable.first cable.second a b (same_port cable.first a parts.0) (same_port cable.second b parts.1) moves
  | inr other ↦
      let parts = and_parts (is_same_port cable.first b) _ other in
      turned b a up old new (with_names cable.first cable.second b a (same_port cable.first b parts.0) (same_port cable.second a parts.1) moves)
]
  where
    with_names : (first second one two : PortRef) → first ≡ one → second ≡ two → Moves first second up old new → Moves one two up old new
    with_names first second one two is_one is_two moved =
        subst (λ (at : PortRef). Moves one at up old new) is_two (subst (λ (at : PortRef). Moves at second up old new) is_one moved)

-- ---- one that is there
abbrev Own : List Cable → Type 0
Own cables = IsDistinct is_same_port (flat_map ends_of cables)

-- ---- it is cut
taken : (before behind : List Cable) (cable : Cable) → Own (before ++ cable ∷ behind)
    → Moves cable.first cable.second false (before ++ cable ∷ behind) (before ++ behind)
taken before behind cable own =
    let free = apart before behind cable own in
    record {
      first_was = far_past before (cable ∷ behind) cable.first (free_first cable.first before behind free.first) ∙ first_far cable behind;
      second_was = far_past before (cable ∷ behind) cable.second (free_first cable.second before behind free.second) ∙ second_far cable behind;
      first_is = none_far (before ++ behind) cable.first free.first;
      second_is = none_far (before ++ behind) cable.second free.second;
      elsewhere = λ at first second. taken_out before behind cable at own ∙ rw (first, second) refl;
    }

cut_moves : (a b : PortRef) (old : CablingState) → IsOnce old → list_any (is_between a b) old.cables ≡ true
    → Moves a b false old.cables (cabling_with false a b old).cables
cut_moves a b old own some =
    let parts = split (is_between a b) old.cables some in
    let first : Own old.cables =
    left_part is_same_port (flat_map ends_of old.cables) (flat_map ends_of old.cut) (subst (IsDistinct is_same_port) (flat_map-append ends_of old.cables old.cut) own) in
    let own_first : Own (parts.before ++ parts.cable ∷ parts.behind) = subst Own parts.is first in
    let one = between_one a b parts.before parts.behind parts.cable parts.passes own_first in
    let left : filter (is_not_between a b) old.cables ≡ parts.before ++ parts.behind = ap (filter (is_not_between a b)) parts.is ∙ one.1 in
    named a b parts.cable false old.cables (filter (is_not_between a b) old.cables) parts.passes
    (subst (λ (cables : List Cable). Moves parts.cable.first parts.cable.second false cables (filter (is_not_between a b) old.cables)) (sym parts.is)
    (subst (Moves parts.cable.first parts.cable.second false (parts.before ++ parts.cable ∷ parts.behind)) (sym left)
    (taken parts.before parts.behind parts.cable own_first)))

-- ---- it is mended
put : (cables : List Cable) (cable : Cable) → Free cable.first cables → Free cable.second cables
    → Moves cable.first cable.second true cables (cables ++ cable ∷ [])
put cables cable first second = record {
  first_was = none_far cables cable.first first;
  second_was = none_far cables cable.second second;
  first_is = far_past cables (cable ∷ []) cable.first first ∙ first_far cable [];
  second_is = far_past cables (cable ∷ []) cable.second second ∙ second_far cable [];
  elsewhere = λ at not_first not_second. put_behind cables cable at first second ∙ rw (not_first, not_second) refl;
}

mend_moves : (a b : PortRef) (old : CablingState) → IsOnce old → list_any (is_between a b) old.cut ≡ true
    → Moves a b true old.cables (cabling_with true a b old).cables
mend_moves a b old own some =
    let parts = split (is_between a b) old.cut some in
    let whole : Own ((old.cables ++ parts.before) ++ parts.cable ∷ parts.behind) =
    subst Own (ap (λ (cut : List Cable). old.cables ++ cut) parts.is ∙ sym (append_assoc old.cables parts.before (parts.cable ∷ parts.behind))) own in
    let free = apart (old.cables ++ parts.before) parts.behind parts.cable whole in
    let alone : (end : PortRef) → Free end ((old.cables ++ parts.before) ++ parts.behind) → Free end old.cables =
    λ end none. free_first end old.cables parts.before (free_first end (old.cables ++ parts.before) parts.behind none) in
    let own_cut : Own (parts.before ++ parts.cable ∷ parts.behind) =
    subst Own parts.is
    (right_part is_same_port (flat_map ends_of old.cables) (flat_map ends_of old.cut) (subst (IsDistinct is_same_port) (flat_map-append ends_of old.cables old.cut) own)) in
    let one = between_one a b parts.before parts.behind parts.cable parts.passes own_cut in
    let more : old.cables ++ filter (is_between a b) old.cut ≡ old.cables ++ parts.cable ∷ [] =
    ap (λ (some : List Cable). old.cables ++ some) (ap (filter (is_between a b)) parts.is ∙ one.0) in
    named a b parts.cable true old.cables (old.cables ++ filter (is_between a b) old.cut) parts.passes
    (subst (Moves parts.cable.first parts.cable.second true old.cables) (sym more)
    (put old.cables parts.cable (alone parts.cable.first free.first) (alone parts.cable.second free.second)))

pub cables_move : (a b : PortRef) (up : Bool) (old : CablingState) → IsOnce old → list_any (is_between a b) (if up then old.cut else old.cables) ≡ true
    → Moves a b up old.cables (cabling_with up a b old).cables
cables_move a b true old own some = mend_moves a b old own some
cables_move a b false old own some = cut_moves a b old own some
