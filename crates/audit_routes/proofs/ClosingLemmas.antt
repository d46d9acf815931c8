-- The LIDs by which a credit loop is closed.
use Rattle.std.proofs.Common.{◌≡◌, ◌∙◌, refl, sym, inl, inr, ℕ, zero, suc, ◌+◌, ◌<◌, Bool, true, false, not, ◌==◌, ◌&&◌, ◌||◌, nat_lt, List, [], ◌∷◌, length, find, get_or, Some, arith}
use Rattle.std.specs.List.{list_any}
use Rattle.std.proofs.lemmas.Bool.{and_from, and_parts, cases_Bool, eq-eqb, false≢true, ltb-false, ltb-true, or_right}
use Rattle.fabric_parts.specs.Cable.{port}
use Rattle.fabric_parts.specs.declared.cable.PortRef.{PortRef}
use Rattle.step_results.proofs.ListLemmas.{any_map, list_any_weaker}
use Rattle.audit_net.specs.Laws.{HostsCome}
use Rattle.audit_net.specs.Net.{NetState}
use Rattle.audit_net.proofs.HostLemmas.{hosts_are_followed, marks_are}
use Rattle.audit_net.specs.declared.lids.Aim.{Aim}
use Rattle.audit_loops.specs.Channels.{depends, depends_on, leads_to, leaves_by, takes_both}
use Rattle.audit_loops.specs.Laws.{is_cycle, wait_round}
use Rattle.audit_loops.proofs.CycleLawLemmas.{reported_loops_wait, reported_loops_wait_on_courses}
use Rattle.audit_routes.specs.Laws.{LoopsAreClosedByTheirLids, loop_along}
use Rattle.audit_routes.specs.Loops.{behind, closes, counts_at, course_of, courses_of, leaves_by_both, lids_of}
use Rattle.audit_routes.specs.Verdict.{is_aggregations}
use Rattle.audit_routes.proofs.LoopLemmas.{takes_course}

-- ---- each channel of a cycle waits for the one behind it
waits_next : (waits : PortRef → PortRef → Bool) (first : PortRef) (ring : List PortRef) (index : ℕ) → wait_round waits first ring ≡ true → index + 1 < length ring
    → waits (get_or ring index (port 0 0)) (get_or ring (index + 1) (port 0 0)) ≡ true
waits_next waits first [] index round less = absurd (omega (arith, less))
waits_next waits first (a ∷ []) index round less = absurd (omega (arith, less))
waits_next waits first (a ∷ b ∷ rest) zero round less = (and_parts (waits a b) _ round).0
waits_next waits first (a ∷ b ∷ rest) (suc index) round less =
    let next : suc index + 1 ≡ suc (index + 1) = omega arith in
    rw next (waits_next waits first (b ∷ rest) index (and_parts (waits a b) _ round).1 (omega (arith, less)))

waits_last : (waits : PortRef → PortRef → Bool) (first : PortRef) (ring : List PortRef) (index : ℕ) → wait_round waits first ring ≡ true → index + 1 ≡ length ring
    → waits (get_or ring index (port 0 0)) first ≡ true
waits_last waits first [] index round last = absurd (omega (arith, last))
waits_last waits first (a ∷ []) zero round last = round
waits_last waits first (a ∷ []) (suc index) round last = absurd (omega (arith, last))
waits_last waits first (a ∷ b ∷ rest) zero round last = absurd (omega (arith, last))
waits_last waits first (a ∷ b ∷ rest) (suc index) round last =
    waits_last waits first (b ∷ rest) index (and_parts (waits a b) _ round).1 (omega (arith, last))

waits_round : (waits : PortRef → PortRef → Bool) (ring : List PortRef) (index : ℕ) → is_cycle waits ring ≡ true → index < length ring
    → waits (get_or ring index (port 0 0)) (behind ring index) ≡ true
waits_round waits [] index round within = absurd (omega (arith, within))
waits_round waits (a ∷ rest) index round within = elim (cases_Bool (nat_lt (index + 1) (length (a ∷ rest)))) [
  | inl more ↦ rw more (waits_next waits a (a ∷ rest) index round (ltb-true (index + 1) (length (a ∷ rest)) more))
  | inr last ↦
      let most = ltb-false (index + 1) (length (a ∷ rest)) last in
      rw last (waits_last waits a (a ∷ rest) index round (omega (arith, most, within)))
]

-- ---- by the first LID that leaves by both
record Found (net : NetState) (decides : Bool) (all : List Aim) (a b : PortRef) : Type 0 where
  aim : Aim
  is : find (closes net decides a b) all ≡ Some aim
  among : list_any (λ lid. lid == aim.lid) (lids_of all) ≡ true
  closing : closes net decides a b aim ≡ true

found : (net : NetState) (decides : Bool) (all : List Aim) (a b : PortRef) → list_any (closes net decides a b) all ≡ true → Found net decides all a b
found net decides [] a b some = absurd (false≢true some)
found net decides (aim ∷ rest) a b some = elim (cases_Bool (closes net decides a b aim)) [
  | inl here ↦ record {
    aim = aim;
    is = rw here refl;
    among = let same : (aim.lid == aim.lid) ≡ true = eq-eqb _ _ refl in rw same refl;
    closing = here;
  }
  | inr other ↦
      let later = found net decides rest a b (rw other at some) in
      record {
        aim = later.aim;
        is = rw other later.is;
        among = or_right (aim.lid == later.aim.lid) _ later.among;
        closing = later.closing;
      }
]

-- what leaves by both, and counts there, closes the step
counted_closes : (net : NetState) (a b : PortRef) (aim : Aim) → takes_both net a b (course_of net aim) ≡ true → closes net true a b aim ≡ true
counted_closes net a b aim takes =
    let parts = and_parts (counts_at net a.node aim) _ (sym (takes_course net a b aim) ∙ takes) in
    and_from (leaves_by_both net a b aim) _ parts.1 parts.0

leaving_closes : (net : NetState) (a b : PortRef) (aim : Aim) → leaves_by_both net a b aim ≡ true → closes net false a b aim ≡ true
leaving_closes net a b aim leaves = and_from (leaves_by_both net a b aim) _ leaves refl

-- a step of the cycle along these LIDs
record Step (net : NetState) (decides : Bool) (all : List Aim) (a b : PortRef) : Type 0 where
  leads : leads_to net a b.node ≡ true
  closes : list_any (closes net decides a b) all ≡ true

step_of : (net : NetState) (decides : Bool) (all : List Aim) (ring : List PortRef) (index : ℕ) → loop_along net decides all ≡ Some ring → index < length ring
    → Step net decides all (get_or ring index (port 0 0)) (behind ring index)
step_of net true all ring index reported within =
    let a = get_or ring index (port 0 0) in
    let b = behind ring index in
    let waits = waits_round (depends_on net (courses_of net all)) ring index (reported_loops_wait_on_courses net (courses_of net all) ring reported).1 within in
    let parts = and_parts (leads_to net a b.node) _ waits in
    record {
      leads = parts.0;
      closes = list_any_weaker (λ aim. takes_both net a b (course_of net aim)) (closes net true a b) (counted_closes net a b) all
          (sym (any_map (takes_both net a b) (course_of net) all) ∙ parts.1);
    }
step_of net false all ring index reported within =
    let a = get_or ring index (port 0 0) in
    let b = behind ring index in
    let waits = waits_round (depends net (lids_of all)) ring index (reported_loops_wait net (lids_of all) ring reported).1 within in
    let parts = and_parts (leads_to net a b.node) _ waits in
    record {
      leads = parts.0;
      closes = list_any_weaker (leaves_by_both net a b) (closes net false a b) (leaving_closes net a b) all
          (sym (any_map (λ lid. leaves_by net a lid && leaves_by net b lid) (λ aim. aim.lid) all) ∙ parts.1);
    }

-- if the cycle decides, packets of hosts come there
come_there : (net : NetState) (decides : Bool) (a : PortRef) (aim : Aim) → (not decides || counts_at net a.node aim) ≡ true → decides ≡ true
    → is_aggregations net aim ≡ true → HostsCome net aim.lid a.node
come_there net true a aim counts decides of_one =
    hosts_are_followed.there net aim.lid a.node (marks_are net aim.lid a.node ∙ (rw of_one at counts))
come_there net false a aim counts decides of_one = absurd (false≢true decides)

pub loops_are_closed_by_their_lids : LoopsAreClosedByTheirLids
loops_are_closed_by_their_lids net decides all ring index reported within =
    let a = get_or ring index (port 0 0) in
    let b = behind ring index in
    let step = step_of net decides all ring index reported within in
    let one = found net decides all a b step.closes in
    let both = and_parts (leaves_by_both net a b one.aim) _ one.closing in
    let leaves = both.0 in
    record {
      aim = one.aim;
      is = one.is;
      among = one.among;
      waits = and_from (leads_to net a b.node) _ step.leads (rw leaves refl);
      comes = come_there net decides a one.aim both.1;
    }
