-- What is wrong has its line.
use Rattle.std.proofs.Common.{◌≡◌, ◌∙◌, ◌⊎◌, inl, inr, ap, refl, subst, sym, ℕ, zero, suc, ◌+◌, ◌-◌, ◌<◌, ◌≤◌, Bool, true, false, ◌==◌, nat_le, List, [], ◌∷◌, length, ◌++◌, codes, flat_map, arith, Option, Some, None, is_some, option_map}
use Rattle.std.specs.List.{list_any}
use Rattle.std.proofs.lemmas.Bool.{and_from, cases_Bool, cases_lt, eq-eqb, false≢true}
use Rattle.std.proofs.lemmas.Bool.Decides.{nat_tests}
use Rattle.std.proofs.lemmas.Cmp.{nat_eq_equiv}
use Rattle.std.proofs.lemmas.Map.Made.{length-le_from_is_member}
use Rattle.fabric_parts.specs.Cable.{is_same_port}
use Rattle.fabric_parts.specs.declared.cable.PortRef.{PortRef}
use Rattle.step_results.proofs.DistinctLemmas.{all_differ, distinct}
use Rattle.topo_file.specs.Connectivity.{switches}
use Rattle.topo_file.specs.Node.{is_switch_at}
use Rattle.audit_net.specs.declared.following.Turn.{Turn}
use Rattle.audit_net.specs.declared.following.Turn.TheVariants as turns
use Rattle.audit_net.specs.declared.following.Fate.TheVariants as fates
use Rattle.audit_net.specs.Following.{back, end_from, end_within, fate_by, if_goes, loop_from, switch_total, then_end, turn}
use Rattle.audit_net.specs.Laws.{ComesBy, EndsBy, IsWay, NeverEnds}
use Rattle.audit_routes.specs.Laws.{HasItsLine, EachTroubleHasALine}
use Rattle.audit_net.specs.Lids.{aim_of}
use Rattle.audit_routes.specs.Lines.{goes_to, is_fed, is_least, left_out_line, lid_text, line_by, loop_line, name_text, name_word, nobodys_line, stray_line, trouble_line, trouble_to, unplaced_line}
use Rattle.audit_net.specs.Net.{NetState, table_at}
use Rattle.audit_net.proofs.EndlessLemmas.{any_of}
use Rattle.audit_net.proofs.EndlessLemmas.{loops_never_end, turn_goes, way_there}
use Rattle.audit_plan.proofs.PlaceLemmas.{is_listed}

module _ (net : NetState) (lid : ℕ) where
  -- ---- what goes on for ever
  record GoesOn (place : ℕ) : Type 0 where
    of_switch : is_switch_at net.plan.nodes place ≡ true
    never : NeverEnds net lid place

  abbrev next_by : ℕ → Turn → ℕ
  next_by place (turns.Goes next) = next
  next_by place _ = place

  abbrev step : ℕ → ℕ
  step place = next_by place (turn net lid place)

  record Steps (place : ℕ) : Type 0 where
    goes : turn net lid place ≡ turns.Goes (step place)
    on : GoesOn (step place)

  ends_at : (place : ℕ) (turned : Turn) → turn net lid place ≡ turned → NeverEnds net lid place → then_end (λ next. end_within net lid 0 next) turned ≡ None
  ends_at place turned is never = sym (ap (then_end (λ next. end_within net lid 0 next)) is) ∙ never 1

  steps : (place : ℕ) → GoesOn place → Steps place
  steps place on = by (turn net lid place) refl
    where
      by : (turned : Turn) → turn net lid place ≡ turned → Steps place
      by (turns.Goes next) is =
          let same : step place ≡ next = ap (next_by place) is in
          record {
            goes = is ∙ ap (λ (n : ℕ). turns.Goes n) (sym same);
            on = subst GoesOn (sym same) (record {
              of_switch = turn_goes net lid place next is;
              never = λ count. sym (ap (then_end (λ n. end_within net lid count n)) is) ∙ on.never (suc count);
            });
          }
      by (turns.Arrives there) is = absurd (let none = ends_at place (turns.Arrives there) is on.never in cc)
      by turns.Hole is = absurd (let none = ends_at place turns.Hole is on.never in cc)
      by (turns.Nowhere number) is = absurd (let none = ends_at place (turns.Nowhere number) is on.never in cc)
      by turns.Unknown is = absurd (let none = ends_at place turns.Unknown is on.never in cc)

  -- ---- so many steps on
  abbrev walk : ℕ → ℕ → ℕ
  walk zero place = place
  walk (suc k) place = walk k (step place)

  walk_on : (k place : ℕ) → GoesOn place → GoesOn (walk k place)
  walk_on zero place on = on
  walk_on (suc k) place on = walk_on k (step place) (steps place on).on

  walk_add : (a b place : ℕ) → walk (a + b) place ≡ walk b (walk a place)
  walk_add zero b place = let same : 0 + b ≡ b = omega arith in ap (λ (n : ℕ). walk n place) same
  walk_add (suc a) b place =
      let same : suc a + b ≡ suc (a + b) = omega arith in
      ap (λ (n : ℕ). walk n place) same ∙ walk_add a b (step place)

  comes_by : (k place : ℕ) → GoesOn place → (way : List ℕ) × ComesBy net lid place way (walk k place)
  comes_by zero place on = ([], refl)
  comes_by (suc k) place on =
      let one = steps place on in
      let rest = comes_by k (step place) one.on in
      (step place ∷ rest.0, (one.goes, rest.1))

  -- ---- the switches that it comes to are no more than there are, so it comes to one again
  abbrev visits : ℕ → ℕ → List ℕ
  visits zero place = []
  visits (suc count) place = place ∷ visits count (step place)

  length-visits : (count place : ℕ) → length (visits count place) ≡ count
  length-visits zero place = refl
  length-visits (suc count) place = ap suc (length-visits count (step place))

  visited : (count place there : ℕ) → list_any (λ n. there == n) (visits count place) ≡ true → (k : ℕ) × (k < count) × (walk k place ≡ there)
  visited zero place there is = absurd (false≢true is)
  visited (suc count) place there is = elim (cases_Bool (there == place)) [
    | inl here ↦ (0, omega arith, let same : place ≡ there = grind (arith, nat_tests, here) in same)
    | inr other ↦ let later = visited count (step place) there (rw other at is) in (suc later.0, (let less = later.1 in omega (arith, less)), later.2)
  ]

  visits_listed : (count place there : ℕ) → GoesOn place → list_any (λ n. there == n) (visits count place) ≡ true
      → list_any (λ n. there == n) (switches net.plan.nodes) ≡ true
  visits_listed count place there on is =
      let one = visited count place there is in
      let here = walk_on one.0 place on in
      turned_round (switches net.plan.nodes) there
      (is_listed net.plan.nodes there (subst (λ (n : ℕ). is_switch_at net.plan.nodes n ≡ true) one.2 here.of_switch))
    where
      turned_round : (xs : List ℕ) (k : ℕ) → list_any (λ n. n == k) xs ≡ true → list_any (λ n. k == n) xs ≡ true
      turned_round [] k there = there
      turned_round (x ∷ xs) k there = elim (cases_Bool (x == k)) [
        | inl here ↦ let same : (k == x) ≡ true = grind (arith, nat_tests, here) in rw same refl
        | inr other ↦ let apart : (k == x) ≡ false = grind (arith, nat_tests, other) in rw apart (turned_round xs k (rw other at there))
      ]

  -- a switch from which so many steps lead back to it, and one step less than the count
  record ComesAgain (count place : ℕ) : Type 0 where
    before : ℕ
    rest : ℕ
    few : suc rest < count
    again : walk (suc rest) (walk before place) ≡ walk before place

  again_or_differ : (count place : ℕ) → (all_differ (λ a b. a == b) (visits count place) ≡ true) ⊎ ComesAgain count place
  again_or_differ zero place = inl refl
  again_or_differ (suc count) place = by (list_any (λ n. place == n) (visits count (step place))) refl (again_or_differ count (step place))
    where
      by : (b : Bool) → list_any (λ n. place == n) (visits count (step place)) ≡ b
          → (all_differ (λ a b. a == b) (visits count (step place)) ≡ true) ⊎ ComesAgain count (step place)
          → (all_differ (λ a b. a == b) (visits (suc count) place) ≡ true) ⊎ ComesAgain (suc count) place
      by true is later =
          let one = visited count (step place) place is in
          let less = one.1 in
          inr (record { before = 0; rest = one.0; few = omega (arith, less); again = one.2 })
      by false is (inl differ) = inl (rw (is, differ) refl)
      by false is (inr found) =
          let few = found.few in
          inr (record { before = suc found.before; rest = found.rest; few = omega (arith, few); again = found.again })

  comes_again : (place : ℕ) → GoesOn place → ComesAgain (suc (switch_total net)) place
  comes_again place on = elim (again_or_differ (suc (switch_total net)) place) [
    | inr found ↦ found
    | inl differ ↦ absurd (
        let long = length-visits (suc (switch_total net)) place in
        let most = length-le_from_is_member nat_eq_equiv (visits (suc (switch_total net)) place) (switches net.plan.nodes)
        (distinct (λ a b. a == b) (visits (suc (switch_total net)) place) differ)
        (λ there is. visits_listed (suc (switch_total net)) place there on is) in
        omega (arith, long, most)
        )
  ]

  -- ---- the least of the switches that it goes round
  record Least (place many : ℕ) : Type 0 where
    at : ℕ
    within : at ≤ many
    least : (k : ℕ) → k ≤ many → walk at place ≤ walk k place

  least_of : (many place : ℕ) → Least place many
  least_of zero place = record { at = 0; within = omega arith; least = λ k most. let same : k ≡ 0 = omega (arith, most) in rw same (omega arith) }
  least_of (suc many) place = elim (cases_lt (walk (suc many) place) (walk (least_of many place).at place)) [
    | inl less ↦ record {
      at = suc many;
      within = omega arith;
      least = λ k most. elim (cases_lt many k) [
        | inl past ↦ let same : k ≡ suc many = omega (arith, past, most) in rw same (omega arith)
        | inr inside ↦ let one = (least_of many place).least k inside in omega (arith, one, less)
      ];
    }
    | inr more ↦ let before = (least_of many place).within in record {
      at = (least_of many place).at;
      within = omega (arith, before);
      least = λ k most. elim (cases_lt many k) [
        | inl past ↦ let same : k ≡ suc many = omega (arith, past, most) in rw same more
        | inr inside ↦ (least_of many place).least k inside
      ];
    }
  ]

  -- it goes round from its least switch, over none that is less
  record GoesRound (home : ℕ) : Type 0 where
    on : GoesOn home
    rest : ℕ
    few : rest < switch_total net
    back_home : walk rest (step home) ≡ home
    least : (k : ℕ) → k ≤ rest → home ≤ walk k (step home)

  round_from : (start rest : ℕ) → GoesOn start → rest < switch_total net → walk (suc rest) start ≡ start → (at : ℕ) × GoesRound (walk at start)
  round_from start rest on few again = (
    found.at,
    record {
      on = walk_on found.at start on;
      rest = rest;
      few = few;
      back_home = sym (walk_add found.at (suc rest) start) ∙ turned ∙ refl;
      least = λ k most. subst (λ (n : ℕ). walk found.at start ≤ n) (walk_add found.at (suc k) start) (above (found.at + suc k) (omega (arith, most, inside)));
    },
  )
    where
      found : Least start rest
      found = least_of rest start

      inside : found.at ≤ rest
      inside = found.within

      turned : walk (found.at + suc rest) start ≡ walk found.at start
      turned =
          let same : found.at + suc rest ≡ suc rest + found.at = omega arith in
          ap (λ (n : ℕ). walk n start) same ∙ (walk_add (suc rest) found.at start ∙ ap (walk found.at) again)

      above : (k : ℕ) → k ≤ rest + suc rest → walk found.at start ≤ walk k start
      above k most = elim (cases_lt rest k) [
        | inr within ↦ found.least k within
        | inl past ↦
            let same : k ≡ suc rest + (k - suc rest) = omega (arith, past) in
            let there = ap (λ (n : ℕ). walk n start) same ∙ (walk_add (suc rest) (k - suc rest) start ∙ ap (walk (k - suc rest)) again) in
            subst (λ (n : ℕ). walk found.at start ≤ n) (sym there) (found.least (k - suc rest) (omega (arith, past, most)))
      ]

  -- ---- so the loop is reported from there
  record IsReported (home : ℕ) (found : Option (List ℕ)) : Type 0 where
    ring : List ℕ
    is : found ≡ Some ring
    least : is_least home ring ≡ true

  not_less : (a b : ℕ) → a ≤ b → nat_le a b ≡ true
  not_less a b le = grind (arith, nat_tests, le)

  back_reported : (home count rest place : ℕ) → rest < count → walk rest place ≡ home → ((k : ℕ) → k ≤ rest → home ≤ walk k place) → GoesOn place
      → IsReported home (back net lid home count place)
  back_reported home zero rest place few is least on = absurd (omega (arith, few))
  back_reported home (suc count) rest place few is least on = elim (cases_Bool (place == home)) [
    | inl here ↦ record { ring = []; is = rw here refl; least = refl }
    | inr other ↦ by rest few is least other (back_reported home count)
  ]
    where
      by : (rest : ℕ) → rest < suc count → walk rest place ≡ home → ((k : ℕ) → k ≤ rest → home ≤ walk k place) → (place == home) ≡ false
          → ((rest place : ℕ) → rest < count → walk rest place ≡ home → ((k : ℕ) → k ≤ rest → home ≤ walk k place) → GoesOn place
          → IsReported home (back net lid home count place)) → IsReported home (back net lid home (suc count) place)
      by zero few is least other more = absurd (let same : (place == home) ≡ true = grind (arith, nat_tests, is) in false≢true (sym other ∙ same))
      by (suc rest) few is least other more =
          let one = steps place on in
          let later = more rest (step place) (omega (arith, few)) is (λ k most. least (suc k) (omega (arith, most))) one.on in
          let on_from : ℕ → Option (List ℕ) = λ next. back net lid home count next in
          let away : back net lid home (suc count) place ≡ option_map (λ rest. place ∷ rest) (if_goes on_from (turn net lid place)) = rw other refl in
          let goes = ap (λ (turned : Turn). option_map (λ (rest : List ℕ). place ∷ rest) (if_goes on_from turned)) one.goes in
          record {
            ring = place ∷ later.ring;
            is = away ∙ (goes ∙ ap (option_map (λ (rest : List ℕ). place ∷ rest)) later.is);
            least = and_from (nat_le home place) _ (not_less home place (least 0 (omega arith))) later.least;
          }

  loop_reported : (home : ℕ) → GoesRound home → IsReported home (loop_from net lid home)
  loop_reported home round =
      let one = steps home round.on in
      let reported = back_reported home (switch_total net) round.rest (step home) round.few round.back_home round.least one.on in
      let on_from : ℕ → Option (List ℕ) = λ next. back net lid home (switch_total net) next in
      let goes = ap (λ (turned : Turn). option_map (λ (rest : List ℕ). home ∷ rest) (if_goes on_from turned)) one.goes in
      record {
        ring = home ∷ reported.ring;
        is = goes ∙ ap (option_map (λ (rest : List ℕ). home ∷ rest)) reported.is;
        least = and_from (nat_le home home) _ (not_less home home (omega arith)) reported.least;
      }

  some_line : (there : ℕ) (end : Option PortRef) (found : Option (List ℕ)) → IsReported there found → loop_line net there lid end found ≡ [] → ⊥
  some_line there end found reported none =
      let line : List ℕ = codes "loop " ++ lid_text net lid end ++ flat_map (name_word net) reported.ring ++ 10 ∷ [] in
      let shown : loop_line net there lid end (Some reported.ring) ≡ line = rw reported.least refl in
      let empty : line ≡ [] = sym shown ∙ (sym (ap (loop_line net there lid end) reported.is) ∙ none) in
      cc

  -- ---- the line of what does not go on for ever stands where it ends
  record Ends (place : ℕ) (turned : Turn) : Type 0 where
    there : ℕ
    of_switch : is_switch_at net.plan.nodes there ≡ true
    way : List ℕ
    comes : ComesBy net lid place way there
    is : turn net lid there ≡ turned

  ends_there : (place : ℕ) (way : List ℕ) (turned : Turn) → is_switch_at net.plan.nodes place ≡ true → IsWay net lid place way turned → Ends place turned
  ends_there place [] turned switch is = record { there = place; of_switch = switch; way = []; comes = refl; is = is.0 }
  ends_there place (next ∷ rest) turned switch is =
      let later = ends_there next rest turned (turn_goes net lid place next is.0) is.1 in
      record { there = later.there; of_switch = later.of_switch; way = next ∷ later.way; comes = (is.0, later.comes); is = later.is }

  has_line : (place : ℕ) (turned : Turn) → Ends place turned → ((there : ℕ) → turn net lid there ≡ turned → trouble_line net there (aim_of net lid) ≡ [] → ⊥)
      → HasItsLine trouble_line net lid place
  has_line place turned ends some =
      record { there = ends.there; of_switch = ends.of_switch; way = ends.way; comes = ends.comes; reported = some ends.there ends.is }

  -- ---- what goes on has the line of the loop, whosever the LID is
  second_empty : (xs ys : List ℕ) → xs ++ ys ≡ [] → ys ≡ []
  second_empty [] ys none = none
  second_empty (x ∷ xs) ys none = cc

  goes_line : (there next : ℕ) (guid : Option ℕ) (end : Option PortRef) → turn net lid there ≡ turns.Goes next → trouble_to net there lid guid end ≡ []
      → loop_line net there lid end (loop_from net lid there) ≡ []
  goes_line there next guid (Some end) goes none = sym (ap (line_by net there lid end) goes) ∙ none
  goes_line there next (Some guid) None goes none = sym (ap (unplaced_line net there lid) goes) ∙ none
  goes_line there next None None goes none =
      sym (ap (nobodys_line net there lid) goes) ∙ second_empty (stray_line net there lid) (nobodys_line net there lid (turn net lid there)) none

  loop_line_reported : (place : ℕ) → GoesOn place → HasItsLine trouble_line net lid place
  loop_line_reported place on =
      let again = comes_again place on in
      let few = again.few in
      let home = round_from (walk again.before place) again.rest (walk_on again.before place on) (omega (arith, few)) again.again in
      let way = comes_by (again.before + home.0) place on in
      let there = walk_add again.before home.0 place in
      let at = walk home.0 (walk again.before place) in
      let one = steps at home.1.on in
      record {
        there = at;
        of_switch = home.1.on.of_switch;
        way = way.0;
        comes = subst (ComesBy net lid place way.0) there way.1;
        reported = λ none. some_line at (aim_of net lid).end (loop_from net lid at) (loop_reported at home.1) (goes_line at (step at) (aim_of net lid).guid (aim_of net lid).end one.goes none);
      }

  -- ---- packets to a port that the topology lacks end at a switch without an entry
  hole_shown : (there guid : ℕ) (end : Option PortRef) → turn net lid there ≡ turns.Hole → trouble_to net there lid (Some guid) end ≡ [] → ⊥
  hole_shown there guid (Some end) hole none = let empty = sym (ap (line_by net there lid end) hole) ∙ none in cc
  hole_shown there guid None hole none = let empty = sym (ap (unplaced_line net there lid) hole) ∙ none in cc

  hole_reported : (place guid : ℕ) → is_switch_at net.plan.nodes place ≡ true → (aim_of net lid).guid ≡ Some guid → EndsBy net lid place turns.Hole
      → HasItsLine trouble_line net lid place
  hole_reported place guid switch named way =
      has_line place turns.Hole (ends_there place way.0 turns.Hole switch way.1)
      (λ there hole none. hole_shown there guid (aim_of net lid).end hole (sym (ap (λ (o : Option ℕ). trouble_to net there lid o (aim_of net lid).end) named) ∙ none))

  -- ---- packets to a port that is known come to an entry that is not, in a table
  left_out_shown : (there guid : ℕ) (end : Option PortRef) → is_some (table_at net there) ≡ true → turn net lid there ≡ turns.Unknown
      → trouble_to net there lid (Some guid) end ≡ [] → ⊥
  left_out_shown there guid (Some end) has unknown none =
      let line : List ℕ = codes "left-out " ++ name_text net there ++ codes " " ++ lid_text net lid (Some end) ++ 10 ∷ [] in
      let shown : left_out_line net there lid (Some end) ≡ line = rw has refl in
      let empty : line ≡ [] = sym shown ∙ (sym (ap (line_by net there lid end) unknown) ∙ none) in
      cc
  left_out_shown there guid None has unknown none =
      let line : List ℕ = codes "left-out " ++ name_text net there ++ codes " " ++ lid_text net lid None ++ 10 ∷ [] in
      let shown : left_out_line net there lid None ≡ line = rw has refl in
      let empty : line ≡ [] = sym shown ∙ (sym (ap (unplaced_line net there lid) unknown) ∙ none) in
      cc

  unknown_reported : (place guid : ℕ) → is_switch_at net.plan.nodes place ≡ true → (aim_of net lid).guid ≡ Some guid
      → ((there : ℕ) (way : List ℕ) → ComesBy net lid place way there → is_some (table_at net there) ≡ true) → EndsBy net lid place turns.Unknown
      → HasItsLine trouble_line net lid place
  unknown_reported place guid switch named tables way =
      let ends = ends_there place way.0 turns.Unknown switch way.1 in
      record {
        there = ends.there;
        of_switch = ends.of_switch;
        way = ends.way;
        comes = ends.comes;
        reported = λ none. left_out_shown ends.there guid (aim_of net lid).end (tables ends.there ends.way ends.comes) ends.is
            (sym (ap (λ (o : Option ℕ). trouble_to net ends.there lid o (aim_of net lid).end) named) ∙ none);
      }

  -- ---- where a switch sends the LID to one whose entry is not known
  pub fed_there : (place next : ℕ) → is_switch_at net.plan.nodes place ≡ true → turn net lid place ≡ turns.Goes next → is_fed net next lid ≡ true
  fed_there place next switch goes =
      any_of (λ one. goes_to next (turn net lid one)) (switches net.plan.nodes) place (is_listed net.plan.nodes place switch)
      (ap (goes_to next) goes ∙ eq-eqb next next refl)

  fed_line : (place next : ℕ) (guid : Option ℕ) (end : Option PortRef) → is_switch_at net.plan.nodes place ≡ true → turn net lid place ≡ turns.Goes next
      → turn net lid next ≡ turns.Unknown → is_some (table_at net next) ≡ true → trouble_to net next lid guid end ≡ [] → ⊥
  fed_line place next guid (Some end) switch goes unknown has none = left_out_shown next 0 (Some end) has unknown none
  fed_line place next (Some guid) None switch goes unknown has none = left_out_shown next guid None has unknown none
  fed_line place next None None switch goes unknown has none =
      let line : List ℕ = codes "left-out " ++ name_text net next ++ codes " " ++ lid_text net lid None ++ 10 ∷ [] in
      let shown : left_out_line net next lid None ≡ line = rw has refl in
      let fed : nobodys_line net next lid turns.Unknown ≡ left_out_line net next lid None = rw (fed_there place next switch goes) refl in
      let left = second_empty (stray_line net next lid) (nobodys_line net next lid (turn net lid next)) none in
      let empty : line ≡ [] = sym shown ∙ (sym fed ∙ (sym (ap (nobodys_line net next lid) unknown) ∙ left)) in
      cc

  -- ---- packets to an end port of the topology
  module _ (end : PortRef) (named : (aim_of net lid).end ≡ Some end) where
    line_is : (there : ℕ) → trouble_line net there (aim_of net lid) ≡ line_by net there lid end (turn net lid there)
    line_is there = ap (trouble_to net there lid (aim_of net lid).guid) named

    reported_by : (turned : Turn) → ((there : ℕ) → line_by net there lid end turned ≡ [] → ⊥) → (there : ℕ) → turn net lid there ≡ turned
        → trouble_line net there (aim_of net lid) ≡ [] → ⊥
    reported_by turned some there is none = some there (sym (ap (line_by net there lid end) is) ∙ (sym (line_is there) ∙ none))

    wrong_reported : (there : PortRef) → (is_same_port there end ≡ true → ⊥) → (at : ℕ) → line_by net at lid end (turns.Arrives there) ≡ [] → ⊥
    wrong_reported there other at none = elim (cases_Bool (is_same_port there end)) [
      | inl same ↦ other same
      | inr apart ↦ let empty = rw apart at none in cc
    ]

    by_end : (place : ℕ) (found : Option Turn) → is_switch_at net.plan.nodes place ≡ true → end_from net lid place ≡ found
        → (fate_by end found ≡ fates.Reached → ⊥) → (fate_by end found ≡ fates.Unknown → ⊥) → HasItsLine trouble_line net lid place
    by_end place None switch is reached unknown = loop_line_reported place (record { of_switch = switch; never = loops_never_end net lid place switch is })
    by_end place (Some turned) switch is reached unknown = by turned (way_there net lid (switch_total net) place turned is) reached unknown
      where
        by : (turned : Turn) → EndsBy net lid place turned → (fate_by end (Some turned) ≡ fates.Reached → ⊥) → (fate_by end (Some turned) ≡ fates.Unknown → ⊥)
            → HasItsLine trouble_line net lid place
        by (turns.Goes next) way reached unknown = absurd (goes_on_still place way.0 next way.1)
          where
            goes_on_still : (place : ℕ) (way : List ℕ) (next : ℕ) → IsWay net lid place way (turns.Goes next) → ⊥
            goes_on_still place [] next is = is.1 next refl
            goes_on_still place (one ∷ rest) next is = goes_on_still one rest next is.1
        by (turns.Arrives there) way reached unknown =
            has_line place (turns.Arrives there) (ends_there place way.0 (turns.Arrives there) switch way.1)
            (reported_by (turns.Arrives there) (wrong_reported there (λ same. reached (rw same refl))))
        by turns.Hole way reached unknown =
            has_line place turns.Hole (ends_there place way.0 turns.Hole switch way.1) (reported_by turns.Hole (λ at none. cc))
        by (turns.Nowhere number) way reached unknown =
            has_line place (turns.Nowhere number) (ends_there place way.0 (turns.Nowhere number) switch way.1)
            (reported_by (turns.Nowhere number) (λ at none. cc))
        by turns.Unknown way reached unknown = absurd (unknown refl)

pub each_trouble_has_a_line : EachTroubleHasALine
each_trouble_has_a_line = record {
  lost = λ net lid place end switch named reached unknown. by_end net lid end named place (end_from net lid place) switch refl reached unknown;
  ended = λ net lid place guid switch named way. hole_reported net lid place guid switch named way;
  unknown = λ net lid place guid switch named tables way. unknown_reported net lid place guid switch named tables way;
  fed = λ net lid place next switch goes unknown has none. fed_line net lid place next (aim_of net lid).guid (aim_of net lid).end switch goes unknown has none;
  endless = λ net lid place switch never. loop_line_reported net lid place (record { of_switch = switch; never = never });
}
