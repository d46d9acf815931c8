-- No second copy is missed: where no switch is met again, each is reached by one path at most.
use Rattle.std.proofs.Common.{◌≡◌, ◌∙◌, inl, inr, ap, ap₂, refl, subst, sym, ℕ, zero, suc, ◌<◌, ◌≤◌, nat_eq, nat_le, nat_lt, Bool, true, false, ◌==◌, ◌&&◌, ◌||◌, not, List, [], ◌∷◌, ◌++◌, length, map, filter, arith}
use Rattle.std.proofs.Common.{Option, Some, None, option_map}
use Rattle.std.specs.List.{list_all, list_any, range_with_len}
use Rattle.std.specs.Option.{option_map_or, option_or}
use Rattle.std.proofs.lemmas.Bool.{and_from, and_parts, cases_Bool, cases_lt, eq-eqb, eqb-true, false≢true, or_right}
use Rattle.std.proofs.lemmas.Bool.Decides.{nat_tests}
use Rattle.std.proofs.lemmas.Cmp.{nat_eq_equiv}
use Rattle.std.proofs.lemmas.List.{length-append, length-map}
use Rattle.std.proofs.lemmas.List.Folds.{list_any-append}
use Rattle.std.proofs.lemmas.List.FromFn.{length-range_with_len}
use Rattle.std.proofs.lemmas.Map.Made.{length-le_from_is_member}
use Rattle.fabric_parts.specs.Cable.{far_end, is_same_port, port}
use Rattle.fabric_parts.specs.declared.cable.PortRef.{PortRef}
use Rattle.step_results.proofs.DistinctLemmas.{all_differ, distinct}
use Rattle.step_results.proofs.ListLemmas.{any_map, list_any_weaker}
use Rattle.topo_file.specs.Connectivity.{switches}
use Rattle.topo_file.specs.Node.{is_switch_at}
use Rattle.audit_plan.specs.Attached.{ports_of}
use Rattle.audit_loops.specs.Channels.{leads_to}
use Rattle.audit_net.specs.Net.{NetState}
use Rattle.audit_plan.proofs.PlaceLemmas.{in_kept, in_range, is_listed, within_nodes}
use Rattle.audit_routes.proofs.SafeLemmas.{same_port}
use Rattle.audit_multicast.specs.Copies.{again, arrivals, copy_from, copy_of, entrances, first_copy, hop, next_outs, node_behind, second_copy, takes_packets}
use Rattle.audit_multicast.specs.Laws.{NoCopyIsMissed, came_by, is_own_port}
use Rattle.audit_multicast.specs.Ways.{comes_to, goes_on, leaves, outs, turns}
use Rattle.audit_multicast.proofs.LoopLawLemmas.{out_listed}
use Rattle.audit_multicast.proofs.MeetLemmas.{again_found, again_on, all_joined, hop_inside, outs_inside}

-- ---- the copies after so many hops
abbrev pub hops : NetState → List (List ℕ) → ℕ → List PortRef → List PortRef
hops net masks zero front = front
hops net masks (suc k) front = hops net masks k (hop net masks front)

hops_more : (net : NetState) (masks : List (List ℕ)) (k : ℕ) (front : List PortRef) → hop net masks (hops net masks k front) ≡ hops net masks (suc k) front
hops_more net masks zero front = refl
hops_more net masks (suc k) front = hops_more net masks k (hop net masks front)

next_of : (net : NetState) (masks : List (List ℕ)) (before last : PortRef) → goes_on net masks before last ≡ true → is_own_port net last ≡ true
    → list_any (is_same_port last) (next_outs net masks before) ≡ true
next_of net masks before last goes own =
    let parts = and_parts (comes_to net before last) _ goes in by (far_end net.plan.cables before) parts.0 parts.1
  where
    by : (there : Option PortRef) → option_map_or (λ end. turns end last) there false ≡ true → leaves net masks last ≡ true
        → list_any (is_same_port last) (option_map_or (outs net masks) there []) ≡ true
    by None comes leaving = absurd (false≢true comes)
    by (Some there) comes leaving =
        let parts = and_parts (there.node == last.node) _ comes in
        let same : last.node ≡ there.node = grind (arith, nat_tests, parts.0) in
        let other : (there.port == last.port) ≡ false = grind (arith, nat_tests, parts.1) in
        subst (λ (n : ℕ). list_any (is_same_port last) (filter (λ out. not (there.port == out.port) && leaves net masks out) (ports_of net.plan n)) ≡ true) same
        (out_listed net masks there.port last own leaving other)

next_in : (net : NetState) (masks : List (List ℕ)) (before last : PortRef) (front : List PortRef) → goes_on net masks before last ≡ true → is_own_port net last ≡ true
    → list_any (is_same_port before) front ≡ true → list_any (is_same_port last) (hop net masks front) ≡ true
next_in net masks before last [] goes own there = absurd (false≢true there)
next_in net masks before last (x ∷ front) goes own there = elim (cases_Bool (is_same_port before x)) [
  | inl here ↦
      let first = subst (λ (one : PortRef). list_any (is_same_port last) (next_outs net masks one) ≡ true) (same_port before x here) (next_of net masks before last goes own) in
      list_any-append (is_same_port last) (next_outs net masks x) (hop net masks front) ∙ (rw first refl)
  | inr other ↦
      list_any-append (is_same_port last) (next_outs net masks x) (hop net masks front)
      ∙ or_right (list_any (is_same_port last) (next_outs net masks x)) _ (next_in net masks before last front goes own (rw other at there))
]

abbrev pub first_front : NetState → List (List ℕ) → ℕ → List PortRef
first_front net masks place = outs net masks (port place 0)

pub in_front : (net : NetState) (masks : List (List ℕ)) (place : ℕ) (last : PortRef) (back : List PortRef) (there : ℕ) → came_by net masks place (last ∷ back) there ≡ true
    → list_any (is_same_port last) (hops net masks (length back) (first_front net masks place)) ≡ true
in_front net masks place last [] there came =
    let parts = and_parts (last.node == place) _ came in
    let mine = and_parts (is_own_port net last) _ parts.1 in
    let leaving = and_parts (leaves net masks last) _ mine.1 in
    let own = and_parts (nat_le 1 last.port) _ mine.0 in
    let other : (0 == last.port) ≡ false = grind (arith, nat_tests, own.0) in
    let same : last.node ≡ place = grind (arith, nat_tests, parts.0) in
    subst (λ (n : ℕ). list_any (is_same_port last) (outs net masks (port n 0)) ≡ true) same (out_listed net masks 0 last mine.0 leaving.0 other)
in_front net masks place last (before ∷ back) there came =
    let parts = and_parts (goes_on net masks before last) _ came in
    let mine = and_parts (is_own_port net last) _ parts.1 in
    let rest = and_parts (leads_to net last there) _ mine.1 in
    subst (λ (front : List PortRef). list_any (is_same_port last) front ≡ true) (hops_more net masks (length back) (first_front net masks place))
    (next_in net masks before last (hops net masks (length back) (first_front net masks place)) parts.0 mine.0 (in_front net masks place before back last.node rest.1))

-- ---- the switch at the end of a path
pub leads_there : (net : NetState) (at : PortRef) (there : ℕ) → leads_to net at there ≡ true → node_behind net at ≡ there
leads_there net at there leads = by (far_end net.plan.cables at) leads
  where
    by : (end : Option PortRef) → option_map_or (λ one. one.node == there) end false ≡ true → option_map_or (λ one. one.node) end 0 ≡ there
    by None is = absurd (false≢true is)
    by (Some one) is = grind (arith, nat_tests, is)

pub last_leads : (net : NetState) (masks : List (List ℕ)) (place : ℕ) (last : PortRef) (back : List PortRef) (there : ℕ) → came_by net masks place (last ∷ back) there ≡ true
    → node_behind net last ≡ there
last_leads net masks place last [] there came =
    let parts = and_parts (last.node == place) _ came in
    let mine = and_parts (is_own_port net last) _ parts.1 in
    leads_there net last there (and_parts (leaves net masks last) _ mine.1).1
last_leads net masks place last (before ∷ back) there came =
    let parts = and_parts (goes_on net masks before last) _ came in
    let mine = and_parts (is_own_port net last) _ parts.1 in
    leads_there net last there (and_parts (leads_to net last there) _ mine.1).0

came_back : (net : NetState) (masks : List (List ℕ)) (place : ℕ) (last : PortRef) (back : List PortRef) (there : ℕ) → came_by net masks place (last ∷ back) there ≡ true
    → came_by net masks place back last.node ≡ true
came_back net masks place last [] there came =
    let parts = and_parts (last.node == place) _ came in
    let same : last.node ≡ place = grind (arith, nat_tests, parts.0) in
    eq-eqb place last.node (sym same)
came_back net masks place last (before ∷ back) there came =
    let parts = and_parts (goes_on net masks before last) _ came in
    let mine = and_parts (is_own_port net last) _ parts.1 in
    (and_parts (leads_to net last there) _ mine.1).1

pub ends_have : (net : NetState) (at : PortRef) (front : List PortRef) → list_any (is_same_port at) front ≡ true
    → list_any (λ n. n == node_behind net at) (map (node_behind net) front) ≡ true
ends_have net at front there =
    any_map (λ n. n == node_behind net at) (node_behind net) front
    ∙ list_any_weaker (is_same_port at) (λ x. node_behind net x == node_behind net at)
    (λ x same. eq-eqb (node_behind net x) (node_behind net at) (ap (node_behind net) (sym (same_port at x same)))) front there

-- ---- what is met again
parts_none : (met : ℕ → Bool) (xs ys : List ℕ) → again met (xs ++ ys) ≡ None → (again met xs ≡ None) × (again (λ k. met k || list_any (λ x. x == k) xs) ys ≡ None)
parts_none met xs ys none = by (again met xs) refl
  where
    by : (found : Option ℕ) → again met xs ≡ found → (again met xs ≡ None) × (again (λ k. met k || list_any (λ x. x == k) xs) ys ≡ None)
    by None is = (is, sym (again_on met xs ys is) ∙ none)
    by (Some place) is = let found : Some place ≡ None = sym (again_found met xs ys place is) ∙ none in absurd (cc)

first_new : (met : ℕ → Bool) (x : ℕ) (xs : List ℕ) → again met (x ∷ xs) ≡ None → (met x ≡ false) × (again (λ k. met k || (x == k)) xs ≡ None)
first_new met x xs none = elim (cases_Bool (met x)) [
  | inl here ↦ let found : Some x ≡ None = rw here at none in absurd (cc)
  | inr other ↦ (other, rw other at none)
]

either_not : (a b : Bool) → (a || b) ≡ false → (a ≡ false) × (b ≡ false)
either_not false b is = (refl, is)
either_not true b is = absurd (false≢true (sym is))

pub not_met : (met : ℕ → Bool) (t : ℕ) (xs : List ℕ) → again met xs ≡ None → list_any (λ n. n == t) xs ≡ true → met t ≡ false
not_met met t [] none there = absurd (false≢true there)
not_met met t (x ∷ xs) none there =
    let new = first_new met x xs none in
    elim (cases_Bool (x == t)) [
      | inl here ↦ let same : x ≡ t = grind (arith, nat_tests, here) in subst (λ (n : ℕ). met n ≡ false) same new.0
      | inr other ↦ (either_not (met t) (x == t) (not_met (λ k. met k || (x == k)) t xs new.1 (rw other at there))).0
    ]

arrivals_have : (net : NetState) (masks : List (List ℕ)) (k n t : ℕ) (front : List PortRef) → k < n → list_any (λ x. x == t) (map (node_behind net) (hops net masks k front)) ≡ true
    → list_any (λ x. x == t) (arrivals net masks n front) ≡ true
arrivals_have net masks k zero t front less there = absurd (omega (arith, less))
arrivals_have net masks zero (suc n) t front less there =
    list_any-append (λ x. x == t) (map (node_behind net) front) (arrivals net masks n (hop net masks front)) ∙ (rw there refl)
arrivals_have net masks (suc k) (suc n) t front less there =
    list_any-append (λ x. x == t) (map (node_behind net) front) (arrivals net masks n (hop net masks front))
    ∙ or_right (list_any (λ x. x == t) (map (node_behind net) front)) _ (arrivals_have net masks k n t (hop net masks front) (omega (arith, less)) there)

two_fronts : (net : NetState) (masks : List (List ℕ)) (j k n t : ℕ) (front : List PortRef) (met : ℕ → Bool) → again met (arrivals net masks n front) ≡ None → j < k → k < n
    → list_any (λ x. x == t) (map (node_behind net) (hops net masks j front)) ≡ true → list_any (λ x. x == t) (map (node_behind net) (hops net masks k front)) ≡ true → ⊥
two_fronts net masks j zero n t front met none less within one other = absurd (omega (arith, less))
two_fronts net masks j (suc k) zero t front met none less within one other = absurd (omega (arith, within))
two_fronts net masks zero (suc k) (suc n) t front met none less within one other =
    let parts = parts_none met (map (node_behind net) front) (arrivals net masks n (hop net masks front)) none in
    let there = arrivals_have net masks k n t (hop net masks front) (omega (arith, within)) other in
    let new = not_met (λ x. met x || list_any (λ y. y == x) (map (node_behind net) front)) t (arrivals net masks n (hop net masks front)) parts.1 there in
    false≢true (sym (either_not (met t) _ new).1 ∙ one)
two_fronts net masks (suc j) (suc k) (suc n) t front met none less within one other =
    let parts = parts_none met (map (node_behind net) front) (arrivals net masks n (hop net masks front)) none in
    two_fronts net masks j k n t (hop net masks front) (λ x. met x || list_any (λ y. y == x) (map (node_behind net) front)) parts.1 (omega (arith, less)) (omega (arith, within)) one other

pub same_front : (net : NetState) (a b : PortRef) (front : List PortRef) (met : ℕ → Bool) → again met (map (node_behind net) front) ≡ None
    → list_any (is_same_port a) front ≡ true → list_any (is_same_port b) front ≡ true → node_behind net a ≡ node_behind net b → a ≡ b
same_front net a b [] met none one other same = absurd (false≢true one)
same_front net a b (x ∷ front) met none one other same =
    let new = first_new met (node_behind net x) (map (node_behind net) front) none in
    elim (cases_Bool (is_same_port a x)) [
      | inl a_here ↦ elim (cases_Bool (is_same_port b x)) [
        | inl b_here ↦ same_port a x a_here ∙ sym (same_port b x b_here)
        | inr b_later ↦
            let later = not_met (λ k. met k || (node_behind net x == k)) (node_behind net b) (map (node_behind net) front) new.1 (ends_have net b front (rw b_later at other)) in
            let is = eq-eqb (node_behind net x) (node_behind net b) (ap (node_behind net) (sym (same_port a x a_here)) ∙ same) in
            absurd (false≢true (sym (either_not (met (node_behind net b)) _ later).1 ∙ is))
      ]
      | inr a_later ↦ elim (cases_Bool (is_same_port b x)) [
        | inl b_here ↦
            let later = not_met (λ k. met k || (node_behind net x == k)) (node_behind net a) (map (node_behind net) front) new.1 (ends_have net a front (rw a_later at one)) in
            let is = eq-eqb (node_behind net x) (node_behind net a) (ap (node_behind net) (sym (same_port b x b_here)) ∙ sym same) in
            absurd (false≢true (sym (either_not (met (node_behind net a)) _ later).1 ∙ is))
        | inr b_later ↦ same_front net a b front (λ k. met k || (node_behind net x == k)) new.1 (rw a_later at one) (rw b_later at other) same
      ]
    ]

front_none : (net : NetState) (masks : List (List ℕ)) (k n : ℕ) (front : List PortRef) (met : ℕ → Bool) → again met (arrivals net masks n front) ≡ None → k < n
    → (seen : ℕ → Bool) × (again seen (map (node_behind net) (hops net masks k front)) ≡ None)
front_none net masks k zero front met none less = absurd (omega (arith, less))
front_none net masks zero (suc n) front met none less = (met, (parts_none met (map (node_behind net) front) (arrivals net masks n (hop net masks front)) none).0)
front_none net masks (suc k) (suc n) front met none less =
    front_none net masks k n (hop net masks front) (λ x. met x || list_any (λ y. y == x) (map (node_behind net) front))
    (parts_none met (map (node_behind net) front) (arrivals net masks n (hop net masks front)) none).1 (omega (arith, less))

-- ---- no path is longer than there are nodes
-- whoever is on its way is at each hop before
abbrev SomeAt : NetState → List (List ℕ) → List PortRef → ℕ → Type 0
SomeAt net masks front i = (x : PortRef) × (list_any (is_same_port x) (hops net masks i front) ≡ true)

some_before : (net : NetState) (masks : List (List ℕ)) (place : ℕ) (last : PortRef) (back : List PortRef) (there : ℕ) → came_by net masks place (last ∷ back) there ≡ true
    → (i : ℕ) → i ≤ length back → SomeAt net masks (first_front net masks place) i
some_before net masks place last [] there came i least =
    let same : i ≡ 0 = omega (arith, least) in rw same (last, in_front net masks place last [] there came)
some_before net masks place last (before ∷ back) there came i least = elim (cases_lt i (suc (length back))) [
  | inl less ↦ some_before net masks place before back last.node (came_back net masks place last (before ∷ back) there came) i (omega (arith, less))
  | inr most ↦ let same : i ≡ suc (length back) = omega (arith, least, most) in rw same (last, in_front net masks place last (before ∷ back) there came)
]

some_long : (x : PortRef) (front : List PortRef) → list_any (is_same_port x) front ≡ true → 1 ≤ length front
some_long x [] there = absurd (false≢true there)
some_long x (y ∷ front) there = omega arith

many_arrive : (net : NetState) (masks : List (List ℕ)) (n : ℕ) (front : List PortRef) → ((i : ℕ) → i < n → SomeAt net masks front i) → n ≤ length (arrivals net masks n front)
many_arrive net masks zero front some = omega arith
many_arrive net masks (suc n) front some =
    let one = some 0 (omega arith) in
    let first = some_long one.0 front one.1 in
    let rest = many_arrive net masks n (hop net masks front) (λ i less. some (suc i) (omega (arith, less))) in
    let both = length-append (map (node_behind net) front) (arrivals net masks n (hop net masks front)) in
    let long = length-map front (node_behind net) in
    omega (arith, first, rest, both, long)

none_is : (met q : ℕ → Bool) → ((y : ℕ) → q y ≡ true → met y ≡ true) → (xs : List ℕ) → again met xs ≡ None → list_any q xs ≡ false
none_is met q meets [] none = refl
none_is met q meets (x ∷ xs) none =
    let new = first_new met x xs none in
    let rest = none_is (λ k. met k || (x == k)) q (λ y is. ap (λ (b : Bool). b || (x == y)) (meets y is)) xs new.1 in
    elim (cases_Bool (q x)) [
      | inl here ↦ absurd (false≢true (sym new.0 ∙ meets x here))
      | inr other ↦ rw other rest
    ]

all_new : (met : ℕ → Bool) (xs : List ℕ) → again met xs ≡ None → all_differ nat_eq xs ≡ true
all_new met [] none = refl
all_new met (x ∷ xs) none =
    let new = first_new met x xs none in
    let apart = none_is (λ k. met k || (x == k)) (nat_eq x) (λ y is. or_right (met y) (x == y) is) xs new.1 in
    and_from (not (list_any (nat_eq x) xs)) _ (ap not apart) (all_new (λ k. met k || (x == k)) xs new.1)

all_map : (p : ℕ → Bool) (net : NetState) (front : List PortRef) → list_all (λ at. p (node_behind net at)) front ≡ true → list_all p (map (node_behind net) front) ≡ true
all_map p net [] all = refl
all_map p net (at ∷ front) all = let parts = and_parts (p (node_behind net at)) _ all in and_from (p (node_behind net at)) _ parts.0 (all_map p net front parts.1)

arrivals_inside : (net : NetState) (masks : List (List ℕ)) (n : ℕ) (front : List PortRef) → list_all (λ at. nat_lt (node_behind net at) (length net.plan.nodes)) front ≡ true
    → list_all (λ place. nat_lt place (length net.plan.nodes)) (arrivals net masks n front) ≡ true
arrivals_inside net masks zero front inside = refl
arrivals_inside net masks (suc n) front inside =
    all_joined (λ place. nat_lt place (length net.plan.nodes)) (map (node_behind net) front) (arrivals net masks n (hop net masks front))
    (all_map (λ place. nat_lt place (length net.plan.nodes)) net front inside) (arrivals_inside net masks n (hop net masks front) (hop_inside net masks front))

member_inside : (limit node : ℕ) (xs : List ℕ) → list_all (λ place. nat_lt place limit) xs ≡ true → list_any (nat_eq node) xs ≡ true → node < limit
member_inside limit node [] all there = absurd (false≢true there)
member_inside limit node (x ∷ xs) all there =
    let parts = and_parts (nat_lt x limit) _ all in
    elim (cases_Bool (nat_eq node x)) [
      | inl here ↦ let same : node ≡ x = eqb-true node x here in rw same (grind (arith, nat_tests, parts.0))
      | inr other ↦ member_inside limit node xs parts.1 (rw other at there)
    ]

few : (limit : ℕ) (xs : List ℕ) → list_all (λ place. nat_lt place limit) xs ≡ true → all_differ nat_eq xs ≡ true → length xs ≤ limit
few limit xs inside differ =
    let most = length-le_from_is_member nat_eq_equiv xs (range_with_len 0 limit) (distinct nat_eq xs differ)
    (λ node there.
    let less = member_inside limit node xs inside there in
    list_any_weaker (λ n. n == node) (nat_eq node) (λ n is. eq-eqb node n (sym (eqb-true n node is))) (range_with_len 0 limit)
    (in_range node 0 limit (omega arith) (omega (arith, less)))) in
    let long = length-range_with_len 0 limit in
    omega (arith, most, long)

short : (net : NetState) (masks : List (List ℕ)) (place : ℕ) (last : PortRef) (back : List PortRef) (there : ℕ)
    → again (λ k. place == k) (arrivals net masks (length net.plan.nodes) (first_front net masks place)) ≡ None → is_switch_at net.plan.nodes place ≡ true
    → came_by net masks place (last ∷ back) there ≡ true → length back < length net.plan.nodes
short net masks place last back there none switch came = elim (cases_lt (length back) (length net.plan.nodes)) [
  | inl less ↦ less
  | inr most ↦ absurd (
      let many = length net.plan.nodes in
      let all = arrivals net masks many (first_front net masks place) in
      let long = many_arrive net masks many (first_front net masks place) (λ i less. some_before net masks place last back there came i (omega (arith, most, less))) in
      let apart = none_is (λ k. place == k) (nat_eq place) (λ y is. is) all none in
      let differ = and_from (not (list_any (nat_eq place) all)) _ (ap not apart) (all_new (λ k. place == k) all none) in
      let home = within_nodes net.plan.nodes place switch in
      let inside = and_from (nat_lt place many) (list_all (λ one. nat_lt one many) all) (grind (arith, nat_tests, home)) (arrivals_inside net masks many (first_front net masks place) (outs_inside net masks (port place 0))) in
      let most_of = few many (place ∷ all) inside differ in
      omega (arith, long, most_of))
]

-- ---- so there is one path at most
no_way_home : (net : NetState) (masks : List (List ℕ)) (place : ℕ) → again (λ k. place == k) (arrivals net masks (length net.plan.nodes) (first_front net masks place)) ≡ None
    → is_switch_at net.plan.nodes place ≡ true → (b : PortRef) (back : List PortRef) (there : ℕ) → (place == there) ≡ true
    → came_by net masks place (b ∷ back) there ≡ true → ⊥
no_way_home net masks place none switch b back there by_one by_other =
    let there_is = last_leads net masks place b back there by_other in
    let among = arrivals_have net masks (length back) (length net.plan.nodes) (node_behind net b) (first_front net masks place) (short net masks place b back there none switch by_other)
    (ends_have net b (hops net masks (length back) (first_front net masks place)) (in_front net masks place b back there by_other)) in
    let new = not_met (λ k. place == k) (node_behind net b) (arrivals net masks (length net.plan.nodes) (first_front net masks place)) none among in
    false≢true (sym new ∙ ap (λ (n : ℕ). place == n) there_is ∙ by_one)

one_path : (net : NetState) (masks : List (List ℕ)) (place : ℕ) → again (λ k. place == k) (arrivals net masks (length net.plan.nodes) (first_front net masks place)) ≡ None
    → is_switch_at net.plan.nodes place ≡ true → (one other : List PortRef) (there : ℕ) → came_by net masks place one there ≡ true → came_by net masks place other there ≡ true → one ≡ other
one_path net masks place none switch [] [] there by_one by_other = refl
one_path net masks place none switch [] (b ∷ back) there by_one by_other = absurd (no_way_home net masks place none switch b back there by_one by_other)
one_path net masks place none switch (a ∷ back) [] there by_one by_other = absurd (no_way_home net masks place none switch a back there by_other by_one)
one_path net masks place none switch (a ∷ one) (b ∷ other) there by_one by_other =
    let front = first_front net masks place in
    let many = length net.plan.nodes in
    let a_there = last_leads net masks place a one there by_one in
    let b_there = last_leads net masks place b other there by_other in
    let a_in = in_front net masks place a one there by_one in
    let b_in = in_front net masks place b other there by_other in
    let a_short = short net masks place a one there none switch by_one in
    let b_short = short net masks place b other there none switch by_other in
    let a_ends = subst (λ (n : ℕ). list_any (λ x. x == n) (map (node_behind net) (hops net masks (length one) front)) ≡ true) a_there (ends_have net a (hops net masks (length one) front) a_in) in
    let b_ends = subst (λ (n : ℕ). list_any (λ x. x == n) (map (node_behind net) (hops net masks (length other) front)) ≡ true) b_there (ends_have net b (hops net masks (length other) front) b_in) in
    elim (cases_lt (length one) (length other)) [
      | inl less ↦ absurd (two_fronts net masks (length one) (length other) many there front (λ k. place == k) none less b_short a_ends b_ends)
      | inr not_less ↦ elim (cases_lt (length other) (length one)) [
        | inl more ↦ absurd (two_fronts net masks (length other) (length one) many there front (λ k. place == k) none more a_short b_ends a_ends)
        | inr not_more ↦
            let long : length other ≡ length one = omega (arith, not_less, not_more) in
            let level = front_none net masks (length one) many front (λ k. place == k) none a_short in
            let b_here = subst (λ (n : ℕ). list_any (is_same_port b) (hops net masks n front) ≡ true) long b_in in
            let same = same_front net a b (hops net masks (length one) front) level.0 level.1 a_in b_here (a_there ∙ sym b_there) in
            let rest = one_path net masks place none switch one other a.node (came_back net masks place a one there by_one)
            (subst (λ (at : PortRef). came_by net masks place other at.node ≡ true) (sym same) (came_back net masks place b other there by_other)) in
            ap₂ (λ (x : PortRef) (xs : List PortRef). x ∷ xs) same rest
      ]
    ]

none_of_first : (net : NetState) (masks : List (List ℕ)) (places : List ℕ) (place : ℕ) → first_copy net masks places ≡ None → list_any (λ n. n == place) places ≡ true
    → second_copy net masks place ≡ None
none_of_first net masks [] place none there = absurd (false≢true there)
none_of_first net masks (x ∷ places) place none there = by (second_copy net masks x) refl none (λ left later. none_of_first net masks places place left later)
  where
    by : (found : Option ℕ) → second_copy net masks x ≡ found → option_or (option_map (copy_from x) found) (first_copy net masks places) ≡ None
        → (first_copy net masks places ≡ None → list_any (λ n. n == place) places ≡ true → second_copy net masks place ≡ None) → second_copy net masks place ≡ None
    by None is left rest = elim (cases_Bool (x == place)) [
      | inl here ↦ let same : x ≡ place = grind (arith, nat_tests, here) in subst (λ (n : ℕ). second_copy net masks n ≡ None) same is
      | inr other ↦ rest left (rw other at there)
    ]
    by (Some at) is left rest = let found : Some (copy_from x at) ≡ None = left in absurd (cc)

pub no_copy_is_missed : NoCopyIsMissed
unfolding copy_of second_copy
no_copy_is_missed net masks none place there switch takes twice =
    let listed = in_kept (takes_packets net) place (switches net.plan.nodes) takes (is_listed net.plan.nodes place switch) in
    let once = none_of_first net masks (entrances net) place none listed in
    twice.differ (one_path net masks place once switch twice.one twice.other there twice.by_one twice.by_other)
