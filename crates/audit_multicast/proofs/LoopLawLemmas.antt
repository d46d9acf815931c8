-- Loops that are reported go round, and none is missed.
use Rattle.std.proofs.Common.{◌≡◌, ◌∙◌, inl, inr, ap, refl, subst, sym, ℕ, zero, suc, ◌+◌, ◌<◌, ◌≤◌, nat_le, Bool, true, false, ◌==◌, ◌&&◌, not, List, [], ◌∷◌, map, filter, flat_map, arith}
use Rattle.std.proofs.Common.{Option, Some, None}
use Rattle.std.specs.List.{list_all, list_any, range_with_len}
use Rattle.std.specs.Option.{option_map_or}
use Rattle.std.proofs.lemmas.Bool.{and_from, and_parts, cases_Bool, eq-eqb, false_from_ne_true, false≢true, or_right}
use Rattle.std.proofs.lemmas.Bool.Decides.{nat_tests}
use Rattle.fabric_parts.specs.Cable.{far_end, is_same_port, last_of, port}
use Rattle.fabric_parts.specs.declared.cable.PortRef.{PortRef}
use Rattle.step_results.proofs.ListLemmas.{any_flat}
use Rattle.topo_file.specs.Connectivity.{switches}
use Rattle.topo_file.specs.Node.{is_switch_at, ports_at}
use Rattle.audit_plan.specs.Attached.{ports_of}
use Rattle.audit_loops.specs.Laws.{is_cycle, wait_round}
use Rattle.audit_net.specs.Net.{NetState}
use Rattle.audit_loops.proofs.CycleLawLemmas.{are_among, no_ring_missed, rings_wait}
use Rattle.audit_net.proofs.EndlessLemmas.{any_of}
use Rattle.audit_plan.proofs.PlaceLemmas.{is_listed}
use Rattle.audit_routes.proofs.SafeLemmas.{same_port}
use Rattle.audit_multicast.specs.Laws.{MaskLoopsGoRound, NoMaskLoopIsMissed, is_own_port}
use Rattle.audit_multicast.specs.Loops.{all_outs, loop_of}
use Rattle.audit_multicast.specs.Ways.{comes_to, goes_on, is_set, leaves, outs, turns}

-- ---- which ports are listed
pub same_itself : (at : PortRef) → is_same_port at at ≡ true
same_itself at = and_from (at.node == at.node) _ (eq-eqb at.node at.node refl) (eq-eqb at.port at.port refl)

port_listed : (at : PortRef) (low many : ℕ) → low ≤ at.port → at.port < low + many → list_any (is_same_port at) (map (port at.node) (range_with_len low many)) ≡ true
port_listed at low zero from to = absurd (omega (arith, from, to))
port_listed at low (suc many) from to = elim (cases_Bool (at.port == low)) [
  | inl here ↦
      let node : (at.node == at.node) ≡ true = eq-eqb at.node at.node refl in
      rw (node, here) refl
  | inr other ↦
      let apart : low ≡ at.port → ⊥ = (λ same. let is : (at.port == low) ≡ true = eq-eqb at.port low (sym same) in false≢true (sym other ∙ is)) in
      or_right (is_same_port at (port at.node low)) _ (port_listed at (low + 1) many (omega (arith, from, apart)) (omega (arith, to)))
]

pub own_listed : (net : NetState) (at : PortRef) → is_own_port net at ≡ true → list_any (is_same_port at) (ports_of net.plan at.node) ≡ true
own_listed net at own =
    let parts = and_parts (nat_le 1 at.port) _ own in
    port_listed at 1 (ports_at net.plan.nodes at.node) (grind (arith, nat_tests, parts.0)) (grind (arith, nat_tests, parts.1))

pub kept_listed : (p : PortRef → Bool) (at : PortRef) (xs : List PortRef) → p at ≡ true → list_any (is_same_port at) xs ≡ true → list_any (is_same_port at) (filter p xs) ≡ true
kept_listed p at [] passes there = absurd (false≢true there)
kept_listed p at (x ∷ xs) passes there = elim (cases_Bool (is_same_port at x)) [
  | inl here ↦
      let same : at ≡ x = same_port at x here in
      let kept : p x ≡ true = subst (λ (one : PortRef). p one ≡ true) same passes in
      rw (kept, here) refl
  | inr other ↦ let later = kept_listed p at xs passes (rw other at there) in elim (cases_Bool (p x)) [
    | inl keeps ↦ rw keeps (or_right (is_same_port at x) _ later)
    | inr drops ↦ rw drops later
  ]
]

pub out_listed : (net : NetState) (masks : List (List ℕ)) (number : ℕ) (at : PortRef) → is_own_port net at ≡ true → leaves net masks at ≡ true → (number == at.port) ≡ false
    → list_any (is_same_port at) (outs net masks (port at.node number)) ≡ true
out_listed net masks number at own leaving other =
    kept_listed (λ out. not (number == out.port) && leaves net masks out) at (ports_of net.plan at.node)
    (and_from (not (number == at.port)) _ (ap not other) leaving) (own_listed net at own)

pub out_among : (net : NetState) (masks : List (List ℕ)) (at : PortRef) → is_switch_at net.plan.nodes at.node ≡ true → is_own_port net at ≡ true → leaves net masks at ≡ true
    → list_any (is_same_port at) (all_outs net masks) ≡ true
out_among net masks at switch own leaving =
    let parts = and_parts (nat_le 1 at.port) _ own in
    let other : (0 == at.port) ≡ false = grind (arith, nat_tests, parts.0) in
    any_flat (is_same_port at) (λ place. outs net masks (port place 0)) (switches net.plan.nodes)
    ∙ any_of (λ place. list_any (is_same_port at) (outs net masks (port place 0))) (switches net.plan.nodes) at.node (is_listed net.plan.nodes at.node switch)
    (out_listed net masks 0 at own leaving other)

-- ---- all of a loop are among them
pub switch_behind : (net : NetState) (masks : List (List ℕ)) (a b : PortRef) → leaves net masks a ≡ true → goes_on net masks a b ≡ true → is_switch_at net.plan.nodes b.node ≡ true
switch_behind net masks a b leaving goes = by (far_end net.plan.cables a) (and_parts (is_set masks a) _ leaving).1 (and_parts (comes_to net a b) _ goes).0
  where
    by : (there : Option PortRef) → option_map_or (λ end. is_switch_at net.plan.nodes end.node) there false ≡ true → option_map_or (λ end. turns end b) there false ≡ true
        → is_switch_at net.plan.nodes b.node ≡ true
    by None is comes = absurd (false≢true comes)
    by (Some there) is comes =
        let parts = and_parts (there.node == b.node) _ comes in
        let same : there.node ≡ b.node = grind (arith, nat_tests, parts.0) in
        subst (λ (n : ℕ). is_switch_at net.plan.nodes n ≡ true) same is

leaves_next : (net : NetState) (masks : List (List ℕ)) (a b : PortRef) → goes_on net masks a b ≡ true → leaves net masks b ≡ true
leaves_next net masks a b goes = (and_parts (comes_to net a b) _ goes).1

round_comes : (net : NetState) (masks : List (List ℕ)) (first a : PortRef) (rest : List PortRef) → wait_round (goes_on net masks) first (a ∷ rest) ≡ true
    → goes_on net masks (last_of a rest) first ≡ true
round_comes net masks first a [] round = round
round_comes net masks first a (b ∷ rest) round = round_comes net masks first b rest (and_parts (goes_on net masks a b) _ round).1

last_leaves : (net : NetState) (masks : List (List ℕ)) (first a : PortRef) (rest : List PortRef) → leaves net masks a ≡ true → wait_round (goes_on net masks) first (a ∷ rest) ≡ true
    → leaves net masks (last_of a rest) ≡ true
last_leaves net masks first a [] leaving round = leaving
last_leaves net masks first a (b ∷ rest) leaving round =
    let parts = and_parts (goes_on net masks a b) _ round in
    last_leaves net masks first b rest (leaves_next net masks a b parts.0) parts.1

rest_among : (net : NetState) (masks : List (List ℕ)) (first a : PortRef) (rest : List PortRef) → leaves net masks a ≡ true → list_all (is_own_port net) rest ≡ true
    → wait_round (goes_on net masks) first (a ∷ rest) ≡ true → are_among (all_outs net masks) rest ≡ true
rest_among net masks first a [] leaving own round = refl
rest_among net masks first a (b ∷ rest) leaving own round =
    let parts = and_parts (goes_on net masks a b) _ round in
    let mine = and_parts (is_own_port net b) _ own in
    let next = leaves_next net masks a b parts.0 in
    and_from (list_any (is_same_port b) (all_outs net masks)) _ (out_among net masks b (switch_behind net masks a b leaving parts.0) mine.0 next)
    (rest_among net masks first b rest next mine.1 parts.1)

ring_among : (net : NetState) (masks : List (List ℕ)) (a : PortRef) (rest : List PortRef) → list_all (is_own_port net) (a ∷ rest) ≡ true
    → is_cycle (goes_on net masks) (a ∷ rest) ≡ true → are_among (all_outs net masks) (a ∷ rest) ≡ true
ring_among net masks a rest own round =
    let mine = and_parts (is_own_port net a) _ own in
    let home = round_comes net masks a a rest round in
    let leaving = leaves_next net masks (last_of a rest) a home in
    let switch = switch_behind net masks (last_of a rest) a (last_leaves net masks a a rest leaving round) home in
    and_from (list_any (is_same_port a) (all_outs net masks)) _ (out_among net masks a switch mine.0 leaving) (rest_among net masks a a rest leaving mine.1 round)

-- ---- by the ports that are compared: those of the list leave
round_by : (net : NetState) (masks : List (List ℕ)) (first a : PortRef) (rest : List PortRef) → wait_round (goes_on net masks) first (a ∷ rest) ≡ true
    → wait_round (comes_to net) first (a ∷ rest) ≡ true
round_by net masks first a [] round = (and_parts (comes_to net a first) _ round).0
round_by net masks first a (b ∷ rest) round =
    let parts = and_parts (goes_on net masks a b) _ round in
    and_from (comes_to net a b) _ (and_parts (comes_to net a b) _ parts.0).0 (round_by net masks first b rest parts.1)

pub no_mask_loop_is_missed : NoMaskLoopIsMissed
unfolding loop_of
no_mask_loop_is_missed net masks none [] own = refl
no_mask_loop_is_missed net masks none (a ∷ rest) own =
    false_from_ne_true _ (λ round.
    let among = ring_among net masks a rest own round in
    false≢true (sym (no_ring_missed (comes_to net) (all_outs net masks) none (a ∷ rest) among) ∙ round_by net masks a a rest round))

pub kept_are : (p q : PortRef → Bool) → ((x : PortRef) → q x ≡ true → p x ≡ true) → (at : PortRef) (xs : List PortRef) → list_any (is_same_port at) (filter q xs) ≡ true → p at ≡ true
kept_are p q passes at [] there = absurd (false≢true there)
kept_are p q passes at (x ∷ xs) there = elim (cases_Bool (q x)) [
  | inl keeps ↦ elim (cases_Bool (is_same_port at x)) [
    | inl here ↦ subst (λ (one : PortRef). p one ≡ true) (sym (same_port at x here)) (passes x keeps)
    | inr other ↦ kept_are p q passes at xs (rw other at (rw keeps at there))
  ]
  | inr drops ↦ kept_are p q passes at xs (rw drops at there)
]

some_leave : (net : NetState) (masks : List (List ℕ)) (at : PortRef) (places : List ℕ) → list_any (is_same_port at) (flat_map (λ place. outs net masks (port place 0)) places) ≡ true
    → leaves net masks at ≡ true
some_leave net masks at [] there = absurd (false≢true there)
some_leave net masks at (place ∷ places) there =
    let parts = any_flat (is_same_port at) (λ one. outs net masks (port one 0)) (place ∷ places) in
    elim (cases_Bool (list_any (is_same_port at) (outs net masks (port place 0)))) [
      | inl here ↦ kept_are (leaves net masks) (λ out. not (0 == out.port) && leaves net masks out) (λ out passes. (and_parts (not (0 == out.port)) _ passes).1) at (ports_of net.plan place) here
      | inr other ↦ some_leave net masks at places (any_flat (is_same_port at) (λ one. outs net masks (port one 0)) places ∙ (rw other at (sym parts ∙ there)))
    ]

round_on : (net : NetState) (masks : List (List ℕ)) (first a : PortRef) (rest : List PortRef) → leaves net masks first ≡ true → are_among (all_outs net masks) rest ≡ true
    → wait_round (comes_to net) first (a ∷ rest) ≡ true → wait_round (goes_on net masks) first (a ∷ rest) ≡ true
round_on net masks first a [] leaving among round = and_from (comes_to net a first) _ round leaving
round_on net masks first a (b ∷ rest) leaving among round =
    let parts = and_parts (comes_to net a b) _ round in
    let mine = and_parts (list_any (is_same_port b) (all_outs net masks)) _ among in
    and_from (goes_on net masks a b) _ (and_from (comes_to net a b) _ parts.0 (some_leave net masks b (switches net.plan.nodes) mine.0))
    (round_on net masks first b rest leaving mine.1 parts.1)

pub mask_loops_go_round : MaskLoopsGoRound
unfolding loop_of
mask_loops_go_round net masks ring reported =
    let found = rings_wait (comes_to net) (all_outs net masks) ring reported in
    by ring found.0 found.1
  where
    by : (some : List PortRef) → are_among (all_outs net masks) some ≡ true → is_cycle (comes_to net) some ≡ true → is_cycle (goes_on net masks) some ≡ true
    by [] among round = absurd (false≢true round)
    by (a ∷ rest) among round =
        let mine = and_parts (list_any (is_same_port a) (all_outs net masks)) _ among in
        round_on net masks a a rest (some_leave net masks a (switches net.plan.nodes) mine.0) mine.1 round
