-- A copy that is reported comes by two different paths.
use Rattle.std.proofs.Common.{◌≡◌, ◌∙◌, inl, inr, ap, refl, subst, sym, ℕ, zero, suc, ◌+◌, ◌<◌, ◌≤◌, Bool, true, false, ◌==◌, ◌&&◌, ◌||◌, not, List, [], ◌∷◌, ◌++◌, length, map, filter, arith}
use Rattle.std.proofs.Common.{Option, Some, None, option_map}
use Rattle.std.specs.List.{list_any, range_with_len}
use Rattle.std.specs.Option.{option_map_or, option_or}
use Rattle.std.proofs.lemmas.Bool.{and_from, and_parts, cases_Bool, eq-eqb, false≢true, or_right}
use Rattle.std.proofs.lemmas.Bool.Decides.{nat_tests}
use Rattle.std.proofs.lemmas.List.Folds.{list_any-append}
use Rattle.std.proofs.lemmas.Option.{same_Some}
use Rattle.fabric_parts.specs.Cable.{far_end, is_same_port, port}
use Rattle.fabric_parts.specs.declared.cable.PortRef.{PortRef}
use Rattle.step_results.proofs.DistinctLemmas.{all_differ}
use Rattle.step_results.proofs.BoolLemmas.{not_true}
use Rattle.topo_file.specs.Connectivity.{switches}
use Rattle.topo_file.specs.Node.{is_switch_at, ports_at}
use Rattle.audit_plan.specs.Attached.{ports_of}
use Rattle.audit_loops.specs.Channels.{leads_to}
use Rattle.audit_net.specs.Net.{NetState}
use Rattle.audit_routes.proofs.SafeLemmas.{same_port}
use Rattle.audit_multicast.specs.declared.copies.SecondCopy.{SecondCopy}
use Rattle.audit_multicast.specs.Copies.{again, arrivals, copy_from, copy_of, entrances, first_copy, hop, next_outs, node_behind, second_copy, takes_packets}
use Rattle.audit_multicast.specs.Laws.{ComesTwice, CopiesComeTwice, came_by, is_own_port}
use Rattle.audit_multicast.specs.Ways.{comes_to, goes_on, is_set, leaves, outs, turns}
use Rattle.audit_multicast.proofs.LoopLawLemmas.{kept_are, same_itself}
use Rattle.audit_multicast.proofs.MeetLemmas.{again_found, again_on}

-- ---- what is known of ports that are listed
pub range_own : (net : NetState) (at : PortRef) (place low many : ℕ) → 1 ≤ low → low + many ≤ ports_at net.plan.nodes place + 1
    → list_any (is_same_port at) (map (port place) (range_with_len low many)) ≡ true → (at.node ≡ place) × (is_own_port net at ≡ true)
range_own net at place low zero from to there = absurd (false≢true there)
range_own net at place low (suc many) from to there = elim (cases_Bool (is_same_port at (port place low))) [
  | inl here ↦
      let same = same_port at (port place low) here in
      let own : is_own_port net (port place low) ≡ true = grind (arith, nat_tests, from, to) in
      (ap (λ (one : PortRef). one.node) same, subst (λ (one : PortRef). is_own_port net one ≡ true) (sym same) own)
  | inr other ↦ range_own net at place (low + 1) many (omega (arith, from)) (omega (arith, to)) (rw other at there)
]

pub any_kept : (p : PortRef → Bool) (at : PortRef) (xs : List PortRef) → list_any (is_same_port at) (filter p xs) ≡ true → list_any (is_same_port at) xs ≡ true
any_kept p at [] there = there
any_kept p at (x ∷ xs) there = elim (cases_Bool (p x)) [
  | inl keeps ↦ elim (cases_Bool (is_same_port at x)) [
    | inl here ↦ rw here refl
    | inr other ↦ or_right (is_same_port at x) _ (any_kept p at xs (rw other at (rw keeps at there)))
  ]
  | inr drops ↦ or_right (is_same_port at x) _ (any_kept p at xs (rw drops at there))
]

pub record IsOut (net : NetState) (masks : List (List ℕ)) (here out : PortRef) : Type 0 where
  pub node : out.node ≡ here.node
  pub own : is_own_port net out ≡ true
  pub leaving : leaves net masks out ≡ true
  pub apart : (here.port == out.port) ≡ false

pub is_out : (net : NetState) (masks : List (List ℕ)) (here out : PortRef) → list_any (is_same_port out) (outs net masks here) ≡ true → IsOut net masks here out
is_out net masks here out there =
    let passes = λ (one : PortRef). not (here.port == one.port) && leaves net masks one in
    let kept = and_parts (not (here.port == out.port)) _ (kept_are passes passes (λ x is. is) out (ports_of net.plan here.node) there) in
    let mine = range_own net out here.node 1 (ports_at net.plan.nodes here.node) (omega arith) (omega arith) (any_kept passes out (ports_of net.plan here.node) there) in
    record { node = mine.0; own = mine.1; leaving = kept.1; apart = not_true _ kept.0 }

-- a port that leaves leads to the switch behind it
pub leads_behind : (net : NetState) (masks : List (List ℕ)) (at : PortRef) → leaves net masks at ≡ true → leads_to net at (node_behind net at) ≡ true
leads_behind net masks at leaving = by (far_end net.plan.cables at) refl (and_parts (is_set masks at) _ leaving).1
  where
    by : (there : Option PortRef) → far_end net.plan.cables at ≡ there → option_map_or (λ end. is_switch_at net.plan.nodes end.node) there false ≡ true
        → leads_to net at (node_behind net at) ≡ true
    by None far is = absurd (false≢true is)
    by (Some there) far is = rw far (eq-eqb there.node there.node refl)

-- ---- paths to what the copies have come to
record HasPath (net : NetState) (masks : List (List ℕ)) (place count : ℕ) (last : PortRef) : Type 0 where
  pub back : List PortRef
  pub long : length back ≡ count
  pub came : came_by net masks place (last ∷ back) (node_behind net last) ≡ true

first_path : (net : NetState) (masks : List (List ℕ)) (place : ℕ) (last : PortRef) → list_any (is_same_port last) (outs net masks (port place 0)) ≡ true → HasPath net masks place 0 last
first_path net masks place last there =
    let out = is_out net masks (port place 0) last there in
    record {
      back = [];
      long = refl;
      came = and_from (last.node == place) _ (eq-eqb last.node place out.node)
          (and_from (is_own_port net last) _ out.own (and_from (leaves net masks last) _ out.leaving (leads_behind net masks last out.leaving)));
    }

-- the port before one of the next hop
record IsNext (net : NetState) (masks : List (List ℕ)) (front : List PortRef) (last : PortRef) : Type 0 where
  pub before : PortRef
  pub among : list_any (is_same_port before) front ≡ true
  pub goes : goes_on net masks before last ≡ true
  pub own : is_own_port net last ≡ true
  pub node : last.node ≡ node_behind net before

is_next : (net : NetState) (masks : List (List ℕ)) (before last : PortRef) (front : List PortRef) → list_any (is_same_port before) front ≡ true
    → list_any (is_same_port last) (next_outs net masks before) ≡ true → IsNext net masks front last
is_next net masks before last front among there = by (far_end net.plan.cables before) refl there
  where
    by : (end : Option PortRef) → far_end net.plan.cables before ≡ end → list_any (is_same_port last) (option_map_or (outs net masks) end []) ≡ true → IsNext net masks front last
    by None far is = absurd (false≢true is)
    by (Some end) far is =
        let out = is_out net masks end last is in
        let comes : turns end last ≡ true = and_from (end.node == last.node) _ (eq-eqb end.node last.node (sym out.node)) (ap not out.apart) in
        record {
          before = before;
          among = among;
          goes = and_from (comes_to net before last) _ (ap (λ (o : Option PortRef). option_map_or (λ one. turns one last) o false) far ∙ comes) out.leaving;
          own = out.own;
          node = out.node ∙ sym (ap (λ (o : Option PortRef). option_map_or (λ one. one.node) o 0) far);
        }

some_next : (net : NetState) (masks : List (List ℕ)) (last : PortRef) (all front : List PortRef) → ((x : PortRef) → list_any (is_same_port x) front ≡ true → list_any (is_same_port x) all ≡ true)
    → list_any (is_same_port last) (hop net masks front) ≡ true → IsNext net masks all last
some_next net masks last all [] within there = absurd (false≢true there)
some_next net masks last all (x ∷ front) within there = elim (cases_Bool (list_any (is_same_port last) (next_outs net masks x))) [
  | inl here ↦ let self = same_itself x in is_next net masks x last all (within x (rw self refl)) here
  | inr other ↦
      some_next net masks last all front (λ one is. within one (or_right (is_same_port one x) _ is))
      (rw other at (sym (list_any-append (is_same_port last) (next_outs net masks x) (hop net masks front)) ∙ there))
]

next_path : (net : NetState) (masks : List (List ℕ)) (place count : ℕ) (front : List PortRef) (last : PortRef)
    → ((x : PortRef) → list_any (is_same_port x) front ≡ true → HasPath net masks place count x)
    → list_any (is_same_port last) (hop net masks front) ≡ true → HasPath net masks place (suc count) last
next_path net masks place count front last paths there =
    let next = some_next net masks last front front (λ x is. is) there in
    let path = paths next.before next.among in
    let leaving = (and_parts (comes_to net next.before last) _ next.goes).1 in
    record {
      back = next.before ∷ path.back;
      long = ap suc path.long;
      came = and_from (goes_on net masks next.before last) _ next.goes
          (and_from (is_own_port net last) _ next.own (and_from (leads_to net last (node_behind net last)) _ (leads_behind net masks last leaving)
          (subst (λ (n : ℕ). came_by net masks place (next.before ∷ path.back) n ≡ true) (sym next.node) path.came)));
    }

-- ---- no two ports of a front are the same, as long as no switch is met again
range_apart : (place k low many : ℕ) → k < low → list_any (is_same_port (port place k)) (map (port place) (range_with_len low many)) ≡ false
range_apart place k low zero less = refl
range_apart place k low (suc many) less =
    let other : (k == low) ≡ false = grind (arith, nat_tests, less) in
    let later = range_apart place k (low + 1) many (omega (arith, less)) in
    let self : (place == place) ≡ true = eq-eqb place place refl in
    rw (self, other, later) refl

range_differ : (place low many : ℕ) → all_differ is_same_port (map (port place) (range_with_len low many)) ≡ true
range_differ place low zero = refl
range_differ place low (suc many) =
    and_from (not (list_any (is_same_port (port place low)) (map (port place) (range_with_len (low + 1) many)))) _
    (ap not (range_apart place low (low + 1) many (omega arith))) (range_differ place (low + 1) many)

none_kept : (p : PortRef → Bool) (at : PortRef) (xs : List PortRef) → list_any (is_same_port at) xs ≡ false → list_any (is_same_port at) (filter p xs) ≡ false
none_kept p at xs none = by (list_any (is_same_port at) (filter p xs)) refl
  where
    by : (b : Bool) → list_any (is_same_port at) (filter p xs) ≡ b → list_any (is_same_port at) (filter p xs) ≡ false
    by false is = is
    by true is = absurd (false≢true (sym none ∙ any_kept p at xs is))

kept_differ : (p : PortRef → Bool) (xs : List PortRef) → all_differ is_same_port xs ≡ true → all_differ is_same_port (filter p xs) ≡ true
kept_differ p [] differ = refl
kept_differ p (x ∷ xs) differ =
    let parts = and_parts (not (list_any (is_same_port x) xs)) _ differ in
    elim (cases_Bool (p x)) [
      | inl keeps ↦ rw keeps (and_from (not (list_any (is_same_port x) (filter p xs))) _ (ap not (none_kept p x xs (not_true _ parts.0))) (kept_differ p xs parts.1))
      | inr drops ↦ rw drops (kept_differ p xs parts.1)
    ]

outs_differ : (net : NetState) (masks : List (List ℕ)) (here : PortRef) → all_differ is_same_port (outs net masks here) ≡ true
outs_differ net masks here =
    kept_differ (λ out. not (here.port == out.port) && leaves net masks out) (ports_of net.plan here.node) (range_differ here.node 1 (ports_at net.plan.nodes here.node))

next_differ : (net : NetState) (masks : List (List ℕ)) (at : PortRef) → all_differ is_same_port (next_outs net masks at) ≡ true
next_differ net masks at = by (far_end net.plan.cables at)
  where
    by : (there : Option PortRef) → all_differ is_same_port (option_map_or (outs net masks) there []) ≡ true
    by None = refl
    by (Some there) = outs_differ net masks there

joined_differ : (xs ys : List PortRef) → all_differ is_same_port xs ≡ true → all_differ is_same_port ys ≡ true
    → ((x : PortRef) → list_any (is_same_port x) xs ≡ true → list_any (is_same_port x) ys ≡ true → ⊥) → all_differ is_same_port (xs ++ ys) ≡ true
joined_differ [] ys one other apart = other
joined_differ (x ∷ xs) ys one other apart =
    let parts = and_parts (not (list_any (is_same_port x) xs)) _ one in
    let self = same_itself x in
    let none : list_any (is_same_port x) ys ≡ false = by (list_any (is_same_port x) ys) refl (apart x (rw self refl)) in
    let all : list_any (is_same_port x) (xs ++ ys) ≡ false = list_any-append (is_same_port x) xs ys ∙ (let here = not_true _ parts.0 in rw (here, none) refl) in
    and_from (not (list_any (is_same_port x) (xs ++ ys))) _ (ap not all) (joined_differ xs ys parts.1 other (λ y in_xs in_ys. apart y (or_right (is_same_port y x) _ in_xs) in_ys))
  where
    by : (b : Bool) → list_any (is_same_port x) ys ≡ b → (list_any (is_same_port x) ys ≡ true → ⊥) → list_any (is_same_port x) ys ≡ false
    by false is never = is
    by true is never = absurd (never is)

-- the switch of a port of the next hop is one that this hop comes to
end_listed : (net : NetState) (at : PortRef) (front : List PortRef) → list_any (is_same_port at) front ≡ true → list_any (λ n. n == node_behind net at) (map (node_behind net) front) ≡ true
end_listed net at [] there = absurd (false≢true there)
end_listed net at (x ∷ front) there = elim (cases_Bool (is_same_port at x)) [
  | inl here ↦ let is = eq-eqb (node_behind net x) (node_behind net at) (ap (node_behind net) (sym (same_port at x here))) in rw is refl
  | inr other ↦ or_right (node_behind net x == node_behind net at) _ (end_listed net at front (rw other at there))
]

new_end : (met : ℕ → Bool) (x : ℕ) (xs : List ℕ) → again met (x ∷ xs) ≡ None → (met x ≡ false) × (again (λ k. met k || (x == k)) xs ≡ None)
new_end met x xs none = elim (cases_Bool (met x)) [
  | inl here ↦ let found : Some x ≡ None = rw here at none in absurd (cc)
  | inr other ↦ (other, rw other at none)
]

met_before : (met : ℕ → Bool) (t : ℕ) (xs : List ℕ) → met t ≡ true → list_any (λ n. n == t) xs ≡ true → again met xs ≡ None → ⊥
met_before met t [] is there none = false≢true there
met_before met t (x ∷ xs) is there none =
    let new = new_end met x xs none in
    elim (cases_Bool (x == t)) [
      | inl here ↦ let same : x ≡ t = grind (arith, nat_tests, here) in false≢true (sym new.0 ∙ ap met same ∙ is)
      | inr other ↦ met_before (λ k. met k || (x == k)) t xs (ap (λ (b : Bool). b || (x == t)) is) (rw other at there) new.1
    ]

hop_differ : (net : NetState) (masks : List (List ℕ)) (front : List PortRef) (met : ℕ → Bool) → again met (map (node_behind net) front) ≡ None
    → all_differ is_same_port (hop net masks front) ≡ true
hop_differ net masks [] met none = refl
hop_differ net masks (at ∷ front) met none =
    let new = new_end met (node_behind net at) (map (node_behind net) front) none in
    joined_differ (next_outs net masks at) (hop net masks front) (next_differ net masks at) (hop_differ net masks front (λ k. met k || (node_behind net at == k)) new.1)
    (λ x in_next in_hop.
    let self = same_itself at in
    let one = is_next net masks at x (at ∷ []) (rw self refl) in_next in
    let only : one.before ≡ at = elim (cases_Bool (is_same_port one.before at)) [
      | inl here ↦ same_port one.before at here
      | inr other ↦ absurd (false≢true (rw other at one.among))
    ] in
    let other = some_next net masks x front front (λ y is. is) in_hop in
    let there = end_listed net other.before front other.among in
    let same : node_behind net other.before ≡ node_behind net at = sym other.node ∙ one.node ∙ ap (node_behind net) only in
    met_before (λ k. met k || (node_behind net at == k)) (node_behind net other.before) (map (node_behind net) front)
    (or_right (met (node_behind net other.before)) _ (eq-eqb (node_behind net at) (node_behind net other.before) (sym same))) there new.1)

-- ---- within one hop: what was met has a path that is none of those of the ports that are left
record WasMet (net : NetState) (masks : List (List ℕ)) (place count : ℕ) (left : List PortRef) (x : ℕ) : Type 0 where
  pub path : List PortRef
  pub came : came_by net masks place path x ≡ true
  pub apart : (a : PortRef) (back : List PortRef) → list_any (is_same_port a) left ≡ true → length back ≡ count → path ≡ a ∷ back → ⊥

head_is : (a b : PortRef) (xs ys : List PortRef) → a ∷ xs ≡ b ∷ ys → a ≡ b
head_is a b xs ys same = cc

front_twice : (net : NetState) (masks : List (List ℕ)) (place count : ℕ) (left : List PortRef) (met : ℕ → Bool) (found : ℕ)
    → ((x : ℕ) → met x ≡ true → WasMet net masks place count left x) → ((a : PortRef) → list_any (is_same_port a) left ≡ true → HasPath net masks place count a)
    → all_differ is_same_port left ≡ true → again met (map (node_behind net) left) ≡ Some found → ComesTwice net masks place found
front_twice net masks place count [] met found was paths differ is = cc
front_twice net masks place count (a ∷ left) met found was paths differ is =
    let self = same_itself a in
    let mine : list_any (is_same_port a) (a ∷ left) ≡ true = rw self refl in
    let path = paths a mine in
    let parts = and_parts (not (list_any (is_same_port a) left)) _ differ in
    elim (cases_Bool (met (node_behind net a))) [
      | inl here ↦
          let before = was (node_behind net a) here in
          let same : node_behind net a ≡ found = same_Some (node_behind net a) found (rw here at is) in
          subst (ComesTwice net masks place) same (record {
            one = before.path;
            other = a ∷ path.back;
            differ = λ both. before.apart a path.back mine path.long both;
            by_one = before.came;
            by_other = path.came;
          })
      | inr new ↦
          front_twice net masks place count left (λ k. met k || (node_behind net a == k)) found
          (λ x some. elim (cases_Bool (met x)) [
            | inl old ↦
                let before = was x old in
                record { path = before.path; came = before.came; apart = λ b back there long both. before.apart b back (or_right (is_same_port b a) _ there) long both }
            | inr other ↦
                let just : (node_behind net a == x) ≡ true = rw other at some in
                let same : node_behind net a ≡ x = grind (arith, nat_tests, just) in
                record {
                  path = a ∷ path.back;
                  came = subst (λ (n : ℕ). came_by net masks place (a ∷ path.back) n ≡ true) same path.came;
                  apart = λ b back there long both.
                      let one = head_is a b path.back back both in
                      false≢true (sym (not_true _ parts.0) ∙ subst (λ (p : PortRef). list_any (is_same_port p) left ≡ true) (sym one) there);
                }
          ]) (λ b there. paths b (or_right (is_same_port b a) _ there)) parts.1 (rw new at is)
    ]

-- ---- hop by hop
record WasReached (net : NetState) (masks : List (List ℕ)) (place count x : ℕ) : Type 0 where
  pub path : List PortRef
  pub came : came_by net masks place path x ≡ true
  pub short : length path ≤ count

record EndsThere (net : NetState) (front : List PortRef) (x : ℕ) : Type 0 where
  pub at : PortRef
  pub among : list_any (is_same_port at) front ≡ true
  pub is : node_behind net at ≡ x

ends_there : (net : NetState) (front : List PortRef) (x : ℕ) → list_any (λ n. n == x) (map (node_behind net) front) ≡ true → EndsThere net front x
ends_there net [] x there = absurd (false≢true there)
ends_there net (at ∷ front) x there = elim (cases_Bool (node_behind net at == x)) [
  | inl here ↦ let self = same_itself at in record { at = at; among = rw self refl; is = grind (arith, nat_tests, here) }
  | inr other ↦
      let later = ends_there net front x (rw other at there) in
      record { at = later.at; among = or_right (is_same_port later.at at) _ later.among; is = later.is }
]

reached_then : (net : NetState) (masks : List (List ℕ)) (place count : ℕ) (front : List PortRef) (met : ℕ → Bool)
    → ((x : ℕ) → met x ≡ true → WasReached net masks place count x) → ((a : PortRef) → list_any (is_same_port a) front ≡ true → HasPath net masks place count a)
    → (x : ℕ) → (met x || list_any (λ k. k == x) (map (node_behind net) front)) ≡ true → WasReached net masks place (suc count) x
reached_then net masks place count front met was paths x some = elim (cases_Bool (met x)) [
  | inl old ↦ let before = was x old in let most = before.short in record { path = before.path; came = before.came; short = omega (arith, most) }
  | inr other ↦
      let end = ends_there net front x (rw other at some) in
      let path = paths end.at end.among in
      let long = path.long in
      record {
        path = end.at ∷ path.back;
        came = subst (λ (k : ℕ). came_by net masks place (end.at ∷ path.back) k ≡ true) end.is path.came;
        short = omega (arith, long);
      }
]

hops_twice : (net : NetState) (masks : List (List ℕ)) (place count n : ℕ) (front : List PortRef) (met : ℕ → Bool) (found : ℕ)
    → ((x : ℕ) → met x ≡ true → WasReached net masks place count x) → ((a : PortRef) → list_any (is_same_port a) front ≡ true → HasPath net masks place count a)
    → all_differ is_same_port front ≡ true → again met (arrivals net masks n front) ≡ Some found → ComesTwice net masks place found
hops_twice net masks place count zero front met found was paths differ is = cc
hops_twice net masks place count (suc n) front met found was paths differ is =
    let rest = arrivals net masks n (hop net masks front) in
    let met_then = λ (k : ℕ). met k || list_any (λ x. x == k) (map (node_behind net) front) in
    by (again met (map (node_behind net) front)) refl
    (λ first. hops_twice net masks place (suc count) n (hop net masks front) met_then found
    (λ x some. reached_then net masks place count front met was paths x some) (λ a there. next_path net masks place count front a paths there)
    (hop_differ net masks front met first) (sym (again_on met (map (node_behind net) front) rest first) ∙ is))
  where
    by : (first : Option ℕ) → again met (map (node_behind net) front) ≡ first → (again met (map (node_behind net) front) ≡ None → ComesTwice net masks place found)
        → ComesTwice net masks place found
    by None first later = later first
    by (Some one) first later =
        let same : one ≡ found = same_Some one found (sym (again_found met (map (node_behind net) front) (arrivals net masks n (hop net masks front)) one first) ∙ is) in
        subst (ComesTwice net masks place) same
        (front_twice net masks place count front met one
        (λ x some.
        let before = was x some in
        record {
          path = before.path;
          came = before.came;
          apart = λ a back there long both.
              let longer : length before.path ≡ suc (length back) = ap length both in
              let most = before.short in
              absurd (omega (arith, longer, most, long));
        }) paths differ first)

-- ---- from an entrance
pub record IsFirst (net : NetState) (masks : List (List ℕ)) (places : List ℕ) (copy : SecondCopy) : Type 0 where
  pub among : list_any (λ n. n == copy.from) places ≡ true
  pub second : second_copy net masks copy.from ≡ Some copy.at

pub first_is : (net : NetState) (masks : List (List ℕ)) (places : List ℕ) (copy : SecondCopy) → first_copy net masks places ≡ Some copy → IsFirst net masks places copy
first_is net masks [] copy is = cc
first_is net masks (place ∷ places) copy is = by (second_copy net masks place) refl is (λ later. first_is net masks places copy later)
  where
    by : (found : Option ℕ) → second_copy net masks place ≡ found → option_or (option_map (copy_from place) found) (first_copy net masks places) ≡ Some copy
        → (first_copy net masks places ≡ Some copy → IsFirst net masks places copy) → IsFirst net masks (place ∷ places) copy
    by (Some at) here is rest =
        let same : copy_from place at ≡ copy = same_Some (copy_from place at) copy is in
        subst (IsFirst net masks (place ∷ places)) same (record { among = let self : (place == place) ≡ true = eq-eqb place place refl in rw self refl; second = here })
    by None here is rest =
        let later = rest is in
        record { among = or_right (place == copy.from) _ later.among; second = later.second }

any_takes : (net : NetState) (place : ℕ) (places : List ℕ) → list_any (λ n. n == place) (filter (takes_packets net) places) ≡ true → takes_packets net place ≡ true
any_takes net place [] there = absurd (false≢true there)
any_takes net place (x ∷ places) there = elim (cases_Bool (takes_packets net x)) [
  | inl keeps ↦ elim (cases_Bool (x == place)) [
    | inl here ↦ let same : x ≡ place = grind (arith, nat_tests, here) in subst (λ (n : ℕ). takes_packets net n ≡ true) same keeps
    | inr other ↦ any_takes net place places (rw other at (rw keeps at there))
  ]
  | inr drops ↦ any_takes net place places (rw drops at there)
]

at_home : (net : NetState) (masks : List (List ℕ)) (place x : ℕ) → (place == x) ≡ true → WasReached net masks place 0 x
at_home net masks place x is = record { path = []; came = is; short = omega arith }

pub copies_come_twice : CopiesComeTwice
unfolding copy_of second_copy
copies_come_twice net masks copy reported =
    let first = first_is net masks (entrances net) copy reported in (
      any_takes net copy.from (switches net.plan.nodes) first.among,
      hops_twice net masks copy.from 0 (length net.plan.nodes) (outs net masks (port copy.from 0)) (λ k. copy.from == k) copy.at (at_home net masks copy.from)
          (first_path net masks copy.from) (outs_differ net masks (port copy.from 0)) first.second,
    )
