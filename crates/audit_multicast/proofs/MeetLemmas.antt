-- Switches that the copies of a packet come to, and the first that they come to again.
use Rattle.std.proofs.Common.{◌≡◌, ◌∙◌, inl, inr, ap, refl, sym, ℕ, zero, suc, ◌+◌, ◌-◌, ◌<◌, ◌≤◌, nat_lt, Bool, true, false, ◌==◌, ◌&&◌, ◌||◌, not, List, [], ◌∷◌, ◌++◌, length, map, filter, drop, get_or, Option, Some, None, if◌then◌else◌, arith}
use Rattle.std.specs.List.{list_all, list_any, range_with_len}
use Rattle.std.specs.Option.{option_map_or}
use Rattle.std.proofs.lemmas.Bool.{and_from, and_parts, cases_Bool, eqb-true, false≢true}
use Rattle.std.proofs.lemmas.Bool.Decides.{nat_tests}
use Rattle.fabric_parts.specs.Cable.{far_end, port}
use Rattle.fabric_parts.specs.declared.cable.PortRef.{PortRef}
use Rattle.step_results.proofs.ListLemmas.{any_map}
use Rattle.step_results.proofs.BoolLemmas.{false_more, or_assoc}
use Rattle.topo_file.specs.Connectivity.{switches}
use Rattle.topo_file.specs.Node.{is_switch_at}
use Rattle.topo_file.specs.Rounds.{is_marked}
use Rattle.audit_plan.specs.Attached.{ports_of}
use Rattle.audit_loops.specs.Channels.{is_channel}
use Rattle.audit_net.specs.Net.{NetState}
use Rattle.audit_plan.proofs.PlaceLemmas.{within_nodes}
use Rattle.audit_multicast.specs.Copies.{again, arrivals, entrances, hop, next_outs, node_behind, takes_packets}
use Rattle.audit_multicast.specs.Ways.{is_set, leaves, outs}
use Rattle.audit_multicast.proofs.MarkLemmas.{AreMarkedOf, all_marked_of, cut_here, marked_next}

-- ---- what was met decides, place by place
pub again_alike : (f g : ℕ → Bool) (xs : List ℕ) → ((k : ℕ) → f k ≡ g k) → again f xs ≡ again g xs
again_alike f g [] same = refl
again_alike f g (x ∷ xs) same =
    ap (λ (b : Bool). if b then Some x else again (λ other. f other || (x == other)) xs) (same x)
    ∙ ap (λ (rest : Option ℕ). if g x then Some x else rest)
    (again_alike (λ other. f other || (x == other)) (λ other. g other || (x == other)) xs (λ k. ap (λ (b : Bool). b || (x == k)) (same k)))

pub again_on : (f : ℕ → Bool) (xs ys : List ℕ) → again f xs ≡ None → again f (xs ++ ys) ≡ again (λ k. f k || list_any (λ x. x == k) xs) ys
again_on f [] ys none = again_alike f (λ k. f k || false) ys (λ k. false_more (f k))
again_on f (x ∷ xs) ys none = elim (cases_Bool (f x)) [
  | inl here ↦ let found : Some x ≡ None = rw here at none in absurd (cc)
  | inr other ↦
      rw other (again_on (λ k. f k || (x == k)) xs ys (rw other at none)
      ∙ again_alike (λ k. (f k || (x == k)) || list_any (λ y. y == k) xs) (λ k. f k || ((x == k) || list_any (λ y. y == k) xs)) ys
      (λ k. or_assoc (f k) (x == k) (list_any (λ y. y == k) xs)))
]

pub again_found : (f : ℕ → Bool) (xs ys : List ℕ) (place : ℕ) → again f xs ≡ Some place → again f (xs ++ ys) ≡ Some place
again_found f [] ys place found = cc
again_found f (x ∷ xs) ys place found = elim (cases_Bool (f x)) [
  | inl here ↦ rw here (rw here at found)
  | inr other ↦ rw other (again_found (λ k. f k || (x == k)) xs ys place (rw other at found))
]

-- ---- one hop
pub record AreMet (net : NetState) (before : List Bool) (front : List PortRef) (index : ℕ) (met : List Bool) : Type 0 where
  pub marked : AreMarkedOf (λ at k. node_behind net at == k) before front index met
  pub left : again (is_marked before) (map (node_behind net) front) ≡ again (is_marked met) (map (node_behind net) (drop index front))

pub one_met : (net : NetState) (before : List Bool) (front : List PortRef) (index : ℕ) (marks after : List Bool) (none : PortRef) → index < length front
    → AreMet net before front index marks → is_marked marks (node_behind net (get_or front index none)) ≡ false → length after ≡ length marks
    → ((k : ℕ) → is_marked after k ≡ (is_marked marks k || (node_behind net (get_or front index none) == k))) → AreMet net before front (index + 1) after
one_met net before front index marks after none within so_far new long more =
    let at = get_or front index none in
    record {
      marked = marked_next (λ (one : PortRef) (k : ℕ). node_behind net one == k) before front index marks after none within so_far.marked long more;
      left = so_far.left ∙ ap (λ (rest : List PortRef). again (is_marked marks) (map (node_behind net) rest)) (cut_here front index none within)
          ∙ ap (λ (b : Bool). if b then Some (node_behind net at) else again (λ k. is_marked marks k || (node_behind net at == k)) (map (node_behind net) (drop (index + 1) front))) new
          ∙ again_alike (λ k. is_marked marks k || (node_behind net at == k)) (is_marked after) (map (node_behind net) (drop (index + 1) front)) (λ k. sym (more k));
    }

pub all_met : (net : NetState) (before : List Bool) (front : List PortRef) (index : ℕ) (marks : List Bool) → length front ≤ index → AreMet net before front index marks
    → (k : ℕ) → is_marked marks k ≡ (is_marked before k || list_any (λ place. place == k) (map (node_behind net) front))
all_met net before front index marks ended so_far k =
    all_marked_of (λ (at : PortRef) (n : ℕ). node_behind net at == n) before front index marks ended so_far.marked k
    ∙ ap (λ (b : Bool). is_marked before k || b) (sym (any_map (λ place. place == k) (node_behind net) front))

-- ---- copies stay within the fabric
kept_pass : {X : Type 0} (p q : X → Bool) → ((x : X) → q x ≡ true → p x ≡ true) → (xs : List X) → list_all p (filter q xs) ≡ true
kept_pass p q passes [] = refl
kept_pass p q passes (x ∷ xs) = elim (cases_Bool (q x)) [
  | inl keeps ↦ rw keeps (and_from (p x) _ (passes x keeps) (kept_pass p q passes xs))
  | inr drops ↦ rw drops (kept_pass p q passes xs)
]

kept_all : {X : Type 0} (p q : X → Bool) (xs : List X) → list_all p xs ≡ true → list_all p (filter q xs) ≡ true
kept_all p q [] all = refl
kept_all p q (x ∷ xs) all =
    let parts = and_parts (p x) _ all in
    elim (cases_Bool (q x)) [
      | inl keeps ↦ rw keeps (and_from (p x) _ parts.0 (kept_all p q xs parts.1))
      | inr drops ↦ rw drops (kept_all p q xs parts.1)
    ]

pub all_joined : {X : Type 0} (p : X → Bool) (xs ys : List X) → list_all p xs ≡ true → list_all p ys ≡ true → list_all p (xs ++ ys) ≡ true
all_joined p [] ys one other = other
all_joined p (x ∷ xs) ys one other = let parts = and_parts (p x) _ one in and_from (p x) _ parts.0 (all_joined p xs ys parts.1 other)

channel_inside : (net : NetState) (at : PortRef) → is_channel net at ≡ true → nat_lt (node_behind net at) (length net.plan.nodes) ≡ true
channel_inside net at is = by (far_end net.plan.cables at) refl is
  where
    by : (there : Option PortRef) → far_end net.plan.cables at ≡ there → option_map_or (λ end. is_switch_at net.plan.nodes end.node) there false ≡ true
        → nat_lt (node_behind net at) (length net.plan.nodes) ≡ true
    by None far is = absurd (false≢true is)
    by (Some there) far is =
        let less = within_nodes net.plan.nodes there.node is in
        let inside : nat_lt there.node (length net.plan.nodes) ≡ true = grind (arith, nat_tests, less) in
        ap (λ (o : Option PortRef). nat_lt (option_map_or (λ end. end.node) o 0) (length net.plan.nodes)) far ∙ inside

pub outs_inside : (net : NetState) (masks : List (List ℕ)) (here : PortRef) → list_all (λ at. nat_lt (node_behind net at) (length net.plan.nodes)) (outs net masks here) ≡ true
outs_inside net masks here =
    kept_pass (λ at. nat_lt (node_behind net at) (length net.plan.nodes)) (λ out. not (here.port == out.port) && leaves net masks out)
    (λ out passes.
    let parts = and_parts (not (here.port == out.port)) _ passes in
    let both = and_parts (is_set masks out) _ parts.1 in
    channel_inside net out both.1) (ports_of net.plan here.node)

next_inside : (net : NetState) (masks : List (List ℕ)) (at : PortRef) → list_all (λ out. nat_lt (node_behind net out) (length net.plan.nodes)) (next_outs net masks at) ≡ true
next_inside net masks at = by (far_end net.plan.cables at)
  where
    by : (there : Option PortRef) → list_all (λ out. nat_lt (node_behind net out) (length net.plan.nodes)) (option_map_or (outs net masks) there []) ≡ true
    by None = refl
    by (Some there) = outs_inside net masks there

pub hop_inside : (net : NetState) (masks : List (List ℕ)) (front : List PortRef) → list_all (λ out. nat_lt (node_behind net out) (length net.plan.nodes)) (hop net masks front) ≡ true
hop_inside net masks [] = refl
hop_inside net masks (at ∷ front) =
    all_joined (λ out. nat_lt (node_behind net out) (length net.plan.nodes)) (next_outs net masks at) (hop net masks front) (next_inside net masks at) (hop_inside net masks front)

pub entrances_inside : (net : NetState) → list_all (λ place. nat_lt place (length net.plan.nodes)) (entrances net) ≡ true
entrances_inside net =
    kept_all (λ place. nat_lt place (length net.plan.nodes)) (takes_packets net) (switches net.plan.nodes)
    (kept_pass (λ place. nat_lt place (length net.plan.nodes)) (is_switch_at net.plan.nodes)
    (λ place is. let less = within_nodes net.plan.nodes place is in grind (arith, nat_tests, less)) (range_with_len 0 (length net.plan.nodes)))

pub none_there : (front : List PortRef) → (length front == 0) ≡ true → front ≡ []
none_there [] none = refl
none_there (at ∷ front) none =
    let long : length (at ∷ front) ≡ 0 = eqb-true (length (at ∷ front)) 0 none in absurd (omega (arith, long))

-- ---- hop by hop
abbrev pub copies_of : NetState → List (List ℕ) → ℕ → Option ℕ
copies_of net masks place = again (λ other. place == other) (arrivals net masks (length net.plan.nodes) (outs net masks (port place 0)))

pub record IsFollowed (net : NetState) (masks : List (List ℕ)) (place count : ℕ) (met : List Bool) (front : List PortRef) : Type 0 where
  pub long : length met ≡ length net.plan.nodes
  pub inside : list_all (λ at. nat_lt (node_behind net at) (length net.plan.nodes)) front ≡ true
  pub follows : copies_of net masks place ≡ again (is_marked met) (arrivals net masks (length net.plan.nodes - count) front)

pub followed_first : (net : NetState) (masks : List (List ℕ)) (place : ℕ) (met : List Bool) (front : List PortRef) → length met ≡ length net.plan.nodes
    → ((other : ℕ) → is_marked met other ≡ (place == other)) → front ≡ outs net masks (port place 0) → IsFollowed net masks place 0 met front
followed_first net masks place met front long marked is = rw is (record {
  long = long;
  inside = outs_inside net masks (port place 0);
  follows =
      let all : length net.plan.nodes ≡ length net.plan.nodes - 0 = omega arith in
      again_alike (λ other. place == other) (is_marked met) (arrivals net masks (length net.plan.nodes) (outs net masks (port place 0))) (λ k. sym (marked k))
      ∙ ap (λ (n : ℕ). again (is_marked met) (arrivals net masks n (outs net masks (port place 0)))) all;
})

-- one hop of those that are left
left_hop : (net : NetState) (masks : List (List ℕ)) (count : ℕ) (front : List PortRef) → count < length net.plan.nodes
    → arrivals net masks (length net.plan.nodes - count) front
    ≡ map (node_behind net) front ++ arrivals net masks (length net.plan.nodes - (count + 1)) (hop net masks front)
left_hop net masks count front less =
    let one : length net.plan.nodes - count ≡ suc (length net.plan.nodes - (count + 1)) = omega (arith, less) in rw one refl

pub followed_on : (net : NetState) (masks : List (List ℕ)) (place count : ℕ) (met after : List Bool) (front next : List PortRef) → count < length net.plan.nodes
    → IsFollowed net masks place count met front → again (is_marked met) (map (node_behind net) front) ≡ None → length after ≡ length met
    → ((k : ℕ) → is_marked after k ≡ (is_marked met k || list_any (λ one. one == k) (map (node_behind net) front)))
    → next ≡ hop net masks front → IsFollowed net masks place (count + 1) after next
followed_on net masks place count met after front next less so_far none long more is = rw is (record {
  long = long ∙ so_far.long;
  inside = hop_inside net masks front;
  follows =
      let rest = arrivals net masks (length net.plan.nodes - (count + 1)) (hop net masks front) in
      so_far.follows ∙ ap (again (is_marked met)) (left_hop net masks count front less)
      ∙ again_on (is_marked met) (map (node_behind net) front) rest none
      ∙ again_alike (λ k. is_marked met k || list_any (λ one. one == k) (map (node_behind net) front)) (is_marked after) rest (λ k. sym (more k));
})

pub followed_again : (net : NetState) (masks : List (List ℕ)) (place count found : ℕ) (met : List Bool) (front : List PortRef) → count < length net.plan.nodes
    → IsFollowed net masks place count met front → again (is_marked met) (map (node_behind net) front) ≡ Some found → Some found ≡ copies_of net masks place
followed_again net masks place count found met front less so_far is =
    sym (so_far.follows ∙ ap (again (is_marked met)) (left_hop net masks count front less)
    ∙ again_found (is_marked met) (map (node_behind net) front) (arrivals net masks (length net.plan.nodes - (count + 1)) (hop net masks front)) found is)

no_arrivals : (net : NetState) (masks : List (List ℕ)) (count : ℕ) → arrivals net masks count [] ≡ []
no_arrivals net masks zero = refl
no_arrivals net masks (suc count) = no_arrivals net masks count

pub followed_out : (net : NetState) (masks : List (List ℕ)) (place count : ℕ) (met : List Bool) (front : List PortRef) → front ≡ []
    → IsFollowed net masks place count met front → None ≡ copies_of net masks place
followed_out net masks place count met front none so_far =
    sym (so_far.follows ∙ ap (λ (some : List PortRef). again (is_marked met) (arrivals net masks (length net.plan.nodes - count) some)) none
    ∙ ap (again (is_marked met)) (no_arrivals net masks (length net.plan.nodes - count)))

pub followed_all : (net : NetState) (masks : List (List ℕ)) (place count : ℕ) (met : List Bool) (front : List PortRef) → length net.plan.nodes ≤ count
    → IsFollowed net masks place count met front → None ≡ copies_of net masks place
followed_all net masks place count met front ended so_far =
    let none : length net.plan.nodes - count ≡ 0 = omega (arith, ended) in
    sym (so_far.follows ∙ ap (λ (n : ℕ). again (is_marked met) (arrivals net masks n front)) none)
