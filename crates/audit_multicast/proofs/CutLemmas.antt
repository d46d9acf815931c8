-- How far packets spread, by marks.
use Rattle.std.proofs.Common.{◌≡◌, ◌∙◌, inl, inr, ap, ap₂, refl, sym, ℕ, zero, suc, ◌+◌, ◌≤◌, nat_lt, Bool, true, false, ◌&&◌, ◌||◌, List, [], ◌∷◌, ◌++◌, length, drop}
use Rattle.std.proofs.Common.{if◌then◌else◌, map, filter, flat_map, arith}
use Rattle.std.specs.List.{enumerate_from, list_all, list_any, range_with_len}
use Rattle.std.proofs.lemmas.Bool.{and_from, and_parts, and_right as and_wrong, cases_Bool, or_left}
use Rattle.std.proofs.lemmas.Bool.Decides.{nat_tests}
use Rattle.std.proofs.lemmas.List.{length-map}
use Rattle.fabric_parts.specs.Cable.{port}
use Rattle.fabric_parts.specs.declared.cable.PortRef.{PortRef}
use Rattle.topo_file.specs.Connectivity.{switches}
use Rattle.audit_net.specs.Net.{NetState}
use Rattle.topo_file.specs.Node.{is_switch_at}
use Rattle.topo_file.specs.Rounds.{is_marked}
use Rattle.audit_plan.proofs.PlaceLemmas.{within_nodes}
use Rattle.audit_net.proofs.RoundLemmas.{AreGrowing, are_below, same_on}
use Rattle.audit_loops.specs.Marks.{some_marked}
use Rattle.audit_multicast.specs.Copies.{node_behind}
use Rattle.audit_multicast.specs.Cuts.{arrives, has_members, is_member, member_switches, members_at, missed_at, reached, spreads}
use Rattle.audit_multicast.specs.Loops.{all_outs}
use Rattle.audit_multicast.specs.Scanning.{member_behind}
use Rattle.audit_multicast.specs.Spreading.{all_before, nodes_behind, places_before, spread_marks, spread_on, unless_met}
use Rattle.audit_multicast.specs.Ways.{comes_to, outs}
use Rattle.audit_multicast.proofs.MeetLemmas.{all_joined, outs_inside}

-- ---- members, port by port
members_by : (net : NetState) (masks : List (List ℕ)) (place low many : ℕ) → flat_map (member_behind net masks place) (range_with_len low many)
    ≡ filter (is_member net masks) (map (port place) (range_with_len (low + 1) many))
members_by net masks place low zero = refl
members_by net masks place low (suc many) = elim (cases_Bool (is_member net masks (port place (low + 1)))) [
  | inl here ↦ rw (here, members_by net masks place (low + 1) many) refl
  | inr other ↦ rw (other, members_by net masks place (low + 1) many) refl
]

pub all_members_behind : (net : NetState) (masks : List (List ℕ)) (place many : ℕ) → flat_map (member_behind net masks place) (range_with_len 0 many)
    ≡ filter (is_member net masks) (map (port place) (range_with_len 1 many))
all_members_behind net masks place many = members_by net masks place 0 many

-- ---- marks by the place of a port in the list
pub first_mark : (marks : List Bool) (low : ℕ) (mark : Bool) (rest : List Bool) → drop low marks ≡ mark ∷ rest → (is_marked marks low ≡ mark) × (drop (low + 1) marks ≡ rest)
first_mark [] zero mark rest is = cc
first_mark [] (suc low) mark rest is = cc
first_mark (x ∷ marks) zero mark rest is = (cc, cc)
first_mark (x ∷ marks) (suc low) mark rest is = let next : suc low + 1 ≡ suc (low + 1) = omega arith in rw next (first_mark marks low mark rest is)

and_right : (a b : Bool) → b ≡ true → (a && b) ≡ a
and_right true b is = is
and_right false b is = refl

some_by : (f q : PortRef → Bool) (marks : List Bool) (low : ℕ) (xs : List PortRef) → drop low marks ≡ map f xs
    → some_marked marks (map (λ p. p.0) (filter (λ p. q p.1) (enumerate_from low xs))) ≡ list_any (λ x. f x && q x) xs
some_by f q marks low [] is = refl
some_by f q marks low (x ∷ xs) is =
    let first = first_mark marks low (f x) (map f xs) is in
    let rest = some_by f q marks (low + 1) xs first.1 in
    elim (cases_Bool (q x)) [
      | inl passes ↦ rw passes (ap₂ (λ (a b : Bool). a || b) (first.0 ∙ sym (and_right (f x) true refl)) rest)
      | inr fails ↦ rw fails (rest ∙ ap (λ (a : Bool). a || list_any (λ x. f x && q x) xs) (sym (and_wrong (f x) false refl)))
    ]

round_by : (f g : PortRef → Bool) (before : PortRef → List ℕ) (marks : List Bool) (low : ℕ) (xs : List PortRef) → drop low marks ≡ map f xs
    → ((x : PortRef) → some_marked marks (before x) ≡ g x)
    → map (λ p. is_marked marks p.0 || some_marked marks p.1) (enumerate_from low (map before xs)) ≡ map (λ x. f x || g x) xs
round_by f g before marks low [] is same = refl
round_by f g before marks low (x ∷ xs) is same =
    let first = first_mark marks low (f x) (map f xs) is in
    ap₂ (λ (mark : Bool) (rest : List Bool). mark ∷ rest) (ap₂ (λ (a b : Bool). a || b) first.0 (same x)) (round_by f g before marks (low + 1) xs first.1 same)

-- one hop more
pub one_hop : (net : NetState) (all : List PortRef) (place count : ℕ) → spread_on (all_before net all) (spread_marks net all place count) ≡ spread_marks net all place (suc count)
one_hop net all place count =
    round_by (spreads net all place count) (λ out. list_any (λ before. spreads net all place count before && comes_to net before out) all)
    (places_before net all) (spread_marks net all place count) 0 all refl
    (λ out. some_by (spreads net all place count) (λ before. comes_to net before out) (spread_marks net all place count) 0 all refl)

-- ---- marks only become more
below_more : (f g : PortRef → Bool) (xs : List PortRef) → ((x : PortRef) → f x ≡ true → g x ≡ true) → are_below (map f xs) (map g xs) ≡ true
below_more f g [] more = refl
below_more f g (x ∷ xs) more = elim (cases_Bool (f x)) [
  | inl here ↦ rw (here, more x here) (below_more f g xs more)
  | inr other ↦ rw other (below_more f g xs more)
]

pub spreading : (net : NetState) (all : List PortRef) (place : ℕ) → AreGrowing (spread_marks net all place) (length all)
spreading net all place = record {
  grows = λ n. below_more (spreads net all place n) (spreads net all place (suc n)) all (λ out is. or_left (spreads net all place n out) _ is);
  long = λ n. let same = length-map all (spreads net all place n) in omega (arith, same);
  follows = λ n m same. sym (one_hop net all place n) ∙ ap (spread_on (all_before net all)) same ∙ one_hop net all place m;
}

pub stays : (net : NetState) (all : List PortRef) (place count : ℕ) → spread_marks net all place (suc count) ≡ spread_marks net all place count → count ≤ length all
    → spread_marks net all place (length all) ≡ spread_marks net all place count
stays net all place count same within = same_on (spread_marks net all place) (length all) count (spreading net all place) same (length all) within

-- ---- the switches behind the ports that are marked
pub kept_by : (f : PortRef → Bool) (g : PortRef → ℕ) (marks : List Bool) (low : ℕ) (xs : List PortRef) → drop low marks ≡ map f xs
    → map (λ p. g p.1) (filter (λ p. is_marked marks p.0) (enumerate_from low xs)) ≡ map g (filter f xs)
kept_by f g marks low [] is = refl
kept_by f g marks low (x ∷ xs) is =
    let first = first_mark marks low (f x) (map f xs) is in
    let rest = kept_by f g marks (low + 1) xs first.1 in
    elim (cases_Bool (f x)) [
      | inl keeps ↦ let marked = first.0 ∙ keeps in rw (marked, keeps) (ap (λ (ys : List ℕ). g x ∷ ys) rest)
      | inr drops ↦ let none = first.0 ∙ drops in rw (none, drops) rest
    ]

-- ---- all within the fabric
abbrev IsInside : NetState → PortRef → Bool
IsInside net at = nat_lt (node_behind net at) (length net.plan.nodes)

flat_inside : (net : NetState) (masks : List (List ℕ)) (places : List ℕ) → list_all (IsInside net) (flat_map (λ place. outs net masks (port place 0)) places) ≡ true
flat_inside net masks [] = refl
flat_inside net masks (place ∷ places) =
    all_joined (IsInside net) (outs net masks (port place 0)) (flat_map (λ one. outs net masks (port one 0)) places) (outs_inside net masks (port place 0)) (flat_inside net masks places)

pub all_inside : (net : NetState) (masks : List (List ℕ)) → list_all (λ at. nat_lt (node_behind net at) (length net.plan.nodes)) (all_outs net masks) ≡ true
all_inside net masks = flat_inside net masks (switches net.plan.nodes)

reached_inside : (net : NetState) (p : PortRef → Bool) (xs : List PortRef) → list_all (IsInside net) xs ≡ true
    → list_all (λ place. nat_lt place (length net.plan.nodes)) (map (node_behind net) (filter p xs)) ≡ true
reached_inside net p [] all = refl
reached_inside net p (x ∷ xs) all =
    let parts = and_parts (IsInside net x) _ all in
    elim (cases_Bool (p x)) [
      | inl keeps ↦ rw keeps (and_from (IsInside net x) _ parts.0 (reached_inside net p xs parts.1))
      | inr drops ↦ rw drops (reached_inside net p xs parts.1)
    ]

pub places_inside : (net : NetState) (all : List PortRef) (place : ℕ) → list_all (λ at. nat_lt (node_behind net at) (length net.plan.nodes)) all ≡ true
    → list_all (λ one. nat_lt one (length net.plan.nodes)) (reached net all place) ≡ true
places_inside net all place inside = reached_inside net (spreads net all place (length all)) all inside

-- the switches behind what is marked are those that are reached
pub behind_are : (net : NetState) (all : List PortRef) (place : ℕ) → nodes_behind net (spread_marks net all place (length all)) all ≡ reached net all place
behind_are net all place = kept_by (spreads net all place (length all)) (node_behind net) (spread_marks net all place (length all)) 0 all refl

-- ---- members that are missed, by marks
pub missed_alike : (net : NetState) (masks : List (List ℕ)) (all : List PortRef) (place : ℕ) (met : List Bool) (places : List ℕ)
    → ((there : ℕ) → is_marked met there ≡ arrives net all place there) → flat_map (unless_met net masks met) places ≡ flat_map (missed_at net masks all place) places
missed_alike net masks all place met [] same = refl
missed_alike net masks all place met (there ∷ places) same =
    ap₂ (λ (xs ys : List PortRef). xs ++ ys)
    (ap (λ (b : Bool). if b then [] else members_at net masks there) (same there)) (missed_alike net masks all place met places same)

-- ---- switches at which members are stand in the fabric
kept_within : (net : NetState) (p : ℕ → Bool) (xs : List ℕ) → list_all (λ one. nat_lt one (length net.plan.nodes)) (filter p (filter (is_switch_at net.plan.nodes) xs)) ≡ true
kept_within net p [] = refl
kept_within net p (x ∷ xs) = elim (cases_Bool (is_switch_at net.plan.nodes x)) [
  | inr drops ↦ rw drops (kept_within net p xs)
  | inl switch ↦ elim (cases_Bool (p x)) [
    | inr drops ↦ rw (switch, drops) (kept_within net p xs)
    | inl keeps ↦
        let less = within_nodes net.plan.nodes x switch in
        rw (switch, keeps) (and_from (nat_lt x (length net.plan.nodes)) _ (grind (arith, nat_tests, less)) (kept_within net p xs))
  ]
]

pub members_within : (net : NetState) (masks : List (List ℕ)) → list_all (λ one. nat_lt one (length net.plan.nodes)) (member_switches net masks) ≡ true
unfolding member_switches
members_within net masks = kept_within net (has_members net masks) (range_with_len 0 (length net.plan.nodes))
