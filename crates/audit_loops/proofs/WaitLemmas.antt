-- Dependencies, by the ports that LIDs take one after the other.
use Rattle.std.proofs.Common.{◌≡◌, ◌∙◌, ap, refl, sym, ℕ, ◌+◌, ◌<◌, inl, inr, Bool, true, false, ◌==◌, ◌&&◌, ◌||◌, List, [], ◌∷◌, ◌++◌, length, drop, map, filter, flat_map, arith, Option, Some, None}
use Rattle.std.specs.List.{enumerate_from, list_any, range_with_len}
use Rattle.std.specs.Option.{option_map_or}
use Rattle.std.proofs.lemmas.Bool.{cases_Bool, eq-eqb}
use Rattle.std.proofs.lemmas.Bool.Decides.{nat_tests}
use Rattle.std.proofs.lemmas.List.{append_assoc, map-append}
use Rattle.step_results.proofs.ListLemmas.{any_alike}
use Rattle.fabric_parts.specs.Cable.{far_end, port}
use Rattle.fabric_parts.specs.declared.cable.PortRef.{PortRef}
use Rattle.topo_file.specs.Node.{is_switch_at}
use Rattle.audit_net.specs.declared.entry.Entry.{Entry}
use Rattle.audit_net.specs.declared.entry.Entry.TheVariants.{Out, Missing, Unreported}
use Rattle.audit_loops.specs.Channels.{channels, depends_on, is_channel, is_out, leads_to, leaves_by, nexts, takes_both}
use Rattle.audit_loops.specs.Courses.{CourseState, counts}
use Rattle.audit_net.specs.Net.{NetState, entry}
use Rattle.audit_loops.specs.Waits.{all_groups, are_ports, channel_behind, group_at, group_of, if_switch, is_taken, next_if, numbered_at, some_take, takes, then_by, then_out, two_by, two_ports}
use Rattle.audit_plan.proofs.RangeLemmas.{at_range, flat_onto}
use Rattle.audit_plan.proofs.PlaceLemmas.{within_nodes}

-- ---- all LIDs
pub record AreTaken (net : NetState) (courses : List CourseState) (place index : ℕ) (marks : List Bool) : Type 0 where
  pub long : length marks ≡ 65536
  pub marked : (n m : ℕ) → n < 256 → m < 256 → (is_taken marks n m || some_take net (drop index courses) place n m) ≡ some_take net courses place n m

-- ---- what they say of dependencies
out_then : (number next here : ℕ) (e : Entry) → are_ports number next (then_out here e) ≡ ((here == number) && is_out next e)
out_then number next here (Out there) = refl
out_then number next here Missing = elim (cases_Bool (here == number)) [
  | inl same ↦ rw same refl
  | inr other ↦ rw other refl
]
out_then number next here Unreported = elim (cases_Bool (here == number)) [
  | inl same ↦ rw same refl
  | inr other ↦ rw other refl
]

other_port : (net : NetState) (lid number next here : ℕ) (o : Option PortRef) → (here == number) ≡ false → are_ports number next (then_by net lid here o) ≡ false
other_port net lid number next here None other = refl
other_port net lid number next here (Some there) other = out_then number next here (entry net lid there.node) ∙ (rw other refl)

same_port : (net : NetState) (lid place number next here : ℕ) (there : PortRef) → far_end net.plan.cables (port place number) ≡ Some there → here ≡ number
    → are_ports number next (then_by net lid here (far_end net.plan.cables (port place here))) ≡ is_out next (entry net lid there.node)
same_port net lid place number next here there far same =
    let is : (number == number) ≡ true = eq-eqb number number refl in
    ap (λ (n : ℕ). are_ports number next (then_by net lid n (far_end net.plan.cables (port place n)))) same
    ∙ ap (λ (o : Option PortRef). are_ports number next (then_by net lid number o)) far
    ∙ out_then number next number (entry net lid there.node) ∙ (rw is refl)

ports_by : (net : NetState) (lid place number next : ℕ) (there : PortRef) → far_end net.plan.cables (port place number) ≡ Some there → (e : Entry)
    → are_ports number next (two_by net place lid e) ≡ (is_out number e && is_out next (entry net lid there.node))
ports_by net lid place number next there far (Out here) = elim (cases_Bool (here == number)) [
  | inl is ↦ let same : here ≡ number = grind (arith, nat_tests, is) in rw is (same_port net lid place number next here there far same)
  | inr other ↦ rw other (other_port net lid number next here (far_end net.plan.cables (port place here)) other)
]
ports_by net lid place number next there far Missing = refl
ports_by net lid place number next there far Unreported = refl

taken_depends : (net : NetState) (courses : List CourseState) (first second there : PortRef) → far_end net.plan.cables first ≡ Some there → there.node ≡ second.node
    → some_take net courses first.node first.port second.port ≡ list_any (takes_both net first second) courses
taken_depends net courses first second there far here =
    any_alike (takes net first.node first.port second.port) (takes_both net first second)
    (λ course. ap (λ (b : Bool). counts course first.node && b)
    (ports_by net course.lid first.node first.port second.port there far (entry net course.lid first.node)
    ∙ ap (λ (n : ℕ). is_out first.port (entry net course.lid first.node) && is_out second.port (entry net course.lid n)) here)) courses

depends_by : (net : NetState) (courses : List CourseState) (first second : PortRef) (o : Option PortRef) → far_end net.plan.cables first ≡ o
    → (option_map_or (λ t. t.node == second.node) o false && some_take net courses first.node first.port second.port)
    ≡ (option_map_or (λ t. t.node == second.node) o false && list_any (takes_both net first second) courses)
depends_by net courses first second None far = refl
depends_by net courses first second (Some there) far = elim (cases_Bool (there.node == second.node)) [
  | inl here ↦ let same : there.node ≡ second.node = grind (arith, nat_tests, here) in rw here (taken_depends net courses first second there far same)
  | inr other ↦ rw other refl
]

depends_is : (net : NetState) (courses : List CourseState) (first second : PortRef) (taken : Bool) → taken ≡ some_take net courses first.node first.port second.port
    → (leads_to net first second.node && taken) ≡ depends_on net courses first second
depends_is net courses first second taken is =
    ap (λ (b : Bool). leads_to net first second.node && b) is ∙ depends_by net courses first second (far_end net.plan.cables first) refl

pub depends_here : (net : NetState) (courses : List CourseState) (first second : PortRef) (taken : Bool) → leads_to net first second.node ≡ true
    → taken ≡ some_take net courses first.node first.port second.port → taken ≡ depends_on net courses first second
depends_here net courses first second taken leads is =
    ap (λ (b : Bool). b && taken) (sym leads) ∙ depends_is net courses first second taken is

-- ---- the channels of one group are enough
nexts_in : (net : NetState) (courses : List CourseState) (a : PortRef) (group : List (ℕ × PortRef)) → flat_map (next_if net courses a) group ≡ map (λ p. p.0) (filter (λ p. depends_on net courses a p.1) group)
nexts_in net courses a [] = refl
nexts_in net courses a (p ∷ group) = elim (cases_Bool (depends_on net courses a p.1)) [
  | inl here ↦ rw (here, nexts_in net courses a group) refl
  | inr other ↦ rw (other, nexts_in net courses a group) refl
]

elsewhere : (net : NetState) (courses : List CourseState) (a there b : PortRef) → far_end net.plan.cables a ≡ Some there → (b.node == there.node) ≡ false → depends_on net courses a b ≡ false
elsewhere net courses a there b far other =
    let turned : (there.node == b.node) ≡ false = grind (arith, nat_tests, other) in
    ap (λ (o : Option PortRef). option_map_or (λ t. t.node == b.node) o false && list_any (takes_both net a b) courses) far ∙ (rw turned refl)

in_group : (net : NetState) (courses : List CourseState) (a there : PortRef) → far_end net.plan.cables a ≡ Some there → (all : List (ℕ × PortRef))
    → filter (λ p. depends_on net courses a p.1) (filter (λ p. p.1.node == there.node) all) ≡ filter (λ p. depends_on net courses a p.1) all
in_group net courses a there far [] = refl
in_group net courses a there far (p ∷ all) = elim (cases_Bool (p.1.node == there.node)) [
  | inl here ↦ elim (cases_Bool (depends_on net courses a p.1)) [
    | inl leads ↦ rw (here, leads, in_group net courses a there far all) refl
    | inr none ↦ rw (here, none, in_group net courses a there far all) refl
  ]
  | inr other ↦ let none = elsewhere net courses a there p.1 far other in rw (other, none, in_group net courses a there far all) refl
]

group_is : (net : NetState) (place : ℕ) → is_switch_at net.plan.nodes place ≡ true → group_of (all_groups net (channels net)) place ≡ numbered_at (channels net) place
group_is net place here =
    at_range (group_at net (channels net)) 0 (length net.plan.nodes) place place [] (omega arith) (within_nodes net.plan.nodes place here) ∙ (rw here refl)

pub nexts_are : (net : NetState) (courses : List CourseState) (a there : PortRef) → if_switch net (far_end net.plan.cables a) ≡ Some there
    → flat_map (next_if net courses a) (group_of (all_groups net (channels net)) there.node) ≡ nexts net courses a
nexts_are net courses a there is =
    let found = behind net (far_end net.plan.cables a) there is in
    ap (flat_map (next_if net courses a)) (group_is net there.node found.1)
    ∙ nexts_in net courses a (numbered_at (channels net) there.node)
    ∙ ap (map (λ p. p.0)) (in_group net courses a there found.0 (enumerate_from 0 (channels net)))
  where
    behind : (net : NetState) (o : Option PortRef) (there : PortRef) → if_switch net o ≡ Some there → (o ≡ Some there) × (is_switch_at net.plan.nodes there.node ≡ true)
    behind net None there is = absurd (cc)
    behind net (Some other) there is = elim (cases_Bool (is_switch_at net.plan.nodes other.node)) [
      | inl switch ↦
          let same : Some other ≡ Some there = sym (rw switch refl) ∙ is in
          (same, sym (ap (λ (o : Option PortRef). option_map_or (λ t. is_switch_at net.plan.nodes t.node) o true) same) ∙ switch)
      | inr none ↦ let empty : None ≡ Some there = sym (rw none refl) ∙ is in absurd (cc)
    ]

-- ---- the channels of a switch, one after the other
channel_by : (net : NetState) (at : PortRef) (o : Option PortRef) → far_end net.plan.cables at ≡ o → is_channel net at ≡ option_map_or (λ t. is_switch_at net.plan.nodes t.node) o false
channel_by net at o far = ap (λ (o : Option PortRef). option_map_or (λ t. is_switch_at net.plan.nodes t.node) o false) far

pub one_channel : (net : NetState) (place number : ℕ) (there : PortRef) → if_switch net (far_end net.plan.cables (port place (number + 1))) ≡ Some there
    → channel_behind net place number ≡ port place (number + 1) ∷ []
one_channel net place number there is = one (far_end net.plan.cables (port place (number + 1))) refl is
  where
    one : (o : Option PortRef) → far_end net.plan.cables (port place (number + 1)) ≡ o → if_switch net o ≡ Some there → channel_behind net place number ≡ port place (number + 1) ∷ []
    one None far is = absurd (cc)
    one (Some other) far is = elim (cases_Bool (is_switch_at net.plan.nodes other.node)) [
      | inl switch ↦ let passes = channel_by net (port place (number + 1)) (Some other) far ∙ switch in rw passes refl
      | inr none ↦ let empty : None ≡ Some there = sym (rw none refl) ∙ is in absurd (cc)
    ]

pub no_channel : (net : NetState) (place number : ℕ) → if_switch net (far_end net.plan.cables (port place (number + 1))) ≡ None → channel_behind net place number ≡ []
no_channel net place number is = none (far_end net.plan.cables (port place (number + 1))) refl is
  where
    none : (o : Option PortRef) → far_end net.plan.cables (port place (number + 1)) ≡ o → if_switch net o ≡ None → channel_behind net place number ≡ []
    none None far is = let fails = channel_by net (port place (number + 1)) None far in rw fails refl
    none (Some other) far is = elim (cases_Bool (is_switch_at net.plan.nodes other.node)) [
      | inl switch ↦ let found : Some other ≡ None = sym (rw switch refl) ∙ is in absurd (cc)
      | inr fails ↦ let fails' = channel_by net (port place (number + 1)) (Some other) far ∙ fails in rw fails' refl
    ]

mapped : (f : PortRef → List ℕ) (before : List (List ℕ)) (so_far one : List PortRef) → before ++ map f (so_far ++ one) ≡ (before ++ map f so_far) ++ map f one
mapped f before so_far one = ap (λ (xs : List (List ℕ)). before ++ xs) (map-append f so_far one) ∙ sym (append_assoc before (map f so_far) (map f one))

range_mapped : (net : NetState) (courses : List CourseState) (place n : ℕ) (before so_far after : List (List ℕ)) (one : List PortRef)
    → so_far ≡ before ++ map (nexts net courses) (flat_map (channel_behind net place) (range_with_len 0 n)) → channel_behind net place n ≡ one → after ≡ so_far ++ map (nexts net courses) one
    → after ≡ before ++ map (nexts net courses) (flat_map (channel_behind net place) (range_with_len 0 (n + 1)))
range_mapped net courses place n before so_far after one is last more =
    let whole = flat_onto (channel_behind net place) [] (flat_map (channel_behind net place) (range_with_len 0 n)) (flat_map (channel_behind net place) (range_with_len 0 n) ++ channel_behind net place n) n refl refl in
    more ∙ ap (λ (xs : List (List ℕ)). xs ++ map (nexts net courses) one) is
    ∙ sym (mapped (nexts net courses) before (flat_map (channel_behind net place) (range_with_len 0 n)) one)
    ∙ ap (λ (xs : List PortRef). before ++ map (nexts net courses) (flat_map (channel_behind net place) (range_with_len 0 n) ++ xs)) (sym last)
    ∙ ap (λ (xs : List PortRef). before ++ map (nexts net courses) xs) whole

pub one_more : (net : NetState) (courses : List CourseState) (place n : ℕ) (before so_far after : List (List ℕ)) (there : PortRef)
    → so_far ≡ before ++ map (nexts net courses) (flat_map (channel_behind net place) (range_with_len 0 n))
    → if_switch net (far_end net.plan.cables (port place (n + 1))) ≡ Some there
    → after ≡ so_far ++ flat_map (next_if net courses (port place (n + 1))) (group_of (all_groups net (channels net)) there.node) ∷ []
    → after ≡ before ++ map (nexts net courses) (flat_map (channel_behind net place) (range_with_len 0 (n + 1)))
one_more net courses place n before so_far after there is behind more =
    range_mapped net courses place n before so_far after (port place (n + 1) ∷ []) is (one_channel net place n there behind)
    (more ∙ ap (λ (nexts : List ℕ). so_far ++ nexts ∷ []) (nexts_are net courses (port place (n + 1)) there behind))

pub none_more : (net : NetState) (courses : List CourseState) (place n : ℕ) (before so_far : List (List ℕ))
    → so_far ≡ before ++ map (nexts net courses) (flat_map (channel_behind net place) (range_with_len 0 n))
    → if_switch net (far_end net.plan.cables (port place (n + 1))) ≡ None
    → so_far ≡ before ++ map (nexts net courses) (flat_map (channel_behind net place) (range_with_len 0 (n + 1)))
none_more net courses place n before so_far is behind =
    range_mapped net courses place n before so_far so_far [] is (no_channel net place n behind) (sym (nothing_more so_far))
  where
    nothing_more : (xs : List (List ℕ)) → xs ++ [] ≡ xs
    nothing_more [] = refl
    nothing_more (x ∷ xs) = ap (λ (rest : List (List ℕ)). x ∷ rest) (nothing_more xs)

-- ---- all switches
pub map_flat : {X Y : Type 0} (f : X → Y) (g : ℕ → List X) (xs : List ℕ) → map f (flat_map g xs) ≡ flat_map (λ x. map f (g x)) xs
map_flat f g [] = refl
map_flat f g (x ∷ xs) = map-append f (g x) (flat_map g xs) ∙ ap (λ (ys : List _). map f (g x) ++ ys) (map_flat f g xs)
