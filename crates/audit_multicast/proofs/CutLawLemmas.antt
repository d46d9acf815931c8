-- A cut that is reported is one, and none is missed.
use Rattle.std.proofs.Common.{◌≡◌, ◌∙◌, inl, inr, ap, refl, subst, sym, ℕ, zero, suc, Bool, true, false, ◌==◌, ◌&&◌, ◌||◌, not, List, [], ◌∷◌, length, map, filter, flat_map, get_or}
use Rattle.std.proofs.Common.{arith, Option, Some, None}
use Rattle.std.specs.List.{list_any, range_with_len}
use Rattle.std.specs.Option.{option_map_or, option_or}
use Rattle.std.proofs.lemmas.Bool.{and_from, and_parts, cases_Bool, eq-eqb, false≢true, or_cases, or_left, or_right}
use Rattle.std.proofs.lemmas.Bool.Decides.{nat_tests}
use Rattle.std.proofs.lemmas.List.Folds.{list_any-append}
use Rattle.std.proofs.lemmas.Option.{same_Some}
use Rattle.fabric_parts.specs.Cable.{far_end, is_same_port, port}
use Rattle.fabric_parts.specs.declared.cable.PortRef.{PortRef}
use Rattle.step_results.proofs.ListLemmas.{any_map, list_any_weaker}
use Rattle.topo_file.specs.Connectivity.{switches}
use Rattle.topo_file.specs.Node.{is_switch_at, ports_at}
use Rattle.audit_plan.specs.Attached.{ports_of}
use Rattle.audit_net.specs.Net.{NetState}
use Rattle.audit_plan.proofs.PlaceLemmas.{in_kept, is_listed}
use Rattle.audit_net.proofs.RoundLemmas.{are_below, settled}
use Rattle.audit_loops.specs.Channels.{leads_to}
use Rattle.audit_routes.proofs.SafeLemmas.{same_port}
use Rattle.audit_multicast.specs.declared.cuts.Cut.{Cut}
use Rattle.audit_multicast.specs.Copies.{leads_to_end, node_behind}
use Rattle.audit_multicast.specs.Cuts.{arrives, cut_by, cut_from, cut_of, first_cut, first_member, has_members, is_member, member_switches, members_at, missed_at, missed_by, spreads}
use Rattle.audit_multicast.specs.Laws.{ComesTo, CutMembersAreApart, IsMember, NoCutIsMissed, came_by, is_own_port}
use Rattle.audit_multicast.specs.Loops.{all_outs}
use Rattle.audit_multicast.specs.Spreading.{spread_marks}
use Rattle.audit_multicast.specs.Ways.{comes_to, goes_on, is_set, leaves, outs, turns}
use Rattle.audit_multicast.proofs.CopyFoundLemmas.{any_kept, is_out, leads_behind, range_own}
use Rattle.audit_multicast.proofs.CopyLawLemmas.{last_leads}
use Rattle.audit_multicast.proofs.CutLemmas.{spreading}
use Rattle.audit_multicast.proofs.LoopLawLemmas.{kept_are, kept_listed, out_among, own_listed, same_itself, switch_behind}

-- ---- ports that are listed
-- one that passes a test
pub found_port : (p : PortRef → Bool) (xs : List PortRef) → list_any p xs ≡ true → (x : PortRef) × (list_any (is_same_port x) xs ≡ true) × (p x ≡ true)
found_port p [] some = absurd (false≢true some)
found_port p (x ∷ xs) some = elim (cases_Bool (p x)) [
  | inl here ↦ (x, or_left (is_same_port x x) _ (same_itself x), here)
  | inr other ↦ let rest = found_port p xs (rw other at some) in (rest.0, or_right (is_same_port rest.0 x) _ rest.1, rest.2)
]

pub some_port : (p : PortRef → Bool) (x : PortRef) (xs : List PortRef) → list_any (is_same_port x) xs ≡ true → p x ≡ true → list_any p xs ≡ true
some_port p x xs there passes = list_any_weaker (is_same_port x) p (λ y same. subst (λ (one : PortRef). p one ≡ true) (same_port x y same) passes) xs there

-- a port by which packets leave
pub among_is : (net : NetState) (masks : List (List ℕ)) (at : PortRef) (places : List ℕ) → list_any (is_same_port at) (flat_map (λ place. outs net masks (port place 0)) places) ≡ true
    → (is_own_port net at ≡ true) × (leaves net masks at ≡ true)
among_is net masks at [] there = absurd (false≢true there)
among_is net masks at (place ∷ places) there =
    elim (or_cases (list_any (is_same_port at) (outs net masks (port place 0))) _
    (sym (list_any-append (is_same_port at) (outs net masks (port place 0)) (flat_map (λ one. outs net masks (port one 0)) places)) ∙ there)) [
      | inl here ↦ let out = is_out net masks (port place 0) at here in (out.own, out.leaving)
      | inr later ↦ among_is net masks at places later
    ]

-- ---- marked is where a packet comes by some path
comes_behind : (net : NetState) (before out : PortRef) → comes_to net before out ≡ true → node_behind net before ≡ out.node
comes_behind net before out comes = by (far_end net.plan.cables before) comes
  where
    by : (there : Option PortRef) → option_map_or (λ end. turns end out) there false ≡ true → option_map_or (λ end. end.node) there 0 ≡ out.node
    by None is = absurd (false≢true is)
    by (Some there) is = let parts = and_parts (there.node == out.node) _ is in grind (arith, nat_tests, parts.0)

abbrev HasBack : NetState → List (List ℕ) → ℕ → PortRef → Type 0
HasBack net masks place out = (back : List PortRef) × (came_by net masks place (out ∷ back) (node_behind net out) ≡ true)

spreads_by : (net : NetState) (masks : List (List ℕ)) (place count : ℕ) (out : PortRef) → list_any (is_same_port out) (all_outs net masks) ≡ true
    → spreads net (all_outs net masks) place count out ≡ true → HasBack net masks place out
spreads_by net masks place zero out among is =
    let facts = among_is net masks out (switches net.plan.nodes) among in
    ([], and_from (out.node == place) _ is (and_from (is_own_port net out) _ facts.0 (and_from (leaves net masks out) _ facts.1 (leads_behind net masks out facts.1))))
spreads_by net masks place (suc count) out among is =
    elim (or_cases (spreads net (all_outs net masks) place count out) _ is) [
      | inl before ↦ spreads_by net masks place count out among before
      | inr next ↦
          let found = found_port (λ before. spreads net (all_outs net masks) place count before && comes_to net before out) (all_outs net masks) next in
          let parts = and_parts (spreads net (all_outs net masks) place count found.0) _ found.2 in
          let back = spreads_by net masks place count found.0 found.1 parts.0 in
          let facts = among_is net masks out (switches net.plan.nodes) among in
          let came = subst (λ (n : ℕ). came_by net masks place (found.0 ∷ back.0) n ≡ true) (comes_behind net found.0 out parts.1) back.1 in (
            found.0 ∷ back.0,
            and_from (goes_on net masks found.0 out) _ (and_from (comes_to net found.0 out) _ parts.1 facts.1)
                (and_from (is_own_port net out) _ facts.0 (and_from (leads_to net out (node_behind net out)) _ (leads_behind net masks out facts.1) came)),
          )
    ]

-- ---- and where a packet comes is marked
record IsOnPath (net : NetState) (masks : List (List ℕ)) (place count : ℕ) (last : PortRef) : Type 0 where
  leaving : leaves net masks last ≡ true
  among : list_any (is_same_port last) (all_outs net masks) ≡ true
  spread : spreads net (all_outs net masks) place count last ≡ true

on_path : (net : NetState) (masks : List (List ℕ)) (place : ℕ) (last : PortRef) (back : List PortRef) (there : ℕ) → is_switch_at net.plan.nodes place ≡ true
    → came_by net masks place (last ∷ back) there ≡ true → IsOnPath net masks place (length back) last
on_path net masks place last [] there switch came =
    let parts = and_parts (last.node == place) _ came in
    let mine = and_parts (is_own_port net last) _ parts.1 in
    let leaving = and_parts (leaves net masks last) _ mine.1 in
    let same : place ≡ last.node = grind (arith, nat_tests, parts.0) in
    record {
      leaving = leaving.0;
      among = out_among net masks last (subst (λ (n : ℕ). is_switch_at net.plan.nodes n ≡ true) same switch) mine.0 leaving.0;
      spread = parts.0;
    }
on_path net masks place last (before ∷ back) there switch came =
    let parts = and_parts (goes_on net masks before last) _ came in
    let mine = and_parts (is_own_port net last) _ parts.1 in
    let rest = and_parts (leads_to net last there) _ mine.1 in
    let earlier = on_path net masks place before back last.node switch rest.1 in
    let goes = and_parts (comes_to net before last) _ parts.0 in
    record {
      leaving = goes.1;
      among = out_among net masks last (switch_behind net masks before last earlier.leaving parts.0) mine.0 goes.1;
      spread = or_right (spreads net (all_outs net masks) place (length back) last) _
          (some_port (λ one. spreads net (all_outs net masks) place (length back) one && comes_to net one last) before (all_outs net masks) earlier.among
          (and_from (spreads net (all_outs net masks) place (length back) before) _ earlier.spread goes.0));
    }

below_at : (f g : PortRef → Bool) (x : PortRef) (xs : List PortRef) → are_below (map f xs) (map g xs) ≡ true → list_any (is_same_port x) xs ≡ true → f x ≡ true → g x ≡ true
below_at f g x [] below there is = absurd (false≢true there)
below_at f g x (y ∷ xs) below there is =
    let parts = and_parts (not (f y) || g y) _ below in
    elim (cases_Bool (is_same_port x y)) [
      | inl here ↦
          let same = same_port x y here in
          let first : f y ≡ true = subst (λ (one : PortRef). f one ≡ true) same is in
          subst (λ (one : PortRef). g one ≡ true) (sym same) (rw first at parts.0)
      | inr other ↦ below_at f g x xs parts.1 (rw other at there) is
    ]

spreads_in_time : (net : NetState) (all : List PortRef) (place count : ℕ) (out : PortRef) → list_any (is_same_port out) all ≡ true → spreads net all place count out ≡ true
    → spreads net all place (length all) out ≡ true
spreads_in_time net all place count out among is =
    below_at (spreads net all place count) (spreads net all place (length all)) out all (settled (spread_marks net all place) (length all) (spreading net all place) count) among is

-- ---- so a packet comes to the switches that are reached, and to no others
pub arrives_by : (net : NetState) (masks : List (List ℕ)) (place there : ℕ) → arrives net (all_outs net masks) place there ≡ true → ComesTo net masks place there
arrives_by net masks place there is = elim (or_cases (place == there) _ is) [
  | inl here ↦ ([], here)
  | inr behind ↦
      let all = all_outs net masks in
      let some = sym (any_map (λ one. one == there) (node_behind net) (filter (spreads net all place (length all)) all)) ∙ behind in
      let found = found_port (λ out. node_behind net out == there) (filter (spreads net all place (length all)) all) some in
      let among = any_kept (spreads net all place (length all)) found.0 all found.1 in
      let spread = kept_are (spreads net all place (length all)) (spreads net all place (length all)) (λ out keeps. keeps) found.0 all found.1 in
      let back = spreads_by net masks place (length all) found.0 among spread in
      let same : node_behind net found.0 ≡ there = grind (arith, nat_tests, found.2) in
      (found.0 ∷ back.0, subst (λ (n : ℕ). came_by net masks place (found.0 ∷ back.0) n ≡ true) same back.1)
]

pub arrives_there : (net : NetState) (masks : List (List ℕ)) (place there : ℕ) → is_switch_at net.plan.nodes place ≡ true → ComesTo net masks place there
    → arrives net (all_outs net masks) place there ≡ true
arrives_there net masks place there switch (path, came) = by path came
  where
    by : (path : List PortRef) → came_by net masks place path there ≡ true → arrives net (all_outs net masks) place there ≡ true
    by [] came = or_left (place == there) _ came
    by (last ∷ back) came =
        let all = all_outs net masks in
        let on = on_path net masks place last back there switch came in
        let spread = spreads_in_time net all place (length back) last on.among on.spread in
        let leads : (node_behind net last == there) ≡ true = eq-eqb (node_behind net last) there (last_leads net masks place last back there came) in
        or_right (place == there) _
        (any_map (λ one. one == there) (node_behind net) (filter (spreads net all place (length all)) all)
        ∙ some_port (λ out. node_behind net out == there) last (filter (spreads net all place (length all)) all)
        (kept_listed (spreads net all place (length all)) last all spread on.among) leads)

-- ---- members
ends_at_end : (net : NetState) (at : PortRef) → leads_to_end net at ≡ true → (end : PortRef) × (far_end net.plan.cables at ≡ Some end) × (is_switch_at net.plan.nodes end.node ≡ false)
ends_at_end net at leads = by (far_end net.plan.cables at) refl leads
  where
    not_is : (b : Bool) → not b ≡ true → b ≡ false
    not_is false is = refl
    not_is true is = absurd (false≢true is)

    by : (there : Option PortRef) → far_end net.plan.cables at ≡ there → option_map_or (λ end. not (is_switch_at net.plan.nodes end.node)) there false ≡ true
        → (end : PortRef) × (far_end net.plan.cables at ≡ Some end) × (is_switch_at net.plan.nodes end.node ≡ false)
    by None far is = absurd (false≢true is)
    by (Some end) far is = (end, far, not_is (is_switch_at net.plan.nodes end.node) is)

-- a member at the switch
member_is : (net : NetState) (masks : List (List ℕ)) (place : ℕ) (at : PortRef) → is_switch_at net.plan.nodes place ≡ true
    → list_any (is_same_port at) (members_at net masks place) ≡ true → (at.node ≡ place) × IsMember net masks at
member_is net masks place at switch there =
    let listed = any_kept (is_member net masks) at (ports_of net.plan place) there in
    let own = range_own net at place 1 (ports_at net.plan.nodes place) (omega arith) (omega arith) listed in
    let passes = and_parts (is_set masks at) _ (kept_are (is_member net masks) (is_member net masks) (λ one keeps. keeps) at (ports_of net.plan place) there) in
    let end = ends_at_end net at passes.1 in (
      own.0,
      record {
        switch = subst (λ (n : ℕ). is_switch_at net.plan.nodes n ≡ true) (sym own.0) switch;
        own = own.1;
        set = passes.0;
        end = end.0;
        cable = end.1;
        end_port = end.2;
      },
    )

passes_member : (net : NetState) (masks : List (List ℕ)) (at : PortRef) → IsMember net masks at → is_member net masks at ≡ true
passes_member net masks at is =
    and_from (is_set masks at) _ is.set
    (ap (λ (o : Option PortRef). option_map_or (λ end. not (is_switch_at net.plan.nodes end.node)) o false) is.cable ∙ ap not is.end_port)

member_listed : (net : NetState) (masks : List (List ℕ)) (at : PortRef) → IsMember net masks at → list_any (is_same_port at) (members_at net masks at.node) ≡ true
member_listed net masks at is = kept_listed (is_member net masks) at (ports_of net.plan at.node) (passes_member net masks at is) (own_listed net at is.own)

switch_listed : (net : NetState) (masks : List (List ℕ)) (at : PortRef) → IsMember net masks at → list_any (λ n. n == at.node) (member_switches net masks) ≡ true
unfolding member_switches
switch_listed net masks at is =
    in_kept (has_members net masks) at.node (switches net.plan.nodes)
    (some_port (is_member net masks) at (ports_of net.plan at.node) (own_listed net at is.own) (passes_member net masks at is))
    (is_listed net.plan.nodes at.node is.switch)

-- ---- switches at which members are
pub kept_both : (p q : ℕ → Bool) (k : ℕ) (xs : List ℕ) → list_any (λ n. n == k) (filter p (filter q xs)) ≡ true → (p k ≡ true) × (q k ≡ true)
kept_both p q k [] there = absurd (false≢true there)
kept_both p q k (x ∷ xs) there = elim (cases_Bool (q x)) [
  | inr drops ↦ kept_both p q k xs (rw drops at there)
  | inl keeps ↦ elim (cases_Bool (p x)) [
    | inr drops ↦ kept_both p q k xs (rw drops at (rw keeps at there))
    | inl keeps_too ↦ elim (cases_Bool (x == k)) [
      | inl here ↦ let same : x ≡ k = grind (arith, nat_tests, here) in (subst (λ (n : ℕ). p n ≡ true) same keeps_too, subst (λ (n : ℕ). q n ≡ true) same keeps)
      | inr other ↦ kept_both p q k xs (rw other at (rw keeps_too at (rw keeps at there)))
    ]
  ]
]

has_switch_there : (net : NetState) (masks : List (List ℕ)) (place : ℕ) → list_any (λ n. n == place) (member_switches net masks) ≡ true
    → (has_members net masks place ≡ true) × (is_switch_at net.plan.nodes place ≡ true)
unfolding member_switches
has_switch_there net masks place there = kept_both (has_members net masks) (is_switch_at net.plan.nodes) place (range_with_len 0 (length net.plan.nodes)) there

first_listed : (net : NetState) (masks : List (List ℕ)) (place : ℕ) → has_members net masks place ≡ true
    → list_any (is_same_port (first_member net masks place)) (members_at net masks place) ≡ true
first_listed net masks place some = by (members_at net masks place) (kept_some (is_member net masks) (ports_of net.plan place) some)
  where
    kept_some : (p : PortRef → Bool) (xs : List PortRef) → list_any p xs ≡ true → (length (filter p xs) == 0) ≡ false
    kept_some p [] none = absurd (false≢true none)
    kept_some p (x ∷ xs) there = elim (cases_Bool (p x)) [
      | inl keeps ↦
          let more : (suc (length (filter p xs)) == 0) ≡ false = grind (arith, nat_tests) in
          rw keeps more
      | inr drops ↦ rw drops (kept_some p xs (rw drops at there))
    ]

    by : (members : List PortRef) → (length members == 0) ≡ false → list_any (is_same_port (get_or members 0 (port 0 0))) members ≡ true
    by [] none = absurd (false≢true (sym none))
    by (first ∷ rest) some = or_left (is_same_port first first) _ (same_itself first)

-- ---- what a member misses
missed_is : (net : NetState) (masks : List (List ℕ)) (all : List PortRef) (place : ℕ) (at : PortRef) (places : List ℕ)
    → list_any (is_same_port at) (flat_map (missed_at net masks all place) places) ≡ true
    → (there : ℕ) × (list_any (λ n. n == there) places ≡ true) × (arrives net all place there ≡ false) × (list_any (is_same_port at) (members_at net masks there) ≡ true)
missed_is net masks all place at [] some = absurd (false≢true some)
missed_is net masks all place at (there ∷ places) some =
    elim (or_cases (list_any (is_same_port at) (missed_at net masks all place there)) _
    (sym (list_any-append (is_same_port at) (missed_at net masks all place there) (flat_map (missed_at net masks all place) places)) ∙ some)) [
      | inl here ↦ elim (cases_Bool (arrives net all place there)) [
        | inl comes ↦ let nothing : list_any (is_same_port at) [] ≡ true = rw comes at here in absurd (false≢true nothing)
        | inr away ↦ let listed : list_any (is_same_port at) (members_at net masks there) ≡ true = rw away at here in
            (there, or_left (there == there) _ (eq-eqb there there refl), away, listed)
      ]
      | inr later ↦ let rest = missed_is net masks all place at places later in (rest.0, or_right (there == rest.0) _ rest.1, rest.2, rest.3)
    ]

missed_there : (net : NetState) (masks : List (List ℕ)) (all : List PortRef) (place there : ℕ) (at : PortRef) (places : List ℕ) → list_any (λ n. n == there) places ≡ true
    → arrives net all place there ≡ false → list_any (is_same_port at) (members_at net masks there) ≡ true
    → list_any (is_same_port at) (flat_map (missed_at net masks all place) places) ≡ true
missed_there net masks all place there at [] among away listed = absurd (false≢true among)
missed_there net masks all place there at (x ∷ places) among away listed =
    list_any-append (is_same_port at) (missed_at net masks all place x) (flat_map (missed_at net masks all place) places)
    ∙ elim (cases_Bool (x == there)) [
      | inl here ↦
          let same : there ≡ x = grind (arith, nat_tests, here) in
          let away_here : arrives net all place x ≡ false = subst (λ (n : ℕ). arrives net all place n ≡ false) same away in
          let listed_here : list_any (is_same_port at) (members_at net masks x) ≡ true = subst (λ (n : ℕ). list_any (is_same_port at) (members_at net masks n) ≡ true) same listed in
          or_left (list_any (is_same_port at) (missed_at net masks all place x)) _ (rw away_here listed_here)
      | inr other ↦ or_right (list_any (is_same_port at) (missed_at net masks all place x)) _ (missed_there net masks all place there at places (rw other at among) away listed)
    ]

-- ---- the first that misses some
record IsCutAt (net : NetState) (masks : List (List ℕ)) (all : List PortRef) (places within : List ℕ) (cut : Cut) : Type 0 where
  place : ℕ
  among : list_any (λ n. n == place) within ≡ true
  found : cut_from net masks all places place ≡ Some cut

first_is : (net : NetState) (masks : List (List ℕ)) (all : List PortRef) (places within : List ℕ) (cut : Cut) → first_cut net masks all places within ≡ Some cut
    → IsCutAt net masks all places within cut
first_is net masks all places [] cut found = cc
first_is net masks all places (place ∷ rest) cut found = by (cut_from net masks all places place) refl found (λ later. first_is net masks all places rest cut later)
  where
    by : (o : Option Cut) → cut_from net masks all places place ≡ o → option_or o (first_cut net masks all places rest) ≡ Some cut
        → (first_cut net masks all places rest ≡ Some cut → IsCutAt net masks all places rest cut) → IsCutAt net masks all places (place ∷ rest) cut
    by (Some other) is same more = record { place = place; among = or_left (place == place) _ (eq-eqb place place refl); found = is ∙ same }
    by None is later more =
        let found = more later in
        record { place = found.place; among = or_right (place == found.place) _ found.among; found = found.found }

none_first : (net : NetState) (masks : List (List ℕ)) (all : List PortRef) (places within : List ℕ) (place : ℕ) → first_cut net masks all places within ≡ None
    → list_any (λ n. n == place) within ≡ true → cut_from net masks all places place ≡ None
none_first net masks all places [] place none among = absurd (false≢true among)
none_first net masks all places (x ∷ rest) place none among =
    by (cut_from net masks all places x) refl none (λ left there. none_first net masks all places rest place left there)
  where
    by : (o : Option Cut) → cut_from net masks all places x ≡ o → option_or o (first_cut net masks all places rest) ≡ None
        → (first_cut net masks all places rest ≡ None → list_any (λ n. n == place) rest ≡ true → cut_from net masks all places place ≡ None)
        → cut_from net masks all places place ≡ None
    by (Some cut) is left more = let found : Some cut ≡ None = left in absurd (cc)
    by None is left more = elim (cases_Bool (x == place)) [
      | inl here ↦ let same : x ≡ place = grind (arith, nat_tests, here) in subst (λ (n : ℕ). cut_from net masks all places n ≡ None) same is
      | inr other ↦ more left (rw other at among)
    ]

record IsCutBy (from : PortRef) (missed : List PortRef) (cut : Cut) : Type 0 where
  sender : cut.from ≡ from
  receiver : list_any (is_same_port cut.at) missed ≡ true

cut_is : (from : PortRef) (missed : List PortRef) (cut : Cut) → cut_by from missed ≡ Some cut → IsCutBy from missed cut
cut_is from [] cut found = cc
cut_is from (at ∷ rest) cut found =
    let same : record { from = from; at = at; more = length rest } ≡ cut = same_Some _ cut found in
    record {
      sender = ap (λ (one : Cut). one.from) (sym same);
      receiver = subst (λ (one : Cut). list_any (is_same_port one.at) (at ∷ rest) ≡ true) same (or_left (is_same_port at at) _ (same_itself at));
    }

none_by : (from : PortRef) (missed : List PortRef) → cut_by from missed ≡ None → missed ≡ []
none_by from [] none = refl
none_by from (at ∷ rest) none = let found : Some (record { from = from; at = at; more = length rest }) ≡ None = none in absurd (cc)

pub cut_members_are_apart : CutMembersAreApart
unfolding cut_of cut_from missed_by
cut_members_are_apart net masks cut reported =
    let all = all_outs net masks in
    let places = member_switches net masks in
    let first = first_is net masks all places places cut reported in
    let found = cut_is (first_member net masks first.place) (missed_by net masks all places first.place) cut first.found in
    let sender = has_switch_there net masks first.place first.among in
    let from = member_is net masks first.place (first_member net masks first.place) sender.1 (first_listed net masks first.place sender.0) in
    let missed = missed_is net masks all first.place cut.at places found.receiver in
    let receiver = has_switch_there net masks missed.0 missed.1 in
    let at = member_is net masks missed.0 cut.at receiver.1 missed.3 in
    let at_place : cut.from.node ≡ first.place = ap (λ (one : PortRef). one.node) found.sender ∙ from.0 in (
      subst (IsMember net masks) (sym found.sender) from.1,
      at.1,
      λ comes.
          let there = subst (λ (n : ℕ). ComesTo net masks n cut.at.node) at_place comes in
          let here = subst (λ (n : ℕ). ComesTo net masks first.place n) at.0 there in
          false≢true (sym missed.2 ∙ arrives_there net masks first.place missed.0 sender.1 here),
    )

pub no_cut_is_missed : NoCutIsMissed
unfolding cut_of cut_from missed_by
no_cut_is_missed net masks none from at sender receiver = elim (cases_Bool (arrives net (all_outs net masks) from.node at.node)) [
  | inl comes ↦ arrives_by net masks from.node at.node comes
  | inr away ↦
      let all = all_outs net masks in
      let places = member_switches net masks in
      let nothing = none_first net masks all places places from.node none (switch_listed net masks from sender) in
      let missed = none_by (first_member net masks from.node) (missed_by net masks all places from.node) nothing in
      let some = missed_there net masks all from.node at.node at places (switch_listed net masks at receiver) away (member_listed net masks at receiver) in
      let empty : list_any (is_same_port at) [] ≡ true = subst (λ (list : List PortRef). list_any (is_same_port at) list ≡ true) missed some in
      absurd (false≢true empty)
]
