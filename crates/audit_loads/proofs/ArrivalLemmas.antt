-- The last links to a port carry what arrives there.
use Rattle.std.proofs.Common.{◌≡◌, ◌∙◌, inl, inr, ap, ap₂, refl, subst, sym, ℕ, zero, suc, ◌+◌, ◌⊎◌, Bool, true, false, cond, not}
use Rattle.std.proofs.Common.{◌==◌, ◌||◌, ◌&&◌, List, [], ◌∷◌, filter, flat_map, length, nat_le, Option, Some, None, arith}
use Rattle.std.specs.Cmp.{both_ways}
use Rattle.std.specs.List.{count_by, list_any, range_with_len, sum_by}
use Rattle.std.specs.Option.{option_map_or}
use Rattle.std.proofs.lemmas.Bool.{and_from, and_parts, cases_Bool, eq-eqb, eqb-true, false≢true, or_cases, or_left}
use Rattle.std.proofs.lemmas.Bool.Decides.{nat_tests}
use Rattle.std.proofs.lemmas.List.Folds.{flat_map-map}
use Rattle.std.proofs.lemmas.List.Sums.{sum_by-append, sum_by-cons}
use Rattle.std.proofs.lemmas.Option.{same_Some}
use Rattle.fabric_parts.specs.Cable.{far_end, is_same_port, port}
use Rattle.fabric_parts.specs.declared.cable.PortRef.{PortRef}
use Rattle.topo_file.specs.Connectivity.{switches}
use Rattle.topo_file.specs.Node.{is_switch_at}
use Rattle.audit_net.specs.declared.entry.Entry.{Entry}
use Rattle.audit_net.specs.declared.entry.Entry.TheVariants.{Out, Missing, Unreported}
use Rattle.audit_net.specs.declared.following.Fate.TheVariants as fates
use Rattle.audit_net.specs.declared.following.Turn.{Turn}
use Rattle.audit_net.specs.declared.following.Turn.TheVariants as turns
use Rattle.audit_plan.specs.Attached.{ports_of}
use Rattle.audit_loops.specs.Channels.{channels, channels_of, is_channel, is_out, leads_to, leaves_by}
use Rattle.audit_net.specs.Following.{end_within, fate_by, switch_total, then_end, turn, turn_by, turn_to}
use Rattle.audit_net.specs.Laws.{GoesTo}
use Rattle.audit_loops.specs.Laws.{IsChannel}
use Rattle.audit_net.specs.Net.{NetState, entry}
use Rattle.audit_routes.specs.Pairs.{is_fate}
use Rattle.audit_plan.specs.Plan.{is_host, is_on}
use Rattle.audit_loops.proofs.ChannelLawLemmas.{channels_are_reported}
use Rattle.audit_net.proofs.EndlessLemmas.{loops_never_end, turn_goes}
use Rattle.audit_loads.specs.Laws.{CablesLeadBack, LastLinksCarryWhatArrives, arrives_over, last_channels, pairs_of, ports_used}
use Rattle.audit_loads.specs.Sources.{Pair, entrance, pair_from, pairs_in, sends}
use Rattle.audit_net.specs.Ways.{then_on, way, way_within}
use Rattle.audit_loads.specs.Ways.{goes_over}
use Rattle.audit_loads.proofs.CableLemmas.{same_itself}
use Rattle.audit_loads.proofs.KeyLemmas.{same_port}
use Rattle.audit_loads.proofs.LineLemmas.{channels_once, loads_add_up, none_of_range, of_kept, one_or_none}

-- ---- sums
sum_flat : {X Y : Type 0} (f : Y → ℕ) (h : X → List Y) (xs : List X) → sum_by f (flat_map h xs) ≡ sum_by (λ x. sum_by f (h x)) xs
sum_flat f h [] = refl
sum_flat f h (x ∷ xs) =
    sum_by-append f (h x) (flat_map h xs) ∙ ap (λ (n : ℕ). sum_by f (h x) + n) (sum_flat f h xs) ∙ sym (sum_by-cons (λ one. sum_by f (h one)) x xs)

-- two sums of the elements that pass a test, at which they agree
sum_kept : {X : Type 0} (f g : X → ℕ) (q : X → Bool) (xs : List X) → ((x : X) → q x ≡ true → f x ≡ g x) → sum_by f (filter q xs) ≡ sum_by g (filter q xs)
sum_kept f g q [] same = refl
sum_kept f g q (x ∷ xs) same = elim (cases_Bool (q x)) [
  | inl keeps ↦
      rw keeps
      (sum_by-cons f x (filter q xs) ∙ ap₂ (λ (a b : ℕ). a + b) (same x keeps) (sum_kept f g q xs same) ∙ sym (sum_by-cons g x (filter q xs)))
  | inr drops ↦ rw drops (sum_kept f g q xs same)
]

-- and two of lists, if they agree at each
sum_lists : {X Y : Type 0} (f g : Y → ℕ) (h : X → List Y) (xs : List X) → ((x : X) → sum_by f (h x) ≡ sum_by g (h x))
    → sum_by f (flat_map h xs) ≡ sum_by g (flat_map h xs)
sum_lists f g h xs same = sum_flat f h xs ∙ ap (λ (k : _ → ℕ). sum_by k xs) (λ i x. same x i) ∙ sym (sum_flat g h xs)

count_channels : (net : NetState) (p q : PortRef → Bool) → ((at : PortRef) → is_channel net at ≡ true → p at ≡ q at)
    → count_by p (channels net) ≡ count_by q (channels net)
count_channels net p q same =
    sum_lists (λ at. cond (p at) 1 0) (λ at. cond (q at) 1 0) (channels_of net) (switches net.plan.nodes)
    (λ place. sum_kept (λ at. cond (p at) 1 0) (λ at. cond (q at) 1 0) (is_channel net) (ports_of net.plan place)
    (λ at is. ap (λ (b : Bool). cond b 1 0) (same at is)))

-- ---- a switch that delivers the LID: by a port, or to itself
abbrev Delivers : NetState → (place : ℕ) → (end : PortRef) → Type 0
Delivers net place end = (end ≡ port place 0) ⊎ ((number : ℕ) × (far_end net.plan.cables (port place number) ≡ Some end))

delivers_out : (net : NetState) (place number : ℕ) (end : PortRef) (o : Option PortRef) → far_end net.plan.cables (port place number) ≡ o
    → turn_to net number o ≡ turns.Arrives end → Delivers net place end
delivers_out net place number end None is arrives = cc
delivers_out net place number end (Some there) is arrives = elim (cases_Bool (is_switch_at net.plan.nodes there.node)) [
  | inl goes ↦ let e : turns.Goes there.node ≡ turns.Arrives end = rw goes at arrives in cc
  | inr ends ↦ let e : turns.Arrives there ≡ turns.Arrives end = rw ends at arrives in
      let same : there ≡ end = cc in inr (number, is ∙ ap (λ (p : PortRef). Some p) same)
]

delivers : (net : NetState) (place : ℕ) (end : PortRef) (e : Entry) → turn_by net place e ≡ turns.Arrives end → Delivers net place end
delivers net place end Unreported arrives = cc
delivers net place end Missing arrives = cc
delivers net place end (Out number) arrives = elim (cases_Bool (number == 0)) [
  | inl own ↦ let e : turns.Arrives (port place 0) ≡ turns.Arrives end = rw own at arrives in let same : port place 0 ≡ end = cc in inl (sym same)
  | inr out ↦ delivers_out net place number end (far_end net.plan.cables (port place number)) refl (rw out at arrives)
]

not_zero : (net : NetState) (place number : ℕ) (there : PortRef) → CablesLeadBack net.plan → far_end net.plan.cables (port place number) ≡ Some there
    → (number == 0) ≡ false
not_zero net place number there cables far =
    let low = (and_parts (nat_le 1 number) _ (cables.ports (port place number) there far)).0 in grind (arith, nat_tests, low)

no_cable_at_0 : (net : NetState) (place other number : ℕ) (end : PortRef) → CablesLeadBack net.plan → end ≡ port place 0
    → far_end net.plan.cables (port other number) ≡ Some end → ⊥
no_cable_at_0 net place other number end cables own far =
    let back : far_end net.plan.cables (port place 0) ≡ Some (port other number) =
    ap (far_end net.plan.cables) (sym own) ∙ cables.back (port other number) end far in
    false≢true (sym (not_zero net place 0 (port other number) cables back))

-- there is one
one_delivers : (net : NetState) (end : PortRef) (a b : ℕ) → CablesLeadBack net.plan → Delivers net a end → Delivers net b end → a ≡ b
one_delivers net end a b cables (inl one) (inl other) = ap (λ (p : PortRef). p.node) (sym one ∙ other)
one_delivers net end a b cables (inl one) (inr other) = absurd (no_cable_at_0 net a b other.0 end cables one other.1)
one_delivers net end a b cables (inr one) (inl other) = absurd (no_cable_at_0 net b a one.0 end cables other one.1)
one_delivers net end a b cables (inr one) (inr other) =
    ap (λ (p : PortRef). p.node)
    (same_Some (port a one.0) (port b other.0) (sym (cables.back (port a one.0) end one.1) ∙ cables.back (port b other.0) end other.1))

-- ---- the channel by which the LID goes on to a switch
out_by : (number : ℕ) (e : Entry) → is_out number e ≡ true → e ≡ Out number
out_by number (Out other) is = ap (λ (n : ℕ). Out n) (eqb-true other number is)
out_by number Missing is = absurd (false≢true is)
out_by number Unreported is = absurd (false≢true is)

goes_out : (net : NetState) (place number : ℕ) (there : PortRef) → CablesLeadBack net.plan → far_end net.plan.cables (port place number) ≡ Some there
    → is_switch_at net.plan.nodes there.node ≡ true → turn_by net place (Out number) ≡ turns.Goes there.node
goes_out net place number there cables far is = rw (not_zero net place number there cables far, far, is) refl

leads_home : (net : NetState) (lid home : ℕ) (at : PortRef) → CablesLeadBack net.plan → is_channel net at ≡ true → leads_to net at home ≡ true
    → leaves_by net at lid ≡ true → GoesTo net lid at.node home
leads_home net lid home at cables is leads leaves = by (far_end net.plan.cables at) refl is leads
  where
    by : (o : Option PortRef) → far_end net.plan.cables at ≡ o → option_map_or (λ there. is_switch_at net.plan.nodes there.node) o false ≡ true
        → option_map_or (λ there. there.node == home) o false ≡ true → GoesTo net lid at.node home
    by None far switch same = absurd (false≢true switch)
    by (Some there) far switch same =
        ap (turn_by net at.node) (out_by at.port (entry net lid at.node) leaves) ∙ goes_out net at.node at.port there cables far switch
        ∙ ap (λ (n : ℕ). turns.Goes n) (eqb-true there.node home same)

record LeavesBy (net : NetState) (lid place home : ℕ) : Type 0 where
  number : ℕ
  out : entry net lid place ≡ Out number
  there : PortRef
  far : far_end net.plan.cables (port place number) ≡ Some there
  same : there.node ≡ home

leaves_out : (net : NetState) (lid place home number : ℕ) (o : Option PortRef) → entry net lid place ≡ Out number
    → far_end net.plan.cables (port place number) ≡ o → turn_to net number o ≡ turns.Goes home → LeavesBy net lid place home
leaves_out net lid place home number None out far goes = cc
leaves_out net lid place home number (Some there) out far goes = elim (cases_Bool (is_switch_at net.plan.nodes there.node)) [
  | inl on ↦ let e : turns.Goes there.node ≡ turns.Goes home = rw on at goes in
      let same : there.node ≡ home = cc in record { number = number; out = out; there = there; far = far; same = same }
  | inr ends ↦ let e : turns.Arrives there ≡ turns.Goes home = rw ends at goes in cc
]

leaves : (net : NetState) (lid place home : ℕ) → GoesTo net lid place home → LeavesBy net lid place home
leaves net lid place home goes = by (entry net lid place) refl goes
  where
    by : (e : Entry) → entry net lid place ≡ e → turn_by net place e ≡ turns.Goes home → LeavesBy net lid place home
    by Unreported is goes = cc
    by Missing is goes = cc
    by (Out number) is goes = elim (cases_Bool (number == 0)) [
      | inl own ↦ let e : turns.Arrives (port place 0) ≡ turns.Goes home = rw own at goes in cc
      | inr out ↦ leaves_out net lid place home number (far_end net.plan.cables (port place number)) is refl (rw out at goes)
    ]

same_turned : (a b : PortRef) → is_same_port a b ≡ is_same_port b a
same_turned a b = grind (arith, nat_tests)

-- it is among the channels, once
once_there : (net : NetState) (lid place home : ℕ) → CablesLeadBack net.plan → is_switch_at net.plan.nodes place ≡ true → GoesTo net lid place home
    → (l : LeavesBy net lid place home) → count_by (λ channel. is_same_port channel (port place l.number)) (channels net) ≡ 1
once_there net lid place home cables from goes l =
    let at = port place l.number in
    let range = and_parts (nat_le 1 l.number) _ (cables.ports at l.there l.far) in
    let low = range.0 in
    let high = range.1 in
    let is : IsChannel net at = record {
      switch = from;
      low = grind (arith, nat_tests, low);
      high = grind (arith, nat_tests, high);
      there = l.there;
      cable = l.far;
      to_switch = ap (is_switch_at net.plan.nodes) l.same ∙ turn_goes net lid place home goes;
    } in
    let listed : list_any (λ channel. is_same_port channel at) (channels net) ≡ true =
    ap (λ (p : PortRef → Bool). list_any p (channels net)) (λ i channel. same_turned channel at i) ∙ (channels_are_reported net at).1 is in
    one_or_none (λ channel. is_same_port channel at) (channels net) (channels_once net at) ∙ ap (λ (b : Bool). cond b 1 0) listed

-- ---- one switch more changes no end
then_longer : (one more : ℕ → Option Turn) (turned last : Turn) → ((next : ℕ) → one next ≡ Some last → more next ≡ Some last)
    → then_end one turned ≡ Some last → then_end more turned ≡ Some last
then_longer one more (turns.Goes next) last longer is = longer next is
then_longer one more (turns.Arrives there) last longer is = is
then_longer one more turns.Hole last longer is = is
then_longer one more (turns.Nowhere number) last longer is = is
then_longer one more turns.Unknown last longer is = is

ends_longer : (net : NetState) (lid count place : ℕ) (last : Turn) → end_within net lid count place ≡ Some last
    → end_within net lid (suc count) place ≡ Some last
ends_longer net lid zero place last is = cc
ends_longer net lid (suc count) place last is =
    then_longer (λ next. end_within net lid count next) (λ next. end_within net lid (suc count) next) (turn net lid place) last
    (λ next more. ends_longer net lid count next last more) is

settled_end : (net : NetState) (lid place : ℕ) → is_switch_at net.plan.nodes place ≡ true
    → end_within net lid (suc (switch_total net)) place ≡ end_within net lid (switch_total net) place
settled_end net lid place from = by (end_within net lid (switch_total net) place) refl
  where
    by : (o : Option Turn) → end_within net lid (switch_total net) place ≡ o → end_within net lid (suc (switch_total net)) place ≡ o
    by None is = loops_never_end net lid place from is (suc (switch_total net))
    by (Some last) is = ends_longer net lid (switch_total net) place last is

-- ---- tests
and_false : (a b c : Bool) → (a ≡ true → b ≡ true → c ≡ true → ⊥) → (a && (b && c)) ≡ false
and_false true true true no_way = absurd (no_way refl refl refl)
and_false true true false no_way = refl
and_false true false c no_way = refl
and_false false b c no_way = refl

not_first : (a b c d : Bool) → (a ≡ true → b ≡ true → d ≡ true → ⊥) → (a && ((b || c) && d)) ≡ (a && (c && d))
not_first false b c d no_way = refl
not_first true false c d no_way = refl
not_first true true true d no_way = refl
not_first true true false true no_way = absurd (no_way refl refl refl)
not_first true true false false no_way = refl

only_one : (place n : ℕ) → is_on n (place ∷ []) ≡ true → place ≡ n
only_one place n on = elim (cases_Bool (place == n)) [
  | inl here ↦ eqb-true place n here
  | inr other ↦ absurd (false≢true (rw other at on))
]

-- ---- the switch `home` delivers the LID to its port
module _ (net : NetState) (lid home : ℕ) (end : PortRef) (cables : CablesLeadBack net.plan) (arrives : turn net lid home ≡ turns.Arrives end) where
  -- the channels to it by which packets leave these switches
  abbrev to_home : List ℕ → PortRef → Bool
  to_home places at = leads_to net at home && (is_on at.node places && leaves_by net at lid)

  abbrev used : List ℕ → ℕ
  used places = count_by (to_home places) (channels net)

  abbrev reaches : Option Turn → Bool
  reaches ended = is_fate fates.Reached (fate_by end ended)

  none_used : (places : List ℕ) → ((n : ℕ) → is_on n places ≡ true → GoesTo net lid n home → ⊥) → used places ≡ 0
  none_used places apart =
      count_channels net (to_home places) (λ at. false)
      (λ at is.
      and_false (leads_to net at home) (is_on at.node places) (leaves_by net at lid)
      (λ leads on out. apart at.node on (leads_home net lid home at cables is leads out)))
      ∙ none_of_range (channels net)

  -- nothing is behind it
  stays_home : (n : ℕ) → home ≡ n → GoesTo net lid n home → ⊥
  stays_home n same goes = let e : turns.Arrives end ≡ turns.Goes home = sym arrives ∙ ap (turn net lid) same ∙ goes in cc

  ends_home : (count n : ℕ) → is_on n (way_within net lid count home) ≡ true → home ≡ n
  ends_home zero n on = absurd (false≢true on)
  ends_home (suc count) n on = only_one home n (sym (ap (λ (t : Turn). is_on n (home ∷ then_on (λ next. way_within net lid count next) t)) arrives) ∙ on)

  none_from_home : (count : ℕ) → used (way_within net lid count home) ≡ 0
  none_from_home count = none_used (way_within net lid count home) (λ n on goes. stays_home n (ends_home count n on) goes)

  -- no other switch delivers the LID there
  not_here : (place : ℕ) (turned : Turn) → (place == home) ≡ false → turn net lid place ≡ turned → reaches (Some turned) ≡ false
  not_here place (turns.Arrives there) away is = elim (cases_Bool (is_same_port there end)) [
    | inl here ↦
        let end_is : turn net lid place ≡ turns.Arrives end = is ∙ ap (λ (p : PortRef). turns.Arrives p) (same_port there end here) in
        let it = delivers net home end (entry net lid home) arrives in
        let same = one_delivers net end place home cables (delivers net place end (entry net lid place) end_is) it in
        absurd (false≢true (sym away ∙ eq-eqb place home same))
    | inr other ↦ rw other refl
  ]
  not_here place (turns.Goes next) away is = refl
  not_here place turns.Hole away is = refl
  not_here place (turns.Nowhere number) away is = refl
  not_here place turns.Unknown away is = refl

  -- if it is next, one channel leads there: that by which the LID leaves
  to_it : (place count : ℕ) (l : LeavesBy net lid place home) (at : PortRef) → is_channel net at ≡ true
      → to_home (place ∷ way_within net lid count home) at ≡ true → is_same_port at (port place l.number) ≡ true
  to_it place count l at is passes =
      let leads = and_parts (leads_to net at home) _ passes in
      let on = and_parts (is_on at.node (place ∷ way_within net lid count home)) (leaves_by net at lid) leads.1 in
      let goes = leads_home net lid home at cables is leads.0 on.1 in
      let same : place ≡ at.node = elim (or_cases (place == at.node) (is_on at.node (way_within net lid count home)) on.0) [
        | inl here ↦ eqb-true place at.node here
        | inr later ↦ absurd (stays_home at.node (ends_home count at.node later) goes)
      ] in
      let out : Out l.number ≡ Out at.port = sym l.out ∙ ap (λ (n : ℕ). entry net lid n) same ∙ out_by at.port (entry net lid at.node) on.1 in
      let number : l.number ≡ at.port = cc in
      and_from (at.node == place) (at.port == l.number) (eq-eqb at.node place (sym same)) (eq-eqb at.port l.number (sym number))

  of_it : (place count : ℕ) (l : LeavesBy net lid place home) (at : PortRef) → is_same_port at (port place l.number) ≡ true
      → to_home (place ∷ way_within net lid count home) at ≡ true
  of_it place count l at same =
      let there = port place l.number in
      let leads : leads_to net there home ≡ true =
      ap (λ (o : Option PortRef). option_map_or (λ far. far.node == home) o false) l.far ∙ eq-eqb l.there.node home l.same in
      let on : is_on place (place ∷ way_within net lid count home) ≡ true = or_left (place == place) _ (eq-eqb place place refl) in
      let out : leaves_by net there lid ≡ true = ap (is_out l.number) l.out ∙ eq-eqb l.number l.number refl in
      subst (λ (p : PortRef). to_home (place ∷ way_within net lid count home) p ≡ true) (sym (same_port at there same))
      (and_from (leads_to net there home) _ leads (and_from (is_on place (place ∷ way_within net lid count home)) (leaves_by net there lid) on out))

  home_is_next : (place count : ℕ) → is_switch_at net.plan.nodes place ≡ true → GoesTo net lid place home
      → used (place ∷ way_within net lid count home) ≡ 1
  home_is_next place count from goes =
      let l = leaves net lid place home goes in
      count_channels net (to_home (place ∷ way_within net lid count home)) (λ at. is_same_port at (port place l.number))
      (λ at is. both_ways _ _ (to_it place count l at is) (of_it place count l at))
      ∙ once_there net lid place home cables from goes l

  -- if another switch is next, none leads there from this one
  home_is_further : (place next count : ℕ) → GoesTo net lid place next → (next == home) ≡ false
      → used (place ∷ way_within net lid count next) ≡ used (way_within net lid count next)
  home_is_further place next count goes away =
      count_channels net (to_home (place ∷ way_within net lid count next)) (to_home (way_within net lid count next))
      (λ at is.
      not_first (leads_to net at home) (place == at.node) (is_on at.node (way_within net lid count next)) (leaves_by net at lid)
      (λ leads here out.
      let there = ap (turn net lid) (eqb-true place at.node here) ∙ leads_home net lid home at cables is leads out in
      let e : turns.Goes next ≡ turns.Goes home = sym goes ∙ there in
      let same : next ≡ home = cc in
      false≢true (sym away ∙ eq-eqb next home same)))

  stops_here : (place : ℕ) (turned : Turn) → (place == home) ≡ false → turn net lid place ≡ turned → ((next : ℕ) → turned ≡ turns.Goes next → ⊥)
      → used (place ∷ []) ≡ cond (reaches (Some turned)) 1 0
  stops_here place turned away is stays =
      none_used (place ∷ []) (λ n on goes. stays home (sym is ∙ ap (turn net lid) (only_one place n on) ∙ goes))
      ∙ sym (ap (λ (b : Bool). cond b 1 0) (not_here place turned away is))

  -- ---- from another switch packets leave by one such channel if they reach the port, and else by none
  nothing_ends : (rest : ℕ → Option Turn) (turned : Turn) → ((next : ℕ) → rest next ≡ None) → reaches (Some turned) ≡ false
      → reaches (then_end rest turned) ≡ false
  nothing_ends rest (turns.Goes next) none off = ap reaches (none next)
  nothing_ends rest (turns.Arrives there) none off = off
  nothing_ends rest turns.Hole none off = off
  nothing_ends rest (turns.Nowhere number) none off = off
  nothing_ends rest turns.Unknown none off = off

  reached_at_home : (count : ℕ) → reaches (end_within net lid (suc count) home) ≡ true
  reached_at_home count =
      let here : reaches (Some (turns.Arrives end)) ≡ true = rw (same_itself end) refl in
      ap (λ (t : Turn). reaches (then_end (λ n. end_within net lid count n) t)) arrives ∙ here

  used_within : (count place : ℕ) → is_switch_at net.plan.nodes place ≡ true → (place == home) ≡ false
      → used (way_within net lid count place) ≡ cond (reaches (end_within net lid (suc count) place)) 1 0
  used_within zero place from away =
      none_used [] (λ n on goes. false≢true on)
      ∙ sym
      (ap (λ (b : Bool). cond b 1 0)
      (nothing_ends (λ next. end_within net lid 0 next) (turn net lid place) (λ next. refl) (not_here place (turn net lid place) away refl)))
  used_within (suc count) place from away = by (turn net lid place) refl (λ next is off. used_within count next is off)
    where
      by : (turned : Turn) → turn net lid place ≡ turned
          → ((next : ℕ) → is_switch_at net.plan.nodes next ≡ true → (next == home) ≡ false
          → used (way_within net lid count next) ≡ cond (reaches (end_within net lid (suc count) next)) 1 0)
          → used (place ∷ then_on (λ n. way_within net lid count n) turned) ≡ cond (reaches (then_end (λ n. end_within net lid (suc count) n) turned)) 1 0
      by (turns.Goes next) is further = elim (cases_Bool (next == home)) [
        | inl here ↦
            let same : next ≡ home = eqb-true next home here in
            let goes : GoesTo net lid place home = is ∙ ap (λ (n : ℕ). turns.Goes n) same in
            subst (λ (n : ℕ). used (place ∷ way_within net lid count n) ≡ cond (reaches (end_within net lid (suc count) n)) 1 0) (sym same)
            (home_is_next place count from goes ∙ sym (ap (λ (b : Bool). cond b 1 0) (reached_at_home count)))
        | inr other ↦ home_is_further place next count is other ∙ further next (turn_goes net lid place next is) other
      ]
      by (turns.Arrives there) is further = stops_here place (turns.Arrives there) away is (λ next e. cc)
      by turns.Hole is further = stops_here place turns.Hole away is (λ next e. cc)
      by (turns.Nowhere number) is further = stops_here place (turns.Nowhere number) away is (λ next e. cc)
      by turns.Unknown is further = stops_here place turns.Unknown away is (λ next e. cc)

  abbrev arrives_from : ℕ → Bool
  arrives_from place = not (place == home) && reaches (end_within net lid (switch_total net) place)

  used_from : (place : ℕ) → is_switch_at net.plan.nodes place ≡ true → used (way net lid place) ≡ cond (arrives_from place) 1 0
  used_from place from = elim (cases_Bool (place == home)) [
    | inl here ↦
        ap (λ (n : ℕ). used (way net lid n)) (eqb-true place home here) ∙ none_from_home (switch_total net)
        ∙ sym (ap (λ (b : Bool). cond (not b && reaches (end_within net lid (switch_total net) place)) 1 0) here)
    | inr away ↦
        used_within (switch_total net) place from away ∙ ap (λ (o : Option Turn). cond (reaches o) 1 0) (settled_end net lid place from)
        ∙ sym (ap (λ (b : Bool). cond (not b && reaches (end_within net lid (switch_total net) place)) 1 0) away)
  ]

  -- ---- all pairs
  abbrev leaves_over : Pair → ℕ
  leaves_over pair = ports_used net (last_channels net home) pair

  abbrev comes : Pair → ℕ
  comes pair = cond (arrives_over net home pair) 1 0

  of_pair : (source : PortRef) (place : ℕ) → is_switch_at net.plan.nodes place ≡ true
      → leaves_over (record { source = source; place = place; lid = lid; end = end }) ≡ cond (arrives_from place) 1 0
  of_pair source place from =
      of_kept (λ at. goes_over net at (record { source = source; place = place; lid = lid; end = end })) (λ at. leads_to net at home) (channels net)
      ∙ used_from place from

  of_source : (talk : PortRef → PortRef → Bool) (place : ℕ) → is_switch_at net.plan.nodes place ≡ true → (source : PortRef)
      → sum_by leaves_over (pair_from talk lid end place source) ≡ sum_by comes (pair_from talk lid end place source)
  of_source talk place from source = elim (cases_Bool (sends talk source end)) [
    | inl sending ↦ rw sending
        (sum_by-cons leaves_over (record { source = source; place = place; lid = lid; end = end }) [] ∙ ap (λ (n : ℕ). n + 0) (of_pair source place from)
        ∙ sym (sum_by-cons comes (record { source = source; place = place; lid = lid; end = end }) []))
    | inr silent ↦ rw silent refl
  ]

  abbrev pairs_at : (talk : PortRef → PortRef → Bool) → (place : ℕ) → List Pair
  pairs_at talk place = pairs_in talk lid end (entrance net place)

  of_all : (talk : PortRef → PortRef → Bool) → sum_by leaves_over (flat_map (pairs_at talk) (switches net.plan.nodes))
      ≡ sum_by comes (flat_map (pairs_at talk) (switches net.plan.nodes))
  of_all talk =
      sum_flat leaves_over (pairs_at talk) (switches net.plan.nodes)
      ∙ sum_kept (λ place. sum_by leaves_over (pairs_at talk place)) (λ place. sum_by comes (pairs_at talk place)) (is_switch_at net.plan.nodes)
      (range_with_len 0 (length net.plan.nodes))
      (λ place from. sum_lists leaves_over comes (pair_from talk lid end place) (entrance net place).ports (of_source talk place from))
      ∙ sym (sum_flat comes (pairs_at talk) (switches net.plan.nodes))

  of_pairs : (talk : PortRef → PortRef → Bool) → sum_by leaves_over (pairs_of net talk lid end) ≡ sum_by comes (pairs_of net talk lid end)
  of_pairs talk = elim (cases_Bool (is_host net.plan end.node)) [
    | inl host ↦
        let all = flat_map-map (pairs_in talk lid end) (entrance net) (switches net.plan.nodes) in
        rw host (ap (sum_by leaves_over) all ∙ of_all talk ∙ sym (ap (sum_by comes) all))
    | inr other ↦ rw other refl
  ]

pub last_links_carry_what_arrives : LastLinksCarryWhatArrives
last_links_carry_what_arrives net talk lid home end cables arrives =
    loads_add_up net (pairs_of net talk lid end) (last_channels net home) ∙ of_pairs net lid home end cables arrives talk
