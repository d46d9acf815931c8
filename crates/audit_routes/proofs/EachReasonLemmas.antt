-- Each reason of a verdict has a line that says where.
use Rattle.std.proofs.Common.{◌≡◌, ◌∙◌, ◌⊎◌, inl, inr, ap, refl, subst, sym, ℕ, zero, suc, Bool, true, false, not, ◌==◌, ◌&&◌, ◌||◌, if◌then◌else◌, List, [], ◌∷◌, ◌++◌, codes, decimal, filter, flat_map, length, map, slice_get, arith, Option, Some, None, is_none, is_some, option_map}
use Rattle.std.specs.List.{list_all, list_any}
use Rattle.std.specs.Option.{option_and_then, option_map_or, option_or}
use Rattle.std.specs.Str.Iter.{HasSubslice}
use Rattle.std.proofs.lemmas.Bool.{and_from, and_parts, cases_Bool, false≢true, or_cases, or_left, or_parts, or_right}
use Rattle.std.proofs.lemmas.Bool.Decides.{nat_tests}
use Rattle.std.proofs.lemmas.List.Folds.{list_any-append}
use Rattle.std.proofs.lemmas.Map.Keys.{any_passes_from_place}
use Rattle.std.proofs.lemmas.Option.{none-some, same_Some, slice_get-map}
use Rattle.dump_file.specs.Destination.{guid_said}
use Rattle.dump_file.specs.Row.{end_of, said_of}
use Rattle.dump_file.specs.Table.{place_of, rows_of}
use Rattle.dump_file.specs.declared.destination.Destination.{Destination}
use Rattle.dump_file.specs.declared.destination.Destination.TheVariants.{ChannelAdapter, Switch, Router, FurtherLid, Nobody, NotReported}
use Rattle.dump_file.specs.declared.row.Row.{Row}
use Rattle.dump_file.specs.declared.table.Table.{Table}
use Rattle.fabric_parts.specs.Cable.{ends_at, is_same_port}
use Rattle.fabric_parts.specs.declared.cable.Cable.{Cable}
use Rattle.fabric_parts.specs.declared.cable.PortRef.{PortRef}
use Rattle.text_words.specs.Parts.{guid_text}
use Rattle.topo_file.specs.Connectivity.{switches}
use Rattle.topo_file.specs.Node.{is_switch_at}
use Rattle.topo_file.specs.declared.node.Node.{Node}
use Rattle.audit_net.specs.declared.following.Fate.{Fate}
use Rattle.audit_net.specs.declared.following.Fate.TheVariants as fates
use Rattle.audit_net.specs.declared.following.Turn.{Turn}
use Rattle.audit_net.specs.declared.following.Turn.TheVariants as turns
use Rattle.audit_plan.specs.Attached.{carries_host}
use Rattle.audit_net.specs.Following.{end_from, fate, fate_by, switch_total, turn}
use Rattle.audit_net.specs.Laws.{IsWay}
use Rattle.audit_net.specs.Net.{NetState, has_table, row_at, row_of, table_at, table_of}
use Rattle.audit_net.proofs.EndlessLemmas.{turn_goes, way_there}
use Rattle.audit_plan.proofs.PlaceLemmas.{in_kept, is_listed}
use Rattle.audit_plan.specs.Plan.{is_host}
use Rattle.audit_plan.proofs.SubsliceLemmas.{stands_behind, stands_itself, stands_longer, stands_of_all}
use Rattle.audit_net.specs.declared.lids.Aim.{Aim}
use Rattle.audit_net.specs.OwnerLaws.{end_port_of}
use Rattle.audit_net.specs.Lids.{aim_of, aims, has_lid, have_lids, is_lacking, is_of_fabric, known_lids, owner_of, reported_end, says_of_fabric}
use Rattle.audit_routes.specs.declared.pairs.Pair.{Pair}
use Rattle.audit_routes.specs.Audit.{closing_words, port_word, ring_line}
use Rattle.audit_routes.specs.Loops.{credit_loop}
use Rattle.audit_routes.specs.Deciding.{is_entered, is_hosts, lacking_entries, lacks_entry, losers, unknown_line, unreached_line}
use Rattle.audit_routes.specs.Laws.{CarriesAHost, EachReasonHasItsLine, HasNoLidLine, HasNoPortLine, HasNoSwitchLine, HasNoSwitchesLine, HasNoTableLine, HasUnknownLine, HasUnreachedLine, IsLostFrom, ReasonsHaveLines, other_lids, verdict_of}
use Rattle.audit_routes.specs.Lines.{goes_to, is_fed, lacking_line, lid_text, name_text, no_lid_line, no_lid_lines, no_port_line, no_switch_line, no_table_line, port_text}
use Rattle.audit_routes.specs.Pairs.{between_hosts, is_between_hosts, is_fate, pair_at, pair_to, pairs_at, pairs_by}
use Rattle.audit_routes.specs.Verdict.{goes_on_known, have_tables, is_known, is_lost_by, is_others, is_unknown, knows_all, knows_next}
use Rattle.audit_routes.proofs.CarriesLemmas.{carried}
use Rattle.audit_routes.proofs.DecidingLemmas.{aim_there, in_losers, index_of, is_in, is_lost_from, is_there, line_begins, stands_in, switch_back}
use Rattle.audit_routes.proofs.PrintedLemmas.{in_ring, in_unknown, in_unreached, lid_printed, none_printed, port_printed, switch_printed, table_printed, text}
use Rattle.audit_routes.proofs.ReportedLemmas.{in_mapped, itself, unknown_is}
use Rattle.audit_routes.proofs.SafeLemmas.{flat_mapped, has_end, is_listed_lid}
use Rattle.audit_routes.proofs.TroubleLemmas.{fed_there}

-- ---- what not all are, one is not
record Fails {X : Type 0} (p : X → Bool) (xs : List X) : Type 0 where
  pub index : ℕ
  pub one : X
  pub there : slice_get xs index ≡ Some one
  pub fails : p one ≡ false

one_fails : {X : Type 0} (p : X → Bool) (xs : List X) → list_all p xs ≡ false → Fails p xs
one_fails p [] none = absurd (false≢true (sym none))
one_fails p (x ∷ xs) none = elim (cases_Bool (p x)) [
  | inr here ↦ record { index = 0; one = x; there = refl; fails = here }
  | inl passes ↦
      let later = one_fails p xs (rw passes at none) in
      record { index = suc later.index; one = later.one; there = later.there; fails = later.fails }
]

record Passes {X : Type 0} (p : X → Bool) (xs : List X) : Type 0 where
  pub index : ℕ
  pub one : X
  pub there : slice_get xs index ≡ Some one
  pub is : p one ≡ true

one_passes : {X : Type 0} (p : X → Bool) (xs : List X) → list_any p xs ≡ true → Passes p xs
one_passes p [] some = absurd (false≢true some)
one_passes p (x ∷ xs) some = elim (cases_Bool (p x)) [
  | inl here ↦ record { index = 0; one = x; there = refl; is = here }
  | inr fails ↦
      let later = one_passes p xs (rw fails at some) in
      record { index = suc later.index; one = later.one; there = later.there; is = later.is }
]

either_fails : (a b : Bool) → (a && b) ≡ false → (a ≡ false) ⊎ (b ≡ false)
either_fails false b is = inl refl
either_fails true b is = inr is

was_so : (b : Bool) → not b ≡ false → b ≡ true
was_so true is = refl
was_so false is = absurd (false≢true (sym is))

-- ---- a line of a switch without a table
no_table_shown : (whole : Bool) (net : NetState) (place : ℕ) → is_switch_at net.plan.nodes place ≡ true → table_at net place ≡ None
    → HasNoTableLine net (text whole net)
no_table_shown whole net place switch none =
    let at = index_of (switches net.plan.nodes) place (is_listed net.plan.nodes place switch) in
    let said : no_table_line net place ≡ codes "no-table " ++ name_text net place ++ 10 ∷ [] =
    ap (λ (o : Option Table). if is_none o then codes "no-table " ++ name_text net place ++ 10 ∷ [] else []) none in
    record {
      place = place;
      switch = switch;
      none = none;
      line = subst (HasSubslice (text whole net)) said (table_printed whole net at.0 place at.1);
    }

-- ---- a port of an adapter has no LID
no_lid_there : (whole : Bool) (net : NetState) (index : ℕ) (cable : Cable) (end : PortRef) → slice_get net.plan.cables index ≡ Some cable → ends_at end cable ≡ true
    → has_lid net (aims net) end ≡ false → HasSubslice (no_lid_lines net (aims net) cable) (no_lid_line net (aims net) end)
    → HasNoLidLine net (text whole net)
no_lid_there whole net index cable end there ends lacks part =
    let none = or_parts (is_switch_at net.plan.nodes end.node) _ lacks in
    let said : no_lid_line net (aims net) end ≡ codes "no-lid " ++ port_text net end ++ 10 ∷ [] = rw lacks refl in
    record {
      end = end;
      adapters = (none.0, any_passes_from_place (λ other. ends_at end other) net.plan.cables index cable there ends);
      none = λ lid below is. false≢true (sym none.1 ∙ in_mapped net end lid (known_lids net) (is_listed_lid net lid below (has_end net lid end is))
          (ap (λ (o : Option PortRef). option_map_or (λ at. is_same_port at end) o false) is ∙ itself end));
      line = subst (HasSubslice (text whole net)) said (stands_in (no_lid_lines net (aims net) cable) (no_lid_line net (aims net) end) (lid_printed whole net index cable there) part);
    }

no_lid_shown : (whole : Bool) (net : NetState) → (verdict_of net).has_lids ≡ false → HasNoLidLine net (text whole net)
no_lid_shown whole net none =
    let one = one_fails (have_lids net (aims net)) net.plan.cables none in
    elim (either_fails (has_lid net (aims net) one.one.first) (has_lid net (aims net) one.one.second) one.fails) [
      | inl first ↦ no_lid_there whole net one.index one.one one.one.first one.there (or_left (is_same_port one.one.first one.one.first) _ (itself one.one.first)) first
          (stands_longer _ _ (stands_itself (no_lid_line net (aims net) one.one.first)))
      | inr second ↦ no_lid_there whole net one.index one.one one.one.second one.there (or_right (is_same_port one.one.first one.one.second) _ (itself one.one.second)) second
          (stands_behind _ _ (stands_itself (no_lid_line net (aims net) one.one.second)))
    ]

-- ---- a pair of this fate
split : (p : Pair → Bool) (one other : List Pair) → list_any p (between_hosts (one ++ other)) ≡ true
    → (list_any p (between_hosts one) ≡ true) ⊎ (list_any p (between_hosts other) ≡ true)
split p [] other some = inr some
split p (pair ∷ one) other some = elim (cases_Bool (is_between_hosts pair)) [
  | inr left ↦ rw left (split p one other (rw left at some))
  | inl kept ↦ elim (cases_Bool (p pair)) [
    | inl here ↦ inl (rw (kept, here) refl)
    | inr fails ↦ rw (kept, fails) (split p one other (rw (kept, fails) at some))
  ]
]

record Picked (p : Pair → Bool) (f : ℕ → List Pair) (xs : List ℕ) : Type 0 where
  pub index : ℕ
  pub one : ℕ
  pub there : slice_get xs index ≡ Some one
  pub some : list_any p (between_hosts (f one)) ≡ true

picked : (p : Pair → Bool) (f : ℕ → List Pair) (xs : List ℕ) → list_any p (between_hosts (flat_map f xs)) ≡ true → Picked p f xs
picked p f [] some = absurd (false≢true some)
picked p f (x ∷ xs) some = elim (split p (f x) (flat_map f xs) some) [
  | inl here ↦ record { index = 0; one = x; there = refl; some = here }
  | inr other ↦
      let later = picked p f xs other in
      record { index = suc later.index; one = later.one; there = later.there; some = later.some }
]

record PairOf (net : NetState) (test : Fate → Bool) (place lid : ℕ) (o : Option PortRef) : Type 0 where
  pub end : PortRef
  pub named : o ≡ Some end
  pub host : is_host net.plan end.node ≡ true
  pub carrying : carries_host net.plan place ≡ true
  pub is : test (fate net lid end place) ≡ true

pair_of : (net : NetState) (test : Fate → Bool) (place lid : ℕ) (o : Option PortRef)
    → list_any (λ pair. test pair.fate) (between_hosts (pair_to net place lid o)) ≡ true → PairOf net test place lid o
pair_of net test place lid None some = absurd (false≢true some)
pair_of net test place lid (Some end) some = elim (cases_Bool (is_host net.plan end.node)) [
  | inr other ↦ absurd (false≢true (rw other at some))
  | inl host ↦ elim (cases_Bool (carries_host net.plan place)) [
    | inr other ↦ absurd (false≢true (rw (host, other) at some))
    | inl carrying ↦ elim (cases_Bool (test (fate net lid end place))) [
      | inl is ↦ record { end = end; named = refl; host = host; carrying = carrying; is = is }
      | inr fails ↦ absurd (false≢true (rw (host, carrying, fails) at some))
    ]
  ]
]

record PairThere (net : NetState) (test : Fate → Bool) : Type 0 where
  pub place : ℕ
  pub lid : ℕ
  pub index : ℕ
  pub switch : is_switch_at net.plan.nodes place ≡ true
  pub there : slice_get (aims net) index ≡ Some (aim_of net lid)
  pub pair : PairOf net test place lid (end_port_of net lid)

pair_there : (net : NetState) (test : Fate → Bool) → list_any (λ pair. test pair.fate) (between_hosts (pairs_by net (aims net))) ≡ true → PairThere net test
pair_there net test some =
    let p : Pair → Bool = λ pair. test pair.fate in
    let at = picked p (pairs_at net (aims net)) (switches net.plan.nodes) some in
    let to = picked p (λ n. pair_at net at.one (aim_of net n)) (known_lids net)
    (sym (ap (λ (pairs : List Pair). list_any p (between_hosts pairs)) (flat_mapped (pair_at net at.one) (aim_of net) (known_lids net))) ∙ at.some) in
    record {
      place = at.one;
      lid = to.one;
      index = to.index;
      switch = switch_back net.plan.nodes at.one (is_there (switches net.plan.nodes) at.index at.one at.there);
      there = aim_there net to.index to.one to.there;
      pair = pair_of net test at.one to.one (end_port_of net to.one) to.some;
    }

-- ---- a pair is lost
unreached_there : (whole : Bool) (net : NetState) (lid index place : ℕ) → slice_get (aims net) index ≡ Some (aim_of net lid) → IsLostFrom net lid place
    → HasUnreachedLine net (text whole net)
unreached_there whole net lid index place there lost =
    let aim : Aim = aim_of net lid in
    let places : List ℕ = losers net (aim_of net lid) in
    let part : List ℕ =
    codes "unreached " ++ lid_text net lid (end_port_of net lid) ++ codes " from " ++ decimal (length (losers net (aim_of net lid))) ++ codes " switches:" in
    let begins = line_begins net (codes "unreached ") (codes " from ") aim places place (in_losers net lid place lost) in
    let line : HasSubslice (text whole net) (unreached_line net (aim_of net lid)) =
    in_unreached whole net (unreached_line net aim)
    (stands_of_all (unreached_line net) (unreached_line net aim) (aims net) index aim there (stands_itself (unreached_line net aim))) in
    record { lid = lid; place = place; count = length places; lost = lost; some = begins.0; line = stands_in (unreached_line net aim) part line begins.1 }

unreached_shown : (whole : Bool) (net : NetState) → (verdict_of net).loses ≡ true → HasUnreachedLine net (text whole net)
unreached_shown whole net loses =
    let at = pair_there net is_lost_by loses in
    unreached_there whole net at.lid at.index at.place at.there
    (is_lost_from net at.lid at.place at.pair.end at.switch at.pair.named at.pair.host at.pair.carrying at.pair.is)

-- ---- there is a credit loop
ring_begins : (net : NetState) (all : List Aim) (ring : List PortRef)
    → HasSubslice (ring_line net (codes "deadlock") true all (Some ring)) (codes "deadlock" ++ flat_map (port_word net) ring)
ring_begins net all ring =
    let begun : List ℕ = codes "deadlock" ++ flat_map (port_word net) ring in
    stands_longer begun (10 ∷ []) (stands_longer begun (closing_words net true all ring) (stands_longer begun (codes " by LIDs") (stands_itself begun)))

ring_there : (whole : Bool) (net : NetState) (ring : List PortRef) → credit_loop net (aims net) ≡ Some ring
    → HasSubslice (text whole net) (codes "deadlock" ++ flat_map (port_word net) ring)
ring_there whole net ring is =
    let begun : List ℕ = codes "deadlock" ++ flat_map (port_word net) ring in
    in_ring whole net begun
    (subst (λ (o : Option (List PortRef)). HasSubslice (ring_line net (codes "deadlock") true (filter (is_others net) (aims net)) o) begun) (sym is)
    (ring_begins net (filter (is_others net) (aims net)) ring))

ring_shown : (whole : Bool) (net : NetState) → (verdict_of net).is_free ≡ false
    → (ring : List PortRef) × (credit_loop net (aims net) ≡ Some ring) × HasSubslice (text whole net) (codes "deadlock" ++ flat_map (port_word net) ring)
ring_shown whole net locked = by (credit_loop net (aims net)) refl locked
  where
    by : (o : Option (List PortRef)) → credit_loop net (aims net) ≡ o → is_none o ≡ false
        → (ring : List PortRef) × (credit_loop net (aims net) ≡ Some ring) × HasSubslice (text whole net) (codes "deadlock" ++ flat_map (port_word net) ring)
    by None is none = absurd (false≢true (sym none))
    by (Some ring) is some = (ring, is, ring_there whole net ring is)

-- ---- an entry is unknown
pub sent_from : (net : NetState) (lid place : ℕ) → is_fed net place lid ≡ true
    → (from : ℕ) × (is_switch_at net.plan.nodes from ≡ true) × (turn net lid from ≡ turns.Goes place)
sent_from net lid place fed =
    let one = one_passes (λ other. goes_to place (turn net lid other)) (switches net.plan.nodes) fed in
    (one.one, switch_back net.plan.nodes one.one (is_there (switches net.plan.nodes) one.index one.one one.there), goes (turn net lid one.one) one.is)
  where
    goes : (turned : Turn) → goes_to place turned ≡ true → turned ≡ turns.Goes place
    goes (turns.Goes next) is = let same : next ≡ place = grind (arith, nat_tests, is) in ap (λ (n : ℕ). turns.Goes n) same
    goes (turns.Arrives end) is = absurd (false≢true is)
    goes turns.Hole is = absurd (false≢true is)
    goes (turns.Nowhere number) is = absurd (false≢true is)
    goes turns.Unknown is = absurd (false≢true is)

comes_to : (net : NetState) (lid place : ℕ) → is_switch_at net.plan.nodes place ≡ true → is_entered net (aim_of net lid) place ≡ true
    → CarriesAHost net place ⊎ ((from : ℕ) × (is_switch_at net.plan.nodes from ≡ true) × (turn net lid from ≡ turns.Goes place))
comes_to net lid place switch entered = elim (or_cases (is_hosts net (aim_of net lid) && carries_host net.plan place) (is_fed net place lid) entered) [
  | inl own ↦ inl (carried net place switch (and_parts (is_hosts net (aim_of net lid)) _ own).1)
  | inr fed ↦ inr (sent_from net lid place fed)
]

unknown_there : (whole : Bool) (net : NetState) (lid index place : ℕ) → slice_get (aims net) index ≡ Some (aim_of net lid) → is_others net (aim_of net lid) ≡ true
    → is_switch_at net.plan.nodes place ≡ true → is_some (table_at net place) ≡ true → turn net lid place ≡ turns.Unknown
    → is_entered net (aim_of net lid) place ≡ true → HasUnknownLine net (text whole net)
unknown_there whole net lid index place there others switch has unknown entered =
    let aim : Aim = aim_of net lid in
    let places : List ℕ = lacking_entries net (aim_of net lid) in
    let left : is_unknown (turn net lid place) ≡ true = ap (λ (turned : Turn). is_unknown turned) unknown in
    let both : (is_unknown (turn net lid place) && is_entered net (aim_of net lid) place) ≡ true =
    and_from (is_unknown (turn net lid place)) (is_entered net (aim_of net lid) place) left entered in
    let lacks : lacks_entry net (aim_of net lid) place ≡ true =
    and_from (has_table net place) (is_unknown (turn net lid place) && is_entered net (aim_of net lid) place) has both in
    let kept : lacking_entries net (aim_of net lid) ≡ filter (lacks_entry net (aim_of net lid)) (switches net.plan.nodes) = rw others refl in
    let among : is_in place (lacking_entries net (aim_of net lid)) ≡ true =
    subst (λ (some : List ℕ). is_in place some ≡ true) (sym kept)
    (in_kept (lacks_entry net (aim_of net lid)) place (switches net.plan.nodes) lacks (is_listed net.plan.nodes place switch)) in
    let begins = line_begins net (codes "unknown ") (codes " at ") aim places place among in
    let part : List ℕ =
    codes "unknown " ++ lid_text net lid (end_port_of net lid) ++ codes " at " ++ decimal (length (lacking_entries net (aim_of net lid))) ++ codes " switches:" in
    let line : HasSubslice (text whole net) (unknown_line net (aim_of net lid)) =
    in_unknown whole net (unknown_line net aim)
    (stands_of_all (unknown_line net) (unknown_line net aim) (aims net) index aim there (stands_itself (unknown_line net aim))) in
    record {
      lid = lid;
      place = place;
      count = length places;
      unknown = record { switch = switch; table = has; unknown = unknown; comes = comes_to net lid place switch entered };
      some = begins.0;
      line = stands_in (unknown_line net aim) part line begins.1;
    }

unknown_shown : (whole : Bool) (net : NetState) (lid index place : ℕ) → slice_get (aims net) index ≡ Some (aim_of net lid) → is_others net (aim_of net lid) ≡ true
    → is_switch_at net.plan.nodes place ≡ true → turn net lid place ≡ turns.Unknown → is_entered net (aim_of net lid) place ≡ true
    → HasNoTableLine net (text whole net) ⊎ HasUnknownLine net (text whole net)
unknown_shown whole net lid index place there others switch unknown entered = by (table_at net place) refl
  where
    by : (o : Option Table) → table_at net place ≡ o → HasNoTableLine net (text whole net) ⊎ HasUnknownLine net (text whole net)
    by None is = inl (no_table_shown whole net place switch is)
    by (Some table) is =
        inr (unknown_there whole net lid index place there others switch (ap (λ (o : Option Table). is_some o) is) unknown entered)

-- packets of a host come there
record UnknownOn (net : NetState) (lid : ℕ) : Type 0 where
  pub place : ℕ
  pub switch : is_switch_at net.plan.nodes place ≡ true
  pub unknown : turn net lid place ≡ turns.Unknown
  pub entered : is_entered net (aim_of net lid) place ≡ true

follow : (net : NetState) (lid place : ℕ) (way : List ℕ) → is_switch_at net.plan.nodes place ≡ true → is_entered net (aim_of net lid) place ≡ true
    → IsWay net lid place way turns.Unknown → UnknownOn net lid
follow net lid place [] switch entered is = record { place = place; switch = switch; unknown = is.0; entered = entered }
follow net lid place (next ∷ rest) switch entered is =
    follow net lid next rest (turn_goes net lid place next is.0) (or_right (is_hosts net (aim_of net lid) && carries_host net.plan next) _ (fed_there net lid place next switch is.0)) is.1

unknown_by : (end : PortRef) (o : Option Turn) → is_fate fates.Unknown (fate_by end o) ≡ true → o ≡ Some turns.Unknown
unknown_by end None is = absurd (false≢true is)
unknown_by end (Some (turns.Goes next)) is = absurd (false≢true is)
unknown_by end (Some turns.Hole) is = absurd (false≢true is)
unknown_by end (Some (turns.Nowhere number)) is = absurd (false≢true is)
unknown_by end (Some turns.Unknown) is = refl
unknown_by end (Some (turns.Arrives there)) is = elim (cases_Bool (is_same_port there end)) [
  | inl same ↦ absurd (false≢true (rw same at is))
  | inr apart ↦ absurd (false≢true (rw apart at is))
]

pair_unknown_shown : (whole : Bool) (net : NetState) → (verdict_of net).lacks_entries ≡ true → HasNoTableLine net (text whole net) ⊎ HasUnknownLine net (text whole net)
pair_unknown_shown whole net lacks =
    let at = pair_there net (λ found. is_fate fates.Unknown found) lacks in
    let way = way_there net at.lid (switch_total net) at.place turns.Unknown (unknown_by at.pair.end (end_from net at.lid at.place) at.pair.is) in
    let hosts : is_hosts net (aim_of net at.lid) ≡ true =
    ap (λ (o : Option PortRef). option_map_or (λ (p : PortRef). is_host net.plan p.node) o false) at.pair.named ∙ at.pair.host in
    let entered = or_left (is_hosts net (aim_of net at.lid) && carries_host net.plan at.place) (is_fed net at.place at.lid)
    (and_from (is_hosts net (aim_of net at.lid)) _ hosts at.pair.carrying) in
    let on = follow net at.lid at.place way.0 at.switch entered way.1 in
    let others : is_others net (aim_of net at.lid) ≡ true =
    ap (λ (o : Option PortRef). not (option_map_or (λ (p : PortRef). is_switch_at net.plan.nodes p.node) o false)) at.pair.named
    ∙ (and_parts (not (is_switch_at net.plan.nodes at.pair.end.node)) _ at.pair.host).0 in
    unknown_shown whole net at.lid at.index on.place at.there others on.switch on.unknown on.entered

-- a LID goes on to an entry that is unknown
record FailsKept (p : ℕ → Bool) (q : Aim → Bool) (xs : List Aim) : Type 0 where
  pub index : ℕ
  pub one : Aim
  pub there : slice_get xs index ≡ Some one
  pub keeps : q one ≡ true
  pub fails : p one.lid ≡ false

kept_fails : (p : ℕ → Bool) (q : Aim → Bool) (xs : List Aim) → list_all p (map (λ aim. aim.lid) (filter q xs)) ≡ false → FailsKept p q xs
kept_fails p q [] none = absurd (false≢true (sym none))
kept_fails p q (x ∷ xs) none = elim (cases_Bool (q x)) [
  | inr drops ↦
      let later = kept_fails p q xs (rw drops at none) in
      record { index = suc later.index; one = later.one; there = later.there; keeps = later.keeps; fails = later.fails }
  | inl keeps ↦ elim (cases_Bool (p x.lid)) [
    | inr here ↦ record { index = 0; one = x; there = refl; keeps = keeps; fails = here }
    | inl passes ↦
        let later = kept_fails p q xs (rw (keeps, passes) at none) in
        record { index = suc later.index; one = later.one; there = later.there; keeps = later.keeps; fails = later.fails }
  ]
]

-- one of the LIDs is that of a known one
of_known : (net : NetState) (index : ℕ) (aim : Aim) → slice_get (aims net) index ≡ Some aim → aim ≡ aim_of net aim.lid
of_known net index aim there = by (slice_get (known_lids net) index) refl
  where
    by : (o : Option ℕ) → slice_get (known_lids net) index ≡ o → aim ≡ aim_of net aim.lid
    by None is = absurd (none-some aim (sym (slice_get-map (aim_of net) (known_lids net) index ∙ ap (option_map (aim_of net)) is) ∙ there))
    by (Some lid) is =
        let same : aim_of net lid ≡ aim = same_Some (aim_of net lid) aim (sym (aim_there net index lid is) ∙ there) in
        sym same ∙ ap (λ (one : Aim). aim_of net one.lid) same

goes_on : (net : NetState) (lid : ℕ) (turned : Turn) → goes_on_known net lid turned ≡ false
    → (next : ℕ) × (turned ≡ turns.Goes next) × (turn net lid next ≡ turns.Unknown)
goes_on net lid (turns.Goes next) is = elim (cases_Bool (is_unknown (turn net lid next))) [
  | inl unknown ↦ (next, refl, unknown_is (turn net lid next) unknown)
  | inr known ↦ absurd (false≢true (sym is ∙ ap not known))
]
goes_on net lid (turns.Arrives end) is = absurd (false≢true (sym is))
goes_on net lid turns.Hole is = absurd (false≢true (sym is))
goes_on net lid (turns.Nowhere number) is = absurd (false≢true (sym is))
goes_on net lid turns.Unknown is = absurd (false≢true (sym is))

entry_unknown_shown : (whole : Bool) (net : NetState) → (verdict_of net).is_known ≡ false → HasNoTableLine net (text whole net) ⊎ HasUnknownLine net (text whole net)
entry_unknown_shown whole net unknown =
    let at = one_fails (knows_all net (other_lids net)) (switches net.plan.nodes) unknown in
    let to = kept_fails (knows_next net at.one) (is_others net) (aims net) at.fails in
    let same = of_known net to.index to.one to.there in
    let next = goes_on net to.one.lid (turn net to.one.lid at.one) to.fails in
    let switch = switch_back net.plan.nodes at.one (is_there (switches net.plan.nodes) at.index at.one at.there) in
    unknown_shown whole net to.one.lid to.index next.0 (to.there ∙ ap (λ (aim : Aim). Some aim) same) (sym (ap (is_others net) same) ∙ to.keeps)
    (turn_goes net to.one.lid at.one next.0 next.1) next.2
    (or_right (is_hosts net (aim_of net to.one.lid) && carries_host net.plan next.0) _ (fed_there net to.one.lid at.one next.0 switch next.1))

entries_shown : (whole : Bool) (net : NetState) → ((verdict_of net).is_known && not (verdict_of net).lacks_entries) ≡ false
    → HasNoTableLine net (text whole net) ⊎ HasUnknownLine net (text whole net)
entries_shown whole net unknown = elim (either_fails (verdict_of net).is_known (not (verdict_of net).lacks_entries) unknown) [
  | inl entry ↦ entry_unknown_shown whole net entry
  | inr pair ↦ pair_unknown_shown whole net (was_so (verdict_of net).lacks_entries pair)
]

-- ---- the dump and the fabric name others
-- what a row says of the LID, some row says
abbrev says : ℕ → Row → Bool
says lid row = is_some (said_of lid row)

end_said : (lid : ℕ) (rows : List Row) → list_any (says lid) rows ≡ true → is_some (end_of lid rows) ≡ true
end_said lid [] some = absurd (false≢true some)
end_said lid (row ∷ rows) some = by (said_of lid row) some (λ later. end_said lid rows later)
  where
    by : (o : Option ℕ) → (is_some o || list_any (says lid) rows) ≡ true → (list_any (says lid) rows ≡ true → is_some (end_of lid rows) ≡ true)
        → is_some (option_or o (end_of lid rows)) ≡ true
    by (Some guid) some more = refl
    by None some more = more some

row_says : (lid : ℕ) (rows : List Row) (row : Row) → row_of lid rows ≡ Some row → is_of_fabric row.destination ≡ true → list_any (says lid) rows ≡ true
row_says lid [] row is named = cc
row_says lid (first ∷ rows) row is named = elim (cases_Bool (first.lid == lid)) [
  | inl here ↦
      let same : first ≡ row = same_Some first row (rw here at is) in
      let said : says lid first ≡ true = rw here (guid_there first.destination (ap (λ (r : Row). is_of_fabric r.destination) same ∙ named)) in
      or_left (says lid first) _ said
  | inr other ↦ or_right (says lid first) _ (row_says lid rows row (rw other at is) named)
]
  where
    guid_there : (destination : Destination) → is_of_fabric destination ≡ true → is_some (guid_said destination) ≡ true
    guid_there (ChannelAdapter guid) is = refl
    guid_there (Switch guid) is = refl
    guid_there (Router guid) is = absurd (false≢true is)
    guid_there (FurtherLid guid) is = absurd (false≢true is)
    guid_there Nobody is = absurd (false≢true is)
    guid_there NotReported is = absurd (false≢true is)

in_all_rows : (p : Row → Bool) (k : ℕ) (tables : List Table) (table : Table) → slice_get tables k ≡ Some table → list_any p table.rows ≡ true → list_any p (rows_of tables) ≡ true
in_all_rows p k [] table there some = absurd (none-some table there)
in_all_rows p zero (first ∷ tables) table there some =
    let same : first ≡ table = same_Some first table there in
    list_any-append p first.rows (rows_of tables) ∙ or_left (list_any p first.rows) _ (ap (λ (one : Table). list_any p one.rows) same ∙ some)
in_all_rows p (suc k) (first ∷ tables) table there some =
    list_any-append p first.rows (rows_of tables) ∙ or_right (list_any p first.rows) _ (in_all_rows p k tables table there some)

table_says : (lid : ℕ) (row : Row) (tables : List Table) (o : Option ℕ) → option_and_then (λ table. row_of lid table.rows) (option_and_then (λ k. slice_get tables k) o) ≡ Some row
    → is_of_fabric row.destination ≡ true → list_any (says lid) (rows_of tables) ≡ true
table_says lid row tables None is named = cc
table_says lid row tables (Some k) is named = by (slice_get tables k) refl is
  where
    by : (o : Option Table) → slice_get tables k ≡ o → option_and_then (λ table. row_of lid table.rows) o ≡ Some row → list_any (says lid) (rows_of tables) ≡ true
    by None there found = cc
    by (Some table) there found = in_all_rows (says lid) k tables table there (row_says lid table.rows row found named)

says_at : (net : NetState) (place lid : ℕ) → says_of_fabric net lid place ≡ true → list_any (says lid) (rows_of net.dump.tables) ≡ true
says_at net place lid is = by (row_at net lid place) refl is
  where
    at_node : (row : Row) (o : Option Node) → option_and_then (λ table. row_of lid table.rows) (option_and_then (λ (node : Node). table_of node.guid net.dump.tables) o) ≡ Some row
        → is_of_fabric row.destination ≡ true → list_any (says lid) (rows_of net.dump.tables) ≡ true
    at_node row None found named = cc
    at_node row (Some node) found named = table_says lid row net.dump.tables (place_of node.guid net.dump.tables) found named

    by : (o : Option Row) → row_at net lid place ≡ o → option_map_or (λ row. is_of_fabric row.destination) o false ≡ true → list_any (says lid) (rows_of net.dump.tables) ≡ true
    by None found named = absurd (false≢true named)
    by (Some row) found named = at_node row (slice_get net.plan.nodes place) found named

no_port_shown : (whole : Bool) (net : NetState) (index : ℕ) (aim : Aim) → slice_get (aims net) index ≡ Some aim → is_lacking net aim ≡ true → HasNoPortLine net (text whole net)
no_port_shown whole net index aim there lacks =
    by (end_of aim.lid (rows_of net.dump.tables)) refl (end_said aim.lid (rows_of net.dump.tables) (says_at net row.one aim.lid row.is))
  where
    same : aim ≡ aim_of net aim.lid
    same = of_known net index aim there

    parts : (is_none aim.end ≡ true) × (list_any (says_of_fabric net aim.lid) (switches net.plan.nodes) ≡ true)
    parts = and_parts (is_none aim.end) _ lacks

    row : Passes (says_of_fabric net aim.lid) (switches net.plan.nodes)
    row = one_passes (says_of_fabric net aim.lid) (switches net.plan.nodes) parts.1

    no_end : (o : Option PortRef) → is_none o ≡ true → o ≡ None
    no_end None is = refl
    no_end (Some end) is = absurd (false≢true is)

    line_of : (guid : ℕ) → aim.guid ≡ Some guid → no_port_line aim ≡ codes "no-port " ++ decimal aim.lid ++ codes " " ++ guid_text guid ++ 10 ∷ []
    line_of guid is = let kept : no_port_line aim ≡ lacking_line aim.lid aim.guid = rw parts.0 refl in kept ∙ ap (lacking_line aim.lid) is

    by : (o : Option ℕ) → end_of aim.lid (rows_of net.dump.tables) ≡ o → is_some o ≡ true → HasNoPortLine net (text whole net)
    by None is some = absurd (false≢true some)
    by (Some guid) is some =
        let owner : owner_of net aim.lid ≡ Some guid = ap (λ (o : Option ℕ). option_or o (reported_end net aim.lid)) is in
        let aims_guid : aim.guid ≡ Some guid = ap (λ (one : Aim). one.guid) same ∙ owner in
        record {
          lid = aim.lid;
          guid = guid;
          said = owner;
          none = sym (ap (λ (one : Aim). one.end) same) ∙ no_end aim.end parts.0;
          line = subst (HasSubslice (text whole net)) (line_of guid aims_guid) (port_printed whole net index aim there);
        }

no_switch_shown : (whole : Bool) (net : NetState) (index : ℕ) (table : Table) → slice_get net.dump.tables index ≡ Some table → is_known net table ≡ false
    → HasNoSwitchLine net (text whole net)
no_switch_shown whole net index table there unknown =
    let said : no_switch_line net table ≡ codes "no-switch " ++ guid_text table.guid ++ 10 ∷ [] = rw unknown refl in
    record {
      index = index;
      table = table;
      there = there;
      none = unknown;
      line = subst (HasSubslice (text whole net)) said (switch_printed whole net index table there);
    }

-- without tables no switch has one
abbrev NamesOther : NetState → List ℕ → Type 0
NamesOther net lines = HasNoTableLine net lines ⊎ (HasNoSwitchesLine net lines ⊎ (HasNoSwitchLine net lines ⊎ HasNoPortLine net lines))

not_empty : (tables : List Table) → not (length tables == 0) ≡ false → tables ≡ []
not_empty [] is = refl
not_empty (table ∷ tables) is =
    let more : (suc (length tables) == 0) ≡ false = grind (arith, nat_tests) in
    absurd (false≢true (sym is ∙ ap not more))

none_there : (net : NetState) (place : ℕ) → net.dump.tables ≡ [] → table_at net place ≡ None
none_there net place none = by (slice_get net.plan.nodes place)
  where
    by : (o : Option Node) → option_and_then (λ (node : Node). table_of node.guid net.dump.tables) o ≡ None
    by None = refl
    by (Some node) = ap (λ (tables : List Table). table_of node.guid tables) none

no_tables_shown : (whole : Bool) (net : NetState) → net.dump.tables ≡ [] → NamesOther net (text whole net)
no_tables_shown whole net none = by (switches net.plan.nodes) refl
  where
    by : (places : List ℕ) → switches net.plan.nodes ≡ places → NamesOther net (text whole net)
    by [] is = inr (inl (is, none_printed whole net is))
    by (place ∷ places) is =
        let first : slice_get (switches net.plan.nodes) 0 ≡ Some place = ap (λ (ps : List ℕ). slice_get ps 0) is in
        let switch = switch_back net.plan.nodes place (is_there (switches net.plan.nodes) 0 place first) in
        inl (no_table_shown whole net place switch (none_there net place none))

no_table_at : (net : NetState) (place : ℕ) → has_table net place ≡ false → table_at net place ≡ None
no_table_at net place none = by (table_at net place) none
  where
    by : (o : Option Table) → is_some o ≡ false → o ≡ None
    by None is = refl
    by (Some table) is = absurd (false≢true (sym is))

tables_shown : (whole : Bool) (net : NetState) → have_tables net ≡ false → NamesOther net (text whole net)
tables_shown whole net lacks = elim (either_fails (list_all (has_table net) (switches net.plan.nodes)) (not (length net.dump.tables == 0)) lacks) [
  | inl some ↦
      let at = one_fails (has_table net) (switches net.plan.nodes) some in
      let switch = switch_back net.plan.nodes at.one (is_there (switches net.plan.nodes) at.index at.one at.there) in
      inl (no_table_shown whole net at.one switch (no_table_at net at.one at.fails))
  | inr none ↦ no_tables_shown whole net (not_empty net.dump.tables none)
]

names_shown : (whole : Bool) (net : NetState) → (verdict_of net).is_same ≡ false → NamesOther net (text whole net)
names_shown whole net other = elim (either_fails (have_tables net) (list_all (is_known net) net.dump.tables && not (list_any (is_lacking net) (aims net))) other) [
  | inl tables ↦ tables_shown whole net tables
  | inr rest ↦ elim (either_fails (list_all (is_known net) net.dump.tables) (not (list_any (is_lacking net) (aims net))) rest) [
    | inl known ↦
        let at = one_fails (is_known net) net.dump.tables known in
        inr (inr (inl (no_switch_shown whole net at.index at.one at.there at.fails)))
    | inr lacks ↦
        let at = one_passes (is_lacking net) (aims net) (was_so (list_any (is_lacking net) (aims net)) lacks) in
        inr (inr (inr (no_port_shown whole net at.index at.one at.there at.is)))
  ]
]

each_has_its_line : (whole : Bool) → EachReasonHasItsLine (text whole)
each_has_its_line whole = record {
  lids = no_lid_shown whole;
  pairs = unreached_shown whole;
  loops = ring_shown whole;
  names = names_shown whole;
  entries = entries_shown whole;
}

pub each_reason_has_its_line : ReasonsHaveLines
each_reason_has_its_line = record { brief = each_has_its_line false; whole = each_has_its_line true }
