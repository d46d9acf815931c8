-- Pairs, counted by the switches from which they come.
use Rattle.std.proofs.Common.{◌≡◌, ◌∙◌, inl, inr, ap, refl, sym, ℕ, suc, ◌+◌, ◌*◌, ◌<◌, ◌≤◌, Bool, true, false, cond, ◌&&◌, List, [], ◌∷◌, ◌++◌, flat_map, get_or, length, take, arith}
use Rattle.std.specs.List.{count_by}
use Rattle.std.proofs.lemmas.Bool.{cases_Bool, cases_lt}
use Rattle.std.proofs.lemmas.List.{flat_map_more, get_or_past, length-append, take_more}
use Rattle.std.proofs.lemmas.List.Sums.{sum_by-append, sum_by-cons}
use Rattle.fabric_parts.specs.Cable.{port}
use Rattle.fabric_parts.specs.declared.cable.PortRef.{PortRef}
use Rattle.audit_net.specs.declared.entry.Entry.{Entry}
use Rattle.audit_loops.specs.Channels.{is_out, leaves_by}
use Rattle.audit_net.specs.Net.{NetState}
use Rattle.audit_net.proofs.LookupLemmas.{no_entry}
use Rattle.audit_net.specs.declared.following.Fate.{Fate}
use Rattle.audit_net.specs.declared.following.Fate.TheVariants as fates
use Rattle.audit_net.specs.Following.{fate}
use Rattle.audit_routes.specs.Pairs.{is_fate}
use Rattle.audit_loads.specs.Counts.{counted_by, counts_of, plus}
use Rattle.audit_loads.specs.declared.counting.Counts.{Counts}
use Rattle.audit_loads.specs.Sources.{Entrance, Pair, pair_from, pairs_in, sends}
use Rattle.audit_loads.specs.Walk.{of_pairs, on_way, senders, AreSums, GrowBy, HasSums}
use Rattle.audit_net.specs.Ways.{way}
use Rattle.audit_plan.specs.Plan.{is_on}
use Rattle.audit_routes.specs.Verdict.{is_lost_by}
use Rattle.audit_loads.specs.Ways.{goes_over, is_lost, is_unknown}
use Rattle.audit_loads.proofs.SumLemmas.{grow_on, grow_same}

abbrev pair_of : (lid : ℕ) → (end : PortRef) → (place : ℕ) → (source : PortRef) → Pair
pair_of lid end place source = record { source = source; place = place; lid = lid; end = end }

-- ---- one port more
zero_more : (n : ℕ) → 0 + n ≡ n
zero_more n = omega arith

none_more : (talk : PortRef → PortRef → Bool) (end source : PortRef) (ports : List PortRef) → sends talk source end ≡ false
    → senders talk end (source ∷ ports) ≡ senders talk end ports
none_more talk end source ports silent =
    sum_by-cons (λ port. cond (sends talk port end) 1 0) source ports ∙ ap (λ (b : Bool). cond b 1 0 + senders talk end ports) silent ∙ zero_more (senders talk end ports)

sender_more : (talk : PortRef → PortRef → Bool) (end source : PortRef) (ports : List PortRef) → sends talk source end ≡ true
    → senders talk end (source ∷ ports) ≡ 1 + senders talk end ports
sender_more talk end source ports sending =
    sum_by-cons (λ port. cond (sends talk port end) 1 0) source ports ∙ ap (λ (b : Bool). cond b 1 0 + senders talk end ports) sending

no_pair : (talk : PortRef → PortRef → Bool) (lid : ℕ) (end : PortRef) (place : ℕ) (source : PortRef) (ports : List PortRef) → sends talk source end ≡ false
    → flat_map (pair_from talk lid end place) (source ∷ ports) ≡ flat_map (pair_from talk lid end place) ports
no_pair talk lid end place source ports silent = rw silent refl

pair_more : (talk : PortRef → PortRef → Bool) (lid : ℕ) (end : PortRef) (place : ℕ) (source : PortRef) (ports : List PortRef) → sends talk source end ≡ true
    → flat_map (pair_from talk lid end place) (source ∷ ports) ≡ pair_of lid end place source ∷ flat_map (pair_from talk lid end place) ports
pair_more talk lid end place source ports sending = rw sending refl

-- ---- those from one switch: all pass the test, or none
one_more : (b : Bool) (n : ℕ) → cond b 1 0 + cond b n 0 ≡ cond b (1 + n) 0
one_more true n = refl
one_more false n = refl

none_none : (b : Bool) (n : ℕ) → n ≡ cond b n n
none_none true n = refl
none_none false n = refl

pub count_pairs : (q : Pair → Bool) (v : Bool) (talk : PortRef → PortRef → Bool) (lid : ℕ) (end : PortRef) (place : ℕ) (ports : List PortRef)
    → ((source : PortRef) → q (pair_of lid end place source) ≡ v)
    → count_by q (flat_map (pair_from talk lid end place) ports) ≡ cond v (senders talk end ports) 0
count_pairs q v talk lid end place [] same = none_none v 0
count_pairs q v talk lid end place (source ∷ ports) same = elim (cases_Bool (sends talk source end)) [
  | inr silent ↦
      ap (count_by q) (no_pair talk lid end place source ports silent) ∙ count_pairs q v talk lid end place ports same
      ∙ ap (λ (n : ℕ). cond v n 0) (sym (none_more talk end source ports silent))
  | inl sending ↦
      ap (count_by q) (pair_more talk lid end place source ports sending)
      ∙ sum_by-cons (λ pair. cond (q pair) 1 0) (pair_of lid end place source) (flat_map (pair_from talk lid end place) ports)
      ∙ ap (λ (b : Bool). cond b 1 0 + count_by q (flat_map (pair_from talk lid end place) ports)) (same source)
      ∙ ap (λ (n : ℕ). cond v 1 0 + n) (count_pairs q v talk lid end place ports same)
      ∙ one_more v (senders talk end ports)
      ∙ ap (λ (n : ℕ). cond v n 0) (sym (sender_more talk end source ports sending))
]

pub length_pairs : (talk : PortRef → PortRef → Bool) (lid : ℕ) (end : PortRef) (place : ℕ) (ports : List PortRef)
    → length (flat_map (pair_from talk lid end place) ports) ≡ senders talk end ports
length_pairs talk lid end place [] = refl
length_pairs talk lid end place (source ∷ ports) = elim (cases_Bool (sends talk source end)) [
  | inr silent ↦
      ap (λ (pairs : List Pair). length pairs) (no_pair talk lid end place source ports silent) ∙ length_pairs talk lid end place ports
      ∙ sym (none_more talk end source ports silent)
  | inl sending ↦
      let rest = length_pairs talk lid end place ports in
      let more = sender_more talk end source ports sending in
      let long : suc (length (flat_map (pair_from talk lid end place) ports)) ≡ senders talk end (source ∷ ports) = omega (arith, rest, more) in
      ap (λ (pairs : List Pair). length pairs) (pair_more talk lid end place source ports sending) ∙ long
]

-- ---- what their walk adds is theirs
pub walk_is : (net : NetState) (talk : PortRef → PortRef → Bool) (lid : ℕ) (end : PortRef) (one : Entrance) (weight : ℕ) (before after : List ℕ) → weight ≡ senders talk end one.ports
    → GrowBy (on_way net lid one.place weight) before after → GrowBy (of_pairs net (pairs_in talk lid end one)) before after
walk_is net talk lid end one weight before after is grown =
    grow_same (on_way net lid one.place weight) (of_pairs net (pairs_in talk lid end one)) before after
    (λ place number _ _.
    ap (λ (n : ℕ). on_way net lid one.place n place number) is
    ∙ sym (count_pairs (goes_over net (port place number)) (is_on place (way net lid one.place) && leaves_by net (port place number) lid) talk lid end one.place one.ports (λ source. refl)))
    grown

pub none_is : (net : NetState) (talk : PortRef → PortRef → Bool) (lid : ℕ) (end : PortRef) (one : Entrance) (sums : List ℕ) → senders talk end one.ports ≡ 0 → GrowBy (of_pairs net (pairs_in talk lid end one)) sums sums
none_is net talk lid end one sums none = record {
  long = refl;
  each = λ place number within low.
      let on = is_on place (way net lid one.place) && leaves_by net (port place number) lid in
      let nothing : of_pairs net (pairs_in talk lid end one) place number ≡ 0 =
      count_pairs (goes_over net (port place number)) on talk lid end one.place one.ports (λ source. refl) ∙ ap (λ (n : ℕ). cond on n 0) none ∙ sym (none_none on 0) in
      omega (arith, nothing);
}

-- ---- pairs of one more of a list
pub pairs_more : (net : NetState) (pairs : Entrance → List Pair) (all : List Entrance) (index : ℕ) (one none : Entrance) (before mid after : List ℕ) → index < length all
    → get_or all index none ≡ one → GrowBy (of_pairs net (flat_map pairs (take index all))) before mid → GrowBy (of_pairs net (pairs one)) mid after
    → GrowBy (of_pairs net (flat_map pairs (take (index + 1) all))) before after
pairs_more net pairs all index one none before mid after within here first second =
    let some = take index all in
    let joined : flat_map pairs some ++ pairs one ≡ flat_map pairs (take (index + 1) all) =
    flat_map_more pairs [] some one ∙ ap (λ (last : Entrance). flat_map pairs (some ++ last ∷ [])) (sym here) ∙ ap (flat_map pairs) (sym (take_more all index none within)) in
    grow_on (of_pairs net (flat_map pairs some)) (of_pairs net (pairs one)) (of_pairs net (flat_map pairs (take (index + 1) all))) before mid after
    (λ place number _ _.
    sym (sum_by-append (λ pair. cond (goes_over net (port place number) pair) 1 0) (flat_map pairs some) (pairs one))
    ∙ ap (λ (both : List Pair). of_pairs net both place number) joined)
    first second

none_over : (net : NetState) (place number : ℕ) (pairs : List Pair) → length net.plan.nodes ≤ place → of_pairs net pairs place number ≡ 0
none_over net place number [] past = refl
none_over net place number (pair ∷ pairs) past =
    sum_by-cons (λ one. cond (goes_over net (port place number) one) 1 0) pair pairs
    ∙ ap (λ (e : Entry). cond (is_on place (way net pair.lid pair.place) && is_out number e) 1 0 + of_pairs net pairs place number) (no_entry net pair.lid place past)
    ∙ off (is_on place (way net pair.lid pair.place)) (of_pairs net pairs place number) ∙ none_over net place number pairs past
  where
    off : (b : Bool) (n : ℕ) → cond (b && false) 1 0 + n ≡ n
    off true n = omega arith
    off false n = omega arith

-- ---- the sums of some pairs
pub sums_are : (net : NetState) (pairs : List Pair) (sums : List ℕ) → HasSums net pairs sums → AreSums net pairs sums
sums_are net pairs sums has place number low = elim (cases_lt place (length net.plan.nodes)) [
  | inl less ↦
      let long = has.long in
      let within : place * 256 + number < length sums = omega (arith, less, low, long) in
      has.each place number within low
  | inr past ↦
      let long = has.long in
      let beyond : length sums ≤ place * 256 + number = omega (arith, past, long) in
      get_or_past sums (place * 256 + number) 0 beyond ∙ sym (none_over net place number pairs past)
]

-- ---- counts of those from one switch to one LID
pub counts_from : (net : NetState) (talk : PortRef → PortRef → Bool) (lid : ℕ) (end : PortRef) (one : Entrance) (count : ℕ) (found : Fate) → count ≡ senders talk end one.ports
    → found ≡ fate net lid end one.place → counted_by found count ≡ counts_of net (pairs_in talk lid end one)
counts_from net talk lid end one count found is found_is =
    let here = fate net lid end one.place in
    let all : count ≡ length (pairs_in talk lid end one) = is ∙ sym (length_pairs talk lid end one.place one.ports) in
    let lost : cond (is_lost_by found) count 0 ≡ count_by (is_lost net) (pairs_in talk lid end one) =
    ap (λ (f : Fate). cond (is_lost_by f) count 0) found_is ∙ ap (λ (n : ℕ). cond (is_lost_by here) n 0) is
    ∙ sym (count_pairs (is_lost net) (is_lost_by here) talk lid end one.place one.ports (λ source. refl)) in
    let unknown : cond (is_fate fates.Unknown found) count 0 ≡ count_by (is_unknown net) (pairs_in talk lid end one) =
    ap (λ (f : Fate). cond (is_fate fates.Unknown f) count 0) found_is ∙ ap (λ (n : ℕ). cond (is_fate fates.Unknown here) n 0) is
    ∙ sym (count_pairs (is_unknown net) (is_fate fates.Unknown here) talk lid end one.place one.ports (λ source. refl)) in
    ap (λ (n : ℕ). record { pairs = n; lost = cond (is_lost_by found) count 0; unknown = cond (is_fate fates.Unknown found) count 0 }) all
    ∙ ap (λ (n : ℕ). record { pairs = length (pairs_in talk lid end one); lost = n; unknown = cond (is_fate fates.Unknown found) count 0 }) lost
    ∙ ap (λ (n : ℕ). record { pairs = length (pairs_in talk lid end one); lost = count_by (is_lost net) (pairs_in talk lid end one); unknown = n }) unknown

-- ---- counts of pairs of one more of a list
counts_join : (net : NetState) (some others : List Pair) → plus (counts_of net some) (counts_of net others) ≡ counts_of net (some ++ others)
counts_join net some others =
    ap (λ (n : ℕ). record { pairs = n; lost = count_by (is_lost net) some + count_by (is_lost net) others; unknown = count_by (is_unknown net) some + count_by (is_unknown net) others })
    (sym (length-append some others))
    ∙ ap (λ (n : ℕ). record { pairs = length (some ++ others); lost = n; unknown = count_by (is_unknown net) some + count_by (is_unknown net) others })
    (sym (sum_by-append (λ pair. cond (is_lost net pair) 1 0) some others))
    ∙ ap (λ (n : ℕ). record { pairs = length (some ++ others); lost = count_by (is_lost net) (some ++ others); unknown = n })
    (sym (sum_by-append (λ pair. cond (is_unknown net pair) 1 0) some others))

more_joined : {X : Type 0} (pairs : X → List Pair) (all : List X) (index : ℕ) (none one : X) → index < length all → one ≡ get_or all index none
    → flat_map pairs (take index all) ++ pairs one ≡ flat_map pairs (take (index + 1) all)
more_joined pairs all index none one within here =
    flat_map_more pairs [] (take index all) one ∙ ap (λ last. flat_map pairs (take index all ++ last ∷ [])) here ∙ ap (flat_map pairs) (sym (take_more all index none within))

pub counts_more : {X : Type 0} (net : NetState) (pairs : X → List Pair) (all : List X) (index : ℕ) (none one : X) (before more after : Counts) → index < length all → one ≡ get_or all index none
    → before ≡ counts_of net (flat_map pairs (take index all)) → more ≡ counts_of net (pairs one) → after ≡ plus before more
    → after ≡ counts_of net (flat_map pairs (take (index + 1) all))
counts_more net pairs all index none one before more after within here was these is =
    is ∙ ap (λ (counts : Counts). plus counts more) was ∙ ap (plus (counts_of net (flat_map pairs (take index all)))) these
    ∙ counts_join net (flat_map pairs (take index all)) (pairs one) ∙ ap (counts_of net) (more_joined pairs all index none one within here)

-- ---- sums of pairs of one more of a list
pub sums_more : {X : Type 0} (net : NetState) (pairs : X → List Pair) (all : List X) (index : ℕ) (none one : X) (before after : List ℕ) → index < length all → one ≡ get_or all index none
    → HasSums net (flat_map pairs (take index all)) before → GrowBy (of_pairs net (pairs one)) before after
    → HasSums net (flat_map pairs (take (index + 1) all)) after
sums_more net pairs all index none one before after within here has grown = record {
  long = grown.long ∙ has.long;
  each = λ place number low small.
      let same = grown.long in
      let inside : place * 256 + number < length before = omega (arith, low, same) in
      grown.each place number inside small ∙ ap (λ (n : ℕ). n + of_pairs net (pairs one) place number) (has.each place number inside small)
      ∙ sym (sum_by-append (λ pair. cond (goes_over net (port place number) pair) 1 0) (flat_map pairs (take index all)) (pairs one))
      ∙ ap (λ (some : List Pair). of_pairs net some place number) (more_joined pairs all index none one within here);
}

-- ---- no pairs
empty : {X : Type 0} (xs : List X) → length xs ≡ 0 → xs ≡ []
empty [] none = refl
empty (x ∷ xs) none = absurd (omega (arith, none))

pub none_in : (talk : PortRef → PortRef → Bool) (lid : ℕ) (end : PortRef) (one : Entrance) → senders talk end one.ports ≡ 0 → [] ≡ pairs_in talk lid end one
none_in talk lid end one none = sym (empty (pairs_in talk lid end one) (length_pairs talk lid end one.place one.ports ∙ none))
