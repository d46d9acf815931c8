-- The switches that packets of hosts come to.
use Rattle.std.proofs.Common.{◌≡◌, ◌∙◌, inl, inr, ap, refl, sym, ℕ, zero, suc, ◌+◌, ◌-◌, ◌<◌, ◌≤◌, Bool, true, false, ◌==◌, ◌||◌, List, [], ◌∷◌, drop, filter, get_or, length, map, arith}
use Rattle.std.specs.Cmp.{both_ways}
use Rattle.std.specs.List.{list_all, list_any, range_with_len}
use Rattle.std.proofs.Math.ListN.{drop_of_length-le}
use Rattle.std.proofs.lemmas.Bool.{and_from, and_parts, cases_Bool, false≢true}
use Rattle.std.proofs.lemmas.Bool.Decides.{nat_tests}
use Rattle.step_results.proofs.ListLemmas.{all_at}
use Rattle.step_results.proofs.BoolLemmas.{or_assoc, or_false}
use Rattle.topo_file.specs.Connectivity.{switches}
use Rattle.topo_file.specs.Node.{is_switch_at}
use Rattle.topo_file.specs.declared.node.Node.{Node}
use Rattle.topo_file.specs.Rounds.{is_marked}
use Rattle.audit_net.specs.declared.following.Turn.{Turn}
use Rattle.audit_plan.specs.Attached.{carries_host}
use Rattle.audit_net.specs.Following.{switch_total, turn}
use Rattle.audit_net.specs.Hosts.{host_comes, hosts_come, hosts_marks}
use Rattle.audit_net.specs.Laws.{GoesTo, HostsAreFollowed, HostsCome}
use Rattle.audit_net.specs.Net.{NetState}
use Rattle.audit_plan.specs.Plan.{is_on}
use Rattle.audit_net.specs.Ways.{then_on, way, way_within}
use Rattle.audit_net.proofs.EndlessLemmas.{any_of, some_of, turn_goes}
use Rattle.audit_plan.proofs.PlaceLemmas.{is_listed, within_nodes}
use Rattle.audit_net.proofs.WholeLemmas.{are_switches, ways_are_whole}
use Rattle.audit_net.proofs.WayLemmas.{Stays, stays_alone}

-- ---- a walk along a way: what was marked, and what is left of the way, are what was marked before, and the whole way
pub record AreWalked (net : NetState) (lid from count at : ℕ) (before marks : List Bool) : Type 0 where
  pub long : length marks ≡ length before
  pub here : is_switch_at net.plan.nodes at ≡ true
  pub marked : (there : ℕ)
      → (is_marked marks there || is_on there (way_within net lid (switch_total net - count) at)) ≡ (is_marked before there || is_on there (way net lid from))

-- one switch more
marked_here : (net : NetState) (lid from count at : ℕ) (before marks after : List Bool) (rest : List ℕ) → count < switch_total net
    → AreWalked net lid from count at before marks → ((other : ℕ) → is_marked after other ≡ (is_marked marks other || (at == other)))
    → then_on (λ n. way_within net lid (switch_total net - (count + 1)) n) (turn net lid at) ≡ rest
    → (there : ℕ) → (is_marked after there || is_on there rest) ≡ (is_marked before there || is_on there (way net lid from))
marked_here net lid from count at before marks after rest less so_far more goes there =
    let one : switch_total net - count ≡ suc (switch_total net - (count + 1)) = omega (arith, less) in
    ap (λ (b : Bool). b || is_on there rest) (more there)
    ∙ or_assoc (is_marked marks there) (at == there) (is_on there rest)
    ∙ ap (λ (xs : List ℕ). is_marked marks there || is_on there (at ∷ xs)) (sym goes)
    ∙ ap (λ (n : ℕ). is_marked marks there || is_on there (way_within net lid n at)) (sym one)
    ∙ so_far.marked there

pub walks_on : (net : NetState) (lid from count at next : ℕ) (before marks after : List Bool) → count < switch_total net
    → AreWalked net lid from count at before marks → length after ≡ length marks → ((other : ℕ) → is_marked after other ≡ (is_marked marks other || (at == other)))
    → GoesTo net lid at next → AreWalked net lid from (count + 1) next before after
walks_on net lid from count at next before marks after less so_far long more goes = record {
  long = long ∙ so_far.long;
  here = turn_goes net lid at next goes;
  marked = marked_here net lid from count at before marks after (way_within net lid (switch_total net - (count + 1)) next) less so_far more
      (ap (then_on (λ n. way_within net lid (switch_total net - (count + 1)) n)) goes);
}

pub walk_ends : (net : NetState) (lid from count at : ℕ) (before marks after : List Bool) → count < switch_total net
    → AreWalked net lid from count at before marks → ((other : ℕ) → is_marked after other ≡ (is_marked marks other || (at == other)))
    → Stays net lid at → (there : ℕ) → is_marked after there ≡ (is_marked before there || is_on there (way net lid from))
walk_ends net lid from count at before marks after less so_far more stays there =
    sym (or_false (is_marked after there))
    ∙ marked_here net lid from count at before marks after [] less so_far more
    (stays_alone (λ n. way_within net lid (switch_total net - (count + 1)) n) (turn net lid at) stays) there

pub walk_is_whole : (net : NetState) (lid from count at : ℕ) (before marks : List Bool) → switch_total net ≤ count
    → AreWalked net lid from count at before marks → (there : ℕ) → is_marked marks there ≡ (is_marked before there || is_on there (way net lid from))
walk_is_whole net lid from count at before marks most so_far there =
    let none : switch_total net - count ≡ 0 = omega (arith, most) in
    sym (or_false (is_marked marks there))
    ∙ ap (λ (n : ℕ). is_marked marks there || is_on there (way_within net lid n at)) (sym none)
    ∙ so_far.marked there

-- ---- whether a switch is on what is left of a way
on_step : (net : NetState) (lid there count at : ℕ) (whole : Bool) → count < switch_total net
    → is_on there (way_within net lid (switch_total net - count) at) ≡ whole
    → ((at == there) || is_on there (then_on (λ n. way_within net lid (switch_total net - (count + 1)) n) (turn net lid at))) ≡ whole
on_step net lid there count at whole less so_far =
    let one : switch_total net - count ≡ suc (switch_total net - (count + 1)) = omega (arith, less) in
    ap (λ (n : ℕ). is_on there (way_within net lid n at)) (sym one) ∙ so_far

pub on_way_here : (net : NetState) (lid there count at : ℕ) (whole : Bool) → count < switch_total net → (at == there) ≡ true
    → is_on there (way_within net lid (switch_total net - count) at) ≡ whole → true ≡ whole
on_way_here net lid there count at whole less here so_far =
    ap (λ (b : Bool). b || is_on there (then_on (λ n. way_within net lid (switch_total net - (count + 1)) n) (turn net lid at))) (sym here)
    ∙ on_step net lid there count at whole less so_far

pub on_way_ends : (net : NetState) (lid there count at : ℕ) (whole : Bool) → count < switch_total net → (at == there) ≡ false → Stays net lid at
    → is_on there (way_within net lid (switch_total net - count) at) ≡ whole → false ≡ whole
on_way_ends net lid there count at whole less other stays so_far =
    let rest = λ (n : ℕ). way_within net lid (switch_total net - (count + 1)) n in
    sym (ap (is_on there) (stays_alone rest (turn net lid at) stays))
    ∙ ap (λ (b : Bool). b || is_on there (then_on rest (turn net lid at))) (sym other)
    ∙ on_step net lid there count at whole less so_far

pub on_way_goes : (net : NetState) (lid there count at next : ℕ) (whole : Bool) → count < switch_total net → (at == there) ≡ false → GoesTo net lid at next
    → is_on there (way_within net lid (switch_total net - count) at) ≡ whole → is_on there (way_within net lid (switch_total net - (count + 1)) next) ≡ whole
on_way_goes net lid there count at next whole less other goes so_far =
    let rest = λ (n : ℕ). way_within net lid (switch_total net - (count + 1)) n in
    sym (ap (λ (turned : Turn). is_on there (then_on rest turned)) goes)
    ∙ ap (λ (b : Bool). b || is_on there (then_on rest (turn net lid at))) (sym other)
    ∙ on_step net lid there count at whole less so_far

pub on_way_whole : (net : NetState) (lid there count at : ℕ) (whole : Bool) → switch_total net ≤ count
    → is_on there (way_within net lid (switch_total net - count) at) ≡ whole → false ≡ whole
on_way_whole net lid there count at whole most so_far =
    let none : switch_total net - count ≡ 0 = omega (arith, most) in
    ap (λ (n : ℕ). is_on there (way_within net lid n at)) (sym none) ∙ so_far

-- ---- the marks of some switches
pub record AreFollowed (net : NetState) (lid index : ℕ) (marks : List Bool) : Type 0 where
  pub long : length marks ≡ length net.plan.nodes
  pub marked : (there : ℕ) → (is_marked marks there || list_any (host_comes net lid there) (drop index (switches net.plan.nodes))) ≡ hosts_come net lid there

kept_all : (p : ℕ → Bool) (xs : List ℕ) → list_all p (filter p xs) ≡ true
kept_all p [] = refl
kept_all p (x ∷ xs) = elim (cases_Bool (p x)) [
  | inl keeps ↦ rw (keeps, keeps) (kept_all p xs)
  | inr drops ↦ rw drops (kept_all p xs)
]

pub each_switch : (nodes : List Node) (index : ℕ) → index < length (switches nodes) → is_switch_at nodes (get_or (switches nodes) index 0) ≡ true
each_switch nodes index within = all_at (is_switch_at nodes) (switches nodes) index 0 (kept_all (is_switch_at nodes) (range_with_len 0 (length nodes))) within

-- as a list
listed : (f : ℕ → Bool) (low : ℕ) (xs : List Bool) → ((i k : ℕ) → low + i ≡ k → i < length xs → is_marked xs i ≡ f k) → xs ≡ map f (range_with_len low (length xs))
listed f low [] same = refl
listed f low (x ∷ xs) same =
    let first : x ≡ f low = same 0 low (omega arith) (omega arith) in
    let rest = listed f (low + 1) xs (λ i k is within. same (suc i) k (omega (arith, is)) (omega (arith, within))) in
    ap (λ (b : Bool). b ∷ xs) first ∙ ap (λ (bs : List Bool). f low ∷ bs) rest

pub all_followed : (net : NetState) (lid index : ℕ) (marks : List Bool) → length (switches net.plan.nodes) ≤ index → AreFollowed net lid index marks → marks ≡ hosts_marks net lid
all_followed net lid index marks most so_far =
    listed (hosts_come net lid) 0 marks (λ there k is within.
    let same : there ≡ k = omega (arith, is) in
    sym (or_false (is_marked marks there))
    ∙ ap (λ (rest : List ℕ). is_marked marks there || list_any (host_comes net lid there) rest) (sym (drop_of_length-le (switches net.plan.nodes) most))
    ∙ so_far.marked there ∙ ap (hosts_come net lid) same)
    ∙ ap (λ (n : ℕ). map (hosts_come net lid) (range_with_len 0 n)) so_far.long

-- ---- what is marked is come to
marked_at : (f : ℕ → Bool) (low many i k : ℕ) → low + i ≡ k → i < many → is_marked (map f (range_with_len low many)) i ≡ f k
marked_at f low zero i k is within = absurd (omega (arith, within))
marked_at f low (suc many) zero k is within = let here : low ≡ k = omega (arith, is) in ap f here
marked_at f low (suc many) (suc i) k is within = marked_at f (low + 1) many i k (omega (arith, is)) (omega (arith, within))

marked_within : (f : ℕ → Bool) (low many i : ℕ) → is_marked (map f (range_with_len low many)) i ≡ true → i < many
marked_within f low zero i marked = absurd (false≢true marked)
marked_within f low (suc many) zero marked = omega arith
marked_within f low (suc many) (suc i) marked = let rest = marked_within f (low + 1) many i marked in omega (arith, rest)

pub kept_passes : (p : ℕ → Bool) (k : ℕ) (xs : List ℕ) → list_any (λ n. n == k) (filter p xs) ≡ true → p k ≡ true
kept_passes p k [] there = absurd (false≢true there)
kept_passes p k (x ∷ xs) there = elim (cases_Bool (p x)) [
  | inl keeps ↦ elim (cases_Bool (x == k)) [
    | inl here ↦ let same : k ≡ x = grind (arith, nat_tests, here) in ap p same ∙ keeps
    | inr other ↦ kept_passes p k xs (rw other at (rw keeps at there))
  ]
  | inr drops ↦ kept_passes p k xs (rw drops at there)
]

is_marked_there : (net : NetState) (lid there : ℕ) → HostsCome net lid there → is_marked (hosts_marks net lid) there ≡ true
is_marked_there net lid there is =
    let on = ways_are_whole.comes net lid is.from there is.over is.switch is.comes in
    let within = within_nodes net.plan.nodes there (are_switches net lid is.from (switch_total net) there is.switch on) in
    marked_at (hosts_come net lid) 0 (length net.plan.nodes) there there (omega arith) within
    ∙ any_of (host_comes net lid there) (switches net.plan.nodes) is.from (is_listed net.plan.nodes is.from is.switch) (and_from (carries_host net.plan is.from) _ is.carries on)

is_come_there : (net : NetState) (lid there : ℕ) → is_marked (hosts_marks net lid) there ≡ true → HostsCome net lid there
is_come_there net lid there marked =
    let within = marked_within (hosts_come net lid) 0 (length net.plan.nodes) there marked in
    let some = some_of (host_comes net lid there) (switches net.plan.nodes) (sym (marked_at (hosts_come net lid) 0 (length net.plan.nodes) there there (omega arith) within) ∙ marked) in
    let parts = and_parts (carries_host net.plan some.0) _ some.1 in
    let found = ways_are_whole.there net lid some.0 there parts.1 in
    record {
      from = some.0;
      switch = kept_passes (is_switch_at net.plan.nodes) some.0 _ some.2;
      carries = parts.0;
      over = found.0;
      comes = found.1;
    }

pub hosts_are_followed : HostsAreFollowed
hosts_are_followed = record { comes = is_marked_there; there = is_come_there }

-- what is asked of one place is its mark
comes_marked : (net : NetState) (lid there : ℕ) → hosts_come net lid there ≡ true → is_marked (hosts_marks net lid) there ≡ true
comes_marked net lid there comes =
    let some = some_of (host_comes net lid there) (switches net.plan.nodes) comes in
    let parts = and_parts (carries_host net.plan some.0) _ some.1 in
    let switch = kept_passes (is_switch_at net.plan.nodes) some.0 _ some.2 in
    let within = within_nodes net.plan.nodes there (are_switches net lid some.0 (switch_total net) there switch parts.1) in
    marked_at (hosts_come net lid) 0 (length net.plan.nodes) there there (omega arith) within ∙ comes

marked_comes : (net : NetState) (lid there : ℕ) → is_marked (hosts_marks net lid) there ≡ true → hosts_come net lid there ≡ true
marked_comes net lid there marked =
    let within = marked_within (hosts_come net lid) 0 (length net.plan.nodes) there marked in
    sym (marked_at (hosts_come net lid) 0 (length net.plan.nodes) there there (omega arith) within) ∙ marked

pub marks_are : (net : NetState) (lid there : ℕ) → is_marked (hosts_marks net lid) there ≡ hosts_come net lid there
marks_are net lid there = both_ways _ _ (marked_comes net lid there) (comes_marked net lid there)
