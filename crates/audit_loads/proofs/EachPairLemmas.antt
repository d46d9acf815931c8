-- Each pair counts.
use Rattle.std.proofs.Common.{◌≡◌, ◌∙◌, ap, refl, inl, inr, ℕ, zero, suc, ◌+◌, Bool, true, false, List, [], ◌∷◌, ◌++◌, flat_map, slice_get, Some, arith}
use Rattle.std.specs.List.{list_any, range_with_len}
use Rattle.std.proofs.lemmas.Bool.{cases_Bool, eq-eqb, false≢true, or_left, or_right}
use Rattle.std.proofs.lemmas.List.Folds.{list_any-append}
use Rattle.std.proofs.lemmas.Option.{slice_get-map}
use Rattle.step_results.proofs.ListLemmas.{range_at}
use Rattle.fabric_parts.specs.Cable.{far_end, is_same_port, port}
use Rattle.fabric_parts.specs.declared.cable.PortRef.{PortRef}
use Rattle.topo_file.specs.Connectivity.{switches}
use Rattle.topo_file.specs.Node.{ports_at}
use Rattle.audit_net.specs.Net.{NetState}
use Rattle.audit_plan.specs.Plan.{is_host}
use Rattle.audit_loads.specs.Laws.{EachPairCounts, IsAttached, is_of_two}
use Rattle.audit_loads.specs.Sources.{attached, entrance, entrances, host_behind, pair_from, pairs_in, pairs_to}
use Rattle.audit_loads.proofs.CableLemmas.{same_itself}

-- ---- what is in a part is in the whole
any_front : {Y : Type 0} (p : Y → Bool) (xs ys : List Y) → list_any p xs ≡ true → list_any p (xs ++ ys) ≡ true
any_front p xs ys is = list_any-append p xs ys ∙ or_left (list_any p xs) (list_any p ys) is

any_behind : {Y : Type 0} (p : Y → Bool) (xs ys : List Y) → list_any p ys ≡ true → list_any p (xs ++ ys) ≡ true
any_behind p xs ys is = list_any-append p xs ys ∙ or_right (list_any p xs) (list_any p ys) is

any_in : {X Y : Type 0} (p : Y → Bool) (f : X → List Y) (xs : List X) (k : ℕ) (x : X) → slice_get xs k ≡ Some x → list_any p (f x) ≡ true
    → list_any p (flat_map f xs) ≡ true
any_in p f [] k x there is = absurd (cc)
any_in p f (y ∷ ys) zero x there is =
    let same : y ≡ x = cc in
    any_front p (f y) (flat_map f ys) (ap (λ z. list_any p (f z)) same ∙ is)
any_in p f (y ∷ ys) (suc k) x there is = any_behind p (f y) (flat_map f ys) (any_in p f ys k x there is)

any_each : {X Y : Type 0} (p : Y → Bool) (f : X → List Y) (xs : List X) → list_any (λ x. list_any p (f x)) xs ≡ true → list_any p (flat_map f xs) ≡ true
any_each p f [] is = absurd (false≢true is)
any_each p f (x ∷ xs) is = elim (cases_Bool (list_any p (f x))) [
  | inl e ↦ any_front p (f x) (flat_map f xs) e
  | inr e ↦ let rest : list_any (λ x. list_any p (f x)) xs ≡ true = rw e at is in any_behind p (f x) (flat_map f xs) (any_each p f xs rest)
]

-- ---- of one port, one switch, all of them
one_pair : (talk : PortRef → PortRef → Bool) (lid place : ℕ) (source end : PortRef) → is_same_port source end ≡ false → talk source end ≡ true
    → list_any (is_of_two source lid) (pair_from talk lid end place source) ≡ true
one_pair talk lid place source end differ talks = rw (differ, talks, same_itself source, eq-eqb lid lid refl) refl

behind : (net : NetState) (place before : ℕ) (source : PortRef) (q : PortRef → Bool) → far_end net.plan.cables (port place (before + 1)) ≡ Some source
    → is_host net.plan source.node ≡ true → q source ≡ true → list_any q (host_behind net place before) ≡ true
behind net place before source q far host is = rw (far, host, is) refl

from_switch : (net : NetState) (talk : PortRef → PortRef → Bool) (lid place : ℕ) (source end : PortRef) → IsAttached net place source
    → is_same_port source end ≡ false → talk source end ≡ true → list_any (is_of_two source lid) (pairs_in talk lid end (entrance net place)) ≡ true
from_switch net talk lid place source end at differ talks =
    let counts : PortRef → Bool = λ one. list_any (is_of_two source lid) (pair_from talk lid end place one) in
    let low : 0 + at.before ≡ at.before = omega arith in
    let there = range_at 0 (ports_at net.plan.nodes place) at.before at.within ∙ ap (λ (n : ℕ). Some n) low in
    any_each (is_of_two source lid) (pair_from talk lid end place) (attached net place)
    (any_in counts (host_behind net place) (range_with_len 0 (ports_at net.plan.nodes place)) at.before at.before there
    (behind net place at.before source counts at.cable at.host (one_pair talk lid place source end differ talks)))

pub each_pair_counts : EachPairCounts
each_pair_counts net talk all place lid source end at aimed differ talks =
    let there = slice_get-map (entrance net) (switches net.plan.nodes) at.index ∙ rw at.switch refl in
    let from_all = any_in (is_of_two source lid) (pairs_in talk lid end) (entrances net) at.index (entrance net place) there
    (from_switch net talk lid place source end at differ talks) in
    any_in (is_of_two source lid) (pairs_to net talk) all aimed.index (record { lid = lid; guid = aimed.guid; end = Some end }) aimed.aim (rw aimed.host from_all)
