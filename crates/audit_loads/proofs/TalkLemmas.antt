-- The pairs that count are those of all pairs whose ports talk.
use Rattle.std.proofs.Common.{◌≡◌, ◌∙◌, ap, refl, sym, ℕ, Bool, true, false, not, ◌&&◌, if◌then◌else◌, List, [], ◌∷◌, ◌++◌, filter, flat_map, Option, Some, None}
use Rattle.std.proofs.lemmas.List.Elements.{filter-append}
use Rattle.fabric_parts.specs.Cable.{is_same_port}
use Rattle.fabric_parts.specs.declared.cable.PortRef.{PortRef}
use Rattle.audit_net.specs.Net.{NetState}
use Rattle.audit_plan.specs.Plan.{is_host}
use Rattle.audit_loads.specs.Laws.{TalkersCount, all_talk, is_heard}
use Rattle.audit_loads.specs.Sources.{Entrance, Pair, entrances, pair_from, pairs_in, pairs_to, pairs_to_end}

-- ---- what is kept of each part is kept of the whole
flat_kept : {X Y : Type 0} (keeps : Y → Bool) (some all : X → List Y) → ((x : X) → some x ≡ filter keeps (all x)) → (xs : List X)
    → flat_map some xs ≡ filter keeps (flat_map all xs)
flat_kept keeps some all each [] = refl
flat_kept keeps some all each (x ∷ xs) =
    ap (λ (here : List _). here ++ flat_map some xs) (each x) ∙ ap (λ (rest : List _). filter keeps (all x) ++ rest) (flat_kept keeps some all each xs)
    ∙ sym (filter-append keeps (all x) (flat_map all xs))

-- ---- of one port, one switch, one LID, and all
by_cases : (pair : Pair) (keeps : Pair → Bool) (own heard : Bool) → keeps pair ≡ heard
    → (if not own && heard then pair ∷ [] else []) ≡ filter keeps (if not own && true then pair ∷ [] else [])
by_cases pair keeps true heard is = refl
by_cases pair keeps false true is = rw is refl
by_cases pair keeps false false is = rw is refl

of_port : (talk : PortRef → PortRef → Bool) (lid : ℕ) (end : PortRef) (place : ℕ) (source : PortRef)
    → pair_from talk lid end place source ≡ filter (is_heard talk) (pair_from all_talk lid end place source)
of_port talk lid end place source =
    by_cases (record { source = source; place = place; lid = lid; end = end }) (is_heard talk) (is_same_port source end) (talk source end) refl

of_switch : (talk : PortRef → PortRef → Bool) (lid : ℕ) (end : PortRef) (one : Entrance) → pairs_in talk lid end one ≡ filter (is_heard talk) (pairs_in all_talk lid end one)
of_switch talk lid end one = flat_kept (is_heard talk) (pair_from talk lid end one.place) (pair_from all_talk lid end one.place) (of_port talk lid end one.place) one.ports

of_end : (net : NetState) (talk : PortRef → PortRef → Bool) (lid : ℕ) (end : Option PortRef)
    → pairs_to_end net talk lid end ≡ filter (is_heard talk) (pairs_to_end net all_talk lid end)
of_end net talk lid None = refl
of_end net talk lid (Some end) = by (is_host net.plan end.node) (flat_kept (is_heard talk) (pairs_in talk lid end) (pairs_in all_talk lid end) (of_switch talk lid end) (entrances net))
  where
    by : (host : Bool) → flat_map (pairs_in talk lid end) (entrances net) ≡ filter (is_heard talk) (flat_map (pairs_in all_talk lid end) (entrances net))
        → (if host then flat_map (pairs_in talk lid end) (entrances net) else []) ≡ filter (is_heard talk) (if host then flat_map (pairs_in all_talk lid end) (entrances net) else [])
    by true same = same
    by false same = refl

pub talkers_count : TalkersCount
talkers_count net talk all = flat_kept (is_heard talk) (pairs_to net talk) (pairs_to net all_talk) (λ aim. of_end net talk aim.lid aim.end) all
