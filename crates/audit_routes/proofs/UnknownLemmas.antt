-- The lines of unknown entries: which switches they are of.
use Rattle.std.proofs.Common.{◌≡◌, ◌∙◌, ◌⊎◌, inl, inr, ap, refl, subst, sym, ℕ, Bool, true, false, not, ◌&&◌, if◌then◌else◌, List, [], filter, codes, Option, Some, None}
use Rattle.std.specs.Option.{option_map_or}
use Rattle.std.proofs.lemmas.Bool.{and_from, and_parts, cases_Bool, false≢true, or_cases, or_left, or_right}
use Rattle.fabric_parts.specs.declared.cable.PortRef.{PortRef}
use Rattle.topo_file.specs.Connectivity.{switches}
use Rattle.topo_file.specs.Node.{is_switch_at}
use Rattle.audit_plan.specs.Plan.{is_host}
use Rattle.audit_plan.proofs.SubsliceLemmas.{stands_itself, stands_of_all}
use Rattle.audit_net.specs.declared.following.Turn.{Turn}
use Rattle.audit_plan.specs.Attached.{carries_host}
use Rattle.audit_net.specs.Following.{turn}
use Rattle.audit_net.specs.Lids.{aim_of, aims, known_lids}
use Rattle.audit_net.specs.Net.{NetState, has_table}
use Rattle.audit_net.specs.OwnerLaws.{end_port_of}
use Rattle.audit_net.specs.declared.lids.Aim.{Aim}
use Rattle.audit_plan.proofs.PlaceLemmas.{in_kept, is_listed}
use Rattle.step_results.proofs.BoolLemmas.{not_true}
use Rattle.audit_routes.specs.Deciding.{is_entered, is_hosts, lacking_entries, lacks_entry, unknown_line}
use Rattle.audit_routes.specs.Laws.{IsSentByAHost, IsSentByASwitch, LacksTheEntry, NamesUnknown, PrintsUnknown, UnknownEntriesAreNamed}
use Rattle.audit_routes.specs.Lines.{is_fed}
use Rattle.audit_routes.specs.Verdict.{is_others, is_unknown}
use Rattle.audit_routes.proofs.CarriesLemmas.{carried, carries}
use Rattle.audit_routes.proofs.DecidingLemmas.{aim_there, index_of, is_in, kept_back, none_pass, says_which, switch_back}
use Rattle.audit_routes.proofs.EachReasonLemmas.{sent_from}
use Rattle.audit_routes.proofs.PrintedLemmas.{in_unknown, text}
use Rattle.audit_routes.proofs.ReportedLemmas.{unknown_is}
use Rattle.audit_routes.proofs.SafeLemmas.{is_listed_lid}
use Rattle.audit_routes.proofs.TroubleLemmas.{fed_there}

-- ---- the LID is no switch's
others_by : (net : NetState) (o : Option PortRef) → ((end : PortRef) → o ≡ Some end → is_switch_at net.plan.nodes end.node ≡ false)
    → not (option_map_or (λ end. is_switch_at net.plan.nodes end.node) o false) ≡ true
others_by net None other = refl
others_by net (Some end) other = ap not (other end refl)

is_other : (net : NetState) (lid : ℕ) (end : PortRef) → is_others net (aim_of net lid) ≡ true → end_port_of net lid ≡ Some end
    → is_switch_at net.plan.nodes end.node ≡ false
is_other net lid end others named =
    not_true (is_switch_at net.plan.nodes end.node)
    (sym (ap (λ (o : Option PortRef). not (option_map_or (λ (p : PortRef). is_switch_at net.plan.nodes p.node) o false)) named) ∙ others)

-- ---- packets come
host_named : (net : NetState) (o : Option PortRef) → option_map_or (λ end. is_host net.plan end.node) o false ≡ true
    → (end : PortRef) × (o ≡ Some end) × (is_host net.plan end.node ≡ true)
host_named net None host = absurd (false≢true host)
host_named net (Some end) host = (end, refl, host)

host_there : (net : NetState) (o : Option PortRef) (end : PortRef) → o ≡ Some end → is_host net.plan end.node ≡ true
    → option_map_or (λ p. is_host net.plan p.node) o false ≡ true
host_there net o end named host = ap (λ (o : Option PortRef). option_map_or (λ (p : PortRef). is_host net.plan p.node) o false) named ∙ host

enters : (net : NetState) (lid place : ℕ) → IsSentByAHost net lid place ⊎ IsSentByASwitch net lid place → is_entered net (aim_of net lid) place ≡ true
enters net lid place (inl host) =
    or_left (is_hosts net (aim_of net lid) && carries_host net.plan place) (is_fed net place lid)
    (and_from (is_hosts net (aim_of net lid)) (carries_host net.plan place) (host_there net (end_port_of net lid) host.1.0 host.1.1 host.1.2) (carries net place host.0))
enters net lid place (inr sent) =
    or_right (is_hosts net (aim_of net lid) && carries_host net.plan place) (is_fed net place lid) (fed_there net lid sent.0 place sent.1 sent.2)

sent : (net : NetState) (lid place : ℕ) → is_switch_at net.plan.nodes place ≡ true → is_entered net (aim_of net lid) place ≡ true
    → IsSentByAHost net lid place ⊎ IsSentByASwitch net lid place
sent net lid place switch entered = elim (or_cases (is_hosts net (aim_of net lid) && carries_host net.plan place) (is_fed net place lid) entered) [
  | inl own ↦
      let parts = and_parts (is_hosts net (aim_of net lid)) (carries_host net.plan place) own in
      inl (carried net place switch parts.1, host_named net (end_port_of net lid) parts.0)
  | inr fed ↦ inr (sent_from net lid place fed)
]

-- ---- those that the line is of
in_lacking : (net : NetState) (lid place : ℕ) → LacksTheEntry net lid place → is_in place (lacking_entries net (aim_of net lid)) ≡ true
in_lacking net lid place lacks =
    let aim : Aim = aim_of net lid in
    let others : is_others net (aim_of net lid) ≡ true = others_by net (end_port_of net lid) lacks.other in
    let unknown : is_unknown (turn net lid place) ≡ true = ap (λ (turned : Turn). is_unknown turned) lacks.unknown in
    let test : lacks_entry net (aim_of net lid) place ≡ true =
    and_from (has_table net place) (is_unknown (turn net lid place) && is_entered net (aim_of net lid) place) lacks.table
    (and_from (is_unknown (turn net lid place)) (is_entered net (aim_of net lid) place) unknown (enters net lid place lacks.comes)) in
    let kept : lacking_entries net (aim_of net lid) ≡ filter (lacks_entry net (aim_of net lid)) (switches net.plan.nodes) = rw others refl in
    subst (λ (some : List ℕ). is_in place some ≡ true) (sym kept)
    (in_kept (lacks_entry net aim) place (switches net.plan.nodes) test (is_listed net.plan.nodes place lacks.switch))

of_lacking : (net : NetState) (lid place : ℕ) → is_in place (lacking_entries net (aim_of net lid)) ≡ true → LacksTheEntry net lid place
of_lacking net lid place there = elim (cases_Bool (is_others net (aim_of net lid))) [
  | inr switchs ↦ absurd (false≢true (rw switchs at there))
  | inl others ↦
      let kept = kept_back (lacks_entry net (aim_of net lid)) (switches net.plan.nodes) place (rw others at there) in
      let switch = switch_back net.plan.nodes place kept.1 in
      let parts = and_parts (has_table net place) (is_unknown (turn net lid place) && is_entered net (aim_of net lid) place) kept.0 in
      let rest = and_parts (is_unknown (turn net lid place)) (is_entered net (aim_of net lid) place) parts.1 in
      record {
        other = λ end named. is_other net lid end others named;
        switch = switch;
        table = parts.0;
        unknown = unknown_is (turn net lid place) rest.0;
        comes = sent net lid place switch rest.1;
      }
]

kept_if : (is : Bool) (p : ℕ → Bool) (xs : List ℕ) → (if is then filter p xs else []) ≡ filter (λ x. is && p x) xs
kept_if true p xs = refl
kept_if false p xs = sym (none_pass xs)

names_unknown : NamesUnknown unknown_line
names_unknown net lid = (
  lacking_entries net (aim_of net lid),
  record {
    test = λ place. is_others net (aim_of net lid) && lacks_entry net (aim_of net lid) place;
    order = kept_if (is_others net (aim_of net lid)) (lacks_entry net (aim_of net lid)) (switches net.plan.nodes);
    all = in_lacking net lid;
    only = of_lacking net lid;
  },
  says_which net (codes "unknown ") (codes " at ") (aim_of net lid) (lacking_entries net (aim_of net lid)),
)

prints_unknown : (whole : Bool) → PrintsUnknown (text whole)
prints_unknown whole net lid place below known lacks =
    let there = index_of (known_lids net) lid (is_listed_lid net lid below known) in
    in_unknown whole net (unknown_line net (aim_of net lid))
    (stands_of_all (unknown_line net) (unknown_line net (aim_of net lid)) (aims net) there.0 (aim_of net lid) (aim_there net there.0 lid there.1)
    (stands_itself (unknown_line net (aim_of net lid))))

pub unknown_entries_are_named : UnknownEntriesAreNamed
unknown_entries_are_named = record { lines = names_unknown; brief = prints_unknown false; whole = prints_unknown true }
