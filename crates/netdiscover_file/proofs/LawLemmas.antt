-- The laws of what is reported.
use Rattle.std.proofs.Common.{◌≡◌, ◌∙◌, ap, refl, sym, ℕ, Bool, true, false, not, ◌==◌, ◌||◌, nat_eq, List, [], ◌∷◌, ◌++◌, Option, Some, None, option_map, option_to_list, is_some, get_or, position, flat_map}
use Rattle.std.specs.List.{list_all, list_any, IsDistinct}
use Rattle.std.proofs.lemmas.Bool.{and_from, and_parts, false≢true, not_from_true, not-false, not-true, or_from, or_parts}
use Rattle.std.proofs.lemmas.List.Folds.{list_any-append}
use Rattle.std.proofs.lemmas.List.Quantifiers.{position-Some}
use Rattle.std.proofs.lemmas.Map.Keys.{any_passes_from_place}
use Rattle.std.proofs.lemmas.Option.{slice_get-get_or}
use Rattle.step_results.proofs.DistinctLemmas.{all_differ, differ}
use Rattle.step_results.proofs.TestLemmas.{same_either_way}
use Rattle.step_results.proofs.BoolLemmas.{none_of}
use Rattle.netdiscover_file.specs.declared.assignment.SwitchGuids.{SwitchGuids}
use Rattle.netdiscover_file.specs.declared.ends.NodeId.{NodeId}
use Rattle.netdiscover_file.specs.declared.kind.NodeKind.{NodeKind}
use Rattle.netdiscover_file.specs.declared.kind.NodeKind.TheVariants.{ChannelAdapter, Router, Switch}
use Rattle.netdiscover_file.specs.declared.node.Node.{Node}
use Rattle.netdiscover_file.specs.declared.port.PortLine.{PortLine}
use Rattle.netdiscover_file.specs.Discovery.{DraftState, has_taken_guid, is_of_another}
use Rattle.netdiscover_file.specs.Kind.{is_switch}
use Rattle.netdiscover_file.specs.Laws.{HasOwnGuids, IsReportedSoFar, MissingEndsAreReported, TakenGuidsAreReported}
use Rattle.netdiscover_file.specs.Node.{place_of}
use Rattle.netdiscover_file.specs.Port.{is_reported, is_reported_already}
use Rattle.netdiscover_file.specs.Sound.{shares_guid}
use Rattle.netdiscover_file.proofs.AgreementLemmas.{all_lead_back}
use Rattle.netdiscover_file.proofs.OtherEndLemmas.{same_numbers, same_tested}
use Rattle.netdiscover_file.proofs.SoundLemmas.{fresh, guids_with_node, sound_with_node}

pub missing_ends_are_reported : MissingEndsAreReported
missing_ends_are_reported nodes ports none = all_lead_back nodes ports (ap (option_map (λ line. line.line)) none)

-- ---- the switch that was reported
switch_kind : (kind : NodeKind) → is_switch kind ≡ true → kind ≡ Switch
switch_kind Switch h = refl
switch_kind ChannelAdapter h = absurd (false≢true h)
switch_kind Router h = absurd (false≢true h)

reported_switch : (guids : SwitchGuids) (id : NodeId) → is_of_another (Some guids) id ≡ false → (id.kind ≡ Switch) × (id.guid ≡ guids.node)
reported_switch guids id own =
    let parts = and_parts (is_switch id.kind) (guids.node == id.guid) (not-false _ own) in
    (switch_kind id.kind parts.0, sym (same_numbers guids.node id.guid parts.1))

not_another : (reported : Option SwitchGuids) (id : NodeId)
    → ((guids : SwitchGuids) → reported ≡ Some guids → (id.kind ≡ Switch) × (id.guid ≡ guids.node)) → is_of_another reported id ≡ false
not_another None id meant = refl
not_another (Some guids) id meant =
    let it = meant guids refl in
    not_from_true _ (and_from (is_switch id.kind) _ (ap is_switch it.0) (same_tested guids.node id.guid (sym it.1)))

-- ---- GUIDs that are apart
-- of different elements none before another is the same, and none behind it
others_differ : {X : Type 0} (same : X → X → Bool) → ((a b : X) → same a b ≡ same b a) → (xs : List X) (x : X) (ys : List X)
    → all_differ same (xs ++ x ∷ ys) ≡ true → (list_any (same x) xs ≡ false) × (list_any (same x) ys ≡ false)
others_differ same turned [] x ys all = (refl, not-true _ (and_parts (not (list_any (same x) ys)) _ all).0)
others_differ same turned (z ∷ xs) x ys all =
    let parts = and_parts (not (list_any (same z) (xs ++ x ∷ ys))) _ all in
    let apart = or_parts (list_any (same z) xs) (same z x || list_any (same z) ys) (sym (list_any-append (same z) xs (x ∷ ys)) ∙ not-true _ parts.0) in
    let later = others_differ same turned xs x ys parts.1 in
    (or_from (same x z) _ (turned x z ∙ (or_parts (same z x) _ apart.1).0) later.0, later.1)

no_place : {X : Type 0} (test : X → Bool) (xs : List X) → list_any test xs ≡ false → is_some (position test xs) ≡ false
no_place test [] none = refl
no_place test (x ∷ xs) none = by (position test (x ∷ xs)) refl
  where
    by : (found : Option ℕ) → position test (x ∷ xs) ≡ found → is_some found ≡ false
    by None e = refl
    by (Some place) e =
        let at = position-Some test (x ∷ xs) place x e in
        absurd (false≢true (sym none ∙ any_passes_from_place test (x ∷ xs) place (get_or (x ∷ xs) place x) (slice_get-get_or (x ∷ xs) place x at.0) at.1))

free_port : (guid : Option ℕ) (noted xs ys : List ℕ) → list_all (λ other. is_reported other (xs ++ ys)) noted ≡ true
    → IsDistinct nat_eq (xs ++ (option_to_list guid ++ ys)) → is_reported_already guid noted ≡ false
free_port None noted xs ys all own = refl
free_port (Some guid) noted xs ys all own =
    let others = others_differ nat_eq same_either_way xs guid ys (differ nat_eq (xs ++ guid ∷ ys) own) in
    fresh guid (xs ++ ys) noted all (list_any-append (nat_eq guid) xs ys ∙ or_from (list_any (nat_eq guid) xs) _ others.0 others.1)

-- ---- what the test of GUIDs reports
own_guids : (so_far : DraftState) (node : Node) → IsReportedSoFar so_far → has_taken_guid so_far node ≡ false → HasOwnGuids so_far node
own_guids so_far node reported free =
    let parts = or_parts (is_of_another so_far.switch_guids node.id) _ free in
    let own = or_parts (is_some (place_of node.id.guid so_far.nodes)) _ parts.1 in
    record {
      apart = (sound_with_node so_far.nodes so_far.ports so_far.port_guids node reported.sound (none_of (place_of node.id.guid so_far.nodes) own.0) own.1).lines;
      meant = λ guids is. reported_switch guids node.id (ap (λ other. is_of_another other node.id) (sym is) ∙ parts.0);
    }

not_taken : (so_far : DraftState) (node : Node) → IsReportedSoFar so_far → HasOwnGuids so_far node → has_taken_guid so_far node ≡ false
not_taken so_far node reported own =
    let front = flat_map (λ (n : Node). option_to_list n.port_guid) so_far.nodes in
    let back = flat_map (λ (line : PortLine). option_to_list line.guid) so_far.ports in
    let nodes = others_differ shares_guid (λ a b. same_either_way a.id.guid b.id.guid) so_far.nodes node [] (differ shares_guid (so_far.nodes ++ node ∷ []) own.apart.own_nodes) in
    or_from (is_of_another so_far.switch_guids node.id) _ (not_another so_far.switch_guids node.id own.meant)
    (or_from (is_some (place_of node.id.guid so_far.nodes)) _ (no_place (shares_guid node) so_far.nodes nodes.0)
    (free_port node.port_guid so_far.port_guids front back reported.noted_alone (rw (guids_with_node so_far.nodes node so_far.ports) at own.apart.own_guids)))

pub taken_guids_are_reported : TakenGuidsAreReported
taken_guids_are_reported so_far node reported = (own_guids so_far node reported, not_taken so_far node reported)
