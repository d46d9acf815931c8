-- What stays so with one more node and one more line, and so of every discovery that was read.
use Rattle.std.proofs.Common.{◌≡◌, ◌∙◌, ap, ap₂, refl, sym, ℕ, Bool, true, false, not, ◌==◌, ◌&&◌, nat_eq, List, [], ◌∷◌, ◌++◌, flat_map}
use Rattle.std.proofs.Common.{Option, Some, None, option_to_list, arith}
use Rattle.std.specs.List.{list_all, list_any, IsDistinct}
use Rattle.std.proofs.lemmas.Bool.{and_parts, and_from, false_from_ne_true, not_from_false, not-true, or_from, or_parts, or_right}
use Rattle.std.proofs.lemmas.Bool.Decides.{nat_tests}
use Rattle.std.proofs.lemmas.List.{append-nil, append_assoc, flat_map_more}
use Rattle.std.proofs.lemmas.List.Folds.{list_all-append, list_any-append}
use Rattle.step_results.proofs.DistinctLemmas.{all_differ, differ, distinct}
use Rattle.step_results.proofs.ListLemmas.{IsDistinct-nil, all_joined, list_all_push, list_all_weaker, none_passes}
use Rattle.step_results.proofs.PlaceLemmas.{not_there, port_still, read_still}
use Rattle.step_results.proofs.TestLemmas.{same_either_way}
use Rattle.fabric_parts.specs.declared.cable.PortRef.{PortRef}
use Rattle.netdiscover_file.specs.declared.node.Node.{Node}
use Rattle.netdiscover_file.specs.declared.port.PortLine.{PortLine}
use Rattle.netdiscover_file.specs.Kind.{is_switch}
use Rattle.netdiscover_file.specs.Node.{is_switch_at, place_of}
use Rattle.netdiscover_file.specs.Port.{is_reported, is_reported_already, place_of_line}
use Rattle.netdiscover_file.specs.Sound.{has_own, is_port, port_guids, shares_guid, shares_port, IsSoundSoFar}

-- ---- one more that differs from all before it, by a test that is the same both ways
differs_more : {X : Type 0} (same : X → X → Bool) → ((a b : X) → same a b ≡ same b a) → (xs : List X) (x : X)
    → all_differ same xs ≡ true → list_any (same x) xs ≡ false → all_differ same (xs ++ x ∷ []) ≡ true
differs_more same turned [] x all none = refl
differs_more same turned (y ∷ ys) x all none =
    let parts = and_parts (not (list_any (same y) ys)) _ all in
    let apart = or_parts (same x y) _ none in
    let still : list_any (same y) (ys ++ x ∷ []) ≡ false =
    list_any-append (same y) ys (x ∷ []) ∙ or_from (list_any (same y) ys) _ (not-true _ parts.0) (or_from (same y x) false (turned y x ∙ apart.0) refl) in
    and_from (not (list_any (same y) (ys ++ x ∷ []))) _ (not_from_false _ still) (differs_more same turned ys x parts.1 apart.1)

distinct_more : {X : Type 0} (same : X → X → Bool) → ((a b : X) → same a b ≡ same b a) → (xs : List X) (x : X)
    → IsDistinct same xs → list_any (same x) xs ≡ false → IsDistinct same (xs ++ x ∷ [])
distinct_more same turned xs x own none = distinct same (xs ++ x ∷ []) (differs_more same turned xs x (differ same xs own) none)

-- ---- one more GUID, somewhere among others
differs_among : (guid : ℕ) (xs ys : List ℕ) → all_differ nat_eq (xs ++ ys) ≡ true → is_reported guid (xs ++ ys) ≡ false → all_differ nat_eq (xs ++ guid ∷ ys) ≡ true
differs_among guid [] ys all new = and_from (not (list_any (nat_eq guid) ys)) _ (not_from_false _ new) all
differs_among guid (x ∷ xs) ys all new =
    let parts = and_parts (not (list_any (nat_eq x) (xs ++ ys))) _ all in
    let apart = or_parts (nat_eq guid x) _ new in
    let others = or_parts (list_any (nat_eq x) xs) (list_any (nat_eq x) ys) (sym (list_any-append (nat_eq x) xs ys) ∙ not-true _ parts.0) in
    let still : list_any (nat_eq x) (xs ++ guid ∷ ys) ≡ false =
    list_any-append (nat_eq x) xs (guid ∷ ys) ∙ or_from (list_any (nat_eq x) xs) _ others.0 (or_from (nat_eq x guid) _ (same_either_way x guid ∙ apart.0) others.1) in
    and_from (not (list_any (nat_eq x) (xs ++ guid ∷ ys))) _ (not_from_false _ still) (differs_among guid xs ys parts.1 apart.1)

-- what is not noted is none of what is
pub fresh : (guid : ℕ) (noted guids : List ℕ) → list_all (λ other. is_reported other noted) guids ≡ true → is_reported guid noted ≡ false → is_reported guid guids ≡ false
fresh guid noted guids all new =
    none_passes (λ other. is_reported other noted) (λ other. guid == other)
    (λ other reported. false_from_ne_true (guid == other) (λ same. let e : guid ≡ other = grind (arith, nat_tests) in let both : true ≡ false = sym reported ∙ ap (λ (n : ℕ). is_reported n noted) (sym e) ∙ new in cc))
    guids all

noted_still : (noted more guids : List ℕ) → list_all (λ guid. is_reported guid noted) guids ≡ true → list_all (λ guid. is_reported guid (noted ++ more)) guids ≡ true
noted_still noted more guids all =
    list_all_weaker (λ guid. is_reported guid noted) (λ guid. is_reported guid (noted ++ more))
    (λ guid reported. list_any-append (λ other. guid == other) noted more ∙ rw reported refl) guids all

noted_last : (guid : ℕ) (noted : List ℕ) → is_reported guid (noted ++ guid ∷ []) ≡ true
noted_last guid [] = let same : (guid == guid) ≡ true = grind (arith, nat_tests) in rw same refl
noted_last guid (other ∷ noted) = or_right (guid == other) _ (noted_last guid noted)

-- of a port, if it has one
own_among : (guid : Option ℕ) (noted xs ys : List ℕ) → is_reported_already guid noted ≡ false → list_all (λ other. is_reported other noted) (xs ++ ys) ≡ true
    → IsDistinct nat_eq (xs ++ ys) → IsDistinct nat_eq (xs ++ (option_to_list guid ++ ys))
own_among None noted xs ys new all own = own
own_among (Some guid) noted xs ys new all own =
    distinct nat_eq (xs ++ guid ∷ ys) (differs_among guid xs ys (differ nat_eq (xs ++ ys) own) (fresh guid noted (xs ++ ys) all new))

noted_among : (guid : Option ℕ) (noted xs ys : List ℕ) → list_all (λ other. is_reported other noted) (xs ++ ys) ≡ true
    → list_all (λ other. is_reported other (noted ++ option_to_list guid)) (xs ++ (option_to_list guid ++ ys)) ≡ true
noted_among None noted xs ys all = noted_still noted [] (xs ++ ys) all
noted_among (Some guid) noted xs ys all =
    let test : ℕ → Bool = λ other. is_reported other (noted ++ guid ∷ []) in
    let parts = and_parts (list_all test xs) (list_all test ys) (sym (list_all-append test xs ys) ∙ noted_still noted (guid ∷ []) (xs ++ ys) all) in
    all_joined test xs (guid ∷ ys) parts.0 (and_from (test guid) _ (noted_last guid noted) parts.1)

-- ---- nodes: a port stays one, and of the same kind of node
is_port_still : (nodes : List Node) (node : Node) (port : PortRef) → is_port nodes port ≡ true → is_port (nodes ++ node ∷ []) port ≡ true
is_port_still nodes node port h = port_still (λ one. one.ports) nodes node port.node port.port h

kind_still : (nodes : List Node) (node : Node) (port : PortRef) → is_port nodes port ≡ true
    → is_switch_at (nodes ++ node ∷ []) port.node ≡ is_switch_at nodes port.node
kind_still nodes node port h = read_still (λ one. one.ports) (λ one. is_switch one.id.kind) false nodes node port.node port.port h

ports_still : (nodes : List Node) (node : Node) (ports : List PortLine) → list_all (λ line. is_port nodes line.port) ports ≡ true
    → list_all (λ line. is_port (nodes ++ node ∷ []) line.port) ports ≡ true
ports_still nodes node ports h =
    list_all_weaker (λ line. is_port nodes line.port) (λ line. is_port (nodes ++ node ∷ []) line.port) (λ line is. is_port_still nodes node line.port is) ports h

own_still : (nodes : List Node) (node : Node) (ports : List PortLine) → list_all (λ line. is_port nodes line.port) ports ≡ true
    → list_all (has_own nodes) ports ≡ true → list_all (has_own (nodes ++ node ∷ [])) ports ≡ true
own_still nodes node [] are have = refl
own_still nodes node (line ∷ ports) are have =
    let is = and_parts (is_port nodes line.port) _ are in
    let has = and_parts (has_own nodes line) _ have in
    and_from (has_own (nodes ++ node ∷ []) line) _ (rw (kind_still nodes node line.port is.0) has.0) (own_still nodes node ports is.1 has.1)

-- ---- one more node
pub guids_with_node : (nodes : List Node) (node : Node) (ports : List PortLine) → port_guids (nodes ++ node ∷ []) ports
    ≡ flat_map (λ n. option_to_list n.port_guid) nodes ++ (option_to_list node.port_guid ++ flat_map (λ line. option_to_list line.guid) ports)
guids_with_node nodes node ports =
    ap (λ (front : List ℕ). front ++ flat_map (λ line. option_to_list line.guid) ports) (sym (flat_map_more (λ n. option_to_list n.port_guid) [] nodes node))
    ∙ append_assoc (flat_map (λ n. option_to_list n.port_guid) nodes) (option_to_list node.port_guid) (flat_map (λ line. option_to_list line.guid) ports)

pub sound_with_node : (nodes : List Node) (ports : List PortLine) (noted : List ℕ) (node : Node) → IsSoundSoFar nodes ports noted
    → place_of node.id.guid nodes ≡ None → is_reported_already node.port_guid noted ≡ false
    → IsSoundSoFar (nodes ++ node ∷ []) ports (noted ++ option_to_list node.port_guid)
sound_with_node nodes ports noted node sound new own =
    let front = flat_map (λ (n : Node). option_to_list n.port_guid) nodes in
    let back = flat_map (λ (line : PortLine). option_to_list line.guid) ports in
    record {
      lines = record {
        own_nodes = distinct_more shares_guid (λ a b. same_either_way a.id.guid b.id.guid) nodes node sound.lines.own_nodes
            (not_there (λ other. node.id.guid == other.id.guid) nodes new);
        own_lines = sound.lines.own_lines;
        own_guids = rw (guids_with_node nodes node ports) (own_among node.port_guid noted front back own sound.all_noted sound.lines.own_guids);
        are_ports = ports_still nodes node ports sound.lines.are_ports;
        have_own = own_still nodes node ports sound.lines.are_ports sound.lines.have_own;
      };
      all_noted = rw (guids_with_node nodes node ports) (noted_among node.port_guid noted front back sound.all_noted);
    }

-- ---- one more line
pub guids_with_line : (nodes : List Node) (ports : List PortLine) (line : PortLine) → port_guids nodes (ports ++ line ∷ []) ≡ port_guids nodes ports ++ (option_to_list line.guid ++ [])
guids_with_line nodes ports line =
    let front = flat_map (λ (n : Node). option_to_list n.port_guid) nodes in
    let back = flat_map (λ (l : PortLine). option_to_list l.guid) ports in
    ap (λ (rest : List ℕ). front ++ rest) (sym (flat_map_more (λ l. option_to_list l.guid) [] ports line))
    ∙ sym (append_assoc front back (option_to_list line.guid))
    ∙ ap (λ (more : List ℕ). port_guids nodes ports ++ more) (sym (append-nil (option_to_list line.guid)))

pub lines_turned : (a b : PortLine) → shares_port a b ≡ shares_port b a
lines_turned a b = ap₂ (λ (x y : Bool). x && y) (same_either_way a.port.node b.port.node) (same_either_way a.port.port b.port.port)

pub sound_with_line : (nodes : List Node) (ports : List PortLine) (noted : List ℕ) (line : PortLine) → IsSoundSoFar nodes ports noted
    → place_of_line line.port ports ≡ None → is_reported_already line.guid noted ≡ false → is_port nodes line.port ≡ true → has_own nodes line ≡ true
    → IsSoundSoFar nodes (ports ++ line ∷ []) (noted ++ option_to_list line.guid)
sound_with_line nodes ports noted line sound new own is has =
    let all = port_guids nodes ports in
    let whole : all ++ [] ≡ all = append-nil all in
    let noted_all : list_all (λ other. is_reported other noted) (all ++ []) ≡ true = rw whole sound.all_noted in
    let distinct_all : IsDistinct nat_eq (all ++ []) = rw whole sound.lines.own_guids in
    record {
      lines = record {
        own_nodes = sound.lines.own_nodes;
        own_lines = distinct_more shares_port lines_turned ports line sound.lines.own_lines (not_there (λ other. shares_port line other) ports new);
        own_guids = rw (guids_with_line nodes ports line) (own_among line.guid noted all [] own noted_all distinct_all);
        are_ports = list_all_push (λ l. is_port nodes l.port) ports line sound.lines.are_ports is;
        have_own = list_all_push (has_own nodes) ports line sound.lines.have_own has;
      };
      all_noted = rw (guids_with_line nodes ports line) (noted_among line.guid noted all [] noted_all);
    }

-- a GUID that is noted before its node or line stands
pub sound_noted : (nodes : List Node) (ports : List PortLine) (noted more : List ℕ) → IsSoundSoFar nodes ports noted → IsSoundSoFar nodes ports (noted ++ more)
sound_noted nodes ports noted more sound = record { lines = sound.lines; all_noted = noted_still noted more (port_guids nodes ports) sound.all_noted }

pub nothing_sound : IsSoundSoFar [] [] []
nothing_sound = record {
  lines = record {
    own_nodes = IsDistinct-nil shares_guid;
    own_lines = IsDistinct-nil shares_port;
    own_guids = IsDistinct-nil nat_eq;
    are_ports = refl;
    have_own = refl;
  };
  all_noted = refl;
}
