-- A fabric of which a cable is cut or mended stays good.
use Rattle.std.proofs.Common.{ℕ, ◌≡◌, inl, inr, ◌-◌, ◌==◌, ◌&&◌, ◌||◌, not, ◌∙◌, ap, refl, sym, subst, Bool, true, false, if◌then◌else◌, List, [], ◌∷◌, ◌++◌, filter, flat_map, length, map, slice_get, slice_set, Option, Some, None}
use Rattle.std.specs.List.{All, list_all, list_any}
use Rattle.std.specs.List.Sorted.{IsPermutation}
use Rattle.std.proofs.Math.ListN.{length-set}
use Rattle.std.proofs.lemmas.Bool.{and_from, and_parts, eqb-true, false≢true, or_cases}
use Rattle.std.proofs.lemmas.Grind.{flat_map-append}
use Rattle.std.proofs.lemmas.List.{append_assoc}
use Rattle.std.proofs.lemmas.List.Elements.{All-set}
use Rattle.std.proofs.lemmas.List.Folds.{flat_map-map, list_all-append, list_any-append}
use Rattle.std.proofs.lemmas.List.Sorted.{IsPermutation-append_comm, IsPermutation-append_left, IsPermutation-append_right, IsPermutation-refl, IsPermutation-trans}
use Rattle.std.proofs.lemmas.Map.Keys.{IsDistinct-IsPermutation}
use Rattle.agent_rules.specs.declared.power_up.TheConstants.{LINEAR_TABLE, MULTICAST_TABLE}
use Rattle.fabric_parts.specs.Cable.{ends_at, is_cabled, is_same_port}
use Rattle.fabric_parts.specs.declared.cable.Cable.{Cable}
use Rattle.fabric_parts.specs.declared.cable.PortRef.{PortRef}
use Rattle.step_results.proofs.ElementLemmas.{all_same, or_same, read_same}
use Rattle.step_results.proofs.ListLemmas.{all_have}
use Rattle.smp_wire.specs.FabricState.{FabricState, all_cables, is_port, is_switch, is_switch_at, port_count}
use Rattle.smp_wire.specs.Good.{IsGood, IsGoodNode, end_port_guids, ends_of, has_a_right_count, is_in_order, is_right, node_guid}
use Rattle.smp_wire.specs.declared.node.Node.{Node}
use Rattle.smp_wire.specs.declared.node.Node.TheVariants.{Switch, Adapter}
use Rattle.smp_wire.proofs.CableLemmas.{ports_turn, same_port}
use Rattle.switch_model.specs.Links.{port_linked, ports_linked}
use Rattle.switch_model.specs.declared.switch_port.SwitchPort.{SwitchPort}
use Rattle.switch_model.proofs.LinkLemmas.{links_keep_good}
use Rattle.fabric_wire.specs.Laws.{CablesKeepGood}
use Rattle.fabric_wire.specs.Cabling.{CablingState, cable_cut, cable_mended, is_between, is_not_between}
use Rattle.fabric_wire.specs.Recabling.{cabling_of, cabling_with, can_change, candidates, changed, node_linked, nodes_linked}

-- ---- a node whose link is another
record IsAlike (old new : Node) : Type 0 where
  guid : node_guid new ≡ node_guid old
  guids : end_port_guids new ≡ end_port_guids old
  count : port_count new ≡ port_count old
  right : has_a_right_count new ≡ has_a_right_count old
  order : is_in_order new ≡ is_in_order old
  switch : is_switch new ≡ is_switch old
  good : IsGoodNode old → IsGoodNode new

as_many : (number : ℕ) (up : Bool) (ports : List SwitchPort) → length (ports_linked number up ports) ≡ length ports
as_many number up ports = by (slice_get ports number) refl
  where
    by : (found : Option SwitchPort) → slice_get ports number ≡ found → length (ports_linked number up ports) ≡ length ports
    by None is = rw is refl
    by (Some port) is = rw is (length-set ports number (port_linked up port))

alike : (node : Node) (number : ℕ) (up : Bool) → IsAlike node (node_linked number up node)
alike (Switch held) number up =
    let count = ap (λ (n : ℕ). n - 1) (as_many number up held.ports) in
    record {
      guid = refl;
      guids = refl;
      count = count;
      right = rw count refl;
      order = refl;
      switch = refl;
      good = λ is. links_keep_good LINEAR_TABLE MULTICAST_TABLE number up held is;
    }
alike (Adapter ports) number up = record { guid = refl; guids = refl; count = refl; right = refl; order = refl; switch = refl; good = λ is. is }

-- ---- nodes, of which one has another link
pub record AreAlike (old new : List Node) : Type 0 where
  pub guids : map node_guid new ≡ map node_guid old
  pub ends : map end_port_guids new ≡ map end_port_guids old
  pub counts : map port_count new ≡ map port_count old
  pub right : map has_a_right_count new ≡ map has_a_right_count old
  pub order : map is_in_order new ≡ map is_in_order old
  pub switches : map is_switch new ≡ map is_switch old
  pub holdings : All IsGoodNode old → All IsGoodNode new

itself : (nodes : List Node) → AreAlike nodes nodes
itself nodes = record { guids = refl; ends = refl; counts = refl; right = refl; order = refl; switches = refl; holdings = λ all. all }

with_node : (nodes : List Node) (place : ℕ) (node next : Node) → slice_get nodes place ≡ Some node → IsAlike node next
    → AreAlike nodes (slice_set nodes place next)
with_node nodes place node next there same = record {
  guids = read_same node_guid nodes place node next there same.guid;
  ends = read_same end_port_guids nodes place node next there same.guids;
  counts = read_same port_count nodes place node next there same.count;
  right = read_same has_a_right_count nodes place node next there same.right;
  order = read_same is_in_order nodes place node next there same.order;
  switches = read_same is_switch nodes place node next there same.switch;
  holdings = λ all. All-set IsGoodNode nodes place next (same.good (all_have IsGoodNode nodes place node all there)) all;
}

pub linked_alike : (up : Bool) (at : PortRef) (nodes : List Node) → AreAlike nodes (nodes_linked up at nodes)
linked_alike up at nodes = by (slice_get nodes at.node) refl
  where
    by : (found : Option Node) → slice_get nodes at.node ≡ found → AreAlike nodes (nodes_linked up at nodes)
    by None is = rw is (itself nodes)
    by (Some node) is = rw is (with_node nodes at.node node (node_linked at.port up node) is (alike node at.port up))

both_alike : (one two three : List Node) → AreAlike one two → AreAlike two three → AreAlike one three
both_alike one two three first second = record {
  guids = second.guids ∙ first.guids;
  ends = second.ends ∙ first.ends;
  counts = second.counts ∙ first.counts;
  right = second.right ∙ first.right;
  order = second.order ∙ first.order;
  switches = second.switches ∙ first.switches;
  holdings = λ all. second.holdings (first.holdings all);
}

pub nodes_alike : (up : Bool) (a b : PortRef) (nodes : List Node) → AreAlike nodes (nodes_linked up a (nodes_linked up b nodes))
nodes_alike up a b nodes =
    both_alike nodes (nodes_linked up b nodes) (nodes_linked up a (nodes_linked up b nodes)) (linked_alike up b nodes) (linked_alike up a (nodes_linked up b nodes))

pub switch_same : (old new : List Node) → AreAlike old new → (place : ℕ) → is_switch_at new place ≡ is_switch_at old place
switch_same old new same place = or_same is_switch false old new place same.switches

pub port_same : (old new : List Node) → AreAlike old new → (at : PortRef) → is_port new at ≡ is_port old at
port_same old new same at = rw (or_same port_count 0 old new at.node same.counts) refl

right_same : (old new : List Node) → AreAlike old new → (cable : Cable) → is_right new cable ≡ is_right old cable
right_same old new same cable =
    rw (port_same old new same cable.first, port_same old new same cable.second, switch_same old new same cable.first.node, switch_same old new same cable.second.node) refl

-- ---- cables in another order
kept : {X : Type 0} (test other : X → Bool) (xs : List X) → list_all test xs ≡ true → list_all test (filter other xs) ≡ true
kept test other [] all = refl
kept test other (x ∷ xs) all =
    let parts = and_parts (test x) (list_all test xs) all in
    by (other x) parts.0 (kept test other xs parts.1)
  where
    by : (b : Bool) → test x ≡ true → list_all test (filter other xs) ≡ true
        → list_all test (if b then x ∷ filter other xs else filter other xs) ≡ true
    by true is rest = and_from (test x) _ is rest
    by false is rest = rest

joined : {X : Type 0} (test : X → Bool) (xs ys : List X) → list_all test xs ≡ true → list_all test ys ≡ true → list_all test (xs ++ ys) ≡ true
joined test xs ys one two = list_all-append test xs ys ∙ and_from (list_all test xs) _ one two

moved : {X : Type 0} (es xs ys : List X) → IsPermutation (es ++ (xs ++ ys)) (xs ++ (es ++ ys))
moved es xs ys =
    subst (λ (one : List _). IsPermutation one (xs ++ (es ++ ys))) (append_assoc es xs ys)
    (subst (IsPermutation ((es ++ xs) ++ ys)) (append_assoc xs es ys)
    (IsPermutation-append_left ys (es ++ xs) (xs ++ es) (IsPermutation-append_comm es xs)))

-- the ends of cables that pass a test, and those of the others
parted : (test : Cable → Bool) (cables : List Cable)
    → IsPermutation (flat_map ends_of cables) (flat_map ends_of (filter test cables) ++ flat_map ends_of (filter (λ cable. not (test cable)) cables))
parted test [] = IsPermutation-refl []
parted test (cable ∷ cables) = by (test cable) (parted test cables)
  where
    by : (b : Bool) → IsPermutation (flat_map ends_of cables) (flat_map ends_of (filter test cables) ++ flat_map ends_of (filter (λ cable. not (test cable)) cables))
        → IsPermutation (flat_map ends_of (cable ∷ cables))
        (flat_map ends_of (if b then cable ∷ filter test cables else filter test cables)
        ++ flat_map ends_of (if not b then cable ∷ filter (λ cable. not (test cable)) cables else filter (λ cable. not (test cable)) cables))
    by true rest = IsPermutation-append_right (ends_of cable) (flat_map ends_of cables) _ rest
    by false rest =
        IsPermutation-trans (flat_map ends_of (cable ∷ cables)) _ _ (IsPermutation-append_right (ends_of cable) (flat_map ends_of cables) _ rest)
        (moved (ends_of cable) (flat_map ends_of (filter test cables)) (flat_map ends_of (filter (λ cable. not (test cable)) cables)))

-- what a change makes of a fabric's cables: the same, in another order
record Reorders (old new : CablingState) : Type 0 where
  all : (test : Cable → Bool) → list_all test (old.cables ++ old.cut) ≡ true → list_all test (new.cables ++ new.cut) ≡ true
  ends : IsPermutation (flat_map ends_of (old.cables ++ old.cut)) (flat_map ends_of (new.cables ++ new.cut))

cut_reorders : (a b : PortRef) (old : CablingState) → Reorders old (cable_cut a b old)
cut_reorders a b old =
    let test = is_between a b in
    let taken = filter test old.cables in
    let left = filter (is_not_between a b) old.cables in
    record {
      all = λ some is.
          let parts = and_parts (list_all some old.cables) _ (sym (list_all-append some old.cables old.cut) ∙ is) in
          joined some left (old.cut ++ taken) (kept some (is_not_between a b) old.cables parts.0)
          (joined some old.cut taken parts.1 (kept some test old.cables parts.0));
      ends =
          let one = flat_map ends_of taken in
          let two = flat_map ends_of left in
          let three = flat_map ends_of old.cut in
          subst (λ (ends : List PortRef). IsPermutation ends (flat_map ends_of (left ++ (old.cut ++ taken)))) (sym (flat_map-append ends_of old.cables old.cut))
          (subst (IsPermutation (flat_map ends_of old.cables ++ three))
          (sym (flat_map-append ends_of left (old.cut ++ taken) ∙ ap (λ (ends : List PortRef). two ++ ends) (flat_map-append ends_of old.cut taken)))
          (IsPermutation-trans (flat_map ends_of old.cables ++ three) ((one ++ two) ++ three) (two ++ (three ++ one))
          (IsPermutation-append_left three (flat_map ends_of old.cables) (one ++ two) (parted test old.cables))
          (subst (λ (ends : List PortRef). IsPermutation ends (two ++ (three ++ one))) (sym (append_assoc one two three))
          (subst (IsPermutation (one ++ (two ++ three))) (append_assoc two three one) (IsPermutation-append_comm one (two ++ three))))));
    }

mended_reorders : (a b : PortRef) (old : CablingState) → Reorders old (cable_mended a b old)
mended_reorders a b old =
    let test = is_between a b in
    let taken = filter test old.cut in
    let left = filter (is_not_between a b) old.cut in
    record {
      all = λ some is.
          let parts = and_parts (list_all some old.cables) _ (sym (list_all-append some old.cables old.cut) ∙ is) in
          joined some (old.cables ++ taken) left (joined some old.cables taken parts.0 (kept some test old.cut parts.1))
          (kept some (is_not_between a b) old.cut parts.1);
      ends =
          let one = flat_map ends_of taken in
          let two = flat_map ends_of left in
          let three = flat_map ends_of old.cables in
          subst (λ (ends : List PortRef). IsPermutation ends (flat_map ends_of ((old.cables ++ taken) ++ left))) (sym (flat_map-append ends_of old.cables old.cut))
          (subst (IsPermutation (three ++ flat_map ends_of old.cut))
          (sym (flat_map-append ends_of (old.cables ++ taken) left ∙ ap (λ (ends : List PortRef). ends ++ two) (flat_map-append ends_of old.cables taken)))
          (subst (IsPermutation (three ++ flat_map ends_of old.cut)) (sym (append_assoc three one two))
          (IsPermutation-append_right three (flat_map ends_of old.cut) (one ++ two) (parted test old.cut))));
    }

reorders : (up : Bool) (a b : PortRef) (old : CablingState) → Reorders old (cabling_with up a b old)
reorders true a b old = mended_reorders a b old
reorders false a b old = cut_reorders a b old

-- ---- the SM port, which is no switch's, keeps its cable
pub not_there : (nodes : List Node) (a m : PortRef) → is_switch_at nodes a.node ≡ true → is_switch_at nodes m.node ≡ false → is_same_port a m ≡ false
not_there nodes a m switch none = by (a.node == m.node) refl
  where
    by : (b : Bool) → (a.node == m.node) ≡ b → (b && (a.port == m.port)) ≡ false
    by true same = absurd (false≢true (sym none ∙ ap (is_switch_at nodes) (sym (eqb-true a.node m.node same)) ∙ switch))
    by false same = refl

not_between : (nodes : List Node) (a b m : PortRef) (cable : Cable) → is_switch_at nodes a.node ≡ true → is_switch_at nodes b.node ≡ true
    → is_switch_at nodes m.node ≡ false → is_between a b cable ≡ true → ends_at m cable ≡ false
not_between nodes a b m cable at_a at_b none between =
    let no_a = not_there nodes a m at_a none in
    let no_b = not_there nodes b m at_b none in
    elim (or_cases (is_same_port cable.first a && is_same_port cable.second b) _ between) [
      | inl this ↦
          let parts = and_parts (is_same_port cable.first a) _ this in
          neither cable.first cable.second a b (same_port cable.first a parts.0) (same_port cable.second b parts.1) no_a no_b
      | inr other ↦
          let parts = and_parts (is_same_port cable.first b) _ other in
          neither cable.first cable.second b a (same_port cable.first b parts.0) (same_port cable.second a parts.1) no_b no_a
    ]
  where
    neither : (first second one two : PortRef) → first ≡ one → second ≡ two → is_same_port one m ≡ false → is_same_port two m ≡ false
        → (is_same_port first m || is_same_port second m) ≡ false
    neither first second one two is_one is_two no_one no_two = rw (is_one, is_two, no_one, no_two) refl

still_cabled : (a b m : PortRef) (cables : List Cable) → ((cable : Cable) → is_between a b cable ≡ true → ends_at m cable ≡ false)
    → is_cabled cables m ≡ true → is_cabled (filter (is_not_between a b) cables) m ≡ true
still_cabled a b m [] apart cabled = cabled
still_cabled a b m (cable ∷ cables) apart cabled = by (is_between a b cable) refl (still_cabled a b m cables apart)
  where
    or_rest : (one rest left : Bool) → (rest ≡ true → left ≡ true) → (one || rest) ≡ true → (one || left) ≡ true
    or_rest true rest left goes is = refl
    or_rest false rest left goes is = goes is

    by : (between : Bool) → is_between a b cable ≡ between
        → (is_cabled cables m ≡ true → is_cabled (filter (is_not_between a b) cables) m ≡ true)
        → is_cabled (if not between then cable ∷ filter (is_not_between a b) cables else filter (is_not_between a b) cables) m ≡ true
    by true is goes = goes (rw (apart cable is) at cabled)
    by false is goes = or_rest (ends_at m cable) (is_cabled cables m) (is_cabled (filter (is_not_between a b) cables) m) goes cabled

manager_cabled : (up : Bool) (a b m : PortRef) (old : CablingState) → ((cable : Cable) → is_between a b cable ≡ true → ends_at m cable ≡ false)
    → is_cabled old.cables m ≡ true → is_cabled (cabling_with up a b old).cables m ≡ true
manager_cabled true a b m old apart cabled =
    list_any-append (ends_at m) old.cables (filter (is_between a b) old.cut) ∙ rw cabled refl
manager_cabled false a b m old apart cabled = still_cabled a b m old.cables apart cabled

-- ---- the ports of the cable
some_right : (nodes : List Node) (a b : PortRef) (cables : List Cable) → list_all (is_right nodes) cables ≡ true → list_any (is_between a b) cables ≡ true
    → (is_port nodes a ≡ true) × (is_port nodes b ≡ true)
some_right nodes a b [] right some = absurd (false≢true some)
some_right nodes a b (cable ∷ cables) right some =
    let parts = and_parts (is_right nodes cable) _ right in
    elim (or_cases (is_between a b cable) _ some) [
      | inl between ↦
          let first = and_parts (is_port nodes cable.first) _ parts.0 in
          let second = and_parts (is_port nodes cable.second) _ first.1 in
          elim (or_cases (is_same_port cable.first a && is_same_port cable.second b) _ between) [
            | inl this ↦
                let ends = and_parts (is_same_port cable.first a) _ this in
                (named cable.first a (same_port cable.first a ends.0) first.0, named cable.second b (same_port cable.second b ends.1) second.0)
            | inr other ↦
                let ends = and_parts (is_same_port cable.first b) _ other in
                (named cable.second a (same_port cable.second a ends.1) second.0, named cable.first b (same_port cable.first b ends.0) first.0)
          ]
      | inr later ↦ some_right nodes a b cables parts.1 later
    ]
  where
    named : (one other : PortRef) → one ≡ other → is_port nodes one ≡ true → is_port nodes other ≡ true
    named one other same is = subst (λ (at : PortRef). is_port nodes at ≡ true) same is

candidates_right : (up : Bool) (fabric : FabricState) → list_all (is_right fabric.nodes) (all_cables fabric) ≡ true
    → list_all (is_right fabric.nodes) (candidates up fabric) ≡ true
candidates_right up fabric right =
    let parts = and_parts (list_all (is_right fabric.nodes) fabric.cables) _ (sym (list_all-append (is_right fabric.nodes) fabric.cables fabric.cut) ∙ right) in
    by up parts.0 parts.1
  where
    by : (b : Bool) → list_all (is_right fabric.nodes) fabric.cables ≡ true → list_all (is_right fabric.nodes) fabric.cut ≡ true
        → list_all (is_right fabric.nodes) (if b then fabric.cut else fabric.cables) ≡ true
    by true cables cut = cut
    by false cables cut = cables

-- what a change asks
pub record Asks (a b : PortRef) (up : Bool) (fabric : FabricState) : Type 0 where
  pub first : is_switch_at fabric.nodes a.node ≡ true
  pub second : is_switch_at fabric.nodes b.node ≡ true
  pub some : list_any (is_between a b) (candidates up fabric) ≡ true

pub asked : (a b : PortRef) (up : Bool) (fabric : FabricState) → can_change a b up fabric ≡ true → Asks a b up fabric
asked a b up fabric can =
    let one = and_parts (is_switch_at fabric.nodes a.node) _ can in
    let two = and_parts (is_switch_at fabric.nodes b.node) _ one.1 in
    record { first = one.0; second = two.0; some = two.1 }

pub are_ports : (a b : PortRef) (up : Bool) (fabric : FabricState) → IsGood fabric → can_change a b up fabric ≡ true
    → (is_port fabric.nodes a ≡ true) × (is_port fabric.nodes b ≡ true)
are_ports a b up fabric good can =
    some_right fabric.nodes a b (candidates up fabric) (candidates_right up fabric good.cables) (asked a b up fabric can).some

-- ---- the fabric
ends_same : (old new : List Node) → AreAlike old new → flat_map end_port_guids new ≡ flat_map end_port_guids old
ends_same old new same =
    sym (flat_map-map (λ guids. guids) end_port_guids new) ∙ ap (flat_map (λ guids. guids)) same.ends ∙ flat_map-map (λ guids. guids) end_port_guids old

pub stays_good : (a b : PortRef) (up : Bool) (fabric : FabricState) → IsGood fabric → can_change a b up fabric ≡ true → IsGood (changed a b up fabric)
stays_good a b up fabric good can =
    let same = nodes_alike up a b fabric.nodes in
    let old = fabric.nodes in
    let new = nodes_linked up a (nodes_linked up b fabric.nodes) in
    let asks = asked a b up fabric can in
    let order = reorders up a b (cabling_of fabric) in
    let next = cabling_with up a b (cabling_of fabric) in
    record {
      node_guids = rw same.guids good.node_guids;
      end_guids = rw (ends_same old new same) good.end_guids;
      counts = all_same has_a_right_count old new same.right ∙ good.counts;
      order = all_same is_in_order old new same.order ∙ good.order;
      holdings = same.holdings good.holdings;
      cables = (λ place. list_all (λ cable. right_same old new same cable place) (next.cables ++ next.cut)) ∙ order.all (is_right old) good.cables;
      once = IsDistinct-IsPermutation is_same_port ports_turn _ _ order.ends good.once;
      manager_port = port_same old new same fabric.manager ∙ good.manager_port;
      manager_adapter = switch_same old new same fabric.manager.node ∙ good.manager_adapter;
      manager_cabled = manager_cabled up a b fabric.manager (cabling_of fabric)
          (λ cable between. not_between old a b fabric.manager cable asks.first asks.second good.manager_adapter between) good.manager_cabled;
    }

pub cables_keep_good : CablesKeepGood
cables_keep_good fabric a b up good = by (can_change a b up fabric) refl
  where
    by : (can : Bool) → can_change a b up fabric ≡ can → IsGood (if can then changed a b up fabric else fabric)
    by true can = stays_good a b up fabric good can
    by false can = good
