-- The lines of lists that show a cable: one, if an end of it stands in a list.
use Rattle.std.proofs.Common.{ℕ, zero, suc, ◌+◌, ◌<◌, ◌≡◌, ◌⊎◌, ◌==◌, ◌∙◌, ap, ap₂, refl, sym, arith, ◌&&◌, ◌||◌, not, inl, inr, if◌then◌else◌}
use Rattle.std.proofs.Common.{Bool, true, false, List, [], ◌∷◌, length, nat_le, Option, Some, None, option_map, slice_get}
use Rattle.std.specs.Prelude.{filter, find}
use Rattle.std.specs.List.{IsDistinct, list_any, range_with_len}
use Rattle.std.specs.Option.{option_and_then}
use Rattle.std.proofs.lemmas.Bool.{cases_Bool, eq-eqb, eqb-true, leb-true, or_cases, or_right}
use Rattle.std.proofs.lemmas.List.{length-map}
use Rattle.std.proofs.lemmas.List.FromFn.{length-range_with_len}
use Rattle.std.proofs.lemmas.Map.Keys.{IsDistinct-tail}
use Rattle.std.proofs.lemmas.Option.{same_Some, slice_get-map, slice_get_within}
use Rattle.fabric_graph.proofs.DrawnLemmas.{and_both, clashing, listed_is, one_in_range, only}
use Rattle.fabric_graph.specs.Laws.{shows_cable}
use Rattle.fabric_graph.specs.Lists.{AttachmentState, is_in_list, is_listed, listed_attachment, may_be_listed, places, attachment_at, attachment_behind, attachment_in, attachment_of, attachments_of}
use Rattle.fabric_parts.specs.Cable.{ends_at, far_end, is_same_port, port}
use Rattle.fabric_parts.specs.declared.cable.Cable.{Cable}
use Rattle.fabric_parts.specs.declared.cable.PortRef.{PortRef}
use Rattle.step_results.proofs.DistinctLemmas.{none_shares}
use Rattle.step_results.proofs.ListLemmas.{all_there, range_at}
use Rattle.subnet_model.specs.Configuration.{ConfigurationState}
use Rattle.topo_file.specs.Node.{is_switch, is_switch_at, ports_at}
use Rattle.topo_file.specs.Sound.{AreSound, ends_at_ports, is_port, joins_right, shares_port}
use Rattle.topo_file.specs.Topology.{TopologyState}
use Rattle.topo_file.specs.declared.node.Node.{Node}

or_left : (a b : Bool) → a ≡ true → (a || b) ≡ true
or_left true b e = refl
or_left false b e = absurd (clashing (sym e))

and_of : (a b : Bool) → a ≡ true → b ≡ true → (a && b) ≡ true
and_of true b e f = f
and_of false b e f = absurd (clashing (sym e))

same_port : (a b : PortRef) → is_same_port a b ≡ true → a ≡ b
same_port a b e =
    let parts = and_both (a.node == b.node) (a.port == b.port) e in
    ap₂ port (eqb-true a.node b.node parts.0) (eqb-true a.port b.port parts.1)

port_same : (a b : PortRef) → a ≡ b → is_same_port a b ≡ true
port_same a b e =
    and_of (a.node == b.node) (a.port == b.port)
    (eq-eqb a.node b.node (ap (λ (p : PortRef). p.node) e)) (eq-eqb a.port b.port (ap (λ (p : PortRef). p.port) e))

-- ---- the one cable at a port
ends_at_end : (at : PortRef) (a b : Cable) → ends_at at a ≡ true → ends_at at b ≡ true → shares_port a b ≡ true
ends_at_end at a b one other = by (or_cases (is_same_port a.first at) (is_same_port a.second at) one)
  where
    by : (is_same_port a.first at ≡ true) ⊎ (is_same_port a.second at ≡ true) → shares_port a b ≡ true
    by (inl first) = or_left _ _ (ap (λ (p : PortRef). ends_at p b) (same_port a.first at first) ∙ other)
    by (inr second) = or_right (ends_at a.first b) _ (ap (λ (p : PortRef). ends_at p b) (same_port a.second at second) ∙ other)

shared : (cable : Cable) (cables : List Cable) (k : ℕ) (other : Cable) → slice_get cables k ≡ Some other → shares_port cable other ≡ true
    → list_any (shares_port cable) cables ≡ true
shared cable [] k other there shares = absurd cc
shared cable (c ∷ cs) zero other there shares =
    let same : c ≡ other = cc in or_left _ _ (ap (shares_port cable) same ∙ shares)
shared cable (c ∷ cs) (suc k) other there shares = or_right (shares_port cable c) _ (shared cable cs k other there shares)

found_at : (cables : List Cable) (k : ℕ) (cable : Cable) (at : PortRef) → IsDistinct shares_port cables → slice_get cables k ≡ Some cable
    → ends_at at cable ≡ true → find (ends_at at) cables ≡ Some cable
found_at [] k cable at own there ends = absurd cc
found_at (c ∷ cs) zero cable at own there ends =
    let same : c ≡ cable = cc in
    let passes : ends_at at c ≡ true = ap (ends_at at) same ∙ ends in rw passes (ap (λ (one : Cable). Some one) same)
found_at (c ∷ cs) (suc k) cable at own there ends = elim (cases_Bool (ends_at at c)) [
  | inl e ↦ absurd (clashing (sym (shared c cs k cable there (ends_at_end at c cable e ends)) ∙ none_shares shares_port c cs own))
  | inr e ↦ rw e (found_at cs k cable at (IsDistinct-tail shares_port c cs own) there ends)
]

-- ---- what a test leaves of numbers
pub none_kept : (test : ℕ → Bool) → ((place : ℕ) → test place ≡ false) → (xs : List ℕ) → filter test xs ≡ []
none_kept test none [] = refl
none_kept test none (x ∷ xs) = rw (none x) (none_kept test none xs)

pub same_kept : (test other : ℕ → Bool) → ((place : ℕ) → test place ≡ other place) → (xs : List ℕ) → filter test xs ≡ filter other xs
same_kept test other same [] = refl
same_kept test other same (x ∷ xs) = rw (same x, same_kept test other same xs) refl

-- ---- what is so of a node that stands in a list
pub record IsListedNode (plan : TopologyState) (subnet : ConfigurationState) (place : ℕ) (attachment : AttachmentState) : Type 0 where
  pub low : place < length plan.nodes
  pub adapter : is_switch_at plan.nodes place ≡ false
  pub one_port : ports_at plan.nodes place ≡ 1
  pub far : PortRef
  pub far_is : far_end plan.cables (port place 1) ≡ Some far
  pub switch_is : attachment.switch ≡ far.node
  pub port_is : attachment.port ≡ far.port

pub not_true : (b : Bool) → not b ≡ true → b ≡ false
not_true true e = absurd (clashing (sym e))
not_true false e = refl

module _ (plan : TopologyState) (subnet : ConfigurationState) where
  abbrev attachments : List (Option AttachmentState)
  attachments = attachments_of plan subnet

  of_far : (place : ℕ) (node : Node) (attachment : AttachmentState) → place < length plan.nodes → slice_get plan.nodes place ≡ Some node
      → may_be_listed plan node ≡ true → (far : Option PortRef) → far_end plan.cables (port place 1) ≡ far
      → option_map (attachment_behind subnet node) far ≡ Some attachment → IsListedNode plan subnet place attachment
  of_far place node attachment low at may None e is = absurd cc
  of_far place node attachment low at may (Some far) e is =
      let same : attachment_behind subnet node far ≡ attachment = cc in
      let parts = and_both (not (is_switch node)) _ may in
      let ports = and_both (node.ports == 1) _ parts.1 in
      record {
        low = low;
        adapter = rw at (not_true (is_switch node) parts.0);
        one_port = rw at (eqb-true node.ports 1 ports.0);
        far = far;
        far_is = e;
        switch_is = ap (λ (s : AttachmentState). s.switch) (sym same);
        port_is = ap (λ (s : AttachmentState). s.port) (sym same);
      }

  of_node : (place : ℕ) (attachment : AttachmentState) → place < length plan.nodes → (node : Option Node) → slice_get plan.nodes place ≡ node
      → option_and_then (attachment_of plan subnet place) node ≡ Some attachment → IsListedNode plan subnet place attachment
  of_node place attachment low None at is = absurd cc
  of_node place attachment low (Some node) at is = by (may_be_listed plan node) refl
    where
      by : (b : Bool) → may_be_listed plan node ≡ b → IsListedNode plan subnet place attachment
      by true may = of_far place node attachment low at may (far_end plan.cables (port place 1)) refl (sym (rw may refl) ∙ is)
      by false may = absurd (none (sym (rw may refl) ∙ is))
        where
          none : None ≡ Some attachment → ⊥
          none e = cc

  attachment_is : (place : ℕ) → attachment_in attachments place ≡ option_and_then (λ attachment. attachment) (option_map (attachment_at plan subnet) (slice_get (range_with_len 0 (length plan.nodes)) place))
  attachment_is place = ap (option_and_then (λ (attachment : Option AttachmentState). attachment)) (slice_get-map (attachment_at plan subnet) (range_with_len 0 (length plan.nodes)) place)

  listed_node : (place : ℕ) (attachment : AttachmentState) → listed_attachment attachments place ≡ Some attachment → IsListedNode plan subnet place attachment
  listed_node place attachment listed = by (slice_get (range_with_len 0 (length plan.nodes)) place) refl
    where
      has : option_and_then (λ s. s) (option_map (attachment_at plan subnet) (slice_get (range_with_len 0 (length plan.nodes)) place)) ≡ Some attachment
      has = sym (attachment_is place) ∙ (listed_is attachments place attachment listed).0

      none : None ≡ Some attachment → ⊥
      none e = cc

      by : (given : Option ℕ) → slice_get (range_with_len 0 (length plan.nodes)) place ≡ given → IsListedNode plan subnet place attachment
      by None e = absurd (none (sym (rw e refl) ∙ has))
      by (Some k) e =
          let long = length-range_with_len 0 (length plan.nodes) in
          let within = slice_get_within (range_with_len 0 (length plan.nodes)) place k e in
          let low : place < length plan.nodes = omega (arith, long, within) in
          let there : k ≡ 0 + place = same_Some k (0 + place) (sym e ∙ range_at 0 (length plan.nodes) place low) in
          let here : k ≡ place = omega (arith, there) in
          of_node place attachment low (slice_get plan.nodes place) refl (ap (attachment_at plan subnet) (sym here) ∙ sym (rw e refl) ∙ has)

  listed_some : (place : ℕ) → is_listed attachments place ≡ true → (attachment : AttachmentState) × (listed_attachment attachments place ≡ Some attachment)
  listed_some place is = by (listed_attachment attachments place) refl
    where
      by : (given : Option AttachmentState) → listed_attachment attachments place ≡ given → (attachment : AttachmentState) × (listed_attachment attachments place ≡ Some attachment)
      by None e = absurd (clashing (sym is ∙ rw e refl))
      by (Some attachment) e = (attachment, e)

  pub listed_is_adapter : (place : ℕ) → is_listed attachments place ≡ true → is_switch_at plan.nodes place ≡ false
  listed_is_adapter place is = let own = listed_some place is in (listed_node place own.0 own.1).adapter

  module _ (k : ℕ) (cable : Cable) (sound : AreSound plan.nodes plan.cables) (there : slice_get plan.cables k ≡ Some cable) where
    ports_right : ends_at_ports plan.nodes cable ≡ true
    ports_right = all_there (ends_at_ports plan.nodes) plan.cables k cable sound.ends there

    joined_right : joins_right plan.nodes cable ≡ true
    joined_right = all_there (joins_right plan.nodes) plan.cables k cable sound.joins there

    other_nodes : (cable.first.node == cable.second.node) ≡ false
    other_nodes = not_true (cable.first.node == cable.second.node) (and_both (not (cable.first.node == cable.second.node)) _ joined_right).0

    -- an end of the cable at a node of one port is its port 1
    first_port : (end : PortRef) → is_port plan.nodes end ≡ true → ports_at plan.nodes end.node ≡ 1 → end ≡ port end.node 1
    first_port end right one =
        let parts = and_both (nat_le 1 end.port) (nat_le end.port (ports_at plan.nodes end.node)) right in
        let low = leb-true 1 end.port parts.0 in
        let high = leb-true end.port (ports_at plan.nodes end.node) parts.1 in
        ap (port end.node) (omega (arith, low, high, one))

    -- ---- the line of a listed node at the cable
    shown_first : (place : ℕ) (attachment : AttachmentState) → cable.first.node ≡ place → listed_attachment attachments place ≡ Some attachment → shows_cable attachments cable place ≡ true
    shown_first place attachment at listed =
        let is = listed_node place attachment listed in
        let first : cable.first ≡ port place 1 =
        first_port cable.first (and_both (is_port plan.nodes cable.first) _ ports_right).0 (ap (ports_at plan.nodes) at ∙ is.one_port) ∙ ap (λ (n : ℕ). port n 1) at in
        let same = port_same cable.first (port place 1) first in
        let ends : ends_at (port place 1) cable ≡ true = or_left _ _ same in
        let found = found_at plan.cables k cable (port place 1) sound.own_ports there ends in
        let far : far_end plan.cables (port place 1) ≡ Some cable.second = rw (found, same) refl in
        let far_is : is.far ≡ cable.second = same_some (sym is.far_is ∙ far) in
        let second : cable.second ≡ port attachment.switch attachment.port = sym far_is ∙ ap₂ port (sym is.switch_is) (sym is.port_is) in
        rw listed (or_left _ _ (and_of _ _ same (port_same cable.second (port attachment.switch attachment.port) second)))
      where
        same_some : {a b : PortRef} → Some a ≡ Some b → a ≡ b
        same_some e = cc

    shown_second : (place : ℕ) (attachment : AttachmentState) → cable.second.node ≡ place → listed_attachment attachments place ≡ Some attachment → shows_cable attachments cable place ≡ true
    shown_second place attachment at listed =
        let is = listed_node place attachment listed in
        let second : cable.second ≡ port place 1 =
        first_port cable.second (and_both (is_port plan.nodes cable.first) _ ports_right).1 (ap (ports_at plan.nodes) at ∙ is.one_port) ∙ ap (λ (n : ℕ). port n 1) at in
        let same = port_same cable.second (port place 1) second in
        let ends : ends_at (port place 1) cable ≡ true = or_right (is_same_port cable.first (port place 1)) _ same in
        let found = found_at plan.cables k cable (port place 1) sound.own_ports there ends in
        let elsewhere : (cable.first.node == place) ≡ false = ap (λ (n : ℕ). cable.first.node == n) (sym at) ∙ other_nodes in
        let differ : is_same_port cable.first (port place 1) ≡ false = rw elsewhere refl in
        let far : far_end plan.cables (port place 1) ≡ Some cable.first = rw (found, differ) refl in
        let far_is : is.far ≡ cable.first = same_some (sym is.far_is ∙ far) in
        let first : cable.first ≡ port attachment.switch attachment.port = sym far_is ∙ ap₂ port (sym is.switch_is) (sym is.port_is) in
        rw listed (or_right (is_same_port cable.first (port place 1) && is_same_port cable.second (port attachment.switch attachment.port)) _
        (and_of _ _ (port_same cable.first (port attachment.switch attachment.port) first) same))
      where
        same_some : {a b : PortRef} → Some a ≡ Some b → a ≡ b
        same_some e = cc

    -- ---- a line that shows the cable is one of its ends'
    shows_end : (place : ℕ) → shows_cable attachments cable place ≡ true
        → ((cable.first.node ≡ place) ⊎ (cable.second.node ≡ place)) × ((attachment : AttachmentState) × (listed_attachment attachments place ≡ Some attachment))
    shows_end place shows = by (listed_attachment attachments place) refl
      where
        Ends : Type 0
        Ends = ((cable.first.node ≡ place) ⊎ (cable.second.node ≡ place)) × ((attachment : AttachmentState) × (listed_attachment attachments place ≡ Some attachment))

        by_end : (attachment : AttachmentState) → listed_attachment attachments place ≡ Some attachment
            → (is_same_port cable.first (port place 1) && is_same_port cable.second (port attachment.switch attachment.port) ≡ true)
            ⊎ (is_same_port cable.first (port attachment.switch attachment.port) && is_same_port cable.second (port place 1) ≡ true)
            → ((cable.first.node ≡ place) ⊎ (cable.second.node ≡ place)) × ((attachment : AttachmentState) × (listed_attachment attachments place ≡ Some attachment))
        by_end attachment e (inl both) =
            (inl (ap (λ (p : PortRef). p.node) (same_port cable.first (port place 1) (and_both (is_same_port cable.first (port place 1)) _ both).0)), (attachment, e))
        by_end attachment e (inr both) =
            (inr (ap (λ (p : PortRef). p.node) (same_port cable.second (port place 1) (and_both (is_same_port cable.first (port attachment.switch attachment.port)) _ both).1)), (attachment, e))

        by : (given : Option AttachmentState) → listed_attachment attachments place ≡ given
            → ((cable.first.node ≡ place) ⊎ (cable.second.node ≡ place)) × ((attachment : AttachmentState) × (listed_attachment attachments place ≡ Some attachment))
        by None e = absurd (clashing (sym shows ∙ rw e refl))
        by (Some attachment) e = by_end attachment e (or_cases _ _ (sym (rw e refl) ∙ shows))

    -- not both ends of a cable stand in lists
    one_listed : (one other : AttachmentState) → listed_attachment attachments cable.first.node ≡ Some one → listed_attachment attachments cable.second.node ≡ Some other → ⊥
    one_listed one other first second =
        let a = (listed_node cable.first.node one first).adapter in
        let b = (listed_node cable.second.node other second).adapter in
        clashing (sym (and_both (not (cable.first.node == cable.second.node)) _ joined_right).1 ∙ rw (a, b) refl)

    -- ---- how many lines show the cable
    one_line : (place : ℕ) → place < length plan.nodes → shows_cable attachments cable place ≡ true
        → ((other : ℕ) → shows_cable attachments cable other ≡ true → other ≡ place) → length (filter (shows_cable attachments cable) (places attachments)) ≡ 1
    one_line place low shows alone =
        let long : length attachments ≡ length plan.nodes = length-map (range_with_len 0 (length plan.nodes)) (attachment_at plan subnet) ∙ length-range_with_len 0 (length plan.nodes) in
        ap length (same_kept (shows_cable attachments cable) (only place) same (places attachments) ∙ one_in_range place 0 (length attachments) (omega arith) (omega (arith, long, low)))
      where
        same : (other : ℕ) → shows_cable attachments cable other ≡ (other == place)
        same other = by (shows_cable attachments cable other) refl (other == place) refl
          where
            by : (b : Bool) → shows_cable attachments cable other ≡ b → (c : Bool) → (other == place) ≡ c → b ≡ c
            by true e true f = refl
            by true e false f = absurd (clashing (sym (eq-eqb other place (alone other e)) ∙ f))
            by false e true f = absurd (clashing (sym shows ∙ ap (shows_cable attachments cable) (sym (eqb-true other place f)) ∙ e))
            by false e false f = refl

    at_first : is_listed attachments cable.first.node ≡ true → length (filter (shows_cable attachments cable) (places attachments)) ≡ 1
    at_first is =
        let own = listed_some cable.first.node is in
        one_line cable.first.node (listed_node cable.first.node own.0 own.1).low (shown_first cable.first.node own.0 refl own.1)
        (λ other shows. by other own.0 own.1 (shows_end other shows))
      where
        by : (other : ℕ) (attachment : AttachmentState) → listed_attachment attachments cable.first.node ≡ Some attachment
            → ((cable.first.node ≡ other) ⊎ (cable.second.node ≡ other)) × ((attachment : AttachmentState) × (listed_attachment attachments other ≡ Some attachment)) → other ≡ cable.first.node
        by other attachment e (inl first, more) = sym first
        by other attachment e (inr second, more) = absurd (one_listed attachment more.0 e (ap (listed_attachment attachments) second ∙ more.1))

    at_second : is_listed attachments cable.second.node ≡ true → length (filter (shows_cable attachments cable) (places attachments)) ≡ 1
    at_second is =
        let own = listed_some cable.second.node is in
        one_line cable.second.node (listed_node cable.second.node own.0 own.1).low (shown_second cable.second.node own.0 refl own.1)
        (λ other shows. by other own.0 own.1 (shows_end other shows))
      where
        by : (other : ℕ) (attachment : AttachmentState) → listed_attachment attachments cable.second.node ≡ Some attachment
            → ((cable.first.node ≡ other) ⊎ (cable.second.node ≡ other)) × ((attachment : AttachmentState) × (listed_attachment attachments other ≡ Some attachment)) → other ≡ cable.second.node
        by other attachment e (inl first, more) = absurd (one_listed more.0 attachment (ap (listed_attachment attachments) first ∙ more.1) e)
        by other attachment e (inr second, more) = sym second

    at_none : is_listed attachments cable.first.node ≡ false → is_listed attachments cable.second.node ≡ false
        → length (filter (shows_cable attachments cable) (places attachments)) ≡ 0
    at_none first second = ap length (none_kept (shows_cable attachments cable) none (places attachments))
      where
        elsewhere : (place : ℕ) → ((cable.first.node ≡ place) ⊎ (cable.second.node ≡ place)) × ((attachment : AttachmentState) × (listed_attachment attachments place ≡ Some attachment)) → ⊥
        elsewhere place (inl at, more) = clashing (sym (rw more.1 refl) ∙ ap (is_listed attachments) (sym at) ∙ first)
        elsewhere place (inr at, more) = clashing (sym (rw more.1 refl) ∙ ap (is_listed attachments) (sym at) ∙ second)

        none : (place : ℕ) → shows_cable attachments cable place ≡ false
        none place = by (shows_cable attachments cable place) refl
          where
            by : (b : Bool) → shows_cable attachments cable place ≡ b → b ≡ false
            by true e = absurd (elsewhere place (shows_end place e))
            by false e = refl

-- one line shows a cable of a list, and none another
pub lines_of_cable : (plan : TopologyState) (subnet : ConfigurationState) (k : ℕ) (cable : Cable) → AreSound plan.nodes plan.cables → slice_get plan.cables k ≡ Some cable
    → length (filter (shows_cable (attachments_of plan subnet) cable) (places (attachments_of plan subnet))) ≡ (if is_in_list (attachments_of plan subnet) cable then 1 else 0)
lines_of_cable plan subnet k cable sound there = by (is_listed (attachments_of plan subnet) cable.first.node) refl (is_listed (attachments_of plan subnet) cable.second.node) refl
  where
    by : (a : Bool) → is_listed (attachments_of plan subnet) cable.first.node ≡ a → (b : Bool) → is_listed (attachments_of plan subnet) cable.second.node ≡ b
        → length (filter (shows_cable (attachments_of plan subnet) cable) (places (attachments_of plan subnet))) ≡ (if is_in_list (attachments_of plan subnet) cable then 1 else 0)
    by true e b f = at_first plan subnet k cable sound there e ∙ sym (rw e refl)
    by false e true f = at_second plan subnet k cable sound there f ∙ sym (rw (e, f) refl)
    by false e false f = at_none plan subnet k cable sound there e f ∙ sym (rw (e, f) refl)
