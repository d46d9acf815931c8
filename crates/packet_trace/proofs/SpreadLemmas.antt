-- The search for all paths of a packet to a multicast LID: what it says at each port, and that it comes to each.
use Rattle.std.proofs.Common.{ℕ, zero, suc, ◌+◌, ◌-◌, ◌*◌, ◌≡◌, ◌<◌, ◌≤◌, ◌==◌, ◌&&◌, ◌||◌, ◌∙◌, ◌⊎◌, inl, inr, not, ap, refl, sym, subst, arith, Bool, true, false, if◌then◌else◌, List, [], ◌∷◌, ◌++◌, length, take, slice_get, Option, Some, None}
use Rattle.std.specs.List.{Contains, IsDistinct, list_any}
use Rattle.std.specs.Option.{option_map_or, option_to_list}
use Rattle.std.proofs.lemmas.Bool.{and_parts, cases_Bool, cases_lt}
use Rattle.std.proofs.lemmas.List.{append-nil, append_assoc}
use Rattle.std.proofs.lemmas.List.Elements.{Contains-append_cases, Contains-append_left, Contains-append_right}
use Rattle.std.proofs.lemmas.Map.Keys.{IsDistinct-push}
use Rattle.std.proofs.lemmas.Option.{none-some, same_Some, slice_get_past}
use Rattle.data_packet.specs.declared.packet.Packet.{Packet}
use Rattle.fabric_parts.specs.Cable.{far_end, is_same_port}
use Rattle.fabric_parts.specs.Lid.{is_multicast}
use Rattle.fabric_parts.specs.declared.cable.Cable.{Cable}
use Rattle.fabric_parts.specs.declared.cable.PortRef.{PortRef}
use Rattle.indexmap.specs.IndexSet.{insert_key}
use Rattle.fabric_wire.proofs.SpreadLemmas.{GrowsBelow, is_grown, not_by, nothing_yet}
use Rattle.fabric_wire.proofs.SpreadLemmas as search
use Rattle.fabric_wire.specs.Spreading.{AreReached, IsGrown, has_port}
use Rattle.packet_trace.proofs.DeliveryLemmas.{at_first, in_one, nothing_in}
use Rattle.packet_trace.specs.Spread.{SpreadState, at_node, at_port, at_switch, ends_by, has_out_below, is_out, outs_below, spread_from, spread_of, turn_out, with_out}
use Rattle.packet_trace.specs.Trace.{next_after, step, turn_by}
use Rattle.packet_trace.specs.declared.turn.Step.{Step}
use Rattle.packet_trace.specs.declared.turn.Turn.{Turn}
use Rattle.packet_trace.specs.declared.turn.Turn.TheVariants.{DropsInbound, DropsMask, Takes, DropsOutbound, NoCable, Meets, GoesOut, Accepts, DropsKey}
use Rattle.smp_wire.proofs.WayLemmas.{in_none}
use Rattle.smp_wire.specs.Deliveries.{adapter_at, sends_at}
use Rattle.port_model.specs.AdapterState.{AdapterState}
use Rattle.port_model.specs.Packets.{accepts_packet}
use Rattle.smp_wire.proofs.CableLemmas.{ports_equiv}
use Rattle.smp_wire.specs.FabricState.{FabricState, adapter_port}
use Rattle.smp_wire.specs.declared.node.Node.{Node}
use Rattle.smp_wire.specs.declared.node.Node.TheVariants.{Switch, Adapter}
use Rattle.switch_model.specs.Forwarding.{passes_inbound, passes_outbound}
use Rattle.switch_model.specs.Multicast.{is_in_masks}
use Rattle.switch_model.specs.SwitchState.{SwitchState, num_ports}

-- ---- in lists
true-false : (b : Bool) → b ≡ true → b ≡ false → ⊥
true-false true is other = cc
true-false false is other = cc

none_differ : IsDistinct is_same_port []
unfolding IsDistinct
none_differ = tt

distinct_with : (known : List PortRef) (there : PortRef) → IsDistinct is_same_port known → IsDistinct is_same_port (insert_key is_same_port known there)
distinct_with known there each = elim (cases_Bool (list_any (is_same_port there) known)) [
  | inl among ↦ rw among each
  | inr fresh ↦ rw fresh (IsDistinct-push ports_equiv known there each fresh)
]

-- ---- out of one port of a switch
no_way : (cables : List Cable) (here : PortRef) (out : ℕ) (itself kept : Bool)
    → next_after cables here (if itself then Takes else (if kept then DropsOutbound out else NoCable out)) ≡ None
no_way cables here out true kept = refl
no_way cables here out false true = refl
no_way cables here out false false = refl

module _ (cables : List Cable) (held : SwitchState) (packet : Packet) (here : PortRef) where
  abbrev end_at : ℕ → PortRef
  end_at out = record { node = here.node; port = out }

  -- where it goes on to was not known
  fresh_by : (known : List PortRef) (out : ℕ) (next there : PortRef) (kept again : Bool) → far_end cables (end_at out) ≡ Some there
      → list_any (is_same_port there) known ≡ again
      → next_after cables here (if kept then DropsOutbound out else (if again then Meets out else GoesOut out)) ≡ Some next
      → list_any (is_same_port next) known ≡ false
  fresh_by known out next there true again far is leads = absurd (cc)
  fresh_by known out next there false true far is leads = absurd (cc)
  fresh_by known out next there false false far is leads =
      ap (λ (p : PortRef). list_any (is_same_port p) known) (same_Some next there (sym leads ∙ far)) ∙ is

  is_fresh : (known : List PortRef) (out : ℕ) (next : PortRef) (far : Option PortRef) → far_end cables (end_at out) ≡ far
      → next_after cables here (turn_out held packet known out far) ≡ Some next → list_any (is_same_port next) known ≡ false
  is_fresh known out next None far leads =
      absurd (none-some next (sym (no_way cables here out (out == 0) (not (passes_outbound held.ports out packet.p_key))) ∙ leads))
  is_fresh known out next (Some there) far leads =
      fresh_by known out next there (not (passes_outbound held.ports out packet.p_key)) (list_any (is_same_port there) known) far refl leads

  pub is_inserted : (out : ℕ) (spread : SpreadState) (next : PortRef) (turn : Turn)
      → turn ≡ turn_out held packet spread.known out (far_end cables (end_at out)) → next_after cables here turn ≡ Some next
      → record { known = insert_key is_same_port spread.known next; steps = spread.steps ++ step here turn ∷ [] }
      ≡ with_out cables held packet here out spread
  is_inserted out spread next turn is leads =
      let new : next_after cables here (turn_out held packet spread.known out (far_end cables (end_at out))) ≡ Some next =
      ap (next_after cables here) (sym is) ∙ leads in
      let fresh = is_fresh spread.known out next (far_end cables (end_at out)) refl new in
      rw (fresh, is, new) refl

  never : (known : List PortRef) (out : ℕ) (far : Option PortRef) → turn_out held packet known out far ≡ Accepts → ⊥
  never known out None is = by (out == 0) (not (passes_outbound held.ports out packet.p_key)) is
    where
      by : (itself kept : Bool) → (if itself then Takes else (if kept then DropsOutbound out else NoCable out)) ≡ Accepts → ⊥
      by true kept is = cc
      by false true is = cc
      by false false is = cc
  never known out (Some there) is = by (not (passes_outbound held.ports out packet.p_key)) (list_any (is_same_port there) known) is
    where
      by : (kept again : Bool) → (if kept then DropsOutbound out else (if again then Meets out else GoesOut out)) ≡ Accepts → ⊥
      by true again is = cc
      by false true is = cc
      by false false is = cc

  -- ---- out of the ports of a switch
  module _ (nodes : List Node) (multicast : is_multicast packet.dlid ≡ true) (switch : slice_get nodes here.node ≡ Some (Switch held))
      (inbound : passes_inbound held.ports here.port packet.p_key ≡ true) where
    sends_is : (out : ℕ) → sends_at nodes here packet out
        ≡ (not (out == here.port) && (is_in_masks held.masks packet.dlid out && passes_outbound held.ports out packet.p_key))
    sends_is out = rw (switch, multicast, inbound) refl

    sends_by : (out : ℕ) → is_out held here.port packet out ≡ true → passes_outbound held.ports out packet.p_key ≡ true
        → sends_at nodes here packet out ≡ true
    sends_by out is passes =
        let parts = and_parts (is_in_masks held.masks packet.dlid out) (not (out == here.port)) is in
        sends_is out ∙ rw (parts.1, parts.0, passes) refl

    kept_in : (out : ℕ) → passes_outbound held.ports out packet.p_key ≡ false → sends_at nodes here packet out ≡ false
    kept_in out kept = sends_is out ∙ by (not (out == here.port)) (is_in_masks held.masks packet.dlid out) (passes_outbound held.ports out packet.p_key) kept
      where
        by : (a b c : Bool) → c ≡ false → (a && (b && c)) ≡ false
        by true true c is = is
        by true false c is = refl
        by false b c is = refl

    not_out : (out : ℕ) → is_out held here.port packet out ≡ false → sends_at nodes here packet out ≡ false
    not_out out is = sends_is out ∙ by (not (out == here.port)) (is_in_masks held.masks packet.dlid out) (passes_outbound held.ports out packet.p_key) is
      where
        by : (a b c : Bool) → (b && a) ≡ false → (a && (b && c)) ≡ false
        by true true c is = absurd (cc)
        by true false c is = refl
        by false b c is = refl

    goes_there : (n : ℕ) (old new : List PortRef) (there : PortRef) (passes again : Bool) → passes_outbound held.ports n packet.p_key ≡ passes
        → list_any (is_same_port there) new ≡ again → GrowsBelow nodes cables packet here n old new → IsDistinct is_same_port old
        → is_out held here.port packet n ≡ true → far_end cables (end_at n) ≡ Some there
        → GrowsBelow nodes cables packet here (n + 1) old
        (new ++ option_to_list (next_after cables here (if not passes then DropsOutbound n else (if again then Meets n else GoesOut n))))
    goes_there n old new there false again kept is grown each out far =
        rw (append-nil new) (not_by nodes cables packet here n old new grown (λ next sends cable. true-false _ sends (kept_in n kept)))
    goes_there n old new there true true passes is grown each out far =
        let more = search.goes_by nodes cables packet here there n old new grown (sends_by n out passes) far (distinct_with new there (grown.differ each)) in
        rw (append-nil new) (rw is at more)
    goes_there n old new there true false passes is grown each out far =
        let more = search.goes_by nodes cables packet here there n old new grown (sends_by n out passes) far (distinct_with new there (grown.differ each)) in
        rw far (rw is at more)

    goes_out : (n : ℕ) (old new : List PortRef) (far : Option PortRef) → far_end cables (end_at n) ≡ far
        → GrowsBelow nodes cables packet here n old new → IsDistinct is_same_port old → is_out held here.port packet n ≡ true
        → GrowsBelow nodes cables packet here (n + 1) old (new ++ option_to_list (next_after cables here (turn_out held packet new n far)))
    goes_out n old new None far grown each out =
        rw (no_way cables here n (n == 0) (not (passes_outbound held.ports n packet.p_key)), append-nil new)
        (not_by nodes cables packet here n old new grown (λ next sends cable. none-some next (sym far ∙ cable)))
    goes_out n old new (Some there) far grown each out =
        goes_there n old new there (passes_outbound held.ports n packet.p_key) (list_any (is_same_port there) new) refl refl grown each out far

    up_to_next : (n : ℕ) (old new : List PortRef) → GrowsBelow nodes cables packet here (n + 1) old new
        → GrowsBelow nodes cables packet here (suc n) old new
    up_to_next n old new grown =
        let next : n + 1 ≡ suc n = omega arith in
        subst (λ (k : ℕ). GrowsBelow nodes cables packet here k old new) next grown

    record IsBelow (n : ℕ) (old new : SpreadState) : Type 0 where
      more : List Step
      kept : new.steps ≡ old.steps ++ more
      grows : GrowsBelow nodes cables packet here n old.known new.known
      all : (one : Step) → Contains more one → one.at ≡ here
      some : has_out_below n held here.port packet ≡ true → (turn : Turn) × Contains more (step here turn)
      refused : (one : Step) → Contains more one → one.turn ≡ Accepts → ⊥

    by_out : (n : ℕ) (old before : SpreadState) (out : Bool) → is_out held here.port packet n ≡ out → IsDistinct is_same_port old.known
        → IsBelow n old before → IsBelow (suc n) old (if out then with_out cables held packet here n before else before)
    by_out n old before false is each so_far = record {
      more = so_far.more;
      kept = so_far.kept;
      grows = up_to_next n old.known before.known
          (not_by nodes cables packet here n old.known before.known so_far.grows (λ next sends cable. true-false _ sends (not_out n is)));
      all = so_far.all;
      some = λ has. so_far.some (by (has_out_below n held here.port packet) (is_out held here.port packet n) is has);
      refused = so_far.refused;
    }
      where
        by : (a b : Bool) → b ≡ false → (a || b) ≡ true → a ≡ true
        by true b is has = refl
        by false b is has = absurd (true-false b has is)
    by_out n old before true is each so_far =
        let turn = turn_out held packet before.known n (far_end cables (end_at n)) in
        let last = step here turn in
        record {
          more = so_far.more ++ last ∷ [];
          kept = ap (λ (steps : List Step). steps ++ last ∷ []) so_far.kept ∙ append_assoc old.steps so_far.more (last ∷ []);
          grows = up_to_next n old.known _ (goes_out n old.known before.known (far_end cables (end_at n)) refl so_far.grows each is);
          all = λ one among. elim (Contains-append_cases so_far.more (last ∷ []) one among) [
            | inl earlier ↦ so_far.all one earlier
            | inr now ↦ ap (λ (s : Step). s.at) (in_one last one now)
          ];
          some = λ has. (turn, Contains-append_right so_far.more (last ∷ []) last (at_first last []));
          refused = λ one among accepts. elim (Contains-append_cases so_far.more (last ∷ []) one among) [
            | inl earlier ↦ so_far.refused one earlier accepts
            | inr now ↦ never before.known n (far_end cables (end_at n)) (ap (λ (s : Step). s.turn) (sym (in_one last one now)) ∙ accepts)
          ];
        }

    are_below : (n : ℕ) (old : SpreadState) → IsDistinct is_same_port old.known → IsBelow n old (outs_below n cables held packet here old)
    are_below zero old each = record {
      more = [];
      kept = sym (append-nil old.steps);
      grows = nothing_yet nodes cables packet here old.known;
      all = λ one among. absurd (nothing_in one among);
      some = λ none. absurd (cc);
      refused = λ one among accepts. nothing_in one among;
    }
    are_below (suc n) old each =
        by_out n old (outs_below n cables held packet here old) (is_out held here.port packet n) refl each (are_below n old each)

    -- no packet leaves by a port that the switch has not
    low_ports : (out : ℕ) → sends_at nodes here packet out ≡ true → out < num_ports held + 1
    low_ports out sends = elim (cases_lt out (length held.ports)) [
      | inl low ↦ omega (arith, low)
      | inr high ↦
          let none : slice_get held.ports out ≡ None = slice_get_past held.ports out high in
          absurd (true-false _ sends (kept_in out (rw none refl)))
    ]

    none_out : (n out : ℕ) → has_out_below n held here.port packet ≡ false → out < n → is_out held here.port packet out ≡ false
    none_out zero out none low = absurd (omega (arith, low))
    none_out (suc n) out none low = elim (cases_lt out n) [
      | inl lower ↦ none_out n out (first (has_out_below n held here.port packet) (is_out held here.port packet n) none) lower
      | inr other ↦
          let same : n ≡ out = omega (arith, low, other) in
          subst (λ (k : ℕ). is_out held here.port packet k ≡ false) same
          (second (has_out_below n held here.port packet) (is_out held here.port packet n) none)
    ]
      where
        first : (a b : Bool) → (a || b) ≡ false → a ≡ false
        first true b is = is
        first false b is = refl

        second : (a b : Bool) → (a || b) ≡ false → b ≡ false
        second true b is = absurd (cc)
        second false b is = is

    masks_none : has_out_below (num_ports held + 1) held here.port packet ≡ false → (out : ℕ) → sends_at nodes here packet out ≡ false
    masks_none none out = elim (cases_Bool (sends_at nodes here packet out)) [
      | inl sends ↦ absurd (true-false _ sends (not_out out (none_out (num_ports held + 1) out none (low_ports out sends))))
      | inr quiet ↦ quiet
    ]

-- ---- at one port
-- the port of a channel adapter there takes the packet
abbrev pub IsTaken : List Node → Packet → PortRef → Type 0
IsTaken nodes packet at = (port : AdapterState) × ((adapter_at nodes at ≡ Some port) × (accepts_packet port packet ≡ true))

-- what a port adds to a trace
pub record IsStepped (nodes : List Node) (cables : List Cable) (packet : Packet) (here : PortRef) (old new : SpreadState) : Type 0 where
  pub more : List Step
  pub kept : new.steps ≡ old.steps ++ more
  pub grown : IsGrown nodes cables packet here old.known new.known
  pub all : (one : Step) → Contains more one → one.at ≡ here
  pub some : (turn : Turn) × Contains more (step here turn)
  pub taken : (one : Step) → Contains more one → one.turn ≡ Accepts → IsTaken nodes packet here
  pub reported : (port : AdapterState) → adapter_at nodes here ≡ Some port → accepts_packet port packet ≡ true → Contains more (step here Accepts)

module _ (nodes : List Node) (cables : List Cable) (packet : Packet) (here : PortRef) where
  it_ends : (turn : Turn) (old : SpreadState) → ((out : ℕ) → sends_at nodes here packet out ≡ false) → (turn ≡ Accepts → IsTaken nodes packet here)
      → ((port : AdapterState) → adapter_at nodes here ≡ Some port → accepts_packet port packet ≡ true → turn ≡ Accepts)
      → IsStepped nodes cables packet here old (ends_by turn here old)
  it_ends turn old quiet taken reported = record {
    more = step here turn ∷ [];
    kept = refl;
    grown = is_grown nodes cables packet here 0 old.known old.known (λ out sends. absurd (true-false _ sends (quiet out)))
        (nothing_yet nodes cables packet here old.known);
    all = λ one among. ap (λ (s : Step). s.at) (in_one (step here turn) one among);
    some = (turn, at_first (step here turn) []);
    taken = λ one among accepts. taken (ap (λ (s : Step). s.turn) (sym (in_one (step here turn) one among)) ∙ accepts);
    reported = λ port there accepts.
        subst (λ (t : Turn). Contains (step here turn ∷ []) (step here t)) (reported port there accepts) (at_first (step here turn) []);
  }

  -- no port of a switch takes it
  no_adapter : (held : SwitchState) → slice_get nodes here.node ≡ Some (Switch held) → (port : AdapterState) → adapter_at nodes here ≡ Some port → ⊥
  no_adapter held switch port there = in_none (here.port == 0) (here.port - 1) port (rw switch at there)

  at_its_switch : (held : SwitchState) (old : SpreadState) → is_multicast packet.dlid ≡ true → slice_get nodes here.node ≡ Some (Switch held)
      → IsDistinct is_same_port old.known → IsStepped nodes cables packet here old (at_switch cables packet here old held)
  at_its_switch held old multicast switch each =
      by (passes_inbound held.ports here.port packet.p_key) (has_out_below (num_ports held + 1) held here.port packet) refl refl
    where
      by : (inbound has : Bool) → passes_inbound held.ports here.port packet.p_key ≡ inbound
          → has_out_below (num_ports held + 1) held here.port packet ≡ has
          → IsStepped nodes cables packet here old (if not inbound then ends_by DropsInbound here old
          else (if has then outs_below (num_ports held + 1) cables held packet here old else ends_by DropsMask here old))
      by false has inbound is =
          it_ends DropsInbound old (λ out. rw (switch, multicast, inbound) refl) (λ no. absurd (cc))
          (λ port there accepts. absurd (no_adapter held switch port there))
      by true true inbound has =
          let below = are_below cables held packet here nodes multicast switch inbound (num_ports held + 1) old each in
          record {
            more = below.more;
            kept = below.kept;
            grown = is_grown nodes cables packet here (num_ports held + 1) old.known _
                (low_ports cables held packet here nodes multicast switch inbound) below.grows;
            all = below.all;
            some = below.some has;
            taken = λ one among accepts. absurd (below.refused one among accepts);
            reported = λ port there accepts. absurd (no_adapter held switch port there);
          }
      by true false inbound none =
          it_ends DropsMask old (masks_none cables held packet here nodes multicast switch inbound none) (λ no. absurd (cc))
          (λ port there accepts. absurd (no_adapter held switch port there))

  at_its_adapter : (ports : List AdapterState) (old : SpreadState) (found : Option AdapterState) → slice_get nodes here.node ≡ Some (Adapter ports)
      → adapter_port ports here.port ≡ found
      → IsStepped nodes cables packet here old (ends_by (option_map_or (turn_by packet) found DropsKey) here old)
  at_its_adapter ports old None adapter is =
      it_ends DropsKey old (λ out. rw adapter refl) (λ no. absurd (cc))
      (λ port there accepts. absurd (none-some port (sym is ∙ (rw adapter at there))))
  at_its_adapter ports old (Some port) adapter is =
      it_ends (turn_by packet port) old (λ out. rw adapter refl)
      (λ accepts. (port, (rw adapter is, by (accepts_packet port packet) accepts)))
      (λ other there accepts.
      let same : other ≡ port = same_Some other port (sym (rw adapter at there) ∙ is) in
      let holds : accepts_packet port packet ≡ true = ap (λ (p : AdapterState). accepts_packet p packet) (sym same) ∙ accepts in
      rw holds refl)
    where
      by : (b : Bool) → (if b then Accepts else DropsKey) ≡ Accepts → b ≡ true
      by true is = refl
      by false is = cc

  by_node : (old : SpreadState) (found : Option Node) → is_multicast packet.dlid ≡ true → IsDistinct is_same_port old.known
      → slice_get nodes here.node ≡ found
      → IsStepped nodes cables packet here old (option_map_or (at_node cables packet here old) found (ends_by DropsKey here old))
  by_node old None multicast each is =
      it_ends DropsKey old (λ out. rw is refl) (λ no. absurd (cc)) (λ port there accepts. absurd (let none = rw is at there in cc))
  by_node old (Some (Switch held)) multicast each is = at_its_switch held old multicast is each
  by_node old (Some (Adapter ports)) multicast each is = at_its_adapter ports old (adapter_port ports here.port) is refl

is_stepped : (fabric : FabricState) (packet : Packet) (here : PortRef) (old : SpreadState) → is_multicast packet.dlid ≡ true
    → IsDistinct is_same_port old.known → IsStepped fabric.nodes fabric.cables packet here old (at_port fabric packet here old)
unfolding at_port
is_stepped fabric packet here old multicast each = by_node fabric.nodes fabric.cables packet here old (slice_get fabric.nodes here.node) multicast each refl

-- ---- from port to port
module _ (fabric : FabricState) (packet : Packet) (first : PortRef) (multicast : is_multicast packet.dlid ≡ true) where
  -- the steps at so many of the ports that are known
  pub record IsTraced (done : ℕ) (spread : SpreadState) : Type 0 where
    pub searched : search.IsSearched fabric.nodes fabric.cables packet first done spread.known
    pub each : (at : PortRef) → has_port (take done spread.known) at → (turn : Turn) × Contains spread.steps (step at turn)
    pub sound : (one : Step) → Contains spread.steps one → has_port spread.known one.at
    pub taken : (one : Step) → Contains spread.steps one → one.turn ≡ Accepts → IsTaken fabric.nodes packet one.at
    pub reported : (at : PortRef) (port : AdapterState) → has_port (take done spread.known) at → adapter_at fabric.nodes at ≡ Some port
        → accepts_packet port packet ≡ true → Contains spread.steps (step at Accepts)

  abbrev begun : SpreadState
  begun = record { known = first ∷ []; steps = [] }

  is_begun : IsTraced 0 begun
  is_begun = record {
    searched = record {
      begins = search.at_first first [];
      sound = λ at there. ([], sym (search.alone first at there));
      closed = λ here next none. absurd (cc);
      differ = distinct_with [] first none_differ;
    };
    each = λ at none. absurd (cc);
    sound = λ one none. absurd (nothing_in one none);
    taken = λ one none accepts. absurd (nothing_in one none);
    reported = λ at port none there accepts. absurd (cc);
  }

  one_more : (done : ℕ) (here : PortRef) (old new : SpreadState) → slice_get old.known done ≡ Some here → IsTraced done old
      → IsStepped fabric.nodes fabric.cables packet here old new → IsTraced (done + 1) new
  one_more done here old new is so_far stepped = record {
    searched = search.goes_on fabric.nodes fabric.cables packet first done here old.known new.known so_far.searched is stepped.grown;
    each = λ at among. each at (search.done_or_here old.known stepped.grown.more new.known done here at stepped.grown.kept is among);
    sound = λ one among. sound one (Contains-append_cases old.steps stepped.more one (reported_there one among));
    taken = λ one among accepts. taken one (Contains-append_cases old.steps stepped.more one (reported_there one among)) accepts;
    reported = λ at port among there accepts.
        reported at port (search.done_or_here old.known stepped.grown.more new.known done here at stepped.grown.kept is among) there accepts;
  }
    where
      reported_there : (one : Step) → Contains new.steps one → Contains (old.steps ++ stepped.more) one
      reported_there one among = subst (λ (steps : List Step). Contains steps one) stepped.kept among

      earlier : (one : Step) → Contains old.steps one → Contains new.steps one
      earlier one among = subst (λ (steps : List Step). Contains steps one) (sym stepped.kept) (Contains-append_left old.steps stepped.more one among)

      now : (one : Step) → Contains stepped.more one → Contains new.steps one
      now one among = subst (λ (steps : List Step). Contains steps one) (sym stepped.kept) (Contains-append_right old.steps stepped.more one among)

      known_still : (at : PortRef) → has_port old.known at → has_port new.known at
      known_still at among = subst (λ (ports : List PortRef). has_port ports at) (sym stepped.grown.kept) (search.in_first old.known stepped.grown.more at among)

      each : (at : PortRef) → has_port (take done old.known) at ⊎ (at ≡ here) → (turn : Turn) × Contains new.steps (step at turn)
      each at (inl before) = let step_there = so_far.each at before in (step_there.0, earlier (step at step_there.0) step_there.1)
      each at (inr same) =
          (stepped.some.0, subst (λ (p : PortRef). Contains new.steps (step p stepped.some.0)) (sym same) (now (step here stepped.some.0) stepped.some.1))

      sound : (one : Step) → Contains old.steps one ⊎ Contains stepped.more one → has_port new.known one.at
      sound one (inl before) = known_still one.at (so_far.sound one before)
      sound one (inr last) =
          subst (λ (p : PortRef). has_port new.known p) (sym (stepped.all one last)) (known_still here (search.at_place old.known done here is))

      taken : (one : Step) → Contains old.steps one ⊎ Contains stepped.more one → one.turn ≡ Accepts → IsTaken fabric.nodes packet one.at
      taken one (inl before) accepts = so_far.taken one before accepts
      taken one (inr last) accepts = subst (λ (p : PortRef). IsTaken fabric.nodes packet p) (sym (stepped.all one last)) (stepped.taken one last accepts)

      reported : (at : PortRef) (port : AdapterState) → has_port (take done old.known) at ⊎ (at ≡ here) → adapter_at fabric.nodes at ≡ Some port
          → accepts_packet port packet ≡ true → Contains new.steps (step at Accepts)
      reported at port (inl before) there accepts = earlier (step at Accepts) (so_far.reported at port before there accepts)
      reported at port (inr same) there accepts =
          subst (λ (p : PortRef). Contains new.steps (step p Accepts)) (sym same)
          (now (step here Accepts) (stepped.reported port (ap (adapter_at fabric.nodes) (sym same) ∙ there) accepts))

  -- the search has come to its end
  pub record IsAll (spread : SpreadState) : Type 0 where
    pub done : ℕ
    pub traced : IsTraced done spread
    pub past : length spread.known ≤ done

  by_place : (more place : ℕ) (spread : SpreadState) (found : Option PortRef) → slice_get spread.known place ≡ found → IsTraced place spread
      → ((here : PortRef) → slice_get spread.known place ≡ Some here → IsAll (spread_from more fabric packet (place + 1) (at_port fabric packet here spread)))
      → IsAll (option_map_or (λ here. spread_from more fabric packet (place + 1) (at_port fabric packet here spread)) found spread)
  by_place more place spread None is traced on = record { done = place; traced = traced; past = search.past_end spread.known place is }
  by_place more place spread (Some here) is traced on = on here is

  all_from : (more place : ℕ) (spread : SpreadState) → IsTraced place spread → place + more ≡ 2 * length fabric.cables + 1
      → IsAll (spread_from more fabric packet place spread)
  all_from zero place spread traced count =
      let few = search.few_ports fabric.nodes fabric.cables packet first place spread.known traced.searched in
      record { done = place; traced = traced; past = omega (arith, few, count) }
  all_from (suc more) place spread traced count =
      by_place more place spread (slice_get spread.known place) refl traced
      (λ here is.
      all_from more (place + 1) (at_port fabric packet here spread)
      (one_more place here spread (at_port fabric packet here spread) is traced
      (is_stepped fabric packet here spread multicast traced.searched.differ))
      (omega (arith, count)))

  pub record ReportsAll (spread : SpreadState) : Type 0 where
    pub reached : AreReached fabric.nodes fabric.cables packet first spread.known
    pub each : (at : PortRef) → has_port spread.known at → (turn : Turn) × Contains spread.steps (step at turn)
    pub sound : (one : Step) → Contains spread.steps one → has_port spread.known one.at
    pub taken : (one : Step) → Contains spread.steps one → one.turn ≡ Accepts → IsTaken fabric.nodes packet one.at
    pub reported : (at : PortRef) (port : AdapterState) → has_port spread.known at → adapter_at fabric.nodes at ≡ Some port
        → accepts_packet port packet ≡ true → Contains spread.steps (step at Accepts)

  reports_all : (spread : SpreadState) → IsAll spread → ReportsAll spread
  reports_all spread all =
      let whole : spread.known ≡ take all.done spread.known = sym (search.take_all all.done spread.known all.past) in
      record {
        reached = search.are_reached fabric.nodes fabric.cables packet first all.done spread.known all.traced.searched all.past;
        each = λ at among. all.traced.each at (subst (λ (ports : List PortRef). has_port ports at) whole among);
        sound = all.traced.sound;
        taken = all.traced.taken;
        reported = λ at port among there accepts.
            all.traced.reported at port (subst (λ (ports : List PortRef). has_port ports at) whole among) there accepts;
      }

  pub spread_reports_all : ReportsAll (spread_of fabric packet first)
  spread_reports_all = reports_all (spread_of fabric packet first) (all_from (2 * length fabric.cables + 1) 0 begun is_begun (omega arith))

-- ---- in a loop
module _ (fabric : FabricState) (packet : Packet) (whole spread : SpreadState) (place : ℕ) where
  abbrev so_far : ℕ → Type 0
  so_far left = whole ≡ spread_from left fabric packet place spread

  -- no more is known
  pub is_whole : (left : ℕ) → so_far left → slice_get spread.known place ≡ None → spread ≡ whole
  is_whole zero is none = sym is
  is_whole (suc more) is none = sym (rw none at is)

  -- the next is
  pub with_next : (left more : ℕ) (here : PortRef) → left ≡ suc more → so_far left → slice_get spread.known place ≡ Some here
      → whole ≡ spread_from more fabric packet (place + 1) (at_port fabric packet here spread)
  with_next left more here count is next = let now = subst so_far count is in rw next at now
