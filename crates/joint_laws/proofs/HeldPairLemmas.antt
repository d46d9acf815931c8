-- Dumps that show what the switches of a fabric hold, once it is brought up, have the same loads.
use Rattle.std.proofs.Common.{ℕ, ◌≡◌, ◌==◌, ◌&&◌, ◌∙◌, ap, ap₂, refl, sym, Bool, true, false, if◌then◌else◌, List, length, slice_get, Option, Some, None}
use Rattle.std.specs.List.{AllByRecursion}
use Rattle.std.specs.Option.{option_map_or}
use Rattle.std.proofs.lemmas.Bool.{eq-eqb, eqb-false, eqb-true, false≢true}
use Rattle.std.proofs.lemmas.Option.{none-some}
use Rattle.dump_file.specs.Dump.{DumpState}
use Rattle.dump_file.specs.declared.row.Row.{Row}
use Rattle.dump_file.specs.declared.table.Table.{Table}
use Rattle.fabric_parts.specs.declared.cable.PortRef.{PortRef}
use Rattle.lid_assign.specs.Lids.{guid_in}
use Rattle.audit_plan.proofs.PlanLemmas.{host_is_no_switch}
use Rattle.audit_net.specs.declared.entry.Entry.TheVariants.{Out, Missing, Unreported}
use Rattle.audit_net.specs.declared.following.Fate.{Fate}
use Rattle.audit_net.specs.declared.following.Fate.TheVariants as fates
use Rattle.audit_net.specs.OwnerLaws.{end_port_of}
use Rattle.audit_net.specs.Net.{NetState, entry, entry_by, entry_in, may_lack, row_of, table_at}
use Rattle.audit_routes.specs.Pairs.{is_fate}
use Rattle.audit_plan.specs.Plan.{plan_of}
use Rattle.smp_wire.specs.FabricState.{FabricState}
use Rattle.smp_wire.specs.declared.node.Node.TheVariants.{Switch}
use Rattle.subnet_fabric.specs.BringUp.{IsBroughtUpBy}
use Rattle.switch_model.specs.SwitchState.{SwitchState}
use Rattle.topo_file.specs.Node.{is_switch_at, ports_at}
use Rattle.topo_file.specs.Sound.{IsSound}
use Rattle.topo_file.specs.Topology.{TopologyState}
use Rattle.updn_routes.specs.Subnet.{RoutesState}
use Rattle.audit_loads.specs.Counts.{counts_of}
use Rattle.audit_loads.specs.Sources.{Pair}
use Rattle.audit_loads.specs.Text.{load_of_plan}
use Rattle.audit_routes.specs.Verdict.{is_lost_by}
use Rattle.audit_loads.specs.Ways.{fate_of, is_lost, is_unknown}
use Rattle.fabric_loads.specs.HeldRows.{held_entry}
use Rattle.joint_laws.proofs.HeldTableLemmas.{holds}
use Rattle.joint_laws.proofs.PassLemmas.{own_routes_pass}
use Rattle.joint_laws.proofs.StandLemmas.{place_for}
use Rattle.joint_laws.proofs.WayLemmas.{end_is}
use Rattle.joint_laws.specs.RouteLaws.{over}
use Rattle.joint_laws.specs.Shown.{Shows}
use Rattle.joint_laws.specs.Held.{ShowsAll}
use Rattle.joint_laws.proofs.AlikeLemmas.{named_port, printed_same}
use Rattle.joint_laws.proofs.PairLemmas.{GoesToHost, count_same}

-- ---- what is reached is neither lost nor unknown
reached_alone : (found : Fate) → (is_fate fates.Reached found && true) ≡ true → (is_lost_by found ≡ false) × (is_fate fates.Unknown found ≡ false)
reached_alone fates.Reached is = (refl, refl)
reached_alone fates.Hole is = absurd (false≢true is)
reached_alone fates.Nowhere is = absurd (false≢true is)
reached_alone fates.Wrong is = absurd (false≢true is)
reached_alone fates.Loop is = absurd (false≢true is)
reached_alone fates.Unknown is = absurd (false≢true is)

-- ---- the port that a dump names for a LID at a switch is the one that the switch holds
module _ (plan : TopologyState) (lids : List ℕ) (fabric : FabricState) (dump : DumpState) (shows : Shows (over plan dump) lids fabric) where
  abbrev net : NetState
  net = over plan dump

  no_port : (lid place : ℕ) (held : SwitchState) → slice_get fabric.nodes place ≡ Some (Switch held) → held_entry held lid ≡ 255 → (o : Option Table)
      → table_at net place ≡ o → named_port (option_map_or (entry_in (ports_at plan.nodes place) lid) o Unreported) ≡ None
  no_port lid place held there none None at = refl
  no_port lid place held there none (Some table) at = by (row_of lid table.rows) refl
    where
      lacking : (b : Bool) → named_port (if b then Unreported else Missing) ≡ None
      lacking true = refl
      lacking false = refl

      by : (o : Option Row) → row_of lid table.rows ≡ o → named_port (entry_by (ports_at plan.nodes place) table lid o) ≡ None
      by None found = lacking (may_lack (ports_at plan.nodes place) table lid)
      by (Some row) found =
          let is = shows.none place lid row.port held there none (record { table = table; row = row; there = at; found = found; is = refl }) in
          ap (λ (b : Bool). named_port (if b then Missing else Out row.port)) (eq-eqb row.port 255 is)

  pub port_shown : (lid place : ℕ) (held : SwitchState) → slice_get fabric.nodes place ≡ Some (Switch held)
      → named_port (entry net lid place) ≡ (if held_entry held lid == 255 then None else Some (held_entry held lid))
  port_shown lid place held there = by (held_entry held lid == 255) refl
    where
      by : (b : Bool) → (held_entry held lid == 255) ≡ b → named_port (entry net lid place) ≡ (if b then None else Some (held_entry held lid))
      by true none = no_port lid place held there (eqb-true (held_entry held lid) 255 none) (table_at net place) refl
      by false some =
          let has = shows.rows place lid held there (eqb-false (held_entry held lid) 255 some) in
          ap (λ (o : Option Table). named_port (option_map_or (entry_in (ports_at plan.nodes place) lid) o Unreported)) has.there
          ∙ ap (λ (o : Option Row). named_port (entry_by (ports_at plan.nodes place) has.table lid o)) has.found
          ∙ ap (λ (n : ℕ). named_port (if n == 255 then Missing else Out n)) has.is
          ∙ ap (λ (b : Bool). named_port (if b then Missing else Out (held_entry held lid))) some

module _ (plan : TopologyState) (sound : IsSound plan) (keys : List (List ℕ)) (routes : RoutesState) (fabric : FabricState)
    (up : IsBroughtUpBy plan keys routes fabric) where
  -- ---- no pair is lost
  module _ (dump : DumpState) (shows : Shows (over plan dump) routes.lids fabric) where
    reached : (pair : Pair) → GoesToHost (over plan dump) pair → (is_lost (over plan dump) pair ≡ false) × (is_unknown (over plan dump) pair ≡ false)
    reached pair goes =
        reached_alone (fate_of (over plan dump) pair)
        ((own_routes_pass plan keys routes fabric dump sound up shows).reached pair.place pair.lid pair.end goes.carries goes.end_is
        (host_is_no_switch (plan_of plan) pair.end.node goes.host))

  module _ (dump other : DumpState) (shows : ShowsAll (over plan dump) routes.lids fabric) (too : ShowsAll (over plan other) routes.lids fabric) where
    one_port : (lid place : ℕ) → is_switch_at plan.nodes place ≡ true
        → named_port (entry (over plan dump) lid place) ≡ named_port (entry (over plan other) lid place)
    one_port lid place switch =
        let at = place_for plan sound routes.graph up.are.found.of place switch in
        let has = holds plan keys routes fabric up place at.0 switch at.1 in
        port_shown plan routes.lids fabric dump shows.entries lid place has.held has.there
        ∙ sym (port_shown plan routes.lids fabric other too.entries lid place has.held has.there)

    -- a LID that no GUID has is no end port's
    no_end : (some : DumpState) → Shows (over plan some) routes.lids fabric → (lid : ℕ) → guid_in routes.lids lid ≡ None → (o : Option PortRef)
        → end_port_of (over plan some) lid ≡ o → end_port_of (over plan some) lid ≡ None
    no_end some reports lid none None is = is
    no_end some reports lid none (Some end) is =
        let said = end_is plan some lid end is in absurd (none-some said.guid (sym none ∙ reports.ends lid said.guid said.said))

    pub one_end : (lid : ℕ) → end_port_of (over plan dump) lid ≡ end_port_of (over plan other) lid
    one_end lid = by (guid_in routes.lids lid) refl
      where
        by : (o : Option ℕ) → guid_in routes.lids lid ≡ o → end_port_of (over plan dump) lid ≡ end_port_of (over plan other) lid
        by (Some guid) named = shows.ends lid guid named ∙ sym (too.ends lid guid named)
        by None none =
            no_end dump shows.entries lid none (end_port_of (over plan dump) lid) refl
            ∙ sym (no_end other too.entries lid none (end_port_of (over plan other) lid) refl)

    none_lost : (pairs : List Pair) → AllByRecursion (GoesToHost (over plan dump)) pairs → AllByRecursion (GoesToHost (over plan other)) pairs
        → counts_of (over plan dump) pairs ≡ counts_of (over plan other) pairs
    none_lost pairs here there =
        ap₂ (λ (lost unknown : ℕ). record { pairs = length pairs; lost = lost; unknown = unknown })
        (count_same (GoesToHost (over plan dump)) (is_lost (over plan dump)) (λ pair. false) (λ pair goes. (reached dump shows.entries pair goes).0) pairs here
        ∙ sym (count_same (GoesToHost (over plan other)) (is_lost (over plan other)) (λ pair. false)
        (λ pair goes. (reached other too.entries pair goes).0) pairs there))
        (count_same (GoesToHost (over plan dump)) (is_unknown (over plan dump)) (λ pair. false)
        (λ pair goes. (reached dump shows.entries pair goes).1) pairs here
        ∙ sym (count_same (GoesToHost (over plan other)) (is_unknown (over plan other)) (λ pair. false)
        (λ pair goes. (reached other too.entries pair goes).1) pairs there))

    pub one_text : (talk : PortRef → PortRef → Bool) → load_of_plan (plan_of plan) dump talk ≡ load_of_plan (plan_of plan) other talk
    one_text talk = printed_same (plan_of plan) dump other (record { ports = one_port }) talk one_end none_lost
