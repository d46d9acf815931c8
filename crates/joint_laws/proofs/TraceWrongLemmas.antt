-- What is wrong with the wrong rule.
use Rattle.std.proofs.Common.{ℕ, zero, suc, ◌≡◌, ◌≢◌, ◌≤◌, ◌==◌, ◌∙◌, ap, refl, sym, subst, arith, lit<, Bool, true, false, if◌then◌else◌, List, [], ◌∷◌, length, slice_get, Option, Some, None}
use Rattle.std.specs.List.{Contains}
use Rattle.std.specs.Option.{option_and_then, option_or}
use Rattle.std.proofs.lemmas.Bool.{false≢true, ne_eqb}
use Rattle.std.proofs.lemmas.Option.{none-some, same_Some}
use Rattle.dump_file.specs.Row.{end_of}
use Rattle.dump_file.specs.Table.{rows_of}
use Rattle.dump_file.specs.declared.table.Table.{Table}
use Rattle.fabric_parts.specs.Cable.{port}
use Rattle.lid_assign.specs.Lids.{guid_in}
use Rattle.fabric_loads.specs.HeldRows.{held_entry}
use Rattle.joint_laws.specs.RouteLaws.{over}
use Rattle.joint_laws.specs.Shown.{HasRow, Shows}
use Rattle.packet_trace.specs.Steps.{steps_of}
use Rattle.packet_trace.specs.Trace.{step, turn_at}
use Rattle.packet_trace.specs.declared.turn.Step.{Step}
use Rattle.packet_trace.specs.declared.turn.Turn.TheVariants.{Accepts, GoesOut}
use Rattle.audit_net.specs.Net.{row_of}
use Rattle.smp_wire.specs.FabricState.{is_switch_at}
use Rattle.smp_wire.specs.declared.node.Node.TheVariants.{Switch}
use Rattle.switch_model.specs.Fate.{fate}
use Rattle.switch_model.specs.SwitchState.{SwitchState}
use Rattle.topo_file.specs.Node.{is_switch_at as is_planned_switch}
use Rattle.joint_laws.specs.TraceLaws.{IsFabricOf}
use Rattle.joint_laws.specs.Steps.{is_left_by}
use Rattle.joint_laws.specs.TraceWrongRules.{LastCablesLoadToo, a_packet, one_dump, one_held, one_plan, one_switch}

-- ---- the one switch
held_is : (held : SwitchState) → Some (Switch one_held) ≡ Some (Switch held) → one_held ≡ held
held_is held there = let same : Switch one_held ≡ Switch held = same_Some (Switch one_held) (Switch held) there in cc

few : (node : ℕ) (held : SwitchState) → slice_get one_switch.nodes node ≡ Some (Switch held) → length held.ports ≤ 255
few zero held there = subst (λ (one : SwitchState). length one.ports ≤ 255) (held_is held there) (lit< tt)
few (suc zero) held there = absurd cc
few (suc (suc zero)) held there = absurd cc
few (suc (suc (suc n))) held there = absurd cc

of : IsFabricOf one_plan one_switch
of = record { cables = refl; switches = switches; few = few }
  where
    switches : (node : ℕ) → is_switch_at one_switch.nodes node ≡ is_planned_switch one_plan.nodes node
    switches zero = refl
    switches (suc zero) = refl
    switches (suc (suc zero)) = refl
    switches (suc (suc (suc n))) = refl

-- ---- the dump shows its table
rows : (place lid : ℕ) (held : SwitchState) → slice_get one_switch.nodes place ≡ Some (Switch held) → held_entry held lid ≢ 255
    → HasRow (over one_plan one_dump) place lid (held_entry held lid)
rows zero lid held there some =
    subst (λ (one : SwitchState). HasRow (over one_plan one_dump) 0 lid (held_entry one lid)) (held_is held there)
    (by lid (λ none. some (ap (λ (one : SwitchState). held_entry one lid) (sym (held_is held there)) ∙ none)))
  where
    by : (lid : ℕ) → held_entry one_held lid ≢ 255 → HasRow (over one_plan one_dump) 0 lid (held_entry one_held lid)
    by zero other = absurd (other refl)
    by (suc zero) other = absurd (other refl)
    by (suc (suc zero)) other = record { table = _; row = _; there = refl; found = refl; is = refl }
    by (suc (suc (suc n))) other = absurd (other refl)
rows (suc zero) lid held there some = absurd cc
rows (suc (suc zero)) lid held there some = absurd cc
rows (suc (suc (suc n))) lid held there some = absurd cc

no_row : (lid entry : ℕ) → HasRow (over one_plan one_dump) 0 lid entry → (2 ≡ lid → ⊥) → ⊥
no_row lid entry has other = by (sym (ap (λ (o : Option Table). option_and_then (λ table. row_of lid table.rows) o) has.there) ∙ rw (ne_eqb 2 lid other) refl) has.found
  where
    by : row_of lid has.table.rows ≡ None → row_of lid has.table.rows ≡ Some has.row → ⊥
    by none found = none-some has.row (sym none ∙ found)

none : (place lid entry : ℕ) (held : SwitchState) → slice_get one_switch.nodes place ≡ Some (Switch held) → held_entry held lid ≡ 255
    → HasRow (over one_plan one_dump) place lid entry → entry ≡ 255
none zero lid entry held there gone has =
    absurd (no_row lid entry has (λ two. not_255 (ap (held_entry one_held) two ∙ ap (λ (one : SwitchState). held_entry one lid) (held_is held there) ∙ gone)))
  where
    not_255 : held_entry one_held 2 ≡ 255 → ⊥
    not_255 same = let two : 2 ≡ 255 = same in absurd (omega (arith, two))
none (suc zero) lid entry held there gone has = absurd cc
none (suc (suc zero)) lid entry held there gone has = absurd cc
none (suc (suc (suc n))) lid entry held there gone has = absurd cc

shows : Shows (over one_plan one_dump) [] one_switch
shows = record { rows = rows; none = none; ends = ends }
  where
    by : (b : Bool) (lid guid : ℕ) → option_or (if b then None else None) None ≡ Some guid → guid_in [] lid ≡ Some guid
    by true lid guid said = absurd (none-some guid said)
    by false lid guid said = absurd (none-some guid said)

    ends : (lid guid : ℕ) → end_of lid (rows_of one_dump.tables) ≡ Some guid → guid_in [] lid ≡ Some guid
    ends lid guid said = by (2 == lid) lid guid said

-- ---- from h to k
way : steps_of one_switch a_packet (port 0 1) ≡ step (port 0 1) (GoesOut 2) ∷ step (port 2 1) Accepts ∷ []
unfolding turn_at fate
way = refl

pub last_cables_load_too : LastCablesLoadToo
last_cables_load_too law =
    let among : Contains (steps_of one_switch a_packet (port 0 1)) (step (port 2 1) Accepts) =
    subst (λ (steps : List Step). Contains steps (step (port 2 1) Accepts)) (sym way) (1, omega arith, refl) in
    let said = law one_plan one_switch [] one_dump a_packet (port 0 1) (port 0 2) of shows refl refl (port 2 1, among) in
    let left : is_left_by (steps_of one_switch a_packet (port 0 1)) (port 0 2) ≡ true = ap (λ (steps : List Step). is_left_by steps (port 0 2)) way in
    false≢true (said ∙ left)
