-- All of what packets ask of tables.
use Rattle.std.proofs.Common.{ℕ, ◌≡◌, ◌-◌, ◌<◌, ◌∙◌, ap, sym, true, List, [], get_or, length, Some, arith}
use Rattle.std.proofs.lemmas.Option.{slice_get-get_or}
use Rattle.fabric_parts.specs.Cable.{far_end}
use Rattle.fabric_parts.specs.declared.cable.PortRef.{PortRef}
use Rattle.smp_wire.specs.Deliveries.{adapter_at}
use Rattle.pkey_rules.specs.PKey.{full_form}
use Rattle.smp_wire.specs.Forwards.{IsCabledPort, switch_port_at}
use Rattle.pkey_rules.specs.KeyTable.{holds}
use Rattle.pkey_rules.specs.StoredKeys.{stored_keys}
use Rattle.port_model.specs.AdapterState.{AdapterState}
use Rattle.sweep.proofs.MetLemmas.{good_once}
use Rattle.switch_model.specs.declared.switch_port.SwitchPort.{SwitchPort}
use Rattle.table_push.specs.BroughtUpLaws.{BroughtUpForwardsByLid}
use Rattle.table_push.proofs.BroughtUpKeyLemmas.{faces}
use Rattle.table_push.proofs.BroughtUpLeadLemmas.{lead_there, lid_place}
use Rattle.table_push.proofs.OwnLemmas.{own_lid}
use Rattle.smp_wire.proofs.PresentLemmas.{present_once, present_right}

pub brought_up_forwards_by_lid : BroughtUpForwardsByLid
brought_up_forwards_by_lid routes keys fabric home all up = record {
  free = record { cables = (present_right up.good); once = (present_once up.good); facing = facing; between = up.between };
  own = own_lid routes keys fabric home up;
  lead = lead_there routes keys fabric home up;
}
  where
    facing : (here at : PortRef) (mine : SwitchPort) (one : AdapterState) (key : ℕ) → switch_port_at fabric.nodes here ≡ Some mine
        → far_end fabric.cables here ≡ Some at → adapter_at fabric.nodes at ≡ Some one
        → holds key (stored_keys one.keys) ≡ true → holds (full_form key) (stored_keys mine.keys) ≡ true
    facing here at mine one key there cable port held =
        let cabled : IsCabledPort fabric at one = record { there = port; far = here; cable = good_once fabric here at up.good cable } in
        let within : one.info.lid - 1 < length keys =
        let low = lid_place routes.lids one.port_guid one.info.lid home.own_lids (up.lids at one cabled) in omega (arith, low, all) in
        let given_keys = get_or keys (one.info.lid - 1) [] in
        let given = slice_get-get_or keys (one.info.lid - 1) [] within in
        let own = up.own_keys at one given_keys cabled given in
        let full = up.facing here at mine one given_keys there cable port given in
        ap (λ (words : List ℕ). holds (full_form key) (stored_keys words)) full
        ∙ faces given_keys key (sym (ap (λ (words : List ℕ). holds key (stored_keys words)) own) ∙ held)
