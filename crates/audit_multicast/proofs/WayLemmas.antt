-- Ports that are looked at one by one.
use Rattle.std.proofs.Common.{◌≡◌, refl, ℕ, zero, suc, ◌+◌, ◌==◌, ◌&&◌, inl, inr, not, List, map, filter, flat_map}
use Rattle.std.specs.List.{range_with_len}
use Rattle.std.proofs.lemmas.Bool.{cases_Bool}
use Rattle.fabric_parts.specs.Cable.{port}
use Rattle.fabric_parts.specs.declared.cable.PortRef.{PortRef}
use Rattle.audit_net.specs.Net.{NetState}
use Rattle.audit_multicast.specs.Scanning.{out_behind}
use Rattle.audit_multicast.specs.Ways.{leaves}

outs_by : (net : NetState) (masks : List (List ℕ)) (here : PortRef) (low many : ℕ) → flat_map (out_behind net masks here) (range_with_len low many)
    ≡ filter (λ out. not (here.port == out.port) && leaves net masks out) (map (port here.node) (range_with_len (low + 1) many))
outs_by net masks here low zero = refl
outs_by net masks here low (suc many) = elim (cases_Bool (not (here.port == low + 1) && leaves net masks (port here.node (low + 1)))) [
  | inl leaving ↦ rw (leaving, outs_by net masks here (low + 1) many) refl
  | inr staying ↦ rw (staying, outs_by net masks here (low + 1) many) refl
]

pub all_outs_behind : (net : NetState) (masks : List (List ℕ)) (here : PortRef) (many : ℕ) → flat_map (out_behind net masks here) (range_with_len 0 many)
    ≡ filter (λ out. not (here.port == out.port) && leaves net masks out) (map (port here.node) (range_with_len 1 many))
all_outs_behind net masks here many = outs_by net masks here 0 many
