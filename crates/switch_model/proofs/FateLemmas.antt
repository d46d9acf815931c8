-- A packet leaves by the port that its fate reports.
use Rattle.std.proofs.Common.{◌≡◌, ℕ, ◌==◌, ◌&&◌, nat_lt, nat_le, refl, arith, Bool, true, false, not, if◌then◌else◌, List, length, Option, Some, None, slice_get}
use Rattle.std.specs.Option.{option_and_then, option_map_or}
use Rattle.std.proofs.lemmas.Bool.Decides.{nat_tests}
use Rattle.std.proofs.lemmas.Option.{slice_get_past}
use Rattle.switch_model.specs.Fate.{fate, fate_by, way_out}
use Rattle.switch_model.specs.Forwarding.{leaves_by, passes_inbound, passes_outbound}
use Rattle.switch_model.specs.Laws.{FatesReportWaysOut}
use Rattle.switch_model.specs.declared.fate.Fate.TheVariants.{KeptOut, OverTop, NoPort, Taken, KeptIn, Leaves}
use Rattle.switch_model.specs.declared.switch_port.SwitchPort.{SwitchPort}

none_past : (ports : List SwitchPort) (entry p_key : ℕ) → nat_lt entry (length ports) ≡ false → passes_outbound ports entry p_key ≡ false
none_past ports entry p_key past = rw (slice_get_past ports entry (grind (arith, nat_tests))) refl

by_tests : (entry : ℕ) (within is_own lets_out : Bool) → (within ≡ false → lets_out ≡ false)
    → (if not is_own && lets_out then Some entry else None)
    ≡ way_out (if not within then NoPort entry else (if is_own then Taken else (if lets_out then Leaves entry else KeptIn entry)))
by_tests entry false is_own lets_out past = rw (past refl) (none is_own) where
  none : (b : Bool) → (if not b && false then Some entry else None) ≡ None
  none true = refl
  none false = refl
by_tests entry true true lets_out past = refl
by_tests entry true false true past = refl
by_tests entry true false false past = refl

by_entry : (ports : List SwitchPort) (p_key entry : ℕ) → leaves_by ports p_key entry ≡ way_out (fate_by ports p_key entry)
by_entry ports p_key entry =
    by_tests entry (nat_lt entry (length ports)) (entry == 0) (passes_outbound ports entry p_key) (none_past ports entry p_key)

by_table : (ports : List SwitchPort) (p_key : ℕ) (inbound counts : Bool) (entry : Option ℕ)
    → (if inbound then option_and_then (leaves_by ports p_key) (if counts then entry else None) else None)
    ≡ way_out (if not inbound then KeptOut else (if not counts then OverTop else option_map_or (fate_by ports p_key) entry OverTop))
by_table ports p_key false counts entry = refl
by_table ports p_key true false entry = refl
by_table ports p_key true true None = refl
by_table ports p_key true true (Some entry) = by_entry ports p_key entry

pub fates_report_ways_out : FatesReportWaysOut
unfolding fate
fates_report_ways_out held in_port packet =
    by_table held.ports packet.p_key (passes_inbound held.ports in_port packet.p_key) (nat_le packet.dlid held.info.linear_fdb_top) (slice_get held.linear packet.dlid)
