-- What wrong rules report of two switches.
use Rattle.std.proofs.Common.{refl, sym, [], ◌∷◌, Some, arith}
use Rattle.std.proofs.lemmas.Bool.{false≢true}
use Rattle.fabric_parts.specs.Cable.{port}
use Rattle.audit_loops.specs.Courses.{everywhere}
use Rattle.audit_loops.specs.WrongRules.{FirstPortsAreChannels, MarkedEntriesCount, OtherEntriesDoNotCount, OtherLidsDoNotCount, TheLastWaitsForTheFirst, TwoMakeACycle}
use Rattle.audit_net.specs.SmallNets.{two_switches}

pub first_ports_are_channels : FirstPortsAreChannels
first_ports_are_channels law =
    false≢true ((law (two_switches 1 1) (port 0 1)).1 (record { switch = refl; low = omega arith; high = omega arith; there = port 1 1; cable = refl; to_switch = refl }))

pub other_lids_do_not_count : OtherLidsDoNotCount
other_lids_do_not_count law = false≢true (law (two_switches 1 1) [] (port 0 1 ∷ port 1 1 ∷ []) refl).1

pub two_make_a_cycle : TwoMakeACycle
two_make_a_cycle law = false≢true (sym (law (two_switches 1 1) (1 ∷ []) refl (port 0 1 ∷ port 1 1 ∷ []) refl))

pub the_last_waits_for_the_first : TheLastWaitsForTheFirst
the_last_waits_for_the_first law = false≢true (law (two_switches 1 1) (1 ∷ []) (port 0 1 ∷ []) refl).1

pub marked_entries_count : MarkedEntriesCount
marked_entries_count law = false≢true (sym (law (two_switches 1 1) (everywhere 1 ∷ []) refl (port 0 1 ∷ port 1 1 ∷ []) refl))

pub other_entries_do_not_count : OtherEntriesDoNotCount
other_entries_do_not_count law = false≢true (law (two_switches 1 1) (record { lid = 1; marks = Some [] } ∷ []) (port 0 1 ∷ port 1 1 ∷ []) refl).1
