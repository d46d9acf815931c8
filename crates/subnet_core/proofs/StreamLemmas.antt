-- What a stream comes to once all that waits was written, or some of it.
use Rattle.std.proofs.Common.{ℕ, ◌+◌, ◌≡◌, ◌∙◌, ap, refl, subst, sym, List, [], ◌∷◌, Option, Some, None, Result, Ok, Err}
use Rattle.std.specs.Io.KnownBytes.{Appends, Consumes}
use Rattle.partition_file.specs.declared.partition.Partition.{Partition}
use Rattle.step_results.specs.AtLine.{AtLine}
use Rattle.step_results.proofs.StepLemmas.{same_err}
use Rattle.sa_replies.specs.State.{at_start}
use Rattle.script_lines.specs.declared.script_cause.ScriptCause.{ScriptCause}
use Rattle.subnet_core.proofs.LineCommandLemmas.{are_judged}
use Rattle.subnet_core.proofs.PartLemmas.{whole_lines_are}
use Rattle.subnet_core.proofs.PutLemmas.{ends_in_part, ends_whole, some_ends_in_part, some_ends_whole}
use Rattle.std.specs.Prelude.{IfOk}
use Rattle.subnet_core.proofs.BringUpLemmas.{same_inventory}
use Rattle.subnet_core.specs.BringUp.{Becomes, IsStopped}
use Rattle.subnet_core.specs.Fate.{FailsWith, WithFabric, up_from}
use Rattle.subnet_core.specs.Inventory.{InventoryState, fault_in, of_text, partitions_for, inventory_of, inventory_by}
use Rattle.subnet_core.specs.Stream.{CarriesOut, EndsSo, commands_before_fault, judged, report_so_far, reported_of_lines}
use Rattle.subnet_core.specs.StreamSteps.{Carries, Puts, ReadsOn, StopsSo, StreamState, first_fault, lines_behind, reported_from}
use Rattle.subnet_core.specs.declared.fault.RunFault.{RunFault}
use Rattle.subnet_core.specs.declared.fault.RunFault.TheVariants.{NoMemory, Topology, Partitions, Sweep, NoLegalPath, Push, Port, Script, SecondScript, Read, Write}
use Rattle.text_streams.proofs.KnownBytesLemmas.{appends_nothing}
use Rattle.text_streams.proofs.TimeLemmas.{more_in_time, nothing_in_time}
use Rattle.text_streams.specs.Reading.{AreInTime, IsInTime, Moment, Notes}
use Rattle.text_streams.specs.Writing.{AppendsPart}
use Rattle.topo_file.specs.Topology.{TopologyState, topology_of}

module _ (was : StreamState) (text : was.text ≡ []) (count : was.taken ≡ 0) (fresh : was.subnet.administration ≡ at_start was.subnet.inventory.configuration) where
  abbrev inventory : InventoryState
  inventory = was.subnet.inventory

  same_reported : (taken : List (List ℕ)) → reported_from was.subnet taken ≡ reported_of_lines inventory taken
  same_reported taken = rw fresh refl

  sound : (taken : List (List ℕ)) → first_fault inventory.plan (was.taken + 1) taken ≡ None → judged inventory.plan taken ≡ Ok (commands_before_fault inventory.plan taken)
  sound taken is = are_judged inventory.plan 1 [] taken ∙ rw (rw count at is) refl

  faulty : (taken : List (List ℕ)) (at : AtLine ScriptCause) → first_fault inventory.plan (was.taken + 1) taken ≡ Some at
      → of_text Script (judged inventory.plan taken) ≡ Err (Script at.line at.cause)
  faulty taken at is =
      let fault : judged inventory.plan taken ≡ Err at = are_judged inventory.plan 1 [] taken ∙ rw (rw count at is) refl in
      rw fault refl

  module _ (X : Type 0) (read : List ℕ) (rest : Option (List ℕ)) (taken : List (List ℕ)) (left : StreamState) (old middle new : Option (List ℕ)) where
    -- ---- all of it
    module _ (written : Appends middle new left.text) where
      all_of : Carries taken was left old middle → Appends old new (reported_of_lines inventory taken)
      all_of one = ends_whole (reported_of_lines inventory taken) left.text old middle new (rw (text, same_reported taken) at one.puts) written

      pub ends_written : (answer : Result X RunFault) → StopsSo answer read rest taken was left old middle → EndsSo inventory answer read rest taken old new
      ends_written (Ok done) stops = (stops.0, stops.1, sound taken stops.2.sound, all_of stops.2)
      ends_written (Err Read) stops = (stops.0, sound taken stops.1.sound, all_of stops.1)
      ends_written (Err (Script line cause)) stops =
          (faulty taken _ stops.0, ends_whole (reported_of_lines inventory taken) left.text old middle new (rw (text, same_reported taken) at stops.1) written)
      ends_written (Err NoMemory) stops = some_ends_whole (reported_of_lines inventory taken) left.text old middle new (rw (text, same_reported taken) at stops) written
      ends_written (Err Write) stops = some_ends_whole (reported_of_lines inventory taken) left.text old middle new (rw (text, same_reported taken) at stops) written
      ends_written (Err (Topology line cause)) stops = absurd stops
      ends_written (Err (Partitions line cause)) stops = absurd stops
      ends_written (Err (Sweep fault)) stops = absurd stops
      ends_written (Err (NoLegalPath switch node number)) stops = absurd stops
      ends_written (Err (Push fault)) stops = absurd stops
      ends_written (Err (Port cause)) stops = absurd stops
      ends_written (Err (SecondScript line cause)) stops = absurd stops

    -- ---- some of it
    module _ (written : AppendsPart middle new left.text) where
      some_of : Carries taken was left old middle → AppendsPart old new (reported_of_lines inventory taken)
      some_of one = ends_in_part (reported_of_lines inventory taken) left.text old middle new (rw (text, same_reported taken) at one.puts) written

      pub ends_unwritten : (answer : Result X RunFault) → StopsSo answer read rest taken was left old middle → AppendsPart old new (reported_of_lines inventory taken)
      ends_unwritten (Ok done) stops = some_of stops.2
      ends_unwritten (Err Read) stops = some_of stops.1
      ends_unwritten (Err (Script line cause)) stops =
          ends_in_part (reported_of_lines inventory taken) left.text old middle new (rw (text, same_reported taken) at stops.1) written
      ends_unwritten (Err NoMemory) stops = some_ends_in_part (reported_of_lines inventory taken) left.text old middle new (rw (text, same_reported taken) at stops) written
      ends_unwritten (Err Write) stops = some_ends_in_part (reported_of_lines inventory taken) left.text old middle new (rw (text, same_reported taken) at stops) written
      ends_unwritten (Err (Topology line cause)) stops = absurd stops
      ends_unwritten (Err (Partitions line cause)) stops = absurd stops
      ends_unwritten (Err (Sweep fault)) stops = absurd stops
      ends_unwritten (Err (NoLegalPath switch node number)) stops = absurd stops
      ends_unwritten (Err (Push fault)) stops = absurd stops
      ends_unwritten (Err (Port cause)) stops = absurd stops
      ends_unwritten (Err (SecondScript line cause)) stops = absurd stops

  -- if nothing waits, the report of what was read is written
  pub reads_in_time : (read : List ℕ) (left : StreamState) (script rest old now : Option (List ℕ)) → left.text ≡ [] → Consumes script rest read
      → Carries (lines_behind [] read) was left old now → IsInTime (report_so_far inventory) script old (record { left = rest; written = now })
  reads_in_time read left script rest old now empty consumed carries = record {
    read = read;
    consumed = consumed;
    reported =
        let reported = reported_of_lines inventory (lines_behind [] read) in
        let puts : Puts reported [] [] old now = rw (text, empty, same_reported (lines_behind [] read)) at carries.puts in
        subst (λ taken. Appends old now (reported_of_lines inventory taken)) (sym (whole_lines_are read)) (ends_whole reported [] old now now puts (appends_nothing now));
  }

  pub more_reads : (read : List ℕ) (left : StreamState) (script rest old now : Option (List ℕ)) (first before after : Option (List Moment))
      → AreInTime (report_so_far inventory) script old first before → left.text ≡ [] → Consumes script rest read → Carries (lines_behind [] read) was left old now
      → Notes before after (record { left = rest; written = now } ∷ []) → AreInTime (report_so_far inventory) script old first after
  more_reads read left script rest old now first before after so_far empty consumed carries noted =
      more_in_time (report_so_far inventory) script old first before after (record { left = rest; written = now }) so_far noted
      (reads_in_time read left script rest old now empty consumed carries)

  module _ (X : Type 0) (answer : Result X RunFault) (left : StreamState) (script rest old middle new : Option (List ℕ))
      (on : ReadsOn X answer was left script rest old middle) where
    pub carries_out : Appends middle new left.text → CarriesOut X inventory answer script rest old new
    carries_out written = record {
      read = on.read;
      consumed = on.consumed;
      taken = on.taken;
      are_lines = on.are_lines;
      ends = ends_written X on.read rest on.taken left old middle new written answer on.stops;
    }

    pub refuses : AppendsPart middle new left.text → CarriesOut X inventory (Err Write) script rest old new
    refuses written = record {
      read = on.read;
      consumed = on.consumed;
      taken = on.taken;
      are_lines = on.are_lines;
      ends = ends_unwritten X on.read rest on.taken left old middle new written answer on.stops;
    }

-- ---- if no subnet comes up, neither a read nor a write fails
abbrev pub IsOther : RunFault → Type 0
IsOther Read = ⊥
IsOther Write = ⊥
IsOther fault = Unit {0}

of_text_other : {X Cause : Type 0} (make : ℕ → Cause → RunFault) → ((line : ℕ) (cause : Cause) → IsOther (make line cause))
    → (given : Result X (AtLine Cause)) (fault : RunFault) → of_text make given ≡ Err fault → IsOther fault
of_text_other make other (Ok x) fault is = absurd cc
of_text_other make other (Err at) fault is = subst IsOther (same_err _ _ is) (other at.line at.cause)

partitions_other : (partitions : Option (List ℕ)) (fault : RunFault) → partitions_for partitions ≡ Err fault → IsOther fault
partitions_other None fault is = absurd cc
partitions_other (Some text) fault is = of_text_other Partitions (λ line cause. tt) _ fault is

inventory_other : (topology : List ℕ) (partitions : Option (List ℕ)) (fault : RunFault) → inventory_of topology partitions ≡ Err fault → IsOther fault
unfolding inventory_by
inventory_other topology partitions fault is = by (of_text Topology (topology_of topology)) refl (partitions_for partitions) refl
  where
    by : (read : Result TopologyState RunFault) → of_text Topology (topology_of topology) ≡ read → (all : Result (List Partition) RunFault) → partitions_for partitions ≡ all
        → IsOther fault
    by (Err other) e all p = let same : other ≡ fault = same_err _ _ (rw e at is) in of_text_other Topology (λ line cause. tt) _ fault (e ∙ ap Err same)
    by (Ok plan) e (Err other) p = let same : other ≡ fault = same_err _ _ (rw (e, p) at is) in partitions_other partitions fault (p ∙ ap Err same)
    by (Ok plan) e (Ok all) p = let none : Ok _ ≡ Err fault = rw (e, p) at is in absurd cc

stop_other : (held : InventoryState) (fault : RunFault) → IsStopped held fault → IsOther fault
stop_other held NoMemory is = tt
stop_other held (Topology line cause) is = tt
stop_other held (Partitions line cause) is = tt
stop_other held (Sweep fault) is = tt
stop_other held (NoLegalPath switch node number) is = tt
stop_other held (Push fault) is = tt
stop_other held (Port cause) is = tt
stop_other held (Script line cause) is = tt
stop_other held (SecondScript line cause) is = tt
stop_other held Read is = is
stop_other held Write is = is

up_other : (topology : List ℕ) (partitions : Option (List ℕ)) (stop : Option RunFault) (fault : RunFault) → Becomes (inventory_of topology partitions) stop
    → up_from (inventory_of topology partitions) stop ≡ Err fault → IsOther fault
unfolding up_from
up_other topology partitions stop fault becomes is = by (inventory_of topology partitions) refl stop refl
  where
    by : (given : Result InventoryState RunFault) → inventory_of topology partitions ≡ given → (s : Option RunFault) → stop ≡ s → IsOther fault
    by (Err other) e s at = let same : other ≡ fault = same_err _ _ (rw e at is) in inventory_other topology partitions fault (e ∙ ap Err same)
    by (Ok inventory) e None at = let none : Ok inventory ≡ Err fault = rw (e, at) at is in absurd cc
    by (Ok inventory) e (Some other) at =
        let same : other ≡ fault = same_err _ _ (rw (e, at) at is) in
        let here : Becomes (Ok inventory) (Some other) = rw (e, at) at becomes in
        subst IsOther same (stop_other inventory other here)

fails_other : (topology : List ℕ) (partitions : Option (List ℕ)) (fault : RunFault)
    → FailsWith (Becomes (inventory_of topology partitions)) (fault_in fault) (up_from (inventory_of topology partitions)) → IsOther fault
fails_other topology partitions NoMemory fails = tt
fails_other topology partitions (Topology line cause) fails = tt
fails_other topology partitions (Partitions line cause) fails = tt
fails_other topology partitions (Sweep fault) fails = tt
fails_other topology partitions (NoLegalPath switch node number) fails = tt
fails_other topology partitions (Push fault) fails = tt
fails_other topology partitions (Port cause) fails = tt
fails_other topology partitions (Script line cause) fails = tt
fails_other topology partitions (SecondScript line cause) fails = tt
fails_other topology partitions Read fails = up_other topology partitions fails.stop Read fails.becomes fails.is
fails_other topology partitions Write fails = up_other topology partitions fails.stop Write fails.becomes fails.is

module _ (X : Type 0) (topology : List ℕ) (partitions : Option (List ℕ)) (fault : RunFault)
    (fails : FailsWith (Becomes (inventory_of topology partitions)) (fault_in fault) (up_from (inventory_of topology partitions))) where
  abbrev answer : Result X RunFault
  answer = Err fault

  pub no_read : answer ≡ Err Read → ⊥
  no_read is = subst IsOther (same_err _ _ is) (fails_other topology partitions fault fails)

  pub no_write : answer ≡ Err Write → ⊥
  no_write is = subst IsOther (same_err _ _ is) (fails_other topology partitions fault fails)

-- ---- reads in time, from the texts on
module _ (topology : List ℕ) (partitions : Option (List ℕ)) where
  -- without a read
  pub none_read : (script old : Option (List ℕ)) (known : Option (List Moment))
      → IfOk (inventory_of topology partitions) (λ inventory. AreInTime (report_so_far inventory) script old known known)
  none_read script old known = by (inventory_of topology partitions)
    where
      by : (given : Result InventoryState RunFault) → IfOk given (λ inventory. AreInTime (report_so_far inventory) script old known known)
      by (Ok inventory) = nothing_in_time (report_so_far inventory) script old known
      by (Err fault) = tt

  pub all_read : (inventory : InventoryState) → WithFabric (Becomes (inventory_of topology partitions)) (λ stop. up_from (inventory_of topology partitions) stop ≡ Ok inventory)
      → (script old : Option (List ℕ)) (before after : Option (List Moment)) → AreInTime (report_so_far inventory) script old before after
      → IfOk (inventory_of topology partitions) (λ given. AreInTime (report_so_far given) script old before after)
  all_read inventory up script old before after in_time =
      rw (same_inventory (inventory_of topology partitions) up.stop inventory up.is) in_time
