-- What the audit says of tables that do not pass.
use Rattle.std.proofs.Common.{◌≡◌, refl, sym, [], ◌∷◌, None, Some, arith}
use Rattle.std.proofs.lemmas.Bool.{false≢true}
use Rattle.std.proofs.lemmas.Option.{none-some}
use Rattle.fabric_parts.specs.Cable.{port}
use Rattle.joint_laws.specs.WrongTables.{ACycleIsNotFree, ADeadEndDoesNotPass, AHoleDoesNotPass, ALoopDoesNotPass, AWaitingRingDoesNotPass, AWrongEndDoesNotPass, NoEntriesDoNotPass}

pub a_hole_does_not_pass : AHoleDoesNotPass
a_hole_does_not_pass passes =
    false≢true (passes.reached 0 1 (port 2 1) (record { switch = refl; number = 1; low = omega arith; high = omega arith; at = port 2 1; cable = refl; host = refl }) refl refl)

pub no_entries_do_not_pass : NoEntriesDoNotPass
no_entries_do_not_pass passes =
    false≢true (passes.reached 0 1 (port 2 1) (record { switch = refl; number = 1; low = omega arith; high = omega arith; at = port 2 1; cable = refl; host = refl }) refl refl)

pub a_loop_does_not_pass : ALoopDoesNotPass
a_loop_does_not_pass passes = false≢true (passes.led 0 1 2 (port 2 1) refl refl refl)

pub a_wrong_end_does_not_pass : AWrongEndDoesNotPass
a_wrong_end_does_not_pass passes = false≢true (passes.led 0 1 0 (port 2 1) refl refl refl)

pub a_dead_end_does_not_pass : ADeadEndDoesNotPass
a_dead_end_does_not_pass passes = false≢true (passes.led 1 1 2 (port 2 1) refl refl refl)

pub a_cycle_is_not_free : ACycleIsNotFree
a_cycle_is_not_free free =
    let none : Some (port 0 2 ∷ port 1 1 ∷ []) ≡ None = free (1 ∷ []) in none-some (port 0 2 ∷ port 1 1 ∷ []) (sym none)

pub a_waiting_ring_does_not_pass : AWaitingRingDoesNotPass
a_waiting_ring_does_not_pass = record {
  come = refl;
  waits = λ passes.
      let none : Some (port 0 2 ∷ port 1 2 ∷ port 2 2 ∷ []) ≡ None = passes.free (1 ∷ 2 ∷ 3 ∷ []) in
      none-some (port 0 2 ∷ port 1 2 ∷ port 2 2 ∷ []) (sym none);
}
