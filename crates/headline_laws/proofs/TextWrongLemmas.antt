-- Two scripts, of which one has a line more that is taken out, and a wrong rule by which the port a/1 hears of it.
use Rattle.std.proofs.Common.{ℕ, Bool, true, false, List, [], ◌∷◌, codes, ap, refl, sym}
use Rattle.std.proofs.lemmas.Bool.{false≢true}
use Rattle.std.specs.Fmt.{digits}
use Rattle.headline_laws.specs.TextWrongRules.{AsksOfFarPortsAreNotHeard, CutsAreNotHeard, MendsAreNotHeard, NearPortsAreNotLeftOut, SendsOfFarPortsAreNotHeard}

abbrev are_none : List (List ℕ) → Bool
are_none [] = true
are_none (line ∷ lines) = false

abbrev shown : List ℕ
shown = codes "share a/1 b/1 0x0001\n"

abbrev heard : List ℕ
heard = codes "a/1 recv\n"

pub sends_of_far_ports_are_not_heard : SendsOfFarPortsAreNotHeard
unfolding digits
sends_of_far_ports_are_not_heard topology partitions law =
    false≢true (sym (ap are_none (law topology partitions (codes "a/1") shown [] (codes "send c/1 1\n") [] heard (refl, refl, refl) (refl, refl, refl) (refl, refl, refl) refl)))

pub asks_of_far_ports_are_not_heard : AsksOfFarPortsAreNotHeard
unfolding digits
asks_of_far_ports_are_not_heard topology partitions law =
    false≢true (sym (ap are_none (law topology partitions (codes "a/1") shown [] (codes "ask c/1 get\n") [] heard (refl, refl, refl) (refl, refl, refl) (refl, refl, refl) refl)))

pub near_ports_are_not_left_out : NearPortsAreNotLeftOut
unfolding digits
near_ports_are_not_left_out topology partitions law =
    false≢true (sym (ap are_none (law topology partitions (codes "a/1") [] [] (codes "send b/1 1\n") [] heard (refl, refl, refl) (refl, refl, refl) (refl, refl, refl) refl)))

pub cuts_are_not_heard : CutsAreNotHeard
unfolding digits
cuts_are_not_heard topology partitions law =
    false≢true (sym (ap are_none (law topology partitions (codes "a/1") [] [] (codes "cut S/2 T/2\n") [] heard (refl, refl, refl) (refl, refl, refl) (refl, refl, refl) refl)))

pub mends_are_not_heard : MendsAreNotHeard
unfolding digits
mends_are_not_heard topology partitions law =
    false≢true (sym (ap are_none (law topology partitions (codes "a/1") [] [] (codes "mend S/2 T/2\n") [] heard (refl, refl, refl) (refl, refl, refl) (refl, refl, refl) refl)))
