-- What wrong rules report of two switches.
use Rattle.std.proofs.Common.{◌≡◌, ◌∙◌, ◌==◌, ℕ, ap, refl, sym, [], ◌∷◌}
use Rattle.std.proofs.lemmas.Bool.{false≢true}
use Rattle.audit_net.specs.WrongRules.{HostsComeSomewhere, HostsDoNotComeEverywhere, LoopsBeginWhereReported, WaysAreLonger, WaysGoOn}
use Rattle.audit_net.specs.SmallNets.{two_switches, with_entries}
use Rattle.audit_net.proofs.HostLemmas.{hosts_are_followed}

pub ways_are_longer : WaysAreLonger
ways_are_longer law = let none = law (two_switches 1 0) 1 0 refl refl 2 in cc

pub loops_begin_where_reported : LoopsBeginWhereReported
loops_begin_where_reported law =
    let reported = law (two_switches 1 1) 1 0 (1 ∷ []) refl in
    let same : 1 ∷ [] ≡ 0 ∷ reported.0 = reported.1 in
    let first : ◌≡◌ {A = ℕ} 1 0 = cc in
    false≢true (sym (ap (λ (n : ℕ). n == 1) first) ∙ refl)

pub ways_go_on : WaysGoOn
ways_go_on law = false≢true (law.comes (two_switches 1 1) 1 0 1 (1 ∷ []) refl (refl, refl))

-- an adapter is attached to the first switch
pub hosts_come_somewhere : HostsComeSomewhere
hosts_come_somewhere law = false≢true (law.comes (with_entries 1 1) 1 0 (record { from = 0; switch = refl; carries = refl; over = []; comes = refl }))

-- and packets do not go from there to the second
pub hosts_do_not_come_everywhere : HostsDoNotComeEverywhere
hosts_do_not_come_everywhere law = false≢true (hosts_are_followed.comes (with_entries 1 1) 1 1 (law.there (with_entries 1 1) 1 1 refl))
