use Rattle.std.proofs.Common.{◌≡◌, ◌∙◌, false, nat_lt, rules, sym, true}
use Rattle.std.specs.List.Sorted.{IsPartitionPoint}
use Rattle.std.proofs.lemmas.List.Sorted.{IsPartitionPoint-from_clause}
use Rattle.sa_model.specs.Groups.{Membership}
use Rattle.sa_store.proofs.PushedLemmas.{are_parted, found_at, nowhere}
use Rattle.sa_store.proofs.receivers.some_receives.Goals as goal

pub returns-in-Some : goal.returns-in-Some
returns-in-Some c =
    let memberships = c.args.memberships.now in
    let guid = c.args.guid in
    let place = c.partition_point-place.result in
    let test = λ (one : Membership). nat_lt one.port guid in
    let point : IsPartitionPoint (λ (one : Membership). nat_lt one.port guid ≡ true) (λ (one : Membership). nat_lt one.port guid ≡ false) memberships place =
    IsPartitionPoint-from_clause test memberships place c.partition_point-place.ensures.partitioned (are_parted guid memberships c.requires) (λ a r f' called. search rules) in
    let there = c.in-Some.ensures.lookup in
    c.receives.ensures ∙ sym (found_at guid memberships place c.in-Some.membership.now c.requires there.3.0 there.1 point)

pub returns-in-None : goal.returns-in-None
returns-in-None c =
    let memberships = c.args.memberships.now in
    let guid = c.args.guid in
    let place = c.partition_point-place.result in
    let test = λ (one : Membership). nat_lt one.port guid in
    let point : IsPartitionPoint (λ (one : Membership). nat_lt one.port guid ≡ true) (λ (one : Membership). nat_lt one.port guid ≡ false) memberships place =
    IsPartitionPoint-from_clause test memberships place c.partition_point-place.ensures.partitioned (are_parted guid memberships c.requires) (λ a r f' called. search rules) in
    let past = c.in-None.ensures.lookup in
    sym (nowhere guid memberships place c.partition_point-place.ensures.bound past.3 point)
