-- The lines of shares have each two ports that may talk, under each base.
use Rattle.std.proofs.Common.{◌≡◌, ◌<◌, ◌≤◌, arith, refl, sym, subst, ℕ, zero, suc, true, false, List, [], ◌∷◌, flat_map, slice_get, Option, Some, None, ◌⊎◌, inl, inr, Bool, ◌==◌, ◌||◌}
use Rattle.std.proofs.lemmas.Bool.{eq-eqb}
use Rattle.std.specs.List.{Contains, range_with_len}
use Rattle.std.specs.Str.Iter.{HasSubslice}
use Rattle.std.proofs.lemmas.List.Elements.{Contains-append_left, Contains-append_right}
use Rattle.audit_plan.proofs.SubsliceLemmas.{stands_itself}
use Rattle.cable_cuts.proofs.ChangeLemmas.{gives_all}
use Rattle.partition_file.specs.declared.heading.Heading.{Heading}
use Rattle.pkey_rules.specs.KeyTable.{shares_base}
use Rattle.partition_reports.specs.Shares.{Share, is_asked, pair_shares, share_line, shared_bases, shares, shares_asked, shares_text}
use Rattle.partition_reports.specs.Sums.{are_few, listed_shares, sum_line, sum_of, sums_text}
use Rattle.joint_laws.proofs.StandingLemmas.{if_not, if_so, in_filter, in_range, stands_if_there}
use Rattle.joint_laws.specs.LineLaws.{AllSharesArePrinted, MayTalk}
use Rattle.subnet_model.specs.Configuration.{ConfigurationState}
use Rattle.subnet_model.specs.declared.subnet_port.SubnetPort.{SubnetPort}
use Rattle.subnet_fabric.proofs.ListLemmas.{mapped_to}
use Rattle.sweep.proofs.EndPortLemmas.{stands as place_in, there_is}

abbrev share_with : SubnetPort → SubnetPort → ℕ → Share
share_with p q base = record { first = p; second = q; base = base }

-- of two ports
of_pair : (p q : SubnetPort) (base : ℕ) → 1 ≤ base → base < 32768 → shares_base base p.keys q.keys ≡ true → Contains (pair_shares p q) (share_with p q base)
unfolding shared_bases
of_pair p q base above below match =
    let base_in = in_filter (λ (one : ℕ). shares_base one p.keys q.keys) (range_with_len 1 32767) base (in_range 1 32767 base above (omega (arith, below))) match in
    let at = place_in (shared_bases p.keys q.keys) base base_in in
    mapped_to (share_with p q) (shared_bases p.keys q.keys) at.0 base at.1

-- of all
of_all : (ports : List SubnetPort) (share : Share) (place later : ℕ) → place < later → slice_get ports place ≡ Some share.first
    → slice_get ports later ≡ Some share.second → Contains (pair_shares share.first share.second) share → Contains (shares ports) share
of_all [] share place later behind first second pair = absurd (cc)
of_all (p ∷ ports) share place zero behind first second pair = absurd (omega (arith, behind))
of_all (p ∷ ports) share zero (suc later) behind first second pair =
    let same : p ≡ share.first = cc in
    Contains-append_left (flat_map (pair_shares p) ports) (shares ports) share
    (gives_all (pair_shares p) ports share.second share (there_is ports later share.second second)
    (subst (λ (one : SubnetPort). Contains (pair_shares one share.second) share) (sym same) pair))
of_all (p ∷ ports) share (suc place) (suc later) behind first second pair =
    Contains-append_right (flat_map (pair_shares p) ports) (shares ports) share
    (of_all ports share place later (omega (arith, behind)) first second pair)

talk_there : (ports : List SubnetPort) (share : Share) → MayTalk ports share → Contains (shares ports) share
talk_there ports share talk =
    of_all ports share talk.place talk.later talk.behind talk.first_is talk.second_is
    (of_pair share.first share.second share.base talk.base_above talk.base_below talk.match)

asked_printed : (asked : Option ℕ) (ports : List SubnetPort) (share : Share) → MayTalk ports share → is_asked asked share.first share.second ≡ true
    → HasSubslice (shares_text asked ports) (share_line share)
asked_printed asked ports share talk is =
    stands_if_there share_line (share_line share) (shares_asked asked ports) share
    (in_filter (λ (one : Share). is_asked asked one.first one.second) (shares ports) share (talk_there ports share talk) is) (stands_itself (share_line share))

-- one of the two is asked for
is_one : (guid : ℕ) (share : Share) → (share.first.guid ≡ guid) ⊎ (share.second.guid ≡ guid) → is_asked (Some guid) share.first share.second ≡ true
is_one guid share (inl is) = rw (eq-eqb share.first.guid guid is) refl
is_one guid share (inr is) = by (share.first.guid == guid) (share.second.guid == guid) (eq-eqb share.second.guid guid is)
  where
    by : (x y : Bool) → y ≡ true → (x || y) ≡ true
    by true y is = refl
    by false y is = is

pairs_printed : (subnet : ConfigurationState) (share : Share) → are_few subnet.ports ≡ true → MayTalk subnet.ports share
    → HasSubslice (listed_shares None subnet) (share_line share)
pairs_printed subnet share few talk =
    if_so (are_few subnet.ports) (shares_text None subnet.ports) (sums_text subnet.partitions subnet.ports) (share_line share) few
    (asked_printed None subnet.ports share talk refl)

sums_printed : (subnet : ConfigurationState) (heading : Heading) → are_few subnet.ports ≡ false → Contains subnet.partitions heading
    → HasSubslice (listed_shares None subnet) (sum_line (sum_of subnet.ports heading.base))
sums_printed subnet heading many there =
    let line = sum_line (sum_of subnet.ports heading.base) in
    if_not (are_few subnet.ports) (shares_text None subnet.ports) (sums_text subnet.partitions subnet.ports) line many
    (stands_if_there (λ (one : Heading). sum_line (sum_of subnet.ports one.base)) line subnet.partitions heading there (stands_itself line))

pub all_shares_are_printed : AllSharesArePrinted
all_shares_are_printed = record {
  asked = λ guid subnet share talk is. asked_printed (Some guid) subnet.ports share talk (is_one guid share is);
  pairs = pairs_printed;
  sums = sums_printed;
}
