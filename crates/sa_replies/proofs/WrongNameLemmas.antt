-- Two requests that differ in one field that the mask does not name, and rules that answer them by it.
use Rattle.std.proofs.Common.{ℕ, ◌+◌, true, false, ◌==◌, List, [], ◌∷◌, replicate, ◌∙◌, ap, refl, sym}
use Rattle.std.specs.Int.Digits.{AllBelowBase}
use Rattle.std.proofs.lemmas.Bool.{false≢true}
use Rattle.mad_layout.specs.Bits.{field, put_field}
use Rattle.rmpp_core.proofs.ReadBackLemmas.{reply_below}
use Rattle.rmpp_core.specs.Reply.{reply_bytes}
use Rattle.sa_records.specs.McMemberRecord.{mc_member_record_bytes, mc_member_record_selected, group_in}
use Rattle.sa_records.specs.PathMask as path_mask
use Rattle.sa_records.specs.PathRecord.{path_in, path_record_bytes, path_record_selected}
use Rattle.sa_records.specs.ServiceMask as service_mask
use Rattle.sa_records.specs.ServiceRecord.{service_in, service_record_bytes}
use Rattle.sa_records.specs.Speed.{speed_of}
use Rattle.sa_records.specs.declared.mc_member_record.McMemberRecord.{McMemberRecord}
use Rattle.sa_model.specs.Groups.{GroupParameters, MulticastGroup, PartitionGroups}
use Rattle.sa_model.specs.Services.{PortServices, Service}
use Rattle.sa_model.specs.QueryExamples.{path_asked}
use Rattle.sa_model.specs.Gid.{gid_of}
use Rattle.sa_replies.specs.Answer.{Administration}
use Rattle.sa_replies.specs.Examples.{asking, group_asked, header_of, is_there, making_mask}
use Rattle.sa_replies.specs.Reply.{no_rmpp}
use Rattle.sa_replies.specs.Request.{request_in}
use Rattle.sa_replies.specs.State.{at_start}
use Rattle.sa_replies.specs.Transfers.{table_of}
use Rattle.sa_replies.proofs.OpenTableLemmas.{starts_are_states}
use Rattle.sa_replies.specs.Named.{AskTheSame}
use Rattle.sa_replies.specs.RequestWrongRules.{CountsAreNamed, HopLimitsAreNamed, LeasesAreNamed, ProxiesAreNamed, ScopesAreNamed, UnnamedHopLimitsAreZero}
use Rattle.sa_replies.proofs.RequestWrongLemmas.{first, two, two_is_configured}

-- ---- groups that are made
abbrev making_by : McMemberRecord → List ℕ
making_by one = asking (header_of 2 1 0x38) no_rmpp making_mask (mc_member_record_bytes one)

making_below : (one : McMemberRecord) → AllBelowBase 256 (making_by one)
making_below one = reply_below _ _ _

abbrev plain : McMemberRecord
plain = group_asked 0x101 0x1234 0xffff

abbrev parameter_after : (GroupParameters → ℕ) → Administration → ℕ
parameter_after which state = in_partitions state.remembered.partitions
  where
    in_groups : List MulticastGroup → ℕ
    in_groups [] = 99
    in_groups (group ∷ groups) = which group.parameters

    in_partitions : List PartitionGroups → ℕ
    in_partitions [] = 99
    in_partitions (partition ∷ partitions) = in_groups partition.groups

by_hop_limit : AskTheSame (making_by plain) (making_by (record plain { hop_limit = 7 }))
unfolding field put_field reply_bytes request_in group_in mc_member_record_bytes
by_hop_limit = record {
  long = refl;
  bytes = making_below plain;
  other_bytes = making_below (record plain { hop_limit = 7 });
  header = refl;
  rmpp = refl;
  component_mask = refl;
  fields = refl;
}

pub unnamed_hop_limits_are_zero : UnnamedHopLimitsAreZero
unfolding field put_field reply_bytes request_in group_in mc_member_record_bytes mc_member_record_selected speed_of
unnamed_hop_limits_are_zero law =
    let new = (law two first (making_by (record plain { hop_limit = 7 })) (at_start two) two_is_configured refl (starts_are_states two two_is_configured) refl refl).made refl in
    false≢true (sym (ap (λ groups. in_groups groups == 7) new.there ∙ ap (λ (n : ℕ). n == 7) (new.given.no_hop_limit refl)))
  where
    in_groups : List MulticastGroup → ℕ
    in_groups [] = 99
    in_groups (group ∷ groups) = group.parameters.hop_limit

pub hop_limits_are_named : HopLimitsAreNamed
unfolding field put_field reply_bytes request_in group_in mc_member_record_bytes mc_member_record_selected speed_of
hop_limits_are_named law =
    false≢true (ap (λ state. parameter_after (λ given. given.hop_limit) state == 7) (law two first (making_by plain) (making_by (record plain { hop_limit = 7 })) (at_start two) two_is_configured refl (starts_are_states two two_is_configured) by_hop_limit).after)

by_scope : AskTheSame (making_by plain) (making_by (record plain { scope = 5 }))
unfolding field put_field reply_bytes request_in group_in mc_member_record_bytes
by_scope = record {
  long = refl;
  bytes = making_below plain;
  other_bytes = making_below (record plain { scope = 5 });
  header = refl;
  rmpp = refl;
  component_mask = refl;
  fields = refl;
}

pub scopes_are_named : ScopesAreNamed
unfolding field put_field reply_bytes request_in group_in mc_member_record_bytes mc_member_record_selected speed_of
scopes_are_named law =
    false≢true (ap (λ state. parameter_after (λ given. given.scope) state == 5) (law two first (making_by plain) (making_by (record plain { scope = 5 })) (at_start two) two_is_configured refl (starts_are_states two two_is_configured) by_scope).after)

by_proxy_join : AskTheSame (making_by plain) (making_by (record plain { proxy_join = true }))
unfolding field put_field reply_bytes request_in group_in mc_member_record_bytes
by_proxy_join = record {
  long = refl;
  bytes = making_below plain;
  other_bytes = making_below (record plain { proxy_join = true });
  header = refl;
  rmpp = refl;
  component_mask = refl;
  fields = refl;
}

pub proxies_are_named : ProxiesAreNamed
unfolding field put_field reply_bytes request_in group_in mc_member_record_bytes mc_member_record_selected speed_of
proxies_are_named law =
    false≢true (ap (λ state. parameter_after (λ given. given.q_key) state == 99) (law two first (making_by plain) (making_by (record plain { proxy_join = true })) (at_start two) two_is_configured refl (starts_are_states two two_is_configured) by_proxy_join).after)

-- ---- a service that is set
abbrev setting : ℕ → List ℕ
setting lease =
    asking (header_of 2 1 0x31) no_rmpp (service_mask.service_id + service_mask.service_gid + service_mask.service_p_key)
    (service_record_bytes (record {
      service_id = 1;
      service_gid = gid_of 0x101;
      service_p_key = 0xffff;
      service_lease = lease;
      service_key = 0;
      service_name = replicate 64 0;
      service_data = replicate 64 0;
    }))

setting_below : (lease : ℕ) → AllBelowBase 256 (setting lease)
setting_below lease = reply_below _ _ _

abbrev lease_after : Administration → ℕ
lease_after state = in_places state.remembered.services
  where
    in_services : List Service → ℕ
    in_services [] = 99
    in_services (service ∷ services) = service.lease

    in_places : List PortServices → ℕ
    in_places [] = 99
    in_places (place ∷ places) = in_services place.services

by_lease : AskTheSame (setting 0) (setting 7)
unfolding field put_field reply_bytes request_in service_in service_record_bytes
by_lease = record {
  long = refl;
  bytes = setting_below 0;
  other_bytes = setting_below 7;
  header = refl;
  rmpp = refl;
  component_mask = refl;
  fields = refl;
}

pub leases_are_named : LeasesAreNamed
unfolding field put_field reply_bytes request_in service_in service_record_bytes
leases_are_named law =
    false≢true (ap (λ state. lease_after state == 7) (law two first (setting 0) (setting 7) (at_start two) two_is_configured refl (starts_are_states two two_is_configured) by_lease).after)

-- ---- a table of paths, of which none are wanted, or one to each port
abbrev paths_by : ℕ → List ℕ
paths_by most = asking (header_of 0x12 1 0x35) no_rmpp path_mask.sgid (path_record_bytes (path_asked 0x101 0x102 0 0 most))

paths_below : (most : ℕ) → AllBelowBase 256 (paths_by most)
paths_below most = reply_below _ _ _

by_count : AskTheSame (paths_by 0) (paths_by 1)
unfolding field put_field reply_bytes request_in path_in path_record_bytes
by_count = record {
  long = refl;
  bytes = paths_below 0;
  other_bytes = paths_below 1;
  header = refl;
  rmpp = refl;
  component_mask = refl;
  fields = refl;
}

pub counts_are_named : CountsAreNamed
unfolding field put_field reply_bytes request_in path_in path_record_bytes path_record_selected speed_of
counts_are_named law =
    false≢true (ap (λ state. is_there (table_of 0x101 state.transfers))
    (law two first (paths_by 0) (paths_by 1) (at_start two) two_is_configured refl (starts_are_states two two_is_configured) by_count).after)
