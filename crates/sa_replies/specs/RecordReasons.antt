-- Why a Set and a Delete of a service are refused, and a request for records (IBA volume 1, 15.2.2 and 15.2.5).
use Rattle.std.specs.Prelude.{ℕ, ◌==◌, Bool, not, ◌&&◌, ◌||◌, nat_le, nat_lt, if◌then◌else◌, List, [], ◌∷◌, ◌++◌, filter, length, Option, Some, None}
use Rattle.std.specs.List.{flat_map, list_any}
use Rattle.pkey_rules.specs.PKey.{base_of}
use Rattle.sa_records.specs.McMemberMask as member_mask
use Rattle.sa_records.specs.McMemberRecord.{group_in}
use Rattle.sa_records.specs.PathMask as path_mask
use Rattle.sa_records.specs.PathRecord.{path_in}
use Rattle.sa_records.specs.ServiceMask as service_mask
use Rattle.sa_records.specs.ServiceRecord.{service_in}
use Rattle.sa_records.specs.declared.path_record.PathRecord.{PathRecord}
use Rattle.sa_records.specs.declared.service_record.ServiceRecord.{ServiceRecord}
use Rattle.sa_records.specs.declared.mc_member_record.McMemberRecord.{McMemberRecord}
use Rattle.sa_records.specs.declared.sa_attribute.SaAttribute.TheVariants as sa_attribute
use Rattle.subnet_model.specs.declared.subnet_port.SubnetPort.{SubnetPort}
use Rattle.sa_model.specs.Members.{is_in}
use Rattle.sa_model.specs.Gid.{gid_of}
use Rattle.sa_model.specs.Services.{Service}
use Rattle.sa_model.specs.Selected.{Query, asks, selected}
use Rattle.sa_model.specs.Shown.{Entry}
use Rattle.sa_model.specs.Visible.{SaState}
use Rattle.sa_replies.specs.Answer.{query_of}
use Rattle.sa_replies.specs.Request.{Request, is_about}
use Rattle.sa_replies.specs.Reasons.{Reason, because, insufficient_components, invalid_gid, lacks, names_unknown, no_records, no_resources, request_invalid, too_many_records}

-- ---- services
abbrev pub services_of : SubnetPort → ServiceRecord → SaState → List Service
services_of own asked state =
    flat_map (λ place. place.services) (filter (λ place. (place.port == own.guid) && (place.base == base_of asked.service_p_key)) state.services)

abbrev pub is_offered : SubnetPort → ServiceRecord → SaState → Bool
is_offered own asked state = list_any (λ service. service.service_id == asked.service_id) (services_of own asked state)

abbrev pub reasons_of_owner : SubnetPort → ℕ → ServiceRecord → List Reason
reasons_of_owner own mask asked =
    because (lacks mask (service_mask.service_id ∷ service_mask.service_gid ∷ service_mask.service_p_key ∷ [])) insufficient_components
    ∷ because (not (asked.service_gid == gid_of own.guid)) invalid_gid
    ∷ because (not (is_in own (base_of asked.service_p_key))) request_invalid
    ∷ []

-- a port offers 16 services in a partition at most
abbrev pub reasons_of_set : List SubnetPort → SubnetPort → SaState → Request → List Reason
reasons_of_set ports own state request =
    reasons_of_owner own request.component_mask (service_in request.content)
    ++ because (not (is_offered own (service_in request.content) state) && nat_le 16 (length (services_of own (service_in request.content) state)))
    no_resources
    ∷ []

abbrev pub reasons_of_deletion : List SubnetPort → SubnetPort → SaState → Request → List Reason
reasons_of_deletion ports own state request =
    reasons_of_owner own request.component_mask (service_in request.content)
    ++ because (not (is_offered own (service_in request.content) state)) no_records ∷ []

-- ---- records. A port asks for paths from itself, and from no other; codes are the standard's
abbrev pub reasons_of_path : SubnetPort → ℕ → PathRecord → List Reason
reasons_of_path own mask asked =
    because (not (asks mask path_mask.sgid) && not (asks mask path_mask.slid)) insufficient_components
    ∷ because (asks mask path_mask.sgid && not (asked.sgid == gid_of own.guid)) invalid_gid
    ∷ because (asks mask path_mask.numb_path && (asked.numb_path == 0)) request_invalid
    ∷ because (names_unknown mask path_mask.mtu 1 5 asked.mtu || names_unknown mask path_mask.rate 2 10 asked.rate) request_invalid
    ∷ []

abbrev pub reasons_of_groups : ℕ → McMemberRecord → List Reason
reasons_of_groups mask asked =
    because (names_unknown mask member_mask.mtu 1 5 asked.mtu || names_unknown mask member_mask.rate 2 10 asked.rate) request_invalid ∷ []

abbrev pub reasons_of_table : List SubnetPort → SubnetPort → SaState → Request → List Reason
reasons_of_table ports own state request =
    if is_about sa_attribute.PathRecord request then reasons_of_path own request.component_mask (path_in request.content)
    else if is_about sa_attribute.McMemberRecord request then reasons_of_groups request.component_mask (group_in request.content)
    else []

-- a Get wants one record; of several paths to one port the first is enough
abbrev pub found_for : List SubnetPort → SubnetPort → SaState → Option Query → List Entry
found_for ports own state (Some query) = selected (Some 1) ports own state query
found_for ports own state None = []

abbrev pub reasons_of_count : ℕ → List Reason
reasons_of_count count = because (count == 0) no_records ∷ because (nat_lt 1 count) too_many_records ∷ []

abbrev pub reasons_of_get : List SubnetPort → SubnetPort → SaState → Request → List Reason
reasons_of_get ports own state request =
    reasons_of_table ports own state request ++ reasons_of_count (length (found_for ports own state (query_of request)))
