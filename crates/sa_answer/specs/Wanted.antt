-- What a request wants, by its method and its AttributeID, and what comes of it then.
use Rattle.std.specs.Prelude.{◌==◌, if◌then◌else◌, List, Option, Some, None, Result, Err}
use Rattle.mad_layout.specs.Method.{method_code}
use Rattle.mad_layout.specs.declared.method.Method.TheVariants as method
use Rattle.mad_layout.specs.declared.status.MadStatus.{MadStatus}
use Rattle.mad_layout.specs.declared.status.MadStatus.TheVariants.{AttributeNotSupported, MethodNotSupported}
use Rattle.sa_records.specs.McMemberRecord.{group_in}
use Rattle.sa_records.specs.NodeRecord.{node_in}
use Rattle.sa_records.specs.PathRecord.{path_in}
use Rattle.sa_records.specs.SaAttribute.{sa_attribute_of}
use Rattle.sa_records.specs.ServiceRecord.{service_in}
use Rattle.sa_records.specs.declared.sa_attribute.SaAttribute.{SaAttribute}
use Rattle.sa_records.specs.declared.sa_attribute.SaAttribute.TheVariants.{NodeRecord, PathRecord, McMemberRecord, ServiceRecord}
use Rattle.subnet_model.specs.declared.subnet_port.SubnetPort.{SubnetPort}
use Rattle.sa_model.specs.Selected.{Query}
use Rattle.sa_model.specs.Visible.{SaState}
use Rattle.sa_replies.specs.Answer.{get_outcome, table_outcome}
use Rattle.sa_replies.specs.Joins.{join_outcome, leave_outcome}
use Rattle.sa_replies.specs.Request.{Request}
use Rattle.sa_replies.specs.ServiceRequests.{service_deleted, service_set}
use Rattle.sa_replies.specs.Success.{Success}
use Rattle.sa_answer.specs.declared.wanted.Wanted.{Wanted}
use Rattle.sa_answer.specs.declared.wanted.Wanted.TheVariants.{Get, GetTable, Join, Leave, SetService, DeleteService, Refused}

abbrev pub get_wanted : Option SaAttribute → Wanted
get_wanted (Some attribute) = Get attribute
get_wanted None = Refused AttributeNotSupported

abbrev pub table_wanted : Option SaAttribute → Wanted
table_wanted (Some attribute) = GetTable attribute
table_wanted None = Refused AttributeNotSupported

-- MCMemberRecords and ServiceRecords alone are set and deleted
abbrev pub change_wanted : Option SaAttribute → (membership service : Wanted) → Wanted
change_wanted (Some McMemberRecord) membership service = membership
change_wanted (Some ServiceRecord) membership service = service
change_wanted _ membership service = Refused AttributeNotSupported

abbrev pub wanted_of : Request → Wanted
wanted_of request =
    if request.header.method == method_code method.Get then get_wanted (sa_attribute_of request.header.attribute_id)
    else if request.header.method == method_code method.GetTable then table_wanted (sa_attribute_of request.header.attribute_id)
    else if request.header.method == method_code method.Set then change_wanted (sa_attribute_of request.header.attribute_id) Join SetService
    else if request.header.method == method_code method.Delete then change_wanted (sa_attribute_of request.header.attribute_id) Leave DeleteService
    else Refused MethodNotSupported

-- ---- the query by records of a kind
abbrev pub query_about : SaAttribute → Request → Query
query_about NodeRecord request = Query.for_nodes request.component_mask (node_in request.content)
query_about PathRecord request = Query.for_paths request.component_mask (path_in request.content)
query_about McMemberRecord request = Query.for_groups request.component_mask (group_in request.content)
query_about ServiceRecord request = Query.for_services request.component_mask (service_in request.content)

-- ---- what comes of a request that wants this
abbrev pub outcome_of : List SubnetPort → SubnetPort → SaState → Request → Wanted → Result Success MadStatus
outcome_of ports own state request (Get attribute) = get_outcome ports own state (Some (query_about attribute request))
outcome_of ports own state request (GetTable attribute) = table_outcome ports own state (Some (query_about attribute request))
outcome_of ports own state request Join = join_outcome ports own state request.component_mask (group_in request.content)
outcome_of ports own state request Leave = leave_outcome ports own state request.component_mask (group_in request.content) request.content
outcome_of ports own state request SetService = service_set own state request.component_mask (service_in request.content)
outcome_of ports own state request DeleteService = service_deleted own state request.component_mask (service_in request.content) request.content
outcome_of ports own state request (Refused status) = Err status
