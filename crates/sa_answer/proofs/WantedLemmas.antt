-- What comes of a request is what comes of what it wants.
use Rattle.std.proofs.Common.{◌≡◌, ℕ, ◌==◌, ◌∙◌, ap, false, List, inl, inr, refl, sym}
use Rattle.std.proofs.lemmas.Bool.{cases_Bool, eqb-true}
use Rattle.subnet_model.specs.declared.subnet_port.SubnetPort.{SubnetPort}
use Rattle.sa_model.specs.Visible.{SaState}
use Rattle.sa_records.specs.McMemberRecord.{group_in}
use Rattle.sa_records.specs.ServiceRecord.{service_in}
use Rattle.sa_records.specs.declared.mc_member_record.McMemberRecord.{McMemberRecord}
use Rattle.sa_records.specs.declared.service_record.ServiceRecord.{ServiceRecord}
use Rattle.sa_replies.specs.Answer.{outcome}
use Rattle.sa_replies.specs.Joins.{join_outcome, leave_outcome}
use Rattle.sa_replies.specs.ServiceRequests.{service_deleted, service_set}
use Rattle.sa_answer.specs.declared.wanted.Wanted.{Wanted}
use Rattle.sa_answer.specs.declared.wanted.Wanted.TheVariants.{Join, Leave, SetService, DeleteService}
use Rattle.sa_replies.specs.Request.{Request}
use Rattle.sa_answer.specs.Wanted.{outcome_of, wanted_of}

-- ---- the kinds of records that there are, by their codes
data Kind (code : ℕ) : Type 0 where
  node : code ≡ 0x11 → Kind code
  service : code ≡ 0x31 → Kind code
  path : code ≡ 0x35 → Kind code
  member : code ≡ 0x38 → Kind code
  unknown : (code == 0x11) ≡ false → (code == 0x31) ≡ false → (code == 0x35) ≡ false → (code == 0x38) ≡ false → Kind code

kind_of : (code : ℕ) → Kind code
kind_of code = elim (cases_Bool (code == 0x11)) [
  | inl is ↦ node (eqb-true code 0x11 is)
  | inr no_node ↦ elim (cases_Bool (code == 0x31)) [
    | inl is ↦ service (eqb-true code 0x31 is)
    | inr no_service ↦ elim (cases_Bool (code == 0x35)) [
      | inl is ↦ path (eqb-true code 0x35 is)
      | inr no_path ↦ elim (cases_Bool (code == 0x38)) [
        | inl is ↦ member (eqb-true code 0x38 is)
        | inr no_member ↦ unknown no_node no_service no_path no_member
      ]
    ]
  ]
]

-- ---- method by method
module _ (ports : List SubnetPort) (own : SubnetPort) (state : SaState) (request : Request) where
  abbrev Same : Type 0
  Same = outcome ports own state request ≡ outcome_of ports own state request (wanted_of request)

  of_get : request.header.method ≡ 1 → Kind request.header.attribute_id → Same
  of_get is (node kind) = rw (is, kind) refl
  of_get is (service kind) = rw (is, kind) refl
  of_get is (path kind) = rw (is, kind) refl
  of_get is (member kind) = rw (is, kind) refl
  of_get is (unknown a b c d) = rw (is, a, b, c, d) refl

  of_table : request.header.method ≡ 0x12 → Kind request.header.attribute_id → Same
  of_table is (node kind) = rw (is, kind) refl
  of_table is (service kind) = rw (is, kind) refl
  of_table is (path kind) = rw (is, kind) refl
  of_table is (member kind) = rw (is, kind) refl
  of_table is (unknown a b c d) = rw (is, a, b, c, d) refl

  of_set : request.header.method ≡ 2 → Kind request.header.attribute_id → Same
  of_set is (node kind) = rw (is, kind) refl
  of_set is (service kind) = rw (is, kind) refl
  of_set is (path kind) = rw (is, kind) refl
  of_set is (member kind) = rw (is, kind) refl
  of_set is (unknown a b c d) = rw (is, a, b, c, d) refl

  of_delete : request.header.method ≡ 0x15 → Kind request.header.attribute_id → Same
  of_delete is (node kind) = rw (is, kind) refl
  of_delete is (service kind) = rw (is, kind) refl
  of_delete is (path kind) = rw (is, kind) refl
  of_delete is (member kind) = rw (is, kind) refl
  of_delete is (unknown a b c d) = rw (is, a, b, c, d) refl

  pub outcome_is : Same
  outcome_is = elim (cases_Bool (request.header.method == 1)) [
    | inl get ↦ of_get (eqb-true request.header.method 1 get) (kind_of request.header.attribute_id)
    | inr no_get ↦ elim (cases_Bool (request.header.method == 0x12)) [
      | inl table ↦ of_table (eqb-true request.header.method 0x12 table) (kind_of request.header.attribute_id)
      | inr no_table ↦ elim (cases_Bool (request.header.method == 2)) [
        | inl set ↦ of_set (eqb-true request.header.method 2 set) (kind_of request.header.attribute_id)
        | inr no_set ↦ elim (cases_Bool (request.header.method == 0x15)) [
          | inl deletion ↦ of_delete (eqb-true request.header.method 0x15 deletion) (kind_of request.header.attribute_id)
          | inr no_deletion ↦ rw (no_get, no_table, no_set, no_deletion) refl
        ]
      ]
    ]
  ]

  -- ---- so what comes of what it wants
  pub by_wish : (wish : Wanted) → wish ≡ wanted_of request → outcome_of ports own state request wish ≡ outcome ports own state request
  by_wish wish is = ap (outcome_of ports own state request) is ∙ sym outcome_is

  pub of_join : (mask : ℕ) (asked : McMemberRecord) → mask ≡ request.component_mask → asked ≡ group_in request.content → Join ≡ wanted_of request
      → join_outcome ports own state mask asked ≡ outcome ports own state request
  of_join mask asked same read is = (λ i. join_outcome ports own state (same i) (read i)) ∙ by_wish Join is

  pub of_leave : (mask : ℕ) (asked : McMemberRecord) (content : List ℕ) → mask ≡ request.component_mask → asked ≡ group_in request.content
      → content ≡ request.content → Leave ≡ wanted_of request → leave_outcome ports own state mask asked content ≡ outcome ports own state request
  of_leave mask asked content same read whole is = (λ i. leave_outcome ports own state (same i) (read i) (whole i)) ∙ by_wish Leave is

  pub of_service_set : (mask : ℕ) (asked : ServiceRecord) → mask ≡ request.component_mask → asked ≡ service_in request.content → SetService ≡ wanted_of request
      → service_set own state mask asked ≡ outcome ports own state request
  of_service_set mask asked same read is = (λ i. service_set own state (same i) (read i)) ∙ by_wish SetService is

  pub of_service_deleted : (mask : ℕ) (asked : ServiceRecord) (content : List ℕ) → mask ≡ request.component_mask → asked ≡ service_in request.content
      → content ≡ request.content → DeleteService ≡ wanted_of request → service_deleted own state mask asked content ≡ outcome ports own state request
  of_service_deleted mask asked content same read whole is = (λ i. service_deleted own state (same i) (read i) (whole i)) ∙ by_wish DeleteService is
