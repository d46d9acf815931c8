-- What a port sees after another's request, where it saw the same in two states before.
use Rattle.std.proofs.Common.{ℕ, Bool, true, false, ◌==◌, ◌&&◌, ◌||◌, not, List, [], ◌∷◌, Option, Some, None, Result, Ok, Err, map, filter, if◌then◌else◌, length, bit_and}
use Rattle.std.proofs.Common.{◌≡◌, ◌∙◌, ap, refl, sym, subst, inl, inr}
use Rattle.std.specs.List.{list_all, list_any}
use Rattle.std.proofs.lemmas.Bool.{and_from, and_parts, both_ways, cases_Bool, eqb-true, not-true, not_from_false, or_parts}
use Rattle.mad_layout.specs.Bits.{field}
use Rattle.mad_layout.specs.Method.{method_code}
use Rattle.mad_layout.specs.declared.method.Method.TheVariants.{Get, Set, GetTable, Delete}
use Rattle.mad_layout.specs.declared.status.MadStatus.{MadStatus}
use Rattle.mad_layout.specs.declared.status.MadStatus.TheVariants.{NoRecords, NoResources, AttributeNotSupported, MethodNotSupported}
use Rattle.pkey_rules.specs.PKey.{base_of}
use Rattle.sa_records.specs.declared.mc_member_record.McMemberRecord.{McMemberRecord}
use Rattle.sa_records.specs.declared.service_record.ServiceRecord.{ServiceRecord}
use Rattle.sa_records.specs.declared.sa_attribute.SaAttribute.TheVariants as sa_attribute
use Rattle.subnet_model.specs.declared.subnet_port.SubnetPort.{SubnetPort}
use Rattle.subnet_model.specs.Delivery.{port_with_guid}
use Rattle.subnet_model.specs.Near.{is_near}
use Rattle.sa_model.specs.JoinState.{JoinState, is_joined, without_bits}
use Rattle.sa_model.specs.Members.{is_member}
use Rattle.sa_model.specs.Groups.{Membership, MulticastGroup, PartitionGroups}
use Rattle.sa_model.specs.Anchor.{is_kept}
use Rattle.sa_model.specs.Joining.{Join, joined, joined_in, may_join}
use Rattle.sa_model.specs.Leaving.{Leave, is_left, less_joined, without_member, left_group, left}
use Rattle.sa_model.specs.Sound.{is_sound_membership, is_sound_group, is_sound_partition, is_sound}
use Rattle.sa_model.specs.Sight.{partition_seen, seen, Alike}
use Rattle.sa_model.proofs.SoundLemmas.{sound_parts, partition_parts}
use Rattle.step_results.proofs.FilterLemmas.{filter_map_idle}
use Rattle.sa_model.proofs.SightLemmas.{seen_absorbs, near_leave}
use Rattle.sa_model.proofs.JoinSightLemmas.{near_join, far_join}
use Rattle.sa_model.specs.Services.{Service}
use Rattle.sa_model.specs.ServiceChange.{Deed, ServiceChange, has_id, has_room}
use Rattle.sa_model.specs.ServiceLaws.{ServiceSight}
use Rattle.sa_model.proofs.ServiceLemmas.{KeepsShown, PlaceRule, kept_by, near_keeps_shown, near_place, shown_keeps_shown, shown_place, stays_alike, unkept_change}
use Rattle.sa_model.specs.Visible.{SaState}
use Rattle.sa_model.specs.Shown.{Entry}
use Rattle.sa_model.specs.Selected.{Query}
use Rattle.sa_model.specs.Refusals.{refused_if, first_refusal}
use Rattle.sa_model.specs.Outcome.{unless_status, got, table}
use Rattle.sa_model.specs.QueryLaws.{SeesSame}
use Rattle.sa_replies.specs.Request.{Request, request_in, is_response, has_versions, is_about}
use Rattle.sa_records.specs.McMemberRecord.{group_in}
use Rattle.sa_records.specs.ServiceRecord.{service_in}
use Rattle.sa_replies.specs.Transfers.{table_place, table_of, on_rmpp}
use Rattle.sa_replies.specs.Success.{Success}
use Rattle.sa_replies.specs.Joins.{join_asked, leave_asked, join_questions, join_refusal, group_questions, group_named, join_done, join_outcome, after_join}
use Rattle.sa_replies.specs.Joins.{has_bit_of, is_taken_from, takes_some, leaving_by, leave_outcome}
use Rattle.sa_replies.specs.ServiceRequests.{owner_questions, service_asked, change_asked, services_at, shown_bytes, set_outcome, service_set, delete_outcome, service_deleted, after_change}
use Rattle.sa_replies.specs.Answer.{Administration, Answered, query_of, one_record, all_records, get_outcome, table_outcome}
use Rattle.sa_replies.specs.Answer.{set_or_refused, delete_or_refused, outcome, answered_with, version_refused, after_rmpp, answer_to, answer}
use Rattle.sa_replies.specs.Laws.{SeesAlike, AnswersAreSeenAlikeBy, AnswersAreSeenAlike}
use Rattle.sa_replies.proofs.SightLemmas.{other_table}
use Rattle.sa_replies.proofs.AlikeLemmas.{questions_seen, kept_services, answered_alike}

-- ---- a leave that takes nothing changes nothing
no_bits : (less state : JoinState) → has_bit_of less state ≡ false → without_bits less state ≡ state
no_bits less state e = record_same (without_bits less state) state (kept state.full_member less.full_member first.0)
    (kept state.non_member less.non_member second.0) (kept state.send_only_non_member less.send_only_non_member second.1)
  where
    first : ((state.full_member && less.full_member) ≡ false)
        × (((state.non_member && less.non_member) || (state.send_only_non_member && less.send_only_non_member)) ≡ false)
    first = or_parts (state.full_member && less.full_member) _ e

    second : ((state.non_member && less.non_member) ≡ false) × ((state.send_only_non_member && less.send_only_non_member) ≡ false)
    second = or_parts (state.non_member && less.non_member) (state.send_only_non_member && less.send_only_non_member) first.1

    kept : (held taken : Bool) → (held && taken) ≡ false → (held && not taken) ≡ held
    kept true true h = absurd (cc)
    kept true false h = refl
    kept false taken h = refl

    record_same : (a b : JoinState) → a.full_member ≡ b.full_member → a.non_member ≡ b.non_member → a.send_only_non_member ≡ b.send_only_non_member → a ≡ b
    record_same a b x y z =
        ap (λ f. record { full_member = f; non_member = a.non_member; send_only_non_member = a.send_only_non_member }) x
        ∙ (ap (λ n. record { full_member = b.full_member; non_member = n; send_only_non_member = a.send_only_non_member }) y
        ∙ ap (λ o. record { full_member = b.full_member; non_member = b.non_member; send_only_non_member = o }) z)

less_idle : (leave : Leave) (base : ℕ) (group : MulticastGroup) (m : Membership) → is_taken_from leave base group m ≡ false → less_joined leave base group m ≡ m
less_idle leave base group m untaken = elim (cases_Bool (is_left leave base group m)) [
  | inl this ↦
      let none : has_bit_of leave.join_state m.join_state ≡ false = rw this at untaken in
      rw this (ap (λ state. record { port = m.port; join_state = state }) (no_bits leave.join_state m.join_state none))
  | inr other ↦ rw other refl
]

abbrev all_untaken : Leave → ℕ → MulticastGroup → Bool
all_untaken leave base group = not (list_any (is_taken_from leave base group) group.memberships)

each_untaken : {X : Type 0} (test p : X → Bool) (xs : List X) → list_any test xs ≡ false → list_all p xs ≡ true → list_all (λ x. not (test x) && p x) xs ≡ true
each_untaken test p [] none all = refl
each_untaken test p (x ∷ xs) none all =
    let first = or_parts (test x) (list_any test xs) none in
    let parts = and_parts (p x) (list_all p xs) all in
    and_from (not (test x) && p x) (list_all (λ y. not (test y) && p y) xs)
    (and_from (not (test x)) (p x) (not_from_false (test x) first.0) parts.0) (each_untaken test p xs first.1 parts.1)

members_idle : (ports : List SubnetPort) (leave : Leave) (base : ℕ) (group : MulticastGroup) → list_any (is_taken_from leave base group) group.memberships ≡ false
    → list_all (is_sound_membership ports base) group.memberships ≡ true → without_member leave base group ≡ group.memberships
members_idle ports leave base group untaken sound =
    filter_map_idle (λ m. not (is_taken_from leave base group m) && is_sound_membership ports base m) (λ m. is_joined m.join_state) (less_joined leave base group)
    (λ m e. less_idle leave base group m (not-true (is_taken_from leave base group m) (and_parts (not (is_taken_from leave base group m)) (is_sound_membership ports base m) e).0))
    (λ m e. (and_parts (is_member ports base m.port) (is_joined m.join_state) (and_parts (not (is_taken_from leave base group m)) (is_sound_membership ports base m) e).1).1)
    group.memberships (each_untaken (is_taken_from leave base group) (is_sound_membership ports base) group.memberships untaken sound)

groups_idle : (ports : List SubnetPort) (leave : Leave) (x : PartitionGroups) (groups : List MulticastGroup)
    → list_any (λ group. list_any (is_taken_from leave x.base group) group.memberships) groups ≡ false → list_all (is_sound_group ports x) groups ≡ true
    → filter (is_kept ports x.base) (map (left_group leave x.base) groups) ≡ groups
groups_idle ports leave x groups untaken sound =
    filter_map_idle (λ group. not (list_any (is_taken_from leave x.base group) group.memberships) && is_sound_group ports x group) (is_kept ports x.base) (left_group leave x.base)
    (λ group e. let parts = and_parts (all_untaken leave x.base group) (is_sound_group ports x group) e in
    ap (λ members. record group { memberships = members })
    (members_idle ports leave x.base group (not-true (list_any (is_taken_from leave x.base group) group.memberships) parts.0) (sound_parts ports x group parts.1).members))
    (λ group e. (sound_parts ports x group (and_parts (all_untaken leave x.base group) (is_sound_group ports x group) e).1).kept)
    groups (each_untaken (λ group. list_any (is_taken_from leave x.base group) group.memberships) (is_sound_group ports x) groups untaken sound)

leave_idle : (ports : List SubnetPort) (leave : Leave) (partitions : List PartitionGroups) → takes_some leave partitions ≡ false → is_sound ports partitions ≡ true
    → left ports leave partitions ≡ partitions
leave_idle ports leave [] untaken sound = refl
leave_idle ports leave (x ∷ xs) untaken sound =
    let first = or_parts (list_any (λ group. list_any (is_taken_from leave x.base group) group.memberships) x.groups) (takes_some leave xs) untaken in
    let parts = and_parts (is_sound_partition ports x) (is_sound ports xs) sound in
    ap (λ groups. record x { groups = groups } ∷ left ports leave xs) (groups_idle ports leave x x.groups first.0 (partition_parts ports x parts.0).each)
    ∙ ap (λ rest. x ∷ rest) (leave_idle ports leave xs first.1 parts.1)

-- ---- a join in a partition that p has no part in
unseen_join : (ports : List SubnetPort) (p : ℕ) (join : Join) (partitions : List PartitionGroups) → is_member ports join.base p ≡ false → is_sound ports partitions ≡ true
    → seen ports p (joined ports join partitions) ≡ seen ports p partitions
unseen_join ports p join partitions outside sound =
    seen_absorbs ports p (joined_in ports join) based (λ x member e. ap (partition_seen ports p) (untouched x member)) partitions sound
  where
    based : (x : PartitionGroups) → (joined_in ports join x).base ≡ x.base
    based x = elim (cases_Bool ((x.base == join.base) && may_join ports join)) [
      | inl here ↦ rw here refl
      | inr other ↦ rw other refl
    ]

    untouched : (x : PartitionGroups) → is_member ports x.base p ≡ true → joined_in ports join x ≡ x
    untouched x member = elim (cases_Bool (x.base == join.base)) [
      | inl same ↦ absurd (both_ways (is_member ports join.base p) outside (ap (λ base. is_member ports base p) (sym (eqb-true x.base join.base same)) ∙ member))
      | inr other ↦ rw other refl
    ]

-- ---- the state that an outcome leaves
abbrev left_by : SaState → Result Success MadStatus → SaState
left_by state (Err status) = state
left_by state (Ok (Success.one_reply bytes next)) = next
left_by state (Ok (Success.whole_table offset bytes)) = state

-- ---- what is so before each request
pub record Others (sight : ServiceSight) (ports : List SubnetPort) (p : ℕ) (own : SubnetPort) (s t : SaState) : Type 0 where
  pub found : port_with_guid ports own.guid ≡ Some own
  pub left_sound : is_sound ports s.partitions ≡ true
  pub right_sound : is_sound ports t.partitions ≡ true
  pub same : SeesSame sight ports p s t

-- ---- whatever of services the rule keeps, if it keeps what is shown
module _ (keeps : PlaceRule) (rule : KeepsShown keeps) where
  abbrev End : List SubnetPort → ℕ → SaState → SaState → Result Success MadStatus → Result Success MadStatus → Type 0
  End ports p s t r q = SeesSame (kept_by keeps) ports p (left_by s r) (left_by t q)

  end_if : (ports : List SubnetPort) (p : ℕ) (s t : SaState) (test : Bool) (a b c d : Result Success MadStatus) → End ports p s t a c → End ports p s t b d
      → End ports p s t (if test then a else b) (if test then c else d)
  end_if ports p s t true a b c d first second = first
  end_if ports p s t false a b c d first second = second

  end_unless : (ports : List SubnetPort) (p : ℕ) (s t : SaState) (r : Option MadStatus) (a b : Result Success MadStatus) → SeesSame (kept_by keeps) ports p s t
      → (r ≡ None → End ports p s t a b) → End ports p s t (unless_status r a) (unless_status r b)
  end_unless ports p s t None a b same ends = ends refl
  end_unless ports p s t (Some status) a b same ends = same

  -- refused or not in either
  end_any : (ports : List SubnetPort) (p : ℕ) (s t : SaState) (r q : Option MadStatus) (a b : Result Success MadStatus) → SeesSame (kept_by keeps) ports p s t
      → SeesSame (kept_by keeps) ports p (left_by s a) t → SeesSame (kept_by keeps) ports p s (left_by t b) → End ports p s t a b → End ports p s t (unless_status r a) (unless_status q b)
  end_any ports p s t None None a b same first second both = both
  end_any ports p s t None (Some y) a b same first second both = first
  end_any ports p s t (Some x) None a b same first second both = second
  end_any ports p s t (Some x) (Some y) a b same first second both = same

  end_same : (ports : List SubnetPort) (p : ℕ) (s t : SaState) (r q : Option MadStatus) (a b : Result Success MadStatus) → r ≡ q → SeesSame (kept_by keeps) ports p s t
      → End ports p s t a b → End ports p s t (unless_status r a) (unless_status q b)
  end_same ports p s t None None a b e same both = both
  end_same ports p s t (Some x) (Some y) a b e same both = same
  end_same ports p s t None (Some y) a b e same both = absurd (cc)
  end_same ports p s t (Some x) None a b e same both = absurd (cc)

  -- ---- each request
  one_left : (state : SaState) (result : Result Entry MadStatus) → left_by state (one_record state result) ≡ state
  one_left state (Ok entry) = refl
  one_left state (Err status) = refl

  all_left : (state : SaState) (query : Query) (result : Result (List Entry) MadStatus) → left_by state (all_records query result) ≡ state
  all_left state query (Ok entries) = refl
  all_left state query (Err status) = refl

  get_left : (ports : List SubnetPort) (own : SubnetPort) (state : SaState) (query : Option Query) → left_by state (get_outcome ports own state query) ≡ state
  get_left ports own state (Some query) = one_left state (got ports own state query)
  get_left ports own state None = refl

  table_left : (ports : List SubnetPort) (own : SubnetPort) (state : SaState) (query : Option Query) → left_by state (table_outcome ports own state query) ≡ state
  table_left ports own state (Some query) = all_left state query (table ports own state query)
  table_left ports own state None = refl

  same_by : (ports : List SubnetPort) (p : ℕ) (s t a b : SaState) → a ≡ s → b ≡ t → SeesSame (kept_by keeps) ports p s t → SeesSame (kept_by keeps) ports p a b
  same_by ports p s t a b x y same = record {
    groups = ap (λ state. seen ports p state.partitions) x ∙ (same.groups ∙ ap (λ state. seen ports p state.partitions) (sym y));
    services = ap (λ state. kept_by keeps ports p state.services) x ∙ (same.services ∙ ap (λ state. kept_by keeps ports p state.services) (sym y));
  }

  joins_alike : (ports : List SubnetPort) (p : ℕ) (own : SubnetPort) (s t : SaState) (join : Join) → Others (kept_by keeps) ports p own s t
      → seen ports p (joined ports join s.partitions) ≡ seen ports p (joined ports join t.partitions)
  joins_alike ports p own s t join o = elim (cases_Bool (is_near ports p join.port)) [
    | inl near ↦ (near_join ports p join s.partitions t.partitions near alike).same
    | inr far ↦ (far_join ports p join s.partitions s.partitions far (record { left_sound = o.left_sound; right_sound = o.left_sound; same = refl })).same
        ∙ (o.same.groups
        ∙ sym (far_join ports p join t.partitions t.partitions far (record { left_sound = o.right_sound; right_sound = o.right_sound; same = refl })).same)
  ]
    where
      alike : Alike ports p s.partitions t.partitions
      alike = record { left_sound = o.left_sound; right_sound = o.right_sound; same = o.same.groups }

  join_end : (ports : List SubnetPort) (p : ℕ) (own : SubnetPort) (s t : SaState) (mask : ℕ) (asked : McMemberRecord) → Others (kept_by keeps) ports p own s t
      → End ports p s t (join_outcome ports own s mask asked) (join_outcome ports own t mask asked)
  join_end ports p own s t mask asked o =
      end_unless ports p s t (first_refusal (join_questions own mask asked))
      (unless_status (join_refusal ports own mask asked s.partitions) (Ok (join_done own join (after_join ports join s))))
      (unless_status (join_refusal ports own mask asked t.partitions) (Ok (join_done own join (after_join ports join t)))) o.same
      (λ e. elim (cases_Bool (is_member ports (base_of asked.p_key) p)) [
        | inl member ↦ end_same ports p s t (join_refusal ports own mask asked s.partitions) (join_refusal ports own mask asked t.partitions)
            (Ok (join_done own join (after_join ports join s))) (Ok (join_done own join (after_join ports join t)))
            (ap first_refusal (sym (questions_seen ports p own mask asked s.partitions member)
            ∙ (ap (λ ones. group_questions ports own mask asked ones (group_named (base_of asked.p_key) asked.mgid ones)) o.same.groups
            ∙ questions_seen ports p own mask asked t.partitions member))) o.same both
        | inr outside ↦ end_any ports p s t (join_refusal ports own mask asked s.partitions) (join_refusal ports own mask asked t.partitions)
            (Ok (join_done own join (after_join ports join s))) (Ok (join_done own join (after_join ports join t))) o.same
            (record { groups = unseen_join ports p join s.partitions outside o.left_sound ∙ o.same.groups; services = o.same.services })
            (record { groups = o.same.groups ∙ sym (unseen_join ports p join t.partitions outside o.right_sound); services = o.same.services }) both
      ])
    where
      join : Join
      join = join_asked own mask asked

      both : SeesSame (kept_by keeps) ports p (after_join ports join s) (after_join ports join t)
      both = record { groups = joins_alike ports p own s t join o; services = o.same.services }

  -- a leave ends as if it took something, whether it does or not
  leave_left : (ports : List SubnetPort) (own : SubnetPort) (state : SaState) (mask : ℕ) (asked : McMemberRecord) (content : List ℕ) → is_sound ports state.partitions ≡ true
      → left_by state (leave_outcome ports own state mask asked content)
      ≡ left_by state (unless_status (first_refusal (leaving_by own mask asked true))
      (Ok (Success.one_reply content (record state { partitions = left ports (leave_asked own mask asked) state.partitions }))))
  leave_left ports own state mask asked content sound = elim (cases_Bool (takes_some (leave_asked own mask asked) state.partitions)) [
    | inl takes ↦ rw takes refl
    | inr idle ↦ rw (idle, leave_idle ports (leave_asked own mask asked) state.partitions idle sound)
        (either (first_refusal (leaving_by own mask asked false)) ∙ sym (either (first_refusal (leaving_by own mask asked true))))
  ]
    where
      either : (refused : Option MadStatus) → left_by state (unless_status refused (Ok (Success.one_reply content state))) ≡ state
      either None = refl
      either (Some status) = refl

  leave_end : (ports : List SubnetPort) (p : ℕ) (own : SubnetPort) (s t : SaState) (mask : ℕ) (asked : McMemberRecord) (content : List ℕ) → Others (kept_by keeps) ports p own s t
      → End ports p s t (leave_outcome ports own s mask asked content) (leave_outcome ports own t mask asked content)
  leave_end ports p own s t mask asked content o =
      same_by ports p _ _ (left_by s (leave_outcome ports own s mask asked content)) (left_by t (leave_outcome ports own t mask asked content))
      (leave_left ports own s mask asked content o.left_sound) (leave_left ports own t mask asked content o.right_sound)
      (end_unless ports p s t (first_refusal (leaving_by own mask asked true))
      (Ok (Success.one_reply content (record s { partitions = left ports (leave_asked own mask asked) s.partitions })))
      (Ok (Success.one_reply content (record t { partitions = left ports (leave_asked own mask asked) t.partitions }))) o.same
      (λ e. record {
        groups = (near_leave ports p (leave_asked own mask asked) s.partitions t.partitions
            (record { left_sound = o.left_sound; right_sound = o.right_sound; same = o.same.groups })).same;
        services = o.same.services;
      }))

  -- a Set or a Delete is refused by what its port offers there, or not
  change_end : (ports : List SubnetPort) (p : ℕ) (s t : SaState) (change : ServiceChange) (refused : List Service → Option MadStatus) (bytes : List ℕ)
      → SeesSame (kept_by keeps) ports p s t
      → End ports p s t (unless_status (refused (services_at change s.services)) (Ok (Success.one_reply bytes (after_change s change))))
      (unless_status (refused (services_at change t.services)) (Ok (Success.one_reply bytes (after_change t change))))
  change_end ports p s t change refused bytes same = elim (cases_Bool (keeps ports p change.port change.base)) [
    | inl kept ↦ end_same ports p s t (refused (services_at change s.services)) (refused (services_at change t.services))
        (Ok (Success.one_reply bytes (after_change s change))) (Ok (Success.one_reply bytes (after_change t change)))
        (ap refused (sym (kept_services keeps ports p change s.services kept) ∙ (ap (services_at change) same.services ∙ kept_services keeps ports p change t.services kept)))
        same both
    | inr unkept ↦ end_any ports p s t (refused (services_at change s.services)) (refused (services_at change t.services))
        (Ok (Success.one_reply bytes (after_change s change))) (Ok (Success.one_reply bytes (after_change t change))) same
        (record { groups = same.groups; services = unkept_change keeps ports p s.services change unkept ∙ same.services })
        (record { groups = same.groups; services = same.services ∙ sym (unkept_change keeps ports p t.services change unkept) }) both
  ]
    where
      both : SeesSame (kept_by keeps) ports p (after_change s change) (after_change t change)
      both = record { groups = same.groups; services = stays_alike keeps ports p s.services t.services change same.services }

  set_end : (ports : List SubnetPort) (p : ℕ) (own : SubnetPort) (s t : SaState) (mask : ℕ) (asked : ServiceRecord) → Others (kept_by keeps) ports p own s t
      → End ports p s t (service_set own s mask asked) (service_set own t mask asked)
  set_end ports p own s t mask asked o =
      end_unless ports p s t (first_refusal (owner_questions own mask asked))
      (set_outcome own s asked (service_asked mask asked) (change_asked own asked (Deed.sets (service_asked mask asked))))
      (set_outcome own t asked (service_asked mask asked) (change_asked own asked (Deed.sets (service_asked mask asked)))) o.same
      (λ e. change_end ports p s t (change_asked own asked (Deed.sets (service_asked mask asked)))
      (λ services. first_refusal (refused_if (not (has_room (service_asked mask asked).service_id services)) NoResources ∷ []))
      (shown_bytes own asked (service_asked mask asked)) o.same)

  delete_end : (ports : List SubnetPort) (p : ℕ) (own : SubnetPort) (s t : SaState) (mask : ℕ) (asked : ServiceRecord) (content : List ℕ) → Others (kept_by keeps) ports p own s t
      → End ports p s t (service_deleted own s mask asked content) (service_deleted own t mask asked content)
  delete_end ports p own s t mask asked content o =
      end_unless ports p s t (first_refusal (owner_questions own mask asked))
      (delete_outcome s asked (change_asked own asked (Deed.deletes asked.service_id)) content)
      (delete_outcome t asked (change_asked own asked (Deed.deletes asked.service_id)) content) o.same
      (λ e. change_end ports p s t (change_asked own asked (Deed.deletes asked.service_id))
      (λ services. first_refusal (refused_if (not (list_any (has_id asked.service_id) services)) NoRecords ∷ [])) content o.same)

  set_or_refused_end : (ports : List SubnetPort) (p : ℕ) (own : SubnetPort) (s t : SaState) (request : Request) → Others (kept_by keeps) ports p own s t
      → End ports p s t (set_or_refused ports own s request) (set_or_refused ports own t request)
  set_or_refused_end ports p own s t request o =
      end_if ports p s t (is_about sa_attribute.McMemberRecord request) (join_outcome ports own s request.component_mask (group_in request.content)) _
      (join_outcome ports own t request.component_mask (group_in request.content)) _ (join_end ports p own s t request.component_mask (group_in request.content) o)
      (end_if ports p s t (is_about sa_attribute.ServiceRecord request) (service_set own s request.component_mask (service_in request.content)) (Err AttributeNotSupported)
      (service_set own t request.component_mask (service_in request.content)) (Err AttributeNotSupported)
      (set_end ports p own s t request.component_mask (service_in request.content) o) o.same)

  delete_or_refused_end : (ports : List SubnetPort) (p : ℕ) (own : SubnetPort) (s t : SaState) (request : Request) → Others (kept_by keeps) ports p own s t
      → End ports p s t (delete_or_refused ports own s request) (delete_or_refused ports own t request)
  delete_or_refused_end ports p own s t request o =
      end_if ports p s t (is_about sa_attribute.McMemberRecord request) (leave_outcome ports own s request.component_mask (group_in request.content) request.content) _
      (leave_outcome ports own t request.component_mask (group_in request.content) request.content) _
      (leave_end ports p own s t request.component_mask (group_in request.content) request.content o)
      (end_if ports p s t (is_about sa_attribute.ServiceRecord request) (service_deleted own s request.component_mask (service_in request.content) request.content) (Err AttributeNotSupported)
      (service_deleted own t request.component_mask (service_in request.content) request.content) (Err AttributeNotSupported)
      (delete_end ports p own s t request.component_mask (service_in request.content) request.content o) o.same)

  outcome_end : (ports : List SubnetPort) (p : ℕ) (own : SubnetPort) (s t : SaState) (request : Request) → Others (kept_by keeps) ports p own s t
      → End ports p s t (outcome ports own s request) (outcome ports own t request)
  outcome_end ports p own s t request o =
      end_if ports p s t (request.header.method == method_code Get) (get_outcome ports own s (query_of request)) _ (get_outcome ports own t (query_of request)) _
      (same_by ports p s t _ _ (get_left ports own s (query_of request)) (get_left ports own t (query_of request)) o.same)
      (end_if ports p s t (request.header.method == method_code GetTable) (table_outcome ports own s (query_of request)) _ (table_outcome ports own t (query_of request)) _
      (same_by ports p s t _ _ (table_left ports own s (query_of request)) (table_left ports own t (query_of request)) o.same)
      (end_if ports p s t (request.header.method == method_code Set) (set_or_refused ports own s request) _ (set_or_refused ports own t request) _
      (set_or_refused_end ports p own s t request o)
      (end_if ports p s t (request.header.method == method_code Delete) (delete_or_refused ports own s request) (Err MethodNotSupported)
      (delete_or_refused ports own t request) (Err MethodNotSupported) (delete_or_refused_end ports p own s t request o) o.same)))

  -- ---- and another port's table is as it was
  reported_end : (ports : List SubnetPort) (p : ℕ) (own : SubnetPort) (request : Request) (s t : Administration) (r q : Result Success MadStatus) → (own.guid == p) ≡ false
      → SeesAlike (kept_by keeps) ports p s t → End ports p s.remembered t.remembered r q → SeesAlike (kept_by keeps) ports p (answered_with own request s r).1 (answered_with own request t q).1
  reported_end ports p own request s t r q other same ends = record {
    remembered = same_by ports p (left_by s.remembered r) (left_by t.remembered q) _ _ (left_of s r) (left_of t q) ends;
    own_table = place_of_reported s r ∙ (same.own_table ∙ sym (place_of_reported t q));
  }
    where
      left_of : (state : Administration) (result : Result Success MadStatus) → (answered_with own request state result).1.remembered ≡ left_by state.remembered result
      left_of state (Err status) = refl
      left_of state (Ok (Success.one_reply bytes next)) = refl
      left_of state (Ok (Success.whole_table offset bytes)) = refl

      place_of_reported : (state : Administration) (result : Result Success MadStatus) → table_place p (answered_with own request state result).1.transfers ≡ table_place p state.transfers
      place_of_reported state (Err status) = refl
      place_of_reported state (Ok (Success.one_reply bytes next)) = refl
      place_of_reported state (Ok (Success.whole_table offset bytes)) = other_table p own.guid _ state.transfers other

  rmpp_end : (ports : List SubnetPort) (p : ℕ) (own : SubnetPort) (request : Request) (s t : Administration) → (own.guid == p) ≡ false → SeesAlike (kept_by keeps) ports p s t
      → SeesAlike (kept_by keeps) ports p (after_rmpp own s (on_rmpp request (table_of own.guid s.transfers))).1 (after_rmpp own t (on_rmpp request (table_of own.guid t.transfers))).1
  rmpp_end ports p own request s t other same = record {
    remembered = same.remembered;
    own_table = other_table p own.guid (on_rmpp request (table_of own.guid s.transfers)).1 s.transfers other
        ∙ (same.own_table ∙ sym (other_table p own.guid (on_rmpp request (table_of own.guid t.transfers)).1 t.transfers other));
  }

  alike_if : (ports : List SubnetPort) (p : ℕ) (test : Bool) (a b c d : Answered) → SeesAlike (kept_by keeps) ports p a.1 c.1 → SeesAlike (kept_by keeps) ports p b.1 d.1
      → SeesAlike (kept_by keeps) ports p (if test then a else b).1 (if test then c else d).1
  alike_if ports p true a b c d first second = first
  alike_if ports p false a b c d first second = second

  answer_to_end : (ports : List SubnetPort) (p : ℕ) (own : SubnetPort) (request : Request) (s t : Administration) → (own.guid == p) ≡ false → SeesAlike (kept_by keeps) ports p s t
      → Others (kept_by keeps) ports p own s.remembered t.remembered → SeesAlike (kept_by keeps) ports p (answer_to ports own request s).1 (answer_to ports own request t).1
  answer_to_end ports p own request s t other same o =
      alike_if ports p (not (has_versions request.header)) (version_refused request, s) _ (version_refused request, t) _ same
      (alike_if ports p (bit_and request.rmpp.flags 1 == 1) (after_rmpp own s (on_rmpp request (table_of own.guid s.transfers))) _
      (after_rmpp own t (on_rmpp request (table_of own.guid t.transfers))) _ (rmpp_end ports p own request s t other same)
      (alike_if ports p (is_response request.header) ([], s) (answered_with own request s (outcome ports own s.remembered request)) ([], t)
      (answered_with own request t (outcome ports own t.remembered request)) same
      (reported_end ports p own request s t (outcome ports own s.remembered request) (outcome ports own t.remembered request) other same
      (outcome_end ports p own s.remembered t.remembered request o))))

  pub answers_seen : AnswersAreSeenAlikeBy (kept_by keeps)
  answers_seen ports p own payload s t found left_sound right_sound same = elim (cases_Bool (own.guid == p)) [
    | inl itself ↦
        let is_p : own.guid ≡ p = eqb-true own.guid p itself in
        subst (λ q. SeesAlike (kept_by keeps) ports q (answer ports own payload s).1 (answer ports own payload t).1) is_p
        (answered_alike keeps rule ports own payload s t found left_sound right_sound (subst (λ q. SeesAlike (kept_by keeps) ports q s t) (sym is_p) same)).after
    | inr other ↦
        alike_if ports p ((length payload == 256) && (field payload 8 8 == 3)) (answer_to ports own (request_in payload) s) ([], s)
        (answer_to ports own (request_in payload) t) ([], t)
        (answer_to_end ports p own (request_in payload) s t other same
        (record { found = found; left_sound = left_sound; right_sound = right_sound; same = same.remembered })) same
  ]

pub answers_alike : AnswersAreSeenAlike
answers_alike = record { shown = answers_seen shown_place shown_keeps_shown; near = answers_seen near_place near_keeps_shown }
