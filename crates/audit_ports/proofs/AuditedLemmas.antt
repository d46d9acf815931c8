-- Each end port of the discovery that the topology has is audited once, and read if it answers.
use Rattle.std.proofs.Common.{◌≡◌, ◌∙◌, inl, inr, ap, refl, sym, subst, ℕ, suc, ◌+◌, Bool, true, false, cond, ◌==◌, ◌&&◌, ◌||◌, if◌then◌else◌, List, [], ◌∷◌, ◌++◌, find, flat_map, fold, length, nat_lt, position, slice_get, Option, Some, None, is_some, option_map, arith}
use Rattle.std.specs.List.{count_by, list_any, position_or_len}
use Rattle.std.specs.Option.{option_and_then, option_map_or, option_or}
use Rattle.std.proofs.lemmas.Bool.{cases_Bool, eqb-true, lt-ltb}
use Rattle.std.proofs.lemmas.Bool.Decides.{nat_tests}
use Rattle.std.proofs.lemmas.List.Folds.{find-append}
use Rattle.std.proofs.lemmas.List.Sums.{sum_by-append, sum_by-cons}
use Rattle.step_results.proofs.PlaceLemmas.{list_any_place, one_more}
use Rattle.audit_plan.specs.declared.ends.EndGuid.{EndGuid}
use Rattle.audit_plan.specs.Plan.{ends_of as port_ends, port_of}
use Rattle.audit_ports.specs.declared.ends.End.{End}
use Rattle.audit_ports.specs.Ends.{ends_of, index_of, line_end, line_with, named, node_guid_at, place_of, switch_end, switch_guid, switch_with, with_port}
use Rattle.audit_ports.specs.declared.port.HeldKeys.{HeldKeys}
use Rattle.audit_ports.specs.Gathered.{FilesState, files_of, gathered, gathered_end, gathered_if_named, is_there as end_is_there, or_table, own_table, ports_of_files, table_at}
use Rattle.audit_ports.specs.Laws.{EachPortIsAudited, PortTest, PortsThatAnswerAreRead, answers_as_node, answers_as_port, has_table, is_read_and_passes, line_passes, line_reads, passes, passes_in, switch_passes, switch_reads}
use Rattle.fabric_parts.specs.declared.cable.PortRef.{PortRef}
use Rattle.netdiscover_file.specs.declared.node.Node.{Node as FoundNode}
use Rattle.netdiscover_file.specs.declared.port.PortLine.{PortLine}
use Rattle.netdiscover_file.specs.Kind.{is_switch}
use Rattle.pkeys_file.specs.declared.answer.Answer.{Answer}
use Rattle.topo_file.specs.Topology.{TopologyState}

-- ---- of each element one passes, or none does
count_each : {X Y : Type 0} (p : Y → Bool) (f : X → List Y) (q : X → Bool) (xs : List X) → ((x : X) → count_by p (f x) ≡ cond (q x) 1 0)
    → count_by p (flat_map f xs) ≡ count_by q xs
count_each p f q [] each = refl
count_each p f q (x ∷ xs) each =
    sum_by-append (λ y. cond (p y) 1 0) (f x) (flat_map f xs) ∙ ap (λ (n : ℕ). n + count_by p (flat_map f xs)) (each x)
    ∙ ap (λ (n : ℕ). cond (q x) 1 0 + n) (count_each p f q xs each) ∙ sym (sum_by-cons (λ y. cond (q y) 1 0) x xs)

count_one : {X : Type 0} (p : X → Bool) (x : X) → count_by p (x ∷ []) ≡ cond (p x) 1 0
count_one p x = let one = sum_by-cons (λ y. cond (p y) 1 0) x [] in omega (arith, one)

-- ---- an element that is looked up by its place is the first that passes
found_at : {X : Type 0} (p : X → Bool) (xs : List X) → option_and_then (slice_get xs) (position p xs) ≡ find p xs
found_at p [] = refl
found_at {X = X} p (x ∷ xs) = elim (cases_Bool (p x)) [
  | inl is ↦ rw is (ap (λ (b : Bool). option_and_then (slice_get (x ∷ xs)) (cond b (Some 0) None)) (lt-ltb 0 (suc (length xs)) (omega arith)))
  | inr off ↦ rw (off, sym (one_more (position_or_len p xs) (length xs)))
      (later (nat_lt (position_or_len p xs) (length xs)) (position_or_len p xs) ∙ found_at p xs)
]
  where
    later : (b : Bool) (k : ℕ) → option_and_then (slice_get (x ∷ xs)) (cond b (Some (1 + k)) None) ≡ option_and_then (slice_get xs) (cond b (Some k) None)
    later true k = let next : 1 + k ≡ suc k = omega arith in ap (slice_get (x ∷ xs)) next
    later false k = refl

-- ---- the index of the topology's ports has the first of each GUID
abbrev has : ℕ → EndGuid → Bool
has guid end = end.guid == guid

turned : (a b : ℕ) → (a == b) ≡ (b == a)
turned a b = grind (arith, nat_tests)

named_is : (guid : ℕ) (ports : List EndGuid) → named guid ports ≡ port_of ports guid
named_is guid ports =
    ap (option_map (λ (end : EndGuid). end.port))
    (found_at (λ end. guid == end.guid) ports ∙ ap (λ (p : EndGuid → Bool). find p ports) (λ place end. turned guid end.guid place))

or_none : {X : Type 0} (o : Option X) → o ≡ option_or o None
or_none None = refl
or_none (Some x) = refl

or_or : {X : Type 0} (a b c : Option X) → option_or (option_or a b) c ≡ option_or a (option_or b c)
or_or None b c = refl
or_or (Some x) b c = refl

first_or : (guid : ℕ) (x : EndGuid) (xs : List EndGuid) → option_or (find (has guid) (x ∷ [])) (find (has guid) xs) ≡ find (has guid) (x ∷ xs)
first_or guid x xs = by (x.guid == guid)
  where
    by : (b : Bool) → option_or (cond b (Some x) None) (find (has guid) xs) ≡ cond b (Some x) (find (has guid) xs)
    by true = refl
    by false = refl

-- one that is there already changes nothing
or_there : (guid : ℕ) (x : EndGuid) (so_far xs : List EndGuid) → is_some (find (has x.guid) so_far) ≡ true
    → option_or (find (has guid) so_far) (find (has guid) xs) ≡ option_or (find (has guid) so_far) (find (has guid) (x ∷ xs))
or_there guid x so_far xs there = elim (cases_Bool (x.guid == guid)) [
  | inl same ↦
      let found : is_some (find (has guid) so_far) ≡ true = subst (λ (n : ℕ). is_some (find (has n) so_far) ≡ true) (eqb-true x.guid guid same) there in
      kept (find (has guid) so_far) (find (has guid) xs) (find (has guid) (x ∷ xs)) found
  | inr other ↦ rw other refl
]
  where
    kept : (o a b : Option EndGuid) → is_some o ≡ true → option_or o a ≡ option_or o b
    kept (Some y) a b some = refl
    kept None a b some = cc

some_found : {X : Type 0} (p : X → Bool) (xs : List X) → is_some (find p xs) ≡ list_any p xs
some_found p [] = refl
some_found p (x ∷ xs) = elim (cases_Bool (p x)) [
  | inl is ↦ rw is refl
  | inr off ↦ rw off (some_found p xs)
]

some_place : {X : Type 0} (p : X → Bool) (xs : List X) → is_some (position p xs) ≡ list_any p xs
some_place p xs = by (nat_lt (position_or_len p xs) (length xs)) ∙ sym (list_any_place p xs)
  where
    by : (b : Bool) → is_some (cond b (Some (position_or_len p xs)) None) ≡ b
    by true = refl
    by false = refl

is_there : (x : EndGuid) (so_far : List EndGuid) → is_some (place_of x.guid so_far) ≡ true → is_some (find (has x.guid) so_far) ≡ true
is_there x so_far there =
    some_found (has x.guid) so_far ∙ ap (λ (p : EndGuid → Bool). list_any p so_far) (λ place end. turned end.guid x.guid place)
    ∙ sym (some_place (λ end. x.guid == end.guid) so_far) ∙ there

first_of_each : (guid : ℕ) (so_far xs : List EndGuid) → find (has guid) (fold with_port so_far xs) ≡ option_or (find (has guid) so_far) (find (has guid) xs)
unfolding with_port
first_of_each guid so_far [] = or_none (find (has guid) so_far)
first_of_each guid so_far (x ∷ xs) = first_of_each guid (with_port so_far x) xs ∙ added
  where
    added : option_or (find (has guid) (with_port so_far x)) (find (has guid) xs) ≡ option_or (find (has guid) so_far) (find (has guid) (x ∷ xs))
    added = elim (cases_Bool (is_some (place_of x.guid so_far))) [
      | inl there ↦ rw there (or_there guid x so_far xs (is_there x so_far there))
      | inr new ↦ rw new
          (ap (λ (o : Option EndGuid). option_or o (find (has guid) xs)) (find-append (has guid) so_far (x ∷ []))
          ∙ or_or (find (has guid) so_far) (find (has guid) (x ∷ [])) (find (has guid) xs)
          ∙ ap (option_or (find (has guid) so_far)) (first_or guid x xs))
    ]

index_names : (guid : ℕ) (plan : TopologyState) → named guid (index_of plan.nodes) ≡ port_of (port_ends plan.nodes) guid
index_names guid plan =
    named_is guid (index_of plan.nodes) ∙ ap (option_map (λ (end : EndGuid). end.port)) (first_of_each guid [] (port_ends plan.nodes))

-- ---- the law
abbrev end_passes : TopologyState → PortTest → End → Bool
end_passes plan test end = passes_in plan test (Some end.guid) (Some end.lid)

module _ (plan : TopologyState) (test : PortTest) where
  gathered_once : (files : FilesState) (end : End) → files.index ≡ index_of plan.nodes
      → count_by (passes test) (gathered_end files end) ≡ cond (end_passes plan test end) 1 0
  unfolding gathered_end gathered
  gathered_once files end index =
      ap (λ (o : Option PortRef). count_by (passes test) (gathered_if_named files end o))
      (ap (named end.guid) index ∙ index_names end.guid plan)
      ∙ by (port_of (port_ends plan.nodes) end.guid)
    where
      by : (o : Option PortRef) → count_by (passes test) (gathered_if_named files end o) ≡ cond (option_map_or (test end.guid end.lid) o false) 1 0
      by None = refl
      by (Some port) = count_one (passes test) (gathered files end port)

  switch_once : (node : FoundNode) → count_by (end_passes plan test) (switch_end node) ≡ cond (switch_passes plan test node) 1 0
  switch_once node = by (is_switch node.id.kind) node.lid
    where
      by : (b : Bool) (lid : Option ℕ) → count_by (end_passes plan test) (if b then switch_with node lid else [])
          ≡ cond (b && passes_in plan test (Some (switch_guid node)) lid) 1 0
      by false lid = refl
      by true None = refl
      by true (Some lid) =
          count_one (end_passes plan test)
          (record { guid = switch_guid node; node_guid = node.id.guid; lid = lid; is_switch = true; number = 0; far = None })

  line_once : (nodes : List FoundNode) (line : PortLine) → count_by (end_passes plan test) (line_end nodes line) ≡ cond (line_passes plan test line) 1 0
  line_once nodes line = by line.guid line.lid
    where
      by : (guid lid : Option ℕ) → count_by (end_passes plan test) (line_with (node_guid_at nodes line.port.node) line guid lid) ≡ cond (passes_in plan test guid lid) 1 0
      by None None = refl
      by None (Some lid) = refl
      by (Some guid) None = refl
      by (Some guid) (Some lid) =
          count_one (end_passes plan test)
          (record { guid = guid; node_guid = node_guid_at nodes line.port.node; lid = lid; is_switch = false; number = line.port.port; far = Some line.far })

pub each_port_is_audited : EachPortIsAudited
each_port_is_audited plan discovery answers partitions test =
    let files = files_of plan discovery answers partitions in
    count_each (passes test) (gathered_end files) (end_passes plan test) (ends_of discovery) (λ end. gathered_once plan test files end refl)
    ∙ sum_by-append (λ end. cond (end_passes plan test end) 1 0) (flat_map switch_end discovery.nodes) (flat_map (line_end discovery.nodes) discovery.ports)
    ∙ ap (λ (n : ℕ). n + count_by (end_passes plan test) (flat_map (line_end discovery.nodes) discovery.ports))
    (count_each (end_passes plan test) switch_end (switch_passes plan test) discovery.nodes (switch_once plan test))
    ∙ ap (λ (n : ℕ). count_by (switch_passes plan test) discovery.nodes + n)
    (count_each (end_passes plan test) (line_end discovery.nodes) (line_passes plan test) discovery.ports (line_once plan test discovery.nodes))

-- ---- which ports are read
own_read : (answers : List Answer) (end : End)
    → is_some (own_table answers end) ≡ (end_is_there answers end && has_table answers (Some end.lid) end.number)
own_read answers end = by (end_is_there answers end) (table_at answers end.lid end.number) (table_at answers end.lid 0)
  where
    by : (there : Bool) (first second : Option HeldKeys)
        → is_some (if there then or_table first second else None) ≡ (there && (is_some first || is_some second))
    by false first second = refl
    by true (Some table) second = refl
    by true None second = refl

abbrev end_reads : TopologyState → List Answer → PortTest → End → Bool
end_reads plan answers test end = end_passes plan test end && (end_is_there answers end && has_table answers (Some end.lid) end.number)

module _ (plan : TopologyState) (test : PortTest) where
  read_once : (files : FilesState) (end : End) → files.index ≡ index_of plan.nodes
      → count_by (is_read_and_passes test) (gathered_end files end) ≡ cond (end_reads plan files.answers test end) 1 0
  unfolding gathered_end gathered
  read_once files end index =
      ap (λ (o : Option PortRef). count_by (is_read_and_passes test) (gathered_if_named files end o))
      (ap (named end.guid) index ∙ index_names end.guid plan)
      ∙ by (port_of (port_ends plan.nodes) end.guid)
    where
      by : (o : Option PortRef) → count_by (is_read_and_passes test) (gathered_if_named files end o)
          ≡ cond (option_map_or (test end.guid end.lid) o false && (end_is_there files.answers end && has_table files.answers (Some end.lid) end.number)) 1 0
      by None = refl
      by (Some port) =
          count_one (is_read_and_passes test) (gathered files end port)
          ∙ ap (λ (read : Bool). cond (test end.guid end.lid port && read) 1 0) (own_read files.answers end)

module _ (plan : TopologyState) (answers : List Answer) (test : PortTest) where
  switch_read_once : (node : FoundNode) → count_by (end_reads plan answers test) (switch_end node) ≡ cond (switch_reads plan answers test node) 1 0
  switch_read_once node = by (is_switch node.id.kind) node.lid
    where
      by : (b : Bool) (lid : Option ℕ) → count_by (end_reads plan answers test) (if b then switch_with node lid else [])
          ≡ cond ((b && passes_in plan test (Some (switch_guid node)) lid) && (answers_as_node answers node.id.guid lid && has_table answers lid 0)) 1 0
      by false lid = refl
      by true None = refl
      by true (Some lid) =
          count_one (end_reads plan answers test)
          (record { guid = switch_guid node; node_guid = node.id.guid; lid = lid; is_switch = true; number = 0; far = None })

  line_read_once : (nodes : List FoundNode) (line : PortLine)
      → count_by (end_reads plan answers test) (line_end nodes line) ≡ cond (line_reads plan answers test line) 1 0
  line_read_once nodes line = by line.guid line.lid
    where
      by : (guid lid : Option ℕ) → count_by (end_reads plan answers test) (line_with (node_guid_at nodes line.port.node) line guid lid)
          ≡ cond (passes_in plan test guid lid && (answers_as_port answers guid lid && has_table answers lid line.port.port)) 1 0
      by None None = refl
      by None (Some lid) = refl
      by (Some guid) None = refl
      by (Some guid) (Some lid) =
          count_one (end_reads plan answers test)
          (record { guid = guid; node_guid = node_guid_at nodes line.port.node; lid = lid; is_switch = false; number = line.port.port; far = Some line.far })

pub ports_that_answer_are_read : PortsThatAnswerAreRead
ports_that_answer_are_read plan discovery answers partitions test =
    let files = files_of plan discovery answers partitions in
    let reads = end_reads plan answers test in
    count_each (is_read_and_passes test) (gathered_end files) reads (ends_of discovery) (λ end. read_once plan test files end refl)
    ∙ sum_by-append (λ end. cond (reads end) 1 0) (flat_map switch_end discovery.nodes) (flat_map (line_end discovery.nodes) discovery.ports)
    ∙ ap (λ (n : ℕ). n + count_by reads (flat_map (line_end discovery.nodes) discovery.ports))
    (count_each reads switch_end (switch_reads plan answers test) discovery.nodes (switch_read_once plan answers test))
    ∙ ap (λ (n : ℕ). count_by (switch_reads plan answers test) discovery.nodes + n)
    (count_each reads (line_end discovery.nodes) (line_reads plan answers test) discovery.ports (line_read_once plan answers test discovery.nodes))
