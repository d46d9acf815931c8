-- A port that acknowledges each segment of a table is sent the next one, up to the last.
use Rattle.std.proofs.Common.{ℕ, zero, suc, ◌+◌, ◌-◌, ◌^◌, ◌<◌, ◌≤◌, ◌==◌, nat_lt, true, false, if◌then◌else◌}
use Rattle.std.proofs.Common.{List, [], ◌∷◌, ◌++◌, map, length, min, max, Option, Some, None, option_map, Ok}
use Rattle.std.proofs.Common.{◌≡◌, ◌∙◌, refl, ap, sym, subst, arith, inl, inr, All}
use Rattle.std.proofs.lemmas.Bool.{cases_Bool, and_from, eq-eqb}
use Rattle.std.proofs.lemmas.List.Elements.{recursion_from_All}
use Rattle.std.proofs.lemmas.Bool.Decides.{nat_tests}
use Rattle.std.specs.List.{range_with_len}
use Rattle.mad_layout.specs.Bits.{field}
use Rattle.mad_layout.specs.Layout.{Fits}
use Rattle.mad_layout.specs.MadHeader.{mad_header, header_in}
use Rattle.mad_layout.specs.declared.mad_header.Header.{Header}
use Rattle.mad_layout.specs.declared.rmpp_header.RmppHeader.{RmppHeader}
use Rattle.rmpp_core.proofs.ReadBackLemmas.{reply_long, rmpp_held, segment_held}
use Rattle.rmpp_core.proofs.WholeLemmas.{active_set, first_set, received}
use Rattle.rmpp_core.specs.Laws.{IsTransfer, after_all, segment_mads}
use Rattle.rmpp_core.specs.Receiving.{nothing, whole_bytes}
use Rattle.mad_layout.specs.SaMad.{data_in}
use Rattle.mad_layout.specs.RmppHeader.{rmpp_in}
use Rattle.rmpp_core.specs.Segments.{Transfer, opened, payload_size, segment_count, segment_mad, segment_rmpp, segment_sa}
use Rattle.subnet_model.specs.declared.subnet_port.SubnetPort.{SubnetPort}
use Rattle.subnet_model.proofs.KeptLemmas.{run_keeps}
use Rattle.subnet_model.specs.Delivery.{port_with_guid}
use Rattle.subnet_model.specs.Report.{answered_in_turn, answered_whole}
use Rattle.sa_model.proofs.OrderLemmas.{stands_in_order}
use Rattle.sa_replies.proofs.AlikeLemmas.{own_place}
use Rattle.sa_replies.proofs.OpenTableLemmas.{answers_keep_states, found_can, starts_are_states}
use Rattle.sa_replies.specs.Answer.{Administration, Answered, after_rmpp, answer, answer_to, answered_with}
use Rattle.sa_replies.specs.Reply.{reply_header, table_header}
use Rattle.sa_replies.specs.Request.{Request, request_in}
use Rattle.sa_replies.specs.Success.{Success}
use Rattle.sa_replies.specs.Transfers.{CanBeSent, PortTransfer, on_ack, table_place, table_at, table_of, with_table}
use Rattle.sa_replies.proofs.AckReadLemmas.{ack_held, header_held}
use Rattle.sa_replies.specs.Administration.{subnet_administration}
use Rattle.sa_replies.specs.State.{IsStateOf, at_start}
use Rattle.sa_replies.specs.Asking.{ack_header, ack_mad, ack_rmpp, ack_sa, acknowledgements, acks_of, is_first_segment, segments_reported}
use Rattle.sa_replies.specs.RunLaws.{RunsAreStates, RunsShowInOrder, remembered_after}
use Rattle.sa_replies.specs.WholeTables.{TablesAreBroughtWhole, table_asked}

-- ---- what an ACK brings: the next segment, or the end of the table
abbrev at_window : Request → ℕ → List ℕ → ℕ → Transfer
at_window request spacing bytes window = record { header = table_header request spacing; bytes = bytes; window = window }

before_last : (transfer : Transfer) (number : ℕ) → transfer.window ≡ number → number < segment_count transfer.bytes
    → on_ack transfer (ack_rmpp (segment_count transfer.bytes) number)
    ≡ (segment_mad transfer (number + 1) ∷ [], Some (record transfer { window = number + 1 }))
before_last transfer number at more =
    let count = segment_count transfer.bytes in
    let not_last : (number == count) ≡ false = grind (arith, nat_tests, more) in
    let wide : nat_lt (number + 1) number ≡ false = grind (arith, nat_tests) in
    let within : nat_lt count number ≡ false = grind (arith, nat_tests, more) in
    let first : min transfer.window count + 1 ≡ number + 1 = omega (arith, at, more) in
    let last : min (max transfer.window (number + 1)) count + 1 - (min transfer.window count + 1) ≡ 1 = omega (arith, at, more) in
    let window : max transfer.window (number + 1) ≡ number + 1 = omega (arith, at) in
    rw (not_last, wide, within)
    (λ place. (map (segment_mad transfer) (range_with_len (first place) (last place)), Some (record transfer { window = window place })))

at_last : (transfer : Transfer) (number : ℕ) → transfer.window ≡ number → number ≡ segment_count transfer.bytes
    → on_ack transfer (ack_rmpp (segment_count transfer.bytes) number) ≡ ([], None)
at_last transfer number at end =
    let count = segment_count transfer.bytes in
    let is_last : (number == count) ≡ true = eq-eqb number count end in
    let wide : nat_lt number number ≡ false = grind (arith, nat_tests) in
    let within : nat_lt count number ≡ false = grind (arith, nat_tests, end) in
    let none : min (max transfer.window number) count + 1 - (min transfer.window count + 1) ≡ 0 = omega (arith, at, end) in
    rw (is_last, wide, within)
    (λ place. (map (segment_mad transfer) (range_with_len (min transfer.window count + 1) (none place)), None))

-- ---- an ACK of the table that is there to its port
acknowledges : (ports : List SubnetPort) (own : SubnetPort) (request : Request) (spacing : ℕ) (bytes : List ℕ) (count number window : ℕ)
    (state : Administration) (mask : ℕ) (content : List ℕ)
    → table_place own.guid state.transfers ≡ Some (record { port = own.guid; open_table = Some (at_window request spacing bytes window) })
    → answer_to ports own (record { header = ack_header (reply_header request 0); rmpp = ack_rmpp count number; component_mask = mask; content = content }) state
    ≡ after_rmpp own state (on_ack (at_window request spacing bytes window) (ack_rmpp count number))
acknowledges ports own request spacing bytes count number window state mask content there =
    rw (there, eq-eqb request.header.transaction_id request.header.transaction_id refl) refl

is_answered : (ports : List SubnetPort) (own : SubnetPort) (payload : List ℕ) (header : Header) (rmpp : RmppHeader) (state : Administration)
    → length payload ≡ 256 → header_in payload ≡ header → header.mgmt_class ≡ 3 → rmpp_in payload ≡ rmpp
    → answer ports own payload state
    ≡ answer_to ports own (record { header = header; rmpp = rmpp; component_mask = field payload 384 64; content = data_in payload }) state
unfolding request_in
is_answered ports own payload header rmpp state long same class rmpp_same =
    let ours : (field payload 8 8 == 3) ≡ true = eq-eqb (field payload 8 8) 3 (ap (λ (h : Header). h.mgmt_class) same ∙ class) in
    rw (eq-eqb (length payload) 256 long, ours)
    (λ place. answer_to ports own (record { header = same place; rmpp = rmpp_same place; component_mask = field payload 384 64; content = data_in payload }) state)

ack_answered : (ports : List SubnetPort) (own : SubnetPort) (request : Request) (spacing : ℕ) (bytes : List ℕ) (count number window : ℕ) (state : Administration)
    → Fits (mad_header (reply_header request 0)) → number + 1 < 2 ^ 32
    → table_place own.guid state.transfers ≡ Some (record { port = own.guid; open_table = Some (at_window request spacing bytes window) })
    → answer ports own (ack_mad (reply_header request 0) count number) state
    ≡ after_rmpp own state (on_ack (at_window request spacing bytes window) (ack_rmpp count number))
ack_answered ports own request spacing bytes count number window state narrow low there =
    let header = reply_header request 0 in
    let mad = ack_mad header count number in
    let held = ack_held header count number narrow low in
    is_answered ports own mad (ack_header header) (ack_rmpp count number) state
    (reply_long (ack_header header) (ack_rmpp count number) ack_sa)
    (header_held mad (ack_header header) (ack_rmpp count number) ack_sa held) refl
    (rmpp_held mad (ack_header header) (ack_rmpp count number) ack_sa held)
    ∙ acknowledges ports own request spacing bytes count number window state (field mad 384 64) (data_in mad) there

-- ---- so all of them bring the segments after the first
twice : (p : ℕ) (first second : Option Transfer) (transfers : List PortTransfer)
    → with_table p second (with_table p first transfers) ≡ with_table p second transfers
twice p first second [] = refl
twice p first second (x ∷ xs) = elim (cases_Bool (x.port == p)) [
  | inl this ↦ rw (this, eq-eqb p p refl) (ap (λ rest. record { port = p; open_table = second } ∷ rest) (twice p first second xs))
  | inr other ↦ rw (other, other) (ap (λ rest. x ∷ rest) (twice p first second xs))
]

opens : (p : ℕ) (table : Option Transfer) (transfers : List PortTransfer) (place : PortTransfer) → table_place p transfers ≡ Some place
    → table_place p (with_table p table transfers) ≡ Some (record { port = p; open_table = table })
opens p table transfers place found = own_place p table transfers ∙ ap (option_map (λ place. record { port = p; open_table = table })) found

abbrev turns : List SubnetPort → SubnetPort → List (List ℕ) → Administration → Answered
turns ports own mads state = answered_in_turn (answer ports own) mads state

turn : (ports : List SubnetPort) (own : SubnetPort) (mad : List ℕ) (mads : List (List ℕ)) (state : Administration) (answered : Answered)
    → answer ports own mad state ≡ answered
    → turns ports own (mad ∷ mads) state ≡ (answered.0 ++ (turns ports own mads answered.1).0, (turns ports own mads answered.1).1)
turn ports own mad mads state answered same =
    ap (λ (a : Answered). (a.0 ++ (turns ports own mads a.1).0, (turns ports own mads a.1).1)) same

bring_the_rest : (ports : List SubnetPort) (own : SubnetPort) (request : Request) (spacing : ℕ) (bytes : List ℕ) (number left : ℕ) (state : Administration)
    → Fits (mad_header (reply_header request 0)) → segment_count bytes + 1 < 2 ^ 32 → 1 ≤ number → number + left ≡ segment_count bytes
    → table_place own.guid state.transfers ≡ Some (record { port = own.guid; open_table = Some (at_window request spacing bytes number) })
    → turns ports own (map (ack_mad (reply_header request 0) (segment_count bytes)) (range_with_len number (suc left))) state
    ≡ (map (segment_mad (at_window request spacing bytes 1)) (range_with_len (number + 1) left), record state { transfers = with_table own.guid None state.transfers })
bring_the_rest ports own request spacing bytes number zero state narrow low some end there =
    let transfer = at_window request spacing bytes number in
    let count = segment_count bytes in
    turn ports own (ack_mad (reply_header request 0) count number) [] state ([], record state { transfers = with_table own.guid None state.transfers })
    (ack_answered ports own request spacing bytes count number number state narrow (omega (arith, low, end)) there
    ∙ ap (after_rmpp own state) (at_last transfer number refl (omega (arith, end))))
bring_the_rest ports own request spacing bytes number (suc left) state narrow low some end there =
    let transfer = at_window request spacing bytes number in
    let count = segment_count bytes in
    let next : Option Transfer = Some (at_window request spacing bytes (number + 1)) in
    let after : Administration = record state { transfers = with_table own.guid next state.transfers } in
    let segment = segment_mad (at_window request spacing bytes 1) (number + 1) in
    turn ports own (ack_mad (reply_header request 0) count number) (map (ack_mad (reply_header request 0) count) (range_with_len (number + 1) (suc left))) state
    (segment ∷ [], after)
    (ack_answered ports own request spacing bytes count number number state narrow (omega (arith, low, end)) there
    ∙ ap (after_rmpp own state) (before_last transfer number refl (omega (arith, end))))
    ∙ ap (λ (rest : Answered). (segment ∷ rest.0, rest.1))
    (bring_the_rest ports own request spacing bytes (number + 1) left after narrow low (omega arith) (omega (arith, end))
    (opens own.guid next state.transfers (record { port = own.guid; open_table = Some transfer }) there)
    ∙ ap (λ (transfers : List PortTransfer).
    (map (segment_mad (at_window request spacing bytes 1)) (range_with_len (number + 1 + 1) left), record state { transfers = transfers }))
    (twice own.guid next None state.transfers))

-- ---- the first segment reports how many there are
as_many : (bytes : List ℕ) → segments_reported (payload_size bytes) ≡ segment_count bytes
as_many bytes = omega arith

first_acknowledged : (transfer : Transfer) → IsTransfer transfer
    → acknowledgements (segment_mad transfer 1 ∷ []) ≡ acks_of transfer.header.header (segment_count transfer.bytes)
first_acknowledged transfer is =
    let bytes = transfer.bytes in
    let count = segment_count bytes in
    let mad = segment_mad transfer 1 in
    let held = segment_held transfer 1 is (omega arith) (omega arith) in
    let header : header_in mad ≡ transfer.header.header = header_held mad transfer.header.header (segment_rmpp bytes 1) (segment_sa transfer 1) held in
    let rmpp : rmpp_in mad ≡ segment_rmpp bytes 1 = rmpp_held mad transfer.header.header (segment_rmpp bytes 1) (segment_sa transfer 1) held in
    let first : is_first_segment (segment_rmpp bytes 1) ≡ true = and_from _ _ (active_set (1 == 1) (1 == count)) (first_set (1 == 1) (1 == count)) in
    let reported : (if is_first_segment (segment_rmpp bytes 1) then acks_of transfer.header.header (segments_reported (payload_size bytes)) else [])
    ≡ acks_of transfer.header.header count = rw first (ap (acks_of transfer.header.header) (as_many bytes)) in
    (λ place. if is_first_segment (rmpp place) then acks_of (header place) (segments_reported (rmpp place).payload_length_or_new_window_last) else [])
    ∙ reported

-- ---- from the request to the last segment
brought : (ports : List SubnetPort) (own : SubnetPort) (request : Request) (spacing : ℕ) (bytes : List ℕ) (state : Administration) (place : PortTransfer)
    → IsTransfer (opened (table_header request spacing) bytes) → table_place own.guid state.transfers ≡ Some place
    → turns ports own (acknowledgements (segment_mad (opened (table_header request spacing) bytes) 1 ∷ []))
    (record state { transfers = with_table own.guid (Some (opened (table_header request spacing) bytes)) state.transfers })
    ≡ (map (segment_mad (opened (table_header request spacing) bytes)) (range_with_len 2 (segment_count bytes - 1)), record state { transfers = with_table own.guid None state.transfers })
brought ports own request spacing bytes state place is found =
    let transfer = opened (table_header request spacing) bytes in
    let after : Administration = record state { transfers = with_table own.guid (Some transfer) state.transfers } in
    let count = segment_count bytes in
    let all : count ≡ suc (count - 1) = omega arith in
    ap (λ mads. turns ports own mads after) (first_acknowledged transfer is)
    ∙ ap (λ (n : ℕ). turns ports own (map (ack_mad (reply_header request 0) count) (range_with_len 1 n)) after) all
    ∙ bring_the_rest ports own request spacing bytes 1 (count - 1) after is.header (omega (arith, is.size)) (omega arith) (omega arith)
    (opens own.guid (Some transfer) state.transfers place found)
    ∙ ap (λ (transfers : List PortTransfer). (map (segment_mad transfer) (range_with_len 2 (count - 1)), record state { transfers = transfers }))
    (twice own.guid (Some transfer) None state.transfers)

whole : (ports : List SubnetPort) (own : SubnetPort) (mad : List ℕ) (spacing : ℕ) (bytes : List ℕ) (state : Administration) (place : PortTransfer)
    → table_place own.guid state.transfers ≡ Some place
    → answer ports own mad state ≡ answered_with own (request_in mad) state (Ok (Success.whole_table spacing bytes))
    → IsTransfer (table_asked mad spacing bytes)
    → answered_whole (answer ports own) acknowledgements mad state
    ≡ (segment_mads (table_asked mad spacing bytes), record state { transfers = with_table own.guid None state.transfers })
whole ports own mad spacing bytes state place found asks is =
    let transfer = table_asked mad spacing bytes in
    let count = segment_count bytes in
    let all : suc (count - 1) ≡ count = omega arith in
    ap (λ (a : Answered). (a.0 ++ (turns ports own (acknowledgements a.0) a.1).0, (turns ports own (acknowledgements a.0) a.1).1)) asks
    ∙ ap (λ (rest : Answered). (segment_mad transfer 1 ∷ rest.0, rest.1)) (brought ports own (request_in mad) spacing bytes state place is found)
    ∙ ap (λ (n : ℕ). (map (segment_mad transfer) (range_with_len 1 n), record state { transfers = with_table own.guid None state.transfers })) all

-- ---- the place of a port
place_found : (guid : ℕ) (ports : List SubnetPort) (own : SubnetPort) (transfers : List PortTransfer)
    → map (λ place. place.port) transfers ≡ map (λ port. port.guid) ports → port_with_guid ports guid ≡ Some own
    → (place : PortTransfer) × (table_place guid transfers ≡ Some place)
place_found guid [] own transfers same found = absurd (cc)
place_found guid (port ∷ ports) own [] same found = absurd (cc)
place_found guid (port ∷ ports) own (x ∷ xs) same found = elim (cases_Bool (x.port == guid)) [
  | inl this ↦ (x, rw this refl)
  | inr other ↦
      let head : x.port ≡ port.guid = cc in
      let rest : map (λ place. place.port) xs ≡ map (λ port. port.guid) ports = cc in
      let there : (port.guid == guid) ≡ false = ap (λ (n : ℕ). n == guid) (sym head) ∙ other in
      let later : port_with_guid ports guid ≡ Some own = rw there at found in
      let next = place_found guid ports own xs rest later in
      (next.0, rw other next.1)
]

pub runs_are_states : RunsAreStates
runs_are_states configuration commands configured =
    run_keeps (IsStateOf configuration) subnet_administration configuration
    (λ own mad state found is. answers_keep_states configuration own mad state configured found is)
    commands (at_start configuration) (starts_are_states configuration configured)

pub runs_show_in_order : RunsShowInOrder
runs_show_in_order configuration commands own configured =
    let state = remembered_after configuration commands in
    let is = (runs_are_states configuration commands configured).remembered in
    stands_in_order configuration own state.remembered configured
    (record { partitions = is.partitions; groups = is.groups; places = is.places; services = is.services })

-- a table that is answered is open then, so it can be sent
opens_as_asked : (own : SubnetPort) (mad : List ℕ) (spacing : ℕ) (records : List ℕ) (state next : Administration) (place : PortTransfer)
    → table_place own.guid state.transfers ≡ Some place → next ≡ (answered_with own (request_in mad) state (Ok (Success.whole_table spacing records))).1
    → All (λ place. CanBeSent place.open_table) next.transfers → IsTransfer (table_asked mad spacing records)
opens_as_asked own mad spacing records state next place found same can =
    let all = recursion_from_All (λ (one : PortTransfer). CanBeSent one.open_table) next.transfers can in
    let here : table_of own.guid next.transfers ≡ Some (table_asked mad spacing records) =
    ap (λ (after : Administration). table_of own.guid after.transfers) same
    ∙ ap table_at (opens own.guid (Some (table_asked mad spacing records)) state.transfers place found) in
    let is = found_can own.guid next.transfers all in
    subst CanBeSent here is

pub tables_are_brought_whole : TablesAreBroughtWhole
tables_are_brought_whole configuration commands own mad spacing records configured found asks =
    let state = remembered_after configuration commands in
    let states = runs_are_states configuration commands configured in
    let place = place_found own.guid configuration.ports own state.transfers states.places found in
    let is = opens_as_asked own mad spacing records state (answer configuration.ports own mad state).1 place.0 place.1
    (ap (λ (a : Answered). a.1) asks) (answers_keep_states configuration own mad state configured found states).tables in
    let all = whole configuration.ports own mad spacing records state place.0 place.1 asks is in
    record {
      segments = ap (λ (a : Answered). a.0) all;
      received = ap (λ (a : Answered). whole_bytes (after_all (Ok nothing) a.0)) all ∙ received (table_asked mad spacing records) is;
      left = ap (λ (a : Answered). a.1) all;
    }
