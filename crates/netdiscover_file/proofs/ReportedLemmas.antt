-- What is so after the lines of a text.
use Rattle.std.proofs.Common.{◌≡◌, ◌∙◌, ap, refl, sym, ℕ, ◌+◌, Bool, true, false, ◌==◌, ◌&&◌, ◌||◌, nat_eq, nat_le, List, [], ◌∷◌, ◌++◌, codes, bytes_eq, flat_map}
use Rattle.std.proofs.Common.{Option, Some, None, option_map, option_to_list, is_some, Result, Ok, Err, if◌then◌else◌, inl, inr, arith}
use Rattle.std.specs.List.{list_all, starts_with}
use Rattle.std.specs.Option.{ok_or}
use Rattle.std.proofs.lemmas.Bool.{and_from, cases_Bool, or_left, or_parts, or_right}
use Rattle.std.proofs.lemmas.Bool.Decides.{nat_tests}
use Rattle.std.proofs.lemmas.List.{append-nil}
use Rattle.step_results.specs.AtLine.{after_lines, on_line}
use Rattle.step_results.specs.Steps.{◌>>=◌}
use Rattle.step_results.proofs.ListLemmas.{all_joined, list_all_weaker}
use Rattle.step_results.proofs.StepLemmas.{bind_done, bind_ok, not_stopped, same_ok}
use Rattle.step_results.proofs.BoolLemmas.{none_of}
use Rattle.text_words.specs.Lines.{lines, words_of}
use Rattle.fabric_parts.specs.declared.cable.PortRef.{PortRef}
use Rattle.netdiscover_file.specs.declared.assignment.SwitchGuids.{SwitchGuids}
use Rattle.netdiscover_file.specs.declared.ends.FarEnd.{FarEnd}
use Rattle.netdiscover_file.specs.declared.ends.OwnEnd.{OwnEnd}
use Rattle.netdiscover_file.specs.declared.fault.DiscoveryCause.{DiscoveryCause}
use Rattle.netdiscover_file.specs.declared.fault.DiscoveryCause.TheVariants.{DuplicateGuid, Malformed, NoSuchPort}
use Rattle.netdiscover_file.specs.declared.kind.NodeKind.{NodeKind}
use Rattle.netdiscover_file.specs.declared.node.Node.{Node}
use Rattle.netdiscover_file.specs.declared.port.PortLine.{PortLine}
use Rattle.netdiscover_file.specs.Assignment.{assignment_in, switch_guids_in}
use Rattle.netdiscover_file.specs.Comment.{comment_of}
use Rattle.netdiscover_file.specs.Discovery.{DraftState, after_assignment, after_line, after_words, are_nodes, has_taken_guid, header_of, heads_chassis, is_of_another, new_node, new_port, node_reported, nothing, place_again, place_here, port_reported}
use Rattle.netdiscover_file.specs.Discovery.{with_comment, with_header, with_line, with_place, with_port_line, with_value}
use Rattle.netdiscover_file.specs.Ends.{behind_own, far_end_of, own_end_in, without_external}
use Rattle.netdiscover_file.specs.Kind.{kind_headed}
use Rattle.netdiscover_file.specs.Laws.{IsReportedSoFar, LinesSaySo}
use Rattle.netdiscover_file.specs.Lids.{own_lid, own_lid_in, owns}
use Rattle.netdiscover_file.specs.Node.{is_switch_at, place_of, port_at, ports_at}
use Rattle.netdiscover_file.specs.Port.{is_reported, is_reported_already, is_said_already, place_of_line}
use Rattle.netdiscover_file.specs.Sound.{has_own, is_port, port_guids}
use Rattle.netdiscover_file.proofs.SoundLemmas.{guids_with_line, guids_with_node, nothing_sound, sound_with_line, sound_with_node}

-- ---- one more GUID, somewhere among others
here : (guid : ℕ) (xs ys : List ℕ) → is_reported guid (xs ++ guid ∷ ys) ≡ true
here guid [] ys = let same : (guid == guid) ≡ true = grind (arith, nat_tests) in or_left (guid == guid) _ same
here guid (x ∷ xs) ys = or_right (guid == x) _ (here guid xs ys)

still : (other guid : ℕ) (xs ys : List ℕ) → is_reported other (xs ++ ys) ≡ true → is_reported other (xs ++ guid ∷ ys) ≡ true
still other guid [] ys reported = or_right (other == guid) _ reported
still other guid (x ∷ xs) ys reported = by (other == x) reported (still other guid xs ys)
  where
    by : (b : Bool) → (b || is_reported other (xs ++ ys)) ≡ true → (is_reported other (xs ++ ys) ≡ true → is_reported other (xs ++ guid ∷ ys) ≡ true) → (b || is_reported other (xs ++ guid ∷ ys)) ≡ true
    by true some later = refl
    by false some later = later some

alone_with : (guid : Option ℕ) (noted xs ys : List ℕ) → list_all (λ other. is_reported other (xs ++ ys)) noted ≡ true
    → list_all (λ other. is_reported other (xs ++ (option_to_list guid ++ ys))) (noted ++ option_to_list guid) ≡ true
alone_with None noted xs ys all = rw (append-nil noted) all
alone_with (Some guid) noted xs ys all =
    let test : ℕ → Bool = λ other. is_reported other (xs ++ guid ∷ ys) in
    all_joined test noted (guid ∷ []) (list_all_weaker (λ other. is_reported other (xs ++ ys)) test (λ other reported. still other guid xs ys reported) noted all)
    (and_from (test guid) true (here guid xs ys) refl)

-- ---- one more node
with_one_node : DraftState → Node → DraftState
with_one_node so_far node = record so_far {
  nodes = so_far.nodes ++ node ∷ [];
  port_guids = so_far.port_guids ++ option_to_list node.port_guid;
  switch_guids = None;
  again = None;
}

new_guids : (so_far : DraftState) (made node : Node) → new_node so_far made ≡ Ok node → has_taken_guid so_far node ≡ false
new_guids so_far made node h =
    let free = not_stopped (has_taken_guid so_far made) DuplicateGuid (Ok made) node h in
    ap (has_taken_guid so_far) (sym (same_ok made node free.1)) ∙ free.0

reported_with_node : (so_far : DraftState) (node : Node) → IsReportedSoFar so_far → has_taken_guid so_far node ≡ false → IsReportedSoFar (with_one_node so_far node)
unfolding with_one_node
reported_with_node so_far node reported free =
    let front = flat_map (λ (n : Node). option_to_list n.port_guid) so_far.nodes in
    let back = flat_map (λ (line : PortLine). option_to_list line.guid) so_far.ports in
    let parts = or_parts (is_of_another so_far.switch_guids node.id) _ free in
    let own = or_parts (is_some (place_of node.id.guid so_far.nodes)) _ parts.1 in
    record {
      sound = sound_with_node so_far.nodes so_far.ports so_far.port_guids node reported.sound (none_of (place_of node.id.guid so_far.nodes) own.0) own.1;
      noted_alone = rw (guids_with_node so_far.nodes node so_far.ports) (alone_with node.port_guid so_far.port_guids front back reported.noted_alone);
    }

-- it is new, or printed again
after_place : (so_far next : DraftState) (node : Node) (place : Option ℕ) → IsReportedSoFar so_far → with_place so_far node place ≡ Ok next → IsReportedSoFar next
unfolding with_one_node
after_place so_far next node None reported h =
    let it = bind_done (new_node so_far node) (with_one_node so_far) next h in
    rw it.2 at (reported_with_node so_far it.0 reported (new_guids so_far node it.0 it.1))
after_place so_far next node (Some place) reported h =
    let passed : DraftState = record so_far { switch_guids = None; again = Some place } in
    let kept : IsReportedSoFar passed = record { sound = reported.sound; noted_alone = reported.noted_alone } in
    rw (same_ok passed next h) at kept

after_node : (so_far next : DraftState) (line : ℕ) (kind : NodeKind) (words : List (List ℕ)) (comment : List ℕ) → IsReportedSoFar so_far
    → with_header so_far (node_reported so_far line kind words comment) ≡ Ok next → IsReportedSoFar next
after_node so_far next line kind words comment reported h =
    let it = bind_ok (node_reported so_far line kind words comment) (λ node. with_place so_far node (place_again so_far node)) next h in
    after_place so_far next it.0 (place_again so_far it.0) reported it.2

-- ---- one more line of a port
port_is : (nodes : List Node) (place number : ℕ) (port : PortRef) → ok_or (port_at nodes place number) NoSuchPort ≡ Ok port
    → (port.node ≡ place) × (is_port nodes port ≡ true)
port_is nodes place number port h = by (nat_le 1 number && nat_le number (ports_at nodes place)) refl h
  where
    by : (b : Bool) → (nat_le 1 number && nat_le number (ports_at nodes place)) ≡ b
        → ok_or {E = DiscoveryCause} (if b then Some (record { node = place; port = number }) else None) NoSuchPort ≡ Ok port
        → (port.node ≡ place) × (is_port nodes port ≡ true)
    by true e found =
        let same = same_ok (record { node = place; port = number }) port found in
        (ap (λ (p : PortRef). p.node) (sym same), ap (is_port nodes) (sym same) ∙ e)
    by false e found = absurd cc

own_is : (at_switch : Bool) (guid lid : Option ℕ) (comment : List ℕ) → own_lid at_switch guid comment ≡ Ok lid → owns at_switch guid lid ≡ true
unfolding own_lid
own_is true None lid comment h = rw (sym (same_ok None lid h)) refl
own_is true (Some guid) lid comment h = absurd cc
own_is false None lid comment h = absurd cc
own_is false (Some guid) lid comment h =
    let it = bind_done (own_lid_in comment) (λ (n : ℕ). Some n) lid h in
    rw (sym it.2) refl

owns_there : (nodes : List Node) (a b : ℕ) (guid lid : Option ℕ) → a ≡ b → owns (is_switch_at nodes b) guid lid ≡ true → owns (is_switch_at nodes a) guid lid ≡ true
owns_there nodes a b guid lid same own = rw same own

with_one_line : DraftState → PortLine → DraftState
with_one_line so_far line = record so_far { ports = so_far.ports ++ line ∷ []; port_guids = so_far.port_guids ++ option_to_list line.guid }

-- a line that is taken
let_in : (so_far : DraftState) (made line : PortLine) → new_port so_far made ≡ Ok line
    → (is_some (place_of_line made.port so_far.ports) ≡ false) × (is_reported_already made.guid so_far.port_guids ≡ false) × (made ≡ line)
let_in so_far made line h =
    let rest : Result PortLine DiscoveryCause = if is_reported_already made.guid so_far.port_guids then Err DuplicateGuid else Ok made in
    let port = not_stopped (is_some (place_of_line made.port so_far.ports)) NoSuchPort rest line h in
    let guid = not_stopped (is_reported_already made.guid so_far.port_guids) DuplicateGuid (Ok made) line port.1 in
    (port.0, guid.0, same_ok made line guid.1)

record IsNewLine (so_far : DraftState) (line : PortLine) : Type 0 where
  pub new : place_of_line line.port so_far.ports ≡ None
  pub own : is_reported_already line.guid so_far.port_guids ≡ false
  pub is : is_port so_far.nodes line.port ≡ true
  pub has : has_own so_far.nodes line ≡ true

-- ---- a line is of a port of its node
record IsLine (so_far : DraftState) (line : PortLine) : Type 0 where
  pub is : is_port so_far.nodes line.port ≡ true
  pub has : has_own so_far.nodes line ≡ true

abbrev line_with : ℕ → OwnEnd → FarEnd → Option ℕ → PortRef → PortLine
line_with line own far lid port = record { port = port; guid = own.guid; lid = lid; far = far; line = line }

abbrev with_lid : DraftState → ℕ → OwnEnd → FarEnd → ℕ → Option ℕ → Result PortLine DiscoveryCause
with_lid so_far line own far place lid = ok_or (port_at so_far.nodes place own.number) NoSuchPort >>= λ port. Ok (line_with line own far lid port)

abbrev at_place : DraftState → ℕ → List ℕ → OwnEnd → FarEnd → ℕ → Result PortLine DiscoveryCause
at_place so_far line comment own far place = own_lid (is_switch_at so_far.nodes place) own.guid comment >>= λ lid. with_lid so_far line own far place lid

abbrev with_far : DraftState → ℕ → List ℕ → OwnEnd → FarEnd → Result PortLine DiscoveryCause
with_far so_far line comment own far = ok_or (place_here so_far) NoSuchPort >>= λ place. at_place so_far line comment own far place

is_line : (so_far : DraftState) (line : ℕ) (first : List ℕ) (words : List (List ℕ)) (comment : List ℕ) (reported : PortLine)
    → port_reported so_far line first words comment ≡ Ok reported → IsLine so_far reported
unfolding port_reported
is_line so_far line first words comment reported h =
    let own = bind_ok (own_end_in (without_external first))
    (λ own. behind_own first words >>= λ rest. far_end_of rest >>= λ far. with_far so_far line comment own far) reported h in
    let rest = bind_ok (behind_own first words) (λ rest. far_end_of rest >>= λ far. with_far so_far line comment own.0 far) reported own.2 in
    let far = bind_ok (far_end_of rest.0) (λ far. with_far so_far line comment own.0 far) reported rest.2 in
    let place = bind_ok (ok_or (place_here so_far) NoSuchPort) (λ place. at_place so_far line comment own.0 far.0 place) reported far.2 in
    let lid = bind_ok (own_lid (is_switch_at so_far.nodes place.0) own.0.guid comment) (λ lid. with_lid so_far line own.0 far.0 place.0 lid) reported place.2 in
    let port = bind_done (ok_or (port_at so_far.nodes place.0 own.0.number) NoSuchPort) (line_with line own.0 far.0 lid.0) reported lid.2 in
    let made = line_with line own.0 far.0 lid.0 port.0 in
    let is = port_is so_far.nodes place.0 own.0.number port.0 port.1 in
    let it : IsLine so_far made = record {
      is = is.1;
      has = owns_there so_far.nodes made.port.node place.0 own.0.guid lid.0 is.0 (own_is (is_switch_at so_far.nodes place.0) own.0.guid lid.0 comment lid.1);
    } in
    rw port.2 at it

new_line : (so_far : DraftState) (made line : PortLine) → IsLine so_far made → new_port so_far made ≡ Ok line → IsNewLine so_far line
new_line so_far made line it h =
    let taken = let_in so_far made line h in
    let new : IsNewLine so_far made = record { new = none_of (place_of_line made.port so_far.ports) taken.0; own = taken.1; is = it.is; has = it.has } in
    rw taken.2 at new

reported_with_line : (so_far : DraftState) (line : PortLine) → IsReportedSoFar so_far → IsNewLine so_far line → IsReportedSoFar (with_one_line so_far line)
unfolding with_one_line
reported_with_line so_far line reported new =
    let all = port_guids so_far.nodes so_far.ports in
    let alone : list_all (λ other. is_reported other (all ++ [])) so_far.port_guids ≡ true = rw (append-nil all) reported.noted_alone in
    record {
      sound = sound_with_line so_far.nodes so_far.ports so_far.port_guids line reported.sound new.new new.own new.is new.has;
      noted_alone = rw (guids_with_line so_far.nodes so_far.ports line) (alone_with line.guid so_far.port_guids all [] alone);
    }

-- it is new, or of a node that is printed again
after_again : (so_far next : DraftState) (again : Option ℕ) (line : PortLine) → IsReportedSoFar so_far → IsLine so_far line
    → with_line so_far again line ≡ Ok next → IsReportedSoFar next
unfolding with_one_line
after_again so_far next None line reported is h =
    let it = bind_done (new_port so_far line) (with_one_line so_far) next h in
    rw it.2 at (reported_with_line so_far it.0 reported (new_line so_far line it.0 is it.1))
after_again so_far next (Some place) line reported is h = by (is_said_already line so_far.ports) h
  where
    by : (b : Bool) → (if b then Ok so_far else Err DuplicateGuid) ≡ Ok next → IsReportedSoFar next
    by true same = rw (same_ok so_far next same) at reported
    by false same = absurd cc

after_port : (so_far next : DraftState) (line : ℕ) (first : List ℕ) (words : List (List ℕ)) (comment : List ℕ) → IsReportedSoFar so_far
    → with_port_line so_far (port_reported so_far line first words comment) ≡ Ok next → IsReportedSoFar next
after_port so_far next line first words comment reported h =
    let it = bind_ok (port_reported so_far line first words comment) (with_line so_far so_far.again) next h in
    after_again so_far next so_far.again it.0 reported (is_line so_far line first words comment it.0 it.1) it.2

-- ---- other lines
unchanged : (so_far next : DraftState) → IsReportedSoFar so_far → ◌≡◌ {A = Result DraftState DiscoveryCause} (Ok so_far) (Ok next) → IsReportedSoFar next
unchanged so_far next reported h = rw (same_ok so_far next h) at reported

after_value : (so_far next : DraftState) (key value : List ℕ) → IsReportedSoFar so_far → with_value so_far key value ≡ Ok next → IsReportedSoFar next
after_value so_far next key value reported h = by (bytes_eq key (codes "switchguid")) h
  where
    by : (b : Bool) → (if b then (switch_guids_in value >>= λ guids. Ok (record so_far { switch_guids = Some guids })) else Ok so_far) ≡ Ok next → IsReportedSoFar next
    by true is =
        let noted : SwitchGuids → DraftState = λ guids. record so_far { switch_guids = Some guids } in
        let it = bind_done (switch_guids_in value) noted next is in
        let kept : IsReportedSoFar (noted it.0) = record { sound = reported.sound; noted_alone = reported.noted_alone } in
        rw it.2 at kept
    by false is = unchanged so_far next reported is

reported_with_comment : (so_far : DraftState) (comment : List ℕ) → IsReportedSoFar so_far → IsReportedSoFar (with_comment so_far comment)
reported_with_comment so_far comment reported = elim (cases_Bool (is_some so_far.initiator)) [
  | inl known ↦ rw known reported
  | inr unknown ↦ rw unknown (record { sound = reported.sound; noted_alone = reported.noted_alone })
]

after_these : (so_far next : DraftState) (number : ℕ) (words : List (List ℕ)) (comment : List ℕ) → IsReportedSoFar so_far
    → after_words number so_far words comment ≡ Ok next → IsReportedSoFar next
unfolding after_words
after_these so_far next number [] comment reported h = unchanged (with_comment so_far comment) next (reported_with_comment so_far comment reported) h
after_these so_far next number (first ∷ rest) comment reported h = by (starts_with nat_eq first (codes "[")) (bytes_eq first (codes "Non-Chassis")) (are_nodes rest) h
  where
    by : (port heading nodes : Bool)
        → (if port then with_port_line so_far (port_reported so_far number first rest comment)
        else (if heading then (if nodes then Ok so_far else Err Malformed)
        else (kind_headed first >>= λ kind. with_header so_far (node_reported so_far number kind rest comment)))) ≡ Ok next → IsReportedSoFar next
    by true heading nodes is = after_port so_far next number first rest comment reported is
    by false true true is = unchanged so_far next reported is
    by false true false is = absurd cc
    by false false nodes is =
        let kind = bind_ok (kind_headed first) (λ kind. with_header so_far (node_reported so_far number kind rest comment)) next is in
        after_node so_far next number kind.0 rest comment reported kind.2

after_text : (so_far next : DraftState) (number : ℕ) (line : List ℕ) (parts : Option (List ℕ × List ℕ)) → IsReportedSoFar so_far
    → after_assignment number so_far line parts ≡ Ok next → IsReportedSoFar next
after_text so_far next number line (Some parts) reported h = after_value so_far next parts.0 parts.1 reported h
after_text so_far next number line None reported h =
    let words = bind_ok (ok_or (words_of line) Malformed) (λ words. after_words number so_far words (comment_of line)) next h in
    after_these so_far next number words.0 (comment_of line) reported words.2

after_one : (so_far next : DraftState) (number : ℕ) (line : List ℕ) → IsReportedSoFar so_far → after_line number so_far line ≡ Ok next → IsReportedSoFar next
unfolding after_line
after_one so_far next number line reported h = by (heads_chassis line) h
  where
    by : (b : Bool) → (if b then Ok so_far else after_assignment number so_far line (assignment_in line)) ≡ Ok next → IsReportedSoFar next
    by true is = unchanged so_far next reported is
    by false is = after_text so_far next number line (assignment_in line) reported is

-- ---- all lines
numbered : (number : ℕ) (r : Result DraftState DiscoveryCause) (next : DraftState) → on_line number r ≡ Ok next → r ≡ Ok next
numbered number (Ok so_far) next h = ap Ok (same_ok so_far next h)
numbered number (Err cause) next h = absurd cc

after_all : (left : List (List ℕ)) (number : ℕ) (so_far next : DraftState) → IsReportedSoFar so_far → after_lines after_line number so_far left ≡ Ok next → IsReportedSoFar next
unfolding after_lines
after_all [] number so_far next reported h = rw (same_ok so_far next h) at reported
after_all (line ∷ left) number so_far next reported h =
    let it = bind_ok (on_line number (after_line number so_far line)) (λ later. after_lines after_line (number + 1) later left) next h in
    after_all left (number + 1) it.0 next (after_one so_far it.0 number line reported (numbered number (after_line number so_far line) it.0 it.1)) it.2

pub lines_say_so : LinesSaySo
lines_say_so text so_far h = after_all (lines text) 1 nothing so_far (record { sound = nothing_sound; noted_alone = refl }) h
