-- Who receives no more after a leave: by the memberships of a group, by the slots of a partition, and by the bits of a JoinState.
use Rattle.std.proofs.Common.{◌≡◌, ℕ, zero, suc, ◌+◌, ◌*◌, ◌/◌, ◌%◌, ◌<◌, ◌==◌, nat_lt, bit_and, Bool, true, false, not, ◌&&◌, ◌||◌, List, [], ◌∷◌, ◌++◌, length, get_or, set, take, filter, map}
use Rattle.std.proofs.Common.{Option, Some, None, is_some, refl, sym, ◌∙◌, ap, inl, inr, arith}
use Rattle.std.specs.Int.{bit_at}
use Rattle.std.specs.List.{IsDistinct, list_all, list_any, position}
use Rattle.std.specs.Option.{option_map_or}
use Rattle.std.proofs.Math.Bool.{or-false}
use Rattle.std.proofs.lemmas.List.{get_or-set_same, length-set}
use Rattle.std.proofs.lemmas.List.Quantifiers.{position-Some}
use Rattle.std.proofs.lemmas.Nat.{and_mask}
use Rattle.std.proofs.lemmas.Nat.Bits.{bit_at-lt}
use Rattle.std.proofs.lemmas.Bool.{and_parts, cases_Bool, eq-eqb, eqb-true, false≢true, ne_eqb, or_left}
use Rattle.step_results.proofs.ListLemmas.{any_and, any_none}
use Rattle.fabric_parts.specs.NodeType.{is_switch_type}
use Rattle.subnet_model.specs.Configured.{HaveLidsInOrder, same_guid}
use Rattle.subnet_model.specs.declared.subnet_port.SubnetPort.{SubnetPort}
use Rattle.sa_model.specs.Delivery.{receives, receives_in}
use Rattle.sa_model.specs.Groups.{Membership, MulticastGroup, PartitionGroups, first_mlid, lower_port}
use Rattle.sa_model.specs.JoinState.{is_receiver, without_bits}
use Rattle.sa_model.specs.Joining.{is_of}
use Rattle.sa_model.specs.Leaving.{Leave}
use Rattle.sa_model.specs.Sound.{pairwise}
use Rattle.sa_model.proofs.ReceiverLemmas.{any_alike, turned}
use Rattle.sa_replies.specs.Joins.{join_state_of}
use Rattle.sa_store.specs.Joined.{holds_mgid}
use Rattle.sa_store.specs.Left.{are_settled, is_kept, is_settled, left_by, left_slot, less_by, takes_part}
use Rattle.sa_store.specs.Receiving.{has_changed, is_adapter, is_receiving, is_lost_by, loses, numbers_changed, slot_changes}
use Rattle.sa_store.specs.MlidRange.{SlotGroup, groups_in, partition_in}
use Rattle.sa_store.proofs.JoinLemmas.{above_first, is_at, lower_is_other, none_of_port, none_there, one_more, place_for}
use Rattle.sa_store.proofs.LeaveLemmas.{is_set, slot_settled}
use Rattle.sa_store.proofs.ReceiverLemmas.{one_lost}

-- ---- some of a list
any_either : {X : Type 0} (p q : X → Bool) (xs : List X) → list_any (λ x. p x || q x) xs ≡ (list_any p xs || list_any q xs)
any_either p q [] = refl
any_either p q (x ∷ xs) = rw (any_either p q xs) (mixed (p x) (q x) (list_any p xs) (list_any q xs))
  where
    mixed : (a b c d : Bool) → ((a || b) || (c || d)) ≡ ((a || c) || (b || d))
    mixed true b c d = refl
    mixed false true true d = refl
    mixed false true false d = refl
    mixed false false c d = refl

any_turned : {X Y : Type 0} (r : X → Y → Bool) (xs : List X) (ys : List Y)
    → list_any (λ x. list_any (r x) ys) xs ≡ list_any (λ y. list_any (λ x. r x y) xs) ys
any_turned r [] ys = sym (any_none ys)
any_turned r (x ∷ xs) ys =
    ap (λ (b : Bool). list_any (r x) ys || b) (any_turned r xs ys) ∙ sym (any_either (r x) (λ y. list_any (λ z. r z y) xs) ys)

-- ---- memberships after a leave
abbrev rest_of : Leave → List Membership → List Membership
rest_of leave memberships = filter takes_part (map (less_by leave) memberships)

-- who receives takes part
kept_received : (guid : ℕ) (one : Membership) (rest : List Membership)
    → list_any (receives guid) (filter takes_part (one ∷ rest)) ≡ (receives guid one || list_any (receives guid) (filter takes_part rest))
kept_received guid one rest = elim (cases_Bool (takes_part one)) [
  | inl stays ↦ rw stays refl
  | inr goes ↦
      let nothing = silent (is_of guid one) one.join_state.full_member one.join_state.non_member one.join_state.send_only_non_member goes in
      rw (goes, nothing) refl
]
  where
    silent : (a f n s : Bool) → (f || (n || s)) ≡ false → (a && (f || n)) ≡ false
    silent true true n s h = h
    silent true false true s h = h
    silent true false false s h = refl
    silent false f n s h = refl

-- a port that receives by a membership does so by what is left of it, or loses it
one_received : (guid : ℕ) (leave : Leave) (one : Membership)
    → receives guid one ≡ (receives guid (less_by leave one) || ((guid == leave.port) && is_lost_by leave one))
one_received guid leave one = elim (cases_Bool (is_of leave.port one)) [
  | inl own ↦
      let equal : one.port ≡ leave.port = eqb-true one.port leave.port own in
      let same : (guid == leave.port) ≡ is_of guid one = turned guid leave.port ∙ ap (λ (n : ℕ). n == guid) (sym equal) in
      rw (own, same)
      (split (is_of guid one) one.join_state.full_member one.join_state.non_member leave.join_state.full_member leave.join_state.non_member)
  | inr other ↦ rw other (alone (receives guid one) (guid == leave.port))
]
  where
    split : (a f n x y : Bool)
        → (a && (f || n)) ≡ ((a && ((f && not x) || (n && not y))) || (a && ((f || n) && not ((f && not x) || (n && not y)))))
    split false f n x y = refl
    split true false false x y = refl
    split true true false true y = refl
    split true true false false y = refl
    split true false true x true = refl
    split true false true x false = refl
    split true true true true true = refl
    split true true true true false = refl
    split true true true false y = refl

    alone : (a b : Bool) → a ≡ (a || (b && false))
    alone true b = refl
    alone false true = refl
    alone false false = refl

received_less : (guid : ℕ) (leave : Leave) (memberships : List Membership)
    → list_any (receives guid) memberships
    ≡ (list_any (receives guid) (rest_of leave memberships) || ((guid == leave.port) && list_any (is_lost_by leave) memberships))
received_less guid leave [] = nothing (guid == leave.port)
  where
    nothing : (a : Bool) → false ≡ (a && false)
    nothing true = refl
    nothing false = refl
received_less guid leave (one ∷ memberships) =
    let first = one_received guid leave one in
    let rest = received_less guid leave memberships in
    let kept = kept_received guid (less_by leave one) (map (less_by leave) memberships) in
    let both : list_any (receives guid) (one ∷ memberships)
    ≡ ((receives guid (less_by leave one) || ((guid == leave.port) && is_lost_by leave one))
    || (list_any (receives guid) (rest_of leave memberships) || ((guid == leave.port) && list_any (is_lost_by leave) memberships))) =
    ap (λ (b : Bool). b || list_any (receives guid) memberships) first
    ∙ ap (λ (b : Bool). (receives guid (less_by leave one) || ((guid == leave.port) && is_lost_by leave one)) || b) rest in
    both
    ∙ mixed (receives guid (less_by leave one)) (list_any (receives guid) (rest_of leave memberships)) (guid == leave.port) (is_lost_by leave one) (list_any (is_lost_by leave) memberships)
    ∙ ap (λ (b : Bool). b || ((guid == leave.port) && list_any (is_lost_by leave) (one ∷ memberships))) (sym kept)
  where
    mixed : (a b e x y : Bool) → ((a || (e && x)) || (b || (e && y))) ≡ ((a || b) || (e && (x || y)))
    mixed true b e x y = refl
    mixed false true true true y = refl
    mixed false true true false y = refl
    mixed false true false x y = refl
    mixed false false true x y = refl
    mixed false false false x y = refl

-- of a port there is one membership; where it is lost, the port receives no more
pub none_received : (port : ℕ) (memberships : List Membership) → list_any (is_of port) memberships ≡ false → list_any (receives port) memberships ≡ false
none_received port [] none = refl
none_received port (one ∷ memberships) none = elim (cases_Bool (is_of port one)) [
  | inl own ↦ absurd (false≢true (sym (rw own at none)))
  | inr other ↦ rw other (none_received port memberships (rw other at none))
]

none_lost : (leave : Leave) (memberships : List Membership) → list_any (is_of leave.port) memberships ≡ false
    → list_any (is_lost_by leave) memberships ≡ false
none_lost leave [] none = refl
none_lost leave (one ∷ memberships) none = elim (cases_Bool (is_of leave.port one)) [
  | inl own ↦ absurd (false≢true (sym (rw own at none)))
  | inr other ↦ rw other (none_lost leave memberships (rw other at none))
]

still_of : (port : ℕ) (leave : Leave) (one : Membership) → is_of port (less_by leave one) ≡ is_of port one
still_of port leave one = elim (cases_Bool (is_of leave.port one)) [ inl own ↦ rw own refl | inr other ↦ rw other refl ]

none_kept : (port : ℕ) (leave : Leave) (memberships : List Membership) → list_any (is_of port) memberships ≡ false
    → list_any (receives port) (rest_of leave memberships) ≡ false
none_kept port leave [] none = refl
none_kept port leave (one ∷ memberships) none = elim (cases_Bool (is_of port one)) [
  | inl own ↦ absurd (false≢true (sym (rw own at none)))
  | inr other ↦
      let apart : is_of port (less_by leave one) ≡ false = still_of port leave one ∙ other in
      let silent : receives port (less_by leave one) ≡ false = ap (λ (b : Bool). b && is_receiver (less_by leave one).join_state) apart in
      kept_received port (less_by leave one) (map (less_by leave) memberships)
      ∙ ap (λ (b : Bool). b || list_any (receives port) (rest_of leave memberships)) silent
      ∙ none_kept port leave memberships (rw other at none)
]

lost_is_gone : (leave : Leave) (memberships : List Membership) → pairwise lower_port memberships ≡ true
    → list_any (is_lost_by leave) memberships ≡ true → list_any (receives leave.port) (rest_of leave memberships) ≡ false
lost_is_gone leave [] order lost = absurd (false≢true lost)
lost_is_gone leave (one ∷ memberships) order lost =
    let parts = and_parts _ (pairwise lower_port memberships) order in
    elim (cases_Bool (is_of leave.port one)) [
      | inl own ↦
          let equal : one.port ≡ leave.port = eqb-true one.port leave.port own in
          let others = none_of_port leave.port memberships (above_first leave.port one memberships parts.0 (omega (arith, equal))) in
          let rest = none_kept leave.port leave memberships others in
          let lost_here : (is_receiver one.join_state && not (is_receiver (without_bits leave.join_state one.join_state))) ≡ true =
          sym (or-false _) ∙ rw (own, none_lost leave memberships others) at lost in
          let silent : is_receiver (without_bits leave.join_state one.join_state) ≡ false =
          not_so (is_receiver one.join_state) (is_receiver (without_bits leave.join_state one.join_state)) lost_here in
          kept_received leave.port (less_by leave one) (map (less_by leave) memberships)
          ∙ rw (own, silent) (ap (λ (b : Bool). (is_of leave.port one && false) || b) rest ∙ nothing (is_of leave.port one))
      | inr other ↦
          let apart : is_of leave.port (less_by leave one) ≡ false = still_of leave.port leave one ∙ other in
          let silent : receives leave.port (less_by leave one) ≡ false = ap (λ (b : Bool). b && is_receiver (less_by leave one).join_state) apart in
          kept_received leave.port (less_by leave one) (map (less_by leave) memberships)
          ∙ ap (λ (b : Bool). b || list_any (receives leave.port) (rest_of leave memberships)) silent
          ∙ lost_is_gone leave memberships parts.1 (rw other at lost)
    ]
  where
    nothing : (a : Bool) → ((a && false) || false) ≡ false
    nothing true = refl
    nothing false = refl

    not_so : (a b : Bool) → (a && not b) ≡ true → b ≡ false
    not_so true false h = refl
    not_so true true h = absurd (false≢true h)
    not_so false b h = absurd (false≢true h)

-- ---- slots: who receives what is sent to the group in one
abbrev pub receiving : ℕ → Option SlotGroup → Bool
receiving guid slot = option_map_or (λ group. list_any (receives guid) group.memberships) slot false

abbrev received_in : ℕ → ℕ → List MulticastGroup → Bool
received_in mlid guid groups = list_any (λ group. (group.mlid == mlid) && list_any (receives guid) group.memberships) groups

none_below : (mlid guid from : ℕ) (slots : List (Option SlotGroup)) → mlid < from → received_in mlid guid (groups_in from slots) ≡ false
none_below mlid guid from [] low = refl
none_below mlid guid from (None ∷ slots) low = none_below mlid guid (from + 1) slots (omega (arith, low))
none_below mlid guid from (Some group ∷ slots) low =
    let other : (from == mlid) ≡ false = ne_eqb from mlid (λ same. omega (arith, same, low)) in
    rw other (none_below mlid guid (from + 1) slots (omega (arith, low)))

received_at : (mlid guid from : ℕ) (slots : List (Option SlotGroup)) (i : ℕ) (d : Option SlotGroup) → i < length slots → mlid ≡ from + i
    → received_in mlid guid (groups_in from slots) ≡ receiving guid (get_or slots i d)
received_at mlid guid from [] i d within is = absurd (omega arith)
received_at mlid guid from (None ∷ slots) zero d within is = none_below mlid guid (from + 1) slots (omega (arith, is))
received_at mlid guid from (Some group ∷ slots) zero d within is =
    let same : (from == mlid) ≡ true = eq-eqb from mlid (omega (arith, is)) in
    let none = none_below mlid guid (from + 1) slots (omega (arith, is)) in
    rw (same, none) (or-false (list_any (receives guid) group.memberships))
received_at mlid guid from (None ∷ slots) (suc i) d within is = received_at mlid guid (from + 1) slots i d (omega (arith, within)) (omega (arith, is))
received_at mlid guid from (Some group ∷ slots) (suc i) d within is =
    let other : (from == mlid) ≡ false = ne_eqb from mlid (λ same. omega (arith, same, is)) in
    rw other (received_at mlid guid (from + 1) slots i d (omega (arith, within)) (omega (arith, is)))

received_elsewhere : (mlid guid from : ℕ) (slots : List (Option SlotGroup)) (i : ℕ) (new : Option SlotGroup) → (mlid ≡ from + i → ⊥)
    → received_in mlid guid (groups_in from (set slots i new)) ≡ received_in mlid guid (groups_in from slots)
received_elsewhere mlid guid from [] i new other = refl
received_elsewhere mlid guid from (None ∷ slots) zero None other = refl
received_elsewhere mlid guid from (None ∷ slots) zero (Some group) other =
    let apart : (from == mlid) ≡ false = ne_eqb from mlid (λ same. other (omega (arith, same))) in rw apart refl
received_elsewhere mlid guid from (Some old ∷ slots) zero None other =
    let apart : (from == mlid) ≡ false = ne_eqb from mlid (λ same. other (omega (arith, same))) in rw apart refl
received_elsewhere mlid guid from (Some old ∷ slots) zero (Some group) other =
    let apart : (from == mlid) ≡ false = ne_eqb from mlid (λ same. other (omega (arith, same))) in rw apart refl
received_elsewhere mlid guid from (None ∷ slots) (suc i) new other =
    received_elsewhere mlid guid (from + 1) slots i new (λ same. other (omega (arith, same)))
received_elsewhere mlid guid from (Some old ∷ slots) (suc i) new other =
    ap (λ (b : Bool). ((from == mlid) && list_any (receives guid) old.memberships) || b)
    (received_elsewhere mlid guid (from + 1) slots i new (λ same. other (omega (arith, same))))

received_now : (number base guid : ℕ) (slots : List (Option SlotGroup)) (i : ℕ) (new : Option SlotGroup) → i < length slots
    → receives_in (first_mlid number + i) guid (partition_in number base (set slots i new)) ≡ receiving guid new
received_now number base guid slots i new within =
    received_at (first_mlid number + i) guid (first_mlid number) (set slots i new) i new (omega (arith, length-set slots i new, within)) refl
    ∙ ap (receiving guid) (get_or-set_same slots i new new within)

slot_lost : (number base : ℕ) (slots : List (Option SlotGroup)) (i : ℕ) (d new : Option SlotGroup) → i < length slots
    → ((guid : ℕ) → receiving guid new ≡ true → receiving guid (get_or slots i d) ≡ true) → (m guid : ℕ)
    → receives_in m guid (partition_in number base slots)
    ≡ (receives_in m guid (partition_in number base (set slots i new)) || ((m == first_mlid number + i) && receiving guid (get_or slots i d)))
slot_lost number base slots i d new within fewer m guid = elim (cases_Bool (m == first_mlid number + i)) [
  | inl same ↦
      let equal : m ≡ first_mlid number + i = eqb-true m (first_mlid number + i) same in
      let old : receives_in m guid (partition_in number base slots) ≡ receiving guid (get_or slots i d) = received_at m guid (first_mlid number) slots i d within equal in
      let now : receives_in m guid (partition_in number base (set slots i new)) ≡ receiving guid new =
      ap (λ (n : ℕ). receives_in n guid (partition_in number base (set slots i new))) equal ∙ received_now number base guid slots i new within in
      at_place _ _ _ _ _ old now same (fewer guid)
  | inr other ↦
      let apart : m ≡ first_mlid number + i → ⊥ = λ same. false≢true (sym other ∙ eq-eqb m (first_mlid number + i) same) in
      let still : receives_in m guid (partition_in number base (set slots i new)) ≡ receives_in m guid (partition_in number base slots) =
      received_elsewhere m guid (first_mlid number) slots i new apart in
      elsewhere _ _ _ _ still other
]
  where
    at_place : (r n t o w : Bool) → r ≡ o → n ≡ w → t ≡ true → (w ≡ true → o ≡ true) → r ≡ (n || (t && o))
    at_place r n t o w a b c more = a ∙ under w o more ∙ sym (ap (λ (x : Bool). x || (t && o)) b ∙ ap (λ (x : Bool). w || (x && o)) c)
      where
        under : (w o : Bool) → (w ≡ true → o ≡ true) → o ≡ (w || (true && o))
        under true o more = more refl
        under false o more = refl

    elsewhere : (r n t o : Bool) → n ≡ r → t ≡ false → r ≡ (n || (t && o))
    elsewhere r n t o same c = sym same ∙ sym (or-false n) ∙ ap (λ (x : Bool). n || (x && o)) (sym c)

-- ---- what a leave changes in a slot
fewer_received : (ports : List SubnetPort) (base : ℕ) (leave : Leave) (slot : Option SlotGroup) (guid : ℕ)
    → receiving guid (left_slot ports base leave slot) ≡ true → receiving guid slot ≡ true
fewer_received ports base leave None guid received = received
fewer_received ports base leave (Some group) guid received = elim (cases_Bool (is_kept ports base (left_by leave group))) [
  | inl kept ↦
      received_less guid leave group.memberships
      ∙ or_left (list_any (receives guid) (rest_of leave group.memberships)) ((guid == leave.port) && list_any (is_lost_by leave) group.memberships) (rw kept at received)
  | inr gone ↦ absurd (false≢true (rw gone at received))
]

abbrev is_end : SubnetPort → Bool
is_end port = not (is_switch_type port.node_type)

received_by_ends : (ports : List SubnetPort) (memberships : List Membership)
    → list_any (λ port. is_end port && list_any (receives port.guid) memberships) ports ≡ list_any (is_receiving ports) memberships
received_by_ends ports memberships =
    any_alike (λ port. is_end port && list_any (receives port.guid) memberships) (λ port. list_any (λ one. is_end port && receives port.guid one) memberships)
    (λ port. sym (any_and (is_end port) (receives port.guid) memberships)) ports
    ∙ any_turned (λ port one. is_end port && receives port.guid one) ports memberships
    ∙ any_alike (λ one. list_any (λ port. is_end port && receives port.guid one) ports) (is_receiving ports)
    (λ one.
    any_alike (λ port. is_end port && receives port.guid one) (λ port. is_receiver one.join_state && ((port.guid == one.port) && is_end port))
    (λ port. ap (λ (b : Bool). is_end port && (b && is_receiver one.join_state)) (turned one.port port.guid)
    ∙ shuffled (is_end port) (port.guid == one.port) (is_receiver one.join_state)) ports
    ∙ any_and (is_receiver one.join_state) (λ port. (port.guid == one.port) && is_end port) ports) memberships
  where
    shuffled : (a b c : Bool) → (a && (b && c)) ≡ (c && (b && a))
    shuffled true true true = refl
    shuffled true true false = refl
    shuffled true false true = refl
    shuffled true false false = refl
    shuffled false true true = refl
    shuffled false true false = refl
    shuffled false false true = refl
    shuffled false false false = refl

abbrev own_lost : Leave → SlotGroup → SubnetPort → Bool
own_lost leave group port = loses leave group && ((port.guid == leave.port) && is_end port)

-- the group stays: only the port that leaves can receive no more
stays_reported : (ports : List SubnetPort) (leave : Leave) (group : SlotGroup) → pairwise lower_port group.memberships ≡ true
    → list_any (λ port. is_end port && (list_any (receives port.guid) group.memberships && not (list_any (receives port.guid) (rest_of leave group.memberships)))) ports
    ≡ (loses leave group && is_adapter ports leave.port)
stays_reported ports leave group order =
    any_alike (λ port. is_end port && (list_any (receives port.guid) group.memberships && not (list_any (receives port.guid) (rest_of leave group.memberships))))
    (own_lost leave group) each ports
    ∙ any_and (loses leave group) (λ port. (port.guid == leave.port) && is_end port) ports
  where
    alone : (h e l a : Bool) → ((e && l) ≡ true → h ≡ false) → (a && ((h || (e && l)) && not h)) ≡ (l && (e && a))
    alone true true true a gone = absurd (false≢true (sym (gone refl)))
    alone true true false true gone = refl
    alone true true false false gone = refl
    alone true false true true gone = refl
    alone true false true false gone = refl
    alone true false false true gone = refl
    alone true false false false gone = refl
    alone false true true true gone = refl
    alone false true true false gone = refl
    alone false true false true gone = refl
    alone false true false false gone = refl
    alone false false true true gone = refl
    alone false false true false gone = refl
    alone false false false true gone = refl
    alone false false false false gone = refl

    gone : (guid : ℕ) → ((guid == leave.port) && loses leave group) ≡ true → list_any (receives guid) (rest_of leave group.memberships) ≡ false
    gone guid lost =
        let parts = and_parts (guid == leave.port) (loses leave group) lost in
        ap (λ (n : ℕ). list_any (receives n) (rest_of leave group.memberships)) (eqb-true guid leave.port parts.0)
        ∙ lost_is_gone leave group.memberships order parts.1

    each : (port : SubnetPort)
        → (is_end port && (list_any (receives port.guid) group.memberships && not (list_any (receives port.guid) (rest_of leave group.memberships))))
        ≡ own_lost leave group port
    each port =
        ap (λ (b : Bool). is_end port && (b && not (list_any (receives port.guid) (rest_of leave group.memberships)))) (received_less port.guid leave group.memberships)
        ∙ alone (list_any (receives port.guid) (rest_of leave group.memberships)) (port.guid == leave.port) (loses leave group) (is_end port) (gone port.guid)

-- the group is dropped: nobody receives any more
drop_reported : (ports : List SubnetPort) (leave : Leave) (group : SlotGroup)
    → list_any (λ port. is_end port && (list_any (receives port.guid) group.memberships && true)) ports
    ≡ ((loses leave group && is_adapter ports leave.port) || list_any (is_receiving ports) (rest_of leave group.memberships))
drop_reported ports leave group =
    any_alike (λ port. is_end port && (list_any (receives port.guid) group.memberships && true))
    (λ port. own_lost leave group port || (is_end port && list_any (receives port.guid) (rest_of leave group.memberships))) each ports
    ∙ any_either (own_lost leave group) (λ port. is_end port && list_any (receives port.guid) (rest_of leave group.memberships)) ports
    ∙ ap (λ (b : Bool). b || list_any (λ port. is_end port && list_any (receives port.guid) (rest_of leave group.memberships)) ports)
    (any_and (loses leave group) (λ port. (port.guid == leave.port) && is_end port) ports)
    ∙ ap (λ (b : Bool). (loses leave group && is_adapter ports leave.port) || b) (received_by_ends ports (rest_of leave group.memberships))
  where
    both : (h e l a : Bool) → (a && ((h || (e && l)) && true)) ≡ ((l && (e && a)) || (a && h))
    both true true true true = refl
    both true true true false = refl
    both true true false true = refl
    both true true false false = refl
    both true false true true = refl
    both true false true false = refl
    both true false false true = refl
    both true false false false = refl
    both false true true true = refl
    both false true true false = refl
    both false true false true = refl
    both false true false false = refl
    both false false true true = refl
    both false false true false = refl
    both false false false true = refl
    both false false false false = refl

    each : (port : SubnetPort) → (is_end port && (list_any (receives port.guid) group.memberships && true))
        ≡ (own_lost leave group port || (is_end port && list_any (receives port.guid) (rest_of leave group.memberships)))
    each port =
        ap (λ (b : Bool). is_end port && (b && true)) (received_less port.guid leave group.memberships)
        ∙ both (list_any (receives port.guid) (rest_of leave group.memberships)) (port.guid == leave.port) (loses leave group) (is_end port)

slot_reported : (ports : List SubnetPort) (base : ℕ) (leave : Leave) (slot : Option SlotGroup) → is_settled slot ≡ true
    → list_any (λ port. is_end port && (receiving port.guid slot && not (receiving port.guid (left_slot ports base leave slot)))) ports
    ≡ slot_changes ports base leave slot
slot_reported ports base leave None settled =
    any_alike (λ port. is_end port && false) (λ port. false) (λ port. nothing (is_end port)) ports ∙ any_none ports
  where
    nothing : (a : Bool) → (a && false) ≡ false
    nothing true = refl
    nothing false = refl
slot_reported ports base leave (Some group) settled =
    let parts = and_parts (pairwise lower_port group.memberships) _ settled in
    elim (cases_Bool (is_kept ports base (left_by leave group))) [
      | inl kept ↦ rw kept (stays_reported ports leave group parts.0 ∙ sym (or-false (loses leave group && is_adapter ports leave.port)))
      | inr gone ↦ rw gone (drop_reported ports leave group)
    ]

pub slot_changed : (ports : List SubnetPort) (number base : ℕ) (leave : Leave) (slots : List (Option SlotGroup)) (i : ℕ) (d : Option SlotGroup)
    → HaveLidsInOrder ports → IsDistinct same_guid ports → i < length slots → is_settled (get_or slots i d) ≡ true
    → has_changed ports (partition_in number base slots) (partition_in number base (set slots i (left_slot ports base leave (get_or slots i d))))
    ≡ slot_changes ports base leave (get_or slots i d)
slot_changed ports number base leave slots i d lids distinct within settled =
    let old = get_or slots i d in
    let new = left_slot ports base leave old in
    let after = partition_in number base (set slots i new) in
    one_lost ports (partition_in number base slots) after (first_mlid number + i) (λ guid. receiving guid old) lids distinct
    (slot_lost number base slots i d new within (fewer_received ports base leave old))
    ∙ any_alike (λ port. is_end port && (receiving port.guid old && not (receives_in (first_mlid number + i) port.guid after)))
    (λ port. is_end port && (receiving port.guid old && not (receiving port.guid new)))
    (λ port. ap (λ (b : Bool). is_end port && (receiving port.guid old && not b)) (received_now number base port.guid slots i new within)) ports
    ∙ slot_reported ports base leave old settled

-- ---- the membership of the port that leaves, as code finds it
abbrev pub is_less : Leave → Membership → Bool
is_less leave one = is_receiver one.join_state && not (is_receiver (without_bits leave.join_state one.join_state))

lost_there : (leave : Leave) (memberships : List Membership) (d : Membership) → pairwise lower_port memberships ≡ true → is_at leave.port memberships ≡ true
    → list_any (is_lost_by leave) memberships ≡ is_less leave (get_or memberships (place_for leave.port memberships) d)
lost_there leave [] d order there = absurd (false≢true there)
lost_there leave (first ∷ rest) d order there =
    let parts = and_parts (list_all (lower_port first) rest) (pairwise lower_port rest) order in
    elim (cases_Bool (nat_lt first.port leave.port)) [
      | inl lower ↦
          let e = one_more (place_for leave.port rest) in
          let other = lower_is_other leave.port first lower in
          rw (lower, e, other) (lost_there leave rest d parts.1 (rw (lower, e) at there))
      | inr here ↦
          let same : is_of leave.port first ≡ true = rw here at there in
          let equal : first.port ≡ leave.port = eqb-true first.port leave.port same in
          let others = none_lost leave rest (none_of_port leave.port rest (above_first leave.port first rest parts.0 (omega (arith, equal)))) in
          rw (here, same, others) (or-false (is_less leave first))
    ]

pub lost_is_less : (leave : Leave) (memberships : List Membership) (one : Membership) → are_settled memberships ≡ true → is_at leave.port memberships ≡ true
    → one ≡ get_or memberships (place_for leave.port memberships) one → is_less leave one ≡ list_any (is_lost_by leave) memberships
lost_is_less leave memberships one settled there is =
    let parts = and_parts (pairwise lower_port memberships) _ settled in
    ap (is_less leave) is ∙ sym (lost_there leave memberships one parts.0 there)

pub nobody_lost : (leave : Leave) (memberships : List Membership) → are_settled memberships ≡ true → is_at leave.port memberships ≡ false
    → list_any (is_lost_by leave) memberships ≡ false
nobody_lost leave memberships settled none =
    let parts = and_parts (pairwise lower_port memberships) _ settled in none_lost leave memberships (none_there leave.port memberships parts.0 none)

-- ---- the bits by which a port receives
two_of : (x y : ℕ) → x < 2 → y < 2 → not (x + 2 * y == 0) ≡ ((x == 1) || (y == 1))
two_of zero zero a b = refl
two_of zero (suc zero) a b = refl
two_of (suc zero) zero a b = refl
two_of (suc zero) (suc zero) a b = refl
two_of (suc (suc x)) y a b = absurd (omega (arith, a))
two_of zero (suc (suc y)) a b = absurd (omega (arith, b))
two_of (suc zero) (suc (suc y)) a b = absurd (omega (arith, b))

low_two : (n : ℕ) → bit_and n 3 ≡ bit_at n 0 + 2 * bit_at n 1
low_two n = let low : bit_and n 3 ≡ n % 4 = and_mask n 2 in low ∙ parts n
  where
    parts : (n : ℕ) → n % 4 ≡ n / 1 % 2 + 2 * (n / 2 % 2)
    parts n = omega arith

pub receiver_bits : (n : ℕ) → not (bit_and n 3 == 0) ≡ is_receiver (join_state_of n)
receiver_bits n =
    let full : (bit_and n 1 == 1) ≡ (bit_at n 0 == 1) = is_set 0 n in
    let non : (bit_and n 2 == 2) ≡ (bit_at n 1 == 1) = is_set 1 n in
    rw (low_two n, full, non) (two_of (bit_at n 0) (bit_at n 1) (bit_at-lt n 0) (bit_at-lt n 1))

-- ---- partition by partition
pub changed_more : (ports : List SubnetPort) (f : PartitionGroups → PartitionGroups) (partitions : List PartitionGroups) (i : ℕ) (d : PartitionGroups) → i < length partitions
    → has_changed ports (get_or partitions i d) (f (get_or partitions i d)) ≡ true
    → numbers_changed ports (take (i + 1) partitions) (map f (take (i + 1) partitions))
    ≡ numbers_changed ports (take i partitions) (map f (take i partitions)) ++ (get_or partitions i d).number ∷ []
changed_more ports f [] i d within changed = absurd (omega arith)
changed_more ports f (one ∷ partitions) zero d within changed = rw changed refl
changed_more ports f (one ∷ partitions) (suc i) d within changed =
    let e : suc i + 1 ≡ suc (i + 1) = omega arith in
    let rest = changed_more ports f partitions i d (omega (arith, within)) changed in
    elim (cases_Bool (has_changed ports one (f one))) [
      | inl here ↦ rw (e, here) (ap (λ (numbers : List ℕ). one.number ∷ numbers) rest)
      | inr stays ↦ rw (e, stays) rest
    ]

pub unchanged_more : (ports : List SubnetPort) (f : PartitionGroups → PartitionGroups) (partitions : List PartitionGroups) (i : ℕ) (d : PartitionGroups) → i < length partitions
    → has_changed ports (get_or partitions i d) (f (get_or partitions i d)) ≡ false
    → numbers_changed ports (take (i + 1) partitions) (map f (take (i + 1) partitions)) ≡ numbers_changed ports (take i partitions) (map f (take i partitions))
unchanged_more ports f [] i d within stays = absurd (omega arith)
unchanged_more ports f (one ∷ partitions) zero d within stays = rw stays refl
unchanged_more ports f (one ∷ partitions) (suc i) d within stays =
    let e : suc i + 1 ≡ suc (i + 1) = omega arith in
    let rest = unchanged_more ports f partitions i d (omega (arith, within)) stays in
    elim (cases_Bool (has_changed ports one (f one))) [
      | inl here ↦ rw (e, here) (ap (λ (numbers : List ℕ). one.number ∷ numbers) rest)
      | inr same ↦ rw (e, same) rest
    ]

-- ---- what is reported of the slot of a group that is left
pub kept_reported : (ports : List SubnetPort) (base : ℕ) (leave : Leave) (slot : Option SlotGroup) (group : SlotGroup) (lost : Bool) → slot ≡ Some group
    → is_kept ports base (left_by leave group) ≡ true → lost ≡ (loses leave group && is_adapter ports leave.port)
    → lost ≡ slot_changes ports base leave slot
kept_reported ports base leave slot group lost there kept reported =
    rw (there, kept) (reported ∙ sym (or-false (loses leave group && is_adapter ports leave.port)))

pub dropped_reported : (ports : List SubnetPort) (base : ℕ) (leave : Leave) (slot : Option SlotGroup) (group : SlotGroup) (lost received : Bool) → slot ≡ Some group
    → is_kept ports base (left_by leave group) ≡ false → lost ≡ (loses leave group && is_adapter ports leave.port)
    → received ≡ list_any (is_receiving ports) (left_by leave group).memberships → (lost || received) ≡ slot_changes ports base leave slot
dropped_reported ports base leave slot group lost received there gone reported others =
    rw (there, gone)
    (ap (λ (b : Bool). b || received) reported ∙ ap (λ (b : Bool). (loses leave group && is_adapter ports leave.port) || b) others)

pub both_reported : (loses adapter lost : Bool) → loses ≡ true → lost ≡ adapter → lost ≡ (loses && adapter)
both_reported loses adapter lost does is = is ∙ ap (λ (b : Bool). b && adapter) (sym does)

pub nothing_lost : (loses adapter lost : Bool) → loses ≡ false → lost ≡ false → lost ≡ (loses && adapter)
nothing_lost loses adapter lost stays is = is ∙ ap (λ (b : Bool). b && adapter) (sym stays)

-- ---- what is reported of the partition of that slot
pub partition_changed : (ports : List SubnetPort) (number base : ℕ) (leave : Leave) (slots : List (Option SlotGroup)) (i : ℕ) (d : Option SlotGroup)
    (partition : PartitionGroups) → partition_in number base slots ≡ partition → position (holds_mgid leave.mgid) slots ≡ Some i
    → list_all (λ group. are_settled group.memberships) partition.groups ≡ true → HaveLidsInOrder ports → IsDistinct same_guid ports
    → slot_changes ports base leave (get_or slots i d)
    ≡ has_changed ports partition (partition_in number base (set slots i (left_slot ports base leave (get_or slots i d))))
partition_changed ports number base leave slots i d partition is place settled lids distinct =
    let within = (position-Some (holds_mgid leave.mgid) slots i d place).0 in
    let groups : groups_in (first_mlid number) slots ≡ partition.groups = ap (λ (one : PartitionGroups). one.groups) is in
    let all : list_all (λ (group : MulticastGroup). are_settled group.memberships) (groups_in (first_mlid number) slots) ≡ true =
    ap (list_all (λ (group : MulticastGroup). are_settled group.memberships)) groups ∙ settled in
    sym (slot_changed ports number base leave slots i d lids distinct within (slot_settled (first_mlid number) slots i d within all))
    ∙ ap (λ (one : PartitionGroups). has_changed ports one (partition_in number base (set slots i (left_slot ports base leave (get_or slots i d))))) is

-- ---- what stands in a slot that was written
pub written : (slots : List (Option SlotGroup)) (i : ℕ) (new one : Option SlotGroup) → i < length slots → one ≡ get_or (set slots i new) i one
    → is_some new ≡ is_some one
written slots i new one within is = ap is_some (sym (is ∙ get_or-set_same slots i new one within))
