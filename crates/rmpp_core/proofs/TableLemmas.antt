-- What a receiver has is a table.
use Rattle.std.proofs.Common.{◌≡◌, ℕ, ◌+◌, ◌-◌, ◌*◌, ◌<◌, Bool, true, false, ◌&&◌, not, ◌==◌, nat_le, if◌then◌else◌}
use Rattle.std.proofs.Common.{List, [], ◌∷◌, ◌++◌, length, get_or, take, drop, Result, Ok, Err, Option, Some, None, ◌⊎◌, inl, inr, refl, sym, ◌∙◌, ap, subst, arith, length-append, length-drop, append-nil}
use Rattle.std.specs.List.{AllByRecursion, flat_map}
use Rattle.std.proofs.Math.ListN.{get_or-append}
use Rattle.std.proofs.Math.Seq.{get_or-append_seam, append_snoc}
use Rattle.std.proofs.lemmas.Bool.{and_parts, and_right, cases_Bool, eq-eqb, eqb-true, leb-true}
use Rattle.std.proofs.lemmas.Bool.Decides.{nat_tests}
use Rattle.std.proofs.lemmas.Grind.{flat_map-append}
use Rattle.std.proofs.lemmas.List.{take_all, length-take}
use Rattle.rmpp_core.specs.declared.receiver.ReceiveFault.{ReceiveFault}
use Rattle.rmpp_core.specs.declared.receiver.ReceiveFault.TheVariants.{UnexpectedSegment, WrongLength}
use Rattle.rmpp_core.specs.Laws.{payload_length_in, IsSegmentAt, IsTable, WhatIsReceivedIsATable, after_all}
use Rattle.rmpp_core.specs.Receiving.{ReassemblyState, nothing, is_data, is_first, is_last, is_expected, first_length_of, has_right_length, grown, with_segment, whole_bytes}
use Rattle.mad_layout.specs.RmppHeader.{rmpp_in}
use Rattle.mad_layout.specs.SaMad.{data_in}

-- ---- what comes of one segment
abbrev choice : Bool → Bool → Bool → ℕ → Result ℕ ReceiveFault
choice expected last right own =
    if not expected then Err UnexpectedSegment else if not last then Ok 200 else if right then Ok (own - 20) else Err WrongLength

abbrev one_on : ReassemblyState → List ℕ → ℕ → ReassemblyState
one_on r mad count =
    record {
      segments = r.segments + 1;
      first_length = first_length_of r (rmpp_in mad);
      bytes = r.bytes ++ take count (data_in mad);
      is_whole = is_last (rmpp_in mad);
    }

record Refused (r : ReassemblyState) (mad : List ℕ) : Type 0 where
  fault : ReceiveFault
  is : with_segment r mad ≡ Err fault

record Taken (r : ReassemblyState) (mad : List ℕ) (count : ℕ) (ends : Bool) : Type 0 where
  expected : is_expected r (rmpp_in mad) ≡ true
  last : is_last (rmpp_in mad) ≡ ends
  right : ends ≡ true → has_right_length r (rmpp_in mad) ≡ true
  is : with_segment r mad ≡ Ok (one_on r mad count)

segment_gives : (r : ReassemblyState) (mad : List ℕ) (a b c : Bool) → is_expected r (rmpp_in mad) ≡ a → is_last (rmpp_in mad) ≡ b → has_right_length r (rmpp_in mad) ≡ c
    → with_segment r mad ≡ grown r (rmpp_in mad) (data_in mad) (choice a b c (payload_length_in mad))
unfolding with_segment
segment_gives r mad a b c e f g =
    let rmpp = rmpp_in mad in
    ap (λ (given : Result ℕ ReceiveFault). grown r rmpp (data_in mad) given)
    (ap (λ (x : Bool). choice x (is_last rmpp) (has_right_length r rmpp) (payload_length_in mad)) e
    ∙ ap (λ (x : Bool). choice a x (has_right_length r rmpp) (payload_length_in mad)) f ∙ ap (λ (x : Bool). choice a b x (payload_length_in mad)) g)

outcome : (r : ReassemblyState) (mad : List ℕ) → Refused r mad ⊎ (Taken r mad 200 false ⊎ Taken r mad (payload_length_in mad - 20) true)
outcome r mad = by (is_expected r (rmpp_in mad)) (is_last (rmpp_in mad)) (has_right_length r (rmpp_in mad)) refl refl refl
  where
    by : (a b c : Bool) → is_expected r (rmpp_in mad) ≡ a → is_last (rmpp_in mad) ≡ b → has_right_length r (rmpp_in mad) ≡ c
        → Refused r mad ⊎ (Taken r mad 200 false ⊎ Taken r mad (payload_length_in mad - 20) true)
    by false b c e f g = inl (record { fault = UnexpectedSegment; is = segment_gives r mad false b c e f g })
    by true false c e f g = inr (inl (record { expected = e; last = f; right = λ no. absurd cc; is = segment_gives r mad true false c e f g }))
    by true true false e f g = inl (record { fault = WrongLength; is = segment_gives r mad true true false e f g })
    by true true true e f g = inr (inr (record { expected = e; last = f; right = λ yes. g; is = segment_gives r mad true true true e f g }))

after_fault : (fault : ReceiveFault) (mads : List (List ℕ)) → after_all (Err fault) mads ≡ Err fault
after_fault fault [] = refl
after_fault fault (mad ∷ mads) = after_fault fault mads

-- after the last segment nothing is taken
after_last : (r : ReassemblyState) (mad : List ℕ) → r.is_whole ≡ true → with_segment r mad ≡ Err UnexpectedSegment
after_last r mad whole =
    let rmpp = rmpp_in mad in
    let later = (rmpp.segment_number == r.segments + 1) && (if r.segments == 0 then is_first rmpp else not (is_first rmpp)) in
    let none : is_expected r rmpp ≡ false = and_right (is_data rmpp) (not r.is_whole && later) (ap (λ (b : Bool). not b && later) whole) in
    segment_gives r mad false (is_last rmpp) (has_right_length r rmpp) none refl refl

-- ---- while it is not whole
record IsInner (place : ℕ) (mad : List ℕ) : Type 0 where
  segment : is_data (rmpp_in mad) ≡ true
  number : (rmpp_in mad).segment_number ≡ place + 1
  first : is_first (rmpp_in mad) ≡ (place == 0)

record Held (done : List (List ℕ)) (r : ReassemblyState) : Type 0 where
  open_still : r.is_whole ≡ false
  count : r.segments ≡ length done
  bytes : r.bytes ≡ flat_map data_in done
  reported : 0 < length done → r.first_length ≡ payload_length_in (get_or done 0 [])
  each : (place : ℕ) → place < length done → IsInner place (get_or done place [])
  none_last : (place : ℕ) → place < length done → is_last (rmpp_in (get_or done place [])) ≡ false

turn_back : (s f : Bool) → (if s then f else not f) ≡ true → f ≡ s
turn_back true f h = h
turn_back false true h = absurd cc
turn_back false false h = refl

inner_is : (done : List (List ℕ)) (r : ReassemblyState) (mad : List ℕ) → Held done r → is_expected r (rmpp_in mad) ≡ true → IsInner (length done) mad
inner_is done r mad held e =
    let rmpp = rmpp_in mad in
    let turn = if r.segments == 0 then is_first rmpp else not (is_first rmpp) in
    let a = and_parts (is_data rmpp) (not r.is_whole && ((rmpp.segment_number == r.segments + 1) && turn)) e in
    let b = and_parts (not r.is_whole) ((rmpp.segment_number == r.segments + 1) && turn) a.1 in
    let c = and_parts (rmpp.segment_number == r.segments + 1) turn b.1 in
    record {
      segment = a.0;
      number = eqb-true rmpp.segment_number (r.segments + 1) c.0 ∙ ap (λ (n : ℕ). n + 1) held.count;
      first = turn_back (r.segments == 0) (is_first rmpp) c.1 ∙ ap (λ (n : ℕ). n == 0) held.count;
    }

first_kept : (done : List (List ℕ)) (r : ReassemblyState) (mad : List ℕ) → Held done r → first_length_of r (rmpp_in mad) ≡ payload_length_in (get_or (done ++ mad ∷ []) 0 [])
first_kept [] r mad held = let none : (r.segments == 0) ≡ true = eq-eqb r.segments 0 held.count in rw none refl
first_kept (d ∷ ds) r mad held =
    let some : (r.segments == 0) ≡ false = ap (λ (n : ℕ). n == 0) held.count ∙ grind (arith, nat_tests) in
    rw some (held.reported (omega arith))

-- the places of a list and of one more
at_places : (P : ℕ → List ℕ → Type 0) (done : List (List ℕ)) (mad : List ℕ) → ((place : ℕ) → place < length done → P place (get_or done place []))
    → P (length done) mad → (place : ℕ) → place < length (done ++ mad ∷ []) → P place (get_or (done ++ mad ∷ []) place [])
at_places P done mad each last place h =
    let size = length-append done (mad ∷ []) in
    elim (cases_Bool (place == length done)) [
      | inl same ↦
          let e : length done ≡ place = sym (eqb-true place (length done) same) in
          let here : P (length done) (get_or (done ++ mad ∷ []) (length done) []) = subst (λ (m : List ℕ). P (length done) m) (sym (get_or-append_seam done mad [] [])) last in
          subst (λ (n : ℕ). P n (get_or (done ++ mad ∷ []) n [])) e here
      | inr other ↦
          let before : place < length done = grind (arith, nat_tests) in
          subst (λ (m : List ℕ). P place m) (sym (get_or-append done (mad ∷ []) [] place before)) (each place before)
    ]

all_data : (mad : List ℕ) → length mad ≡ 256 → length (data_in mad) ≡ 200
all_data mad size = let a = length-drop 56 mad in let b = length-take 200 (drop 56 mad) in omega arith

held_on : (done : List (List ℕ)) (r : ReassemblyState) (mad : List ℕ) → Held done r → length mad ≡ 256 → Taken r mad 200 false → Held (done ++ mad ∷ []) (one_on r mad 200)
held_on done r mad held size taken =
    let long = all_data mad size in
    let one = flat_map-append data_in done (mad ∷ []) in
    let count = length-append done (mad ∷ []) in
    record {
      open_still = taken.last;
      count = omega (arith, held.count, count);
      bytes = ap (λ (xs : List ℕ). r.bytes ++ xs) (take_all 200 (data_in mad) (omega (arith, long)) ∙ sym (append-nil (data_in mad)))
          ∙ ap (λ (xs : List ℕ). xs ++ (data_in mad ++ [])) held.bytes ∙ sym one;
      reported = λ some. first_kept done r mad held;
      each = at_places IsInner done mad held.each (inner_is done r mad held taken.expected);
      none_last = at_places (λ place m. is_last (rmpp_in m) ≡ false) done mad held.none_last taken.last;
    }

-- ---- and when the last one comes
ended : (r : ReassemblyState) (mads : List (List ℕ)) (bytes : List ℕ) → r.is_whole ≡ true → whole_bytes (after_all (Ok r) mads) ≡ Some bytes
    → (mads ≡ []) × (Some r.bytes ≡ Some bytes)
ended r [] bytes whole h = (refl, rw whole at h)
ended r (mad ∷ mads) bytes whole h =
    let P : Result ReassemblyState ReceiveFault → Type 0 = λ given. whole_bytes (after_all given mads) ≡ Some bytes in
    let none : None ≡ Some bytes = sym (ap whole_bytes (after_fault UnexpectedSegment mads)) ∙ subst P (after_last r mad whole) h in
    absurd cc

some_is : (xs ys : List ℕ) → Some xs ≡ Some ys → xs ≡ ys
some_is xs ys e = ap (λ (o : Option (List ℕ)). or_none o) e
  where
    or_none : Option (List ℕ) → List ℕ
    or_none None = []
    or_none (Some zs) = zs

last_of : (count place : ℕ) (mad : List ℕ) → IsInner place mad → is_last (rmpp_in mad) ≡ (place + 1 == count) → IsSegmentAt count place mad
last_of count place mad inner last = record { segment = inner.segment; number = inner.number; first = inner.first; last = last }

table_is : (done : List (List ℕ)) (r : ReassemblyState) (mad : List ℕ) (bytes : List ℕ) → Held done r → length mad ≡ 256 → Taken r mad (payload_length_in mad - 20) true
    → r.bytes ++ take (payload_length_in mad - 20) (data_in mad) ≡ bytes → IsTable (done ++ mad ∷ []) bytes
table_is done r mad bytes held size taken joined =
    let rmpp = rmpp_in mad in
    let own = payload_length_in mad in
    let whole = 20 * (r.segments + 1) + (length r.bytes + (own - 20)) in
    let a = and_parts (nat_le 20 own) (nat_le own 220 && (first_length_of r rmpp == whole)) (taken.right refl) in
    let b = and_parts (nat_le own 220) (first_length_of r rmpp == whole) a.1 in
    let least = leb-true 20 own a.0 in
    let most = leb-true own 220 b.0 in
    let all = eqb-true (first_length_of r rmpp) whole b.1 in
    let count = length-append done (mad ∷ []) in
    let long = all_data mad size in
    let part = length-take (own - 20) (data_in mad) in
    let both = length-append r.bytes (take (own - 20) (data_in mad)) in
    let bytes_long : length bytes ≡ length r.bytes + (own - 20) = ap (λ (xs : List ℕ). length xs) (sym joined) ∙ omega (arith, both, part, long, most) in
    let total = length (done ++ mad ∷ []) in
    let first = first_kept done r mad held in
    record {
      front = done;
      last = mad;
      split = refl;
      each = at_places (λ place m. IsSegmentAt total place m) done mad
          (λ place h. last_of total place (get_or done place []) (held.each place h)
          (held.none_last place h ∙ sym (let other : (place + 1 == total) ≡ false = grind (arith, nat_tests, count) in other)))
          (last_of total (length done) mad (inner_is done r mad held taken.expected)
          (taken.last ∙ sym (eq-eqb (length done + 1) total (omega (arith, count)))));
      at_least = least;
      at_most = most;
      joined = sym joined ∙ ap (λ (xs : List ℕ). xs ++ take (own - 20) (data_in mad)) held.bytes;
      whole_length = sym first ∙ all ∙ omega (arith, held.count, count, bytes_long);
    }

go : (rest done : List (List ℕ)) (r : ReassemblyState) (bytes : List ℕ) → AllByRecursion (λ mad. length mad ≡ 256) rest → Held done r
    → whole_bytes (after_all (Ok r) rest) ≡ Some bytes → IsTable (done ++ rest) bytes
go [] done r bytes sizes held h = let none : None ≡ Some bytes = rw held.open_still at h in absurd cc
go (mad ∷ mads) done r bytes sizes held h =
    let P : Result ReassemblyState ReceiveFault → Type 0 = λ given. whole_bytes (after_all given mads) ≡ Some bytes in
    elim (outcome r mad) [
      | inl refused ↦
          let none : None ≡ Some bytes = sym (ap whole_bytes (after_fault refused.fault mads)) ∙ subst P refused.is h in
          absurd cc
      | inr taken ↦ elim taken [
        | inl inner ↦
            subst (λ (all : List (List ℕ)). IsTable all bytes) (append_snoc done mad mads)
            (go mads (done ++ mad ∷ []) (one_on r mad 200) bytes sizes.1 (held_on done r mad held sizes.0 inner) (subst P inner.is h))
        | inr last ↦
            let end = ended (one_on r mad (payload_length_in mad - 20)) mads bytes last.last (subst P last.is h) in
            let table = table_is done r mad bytes held sizes.0 last (some_is (r.bytes ++ take (payload_length_in mad - 20) (data_in mad)) bytes end.1) in
            subst (λ (rest : List (List ℕ)). IsTable (done ++ mad ∷ rest) bytes) (sym end.0) table
      ]
    ]

pub is_a_table : WhatIsReceivedIsATable
is_a_table mads bytes sizes h =
    go mads [] nothing bytes sizes
    (record {
      open_still = refl;
      count = refl;
      bytes = refl;
      reported = λ some. absurd (omega (arith, some));
      each = λ place h. absurd (omega (arith, h));
      none_last = λ place h. absurd (omega (arith, h));
    }) h
