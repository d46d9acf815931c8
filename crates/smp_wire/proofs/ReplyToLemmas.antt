-- What comes back over a good fabric is the request with its answer, and it answers the request.
use Rattle.std.proofs.Common.{ℕ, ◌≡◌, ◌⊎◌, ◌+◌, ◌%◌, ◌≤◌, ◌==◌, ◌∙◌, ap, refl, sym, inl, inr, true, if◌then◌else◌, List, [], ◌∷◌, length, Option, Some, None, option_map, arith}
use Rattle.std.specs.Int.Digits.{AllBelowBase}
use Rattle.std.proofs.lemmas.Bool.{and_from, and_parts, eq-eqb}
use Rattle.std.proofs.lemmas.Bool.Decides.{nat_tests}
use Rattle.std.proofs.lemmas.Option.{same_Some}
use Rattle.mad_layout.specs.Bits.{field, put_field}
use Rattle.mad_layout.specs.Layout.{at, is_apart, is_free}
use Rattle.mad_layout.proofs.AlignedLemmas.{byte_is_set}
use Rattle.mad_layout.proofs.LayoutLemmas.{field-put_apart, field-put_same, length-put_field}
use Rattle.std.proofs.lemmas.List.{length-set}
use Rattle.fabric_parts.specs.Cable.{last_of}
use Rattle.agent_rules.specs.Request.{reply_method}
use Rattle.agent_rules.proofs.UnseenLemmas.{apart_parts}
use Rattle.fabric_parts.specs.declared.cable.PortRef.{PortRef}
use Rattle.smp_wire.specs.FabricState.{FabricState, reply_at}
use Rattle.smp_wire.specs.Good.{IsGood}
use Rattle.smp_wire.specs.Laws.{RepliesAnswer}
use Rattle.smp_wire.specs.Replies.{IsReplyTo, answers, is_same_field}
use Rattle.smp_wire.specs.Walk.{arrived, exchange_reply, returned, walk_of}
use Rattle.smp_wire.proofs.ArrivalLemmas.{IsCarrier, put_below}
use Rattle.smp_wire.proofs.ReplyLemmas.{IsReply, replies, returned_field}
use Rattle.smp_wire.proofs.WalkedLemmas.{carried, no_walk_reply, walk_reply}

-- ---- what is turned round
record IsTurned (reply : List ℕ) : Type 0 where
  long : length (returned reply) ≡ 256
  direction : field (returned reply) 32 1 ≡ 1
  hop_pointer : field (returned reply) 48 8 ≡ 0

turned : (reply : List ℕ) → length reply ≡ 256 → IsTurned reply
turned reply long =
    let round = put_field reply 32 1 1 in
    let wide : length round ≡ 256 = length-put_field reply 32 1 1 ∙ long in
    let same = byte_is_set round 6 0 (put_below reply 32 1 1) (omega (arith, wide)) (omega arith) in
    record {
      long = length-set round 6 0 ∙ wide;
      direction = ap (λ (xs : List ℕ). field xs 32 1) same
          ∙ field-put_apart round 48 8 0 32 1 (omega (arith, wide)) (omega (arith, wide)) (omega arith) (inl (omega arith))
          ∙ field-put_same reply 32 1 1 (omega (arith, long)) (omega arith);
      hop_pointer = ap (λ (xs : List ℕ). field xs 48 8) same ∙ field-put_same round 48 8 0 (omega (arith, wide)) (omega arith);
    }

-- ---- fields beside what a reply has of its own
record AreBeside (off len : ℕ) : Type 0 where
  rest : is_free off len (at 24 8 0 ∷ at 33 15 0 ∷ at 512 512 0 ∷ []) ≡ true
  on_way : is_free off len (at 48 8 0 ∷ at 1536 512 0 ∷ []) ≡ true
  direction : (off + len ≤ 32) ⊎ (33 ≤ off)
  pointer : (off + len ≤ 48) ⊎ (56 ≤ off)

status_apart : (off len : ℕ) → (off + len ≤ 32) ⊎ (48 ≤ off) → is_apart off len (at 33 15 0) ≡ true
status_apart off len (inl before) = grind (arith, nat_tests, before)
status_apart off len (inr after) = grind (arith, nat_tests, after)

past_direction : (off len : ℕ) → (off + len ≤ 32) ⊎ (48 ≤ off) → (off + len ≤ 32) ⊎ (33 ≤ off)
past_direction off len (inl before) = inl before
past_direction off len (inr after) = inr (omega (arith, after))

beside : (off len : ℕ) → is_free off len (at 24 8 0 ∷ at 32 16 0 ∷ at 48 8 0 ∷ at 512 512 0 ∷ at 1536 512 0 ∷ []) ≡ true → AreBeside off len
beside off len free =
    let a = and_parts (is_apart off len (at 24 8 0)) _ free in
    let b = and_parts (is_apart off len (at 32 16 0)) _ a.1 in
    let c = and_parts (is_apart off len (at 48 8 0)) _ b.1 in
    let d = and_parts (is_apart off len (at 512 512 0)) _ c.1 in
    let status = apart_parts off len 32 16 b.0 in
    record {
      rest = and_from (is_apart off len (at 24 8 0)) _ a.0
          (and_from (is_apart off len (at 33 15 0)) _ (status_apart off len status)
          (and_from (is_apart off len (at 512 512 0)) true d.0 refl));
      on_way = and_from (is_apart off len (at 48 8 0)) _ c.0 d.1;
      direction = past_direction off len status;
      pointer = apart_parts off len 48 8 c.0;
    }

same_method : (one other : List ℕ) → field other 24 8 ≡ field one 24 8 → reply_method other ≡ reply_method one
same_method one other same = ap (λ (method : ℕ). if method == 2 then 129 else 128 + method % 128) same

-- ---- one reply
reply_is : (sent smp answer : List ℕ) (Stays : Type 0) → IsCarrier sent smp → IsReply smp answer Stays → IsReplyTo sent (returned answer)
reply_is sent smp answer Stays here is =
    let round = turned answer is.long in
    record {
      long = round.long;
      method_is = returned_field answer 24 8 is.below is.long (omega arith) (inl (omega arith)) (inl (omega arith))
          ∙ is.method_is
          ∙ same_method sent smp (here.kept 24 8 (omega arith) refl);
      direction = round.direction;
      hop_pointer = round.hop_pointer;
      rest = λ off len inside free.
          let beside = beside off len free in
          returned_field answer off len is.below is.long inside beside.direction beside.pointer
          ∙ is.keeps off len inside beside.rest
          ∙ here.kept off len inside beside.on_way;
    }

by_answer : (fabric : FabricState) (smp reply : List ℕ) (ends : List PortRef) (answer : Option (List ℕ)) → IsGood fabric
    → IsCarrier smp (arrived ends smp)
    → reply_at fabric (last_of fabric.manager ends) (arrived ends smp) ≡ answer → option_map returned answer ≡ Some reply → IsReplyTo smp reply
by_answer fabric smp reply ends None good here answers is = cc
by_answer fabric smp reply ends (Some answer) good here answers is =
    let of_agent = replies fabric (last_of fabric.manager ends) (arrived ends smp) answer here.long good.holdings answers in
    rw (sym (same_Some _ _ is)) (reply_is smp (arrived ends smp) answer _ here of_agent)

by_walk : (fabric : FabricState) (smp reply : List ℕ) (walked : Option (List PortRef)) → IsGood fabric → length smp ≡ 256
    → AllBelowBase 256 smp → walk_of fabric smp ≡ walked → exchange_reply fabric smp ≡ Some reply → IsReplyTo smp reply
by_walk fabric smp reply None good long below is replied = absurd (let none = sym (no_walk_reply fabric smp is) ∙ replied in cc)
by_walk fabric smp reply (Some ends) good long below is replied =
    by_answer fabric smp reply ends _ good (carried fabric smp ends good long below is) refl (sym (walk_reply fabric smp ends is) ∙ replied)

pub replies_answer : RepliesAnswer
replies_answer fabric smp reply good long below replied = by_walk fabric smp reply (walk_of fabric smp) good long below refl replied

-- ---- it answers a request whose reply is a GetResp
same_is : (request reply : List ℕ) (off len : ℕ) → field reply off len ≡ field request off len → is_same_field request reply off len ≡ true
same_is request reply off len same = eq-eqb (field reply off len) (field request off len) same

pub answers_true : (request reply : List ℕ) → reply_method request ≡ 129 → IsReplyTo request reply → answers request reply ≡ true
answers_true request reply method is =
    let same : (off len : ℕ) → off + len ≤ 2048
    → is_free off len (at 24 8 0 ∷ at 32 16 0 ∷ at 48 8 0 ∷ at 512 512 0 ∷ at 1536 512 0 ∷ []) ≡ true
    → is_same_field request reply off len ≡ true = λ off len inside free. same_is request reply off len (is.rest off len inside free) in
    and_from (field reply 24 8 == 129) _ (eq-eqb (field reply 24 8) 129 (is.method_is ∙ method))
    (and_from (is_same_field request reply 0 8) _ (same 0 8 (omega arith) refl)
    (and_from (is_same_field request reply 8 8) _ (same 8 8 (omega arith) refl)
    (and_from (is_same_field request reply 16 8) _ (same 16 8 (omega arith) refl)
    (and_from (is_same_field request reply 64 64) _ (same 64 64 (omega arith) refl)
    (and_from (is_same_field request reply 128 16) _ (same 128 16 (omega arith) refl)
    (same 160 32 (omega arith) refl))))))
