-- What the reply to a request of a subnet manager reports, and what it reports of a fabric.
use Rattle.std.specs.Prelude.{ℕ, ◌≡◌, ◌+◌, ◌≤◌, ◌==◌, Bool, true, not, ◌&&◌, if◌then◌else◌, List, [], ◌∷◌, length, Option, Some, None, Result, Ok, Err}
use Rattle.std.specs.Option.{option_map_or}
use Rattle.mad_layout.specs.Bits.{field}
use Rattle.mad_layout.specs.Layout.{at, is_free}
use Rattle.mad_layout.specs.Method.{method_code}
use Rattle.mad_layout.specs.declared.method.Method.TheVariants.{GetResp}
use Rattle.mad_layout.specs.declared.status.MadStatus.{MadStatus}
use Rattle.agent_rules.specs.Request.{data_of, reply_method}
use Rattle.smp_wire.specs.declared.reply.ReplyFault.{ReplyFault}
use Rattle.smp_wire.specs.declared.reply.ReplyFault.TheVariants.{NoReply, Refused, WrongReply}
use Rattle.smp_wire.specs.FabricState.{FabricState}
use Rattle.smp_wire.specs.Walk.{exchange_reply}

-- a field of the reply is that of the request
abbrev pub is_same_field : List ℕ → List ℕ → ℕ → ℕ → Bool
is_same_field request reply off len = field reply off len == field request off len

-- it answers the request: its method is that of a response, and versions, class, TransactionID, attribute and
-- modifier are the request's
abbrev pub answers : List ℕ → List ℕ → Bool
answers request reply =
    (field reply 24 8 == method_code GetResp)
    && (is_same_field request reply 0 8
    && (is_same_field request reply 8 8
    && (is_same_field request reply 16 8
    && (is_same_field request reply 64 64
    && (is_same_field request reply 128 16
    && is_same_field request reply 160 32)))))

-- what it reports: a status other than 0 is a refusal, whatever else stands in the reply
unfoldable pub reported_by : List ℕ → List ℕ → Result (List ℕ) ReplyFault
reported_by request reply =
    if not (field reply 33 15 == 0) then Err Refused
    else (if answers request reply then Ok (data_of reply) else Err WrongReply)

-- and what is reported if a reply comes or none does
abbrev pub reported_if : List ℕ → Option (List ℕ) → Result (List ℕ) ReplyFault
reported_if request reply = option_map_or (reported_by request) reply (Err NoReply)

-- what a request reports of a fabric
abbrev pub reported_of : FabricState → List ℕ → Result (List ℕ) ReplyFault
reported_of fabric request = reported_if request (exchange_reply fabric request)

-- what is reported for what an agent gives: nothing if there is none
abbrev pub reported_for : Option (Result (List ℕ) MadStatus) → Result (List ℕ) ReplyFault
reported_for None = Err NoReply
reported_for (Some (Err status)) = Err Refused
reported_for (Some (Ok bytes)) = Ok bytes

-- ---- what comes back over a good fabric
-- the reply has the method of a reply, its direction bit set and no hop left, and is the request in all but these,
-- its status, its attribute and its return path
pub record IsReplyTo (request reply : List ℕ) : Type 0 where
  pub long : length reply ≡ 256
  pub method_is : field reply 24 8 ≡ reply_method request
  pub direction : field reply 32 1 ≡ 1
  pub hop_pointer : field reply 48 8 ≡ 0
  pub rest : (off len : ℕ) → off + len ≤ 2048
      → is_free off len (at 24 8 0 ∷ at 32 16 0 ∷ at 48 8 0 ∷ at 512 512 0 ∷ at 1536 512 0 ∷ []) ≡ true
      → field reply off len ≡ field request off len
