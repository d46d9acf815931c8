-- A subnet of one port: an answer that loses its place for a table, one that comes twice, and one that keeps data.
use Rattle.std.proofs.Common.{◌≡◌, ℕ, ◌==◌, true, false, List, [], ◌∷◌, ap, refl, None, nat_eq, arith, length, replicate}
use Rattle.std.specs.Int.Digits.{AllBelowBase}
use Rattle.std.proofs.lemmas.Bool.{false≢true}
use Rattle.std.proofs.lemmas.List.Elements.{All-from_recursion}
use Rattle.std.proofs.lemmas.Map.Keys.{IsDistinct-cons}
use Rattle.step_results.proofs.ListLemmas.{IsDistinct-nil}
use Rattle.mad_layout.specs.Bits.{field, number, put_field}
use Rattle.rmpp_core.specs.Reply.{reply_bytes}
use Rattle.pkey_rules.specs.KeyTable.{same_base}
use Rattle.subnet_model.specs.Configuration.{ConfigurationState}
use Rattle.subnet_model.specs.Configured.{HoldsKnownKeys, IsConfigured, same_guid}
use Rattle.subnet_model.specs.Examples.{adapter}
use Rattle.sa_replies.specs.Answer.{Answered}
use Rattle.sa_replies.specs.Examples.{asking, header_of}
use Rattle.sa_replies.specs.Reply.{no_rmpp}
use Rattle.sa_replies.specs.Request.{request_in}
use Rattle.sa_replies.specs.State.{at_start}
use Rattle.sa_replies.specs.WrongRules.{KeysAreNotSentBack, LostPlacesAreMissed, OthersAreAnswered, RefusalsKeepNoData, TwiceIsNotOnce}
use Rattle.rmpp_core.proofs.ReadBackLemmas.{reply_below}
use Rattle.sa_replies.proofs.OpenTableLemmas.{starts_are_states}

abbrev pub alone : ConfigurationState
alone = record { ports = adapter 1 0x101 (0xffff ∷ []) ∷ []; partitions = record { base = 0x7fff; name = []; group = None } ∷ [] }

pub is_configured : IsConfigured alone
is_configured = record {
  own_guids = IsDistinct-cons same_guid (adapter 1 0x101 (0xffff ∷ [])) [] tt (IsDistinct-nil same_guid);
  lids = refl;
  few = omega arith;
  keys = All-from_recursion (HoldsKnownKeys alone.partitions) alone.ports
      (record { once = IsDistinct-cons same_base 0xffff [] tt (IsDistinct-nil same_base); known = refl; few = omega arith }, tt);
  headings = record {
    bases = record { room = omega arith; distinct = IsDistinct-cons nat_eq 0x7fff [] tt (IsDistinct-nil nat_eq); valid = refl; first = refl };
    groups = refl;
  };
}

pub lost_places_are_missed : LostPlacesAreMissed
lost_places_are_missed law =
    let kept = (law alone (adapter 1 0x101 (0xffff ∷ [])) [] (at_start alone) is_configured refl (starts_are_states alone is_configured)).places in
    let none : 0 ≡ 1 = ap (λ (guids : List ℕ). length guids) kept in
    absurd (cc)

-- ---- a request by a method that is not ours, with some data
unknown_wanted : List ℕ
unknown_wanted = asking (header_of 0x13 6 0) no_rmpp 0 (1 ∷ [])

unknown_below : AllBelowBase 256 unknown_wanted
unfolding unknown_wanted
unknown_below = reply_below _ _ _

pub twice_is_not_once : TwiceIsNotOnce
unfolding unknown_wanted field put_field reply_bytes request_in
twice_is_not_once law =
    law alone (adapter 1 0x101 (0xffff ∷ [])) unknown_wanted (at_start alone) is_configured refl (starts_are_states alone is_configured) unknown_below refl

pub refusals_keep_no_data : RefusalsKeepNoData
unfolding unknown_wanted field put_field reply_bytes request_in
refusals_keep_no_data law =
    let one = law alone (adapter 1 0x101 (0xffff ∷ [])) unknown_wanted (at_start alone) is_configured refl (starts_are_states alone is_configured) unknown_below refl in
    let zeros : false ≡ true = ap (λ bytes. number bytes == 0) (one.no_data refl) in
    absurd (cc)

-- such a request with a key
abbrev keyed : List ℕ
keyed =
    reply_bytes (header_of 0x13 6 0) no_rmpp (record { sm_key = 5; attribute_offset = 0; component_mask = 0; «data» = replicate 200 0 })

keyed_below : AllBelowBase 256 keyed
keyed_below = reply_below _ _ _

pub keys_are_not_sent_back : KeysAreNotSentBack
unfolding field put_field reply_bytes request_in
keys_are_not_sent_back law =
    let one = law alone (adapter 1 0x101 (0xffff ∷ [])) keyed (at_start alone) is_configured refl (starts_are_states alone is_configured) keyed_below refl in
    let key : false ≡ true = ap (λ (n : ℕ). n == 0) one.sm_key in
    absurd (cc)

-- what is no MAD, for one
pub others_are_answered : OthersAreAnswered
unfolding request_in field
others_are_answered law =
    false≢true (ap (λ (answered : Answered). length answered.0 == 0) (law alone.ports (adapter 1 0x101 (0xffff ∷ [])) [] (at_start alone) refl refl))
