-- Answers keep what is remembered sound, and no port sees what a port far from it asked.
use Rattle.std.proofs.Common.{ℕ, true, false, not, ◌==◌, ◌&&◌, List, [], ◌∷◌, Option, length, bit_and}
use Rattle.std.proofs.Common.{◌≡◌, ◌∙◌, ap, refl, inl, inr}
use Rattle.std.proofs.lemmas.Bool.{cases_Bool, or_parts, eqb-true}
use Rattle.mad_layout.specs.Bits.{field}
use Rattle.rmpp_core.specs.Segments.{Transfer}
use Rattle.subnet_model.specs.declared.subnet_port.SubnetPort.{SubnetPort}
use Rattle.subnet_model.specs.Near.{is_near, ports_share}
use Rattle.sa_model.proofs.JoinSoundLemmas.{joined_sound}
use Rattle.sa_model.proofs.LeaveSoundLemmas.{left_sound}
use Rattle.sa_model.proofs.JoinSightLemmas.{far_join}
use Rattle.sa_model.proofs.SightLemmas.{far_leave}
use Rattle.sa_model.specs.ServiceSight.{services_near}
use Rattle.sa_model.proofs.ServiceLemmas.{far_not_near}
use Rattle.sa_model.proofs.ServiceSoundLemmas.{services_stay_sound}
use Rattle.sa_replies.specs.Request.{Request, request_in, has_versions}
use Rattle.sa_replies.specs.Transfers.{PortTransfer, with_table, table_place, table_of, on_rmpp}
use Rattle.sa_replies.specs.Answer.{Administration, version_refused, answer_to, answer}
use Rattle.sa_replies.specs.Laws.{IsSound, AnswersKeepSound, SeesAlike, FarRequestsAreNotSeen}
use Rattle.sa_replies.proofs.AnswerLemmas.{answer_leaves, second_if}

pub answers_keep_sound : AnswersKeepSound
answers_keep_sound ports own payload state sound =
    answer_leaves (IsSound ports) ports own payload state (λ table. record { groups = sound.groups; services = sound.services }) sound
    (record {
      same = record { groups = sound.groups; services = sound.services };
      joins = λ join e. record { groups = joined_sound ports join state.remembered.partitions sound.groups; services = sound.services };
      leaves = λ leave e. record { groups = left_sound ports leave state.remembered.partitions sound.groups; services = sound.services };
      changes = λ change e. record { groups = sound.groups; services = services_stay_sound ports state.remembered.services change sound.services };
    })

-- ---- the table of another port
pub other_table : (p q : ℕ) (table : Option Transfer) (transfers : List PortTransfer) → (q == p) ≡ false
    → table_place p (with_table q table transfers) ≡ table_place p transfers
other_table p q table [] other = refl
other_table p q table (x ∷ xs) other = elim (cases_Bool (x.port == q)) [
  | inl this ↦
      let same : (x.port == p) ≡ false = ap (λ port. port == p) (eqb-true x.port q this) ∙ other in
      rw (this, other, same) (other_table p q table xs other)
  | inr not_this ↦ elim (cases_Bool (x.port == p)) [
    | inl found ↦ rw (not_this, found) refl
    | inr passed ↦ rw (not_this, passed) (other_table p q table xs other)
  ]
]

pub far_requests : FarRequestsAreNotSeen
far_requests ports p own payload state far sound =
    answer_leaves (λ next. SeesAlike services_near ports p next state) ports own payload state
    (λ table. record {
      remembered = record { groups = refl; services = refl };
      own_table = other_table p own.guid table state.transfers (or_parts (own.guid == p) (ports_share ports p own.guid) far).0;
    })
    (record { remembered = record { groups = refl; services = refl }; own_table = refl })
    (record {
      same = record { remembered = record { groups = refl; services = refl }; own_table = refl };
      joins = λ join e. record {
        remembered = record {
          groups = (far_join ports p join state.remembered.partitions state.remembered.partitions (ap (is_near ports p) e ∙ far)
              (record { left_sound = sound; right_sound = sound; same = refl })).same;
          services = refl;
        };
        own_table = refl;
      };
      leaves = λ leave e. record {
        remembered = record {
          groups = (far_leave ports p leave state.remembered.partitions state.remembered.partitions (ap (is_near ports p) e ∙ far)
              (record { left_sound = sound; right_sound = sound; same = refl })).same;
          services = refl;
        };
        own_table = refl;
      };
      changes = λ change e. record {
        remembered = record { groups = refl; services = far_not_near ports p state.remembered.services change (ap (is_near ports p) e ∙ far) };
        own_table = refl;
      };
    })

-- a MAD of a transfer is seen by its sender alone
pub transfers_are_unseen : (ports : List SubnetPort) (p : ℕ) (own : SubnetPort) (payload : List ℕ) (state : Administration) → (own.guid == p) ≡ false
    → (bit_and (request_in payload).rmpp.flags 1 == 1) ≡ true → SeesAlike services_near ports p (answer ports own payload state).1 state
transfers_are_unseen ports p own payload state other active =
    second_if Seen ((length payload == 256) && (field payload 8 8 == 3)) (answer_to ports own request state) ([], state)
    (second_if Seen (not (has_versions request.header)) (version_refused request, state) _ same
    (rw active (record {
      remembered = record { groups = refl; services = refl };
      own_table = other_table p own.guid (on_rmpp request (table_of own.guid state.transfers)).1 state.transfers other;
    })))
    same
  where
    request : Request
    request = request_in payload

    Seen : Administration → Type 0
    Seen next = SeesAlike services_near ports p next state

    same : SeesAlike services_near ports p state state
    same = record { remembered = record { groups = refl; services = refl }; own_table = refl }
