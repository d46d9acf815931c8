-- Subnet administration keeps ports apart, and so do runs in which it answers.
use Rattle.std.proofs.Common.{ℕ, true, List, ◌≡◌, ap}
use Rattle.std.proofs.lemmas.Bool.{and_from, and_parts}
use Rattle.subnet_model.proofs.IsolationLemmas.{keepers_isolate}
use Rattle.subnet_model.specs.Configuration.{ConfigurationState}
use Rattle.subnet_model.specs.declared.subnet_port.SubnetPort.{SubnetPort}
use Rattle.subnet_model.specs.Laws.{Isolated}
use Rattle.subnet_model.specs.Isolation.{Alike}
use Rattle.sa_model.proofs.DeliveryLemmas.{receives_alike}
use Rattle.sa_model.proofs.SoundLemmas.{start_sound as groups_start_sound}
use Rattle.sa_model.specs.Groups.{start_of}
use Rattle.sa_model.specs.Sound.{is_sound}
use Rattle.sa_model.proofs.ServiceSoundLemmas.{start_sound}
use Rattle.sa_model.specs.Services.{no_services}
use Rattle.sa_model.specs.ServiceSight.{services_near}
use Rattle.sa_model.specs.ServiceSound.{are_sound_services}
use Rattle.sa_replies.proofs.AlikeLemmas.{requesters_alike}
use Rattle.sa_replies.proofs.OtherLemmas.{answers_alike}
use Rattle.sa_replies.proofs.SightLemmas.{answers_keep_sound, far_requests}
use Rattle.sa_replies.specs.Answer.{Administration, answer}
use Rattle.sa_replies.specs.Laws.{IsSound, SeesAlike}
use Rattle.sa_replies.proofs.AckLemmas.{acknowledged_unseen}
use Rattle.sa_replies.specs.Administration.{subnet_administration}
use Rattle.sa_replies.specs.RunLaws.{AdministrationKeepsApart, RunsAreIsolated, RunsStaySound}
use Rattle.sa_replies.specs.RunSight.{Seen, is_sound_state, sees}

-- ---- what a port sees, as one value and in its parts
pub sound_parts : (configuration : ConfigurationState) (s : Administration) → is_sound_state configuration s ≡ true → IsSound configuration.ports s
sound_parts configuration s sound =
    let parts = and_parts (is_sound configuration.ports s.remembered.partitions) (are_sound_services configuration.ports s.remembered.services) sound in
    record { groups = parts.0; services = parts.1 }

sound_whole : (configuration : ConfigurationState) (s : Administration) → IsSound configuration.ports s → is_sound_state configuration s ≡ true
sound_whole configuration s sound =
    and_from (is_sound configuration.ports s.remembered.partitions) (are_sound_services configuration.ports s.remembered.services) sound.groups sound.services

pub seen_parts : (configuration : ConfigurationState) (p : ℕ) (s t : Administration) → sees configuration p s ≡ sees configuration p t → SeesAlike services_near configuration.ports p s t
seen_parts configuration p s t same = record {
  remembered = record { groups = ap (λ (seen : Seen). seen.groups) same; services = ap (λ (seen : Seen). seen.services) same };
  own_table = ap (λ (seen : Seen). seen.own_table) same;
}

seen_whole : (configuration : ConfigurationState) (p : ℕ) (s t : Administration) → SeesAlike services_near configuration.ports p s t → sees configuration p s ≡ sees configuration p t
seen_whole configuration p s t alike = λ place. record {
  groups = alike.remembered.groups place;
  services = alike.remembered.services place;
  own_table = alike.own_table place;
}

-- ---- the law
pub administration_keeps_apart : AdministrationKeepsApart
administration_keeps_apart configuration = record {
  sound = record {
    begins = and_from (is_sound configuration.ports (start_of configuration)) (are_sound_services configuration.ports (no_services configuration.ports))
        (groups_start_sound configuration.ports configuration) (start_sound configuration.ports);
    stays = λ own mad s sound. stays own mad s sound;
  };
  unseen = record {
    sent = λ p own mad s far sound.
        seen_whole configuration p (answer configuration.ports own mad s).1 s (far_requests configuration.ports p own mad s far (sound_parts configuration s sound).groups);
    acknowledged = λ p own mads s other sound. seen_whole configuration p _ s (acknowledged_unseen configuration p own mads s other);
  };
  alike = record {
    replies = λ own mad s t found alike.
        (requesters_alike.near configuration.ports own mad s t found (left own.guid s t alike).groups (right own.guid s t alike).groups
        (seen_parts configuration own.guid s t alike.same)).mads;
    after = λ p own mad s t found alike.
        seen_whole configuration p (answer configuration.ports own mad s).1 (answer configuration.ports own mad t).1
        (answers_alike.near configuration.ports p own mad s t found (left p s t alike).groups (right p s t alike).groups (seen_parts configuration p s t alike.same));
    groups = λ p mlid s t alike.
        receives_alike configuration.ports p mlid s.remembered.partitions t.remembered.partitions
        (record {
          left_sound = (left p s t alike).groups;
          right_sound = (right p s t alike).groups;
          same = (seen_parts configuration p s t alike.same).remembered.groups;
        });
  };
}
  where
    stays : (own : SubnetPort) (mad : List ℕ) (s : Administration) → is_sound_state configuration s ≡ true → is_sound_state configuration (answer configuration.ports own mad s).1 ≡ true
    stays own mad s sound =
        sound_whole configuration (answer configuration.ports own mad s).1 (answers_keep_sound configuration.ports own mad s (sound_parts configuration s sound))

    left : (p : ℕ) (s t : Administration) → Alike (is_sound_state configuration) (sees configuration) p s t → IsSound configuration.ports s
    left p s t alike = sound_parts configuration s alike.left_sound

    right : (p : ℕ) (s t : Administration) → Alike (is_sound_state configuration) (sees configuration) p s t → IsSound configuration.ports t
    right p s t alike = sound_parts configuration t alike.right_sound

pub isolated : (configuration : ConfigurationState) → Isolated configuration subnet_administration (is_sound_state configuration) (sees configuration)
isolated configuration =
    keepers_isolate configuration subnet_administration (is_sound_state configuration) (sees configuration) (administration_keeps_apart configuration)

pub runs_are_isolated : RunsAreIsolated
runs_are_isolated configuration commands = (isolated configuration).runs commands

pub runs_stay_sound : RunsStaySound
runs_stay_sound configuration commands = ((isolated configuration).states 0 commands).left_sound
