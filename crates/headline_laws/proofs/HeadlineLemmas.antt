-- The headline holds of our rule, and is what `run` promises.
use Rattle.std.proofs.Common.{ℕ, ◌≡◌, ◌==◌, ◌∙◌, Bool, true, false, List, [], ◌∷◌, ◌++◌, filter, ap, refl, subst, sym}
use Rattle.std.proofs.lemmas.Bool.{and_from, and_parts, eqb-true}
use Rattle.std.specs.List.{AllByRecursion, list_all}
use Rattle.headline_laws.proofs.NamedStepLemmas.{steps_name_sources}
use Rattle.headline_laws.specs.Headline.{OursKeepsApart, RunsReportApart, ScriptsAreKeptApart, run_by}
use Rattle.sa_replies.proofs.ApartLemmas.{runs_are_isolated}
use Rattle.sa_replies.proofs.NamedRunLemmas.{runs_name_sources}
use Rattle.sa_replies.proofs.RunDataLemmas.{data_of_runs_is_noted}
use Rattle.sa_replies.proofs.RunSourceLemmas.{notes_stand_beside_runs, records_come_from_near}
use Rattle.sa_replies.specs.Administration.{subnet_administration}
use Rattle.sa_replies.specs.RunData.{CarriesBytes}
use Rattle.sa_replies.specs.RunSources.{NotedEvent, noted_after, noted_in, noted_report, noted_step}
use Rattle.sa_replies.specs.Sources.{bytes_from_near}
use Rattle.subnet_fabric.proofs.LidLemmas.{own_lids}
use Rattle.subnet_fabric.specs.Ports.{configuration_of}
use Rattle.subnet_core.proofs.CarryLemmas.{commands_carry_bytes}
use Rattle.subnet_model.proofs.IsolationLemmas.{slids_name_their_ports}
use Rattle.subnet_model.specs.Configuration.{ConfigurationState}
use Rattle.subnet_model.specs.Isolation.{IsIsolated}
use Rattle.subnet_model.specs.Near.{is_near}
use Rattle.subnet_model.specs.Report.{report_by}
use Rattle.subnet_model.specs.Restriction.{commands_of, events_at}
use Rattle.subnet_model.specs.declared.command.Command.{Command}

-- what passes a test is kept, and what all have those that are kept have
kept_have : {X : Type 0} (kept all some : X → Bool) → ((x : X) → kept x ≡ true → all x ≡ true → some x ≡ true) → (xs : List X) → list_all all xs ≡ true
    → list_all some (filter kept xs) ≡ true
kept_have kept all some so [] have = refl
kept_have kept all some so (x ∷ xs) have =
    let parts = and_parts (all x) (list_all all xs) have in by (kept x) refl parts.0 (kept_have kept all some so xs parts.1)
  where
    by : (b : Bool) → kept x ≡ b → all x ≡ true → list_all some (filter kept xs) ≡ true → list_all some (filter kept (x ∷ xs)) ≡ true
    by true is has later = rw is (and_from (some x) (list_all some (filter kept xs)) (so x is has) later)
    by false is has later = rw is later

-- what every command has, the one between others has
of_one : (P : Command → Type 0) (before after commands : List Command) (command : Command) → before ++ (command ∷ after) ≡ commands → AllByRecursion P commands → P command
of_one P before after commands command parts all = here before (subst (AllByRecursion P) (sym parts) all)
  where
    here : (some : List Command) → AllByRecursion P (some ++ (command ∷ after)) → P command
    here [] have = have.0
    here (one ∷ some) have = here some have.1

module _ (configuration : ConfigurationState) where
  same_run : (commands : List Command) → run_by noted_step configuration commands ≡ report_by subnet_administration configuration commands
  same_run commands = (notes_stand_beside_runs configuration commands).events

  near_at : (commands : List Command) (p : ℕ)
      → list_all (λ one. bytes_from_near configuration.ports p (noted_in one.noted)) (filter (λ one. one.event.port_guid == p) (noted_report configuration commands)) ≡ true
  near_at commands p =
      kept_have (λ (one : NotedEvent). one.event.port_guid == p) (λ (one : NotedEvent). bytes_from_near configuration.ports one.event.port_guid (noted_in one.noted))
      (λ (one : NotedEvent). bytes_from_near configuration.ports p (noted_in one.noted))
      (λ one is has. ap (λ (guid : ℕ). bytes_from_near configuration.ports guid (noted_in one.noted)) (sym (eqb-true one.event.port_guid p is)) ∙ has)
      (noted_report configuration commands) (records_come_from_near configuration commands).events

pub our_steps_keep_apart : OursKeepsApart
our_steps_keep_apart configuration commands p configured carry =
    let isolated = subst (IsIsolated subnet_administration configuration commands) (sym (same_run configuration commands)) (runs_are_isolated configuration commands) p in
    record {
      beside = refl;
      depends = isolated.0 ∙ ap (events_at p) (sym (same_run configuration (commands_of (is_near configuration.ports p) commands)));
      from = slids_name_their_ports configuration.ports p (run_by noted_step configuration commands) (own_lids 1 configuration.ports configured.lids) isolated.1;
      whole = λ before after command parts. data_of_runs_is_noted configuration before command configured (of_one CarriesBytes before after commands command parts carry);
      near = near_at configuration commands p;
      named = λ before after command parts. steps_name_sources configuration (noted_after configuration before) command;
    }

pub scripts_are_kept_apart : ScriptsAreKeptApart
scripts_are_kept_apart step partitions plan script commands p keeps configured given =
    keeps (configuration_of partitions plan) commands p configured (commands_carry_bytes plan script commands given)

pub runs_report_apart : RunsReportApart
runs_report_apart topology partitions script events = (
  λ reports plan all commands reads given gives p.
      let configuration = configuration_of all plan in
      let apart = reports plan all commands reads given gives p in
      let near = commands_of (is_near configuration.ports p) commands in (
        apart.depends ∙ ap (events_at p) (same_run configuration near),
        apart.from,
        record { beside = apart.beside; whole = apart.whole; near = apart.near; named = runs_name_sources configuration commands },
      ),
  λ promised plan all commands reads given gives p.
      let configuration = configuration_of all plan in
      let apart = promised plan all commands reads given gives p in
      let near = commands_of (is_near configuration.ports p) commands in
      record {
        beside = apart.2.beside;
        depends = apart.0 ∙ ap (events_at p) (sym (same_run configuration near));
        from = apart.1;
        whole = apart.2.whole;
        near = apart.2.near;
        named = λ before after command parts. steps_name_sources configuration (noted_after configuration before) command;
      },
)
