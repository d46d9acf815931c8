-- Files that agree on the names that are asked for.
use Rattle.std.proofs.Common.{ℕ, ◌≡◌, List, [], ◌∷◌, ◌++◌, Option, Some, None, Result, Ok, Err, ap, refl}
use Rattle.std.specs.List.{All}
use Rattle.std.specs.Option.{option_to_list}
use Rattle.std.proofs.lemmas.List.Elements.{All-head, All-tail}
use Rattle.cli_args.specs.Words.{Names, work_names}
use Rattle.cli_args.specs.declared.call.Call.TheVariants.{AuditKeys, AuditThree, Dumped, Explain, Import, Subnet, Version}
use Rattle.cli_args.specs.declared.call.Work.{Work}
use Rattle.cli_args.specs.declared.call.Work.TheVariants as work
use Rattle.fabric_cli.specs.Files.{Contents}
use Rattle.fabric_cli.specs.Laws.{FilesThatAgreeAreJudgedAlike}
use Rattle.fabric_cli.specs.Serving.{Ending, bytes_if_named, bytes_of, ended, import_of_file, judged_if_read, opened_bytes, texts_of, work_of}
use Rattle.step_results.specs.Steps.{◌>>=◌}

module _ (file other : Contents) where
  abbrev agree : List (List ℕ) → Type 0
  agree names = All (λ name. file name ≡ other name) names

  bytes_alike : (name : List ℕ) → file name ≡ other name → bytes_of file name ≡ bytes_of other name
  bytes_alike name same = ap (opened_bytes name) same

  -- the first of these, if there is one, and the rest
  named_alike : (name : Option (List ℕ)) (more : List (List ℕ)) → agree (option_to_list name ++ more)
      → (bytes_if_named file name ≡ bytes_if_named other name) × agree more
  named_alike None more same = (refl, same)
  named_alike (Some name) more same = (
    ap (λ (read : Result (List ℕ) Ending). read >>= λ bytes. Ok (Some bytes)) (bytes_alike name (All-head (λ one. file one ≡ other one) name more same)),
    All-tail (λ one. file one ≡ other one) name more same,
  )

  partitions_alike : (name : Option (List ℕ)) → agree (option_to_list name) → bytes_if_named file name ≡ bytes_if_named other name
  partitions_alike None same = refl
  partitions_alike (Some name) same =
      ap (λ (read : Result (List ℕ) Ending). read >>= λ bytes. Ok (Some bytes)) (bytes_alike name (All-head (λ one. file one ≡ other one) name [] same))

  work_alike : (asked : Work (List ℕ) (List ℕ) (List ℕ)) → agree (work_names asked) → work_of file asked ≡ work_of other asked
  work_alike (work.Check balanced) same = refl
  work_alike (work.Shares port) same = refl
  work_alike (work.Diff None) same = refl
  work_alike (work.Diff (Some name)) same = rw (bytes_alike name (All-head (λ one. file one ≡ other one) name [] same)) refl
  work_alike (work.Inspect what None balanced) same = refl
  work_alike (work.Inspect what (Some name) balanced) same = rw (bytes_alike name (All-head (λ one. file one ≡ other one) name [] same)) refl
  work_alike (work.Cuts view balanced) same = refl
  work_alike (work.Run name) same = rw (bytes_alike name (All-head (λ one. file one ≡ other one) name [] same)) refl
  work_alike (work.Smps script name) same =
      let more = named_alike script (name ∷ []) same in
      rw (more.0, bytes_alike name (All-head (λ one. file one ≡ other one) name [] more.1)) refl
  work_alike (work.Manage name balanced) same = rw (bytes_alike name (All-head (λ one. file one ≡ other one) name [] same)) refl
  work_alike (work.Compare first second port) same =
      let more = All-tail (λ one. file one ≡ other one) first (second ∷ []) same in
      rw (
        bytes_alike first (All-head (λ one. file one ≡ other one) first (second ∷ []) same),
        bytes_alike second (All-head (λ one. file one ≡ other one) second [] more),
      ) refl

  texts_alike : (names : Names) → agree (names.topology ∷ (option_to_list names.partitions ++ work_names names.work))
      → texts_of file names ≡ texts_of other names
  texts_alike names same =
      let partitions = named_alike names.partitions (work_names names.work) (All-tail (λ one. file one ≡ other one) names.topology _ same) in
      rw (bytes_alike names.topology (All-head (λ one. file one ≡ other one) names.topology _ same), partitions.0, work_alike names.work partitions.1) refl

pub judged_alike : FilesThatAgreeAreJudgedAlike
judged_alike file other (Err shown) same = refl
judged_alike file other (Ok (Subnet names)) same = ap judged_if_read (texts_alike file other names same)
judged_alike file other (Ok (Import netdiscover manager roots)) same =
    ap (λ (read : Result (List ℕ) Ending). ended (import_of_file manager roots read))
    (bytes_alike file other netdiscover (All-head (λ name. file name ≡ other name) netdiscover [] same))
judged_alike file other (Ok (Dumped view topology dump)) same =
    let more = All-tail (λ name. file name ≡ other name) topology (dump ∷ []) same in
    rw (
      bytes_alike file other topology (All-head (λ name. file name ≡ other name) topology (dump ∷ []) same),
      bytes_alike file other dump (All-head (λ name. file name ≡ other name) dump [] more),
    ) refl
judged_alike file other (Ok (AuditThree third topology dump name)) same =
    let more = All-tail (λ name. file name ≡ other name) topology (dump ∷ name ∷ []) same in
    let last = All-tail (λ name. file name ≡ other name) dump (name ∷ []) more in
    rw (
      bytes_alike file other topology (All-head (λ name. file name ≡ other name) topology (dump ∷ name ∷ []) same),
      bytes_alike file other dump (All-head (λ name. file name ≡ other name) dump (name ∷ []) more),
      bytes_alike file other name (All-head (λ name. file name ≡ other name) name [] last),
    ) refl
judged_alike file other (Ok (AuditKeys netdiscover pkeys partitions manager all)) same =
    let more = All-tail (λ name. file name ≡ other name) netdiscover (pkeys ∷ option_to_list partitions) same in
    let last : All (λ name. file name ≡ other name) (option_to_list partitions) = All-tail (λ name. file name ≡ other name) pkeys (option_to_list partitions) more in
    rw (
      bytes_alike file other netdiscover (All-head (λ name. file name ≡ other name) netdiscover (pkeys ∷ option_to_list partitions) same),
      bytes_alike file other pkeys (All-head (λ name. file name ≡ other name) pkeys (option_to_list partitions) more),
      partitions_alike file other partitions last,
    ) refl
judged_alike file other (Ok (Explain code)) same = refl
judged_alike file other (Ok Version) same = refl
