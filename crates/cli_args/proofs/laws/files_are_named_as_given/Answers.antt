use Rattle.cli_args.proofs.NameLemmas.{blanks_are_kept, files_are_given, files_stand_in_order}
use Rattle.cli_args.proofs.laws.files_are_named_as_given.Goals as goal

pub returns-clause-words : goal.returns-clause-words
returns-clause-words c = files_are_given

pub returns-clause-blanks : goal.returns-clause-blanks
returns-clause-blanks c = blanks_are_kept

pub returns-clause-order : goal.returns-clause-order
returns-clause-order c = files_stand_in_order
