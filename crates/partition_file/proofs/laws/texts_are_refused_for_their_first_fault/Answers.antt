use Rattle.std.proofs.Common.{false}
use Rattle.partition_file.proofs.LawLemmas.{clean_throughout, comments_by_beginning, inside_refuses, end_refuses, only_so_refused}
use Rattle.partition_file.proofs.laws.texts_are_refused_for_their_first_fault.Goals as goal

pub returns-clause-inside : goal.returns-clause-inside
returns-clause-inside c = inside_refuses

pub returns-clause-end : goal.returns-clause-end
returns-clause-end c = end_refuses

pub returns-clause-only : goal.returns-clause-only
returns-clause-only c = only_so_refused

pub returns-clause-clean : goal.returns-clause-clean
returns-clause-clean c = clean_throughout

pub returns-clause-comments : goal.returns-clause-comments
returns-clause-comments c = λ text n. comments_by_beginning text n false
