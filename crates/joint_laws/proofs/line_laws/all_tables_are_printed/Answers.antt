use Rattle.joint_laws.proofs.TableLemmas.{all_tables_are_printed}
use Rattle.joint_laws.proofs.line_laws.all_tables_are_printed.Goals as goal

pub returns : goal.returns
returns c = all_tables_are_printed
