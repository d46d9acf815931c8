use Rattle.sa_replies.proofs.TableLemmas.{runs_show_in_order}
use Rattle.sa_replies.proofs.run_laws.runs_show_in_order.Goals as goal

pub returns : goal.returns
returns c = runs_show_in_order
