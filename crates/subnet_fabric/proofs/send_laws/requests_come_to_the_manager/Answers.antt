use Rattle.subnet_fabric.proofs.ReplyLemmas.{requests_come_to_the_manager}
use Rattle.subnet_fabric.proofs.send_laws.requests_come_to_the_manager.Goals as goal

pub returns : goal.returns
returns c = requests_come_to_the_manager
