-- Subnet administration, as it answers the ports of a subnet (IBA volume 1, chapter 15).
use Rattle.subnet_model.specs.Administrator.{Administrator}
use Rattle.sa_model.specs.Delivery.{is_receiver_of}
use Rattle.sa_replies.specs.Answer.{Administration, answer}
use Rattle.sa_replies.specs.State.{at_start}
use Rattle.sa_replies.specs.Asking.{acknowledgements}

abbrev pub subnet_administration : Administrator Administration
subnet_administration = record {
  begins = at_start;
  answer = λ configuration own mad state. answer configuration.ports own mad state;
  acknowledgements = acknowledgements;
  receives = λ state mlid guid. is_receiver_of state.remembered.partitions mlid guid;
}
