use Rattle.updn_routes.proofs.NumberLemmas.{legal_numbers, legal_short}
use Rattle.updn_routes.proofs.RouteLemmas.{arrives, none_legal, route_legal, route_walks}
use Rattle.updn_routes.proofs.laws.choices_lead_home.Goals as goal

pub returns : goal.returns
returns c = λ rows before pick next d cabling order chosen s less away.
    record {
      arrives = λ port picked.
          let home = arrives rows before pick next d cabling chosen s port less away picked in
          let walk = route_walks rows next s home.0 d home.1 in
          let legal = route_legal rows before pick next d cabling chosen s home.0 less home.1 in (
            home.0,
            record {
              route = home.1;
              legal = legal;
              rising = (legal_numbers rows before cabling order s d home.0 less walk legal).rising;
              short = legal_short rows before cabling order s d home.0 less walk legal;
            },
          );
      none = λ gone steps. none_legal rows before pick next d cabling chosen s steps less away gone;
    }
