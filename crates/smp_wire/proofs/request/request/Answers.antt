use Rattle.std.proofs.Common.{refl}
use Rattle.smp_wire.proofs.RequestLemmas.{Asked, asks_for, plain_is}
use Rattle.smp_wire.proofs.request.request.Goals as goal

pub returns-clause-asks : goal.returns-clause-asks
returns-clause-asks c =
    let asked : Asked = record {
      by = c.args.method;
      transaction_id = c.args.transaction_id;
      attribute = c.args.attribute;
      modifier = c.args.modifier;
      path = c.args.path.now;
      wanted = c.args.wanted;
    } in
    asks_for {asked = asked} (record {
      first = c.write.ensures.fields;
      second = c.write-2.ensures.fields;
      initial = c.write-2.ensures.initial_path;
      long = c.write-2.array_long;
      below = c.known_bytes.ensures;
      few = c.requires.method;
      header_is = record {
        base = refl;
        class = refl;
        version = refl;
        method = c.code.ensures;
        transaction = refl;
        attribute_is = c.code-2.ensures;
        modifier_is = refl;
      };
      route_is = record {
        out = refl;
        status = refl;
        at_start = refl;
        hops = refl;
        few = c.requires.path;
        key = refl;
        begins = refl;
        ends = refl;
        carried = refl;
        along = c.initial_path.ensures;
        back = refl;
      };
    })

pub returns-clause-plain : goal.returns-clause-plain
returns-clause-plain c =
    let asked : Asked = record {
      by = c.args.method;
      transaction_id = c.args.transaction_id;
      attribute = c.args.attribute;
      modifier = c.args.modifier;
      path = c.args.path.now;
      wanted = c.args.wanted;
    } in
    plain_is {asked = asked} (record {
      first = c.write.ensures.fields;
      second = c.write-2.ensures.fields;
      initial = c.write-2.ensures.initial_path;
      long = c.write-2.array_long;
      below = c.known_bytes.ensures;
      few = c.requires.method;
      header_is = record {
        base = refl;
        class = refl;
        version = refl;
        method = c.code.ensures;
        transaction = refl;
        attribute_is = c.code-2.ensures;
        modifier_is = refl;
      };
      route_is = record {
        out = refl;
        status = refl;
        at_start = refl;
        hops = refl;
        few = c.requires.path;
        key = refl;
        begins = refl;
        ends = refl;
        carried = refl;
        along = c.initial_path.ensures;
        back = refl;
      };
    })

pub returns-clause-carried : goal.returns-clause-carried
returns-clause-carried c = c.write-2.ensures.«data»
