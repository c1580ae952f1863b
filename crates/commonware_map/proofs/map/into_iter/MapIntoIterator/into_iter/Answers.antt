use Rattle.std.proofs.Common.{length, ap, ◌∙◌, arith}
use Rattle.std.proofs.lemmas.Map.Entries.{length-values_of}
use Rattle.std.specs.List.{zip}
use Rattle.commonware_map.proofs.Columns.{zip-parts}
use Rattle.commonware_map.proofs.Stepped.{given_in_order, given_in_reverse}
use Rattle.commonware_map.proofs.map.into_iter.MapIntoIterator.into_iter.Goals as goal

pub returns : goal.returns
returns g c =
    let columns = c.into_columns-keys.ensures in
    let values = c.into_columns-keys.result.1 in
    record {
      into_iter_gives = (
        c.new.ensures ∙ (λ j. zip ((c.into.ensures ∙ columns.0) j) (columns.1 j)) ∙ zip-parts c.args.self,
        omega (arith, ap length columns.1, length-values_of c.args.self, values.ok.0, values.small),
        given_in_order,
        given_in_reverse,
      );
    }
