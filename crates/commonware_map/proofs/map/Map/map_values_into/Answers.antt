use Rattle.std.proofs.Common.{length, ap, subst, sym, ◌∙◌}
use Rattle.std.specs.List.{zip}
use Rattle.std.proofs.lemmas.Map.Entries.{length-keys_of}
use Rattle.commonware_base.specs.Calls.{CallableAlong, CallsGiveAll}
use Rattle.commonware_map.proofs.Columns.{zip-parts}
use Rattle.commonware_map.specs.ValueMaps.{CalledAtPair, TakesPair}
use Rattle.commonware_map.proofs.Calls.{as_many, keys_are, values_are}
use Rattle.commonware_map.proofs.map.Map.map_values_into.Goals as goal

pub called_values-requires-clause-callable : goal.called_values-requires-clause-callable
called_values-requires-clause-callable g c =
    let columns = c.into_columns-keys.ensures in
    let pairs = (λ j. zip ((c.as_slice.ensures.items ∙ columns.0) j) (columns.1 j)) ∙ zip-parts c.args.self in
    subst (CallableAlong (CalledAtPair g.F.FnMut) (TakesPair g.F.FnMut) c.args.f) (sym pairs) c.requires

pub from_columns-requires : goal.from_columns-requires
from_columns-requires g c =
    let columns = c.into_columns-keys.ensures in
    let pairs = (λ j. zip ((c.as_slice.ensures.items ∙ columns.0) j) (columns.1 j)) ∙ zip-parts c.args.self in
    let all = subst (λ es. CallsGiveAll (CalledAtPair g.F.FnMut) c.args.f es c.in_ok-mapped.mapped.items) pairs c.in_ok-mapped.ensures.called in
    as_many (CalledAtPair g.F.FnMut) _ _ _ _ all (ap length columns.0 ∙ length-keys_of c.args.self)

pub returns-clause-keys : goal.returns-clause-keys
returns-clause-keys g c =
    let columns = c.into_columns-keys.ensures in
    let pairs = (λ j. zip ((c.as_slice.ensures.items ∙ columns.0) j) (columns.1 j)) ∙ zip-parts c.args.self in
    let all = subst (λ es. CallsGiveAll (CalledAtPair g.F.FnMut) c.args.f es c.in_ok-mapped.mapped.items) pairs c.in_ok-mapped.ensures.called in
    keys_are (CalledAtPair g.F.FnMut) _ _ _ _ all (ap length columns.0 ∙ length-keys_of c.args.self) _ c.from_columns.ensures ∙ columns.0

pub returns-clause-values : goal.returns-clause-values
returns-clause-values g c =
    let columns = c.into_columns-keys.ensures in
    let pairs = (λ j. zip ((c.as_slice.ensures.items ∙ columns.0) j) (columns.1 j)) ∙ zip-parts c.args.self in
    let all = subst (λ es. CallsGiveAll (CalledAtPair g.F.FnMut) c.args.f es c.in_ok-mapped.mapped.items) pairs c.in_ok-mapped.ensures.called in
    values_are (CalledAtPair g.F.FnMut) _ _ _ _ all (ap length columns.0 ∙ length-keys_of c.args.self) _ c.from_columns.ensures
