use Rattle.std.proofs.Common.{length, ap, refl, sym, subst, ◌∙◌, arith}
use Rattle.std.proofs.lemmas.Map.Entries.{length-keys_of}
use Rattle.std.specs.Fn.{Called}
use Rattle.std.specs.Slice.Iter.{iter_rest}
use Rattle.commonware_base.specs.laws.CallLaws.{so_far_more, so_far_none, takes_next}
use Rattle.commonware_map.specs.ValueMaps.{CalledAtPair, Succeeds, TakesPair}
use Rattle.commonware_map.proofs.Calls.{as_many, first_error, keys_are, values_are}
use Rattle.commonware_map.proofs.Walked.{all_called, counted_still, walk_starts, walked_one}
use Rattle.commonware_map.proofs.map.Map.try_map_values_into.Goals as goal

pub loop-key-init : goal.loop-key-init
loop-key-init g c =
    let columns = c.into_columns-keys.ensures in
    let zipped = c.zip-key-items.ensures in
    let start = walk_starts c.args.self _ _ c.into_iter-key-iterator.ensures.into_iter_gives (ap iter_rest zipped.first ∙ c.iter.ensures.rest ∙ columns.0) (zipped.second.0 ∙ columns.1)
    (zipped.second.1 ∙ c.into_columns-keys.result.1.ok.0 ∙ sym (ap length zipped.second.0)) in
    record {
      room = omega (arith, ap length start.0, c.len.ensures.len, c.in_ok-collected.ensures.len, c.in_ok-collected.ensures.exact);
      calls = so_far_none (Succeeds (CalledAtPair g.F.FnMut)) _ _ _ _ c.in_ok-collected.ensures.items start.0;
      counted = start.1;
    }

pub loop-key-preserved : goal.loop-key-preserved
loop-key-preserved g c =
    let step = (walked_one c.loop-key.key-iterator c.next.new.self (c.in-Some.key, c.in-Some.value) c.in-Some.ensures.steps) in
    record {
      room = omega (arith, c.loop-key.invariant.room, ap length step, c.push_reserved.ensures.len, c.push_reserved.ensures.capacity);
      calls = so_far_more (Succeeds (CalledAtPair g.F.FnMut)) _ _ _ _ _ _ _ _ _ _ c.loop-key.invariant.calls step c.push_reserved.ensures.items
          (record { key = c.in-Some.key; key_is = refl; called = subst (λ r. Called g.F.FnMut c.loop-key.f (c.in-Some.key, (c.in-Some.value, tt)) r c.f.new.self) c.in-Ok.is c.f.ensures });
      counted = counted_still c.loop-key.key-iterator c.next.new.self (c.in-Some.key, c.in-Some.value) c.in-Some.ensures.steps c.loop-key.invariant.counted;
    }

pub f-requires : goal.f-requires
f-requires g c =
    takes_next (Succeeds (CalledAtPair g.F.FnMut)) (TakesPair g.F.FnMut) _ _ _ _ _ _ _ c.requires c.loop-key.invariant.calls
    (walked_one c.loop-key.key-iterator c.next.new.self (c.in-Some.key, c.in-Some.value) c.in-Some.ensures.steps) c.in-Some.key refl

pub from_columns-requires : goal.from_columns-requires
from_columns-requires g c =
    let all = all_called (Succeeds (CalledAtPair g.F.FnMut)) _ _ _ _ c.loop-key.key-iterator c.next.new.self c.loop-key.invariant.calls c.in-None.ensures.steps c.loop-key.invariant.counted in
    as_many (Succeeds (CalledAtPair g.F.FnMut)) _ _ _ _ all (ap length c.into_columns-keys.ensures.0 ∙ length-keys_of c.args.self)

pub returns-clause-keys : goal.returns-clause-keys
returns-clause-keys g c =
    let all = all_called (Succeeds (CalledAtPair g.F.FnMut)) _ _ _ _ c.loop-key.key-iterator c.next.new.self c.loop-key.invariant.calls c.in-None.ensures.steps c.loop-key.invariant.counted in
    keys_are (Succeeds (CalledAtPair g.F.FnMut)) _ _ _ _ all (ap length c.into_columns-keys.ensures.0 ∙ length-keys_of c.args.self) _ c.from_columns.ensures ∙ c.into_columns-keys.ensures.0

pub returns-clause-values : goal.returns-clause-values
returns-clause-values g c =
    let all = all_called (Succeeds (CalledAtPair g.F.FnMut)) _ _ _ _ c.loop-key.key-iterator c.next.new.self c.loop-key.invariant.calls c.in-None.ensures.steps c.loop-key.invariant.counted in
    values_are (Succeeds (CalledAtPair g.F.FnMut)) _ _ _ _ all (ap length c.into_columns-keys.ensures.0 ∙ length-keys_of c.args.self) _ c.from_columns.ensures

pub returns-in-Err-clause-error : goal.returns-in-Err-clause-error
returns-in-Err-clause-error g c =
    first_error (CalledAtPair g.F.FnMut) _ _ _ _ _ _ _ _ _ c.loop-key.invariant.calls
    (walked_one c.loop-key.key-iterator c.next.new.self (c.in-Some.key, c.in-Some.value) c.in-Some.ensures.steps)
    (record { key = c.in-Some.key; key_is = refl; called = subst (λ r. Called g.F.FnMut c.loop-key.f (c.in-Some.key, (c.in-Some.value, tt)) r c.f.new.self) c.in-Err.is c.f.ensures })
