use Rattle.std.proofs.Common.{length, ap, refl, sym, ◌∙◌, arith}
use Rattle.std.specs.List.{zip}
use Rattle.std.specs.Slice.Iter.{iter_rest}
use Rattle.std.proofs.lemmas.Map.Entries.{length-keys_of}
use Rattle.std.proofs.lemmas.Map.Made.{keys_of-zip}
use Rattle.commonware_base.specs.laws.CallLaws.{so_far_more, so_far_none, takes_next}
use Rattle.commonware_map.specs.ValueCalls.{CalledAtPair, TakesPair}
use Rattle.commonware_map.proofs.Walked.{all_called, columns_left, counted_still, walked_one}
use Rattle.commonware_map.proofs.values.called_values.Goals as goal

pub loop-key-init : goal.loop-key-init
loop-key-init g c =
    let zipped = c.zip-key-items.ensures in
    let ks = c.args.keys.now in
    let vs = c.args.values.items in
    let start = columns_left ks vs _ _ c.into_iter-key-iterator.ensures.into_iter_gives (ap iter_rest zipped.first ∙ c.iter.ensures.rest) zipped.second.0
    (zipped.second.1 ∙ c.args.values.ok.0 ∙ sym (ap length zipped.second.0)) in
    record {
      room = omega (arith, ap length start.0, length-keys_of (zip ks vs), ap length (keys_of-zip ks vs c.requires.even), c.requires.even, c.args.values.ok.0, c.len.ensures, c.in_ok-called.ensures.len, c.in_ok-called.ensures.exact);
      calls = so_far_none (CalledAtPair g.F.FnMut) _ _ _ _ c.in_ok-called.ensures.items start.0;
      counted = start.1;
    }

pub loop-key-preserved : goal.loop-key-preserved
loop-key-preserved g c =
    let step = (walked_one c.loop-key.key-iterator c.next.new.self (c.in-Some.key, c.in-Some.value) c.in-Some.ensures.steps) in
    record {
      room = omega (arith, c.loop-key.invariant.room, ap length step, c.push_reserved.ensures.len, c.push_reserved.ensures.capacity);
      calls = so_far_more (CalledAtPair g.F.FnMut) _ _ _ _ _ _ _ _ _ _ c.loop-key.invariant.calls step c.push_reserved.ensures.items
          (record { key = c.in-Some.key; key_is = refl; called = c.f.ensures });
      counted = counted_still c.loop-key.key-iterator c.next.new.self (c.in-Some.key, c.in-Some.value) c.in-Some.ensures.steps c.loop-key.invariant.counted;
    }

pub f-requires : goal.f-requires
f-requires g c =
    takes_next (CalledAtPair g.F.FnMut) (TakesPair g.F.FnMut) _ _ _ _ _ _ _ c.requires.callable c.loop-key.invariant.calls
    (walked_one c.loop-key.key-iterator c.next.new.self (c.in-Some.key, c.in-Some.value) c.in-Some.ensures.steps) c.in-Some.key refl

pub returns-clause-called : goal.returns-clause-called
returns-clause-called g c =
    all_called (CalledAtPair g.F.FnMut) _ _ _ _ c.loop-key.key-iterator c.next.new.self c.loop-key.invariant.calls c.in-None.ensures.steps c.loop-key.invariant.counted
