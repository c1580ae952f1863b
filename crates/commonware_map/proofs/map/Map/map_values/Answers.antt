use Rattle.std.proofs.Common.{length, ap, refl, sym, subst, ◌∙◌, ◌≡◌, ◌∷◌, arith}
use Rattle.std.specs.List.{AllZip}
use Rattle.std.specs.Map.{keys_of, values_of}
use Rattle.std.proofs.lemmas.Bool.{eqb-true}
use Rattle.std.proofs.lemmas.List.{nil_from_length}
use Rattle.commonware_base.specs.laws.CallLaws.{so_far_all, so_far_more, so_far_none}
use Rattle.commonware_map.specs.ValueMaps.{CalledAtRefs}
use Rattle.commonware_map.proofs.Calls.{as_many, called_none, keys_are, length_clones, ready, values_are}
use Rattle.commonware_map.proofs.map.Map.map_values.Goals as goal

pub loop-key-init : goal.loop-key-init
loop-key-init g c =
    let whole = c.into_iter-key-iterator.ensures.into_iter_gives ∙ c.iter_pairs-key-items.ensures.pairs in
    let calls = so_far_none (CalledAtRefs g.F.FnMut) _ _ _ _ c.in_ok-answers.ensures.items whole in
    record {
      room = omega (arith, ap length whole, c.len.ensures.len, c.in_ok-answers.ensures.len, c.in_ok-answers.ensures.exact);
      calls = calls;
      ready = ready g.F.FnMut (CalledAtRefs g.F.FnMut) _ _ _ _ _ c.requires calls;
    }

pub loop-key-preserved : goal.loop-key-preserved
loop-key-preserved g c =
    let step : c.loop-key.key-iterator ≡ (c.in-Some.key.now, c.in-Some.value.now) ∷ c.next.new.self = c.in-Some.ensures.steps in
    let calls = so_far_more (CalledAtRefs g.F.FnMut) _ _ _ _ _ _ _ _ _ _ c.loop-key.invariant.calls step c.push_reserved.ensures.items
    (record { key = c.in-Some.key; value = c.in-Some.value; key_is = refl; value_is = refl; called = c.f.ensures }) in
    record {
      room = omega (arith, c.loop-key.invariant.room, ap length step, c.push_reserved.ensures.len, c.push_reserved.ensures.capacity);
      calls = calls;
      ready = ready g.F.FnMut (CalledAtRefs g.F.FnMut) _ _ _ _ _ c.requires calls;
    }

pub from_columns-requires : goal.from_columns-requires
from_columns-requires g c =
    let C = g.K.Clone.is_clone in
    let clones = subst (λ ks. AllZip C ks c.in_ok-keys.keys) c.keys.ensures c.in_ok-keys.ensures.cases in
    as_many (CalledAtRefs g.F.FnMut) _ _ _ _ (so_far_all (CalledAtRefs g.F.FnMut) _ _ _ _ _ c.loop-key.invariant.calls c.in-None.ensures.steps.0) (length_clones C _ _ clones)

pub returns-clause-keys : goal.returns-clause-keys
returns-clause-keys g c =
    let C = g.K.Clone.is_clone in
    let clones : AllZip C (keys_of c.args.self.now) c.in_ok-keys.keys = subst (λ ks. AllZip C ks c.in_ok-keys.keys) c.keys.ensures c.in_ok-keys.ensures.cases in
    subst (AllZip C (keys_of c.args.self.now)) (sym (keys_are (CalledAtRefs g.F.FnMut) _ _ _ _ (so_far_all (CalledAtRefs g.F.FnMut) _ _ _ _ _ c.loop-key.invariant.calls c.in-None.ensures.steps.0) (length_clones C _ _ clones) _ c.from_columns.ensures)) clones

pub returns-clause-values : goal.returns-clause-values
returns-clause-values g c =
    let C = g.K.Clone.is_clone in
    let clones : AllZip C (keys_of c.args.self.now) c.in_ok-keys.keys = subst (λ ks. AllZip C ks c.in_ok-keys.keys) c.keys.ensures c.in_ok-keys.ensures.cases in
    values_are (CalledAtRefs g.F.FnMut) _ _ _ _ (so_far_all (CalledAtRefs g.F.FnMut) _ _ _ _ _ c.loop-key.invariant.calls c.in-None.ensures.steps.0) (length_clones C _ _ clones) _ c.from_columns.ensures

pub returns-then-is_empty-clause-values : goal.returns-then-is_empty-clause-values
returns-then-is_empty-clause-values g c =
    let empty = nil_from_length c.args.self.now (eqb-true _ _ (sym c.is_empty.ensures ∙ c.if-is_empty.true)) in
    called_none (CalledAtRefs g.F.FnMut) c.args.f c.args.self.now _ empty (ap values_of c.empty.ensures)
