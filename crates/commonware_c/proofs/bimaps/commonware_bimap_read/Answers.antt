use Rattle.std.proofs.Common.{rules, ◌≡◌, ◌∙◌, ◌≤◌, length, subst, refl, sym, ap, arith}
use Rattle.std.specs.Map.{keys_of, values_of}
use Rattle.std.proofs.lemmas.Map.Entries.{length-values_of}
use Rattle.commonware_views.specs.Lists.{StandBy}
use Rattle.commonware_views.specs.Repeats.{AreDistinct, IsFirstRepeat}
use Rattle.commonware_c.specs.Committees.{between}
use Rattle.commonware_c.proofs.OneMap.{not_distinct, not_short, one_number}
use Rattle.commonware_c.proofs.bimaps.commonware_bimap_read.Goals as goal

pub returns-in-Ok-None-clause-accepted : goal.returns-in-Ok-None-clause-accepted
returns-in-Ok-None-clause-accepted c =
    let at = c.in-Ok.ensures.found in
    let distinct = subst AreDistinct c.values.ensures (rw c.in-Ok-None.field-0-is at c.in-Ok-None.ensures.found) in
    let view = c.view_of.ensures in
    λ _. (
      c.in-Ok.found.pairs,
      at.rest,
      record { map = at.is; distinct = distinct },
      ap (λ v. v.count) view,
      ap (λ v. v.left) view ∙ at.left_is,
      subst (λ n. StandBy c.args.key_size c.args.input.now n (keys_of c.in-Ok.found.pairs)) (sym (ap (λ v. v.keys) view)) at.keys_stand,
      subst (λ n. StandBy c.args.value_size c.args.input.now n (values_of c.in-Ok.found.pairs)) (sym (ap (λ v. v.values) view)) at.values_stand,
    )

pub returns-in-Ok-None-clause-short : goal.returns-in-Ok-None-clause-short
returns-in-Ok-None-clause-short c =
    let at = c.in-Ok.ensures.found in
    let pairs = c.in-Ok.found.pairs in
    let room = length c.args.room.now in
    let status : c.view_of.result.status ≡ 0 = ap (λ v. v.status) c.view_of.ensures in
    let enough : length pairs ≤ room =
    omega (arith, (c.in-Ok-None.ensures.exactly.0 refl).0, ap length c.values.ensures, length-values_of pairs) in (
      (λ e. absurd (omega (arith, e, status))),
      (λ w. absurd (not_short c.args.key_size c.args.value_size (between c.args.least c.args.most) c.args.input.now
          pairs at.rest at.is room enough w)),
    )

pub returns-in-Ok-None-clause-exactly : goal.returns-in-Ok-None-clause-exactly
returns-in-Ok-None-clause-exactly c =
    let at = c.in-Ok.ensures.found in
    let pairs = c.in-Ok.found.pairs in
    let enough : length pairs ≤ length c.args.room.now =
    omega (arith, (c.in-Ok-None.ensures.exactly.0 refl).0, ap length c.values.ensures, length-values_of pairs) in
    let distinct = subst AreDistinct c.values.ensures (rw c.in-Ok-None.field-0-is at c.in-Ok-None.ensures.found) in (
      (λ _. (pairs, at.rest, record { map = at.is; distinct = distinct }, enough)),
      (λ _. ap (λ v. v.status) c.view_of.ensures),
    )

pub returns-in-Ok-Some-clause-short : goal.returns-in-Ok-Some-clause-short
returns-in-Ok-Some-clause-short c =
    let at = c.in-Ok.ensures.found in
    let pairs = c.in-Ok.found.pairs in
    let room = length c.args.room.now in
    let status : c.repeated.result.status ≡ 18 = ap (λ v. v.status) c.repeated.ensures in
    let enough : length pairs ≤ room =
    omega (arith, (c.in-Ok-Some.ensures.exactly.0 refl).0, ap length c.values.ensures, length-values_of pairs) in (
      (λ e. absurd (omega (arith, e, status))),
      (λ w. absurd (not_short c.args.key_size c.args.value_size (between c.args.least c.args.most) c.args.input.now
          pairs at.rest at.is room enough w)),
    )

pub returns-in-Ok-Some-clause-exactly : goal.returns-in-Ok-Some-clause-exactly
returns-in-Ok-Some-clause-exactly c =
    let at = c.in-Ok.ensures.found in
    let pairs = c.in-Ok.found.pairs in
    let first = c.in-Ok-Some.first in
    let second = c.in-Ok-Some.second in
    let status : c.repeated.result.status ≡ 18 = ap (λ v. v.status) c.repeated.ensures in
    let repeat : IsFirstRepeat (values_of pairs) first second = search rules in (
      (λ e. absurd (omega (arith, e, status))),
      (λ w. absurd (not_distinct c.args.key_size c.args.value_size (between c.args.least c.args.most) c.args.input.now
          pairs at.rest at.is (length c.args.room.now) first second repeat w.0 w.1 w.2)),
    )

pub returns-in-Err-first_repeat-clause-exactly : goal.returns-in-Err-first_repeat-clause-exactly
returns-in-Err-first_repeat-clause-exactly c =
    let at = c.in-Ok.ensures.found in
    let pairs = c.in-Ok.found.pairs in
    let status : c.refused.result.status ≡ 11 = ap (λ v. v.status) c.refused.ensures in (
      (λ e. absurd (omega (arith, e, status))),
      (λ w.
          let same = one_number c.args.key_size c.args.value_size (between c.args.least c.args.most) c.args.input.now
          pairs w.0 at.rest w.1 at.is w.2.map in
          let few = at.is.writable.1.short in
          let count : length c.values.result.now ≡ length pairs = ap length c.values.ensures ∙ length-values_of pairs in
          let fine = c.in-Err-first_repeat.ensures.exactly.1
          (omega (arith, count, same, w.3), omega (arith, count, few, length-values_of pairs)) in
          absurd (cc)),
    )
