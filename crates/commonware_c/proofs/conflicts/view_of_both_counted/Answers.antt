use Rattle.std.proofs.Common.{◌∙◌, ◌≤◌, inl, inr, length, refl, ap, arith}
use Rattle.std.proofs.lemmas.Bool.{cases_lt}
use Rattle.commonware_c.proofs.SignedBoth.{fewer_than_first, fewer_than_second}
use Rattle.commonware_c.proofs.WrittenIndices.{all_written}
use Rattle.commonware_c.proofs.conflicts.view_of_both_counted.Goals as goal

pub returns-in-Some-clause-both : goal.returns-in-Some-clause-both
returns-in-Some-clause-both g c = λ one two first second.
    let (both, in_both, count, less) = c.in-Some.ensures.some one two first second in
    let view = c.view.ensures in
    record {
      both = both;
      in_both = in_both;
      count_is = ap (λ v. v.count) view ∙ count;
      which_is = ap (λ v. v.which) view;
      number_is = ap (λ v. v.number) view;
      room = inr (ap (λ v. v.status) view, omega (arith, less, ap (λ v. v.count) view), refl);
    }

pub returns-clause-both : goal.returns-clause-both
returns-clause-both g c = λ one two first second.
    let w = c.write_both_counted-count.ensures.both one two first second in
    let fits = c.in_default.ensures.none one two w.both first second w.in_both in
    let view = c.view-2.ensures in
    let count = ap (λ v. v.count) view ∙ w.count_is in
    record {
      both = w.both;
      in_both = w.in_both;
      count_is = count;
      which_is = ap (λ v. v.which) view;
      number_is = ap (λ v. v.number) view;
      room = inl (
        ap (λ v. v.status) view,
        omega (arith, fits, count),
        w.room ∙ all_written w.both c.args.out.now c.view-2.result.count count (omega (arith, fits, count)),
      );
    }

pub returns-in-Some-clause-least : goal.returns-in-Some-clause-least
returns-in-Some-clause-least g c = λ one two first second.
    let (both, in_both, count, less) = c.in-Some.ensures.some one two first second in
    c.in-Some.ensures.least one two first second
    (omega (arith, less, count, fewer_than_first one two both in_both))
    (omega (arith, less, count, fewer_than_second one two both in_both))

pub returns-clause-least : goal.returns-clause-least
returns-clause-least g c = λ one two first second counts.
    let counted = g.C.Counter.counted in
    let room = length c.args.out.now in
    let grown : counted c.args.counter.now ≤ counted c.lacking.new.counter =
    elim (cases_lt room (length one)) [
      | inr fits ↦ omega (arith, c.in_default.ensures.free one two first second (inl fits))
      | inl less ↦ elim (cases_lt room (length two)) [
        | inr fits ↦ omega (arith, c.in_default.ensures.free one two first second (inr fits))
        | inl less' ↦ elim (c.in_default.ensures.least one two first second less less' counts) [
          | inl walked ↦ omega (arith, walked)
          | inr walked ↦ omega (arith, walked)
        ]
      ]
    ] in
    elim (c.write_both_counted-count.ensures.least one two first second counts) [
      | inl walked ↦ inl (omega (arith, walked, grown))
      | inr walked ↦ inr (omega (arith, walked, grown))
    ]
