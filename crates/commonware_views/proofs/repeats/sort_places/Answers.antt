use Rattle.std.proofs.Common.{rules, ◌≡◌, ◌∙◌, [], length, get_or, arith, sym, subst, is_lt}
use Rattle.std.specs.Cmp.{on_total, then_total}
use Rattle.std.specs.List.{range_with_len}
use Rattle.std.specs.List.Sorted.{IsPermutation}
use Rattle.std.proofs.lemmas.Cmp.{nat_cmp_total, nat_list_cmp_total}
use Rattle.std.proofs.lemmas.Fn.{always_returns_same}
use Rattle.std.proofs.lemmas.List.{ext_get_or}
use Rattle.std.proofs.lemmas.List.FromFn.{get_or-range_with_len, length-range_with_len}
use Rattle.std.proofs.lemmas.List.Sorted.{ranks_by}
use Rattle.commonware_views.specs.Repeats.{place_cmp}
use Rattle.commonware_views.proofs.repeats.sort_places.Goals as goal

pub returns : goal.returns
returns c =
    let items = c.args.items.now in
    let n = length items in
    let places = c.loop-i.places in
    let number : length places ≡ n = c.loop-i.invariant.1 ∙ c.requires.count in
    let positions : places ≡ range_with_len 0 n = ext_get_or 0 places (range_with_len 0 n) (number ∙ sym (length-range_with_len 0 n))
    (λ k h. omega (
      arith,
      c.loop-i.invariant.2 k 0 (omega (arith, h, c.loop-i-test.false)),
      get_or-range_with_len 0 n k 0 (omega (arith, h, number)),
    )) in
    record {
      each = subst (λ l. IsPermutation l c.sort_unstable_by.new.self) positions c.sort_unstable_by.ensures.permutation;
      sorted = c.sort_unstable_by.ensures.sorted (λ x y. is_lt (place_cmp c.args.items.now x y))
          (ranks_by (then_total (on_total (λ p. get_or items p []) nat_list_cmp_total) nat_cmp_total) (λ p. p))
          (always_returns_same _ (λ a r. is_lt r ≡ is_lt (place_cmp c.args.items.now a.0.now a.1.0.now)) _ (λ a r f k. search rules));
    }
