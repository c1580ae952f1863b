use Rattle.std.proofs.Common.{◌≡◌, ◌∙◌, ◌+◌, ◌-◌, ◌≤◌, ◌++◌, ◌∷◌, ℕ, List, [], length, take, drop, arith, ap, sym, length-append}
use Rattle.std.specs.Prelude.{Some, slice_get}
use Rattle.std.specs.List.{flat_map}
use Rattle.std.proofs.lemmas.List.{flat_map_more, take-append-drop, take_all, take_more}
use Rattle.std.proofs.lemmas.List.Concat.{flat_map-append}
use Rattle.std.proofs.lemmas.Option.{get_or_from_slice_get, slice_get_within}
use Rattle.commonware_c.specs.Splices.{spliced}
use Rattle.commonware_c.proofs.Spliced.{length_on, spliced_on}
use Rattle.commonware_c.proofs.rooms.put_parts.Goals as goal

-- the part of a row
abbrev part : ℕ → ℕ → List ℕ → List ℕ
part first size row = take size (drop first row)

-- the part as it is cut out
cut : (first size : ℕ) (row : List ℕ) → take (first + size - first) (drop first row) ≡ part first size row
cut first size row = ap (λ n. take n (drop first row)) (omega arith)

-- one row more
more_parts : (first size : ℕ) (rows : List (List ℕ)) (i : ℕ) (row : List ℕ) → slice_get rows i ≡ Some row
    → flat_map (part first size) (take i rows) ++ part first size row ≡ flat_map (part first size) (take (i + 1) rows)
more_parts first size rows i row here =
    flat_map_more (part first size) [] (take i rows) row
    ∙ ap (flat_map (part first size)) (sym (take_more rows i row (slice_get_within rows i row here) ∙ ap (λ r. take i rows ++ r ∷ []) (get_or_from_slice_get rows i row row here)))

-- which are no more bytes than all have
no_more : (first size : ℕ) (rows : List (List ℕ)) (n : ℕ) → length (flat_map (part first size) (take n rows)) ≤ length (flat_map (part first size) rows)
no_more first size rows n =
    omega (
      arith,
      ap (λ rs. length (flat_map (part first size) rs)) (sym (take-append-drop n rows)),
      ap length (flat_map-append (part first size) (take n rows) (drop n rows)),
      length-append (flat_map (part first size) (take n rows)) (flat_map (part first size) (drop n rows)),
    )

pub put_bytes-next-requires : goal.put_bytes-next-requires
put_bytes-next-requires c =
    let rows = c.args.rows.now in
    let first = c.args.first in
    let size = c.args.size in
    let i = c.loop-index.index in
    let row = c.in-Some.row.now in
    let done = flat_map (part first size) (take i rows) in
    let fits : c.args.at + length done ≤ length c.args.out.now = omega (arith, c.requires.room, no_more first size rows i) in
    omega (
      arith,
      c.requires.room,
      c.loop-index.invariant.1,
      no_more first size rows (i + 1),
      ap length (cut first size row),
      ap length (more_parts first size rows i row (sym c.in-Some.ensures)),
      length-append done (part first size row),
      length_on c.args.at done c.loop-index.out c.args.out.now fits c.loop-index.invariant.2,
    )

pub loop-index-preserved : goal.loop-index-preserved
loop-index-preserved c =
    let rows = c.args.rows.now in
    let first = c.args.first in
    let size = c.args.size in
    let i = c.loop-index.index in
    let row = c.in-Some.row.now in
    let done = flat_map (part first size) (take i rows) in
    let more = more_parts first size rows i row (sym c.in-Some.ensures) in
    let fits : c.args.at + length done ≤ length c.args.out.now = omega (arith, c.requires.room, no_more first size rows i) in (
      omega (arith, slice_get_within rows i row (sym c.in-Some.ensures)),
      omega (arith, c.put_bytes-next.ensures.place, ap length (cut first size row), c.loop-index.invariant.1, length-append done (part first size row), ap length more),
      c.put_bytes-next.ensures.bytes ∙ ap (λ t. spliced c.loop-index.next t c.loop-index.out) (cut first size row)
          ∙ spliced_on c.args.at c.loop-index.next done (part first size row) c.loop-index.out c.args.out.now fits c.loop-index.invariant.1 c.loop-index.invariant.2
          ∙ ap (λ t. spliced c.args.at t c.args.out.now) more,
    )

pub returns : goal.returns
returns c =
    let rows = c.args.rows.now in
    c.loop-index.invariant.2 ∙ ap (λ rs. spliced c.args.at (flat_map (part c.args.first c.args.size) rs) c.args.out.now) (take_all c.loop-index.index rows (omega (arith, c.loop-index-test.false, c.len-count.ensures)))
