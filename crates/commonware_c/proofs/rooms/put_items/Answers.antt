use Rattle.std.proofs.Common.{◌≡◌, ◌∙◌, ◌+◌, ◌<◌, ◌≤◌, ◌++◌, Bor, ℕ, List, [], length, take, drop, get_or, arith, ap, sym, length-append}
use Rattle.std.specs.List.{flat_map}
use Rattle.std.proofs.lemmas.List.{flat_map_more, take-append-drop, take_more}
use Rattle.std.proofs.lemmas.List.Concat.{flat_map-append}
use Rattle.commonware_c.specs.Splices.{spliced}
use Rattle.commonware_c.proofs.Spliced.{length_on, spliced_on}
use Rattle.commonware_c.proofs.rooms.put_items.Goals as goal

-- the bytes of an item
abbrev item_bytes : Bor (List ℕ) → List ℕ
item_bytes item = item.now

-- what is read past the end, which no item is
abbrev nothing : Bor (List ℕ)
nothing = record { ref_ptr = (0, 0); now = [] }

-- one item more
more_items : (xs : List (Bor (List ℕ))) (i : ℕ) → i < length xs
    → flat_map item_bytes (take i xs) ++ (get_or xs i nothing).now ≡ flat_map item_bytes (take (i + 1) xs)
more_items xs i h = flat_map_more item_bytes [] (take i xs) (get_or xs i nothing) ∙ ap (flat_map item_bytes) (sym (take_more xs i nothing h))

-- which are no more bytes than all have
no_more : (xs : List (Bor (List ℕ))) (n : ℕ) → length (flat_map item_bytes (take n xs)) ≤ length (flat_map item_bytes xs)
no_more xs n =
    omega (
      arith,
      ap (λ ys. length (flat_map item_bytes ys)) (sym (take-append-drop n xs)),
      ap length (flat_map-append item_bytes (take n xs) (drop n xs)),
      length-append (flat_map item_bytes (take n xs)) (flat_map item_bytes (drop n xs)),
    )

pub put_bytes-next-requires : goal.put_bytes-next-requires
put_bytes-next-requires c =
    let xs = c.args.items.now in
    let i = c.loop-i.i in
    let first = flat_map item_bytes (take i xs) in
    let item = (get_or xs i nothing).now in
    let fits : c.args.at + length first ≤ length c.args.out.now = omega (arith, c.requires, no_more xs i) in
    omega (
      arith,
      c.requires,
      c.loop-i.invariant.1,
      no_more xs (i + 1),
      ap length (more_items xs i c.loop-i-test.true),
      length-append first item,
      length_on c.args.at first c.loop-i.out c.args.out.now fits c.loop-i.invariant.2,
    )

pub loop-i-preserved : goal.loop-i-preserved
loop-i-preserved c =
    let xs = c.args.items.now in
    let i = c.loop-i.i in
    let first = flat_map item_bytes (take i xs) in
    let item = (get_or xs i nothing).now in
    let more = more_items xs i c.loop-i-test.true in
    let fits : c.args.at + length first ≤ length c.args.out.now = omega (arith, c.requires, no_more xs i) in (
      omega (arith, c.loop-i-test.true),
      omega (arith, c.put_bytes-next.ensures.place, c.loop-i.invariant.1, length-append first item, ap length more),
      c.put_bytes-next.ensures.bytes ∙ spliced_on c.args.at c.loop-i.next first item c.loop-i.out c.args.out.now fits c.loop-i.invariant.1 c.loop-i.invariant.2
          ∙ ap (λ t. spliced c.args.at t c.args.out.now) more,
    )
